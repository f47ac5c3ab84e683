-- The lines of a log's records, as `wal` prints them. Each begins with the record's place and ends with a newline.
--
--     record        line
--     put           S:O put C K V        the cache in decimal, key and value as replies print them
--     remove        S:O remove C K
--     snapshot      S:O snapshot P       the page's name, in 16 hexadecimal digits
--     delta         S:O delta P N        N ranges
--     CP_BEGIN      S:O begin N          the checkpoint's number
--     RESTART       S:O restart
--     SEAL          S:O seal
--
-- After the last one comes `end S:O`, with the place at which the log ends.
use Rattle.std.specs.Prelude.{ℕ, List, [], ◌∷◌, ◌++◌, codes, decimal, if◌then◌else◌, ◌==◌, Option, Some, None}
use Rattle.std.specs.Int.{w64, to_be_bytes}
use Rattle.hex.specs.Hex.{encode_lower}
use Rattle.pm_types.specs.declared.page_id.PageId.{PageId}
use Rattle.pm_types.specs.declared.place.Place.{Place}
use Rattle.pm_types.specs.DeltaRanges.{number_of}
use Rattle.pm_frame.specs.Frames.{Frame}
use Rattle.pm_records.specs.declared.limits.TheConstants.{PUT}
use Rattle.pm_records.specs.Logs.{record_in, next_place}
use Rattle.pm_records.specs.Records.{Record, Logical, Snapshot, Delta, CpBegin, Restart, Seal}
use Rattle.pm_script.specs.Texts.{field_text}

-- the text of a place
abbrev pub place_text : Place → List ℕ
place_text at = decimal at.seg ++ codes ":" ++ decimal at.off

-- the text of a page's name
abbrev pub page_text : PageId → List ℕ
page_text page = encode_lower (to_be_bytes w64 page.0)

-- the text of a cache and a key
abbrev pub key_text : ℕ → List ℕ → List ℕ
key_text cache key = decimal cache ++ codes " " ++ field_text key

-- the text of a change of the map
abbrev pub change_text : ℕ → ℕ → List ℕ → List ℕ → List ℕ
change_text op cache key value =
    if op == PUT then codes "put " ++ key_text cache key ++ codes " " ++ field_text value
    else codes "remove " ++ key_text cache key

-- the text of a change of a page in so many ranges
abbrev pub delta_text : PageId → ℕ → List ℕ
delta_text page ranges = codes "delta " ++ page_text page ++ codes " " ++ decimal ranges

-- what a record's line says after its place
abbrev pub record_text : Record → List ℕ
record_text (Logical op cache key value) = change_text op cache key value
record_text (Snapshot page bytes) = codes "snapshot " ++ page_text page
record_text (Delta page ranges) = delta_text page (number_of ranges)
record_text (CpBegin number replay) = codes "begin " ++ decimal number
record_text (Restart shape) = codes "restart"
record_text Seal = codes "seal"

-- the line of a record at this place, by what it says
abbrev pub line_of : Place → List ℕ → List ℕ
line_of at text = place_text at ++ codes " " ++ text ++ codes "\n"

-- the line of a frame at this place; none where its payload is in no grammar
abbrev pub line_in : Place → Option Record → List ℕ
line_in at None = []
line_in at (Some found) = line_of at (record_text found)

-- the lines of frames that stand one after the other from this place on
abbrev pub lines_from : Place → List Frame → List ℕ
lines_from at [] = []
lines_from at (frame ∷ frames) = line_in at (record_in frame) ++ lines_from (next_place at frame) frames

-- the line after the last record
abbrev pub end_line : Place → List ℕ
end_line at = codes "end " ++ place_text at ++ codes "\n"
