-- What `wal` says of a store's log, and that it changes nothing.
use Rattle.std.specs.Prelude.{◌≡◌, ◌⊎◌, ◌≤◌, ◌<◌, ℕ, List, [], ◌∷◌, ◌++◌, length, take, Option, Some, None}
use Rattle.pm_types.specs.declared.place.Place.{Place}
use Rattle.pm_disk.specs.Files.{bytes_of}
use Rattle.pm_disk.specs.Worlds.{World, with_said, marks_in}
use Rattle.pm_disk.specs.declared.mark.MarkFile.TheVariants as marker
use Rattle.pm_frame.specs.Frames.{Frame}
use Rattle.pm_marks.specs.InForce.{checkpoint_in, replay_of}
use Rattle.pm_records.specs.LogFiles.{contents}
use Rattle.pm_records.specs.Logs.{all_frames, record_in, after_frames, HasFrames, IsLogFrom}
use Rattle.pm_records.specs.Records.{Record}
use Rattle.pm_segments.specs.Read.{HasScanned}
use Rattle.pm_segments.specs.Scans.{Scanned, frame_ahead, Advances}
use Rattle.pm_tools.specs.declared.listing.Next.{Next}
use Rattle.pm_tools.specs.declared.listing.Next.TheVariants as next
use Rattle.pm_tools.specs.Lines.{record_text, lines_from, end_line}

-- the place from which a store's log is listed: the replay place of the checkpoint in force, or the log's begin
abbrev pub list_place : World → Place
list_place world = replay_of (checkpoint_in (bytes_of (marks_in world marker.Start)) (bytes_of (marks_in world marker.End)))

-- a frame holds a record
abbrev pub HoldsRecord : Frame → Type 0
HoldsRecord frame = (found : Record) × (record_in frame ≡ Some found)

-- each of these frames does
abbrev pub AreRecords : List Frame → Type 0
AreRecords [] = Unit {0}
AreRecords (frame ∷ frames) = HoldsRecord frame × AreRecords frames

-- Each frame of the log from a place on holds a record: this is the text of their lines, and of the one at the end.
pub record ListsAll (log : ℕ → List ℕ) (from : Place) (text : List ℕ) : Type 0 where
  pub frames : List Frame
  pub is_log : IsLogFrom all_frames log from frames
  pub are_records : AreRecords frames
  pub text_is : text ≡ lines_from from frames ++ end_line (after_frames from frames)

-- The first frame of the log, from a place on, that holds no record stands at this place: this is the text of
-- the lines of those before it.
pub record ListsUpTo (log : ℕ → List ℕ) (from at : Place) (text : List ℕ) : Type 0 where
  pub before : List Frame
  pub frame : Frame
  pub run : HasFrames all_frames log from (before ++ frame ∷ [])
  pub are_records : AreRecords before
  pub bad : record_in frame ≡ None
  pub there : at ≡ after_frames from before
  pub text_is : text ≡ lines_from from before

-- the text of a log from a place on: up to its end, or up to the first frame that holds no record
abbrev pub IsLogText : (ℕ → List ℕ) → Place → List ℕ → Type 0
IsLogText log from text = ListsAll log from text ⊎ ((at : Place) × ListsUpTo log from at text)

-- nothing happened but that a prefix of the bytes of a text was said
pub record SaysPrefix (text : List ℕ) (old now : World) : Type 0 where
  pub count : ℕ
  pub within : count ≤ length text
  pub said : now ≡ with_said (take count text) old

-- nothing happened but that this was said
abbrev pub IsSaid : List ℕ → World → World → Type 0
IsSaid text old now = now ≡ with_said text old

-- nothing happened but that a prefix of the text of a log was said
pub record SaysOfLog (from : Place) (old now : World) : Type 0 where
  pub text : List ℕ
  pub is_text : IsLogText (contents old.log) from text
  pub prefix : SaysPrefix text old now

-- the log was listed up to its end, and nothing else happened
pub record IsListed (from : Place) (old now : World) : Type 0 where
  pub text : List ℕ
  pub lists : ListsAll (contents old.log) from text
  pub said : IsSaid text old now

-- the log was listed up to the first frame that holds no record, which is at this place, and nothing else happened
pub record IsListedUpTo (from at : Place) (old now : World) : Type 0 where
  pub text : List ℕ
  pub lists : ListsUpTo (contents old.log) from at text
  pub said : IsSaid text old now

-- ---- how it is done

-- a frame's record, and what its line says
abbrev pub ReadsRecord : Next → List ℕ → Option Record → Type 0
ReadsRecord next.Record text found = (one : Record) × (found ≡ Some one) × (text ≡ record_text one)
ReadsRecord next.Bad text found = found ≡ None
ReadsRecord next.End text found = ⊥

-- the frame that stands next was read
pub record ReadsFrame (found : Next) (text : List ℕ) (scan later : Scanned) (world : World) : Type 0 where
  pub frame : Frame
  pub stands : frame_ahead scan world ≡ Some frame
  pub advances : Advances scan later (Some frame)
  pub says : ReadsRecord found text (record_in frame)

-- the frame that stands next was read, or none stands there
abbrev pub ReadsNext : Next → List ℕ → Scanned → Scanned → World → Type 0
ReadsNext next.Record text scan later world = ReadsFrame next.Record text scan later world
ReadsNext next.Bad text scan later world = ReadsFrame next.Bad text scan later world
ReadsNext next.End text scan later world = (frame_ahead scan world ≡ None) × Advances scan later None

-- a scan gives the place from which it went on, and goes on after it where there is a record
abbrev pub GoesFurther : Next → Scanned → Scanned → Type 0
GoesFurther next.Record scan later = (later.place ≡ scan.next)
    × ((scan.next.seg < later.next.seg) ⊎ ((scan.next.seg ≡ later.next.seg) × (scan.next.off < later.next.off)))
GoesFurther next.Bad scan later = later.place ≡ scan.next
GoesFurther next.End scan later = later.place ≡ scan.next

-- These lines were added to what is to be said, of which a prefix was said.
pub record AddsLine (lines_old line lines_new : List ℕ) (old now : World) : Type 0 where
  pub said : List ℕ
  pub now_is : now ≡ with_said said old
  pub whole : said ++ lines_new ≡ lines_old ++ line

-- The frames so far hold records, and their lines were said but for the last ones, which are to be said.
pub record HasListed (from : Place) (old now : World) (scan : Scanned) (lines : List ℕ) : Type 0 where
  pub frames : List Frame
  pub scanned : HasScanned (contents old.log) from frames scan
  pub are_records : AreRecords frames
  pub said : List ℕ
  pub now_is : now ≡ with_said said old
  pub whole : said ++ lines ≡ lines_from from frames
