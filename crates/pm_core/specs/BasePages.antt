-- The base pages: what the partition files hold, with the pages that the log of an unended
-- checkpoint rebuilds laid over.
use Rattle.std.specs.Prelude.{◌≡◌, ℕ, ◌+◌, ◌*◌, ◌&&◌, ◌||◌, nat_le, nat_lt, ◌==◌, if◌then◌else◌, List}
use Rattle.std.specs.Prelude.{[], ◌∷◌, ◌++◌, fold, length, slice_range, Option, Some, None}
use Rattle.std.specs.Option.{option_map, option_and_then, option_or}
use Rattle.pm_types.specs.declared.page_id.PageId.{PageId}
use Rattle.pm_types.specs.declared.place.Place.{Place}
use Rattle.pm_types.specs.declared.shape.Mark.{Mark}
use Rattle.pm_types.specs.declared.shape.Shape.{Shape}
use Rattle.pm_types.specs.Ids.{part_of_id, index_of_id}
use Rattle.pm_types.specs.DeltaRanges.{number_of, ranges_of, applied}
use Rattle.pm_frame.specs.Frames.{Frame}
use Rattle.pm_records.specs.PageRecords.{are_ranges}
use Rattle.pm_records.specs.Records.{Record, Snapshot, Delta, CpBegin}
use Rattle.pm_disk.specs.Files.{bytes_of}
use Rattle.pm_records.specs.FirstRecords.{is_restart}
use Rattle.pm_records.specs.Logs.{all_frames, record_in, after_frames, HasFrames}
use Rattle.pm_pages.specs.Rows.{Partition, page_count}
use Rattle.pm_marks.specs.InForce.{Checkpoint, NoStart, Started, Ended}

-- the pages of each partition
abbrev pub Partitions : Type 0
Partitions = ℕ → Partition

-- no page is there
abbrev pub no_pages : Partitions
no_pages part index = None

-- a page's bytes put in place of what was there
abbrev pub with_page : Partitions → PageId → List ℕ → Partitions
with_page pages page bytes part index =
    if part == part_of_id page && index == index_of_id page then Some bytes else pages part index

-- the page of this size and index that a partition's file holds, none where the file ends before the page's end
abbrev pub page_in_file : ℕ → Option (List ℕ) → Partition
page_in_file page_size file index =
    let from : ℕ = index * page_size in
    if nat_le (from + page_size) (length (bytes_of file)) then Some
    (slice_range (bytes_of file) from (from + page_size)) else None

-- the frames' records, none where one is in no grammar
abbrev pub records_in : List Frame → Option (List Record)
records_in [] = Some []
records_in (frame ∷ frames) =
    option_and_then (λ first. option_map (λ rest. first ∷ rest) (records_in frames)) (record_in frame)

-- the records after the last RESTART
abbrev pub since_restart : List Record → List Record
since_restart records =
    fold (λ taken found. if is_restart (Some found) then [] else taken ++ found ∷ []) [] records

-- a snapshot's page, none where it hasn't the page size
abbrev pub whole : ℕ → List ℕ → Option (List ℕ)
whole page_size bytes = if length bytes == page_size then Some bytes else None

-- a page after a delta, none where a range ends past the page
abbrev pub patched : List ℕ → List ℕ → Option (List ℕ)
patched delta page = if are_ranges (number_of delta) 0 (length page) (ranges_of delta) then Some
    (applied delta page) else None

-- the pages with what a record makes of its page; a page outside the shape takes no part
abbrev pub with_found : Shape → PageId → Option (List ℕ) → Partitions → Option Partitions
with_found shape page found pages =
    if nat_lt (part_of_id page) shape.partitions then option_map (with_page pages page) found else Some pages

-- The pages after a record, none where it can't be: a snapshot of another size, or a delta that has
-- no snapshot before it or ends past its page.
abbrev pub rebuilt_by : Shape → Record → Partitions → Option Partitions
rebuilt_by shape (Snapshot page bytes) pages = with_found shape page (whole shape.page_size bytes) pages
rebuilt_by shape (Delta page delta) pages =
    with_found shape page (option_and_then (patched delta) (pages (part_of_id page) (index_of_id page))) pages
rebuilt_by shape found pages = Some pages

-- the pages that records rebuild, the first of them first, none where they can't
abbrev pub rebuilt_from : Shape → List Record → Option Partitions
rebuilt_from shape records =
    fold (λ pages found. option_and_then (rebuilt_by shape found) pages) (Some no_pages) records

-- the pages that frames rebuild, of these only those after the last RESTART; none where they can't,
-- or one is in no grammar
unfoldable pub rebuilt_of : Shape → List Frame → Option Partitions
rebuilt_of shape frames =
    option_and_then (λ records. rebuilt_from shape (since_restart records)) (records_in frames)

-- the frame holds the begin of this checkpoint
pub record IsBegin (number : ℕ) (frame : Frame) : Type 0 where
  pub replay : Place
  pub is : record_in frame ≡ Some (CpBegin number replay)

-- The log from the mark's from place leads up to its begin place, where its CP_BEGIN stands, and
-- rebuilds these pages.
pub record Rebuilds (mark : Mark) (log : ℕ → List ℕ) (pages : Partitions) : Type 0 where
  pub frames : List Frame
  pub run : HasFrames all_frames log mark.from frames
  pub reaches : after_frames mark.from frames ≡ mark.begin
  pub begin : Frame
  pub stands : all_frames.frame_at mark.begin.seg mark.begin.off (log mark.begin.seg) ≡ Some begin
  pub begins : IsBegin mark.number begin
  pub rebuilt : rebuilt_of mark.shape frames ≡ Some pages

-- the pages that the log rebuilds: only a checkpoint without its end marker has some
abbrev pub RebuiltAre : Checkpoint → (ℕ → List ℕ) → Partitions → Type 0
RebuiltAre NoStart log pages = pages ≡ no_pages
RebuiltAre (Started mark) log pages = Rebuilds mark log pages
RebuiltAre (Ended mark) log pages = pages ≡ no_pages

-- the pages of a size that the partitions' files hold
abbrev pub pages_of : ℕ → (ℕ → Option (List ℕ)) → Partitions
pages_of page_size files part index = page_in_file page_size (files part) index

-- pages laid over others
abbrev pub laid_over : Partitions → Partitions → Partitions
laid_over rebuilt pages part index = option_or (rebuilt part index) (pages part index)

-- the base pages, where these are rebuilt: without a start marker there are none
abbrev pub base_of : Checkpoint → Partitions → (ℕ → Option (List ℕ)) → Partitions
base_of NoStart rebuilt files = no_pages
base_of (Started mark) rebuilt files = laid_over rebuilt (pages_of mark.shape.page_size files)
base_of (Ended mark) rebuilt files = laid_over rebuilt (pages_of mark.shape.page_size files)

-- the pages of a partition that count: its first one, and those below the page count
abbrev pub counted : Partition → Partition
counted pages index = if index == 0 || nat_lt index (page_count pages) then pages index else None
