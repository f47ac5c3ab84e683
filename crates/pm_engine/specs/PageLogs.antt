-- What an operation logs of the pages that it changed.
--
-- After its logical record an operation logs one record per page that it changed, by rising index:
--
--   snapshot   the page after the operation, where the log hasn't had the page since the last
--              CP_BEGIN or RESTART, a new page among them, or the patch is the whole page
--   delta      else: the ranges of its patch, with the page's bytes there
--
-- A page counts as changed where its patch covers a byte. Of a page made anew the patch is the whole page.
use Rattle.std.specs.Prelude.{◌≡◌, ◌<◌, ◌≤◌, ◌^◌, ℕ, zero, suc, Bool, true, ◌&&◌, not, List, [], ◌∷◌, ◌++◌}
use Rattle.std.specs.Prelude.{if◌then◌else◌, Option, Some, None}
use Rattle.pm_types.specs.declared.limits.TheConstants.{PARTITIONS_MAX}
use Rattle.pm_types.specs.declared.page_id.PageId.{PageId}
use Rattle.pm_types.specs.Ids.{page_id}
use Rattle.pm_types.specs.Spans.{Coverage}
use Rattle.pm_frame.specs.Frames.{Frame}
use Rattle.pm_records.specs.Logs.{record_frame}
use Rattle.pm_records.specs.Records.{Record, Snapshot, Delta}
use Rattle.pm_pages.specs.Asked.{has_bytes, is_changed}
use Rattle.pm_pages.specs.Deltas.{delta_of}
use Rattle.pm_pages.specs.Paged.{Paged}
use Rattle.pm_pages.specs.Rows.{bytes_of}
use Rattle.pm_core.specs.PageSets.{has_index}

-- the record of a page that has these bytes after an operation, which changed what the patch covers;
-- `is_logged` where the log has had the page whole
abbrev pub page_record : PageId → List ℕ → Coverage → Bool → Record
page_record page bytes patch is_logged =
    if is_logged && not patch.whole then Delta page (delta_of bytes patch.spans) else Snapshot page bytes

-- the frame of a page with this patch, none where it wasn't changed
abbrev pub frames_with : Option Coverage → PageId → List ℕ → Bool → List Frame
frames_with None page bytes is_logged = []
frames_with (Some patch) page bytes is_logged =
    if has_bytes patch then record_frame (page_record page bytes patch is_logged) ∷ [] else []

-- the frame of the page with this index, none where it wasn't changed
abbrev pub frames_of_page : Paged → ℕ → Bool → List Frame
frames_of_page seen index is_logged =
    frames_with (seen.patch index) (page_id seen.part index) (bytes_of (seen.pages index)) is_logged

-- the same, where these pages were logged before
abbrev pub frames_at : Paged → List PageId → ℕ → List Frame
frames_at seen logged index = frames_of_page seen index (has_index seen.part index logged)

-- the frames of the pages below this index, by rising index
unfoldable pub frames_below : Paged → List PageId → ℕ → List Frame
frames_below seen logged zero = []
frames_below seen logged (suc n) = frames_below seen logged n ++ frames_at seen logged n

-- the name of the page with this index, where it was changed and is logged for the first time
abbrev pub names_at : Paged → List PageId → ℕ → List PageId
names_at seen logged index =
    if is_changed (seen.patch index) && not (has_index seen.part index logged)
    then page_id seen.part index ∷ [] else []

-- the names of such pages below this index
unfoldable pub names_below : Paged → List PageId → ℕ → List PageId
names_below seen logged zero = []
names_below seen logged (suc n) = names_below seen logged n ++ names_at seen logged n

-- The pages of a partition as an operation left them, and a number above the index of each that it changed.
pub record NotedPages : Type 0 where
  pub seen : Paged
  pub count : ℕ

-- the frames of those that were changed, where these pages were logged before
abbrev pub noted_frames : NotedPages → List PageId → List Frame
noted_frames noted logged = frames_below noted.seen logged noted.count

-- the names of those of them that are logged for the first time
abbrev pub noted_names : NotedPages → List PageId → List PageId
noted_names noted logged = names_below noted.seen logged noted.count

-- The pages are those of this partition, of a number that a store may have. Each that was changed has a lower
-- index than the count, and so a name.
pub record AreNoted (part : ℕ) (noted : NotedPages) : Type 0 where
  pub number : noted.seen.part ≡ part
  pub small : part < PARTITIONS_MAX
  pub few : noted.count ≤ 2 ^ 32
  pub below : (index : ℕ) → is_changed (noted.seen.patch index) ≡ true → index < noted.count
