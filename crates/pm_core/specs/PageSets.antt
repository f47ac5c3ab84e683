-- The pages of a checkpoint.
use Rattle.std.specs.Prelude.{◌≡◌, ◌==◌, ◌&&◌, ℕ, ◌-◌, Bool, true, false, not, List, [], ◌∷◌, ◌++◌}
use Rattle.std.specs.Prelude.{filter, if◌then◌else◌}
use Rattle.pm_types.specs.declared.page_id.PageId.{PageId}
use Rattle.pm_types.specs.declared.shape.Mark.{Mark}
use Rattle.pm_types.specs.Ids.{part_of_id, index_of_id}

-- pages, and for how many more there is room
pub record PageList : Type 0 where
  pub pages : List PageId
  pub spare : ℕ

-- no page, and room for so many
abbrev pub no_page : ℕ → PageList
no_page room = record { pages = []; spare = room }

-- one page more, in the room that there was
abbrev pub with_one : PageId → PageList → PageList
with_one page list = record { pages = list.pages ++ page ∷ []; spare = list.spare - 1 }

-- whether a page is among these
abbrev pub has_page : PageId → List PageId → Bool
has_page page [] = false
has_page page (other ∷ pages) = if other.0 == page.0 then true else has_page page pages

-- whether the page with this index of this partition is among these
abbrev pub has_index : ℕ → ℕ → List PageId → Bool
has_index part index [] = false
has_index part index (page ∷ pages) =
    if part_of_id page == part && index_of_id page == index then true else has_index part index pages

-- whether a page of this partition is among these
abbrev pub has_part : ℕ → List PageId → Bool
has_part part [] = false
has_part part (page ∷ pages) = if part_of_id page == part then true else has_part part pages

-- each of these pages stands once among them
abbrev pub AreOnce : List PageId → Type 0
AreOnce [] = Unit {0}
AreOnce (page ∷ pages) = (has_page page pages ≡ false) × AreOnce pages

-- each of these pages is among those
abbrev pub AreAmong : List PageId → List PageId → Type 0
AreAmong [] all = Unit {0}
AreAmong (page ∷ pages) all = (has_page page all ≡ true) × AreAmong pages all

-- these pages but this one
abbrev pub without_page : PageId → List PageId → List PageId
without_page page left = filter (λ other. not (other.0 == page.0)) left

-- what is left of pages once these were written
abbrev pub left_after : List PageId → List PageId → List PageId
left_after [] left = left
left_after (page ∷ pages) left = left_after pages (without_page page left)

-- A checkpoint that runs: its mark, its pages, those of them that are not written yet, and for how
-- many more there was room.
pub record Running : Type 0 where
  pub mark : Mark
  pub set : PageList
  pub left : List PageId

-- A checkpoint that is ended: its mark, and room for as many pages as it had.
pub record Finished : Type 0 where
  pub mark : Mark
  pub room : ℕ
