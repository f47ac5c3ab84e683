-- How a checkpoint is ended that a restart found without its end marker, as steps of the disk machine.
use Rattle.std.specs.Prelude.{◌≡◌, ◌⊎◌, ℕ, List, Some, None, true}
use Rattle.pm_types.specs.declared.page_id.PageId.{PageId}
use Rattle.pm_types.specs.declared.shape.Mark.{Mark}
use Rattle.pm_types.specs.declared.shape.Shape.{Shape}
use Rattle.pm_types.specs.Ids.{part_of_id, index_of_id}
use Rattle.pm_disk.specs.Files.{content}
use Rattle.pm_disk.specs.Moments.{History, AllMoments}
use Rattle.pm_disk.specs.Worlds.{World}
use Rattle.pm_marks.specs.InForce.{Started, Ended}
use Rattle.pm_core.specs.BasePages.{Partitions, no_pages, page_in_file, pages_of, laid_over}
use Rattle.pm_core.specs.Calls.{MakesPrefix, AreRebuilt}
use Rattle.pm_core.specs.Machine.{DiskStep, CanAll, states, worlds}
use Rattle.pm_core.specs.PageLaws.{Grows}
use Rattle.pm_core.specs.PageSets.{has_index}
use Rattle.pm_core.specs.Prefixes.{last_number}
use Rattle.pm_core.specs.Stands.{Stands}
use Rattle.pm_core.specs.Starts.{appended}
use Rattle.pm_core.specs.States.{State}
use Rattle.pm_redo.specs.PageMaps.{PageMap, kept_pages}
use Rattle.pm_redo.specs.Pictures.{files_in, AreOfFiles}

-- In this state this checkpoint runs alone, and these are the pages that the log rebuilds for it.
pub record IsUnended (mark : Mark) (kept : PageMap) (s : State) : Type 0 where
  pub runs : s.now.checkpoint ≡ Started mark
  pub alone : s.soon ≡ None
  pub rebuilt : s.now.rebuilt ≡ kept_pages kept
  pub shaped : s.shape ≡ kept.shape

-- Steps that meet their guards were begun: at each moment a prefix of them was made.
pub record BeginsSteps (told : List ℕ → ℕ) (s : State) (old new : History) : Type 0 where
  pub steps : List DiskStep
  pub can : CanAll told steps s old.world
  pub moments : AllMoments old new (MakesPrefix steps s old.world)
  -- nothing is appended, and no checkpoint is begun
  pub added : appended (states steps s old.world) ≡ appended s
  pub number : last_number (states steps s old.world) ≡ last_number s

-- the page of this index stands in its partition's file, as it is in this world
abbrev pub StandsInFile : ℕ → World → ℕ → ℕ → List ℕ → Type 0
StandsInFile page_size world part index bytes =
    page_in_file page_size (content (world.pages part)) index ≡ Some bytes

-- A page was written, if it is one of those that were rebuilt: it stands in its file, and so does each
-- other one that stood there.
pub record WritesOne (told : List ℕ → ℕ) (kept : PageMap) (page : PageId) (s : State) (old new : History)
    : Type 0 where
  pub steps : List DiskStep
  pub can : CanAll told steps s old.world
  pub moments : AllMoments old new (MakesPrefix steps s old.world)
  pub is : new.world ≡ worlds steps s old.world
  pub still : states steps s old.world ≡ s
  pub ends : new.world.ends ≡ old.world.ends
  pub here : (bytes : List ℕ) → kept_pages kept (part_of_id page) (index_of_id page) ≡ Some bytes
      → StandsInFile kept.shape.page_size new.world (part_of_id page) (index_of_id page) bytes
  pub others : (part index : ℕ) (bytes : List ℕ) → kept_pages kept part index ≡ Some bytes
      → StandsInFile kept.shape.page_size old.world part index bytes
      → StandsInFile kept.shape.page_size new.world part index bytes
  pub apart : (part index : ℕ) (bytes : List ℕ) → kept_pages kept part index ≡ None
      → StandsInFile kept.shape.page_size old.world part index bytes
      → StandsInFile kept.shape.page_size new.world part index bytes

-- These pages were written, but for those that are left.
pub record WritesPages (told : List ℕ → ℕ) (kept : PageMap) (pages left : List PageId) (s : State)
    (old new : History) : Type 0 where
  pub steps : List DiskStep
  pub can : CanAll told steps s old.world
  pub moments : AllMoments old new (MakesPrefix steps s old.world)
  pub is : new.world ≡ worlds steps s old.world
  pub still : states steps s old.world ≡ s
  pub ends : new.world.ends ≡ old.world.ends
  pub written : (part index : ℕ) (bytes : List ℕ) → has_index part index pages ≡ true
      → kept_pages kept part index ≡ Some bytes
      → (has_index part index left ≡ true) ⊎ StandsInFile kept.shape.page_size new.world part index bytes
  pub apart : (part index : ℕ) (bytes : List ℕ) → kept_pages kept part index ≡ None
      → StandsInFile kept.shape.page_size old.world part index bytes
      → StandsInFile kept.shape.page_size new.world part index bytes

-- each page that the log rebuilds stands in its partition's file, and so does each other one that stood there
abbrev pub LaysPages : PageMap → World → World → Type 0
LaysPages kept old new = (part index : ℕ) (bytes : List ℕ)
    → laid_over (kept_pages kept) (pages_of kept.shape.page_size (files_in old)) part index ≡ Some bytes
    → StandsInFile kept.shape.page_size new part index bytes

-- this checkpoint may be ended, once these pages, all that the log rebuilds, are in their files
pub record MayEnd (wanted : Shape) (told : List ℕ → ℕ) (mark : Mark) (kept : PageMap) (pages : List PageId)
    (s : State) (world : World) : Type 0 where
  pub stands : Stands wanted told s world
  pub unended : IsUnended mark kept s
  pub pages_are : AreRebuilt pages (kept_pages kept)

-- the state once the checkpoint is ended, with the pages that are forced in their files
abbrev pub ended_state : Mark → Partitions → State → State
ended_state mark files s = record s {
  now = record { checkpoint = Ended mark; rebuilt = no_pages };
  soon = None;
  files = files;
}

-- The checkpoint was ended.
pub record EndsCheckpoint (told : List ℕ → ℕ) (mark : Mark) (s : State) (old new : History) : Type 0 where
  pub steps : List DiskStep
  pub can : CanAll told steps s old.world
  pub moments : AllMoments old new (MakesPrefix steps s old.world)
  pub is : new.world ≡ worlds steps s old.world
  pub files : Partitions
  pub of_files : AreOfFiles s.shape.page_size files
  pub state : states steps s old.world ≡ ended_state mark files s
  -- the partitions' files hold the base pages, and others only where those have a meta page
  pub pages : (part : ℕ) → Grows (laid_over s.now.rebuilt s.files part)
      (pages_of s.shape.page_size (files_in new.world) part)
