-- Calls as steps of the disk machine.
use Rattle.std.specs.Prelude.{◌≡◌, ◌≤◌, ◌+◌, ℕ, zero, suc, List, [], ◌∷◌, ◌++◌, length, take}
use Rattle.std.specs.Prelude.{if◌then◌else◌, Some, None, IsSome, Result, OnOk, true}
use Rattle.pm_types.specs.declared.limits.TheConstants.{PARTITIONS_MAX}
use Rattle.pm_types.specs.declared.page_id.PageId.{PageId}
use Rattle.pm_types.specs.declared.shape.Mark.{Mark}
use Rattle.pm_disk.specs.declared.mark.MarkFile.TheVariants as mark_file
use Rattle.pm_disk.specs.Worlds.{World}
use Rattle.pm_disk.specs.Files.{content}
use Rattle.pm_disk.specs.Moments.{History, AllMoments}
use Rattle.pm_marks.specs.Slots.{IsMark}
use Rattle.pm_marks.specs.InForce.{Started}
use Rattle.pm_core.specs.BasePages.{Partitions, page_in_file}
use Rattle.pm_core.specs.Machine.{DiskStep, WriteFirst, WriteStart, ForceStart, ForcePages, WriteEnd}
use Rattle.pm_core.specs.Machine.{ForceEnd, worlds}
use Rattle.pm_core.specs.PageSets.{has_index, has_part}
use Rattle.pm_core.specs.States.{State}

-- nothing but files of the store was changed: nothing was said, no input was taken, and the configuration is as it was
pub record ChangesDisk (old now : World) : Type 0 where
  pub said : now.said ≡ old.said
  pub input : now.input ≡ old.input
  pub config : now.config ≡ old.config

-- a prefix of these steps was made
abbrev pub MakesPrefix : List DiskStep → State → World → World → Type 0
MakesPrefix steps s old now = (k : ℕ) × (k ≤ length steps) × (now ≡ worlds (take k steps) s old)

-- These steps were made, one after the other; at an `Err` a prefix of them.
pub record MakesSteps {T E : Type 0} (old new : History) (result : Result T E) (steps : List DiskStep)
    (s : State) : Type 0 where
  pub all : OnOk result (new.world ≡ worlds steps s old.world)
  pub moments : AllMoments old new (MakesPrefix steps s old.world)

-- the first slot is made to be there, and a start marker is written and forced
abbrev pub begin_steps : Mark → Partitions → List DiskStep
begin_steps mark rebuilt = WriteFirst mark_file.Start ∷ WriteStart mark rebuilt ∷ ForceStart ∷ []

-- the same of an end marker
abbrev pub end_steps : Mark → List DiskStep
end_steps mark = WriteFirst mark_file.End ∷ WriteEnd mark ∷ ForceEnd ∷ []

-- the files of the partitions from this one on that these pages are of are forced
unfoldable pub force_steps : ℕ → ℕ → List PageId → List DiskStep
force_steps from zero pages = []
force_steps from (suc n) pages =
    (if has_part from pages then ForcePages from ∷ [] else []) ++ force_steps (from + 1) n pages

-- the files of these pages' partitions are forced, and then the end marker is written and forced
abbrev pub finish_steps : Mark → List PageId → List DiskStep
finish_steps mark pages = force_steps 0 PARTITIONS_MAX pages ++ end_steps mark

-- these are the pages that the log rebuilds
abbrev pub AreRebuilt : List PageId → Partitions → Type 0
AreRebuilt pages rebuilt = (part index : ℕ) → IsSome (rebuilt part index) → has_index part index pages ≡ true

-- In this state the checkpoint may end once the files of these pages are forced: each page that the
-- log rebuilds is in its file.
pub record CanFinish (mark : Mark) (pages : List PageId) (s : State) (world : World) : Type 0 where
  pub runs : s.now.checkpoint ≡ Started mark
  pub alone : s.soon ≡ None
  pub fits : IsMark mark
  pub pages_are : AreRebuilt pages s.now.rebuilt
  pub written : (part index : ℕ) (bytes : List ℕ) → s.now.rebuilt part index ≡ Some bytes
      → page_in_file s.shape.page_size (content (world.pages part)) index ≡ Some bytes
