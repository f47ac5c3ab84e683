-- Runs and crashes that follow each other over one store.
use Rattle.std.specs.Prelude.{◌≡◌, ◌⊎◌, ℕ, List, [], ◌∷◌, ◌++◌, map, take, Option}
use Rattle.pm_types.specs.declared.shape.Shape.{Shape}
use Rattle.pm_disk.specs.Files.{File, absent}
use Rattle.pm_disk.specs.Images.{Image, LeavesAll}
use Rattle.pm_disk.specs.Worlds.{World}
use Rattle.pm_model.specs.declared.line.Line.{Line}
use Rattle.pm_model.specs.Eval.{Pairs, after_all}
use Rattle.pm_model.specs.Orders.{line_at}
use Rattle.pm_core.specs.LogAlone.{image_of}
use Rattle.pm_core.specs.Sound.{IsTrueImage, Sound}
use Rattle.pm_engine.specs.RunningLines.{SameDisk}
use Rattle.pm_top.specs.Crashes.{HasNumbers, HoldsAfter}
use Rattle.pm_top.specs.Promises.{IsLeft, IsStart, last_after, number_after}
use Rattle.pm_top.specs.Served.{script_of}

-- a folder in which none of the store's files is
pub record IsFresh (world : World) : Type 0 where
  pub log : (seg : ℕ) → world.log seg ≡ absent
  pub pages : (part : ℕ) → world.pages part ≡ absent
  pub starts : world.starts ≡ absent
  pub ends : world.ends ≡ absent

-- a file as a crash left it, which lasts
abbrev pub left_file : Option (List ℕ) → File
left_file left = record { forced = left; since = [] }

-- the disk that is found after a crash
pub record IsFoundAfter (image : Image) (world : World) : Type 0 where
  pub log : (seg : ℕ) → world.log seg ≡ left_file (image.log seg)
  pub pages : (part : ℕ) → world.pages part ≡ left_file (image.pages part)
  pub starts : world.starts ≡ left_file image.starts
  pub ends : world.ends ≡ left_file image.ends

-- A run, seen from the next one: what this finds, and the lines of the run that count.
pub record Stage : Type 0 where
  pub next : World
  pub lines : List Line

-- the lines with these numbers
abbrev pub lines_with : List Line → List ℕ → List Line
lines_with script numbers = map (line_at 1 script) numbers

-- there are numbers for another run, over what a run has left
abbrev pub HasNumbersNext : Shape → Shape → Pairs → Stage → Type 0
HasNumbersNext wanted shape pairs stage =
    (sound : Sound wanted stage.next shape (after_all shape stage.lines pairs))
    → HasNumbers wanted (image_of stage.next) shape (after_all shape stage.lines pairs) sound

-- A run was done, and left this store, as `top` promises of it: all its lines count.
pub record WasDone (wanted shape : Shape) (start : World) (pairs : Pairs) (stage : Stage) : Type 0 where
  pub new : World
  pub left : (begins : IsStart wanted start shape pairs)
      → IsLeft wanted (last_after begins) (number_after begins) start new shape pairs
  pub found : SameDisk new stage.next
  pub lines_are : stage.lines ≡ script_of start.input
  pub numbers : HasNumbersNext wanted shape pairs stage

-- A run ended by a crash at a moment, and left this image, as `top` promises of it: a prefix of its
-- order counts, which has each line that was acknowledged.
pub record HasCrashed (wanted shape : Shape) (start : World) (pairs : Pairs) (stage : Stage) : Type 0 where
  pub order : List ℕ
  pub now : World
  pub image : Image
  pub leaves : LeavesAll now image
  pub honest : IsTrueImage now image
  pub kept : (begins : IsStart wanted start shape pairs)
      → HoldsAfter wanted (last_after begins) (number_after begins) start shape pairs order now image
  pub found : IsFoundAfter image stage.next
  pub lines_are : (begins : IsStart wanted start shape pairs)
      → stage.lines ≡ lines_with (script_of start.input) (take (kept begins).count order)
  pub numbers : HasNumbersNext wanted shape pairs stage

-- these runs follow each other, each over what the one before left
abbrev pub Follows : Shape → Shape → World → Pairs → List Stage → Type 0
Follows wanted shape start pairs [] = Unit {0}
Follows wanted shape start pairs (stage ∷ stages) =
    (WasDone wanted shape start pairs stage ⊎ HasCrashed wanted shape start pairs stage)
    × Follows wanted shape stage.next (after_all shape stage.lines pairs) stages

-- what is found after these runs
abbrev pub found_last : World → List Stage → World
found_last start [] = start
found_last start (stage ∷ stages) = found_last stage.next stages

-- the lines of these runs that count
abbrev pub lines_kept : List Stage → List Line
lines_kept [] = []
lines_kept (stage ∷ stages) = stage.lines ++ lines_kept stages
