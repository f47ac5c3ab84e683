-- The disk without its markers and pages. Steps of the log are the same steps of it, what a crash leaves of the disk has the
-- log of what a crash leaves of it, and it has no marker and no page.
use Rattle.std.proofs.Common.{◌≡◌, ℕ, ◌<◌, List, [], ◌∷◌, take, None, refl, ◌∙◌, ap, arith}
use Rattle.pm_types.specs.declared.place.Place.{Place}
use Rattle.pm_types.specs.declared.shape.Shape.{Shape}
use Rattle.pm_disk.specs.Files.{absent}
use Rattle.pm_disk.specs.Images.{Image, IsTrueOf, Leaves, LeavesAll}
use Rattle.pm_disk.specs.Worlds.{World}
use Rattle.pm_records.specs.LogSteps.{Step, CutTail, Append, Force, NextSegment, DropSegment, ForceSegment}
use Rattle.pm_records.specs.LogSteps.{step_end, step_world, world_after, DoesPrefix}
use Rattle.pm_marks.specs.Slots.{mark_at}
use Rattle.pm_marks.proofs.SlotMarks.{mark_at-short}
use Rattle.pm_model.specs.Eval.{Pairs}
use Rattle.pm_core.specs.LogAlone.{HasTrueFrames, Holds}
use Rattle.pm_core.specs.Sound.{IsTrueImage, LogIsAlone}
use Rattle.pm_core.proofs.Ranges.{no_page}

-- the disk with no file but those of its log
abbrev pub log_only : World → World
log_only world = record world { pages = λ part. absent; starts = absent; ends = absent }

-- the same of what a crash left
abbrev pub image_only : Image → Image
image_only image = record image { pages = λ part. None; starts = None; ends = None }

-- ---- steps of the log

step_only : (step : Step) (end : Place) (world : World)
    → log_only (step_world step end world) ≡ step_world step end (log_only world)
step_only CutTail end world = refl
step_only (Append frame) end world = refl
step_only Force end world = refl
step_only NextSegment end world = refl
step_only (DropSegment seg) end world = refl
step_only (ForceSegment seg) end world = refl

after_only : (steps : List Step) (end : Place) (world : World)
    → log_only (world_after steps end world) ≡ world_after steps end (log_only world)
after_only [] end world = refl
after_only (step ∷ steps) end world =
    after_only steps (step_end step end) (step_world step end world)
    ∙ ap (λ w. world_after steps (step_end step end) w) (step_only step end world)

pub prefix_only : (steps : List Step) (end : Place) (old now : World) → DoesPrefix steps end old now
    → DoesPrefix steps end (log_only old) (log_only now)
prefix_only steps end old now some = (some.0, some.1, ap log_only some.2 ∙ after_only (take some.0 steps) end old)

-- ---- what a crash leaves

absent_leaves : Leaves absent None
absent_leaves = (0, omega arith, refl)

absent_true : IsTrueOf mark_at absent None
absent_true = record { stood = λ slot mark is. (0, omega arith, is) }

pub leaves_only : (world : World) (image : Image) → LeavesAll world image → LeavesAll (log_only world) (image_only image)
leaves_only world image leaves = record {
  log = leaves.log;
  pages = λ part. absent_leaves;
  starts = absent_leaves;
  ends = absent_leaves;
}

pub true_only : (world : World) (image : Image) → HasTrueFrames world image → IsTrueImage (log_only world) (image_only image)
true_only world image honest = record { frames = honest; starts = absent_true; ends = absent_true }

-- no marker and no page is there
pub alone_only : (page_size : ℕ) (image : Image) → 0 < page_size → LogIsAlone page_size (image_only image)
alone_only page_size image some = record {
  starts = λ slot. mark_at-short slot [] (omega arith);
  ends = λ slot. mark_at-short slot [] (omega arith);
  bare = λ part index. no_page page_size index some;
}

-- what the log alone holds the disk's log holds
pub holds_only : (wanted : Shape) (image : Image) (shape : Shape) (pairs : Pairs)
    → Holds wanted (image_only image) shape pairs → Holds wanted image shape pairs
holds_only wanted image shape pairs holds = record {
  log = record { frames = holds.log.frames; log = holds.log.log; held = holds.log.held };
  nothing_above = holds.nothing_above;
}
