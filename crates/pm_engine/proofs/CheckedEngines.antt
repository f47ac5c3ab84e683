-- The lines that an engine over page frames has done last after its checkpoint, and a crash meanwhile leaves a prefix of them.
use Rattle.std.proofs.Common.{ℕ, ◌+◌, ◌<◌, ◌^◌, List, None, Result, Ok}
use Rattle.pm_types.specs.declared.page_id.PageId.{PageId}
use Rattle.pm_types.specs.declared.shape.Shape.{Shape}
use Rattle.pm_disk.specs.Moments.{History, AllMoments}
use Rattle.pm_disk.proofs.Chain.{weaker}
use Rattle.pm_model.specs.declared.line.Line.{Line}
use Rattle.pm_model.specs.Eval.{Pairs}
use Rattle.pm_core.specs.BasePages.{Partitions}
use Rattle.pm_core.specs.Calls.{MakesPrefix}
use Rattle.pm_core.specs.States.{State}
use Rattle.pm_ckpt.specs.Checkpoints.{CanCheckpoint, MakesWhole, whole_steps}
use Rattle.pm_ckpt.specs.Dirty.{IsNext}
use Rattle.pm_ckpt.specs.Marked.{mark_for}
use Rattle.pm_engine.specs.FrameCheckpoints.{IsCheckpointed}
use Rattle.pm_engine.specs.FrameDirty.{ListsDirty}
use Rattle.pm_engine.specs.Engines.{FrameRunning, IsEngine, HasDoneLines, HasLastingLinesIn, running_in}
use Rattle.pm_engine.specs.FrameStores.{HasCleanPages}
use Rattle.pm_engine.specs.RunningStores.{number_of}
use Rattle.pm_engine.specs.RunningLines.{HasRun, CrashHoldsLines}
use Rattle.pm_engine.specs.RunningStores.{HasSegmentsFor}
use Rattle.pm_engine.proofs.CheckpointedFrames.{names_run, may_make, leads, holds}

module _ (before : FrameRunning) (is : IsEngine before) (names : List PageId) (bytes : Partitions) (dirty : ListsDirty before.store names bytes) (old new : History) {T E : Type 0} (result : Result T E)
    (steps : (wanted : Shape) (told : List ℕ → ℕ) (s : State) → (can : CanCheckpoint wanted told s before.log (mark_for before.ckpt before.log None) bytes names old.world)
    → MakesWhole {T = T} {E = E} told old new result before.log (mark_for before.ckpt before.log None) can.rebuilt bytes names s)
    (wanted : Shape) (told : List ℕ → ℕ) (from : ℕ) (start : Pairs) (lines : List Line) (has : HasDoneLines wanted told from start lines before old.world) (segments : HasSegmentsFor before.log 1) (numbered : number_of before.ckpt.mark + 1 < 2 ^ 64) where
  named : HasRun wanted told from start lines (running_in before old.world names) has.state old.world
  named = names_run before names has.logged bytes dirty has.names wanted told from start lines has.state old.world has.has

  can : CanCheckpoint wanted told has.state before.log (mark_for before.ckpt before.log None) bytes names old.world
  can = may_make before names bytes dirty is.shape numbered segments wanted told from start lines has.state old.world named

  makes : MakesWhole {T = T} {E = E} told old new result before.log (mark_for before.ckpt before.log None) can.rebuilt bytes names has.state
  makes = steps wanted told has.state can

  pub engine_crash : AllMoments old new (CrashHoldsLines (before.log.end.seg + 2) (number_of before.ckpt.mark + 1) wanted before.store.shape start lines)
  engine_crash =
      weaker old new (MakesPrefix (whole_steps before.log (mark_for before.ckpt before.log None) can.rebuilt bytes makes.writings has.state old.world) has.state old.world)
      (CrashHoldsLines (before.log.end.seg + 2) (number_of before.ckpt.mark + 1) wanted before.store.shape start lines)
      (λ w some. holds before names bytes dirty is.shape numbered segments wanted told from start lines has.state old.world named can makes.writings makes.order makes.guards makes.leaves w some)
      makes.makes.moments

pub engine_lasts : (tells : Type 0) → tells → (before after : FrameRunning) → IsEngine before → (names : List PageId) (bytes : Partitions) → ListsDirty before.store names bytes → (old new : History) {T E : Type 0} (u : T)
    → ((wanted : Shape) (told : List ℕ → ℕ) (s : State) → (can : CanCheckpoint wanted told s before.log (mark_for before.ckpt before.log None) bytes names old.world)
    → MakesWhole {T = T} {E = E} told old new (Ok u) before.log (mark_for before.ckpt before.log None) can.rebuilt bytes names s)
    → IsNext (mark_for before.ckpt before.log None) before.ckpt after.ckpt before.log after.log → IsCheckpointed tells old.world new.world before.store after.store → HasCleanPages before.store old.world
    → (wanted : Shape) (told : List ℕ → ℕ) (from : ℕ) (start : Pairs) (lines : List Line) → HasDoneLines wanted told from start lines before old.world → HasSegmentsFor before.log 1 → number_of before.ckpt.mark + 1 < 2 ^ 64
    → HasLastingLinesIn wanted told from start lines after new.world
engine_lasts tells told_is before after is names bytes dirty old new {T} {E} u steps next done clean wanted told from start lines has segments numbered =
    let has_named = named before is names bytes dirty old new {T = T} {E = E} (Ok u) steps wanted told from start lines has segments numbered in
    let able = can before is names bytes dirty old new {T = T} {E = E} (Ok u) steps wanted told from start lines has segments numbered in
    let made = makes before is names bytes dirty old new {T = T} {E = E} (Ok u) steps wanted told from start lines has segments numbered in
    leads before names bytes dirty is.shape numbered segments wanted told from start lines has.state old.world has_named able made.writings made.order made.guards made.leaves
    after new.world made.makes.all next done.shape done.none_dirty (done.as_files told_is clean)
