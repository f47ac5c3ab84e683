-- The pages in a worker's frames as those of a store that runs, and the lines of a round as its steps.
use Rattle.std.specs.Prelude.{◌≡◌, ◌<◌, ◌^◌, ◌↔◌, ℕ, true, List, ◌++◌}
use Rattle.pm_types.specs.declared.page_id.PageId.{PageId}
use Rattle.pm_types.specs.Ids.{page_id}
use Rattle.pm_frame.specs.Frames.{Frame}
use Rattle.pm_disk.specs.Moments.{History}
use Rattle.pm_model.specs.declared.line.Line.{Line}
use Rattle.pm_core.specs.PageSets.{has_index}
use Rattle.pm_stripe.specs.declared.bound.Bound.{Bound}
use Rattle.pm_stripe.specs.Kept.{IsStaying}
use Rattle.pm_stripe.specs.Shown.{kept_by}
use Rattle.pm_stripe.specs.Sights.{AreSettled}
use Rattle.pm_engine.specs.FrameCommands.{frame_pages}
use Rattle.pm_engine.specs.LineChains.{StepsLines}
use Rattle.pm_engine.specs.OutboxLogs.{SpellOperationRecords}
use Rattle.pm_engine.specs.RunningSteps.{appended_to}
use Rattle.pm_engine.specs.RunningStores.{StoreState, HoldsPages}

module _ {Q R : Type 0} where
  -- of the pages that a store may have those are named that stay in the worker's frames
  abbrev pub NameStaying : Bound Q R → List PageId → Type 0
  NameStaying b names = (part index : ℕ) → part < b.stripe.shape.partitions → index < 2 ^ 32
      → (has_index part index names ≡ true) ↔ IsStaying (kept_by b) (page_id part index)

  -- A worker has the pages of this store, and those that stay in its frames are the logged ones. No checkpoint has to
  -- write a frame.
  pub record HasStore (history : R → History) (store : StoreState) (b : Bound Q R) : Type 0 where
    pub shape : store.shape ≡ b.stripe.shape
    pub pages : store.pages ≡ frame_pages history b
    pub logged : NameStaying b store.logged
    pub holds : HoldsPages store
    pub settled : AreSettled b.locks.now b.seat.view

  -- Lines led from this store, which the worker had, to the one that it has now. The outbox grew by what they append.
  pub record StepsStore (history : R → History) (lines : List Line) (store : StoreState) (b c : Bound Q R) : Type 0 where
    pub frames : List Frame
    pub logged : List PageId
    pub steps : StepsLines store lines frames (frame_pages history c) logged
    pub has : HasStore history (appended_to store frames (frame_pages history c) logged) c
    pub hands : (old : List Frame) → SpellOperationRecords b.stripe.outbox old → SpellOperationRecords c.stripe.outbox (old ++ frames)
