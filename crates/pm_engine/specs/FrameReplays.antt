-- A command that the log has a record of already, applied again over page frames.
use Rattle.std.specs.Prelude.{◌≡◌, ◌<◌, ℕ, Bool, true, false, None, Some, IsSome, Result, Ok, Err, IfOk}
use Rattle.pm_disk.specs.Moments.{History}
use Rattle.pm_disk.specs.States.{DeviceState, Rose}
use Rattle.pm_disk.specs.Worlds.{World}
use Rattle.pm_model.specs.declared.line.Cmd.{Cmd}
use Rattle.pm_model.specs.declared.line.Line.TheVariants.{Good}
use Rattle.pm_model.specs.Orders.{part_of_line}
use Rattle.pm_model.specs.ReplyLists.{ReplyList}
use Rattle.pm_core.specs.Held.{AllWellFormed}
use Rattle.pm_stripe.specs.declared.bound.Bound.{Bound}
use Rattle.pm_stripe.specs.Begins.{IsLacking}
use Rattle.pm_stripe.specs.Bounds.{IsBound}
use Rattle.pm_stripe.specs.Sights.{AreSettled}
use Rattle.pm_engine.specs.declared.frame_lines.Stop.{Stop}
use Rattle.pm_engine.specs.declared.frame_lines.Stop.TheVariants.{Halted, Faulted}
use Rattle.pm_engine.specs.FrameCommands.{frame_pages, IsSameWorker, IsBetweenLines, ChangesNothing}
use Rattle.pm_engine.specs.FrameCommands.{HandsOverChange}
use Rattle.pm_engine.specs.FrameHosts.{IsSameStore, HasPagesOf, may_go_on}
use Rattle.pm_engine.specs.FrameLines.{EvaluatesLine, HaltsLine, RepliesIfDone, HasReaderCause, FindsNoBadPage}
use Rattle.pm_engine.specs.FrameStores.{FrameStoreView, HasCleanPages}
use Rattle.pm_engine.specs.MetPages.{AllowsLine, MeetsInRound}
use Rattle.pm_engine.specs.Records.{record_of_line}

-- whether more may be done after a command that was answered so
abbrev pub may_apply_more : Result Bool Stop → Bool
may_apply_more (Ok accepted) = true
may_apply_more (Err stop) = may_go_on (Some stop)

module _ {Q R : Type 0} where
  -- A command was applied again. An accepted one is a put or a remove, and handed over what it changed of the pages of
  -- its key's partition, and no record of its own; one that wasn't accepted changed nothing.
  pub record AppliesCommand (tells : Type 0) (history : R → History) (cmd : Cmd) (b c : Bound Q R) (accepted : Bool)
      : Type 0 where
    pub refused : accepted ≡ false → ChangesNothing tells history b c
    pub changes : accepted ≡ true → IsSome (record_of_line (Good cmd))
    pub hands : accepted ≡ true
        → HandsOverChange tells history 0 None (part_of_line b.stripe.shape (Good cmd)) b c

  -- It was applied again, or what it may need is lacking, or a fault ended it. After a fault nothing was handed over,
  -- and the round is to be ended.
  abbrev pub LeavesApplied : Type 0 → (R → History) → (R → DeviceState) → Cmd → Bound Q R → Bound Q R
      → Result Bool Stop → Type 0
  LeavesApplied tells history state cmd b c (Ok accepted) =
      IsBetweenLines tells history state c × AppliesCommand tells history cmd b c accepted
  LeavesApplied tells history state cmd b c (Err (Halted halt)) =
      HaltsLine tells history state b c × IsLacking b c (Err halt)
  LeavesApplied tells history state cmd b c (Err (Faulted fault)) = c.stripe.outbox ≡ b.stripe.outbox

  -- A command was applied again over a worker's page frames. Where the reader tells, and each partition of the store
  -- is well formed as this worker has it, it was evaluated as the model of lines says, and no page was found bad. Of any
  -- store, a page that couldn't be used is one that the command met.
  pub record AppliesInFrames (tells : Type 0) (history : R → History) (state : R → DeviceState) (cmd : Cmd)
      (b c : Bound Q R) (was now : ReplyList) (result : Result Bool Stop) : Type 0 where
    pub same : IsSameWorker tells history state b c
    pub bound : IsBound tells history state c
    pub leaves : LeavesApplied tells history state cmd b c result
    pub replied : RepliesIfDone was now result
    pub cause : HasReaderCause state b c result
    pub evaluates : tells → AllWellFormed b.stripe.shape (frame_pages history b) → IfOk result
        (EvaluatesLine b.stripe.shape (Good cmd) (frame_pages history b) (frame_pages history c) was now)
    pub sound : tells → AllWellFormed b.stripe.shape (frame_pages history b) → FindsNoBadPage result
    pub meets : tells → (may_change : ℕ → Bool) → AllowsLine may_change b.stripe.shape (Good cmd)
        → MeetsInRound tells may_change b.stripe.shape (frame_pages history b) result

module _ {R : Type 0} where
  -- A command was applied again over the pages of a store, by a worker that had them at its start, when no checkpoint
  -- had to write a frame, and has at its end what the store has now; nothing was sent of what it handed over. After a
  -- fault the store is open no more, and its pages may be others. The reader came back as it was at the end.
  pub record AppliesToStore (Q : Type 0) (tells : Type 0) (history : R → History) (state : R → DeviceState) (cmd : Cmd)
      (old new : FrameStoreView) (world : World) (was now : ReplyList) (back : R) (result : Result Bool Stop)
      : Type 0 where
    pub same : IsSameStore old new
    pub is_open : new.is_open ≡ may_apply_more result
    pub start : Bound Q R
    pub finish : Bound Q R
    pub applies : AppliesInFrames tells history state cmd start finish was now result
    pub began : HasPagesOf tells history old world start
    pub settled : AreSettled start.locks.now start.seat.view
    pub ended : new.is_open ≡ true → HasPagesOf tells history new world finish
    pub outbox : new.stripe.outbox ≡ finish.stripe.outbox
    pub clean : tells → HasCleanPages new world
    pub reader : back ≡ finish.reader

  -- The same by a reader that a host lent, and has back: its count of faults is as it was where no call of the reader
  -- failed, and else it rose.
  pub record AppliesOver (Q : Type 0) (tells : Type 0) (history : R → History) (state : R → DeviceState) (cmd : Cmd)
      (old new : FrameStoreView) (world : World) (was now : ReplyList) (before after : DeviceState)
      (result : Result Bool Stop) : Type 0 where
    pub back : R
    pub applied : AppliesToStore Q tells history state cmd old new world was now back result
    pub quiet : (state back).faults ≡ 0 → after.faults ≡ before.faults
    pub rose : 0 < (state back).faults → Rose before after
