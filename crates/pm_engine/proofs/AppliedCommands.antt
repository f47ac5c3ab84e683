-- What a command that is applied again over the pages of a store leaves of it.
use Rattle.std.proofs.Common.{◌≡◌, ℕ, Bool, true, false, List, ◌++◌, None, Result, Ok, Err, refl, sym, ap, subst, ◌∙◌}
use Rattle.std.specs.Prelude.{IsSome}
use Rattle.std.proofs.lemmas.Bool.{false≢true}
use Rattle.pm_disk.specs.Moments.{History}
use Rattle.pm_disk.specs.States.{DeviceState}
use Rattle.pm_disk.specs.Worlds.{World}
use Rattle.pm_model.specs.declared.line.Cmd.{Cmd}
use Rattle.pm_model.specs.declared.line.Cmd.TheVariants.{Put, Get, Remove, Scan, Checkpoint}
use Rattle.pm_model.specs.declared.line.Line.TheVariants.{Good}
use Rattle.pm_model.specs.declared.reply.Reply.{Reply}
use Rattle.pm_model.specs.Batches.{HasCache}
use Rattle.pm_model.specs.ReplyLists.{ReplyList}
use Rattle.pm_locks.specs.Sight.{Sight}
use Rattle.pm_part.specs.Commands.{accepts}
use Rattle.pm_stripe.specs.declared.bound.Bound.{Bound}
use Rattle.pm_stripe.specs.declared.stripe.Stripe.{Stripe}
use Rattle.pm_stripe.specs.Ends.{EndsRound}
use Rattle.pm_stripe.specs.Kept.{AreClean}
use Rattle.pm_stripe.specs.Stripes.{kept, file_of, IsAtRest}
use Rattle.pm_engine.specs.declared.frame_lines.Stop.{Stop}
use Rattle.pm_engine.specs.declared.frame_lines.Stop.TheVariants.{Halted, Faulted}
use Rattle.pm_engine.specs.FrameCommands.{IsBetweenLines}
use Rattle.pm_engine.specs.FrameHosts.{IsStoreLine}
use Rattle.pm_engine.specs.FrameLines.{is_scan}
use Rattle.pm_engine.specs.FrameReplays.{AppliesCommand, LeavesApplied, AppliesInFrames, AppliesToStore, may_apply_more}
use Rattle.pm_engine.specs.FrameStores.{FrameStoreView, IsOpenStore, IsFrameStore}
use Rattle.pm_engine.specs.OutboxLogs.{AreOperationBytes}
use Rattle.pm_engine.specs.Records.{IsKeyOf, record_of_line}
use Rattle.pm_engine.proofs.BoundStores.{store_after, same_store, settled_before, clean_after, ended}
use Rattle.pm_engine.proofs.FrameHosts.{grown_bytes, bound_began}
use Rattle.pm_engine.proofs.LentReaders.{clean_there, pages_there}

-- ---- the command

-- a command of a key is no scan
pub store_line : (key : List ℕ) (cmd : Cmd) → IsKeyOf key cmd → HasCache (Good cmd) → IsStoreLine (Good cmd)
store_line key cmd is cache = record { cache = cache; no_scan = by cmd is }
  where
    by : (cmd : Cmd) → IsKeyOf key cmd → is_scan (Good cmd) ≡ false
    by (Put cache at value) is = refl
    by (Get cache at) is = refl
    by (Remove cache at) is = refl
    by (Scan cache) is = absurd is
    by Checkpoint is = absurd is

-- an accepted one is a put or a remove
pub accepted_changes : (cmd : Cmd) (reply : Reply) → accepts cmd reply ≡ true → IsSome (record_of_line (Good cmd))
accepted_changes (Put cache key value) reply is = refl
accepted_changes (Get cache key) reply is = absurd (false≢true is)
accepted_changes (Remove cache key) reply is = refl
accepted_changes (Scan cache) reply is = absurd (false≢true is)
accepted_changes Checkpoint reply is = absurd (false≢true is)

-- ---- the worker

module _ {Q R : Type 0} (tells : Type 0) (history : R → History) (state : R → DeviceState) (cmd : Cmd) where
  between_by : (b c : Bound Q R) (answer : Result Bool Stop) → may_apply_more answer ≡ true → LeavesApplied tells history state cmd b c answer → IsBetweenLines tells history state c
  between_by b c (Ok accepted) on x = x.0
  between_by b c (Err (Halted halt)) on x = x.0.between
  between_by b c (Err (Faulted fault)) on x = absurd (false≢true on)

  applied_bytes : (b c : Bound Q R) (accepted : Bool) → AppliesCommand tells history cmd b c accepted → AreOperationBytes b.stripe.outbox → AreOperationBytes c.stripe.outbox
  applied_bytes b c false x bytes = subst AreOperationBytes (sym (x.refused refl).outbox) bytes
  applied_bytes b c true x bytes =
      let grows = (x.hands refl).grows in
      let o = grows.hands.operation in
      grown_bytes b.stripe.outbox c.stripe.outbox o o.records refl grows.hands.is.is_operation bytes (grows.grows ∙ ap (λ more. b.stripe.outbox ++ more) grows.hands.bytes_are)

  bytes_by : (b c : Bound Q R) (answer : Result Bool Stop) → LeavesApplied tells history state cmd b c answer → AreOperationBytes b.stripe.outbox → AreOperationBytes c.stripe.outbox
  bytes_by b c (Ok accepted) x bytes = applied_bytes b c accepted x.1 bytes
  bytes_by b c (Err (Halted halt)) x bytes = subst AreOperationBytes (sym x.0.nothing.outbox) bytes
  bytes_by b c (Err (Faulted fault)) x bytes = subst AreOperationBytes (sym x) bytes

  -- ---- the store

  module _ (old : FrameStoreView) (is : IsOpenStore old) (b : Bound Q R) (at_locks : b.locks.now ≡ old.locks) (at_seat : b.seat ≡ old.seat) (at_stripe : b.stripe ≡ old.stripe)
      (c : Bound Q R) (was now : ReplyList) (answer : Result Bool Stop) (applies : AppliesInFrames tells history state cmd b c was now answer)
      (s : Stripe) (seat : Sight) (r : R) (flag : Bool) (ends : EndsRound tells history c s seat) (rest : IsAtRest c.locks.now (kept s seat)) (flag_is : flag ≡ may_apply_more answer) where
    abbrev new : FrameStoreView
    new = record old { seat = seat; stripe = s; dirty = None; is_open = flag }

    between : flag ≡ true → IsBetweenLines tells history state c
    between on = between_by b c answer (sym flag_is ∙ on) applies.leaves

    pub applied_store : IsFrameStore old → IsFrameStore new
    applied_store was_store =
        store_after tells history state old is b at_locks at_seat at_stripe c applies.same applies.bound flag between s seat ends rest was_store
        (bytes_by b c answer applies.leaves (subst (λ (t : Stripe). AreOperationBytes t.outbox) (sym at_stripe) was_store.outbox))

    pub applies_store : (world : World) → (history b.reader).world ≡ world → r ≡ c.reader → (tells → AreClean (file_of s (history r)) (kept s seat)) → AppliesToStore Q tells history state cmd old new world was now r answer
    applies_store world at_world back clean = record {
      same = same_store tells history state old is b at_locks at_seat at_stripe c applies.same applies.bound flag between s seat ends rest world at_world;
      is_open = flag_is;
      start = b;
      finish = c;
      applies = applies;
      began = bound_began tells history state old is b at_locks at_seat at_stripe world at_world;
      settled = settled_before tells history state old is b at_locks at_seat at_stripe c applies.same applies.bound flag between s seat ends rest world at_world;
      ended = ended tells history state old is b at_locks at_seat at_stripe c applies.same applies.bound flag between s seat ends rest world at_world;
      outbox = ends.same.outbox;
      clean = clean_after tells history state old is b at_locks at_seat at_stripe c applies.same applies.bound flag between s seat ends rest world at_world r back clean;
      reader = back;
    }

  -- where the partitions' files are the same
  pub applied_there : (old new : FrameStoreView) (v w : World) (was now : ReplyList) (back : R) (answer : Result Bool Stop) → (tells → w.pages ≡ v.pages) → AppliesToStore Q tells history state cmd old new w was now back answer
      → AppliesToStore Q tells history state cmd old new v was now back answer
  applied_there old new v w was now back answer same x = record {
    same = x.same;
    is_open = x.is_open;
    start = x.start;
    finish = x.finish;
    applies = x.applies;
    began = pages_there tells history state old v w x.start same x.began;
    settled = x.settled;
    ended = λ on. pages_there tells history state new v w x.finish same (x.ended on);
    outbox = x.outbox;
    clean = λ t. clean_there new w v (sym (same t)) (x.clean t);
    reader = x.reader;
  }
