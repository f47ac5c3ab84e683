-- A scan of an open store leaves its pages as they were.
use Rattle.std.proofs.Common.{◌≡◌, ℕ, ◌%◌, Bool, true, [], ◌∷◌, length, Option, Some, None, sym, refl, ap, subst, ◌∙◌, arith}
use Rattle.std.specs.Prelude.{IfSome, Result, Ok, Err, IsErrOf, OnOk, OnErr}
use Rattle.std.proofs.Math.Nat.{mod-one}
use Rattle.pm_types.specs.declared.fault.PageFault.{PageFault}
use Rattle.pm_types.specs.declared.fault.PageFault.TheVariants.{Failed, BadPage}
use Rattle.pm_types.specs.declared.shape.Shape.{Shape}
use Rattle.pm_disk.specs.Files.{File}
use Rattle.pm_disk.specs.Moments.{History}
use Rattle.pm_disk.specs.States.{DeviceState}
use Rattle.pm_disk.specs.Worlds.{World}
use Rattle.pm_model.specs.declared.line.Cmd.TheVariants.{Scan}
use Rattle.pm_model.specs.declared.line.Line.TheVariants.{Good}
use Rattle.pm_model.specs.Eval.{reply_to}
use Rattle.pm_model.specs.ReplyLists.{ReplyList, with_replies}
use Rattle.pm_part.specs.Commands.{AppendsReply}
use Rattle.pm_core.specs.BasePages.{Partitions}
use Rattle.pm_core.specs.Held.{AllWellFormed, pairs_in}
use Rattle.pm_locks.specs.Sight.{LockTable, Sight}
use Rattle.pm_stripe.specs.declared.bound.Bound.{Bound}
use Rattle.pm_stripe.specs.declared.stripe.Stripe.{Stripe}
use Rattle.pm_stripe.specs.Ends.{EndsRound}
use Rattle.pm_stripe.specs.Kept.{AreClean}
use Rattle.pm_stripe.specs.Stripes.{kept, file_of, IsAtRest}
use Rattle.pm_engine.specs.declared.frame_lines.Stop.{Stop}
use Rattle.pm_engine.specs.declared.frame_lines.Stop.TheVariants.{Halted, Faulted}
use Rattle.pm_engine.specs.declared.frame_rounds.RoundEnd.{RoundEnd}
use Rattle.pm_engine.specs.declared.frame_scans.ScanStop.{ScanStop}
use Rattle.pm_engine.specs.declared.frame_scans.ScanStop.TheVariants as scan
use Rattle.pm_engine.specs.FrameCommands.{frame_pages}
use Rattle.pm_engine.specs.FrameHosts.{ScansStore, count_after, may_go_on}
use Rattle.pm_engine.specs.FrameRounds.{LeavesRound, AnswersRound, HasDone}
use Rattle.pm_engine.specs.FrameScans.{LooksUp, OwnsAll, HasScanCause, ReadsNoBadPage, may_go_on_after}
use Rattle.pm_engine.specs.FrameStores.{FrameStoreView, pages_in_frames, HasCleanPages, IsOpenStore, IsFrameStore, dirty_count}
use Rattle.pm_engine.specs.MetPages.{MeetsBadPage, MeetsInScan}
use Rattle.pm_engine.proofs.FrameHosts.{bound_shape, bound_began, after_round, ended, runs_round}
use Rattle.pm_engine.proofs.LentReaders.{clean_there}
use Rattle.pm_engine.proofs.QuietRounds.{round_counted}
use Rattle.pm_engine.proofs.Replied.{with_none}
use Rattle.pm_engine.proofs.ToldFaults.{met_told}

-- ---- a scan as a round without lines

-- how such a round ended
abbrev stop_by : Result (Unit {0}) ScanStop → Option Stop
stop_by (Ok done) = None
stop_by (Err (scan.Halted halt)) = Some (Halted halt)
stop_by (Err scan.Memory) = None
stop_by (Err (scan.Faulted fault)) = Some (Faulted fault)

abbrev pub end_by : Result (Unit {0}) ScanStop → RoundEnd
end_by result = record { done = 0; stop = stop_by result }

pub goes_on_by : (result : Result (Unit {0}) ScanStop) → may_go_on_after result ≡ may_go_on (stop_by result)
goes_on_by (Ok done) = refl
goes_on_by (Err (scan.Halted halt)) = refl
goes_on_by (Err scan.Memory) = refl
goes_on_by (Err (scan.Faulted fault)) = refl

same_fault : (fault other : PageFault) → Some (Faulted fault) ≡ Some (Faulted other) → fault ≡ other
same_fault fault other e = cc

fault_by : (result : Result (Unit {0}) ScanStop) (fault : PageFault) → stop_by result ≡ Some (Faulted fault) → IsErrOf result (scan.Faulted fault)
fault_by (Ok done) fault e = absurd cc
fault_by (Err (scan.Halted halt)) fault e = absurd cc
fault_by (Err scan.Memory) fault e = absurd cc
fault_by (Err (scan.Faulted other)) fault e = ap (λ (f : PageFault). Err (scan.Faulted f)) (same_fault other fault e)

module _ {Q R : Type 0} (tells : Type 0) (history : R → History) (state : R → DeviceState) where
  module _ (b c : Bound Q R) (was : ReplyList) (looks : LooksUp tells history state b c) where
    none_done : HasDone tells history state 0 [] b c was was
    none_done = record {
      same = looks.same;
      between = looks.between;
      does = (looks.nothing, refl);
      evaluates = λ t all. record {
        replied = with_none was;
        map = ap (λ (pages : Partitions). pairs_in b.stripe.shape.partitions pages) (looks.nothing.told t);
        well_formed = subst (λ (pages : Partitions). AllWellFormed b.stripe.shape pages) (sym (looks.nothing.told t)) all;
      };
    }

    leaves_by : (result : Result (Unit {0}) ScanStop) → LeavesRound tells history state 0 [] b c was was (stop_by result)
    leaves_by (Ok done) = none_done
    leaves_by (Err (scan.Halted halt)) = none_done
    leaves_by (Err scan.Memory) = none_done
    leaves_by (Err (scan.Faulted fault)) = record { before = c; done = none_done; same = looks.same; bound = looks.between.bound; outbox = refl }

    pub as_round : (result : Result (Unit {0}) ScanStop) → HasScanCause state b c result → (tells → AllWellFormed b.stripe.shape (frame_pages history b) → ReadsNoBadPage result)
        → (tells → (may_change : ℕ → Bool) → MeetsInScan tells may_change b.stripe.shape (frame_pages history b) result) → AnswersRound tells history state 0 0 [] b c was was (end_by result)
    as_round result cause sound meets = record {
      inside = omega arith;
      all = λ e. refl;
      room = omega arith;
      spare = omega arith;
      leaves = leaves_by result;
      cause = λ e. cause (fault_by result Failed e);
      sound = λ t all id e. sound t all id (fault_by result (BadPage id) e);
      meets = λ t changed allows id e. meets t changed id (fault_by result (BadPage id) e);
    }

  -- ---- a store is bound

  module _ (old : FrameStoreView) (is : IsOpenStore old) (b : Bound Q R) (at_locks : b.locks.now ≡ old.locks) (at_seat : b.seat ≡ old.seat) (at_stripe : b.stripe ≡ old.stripe) where
    -- its worker has all partitions
    pub owns_all : OwnsAll b
    owns_all part below = record {
      there = below;
      own = ap (λ (l : LockTable). part % l.workers) at_locks ∙ ap (λ n. part % n) is.workers ∙ mod-one part ∙ sym (ap (λ (s : Stripe). s.number) at_stripe ∙ is.number);
    }

    -- ---- and its scan ended

    module _ (c : Bound Q R) (was now : ReplyList) (looks : LooksUp tells history state b c) (cache : ℕ) (result : Result (Unit {0}) ScanStop) (cause : HasScanCause state b c result)
        (sound : tells → AllWellFormed old.shape (frame_pages history b) → ReadsNoBadPage result)
        (meets : tells → (may_change : ℕ → Bool) → MeetsInScan tells may_change old.shape (frame_pages history b) result)
        (s : Stripe) (seat : Sight) (r : R) (dirty : Option ℕ) (flag : Bool) (ends : EndsRound tells history c s seat) (rest : IsAtRest c.locks.now (kept s seat)) (flag_is : flag ≡ may_go_on_after result) where
      abbrev new : FrameStoreView
      new = record old { seat = seat; stripe = s; dirty = dirty; is_open = flag }

      shape_is : old.shape ≡ b.stripe.shape
      shape_is = bound_shape tells history state old is b at_locks at_seat at_stripe

      answers : AnswersRound tells history state 0 0 [] b c was was (end_by result)
      answers = as_round b c was looks result cause (λ t all. sound t (subst (λ s. AllWellFormed s (frame_pages history b)) (sym shape_is) all))
          (λ t changed. subst (λ (s : Shape). MeetsInScan tells changed s (frame_pages history b) result) shape_is (meets t changed))

      pub after_scan : IsFrameStore old → IfSome dirty (λ count. count ≡ dirty_count new) → IsFrameStore new
      after_scan = after_round tells history state old is b at_locks at_seat at_stripe 0 0 [] c was was (end_by result) answers s seat r dirty flag ends rest (flag_is ∙ goes_on_by result)

      -- what is remembered of how many pages stay in Dirty frames is so
      pub scan_counted : IsFrameStore old → IfSome (count_after old.dirty flag (length old.stripe.outbox) (length s.outbox)) (λ count. count ≡ dirty_count new)
      scan_counted = round_counted tells history state old is b at_locks at_seat at_stripe 0 0 [] c was was (end_by result) answers s seat r flag ends rest (flag_is ∙ goes_on_by result)

      module _ (world : World) (at_world : (history b.reader).world ≡ world) where
        pub scans_store : r ≡ c.reader → (tells → AreClean (file_of s (history r)) (kept s seat)) → OnOk result (AppendsReply was now) → OnErr result (now ≡ was)
            → (tells → AllWellFormed old.shape (frame_pages history b) → OnOk result (now ≡ with_replies (reply_to old.shape (Good (Scan cache)) (pairs_in old.shape.partitions (frame_pages history b)) ∷ []) was))
            → ScansStore tells cache old new world was now result
        scans_store back clean replied no_reply evaluates =
            let round = runs_round tells history state old is b at_locks at_seat at_stripe 0 0 [] c was was (end_by result) answers s seat r dirty flag ends rest (flag_is ∙ goes_on_by result) world at_world back clean in
            let began = bound_began tells history state old is b at_locks at_seat at_stripe world at_world in
            let at_end = ended tells history state old is b at_locks at_seat at_stripe 0 0 [] c was was (end_by (Ok tt)) (as_round b c was looks (Ok tt) (λ e. absurd cc) (λ t all id e. absurd cc) (λ t changed id e. absurd cc)) s seat r dirty true ends rest refl world at_world refl in
            record {
              same = round.same;
              is_open = flag_is;
              outbox = ends.same.outbox ∙ looks.nothing.outbox ∙ ap (λ (t : Stripe). t.outbox) at_stripe;
              dirty = λ id.
                  let now_dirty = at_end.dirty id in
                  let was_dirty = began.dirty id in
                  (λ d. was_dirty.0 (looks.nothing.staying id (now_dirty.1 d)), λ d. now_dirty.0 (looks.nothing.still id (was_dirty.1 d)));
              pages = λ t. sym (at_end.pages t) ∙ looks.nothing.told t ∙ began.pages t;
              clean = round.clean;
              replied = replied;
              no_reply = no_reply;
              evaluates = λ t all.
                  subst (λ (pages : Partitions). OnOk result (now ≡ with_replies (reply_to old.shape (Good (Scan cache)) (pairs_in old.shape.partitions pages) ∷ []) was)) (began.pages t)
                  (evaluates t (subst (λ (pages : Partitions). AllWellFormed old.shape pages) (sym (began.pages t)) all));
              sound = λ t all. sound t (subst (λ (pages : Partitions). AllWellFormed old.shape pages) (sym (began.pages t)) all);
              meets = λ t changed. subst (λ (pages : Partitions). MeetsInScan tells changed old.shape pages result) (began.pages t) (meets t changed);
            }

-- ---- by a reader that a host lent

-- the same files
pub scan_there : (tells told : Type 0) (cache : ℕ) (old new : FrameStoreView) (v w : World) (was now : ReplyList) (result : Result (Unit {0}) ScanStop) → (tells → told) → (tells → w.pages ≡ v.pages) → ScansStore told cache old new w was now result
    → ScansStore tells cache old new v was now result
scan_there tells told cache old new v w was now result to same x =
    let at : tells → (store : FrameStoreView) → pages_in_frames store w ≡ pages_in_frames store v = (λ t store. ap (λ (pages : ℕ → File). pages_in_frames store (record v { pages = pages })) (same t)) in
    let well : tells → AllWellFormed old.shape (pages_in_frames old v) → AllWellFormed old.shape (pages_in_frames old w) = (λ t all. subst (λ (pages : Partitions). AllWellFormed old.shape pages) (sym (at t old)) all) in
    record {
      same = x.same;
      is_open = x.is_open;
      outbox = x.outbox;
      dirty = x.dirty;
      pages = λ t. sym (at t new) ∙ x.pages (to t) ∙ at t old;
      clean = λ t. clean_there new w v (sym (same t)) (x.clean (to t));
      replied = x.replied;
      no_reply = x.no_reply;
      evaluates = λ t all.
          subst (λ (pages : Partitions). OnOk result (now ≡ with_replies (reply_to old.shape (Good (Scan cache)) (pairs_in old.shape.partitions pages) ∷ []) was)) (at t old) (x.evaluates (to t) (well t all));
      sound = λ t all. x.sound (to t) (well t all);
      meets = λ t changed id is. subst (λ (pages : Partitions). MeetsBadPage tells changed old.shape pages id) (at t old) (met_told told tells to changed old.shape (pages_in_frames old w) id (x.meets (to t) changed id is));
    }

-- no reader was lent
pub not_scanned : (tells : Type 0) (cache : ℕ) (store : FrameStoreView) (world : World) (was : ReplyList) → store.is_open ≡ true → (tells → HasCleanPages store world) → ScansStore tells cache store store world was was (Err scan.Memory)
not_scanned tells cache store world was on clean = record {
  same = record { shape = refl; region = refl; locks = refl; files = refl; is_running = refl };
  is_open = on;
  outbox = refl;
  dirty = λ id. (λ d. d, λ d. d);
  pages = λ t. refl;
  clean = clean;
  replied = tt;
  no_reply = refl;
  evaluates = λ t all. tt;
  sound = λ t all id e. absurd cc;
  meets = λ t changed id e. absurd cc;
}
