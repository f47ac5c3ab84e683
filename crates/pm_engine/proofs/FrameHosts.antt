-- A round of lines over the pages of an open store leaves a store.
use Rattle.std.proofs.Common.{◌≡◌, ℕ, ◌<◌, ◌%◌, Bool, true, false, List, [], ◌∷◌, ◌++◌, inl, inr, Option, None, Some, sym, refl, ap, subst, ◌∙◌, arith}
use Rattle.std.specs.Prelude.{◌≤◌, ◌+◌, ◌^◌, ◌&&◌, nat_lt, IfSome, if◌then◌else◌}
use Rattle.std.proofs.lemmas.Bool.{false≢true}
use Rattle.std.proofs.lemmas.List.{append-nil, append_assoc}
use Rattle.std.proofs.lemmas.Nat.{mod_below}
use Rattle.std.proofs.Math.Nat.{mod-one}
use Rattle.pm_types.specs.declared.page_id.PageId.{PageId}
use Rattle.pm_types.specs.declared.shape.Shape.{Shape}
use Rattle.pm_types.specs.Ids.{page_id}
use Rattle.pm_disk.specs.Moments.{History}
use Rattle.pm_disk.specs.States.{DeviceState}
use Rattle.pm_disk.specs.Worlds.{World}
use Rattle.pm_frame.specs.Frames.{Frame}
use Rattle.pm_records.specs.Operations.{Operation, IsOperation, AreOperations, operation_bytes, operations_bytes}
use Rattle.pm_model.specs.declared.line.Cmd.TheVariants.{Put, Get, Remove, Scan, Checkpoint}
use Rattle.pm_model.specs.declared.line.Line.{Line}
use Rattle.pm_model.specs.declared.line.Line.TheVariants.{Good, Bad, Long}
use Rattle.pm_model.specs.Orders.{part_of_line}
use Rattle.pm_model.specs.Partitions.{fnv_1a}
use Rattle.pm_model.specs.ReplyLists.{ReplyList}
use Rattle.pm_locks.specs.Sight.{LockTable, Sight}
use Rattle.pm_locks.specs.declared.view.Entry.{Entry}
use Rattle.pm_stripe.specs.declared.bound.Bound.{Bound}
use Rattle.pm_stripe.specs.declared.held.Held.{Held}
use Rattle.pm_stripe.specs.declared.stripe.Stripe.{Stripe}
use Rattle.pm_stripe.specs.Bounds.{IsBound}
use Rattle.pm_stripe.specs.Ends.{EndsRound}
use Rattle.pm_stripe.specs.Kept.{Kept, Holds, AreClean, held_at, place_of, page_bytes, bytes_by, is_known, known_by, IsStaying}
use Rattle.pm_stripe.specs.Listings.{handed_bytes_by}
use Rattle.pm_stripe.specs.Reads.{Reads}
use Rattle.pm_stripe.specs.Readable.{ReadsAtHand, BoundReadsAtHand}
use Rattle.pm_stripe.specs.Shown.{kept_by, file_by}
use Rattle.pm_stripe.specs.Sights.{KeepsSight, AreSettled}
use Rattle.pm_stripe.specs.SightLaws.{sight_then}
use Rattle.pm_stripe.specs.Stripes.{kept, file_in, file_of, IsAtRest}
use Rattle.pm_stripe.proofs.BasePages.{staying_known}
use Rattle.pm_stripe.proofs.ReadableParts.{keeps_reading, reads_by_parts}
use Rattle.pm_engine.specs.declared.frame_lines.Stop.{Stop}
use Rattle.pm_engine.specs.declared.frame_lines.Stop.TheVariants.{Halted, Faulted}
use Rattle.pm_engine.specs.declared.frame_rounds.RoundEnd.{RoundEnd}
use Rattle.pm_engine.specs.FrameCommands.{frame_pages, AreReadable, IsSameWorker, IsBetweenLines}
use Rattle.pm_engine.specs.FrameHosts.{IsStoreLine, HasPagesOf, RunsRound, may_go_on}
use Rattle.pm_engine.specs.FrameLines.{HasKey, IsRoundLine}
use Rattle.pm_engine.specs.FrameRounds.{lines_from, LeavesRound, AnswersRound, DoesNext, DoesLines}
use Rattle.pm_engine.specs.FrameStores.{FrameStoreView, pages_in_frames, dirty_count, IsOpenStore, IsFrameStore}
use Rattle.pm_engine.specs.OutboxLogs.{AreOperationBytes, records_of}
use Rattle.pm_engine.proofs.FrameChanges.{known_staying}
use Rattle.pm_engine.proofs.FrameReads.{part_readable}

-- ---- outboxes

-- operations and what one more hands over are operations
pub grown_bytes : (old new : List ℕ) (o : Operation) (records : List Frame) → o.records ≡ records → IsOperation o → AreOperationBytes old → new ≡ old ++ handed_bytes_by records o → AreOperationBytes new
grown_bytes old new o [] at is was bytes = subst AreOperationBytes (sym (bytes ∙ append-nil old)) was
grown_bytes old new o (frame ∷ more) at is (told, was) bytes = (
  records_of (was.operations ++ o ∷ []),
  record {
    operations = was.operations ++ o ∷ [];
    are = all_are was.operations was.are;
    bytes_are = bytes ∙ ap (λ bs. bs ++ operation_bytes o) was.bytes_are ∙ sym (all_bytes was.operations);
    frames_are = refl;
  },
)
  where
    all_bytes : (xs : List Operation) → operations_bytes (xs ++ o ∷ []) ≡ operations_bytes xs ++ operation_bytes o
    all_bytes [] = append-nil (operation_bytes o)
    all_bytes (x ∷ xs) = ap (λ bs. operation_bytes x ++ bs) (all_bytes xs) ∙ sym (append_assoc (operation_bytes x) (operations_bytes xs) (operation_bytes o))

    all_are : (xs : List Operation) → AreOperations xs → AreOperations (xs ++ o ∷ [])
    all_are [] were = (is, tt)
    all_are (x ∷ xs) were = (were.0, all_are xs were.1)

module _ {Q R : Type 0} (tells : Type 0) (history : R → History) (state : R → DeviceState) where
  next_bytes : (number : ℕ) (line : Line) (b c : Bound Q R) (was now : ReplyList) → DoesNext tells history number line b c was now → AreOperationBytes b.stripe.outbox → AreOperationBytes c.stripe.outbox
  next_bytes number line b c was now next bytes = by next.accepted refl
    where
      by : (accepted : Bool) → next.accepted ≡ accepted → AreOperationBytes c.stripe.outbox
      by false off = subst AreOperationBytes (sym (next.does.refused off).outbox) bytes
      by true on =
          let change = (next.does.hands on).change in
          let grows = change.grows in
          let o = grows.hands.operation in
          grown_bytes b.stripe.outbox c.stripe.outbox o o.records refl grows.hands.is.is_operation bytes (grows.grows ∙ ap (λ more. b.stripe.outbox ++ more) grows.hands.bytes_are)

  -- an outbox is operations still after lines
  lines_bytes : (lines : List Line) (number : ℕ) (b c : Bound Q R) (was now : ReplyList) → DoesLines tells history number lines b c was now → AreOperationBytes b.stripe.outbox → AreOperationBytes c.stripe.outbox
  lines_bytes [] number b c was now does bytes = subst AreOperationBytes (sym does.0.outbox) bytes
  lines_bytes (line ∷ lines) number b c was now (m, mid, next, rest) bytes = lines_bytes lines (number + 1) m c mid now rest (next_bytes number line b m was mid next bytes)

  -- ---- however a round stopped

  module _ (number : ℕ) (lines : List Line) (b c : Bound Q R) (was now : ReplyList) where
    stop_same : (stop : Option Stop) → LeavesRound tells history state number lines b c was now stop → IsSameWorker tells history state b c
    stop_same None x = x.same
    stop_same (Some (Halted halt)) x = x.same
    stop_same (Some (Faulted fault)) x = x.same

    stop_bound : (stop : Option Stop) → LeavesRound tells history state number lines b c was now stop → IsBound tells history state c
    stop_bound None x = x.between.bound
    stop_bound (Some (Halted halt)) x = x.between.bound
    stop_bound (Some (Faulted fault)) x = x.bound

    stop_between : (stop : Option Stop) → may_go_on stop ≡ true → LeavesRound tells history state number lines b c was now stop → IsBetweenLines tells history state c
    stop_between None on x = x.between
    stop_between (Some (Halted halt)) on x = x.between
    stop_between (Some (Faulted fault)) on x = absurd (false≢true on)

    stop_bytes : (stop : Option Stop) → LeavesRound tells history state number lines b c was now stop → AreOperationBytes b.stripe.outbox → AreOperationBytes c.stripe.outbox
    stop_bytes None x bytes = lines_bytes lines number b c was now x.does bytes
    stop_bytes (Some (Halted halt)) x bytes = lines_bytes lines number b c was now x.does bytes
    stop_bytes (Some (Faulted fault)) x bytes = subst AreOperationBytes (sym x.outbox) (lines_bytes lines number b x.before was now x.done.does bytes)

  pub end_bound : (first from : ℕ) (lines : List Line) (b c : Bound Q R) (was now : ReplyList) (end : RoundEnd) → AnswersRound tells history state first from lines b c was now end → IsBound tells history state c
  end_bound first from lines b c was now end answers = stop_bound (first + from) (lines_from from end.done lines) b c was now end.stop answers.leaves

-- ---- pages at hand

hand_bytes : (o : Option Held) (p : Option (ℕ × ℕ)) (es : List Entry) (n : ℕ) (x y : Option (List ℕ)) → known_by o p es n ≡ true → bytes_by o p es n x ≡ bytes_by o p es n y
hand_bytes (Some h) p es n x y known = refl
hand_bytes None (Some q) es n x y known = refl
hand_bytes None None es n x y known = absurd (false≢true known)

-- those at hand are the same whatever the files have
pub any_file : (f g : PageId → Option (List ℕ)) (k : Kept) (id : PageId) → is_known k id ≡ true → page_bytes f k id ≡ page_bytes g k id
any_file f g k id known = hand_bytes (held_at k.held id.0) (place_of k id) k.seat.view.entries k.number (f id) (g id) known

pub any_reads : (f g : PageId → Option (List ℕ)) (workers : ℕ) (k : Kept) → ReadsAtHand f workers k → ReadsAtHand g workers k
any_reads f g workers k reads id own known = subst (λ o. IfSome o (Reads id)) (any_file f g k id known) (reads id own known)

-- ---- lines of a store are lines of a round

key_below : (shape : Shape) (line : Line) → 1 ≤ shape.partitions → HasKey line → part_of_line shape line < shape.partitions
key_below shape (Good (Put cache key value)) some has = mod_below (fnv_1a key) shape.partitions some
key_below shape (Good (Get cache key)) some has = mod_below (fnv_1a key) shape.partitions some
key_below shape (Good (Remove cache key)) some has = mod_below (fnv_1a key) shape.partitions some
key_below shape (Good (Scan cache)) some has = absurd has
key_below shape (Good Checkpoint) some has = absurd has
key_below shape Bad some has = absurd has
key_below shape Long some has = absurd has

module _ {Q R : Type 0} (tells : Type 0) (history : R → History) (state : R → DeviceState) where
  -- a worker that has these bytes has these pages
  pub pages_are : (store : FrameStoreView) (world : World) (b : Bound Q R) → b.stripe.shape ≡ store.shape
      → ((id : PageId) → page_bytes (file_by history b) (kept_by b) id ≡ page_bytes (file_in store.stripe world) (kept store.stripe store.seat) id) → frame_pages history b ≡ pages_in_frames store world
  pages_are store world b shape each = λ i part index. if nat_lt part (shape i).partitions && nat_lt index (2 ^ 32) then each (page_id part index) i else None

  -- ---- a store is bound

  module _ (old : FrameStoreView) (is : IsOpenStore old) (b : Bound Q R) (at_locks : b.locks.now ≡ old.locks) (at_seat : b.seat ≡ old.seat) (at_stripe : b.stripe ≡ old.stripe) where
    kept_is : kept_by b ≡ kept old.stripe old.seat
    kept_is = λ i. kept (at_stripe i) (at_seat i)

    none_held : b.stripe.held.items ≡ []
    none_held = ap (λ (s : Stripe). s.held.items) at_stripe ∙ is.rests.none_held

    bound_holds : Holds b.locks.now (kept_by b)
    bound_holds = subst (λ (p : LockTable × Kept). Holds p.0 p.1) (λ i. (sym at_locks i, sym kept_is i)) is.rests.holds

    bound_reads : BoundReadsAtHand history b
    bound_reads = subst (λ (p : LockTable × Kept). ReadsAtHand (file_by history b) p.0.workers p.1) (λ i. (sym at_locks i, sym kept_is i))
        (any_reads (λ id. None) (file_by history b) old.locks.workers (kept old.stripe old.seat) is.readable)

    bound_readable : AreReadable history b
    bound_readable = record {
      each = λ part index below low known. (reads_by_parts.shown (file_by history b) 0 b.locks.now (kept_by b) bound_holds bound_reads part).each index known;
    }

    pub bound_between : IsBound tells history state b → IsBetweenLines tells history state b
    bound_between bound = record { bound = bound; none_held = none_held; readable = bound_readable }

    pub bound_shape : old.shape ≡ b.stripe.shape
    bound_shape = sym (ap (λ (s : Stripe). s.shape) at_stripe ∙ is.shaped)

    pub bound_line : (line : Line) → IsStoreLine line → IsRoundLine b line
    bound_line line x = record {
      cache = x.cache;
      no_scan = x.no_scan;
      own = λ has. record {
        there = key_below b.stripe.shape line bound_holds.shaped.partitions_from has;
        own = ap (λ (l : LockTable). part_of_line b.stripe.shape line % l.workers) at_locks ∙ ap (λ n. part_of_line b.stripe.shape line % n) is.workers
            ∙ mod-one (part_of_line b.stripe.shape line) ∙ sym (ap (λ (s : Stripe). s.number) at_stripe ∙ is.number);
      };
    }

    pub bound_began : (world : World) → (history b.reader).world ≡ world → HasPagesOf tells history old world b
    bound_began world at_world =
        let each : (id : PageId) → page_bytes (file_by history b) (kept_by b) id ≡ page_bytes (file_in old.stripe world) (kept old.stripe old.seat) id =
        (λ id i. page_bytes (file_in (at_stripe i) (at_world i)) (kept_is i) id) in
        record {
          locks = at_locks;
          shape = sym bound_shape;
          files = ap (λ (s : Stripe). s.files) at_stripe;
          outbox = ap (λ (s : Stripe). s.outbox) at_stripe;
          dirty = λ id. (λ stay. subst (λ (k : Kept). IsStaying k id) kept_is stay, λ stay. subst (λ (k : Kept). IsStaying k id) (sym kept_is) stay);
          at_hand = λ id known file. each id ∙ any_file (file_in old.stripe world) file (kept old.stripe old.seat) id (sym (ap (λ (k : Kept). is_known k id) kept_is) ∙ known);
          pages = λ _. pages_are old world b (sym bound_shape) each;
        }

    -- ---- and its round ended

    module _ (first from : ℕ) (lines : List Line) (c : Bound Q R) (was now : ReplyList) (end : RoundEnd) (answers : AnswersRound tells history state first from lines b c was now end)
        (s : Stripe) (seat : Sight) (r : R) (dirty : Option ℕ) (flag : Bool) (ends : EndsRound tells history c s seat) (rest : IsAtRest c.locks.now (kept s seat)) (flag_is : flag ≡ may_go_on end.stop) where
      abbrev new : FrameStoreView
      new = record old { seat = seat; stripe = s; dirty = dirty; is_open = flag }

      same : IsSameWorker tells history state b c
      same = stop_same tells history state (first + from) (lines_from from end.done lines) b c was now end.stop answers.leaves

      bound_at_end : IsBound tells history state c
      bound_at_end = end_bound tells history state first from lines b c was now end answers

      locks_are : c.locks.now ≡ old.locks
      locks_are = ap (λ l. l.now) same.locks ∙ at_locks

      shape_is : c.stripe.shape ≡ old.shape
      shape_is = same.shape ∙ sym bound_shape

      sight : KeepsSight old.locks old.seat.view seat.view
      sight =
          let later : KeepsSight b.locks.now b.seat.view seat.view = sight_then b.locks.now b.seat.view c.seat.view seat.view same.sight (subst (λ l. KeepsSight l.now c.seat.view seat.view) same.locks ends.sight) in
          subst (λ (p : LockTable × Sight). KeepsSight p.0 p.1.view seat.view) (λ i. (at_locks i, at_seat i)) later

      rests : IsAtRest old.locks (kept s seat)
      rests = subst (λ (l : LockTable). IsAtRest l (kept s seat)) locks_are rest

      between : flag ≡ true → IsBetweenLines tells history state c
      between opened = stop_between tells history state (first + from) (lines_from from end.done lines) b c was now end.stop (sym flag_is ∙ opened) answers.leaves

      reads : flag ≡ true → ReadsAtHand (λ id. None) old.locks.workers (kept s seat)
      reads opened =
          let x = between opened in
          let k = kept_by c in
          let here : BoundReadsAtHand history c = reads_by_parts.parts (file_by history c) (state c.reader).faults c.locks.now.workers k
          (λ part below own. part_readable history state c part bound_at_end.holds (omega (arith, below, bound_at_end.holds.shaped.partitions_to)) x.readable) in
          let there = (keeps_reading tells history state).end c s seat ends here in
          subst (λ (l : LockTable). ReadsAtHand (λ id. None) l.workers (kept s seat)) locks_are (any_reads (file_of s (history c.reader)) (λ id. None) c.locks.now.workers (kept s seat) there)

      open_after : flag ≡ true → IsOpenStore new
      open_after opened = record {
        workers = is.workers;
        number = ends.same.number ∙ same.number ∙ ap (λ (t : Stripe). t.number) at_stripe ∙ is.number;
        shaped = ends.same.shape ∙ shape_is;
        settled = sight.settled is.settled;
        rests = rests;
        idle = ends.same.is_running ∙ same.is_running ∙ ap (λ (t : Stripe). t.is_running) at_stripe ∙ is.idle;
        readable = reads opened;
      }

      pub after_round : IsFrameStore old → IfSome dirty (λ count. count ≡ dirty_count new) → IsFrameStore new
      after_round was_store counted = record {
        seat = record { of = rests.holds.worker.seat_of; knows = sight.knows was_store.seat.knows; still = ends.still };
        outbox = subst AreOperationBytes (sym ends.same.outbox)
            (stop_bytes tells history state (first + from) (lines_from from end.done lines) b c was now end.stop answers.leaves (subst (λ (t : Stripe). AreOperationBytes t.outbox) (sym at_stripe) was_store.outbox));
        counted = counted;
        open_is = open_after;
        frames = was_store.frames;
        size = was_store.size;
        ranges = was_store.ranges;
      }

      module _ (world : World) (at_world : (history b.reader).world ≡ world) where
        told_world : tells → (history c.reader).world ≡ world
        told_world t = same.world t ∙ at_world

        at_end : tells → (id : PageId) → page_bytes (file_by history c) (kept_by c) id ≡ page_bytes (file_in s world) (kept s seat) id
        at_end t id = sym (ends.pages id (inl t)) ∙ (λ i. page_bytes (file_in s (told_world t i)) (kept s seat) id)

        pub ended : flag ≡ true → HasPagesOf tells history new world c
        ended opened = record {
          locks = locks_are;
          shape = shape_is;
          files = sym ends.same.files;
          outbox = sym ends.same.outbox;
          dirty = λ id. (
            ends.staying id,
            λ stay.
                let away = ap (λ hs. held_at hs id.0) (between opened).none_held in
                known_staying (kept_by c) id away (sym (ends.only id away) ∙ staying_known (kept s seat) id stay),
          );
          at_hand = λ id known file.
              let only = ends.only id (ap (λ hs. held_at hs id.0) (between opened).none_held) in
              sym (ends.pages id (inr (only ∙ known))) ∙ any_file (file_of s (history c.reader)) file (kept s seat) id (only ∙ known);
          pages = λ t. pages_are new world c shape_is (at_end t);
        }

        pub runs_round : r ≡ c.reader → (tells → AreClean (file_of s (history r)) (kept s seat)) → RunsRound Q tells history state first from lines old new world was now r end
        runs_round back clean = record {
          same = record {
            shape = refl;
            region = refl;
            locks = refl;
            files = ends.same.files ∙ same.files ∙ ap (λ (t : Stripe). t.files) at_stripe;
            is_running = ends.same.is_running ∙ same.is_running ∙ ap (λ (t : Stripe). t.is_running) at_stripe;
          };
          is_open = flag_is;
          start = b;
          finish = c;
          answers = answers;
          began = bound_began world at_world;
          settled = subst (λ (p : LockTable × Sight). AreSettled p.0 p.1.view) (λ i. (sym at_locks i, sym at_seat i)) is.settled;
          ended = ended;
          outbox = ends.same.outbox;
          clean = λ t. subst (λ w. AreClean (file_in s w) (kept s seat)) (ap (λ (x : R). (history x).world) back ∙ told_world t) (clean t);
          reader = back;
        }
