-- A round that handed nothing over changed no page, so as many pages stay in Dirty frames as before it.
use Rattle.std.proofs.Common.{◌≡◌, ℕ, ◌+◌, ◌<◌, ◌≤◌, Bool, true, false, List, [], ◌∷◌, map, length, inl, inr, Option, None, Some, refl, sym, ap, subst, ◌∙◌, arith, length-append}
use Rattle.std.specs.Prelude.{◌==◌, ◌&&◌, ◌↔◌, ◌⊎◌, if◌then◌else◌, IfSome}
use Rattle.std.proofs.lemmas.Bool.{eqb-true, false≢true}
use Rattle.pm_types.specs.declared.page_id.PageId.{PageId}
use Rattle.pm_disk.specs.Moments.{History}
use Rattle.pm_disk.specs.States.{DeviceState}
use Rattle.pm_frame.specs.Frames.{Frame}
use Rattle.pm_records.specs.Operations.{Operation, operation_bytes, operation_head, records_bytes}
use Rattle.pm_records.specs.Records.{Record}
use Rattle.pm_model.specs.declared.line.Line.{Line}
use Rattle.pm_model.specs.ReplyLists.{ReplyList}
use Rattle.pm_locks.specs.Sight.{Sight}
use Rattle.pm_stripe.specs.declared.bound.Bound.{Bound}
use Rattle.pm_stripe.specs.declared.stripe.Stripe.{Stripe}
use Rattle.pm_stripe.specs.ChangedPages.{page_record, frame_for}
use Rattle.pm_stripe.specs.Ends.{EndsRound}
use Rattle.pm_stripe.specs.Kept.{IsStaying}
use Rattle.pm_stripe.specs.Listings.{after_logical, handed_bytes, handed_bytes_by}
use Rattle.pm_stripe.specs.Shown.{kept_by}
use Rattle.pm_stripe.specs.Stripes.{kept, IsAtRest}
use Rattle.pm_engine.specs.declared.frame_lines.Stop.{Stop}
use Rattle.pm_engine.specs.declared.frame_lines.Stop.TheVariants.{Halted, Faulted}
use Rattle.pm_engine.specs.declared.frame_rounds.RoundEnd.{RoundEnd}
use Rattle.pm_engine.specs.FrameCommands.{ChangesNothing}
use Rattle.pm_engine.specs.FrameHosts.{count_after, may_go_on}
use Rattle.pm_engine.specs.FrameRounds.{lines_from, LeavesRound, AnswersRound, DoesNext, DoesLines}
use Rattle.pm_engine.specs.FrameStores.{FrameStoreView, IsDirtyPage, IsOpenStore, IsFrameStore, dirty_count}
use Rattle.pm_engine.proofs.FrameHosts.{bound_began, after_round, ended}
use Rattle.pm_engine.proofs.KeptCounts.{as_many_dirty}
use Rattle.pm_engine.proofs.OutboxLoops.{head_long}

operation_some : (o : Operation) → 0 < length (operation_bytes o)
unfolding operation_bytes
operation_some o =
    let long = length (records_bytes o.records) in
    omega (arith, length-append (operation_head o.line long) (records_bytes o.records), head_long o.line long)

-- what an operation with a record of its own hands over isn't empty
handed_some : (rec : Record) (frames : List Frame) (o : Operation) → o.records ≡ after_logical (Some rec) frames → 0 < length (handed_bytes o)
handed_some rec frames o is = subst (λ records. 0 < length (handed_bytes_by records o)) (sym is) (operation_some o)

-- ---- the lines of a round

module _ {Q R : Type 0} (tells : Type 0) (history : R → History) (state : R → DeviceState) where
  -- a line makes the outbox longer, or changes nothing
  longer_or : (number : ℕ) (line : Line) (b c : Bound Q R) (was now : ReplyList) → DoesNext tells history number line b c was now → (length b.stripe.outbox < length c.stripe.outbox) ⊎ ChangesNothing tells history b c
  longer_or number line b c was now next = by next.accepted refl
    where
      by : (accepted : Bool) → next.accepted ≡ accepted → (length b.stripe.outbox < length c.stripe.outbox) ⊎ ChangesNothing tells history b c
      by false off = inr (next.does.refused off)
      by true on =
          let hands = next.does.hands on in
          let grows = hands.change.grows in
          let over = grows.hands in
          let some = handed_some hands.rec (map (λ p. frame_for (page_record p)) over.is.listed) over.operation over.is.records_are in
          inl (omega (arith, ap length grows.grows, length-append b.stripe.outbox grows.more, ap length over.bytes_are, some))

  not_shorter : (number : ℕ) (line : Line) (b c : Bound Q R) (was now : ReplyList) → DoesNext tells history number line b c was now → length b.stripe.outbox ≤ length c.stripe.outbox
  not_shorter number line b c was now next = elim (longer_or number line b c was now next) [
    | inl longer ↦ omega (arith, longer)
    | inr nothing ↦ omega (arith, ap length nothing.outbox)
  ]

  lines_not_shorter : (lines : List Line) (number : ℕ) (b c : Bound Q R) (was now : ReplyList) → DoesLines tells history number lines b c was now → length b.stripe.outbox ≤ length c.stripe.outbox
  lines_not_shorter [] number b c was now does = omega (arith, ap length does.0.outbox)
  lines_not_shorter (line ∷ lines) number b c was now (m, mid, next, rest) =
      omega (arith, not_shorter number line b m was mid next, lines_not_shorter lines (number + 1) m c mid now rest)

  next_still : (number : ℕ) (line : Line) (b c : Bound Q R) (was now : ReplyList) → DoesNext tells history number line b c was now → length c.stripe.outbox ≤ length b.stripe.outbox
      → (id : PageId) → IsStaying (kept_by b) id ↔ IsStaying (kept_by c) id
  next_still number line b c was now next as_long id = elim (longer_or number line b c was now next) [
    | inl longer ↦ absurd (omega (arith, longer, as_long))
    | inr nothing ↦ (nothing.still id, nothing.staying id)
  ]

  -- after lines that made it no longer the same pages stay in their frames
  lines_still : (lines : List Line) (number : ℕ) (b c : Bound Q R) (was now : ReplyList) → DoesLines tells history number lines b c was now → length c.stripe.outbox ≤ length b.stripe.outbox
      → (id : PageId) → IsStaying (kept_by b) id ↔ IsStaying (kept_by c) id
  lines_still [] number b c was now does as_long id = (does.0.still id, does.0.staying id)
  lines_still (line ∷ lines) number b c was now (m, mid, next, rest) as_long id =
      let one = next_still number line b m was mid next (omega (arith, as_long, lines_not_shorter lines (number + 1) m c mid now rest)) id in
      let others = lines_still lines (number + 1) m c mid now rest (omega (arith, as_long, not_shorter number line b m was mid next)) id in
      (λ stay. others.0 (one.0 stay), λ stay. one.1 (others.1 stay))

  stop_still : (number : ℕ) (lines : List Line) (b c : Bound Q R) (was now : ReplyList) (stop : Option Stop) → may_go_on stop ≡ true → LeavesRound tells history state number lines b c was now stop
      → length c.stripe.outbox ≤ length b.stripe.outbox → (id : PageId) → IsStaying (kept_by b) id ↔ IsStaying (kept_by c) id
  stop_still number lines b c was now None on x as_long = lines_still lines number b c was now x.does as_long
  stop_still number lines b c was now (Some (Halted halt)) on x as_long = lines_still lines number b c was now x.does as_long
  stop_still number lines b c was now (Some (Faulted fault)) on x as_long = absurd (false≢true on)

-- ---- the store

module _ {Q R : Type 0} (tells : Type 0) (history : R → History) (state : R → DeviceState) (old : FrameStoreView) (is : IsOpenStore old) (b : Bound Q R) (at_locks : b.locks.now ≡ old.locks) (at_seat : b.seat ≡ old.seat) (at_stripe : b.stripe ≡ old.stripe)
    (first from : ℕ) (lines : List Line) (c : Bound Q R) (was now : ReplyList) (end : RoundEnd) (answers : AnswersRound tells history state first from lines b c was now end)
    (s : Stripe) (seat : Sight) (r : R) (flag : Bool) (ends : EndsRound tells history c s seat) (rest : IsAtRest c.locks.now (kept s seat)) (flag_is : flag ≡ may_go_on end.stop) (was_store : IsFrameStore old) where
  abbrev new : FrameStoreView
  new = record old { seat = seat; stripe = s; dirty = None; is_open = flag }

  store_then : IsFrameStore new
  store_then = after_round tells history state old is b at_locks at_seat at_stripe first from lines c was now end answers s seat r None flag ends rest flag_is was_store tt

  same_stay : flag ≡ true → length old.stripe.outbox ≡ length s.outbox → (id : PageId) → IsDirtyPage old id ↔ IsDirtyPage new id
  same_stay on same id =
      let world = (history b.reader).world in
      let before = bound_began tells history state old is b at_locks at_seat at_stripe world refl in
      let after = ended tells history state old is b at_locks at_seat at_stripe first from lines c was now end answers s seat r None flag ends rest flag_is world refl on in
      let as_long : length c.stripe.outbox ≤ length b.stripe.outbox = omega (arith, same, ap length ends.same.outbox, ap (λ (t : Stripe). length t.outbox) at_stripe) in
      let still = stop_still tells history state (first + from) (lines_from from end.done lines) b c was now end.stop (sym flag_is ∙ on) answers.leaves as_long id in
      (λ stay. (after.dirty id).0 (still.0 ((before.dirty id).1 stay)), λ stay. (before.dirty id).0 (still.1 ((after.dirty id).1 stay)))

  -- what is remembered of how many there are is so
  pub round_counted : IfSome (count_after old.dirty flag (length old.stripe.outbox) (length s.outbox)) (λ count. count ≡ dirty_count new)
  round_counted = by flag (length old.stripe.outbox == length s.outbox) old.dirty refl refl was_store.counted
    where
      by : (goes_on same : Bool) (counted : Option ℕ) → flag ≡ goes_on → (length old.stripe.outbox == length s.outbox) ≡ same → IfSome counted (λ count. count ≡ dirty_count old)
          → IfSome (if goes_on && same then counted else None) (λ count. count ≡ dirty_count new)
      by true true None on is_same so = tt
      by true true (Some count) on is_same so =
          so ∙ as_many_dirty old new was_store.seat is store_then.seat (store_then.open_is on) (same_stay on (eqb-true _ _ is_same))
      by true false counted on is_same so = tt
      by false same counted on is_same so = tt
