-- Pages in hand are put back, one after another, and may be logged before that.
use Rattle.std.proofs.Common.{◌≡◌, ◌≢◌, ℕ, zero, suc, ◌+◌, ◌*◌, ◌≤◌, List, [], ◌∷◌, ◌++◌, length, Option, Some, None, sym, refl, ap, subst, ◌∙◌, arith, append_assoc, append-nil, length-append}
use Rattle.std.proofs.Math.Nat.{suc-mul}
use Rattle.std.specs.Prelude.{IsTrue, IfSome, slice_get}
use Rattle.std.proofs.lemmas.List.Sums.{sum_by-cons}
use Rattle.std.proofs.lemmas.Option.{slice_get_within}
use Rattle.pm_types.specs.declared.limits.TheConstants.{OP_EXTRA, OP_PAGES, OUTBOX}
use Rattle.pm_types.specs.declared.page_id.PageId.{PageId}
use Rattle.pm_types.specs.PageSizes.{IsPageSize}
use Rattle.pm_types.specs.Spans.{Coverage}
use Rattle.pm_locks.specs.Sight.{LockTable}
use Rattle.pm_locks.proofs.Pushing.{slice_get-push, slice_get-front}
use Rattle.pm_stripe.specs.declared.limits.TheConstants.{PAGE_EXTRA}
use Rattle.pm_stripe.specs.declared.held.Held.{Held}
use Rattle.pm_stripe.specs.declared.stripe.Stripe.{Stripe}
use Rattle.pm_stripe.specs.Dones.{HasOutboxRoom}
use Rattle.pm_stripe.specs.Kept.{Kept, held_at, place_of, known_by, is_known, Holds}
use Rattle.pm_stripe.specs.Listings.{AreLoggable, pages_room}
use Rattle.pm_stripe.specs.Puts.{put_flag, put_word, AreStayingCovered, IsPutAs, LeavesWords, PutsLast, PutsBack}
use Rattle.pm_stripe.specs.SightLaws.{sight_refl, sight_then}
use Rattle.pm_stripe.proofs.Hands.{none_named}

-- nothing is put back
pub puts_none : (locks : LockTable) (k : Kept) → Holds locks k → PutsBack locks k k
puts_none locks k holds = record {
  holds = holds;
  rest = [];
  held = sym (append-nil k.held);
  free = refl;
  shape = refl;
  number = refl;
  left = record { words = refl; met = refl; sight = sight_refl locks k.seat.view };
  put = λ i h is. absurd (cc is);
  only = λ id none. refl;
  staying = λ id is. is;
  at_hand = λ file id is. refl;
  clean = λ file is covered. is;
  told = λ file id is covered. refl;
}

-- an element of the second list, in both
pub behind : {X : Type 0} (xs ys : List X) (i j : ℕ) → j ≡ length xs + i → slice_get (xs ++ ys) j ≡ slice_get ys i
behind [] ys i j e = let same : j ≡ i = omega (arith, e) in ap (slice_get ys) same
behind (x ∷ xs) ys i zero e = absurd (omega (arith, e))
behind (x ∷ xs) ys i (suc j) e = behind xs ys i j (omega (arith, e))

-- the pages that are left are covered too
pub still_staying : (held rest all : List Held) → all ≡ held ++ rest → AreStayingCovered all → AreStayingCovered held
still_staying held rest all list covered i h is = covered i h (ap (λ hs. slice_get hs i) list ∙ slice_get-front held rest i (slice_get_within held i h is) ∙ is)

-- one page more is put back
module _ (locks : LockTable) (k k₁ k₂ : Kept) (holds : Holds locks k) (x : PutsBack locks k k₁) (y : PutsLast locks k₁ k₂) where
  front_at : (i : ℕ) (h : Held) → slice_get k₁.held i ≡ Some h → slice_get k.held i ≡ Some h
  front_at i h is = ap (λ hs. slice_get hs i) x.held ∙ slice_get-front k₁.held x.rest i (slice_get_within k₁.held i h is) ∙ is

  last_at : slice_get k₁.held (length k₂.held) ≡ Some y.last
  last_at = ap (λ hs. slice_get hs (length k₂.held)) y.held ∙ slice_get-push k₂.held y.last

  last_in : slice_get k.held (length k₂.held) ≡ Some y.last
  last_in = front_at (length k₂.held) y.last last_at

  behind_at : (i : ℕ) (h : Held) → slice_get x.rest i ≡ Some h → slice_get k.held (length k₁.held + i) ≡ Some h
  behind_at i h is = ap (λ hs. slice_get hs (length k₁.held + i)) x.held ∙ behind k₁.held x.rest i (length k₁.held + i) refl ∙ is

  other_place : (i : ℕ) → length k₁.held + i ≡ length k₂.held → ⊥
  other_place i e = omega (arith, e, ap length y.held, length-append k₂.held (y.last ∷ []))

  other_name : (i : ℕ) (h : Held) → slice_get x.rest i ≡ Some h → h.page.0 ≢ y.last.page.0
  other_name i h is e = other_place i (holds.apart.names.once (length k₁.held + i) (length k₂.held) h y.last (behind_at i h is) last_in e)

  other_frame : (i : ℕ) (h : Held) → slice_get x.rest i ≡ Some h → h.frame ≢ y.last.frame
  other_frame i h is e = other_place i (holds.apart.held_once.once (length k₁.held + i) (length k₂.held) h y.last (behind_at i h is) last_in e)

  put_all : (i : ℕ) (h : Held) → slice_get (y.last ∷ x.rest) i ≡ Some h → IsPutAs k₂ h (put_flag h)
  put_all zero h is = let e : y.last ≡ h = cc is in subst (λ (z : Held). IsPutAs k₂ z (put_flag z)) e y.put
  put_all (suc i) h is =
      let d = x.put i h is in record {
        entry = d.entry;
        at = y.put_else h.frame (other_frame i h is) ∙ d.at;
        flag_is = d.flag_is;
        bytes_are = d.bytes_are;
        kept = λ some. y.place_else h.page (other_name i h is) ∙ d.kept some;
        gone = λ e. y.place_else h.page (other_name i h is) ∙ d.gone e;
      }

  left_all : LeavesWords locks k k₂ put_flag (y.last ∷ x.rest)
  left_all = record {
    words = y.left.words ∙ (λ i. (y.last.frame, put_word (x.number i) y.last (put_flag y.last)) ∷ x.left.words i);
    met = y.left.met ∙ x.left.met;
    sight = sight_then locks k.seat.view k₁.seat.view k₂.seat.view x.left.sight y.left.sight;
  }

  -- what is at hand then was so before
  known_before : (id : PageId) → IsTrue (is_known k₂ id) → IsTrue (is_known k₁ id)
  known_before id known = by_held (held_at k₁.held id.0) refl
    where
      by_held : (o : Option Held) → held_at k₁.held id.0 ≡ o → IsTrue (is_known k₁ id)
      by_held (Some h) is = ap (λ o. known_by o (place_of k₁ id) k₁.seat.view.entries k₁.number) is
      by_held None is = sym (y.only id (λ e. none_named k₁.held id.0 (length k₂.held) y.last is last_at (sym e))) ∙ known

  pub puts_then : PutsBack locks k k₂
  puts_then = record {
    holds = y.holds;
    rest = y.last ∷ x.rest;
    held = x.held ∙ ap (λ hs. hs ++ x.rest) y.held ∙ append_assoc k₂.held (y.last ∷ []) x.rest;
    free = y.free ∙ x.free;
    shape = y.shape ∙ x.shape;
    number = y.number ∙ x.number;
    left = left_all;
    put = put_all;
    only = λ id none. y.only id (λ e. none_named k.held id.0 (length k₂.held) y.last none last_in (sym e)) ∙ x.only id none;
    staying = λ id is. y.staying id (x.staying id is);
    at_hand = λ file id is. y.at_hand file id is ∙ x.at_hand file id (known_before id is);
    clean = λ file is covered. y.clean file (x.clean file is covered) (λ i h at. covered i h (front_at i h at));
    told = λ file id is covered. y.told file id (x.clean file is covered) (λ i h at. covered i h (front_at i h at)) ∙ x.told file id is covered;
  }

-- pages in hand are such as the log may have
pub loggable : (locks : LockTable) (k : Kept) → Holds locks k → AreLoggable k.held
loggable locks k holds = record {
  each = λ i h is.
      let x = holds.held i h is in record {
        named = x.own.name;
        sized = subst IsPageSize (sym x.out.long) holds.shaped.page_size;
        patched = subst (λ n. IfSome h.patch (λ (p : Coverage). p.page_size ≡ n)) (sym x.out.long) x.patched;
      };
  once = λ i j g h p q e.
      let at : i ≡ j = holds.apart.names.once i j g h p q e in
      let same : Some g ≡ Some h = sym p ∙ ap (slice_get k.held) at ∙ q in
      let r : g ≡ h = cc same in r;
}

none_less : (n : ℕ) → 0 ≤ n
none_less n = omega arith

one_more : (all more len size others : ℕ) → all ≡ len + PAGE_EXTRA + more → len ≡ size → more ≤ others → all ≤ others + (size + PAGE_EXTRA)
one_more all more len size others is same le = omega (arith, is, same, le)

-- so many pages take no more room than as many records of whole pages
rooms_within : (size n : ℕ) (hs : List Held) → ((i : ℕ) (h : Held) → slice_get hs i ≡ Some h → length h.lease.bytes ≡ size) → length hs ≤ n → pages_room hs ≤ n * (size + PAGE_EXTRA)
rooms_within size n [] long few = none_less (n * (size + PAGE_EXTRA))
rooms_within size zero (h ∷ hs) long few = absurd (omega (arith, few))
rooms_within size (suc n) (h ∷ hs) long few =
    let rest = rooms_within size n hs (λ i g is. long (suc i) g is) (omega (arith, few)) in
    subst (λ n. pages_room (h ∷ hs) ≤ n) (sym (suc-mul n (size + PAGE_EXTRA))) (one_more (pages_room (h ∷ hs)) (pages_room hs) (length h.lease.bytes) size (n * (size + PAGE_EXTRA)) (sum_by-cons (λ (z : Held). length z.lease.bytes + PAGE_EXTRA) h hs) (long 0 h refl) rest)

-- an outbox that has room for an operation has room for the pages in hand
pub has_room : (locks : LockTable) (k : Kept) (s : Stripe) → Holds locks k → k.shape ≡ s.shape → length k.held ≤ OP_PAGES → HasOutboxRoom s → length s.outbox + pages_room k.held + OP_EXTRA ≤ OUTBOX
has_room locks k s holds shape few has =
    let within : pages_room k.held ≤ OP_PAGES * (s.shape.page_size + PAGE_EXTRA) =
    subst (λ z. pages_room k.held ≤ OP_PAGES * (z.page_size + PAGE_EXTRA)) shape (rooms_within k.shape.page_size OP_PAGES k.held (λ i h is. (holds.held i h is).out.long) few) in
    omega (arith, within, has.room)
