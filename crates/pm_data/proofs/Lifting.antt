-- The slots while one row is taken out: those done follow their rows, those left are as they were.
use Rattle.std.proofs.Common.{◌≡◌, ℕ, ◌+◌, ◌*◌, ◌<◌, ◌≤◌, true, false, not, nat_lt, List, length, refl, sym, ap, ◌∙◌, inl, inr, arith, if◌then◌else◌}
use Rattle.std.proofs.lemmas.Bool.{cases_eq, lt-ltb, le-ltb, and_from, and_left, and_right}
use Rattle.pm_types.specs.Spans.{IsInSpan, span_of}
use Rattle.pm_types.specs.Pages.{SameOutside}
use Rattle.pm_types.proofs.Changes.{outside_then, outside_wider}
use Rattle.pm_data.specs.declared.slots.Slot.{Slot}
use Rattle.pm_data.specs.DataPages.{slot_at, is_empty}
use Rattle.pm_data.specs.Removal.{lifted}
use Rattle.pm_data.proofs.SlotsKept.{slot_same}

-- a slot that is lifted, and the two kinds that stay
pub lifted_below : (gone slot : Slot) → is_empty slot ≡ false → slot.start < gone.start → lifted gone slot ≡ record { start = slot.start + gone.len; len = slot.len }
lifted_below gone slot live lt = ap (λ b. if b then record { start = slot.start + gone.len; len = slot.len } else slot) (and_from (not (is_empty slot)) (nat_lt slot.start gone.start) (ap not live) (lt-ltb slot.start gone.start lt))

pub lifted_empty : (gone slot : Slot) → is_empty slot ≡ true → lifted gone slot ≡ slot
lifted_empty gone slot empty = ap (λ b. if b then record { start = slot.start + gone.len; len = slot.len } else slot) (and_left (not (is_empty slot)) (nat_lt slot.start gone.start) (ap not empty))

pub lifted_above : (gone slot : Slot) → gone.start ≤ slot.start → lifted gone slot ≡ slot
lifted_above gone slot le = ap (λ b. if b then record { start = slot.start + gone.len; len = slot.len } else slot) (and_right (not (is_empty slot)) (nat_lt slot.start gone.start) (le-ltb slot.start gone.start le))

-- how far the slots are lifted: those before `i`
pub record IsLifting (was now : List ℕ) (item i count : ℕ) : Type 0 where
  pub gone : slot_at now item ≡ record { start = 0; len = 0 }
  pub done : (j : ℕ) → j < i → (j ≡ item → ⊥) → slot_at now j ≡ lifted (slot_at was item) (slot_at was j)
  pub left : (j : ℕ) → i ≤ j → j < count → (j ≡ item → ⊥) → slot_at now j ≡ slot_at was j
  pub outside : SameOutside (IsInSpan (span_of 32 (4 * count))) was now

-- another slot is as before a write of one slot
pub beside : (now next : List ℕ) (at j count : ℕ) → SameOutside (IsInSpan (span_of (32 + 4 * at) 4)) now next → j < count → 32 + 4 * count ≤ length now → (j ≡ at → ⊥) → slot_at next j ≡ slot_at now j
beside now next at j count outside lt fits not = slot_same (IsInSpan (span_of (32 + 4 * at) 4)) now next j outside (omega arith) (λ k ge less h. not (omega (arith, h.0, h.1)))

-- a write of one slot is a change among the slots
among : (at count k : ℕ) → at < count → IsInSpan (span_of (32 + 4 * at) 4) k → IsInSpan (span_of 32 (4 * count)) k
among at count k lt h = (omega (arith, h.0), omega (arith, h.1))

-- the slot of the item is emptied first
pub lifting_none : (was now : List ℕ) (item count : ℕ) → item < count → 32 + 4 * count ≤ length was → SameOutside (IsInSpan (span_of (32 + 4 * item) 4)) was now → slot_at now item ≡ record { start = 0; len = 0 } → IsLifting was now item 0 count
lifting_none was now item count lt fits outside gone = record {
  gone = gone;
  done = λ j less. absurd (omega arith);
  left = λ j ge less not. beside was now item j count outside less fits not;
  outside = outside_wider (IsInSpan (span_of (32 + 4 * item) 4)) (IsInSpan (span_of 32 (4 * count))) was now outside (λ k h. among item count k lt h);
}

-- one more slot follows its row; that of the item stays empty
pub lifting_more : (was now next : List ℕ) (gone : Slot) (item i count : ℕ) → gone ≡ slot_at was item → IsLifting was now item i count → i < count → 32 + 4 * count ≤ length now → item < count →
    SameOutside (IsInSpan (span_of (32 + 4 * i) 4)) now next → slot_at next i ≡ lifted gone (slot_at now i) → IsLifting was next item (i + 1) count
lifting_more was now next gone item i count gone_is is lt fits item_lt outside slot = record {
  gone = elim (cases_eq item i) [
    | inl here ↦ ap (slot_at next) here ∙ slot ∙ ap (λ n. lifted gone (slot_at now n)) (sym here) ∙ ap (lifted gone) is.gone ∙ lifted_empty gone (record { start = 0; len = 0 }) refl
    | inr apart ↦ beside now next i item count outside item_lt fits apart ∙ is.gone
  ];
  done = λ j less other. elim (cases_eq j i) [
    | inl here ↦ ap (slot_at next) here ∙ slot ∙ (λ t. lifted (gone_is t) (is.left i (omega arith) lt (λ e. other (here ∙ e)) t)) ∙ ap (λ n. lifted (slot_at was item) (slot_at was n)) (sym here)
    | inr apart ↦ beside now next i j count outside (omega arith) fits apart ∙ is.done j (omega (arith, apart)) other
  ];
  left = λ j ge less other. beside now next i j count outside less fits (λ e. omega (arith, e)) ∙ is.left j (omega arith) less other;
  outside = outside_then (IsInSpan (span_of 32 (4 * count))) (IsInSpan (span_of (32 + 4 * i) 4)) (IsInSpan (span_of 32 (4 * count))) was now next is.outside outside (λ k h. h) (λ k h. among i count k lt h);
}
