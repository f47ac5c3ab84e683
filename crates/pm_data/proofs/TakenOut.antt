-- A row taken out of a page: what the bytes then say.
use Rattle.std.proofs.Common.{◌≡◌, ℕ, ◌+◌, ◌-◌, ◌*◌, ◌<◌, ◌≤◌, ◌⊎◌, true, false, None, Some, List, length, take, get_or, is_none, sym, ap, subst, ◌∙◌, inl, inr, arith, Option}
use Rattle.std.specs.List.{suffix_len}
use Rattle.std.proofs.lemmas.Bool.{cases_lt, cases_eq, false≢true}
use Rattle.std.proofs.lemmas.List.{length-take-le, get_or-take}
use Rattle.std.proofs.lemmas.List.Sums.{suffix_len_is}
use Rattle.pm_types.specs.PageSizes.{IsPageSize}
use Rattle.pm_types.specs.Spans.{IsInSpan, span_of}
use Rattle.pm_types.specs.Pages.{SameOutside}
use Rattle.pm_types.proofs.PageSizeBounds.{page_size_bounds}
use Rattle.pm_types.proofs.Changes.{outside_then}
use Rattle.pm_data.specs.declared.slots.Slot.{Slot}
use Rattle.pm_types.specs.Fields.{bytes_at}
use Rattle.pm_data.specs.Rows.{IsRow}
use Rattle.pm_data.specs.DataPages.{count_of, low_of, slot_at, is_empty, end_of, row_in, rows_of, row_at, with_row, without_row, HasRows, HoldsRow, AreApart, IsDataPage, DropsRow, row_bytes}
use Rattle.pm_data.specs.Removal.{lifted, LeavesSlots, EndsAtLast}
use Rattle.pm_types.proofs.Unchanged.{get_or-bytes_at, bytes_agree, bytes_same, u16_same, u32_same, u64_same}
use Rattle.pm_data.proofs.SlotsKept.{slot_same}
use Rattle.pm_data.proofs.RowsByItem.{rows_by_item, length-rows_of, get_or-rows_of, row_bytes_one, row_bytes_end, holds_some, low_within, row_in_same, row_in_empty, row_in_live, is_none-row_in, empty_slot, live_by_len, apart_from_empty}
use Rattle.pm_data.proofs.Lifting.{lifted_below, lifted_empty, lifted_above}
use Rattle.pm_data.proofs.RowLaws.{length-with_row, row_at-with_row_here, row_at-with_row_other, row_at-without_row_here, row_at-without_row_other}

-- the bytes that a removal writes over: where rows moved to, the slots, where the rows begin, the count
abbrev IsRewritten : Slot → ℕ → ℕ → ℕ → Type 0
IsRewritten gone low count k = (IsInSpan (span_of (low + gone.len) (gone.start - low)) k ⊎ IsInSpan (span_of 32 (4 * count)) k) ⊎ (IsInSpan (span_of 24 2) k ⊎ IsInSpan (span_of 10 2) k)

-- what was written
pub record IsTaken (was now : List ℕ) (item : ℕ) : Type 0 where
  pub outside : SameOutside (IsRewritten (slot_at was item) (low_of was) (count_of was)) was now
  pub moved : bytes_at now (low_of was + (slot_at was item).len) ((slot_at was item).start - low_of was) ≡ bytes_at was (low_of was) ((slot_at was item).start - low_of was)
  pub low : low_of now ≡ low_of was + (slot_at was item).len
  pub gone : is_empty (slot_at now item) ≡ true
  pub others : (j : ℕ) → j < count_of was → (j ≡ item → ⊥) → slot_at now j ≡ lifted (slot_at was item) (slot_at was j)
  pub few : count_of now ≤ count_of was
  pub empty_end : (j : ℕ) → count_of now ≤ j → j < count_of was → is_empty (slot_at now j) ≡ true
  pub last : 1 ≤ count_of now → is_empty (slot_at now (count_of now - 1)) ≡ false

-- what the writes one after the other make
pub taken : (p0 p1 p2 p3 p4 : List ℕ) (item : ℕ) → item < count_of p0 → 32 + 4 * count_of p0 ≤ low_of p0 → low_of p0 ≤ (slot_at p0 item).start → end_of (slot_at p0 item) ≤ length p0 →
    SameOutside (IsInSpan (span_of (low_of p0 + (slot_at p0 item).len) ((slot_at p0 item).start - low_of p0))) p0 p1 →
    bytes_at p1 (low_of p0 + (slot_at p0 item).len) ((slot_at p0 item).start - low_of p0) ≡ bytes_at p0 (low_of p0) ((slot_at p0 item).start - low_of p0) →
    SameOutside (IsInSpan (span_of 32 (4 * count_of p0))) p1 p2 → LeavesSlots (count_of p0) item p1 p2 →
    SameOutside (IsInSpan (span_of 24 2)) p2 p3 → low_of p3 ≡ low_of p0 + (slot_at p0 item).len →
    SameOutside (IsInSpan (span_of 10 2)) p3 p4 → EndsAtLast p3 (count_of p4) → IsTaken p0 p4 item
taken p0 p1 p2 p3 p4 item lt above start fits o1 moved o2 slots o3 low_is o4 ends =
    let gone = slot_at p0 item in
    let low = low_of p0 in
    let n = count_of p0 in
    let T = IsRewritten gone low n in
    let M = IsInSpan (span_of (low + gone.len) (gone.start - low)) in
    let S = IsInSpan (span_of 32 (4 * n)) in
    let size1 : length p1 ≡ length p0 = o1.size in
    let size2 : length p2 ≡ length p0 = o2.size ∙ size1 in
    let size3 : length p3 ≡ length p0 = o3.size ∙ size2 in
    let first = outside_then M S T p0 p1 p2 o1 o2 (λ k h. inl (inl h)) (λ k h. inl (inr h)) in
    let second = outside_then (IsInSpan (span_of 24 2)) (IsInSpan (span_of 10 2)) T p2 p3 p4 o3 o4 (λ k h. inr (inl h)) (λ k h. inr (inr h)) in
    let count : count_of p3 ≡ n =
    u16_same (IsInSpan (span_of 24 2)) p2 p3 10 o3 (omega arith) (λ k ge less h. omega (arith, h.0)) ∙ u16_same S p1 p2 10 o2 (omega arith) (λ k ge less h. omega (arith, h.0)) ∙ u16_same M p0 p1 10 o1 (omega arith) (λ k ge less h. omega (arith, h.0)) in
    let early : (j : ℕ) → j < n → slot_at p1 j ≡ slot_at p0 j = λ j less. slot_same M p0 p1 j o1 (omega arith) (λ k ge under h. omega (arith, h.0)) in
    let late : (j : ℕ) → j < n → slot_at p4 j ≡ slot_at p2 j = λ j less.
    slot_same (IsInSpan (span_of 10 2)) p3 p4 j o4 (omega arith) (λ k ge under h. omega (arith, h.1)) ∙ slot_same (IsInSpan (span_of 24 2)) p2 p3 j o3 (omega arith) (λ k ge under h. omega (arith, h.1)) in
    let last_slots : (j : ℕ) → j < n → slot_at p4 j ≡ slot_at p3 j = λ j less. slot_same (IsInSpan (span_of 10 2)) p3 p4 j o4 (omega arith) (λ k ge under h. omega (arith, h.1)) in
    record {
      outside = outside_then T T T p0 p2 p4 first second (λ k h. h) (λ k h. h);
      moved =
          bytes_same (IsInSpan (span_of 10 2)) p3 p4 (low + gone.len) (gone.start - low) o4 (omega arith) (λ k ge less h. omega (arith, h.1))
          ∙ bytes_same (IsInSpan (span_of 24 2)) p2 p3 (low + gone.len) (gone.start - low) o3 (omega arith) (λ k ge less h. omega (arith, h.1))
          ∙ bytes_same S p1 p2 (low + gone.len) (gone.start - low) o2 (omega arith) (λ k ge less h. omega (arith, h.1)) ∙ moved;
      low = u16_same (IsInSpan (span_of 10 2)) p3 p4 24 o4 (omega arith) (λ k ge less h. omega (arith, h.1)) ∙ low_is;
      gone = ap is_empty (late item lt) ∙ slots.gone;
      others = λ j less not. late j less ∙ slots.others j less not ∙ (λ t. lifted (early item lt t) (early j less t));
      few = omega (arith, ends.few, count);
      empty_end = λ j ge less. ap is_empty (last_slots j less) ∙ ends.empty j ge (omega (arith, count));
      last = λ some. ap is_empty (last_slots (count_of p4 - 1) (omega (arith, ends.few, count, some))) ∙ ends.last some;
    }

head_away : (gone : Slot) (low count k : ℕ) → 32 ≤ low → k < 32 → (k < 10) ⊎ (12 ≤ k) → (k < 24) ⊎ (26 ≤ k) → IsRewritten gone low count k → ⊥
head_away gone low count k above lt c l h = grind arith

row_away : (gone : Slot) (low count k : ℕ) → 32 + 4 * count ≤ low → low ≤ gone.start → gone.start + gone.len ≤ k → IsRewritten gone low count k → ⊥
row_away gone low count k above le ge h = elim h [ inl one ↦ elim one [ inl row ↦ omega (arith, row.1) | inr slot ↦ omega (arith, slot.1) ] | inr two ↦ elim two [ inl low' ↦ omega (arith, low'.1) | inr count' ↦ omega (arith, count'.1) ] ]

-- another row below the one that is gone, and one above it
pub record IsBelow (was now : List ℕ) (item j : ℕ) : Type 0 where
  pub holds : HoldsRow was (slot_at was j)
  pub ends : end_of (slot_at was j) ≤ (slot_at was item).start
  pub follows : slot_at now j ≡ record { start = (slot_at was j).start + (slot_at was item).len; len = (slot_at was j).len }
  pub bytes : bytes_at now ((slot_at was j).start + (slot_at was item).len) (slot_at was j).len ≡ bytes_at was (slot_at was j).start (slot_at was j).len

pub record IsAbove (was now : List ℕ) (item j : ℕ) : Type 0 where
  pub holds : HoldsRow was (slot_at was j)
  pub starts : end_of (slot_at was item) ≤ (slot_at was j).start
  pub stays : slot_at now j ≡ slot_at was j
  pub bytes : bytes_at now (slot_at was j).start (slot_at was j).len ≡ bytes_at was (slot_at was j).start (slot_at was j).len

pub record IsVoid (was now : List ℕ) (j : ℕ) : Type 0 where
  pub before : is_empty (slot_at was j) ≡ true
  pub after : is_empty (slot_at now j) ≡ true

module _ (was now : List ℕ) (item : ℕ) (page : IsDataPage was) (item_lt : item < count_of was) (live : is_empty (slot_at was item) ≡ false) (taken : IsTaken was now item) where
  abbrev T : ℕ → Type 0
  T = IsRewritten (slot_at was item) (low_of was) (count_of was)

  low_le : low_of was ≤ length was
  low_le = low_within was page.rows

  gone_holds : HoldsRow was (slot_at was item)
  gone_holds = elim (page.rows.each item item_lt) [ inl empty ↦ absurd (false≢true (sym live ∙ empty)) | inr holds ↦ holds ]

  gone_some : 5 ≤ (slot_at was item).len
  gone_some = holds_some was (slot_at was item) gone_holds

  apart_from_gone : (j : ℕ) → j < count_of was → (j ≡ item → ⊥) → AreApart (slot_at was j) (slot_at was item)
  apart_from_gone j lt not = elim (cases_lt j item) [
    | inl less ↦ page.rows.apart j item less item_lt
    | inr ge ↦ elim (page.rows.apart item j (omega (arith, not)) lt) [ inl a ↦ inr a | inr b ↦ inl b ]
  ]

  -- rows that moved
  moved_bytes : (start len : ℕ) → low_of was ≤ start → start + len ≤ (slot_at was item).start → bytes_at now (start + (slot_at was item).len) len ≡ bytes_at was start len
  moved_bytes start len ge le =
      let gone = slot_at was item in
      let low = low_of was in
      let many = gone.start - low in
      bytes_agree was now start (start + gone.len) len taken.outside.size (omega (arith, gone_holds.within)) (omega (arith, gone_holds.within))
      (λ k less.
      let to_at : start + gone.len + k ≡ low + gone.len + (start - low + k) = omega arith in
      let from_at : start + k ≡ low + (start - low + k) = omega arith in
      let in_moved : start - low + k < many = omega arith in
      ap (λ i. get_or now i 0) to_at ∙ sym (get_or-bytes_at now (low + gone.len) many (start - low + k) in_moved) ∙ ap (λ (t : List ℕ). get_or t (start - low + k) 0) taken.moved
      ∙ get_or-bytes_at was low many (start - low + k) in_moved ∙ ap (λ i. get_or was i 0) (sym from_at))

  kept_bytes : (start len : ℕ) → end_of (slot_at was item) ≤ start → start + len ≤ length was → bytes_at now start len ≡ bytes_at was start len
  kept_bytes start len ge le = bytes_same T was now start len taken.outside le (λ k from less. row_away (slot_at was item) (low_of was) (count_of was) k page.rows.low gone_holds.above (omega (arith, ge)))

  -- where each other slot is
  other : (j : ℕ) → j < count_of was → (j ≡ item → ⊥) → IsVoid was now j ⊎ (IsBelow was now item j ⊎ IsAbove was now item j)
  other j lt not =
      let gone = slot_at was item in
      let slot = slot_at was j in
      elim (page.rows.each j lt) [
        | inl empty ↦ inl (record { before = empty; after = ap is_empty (taken.others j lt not ∙ lifted_empty gone slot empty) ∙ empty })
        | inr holds ↦
            let some = holds_some was slot holds in
            elim (apart_from_gone j lt not) [
              | inl below ↦ inr (inl (record { holds = holds; ends = below; follows = taken.others j lt not ∙ lifted_below gone slot (live_by_len slot (omega (arith, some))) (omega (arith, below, some)); bytes = moved_bytes slot.start slot.len holds.above below }))
              | inr above ↦ inr (inr (record { holds = holds; starts = above; stays = taken.others j lt not ∙ lifted_above gone slot (omega (arith, above)); bytes = kept_bytes slot.start slot.len above holds.within }))
            ]
      ]

  below_holds : (j : ℕ) → IsBelow was now item j → HoldsRow now (slot_at now j)
  below_holds j is = subst (λ s. HoldsRow now s) (sym is.follows) (record { above = omega (arith, taken.low, is.holds.above); within = omega (arith, is.ends, gone_holds.within, taken.outside.size); row = subst IsRow (sym is.bytes) is.holds.row })

  above_holds : (j : ℕ) → IsAbove was now item j → HoldsRow now (slot_at now j)
  above_holds j is = subst (λ s. HoldsRow now s) (sym is.stays) (record { above = omega (arith, taken.low, is.starts, gone_holds.above); within = omega (arith, is.holds.within, taken.outside.size); row = subst IsRow (sym is.bytes) is.holds.row })

  each_now : (j : ℕ) → j < count_of now → (is_empty (slot_at now j) ≡ true) ⊎ HoldsRow now (slot_at now j)
  each_now j lt =
      elim (cases_eq j item) [
        | inl here ↦ inl (ap (λ n. is_empty (slot_at now n)) here ∙ taken.gone)
        | inr not ↦ elim (other j (omega (arith, taken.few)) not) [
          | inl void ↦ inl void.after
          | inr there ↦ elim there [ inl below ↦ inr (below_holds j below) | inr above ↦ inr (above_holds j above) ]
        ]
      ]

  -- where each slot is, the item's own among the empty ones
  placed_now : (j : ℕ) → j < count_of now → (is_empty (slot_at now j) ≡ true) ⊎ ((j ≡ item → ⊥) × (IsBelow was now item j ⊎ IsAbove was now item j))
  placed_now j lt =
      elim (cases_eq j item) [
        | inl here ↦ inl (ap (λ n. is_empty (slot_at now n)) here ∙ taken.gone)
        | inr not ↦ elim (other j (omega (arith, taken.few)) not) [ inl void ↦ inl void.after | inr there ↦ inr (not, there) ]
      ]

  both_apart : (i j : ℕ) → AreApart (slot_at was i) (slot_at was j) → IsBelow was now item i ⊎ IsAbove was now item i → IsBelow was now item j ⊎ IsAbove was now item j → AreApart (slot_at now i) (slot_at now j)
  both_apart i j apart where_i where_j =
      elim where_i [
        | inl below_i ↦ elim where_j [
          | inl below_j ↦ subst (λ (p : Slot × Slot). AreApart p.0 p.1) {y = (slot_at now i, slot_at now j)} (λ t. (sym below_i.follows t, sym below_j.follows t)) (elim apart [ inl a ↦ inl (omega (arith, a)) | inr b ↦ inr (omega (arith, b)) ])
          | inr above_j ↦ subst (λ (p : Slot × Slot). AreApart p.0 p.1) {y = (slot_at now i, slot_at now j)} (λ t. (sym below_i.follows t, sym above_j.stays t)) (inl (omega (arith, below_i.ends, above_j.starts)))
        ]
        | inr above_i ↦ elim where_j [
          | inl below_j ↦ subst (λ (p : Slot × Slot). AreApart p.0 p.1) {y = (slot_at now i, slot_at now j)} (λ t. (sym above_i.stays t, sym below_j.follows t)) (inr (omega (arith, below_j.ends, above_i.starts)))
          | inr above_j ↦ subst (λ (p : Slot × Slot). AreApart p.0 p.1) {y = (slot_at now i, slot_at now j)} (λ t. (sym above_i.stays t, sym above_j.stays t)) apart
        ]
      ]

  all_apart : (i j : ℕ) → i < j → j < count_of now → AreApart (slot_at now i) (slot_at now j)
  all_apart i j less lt =
      elim (placed_now i (omega arith)) [
        | inl empty ↦ (apart_from_empty (slot_at now i) (slot_at now j) empty).0
        | inr there_i ↦ elim (placed_now j lt) [
          | inl empty ↦ (apart_from_empty (slot_at now j) (slot_at now i) empty).1
          | inr there_j ↦ both_apart i j (page.rows.apart i j less (omega (arith, taken.few))) there_i.1 there_j.1
        ]
      ]

  same_len : (j : ℕ) → j < count_of was → (j ≡ item → ⊥) → (slot_at now j).len ≡ (slot_at was j).len
  same_len j lt not =
      elim (other j lt not) [
        | inl void ↦ (empty_slot (slot_at now j) void.after).1 ∙ sym (empty_slot (slot_at was j) void.before).1
        | inr there ↦ elim there [ inl below ↦ ap (λ (s : Slot). s.len) below.follows | inr above ↦ ap (λ (s : Slot). s.len) above.stays ]
      ]

  less_bytes : row_bytes now (count_of now) + (slot_at was item).len ≡ row_bytes was (count_of was)
  less_bytes =
      let one = row_bytes_one was now (count_of was) item item_lt same_len in
      let none = (empty_slot (slot_at now item) taken.gone).1 in
      let end = row_bytes_end now (count_of was) (count_of now) taken.few (λ j ge lt. (empty_slot (slot_at now j) (taken.empty_end j ge lt)).1) in
      omega (arith, one, none, end)

  -- the rows by item, those dropped at the end too
  row_now : (j : ℕ) → j < count_of was → get_or (with_row (rows_of was) item None) j None ≡ row_in now (slot_at now j)
  row_now j lt =
      let there : item ≤ length (rows_of was) = omega (arith, length-rows_of was) in
      elim (cases_eq j item) [
        | inl here ↦ ap (λ n. get_or (with_row (rows_of was) item None) n None) here ∙ row_at-with_row_here (rows_of was) item None there ∙ sym (row_in_empty now (slot_at now item) taken.gone) ∙ ap (λ n. row_in now (slot_at now n)) (sym here)
        | inr not ↦ row_at-with_row_other (rows_of was) item j None there not ∙ get_or-rows_of was j None lt ∙ elim (other j lt not) [
          | inl void ↦ row_in_empty was (slot_at was j) void.before ∙ sym (row_in_empty now (slot_at now j) void.after)
          | inr where_j ↦ elim where_j [
            | inl below ↦
                let some = holds_some was (slot_at was j) below.holds in
                let moved : Slot = record { start = (slot_at was j).start + (slot_at was item).len; len = (slot_at was j).len } in
                row_in_live was (slot_at was j) (live_by_len (slot_at was j) (omega (arith, some))) ∙ ap Some (sym below.bytes) ∙ sym (row_in_live now moved (live_by_len moved (omega (arith, some)))) ∙ ap (row_in now) (sym below.follows)
            | inr above ↦ sym (row_in_same was now (slot_at was j) (inr above.bytes)) ∙ ap (row_in now) (sym above.stays)
          ]
        ]
      ]

  rows_now : rows_of now ≡ without_row (rows_of was) item
  rows_now =
      let ys = with_row (rows_of was) item None in
      let n : length ys ≡ count_of was = length-with_row (rows_of was) item None (omega (arith, length-rows_of was)) ∙ omega (arith, length-rows_of was) in
      let is_end : suffix_len is_none ys ≡ length ys - count_of now = suffix_len_is is_none ys (count_of now) None (omega (arith, taken.few, n))
      (λ k ge lt. ap is_none (row_now k (omega (arith, n))) ∙ is_none-row_in now (slot_at now k) ∙ taken.empty_end k ge (omega (arith, n)))
      (λ some. ap is_none (row_now (count_of now - 1) (omega (arith, taken.few, some))) ∙ is_none-row_in now (slot_at now (count_of now - 1)) ∙ taken.last some) in
      let kept : length ys - suffix_len is_none ys ≡ count_of now = omega (arith, is_end, n, taken.few) in
      let len : length (take (count_of now) ys) ≡ count_of now = length-take-le (count_of now) ys (omega (arith, n, taken.few)) in
      rows_by_item now (take (length ys - suffix_len is_none ys) ys) (ap (λ m. length (take m ys)) kept ∙ len)
      (λ j lt. ap (λ m. get_or (take m ys) j None) kept ∙ get_or-take (count_of now) ys j None lt ∙ row_now j (omega (arith, taken.few)))

  head_field : (k : ℕ) → k < 32 → (k < 10) ⊎ (12 ≤ k) → (k < 24) ⊎ (26 ≤ k) → T k → ⊥
  head_field k lt count from = head_away (slot_at was item) (low_of was) (count_of was) k (omega (arith, page.rows.low)) lt count from

  long : 32 ≤ length was
  long = omega (arith, (page_size_bounds (length was) page.size).0)

  pub one_less : DropsRow was now item
  one_less = record {
    well_made = record {
      size = subst IsPageSize (sym taken.outside.size) page.size;
      head = record {
        kind = taken.outside.bytes 8 (head_field 8 (omega arith) (inl (omega arith)) (inl (omega arith))) ∙ page.head.kind;
        zero_9 = taken.outside.bytes 9 (head_field 9 (omega arith) (inl (omega arith)) (inl (omega arith))) ∙ page.head.zero_9;
        zero_12 = u32_same T was now 12 taken.outside (omega (arith, long)) (λ k ge lt. head_field k (omega arith) (inr ge) (inl (omega arith))) ∙ page.head.zero_12;
        zero_26 = u16_same T was now 26 taken.outside (omega (arith, long)) (λ k ge lt. head_field k (omega arith) (inr (omega arith)) (inr ge)) ∙ page.head.zero_26;
        zero_28 = u32_same T was now 28 taken.outside (omega (arith, long)) (λ k ge lt. head_field k (omega arith) (inr (omega arith)) (inr (omega arith))) ∙ page.head.zero_28;
      };
      rows = record {
        few = omega (arith, taken.few, page.rows.few);
        last = taken.last;
        low = omega (arith, taken.few, taken.low, page.rows.low);
        each = each_now;
        apart = all_apart;
        full = omega (arith, taken.low, less_bytes, page.rows.full, taken.outside.size);
      };
    };
    says = λ t. record {
      id = record { 0 = u64_same T was now 0 taken.outside (omega (arith, long)) (λ k ge lt. head_field k (omega arith) (inl (omega arith)) (inl (omega arith))) t };
      prev = u32_same T was now 16 taken.outside (omega (arith, long)) (λ k ge lt. head_field k (omega arith) (inr (omega arith)) (inl (omega arith))) t;
      next = u32_same T was now 20 taken.outside (omega (arith, long)) (λ k ge lt. head_field k (omega arith) (inr (omega arith)) (inl (omega arith))) t;
      rows = rows_now t;
    };
    gone = ap (λ (rows : List (Option (List ℕ))). row_at rows item) rows_now ∙ row_at-without_row_here (rows_of was) item (omega (arith, length-rows_of was));
    others = λ k not. ap (λ (rows : List (Option (List ℕ))). row_at rows k) rows_now ∙ row_at-without_row_other (rows_of was) item k (omega (arith, length-rows_of was)) not;
  }

-- after rows moved up, the slots and their number are as they were, and each is within the page
pub slots_moved : (was now : List ℕ) (at len j : ℕ) → HasRows was → low_of was ≤ at → j < count_of was → SameOutside (IsInSpan (span_of at len)) was now → slot_at now j ≡ slot_at was j
slots_moved was now at len j rows above lt outside =
    slot_same (IsInSpan (span_of at len)) was now j outside (omega (arith, rows.low, low_within was rows)) (λ k ge less h. omega (arith, h.0, rows.low))

pub slot_within : (page : List ℕ) (j : ℕ) → HasRows page → j < count_of page → end_of (slot_at page j) ≤ length page
slot_within page j rows lt = elim (rows.each j lt) [ inl empty ↦ let none = empty_slot (slot_at page j) empty in omega (arith, none.0, none.1) | inr holds ↦ holds.within ]

pub count_moved : (p0 p1 p2 p3 : List ℕ) (at len n : ℕ) → HasRows p0 → 32 ≤ length p0 → low_of p0 ≤ at → SameOutside (IsInSpan (span_of at len)) p0 p1 → SameOutside (IsInSpan (span_of 32 (4 * n))) p1 p2 → SameOutside (IsInSpan (span_of 24 2)) p2 p3 → count_of p3 ≡ count_of p0
count_moved p0 p1 p2 p3 at len n rows long above o1 o2 o3 =
    u16_same (IsInSpan (span_of 24 2)) p2 p3 10 o3 (omega (arith, o1.size, o2.size)) (λ k ge less h. omega (arith, h.0))
    ∙ u16_same (IsInSpan (span_of 32 (4 * n))) p1 p2 10 o2 (omega (arith, o1.size)) (λ k ge less h. omega (arith, h.0))
    ∙ u16_same (IsInSpan (span_of at len)) p0 p1 10 o1 (omega arith) (λ k ge less h. omega (arith, h.0, rows.low))

-- the writes of a removal, one after the other
pub record RemovalSteps (p0 p1 p2 p3 p4 : List ℕ) (item low count : ℕ) (gone : Slot) : Type 0 where
  pub rows_outside : SameOutside (IsInSpan (span_of (low + gone.len) (gone.start - low))) p0 p1
  pub rows_moved : bytes_at p1 (low + gone.len) (gone.start - low) ≡ bytes_at p0 low (gone.start - low)
  pub slots_outside : SameOutside (IsInSpan (span_of 32 (4 * count))) p1 p2
  pub slots_left : LeavesSlots count item p1 p2
  pub low_outside : SameOutside (IsInSpan (span_of 24 2)) p2 p3
  pub low_now : low_of p3 ≡ low + gone.len
  pub count_outside : SameOutside (IsInSpan (span_of 10 2)) p3 p4
  pub end_now : EndsAtLast p3 (count_of p4)

pub removed : (p0 p1 p2 p3 p4 : List ℕ) (item low count : ℕ) (gone : Slot) → low ≡ low_of p0 → count ≡ count_of p0 → gone ≡ slot_at p0 item → IsDataPage p0 → item < count_of p0 → HoldsRow p0 (slot_at p0 item) → RemovalSteps p0 p1 p2 p3 p4 item low count gone → DropsRow p0 p4 item
removed p0 p1 p2 p3 p4 item low count gone low_is count_is gone_is page lt holds steps =
    let is : RemovalSteps p0 p1 p2 p3 p4 item (low_of p0) (count_of p0) (slot_at p0 item) = subst (λ (t : ℕ × ℕ × Slot). RemovalSteps p0 p1 p2 p3 p4 item t.0 t.1 t.2) {x = (low, count, gone)} {y = (low_of p0, count_of p0, slot_at p0 item)} (λ j. (low_is j, count_is j, gone_is j)) steps in
    let live = live_by_len (slot_at p0 item) (omega (arith, holds_some p0 (slot_at p0 item) holds)) in
    one_less p0 p4 item page lt live (taken p0 p1 p2 p3 p4 item lt page.rows.low holds.above holds.within is.rows_outside is.rows_moved is.slots_outside is.slots_left is.low_outside is.low_now is.count_outside is.end_now)
