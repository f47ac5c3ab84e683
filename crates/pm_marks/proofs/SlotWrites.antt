-- A mark that is written is valid in its slot, and the other slot stays.
use Rattle.std.proofs.Common.{◌≡◌, ◌⊎◌, inl, inr, ℕ, zero, suc, ◌+◌, ◌<◌, ◌≤◌, List, [], ◌∷◌, length, drop, Option, Some, refl, sym, ap, ◌∙◌, arith}
use Rattle.std.specs.Prelude.{◌≢◌, slice_get, replicate, max}
use Rattle.std.proofs.lemmas.List.{length-take, length-drop, length-replicate}
use Rattle.pm_types.specs.declared.shape.Mark.{Mark}
use Rattle.pm_disk.specs.Files.{bytes_of, changed, missing}
use Rattle.pm_disk.specs.Images.{KeepsRange, Puts}
use Rattle.pm_disk.specs.Worlds.{slot_at}
use Rattle.pm_disk.specs.declared.mark.TheConstants.{SLOT_LEN}
use Rattle.pm_disk.proofs.Writes.{slice_get-take, slice_get-drop}
use Rattle.pm_disk.proofs.Gaps.{slot_puts, slot_alone, slot_zeros, length-gapped}
use Rattle.pm_marks.specs.Slots.{IsMark, slot_of, slot_bytes, mark_in, bytes_in_slot, mark_at}
use Rattle.pm_marks.specs.MarkWrites.{mark_change}
use Rattle.pm_marks.proofs.SlotMarks.{length-slot_bytes, mark_in-bytes, mark_at-short, mark_within, zeros_are_none}

-- lists of one length with the same elements are the same
pub same_elements : (xs ys : List ℕ) → length xs ≡ length ys → ((i : ℕ) → i < length xs → slice_get xs i ≡ slice_get ys i) → xs ≡ ys
same_elements [] [] e same = refl
same_elements [] (y ∷ ys) e same = absurd (omega (arith, e))
same_elements (x ∷ xs) [] e same = absurd (omega (arith, e))
same_elements (x ∷ xs) (y ∷ ys) e same =
    let first : Some x ≡ Some y = same 0 (omega arith) in
    let head : x ≡ y = cc in
    let rest : xs ≡ ys = same_elements xs ys (omega (arith, e)) (λ i lt. same (suc i) (omega (arith, lt))) in
    cc

-- an element of a slot's bytes
pub slot_element : (slot : ℕ) (file : List ℕ) (i : ℕ) → i < SLOT_LEN → slice_get (bytes_in_slot slot file) i ≡ slice_get file (slot_at slot + i)
slot_element slot file i lt = slice_get-take SLOT_LEN (drop (slot_at slot) file) i lt ∙ slice_get-drop (slot_at slot) file i

pub slot_length : (slot : ℕ) (file : List ℕ) → slot_at slot + SLOT_LEN ≤ length file → length (bytes_in_slot slot file) ≡ SLOT_LEN
slot_length slot file there = omega (arith, there, length-take SLOT_LEN (drop (slot_at slot) file), length-drop (slot_at slot) file)

-- a slot that is there in full stays while its bytes do
pub same_slot : (slot : ℕ) (old new : List ℕ) → slot_at slot + SLOT_LEN ≤ length old → slot_at slot + SLOT_LEN ≤ length new
    → ((i : ℕ) → slot_at slot ≤ i → i < slot_at slot + SLOT_LEN → slice_get new i ≡ slice_get old i) → bytes_in_slot slot new ≡ bytes_in_slot slot old
same_slot slot old new was is same =
    let short = slot_length slot new is in
    let long = slot_length slot old was in
    same_elements (bytes_in_slot slot new) (bytes_in_slot slot old) (short ∙ sym long)
    (λ i lt. let small : i < SLOT_LEN = omega (arith, lt, short) in
    slot_element slot new i small ∙ same (slot_at slot + i) (omega arith) (omega (arith, small)) ∙ sym (slot_element slot old i small))

-- a mark stays while its slot's bytes do
pub mark_stays : (slot : ℕ) (old new : List ℕ) (mark : Mark) → mark_at slot old ≡ Some mark → slot_at slot + SLOT_LEN ≤ length new
    → ((i : ℕ) → slot_at slot ≤ i → i < slot_at slot + SLOT_LEN → slice_get new i ≡ slice_get old i) → mark_at slot new ≡ Some mark
mark_stays slot old new mark e long same =
    ap (mark_in slot) (same_slot slot old new (mark_within slot old mark e) long same) ∙ e

slice_get-replicate : (n i x : ℕ) → i < n → slice_get (replicate n x) i ≡ Some x
slice_get-replicate zero i x lt = absurd (omega (arith, lt))
slice_get-replicate (suc n) zero x lt = refl
slice_get-replicate (suc n) (suc i) x lt = slice_get-replicate n i x (omega (arith, lt))

module _ (file : Option (List ℕ)) (mark : Mark) where
  abbrev now : List ℕ
  now = bytes_of (changed (mark_change file mark) file)

  abbrev at : ℕ
  at = slot_of mark.number

  written : bytes_in_slot at now ≡ slot_bytes mark
  written =
      let puts : Puts file (mark_change file mark) (slot_at at) (slot_bytes mark) = slot_puts file (slot_bytes mark) at in
      let count = length-slot_bytes mark in
      let long : slot_at at + SLOT_LEN ≤ length now = omega (arith, puts.long, count) in
      let full = slot_length at now long in
      same_elements (bytes_in_slot at now) (slot_bytes mark) (full ∙ sym count)
      (λ i lt. slot_element at now i (omega (arith, lt, full)) ∙ puts.there i (omega (arith, lt, full, count)))

  pub length_now : length now ≡ max (length (bytes_of file)) (slot_at at + length (slot_bytes mark))
  length_now = length-gapped file (slot_at at) (replicate (missing (slot_at at) file) 0) (slot_bytes mark) (length-replicate {A = ℕ} (missing (slot_at at) file) 0)

  pub mark_stands : IsMark mark → mark_at at now ≡ Some mark
  mark_stands fits = mark_in-bytes at (bytes_in_slot at now) mark fits refl written

  pub other_stays : (other : ℕ) → other ≢ at → other < 2 → (slot_at other + SLOT_LEN ≤ length (bytes_of file)) ⊎ (length (bytes_of file) ≤ slot_at other)
      → mark_at other now ≡ mark_at other (bytes_of file)
  other_stays other apart small (inl there) =
      let keeps : KeepsRange file (mark_change file mark) (slot_at other) (slot_at other + SLOT_LEN) = slot_alone file (slot_bytes mark) at other (length-slot_bytes mark) apart in
      ap (mark_in other) (same_slot other (bytes_of file) now there (omega (arith, there, keeps.no_shorter)) (λ i le lt. keeps.same i le lt (omega (arith, lt, there))))
  other_stays zero apart small (inr none) =
      let here : at ≡ 1 = omega (arith, apart) in
      let long : length now ≡ max (length (bytes_of file)) (slot_at at + length (slot_bytes mark)) = length_now in
      let full : slot_at 0 + SLOT_LEN ≤ length now = omega (arith, long, here, length-slot_bytes mark) in
      let count = slot_length 0 now full in
      let zeros : bytes_in_slot 0 now ≡ replicate SLOT_LEN 0 =
      same_elements (bytes_in_slot 0 now) (replicate SLOT_LEN 0) (count ∙ sym (length-replicate {A = ℕ} SLOT_LEN 0))
      (λ i lt. let below : i < SLOT_LEN = omega (arith, lt, count) in
      slot_element 0 now i below ∙ slot_zeros file (slot_bytes mark) at (slot_at 0 + i) (omega (arith, none)) (omega (arith, below, here)) ∙ sym (slice_get-replicate SLOT_LEN i 0 below))
      in
      zeros_are_none 0 now zeros ∙ sym (mark_at-short 0 (bytes_of file) (omega (arith, none)))
  other_stays (suc zero) apart small (inr none) =
      let here : at ≡ 0 = omega (arith, apart) in
      let long : length now ≡ max (length (bytes_of file)) (slot_at at + length (slot_bytes mark)) = length_now in
      mark_at-short 1 now (omega (arith, long, here, none, length-slot_bytes mark)) ∙ sym (mark_at-short 1 (bytes_of file) (omega (arith, none)))
  other_stays (suc (suc n)) apart small (inr none) = absurd (omega (arith, small))
