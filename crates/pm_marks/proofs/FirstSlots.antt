-- A marker file that is made to have its first slot reads as before, and then a mark that is written leaves the other slot.
use Rattle.std.proofs.Common.{◌≡◌, inl, inr, ℕ, zero, suc, ◌+◌, ◌<◌, ◌≤◌, List, length, Bool, true, false, Option, None, refl, sym, ap, ◌∙◌, subst, arith}
use Rattle.std.specs.Prelude.{◌≢◌, replicate, max, nat_lt, if◌then◌else◌}
use Rattle.std.proofs.lemmas.Bool.{ltb-true, ltb-false, cases_lt}
use Rattle.std.proofs.lemmas.List.{length-replicate}
use Rattle.pm_types.specs.declared.shape.Mark.{Mark}
use Rattle.pm_disk.specs.declared.mark.MarkFile.{MarkFile}
use Rattle.pm_disk.specs.declared.mark.MarkFile.TheVariants as marker
use Rattle.pm_disk.specs.declared.mark.TheConstants.{SLOT_LEN}
use Rattle.pm_disk.specs.Files.{File, bytes_of, changed, content, missing, with_change}
use Rattle.pm_disk.specs.Images.{Puts}
use Rattle.pm_disk.specs.Worlds.{World, mark_file, marks_in, marks_changed, slot_at}
use Rattle.pm_disk.proofs.Files.{content_change}
use Rattle.pm_disk.proofs.Gaps.{slot_puts, length-gapped}
use Rattle.pm_marks.specs.Slots.{slot_of, slot_bytes, bytes_in_slot, mark_at}
use Rattle.pm_marks.specs.MarkWrites.{mark_change, first_change, HasFirstSlot, with_first, first_written}
use Rattle.pm_marks.proofs.SlotMarks.{length-slot_bytes, mark_in-some, mark_at-short, zeros_are_none, option_cases}
use Rattle.pm_marks.proofs.SlotWrites.{same_elements, slot_element, slot_length, other_stays, length_now}

-- ---- zeros are written to the first slot of a file that ends before the slot does

module _ (file : Option (List ℕ)) (short : length (bytes_of file) < SLOT_LEN) where
  abbrev zeros : List ℕ
  zeros = replicate SLOT_LEN 0

  abbrev cleared : List ℕ
  cleared = bytes_of (changed (first_change file) file)

  long_zeros : length zeros ≡ SLOT_LEN
  long_zeros = length-replicate {A = ℕ} SLOT_LEN 0

  cleared_long : length cleared ≡ SLOT_LEN
  cleared_long =
      let long : length cleared ≡ max (length (bytes_of file)) (slot_at 0 + length zeros) =
      length-gapped file (slot_at 0) (replicate (missing (slot_at 0) file) 0) zeros (length-replicate {A = ℕ} (missing (slot_at 0) file) 0) in
      omega (arith, long, long_zeros, short)

  pub cleared_there : SLOT_LEN ≤ length cleared
  cleared_there = omega (arith, cleared_long)

  pub cleared_none : (slot : ℕ) → mark_at slot cleared ≡ None
  cleared_none zero =
      let puts : Puts file (first_change file) (slot_at 0) zeros = slot_puts file zeros 0 in
      let count = slot_length 0 cleared (omega (arith, cleared_long)) in
      zeros_are_none 0 cleared
      (same_elements (bytes_in_slot 0 cleared) zeros (count ∙ sym long_zeros)
      (λ i lt. let below : i < SLOT_LEN = omega (arith, lt, count) in slot_element 0 cleared i below ∙ puts.there i (omega (arith, below, long_zeros))))
  cleared_none (suc n) = mark_at-short (suc n) cleared (omega (arith, cleared_long))

  pub short_none : (slot : ℕ) → mark_at slot (bytes_of file) ≡ None
  short_none slot = mark_at-short slot (bytes_of file) (omega (arith, short))

-- ---- a file with its first slot

-- whether a file has it
pub first_cases : (file : File) (P : File → Type 0) → (length (bytes_of (content file)) < SLOT_LEN → P (with_change file (first_change (content file)))) → (HasFirstSlot file → P file) → P (with_first file)
first_cases file P short there = by (nat_lt (length (bytes_of (content file))) SLOT_LEN) refl
  where
    by : (b : Bool) → nat_lt (length (bytes_of (content file))) SLOT_LEN ≡ b → P (if b then with_change file (first_change (content file)) else file)
    by true is = short (ltb-true _ _ is)
    by false is = there (omega (arith, ltb-false _ _ is))

pub first_there : (file : File) → HasFirstSlot (with_first file)
first_there file =
    first_cases file HasFirstSlot (λ short. subst (λ (o : Option (List ℕ)). SLOT_LEN ≤ length (bytes_of o)) (sym (content_change file (first_change (content file)))) (cleared_there (content file) short))
    (λ there. there)

pub first_reads : (slot : ℕ) (file : File) → mark_at slot (bytes_of (content (with_first file))) ≡ mark_at slot (bytes_of (content file))
first_reads slot file =
    first_cases file (λ f. mark_at slot (bytes_of (content f)) ≡ mark_at slot (bytes_of (content file)))
    (λ short.
    ap (λ (o : Option (List ℕ)). mark_at slot (bytes_of o)) (content_change file (first_change (content file)))
    ∙ cleared_none (content file) short slot ∙ sym (short_none (content file) short slot))
    (λ there. refl)

pub first_same : (file : File) → HasFirstSlot file → with_first file ≡ file
first_same file there = first_cases file (λ f. f ≡ file) (λ short. absurd (omega (arith, short, there))) (λ has. refl)

pub first_new : (file : File) → length (bytes_of (content file)) < SLOT_LEN → with_first file ≡ with_change file (first_change (content file))
first_new file short = first_cases file (λ f. f ≡ with_change file (first_change (content file))) (λ few. refl) (λ there. absurd (omega (arith, short, there)))

-- there are two slots
none_beyond : (n : ℕ) (bytes : List ℕ) → mark_at (suc (suc n)) bytes ≡ None
none_beyond n bytes = elim (option_cases (mark_at (suc (suc n)) bytes)) [
  | inl none ↦ none
  | inr some ↦ let found = mark_in-some (suc (suc n)) (bytes_in_slot (suc (suc n)) bytes) some.0 some.1 in absurd (omega (arith, found.1))
]

-- with its first slot there, a write of a mark leaves the other slot
pub others_stay : (mark : Mark) (file : File) → HasFirstSlot file → (slot : ℕ) → slot ≢ slot_of mark.number
    → mark_at slot (bytes_of (changed (mark_change (content file) mark) (content file))) ≡ mark_at slot (bytes_of (content file))
others_stay mark file there zero apart = other_stays (content file) mark 0 apart (omega arith) (inl (omega (arith, there)))
others_stay mark file there (suc zero) apart = elim (cases_lt (length (bytes_of (content file))) (slot_at 1 + SLOT_LEN)) [
  | inl few ↦
      let here : slot_of mark.number ≡ 0 = omega (arith, apart) in
      let new : List ℕ = bytes_of (changed (mark_change (content file) mark) (content file)) in
      let long : length new ≡ max (length (bytes_of (content file))) (slot_at (slot_of mark.number) + length (slot_bytes mark)) =
      length_now (content file) mark in
      mark_at-short 1 new (omega (arith, long, here, few, there, length-slot_bytes mark)) ∙ sym (mark_at-short 1 (bytes_of (content file)) few)
  | inr full ↦ other_stays (content file) mark 1 apart (omega arith) (inl full)
]
others_stay mark file there (suc (suc n)) apart = none_beyond n (bytes_of (changed (mark_change (content file) mark) (content file))) ∙ sym (none_beyond n (bytes_of (content file)))

-- ---- the world

pub world_same : (file : MarkFile) (w : World) → HasFirstSlot (mark_file w file) → first_written file w ≡ w
world_same marker.Start w there = ap (λ (f : File). record w { starts = f }) (first_same w.starts there)
world_same marker.End w there = ap (λ (f : File). record w { ends = f }) (first_same w.ends there)

pub world_new : (file : MarkFile) (w : World) → length (bytes_of (marks_in w file)) < SLOT_LEN → first_written file w ≡ marks_changed file (first_change (marks_in w file)) w
world_new marker.Start w short = ap (λ (f : File). record w { starts = f }) (first_new w.starts short)
world_new marker.End w short = ap (λ (f : File). record w { ends = f }) (first_new w.ends short)
