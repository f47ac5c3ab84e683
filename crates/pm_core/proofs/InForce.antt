-- The checkpoint in force is that of the valid start marker of the highest number.
use Rattle.std.proofs.Common.{◌≡◌, ◌⊎◌, inl, inr, ℕ, ◌≤◌, Bool, List, Option, Some, None, sym, ap, subst, ◌∙◌, arith}
use Rattle.std.specs.Prelude.{nat_lt, if◌then◌else◌}
use Rattle.std.proofs.lemmas.Bool.{ltb-true, ltb-false}
use Rattle.std.proofs.lemmas.Option.{same_Some}
use Rattle.pm_types.specs.declared.shape.Mark.{Mark}
use Rattle.pm_records.proofs.Runs.{bool_cases, option_cases}
use Rattle.pm_marks.specs.InForce.{higher}
use Rattle.pm_marks.specs.Slots.{bytes_in_slot, slot_of, mark_at}
use Rattle.pm_marks.proofs.SlotMarks.{mark_in-some}

-- a slot is 0 or 1
pub slot_cases : (slot : ℕ) (file : List ℕ) (mark : Mark) → mark_at slot file ≡ Some mark → (slot ≡ 0) ⊎ (slot ≡ 1)
slot_cases slot file mark e =
    let is = (mark_in-some slot (bytes_in_slot slot file) mark e).1 in
    elim (bool_cases (nat_lt slot 1)) [
      | inl low ↦ inl (omega (arith, ltb-true _ _ low))
      | inr high ↦ inr (omega (arith, is, ltb-false _ _ high))
    ]

-- no valid mark has a higher number
pub record IsHighest (file : List ℕ) (mark : Mark) : Type 0 where
  pub valid : mark_at (slot_of mark.number) file ≡ Some mark
  pub highest : (slot : ℕ) (other : Mark) → mark_at slot file ≡ Some other → other.number ≤ mark.number

at_own : (slot : ℕ) (file : List ℕ) (mark : Mark) → mark_at slot file ≡ Some mark → mark_at (slot_of mark.number) file ≡ Some mark
at_own slot file mark e = subst (λ s. mark_at s file ≡ Some mark) (sym (mark_in-some slot (bytes_in_slot slot file) mark e).1) e

module _ (file : List ℕ) where
  abbrev pub IsStart : Option Mark → Type 0
  IsStart None = (slot : ℕ) → mark_at slot file ≡ None
  IsStart (Some mark) = IsHighest file mark

  -- of the marks in the two slots, the higher one
  pub highest_of : (zero one : Option Mark) → mark_at 0 file ≡ zero → mark_at 1 file ≡ one → IsStart (higher zero one)
  highest_of None None a b = λ slot. elim (option_cases (mark_at slot file)) [
    | inl none ↦ none
    | inr some ↦ elim (slot_cases slot file some.0 some.1) [
      | inl is ↦ subst (λ s. mark_at s file ≡ None) (sym is) a
      | inr is ↦ subst (λ s. mark_at s file ≡ None) (sym is) b
    ]
  ]
  highest_of (Some mark) None a b = record {
    valid = at_own 0 file mark a;
    highest = λ slot other is. elim (slot_cases slot file other is) [
      | inl at ↦ omega (arith, ap (λ (m : Mark). m.number) (same_Some other mark (sym is ∙ ap (λ s. mark_at s file) at ∙ a)))
      | inr at ↦ let no : Some other ≡ None = sym is ∙ ap (λ s. mark_at s file) at ∙ b in absurd cc
    ];
  }
  highest_of None (Some mark) a b = record {
    valid = at_own 1 file mark b;
    highest = λ slot other is. elim (slot_cases slot file other is) [
      | inr at ↦ omega (arith, ap (λ (m : Mark). m.number) (same_Some other mark (sym is ∙ ap (λ s. mark_at s file) at ∙ b)))
      | inl at ↦ let no : Some other ≡ None = sym is ∙ ap (λ s. mark_at s file) at ∙ a in absurd cc
    ];
  }
  highest_of (Some mark) (Some more) a b = elim (bool_cases (nat_lt mark.number more.number)) [
    | inl lower ↦ subst IsStart (sym (ap (λ (c : Bool). let o : Option Mark = if c then Some more else Some mark in o) lower)) (record {
      valid = at_own 1 file more b;
      highest = λ slot other is. elim (slot_cases slot file other is) [
        | inl at ↦ omega (arith, ap (λ (m : Mark). m.number) (same_Some other mark (sym is ∙ ap (λ s. mark_at s file) at ∙ a)), ltb-true _ _ lower)
        | inr at ↦ omega (arith, ap (λ (m : Mark). m.number) (same_Some other more (sym is ∙ ap (λ s. mark_at s file) at ∙ b)))
      ];
    })
    | inr same ↦ subst IsStart (sym (ap (λ (c : Bool). let o : Option Mark = if c then Some more else Some mark in o) same)) (record {
      valid = at_own 0 file mark a;
      highest = λ slot other is. elim (slot_cases slot file other is) [
        | inl at ↦ omega (arith, ap (λ (m : Mark). m.number) (same_Some other mark (sym is ∙ ap (λ s. mark_at s file) at ∙ a)))
        | inr at ↦ omega (arith, ap (λ (m : Mark). m.number) (same_Some other more (sym is ∙ ap (λ s. mark_at s file) at ∙ b)), ltb-false _ _ same)
      ];
    })
  ]
