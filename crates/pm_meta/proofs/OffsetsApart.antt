-- The numbers of a meta page stand apart, within the page's fields.
use Rattle.std.proofs.Common.{◌≡◌, ℕ, ◌+◌, ◌*◌, ◌≤◌, ◌⊎◌, refl, ap, inl, inr, arith}
use Rattle.std.proofs.lemmas.Bool.{cases_lt, cases_eq}
use Rattle.pm_meta.specs.declared.slots.MetaSlot.{MetaSlot}
use Rattle.pm_meta.specs.declared.slots.MetaSlot.TheVariants.{Root, Bucket, Reuse, Pages, Rows}
use Rattle.pm_meta.specs.MetaPages.{offset_of, IsSlot, IsPageSlot}

pub offset_bounds : (slot : MetaSlot) → IsSlot slot → (32 ≤ offset_of slot) × (offset_of slot + 4 ≤ 172)
offset_bounds (Root x) is = (omega arith, omega (arith, is))
offset_bounds (Bucket x) is = (omega arith, omega (arith, is))
offset_bounds Reuse is = (omega arith, omega arith)
offset_bounds Pages is = (omega arith, omega arith)
offset_bounds Rows is = (omega arith, omega arith)

-- an index stands before the counts
pub index_bounds : (slot : MetaSlot) → IsPageSlot slot → (32 ≤ offset_of slot) × (offset_of slot + 4 ≤ 164)
index_bounds (Root x) is = (omega arith, omega (arith, is))
index_bounds (Bucket x) is = (omega arith, omega (arith, is))
index_bounds Reuse is = (omega arith, omega arith)
index_bounds Pages is = absurd is
index_bounds Rows is = absurd is

-- a slot of an index is a slot
pub is_slot : (slot : MetaSlot) → IsPageSlot slot → IsSlot slot
is_slot (Root x) is = is
is_slot (Bucket x) is = is
is_slot Reuse is = tt
is_slot Pages is = absurd is
is_slot Rows is = absurd is

-- no byte is of both
abbrev pub AreApart : ℕ → ℕ → Type 0
AreApart a b = (a + 4 ≤ b) ⊎ (b + 4 ≤ a)

by_number : (base x y : ℕ) → (x ≡ y → ⊥) → AreApart (base + 4 * x) (base + 4 * y)
by_number base x y other = elim (cases_lt x y) [
  | inl lt ↦ inl (omega arith)
  | inr ge ↦ elim (cases_eq x y) [ inl same ↦ absurd (other same) | inr differ ↦ inr (omega (arith, differ)) ]
]

pub apart : (a b : MetaSlot) → IsSlot a → IsSlot b → (a ≡ b → ⊥) → AreApart (offset_of a) (offset_of b)
apart (Root x) (Root y) is_a is_b other = by_number 32 x y (λ e. other (ap Root e))
apart (Root x) (Bucket y) is_a is_b other = inl (omega (arith, is_a, is_b))
apart (Root x) Reuse is_a is_b other = inl (omega (arith, is_a))
apart (Root x) Pages is_a is_b other = inl (omega (arith, is_a))
apart (Root x) Rows is_a is_b other = inl (omega (arith, is_a))
apart (Bucket x) (Root y) is_a is_b other = inr (omega (arith, is_a, is_b))
apart (Bucket x) (Bucket y) is_a is_b other = by_number 96 x y (λ e. other (ap Bucket e))
apart (Bucket x) Reuse is_a is_b other = inl (omega (arith, is_a))
apart (Bucket x) Pages is_a is_b other = inl (omega (arith, is_a))
apart (Bucket x) Rows is_a is_b other = inl (omega (arith, is_a))
apart Reuse (Root y) is_a is_b other = inr (omega (arith, is_b))
apart Reuse (Bucket y) is_a is_b other = inr (omega (arith, is_b))
apart Reuse Reuse is_a is_b other = absurd (other refl)
apart Reuse Pages is_a is_b other = inl (omega arith)
apart Reuse Rows is_a is_b other = inl (omega arith)
apart Pages (Root y) is_a is_b other = inr (omega (arith, is_b))
apart Pages (Bucket y) is_a is_b other = inr (omega (arith, is_b))
apart Pages Reuse is_a is_b other = inr (omega arith)
apart Pages Pages is_a is_b other = absurd (other refl)
apart Pages Rows is_a is_b other = inl (omega arith)
apart Rows (Root y) is_a is_b other = inr (omega (arith, is_b))
apart Rows (Bucket y) is_a is_b other = inr (omega (arith, is_b))
apart Rows Reuse is_a is_b other = inr (omega arith)
apart Rows Pages is_a is_b other = inr (omega arith)
apart Rows Rows is_a is_b other = absurd (other refl)
