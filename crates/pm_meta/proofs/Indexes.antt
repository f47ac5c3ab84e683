-- The numbers of a meta page that are indexes are its first thirty-three.
use Rattle.std.proofs.Common.{◌≡◌, ℕ, ◌+◌, ◌-◌, ◌*◌, ◌<◌, List, subst, inl, inr, arith}
use Rattle.std.proofs.lemmas.Bool.{cases_lt}
use Rattle.pm_types.specs.Fields.{u32_at}
use Rattle.pm_meta.specs.declared.slots.MetaSlot.TheVariants.{Root, Bucket, Reuse, Pages, Rows}
use Rattle.pm_meta.specs.MetaPages.{AllBelow}

-- each number, from the first index on, is below this one
abbrev pub EachBelow : ℕ → List ℕ → ℕ → Type 0
EachBelow pages page n = (i : ℕ) → i < n → u32_at page (32 + 4 * i) < pages

pub all_below : (pages : ℕ) (page : List ℕ) → EachBelow pages page 33 → AllBelow pages page
all_below pages page each (Root x) is = each x (omega (arith, is))
all_below pages page each (Bucket x) is =
    let at : 32 + 4 * (16 + x) ≡ 96 + 4 * x = omega arith in
    subst (λ k. u32_at page k < pages) at (each (16 + x) (omega (arith, is)))
all_below pages page each Reuse is = each 32 (omega arith)
all_below pages page each Pages is = absurd is
all_below pages page each Rows is = absurd is

pub each_below : (pages : ℕ) (page : List ℕ) → AllBelow pages page → EachBelow pages page 33
each_below pages page all i lt = elim (cases_lt i 16) [
  | inl root ↦ all (Root i) root
  | inr more ↦ elim (cases_lt i 32) [
    | inl bucket ↦
        let at : 96 + 4 * (i - 16) ≡ 32 + 4 * i = omega arith in
        subst (λ k. u32_at page k < pages) at (all (Bucket (i - 16)) (omega arith))
    | inr last ↦
        let at : 160 ≡ 32 + 4 * i = omega arith in
        subst (λ k. u32_at page k < pages) at (all Reuse tt)
  ]
]
