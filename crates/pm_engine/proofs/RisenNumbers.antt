-- The number of a checkpoint's mark rises by one.
use Rattle.std.proofs.Common.{◌≡◌, ◌+◌, ◌^◌, ◌≤◌, Bool, inl, inr, Option, Some, None, refl, sym, subst, arith, nat_lt}
use Rattle.std.specs.Prelude.{if◌then◌else◌}
use Rattle.pm_records.proofs.Runs.{bool_cases}
use Rattle.pm_types.specs.declared.shape.Mark.{Mark}
use Rattle.pm_ckpt.specs.Marked.{number_after, next_number}
use Rattle.pm_engine.specs.RunningStores.{number_of}

pub number_rises : (mark : Option Mark) → number_after mark ≡ number_of mark + 1
number_rises None = refl
number_rises (Some mark) = refl

-- the next one is no higher anyway
pub mark_rises : (mark : Option Mark) → next_number mark ≤ number_of mark + 1
mark_rises mark = elim (bool_cases (nat_lt (number_after mark) (2 ^ 64))) [
  | inl is ↦ subst (λ (b : Bool). (if b then number_after mark else 1) ≤ number_of mark + 1) (sym is) (omega (arith, number_rises mark))
  | inr is ↦ subst (λ (b : Bool). (if b then number_after mark else 1) ≤ number_of mark + 1) (sym is) (omega arith)
]
