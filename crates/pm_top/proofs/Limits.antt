-- When a run is stopped by a limit, and when it isn't.
use Rattle.std.proofs.Common.{◌≡◌, ◌⊎◌, inl, inr, ℕ, List, Some, None, refl, sym, ◌∙◌, arith}
use Rattle.pm_types.specs.declared.fault.Field.{Field}
use Rattle.pm_types.specs.declared.shape.Shape.{Shape}
use Rattle.pm_disk.specs.Moments.{History}
use Rattle.pm_disk.specs.States.{DeviceState, Rose}
use Rattle.pm_disk.specs.Worlds.{World}
use Rattle.pm_model.specs.Eval.{Pairs}
use Rattle.pm_top.specs.declared.status.Status.{Status}
use Rattle.pm_top.specs.declared.status.Status.TheVariants.{Done, Usage, Misconfigured, Failed, Memory, Damaged, Long}
use Rattle.pm_top.specs.Promises.{Completes, OutcomeIs, RunHolds}
use Rattle.pm_top.specs.Configurations.{config_fault}
use Rattle.pm_top.specs.Limits.{IsWithinLimits, PassesLimit}

-- a script doesn't both pass a limit and keep both
limits_clash : (input : List ℕ) → PassesLimit input → IsWithinLimits input → ⊥
limits_clash input passes within = elim passes [ inl bytes ↦ omega (arith, bytes, within.bytes) | inr many ↦ omega (arith, many, within.lines) ]

-- within the limits, and with no failure, the script is answered whole, or memory runs out
whole_or_memory : (status : Status) (old new : World) (shape : Shape) (pairs : Pairs) (lines : ℕ) (order : List ℕ) → OutcomeIs status old new shape pairs lines order → IsWithinLimits old.input → (status ≡ Failed → ⊥)
    → (status ≡ Done) ⊎ (status ≡ Memory)
whole_or_memory Done old new shape pairs lines order outcome within sound = inl refl
whole_or_memory Misconfigured old new shape pairs lines order outcome within sound = absurd outcome
whole_or_memory Usage old new shape pairs lines order outcome within sound = absurd outcome
whole_or_memory Failed old new shape pairs lines order outcome within sound = absurd (sound refl)
whole_or_memory Memory old new shape pairs lines order outcome within sound = inr refl
whole_or_memory Damaged old new shape pairs lines order outcome within sound = absurd outcome
whole_or_memory Long old new shape pairs lines order outcome within sound = absurd (limits_clash old.input outcome.passes within)

-- past a limit, and with no failure, that is reported, or memory runs out
limit_or_memory : (status : Status) (old new : World) (shape : Shape) (pairs : Pairs) (lines : ℕ) (order : List ℕ) → OutcomeIs status old new shape pairs lines order → PassesLimit old.input → (status ≡ Failed → ⊥)
    → (status ≡ Long) ⊎ (status ≡ Memory)
limit_or_memory Done old new shape pairs lines order outcome passes sound = absurd (limits_clash old.input passes outcome.limits)
limit_or_memory Misconfigured old new shape pairs lines order outcome passes sound = absurd outcome
limit_or_memory Usage old new shape pairs lines order outcome passes sound = absurd outcome
limit_or_memory Failed old new shape pairs lines order outcome passes sound = absurd (sound refl)
limit_or_memory Memory old new shape pairs lines order outcome passes sound = inr refl
limit_or_memory Damaged old new shape pairs lines order outcome passes sound = absurd outcome
limit_or_memory Long old new shape pairs lines order outcome passes sound = inl refl

-- where a field is refused, and with no failure, that is reported, or memory runs out
field_or_memory : (status : Status) (old new : History) (lines : ℕ) (order : List ℕ) (field : Field) → RunHolds old new status lines order → config_fault old.world ≡ Some field → (status ≡ Failed → ⊥) → (status ≡ Usage → ⊥)
    → (status ≡ Misconfigured) ⊎ (status ≡ Memory)
field_or_memory Done old new lines order field run is sound known = absurd (let both : Some field ≡ None = sym is ∙ run.configured (inl refl) in cc)
field_or_memory Usage old new lines order field run is sound known = absurd (known refl)
field_or_memory Misconfigured old new lines order field run is sound known = inl refl
field_or_memory Failed old new lines order field run is sound known = absurd (sound refl)
field_or_memory Memory old new lines order field run is sound known = inr refl
field_or_memory Damaged old new lines order field run is sound known = absurd (let both : Some field ≡ None = sym is ∙ (run.damaged refl).configured in cc)
field_or_memory Long old new lines order field run is sound known = absurd (let both : Some field ≡ None = sym is ∙ run.configured (inr refl) in cc)

-- so a run is complete
pub completes : (old new : History) (status : Status) (lines : ℕ) (order : List ℕ) (before now : DeviceState) → RunHolds old new status lines order → (status ≡ Usage → ⊥) → (status ≡ Failed → Rose before now) → Completes status old.world before now
completes old new status lines order before now run known failed = record {
  refused = λ field is none. field_or_memory status old new lines order field run is (λ e. none (failed e)) known;
  within = λ shape pairs can within none. whole_or_memory status old.world new.world shape pairs lines order (run.outcome shape pairs can) within (λ is. none (failed is));
  passes = λ shape pairs can passes none. limit_or_memory status old.world new.world shape pairs lines order (run.outcome shape pairs can) passes (λ is. none (failed is));
}
