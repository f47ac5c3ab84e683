-- What is named where a page couldn't be used.
use Rattle.std.proofs.Common.{◌≡◌, inl, inr, List, ℕ, refl, sym, ◌∙◌, ap, subst}
use Rattle.pm_types.specs.declared.page_id.PageId.{PageId}
use Rattle.pm_disk.specs.Moments.{History, AllMoments}
use Rattle.pm_disk.specs.Worlds.{World, with_said}
use Rattle.pm_disk.proofs.Chain.{joined, weaker}
use Rattle.pm_redo.specs.Rebuilding.{IsSame}
use Rattle.pm_top.specs.Promises.{NamesMet, SameConfig, SaysPart}
use Rattle.pm_top.specs.StoreChecks.{MaySayOfMet, SaysLine}

-- the check alone
pub met_same : (met : PageId) (old new : History) → AllMoments old new (IsSame old.world) → AllMoments old new (MaySayOfMet met old.world)
met_same met old new = weaker old new (IsSame old.world) (MaySayOfMet met old.world) (λ w is. inl is)

-- a line after it, which changed nothing
pub met_says : (met : PageId) (old mid new : History) (text : List ℕ) → NamesMet met old.world text → AllMoments old mid (IsSame old.world) → mid.world ≡ old.world → AllMoments mid new (SaysPart text mid.world) → AllMoments old new (MaySayOfMet met old.world)
met_says met old mid new text is first same second =
    joined old mid new (MaySayOfMet met old.world) (met_same met old mid first)
    (weaker mid new (SaysPart text mid.world) (MaySayOfMet met old.world) (λ w part. inr (text, is, subst (λ (v : World). SaysPart text v w) same part)) second)

pub met_named : (met : PageId) (old mid new : World) (text : List ℕ) → NamesMet met old text → mid ≡ old → new ≡ with_said text mid → SaysLine (NamesMet met old) old new
met_named met old mid new text is same said = (text, is, said ∙ ap (with_said text) same)

-- the configuration is as it was
pub config_met : (met : PageId) (old new : History) → AllMoments old new (MaySayOfMet met old.world) → AllMoments old new (SameConfig old.world)
config_met met old new =
    weaker old new (MaySayOfMet met old.world) (SameConfig old.world) (λ w may. elim may [
      | inl same ↦ subst (SameConfig old.world) (sym same) refl
      | inr is ↦ subst (SameConfig old.world) (sym is.2.1) refl
    ])
