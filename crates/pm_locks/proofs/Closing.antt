-- The leases of a closed table are taken out, one after the other.
use Rattle.std.proofs.Common.{◌≡◌, ℕ, ◌+◌, ◌<◌, ◌≤◌, List, [], ◌∷◌, ◌++◌, length, Bool, true, false, get_or, set, sym, ap, ◌∙◌, subst, ⊎_elim, arith, Option, Some, get_or-set_other, get_or-set_same, length-set}
use Rattle.std.specs.List.{slice_get}
use Rattle.std.proofs.lemmas.List.{length-append}
use mathlib.Core.Option.{some}
use mathlib.Core.Logic.{dite}
use native.Mathlib.Decide.{ℕ_discrete}
use lib.ListN.{get_elem?}
use Rattle.pm_region.specs.Lease.{Leased}
use Rattle.pm_locks.proofs.Pushing.{slice_get-pushed}

-- f slots are emptied, and their leases stand in order
pub record HasTaken (first now : List (Option Leased)) (filled : List Bool) (frames f : ℕ) (leases : List Leased) : Type 0 where
  pub same : now ≡ first
  pub wide : frames ≤ length filled
  pub full : (k : ℕ) → f ≤ k → k < frames → get_or filled k false ≡ true
  pub gone : (k : ℕ) → k < f → get_or filled k false ≡ false
  pub count : length leases ≡ f
  pub each : (k : ℕ) (y : Leased) → slice_get leases k ≡ Some y → get_elem? first k ≡ some (Some y)

pub takes_next : (first now now' : List (Option Leased)) (filled filled' : List Bool) (frames f : ℕ) (leases : List Leased) (y : Leased) → HasTaken first now filled frames f leases → f < frames
    → get_elem? now f ≡ some (Some y) → now' ≡ now → filled' ≡ set filled f false → HasTaken first now' filled' frames (f + 1) (leases ++ y ∷ [])
takes_next first now now' filled filled' frames f leases y t lt at same is =
    let w = t.wide in
    let here : get_or (set filled f false) f false ≡ false = get_or-set_same filled f false false (omega arith) in record {
      same = same ∙ t.same;
      wide = let e : length filled' ≡ length filled = ap length is ∙ length-set filled f false in omega arith;
      full = λ k le k<. ap (λ l. get_or l k false) is ∙ get_or-set_other filled f k false false (λ q. omega arith) ∙ t.full k (omega arith) k<;
      gone = λ k k<. ap (λ l. get_or l k false) is ∙ dite (ℕ_discrete k f) (λ q. ap (λ j. get_or (set filled f false) j false) q ∙ here) (λ q. get_or-set_other filled f k false false q ∙ t.gone k (omega arith));
      count = length-append leases (y ∷ []) ∙ ap (λ k. k + 1) t.count;
      each = λ k z e. ⊎_elim (t.each k z) (λ p. let q : f ≡ k = sym (p.0 ∙ t.count) in subst (λ (s : ℕ × Leased). get_elem? first s.0 ≡ some (Some s.1)) (λ i. (q i, p.1 i)) (ap (λ l. get_elem? l f) (sym t.same) ∙ at)) (slice_get-pushed leases y z k e);
    }
