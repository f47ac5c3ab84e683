-- How often calls failed, and why the first one did.
use Rattle.std.specs.Prelude.{◌≡◌, ◌≤◌, ◌<◌, ℕ, Option, IsSome, IsNone, IsSomeAnd, Result, OnOk, OnErr}
use Rattle.pm_types.specs.Counts.{HasRisen}
use Rattle.pm_disk_fs.specs.declared.failure.Failure.{Failure}

-- The failures of an object's calls.
pub record FaultsView : Type 0 where
  -- how often a call has failed, up to 2^64 - 1, where the count stands still
  pub count : ℕ
  -- the first failure
  pub first : Option Failure

-- The first failure is known once a call has failed, comes with the first call that fails, and never changes.
-- It is one that this call may have.
pub record KeepsFirst {T E : Type 0} (may_fail : Failure → Type 0) (old new : FaultsView)
    (result : Result T E) : Type 0 where
  pub kept : IsSome old.first → new.first ≡ old.first
  pub same : OnOk result (new.first ≡ old.first)
  pub known : OnErr result (IsSomeAnd new.first (λ failure. IsNone old.first → may_fail failure))

-- The failures of a part were counted: once where a call of it failed.
pub record JoinsFaults (old part new : FaultsView) : Type 0 where
  pub later : old.count ≤ new.count
  pub same : part.count ≡ 0 → new ≡ old
  pub rose : 0 < part.count → HasRisen old.count new.count
  pub kept : IsSome old.first → new.first ≡ old.first
  pub known : 0 < part.count → IsSome new.first
