-- The bytes of a log's segments, counted one segment after the other.
use Rattle.std.proofs.Common.{◌≡◌, ◌⊎◌, inl, inr, ⊎_elim, ℕ, suc, ◌+◌, ◌-◌, ◌≤◌, List, length, sym, ◌∙◌, ap, subst, arith}
use Rattle.std.specs.Prelude.{◌^◌, min}
use Rattle.std.proofs.lemmas.Bool.{cases_lt}
use Rattle.pm_types.specs.declared.place.Place.{Place}
use Rattle.pm_disk.specs.Moments.{History, IsHistory, AllMoments}
use Rattle.pm_disk.specs.Worlds.{World}
use Rattle.pm_disk.proofs.Chain.{at_last, joined, weaker}
use Rattle.pm_records.specs.LogSteps.{DoesPrefix, Step}
use Rattle.pm_records.proofs.Tracing.{prefix_none}
use Rattle.pm_redo.specs.Rebuilding.{IsSame}
use Rattle.pm_engine.specs.LogCounts.{segments_len}

-- one segment more
pub counted_more : (log : ℕ → List ℕ) (first seg bytes len sum : ℕ) → first ≤ seg → len ≡ length (log seg) → sum ≡ min (bytes + len) (2 ^ 64 - 1) → (segments_len log first (seg - first) ≤ bytes) ⊎ (2 ^ 64 - 1 ≤ bytes)
    → (segments_len log first (seg + 1 - first) ≤ sum) ⊎ (2 ^ 64 - 1 ≤ sum)
counted_more log first seg bytes len sum from len_is sum_is so_far =
    let next : seg + 1 - first ≡ suc (seg - first) = omega (arith, from) in
    let here : first + (seg - first) ≡ seg = omega (arith, from) in
    let all : segments_len log first (seg + 1 - first) ≡ segments_len log first (seg - first) + len =
    ap (segments_len log first) next ∙ ap (λ (k : ℕ). segments_len log first (seg - first) + length (log k)) here ∙ ap (λ (k : ℕ). segments_len log first (seg - first) + k) (sym len_is) in
    ⊎_elim (λ le. ⊎_elim (λ lt. inl (omega (arith, all, le, lt, sum_is))) (λ ge. inr (omega (arith, ge, sum_is))) (cases_lt (bytes + len) (2 ^ 64 - 1))) (λ le. inr (omega (arith, le, sum_is))) so_far

-- ---- what was read before a log is appended to

module _ (steps : List Step) (end : Place) (old mid : History) (same : AllMoments old mid (IsSame old.world)) where
  -- nothing else was done
  pub only_read : AllMoments old mid (DoesPrefix steps end old.world)
  only_read = weaker old mid (IsSame old.world) (DoesPrefix steps end old.world) (λ w is. subst (DoesPrefix steps end old.world) (sym is) (prefix_none steps end old.world)) same

  module _ (sound : IsHistory mid) where
    pub same_world : mid.world ≡ old.world
    same_world = at_last old mid (IsSame old.world) sound same

    -- and then it was
    pub after_read : (new : History) → AllMoments mid new (DoesPrefix steps end mid.world) → AllMoments old new (DoesPrefix steps end old.world)
    after_read new does =
        joined old mid new (DoesPrefix steps end old.world) only_read (subst (λ (w : World). AllMoments mid new (DoesPrefix steps end w)) same_world does)
