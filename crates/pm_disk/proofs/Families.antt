-- What a change of one file leaves of a family of them.
use Rattle.std.proofs.Common.{◌≡◌, inl, inr, ℕ, true, false, sym, ap, subst, arith}
use Rattle.std.specs.Prelude.{◌==◌, ◌≢◌, if◌then◌else◌}
use Rattle.std.proofs.lemmas.Bool.{cases_eq}
use Rattle.std.proofs.lemmas.Bool.Decides.{nat_tests}
use Rattle.pm_disk.specs.Files.{File, Change, with_change, all_forced}
use Rattle.pm_disk.specs.Worlds.{World, with_file, log_changed, log_forced}

-- the changed file
pub file_here : (files : ℕ → File) (at : ℕ) (file : File) → with_file files at file at ≡ file
file_here files at file = ap (λ b. if b then file else files at) same
  where
    same : (at == at) ≡ true
    same = grind (arith, nat_tests)

-- any other one
pub file_there : (files : ℕ → File) (at n : ℕ) (file : File) → n ≢ at → with_file files at file n ≡ files n
file_there files at n file apart = ap (λ b. if b then file else files n) other
  where
    other : (n == at) ≡ false
    other = grind (arith, nat_tests)

-- what holds of the changed file and of each other one holds of each
pub file_cases : (files : ℕ → File) (at : ℕ) (file : File) (P : ℕ → File → Type 0) → P at file → ((n : ℕ) → n ≢ at → P n (files n)) → (n : ℕ) → P n (with_file files at file n)
file_cases files at file P here there n =
    elim (cases_eq n at) [
      | inl is ↦ subst (λ k. P k (with_file files at file k)) (sym is) (subst (P at) (sym (file_here files at file)) here)
      | inr apart ↦ subst (P n) (sym (file_there files at n file apart)) (there n apart)
    ]

-- ---- the calls on the log
pub changed_here : (seg : ℕ) (change : Change) (world : World) → (log_changed seg change world).log seg ≡ with_change (world.log seg) change
changed_here seg change world = file_here world.log seg (with_change (world.log seg) change)

pub changed_there : (seg n : ℕ) (change : Change) (world : World) → n ≢ seg → (log_changed seg change world).log n ≡ world.log n
changed_there seg n change world apart = file_there world.log seg n (with_change (world.log seg) change) apart

pub forced_here : (seg : ℕ) (world : World) → (log_forced seg world).log seg ≡ all_forced (world.log seg)
forced_here seg world = file_here world.log seg (all_forced (world.log seg))

pub forced_there : (seg n : ℕ) (world : World) → n ≢ seg → (log_forced seg world).log n ≡ world.log n
forced_there seg n world apart = file_there world.log seg n (all_forced (world.log seg)) apart
