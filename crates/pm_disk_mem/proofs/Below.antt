-- Of the bytes that a cut leaves, a segment has what is left of them by the segments below it.
use Rattle.std.proofs.Common.{◌≡◌, inl, inr, ℕ, zero, suc, ◌+◌, ◌-◌, ◌<◌, refl, ◌∙◌, ap, arith}
use Rattle.std.specs.Prelude.{◌≢◌}
use Rattle.std.proofs.lemmas.Bool.{cases_lt}
use Rattle.pm_disk.specs.Files.{File}
use Rattle.pm_disk_mem.specs.Picks.{written, written_below, pick_after, pick_at}
use Rattle.pm_disk_mem.specs.declared.pick.Pick.{Pick}
use Rattle.pm_disk_mem.specs.declared.pick.Pick.TheVariants as pick

-- where nothing is pending below, there are none
pub below_none : (log : ℕ → File) (seg : ℕ) → ((k : ℕ) → k < seg → written (log k).since ≡ 0) → written_below log seg ≡ 0
below_none log zero none = refl
below_none log (suc seg) none = omega (arith, below_none log seg (λ k lt. none k (omega (arith, lt))), none seg (omega arith))

-- One file more, in front of all others that have pending bytes.
module _ (with_it rest : ℕ → File) (at count : ℕ) (has : written (with_it at).since ≡ count) (others : (k : ℕ) → k ≢ at → with_it k ≡ rest k) (none : (k : ℕ) → k < suc at → written (rest k).since ≡ 0) where
  same_else : (k : ℕ) → k ≢ at → written (with_it k).since ≡ written (rest k).since
  same_else k apart = ap (λ (file : File). written file.since) (others k apart)

  pub below_it : written_below with_it at ≡ 0
  below_it = below_none with_it at (λ k lt. same_else k (λ is. omega (arith, is, lt)) ∙ none k (omega (arith, lt)))

  pub below_past : (seg : ℕ) → at < seg → written_below with_it seg ≡ count + written_below rest seg
  below_past zero lt = absurd (omega (arith, lt))
  below_past (suc seg) lt =
      elim (cases_lt at seg) [
        | inl past ↦ omega (arith, below_past seg past, same_else seg (λ is. omega (arith, is, past)))
        | inr last ↦
            let is : seg ≡ at = omega (arith, lt, last) in
            let first : written_below with_it seg ≡ 0 = ap (λ k. written_below with_it k) is ∙ below_it in
            let has_it : written (with_it seg).since ≡ count = ap (λ k. written (with_it k).since) is ∙ has in
            let second = below_none rest (suc seg) (λ k k_lt. none k (omega (arith, k_lt, is))) in
            omega (arith, first, has_it, second)
      ]

-- the pick for the first segment
pub pick_first : (pick : Pick) (log : ℕ → File) (seg : ℕ) → written_below log seg ≡ 0 → pick_at pick log seg ≡ pick
pick_first pick.Kept log seg none = refl
pick_first pick.Lost log seg none = refl
pick_first (pick.Fill byte) log seg none = refl
pick_first (pick.Cut count) log seg none = let e : count - written_below log seg ≡ count = omega (arith, none) in ap (λ n. pick.Cut n) e

-- the pick for those after it
pub pick_past : (pick : Pick) (file : File) (with_it rest : ℕ → File) (seg : ℕ) → written_below with_it seg ≡ written file.since + written_below rest seg → pick_at (pick_after pick file) rest seg ≡ pick_at pick with_it seg
pick_past pick.Kept file with_it rest seg is = refl
pick_past pick.Lost file with_it rest seg is = refl
pick_past (pick.Fill byte) file with_it rest seg is = refl
pick_past (pick.Cut count) file with_it rest seg is =
    let e : count - written file.since - written_below rest seg ≡ count - written_below with_it seg = omega (arith, is) in ap (λ n. pick.Cut n) e
