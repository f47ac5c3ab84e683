-- The locks' frames are the words and the slots of their table.
use Rattle.std.proofs.Common.{◌≡◌, ℕ, ◌<◌, List, map, length, sym, ap, ◌∙◌, subst}
use Rattle.std.proofs.lemmas.List.{length-map}
use Rattle.pm_region.specs.Lease.{Range, Leased}

pub within : (leases : List Leased) (ranges : List Range) (f frames n : ℕ) → map (λ y. y.range) leases ≡ ranges → length leases ≡ frames → n ≡ frames → f < length ranges → f < n
within leases ranges f frames n are count same lt =
    subst (λ k. f < k) (ap length (sym are) ∙ length-map leases (λ y. y.range) ∙ count ∙ sym same) lt
