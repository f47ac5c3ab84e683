-- All leases of a region share no byte.
use Rattle.std.proofs.Common.{ℕ, ◌+◌, ◌<◌, List, ap, arith}
use Rattle.std.proofs.lemmas.Nat.{mul-le}
use Rattle.std.proofs.lemmas.Option.{slice_get-get_or}
use Rattle.pm_region.specs.Lease.{Leased, AreApart, ShareNoByte}
use Rattle.pm_region.specs.Region.{Extent, IsLeaseOf, AreLeasesOf}

-- a lease with a lower number ends before the other begins
pub apart_in_order : (region : Extent) (i j : ℕ) (a b : Leased) → i < j → IsLeaseOf region i a → IsLeaseOf region j b → AreApart a b
apart_in_order region i j a b below of_a of_b block offset in_a in_b =
    let size = region.size in
    let from = in_b.from in let upto = in_a.upto in
    let start_a = ap (λ r. r.start) of_a.range in let len_a = ap (λ r. r.len) of_a.range in
    let start_b = ap (λ r. r.start) of_b.range in
    absurd (omega (arith, from, upto, start_a, len_a, start_b, mul-le (i + 1) size j size (omega arith) (omega arith)))

pub apart : (region : Extent) (leases : List Leased) → AreLeasesOf region leases → ShareNoByte leases
apart region leases are i j d below within =
    apart_in_order region i j _ _ below
    (are.each i _ (slice_get-get_or leases i d (omega (arith, below, within))))
    (are.each j _ (slice_get-get_or leases j d within))
