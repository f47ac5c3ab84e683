-- The leases that locks give back are those of the region in which their frames lie.
use Rattle.std.proofs.Common.{◌≡◌, ℕ, zero, suc, ◌<◌, List, [], ◌∷◌, Some, length, refl, sym, ap, ◌∙◌, arith}
use Rattle.std.specs.Prelude.{slice_get, map}
use Rattle.std.proofs.lemmas.Option.{same_Some, slice_get_within}
use Rattle.std.proofs.lemmas.List.{length-map}
use Rattle.pm_region.specs.Lease.{Leased}
use Rattle.pm_region.specs.Region.{Extent, AreLeasesOf, range_of}
use Rattle.pm_locks.specs.Opening.{AreNumbered}
use Rattle.pm_locks.specs.Rule.{frame_range}
use Rattle.pm_locks.specs.Sight.{LockTable, IsFrameOf}

-- where the lease in this place lies
range_at : (leases : List Leased) (f : ℕ) (y : Leased) → slice_get leases f ≡ Some y → frame_range (map (λ z. z.range) leases) f ≡ y.range
range_at [] f y is = absurd (cc is)
range_at (z ∷ zs) zero y is = ap (λ (l : Leased). l.range) (same_Some _ _ is)
range_at (z ∷ zs) (suc f) y is = range_at zs f y is

-- there is a lease in each place
lease_at : (leases : List Leased) (f : ℕ) → f < length leases → (y : Leased) × (slice_get leases f ≡ Some y)
lease_at [] f lt = absurd (omega arith)
lease_at (z ∷ zs) zero lt = (z, refl)
lease_at (z ∷ zs) (suc f) lt = lease_at zs f (omega arith)

-- the frames of locks over all leases of a region lie there
pub frames_of : (locks : LockTable) (region : Extent) (leases : List Leased) → AreLeasesOf region leases → locks.ranges ≡ map (λ y. y.range) leases → (f : ℕ) → IsFrameOf locks f → frame_range locks.ranges f ≡ range_of region f
frames_of locks region leases are ranges f lt =
    let x = lease_at leases f (omega (arith, lt, ap length ranges, length-map leases (λ (y : Leased). y.range))) in
    ap (λ l. frame_range l f) ranges ∙ range_at leases f x.0 x.1 ∙ (are.each f x.0 x.1).range

-- leases with the frames' numbers and places are all of the region's
pub leases_of : (locks : LockTable) (region : Extent) (leases : List Leased) → AreNumbered leases → map (λ y. y.range) leases ≡ locks.ranges → length locks.ranges ≡ region.frames → ((f : ℕ) → IsFrameOf locks f → frame_range locks.ranges f ≡ range_of region f) → AreLeasesOf region leases
leases_of locks region leases numbered ranges many lie = record {
  count = omega (arith, many, ap length ranges, length-map leases (λ (y : Leased). y.range));
  each = λ i lease at.
      let lt = slice_get_within leases i lease at in
      let frame : i < length locks.ranges = omega (arith, lt, ap length ranges, length-map leases (λ (y : Leased). y.range)) in
      record {
        number = numbered i lease at;
        range = sym (range_at leases i lease at) ∙ ap (λ l. frame_range l i) ranges ∙ lie i frame;
      };
}
