-- What a contract sees of a region.
use Rattle.std.specs.Prelude.{◌≡◌, ℕ, ◌+◌, ◌*◌, ◌<◌, List, length, replicate, slice_get, Some}
use Rattle.pm_region.specs.Lease.{Range, Leased}

-- a block of memory that is cut into `frames` leases of `size` bytes, from the byte at `start` on
pub record Extent : Type 0 where
  pub block : ℕ
  pub start : ℕ
  pub frames : ℕ
  pub size : ℕ

-- where the lease with this number lies
abbrev pub range_of : Extent → ℕ → Range
range_of region number = record {
  block = region.block;
  start = region.start + number * region.size;
  len = region.size;
}

-- the region's lease with this number, whatever its bytes
pub record IsLeaseOf (region : Extent) (index : ℕ) (lease : Leased) : Type 0 where
  pub number : lease.number ≡ index
  pub range : lease.range ≡ range_of region index

-- these are all leases of the region, in order
pub record AreLeasesOf (region : Extent) (leases : List Leased) : Type 0 where
  pub count : length leases ≡ region.frames
  pub each : (i : ℕ) (lease : Leased)
      → slice_get leases i ≡ Some lease → IsLeaseOf region i lease

-- the region's lease with this number, as it is made
abbrev pub fresh_lease : Extent → ℕ → Leased
fresh_lease region number = record {
  number = number;
  bytes = replicate region.size 0;
  range = range_of region number;
}

-- these are all leases of the region, in order, as they are made
pub record AreFresh (region : Extent) (leases : List Leased) : Type 0 where
  pub count : length leases ≡ region.frames
  pub each : (i : ℕ) → i < region.frames → slice_get leases i ≡ Some (fresh_lease region i)
