-- The room of all leases of a region is joined, from the last lease down.
use Rattle.std.proofs.Common.{◌≡◌, ℕ, ◌+◌, ◌*◌, List, [], ◌∷◌, ◌++◌, length, Some, sym, ap, ◌∙◌, subst, arith, length-append}
use Rattle.std.proofs.lemmas.Option.{slice_get_within}
use Rattle.std.specs.List.{slice_get}
use denote.RawPtr.{Ptr, InBlock, block_ptr, at_block, ◌+ₚ◌}
use Rattle.pm_region.proofs.Cuts.{slice_get-front, slice_get-push}
use Rattle.pm_region.specs.Lease.{Leased}
use Rattle.pm_region.specs.Memory.{extent_at, range_at}
use Rattle.pm_region.specs.Region.{Extent, range_of, IsLeaseOf, AreLeasesOf}

-- this is the room of all leases but these
pub record IsJoined (region : Extent) (leases : List Leased) (origin : Ptr) (size : ℕ) : Type 0 where
  pub each : (i : ℕ) (lease : Leased) → slice_get leases i ≡ Some lease → IsLeaseOf region i lease
  pub at : origin ≡ block_ptr region.block (region.start + length leases * region.size)
  pub sum : length leases * region.size + size ≡ region.frames * region.size

-- the room of a lease lies where its number says
lies_at_number : (region : Extent) (n : ℕ) (lease : Leased) (origin : Ptr) (size : ℕ) → IsLeaseOf region n lease → lease.range ≡ range_at origin size → InBlock origin
    → (origin ≡ block_ptr region.block (region.start + n * region.size)) × (size ≡ region.size)
lies_at_number region n lease origin size of here placed =
    let same : range_at origin size ≡ range_of region n = sym here ∙ of.range in
    (at_block origin placed ∙ (λ i. block_ptr (same i).block (same i).start), ap (λ r. r.len) same)

module _ (region : Extent) (all leases : List Leased) (lease : Leased) (origin : Ptr) (size : ℕ) (popped : all ≡ leases ++ lease ∷ []) where
  -- a lease that is popped is the last one
  last_of : ((i : ℕ) (l : Leased) → slice_get all i ≡ Some l → IsLeaseOf region i l) → IsLeaseOf region (length leases) lease
  last_of each = each (length leases) lease (ap (λ ls. slice_get ls (length leases)) popped ∙ slice_get-push leases lease)

  one_less : length all ≡ length leases + 1
  one_less = omega (arith, ap length popped, length-append leases (lease ∷ []))

  others_of : ((i : ℕ) (l : Leased) → slice_get all i ≡ Some l → IsLeaseOf region i l) → (i : ℕ) (l : Leased) → slice_get leases i ≡ Some l → IsLeaseOf region i l
  others_of each i l at = each i l (ap (λ ls. slice_get ls i) popped ∙ slice_get-front leases (lease ∷ []) i (slice_get_within leases i l at) ∙ at)

  pub IsJoined-last : AreLeasesOf region all → lease.range ≡ range_at origin size → InBlock origin → IsJoined region leases origin size
  IsJoined-last are here placed =
      let lies = lies_at_number region (length leases) lease origin size (last_of are.each) here placed in record {
        each = others_of are.each;
        at = lies.0;
        sum = ap (λ n. length leases * region.size + n) lies.1 ∙ omega arith ∙ ap (λ n. n * region.size) (sym one_less ∙ are.count);
      }

  module _ (later : Ptr) (following : ℕ) (joined : IsJoined region all later following) (here : lease.range ≡ range_at origin size) (placed : InBlock origin) where
    there : (origin ≡ block_ptr region.block (region.start + length leases * region.size)) × (size ≡ region.size)
    there = lies_at_number region (length leases) lease origin size (last_of joined.each) here placed

    pub joins_on : later ≡ origin +ₚ size
    joins_on =
        let lies = there in let one = region.size in let k = length leases in
        let at : region.start + length all * one ≡ region.start + k * one + size = omega (arith, lies.1, ap (λ n. n * one) one_less) in
        joined.at ∙ ap (block_ptr region.block) at ∙ ap (λ p. p +ₚ size) (sym lies.0)

    pub IsJoined-more : IsJoined region leases origin (size + following)
    IsJoined-more = record {
      each = others_of joined.each;
      at = there.0;
      sum = omega (arith, there.1, joined.sum, ap (λ n. n * region.size) one_less);
    }

-- no lease is left
pub IsJoined-all : (region : Extent) (origin : Ptr) (size : ℕ) → IsJoined region [] origin size
    → (extent_at origin region.frames region.size ≡ region) × InBlock origin × (size ≡ region.frames * region.size)
IsJoined-all region origin size joined =
    let start : region.start + 0 * region.size ≡ region.start = omega arith in
    let at : origin ≡ block_ptr region.block region.start = joined.at ∙ ap (block_ptr region.block) start in
    (ap (λ p. extent_at p region.frames region.size) at, subst InBlock (sym at) tt, omega (arith, joined.sum))
