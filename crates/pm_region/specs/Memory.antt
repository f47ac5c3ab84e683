-- What the parts of a block own.
use Rattle.std.specs.Prelude.{◌≡◌, ℕ, ◌≤◌, ◌⊎◌, List, [], ◌∷◌, replicate, refl}
use Rattle.std.specs.Borrow.{Fml, u8, Array}
use Rattle.std.specs.Coded.{Coded, code_by, coded×, coded_ℕ}
use denote.RawPtr.{Ptr, block_of, count_of, coded_ptr, room_at}
use Rattle.pm_types.specs.declared.limits.TheConstants.{PAGE_SIZE_MAX}
use Rattle.pm_region.specs.Lease.{Range, Leased}
use Rattle.pm_region.specs.Region.{Extent}

-- so many bytes from the origin on
abbrev pub range_at : Ptr → ℕ → Range
range_at origin len = record { block = block_of origin; start = count_of origin; len = len }

-- the lease of so many zeros with this number, from the origin on
abbrev pub zeros_at : ℕ → Ptr → ℕ → Leased
zeros_at number origin size = record {
  number = number;
  bytes = replicate size 0;
  range = range_at origin size;
}

-- the bytes of a lease of this size where its memory has these: zeros, until any are written
abbrev pub shown : ℕ → List ℕ → List ℕ
shown size [] = replicate size 0
shown size (x ∷ xs) = x ∷ xs

-- memory of this size has so many bytes: all, or none of at most a page
abbrev pub IsAllOrNone : ℕ → ℕ → Type 0
IsAllOrNone size len = (len ≡ size) ⊎ ((len ≡ 0) × (size ≤ PAGE_SIZE_MAX))

-- a block that is cut into leases from the origin on
abbrev pub extent_at : Ptr → ℕ → ℕ → Extent
extent_at origin frames size = record {
  block = block_of origin;
  start = count_of origin;
  frames = frames;
  size = size;
}

-- room for so many bytes from the origin on, whatever is there
abbrev pub room_lies : Ptr → ℕ → Fml
room_lies origin len = room_at (Array u8 len) origin

-- where the room of a vector belongs that is out, and for how many bytes it is
pub record Hollow : Type 0 where
  pub origin : Ptr
  pub len : ℕ

-- room for so many bytes, from this origin on
abbrev pub hollow : Ptr → ℕ → Hollow
hollow origin len = record { origin = origin; len = len }

-- it is stored as the pair of its fields
abbrev pub hollow_code : Coded Hollow
hollow_code = code_by (Ptr × ℕ) (coded× coded_ptr coded_ℕ)
    (λ h. (h.origin, h.len)) (λ p. hollow p.0 p.1) (λ _. refl)
