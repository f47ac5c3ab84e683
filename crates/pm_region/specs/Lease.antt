-- What a contract sees of a lease.
use Rattle.std.specs.Prelude.{◌≡◌, ℕ, ◌+◌, ◌<◌, ◌≤◌, List, length, AllPairs}
use Rattle.std.specs.List.{refill}

-- a range of bytes in a block of memory
pub record Range : Type 0 where
  pub block : ℕ
  pub start : ℕ
  pub len : ℕ

-- the byte at this offset in this block is one of the range's
pub record Covers (range : Range) (in_block offset : ℕ) : Type 0 where
  pub here : range.block ≡ in_block
  pub from : range.start ≤ offset
  pub upto : offset < range.start + range.len

-- a lease: its number, its bytes, and where they lie
pub record Leased : Type 0 where
  pub number : ℕ
  pub bytes : List ℕ
  pub range : Range

-- no byte of memory is in both
abbrev pub AreApart : Leased → Leased → Type 0
AreApart a b = (block offset : ℕ) → Covers a.range block offset → ¬ Covers b.range block offset

-- no byte of memory is in two of the leases
abbrev pub ShareNoByte : List Leased → Type 0
ShareNoByte leases = AllPairs AreApart leases

-- the lease with these bytes in place of its own, as far as it has bytes
abbrev pub with_bytes : Leased → List ℕ → Leased
with_bytes lease bytes = record lease { bytes = refill (length lease.bytes) lease.bytes bytes }
