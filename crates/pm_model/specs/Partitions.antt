-- The partition of a key: its hash by FNV-1a with 32 bits, modulo the number of partitions. The
-- cache's number doesn't enter.
use Rattle.std.specs.Prelude.{ℕ, ◌*◌, ◌%◌, ◌^◌, ◌≤◌, List, fold, bit_xor}
use Rattle.pm_types.specs.declared.limits.TheConstants.{PARTITIONS_MAX}

-- as many partitions as a store may have
pub record ArePartitions (partitions : ℕ) : Type 0 where
  pub some : 1 ≤ partitions
  pub few : partitions ≤ PARTITIONS_MAX

-- the hash, with one byte more: an exclusive or with the byte, then a product in 32 bits
abbrev pub hashed_with : ℕ → ℕ → ℕ
hashed_with hash byte = bit_xor hash byte * 16777619 % 2 ^ 32

-- FNV-1a of the bytes
abbrev pub fnv_1a : List ℕ → ℕ
fnv_1a bytes = fold hashed_with 2166136261 bytes

-- the partition of a key, of so many
abbrev pub part_of : List ℕ → ℕ → ℕ
part_of key partitions = fnv_1a key % partitions
