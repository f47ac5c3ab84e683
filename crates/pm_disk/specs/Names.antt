-- The names of the store's files in its folder.
--
--   name                      file
--   config.json               the configuration
--   cp.start                  the start markers of checkpoints
--   cp.end                    the end markers of checkpoints
--   wal-NNNNNNNNNNNNNNNN.seg  a segment of the log: its number as 16 lower-case hexadecimal digits
--   part-NNN.pages            a partition's pages: its number, below 64, as three decimal digits
use Rattle.std.specs.Prelude.{◌≡◌, ◌<◌, ◌≤◌, ◌+◌, ◌/◌, ◌%◌, ◌^◌, ℕ, List, [], ◌∷◌, ◌++◌, zero, suc}
use Rattle.std.specs.Prelude.{codes, nat_lt, if◌then◌else◌}
use Rattle.pm_disk.specs.declared.mark.MarkFile.TheVariants as mark
use Rattle.pm_disk.specs.declared.names.StoreFile.{StoreFile}
use Rattle.pm_disk.specs.declared.names.StoreFile.TheVariants.{Config, Marks, Segment, Pages}
use Rattle.pm_types.specs.declared.limits.TheConstants.{PARTITIONS_MAX}

-- the digit of a number below 16: `0` to `9`, then `a` to `f`
abbrev pub hex_digit : ℕ → ℕ
hex_digit n = if nat_lt n 10 then 48 + n else 87 + n

-- the last so many hexadecimal digits of a number, the highest first
unfoldable pub hex_digits : ℕ → ℕ → List ℕ
hex_digits zero n = []
hex_digits (suc k) n = hex_digit (n / 16 ^ k % 16) ∷ hex_digits k n

-- the name of a segment's file
abbrev pub segment_name : ℕ → List ℕ
segment_name seg = codes "wal-" ++ hex_digits 16 seg ++ codes ".seg"

-- This is the name of a segment: segments are numbered from 1, and a number has 64 bits.
pub record IsSegmentName (name : List ℕ) (seg : ℕ) : Type 0 where
  pub first : 1 ≤ seg
  pub last : seg < 2 ^ 64
  pub is : name ≡ segment_name seg

-- the name of a partition's file; of its three digits the first is 0
abbrev pub partition_name : ℕ → List ℕ
partition_name part = codes "part-0" ++ (48 + part / 10) ∷ (48 + part % 10) ∷ codes ".pages"

-- This is the name of a partition's file.
pub record IsPartitionName (name : List ℕ) (part : ℕ) : Type 0 where
  pub small : part < PARTITIONS_MAX
  pub is : name ≡ partition_name part

-- the file of the store has this name
abbrev pub IsNameOf : List ℕ → StoreFile → Type 0
IsNameOf name Config = name ≡ codes "config.json"
IsNameOf name (Marks mark.Start) = name ≡ codes "cp.start"
IsNameOf name (Marks mark.End) = name ≡ codes "cp.end"
IsNameOf name (Segment seg) = IsSegmentName name seg
IsNameOf name (Pages part) = IsPartitionName name part
