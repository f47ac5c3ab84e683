-- The names of segments' and of partitions' files are text.
use Rattle.std.proofs.Common.{◌<◌, ◌+◌, ◌/◌, ◌%◌, ◌^◌, ℕ, zero, suc, List, [], ◌∷◌, ◌++◌, refl, arith}
use Rattle.std.specs.Prelude.{codes}
use Rattle.std.specs.Str.{IsUtf8, IsAscii}
use Rattle.std.proofs.lemmas.Str.{IsUtf8-append, IsUtf8-from_ascii}
use Rattle.pm_disk.specs.Names.{hex_digit, hex_digits, segment_name, partition_name}
use Rattle.pm_types.specs.declared.limits.TheConstants.{PARTITIONS_MAX}

pub IsAscii-cons : (x : ℕ) (xs : List ℕ) → x < 128 → IsAscii xs → IsAscii (x ∷ xs)
IsAscii-cons x xs lt rest zero = lt
IsAscii-cons x xs lt rest (suc i) = rest i

pub IsAscii-hex_digits : (k n : ℕ) → IsAscii (hex_digits k n)
unfolding hex_digits
IsAscii-hex_digits zero n = λ i. omega arith
IsAscii-hex_digits (suc k) n = IsAscii-cons (hex_digit (n / 16 ^ k % 16)) (hex_digits k n) (small (n / 16 ^ k)) (IsAscii-hex_digits k n)
  where
    small : (m : ℕ) → hex_digit (m % 16) < 128
    small m = grind arith

-- the pieces of a name that never change
front_is_text : IsUtf8 (codes "wal-")
unfolding lib.Utf8.encode
front_is_text = (codes "wal-", (refl, refl))

ending_is_text : IsUtf8 (codes ".seg")
unfolding lib.Utf8.encode
ending_is_text = (codes ".seg", (refl, refl))

pub name_is_text : (seg : ℕ) → IsUtf8 (segment_name seg)
name_is_text seg =
    IsUtf8-append (codes "wal-" ++ hex_digits 16 seg) (codes ".seg")
    (IsUtf8-append (codes "wal-") (hex_digits 16 seg) front_is_text (IsUtf8-from_ascii (hex_digits 16 seg) (IsAscii-hex_digits 16 seg)))
    ending_is_text

part_is_text : IsUtf8 (codes "part-0")
unfolding lib.Utf8.encode
part_is_text = (codes "part-0", (refl, refl))

pages_is_text : IsUtf8 (codes ".pages")
unfolding lib.Utf8.encode
pages_is_text = (codes ".pages", (refl, refl))

IsAscii-nil : IsAscii []
IsAscii-nil i = omega arith

pub partition_is_text : (part : ℕ) → part < PARTITIONS_MAX → IsUtf8 (partition_name part)
partition_is_text part small =
    let digits : List ℕ = (48 + part / 10) ∷ (48 + part % 10) ∷ [] in
    let ascii : IsAscii digits = IsAscii-cons (48 + part / 10) ((48 + part % 10) ∷ []) (omega (arith, small)) (IsAscii-cons (48 + part % 10) [] (omega arith) IsAscii-nil) in
    IsUtf8-append (codes "part-0") (digits ++ codes ".pages") part_is_text (IsUtf8-append digits (codes ".pages") (IsUtf8-from_ascii digits ascii) pages_is_text)
