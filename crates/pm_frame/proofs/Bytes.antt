-- Lists of bytes, and their parts.
use Rattle.std.proofs.Common.{◌≡◌, ℕ, zero, suc, ◌+◌, ◌/◌, ◌^◌, ◌<◌, List, map, get_or, take, drop, length, refl, inl, inr, arith}
use Rattle.std.specs.Int.{w16, w32, w64, byte_at, bytes_low_first, from_le_bytes, to_le_bytes}
use Rattle.std.specs.List.{range_with_len}
use Rattle.std.proofs.lemmas.Bool.{cases_lt}
use Rattle.std.proofs.lemmas.List.{length-take, get_or-drop, get_or-take, get_or_past}
use Rattle.std.proofs.lemmas.List.FromFn.{fill_by_all}
use Rattle.std.proofs.lemmas.Nat.{mod_below, le_bytes_2, le_bytes_4, le_bytes_8}

-- each element is a byte
abbrev pub AreBytes : List ℕ → Type 0
AreBytes bytes = (i : ℕ) → get_or bytes i 0 < 2 ^ 8

pub AreBytes-drop : (n : ℕ) (bytes : List ℕ) → AreBytes bytes → AreBytes (drop n bytes)
AreBytes-drop n bytes h i = rw get_or-drop (h (n + i))

pub AreBytes-take : (n : ℕ) (bytes : List ℕ) → AreBytes bytes → AreBytes (take n bytes)
AreBytes-take n bytes h i =
    elim (cases_lt i n) [
      | inl lt ↦ rw (get_or-take n bytes i 0 lt) (h i)
      | inr le ↦ rw (get_or_past (take n bytes) i 0 (omega (arith, length-take n bytes))) (omega arith)
    ]

byte_at-lt : (i n : ℕ) → byte_at i n < 2 ^ 8
byte_at-lt zero n = omega arith
byte_at-lt (suc i) n = mod_below (n / 256 ^ suc i) 256 (omega arith)

-- so many bytes of a number
pub AreBytes-bytes_low_first : (count from n : ℕ) → AreBytes (bytes_low_first from count n)
AreBytes-bytes_low_first zero from n i = omega arith
AreBytes-bytes_low_first (suc count) from n zero = byte_at-lt from n
AreBytes-bytes_low_first (suc count) from n (suc i) = AreBytes-bytes_low_first count (suc from) n i

-- so many bytes from one on, written out
abbrev pub cells : ℕ → ℕ → List ℕ → List ℕ
cells from count bytes = map (λ i. get_or bytes i 0) (range_with_len from count)

pub written_out : (n : ℕ) (bytes : List ℕ) → length bytes ≡ n → bytes ≡ cells 0 n bytes
written_out n bytes long = fill_by_all (λ i. get_or bytes i 0) bytes n 0 long (λ k lt. refl)

pub AreBytes-cells : (count from : ℕ) (bytes : List ℕ) → AreBytes bytes → AreBytes (cells from count bytes)
AreBytes-cells zero from bytes h i = omega arith
AreBytes-cells (suc count) from bytes h zero = h from
AreBytes-cells (suc count) from bytes h (suc i) = AreBytes-cells count (from + 1) bytes h i

-- a number that is read from bytes is written as these bytes
pub two_back : (bytes : List ℕ) (from n : ℕ) → AreBytes bytes → n ≡ from_le_bytes w16 (cells from 2 bytes)
    → to_le_bytes w16 n ≡ cells from 2 bytes
two_back bytes from n h e = le_bytes_2 (cells from 2 bytes) n refl (AreBytes-cells 2 from bytes h) e

pub four_back : (bytes : List ℕ) (from n : ℕ) → AreBytes bytes → n ≡ from_le_bytes w32 (cells from 4 bytes)
    → to_le_bytes w32 n ≡ cells from 4 bytes
four_back bytes from n h e = le_bytes_4 (cells from 4 bytes) n refl (AreBytes-cells 4 from bytes h) e

pub eight_back : (bytes : List ℕ) (from n : ℕ) → AreBytes bytes → n ≡ from_le_bytes w64 (cells from 8 bytes)
    → to_le_bytes w64 n ≡ cells from 8 bytes
eight_back bytes from n h e = le_bytes_8 (cells from 8 bytes) n refl (AreBytes-cells 8 from bytes h) e
