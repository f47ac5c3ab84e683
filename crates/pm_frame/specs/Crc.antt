-- CRC-32: what is left when the bytes, read as one long polynomial over two elements, are divided
-- by a fixed one. The lowest bit of each byte comes first, and polynomials are written so that this
-- bit is the highest power. The register begins with ones alone, and its bits are flipped at the
-- end (IEEE 802.3, and RFC 1952 for gzip).
use Rattle.std.specs.Prelude.{ℕ, zero, suc, ◌/◌, ◌%◌, ◌-◌, ◌^◌, List, fold, if◌then◌else◌, ◌==◌, bit_xor}
use Rattle.std.specs.Int.{w32, bit_not}

-- the polynomial, without its highest power
abbrev pub polynomial : ℕ
polynomial = 0xEDB88320

-- one bit is shifted out of the register, and where it is a 1 the polynomial is subtracted
unfoldable pub shifted_once : ℕ → ℕ
shifted_once register = if register % 2 == 1 then bit_xor (register / 2) polynomial else register / 2

-- so many bits are shifted out
unfoldable pub shifted_by : ℕ → ℕ → ℕ
shifted_by zero register = register
shifted_by (suc bits) register = shifted_by bits (shifted_once register)

-- the register after one byte more
unfoldable pub with_byte : ℕ → ℕ → ℕ
with_byte register byte = shifted_by 8 (bit_xor register byte)

-- the CRC-32 of the bytes
unfoldable pub crc_of : List ℕ → ℕ
crc_of bytes = bit_not w32 (fold with_byte (2 ^ 32 - 1) bytes)
