-- The division is linear: the register of a sum without carries is the sum of the registers, and so eight bytes can be
-- shifted out at once.
use Rattle.std.proofs.Common.{◌≡◌, ℕ, zero, suc, ◌+◌, ◌*◌, ◌/◌, ◌%◌, ◌^◌, ◌<◌, Bool, true, false, cond, eqb, refl, sym, ap, ◌∙◌, arith, inl, inr, add-zero}
use Rattle.std.specs.Prelude.{◌⊎◌, bit_xor}
use Rattle.std.specs.Int.Bits.{xor_shr, xor_mod, xor_assoc, xor_zero_r, xor_shifted, xor_block, xor_lt}
use Rattle.std.proofs.Math.Nat.{pow-suc, mul_assoc}
use Rattle.std.proofs.lemmas.Nat.{xor_comm, div-add-mod'}
use Rattle.pm_frame.specs.Crc.{polynomial, shifted_once, shifted_by, with_byte}

-- what leaves the register brings in: the polynomial, or nothing
brought : ℕ → ℕ
brought bit = cond (eqb bit 1) polynomial 0

shifted_once-is : (a : ℕ) → shifted_once a ≡ bit_xor (a / 2) (brought (a % 2))
unfolding shifted_once brought
shifted_once-is a =
    let P : Bool → Type 0 = λ b. cond b (bit_xor (a / 2) polynomial) (a / 2) ≡ bit_xor (a / 2) (cond b polynomial 0) in
    elim (eqb (a % 2) 1) as P [ true ↦ refl | false ↦ sym (xor_zero_r (a / 2)) ]

zero_or_one : (r : ℕ) → r < 2 → (r ≡ 0) ⊎ (r ≡ 1)
zero_or_one zero h = inl refl
zero_or_one (suc zero) h = inr refl
zero_or_one (suc (suc r)) h = absurd (omega arith)

-- a remainder by 2 is 0 or 1
bit_cases : (a : ℕ) → (a % 2 ≡ 0) ⊎ (a % 2 ≡ 1)
bit_cases a = zero_or_one (a % 2) (omega arith)

brought-xor : (a b : ℕ) → (a ≡ 0) ⊎ (a ≡ 1) → (b ≡ 0) ⊎ (b ≡ 1) → brought (bit_xor a b) ≡ bit_xor (brought a) (brought b)
unfolding brought
brought-xor a b (inl p) (inl q) = rw (p, q) refl
brought-xor a b (inl p) (inr q) = rw (p, q) refl
brought-xor a b (inr p) (inl q) = rw (p, q) refl
brought-xor a b (inr p) (inr q) = rw (p, q) refl

-- the order of four terms is free
xor_four : (a b c d : ℕ) → bit_xor (bit_xor a b) (bit_xor c d) ≡ bit_xor (bit_xor a c) (bit_xor b d)
xor_four a b c d =
    xor_assoc a b (bit_xor c d)
    ∙ ap (bit_xor a) (sym (xor_assoc b c d) ∙ ap (λ x. bit_xor x d) (xor_comm b c) ∙ xor_assoc c b d)
    ∙ sym (xor_assoc a c (bit_xor b d))

shifted_once-xor : (a b : ℕ) → shifted_once (bit_xor a b) ≡ bit_xor (shifted_once a) (shifted_once b)
shifted_once-xor a b =
    rw (
      shifted_once-is (bit_xor a b),
      shifted_once-is a,
      shifted_once-is b,
      xor_shr a b 1,
      xor_mod a b 1,
      brought-xor (a % 2) (b % 2) (bit_cases a) (bit_cases b),
    )
    (xor_four (a / 2) (b / 2) (brought (a % 2)) (brought (b % 2)))

pub shifted_by-xor : (bits a b : ℕ) → shifted_by bits (bit_xor a b) ≡ bit_xor (shifted_by bits a) (shifted_by bits b)
unfolding shifted_by
shifted_by-xor zero a b = refl
shifted_by-xor (suc bits) a b = rw (shifted_once-xor a b) (shifted_by-xor bits (shifted_once a) (shifted_once b))

pub shifted_by-add : (m n a : ℕ) → shifted_by (n + m) a ≡ shifted_by n (shifted_by m a)
unfolding shifted_by
shifted_by-add zero n a = rw add-zero refl
shifted_by-add (suc m) n a =
    let e : n + suc m ≡ suc (n + m) = omega arith in
    rw e (shifted_by-add m n (shifted_once a))

shift_suc : (a k : ℕ) → a * 2 ^ suc k ≡ a * 2 ^ k * 2
shift_suc a k = ap (λ (x : ℕ). a * x) (pow-suc 2 k) ∙ sym (mul_assoc a (2 ^ k) 2)

shifted_once-twice : (a : ℕ) → shifted_once (a * 2) ≡ a
unfolding brought
shifted_once-twice a =
    let half : a * 2 / 2 ≡ a = omega arith in
    let even : a * 2 % 2 ≡ 0 = omega arith in
    rw (shifted_once-is (a * 2), half, even) (xor_zero_r a)

-- what stands in front of so many bits is left when they are shifted out
pub shifted_by-front : (bits a : ℕ) → shifted_by bits (a * 2 ^ bits) ≡ a
unfolding shifted_by
shifted_by-front zero a = omega arith
shifted_by-front (suc bits) a =
    let e : a * 2 ^ suc bits ≡ a * 2 ^ bits * 2 = shift_suc a bits in
    rw (e, shifted_once-twice (a * 2 ^ bits)) (shifted_by-front bits a)

-- two numbers one after the other are their sum without carries
pub joined : (bits front back : ℕ) → back < 2 ^ bits → front * 2 ^ bits + back ≡ bit_xor back (front * 2 ^ bits)
joined bits front back h = sym (xor_shifted front bits back h) ∙ xor_comm (front * 2 ^ bits) back

-- the low bits are shifted out, and the others move down
pub shifted_by-low : (bits front back : ℕ) → back < 2 ^ bits
    → shifted_by bits (front * 2 ^ bits + back) ≡ bit_xor (shifted_by bits back) front
shifted_by-low bits front back h =
    rw (joined bits front back h, shifted_by-xor bits back (front * 2 ^ bits), shifted_by-front bits front) refl

low_byte : (front back byte : ℕ) → back < 2 ^ 8 → byte < 2 ^ 8
    → bit_xor (front * 2 ^ 8 + back) byte ≡ front * 2 ^ 8 + bit_xor back byte
low_byte front back byte h k =
    let e : byte ≡ 0 * 2 ^ 8 + byte = omega arith in
    ap (bit_xor (front * 2 ^ 8 + back)) e
    ∙ xor_block 8 front 0 back byte h k
    ∙ ap (λ (x : ℕ). x * 2 ^ 8 + bit_xor back byte) (xor_zero_r front)

-- one byte more, by the table's first row
pub with_byte-is : (register byte : ℕ) → byte < 256
    → with_byte register byte ≡ bit_xor (shifted_by 8 (bit_xor (register % 2 ^ 8) byte)) (register / 2 ^ 8)
unfolding with_byte
with_byte-is register byte h =
    let whole : bit_xor register byte ≡ register / 2 ^ 8 * 2 ^ 8 + bit_xor (register % 2 ^ 8) byte =
    ap (λ (x : ℕ). bit_xor x byte) (sym (div-add-mod' register (2 ^ 8))) ∙ (low_byte (register / 2 ^ 8) (register % 2 ^ 8) byte (omega arith) h)
    in
    rw (whole, shifted_by-low 8 (register / 2 ^ 8) (bit_xor (register % 2 ^ 8) byte) (xor_lt 8 (register % 2 ^ 8) byte (omega arith) h)) refl
