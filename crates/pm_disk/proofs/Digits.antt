-- A segment's number is read off the digits of its name.
use Rattle.std.proofs.Common.{◌≡◌, ◌<◌, ◌≤◌, ◌+◌, ◌-◌, ◌*◌, ◌/◌, ◌%◌, ◌^◌, ℕ, zero, suc, List, [], ◌∷◌, ◌++◌, length, get_or, refl, sym, ◌∙◌, ap, arith, append_assoc, length-append, add-one}
use Rattle.std.specs.Prelude.{codes, replicate, slice_set, slice_range}
use Rattle.std.proofs.Math.Seq.{set-append_seam}
use Rattle.std.proofs.Math.Nat.{div-div-eq-div-mul, div-le_self, pow-suc}
use Rattle.std.proofs.lemmas.List.{length-replicate, take-append-le, take_all}
use Rattle.pm_disk.specs.Names.{hex_digit, hex_digits, segment_name}

-- one digit more
pub div-pow : (n k : ℕ) → n / 16 ^ k / 16 ≡ n / 16 ^ (k + 1)
div-pow n k = div-div-eq-div-mul n (16 ^ k) 16 ∙ ap (λ m. n / m) (pow k)
  where
    pow : (k : ℕ) → 16 ^ k * 16 ≡ 16 ^ (k + 1)
    pow k = sym (pow-suc 16 k) ∙ ap (λ m. 16 ^ m) (sym (add-one k))

pub hex_digits-none : (n : ℕ) → hex_digits 0 n ≡ []
unfolding hex_digits
hex_digits-none n = refl

pub hex_digits-more : (k n : ℕ) → hex_digits (k + 1) n ≡ hex_digit (n / 16 ^ k % 16) ∷ hex_digits k n
unfolding hex_digits
hex_digits-more k n = ap (λ m. hex_digits m n) (add-one k)

pub length-hex_digits : (k n : ℕ) → length (hex_digits k n) ≡ k
unfolding hex_digits
length-hex_digits zero n = refl
length-hex_digits (suc k) n = ap suc (length-hex_digits k n)

-- the digit at a place
pub get_or-hex_digits : (k n i : ℕ) → i < k → get_or (hex_digits k n) i 0 ≡ hex_digit (n / 16 ^ (k - 1 - i) % 16)
unfolding hex_digits
get_or-hex_digits zero n i lt = absurd (omega (arith, lt))
get_or-hex_digits (suc k) n zero lt = let e : k ≡ suc k - 1 - 0 = omega arith in ap (λ m. hex_digit (n / 16 ^ m % 16)) e
get_or-hex_digits (suc k) n (suc i) lt =
    let e : k - 1 - i ≡ suc k - 1 - suc i = omega (arith, lt) in
    get_or-hex_digits k n i (omega (arith, lt)) ∙ ap (λ m. hex_digit (n / 16 ^ m % 16)) e

-- so many digits 0
abbrev pub noughts : ℕ → List ℕ
noughts k = replicate k 48

-- a name of which the last so many digits stand, with zeros before them
abbrev pub begun : ℕ → ℕ → List ℕ
begun k n = (codes "wal-" ++ noughts (16 - k)) ++ (hex_digits k n ++ codes ".seg")

noughts-push : (n : ℕ) → noughts (n + 1) ≡ noughts n ++ 48 ∷ []
noughts-push n = ap noughts (add-one n) ∙ go n
  where
    go : (n : ℕ) → noughts (suc n) ≡ noughts n ++ 48 ∷ []
    go zero = refl
    go (suc n) = ap (λ (l : List ℕ). 48 ∷ l) (go n)

one_more : (k : ℕ) → k < 16 → 16 - k ≡ 15 - k + 1
one_more k lt = omega (arith, lt)

-- the next digit is set
pub begun-more : (k n : ℕ) → k < 16 → slice_set (begun k n) (19 - k) (hex_digit (n / 16 ^ k % 16)) ≡ begun (k + 1) n
begun-more k n lt =
    let zeros : noughts (16 - k) ≡ noughts (15 - k) ++ 48 ∷ [] = ap noughts (one_more k lt) ∙ noughts-push (15 - k) in
    let front : List ℕ = codes "wal-" ++ noughts (15 - k) in
    let back = hex_digits k n ++ codes ".seg" in
    let digit = hex_digit (n / 16 ^ k % 16) in
    let long : length front ≡ 19 - k = long_front k lt in
    let shape : begun k n ≡ front ++ 48 ∷ back = ap (λ (l : List ℕ). (codes "wal-" ++ l) ++ back) zeros ∙ ap (λ (l : List ℕ). l ++ back) (sym (append_assoc (codes "wal-") (noughts (15 - k)) (48 ∷ []))) ∙ append_assoc front (48 ∷ []) back in
    ap (λ (l : List ℕ). slice_set l (19 - k) digit) shape
    ∙ ap (λ m. slice_set (front ++ 48 ∷ back) m digit) (sym long)
    ∙ set-append_seam front 48 back digit
    ∙ ap (λ (l : List ℕ). front ++ (l ++ codes ".seg")) (sym (hex_digits-more k n))
    ∙ ap (λ m. (codes "wal-" ++ noughts m) ++ (hex_digits (k + 1) n ++ codes ".seg")) (one_less k lt)
  where
    one_less : (k : ℕ) → k < 16 → 15 - k ≡ 16 - (k + 1)
    one_less k lt = omega (arith, lt)

    long_front : (k : ℕ) → k < 16 → length (codes "wal-" ++ noughts (15 - k)) ≡ 19 - k
    long_front k lt = omega (arith, lt, length-append (codes "wal-") (noughts (15 - k)), length-replicate {A = ℕ} (15 - k) 48)

pub length-segment_name : (seg : ℕ) → length (segment_name seg) ≡ 24
length-segment_name seg = omega (arith, length-append (hex_digits 16 seg) (codes ".seg"), length-hex_digits 16 seg)

-- the digits of a name stand after its first four bytes
pub slice_range-segment_name : (seg : ℕ) → slice_range (segment_name seg) 4 20 ≡ hex_digits 16 seg
slice_range-segment_name seg =
    let le : 16 ≤ length (hex_digits 16 seg) = omega (arith, length-hex_digits 16 seg) in
    take-append-le 16 (hex_digits 16 seg) (codes ".seg") le ∙ take_all 16 (hex_digits 16 seg) (omega (arith, length-hex_digits 16 seg))

pub name_digits : (name : List ℕ) (seg : ℕ) → name ≡ segment_name seg → slice_range name 4 20 ≡ hex_digits 16 seg
name_digits name seg is = ap (λ (l : List ℕ). slice_range l 4 20) is ∙ slice_range-segment_name seg

pub name_digit : (name : List ℕ) (seg i : ℕ) → name ≡ segment_name seg → i < 16 → get_or (slice_range name 4 20) i 0 ≡ hex_digit (seg / 16 ^ (15 - i) % 16)
name_digit name seg i is lt = ap (λ (l : List ℕ). get_or l i 0) (name_digits name seg is) ∙ get_or-hex_digits 16 seg i lt

-- One digit more of a number whose digits above it were read, in 64 bits.
pub next_digit : (n i : ℕ) → n < 2 ^ 64 → i < 16 → (n / 16 ^ (16 - i) * 16 % 2 ^ 64 + n / 16 ^ (15 - i) % 16) % 2 ^ 64 ≡ n / 16 ^ (16 - (i + 1))
next_digit n i small lt =
    let less : 16 - (i + 1) ≡ 15 - i = omega (arith, lt) in
    let above : n / 16 ^ (16 - i) ≡ n / 16 ^ (15 - i) / 16 = ap (λ k. n / 16 ^ k) (one_more i lt) ∙ sym (div-pow n (15 - i)) in
    let q = n / 16 ^ (15 - i) in
    let le : q ≤ n = div-le_self n (16 ^ (15 - i)) in
    ap (λ d. (d * 16 % 2 ^ 64 + q % 16) % 2 ^ 64) above ∙ whole q (omega (arith, le, small)) ∙ ap (λ k. n / 16 ^ k) (sym less)
  where
    whole : (q : ℕ) → q < 2 ^ 64 → (q / 16 * 16 % 2 ^ 64 + q % 16) % 2 ^ 64 ≡ q
    whole q small = omega (arith, small)
