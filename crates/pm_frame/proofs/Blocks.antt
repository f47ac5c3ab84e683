-- Several bytes can be shifted out at once, each by its own distance from the end.
use Rattle.std.proofs.Common.{◌≡◌, ℕ, suc, ◌+◌, ◌*◌, ◌/◌, ◌%◌, ◌^◌, ◌<◌, List, [], ◌∷◌, length, get_or, refl, sym, ap, ◌∙◌, take, drop, arith}
use Rattle.std.specs.Prelude.{bit_xor, fold}
use Rattle.std.specs.Int.{w32, w64, to_le_bytes, from_le_bytes}
use Rattle.std.specs.Int.Bits.{xor_assoc, xor_zero_r}
use Rattle.std.proofs.lemmas.Nat.{xor_comm, div-add-mod', le_bytes_8, from_le_bytes-to_le_bytes_4, from_le_bytes-to_le_bytes_8}
use Rattle.std.proofs.lemmas.List.{take-append-drop}
use Rattle.std.proofs.lemmas.List.Sums.{fold-append}
use Rattle.pm_frame.specs.Crc.{shifted_by, with_byte}
use Rattle.pm_frame.proofs.Bytes.{AreBytes, AreBytes-bytes_low_first}
use Rattle.pm_frame.proofs.Division.{joined, shifted_by-xor, shifted_by-add, shifted_by-front, shifted_by-low}

-- the number that these bytes stand for, the lowest first
abbrev pub number : List ℕ → ℕ
number [] = 0
number (b ∷ bs) = number bs * 2 ^ 8 + b

-- each byte shifted out, by itself
abbrev pub parts : List ℕ → ℕ
parts [] = 0
parts (b ∷ bs) = bit_xor (shifted_by (8 * length bs + 8) b) (parts bs)

pub fold-number : (bytes : List ℕ) (register : ℕ) → AreBytes bytes
    → fold with_byte register bytes ≡ shifted_by (8 * length bytes) (bit_xor register (number bytes))
unfolding with_byte shifted_by
fold-number [] register h = sym (xor_zero_r register)
fold-number (b ∷ bs) register h =
    let count : 8 * length (b ∷ bs) ≡ 8 * length bs + 8 = omega arith in
    let whole : bit_xor register (number bs * 2 ^ 8 + b) ≡ bit_xor (bit_xor register b) (number bs * 2 ^ 8) =
    ap (bit_xor register) (joined 8 (number bs) b (h 0)) ∙ sym (xor_assoc register b (number bs * 2 ^ 8))
    in
    let first : shifted_by 8 (bit_xor register (number bs * 2 ^ 8 + b)) ≡ bit_xor (with_byte register b) (number bs) =
    rw (whole, shifted_by-xor 8 (bit_xor register b) (number bs * 2 ^ 8), shifted_by-front 8 (number bs)) refl
    in
    fold-number bs (with_byte register b) (λ i. h (suc i))
    ∙ sym (rw (count, shifted_by-add 8 (8 * length bs) (bit_xor register (number bs * 2 ^ 8 + b)), first) refl)

shifted_by-number : (bytes : List ℕ) → AreBytes bytes → shifted_by (8 * length bytes) (number bytes) ≡ parts bytes
unfolding shifted_by
shifted_by-number [] h = refl
shifted_by-number (b ∷ bs) h =
    let count : 8 * length (b ∷ bs) ≡ 8 * length bs + 8 = omega arith in
    let first : shifted_by 8 (number bs * 2 ^ 8 + b) ≡ bit_xor (shifted_by 8 b) (number bs) = shifted_by-low 8 (number bs) b (h 0) in
    let apart : shifted_by (8 * length bs) (shifted_by 8 b) ≡ shifted_by (8 * length bs + 8) b = sym (shifted_by-add 8 (8 * length bs) b) in
    rw (count, shifted_by-add 8 (8 * length bs) (number bs * 2 ^ 8 + b), first, shifted_by-xor (8 * length bs) (shifted_by 8 b) (number bs), apart, shifted_by-number bs (λ i. h (suc i))) refl

number-eight : (a b c d e f g h : ℕ)
    → number (a ∷ b ∷ c ∷ d ∷ e ∷ f ∷ g ∷ h ∷ []) ≡ from_le_bytes w64 (a ∷ b ∷ c ∷ d ∷ e ∷ f ∷ g ∷ h ∷ [])
number-eight a b c d e f g h = omega arith

number-to_le_bytes : (n : ℕ) → n < 2 ^ 64 → number (to_le_bytes w64 n) ≡ n
number-to_le_bytes n h = number-eight _ _ _ _ _ _ _ _ ∙ from_le_bytes-to_le_bytes_8 n h

number-four : (a b c d : ℕ) → number (a ∷ b ∷ c ∷ d ∷ []) ≡ from_le_bytes w32 (a ∷ b ∷ c ∷ d ∷ [])
number-four a b c d = omega arith

number-to_word : (n : ℕ) → n < 2 ^ 32 → number (to_le_bytes w32 n) ≡ n
number-to_word n h = number-four _ _ _ _ ∙ from_le_bytes-to_le_bytes_4 n h

-- each byte shifted out, by itself, with so many bytes of zeros after them all
abbrev pub parts_before : ℕ → List ℕ → ℕ
parts_before after [] = 0
parts_before after (b ∷ bs) = bit_xor (shifted_by (8 * (after + length bs) + 8) b) (parts_before after bs)

zero-times : (n : ℕ) → 0 * n ≡ 0
zero-times n = omega arith

shifted_by-zero : (bits : ℕ) → shifted_by bits 0 ≡ 0
shifted_by-zero bits =
    let none : 0 * 2 ^ bits ≡ 0 = zero-times (2 ^ bits) in
    ap (shifted_by bits) (sym none) ∙ shifted_by-front bits 0

shifted_by-parts : (after : ℕ) (bytes : List ℕ) → shifted_by (8 * after) (parts bytes) ≡ parts_before after bytes
shifted_by-parts after [] = shifted_by-zero (8 * after)
shifted_by-parts after (b ∷ bs) =
    let count : 8 * (after + length bs) + 8 ≡ 8 * after + (8 * length bs + 8) = omega arith in
    rw (
      shifted_by-xor (8 * after) (shifted_by (8 * length bs + 8) b) (parts bs),
      shifted_by-parts after bs,
      count,
      shifted_by-add (8 * length bs + 8) (8 * after) b,
    )
    refl

-- the parts of four bytes, added from the left
abbrev pub four_parts : ℕ → List ℕ → ℕ
four_parts after bytes =
    let part : ℕ → ℕ → ℕ = λ more i. shifted_by (8 * (after + more) + 8) (get_or bytes i 0) in
    bit_xor (bit_xor (bit_xor (part 3 0) (part 2 1)) (part 1 2)) (part 0 3)

parts-four : (after a b c d : ℕ) → parts_before after (a ∷ b ∷ c ∷ d ∷ []) ≡ four_parts after (a ∷ b ∷ c ∷ d ∷ [])
parts-four after a b c d = simp (xor_assoc, xor_zero_r)

-- eight bytes as the number that is shifted out
number-block : (block : List ℕ) → length block ≡ 8 → AreBytes block → number block ≡ from_le_bytes w64 block
number-block block long bytes =
    let n = from_le_bytes w64 block in
    let again : to_le_bytes w64 n ≡ block = le_bytes_8 block n long bytes refl in
    let below : n < 2 ^ 64 = omega (arith, bytes 0, bytes 1, bytes 2, bytes 3, bytes 4, bytes 5, bytes 6, bytes 7) in
    ap number (sym again) ∙ number-to_le_bytes n below

pub shifted_by-word : (after word : ℕ) (bytes : List ℕ) → word < 2 ^ 32 → bytes ≡ to_le_bytes w32 word
    → shifted_by (8 * after + 32) word ≡ four_parts after bytes
shifted_by-word after word bytes fits told =
    let written = to_le_bytes w32 word in
    let out : shifted_by 32 word ≡ parts written =
    ap (shifted_by 32) (sym (number-to_word word fits)) ∙ shifted_by-number written (AreBytes-bytes_low_first 4 0 word)
    in
    shifted_by-add 32 (8 * after) word
    ∙ ap (shifted_by (8 * after)) out
    ∙ shifted_by-parts after written
    ∙ parts-four after _ _ _ _
    ∙ ap (four_parts after) (sym told)

-- the words of a number can be shifted out by themselves
two_words : (bits n : ℕ) → shifted_by (bits + 32) n ≡ bit_xor (shifted_by (bits + 32) (n % 2 ^ 32)) (shifted_by bits (n / 2 ^ 32))
two_words bits n =
    let low = n % 2 ^ 32 in
    let high = n / 2 ^ 32 in
    let first : shifted_by 32 n ≡ bit_xor (shifted_by 32 low) high =
    ap (shifted_by 32) (sym (div-add-mod' n (2 ^ 32))) ∙ shifted_by-low 32 high low (omega arith)
    in
    shifted_by-add 32 bits n
    ∙ ap (shifted_by bits) first
    ∙ shifted_by-xor bits (shifted_by 32 low) high
    ∙ ap (λ x. bit_xor x (shifted_by bits high)) (sym (shifted_by-add 32 bits low))

-- the register after eight bytes: it goes into the first four, and the eight are shifted out
pub fold-block : (register : ℕ) (block : List ℕ) → length block ≡ 8 → AreBytes block
    → fold with_byte register block ≡ shifted_by 64 (bit_xor register (from_le_bytes w64 block))
fold-block register block long bytes =
    fold-number block register bytes
    ∙ ap (λ k. shifted_by (8 * k) (bit_xor register (number block))) long
    ∙ ap (λ k. shifted_by 64 (bit_xor register k)) (number-block block long bytes)

-- what waits for the register comes last
last_first : (register low high third fourth : ℕ)
    → bit_xor (bit_xor register (bit_xor low high)) (bit_xor third fourth)
    ≡ bit_xor (bit_xor (bit_xor high third) fourth) (bit_xor low register)
last_first register low high third fourth =
    ap (λ x. bit_xor x (bit_xor third fourth)) (sym (xor_assoc register low high))
    ∙ xor_assoc (bit_xor register low) high (bit_xor third fourth)
    ∙ ap (bit_xor (bit_xor register low)) (sym (xor_assoc high third fourth))
    ∙ xor_comm (bit_xor register low) (bit_xor (bit_xor high third) fourth)
    ∙ ap (bit_xor (bit_xor (bit_xor high third) fourth)) (xor_comm register low)

-- sixteen bytes at once: the register goes into the first four, and each four are shifted out by themselves
pub fold-words : (register : ℕ) (front back : List ℕ) → length front ≡ 8 → AreBytes front → length back ≡ 8 → AreBytes back
    → let n = from_le_bytes w64 front in
    let m = from_le_bytes w64 back in
    fold with_byte (fold with_byte register front) back
    ≡ bit_xor (bit_xor (bit_xor (shifted_by 96 (n / 2 ^ 32)) (shifted_by 64 (m % 2 ^ 32))) (shifted_by 32 (m / 2 ^ 32)))
    (shifted_by 128 (bit_xor (n % 2 ^ 32) register))
fold-words register front back long bytes long_back bytes_back =
    let n = from_le_bytes w64 front in
    let m = from_le_bytes w64 back in
    let first : shifted_by 64 (fold with_byte register front) ≡ bit_xor (shifted_by 128 register) (bit_xor (shifted_by 128 (n % 2 ^ 32)) (shifted_by 96 (n / 2 ^ 32))) =
    ap (shifted_by 64) (fold-block register front long bytes)
    ∙ sym (shifted_by-add 64 64 (bit_xor register n))
    ∙ shifted_by-xor 128 register n
    ∙ ap (bit_xor (shifted_by 128 register)) (two_words 96 n)
    in
    fold-block (fold with_byte register front) back long_back bytes_back
    ∙ shifted_by-xor 64 (fold with_byte register front) m
    ∙ ap (λ x. bit_xor x (shifted_by 64 m)) first
    ∙ ap (bit_xor (bit_xor (shifted_by 128 register) (bit_xor (shifted_by 128 (n % 2 ^ 32)) (shifted_by 96 (n / 2 ^ 32))))) (two_words 32 m)
    ∙ last_first (shifted_by 128 register) (shifted_by 128 (n % 2 ^ 32)) (shifted_by 96 (n / 2 ^ 32)) (shifted_by 64 (m % 2 ^ 32)) (shifted_by 32 (m / 2 ^ 32))
    ∙ ap (bit_xor (bit_xor (bit_xor (shifted_by 96 (n / 2 ^ 32)) (shifted_by 64 (m % 2 ^ 32))) (shifted_by 32 (m / 2 ^ 32))))
    (sym (shifted_by-xor 128 (n % 2 ^ 32) register))

pub fold_halves : (register : ℕ) (block : List ℕ)
    → fold with_byte (fold with_byte register (take 8 block)) (drop 8 block) ≡ fold with_byte register block
fold_halves register block =
    sym (fold-append with_byte register (take 8 block) (drop 8 block)) ∙ ap (fold with_byte register) (take-append-drop 8 block)
