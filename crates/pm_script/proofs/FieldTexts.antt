-- The text of a key or a value: read as a field it stands for the same bytes, and it has neither a space nor a newline.
use Rattle.std.proofs.Common.{◌≡◌, ℕ, zero, suc, ◌/◌, ◌%◌, ◌<◌, Bool, true, false, not, List, [], ◌∷◌, drop, cond, slice_index, Some, None, refl, ap, ◌∙◌, eqb, arith}
use Rattle.std.specs.List.{list_all, All}
use Rattle.std.specs.Result.{result_ok}
use Rattle.std.proofs.lemmas.Bool.{and_parts, and_from}
use Rattle.std.proofs.lemmas.Bool.Decides.{nat_tests}
use Rattle.std.proofs.lemmas.List.Elements.{All-cons, All-nil}
use Rattle.hex.specs.Hex.{IsBytes, decode_of, encode_lower, encode_with, lower_digits, hex_digit_value}
use Rattle.hex.proofs.HexLemmas.{IsDigits-lower_digits, decode_of-encode_lower}
use Rattle.pm_script.specs.Lines.{is_unbroken}
use Rattle.pm_script.specs.Grammar.{is_graphic, is_in_digits, is_plain, field_of}
use Rattle.pm_script.specs.Texts.{field_text}

-- a digit may stand in a plain word
graphic_digit : (c d : ℕ) → hex_digit_value c ≡ Some d → is_graphic c ≡ true
graphic_digit c d is = grind (arith, nat_tests)

-- the digits of bytes may
graphic_digits : (bytes : List ℕ) → IsBytes bytes → list_all is_graphic (encode_lower bytes) ≡ true
unfolding encode_with
graphic_digits [] are = refl
graphic_digits (b ∷ bytes) are =
    let byte : b < 256 = are zero in
    let high = graphic_digit (slice_index lower_digits (b / 16)) (b / 16) (IsDigits-lower_digits (b / 16) (omega arith)) in
    let low = graphic_digit (slice_index lower_digits (b % 16)) (b % 16) (IsDigits-lower_digits (b % 16) (omega arith)) in
    and_from _ _ high (and_from _ _ low (graphic_digits bytes (λ i. are (suc i))))

-- the text, plain or not
abbrev text_if : Bool → List ℕ → List ℕ
text_if plain bytes = cond plain bytes (120 ∷ 58 ∷ encode_lower bytes)

graphic_if : (plain : Bool) (bytes : List ℕ) → is_plain bytes ≡ plain → IsBytes bytes → list_all is_graphic (text_if plain bytes) ≡ true
graphic_if true bytes is are = (and_parts _ _ (and_parts _ _ is).0).1
graphic_if false bytes is are = graphic_digits bytes are

-- a text has graphic bytes alone
pub graphic_text : (bytes : List ℕ) → IsBytes bytes → list_all is_graphic (field_text bytes) ≡ true
graphic_text bytes are = graphic_if (is_plain bytes) bytes refl are

not_newline : (b : ℕ) → is_graphic b ≡ true → not (eqb b 10) ≡ true
not_newline b is = grind (arith, nat_tests)

not_space : (b : ℕ) → is_graphic b ≡ true → eqb b 32 ≡ false
not_space b is = grind (arith, nat_tests)

-- so it has no newline
pub graphic-unbroken : (bytes : List ℕ) → list_all is_graphic bytes ≡ true → is_unbroken bytes ≡ true
graphic-unbroken [] are = refl
graphic-unbroken (b ∷ bytes) are =
    let parts = and_parts _ _ are in
    and_from _ _ (not_newline b parts.0) (graphic-unbroken bytes parts.1)

abbrev no_space : ℕ → Type 0
no_space b = eqb b 32 ≡ false

-- and no space
pub graphic-no_space : (bytes : List ℕ) → list_all is_graphic bytes ≡ true → All (λ b. eqb b 32 ≡ false) bytes
graphic-no_space [] are = All-nil no_space
graphic-no_space (b ∷ bytes) are =
    let parts = and_parts _ _ are in
    All-cons no_space b bytes (not_space b parts.0) (graphic-no_space bytes parts.1)

plain_reads_back : (bytes : List ℕ) → is_plain bytes ≡ true → field_of bytes ≡ Some bytes
plain_reads_back bytes is =
    ap (λ t. cond t (result_ok (decode_of (drop 2 bytes))) (cond (is_plain bytes) (Some bytes) None)) (refused (is_in_digits bytes) (and_parts _ _ is).1)
    ∙ ap (λ t. cond t (Some bytes) None) is
  where
    refused : (t : Bool) → not t ≡ true → t ≡ false
    refused true h = absurd cc
    refused false h = refl

reads_back_if : (plain : Bool) (bytes : List ℕ) → is_plain bytes ≡ plain → IsBytes bytes → field_of (text_if plain bytes) ≡ Some bytes
reads_back_if true bytes is are = plain_reads_back bytes is
reads_back_if false bytes is are = ap result_ok (decode_of-encode_lower bytes are)

-- read as a field, the text stands for the bytes
pub field_reads_back : (bytes : List ℕ) → IsBytes bytes → field_of (field_text bytes) ≡ Some bytes
field_reads_back bytes are = reads_back_if (is_plain bytes) bytes refl are
