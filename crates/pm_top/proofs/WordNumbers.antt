-- The number that a word of a command line says.
use Rattle.std.proofs.Common.{◌≡◌, ℕ, ◌<◌, ◌≤◌, ◌^◌, Bool, true, false, List, cond, Result, Ok, Some, None, refl, sym, ap, ◌∙◌, subst, arith}
use Rattle.std.specs.Prelude.{◌&&◌, nat_le, decimal}
use Rattle.std.specs.Str.{bytes_eq}
use Rattle.std.specs.Str.Parse.{digits_value, ParsesUnsigned}
use Rattle.std.proofs.lemmas.Bool.Decides.{nat_tests}
use Rattle.std.proofs.lemmas.Fmt.{decimal_is_IsNumeral, parse-decimal}
use Rattle.std.proofs.lemmas.Slice.Eq.{bytes_eq-Decides}
use Rattle.pm_top.specs.Words.{is_number_of, number_in}

-- what a test of both says
pub both_true : (a b : Bool) → (a && b) ≡ true → (a ≡ true) × (b ≡ true)
both_true true b is = (refl, is)
both_true false b is = absurd cc

true_le : (a b : ℕ) → nat_le a b ≡ true → a ≤ b
true_le a b is = grind (arith, nat_tests)

-- such a number isn't above the bound, and its text is the word
pub is_text : (least most number : ℕ) (word : List ℕ) → is_number_of least most number word ≡ true → (number ≤ most) × (decimal number ≡ word)
is_text least most number word is =
    let parts = both_true (nat_le least number && nat_le number most) (bytes_eq (decimal number) word) is in
    (true_le number most (both_true (nat_le least number) (nat_le number most) parts.0).1, (bytes_eq-Decides (decimal number) word).0 parts.1)

-- a number whose text is the word
pub number_some : (least most number : ℕ) (word : List ℕ) → most < 2 ^ 32 → is_number_of least most number word ≡ true → Some number ≡ number_in least most word
number_some least most number word small is =
    let text = is_text least most number word is in
    let same : number ≡ digits_value 10 word = sym (decimal_is_IsNumeral number (omega (arith, text.0, small))).1 ∙ ap (digits_value 10) text.1 in
    subst (λ n. is_number_of least most n word ≡ true → Some number ≡ cond (is_number_of least most n word) (Some n) None) same
    (λ here. sym (ap (λ t. cond t (Some number) None) here)) (subst (λ n. is_number_of least most n word ≡ true) same is)

-- no number's text is the word
pub number_none : (least most : ℕ) (word : List ℕ) {E : Type 0} (r : Result ℕ E) → most < 2 ^ 32 → ParsesUnsigned 32 10 word r → ((number : ℕ) → r ≡ Ok number → is_number_of least most number word ≡ false) → None ≡ number_in least most word
number_none least most word {E = E} r small parses isnt = by (is_number_of least most (digits_value 10 word) word) refl
  where
    by : (t : Bool) → is_number_of least most (digits_value 10 word) word ≡ t → None ≡ number_in least most word
    by true is =
        let text = is_text least most (digits_value 10 word) word is in
        let read : r ≡ Ok (digits_value 10 word) = parse-decimal {E = E} 32 (digits_value 10 word) word r (omega (arith, text.0, small)) (omega (arith, text.0, small)) (sym text.1) parses in
        absurd (let both : true ≡ false = sym is ∙ isnt (digits_value 10 word) read in cc)
    by false is = sym (ap (λ t. cond t (Some (digits_value 10 word)) None) is)
