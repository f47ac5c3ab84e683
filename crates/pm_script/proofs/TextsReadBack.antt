-- The text of a reply, read: no other reply has it.
use Rattle.std.proofs.Common.{◌≡◌, ℕ, true, false, List, [], ◌∷◌, ◌++◌, length, drop, get_or, cond, Option, Some, None, refl, sym, ap, ◌∙◌, eqb, append_assoc, append-nil, arith, length-append}
use Rattle.std.specs.List.{flat_map, onto_first, All}
use Rattle.std.proofs.lemmas.Bool.{and_parts, and_from}
use Rattle.std.proofs.lemmas.List.Elements.{All-head, All-tail}
use Rattle.std.proofs.lemmas.List.Splits.{slice_split_at, slice_split_none}
use Rattle.hex.specs.Hex.{IsBytes}
use Rattle.pm_model.specs.declared.reply.Reply.{Reply}
use Rattle.pm_model.specs.declared.reply.Reply.TheVariants.{Done, Found, Absent, Was, Pairs, Full, BadLine, LongLine}
use Rattle.pm_script.specs.Lines.{lines_of, first_line, is_unbroken}
use Rattle.pm_script.specs.Grammar.{words_of, field_of}
use Rattle.pm_script.specs.Texts.{field_text, pair_text, end_text, text_of, TellsBytes, TextsDiffer}
use Rattle.pm_script.proofs.FieldTexts.{field_reads_back, graphic_text, graphic-unbroken, graphic-no_space}
use Rattle.pm_script.proofs.ScriptLines.{lines_of-first}
use Rattle.pm_script.proofs.Unbroken.{first_line-append, after_line-append}

-- bytes, or none of them
abbrev bytes_or_none : Option (List ℕ) → List ℕ
bytes_or_none None = []
bytes_or_none (Some bytes) = bytes

-- the pair that the words of a line tell
abbrev pair_of : List (List ℕ) → List ℕ × List ℕ
pair_of (name ∷ key ∷ value ∷ words) = (bytes_or_none (field_of key), bytes_or_none (field_of value))
pair_of words = ([], [])

-- the pairs that lines tell, up to the first that begins with another letter than `p`
abbrev pairs_in : List (List ℕ) → List (List ℕ × List ℕ)
pairs_in [] = []
pairs_in (line ∷ lines) = cond (eqb (get_or line 0 0) 112) (pair_of (words_of line) ∷ pairs_in lines) []

-- the reply that a text tells, by the letters in which texts differ
abbrev reply_in : List ℕ → Reply
reply_in text =
    let is = λ (i letter : ℕ). eqb (get_or text i 0) letter in
    cond (is 0 111) Done
    (cond (is 0 110) Absent
    (cond (is 0 116) (Was true)
    (cond (is 0 102) (Was false)
    (cond (is 0 118) (Found (bytes_or_none (field_of (first_line (drop 6 text)))))
    (cond (is 1 114) (cond (is 7 117) Full (cond (is 7 105) BadLine LongLine))
    (Pairs (pairs_in (lines_of text))))))))

-- the line of a pair, without its newline
abbrev pair_line : List ℕ → List ℕ → List ℕ
pair_line key value = 112 ∷ 97 ∷ 105 ∷ 114 ∷ 32 ∷ (field_text key ++ (32 ∷ field_text value))

-- its words
pair_words : (key value : List ℕ) → IsBytes key → IsBytes value → words_of (pair_line key value) ≡ (112 ∷ 97 ∷ 105 ∷ 114 ∷ []) ∷ field_text key ∷ field_text value ∷ []
pair_words key value of_key of_value =
    ap (λ words. (112 ∷ 97 ∷ 105 ∷ 114 ∷ []) ∷ words)
    (slice_split_at (λ b. eqb b 32) (field_text key) 32 (field_text value) (graphic-no_space (field_text key) (graphic_text key of_key)) refl
    ∙ ap (λ words. field_text key ∷ words) (slice_split_none (λ b. eqb b 32) (field_text value) (graphic-no_space (field_text value) (graphic_text value of_value))))

-- the pair that they tell
pair_in : (key value : List ℕ) → IsBytes key → IsBytes value → pair_of (words_of (pair_line key value)) ≡ (key, value)
pair_in key value of_key of_value =
    ap pair_of (pair_words key value of_key of_value)
    ∙ λ i. (bytes_or_none (field_reads_back key of_key i), bytes_or_none (field_reads_back value of_value i))

-- bytes without a newline, and more of them
unbroken-append : (bytes more : List ℕ) → is_unbroken bytes ≡ true → is_unbroken more ≡ true → is_unbroken (bytes ++ more) ≡ true
unbroken-append [] more here there = there
unbroken-append (b ∷ bytes) more here there =
    let parts = and_parts _ _ here in
    and_from _ _ parts.0 (unbroken-append bytes more parts.1 there)

-- it has no newline
pair_unbroken : (key value : List ℕ) → IsBytes key → IsBytes value → is_unbroken (pair_line key value) ≡ true
pair_unbroken key value of_key of_value =
    unbroken-append (field_text key) (32 ∷ field_text value) (graphic-unbroken (field_text key) (graphic_text key of_key)) (graphic-unbroken (field_text value) (graphic_text value of_value))

-- a text is its first line and the lines after it
line_then : (line rest : List ℕ) → is_unbroken line ≡ true → lines_of (line ++ 10 ∷ rest) ≡ line ∷ lines_of rest
line_then line rest unbroken =
    lines_of-first (line ++ 10 ∷ rest) (omega (arith, length-append line (10 ∷ rest)))
    ∙ λ i. (first_line-append line (10 ∷ rest) unbroken ∙ append-nil line) i ∷ lines_of (after_line-append line (10 ∷ rest) unbroken i)

-- no pair is told by a line that begins with `e`
none_in : (lines : List (List ℕ)) → pairs_in (onto_first 101 lines) ≡ []
none_in [] = refl
none_in (line ∷ lines) = refl

-- the text of pairs is the line of the first, and the text of the others
regrouped : (key value others end : List ℕ) → (112 ∷ 97 ∷ 105 ∷ 114 ∷ 32 ∷ key ++ 32 ∷ [] ++ value ++ 10 ∷ [] ++ others) ++ end ≡ (112 ∷ 97 ∷ 105 ∷ 114 ∷ 32 ∷ (key ++ (32 ∷ value))) ++ 10 ∷ (others ++ end)
regrouped key value others end = simp append_assoc

abbrev ArePairBytes : List ℕ × List ℕ → Type 0
ArePairBytes pair = IsBytes pair.0 × IsBytes pair.1

-- the pairs that the lines of pairs tell
pairs_told : (pairs : List (List ℕ × List ℕ)) (count : ℕ) → All ArePairBytes pairs → pairs_in (lines_of (flat_map pair_text pairs ++ end_text count)) ≡ pairs
pairs_told [] count are = none_in (lines_of (drop 1 (end_text count)))
pairs_told (pair ∷ pairs) count are =
    let here = All-head ArePairBytes pair pairs are in
    ap (λ text. pairs_in (lines_of text)) (regrouped (field_text pair.0) (field_text pair.1) (flat_map pair_text pairs) (end_text count))
    ∙ ap pairs_in (line_then (pair_line pair.0 pair.1) (flat_map pair_text pairs ++ end_text count) (pair_unbroken pair.0 pair.1 here.0 here.1))
    ∙ λ i. pair_in pair.0 pair.1 here.0 here.1 i ∷ pairs_told pairs count (All-tail ArePairBytes pair pairs are) i

-- the text of a reply tells the reply
reads_back : (reply : Reply) → TellsBytes reply → reply_in (text_of reply) ≡ reply
reads_back Done are = refl
reads_back (Found value) are =
    ap (λ line. Found (bytes_or_none (field_of line))) (first_line-append (field_text value) (10 ∷ []) (graphic-unbroken (field_text value) (graphic_text value are)) ∙ append-nil (field_text value))
    ∙ ap (λ bytes. Found (bytes_or_none bytes)) (field_reads_back value are)
reads_back Absent are = refl
reads_back (Was true) are = refl
reads_back (Was false) are = refl
reads_back (Pairs []) are = ap Pairs (pairs_told [] 0 are)
reads_back (Pairs (pair ∷ pairs)) are = ap Pairs (pairs_told (pair ∷ pairs) (length (pair ∷ pairs)) are)
reads_back Full are = refl
reads_back BadLine are = refl
reads_back LongLine are = refl

pub texts_differ : TextsDiffer
texts_differ one other of_one of_other same = sym (reads_back one of_one) ∙ ap reply_in same ∙ reads_back other of_other
