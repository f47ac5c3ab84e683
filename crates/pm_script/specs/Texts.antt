-- The texts of replies. Each of their lines ends with a newline, the byte 10.
--
--     reply           text
--     Done            ok
--     Found V         value V
--     Absent          none
--     Was true        true
--     Was false       false
--     Pairs of K V    pair K V      a line for each pair
--                     end N         their number, in decimal
--     Full            error full
--     BadLine         error line
--     LongLine        error long
--
-- A key or a value stands for itself where it is plain, and else as `x:` and two lower-case
-- hexadecimal digits for each byte.
use Rattle.std.specs.Prelude.{◌≡◌, ℕ, ◌<◌, List, ◌++◌, length, codes, true, false, if◌then◌else◌, Some, decimal}
use Rattle.std.specs.List.{flat_map, All}
use Rattle.hex.specs.Hex.{encode_lower, IsBytes}
use Rattle.pm_model.specs.declared.reply.Reply.{Reply}
use Rattle.pm_model.specs.declared.reply.Reply.TheVariants.{Done, Found, Absent, Was, Pairs, Full}
use Rattle.pm_model.specs.declared.reply.Reply.TheVariants.{BadLine, LongLine}
use Rattle.pm_script.specs.Grammar.{is_plain, field_of}

-- the text of a key or a value
abbrev pub field_text : List ℕ → List ℕ
field_text bytes = if is_plain bytes then bytes else codes "x:" ++ encode_lower bytes

-- the line that tells a pair
abbrev pub pair_text : List ℕ × List ℕ → List ℕ
pair_text pair = codes "pair " ++ field_text pair.0 ++ codes " " ++ field_text pair.1 ++ codes "\n"

-- the line that ends so many pairs
abbrev pub end_text : ℕ → List ℕ
end_text count = codes "end " ++ decimal count ++ codes "\n"

-- the text of a reply
abbrev pub text_of : Reply → List ℕ
text_of Done = codes "ok\n"
text_of (Found value) = codes "value " ++ field_text value ++ codes "\n"
text_of Absent = codes "none\n"
text_of (Was true) = codes "true\n"
text_of (Was false) = codes "false\n"
text_of (Pairs pairs) = flat_map pair_text pairs ++ end_text (length pairs)
text_of Full = codes "error full\n"
text_of BadLine = codes "error line\n"
text_of LongLine = codes "error long\n"

-- the texts of replies, one after the other
abbrev pub texts_of : List Reply → List ℕ
texts_of replies = flat_map text_of replies

-- no reply has an empty text
abbrev pub EachHasText : Type 0
EachHasText = (reply : Reply) → 0 < length (text_of reply)

-- the text of a key or a value, read as a field, stands for the same bytes
abbrev pub FieldsReadBack : Type 0
FieldsReadBack = (bytes : List ℕ) → IsBytes bytes → field_of (field_text bytes) ≡ Some bytes

-- what a reply tells are bytes
abbrev pub TellsBytes : Reply → Type 0
TellsBytes (Found value) = IsBytes value
TellsBytes (Pairs pairs) = All (λ pair. IsBytes pair.0 × IsBytes pair.1) pairs
TellsBytes reply = Unit {0}

-- no two replies have one text, unless they are one
abbrev pub TextsDiffer : Type 0
TextsDiffer = (one other : Reply) → TellsBytes one → TellsBytes other → text_of one ≡ text_of other
    → one ≡ other

-- what was there is still there, with or without more after it
pub record IsOnto (old new : List ℕ) : Type 0 where
  pub more : List ℕ
  pub whole : new ≡ old ++ more
