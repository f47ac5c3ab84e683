-- What a line says, by its words.
--
--     put C K V      the value V is set at the key K of cache C
--     get C K        the value at the key K of cache C is told
--     remove C K     the key K is taken out of cache C
--     scan C         all pairs of cache C are told
--     checkpoint     all changes are brought home
--
-- Between two words stands one space, and none before the first or after the last. C is 0 to 15 in decimal
-- without a leading zero. K and V are fields:
--
--     field := `x:` digit digit ..    the bytes that an even number of hexadecimal digits say, of either case, also none
--            | byte byte*             itself: bytes 0x21 to 0x7E that don't begin with `x:`
--
-- K stands for 1 to KEY_MAX bytes, V for at most VALUE_MAX. A line of more than LINE_MAX bytes is
-- long, whatever else it has. Every other line is bad.
use Rattle.std.specs.Prelude.{◌≡◌, ℕ, ◌+◌, ◌-◌, List, [], ◌∷◌, ◌==◌, if◌then◌else◌, Bool, ◌&&◌, not}
use Rattle.std.specs.Prelude.{nat_lt, nat_le, length, drop, Option, None, Some, codes, map}
use Rattle.std.specs.List.{slice_split, list_all, starts_with}
use Rattle.std.specs.Bool.{nat_eq}
use Rattle.std.specs.Result.{result_ok}
use Rattle.std.specs.Str.{bytes_eq}
use Rattle.hex.specs.Hex.{decode_of}
use Rattle.pm_types.specs.declared.limits.TheConstants.{LINE_MAX, KEY_MAX, VALUE_MAX}
use Rattle.pm_model.specs.declared.line.Cmd.TheVariants.{Put, Get, Remove, Scan, Checkpoint}
use Rattle.pm_model.specs.declared.line.Line.{Line}
use Rattle.pm_model.specs.declared.line.Line.TheVariants.{Good, Bad, Long}
use Rattle.pm_script.specs.Lines.{lines_of}

-- the words of a line: what stands between its spaces
abbrev pub words_of : List ℕ → List (List ℕ)
words_of line = slice_split (λ b. b == 32) line

-- the first word, and what stands after the space after it, or none where it is the only word
abbrev pub BeginsWithWord : List ℕ → List ℕ → Option (List ℕ) → Type 0
BeginsWithWord bytes word None = words_of bytes ≡ word ∷ []
BeginsWithWord bytes word (Some rest) = words_of bytes ≡ word ∷ words_of rest

-- the number of the cache that a word names: `0` to `9`, or `1` and `0` to `5`
abbrev pub cache_of : List ℕ → Option ℕ
cache_of (a ∷ []) = if nat_le 48 a && nat_le a 57 then Some (a - 48) else None
cache_of (a ∷ b ∷ []) = if a == 49 && (nat_le 48 b && nat_le b 53) then Some (b - 48 + 10) else None
cache_of word = None

-- a byte that a plain word may have
abbrev pub is_graphic : ℕ → Bool
is_graphic b = nat_le 0x21 b && nat_le b 0x7E

-- whether a word begins with `x:`
abbrev pub is_in_digits : List ℕ → Bool
is_in_digits word = starts_with nat_eq word (codes "x:")

-- a word that stands for itself
abbrev pub is_plain : List ℕ → Bool
is_plain word = nat_lt 0 (length word) && list_all is_graphic word && not (is_in_digits word)

-- the bytes that a field stands for, or none where the word is no field
abbrev pub field_of : List ℕ → Option (List ℕ)
field_of word =
    if is_in_digits word
    then result_ok (decode_of (drop 2 word))
    else (if is_plain word then Some word else None)

-- these bytes, where they are no fewer and no more
abbrev pub bounded : ℕ → ℕ → Option (List ℕ) → Option (List ℕ)
bounded least most None = None
bounded least most (Some bytes) =
    if nat_le least (length bytes) && nat_le (length bytes) most then Some bytes else None

-- the key that a word stands for
abbrev pub key_of : List ℕ → Option (List ℕ)
key_of word = bounded 1 KEY_MAX (field_of word)

-- the value that a word stands for
abbrev pub value_of : List ℕ → Option (List ℕ)
value_of word = bounded 0 VALUE_MAX (field_of word)

-- what one word says
abbrev pub checkpoint_of : List ℕ → Line
checkpoint_of name = if bytes_eq name (codes "checkpoint") then Good Checkpoint else Bad

-- what two words say
abbrev pub scan_of : List ℕ → Option ℕ → Line
scan_of name None = Bad
scan_of name (Some cache) = if bytes_eq name (codes "scan") then Good (Scan cache) else Bad

-- what three words say
abbrev pub get_or_remove_of : List ℕ → Option ℕ → Option (List ℕ) → Line
get_or_remove_of name None key = Bad
get_or_remove_of name (Some cache) None = Bad
get_or_remove_of name (Some cache) (Some key) =
    if bytes_eq name (codes "get")
    then Good (Get cache key)
    else (if bytes_eq name (codes "remove") then Good (Remove cache key) else Bad)

-- what four words say
abbrev pub put_of : List ℕ → Option ℕ → Option (List ℕ) → Option (List ℕ) → Line
put_of name None key value = Bad
put_of name (Some cache) None value = Bad
put_of name (Some cache) (Some key) None = Bad
put_of name (Some cache) (Some key) (Some value) =
    if bytes_eq name (codes "put")
    then Good (Put cache key value)
    else Bad

-- what words say
abbrev pub line_of_words : List (List ℕ) → Line
line_of_words (name ∷ []) = checkpoint_of name
line_of_words (name ∷ cache ∷ []) = scan_of name (cache_of cache)
line_of_words (name ∷ cache ∷ key ∷ []) = get_or_remove_of name (cache_of cache) (key_of key)
line_of_words (name ∷ cache ∷ key ∷ value ∷ []) = put_of name (cache_of cache) (key_of key) (value_of value)
line_of_words words = Bad

-- what a line says; its length is tested first
abbrev pub line_of : List ℕ → Line
line_of line = if nat_lt LINE_MAX (length line) then Long else line_of_words (words_of line)

-- what the lines of the bytes say
abbrev pub script_of : List ℕ → List Line
script_of bytes = map line_of (lines_of bytes)
