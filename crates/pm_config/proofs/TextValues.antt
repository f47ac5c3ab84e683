-- The value of a configuration's text, case by case: too long, empty, read as JSON, or not.
use Rattle.std.proofs.Common.{◌≡◌, ◌<◌, ◌≤◌, ℕ, Bool, true, false, length, Option, Some, None, List, ltb, eqb, cond, refl, ap, ◌∙◌, arith}
use Rattle.std.proofs.lemmas.Bool.{lt-ltb, le-ltb, ne_eqb}
use Rattle.std.specs.Str.{IsUtf8, is_utf8}
use Rattle.std.proofs.lemmas.Str.{is_utf8-from_IsUtf8, IsUtf8-from_is_utf8}
use Rattle.serde_json.specs.Data.{Data, object, no_members}
use Rattle.serde_json.specs.Read.{read}
use Rattle.pm_config.specs.declared.limits.TheConstants.{CONFIG_BYTES_MAX}
use Rattle.pm_config.specs.Stored.{value_of}

-- what is chosen by whether the text is too long, empty, and UTF-8
abbrev pub chosen : {T : Type 0} → Bool → Bool → Bool → Option T → Option T → Option T
chosen long empty utf8 blank read = cond long None (cond empty blank (cond utf8 read None))

-- the text's own tests
abbrev pub chosen_for : {T : Type 0} → List ℕ → Option T → Option T → Option T
chosen_for bytes blank read = chosen (ltb CONFIG_BYTES_MAX (length bytes)) (eqb (length bytes) 0) (is_utf8 bytes) blank read

pub value_of-chosen : (bytes : List ℕ) → value_of bytes ≡ chosen_for bytes (Some (object no_members)) (read bytes)
unfolding value_of
value_of-chosen bytes = refl

pub chosen-long : {T : Type 0} (bytes : List ℕ) (blank read : Option T) → CONFIG_BYTES_MAX < length bytes → chosen_for bytes blank read ≡ None
chosen-long bytes blank read long = ap (λ t. chosen t (eqb (length bytes) 0) (is_utf8 bytes) blank read) (lt-ltb CONFIG_BYTES_MAX (length bytes) long)

pub chosen-empty : {T : Type 0} (bytes : List ℕ) (blank read : Option T) → length bytes ≡ 0 → chosen_for bytes blank read ≡ blank
chosen-empty bytes blank read empty =
    let short : length bytes ≤ CONFIG_BYTES_MAX = omega arith in
    ap (λ t. chosen t (eqb (length bytes) 0) (is_utf8 bytes) blank read) (le-ltb CONFIG_BYTES_MAX (length bytes) short)
    ∙ ap (λ n. chosen false (eqb n 0) (is_utf8 bytes) blank read) empty

pub chosen-short : {T : Type 0} (bytes : List ℕ) (blank read : Option T) → length bytes ≤ CONFIG_BYTES_MAX → 0 < length bytes → chosen_for bytes blank read ≡ cond (is_utf8 bytes) read None
chosen-short bytes blank read short some =
    let full : length bytes ≡ 0 → ⊥ = λ e. omega arith in
    ap (λ t. chosen t (eqb (length bytes) 0) (is_utf8 bytes) blank read) (le-ltb CONFIG_BYTES_MAX (length bytes) short)
    ∙ ap (λ e. chosen false e (is_utf8 bytes) blank read) (ne_eqb (length bytes) 0 full)

pub too_long_has_no_value : (bytes : List ℕ) → CONFIG_BYTES_MAX < length bytes → value_of bytes ≡ None
too_long_has_no_value bytes long = value_of-chosen bytes ∙ chosen-long bytes _ _ long

pub empty_is_an_object : (bytes : List ℕ) → length bytes ≡ 0 → value_of bytes ≡ Some (object no_members)
empty_is_an_object bytes empty = value_of-chosen bytes ∙ chosen-empty bytes _ _ empty

pub read_is_the_value : (bytes : List ℕ) (d : Data) → length bytes ≤ CONFIG_BYTES_MAX → 0 < length bytes → IsUtf8 bytes → read bytes ≡ Some d → value_of bytes ≡ Some d
read_is_the_value bytes d short some utf8 is =
    value_of-chosen bytes ∙ chosen-short bytes _ _ short some ∙ ap (λ u. cond u (read bytes) None) (is_utf8-from_IsUtf8 bytes utf8) ∙ is

none_if_unread : (bytes : List ℕ) (u : Bool) → is_utf8 bytes ≡ u → (IsUtf8 bytes → read bytes ≡ None) → cond u (read bytes) None ≡ None
none_if_unread bytes true e none = none (IsUtf8-from_is_utf8 bytes e)
none_if_unread bytes false e none = refl

pub unread_has_no_value : (bytes : List ℕ) → length bytes ≤ CONFIG_BYTES_MAX → 0 < length bytes → (IsUtf8 bytes → read bytes ≡ None) → value_of bytes ≡ None
unread_has_no_value bytes short some none = value_of-chosen bytes ∙ chosen-short bytes _ _ short some ∙ none_if_unread bytes _ refl none
