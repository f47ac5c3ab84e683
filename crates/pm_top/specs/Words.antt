-- The words of a command line.
--
--     run DIR               the script on the input is answered over the store in the folder
--     wal DIR               the log of the store in the folder is listed
--     verify DIR            the store in the folder is checked
--     gen DIR SEED COUNT    COUNT lines that are drawn from SEED are run over the store in the folder
--
-- The folder isn't empty and doesn't begin with `-`. SEED is 0 to 2147483647 and COUNT 1 to 4000000, in decimal
-- without leading zeros. Other words aren't a command.
use Rattle.std.specs.Prelude.{ℕ, ◌≤◌, ◌∷◌, [], List, Bool, ◌&&◌, not, nat_lt, nat_le, length, codes}
use Rattle.std.specs.Prelude.{if◌then◌else◌, slice_get, unwrap_or, Option, Some, None, is_some, decimal}
use Rattle.std.specs.List.{starts_with}
use Rattle.std.specs.Bool.{nat_eq}
use Rattle.std.specs.Str.{bytes_eq}
use Rattle.std.specs.Str.Parse.{digits_value}
use Rattle.pm_types.specs.declared.limits.TheConstants.{LINES_MAX}
use Rattle.pm_top.specs.declared.words.CommandName.{CommandName}
use Rattle.pm_top.specs.declared.words.CommandName.TheVariants.{Run, Wal, Verify, Gen}
use Rattle.pm_top.specs.declared.words.TheConstants.{SEED_MAX}

-- the command with this name that takes no number
abbrev pub name_of : List ℕ → Option CommandName
name_of word =
    if bytes_eq word (codes "run") then Some Run
    else if bytes_eq word (codes "wal") then Some Wal
    else if bytes_eq word (codes "verify") then Some Verify
    else None

-- whether a word may be a folder
abbrev pub is_folder : List ℕ → Bool
is_folder word = nat_lt 0 (length word) && not (starts_with nat_eq word (codes "-"))

-- whether the number is in these bounds, and the word its decimal text
abbrev pub is_number_of : ℕ → ℕ → ℕ → List ℕ → Bool
is_number_of least most number word =
    nat_le least number && nat_le number most && bytes_eq (decimal number) word

-- the number, in these bounds, whose decimal text the word is
abbrev pub number_in : ℕ → ℕ → List ℕ → Option ℕ
number_in least most word =
    let number = digits_value 10 word in
    if is_number_of least most number word then Some number else None

-- the command that draws lines, where both of its numbers are there
abbrev pub gen_of : Option ℕ → Option ℕ → Option CommandName
gen_of (Some seed) (Some count) = Some (Gen seed count)
gen_of (Some seed) None = None
gen_of None count = None

-- the command that the words are
abbrev pub command_in : List (List ℕ) → Option CommandName
command_in (name ∷ folder ∷ []) = if is_folder folder then name_of name else None
command_in (name ∷ folder ∷ seed ∷ count ∷ []) =
    if bytes_eq name (codes "gen") && is_folder folder
    then gen_of (number_in 0 SEED_MAX seed) (number_in 1 LINES_MAX count)
    else None
command_in words = None

-- no more lines are drawn than a script may have
abbrev pub DrawsFew : CommandName → Type 0
DrawsFew Run = Unit {0}
DrawsFew Wal = Unit {0}
DrawsFew Verify = Unit {0}
DrawsFew (Gen seed count) = count ≤ LINES_MAX

-- whether they are one
abbrev pub is_command : List (List ℕ) → Bool
is_command words = is_some (command_in words)

-- the folder that the words of a command name: the second word
abbrev pub folder_in : List (List ℕ) → List ℕ
folder_in words = unwrap_or (slice_get words 1) []
