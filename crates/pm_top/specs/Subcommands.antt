-- The program's subcommands as `clap` is given them, and the command of what it reads.
use Rattle.std.specs.Prelude.{◌∷◌, [], List, Option, true, codes, if◌then◌else◌, option_and_then, unwrap_or}
use Rattle.std.specs.Prelude.{ℕ}
use Rattle.std.specs.Str.{bytes_eq}
use Rattle.clap.specs.Simple.{on_top}
use Rattle.clap.specs.Words.{App, Row, Rule, Shape, first_of, new_app, new_rule, with_rule, with_subcommand}
use Rattle.pm_types.specs.declared.limits.TheConstants.{LINES_MAX}
use Rattle.pm_top.specs.declared.words.CommandName.{CommandName}
use Rattle.pm_top.specs.declared.words.TheConstants.{SEED_MAX}
use Rattle.pm_top.specs.Words.{gen_of, name_of, number_in}

-- a word that has to be there
abbrev pub required : List ℕ → Rule
required name = record (new_rule name) { required = true }

-- the subcommand with this name over a folder
abbrev pub over_folder : List ℕ → Shape
over_folder name = (with_rule (new_app name) (required (codes "DIR"))).top

-- the subcommand that draws lines
abbrev pub drawing : Shape
drawing = record (over_folder (codes "gen")) {
  rules = required (codes "DIR") ∷ required (codes "SEED") ∷ required (codes "COUNT") ∷ [];
}

-- the program before its subcommands: its words don't begin with its name, and it has no help and no version
abbrev pub bare_program : App
bare_program = on_top (λ s. record s {
  no_binary_name = true;
  disable_help_flag = true;
  disable_help_subcommand = true;
  disable_version_flag = true;
  subcommand_required = true;
}) (new_app (codes "pagemem"))

-- the program's subcommands, with their words
abbrev pub program : App
program = with_subcommand (with_subcommand (with_subcommand (with_subcommand bare_program
    (over_folder (codes "run"))) (over_folder (codes "wal"))) (over_folder (codes "verify"))) drawing

-- the command of a subcommand's name and values
abbrev pub named_by : List ℕ → List Row → Option CommandName
named_by name rows = if bytes_eq name (codes "gen")
    then option_and_then (λ seed. option_and_then (λ count.
    gen_of (number_in 0 SEED_MAX seed) (number_in 1 LINES_MAX count)) (first_of (codes "COUNT") rows))
    (first_of (codes "SEED") rows)
    else name_of name

-- the command of what was read
abbrev pub name_given : Option (List ℕ × List Row) → Option CommandName
name_given found = option_and_then (λ p. option_and_then (λ folder. named_by p.0 p.1)
    (first_of (codes "DIR") p.1)) found

-- the folder of what was read
abbrev pub folder_given : Option (List ℕ × List Row) → List ℕ
folder_given found = unwrap_or (option_and_then (λ p. first_of (codes "DIR") p.1) found) []
