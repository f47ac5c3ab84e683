-- The command of what `clap` found, value by value.
use Rattle.std.proofs.Common.{◌≡◌, ◌∙◌, true, false, List, [], Option, Some, None, sym, ap, ap₂, cond}
use Rattle.std.specs.Prelude.{IfSome, codes, option_and_then, option_map, unwrap_or, Box}
use Rattle.std.specs.Box.{box_value}
use Rattle.std.specs.Str.{bytes_eq}
use Rattle.clap.specs.Matches.{found_of, subcommand_name_of}
use Rattle.clap.specs.Walk.{Row, Text, first_of, rows_of}
use Rattle.clap.specs.Built.{AddsSubcommand}
use Rattle.clap.specs.Simple.{App, Shape, app_of, app_of_fields, new_app, on_top, shape_of, subcommand_rows}
use Rattle.clap.specs.Simple.{subcommand_rows_of, with_subcommand}
use Rattle.clap.specs.declared.builder.command.Command.{Command}
use Rattle.clap.specs.declared.builder.command.Command.TheViews.{out-Command}
use Rattle.clap.specs.declared.builder.command.Command.TheOpen.{Command-F}
use Rattle.clap.proofs.SimpleLemmas.{plain_fields}
use Rattle.clap.specs.declared.parser.matches.ArgMatches.{ArgMatches}
use Rattle.clap.specs.declared.parser.matches.ArgMatches.TheViews.{out-ArgMatches, out-SubCommand}
use Rattle.clap.specs.declared.parser.matches.SubCommand.{SubCommand}
use Rattle.pm_types.specs.declared.limits.TheConstants.{LINES_MAX}
use Rattle.pm_top.specs.declared.words.Command.{Command as Asked}
use Rattle.pm_top.specs.declared.words.TheConstants.{SEED_MAX}
use Rattle.pm_top.specs.Subcommands.{bare_program, folder_given, name_given, named_by}
use Rattle.pm_top.specs.Words.{gen_of, name_of, number_in}

some_same : {A : Type 0} (a b : A) → Some a ≡ Some b → a ≡ b
some_same a b e = cc

-- a subcommand that was met, by its name and its rows
pub met_rows : (m : ArgMatches) (name : Text) (rows : List Row) → Some name ≡ subcommand_name_of m
    → Some rows ≡ option_map (λ p. p.1) (subcommand_rows_of m) → subcommand_rows_of m ≡ Some (name, rows)
met_rows m name rows = go (out-ArgMatches m).subcommand
  where
    go : {Z : Type 0} (o : Option (Box SubCommand Z))
        → Some name ≡ option_map (λ b. (out-SubCommand (box_value b)).name.now) o
        → Some rows ≡ option_map (λ p. p.1) (subcommand_rows o) → subcommand_rows o ≡ Some (name, rows)
    go None is has = absurd cc
    go (Some b) is has =
        ap₂ (λ x y. Some (x, y)) (sym (some_same name (out-SubCommand (box_value b)).name.now is))
        (sym (some_same rows (rows_of (found_of (out-SubCommand (box_value b)).matches)) has))

-- its folder is missing
pub no_folder : (m : ArgMatches) (name : Text) (rows : List Row) → subcommand_rows_of m ≡ Some (name, rows)
    → None ≡ first_of (codes "DIR") rows → None ≡ name_given (subcommand_rows_of m)
no_folder m name rows met is =
    sym (ap name_given met ∙ ap (option_and_then (λ (folder : Text). named_by name rows)) (sym is))

-- its folder is there
pub its_name : (m : ArgMatches) (name : Text) (rows : List Row) (folder : Text)
    → subcommand_rows_of m ≡ Some (name, rows) → Some folder ≡ first_of (codes "DIR") rows
    → named_by name rows ≡ name_given (subcommand_rows_of m)
its_name m name rows folder met is =
    sym (ap name_given met ∙ ap (option_and_then (λ (word : Text). named_by name rows)) (sym is))

pub its_folder : (m : ArgMatches) (name : Text) (rows : List Row) (folder : Text)
    → subcommand_rows_of m ≡ Some (name, rows) → Some folder ≡ first_of (codes "DIR") rows
    → folder ≡ folder_given (subcommand_rows_of m)
its_folder m name rows folder met is = sym (ap folder_given met ∙ ap (λ (o : Option Text). unwrap_or o []) (sym is))

-- another command than `gen`
pub named_only : (name : Text) (rows : List Row) → bytes_eq name (codes "gen") ≡ false
    → name_of name ≡ named_by name rows
named_only name rows isnt = sym (ap (λ t. cond t (named_by (codes "gen") rows) (name_of name)) isnt)

-- `gen`, and its numbers
pub drawn_by : (name : Text) (rows : List Row) (seed count : Option Text) → bytes_eq name (codes "gen") ≡ true
    → seed ≡ first_of (codes "SEED") rows → count ≡ first_of (codes "COUNT") rows
    → option_and_then (λ s.
    option_and_then (λ n. gen_of (number_in 0 SEED_MAX s) (number_in 1 LINES_MAX n)) count) seed ≡ named_by name rows
drawn_by name rows seed count is first second =
    ap₂ (λ (x y : Option Text). option_and_then
    (λ s. option_and_then (λ n. gen_of (number_in 0 SEED_MAX s) (number_in 1 LINES_MAX n)) y) x) first second
    ∙ sym (ap (λ t. cond t (named_by (codes "gen") rows) (name_of name)) is)

-- ---- the program, as it is made

-- the settings, one after the other
pub bare_is : (c0 c1 c2 c3 c4 c5 : Command) → app_of c0 ≡ new_app (codes "pagemem")
    → out-Command c1 ≡ record (out-Command c0) { no_binary_name = true }
    → out-Command c2 ≡ record (out-Command c1) { disable_help_flag = true }
    → out-Command c3 ≡ record (out-Command c2) { disable_help_subcommand = true }
    → out-Command c4 ≡ record (out-Command c3) { disable_version_flag = true }
    → out-Command c5 ≡ record (out-Command c4) { subcommand_required = true }
    → app_of c5 ≡ bare_program
bare_is c0 c1 c2 c3 c4 c5 new one two three four five =
    ap app_of_fields (five ∙ ap (λ (r : Command-F Command). record r { subcommand_required = true })
    (four ∙ ap (λ (r : Command-F Command). record r { disable_version_flag = true })
    (three ∙ ap (λ (r : Command-F Command). record r { disable_help_subcommand = true })
    (two ∙ ap (λ (r : Command-F Command). record r { disable_help_flag = true }) one))))
    ∙ ap (on_top (λ s. record s {
      no_binary_name = true;
      disable_help_flag = true;
      disable_help_subcommand = true;
      disable_version_flag = true;
      subcommand_required = true;
    })) new

-- one more subcommand
pub added : (old sub new : Command) (a : App) (s : Shape) → AddsSubcommand old sub new → app_of old ≡ a
    → shape_of sub ≡ s → s.is_plain ≡ true → app_of new ≡ with_subcommand a s
added old sub new a s adds was shape is_plain =
    adds.shape (plain_fields sub (ap (λ (x : Shape). x.is_plain) shape ∙ is_plain)).globals
    ∙ ap₂ with_subcommand was shape

-- ---- the command, if there is one

pub folder_then : (found : Option Asked) (given wanted : Text) → given ≡ wanted
    → IfSome found (λ asked. asked.folder.now ≡ given) → IfSome found (λ asked. asked.folder.now ≡ wanted)
folder_then None given wanted same holds = holds
folder_then (Some asked) given wanted same holds = holds ∙ same
