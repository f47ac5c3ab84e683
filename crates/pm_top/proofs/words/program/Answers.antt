use Rattle.std.proofs.Common.{codes, refl}
use Rattle.std.proofs.lemmas.Result.{IfOk-weaker}
use Rattle.pm_top.specs.Subcommands.{bare_program, drawing, over_folder}
use Rattle.clap.specs.Words.{with_subcommand}
use Rattle.pm_top.proofs.WordsGiven.{added, bare_is}
use Rattle.pm_top.proofs.words.program.Goals as goal

pub returns : goal.returns
returns c =
    let bare = bare_is c.new.result c.no_binary_name.result c.disable_help_flag.result c.disable_help_subcommand.result
    c.disable_version_flag.result c.subcommand_required.result
    c.new.ensures.app c.no_binary_name.ensures c.disable_help_flag.ensures c.disable_help_subcommand.ensures
    c.disable_version_flag.ensures c.subcommand_required.ensures in
    let one = added _ _ _ bare_program (over_folder (codes "run")) c.in_ok-subcommand.ensures bare
    c.in_ok-over_folder.ensures refl in
    let two = added _ _ _ (with_subcommand bare_program (over_folder (codes "run"))) (over_folder (codes "wal"))
    c.in_ok-subcommand-2.ensures one c.in_ok-over_folder-2.ensures refl in
    let three = added _ _ _ (with_subcommand (with_subcommand bare_program (over_folder (codes "run")))
    (over_folder (codes "wal"))) (over_folder (codes "verify")) c.in_ok-subcommand-3.ensures two
    c.in_ok-over_folder-3.ensures refl in
    IfOk-weaker c.subcommand-4.result _ _ (λ made adds. added _ _ made _ drawing adds three c.in_ok-drawing.ensures
    refl) c.subcommand-4.ensures
