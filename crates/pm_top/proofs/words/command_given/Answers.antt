use Rattle.std.proofs.Common.{◌∙◌, sym, ap, refl, codes, Some, None, option_map}
use Rattle.clap.specs.Words.{first_of, found_of, rows_of}
use Rattle.clap.proofs.WalkLemmas.{first_value-rows}
use Rattle.pm_top.specs.Words.{name_of}
use Rattle.pm_top.specs.declared.words.Command.{Command}
use Rattle.pm_top.proofs.WordsGiven.{drawn_by, its_folder, its_name, met_rows, named_only, no_folder}
use Rattle.pm_top.proofs.words.command_given.Goals as goal
use Rattle.pm_top.proofs.words.command_given.Goals.{then-eq+in_ok-get_str+in_ok-get_str-2+in_ok-name-2}
use Rattle.pm_top.proofs.words.command_given.Goals.{else-eq+in_ok-name-3}

pub returns-in_err-folder-clause-name : goal.returns-in_err-folder-clause-name
returns-in_err-folder-clause-name c =
    let m = c.args.matches.now in
    let name = c.in_ok-name.name.now in
    let found = found_of c.in_ok-name.given.now in
    let rows = rows_of found in
    let met = met_rows m name rows c.in_ok-name.ensures.name c.in_ok-name.ensures.rows in
    ap (option_map (λ (asked : Command). asked.name)) c.from_residual-in_err-folder.ensures
    ∙ no_folder m name rows met (c.in_err-folder.ensures ∙ first_value-rows found (codes "DIR"))

pub returns-in_err-get_str-clause-name : goal.returns-in_err-get_str-clause-name
returns-in_err-get_str-clause-name c =
    let m = c.args.matches.now in
    let name = c.in_ok-name.name.now in
    let found = found_of c.in_ok-name.given.now in
    let rows = rows_of found in
    let met = met_rows m name rows c.in_ok-name.ensures.name c.in_ok-name.ensures.rows in
    let folder = c.in_ok-folder.ensures ∙ first_value-rows found (codes "DIR") in
    let seed = c.in_err-get_str.ensures ∙ first_value-rows found (codes "SEED") in
    ap (option_map (λ (asked : Command). asked.name)) c.from_residual-in_err-get_str.ensures
    ∙ drawn_by name rows None (first_of (codes "COUNT") rows) (sym c.eq.ensures ∙ c.if-eq.true) seed refl
    ∙ its_name m name rows c.in_ok-folder.folder.now met folder

pub returns-in_err-get_str-2-clause-name : goal.returns-in_err-get_str-2-clause-name
returns-in_err-get_str-2-clause-name c =
    let m = c.args.matches.now in
    let name = c.in_ok-name.name.now in
    let found = found_of c.in_ok-name.given.now in
    let rows = rows_of found in
    let met = met_rows m name rows c.in_ok-name.ensures.name c.in_ok-name.ensures.rows in
    let folder = c.in_ok-folder.ensures ∙ first_value-rows found (codes "DIR") in
    let seed = c.in_ok-get_str.ensures ∙ first_value-rows found (codes "SEED") in
    let count = c.in_err-get_str-2.ensures ∙ first_value-rows found (codes "COUNT") in
    ap (option_map (λ (asked : Command). asked.name)) c.from_residual-in_err-get_str-2.ensures
    ∙ drawn_by name rows (Some c.in_ok-get_str.field-0.now) None (sym c.eq.ensures ∙ c.if-eq.true) seed count
    ∙ its_name m name rows c.in_ok-folder.folder.now met folder

pub returns-in_err-name-2-clause-name : goal.returns-in_err-name-2-clause-name
returns-in_err-name-2-clause-name c =
    let m = c.args.matches.now in
    let name = c.in_ok-name.name.now in
    let found = found_of c.in_ok-name.given.now in
    let rows = rows_of found in
    let met = met_rows m name rows c.in_ok-name.ensures.name c.in_ok-name.ensures.rows in
    let folder = c.in_ok-folder.ensures ∙ first_value-rows found (codes "DIR") in
    let seed = c.in_ok-get_str.ensures ∙ first_value-rows found (codes "SEED") in
    let count = c.in_ok-get_str-2.ensures ∙ first_value-rows found (codes "COUNT") in
    ap (option_map (λ (asked : Command). asked.name)) c.from_residual-in_err-name-2.ensures
    ∙ c.in_err-name-2.ensures.name
    ∙ drawn_by name rows (Some c.in_ok-get_str.field-0.now) (Some c.in_ok-get_str-2.field-0.now)
    (sym c.eq.ensures ∙ c.if-eq.true) seed count ∙ its_name m name rows c.in_ok-folder.folder.now met folder

pub returns-clause-name : goal.returns-clause-name
returns-clause-name c =
    let m = c.args.matches.now in
    let name = c.in_ok-name.name.now in
    let found = found_of c.in_ok-name.given.now in
    let rows = rows_of found in
    let met = met_rows m name rows c.in_ok-name.ensures.name c.in_ok-name.ensures.rows in
    let folder = c.in_ok-folder.ensures ∙ first_value-rows found (codes "DIR") in
    elim c.if-eq.branch [
      | then-eq+in_ok-get_str+in_ok-get_str-2+in_ok-name-2 w ↦
          let seed = w.in_ok-get_str.ensures ∙ first_value-rows found (codes "SEED") in
          let count = w.in_ok-get_str-2.ensures ∙ first_value-rows found (codes "COUNT") in
          ap Some w.name-is ∙ w.in_ok-name-2.ensures.name
          ∙ drawn_by name rows (Some w.in_ok-get_str.field-0.now) (Some w.in_ok-get_str-2.field-0.now)
          (sym c.eq.ensures ∙ w.if-eq.true) seed count ∙ its_name m name rows c.in_ok-folder.folder.now met folder
      | else-eq+in_ok-name-3 w ↦
          ap Some w.name-is ∙ w.in_ok-name-3.ensures.name ∙ ap name_of w.as_bytes.ensures.value
          ∙ named_only name rows (sym c.eq.ensures ∙ w.if-eq.false)
          ∙ its_name m name rows c.in_ok-folder.folder.now met folder
    ]

pub returns-clause-folder : goal.returns-clause-folder
returns-clause-folder c =
    let m = c.args.matches.now in
    let name = c.in_ok-name.name.now in
    let found = found_of c.in_ok-name.given.now in
    let rows = rows_of found in
    let met = met_rows m name rows c.in_ok-name.ensures.name c.in_ok-name.ensures.rows in
    its_folder m name rows c.in_ok-folder.folder.now met (c.in_ok-folder.ensures ∙ first_value-rows found (codes "DIR"))
