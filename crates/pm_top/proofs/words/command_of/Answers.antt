use Rattle.std.proofs.Common.{◌≡◌, ◌∙◌, sym, subst, map, string_bytes, true, false}
use Rattle.std.specs.Prelude.{Result}
use Rattle.std.proofs.lemmas.List.Folds.{list_all-map}
use Rattle.clap.specs.Words.{FailsBy, app_of, fault_of}
use Rattle.clap.specs.declared.error.Error.{Error}
use Rattle.clap.specs.declared.error.kind.ErrorKind.TheVariants.{OutOfMemory}
use Rattle.clap.specs.declared.parser.matches.ArgMatches.{ArgMatches}
use Rattle.pm_top.specs.Words.{is_folder, folder_in}
use Rattle.pm_top.proofs.WordsGiven.{folder_then}
use Rattle.pm_top.proofs.WordsTaken.{given_words, no_words, refused_words}
use Rattle.pm_top.proofs.words.command_of.Goals as goal

pub returns-then-not-are_plain-clause-name : goal.returns-then-not-are_plain-clause-name
returns-then-not-are_plain-clause-name c =
    let words = c.args.words.now in
    sym (refused_words (map string_bytes words)
    (list_all-map is_folder string_bytes words ∙ sym c.are_plain.ensures ∙ c.if-not-are_plain.true))

pub returns-in-Ok-clause-name : goal.returns-in-Ok-clause-name
returns-in-Ok-clause-name c =
    let words = map string_bytes c.args.words.now in
    let app = app_of c.in_ok-reader.reader in
    let parse = c.try_get_matches_from in
    let plain =
    list_all-map is_folder string_bytes c.args.words.now ∙ sym c.are_plain.ensures ∙ c.if-not-are_plain.false in
    c.command_given.ensures.name ∙ (given_words app c.in-Ok.matches words c.in_ok-reader.ensures plain
    (λ free. subst (λ (r : Result ArgMatches Error). FailsBy (fault_of app words) r) c.in-Ok.is
    (parse.ensures.kinds free)) c.in-Ok.ensures.matches).0

pub returns-in-Ok-clause-folder : goal.returns-in-Ok-clause-folder
returns-in-Ok-clause-folder c =
    let words = map string_bytes c.args.words.now in
    let app = app_of c.in_ok-reader.reader in
    let parse = c.try_get_matches_from in
    let plain =
    list_all-map is_folder string_bytes c.args.words.now ∙ sym c.are_plain.ensures ∙ c.if-not-are_plain.false in
    folder_then c.command_given.result _ (folder_in words)
    (given_words app c.in-Ok.matches words c.in_ok-reader.ensures plain
    (λ free. subst (λ (r : Result ArgMatches Error). FailsBy (fault_of app words) r) c.in-Ok.is
    (parse.ensures.kinds free)) c.in-Ok.ensures.matches).1 c.command_given.ensures.folder

pub returns-else-eq-clause-name : goal.returns-else-eq-clause-name
returns-else-eq-clause-name c =
    let words = map string_bytes c.args.words.now in
    let app = app_of c.in_ok-reader.reader in
    let parse = c.try_get_matches_from in
    let plain =
    list_all-map is_folder string_bytes c.args.words.now ∙ sym c.are_plain.ensures ∙ c.if-not-are_plain.false in
    sym (no_words app c.in-Err.fault words c.in_ok-reader.ensures plain
    (λ free. subst (λ (r : Result ArgMatches Error). FailsBy (fault_of app words) r) c.in-Err.is
    (parse.ensures.kinds free))
    (λ is.
    let same : c.kind.result ≡ OutOfMemory = c.kind.ensures ∙ is in
    let equal : c.eq.result ≡ true = rw same at c.eq.ensures in
    let both : true ≡ false = sym equal ∙ c.if-eq.false in
    cc))
