use Rattle.std.proofs.Common.{◌≡◌, ◌∙◌, sym, ap, subst}
use Rattle.std.specs.Prelude.{Result, IfOk, Err}
use Rattle.std.proofs.lemmas.Option.{none-some}
use Rattle.pm_types.specs.declared.fault.StoreFault.{StoreFault}
use Rattle.pm_types.specs.declared.page.Page.{Page}
use Rattle.pm_redo.specs.Loading.{bytes_in}
use Rattle.pm_redo.proofs.LoadedPages.{same_page, fault_in}
use Rattle.pm_redo.proofs.loading.read_counted.Goals as goal

pub returns-in-Ok-Some-clause-page : goal.returns-in-Ok-Some-clause-page
returns-in-Ok-Some-clause-page g c told base is =
    subst (λ r. IfOk r (λ found. base c.args.part c.args.index ≡ bytes_in found)) c.in-Ok-Some.is (c.read_page.ensures.page told base is)
    ∙ ap bytes_in c.in-Ok-Some.field-0-is

pub returns-in-Ok-None-clause-bad : goal.returns-in-Ok-None-clause-bad
returns-in-Ok-None-clause-bad g c told base is id err =
    let none = subst (λ r. IfOk r (λ found. base c.args.part c.args.index ≡ bytes_in found)) c.in-Ok-None.is (c.read_page.ensures.page told base is)
    ∙ ap bytes_in c.in-Ok-None.field-0-is in
    (same_page id c.new.result err ∙ c.new.ensures, λ bytes there passed. none-some bytes (sym none ∙ there))

pub returns-in-Err-clause-bad : goal.returns-in-Err-clause-bad
returns-in-Err-clause-bad g c told base is id err =
    let same = ap (λ (r : Result Page StoreFault). fault_in r c.in-Err.fault) err in
    (c.read_page.ensures.bad told base is id (c.in-Err.is ∙ ap Err same)).1
