use Rattle.std.proofs.Common.{ℕ, ◌≡◌, ◌≢◌, Option, sym, ap, subst, ◌∙◌}
use Rattle.std.specs.Prelude.{IfSome}
use Rattle.pm_meta.specs.declared.slots.MetaSlot.TheVariants.{Root}
use Rattle.pm_pages.specs.Edits.{IsNumberIn}
use Rattle.pm_pages.specs.Trees.{root_of}
use Rattle.pm_pages.specs.Rows.{Partition}
use Rattle.pm_tree.specs.Indexes.{IsIndex}
use Rattle.pm_tree.specs.Maps.{get_in}
use Rattle.pm_pages.proofs.ToldPages.{number_told, pages_told}
use Rattle.std.proofs.lemmas.Result.{err_from_is_err_and}
use Rattle.pm_pages.proofs.EditedPages.{looks_at_none}
use Rattle.pm_tree.proofs.Descents.{index_answers}
use Rattle.pm_part.proofs.KeyWays.{way_cause_before, way_cause_passed, bad_meta_cause}
use Rattle.pm_pages.proofs.PassingLooks.{passes_looked}
use Rattle.pm_part.proofs.entries.find_entry.Goals as goal

pub returns-else-root-eq0-clause-gets : goal.returns-else-root-eq0-clause-gets
returns-else-root-eq0-clause-gets g c =
    let T = g.P.Pages.tells in
    let a = g.P.Pages.seen c.args.pages.now in
    let b = g.P.Pages.seen c.find_number.new.pages in
    let number : IsNumberIn b (Root c.args.cache) c.in-Some.root = subst (λ (o : Option ℕ). IfSome o (IsNumberIn b (Root c.args.cache))) c.in-Some.is c.in_ok-find_number.ensures.number in
    λ t height nodes items index.
    let same = pages_told T a b 1 t c.find_number.ensures.looks in
    let root : root_of a.pages c.args.cache ≡ c.in-Some.root = ap (λ (q : Partition). root_of q c.args.cache) (sym same) ∙ number_told b (Root c.args.cache) c.in-Some.root number in
    let some : c.in-Some.root ≢ 0 = c.if-root-eq0.false in
    c.descend.ensures.gets t (get_in items c.args.key.now)
    (index_answers a.pages b.pages c.in-Some.root height nodes items c.args.key.now same some (subst (λ n. IsIndex a.pages n height nodes items) root index))

pub returns-else-root-eq0-clause-cause : goal.returns-else-root-eq0-clause-cause
returns-else-root-eq0-clause-cause g c =
    way_cause_before g.P.Pages.tells (g.P.Pages.seen c.args.pages.now) (g.P.Pages.seen c.find_number.new.pages) (g.P.Pages.seen c.descend.new.pages) 1 c.args.cache c.args.key.now c.descend.result c.find_number.ensures.looks c.descend.ensures.cause

pub returns-in_err-find_number-clause-cause : goal.returns-in_err-find_number-clause-cause
returns-in_err-find_number-clause-cause g c =
    let T = g.P.Pages.tells in
    let a = g.P.Pages.seen c.args.pages.now in
    let b = g.P.Pages.seen c.find_number.new.pages in
    let p = err_from_is_err_and c.from_residual.result c.from_residual.ensures.1 in
    way_cause_passed T a a b 0 c.args.cache c.args.key.now c.find_number.result c.from_residual.result c.in_err-find_number.field-0.0 p.0 c.in_err-find_number.was p.1 p.2 (looks_at_none T a)
    (bad_meta_cause T a b c.args.cache c.args.key.now c.find_number.result c.find_number.ensures.cause)

pub returns-else-root-eq0-clause-sound : goal.returns-else-root-eq0-clause-sound
returns-else-root-eq0-clause-sound g c =
    let T = g.P.Pages.tells in
    let a = g.P.Pages.seen c.args.pages.now in
    let b = g.P.Pages.seen c.find_number.new.pages in
    let number : IsNumberIn b (Root c.args.cache) c.in-Some.root = subst (λ (o : Option ℕ). IfSome o (IsNumberIn b (Root c.args.cache))) c.in-Some.is c.in_ok-find_number.ensures.number in
    λ t all height nodes items index.
    let same = pages_told T a b 1 t c.find_number.ensures.looks in
    let root : root_of a.pages c.args.cache ≡ c.in-Some.root = ap (λ (q : Partition). root_of q c.args.cache) (sym same) ∙ number_told b (Root c.args.cache) c.in-Some.root number in
    let some : c.in-Some.root ≢ 0 = c.if-root-eq0.false in
    c.descend.ensures.sound t (passes_looked T a b 1 t c.find_number.ensures.looks all) (get_in items c.args.key.now)
    (index_answers a.pages b.pages c.in-Some.root height nodes items c.args.key.now same some (subst (λ n. IsIndex a.pages n height nodes items) root index))
