use Rattle.std.proofs.Common.{arith}
use Rattle.std.proofs.lemmas.Result.{err_from_is_err_and}
use Rattle.pm_pages.proofs.EditedPages.{looks_at_none}
use Rattle.pm_btpage.specs.Stored.{IsLink}
use Rattle.pm_tree.proofs.StoredNodes.{leaf_root}
use Rattle.pm_tree.proofs.LinkedLeaves.{cause_passed}
use Rattle.pm_pages.proofs.SoundPages.{no_bad_passed}
use Rattle.pm_tree.proofs.Climbs.{changes_looked, put_cause_take}
use Rattle.pm_tree.proofs.IndexPuts.{plants_index, changes_root, tree_cause}
use Rattle.pm_tree.proofs.roots.plant.Goals as goal

pub returns-clause-changes : goal.returns-clause-changes
returns-clause-changes g c =
    let T = g.P.Pages.tells in
    let a = g.P.Pages.seen c.args.pages.now in
    let makes = c.in_ok-make_root.ensures.makes in
    changes_root T a a (g.P.Pages.seen c.make_root.new.pages) c.args.cache 0 17 _ c.args.key.now c.args.link.0 (omega arith) (λ link. link) (changes_looked {G = IsLink a.part c.args.link.0} T a a 0 c.requires.meta (looks_at_none T a)) makes
    (λ link small. leaf_root a.part makes.top c.args.key.now c.args.link.0 link)

pub returns-clause-puts : goal.returns-clause-puts
returns-clause-puts g c = λ t height nodes items index.
    let T = g.P.Pages.tells in
    let a = g.P.Pages.seen c.args.pages.now in
    plants_index T a (g.P.Pages.seen c.make_root.new.pages) c.args.cache c.args.key.now c.args.link.0 t c.requires.readable c.requires.meta c.in_ok-make_root.ensures.makes height nodes items index

pub returns-in_err-make_root-clause-cause : goal.returns-in_err-make_root-clause-cause
returns-in_err-make_root-clause-cause g c =
    let T = g.P.Pages.tells in
    let a = g.P.Pages.seen c.args.pages.now in
    let d = g.P.Pages.seen c.make_root.new.pages in
    let p = err_from_is_err_and c.from_residual.result c.from_residual.ensures.1 in
    tree_cause T a d c.args.cache c.from_residual.result (put_cause_take T a d c.args.cache c.from_residual.result (cause_passed T a d c.make_root.result c.from_residual.result c.in_err-make_root.field-0.0 p.0 c.in_err-make_root.was p.1 p.2 c.make_root.ensures.cause))

pub returns-in_err-make_root-clause-sound : goal.returns-in_err-make_root-clause-sound
returns-in_err-make_root-clause-sound g c = λ may.
    let p = err_from_is_err_and c.from_residual.result c.from_residual.ensures.1 in
    no_bad_passed c.make_root.result c.from_residual.result c.in_err-make_root.field-0.0 p.0 c.in_err-make_root.was p.1 p.2 (c.make_root.ensures.sound may)
