use Rattle.std.proofs.Common.{◌≢◌, refl, arith}
use Rattle.std.specs.Prelude.{Some}
use Rattle.std.proofs.lemmas.Result.{on_ok_weaker, err_from_is_err_and}
use Rattle.pm_meta.specs.declared.slots.MetaSlot.TheVariants.{Pages}
use Rattle.pm_pages.proofs.TakenPages.{number_looked}
use Rattle.pm_tree.specs.declared.put.Put.TheVariants.{Kept}
use Rattle.pm_pages.proofs.EditedPages.{looks_then}
use Rattle.pm_tree.proofs.Climbs.{link_then, puts_looked}
use Rattle.pm_free.proofs.PlacedPages.{both_ok}
use Rattle.pm_pages.proofs.PassingLooks.{bad_passed}
use Rattle.pm_part.proofs.Relinked.{root_before, relinks, finds_key}
use Rattle.pm_part.specs.Faults.{IsFaultOfRelink}
use Rattle.pm_part.proofs.PartCauses.{cause_looked, cause_passed, cause_disk}
use Rattle.pm_part.proofs.relinking.relink.Goals as goal

pub relink_at-requires-clause-count : goal.relink_at-requires-clause-count
relink_at-requires-clause-count g c = number_looked g.P.Pages.tells (g.P.Pages.seen c.number.new.pages) (g.P.Pages.seen c.number-2.new.pages) 0 Pages c.in_ok-count.count c.number-2.ensures.looks c.in_ok-count.ensures.number

pub relink_at-requires-clause-way : goal.relink_at-requires-clause-way
relink_at-requires-clause-way g c = (refl, c.in_ok-root.ensures.number)

pub returns-clause-changes : goal.returns-clause-changes
returns-clause-changes g c =
    let T = g.P.Pages.tells in
    let a = g.P.Pages.seen c.args.pages.now in
    let b = g.P.Pages.seen c.number.new.pages in
    let d = g.P.Pages.seen c.number-2.new.pages in
    let e = g.P.Pages.seen c.relink_at.new.pages in
    let looks = looks_then T a b d 0 0 c.number.ensures.looks c.number-2.ensures.looks in
    on_ok_weaker c.relink_at.result (λ ch. link_then T a d e 0 8 8 c.args.link.0 (omega arith) c.requires.meta looks ch) c.relink_at.ensures.changes

pub returns-clause-links : goal.returns-clause-links
returns-clause-links g c =
    let T = g.P.Pages.tells in
    let a = g.P.Pages.seen c.args.pages.now in
    let b = g.P.Pages.seen c.number.new.pages in
    let d = g.P.Pages.seen c.number-2.new.pages in
    let e = g.P.Pages.seen c.relink_at.new.pages in
    let looks = looks_then T a b d 0 0 c.number.ensures.looks c.number-2.ensures.looks in
    let root = c.in_ok-root.root in
    on_ok_weaker c.relink_at.result (λ all t height nodes items index.
    let h = all.1.1 t in
    let some : root ≢ 0 = λ z. omega (arith, z, all.0) in
    let number = root_before T a d root c.args.cache looks c.requires.meta c.in_ok-root.ensures.number in
    let puts = puts_looked T a d e 0 8 root c.args.key.now c.args.link.0 (Kept (Some h.0)) t looks h.1 in
    let changes = link_then T a d e 0 8 8 c.args.link.0 (omega arith) c.requires.meta looks all.1.0 in
    relinks T a e c.args.cache root c.args.key.now c.args.link.0 h.0 t c.requires.meta c.requires.cache number some changes puts height nodes items index)
    (both_ok c.relink_at.result _ _ c.relink_at.ensures.some (both_ok c.relink_at.result _ _ c.relink_at.ensures.changes c.relink_at.ensures.links))

pub returns-clause-cause : goal.returns-clause-cause
returns-clause-cause g c =
    let T = g.P.Pages.tells in
    let a = g.P.Pages.seen c.args.pages.now in
    let b = g.P.Pages.seen c.number.new.pages in
    let d = g.P.Pages.seen c.number-2.new.pages in
    let looks = looks_then T a b d 0 0 c.number.ensures.looks c.number-2.ensures.looks in
    let e = g.P.Pages.seen c.relink_at.new.pages in
    cause_looked T a d e 0 (IsFaultOfRelink T e c.args.cache c.args.key.now) c.relink_at.result looks c.relink_at.ensures.cause

pub returns-in_err-count-clause-cause : goal.returns-in_err-count-clause-cause
returns-in_err-count-clause-cause g c =
    let T = g.P.Pages.tells in
    let a = g.P.Pages.seen c.args.pages.now in
    let b = g.P.Pages.seen c.number.new.pages in
    let p = err_from_is_err_and c.from_residual.result c.from_residual.ensures.1 in
    cause_passed T a b (IsFaultOfRelink T b c.args.cache c.args.key.now) c.number.result c.from_residual.result c.in_err-count.field-0.0 p.0 c.in_err-count.was p.1 p.2 (cause_disk T a b (IsFaultOfRelink T b c.args.cache c.args.key.now) c.number.result c.number.ensures.cause)

pub returns-in_err-root-clause-cause : goal.returns-in_err-root-clause-cause
returns-in_err-root-clause-cause g c =
    let T = g.P.Pages.tells in
    let a = g.P.Pages.seen c.args.pages.now in
    let b = g.P.Pages.seen c.number.new.pages in
    let d = g.P.Pages.seen c.number-2.new.pages in
    let p = err_from_is_err_and c.from_residual-in_err-root.result c.from_residual-in_err-root.ensures.1 in
    cause_passed T a d (IsFaultOfRelink T d c.args.cache c.args.key.now) c.number-2.result c.from_residual-in_err-root.result c.in_err-root.field-0.0 p.0 c.in_err-root.was p.1 p.2
    (cause_looked T a b d 0 (IsFaultOfRelink T d c.args.cache c.args.key.now) c.number-2.result c.number.ensures.looks (cause_disk T b d (IsFaultOfRelink T d c.args.cache c.args.key.now) c.number-2.result c.number-2.ensures.cause))

pub returns-in_err-count-clause-sound : goal.returns-in_err-count-clause-sound
returns-in_err-count-clause-sound g c = λ t all height nodes items index held there id e.
    let p = err_from_is_err_and c.from_residual.result c.from_residual.ensures.1 in
    c.number.ensures.cause.not_bad id (bad_passed c.number.result c.from_residual.result c.in_err-count.field-0.0 p.0 c.in_err-count.was p.1 p.2 id e)

pub returns-in_err-root-clause-sound : goal.returns-in_err-root-clause-sound
returns-in_err-root-clause-sound g c = λ t all height nodes items index held there id e.
    let p = err_from_is_err_and c.from_residual-in_err-root.result c.from_residual-in_err-root.ensures.1 in
    c.number-2.ensures.cause.not_bad id (bad_passed c.number-2.result c.from_residual-in_err-root.result c.in_err-root.field-0.0 p.0 c.in_err-root.was p.1 p.2 id e)

pub returns-clause-sound : goal.returns-clause-sound
returns-clause-sound g c = λ t all height nodes items index held there.
    let T = g.P.Pages.tells in
    let a = g.P.Pages.seen c.args.pages.now in
    let b = g.P.Pages.seen c.number.new.pages in
    let d = g.P.Pages.seen c.number-2.new.pages in
    let looks = looks_then T a b d 0 0 c.number.ensures.looks c.number-2.ensures.looks in
    let number = root_before T a d c.in_ok-root.root c.args.cache looks c.requires.meta c.in_ok-root.ensures.number in
    c.relink_at.ensures.sound (finds_key T a d 0 c.args.cache c.in_ok-root.root height nodes items c.args.key.now held t all looks number index there)
