use Rattle.pm_pages.proofs.PassingLooks.{bad_passed}
use Rattle.pm_pages.proofs.SoundPages.{no_bad_passed}
use Rattle.pm_free.specs.Chained.{homes_in}
use Rattle.pm_free.proofs.PlacedPages.{item_facts}
use Rattle.pm_part.proofs.SoundPuts.{chains_swapped}
use Rattle.pm_part.proofs.RowChanges.{rows_overwritten, rows_swapped}
use Rattle.pm_free.specs.Placed.{ChangesRows}
use Rattle.pm_free.proofs.StoredRows.{swapped_stored}
use Rattle.pm_pages.proofs.EditedPages.{same_then}
use Rattle.pm_pages.proofs.StoredPages.{stored_looked}
use Rattle.pm_types.specs.declared.page_id.Link.{Link}
use Rattle.pm_part.specs.Puts.{OverwritesRow}
use Rattle.pm_free.proofs.Changed.{edits_page}
use Rattle.pm_free.specs.declared.edits.Edit.TheVariants.{Insert, Remove}
use Rattle.pm_pages.proofs.TakenPages.{meta_looked}
use Rattle.pm_types.specs.Ids.{page_id, link}
use Rattle.std.proofs.Common.{[], ◌∙◌, ap, sym, subst}
use Rattle.std.proofs.Common.{arith}
use Rattle.std.proofs.lemmas.Result.{err_from_is_err_and}
use Rattle.pm_free.proofs.ChainCauses.{cause_passed, cause_after}
use Rattle.pm_part.proofs.SpotReads.{item_looked, takes_remove}
use Rattle.pm_part.proofs.Swaps.{takes_insert, swapped}
use Rattle.pm_part.proofs.overwriting.swap.Goals as goal

pub make_edit-requires-clause-takes : goal.make_edit-requires-clause-takes
make_edit-requires-clause-takes g c =
    let T = g.P.Pages.tells in
    let a = g.P.Pages.seen c.args.pages.now in
    let b = g.P.Pages.seen c.seat_at.new.pages in
    takes_remove b c.args.spot.at c.args.spot.item (item_looked T a b 0 c.args.spot.at c.args.spot.item c.requires.meta c.requires.item c.seat_at.ensures.looks)

pub make_edit-requires-2-clause-takes : goal.make_edit-requires-2-clause-takes
make_edit-requires-2-clause-takes g c =
    let T = g.P.Pages.tells in
    let a = g.P.Pages.seen c.args.pages.now in
    let b = g.P.Pages.seen c.seat_at.new.pages in
    let d = g.P.Pages.seen c.make_edit.new.pages in
    takes_insert T a b d c.args.spot.at c.args.spot.item _ c.args.row.now c.requires.meta c.requires.item c.seat_at.ensures.looks c.make_edit.ensures.edits c.in_ok-make_edit.ensures.edited c.requires.fits c.requires.row

pub settle-requires-clause-page : goal.settle-requires-clause-page
settle-requires-clause-page g c =
    let T = g.P.Pages.tells in
    let a = g.P.Pages.seen c.args.pages.now in
    let b = g.P.Pages.seen c.seat_at.new.pages in
    let d = g.P.Pages.seen c.make_edit.new.pages in
    let e = g.P.Pages.seen c.make_edit-2.new.pages in
    (swapped T a b d e c.args.spot.at c.args.spot.item _ _ c.args.row.now c.requires.meta c.requires.item c.seat_at.ensures.looks c.make_edit.ensures.edits c.in_ok-make_edit.ensures.edited c.make_edit-2.ensures.edits c.in_ok-item.ensures.edited).stay c.args.spot.at c.requires.item.is

pub settle-requires-clause-meta : goal.settle-requires-clause-meta
settle-requires-clause-meta g c =
    let T = g.P.Pages.tells in
    let a = g.P.Pages.seen c.args.pages.now in
    let b = g.P.Pages.seen c.seat_at.new.pages in
    let d = g.P.Pages.seen c.make_edit.new.pages in
    let e = g.P.Pages.seen c.make_edit-2.new.pages in
    (swapped T a b d e c.args.spot.at c.args.spot.item _ _ c.args.row.now c.requires.meta c.requires.item c.seat_at.ensures.looks c.make_edit.ensures.edits c.in_ok-make_edit.ensures.edited c.make_edit-2.ensures.edits c.in_ok-item.ensures.edited).meta

pub returns-in_err-settle-clause-cause : goal.returns-in_err-settle-clause-cause
returns-in_err-settle-clause-cause g c =
    let T = g.P.Pages.tells in
    let a = g.P.Pages.seen c.args.pages.now in
    let b = g.P.Pages.seen c.seat_at.new.pages in
    let d = g.P.Pages.seen c.make_edit.new.pages in
    let e = g.P.Pages.seen c.make_edit-2.new.pages in
    let f = g.P.Pages.seen c.settle.new.pages in
    let x = swapped T a b d e c.args.spot.at c.args.spot.item _ _ c.args.row.now c.requires.meta c.requires.item c.seat_at.ensures.looks c.make_edit.ensures.edits c.in_ok-make_edit.ensures.edited c.make_edit-2.ensures.edits c.in_ok-item.ensures.edited in
    let p = err_from_is_err_and c.from_residual-in_err-settle.result c.from_residual-in_err-settle.ensures.1 in
    cause_passed T a f c.settle.result c.from_residual-in_err-settle.result c.in_err-settle.field-0.0 p.0 c.in_err-settle.was p.1 p.2 (cause_after T a e f 0 c.settle.result x.edits c.settle.ensures.cause)

pub returns-in_err-item-clause-kept : goal.returns-in_err-item-clause-kept
returns-in_err-item-clause-kept g c =
    g.met.P.Pages.kept_then c.args.pages.now c.make_edit.new.pages c.make_edit-2.new.pages (g.met.P.Pages.kept_then c.args.pages.now c.seat_at.new.pages c.make_edit.new.pages c.seat_at.ensures.kept c.make_edit.ensures.kept) c.make_edit-2.ensures.kept

pub returns-in_err-settle-clause-kept : goal.returns-in_err-settle-clause-kept
returns-in_err-settle-clause-kept g c =
    g.met.P.Pages.kept_then c.args.pages.now c.make_edit-2.new.pages c.settle.new.pages (g.met.P.Pages.kept_then c.args.pages.now c.make_edit.new.pages c.make_edit-2.new.pages (g.met.P.Pages.kept_then c.args.pages.now c.seat_at.new.pages c.make_edit.new.pages c.seat_at.ensures.kept c.make_edit.ensures.kept) c.make_edit-2.ensures.kept) c.settle.ensures.kept

pub returns-clause-kept : goal.returns-clause-kept
returns-clause-kept g c =
    g.met.P.Pages.kept_then c.args.pages.now c.make_edit-2.new.pages c.settle.new.pages (g.met.P.Pages.kept_then c.args.pages.now c.make_edit.new.pages c.make_edit-2.new.pages (g.met.P.Pages.kept_then c.args.pages.now c.seat_at.new.pages c.make_edit.new.pages c.seat_at.ensures.kept c.make_edit.ensures.kept) c.make_edit-2.ensures.kept) c.settle.ensures.kept

pub returns-clause-rows : goal.returns-clause-rows
returns-clause-rows g c =
    let T = g.P.Pages.tells in
    let a = g.P.Pages.seen c.args.pages.now in
    let b = g.P.Pages.seen c.seat_at.new.pages in
    let d = g.P.Pages.seen c.make_edit.new.pages in
    let e = g.P.Pages.seen c.make_edit-2.new.pages in
    let f = g.P.Pages.seen c.settle.new.pages in
    let at = c.args.spot.at in
    let row = c.args.row.now in
    let looks = c.seat_at.ensures.looks in
    let meta = meta_looked T a b 0 looks c.requires.meta in
    let item = item_looked T a b 0 at c.args.spot.item c.requires.meta c.requires.item looks in
    let out = edits_page T b d at [] (Remove c.args.spot.item) _ meta item.is c.make_edit.ensures.edits c.in_ok-make_edit.ensures.edited in
    let put = edits_page T d e at row Insert _ out.meta (out.stay at item.is) c.make_edit-2.ensures.edits c.in_ok-item.ensures.edited in
    let edited = c.in_ok-item.ensures.edited in
    let settles = c.in_ok-settle.ensures.settles in
    let part_is = c.part.ensures ∙ settles.edits.same.part ∙ c.make_edit-2.ensures.edits.same.part ∙ c.make_edit.ensures.edits.same.part in
    let link_is = c.link.ensures ∙ ap (λ p. link (page_id p at) c.in_ok-item.item) part_is in
    rows_overwritten T a b f 3 3 0 0 c.args.spot row c.link.result (omega arith) (omega arith) c.requires.meta looks
    (subst (λ (l : Link). ChangesRows T b f 3 0 (λ old new. OverwritesRow b.part old new c.args.spot row l)) (sym link_is)
    (rows_swapped T b d e f c.args.spot c.in_ok-item.item row item out put edited.was edited.before edited.item_is c.in_ok-seat.seat c.in_ok-seat.ensures.seat settles))

pub returns-clause-passes : goal.returns-clause-passes
returns-clause-passes g c = λ t stored.
    let T = g.P.Pages.tells in
    let a = g.P.Pages.seen c.args.pages.now in
    let b = g.P.Pages.seen c.seat_at.new.pages in
    let d = g.P.Pages.seen c.make_edit.new.pages in
    let e = g.P.Pages.seen c.make_edit-2.new.pages in
    let f = g.P.Pages.seen c.settle.new.pages in
    let at = c.args.spot.at in
    let looks = c.seat_at.ensures.looks in
    let meta = meta_looked T a b 0 looks c.requires.meta in
    let item = item_looked T a b 0 at c.args.spot.item c.requires.meta c.requires.item looks in
    let out = edits_page T b d at [] (Remove c.args.spot.item) _ meta item.is c.make_edit.ensures.edits c.in_ok-make_edit.ensures.edited in
    let put = edits_page T d e at c.args.row.now Insert _ out.meta (out.stay at item.is) c.make_edit-2.ensures.edits c.in_ok-item.ensures.edited in
    let settles = c.in_ok-settle.ensures.settles in
    swapped_stored b d e f at _ c.args.spot.item c.args.row.now meta (out.told t) (put.told t) (same_then b e f (same_then b d e out.edits.same put.edits.same) settles.edits.same) (settles.told t) (stored_looked T a b 0 t looks stored)

pub returns-in_err-seat-clause-sound : goal.returns-in_err-seat-clause-sound
returns-in_err-seat-clause-sound g c = λ t sound right id h.
    let p = err_from_is_err_and c.from_residual.result c.from_residual.ensures.1 in
    c.seat_at.ensures.cause.not_bad id (bad_passed c.seat_at.result c.from_residual.result c.in_err-seat.field-0.0 p.0 c.in_err-seat.was p.1 p.2 id h)

pub returns-in_err-make_edit-clause-sound : goal.returns-in_err-make_edit-clause-sound
returns-in_err-make_edit-clause-sound g c = λ t sound right id h.
    let p = err_from_is_err_and c.from_residual-in_err-make_edit.result c.from_residual-in_err-make_edit.ensures.1 in
    c.make_edit.ensures.cause.not_bad id (bad_passed c.make_edit.result c.from_residual-in_err-make_edit.result c.in_err-make_edit.field-0.0 p.0 c.in_err-make_edit.was p.1 p.2 id h)

pub returns-in_err-item-clause-sound : goal.returns-in_err-item-clause-sound
returns-in_err-item-clause-sound g c = λ t sound right id h.
    let p = err_from_is_err_and c.from_residual-in_err-item.result c.from_residual-in_err-item.ensures.1 in
    c.make_edit-2.ensures.cause.not_bad id (bad_passed c.make_edit-2.result c.from_residual-in_err-item.result c.in_err-item.field-0.0 p.0 c.in_err-item.was p.1 p.2 id h)

pub returns-in_err-settle-clause-sound : goal.returns-in_err-settle-clause-sound
returns-in_err-settle-clause-sound g c = λ t sound right.
    let T = g.P.Pages.tells in
    let a = g.P.Pages.seen c.args.pages.now in
    let b = g.P.Pages.seen c.seat_at.new.pages in
    let d = g.P.Pages.seen c.make_edit.new.pages in
    let e = g.P.Pages.seen c.make_edit-2.new.pages in
    let at = c.args.spot.at in
    let row = c.args.row.now in
    let looks = c.seat_at.ensures.looks in
    let p = err_from_is_err_and c.from_residual-in_err-settle.result c.from_residual-in_err-settle.ensures.1 in
    let facts = item_facts T a b 0 at c.args.spot.item c.in_ok-seat.seat t c.requires.meta c.requires.item looks c.in_ok-seat.ensures.seat in
    let item = item_looked T a b 0 at c.args.spot.item c.requires.meta c.requires.item looks in
    let out = edits_page T b d at [] (Remove c.args.spot.item) _ (meta_looked T a b 0 looks c.requires.meta) item.is c.make_edit.ensures.edits c.in_ok-make_edit.ensures.edited in
    let put = edits_page T d e at row Insert _ out.meta (out.stay at item.is) c.make_edit-2.ensures.edits c.in_ok-item.ensures.edited in
    no_bad_passed c.settle.result c.from_residual-in_err-settle.result c.in_err-settle.field-0.0 p.0 c.in_err-settle.was p.1 p.2
    (c.settle.ensures.sound (homes_in a.pages) (chains_swapped T a b d e at c.args.spot.item row t sound right looks (out.told t) (put.told t) (out.sound t) (put.sound t)) facts.home)

pub returns-clause-sound : goal.returns-clause-sound
returns-clause-sound g c = λ t sound right id h. absurd (cc h)
