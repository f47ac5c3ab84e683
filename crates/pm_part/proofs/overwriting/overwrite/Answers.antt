use Rattle.pm_pages.proofs.PassingLooks.{bad_passed}
use Rattle.pm_pages.proofs.SoundPages.{sound_looked, no_bad_passed}
use Rattle.pm_pages.proofs.ToldPages.{pages_told}
use Rattle.pm_free.specs.Placed.{HasChains}
use Rattle.pm_part.proofs.SoundPuts.{may_place_moved}
use Rattle.pm_part.proofs.RowChanges.{rows_overwritten, rows_over, rows_moved, over_stored, keeps_looked, keeps_moved}
use Rattle.pm_pages.proofs.StoredPages.{stored_looked}
use Rattle.pm_part.specs.Puts.{OverwritesRow}
use Rattle.std.proofs.lemmas.Result.{IfOk-weaker}
use Rattle.std.proofs.Common.{◌∙◌, ap, subst, length, sym, arith}
use Rattle.std.proofs.lemmas.Result.{on_ok_weaker, err_from_is_err_and}
use Rattle.pm_types.specs.Ids.{page_id, link}
use Rattle.pm_types.specs.declared.page_id.Link.{Link}
use Rattle.pm_free.specs.Placed.{ChangesRows}
use Rattle.pm_free.proofs.ChainCauses.{cause_passed, cause_after, cause_looked}
use Rattle.pm_pages.proofs.TakenPages.{meta_looked}
use Rattle.pm_part.specs.Changes.{IsWayIn}
use Rattle.pm_part.specs.declared.overwriting.Way.TheVariants.{InPlace, SamePage}
use Rattle.pm_part.proofs.SpotReads.{item_looked, row_at_link}
use Rattle.pm_part.proofs.Swaps.{pages_then, pages_looked, pages_rows}
use Rattle.pm_part.proofs.overwriting.overwrite.Goals as goal

pub write_over-requires-clause-alike : goal.write_over-requires-clause-alike
write_over-requires-clause-alike g c =
    subst (IsWayIn (g.P.Pages.seen c.find_way.new.pages) c.args.spot.at c.args.spot.item (length c.args.row.now)) {y = InPlace} c.in-InPlace.is c.in_ok-find_way.ensures.way

pub write_over-requires-clause-item : goal.write_over-requires-clause-item
write_over-requires-clause-item g c =
    item_looked g.P.Pages.tells (g.P.Pages.seen c.args.pages.now) (g.P.Pages.seen c.find_way.new.pages) 0 c.args.spot.at c.args.spot.item c.requires.meta c.requires.item c.find_way.ensures.looks

pub swap-requires-clause-fits : goal.swap-requires-clause-fits
swap-requires-clause-fits g c =
    subst (IsWayIn (g.P.Pages.seen c.find_way.new.pages) c.args.spot.at c.args.spot.item (length c.args.row.now)) {y = SamePage} c.in-SamePage.is c.in_ok-find_way.ensures.way

pub swap-requires-clause-item : goal.swap-requires-clause-item
swap-requires-clause-item g c =
    item_looked g.P.Pages.tells (g.P.Pages.seen c.args.pages.now) (g.P.Pages.seen c.find_way.new.pages) 0 c.args.spot.at c.args.spot.item c.requires.meta c.requires.item c.find_way.ensures.looks

pub returns-in-SamePage-clause-cause : goal.returns-in-SamePage-clause-cause
returns-in-SamePage-clause-cause g c =
    cause_looked g.P.Pages.tells (g.P.Pages.seen c.args.pages.now) (g.P.Pages.seen c.find_way.new.pages) (g.P.Pages.seen c.swap.new.pages) 0 c.swap.result c.find_way.ensures.looks c.swap.ensures.cause

pub take_out-requires-clause-row : goal.take_out-requires-clause-row
take_out-requires-clause-row g c =
    let T = g.P.Pages.tells in
    let a = g.P.Pages.seen c.args.pages.now in
    let b = g.P.Pages.seen c.find_way.new.pages in
    let item = item_looked T a b 0 c.args.spot.at c.args.spot.item c.requires.meta c.requires.item c.find_way.ensures.looks in
    row_at_link b c.args.spot.at c.args.spot.item c.link-link.result (c.link-link.ensures ∙ ap (λ p. link (page_id p c.args.spot.at) c.args.spot.item) (c.part.ensures ∙ sym c.find_way.ensures.looks.same.part)) (omega arith) (omega arith) (omega arith) item

pub returns-in_ok-take_out-in-Moved-clause-cause : goal.returns-in_ok-take_out-in-Moved-clause-cause
returns-in_ok-take_out-in-Moved-clause-cause g c =
    let T = g.P.Pages.tells in
    let a = g.P.Pages.seen c.args.pages.now in
    let b = g.P.Pages.seen c.find_way.new.pages in
    let d = g.P.Pages.seen c.take_out.new.pages in
    let e = g.P.Pages.seen c.place.new.pages in
    let meta = meta_looked T a b 0 c.find_way.ensures.looks c.requires.meta in
    let first = pages_then T a b d 0 3 3 (omega arith) (pages_looked T a b 0 meta c.find_way.ensures.looks) (pages_rows T b d 3 _ c.in_ok-take_out-in-Moved.ensures.takes) in
    cause_after T a d e 3 c.place.result first.edits c.place.ensures.cause

pub returns-in_err-take_out-in-Moved-clause-cause : goal.returns-in_err-take_out-in-Moved-clause-cause
returns-in_err-take_out-in-Moved-clause-cause g c =
    let T = g.P.Pages.tells in
    let a = g.P.Pages.seen c.args.pages.now in
    let b = g.P.Pages.seen c.find_way.new.pages in
    let d = g.P.Pages.seen c.take_out.new.pages in
    let p = err_from_is_err_and c.from_residual-in_err-take_out-in-Moved.result c.from_residual-in_err-take_out-in-Moved.ensures.1 in
    cause_passed T a d c.take_out.result c.from_residual-in_err-take_out-in-Moved.result c.in_err-take_out-in-Moved.field-0.0 p.0 c.in_err-take_out-in-Moved.was p.1 p.2 (cause_looked T a b d 0 c.take_out.result c.find_way.ensures.looks c.take_out.ensures.cause)

pub returns-in_ok-write_over-in-InPlace-clause-rows : goal.returns-in_ok-write_over-in-InPlace-clause-rows
returns-in_ok-write_over-in-InPlace-clause-rows g c =
    let T = g.P.Pages.tells in
    let a = g.P.Pages.seen c.args.pages.now in
    let b = g.P.Pages.seen c.find_way.new.pages in
    let d = g.P.Pages.seen c.write_over.new.pages in
    let looks = c.find_way.ensures.looks in
    let meta = meta_looked T a b 0 looks c.requires.meta in
    let item = item_looked T a b 0 c.args.spot.at c.args.spot.item c.requires.meta c.requires.item looks in
    let link_is = c.link-link.ensures ∙ ap (λ p. link (page_id p c.args.spot.at) c.args.spot.item) (c.part.ensures ∙ sym looks.same.part) in
    rows_overwritten T a b d 0 7 0 1 c.args.spot c.args.row.now c.link-link.result (omega arith) (omega arith) c.requires.meta looks
    (subst (λ (l : Link). ChangesRows T b d 0 0 (λ old new. OverwritesRow b.part old new c.args.spot c.args.row.now l)) (sym link_is)
    (rows_over T b d c.args.spot c.args.row.now meta item c.write_over.ensures.edits c.in_ok-write_over-in-InPlace.ensures.over))

pub returns-in-SamePage-clause-rows : goal.returns-in-SamePage-clause-rows
returns-in-SamePage-clause-rows g c =
    let T = g.P.Pages.tells in
    let a = g.P.Pages.seen c.args.pages.now in
    let b = g.P.Pages.seen c.find_way.new.pages in
    let d = g.P.Pages.seen c.swap.new.pages in
    IfOk-weaker c.swap.result _ _ (λ at_link rows. rows_overwritten T a b d 3 7 0 1 c.args.spot c.args.row.now at_link (omega arith) (omega arith) c.requires.meta c.find_way.ensures.looks rows) c.swap.ensures.rows

pub returns-in_ok-take_out-in-Moved-clause-rows : goal.returns-in_ok-take_out-in-Moved-clause-rows
returns-in_ok-take_out-in-Moved-clause-rows g c =
    let T = g.P.Pages.tells in
    let a = g.P.Pages.seen c.args.pages.now in
    let b = g.P.Pages.seen c.find_way.new.pages in
    let d = g.P.Pages.seen c.take_out.new.pages in
    let e = g.P.Pages.seen c.place.new.pages in
    let looks = c.find_way.ensures.looks in
    let takes = c.in_ok-take_out-in-Moved.ensures.takes in
    let link_is = c.link-link.ensures ∙ ap (λ p. link (page_id p c.args.spot.at) c.args.spot.item) (c.part.ensures ∙ sym looks.same.part) in
    IfOk-weaker c.place.result _ _ (λ at_link places. rows_overwritten T a b e 7 7 1 1 c.args.spot c.args.row.now at_link (omega arith) (omega arith) c.requires.meta looks
    (rows_moved T b d e c.args.spot c.args.row.now c.link-link.result at_link link_is takes places)) c.place.ensures.places

pub returns-in_ok-write_over-in-InPlace-clause-passes : goal.returns-in_ok-write_over-in-InPlace-clause-passes
returns-in_ok-write_over-in-InPlace-clause-passes g c = λ t limit small can stored.
    let T = g.P.Pages.tells in
    let a = g.P.Pages.seen c.args.pages.now in
    let b = g.P.Pages.seen c.find_way.new.pages in
    let d = g.P.Pages.seen c.write_over.new.pages in
    let looks = c.find_way.ensures.looks in
    let item = item_looked T a b 0 c.args.spot.at c.args.spot.item c.requires.meta c.requires.item looks in
    over_stored T b d c.args.spot c.args.row.now (meta_looked T a b 0 looks c.requires.meta) item c.write_over.ensures.edits c.in_ok-write_over-in-InPlace.ensures.over t (stored_looked T a b 0 t looks stored)

pub returns-in-SamePage-clause-passes : goal.returns-in-SamePage-clause-passes
returns-in-SamePage-clause-passes g c =
    on_ok_weaker c.swap.result (λ passes t limit small can stored. passes t (stored_looked g.P.Pages.tells (g.P.Pages.seen c.args.pages.now) (g.P.Pages.seen c.find_way.new.pages) 0 t c.find_way.ensures.looks stored)) c.swap.ensures.passes

pub returns-in_ok-take_out-in-Moved-clause-passes : goal.returns-in_ok-take_out-in-Moved-clause-passes
returns-in_ok-take_out-in-Moved-clause-passes g c =
    let T = g.P.Pages.tells in
    let a = g.P.Pages.seen c.args.pages.now in
    let b = g.P.Pages.seen c.find_way.new.pages in
    let d = g.P.Pages.seen c.take_out.new.pages in
    let e = g.P.Pages.seen c.place.new.pages in
    on_ok_weaker c.place.result (λ passes t. keeps_looked T a b e 0 1 t c.find_way.ensures.looks (keeps_moved T b d e 3 _ t c.in_ok-take_out-in-Moved.ensures.takes (c.in_ok-take_out-in-Moved.ensures.passes t) (passes t))) c.place.ensures.passes

pub returns-in_err-find_way-clause-sound : goal.returns-in_err-find_way-clause-sound
returns-in_err-find_way-clause-sound g c = λ may right id h.
    let p = err_from_is_err_and c.from_residual.result c.from_residual.ensures.1 in
    c.find_way.ensures.cause.not_bad id (bad_passed c.find_way.result c.from_residual.result c.in_err-find_way.field-0.0 p.0 c.in_err-find_way.was p.1 p.2 id h)

pub returns-in_err-write_over-in-InPlace-clause-sound : goal.returns-in_err-write_over-in-InPlace-clause-sound
returns-in_err-write_over-in-InPlace-clause-sound g c = λ may right id h.
    let p = err_from_is_err_and c.from_residual-in_err-write_over-in-InPlace.result c.from_residual-in_err-write_over-in-InPlace.ensures.1 in
    c.write_over.ensures.cause.not_bad id (bad_passed c.write_over.result c.from_residual-in_err-write_over-in-InPlace.result c.in_err-write_over-in-InPlace.field-0.0 p.0 c.in_err-write_over-in-InPlace.was p.1 p.2 id h)

pub returns-in_ok-write_over-in-InPlace-clause-sound : goal.returns-in_ok-write_over-in-InPlace-clause-sound
returns-in_ok-write_over-in-InPlace-clause-sound g c = λ may right id h. absurd (cc h)

pub returns-in-SamePage-clause-sound : goal.returns-in-SamePage-clause-sound
returns-in-SamePage-clause-sound g c = λ may right.
    let T = g.P.Pages.tells in
    let a = g.P.Pages.seen c.args.pages.now in
    let b = g.P.Pages.seen c.find_way.new.pages in
    let looks = c.find_way.ensures.looks in
    c.swap.ensures.sound may.told (sound_looked T a b 0 may.told looks may.take.sound) (subst HasChains (sym (pages_told T a b 0 may.told looks)) right)

pub returns-in_err-take_out-in-Moved-clause-sound : goal.returns-in_err-take_out-in-Moved-clause-sound
returns-in_err-take_out-in-Moved-clause-sound g c = λ may right.
    let T = g.P.Pages.tells in
    let a = g.P.Pages.seen c.args.pages.now in
    let b = g.P.Pages.seen c.find_way.new.pages in
    let looks = c.find_way.ensures.looks in
    let p = err_from_is_err_and c.from_residual-in_err-take_out-in-Moved.result c.from_residual-in_err-take_out-in-Moved.ensures.1 in
    no_bad_passed c.take_out.result c.from_residual-in_err-take_out-in-Moved.result c.in_err-take_out-in-Moved.field-0.0 p.0 c.in_err-take_out-in-Moved.was p.1 p.2
    (c.take_out.ensures.sound may.told (sound_looked T a b 0 may.told looks may.take.sound) (subst HasChains (sym (pages_told T a b 0 may.told looks)) right))

pub returns-in_ok-take_out-in-Moved-clause-sound : goal.returns-in_ok-take_out-in-Moved-clause-sound
returns-in_ok-take_out-in-Moved-clause-sound g c = λ may right.
    let T = g.P.Pages.tells in
    let a = g.P.Pages.seen c.args.pages.now in
    let b = g.P.Pages.seen c.find_way.new.pages in
    let d = g.P.Pages.seen c.take_out.new.pages in
    c.place.ensures.sound (may_place_moved T a b d b.part c.link-link.result (length c.args.row.now) 3 may right c.find_way.ensures.looks c.in_ok-take_out-in-Moved.ensures.takes)
