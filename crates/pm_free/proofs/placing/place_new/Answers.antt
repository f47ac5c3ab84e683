use Rattle.std.proofs.Common.{◌≡◌, subst, sym, ap, ◌∙◌}
use Rattle.std.proofs.lemmas.Result.{err_from_is_err_and}
use Rattle.pm_types.specs.Ids.{page_id, link}
use Rattle.pm_types.specs.declared.page_id.Link.{Link}
use Rattle.pm_types.specs.declared.page_id.PageId.{PageId}
use Rattle.pm_free.specs.Placed.{PlacesRow, ChangesRows}
use Rattle.pm_free.proofs.Changed.{data_looked, meta_is}
use Rattle.pm_free.proofs.ChainCauses.{cause_passed, cause_after}
use Rattle.pm_free.proofs.PlacedPages.{filled_data, filled_meta, new_edits, cause_take, places_new}
use Rattle.pm_pages.proofs.SoundPages.{no_bad_passed, sound_looked}
use Rattle.pm_pages.proofs.SpareRoom.{take_not_bad}
use Rattle.pm_free.specs.Chained.{homes_in}
use Rattle.pm_free.proofs.NewPages.{filled}
use Rattle.pm_free.proofs.PlacedPages.{filled_sound}
use Rattle.pm_free.proofs.SoundRows.{chains_filled}
use Rattle.pm_free.proofs.StoredRows.{new_stored}
use Rattle.pm_free.proofs.placing.place_new.Goals as goal

pub returns-in_err-at-clause-cause : goal.returns-in_err-at-clause-cause
returns-in_err-at-clause-cause g c =
    let T = g.P.Pages.tells in
    let a = g.P.Pages.seen c.args.pages.now in
    let b = g.P.Pages.seen c.new_page.new.pages in
    let p = err_from_is_err_and c.from_residual.result c.from_residual.ensures.1 in
    cause_passed T a b c.new_page.result c.from_residual.result c.in_err-at.field-0.0 p.0 c.in_err-at.was p.1 p.2 (cause_take T a b c.new_page.result c.new_page.ensures.unchanged c.new_page.ensures.cause)

pub seat_at-requires-clause-page : goal.seat_at-requires-clause-page
seat_at-requires-clause-page g c =
    filled_data g.P.Pages.tells (g.P.Pages.seen c.args.pages.now) (g.P.Pages.seen c.new_page.new.pages) (g.P.Pages.seen c.fill_page.new.pages) 1 c.in_ok-at.at c.in_ok-item.item c.args.row.now c.in_ok-at.ensures.takes c.fill_page.ensures.edits c.in_ok-item.ensures.page

pub link-requires-clause-meta : goal.link-requires-clause-meta
link-requires-clause-meta g c =
    let T = g.P.Pages.tells in
    let d = g.P.Pages.seen c.fill_page.new.pages in
    meta_is T d (g.P.Pages.seen c.seat_at.new.pages) 0 (filled_meta T (g.P.Pages.seen c.args.pages.now) (g.P.Pages.seen c.new_page.new.pages) d 1 c.in_ok-at.at c.in_ok-at.ensures.takes c.fill_page.ensures.edits) c.seat_at.ensures.looks

pub link-requires-clause-page : goal.link-requires-clause-page
link-requires-clause-page g c =
    let T = g.P.Pages.tells in
    let a = g.P.Pages.seen c.args.pages.now in
    let b = g.P.Pages.seen c.new_page.new.pages in
    let d = g.P.Pages.seen c.fill_page.new.pages in
    data_looked T d (g.P.Pages.seen c.seat_at.new.pages) 0 c.in_ok-at.at (filled_meta T a b d 1 c.in_ok-at.at c.in_ok-at.ensures.takes c.fill_page.ensures.edits) c.seat_at.ensures.looks
    (filled_data T a b d 1 c.in_ok-at.at c.in_ok-item.item c.args.row.now c.in_ok-at.ensures.takes c.fill_page.ensures.edits c.in_ok-item.ensures.page)

pub returns-in_err-link-clause-cause : goal.returns-in_err-link-clause-cause
returns-in_err-link-clause-cause g c =
    let T = g.P.Pages.tells in
    let a = g.P.Pages.seen c.args.pages.now in
    let b = g.P.Pages.seen c.new_page.new.pages in
    let d = g.P.Pages.seen c.fill_page.new.pages in
    let e = g.P.Pages.seen c.seat_at.new.pages in
    let f = g.P.Pages.seen c.link.new.pages in
    let p = err_from_is_err_and c.from_residual-in_err-link.result c.from_residual-in_err-link.ensures.1 in
    cause_passed T a f c.link.result c.from_residual-in_err-link.result c.in_err-link.field-0.0 p.0 c.in_err-link.was p.1 p.2
    (cause_after T a e f 1 c.link.result (new_edits T a b d e 1 c.in_ok-at.at c.in_ok-at.ensures.takes c.fill_page.ensures.edits c.seat_at.ensures.looks) c.link.ensures.cause)

pub returns-clause-places : goal.returns-clause-places
returns-clause-places g c =
    let T = g.P.Pages.tells in
    let a = g.P.Pages.seen c.args.pages.now in
    let b = g.P.Pages.seen c.new_page.new.pages in
    let d = g.P.Pages.seen c.fill_page.new.pages in
    let e = g.P.Pages.seen c.seat_at.new.pages in
    let f = g.P.Pages.seen c.link.new.pages in
    let at = c.in_ok-at.at in
    let item = c.in_ok-item.item in
    let row = c.args.row.now in
    let rows = places_new T a b d e f at item row c.in_ok-seat.seat c.requires.meta c.requires.readable c.fill_page.ensures.readable c.in_ok-at.ensures.takes c.fill_page.ensures.edits c.in_ok-item.ensures.page
    c.seat_at.ensures.looks c.in_ok-seat.ensures.seat c.requires.none c.in_ok-link.ensures.links in
    let part : c.part.result ≡ a.part = c.part.ensures ∙ c.in_ok-link.ensures.links.edits.same.part ∙ c.seat_at.ensures.looks.same.part ∙ c.fill_page.ensures.edits.same.part ∙ c.in_ok-at.ensures.takes.edits.same.part in
    let link_is : link (page_id a.part at) item ≡ c.new-2.result = ap (λ p. link (page_id p at) item) (sym part) ∙ ap (λ (i : PageId). link i item) (sym c.new.ensures) ∙ sym c.new-2.ensures in
    subst (λ (l : Link). ChangesRows T a f 4 1 (λ old new. PlacesRow a.page_size a.part old new row l)) link_is rows

pub returns-in_err-link-clause-kept : goal.returns-in_err-link-clause-kept
returns-in_err-link-clause-kept g c =
    let k = g.met.P.Pages.kept_then in
    k c.args.pages.now c.seat_at.new.pages c.link.new.pages
    (k c.args.pages.now c.fill_page.new.pages c.seat_at.new.pages (k c.args.pages.now c.new_page.new.pages c.fill_page.new.pages c.new_page.ensures.kept c.fill_page.ensures.kept) c.seat_at.ensures.kept)
    c.link.ensures.kept

pub returns-clause-kept : goal.returns-clause-kept
returns-clause-kept g c =
    let k = g.met.P.Pages.kept_then in
    k c.args.pages.now c.seat_at.new.pages c.link.new.pages
    (k c.args.pages.now c.fill_page.new.pages c.seat_at.new.pages (k c.args.pages.now c.new_page.new.pages c.fill_page.new.pages c.new_page.ensures.kept c.fill_page.ensures.kept) c.seat_at.ensures.kept)
    c.link.ensures.kept

pub returns-in_err-at-clause-sound : goal.returns-in_err-at-clause-sound
returns-in_err-at-clause-sound g c = λ t sound has may.
    let p = err_from_is_err_and c.from_residual.result c.from_residual.ensures.1 in
    no_bad_passed c.new_page.result c.from_residual.result c.in_err-at.field-0.0 p.0 c.in_err-at.was p.1 p.2
    (take_not_bad g.P.Pages.tells (g.P.Pages.seen c.args.pages.now) (g.P.Pages.seen c.new_page.new.pages) 1 c.new_page.result may c.new_page.ensures.unchanged c.new_page.ensures.cause)

pub returns-in_err-link-clause-sound : goal.returns-in_err-link-clause-sound
returns-in_err-link-clause-sound g c = λ t sound has may.
    let T = g.P.Pages.tells in
    let a = g.P.Pages.seen c.args.pages.now in
    let b = g.P.Pages.seen c.new_page.new.pages in
    let d = g.P.Pages.seen c.fill_page.new.pages in
    let e = g.P.Pages.seen c.seat_at.new.pages in
    let at = c.in_ok-at.at in
    let item = c.in_ok-item.item in
    let row = c.args.row.now in
    let takes = c.in_ok-at.ensures.takes in
    let edits = c.fill_page.ensures.edits in
    let fills = c.in_ok-item.ensures.page in
    let looks = c.seat_at.ensures.looks in
    let is = filled T a b d 1 at item row t c.requires.meta c.requires.readable c.fill_page.ensures.readable takes edits fills in
    let sound_e = sound_looked T d e 0 t looks (filled_sound T a b d 1 at item row t takes edits fills is.count sound) in
    let p = err_from_is_err_and c.from_residual-in_err-link.result c.from_residual-in_err-link.ensures.1 in
    no_bad_passed c.link.result c.from_residual-in_err-link.result c.in_err-link.field-0.0 p.0 c.in_err-link.was p.1 p.2
    (c.link.ensures.sound (homes_in a.pages) (chains_filled T a d e at row t sound_e has is looks))

pub returns-clause-passes : goal.returns-clause-passes
returns-clause-passes g c = λ t limit small can stored.
    let T = g.P.Pages.tells in
    let a = g.P.Pages.seen c.args.pages.now in
    let b = g.P.Pages.seen c.new_page.new.pages in
    let d = g.P.Pages.seen c.fill_page.new.pages in
    let e = g.P.Pages.seen c.seat_at.new.pages in
    let at = c.in_ok-at.at in
    let item = c.in_ok-item.item in
    let row = c.args.row.now in
    let takes = c.in_ok-at.ensures.takes in
    let edits = c.fill_page.ensures.edits in
    let fills = c.in_ok-item.ensures.page in
    let looks = c.seat_at.ensures.looks in
    let is = filled T a b d 1 at item row t c.requires.meta c.requires.readable c.fill_page.ensures.readable takes edits fills in
    let f = g.P.Pages.seen c.link.new.pages in
    let meta = meta_is T d e 0 (filled_meta T a b d 1 at takes edits) looks in
    new_stored T a b d e f 1 at item 1 c.in_ok-seat.seat.bucket limit row t takes edits fills is.count meta looks c.in_ok-link.ensures.links small can stored
