use Rattle.std.proofs.Common.{◌≡◌, subst, sym, ap, ◌∙◌, arith}
use Rattle.std.proofs.lemmas.Result.{err_from_is_err_and}
use Rattle.pm_types.specs.Ids.{page_id, link}
use Rattle.pm_types.specs.declared.page_id.Link.{Link}
use Rattle.pm_types.specs.declared.page_id.PageId.{PageId}
use Rattle.pm_pages.specs.Rows.{Partition}
use Rattle.std.specs.Prelude.{length}
use Rattle.pm_free.specs.Placed.{PlacesRow, ChangesRows}
use Rattle.pm_free.proofs.Changed.{meta_is, changes_looked, changes_told, changes_then}
use Rattle.pm_free.proofs.ChainCauses.{cause_passed, cause_after}
use Rattle.pm_free.proofs.PlacedPages.{HeadFacts, head_facts, head_takes, head_data, InsertsRow, inserts_row, places_on, changes_rows}
use Rattle.pm_free.proofs.SpareRows.{places_few}
use Rattle.std.proofs.Common.{refl}
use Rattle.pm_pages.proofs.SoundPages.{no_bad_passed}
use Rattle.pm_pages.proofs.StoredPages.{stored_looked}
use Rattle.pm_free.specs.declared.edits.Edit.TheVariants.{Insert}
use Rattle.pm_free.specs.Chained.{homes_in}
use Rattle.pm_free.proofs.PlacedRows.{views_rows}
use Rattle.pm_free.proofs.SoundChains.{chains_looked}
use Rattle.pm_free.proofs.SoundRows.{chains_start, chains_rows, head_home}
use Rattle.pm_free.proofs.StoredRows.{placed_stored}
use Rattle.pm_free.proofs.placing.place_on.Goals as goal

pub make_edit-requires-clause-takes : goal.make_edit-requires-clause-takes
make_edit-requires-clause-takes g c =
    head_takes (g.P.Pages.seen c.args.pages.now) (g.P.Pages.seen c.check_head.new.pages) c.args.head c.args.row.now c.check_head.ensures.looks.same.page_size c.requires.row c.requires.head c.in_ok-check_head.ensures.page

pub settle-requires-clause-page : goal.settle-requires-clause-page
settle-requires-clause-page g c =
    let T = g.P.Pages.tells in
    let b = g.P.Pages.seen c.check_head.new.pages in
    let d = g.P.Pages.seen c.make_edit.new.pages in
    let at = c.args.head.at in
    let is = head_data b at c.args.head.bucket c.in_ok-check_head.ensures.page in
    let meta = meta_is T (g.P.Pages.seen c.args.pages.now) b 1 c.requires.meta c.check_head.ensures.looks in
    (inserts_row T b d at c.in_ok-item.item c.args.row.now meta is c.make_edit.ensures.edits c.in_ok-item.ensures.edited).stay at is

pub settle-requires-clause-meta : goal.settle-requires-clause-meta
settle-requires-clause-meta g c =
    let T = g.P.Pages.tells in
    let b = g.P.Pages.seen c.check_head.new.pages in
    let d = g.P.Pages.seen c.make_edit.new.pages in
    let at = c.args.head.at in
    let is = head_data b at c.args.head.bucket c.in_ok-check_head.ensures.page in
    let meta = meta_is T (g.P.Pages.seen c.args.pages.now) b 1 c.requires.meta c.check_head.ensures.looks in
    (inserts_row T b d at c.in_ok-item.item c.args.row.now meta is c.make_edit.ensures.edits c.in_ok-item.ensures.edited).meta

pub returns-in_err-settle-clause-cause : goal.returns-in_err-settle-clause-cause
returns-in_err-settle-clause-cause g c =
    let T = g.P.Pages.tells in
    let a = g.P.Pages.seen c.args.pages.now in
    let b = g.P.Pages.seen c.check_head.new.pages in
    let d = g.P.Pages.seen c.make_edit.new.pages in
    let e = g.P.Pages.seen c.settle.new.pages in
    let at = c.args.head.at in
    let is = head_data b at c.args.head.bucket c.in_ok-check_head.ensures.page in
    let meta = meta_is T a b 1 c.requires.meta c.check_head.ensures.looks in
    let first = changes_then T a b d 1 0 _ _ (λ (x z : Partition). Unit {0}) (λ x y z r s. tt) (changes_looked T a b 1 c.requires.meta c.check_head.ensures.looks)
    (inserts_row T b d at c.in_ok-item.item c.args.row.now meta is c.make_edit.ensures.edits c.in_ok-item.ensures.edited) in
    let p = err_from_is_err_and c.from_residual-in_err-settle.result c.from_residual-in_err-settle.ensures.1 in
    cause_passed T a e c.settle.result c.from_residual-in_err-settle.result c.in_err-settle.field-0.0 p.0 c.in_err-settle.was p.1 p.2
    (cause_after T a d e 1 c.settle.result first.edits c.settle.ensures.cause)

pub returns-clause-places : goal.returns-clause-places
returns-clause-places g c =
    let T = g.P.Pages.tells in
    let a = g.P.Pages.seen c.args.pages.now in
    let b = g.P.Pages.seen c.check_head.new.pages in
    let d = g.P.Pages.seen c.make_edit.new.pages in
    let e = g.P.Pages.seen c.settle.new.pages in
    let head = c.args.head in
    let at = head.at in
    let item = c.in_ok-item.item in
    let row = c.args.row.now in
    let is = head_data b at head.bucket c.in_ok-check_head.ensures.page in
    let meta = meta_is T a b 1 c.requires.meta c.check_head.ensures.looks in
    let known = changes_told T a b 1 _ (HeadFacts a.page_size at head.bucket (length row)) (changes_looked T a b 1 c.requires.meta c.check_head.ensures.looks)
    (λ t. head_facts T a b 1 (length row) head t meta c.check_head.ensures.looks c.requires.head c.in_ok-check_head.ensures.page) in
    let first = changes_then T a b d 1 0 _ _ (λ (x z : Partition). (y : Partition) × HeadFacts a.page_size at head.bucket (length row) x y × InsertsRow at row item y z) (λ x y z r s. (y, r, s)) known
    (inserts_row T b d at item row meta is c.make_edit.ensures.edits c.in_ok-item.ensures.edited) in
    let all = changes_then T a d e 1 3 _ _ _ (places_on a.page_size a.part at head.bucket item row c.requires.head.few c.requires.head.enough) first c.in_ok-settle.ensures.settles in
    let rows = changes_rows T a e 4 4 1 _ _ (omega arith) (places_few a.page_size a.part row (link (page_id a.part at) item)) (λ x y h. h) all in
    let part : c.part.result ≡ a.part = c.part.ensures ∙ c.in_ok-settle.ensures.settles.edits.same.part ∙ c.make_edit.ensures.edits.same.part ∙ c.check_head.ensures.looks.same.part in
    let link_is : link (page_id a.part at) item ≡ c.new-2.result = ap (λ p. link (page_id p at) item) (sym part) ∙ ap (λ (i : PageId). link i item) (sym c.new.ensures) ∙ sym c.new-2.ensures in
    subst (λ (l : Link). ChangesRows T a e 4 1 (λ old new. PlacesRow a.page_size a.part old new row l)) link_is rows

pub settle-requires-clause-ready : goal.settle-requires-clause-ready
settle-requires-clause-ready g c =
    g.met.P.Pages.kept_ready c.args.pages.now c.make_edit.new.pages (g.met.P.Pages.kept_then c.args.pages.now c.check_head.new.pages c.make_edit.new.pages c.check_head.ensures.kept c.make_edit.ensures.kept) c.requires.ready

pub returns-in_err-settle-clause-kept : goal.returns-in_err-settle-clause-kept
returns-in_err-settle-clause-kept g c =
    let k = g.met.P.Pages.kept_then in
    k c.args.pages.now c.make_edit.new.pages c.settle.new.pages (k c.args.pages.now c.check_head.new.pages c.make_edit.new.pages c.check_head.ensures.kept c.make_edit.ensures.kept) c.settle.ensures.kept

pub returns-clause-kept : goal.returns-clause-kept
returns-clause-kept g c =
    let k = g.met.P.Pages.kept_then in
    k c.args.pages.now c.make_edit.new.pages c.settle.new.pages (k c.args.pages.now c.check_head.new.pages c.make_edit.new.pages c.check_head.ensures.kept c.make_edit.ensures.kept) c.settle.ensures.kept

pub returns-in_err-check_head-clause-sound : goal.returns-in_err-check_head-clause-sound
returns-in_err-check_head-clause-sound g c = λ t sound some has.
    let a = g.P.Pages.seen c.args.pages.now in
    let head = c.args.head in
    let p = err_from_is_err_and c.from_residual.result c.from_residual.ensures.1 in
    no_bad_passed c.check_head.result c.from_residual.result c.in_err-check_head.field-0.0 p.0 c.in_err-check_head.was p.1 p.2
    (c.check_head.ensures.sound t sound (head_home a (length c.args.row.now) head some has c.requires.head))

pub returns-in_err-settle-clause-sound : goal.returns-in_err-settle-clause-sound
returns-in_err-settle-clause-sound g c = λ t sound some has.
    let T = g.P.Pages.tells in
    let a = g.P.Pages.seen c.args.pages.now in
    let b = g.P.Pages.seen c.check_head.new.pages in
    let d = g.P.Pages.seen c.make_edit.new.pages in
    let head = c.args.head in
    let at = head.at in
    let row = c.args.row.now in
    let looks = c.check_head.ensures.looks in
    let meta = meta_is T a b 1 c.requires.meta looks in
    let inserts = inserts_row T b d at c.in_ok-item.item row meta (head_data b at head.bucket c.in_ok-check_head.ensures.page) c.make_edit.ensures.edits c.in_ok-item.ensures.edited in
    let views = views_rows at row Insert b.pages d.pages (inserts.told t).edits refl refl in
    let chains = chains_rows T b d at (homes_in a.pages) views (inserts.sound t) (chains_looked T a b 1 (homes_in a.pages) looks (chains_start T a t sound has)) in
    let p = err_from_is_err_and c.from_residual-in_err-settle.result c.from_residual-in_err-settle.ensures.1 in
    no_bad_passed c.settle.result c.from_residual-in_err-settle.result c.in_err-settle.field-0.0 p.0 c.in_err-settle.was p.1 p.2
    (c.settle.ensures.sound (homes_in a.pages) chains (head_home a (length row) head some has c.requires.head))

pub returns-clause-passes : goal.returns-clause-passes
returns-clause-passes g c = λ t stored.
    let T = g.P.Pages.tells in
    let a = g.P.Pages.seen c.args.pages.now in
    let b = g.P.Pages.seen c.check_head.new.pages in
    let d = g.P.Pages.seen c.make_edit.new.pages in
    let head = c.args.head in
    let at = head.at in
    let row = c.args.row.now in
    let looks = c.check_head.ensures.looks in
    let meta = meta_is T a b 1 c.requires.meta looks in
    let inserts = inserts_row T b d at c.in_ok-item.item row meta (head_data b at head.bucket c.in_ok-check_head.ensures.page) c.make_edit.ensures.edits c.in_ok-item.ensures.edited in
    let e = g.P.Pages.seen c.settle.new.pages in
    placed_stored T b d e at head.bucket c.in_ok-item.item 3 row t meta inserts c.in_ok-settle.ensures.settles (stored_looked T a b 1 t looks stored)
