use Rattle.std.proofs.Common.{◌≡◌, ◌≢◌, ℕ, List, [], arith}
use Rattle.std.specs.Prelude.{Option}
use Rattle.std.proofs.lemmas.Result.{on_ok_weaker}
use Rattle.std.proofs.lemmas.Bool.{both_ways}
use Rattle.pm_pages.specs.Rows.{Partition}
use Rattle.pm_free.proofs.Changed.{data_looked, meta_is, changes_looked, changes_told, changes_then}
use Rattle.pm_free.proofs.ChainCauses.{cause_after}
use Rattle.pm_free.proofs.PlacedPages.{ItemFacts, item_facts, RemovesRow, removes_row, takes_kept, takes_dropped, rows_then, rows_more_room, changes_rows, item_removed}
use Rattle.pm_types.specs.Ids.{page_id, link}
use Rattle.pm_free.proofs.SpareRows.{takes_few}
use Rattle.std.proofs.Common.{refl}
use Rattle.pm_pages.proofs.StoredPages.{stored_looked}
use Rattle.pm_free.specs.declared.edits.Edit.TheVariants.{Remove}
use Rattle.pm_free.specs.Chained.{homes_in}
use Rattle.pm_free.proofs.PlacedRows.{views_rows}
use Rattle.pm_free.proofs.PlacedPages.{both_ok}
use Rattle.pm_free.proofs.SoundChains.{chains_looked}
use Rattle.pm_free.proofs.SoundRows.{chains_start, chains_rows}
use Rattle.pm_free.proofs.StoredRows.{kept_stored, dropped_stored}
use Rattle.pm_free.proofs.removal.take_item.Goals as goal

pub is_empty-requires-clause-page : goal.is_empty-requires-clause-page
is_empty-requires-clause-page g c =
    let T = g.P.Pages.tells in
    let a = g.P.Pages.seen c.args.pages.now in
    let b = g.P.Pages.seen c.seat_at.new.pages in
    let d = g.P.Pages.seen c.make_edit.new.pages in
    let at = c.args.at in
    let item = c.args.item in
    let has = c.requires.row in
    let x = item_removed T a b d 0 at item _ c.requires.meta has.is c.seat_at.ensures.looks c.make_edit.ensures.edits c.in_ok-make_edit.ensures.edited in
    x.stay at has.is

pub drop_page-requires-clause-page : goal.drop_page-requires-clause-page
drop_page-requires-clause-page g c =
    let T = g.P.Pages.tells in
    let a = g.P.Pages.seen c.args.pages.now in
    let b = g.P.Pages.seen c.seat_at.new.pages in
    let d = g.P.Pages.seen c.make_edit.new.pages in
    let e = g.P.Pages.seen c.is_empty.new.pages in
    let at = c.args.at in
    let item = c.args.item in
    let has = c.requires.row in
    let x = item_removed T a b d 0 at item _ c.requires.meta has.is c.seat_at.ensures.looks c.make_edit.ensures.edits c.in_ok-make_edit.ensures.edited in
    data_looked T d e 0 at x.meta c.is_empty.ensures.looks (x.stay at has.is)

pub settle-requires-clause-page : goal.settle-requires-clause-page
settle-requires-clause-page g c =
    let T = g.P.Pages.tells in
    let a = g.P.Pages.seen c.args.pages.now in
    let b = g.P.Pages.seen c.seat_at.new.pages in
    let d = g.P.Pages.seen c.make_edit.new.pages in
    let e = g.P.Pages.seen c.is_empty.new.pages in
    let at = c.args.at in
    let item = c.args.item in
    let has = c.requires.row in
    let x = item_removed T a b d 0 at item _ c.requires.meta has.is c.seat_at.ensures.looks c.make_edit.ensures.edits c.in_ok-make_edit.ensures.edited in
    data_looked T d e 0 at x.meta c.is_empty.ensures.looks (x.stay at has.is)

pub returns-then-branch-clause-takes : goal.returns-then-branch-clause-takes
returns-then-branch-clause-takes g c =
    let T = g.P.Pages.tells in
    let a = g.P.Pages.seen c.args.pages.now in
    let b = g.P.Pages.seen c.seat_at.new.pages in
    let d = g.P.Pages.seen c.make_edit.new.pages in
    let e = g.P.Pages.seen c.is_empty.new.pages in
    let at = c.args.at in
    let item = c.args.item in
    let has = c.requires.row in
    let x = item_removed T a b d 0 at item _ c.requires.meta has.is c.seat_at.ensures.looks c.make_edit.ensures.edits c.in_ok-make_edit.ensures.edited in
    let seat = c.in_ok-seat.seat in
    let known = changes_told T a b 0 _ (ItemFacts at seat.bucket item has.row) (changes_looked T a b 0 c.requires.meta c.seat_at.ensures.looks)
    (λ t. item_facts T a b 0 at item seat t c.requires.meta has c.seat_at.ensures.looks c.in_ok-seat.ensures.seat) in
    let removes = removes_row T b d e at item _ (λ (rows : List (Option (List ℕ))). rows ≡ []) (meta_is T a b 0 c.requires.meta c.seat_at.ensures.looks) (data_looked T a b 0 at c.requires.meta c.seat_at.ensures.looks has.is) c.make_edit.ensures.edits c.in_ok-make_edit.ensures.edited c.is_empty.ensures.looks
    (λ page is. (c.in_ok-is_empty.ensures.empty page is).0 c.if-branch.true) in
    let first = changes_then T a b e 0 0 _ _ (λ (x z : Partition). (y : Partition) × ItemFacts at seat.bucket item has.row x y × RemovesRow at item (λ (rows : List (Option (List ℕ))). rows ≡ []) y z) (λ x y z r s. (y, r, s)) known removes in
    let f = g.P.Pages.seen c.drop_page.new.pages in
    on_ok_weaker c.drop_page.result (λ drops. rows_more_room T a f 2 3 0 _ (omega arith) (rows_then T a e f 0 2 0 _ _ _ (takes_few a.part (link (page_id a.part at) item)) (takes_dropped a.part at seat.bucket item has.row) first drops)) c.drop_page.ensures.drops

pub returns-else-branch-clause-takes : goal.returns-else-branch-clause-takes
returns-else-branch-clause-takes g c =
    let T = g.P.Pages.tells in
    let a = g.P.Pages.seen c.args.pages.now in
    let b = g.P.Pages.seen c.seat_at.new.pages in
    let d = g.P.Pages.seen c.make_edit.new.pages in
    let e = g.P.Pages.seen c.is_empty.new.pages in
    let at = c.args.at in
    let item = c.args.item in
    let has = c.requires.row in
    let x = item_removed T a b d 0 at item _ c.requires.meta has.is c.seat_at.ensures.looks c.make_edit.ensures.edits c.in_ok-make_edit.ensures.edited in
    let seat = c.in_ok-seat.seat in
    let known = changes_told T a b 0 _ (ItemFacts at seat.bucket item has.row) (changes_looked T a b 0 c.requires.meta c.seat_at.ensures.looks)
    (λ t. item_facts T a b 0 at item seat t c.requires.meta has c.seat_at.ensures.looks c.in_ok-seat.ensures.seat) in
    let removes = removes_row T b d e at item _ (λ (rows : List (Option (List ℕ))). rows ≢ []) (meta_is T a b 0 c.requires.meta c.seat_at.ensures.looks) (data_looked T a b 0 at c.requires.meta c.seat_at.ensures.looks has.is) c.make_edit.ensures.edits c.in_ok-make_edit.ensures.edited c.is_empty.ensures.looks
    (λ page is. λ none. both_ways c.in_ok-is_empty.field-0 c.if-branch.false ((c.in_ok-is_empty.ensures.empty page is).1 none)) in
    let first = changes_then T a b e 0 0 _ _ (λ (x z : Partition). (y : Partition) × ItemFacts at seat.bucket item has.row x y × RemovesRow at item (λ (rows : List (Option (List ℕ))). rows ≢ []) y z) (λ x y z r s. (y, r, s)) known removes in
    let f = g.P.Pages.seen c.settle.new.pages in
    on_ok_weaker c.settle.result (λ settles. changes_rows T a f 3 3 0 _ _ (omega arith) (takes_few a.part (link (page_id a.part at) item)) (λ x y h. h) (changes_then T a e f 0 3 _ _ _ (takes_kept a.part at seat.bucket item has.row) first settles)) c.settle.ensures.settles

pub returns-then-branch-clause-cause : goal.returns-then-branch-clause-cause
returns-then-branch-clause-cause g c =
    let T = g.P.Pages.tells in
    let a = g.P.Pages.seen c.args.pages.now in
    let b = g.P.Pages.seen c.seat_at.new.pages in
    let d = g.P.Pages.seen c.make_edit.new.pages in
    let e = g.P.Pages.seen c.is_empty.new.pages in
    let at = c.args.at in
    let item = c.args.item in
    let has = c.requires.row in
    let x = item_removed T a b d 0 at item _ c.requires.meta has.is c.seat_at.ensures.looks c.make_edit.ensures.edits c.in_ok-make_edit.ensures.edited in
    let f = g.P.Pages.seen c.drop_page.new.pages in
    let all = changes_then T a d e 0 0 _ _ (λ (x z : Partition). Unit {0}) (λ x y z r s. tt) x (changes_looked T d e 0 x.meta c.is_empty.ensures.looks) in
    cause_after T a e f 0 c.drop_page.result all.edits c.drop_page.ensures.cause

pub returns-else-branch-clause-cause : goal.returns-else-branch-clause-cause
returns-else-branch-clause-cause g c =
    let T = g.P.Pages.tells in
    let a = g.P.Pages.seen c.args.pages.now in
    let b = g.P.Pages.seen c.seat_at.new.pages in
    let d = g.P.Pages.seen c.make_edit.new.pages in
    let e = g.P.Pages.seen c.is_empty.new.pages in
    let at = c.args.at in
    let item = c.args.item in
    let has = c.requires.row in
    let x = item_removed T a b d 0 at item _ c.requires.meta has.is c.seat_at.ensures.looks c.make_edit.ensures.edits c.in_ok-make_edit.ensures.edited in
    let f = g.P.Pages.seen c.settle.new.pages in
    let all = changes_then T a d e 0 0 _ _ (λ (x z : Partition). Unit {0}) (λ x y z r s. tt) x (changes_looked T d e 0 x.meta c.is_empty.ensures.looks) in
    cause_after T a e f 0 c.settle.result all.edits c.settle.ensures.cause

pub returns-then-branch-clause-sound : goal.returns-then-branch-clause-sound
returns-then-branch-clause-sound g c = λ t sound right.
    let T = g.P.Pages.tells in
    let a = g.P.Pages.seen c.args.pages.now in
    let b = g.P.Pages.seen c.seat_at.new.pages in
    let d = g.P.Pages.seen c.make_edit.new.pages in
    let e = g.P.Pages.seen c.is_empty.new.pages in
    let at = c.args.at in
    let item = c.args.item in
    let has = c.requires.row in
    let seat = c.in_ok-seat.seat in
    let looks = c.seat_at.ensures.looks in
    let meta = meta_is T a b 0 c.requires.meta looks in
    let removes = removes_row T b d e at item _ (λ (rows : List (Option (List ℕ))). rows ≡ []) meta (data_looked T a b 0 at c.requires.meta looks has.is) c.make_edit.ensures.edits c.in_ok-make_edit.ensures.edited c.is_empty.ensures.looks
    (λ page is. (c.in_ok-is_empty.ensures.empty page is).0 c.if-branch.true) in
    let facts = item_facts T a b 0 at item seat t c.requires.meta has looks c.in_ok-seat.ensures.seat in
    let views = views_rows at [] (Remove item) b.pages e.pages (removes.told t).edits refl refl in
    let chains = chains_rows T b e at (homes_in a.pages) views (removes.sound t) (chains_looked T a b 0 (homes_in a.pages) looks (chains_start T a t sound right)) in
    c.drop_page.ensures.sound (homes_in a.pages) chains facts.home

pub returns-else-branch-clause-sound : goal.returns-else-branch-clause-sound
returns-else-branch-clause-sound g c = λ t sound right.
    let T = g.P.Pages.tells in
    let a = g.P.Pages.seen c.args.pages.now in
    let b = g.P.Pages.seen c.seat_at.new.pages in
    let d = g.P.Pages.seen c.make_edit.new.pages in
    let e = g.P.Pages.seen c.is_empty.new.pages in
    let at = c.args.at in
    let item = c.args.item in
    let has = c.requires.row in
    let seat = c.in_ok-seat.seat in
    let looks = c.seat_at.ensures.looks in
    let meta = meta_is T a b 0 c.requires.meta looks in
    let removes = removes_row T b d e at item _ (λ (rows : List (Option (List ℕ))). rows ≢ []) meta (data_looked T a b 0 at c.requires.meta looks has.is) c.make_edit.ensures.edits c.in_ok-make_edit.ensures.edited c.is_empty.ensures.looks
    (λ page is. λ none. both_ways c.in_ok-is_empty.field-0 c.if-branch.false ((c.in_ok-is_empty.ensures.empty page is).1 none)) in
    let facts = item_facts T a b 0 at item seat t c.requires.meta has looks c.in_ok-seat.ensures.seat in
    let views = views_rows at [] (Remove item) b.pages e.pages (removes.told t).edits refl refl in
    let chains = chains_rows T b e at (homes_in a.pages) views (removes.sound t) (chains_looked T a b 0 (homes_in a.pages) looks (chains_start T a t sound right)) in
    c.settle.ensures.sound (homes_in a.pages) chains facts.home

pub returns-then-branch-clause-passes : goal.returns-then-branch-clause-passes
returns-then-branch-clause-passes g c =
    let T = g.P.Pages.tells in
    let a = g.P.Pages.seen c.args.pages.now in
    let b = g.P.Pages.seen c.seat_at.new.pages in
    let d = g.P.Pages.seen c.make_edit.new.pages in
    let e = g.P.Pages.seen c.is_empty.new.pages in
    let at = c.args.at in
    let item = c.args.item in
    let has = c.requires.row in
    let seat = c.in_ok-seat.seat in
    let looks = c.seat_at.ensures.looks in
    let meta = meta_is T a b 0 c.requires.meta looks in
    let removes = removes_row T b d e at item _ (λ (rows : List (Option (List ℕ))). rows ≡ []) meta (data_looked T a b 0 at c.requires.meta looks has.is) c.make_edit.ensures.edits c.in_ok-make_edit.ensures.edited c.is_empty.ensures.looks
    (λ page is. (c.in_ok-is_empty.ensures.empty page is).0 c.if-branch.true) in
    let f = g.P.Pages.seen c.drop_page.new.pages in
    on_ok_weaker c.drop_page.result (λ p t stored. dropped_stored T b e f at seat.bucket item 2 0 t meta removes p.0 (p.1 t) (stored_looked T a b 0 t looks stored))
    (both_ok c.drop_page.result _ _ c.drop_page.ensures.drops c.drop_page.ensures.passes)

pub returns-else-branch-clause-passes : goal.returns-else-branch-clause-passes
returns-else-branch-clause-passes g c =
    let T = g.P.Pages.tells in
    let a = g.P.Pages.seen c.args.pages.now in
    let b = g.P.Pages.seen c.seat_at.new.pages in
    let d = g.P.Pages.seen c.make_edit.new.pages in
    let e = g.P.Pages.seen c.is_empty.new.pages in
    let at = c.args.at in
    let item = c.args.item in
    let has = c.requires.row in
    let seat = c.in_ok-seat.seat in
    let looks = c.seat_at.ensures.looks in
    let meta = meta_is T a b 0 c.requires.meta looks in
    let removes = removes_row T b d e at item _ (λ (rows : List (Option (List ℕ))). rows ≢ []) meta (data_looked T a b 0 at c.requires.meta looks has.is) c.make_edit.ensures.edits c.in_ok-make_edit.ensures.edited c.is_empty.ensures.looks
    (λ page is. λ none. both_ways c.in_ok-is_empty.field-0 c.if-branch.false ((c.in_ok-is_empty.ensures.empty page is).1 none)) in
    let f = g.P.Pages.seen c.settle.new.pages in
    on_ok_weaker c.settle.result (λ settles t stored. kept_stored T b e f at seat.bucket item 3 t meta removes settles (stored_looked T a b 0 t looks stored)) c.settle.ensures.settles
