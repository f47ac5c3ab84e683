use Rattle.std.proofs.Common.{length}
use Rattle.pm_pages.proofs.SoundPages.{no_bad_passed}
use Rattle.pm_part.proofs.KeptIndexes.{index_placed}
use Rattle.pm_part.proofs.SoundPuts.{may_place, spare_after}
use Rattle.std.proofs.Common.{◌+◌}
use Rattle.pm_part.proofs.ReplacedKeys.{added_key}
use Rattle.pm_part.proofs.AdditionSteps.{addition_stays}
use Rattle.std.proofs.Common.{arith}
use Rattle.std.proofs.lemmas.Result.{on_ok_weaker, err_from_is_err_and}
use Rattle.pm_part.specs.Faults.{IsFaultOfPut}
use Rattle.pm_part.proofs.PartCauses.{cause_passed, cause_after, cause_chain_put, cause_put, cause_disk}
use Rattle.pm_part.proofs.Swaps.{pages_then, pages_rows, pages_put, pages_meta, meta_edited}
use Rattle.pm_part.proofs.putting.add_row.Goals as goal

pub returns-in_err-link-clause-cause : goal.returns-in_err-link-clause-cause
returns-in_err-link-clause-cause g c =
    let T = g.P.Pages.tells in
    let a = g.P.Pages.seen c.args.pages.now in
    let b = g.P.Pages.seen c.place.new.pages in
    let p = err_from_is_err_and c.from_residual.result c.from_residual.ensures.1 in
    cause_passed T a b (IsFaultOfPut T b c.args.cache c.args.key.now) c.place.result c.from_residual.result c.in_err-link.field-0.0 p.0 c.in_err-link.was p.1 p.2
    (cause_chain_put T a b c.args.cache c.args.key.now c.place.result c.place.ensures.cause)

pub returns-in_err-tree_put-clause-cause : goal.returns-in_err-tree_put-clause-cause
returns-in_err-tree_put-clause-cause g c =
    let T = g.P.Pages.tells in
    let a = g.P.Pages.seen c.args.pages.now in
    let b = g.P.Pages.seen c.place.new.pages in
    let d = g.P.Pages.seen c.tree_put.new.pages in
    let p = err_from_is_err_and c.from_residual-in_err-tree_put.result c.from_residual-in_err-tree_put.ensures.1 in
    cause_passed T a d (IsFaultOfPut T d c.args.cache c.args.key.now) c.tree_put.result c.from_residual-in_err-tree_put.result c.in_err-tree_put.field-0.0 p.0 c.in_err-tree_put.was p.1 p.2
    (cause_after T a b d 4 (IsFaultOfPut T d c.args.cache c.args.key.now) c.tree_put.result c.in_ok-link.ensures.places.edits (cause_put T b d c.args.cache c.args.key.now c.tree_put.result c.tree_put.ensures.cause))

pub returns-in_err-tree_put-clause-kept : goal.returns-in_err-tree_put-clause-kept
returns-in_err-tree_put-clause-kept g c = g.met.P.Pages.kept_then c.args.pages.now c.place.new.pages c.tree_put.new.pages c.place.ensures.kept c.tree_put.ensures.kept

pub returns-clause-kept : goal.returns-clause-kept
returns-clause-kept g c = g.met.P.Pages.kept_then c.args.pages.now c.tree_put.new.pages c.set_number.new.pages (g.met.P.Pages.kept_then c.args.pages.now c.place.new.pages c.tree_put.new.pages c.place.ensures.kept c.tree_put.ensures.kept) c.set_number.ensures.kept

pub returns-clause-changes : goal.returns-clause-changes
returns-clause-changes g c =
    let T = g.P.Pages.tells in
    let a = g.P.Pages.seen c.args.pages.now in
    let b = g.P.Pages.seen c.place.new.pages in
    let d = g.P.Pages.seen c.tree_put.new.pages in
    let e = g.P.Pages.seen c.set_number.new.pages in
    let x = pages_put T b d c.args.cache 17 c.in_ok-tree_put.ensures.changes in
    on_ok_weaker c.set_number.result (λ sets. pages_then T a d e 21 0 21 (omega arith)
    (pages_then T a b d 4 17 21 (omega arith) (pages_rows T a b 4 _ c.in_ok-link.ensures.places) x)
    (pages_meta T d e 0 (meta_edited T d e 0 x.meta c.set_number.ensures.edits sets) c.set_number.ensures.edits)) c.set_number.ensures.sets

pub returns-clause-cause : goal.returns-clause-cause
returns-clause-cause g c =
    let T = g.P.Pages.tells in
    let a = g.P.Pages.seen c.args.pages.now in
    let b = g.P.Pages.seen c.place.new.pages in
    let d = g.P.Pages.seen c.tree_put.new.pages in
    let e = g.P.Pages.seen c.set_number.new.pages in
    let x = pages_then T a b d 4 17 21 (omega arith) (pages_rows T a b 4 _ c.in_ok-link.ensures.places) (pages_put T b d c.args.cache 17 c.in_ok-tree_put.ensures.changes) in
    cause_after T a d e 21 (IsFaultOfPut T e c.args.cache c.args.key.now) c.set_number.result x.edits (cause_disk T d e (IsFaultOfPut T e c.args.cache c.args.key.now) c.set_number.result c.set_number.ensures.cause)

pub returns-clause-adds : goal.returns-clause-adds
returns-clause-adds g c =
    let T = g.P.Pages.tells in
    let a = g.P.Pages.seen c.args.pages.now in
    let b = g.P.Pages.seen c.place.new.pages in
    let d = g.P.Pages.seen c.tree_put.new.pages in
    let e = g.P.Pages.seen c.set_number.new.pages in
    let places = c.in_ok-link.ensures.places in
    let puts = c.in_ok-tree_put.ensures.changes in
    on_ok_weaker c.set_number.result (λ sets t spare height nodes items index.
    added_key T a b d e a.page_size c.args.cache (c.args.rows + 1) _ c.args.key.now c.args.row.now c.in_ok-link.link _ height nodes items t c.requires.cache c.requires.meta places.meta puts.meta (meta_edited T d e 0 puts.meta c.set_number.ensures.edits sets)
    c.requires.readable c.place.ensures.readable c.tree_put.ensures.readable c.set_number.ensures.readable spare index (places.told t) (c.in_ok-tree_put.ensures.puts t) c.set_number.ensures.edits sets (omega arith)) c.set_number.ensures.sets

pub returns-clause-stays : goal.returns-clause-stays
returns-clause-stays g c =
    let T = g.P.Pages.tells in
    let a = g.P.Pages.seen c.args.pages.now in
    let b = g.P.Pages.seen c.place.new.pages in
    let d = g.P.Pages.seen c.tree_put.new.pages in
    let e = g.P.Pages.seen c.set_number.new.pages in
    let places = c.in_ok-link.ensures.places in
    let puts = c.in_ok-tree_put.ensures.changes in
    let edits = c.set_number.ensures.edits in
    on_ok_weaker c.set_number.result (λ sets t shape may value row_is.
    addition_stays T a b d e shape c.args.cache c.args.rows (c.args.rows + 1) c.args.key.now value c.args.row.now c.in_ok-link.link _ t c.requires.cache may c.requires.meta (meta_edited T d e 0 puts.meta edits sets)
    (c.requires.readable, c.place.ensures.readable, c.tree_put.ensures.readable, c.set_number.ensures.readable) row_is places (c.in_ok-link.ensures.passes t) puts (c.in_ok-tree_put.ensures.puts t) edits sets (omega arith)) c.set_number.ensures.sets

pub returns-in_err-link-clause-sound : goal.returns-in_err-link-clause-sound
returns-in_err-link-clause-sound g c = λ t may.
    let a = g.P.Pages.seen c.args.pages.now in
    let p = err_from_is_err_and c.from_residual.result c.from_residual.ensures.1 in
    no_bad_passed c.place.result c.from_residual.result c.in_err-link.field-0.0 p.0 c.in_err-link.was p.1 p.2 (c.place.ensures.sound (may_place g.P.Pages.tells a c.args.cache (length c.args.row.now) t c.requires.meta may))

pub returns-in_err-tree_put-clause-sound : goal.returns-in_err-tree_put-clause-sound
returns-in_err-tree_put-clause-sound g c = λ t may.
    let T = g.P.Pages.tells in
    let a = g.P.Pages.seen c.args.pages.now in
    let b = g.P.Pages.seen c.place.new.pages in
    let places = c.in_ok-link.ensures.places in
    let p = err_from_is_err_and c.from_residual-in_err-tree_put.result c.from_residual-in_err-tree_put.ensures.1 in
    no_bad_passed c.tree_put.result c.from_residual-in_err-tree_put.result c.in_err-tree_put.field-0.0 p.0 c.in_err-tree_put.was p.1 p.2
    (c.tree_put.ensures.sound_with_room t (spare_after T a b c.args.cache a.page_size a.part 4 c.args.row.now c.in_ok-link.link t c.requires.meta may places (c.in_ok-link.ensures.passes t)) may.height may.nodes may.items
    (index_placed a b.pages c.args.cache may.height may.nodes may.items c.requires.readable c.requires.meta c.requires.cache may.index a.page_size a.part c.args.row.now c.in_ok-link.link (places.told t)) (omega (arith, may.few, places.edits.same.max_rows)))

pub returns-clause-sound : goal.returns-clause-sound
returns-clause-sound g c = λ t may. c.set_number.ensures.cause.not_bad
