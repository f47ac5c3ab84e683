use Rattle.pm_pages.proofs.PassingLooks.{bad_passed}
use Rattle.pm_pages.proofs.SoundPages.{sound_all, no_bad_passed}
use Rattle.pm_part.proofs.SoundGets.{passes_all}
use Rattle.pm_part.proofs.SoundRemovals.{tree_sound}
use Rattle.pm_part.proofs.RemovalSteps.{removal_stays}
use Rattle.pm_part.proofs.DroppedRows.{partition_looked, dropped}
use Rattle.pm_part.proofs.SpotReads.{row_looked}
use Rattle.pm_part.specs.Removals.{DropsKey}
use Rattle.pm_pages.proofs.ToldPages.{pages_told}
use Rattle.pm_pages.specs.Rows.{Partition}
use Rattle.std.proofs.Common.{ℕ, subst}
use Rattle.std.proofs.Common.{◌∙◌, ap, arith}
use Rattle.std.proofs.lemmas.Result.{on_ok_weaker, err_from_is_err_and}
use Rattle.pm_types.specs.Ids.{page_id, link}
use Rattle.pm_pages.proofs.TakenPages.{meta_looked}
use Rattle.pm_part.specs.Faults.{IsFaultOfRemove}
use Rattle.pm_part.proofs.PartCauses.{cause_passed, cause_after, cause_looked, cause_chain_remove, cause_remove, cause_disk}
use Rattle.pm_part.proofs.SpotReads.{item_of, item_looked, row_at_link}
use Rattle.pm_part.proofs.Swaps.{pages_then, pages_looked, pages_rows, pages_removed, pages_meta, meta_edited}
use Rattle.pm_part.proofs.removing.drop_row.Goals as goal

pub take_out-requires-clause-row : goal.take_out-requires-clause-row
take_out-requires-clause-row g c =
    let T = g.P.Pages.tells in
    let a = g.P.Pages.seen c.args.pages.now in
    let b = g.P.Pages.seen c.number.new.pages in
    let item = item_looked T a b 0 c.args.spot.at c.args.spot.item c.requires.meta (item_of a c.args.spot c.args.cache c.args.key.now c.requires.has) c.number.ensures.looks in
    row_at_link b c.args.spot.at c.args.spot.item c.link-link.result (c.link-link.ensures ∙ ap (λ p. link (page_id p c.args.spot.at) c.args.spot.item) c.part.ensures) (omega arith) (omega arith) (omega arith) item

pub returns-in_err-rows-clause-cause : goal.returns-in_err-rows-clause-cause
returns-in_err-rows-clause-cause g c =
    let T = g.P.Pages.tells in
    let a = g.P.Pages.seen c.args.pages.now in
    let b = g.P.Pages.seen c.number.new.pages in
    let p = err_from_is_err_and c.from_residual.result c.from_residual.ensures.1 in
    cause_passed T a b (IsFaultOfRemove T b c.args.cache c.args.key.now) c.number.result c.from_residual.result c.in_err-rows.field-0.0 p.0 c.in_err-rows.was p.1 p.2
    (cause_disk T a b (IsFaultOfRemove T b c.args.cache c.args.key.now) c.number.result c.number.ensures.cause)

pub returns-in_err-take_out-clause-cause : goal.returns-in_err-take_out-clause-cause
returns-in_err-take_out-clause-cause g c =
    let T = g.P.Pages.tells in
    let a = g.P.Pages.seen c.args.pages.now in
    let b = g.P.Pages.seen c.number.new.pages in
    let d = g.P.Pages.seen c.take_out.new.pages in
    let p = err_from_is_err_and c.from_residual-in_err-take_out.result c.from_residual-in_err-take_out.ensures.1 in
    cause_passed T a d (IsFaultOfRemove T d c.args.cache c.args.key.now) c.take_out.result c.from_residual-in_err-take_out.result c.in_err-take_out.field-0.0 p.0 c.in_err-take_out.was p.1 p.2
    (cause_looked T a b d 0 (IsFaultOfRemove T d c.args.cache c.args.key.now) c.take_out.result c.number.ensures.looks (cause_chain_remove T b d c.args.cache c.args.key.now c.take_out.result c.take_out.ensures.cause))

pub returns-in_err-take_out-clause-kept : goal.returns-in_err-take_out-clause-kept
returns-in_err-take_out-clause-kept g c = g.met.P.Pages.kept_then c.args.pages.now c.number.new.pages c.take_out.new.pages c.number.ensures.kept c.take_out.ensures.kept

pub returns-in_err-tree_remove-clause-cause : goal.returns-in_err-tree_remove-clause-cause
returns-in_err-tree_remove-clause-cause g c =
    let T = g.P.Pages.tells in
    let a = g.P.Pages.seen c.args.pages.now in
    let b = g.P.Pages.seen c.number.new.pages in
    let d = g.P.Pages.seen c.take_out.new.pages in
    let e = g.P.Pages.seen c.tree_remove.new.pages in
    let meta = meta_looked T a b 0 c.number.ensures.looks c.requires.meta in
    let first = pages_then T a b d 0 3 3 (omega arith) (pages_looked T a b 0 meta c.number.ensures.looks) (pages_rows T b d 3 _ c.in_ok-take_out.ensures.takes) in
    let p = err_from_is_err_and c.from_residual-in_err-tree_remove.result c.from_residual-in_err-tree_remove.ensures.1 in
    cause_passed T a e (IsFaultOfRemove T e c.args.cache c.args.key.now) c.tree_remove.result c.from_residual-in_err-tree_remove.result c.in_err-tree_remove.field-0.0 p.0 c.in_err-tree_remove.was p.1 p.2
    (cause_after T a d e 3 (IsFaultOfRemove T e c.args.cache c.args.key.now) c.tree_remove.result first.edits (cause_remove T d e c.args.cache c.args.key.now c.tree_remove.result c.tree_remove.ensures.cause))

pub returns-in_err-tree_remove-clause-kept : goal.returns-in_err-tree_remove-clause-kept
returns-in_err-tree_remove-clause-kept g c = g.met.P.Pages.kept_then c.args.pages.now c.take_out.new.pages c.tree_remove.new.pages (g.met.P.Pages.kept_then c.args.pages.now c.number.new.pages c.take_out.new.pages c.number.ensures.kept c.take_out.ensures.kept) c.tree_remove.ensures.kept

pub set_number-requires-clause-meta : goal.set_number-requires-clause-meta
set_number-requires-clause-meta g c =
    let T = g.P.Pages.tells in
    (pages_removed T (g.P.Pages.seen c.take_out.new.pages) (g.P.Pages.seen c.tree_remove.new.pages) c.args.cache 16 c.in_ok-take_out.ensures.takes.meta c.in_ok-tree_remove.ensures.changes).meta

pub returns-clause-kept : goal.returns-clause-kept
returns-clause-kept g c = g.met.P.Pages.kept_then c.args.pages.now c.tree_remove.new.pages c.set_number.new.pages (g.met.P.Pages.kept_then c.args.pages.now c.take_out.new.pages c.tree_remove.new.pages (g.met.P.Pages.kept_then c.args.pages.now c.number.new.pages c.take_out.new.pages c.number.ensures.kept c.take_out.ensures.kept) c.tree_remove.ensures.kept) c.set_number.ensures.kept

pub returns-clause-changes : goal.returns-clause-changes
returns-clause-changes g c =
    let T = g.P.Pages.tells in
    let a = g.P.Pages.seen c.args.pages.now in
    let b = g.P.Pages.seen c.number.new.pages in
    let d = g.P.Pages.seen c.take_out.new.pages in
    let e = g.P.Pages.seen c.tree_remove.new.pages in
    let f = g.P.Pages.seen c.set_number.new.pages in
    let meta = meta_looked T a b 0 c.number.ensures.looks c.requires.meta in
    let first = pages_then T a b d 0 3 3 (omega arith) (pages_looked T a b 0 meta c.number.ensures.looks) (pages_rows T b d 3 _ c.in_ok-take_out.ensures.takes) in
    let second = pages_removed T d e c.args.cache 16 first.meta c.in_ok-tree_remove.ensures.changes in
    on_ok_weaker c.set_number.result (λ sets. pages_then T a e f 19 0 19 (omega arith) (pages_then T a d e 3 16 19 (omega arith) first second)
    (pages_meta T e f 0 (meta_edited T e f 0 second.meta c.set_number.ensures.edits sets) c.set_number.ensures.edits)) c.set_number.ensures.sets

pub returns-clause-cause : goal.returns-clause-cause
returns-clause-cause g c =
    let T = g.P.Pages.tells in
    let a = g.P.Pages.seen c.args.pages.now in
    let b = g.P.Pages.seen c.number.new.pages in
    let d = g.P.Pages.seen c.take_out.new.pages in
    let e = g.P.Pages.seen c.tree_remove.new.pages in
    let f = g.P.Pages.seen c.set_number.new.pages in
    let meta = meta_looked T a b 0 c.number.ensures.looks c.requires.meta in
    let first = pages_then T a b d 0 3 3 (omega arith) (pages_looked T a b 0 meta c.number.ensures.looks) (pages_rows T b d 3 _ c.in_ok-take_out.ensures.takes) in
    let all = pages_then T a d e 3 16 19 (omega arith) first (pages_removed T d e c.args.cache 16 first.meta c.in_ok-tree_remove.ensures.changes) in
    cause_after T a e f 19 (IsFaultOfRemove T f c.args.cache c.args.key.now) c.set_number.result all.edits (cause_disk T e f (IsFaultOfRemove T f c.args.cache c.args.key.now) c.set_number.result c.set_number.ensures.cause)

pub returns-clause-drops : goal.returns-clause-drops
returns-clause-drops g c =
    let T = g.P.Pages.tells in
    let a = g.P.Pages.seen c.args.pages.now in
    let b = g.P.Pages.seen c.number.new.pages in
    let d = g.P.Pages.seen c.take_out.new.pages in
    let e = g.P.Pages.seen c.tree_remove.new.pages in
    let f = g.P.Pages.seen c.set_number.new.pages in
    let looks = c.number.ensures.looks in
    let meta = meta_looked T a b 0 looks c.requires.meta in
    let second = pages_removed T d e c.args.cache 16 c.in_ok-take_out.ensures.takes.meta c.in_ok-tree_remove.ensures.changes in
    on_ok_weaker c.set_number.result (λ sets t shape is.
    let at_is = c.link-link.ensures ∙ ap (λ p. link (page_id p c.args.spot.at) c.args.spot.item) c.part.ensures in
    let made = dropped T b d e f shape c.args.spot c.args.cache _ c.in_ok-rows.rows _ c.args.key.now c.link-link.result _ t c.requires.cache (partition_looked T a b 0 shape t looks is) meta c.in_ok-take_out.ensures.takes.meta second.meta (meta_edited T e f 0 second.meta c.set_number.ensures.edits sets)
    c.number.ensures.readable c.take_out.ensures.readable c.tree_remove.ensures.readable c.set_number.ensures.readable (row_looked T a b 0 c.args.spot c.args.cache c.args.key.now c.requires.meta looks c.requires.has) at_is
    (c.in_ok-take_out.ensures.takes.told t) (c.in_ok-tree_remove.ensures.removes t) c.set_number.ensures.edits sets c.in_ok-rows.ensures.number (omega arith) (omega (arith, c.saturating_sub.ensures)) in
    let row = row_looked T a b 0 c.args.spot c.args.cache c.args.key.now c.requires.meta looks c.requires.has in
    let stays = removal_stays T b d e f shape c.args.spot c.args.cache _ c.in_ok-rows.rows _ c.args.key.now c.link-link.result _ t c.requires.cache (partition_looked T a b 0 shape t looks is) meta c.in_ok-take_out.ensures.takes.meta second.meta (meta_edited T e f 0 second.meta c.set_number.ensures.edits sets)
    c.number.ensures.readable c.take_out.ensures.readable c.tree_remove.ensures.readable c.set_number.ensures.readable c.in_ok-take_out.ensures.takes.edits.same second.edits.same c.set_number.ensures.edits.same row at_is
    (c.in_ok-take_out.ensures.takes.told t) (c.in_ok-tree_remove.ensures.removes t) c.set_number.ensures.edits sets c.in_ok-rows.ensures.number (omega arith) (omega (arith, c.saturating_sub.ensures)) (c.in_ok-take_out.ensures.passes t) (c.in_ok-tree_remove.ensures.passes t) in
    (stays, subst (λ (q : ℕ × Partition). DropsKey q.0 q.1 f.pages c.args.cache c.args.key.now) {x = (b.part, b.pages)} {y = (a.part, a.pages)} (λ k. (looks.same.part k, pages_told T a b 0 t looks k)) made)) c.set_number.ensures.sets

pub returns-in_err-rows-clause-sound : goal.returns-in_err-rows-clause-sound
returns-in_err-rows-clause-sound g c = λ t shape is id h.
    let p = err_from_is_err_and c.from_residual.result c.from_residual.ensures.1 in
    c.number.ensures.cause.not_bad id (bad_passed c.number.result c.from_residual.result c.in_err-rows.field-0.0 p.0 c.in_err-rows.was p.1 p.2 id h)

pub returns-in_err-take_out-clause-sound : goal.returns-in_err-take_out-clause-sound
returns-in_err-take_out-clause-sound g c = λ t shape is.
    let T = g.P.Pages.tells in
    let a = g.P.Pages.seen c.args.pages.now in
    let b = g.P.Pages.seen c.number.new.pages in
    let is_b = partition_looked T a b 0 shape t c.number.ensures.looks is in
    let p = err_from_is_err_and c.from_residual-in_err-take_out.result c.from_residual-in_err-take_out.ensures.1 in
    no_bad_passed c.take_out.result c.from_residual-in_err-take_out.result c.in_err-take_out.field-0.0 p.0 c.in_err-take_out.was p.1 p.2
    (c.take_out.ensures.sound t (sound_all b (passes_all shape b is_b)) is_b.well_formed.chains)

pub returns-in_err-tree_remove-clause-sound : goal.returns-in_err-tree_remove-clause-sound
returns-in_err-tree_remove-clause-sound g c = λ t shape is.
    let T = g.P.Pages.tells in
    let a = g.P.Pages.seen c.args.pages.now in
    let b = g.P.Pages.seen c.number.new.pages in
    let d = g.P.Pages.seen c.take_out.new.pages in
    let looks = c.number.ensures.looks in
    let p = err_from_is_err_and c.from_residual-in_err-tree_remove.result c.from_residual-in_err-tree_remove.ensures.1 in
    no_bad_passed c.tree_remove.result c.from_residual-in_err-tree_remove.result c.in_err-tree_remove.field-0.0 p.0 c.in_err-tree_remove.was p.1 p.2
    (tree_sound b d shape c.args.cache _ c.link-link.result c.tree_remove.result c.requires.cache (partition_looked T a b 0 shape t looks is) (meta_looked T a b 0 looks c.requires.meta) c.number.ensures.readable
    (c.in_ok-take_out.ensures.takes.told t) (c.in_ok-take_out.ensures.passes t) (omega arith) (c.tree_remove.ensures.sound t))

pub returns-clause-sound : goal.returns-clause-sound
returns-clause-sound g c = λ t shape is. c.set_number.ensures.cause.not_bad
