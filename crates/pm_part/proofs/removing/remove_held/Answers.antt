use Rattle.pm_pages.proofs.SoundPages.{no_bad_passed}
use Rattle.pm_part.proofs.RemovedKeys.{held_removed, removes_looked}
use Rattle.std.proofs.Common.{true}
use Rattle.pm_part.proofs.DroppedRows.{partition_looked}
use Rattle.std.proofs.Common.{arith}
use Rattle.std.proofs.lemmas.Result.{err_from_is_err_and}
use Rattle.pm_pages.proofs.TakenPages.{meta_looked}
use Rattle.pm_part.specs.Faults.{IsFaultOfRemove}
use Rattle.pm_part.proofs.PartCauses.{cause_passed, cause_looked, cause_get_remove}
use Rattle.pm_part.proofs.Swaps.{pages_then, pages_looked}
use Rattle.pm_part.proofs.removing.remove_held.Goals as goal

pub drop_row-requires-clause-meta : goal.drop_row-requires-clause-meta
drop_row-requires-clause-meta g c = meta_looked g.P.Pages.tells (g.P.Pages.seen c.args.pages.now) (g.P.Pages.seen c.find_row.new.pages) 1 c.find_row.ensures.looks c.requires.entry.meta

pub returns-in_err-spot-clause-cause : goal.returns-in_err-spot-clause-cause
returns-in_err-spot-clause-cause g c =
    let T = g.P.Pages.tells in
    let a = g.P.Pages.seen c.args.pages.now in
    let b = g.P.Pages.seen c.find_row.new.pages in
    let p = err_from_is_err_and c.from_residual.result c.from_residual.ensures.1 in
    cause_passed T a b (IsFaultOfRemove T b c.args.cache c.args.key.now) c.find_row.result c.from_residual.result c.in_err-spot.field-0.0 p.0 c.in_err-spot.was p.1 p.2
    (cause_get_remove T a b c.args.cache c.args.key.now c.find_row.result c.find_row.ensures.cause)

pub returns-in_err-drop_row-clause-cause : goal.returns-in_err-drop_row-clause-cause
returns-in_err-drop_row-clause-cause g c =
    let T = g.P.Pages.tells in
    let a = g.P.Pages.seen c.args.pages.now in
    let b = g.P.Pages.seen c.find_row.new.pages in
    let d = g.P.Pages.seen c.drop_row.new.pages in
    let p = err_from_is_err_and c.from_residual-in_err-drop_row.result c.from_residual-in_err-drop_row.ensures.1 in
    cause_passed T a d (IsFaultOfRemove T d c.args.cache c.args.key.now) c.drop_row.result c.from_residual-in_err-drop_row.result c.in_err-drop_row.field-0.0 p.0 c.in_err-drop_row.was p.1 p.2
    (cause_looked T a b d 1 (IsFaultOfRemove T d c.args.cache c.args.key.now) c.drop_row.result c.find_row.ensures.looks c.drop_row.ensures.cause)

pub returns-in_err-drop_row-clause-kept : goal.returns-in_err-drop_row-clause-kept
returns-in_err-drop_row-clause-kept g c = g.met.P.Pages.kept_then c.args.pages.now c.find_row.new.pages c.drop_row.new.pages c.find_row.ensures.kept c.drop_row.ensures.kept

pub returns-clause-kept : goal.returns-clause-kept
returns-clause-kept g c = g.met.P.Pages.kept_then c.args.pages.now c.find_row.new.pages c.drop_row.new.pages c.find_row.ensures.kept c.drop_row.ensures.kept

pub returns-clause-changes : goal.returns-clause-changes
returns-clause-changes g c =
    let T = g.P.Pages.tells in
    let a = g.P.Pages.seen c.args.pages.now in
    let b = g.P.Pages.seen c.find_row.new.pages in
    let d = g.P.Pages.seen c.drop_row.new.pages in
    let meta = meta_looked T a b 1 c.find_row.ensures.looks c.requires.entry.meta in
    pages_then T a b d 1 19 20 (omega arith) (pages_looked T a b 1 meta c.find_row.ensures.looks) c.in_ok-drop_row.ensures.changes

pub returns-clause-removes : goal.returns-clause-removes
returns-clause-removes g c = λ t shape is.
    let T = g.P.Pages.tells in
    let a = g.P.Pages.seen c.args.pages.now in
    let b = g.P.Pages.seen c.find_row.new.pages in
    let d = g.P.Pages.seen c.drop_row.new.pages in
    let looks = c.find_row.ensures.looks in
    let meta = meta_looked T a b 1 looks c.requires.entry.meta in
    let is_b = partition_looked T a b 1 shape t looks is in
    let dropped = c.in_ok-drop_row.ensures.drops t shape is_b in (
      dropped.0,
      removes_looked T a b 1 c.args.cache c.args.key.now d.pages true t looks
          (held_removed shape b d.pages c.in_ok-spot.spot c.args.cache c.args.key.now is_b meta c.in_ok-spot.ensures.row dropped.1),
    )

pub returns-in_err-spot-clause-sound : goal.returns-in_err-spot-clause-sound
returns-in_err-spot-clause-sound g c = λ t shape is names.
    let p = err_from_is_err_and c.from_residual.result c.from_residual.ensures.1 in
    no_bad_passed c.find_row.result c.from_residual.result c.in_err-spot.field-0.0 p.0 c.in_err-spot.was p.1 p.2 (c.find_row.ensures.sound t shape is names)

pub returns-in_err-drop_row-clause-sound : goal.returns-in_err-drop_row-clause-sound
returns-in_err-drop_row-clause-sound g c = λ t shape is names.
    let T = g.P.Pages.tells in
    let a = g.P.Pages.seen c.args.pages.now in
    let b = g.P.Pages.seen c.find_row.new.pages in
    let p = err_from_is_err_and c.from_residual-in_err-drop_row.result c.from_residual-in_err-drop_row.ensures.1 in
    no_bad_passed c.drop_row.result c.from_residual-in_err-drop_row.result c.in_err-drop_row.field-0.0 p.0 c.in_err-drop_row.was p.1 p.2 (c.drop_row.ensures.sound t shape (partition_looked T a b 1 shape t c.find_row.ensures.looks is))

pub returns-clause-sound : goal.returns-clause-sound
returns-clause-sound g c = λ t shape is names id h. absurd (cc h)
