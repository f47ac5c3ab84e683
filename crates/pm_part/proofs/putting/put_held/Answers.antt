use Rattle.pm_pages.proofs.SoundPages.{no_bad_passed}
use Rattle.pm_part.proofs.ReplacedKeys.{held_put, puts_looked}
use Rattle.pm_part.proofs.DroppedRows.{partition_looked}
use Rattle.std.proofs.Common.{true}
use Rattle.std.proofs.Common.{arith}
use Rattle.std.proofs.lemmas.Result.{err_from_is_err_and}
use Rattle.pm_pages.proofs.TakenPages.{meta_looked}
use Rattle.pm_part.specs.Faults.{IsFaultOfPut}
use Rattle.pm_part.proofs.PartCauses.{cause_passed, cause_looked, cause_get_put}
use Rattle.pm_part.proofs.SpotReads.{entry_looked}
use Rattle.pm_part.proofs.Swaps.{pages_then, pages_looked}
use Rattle.pm_part.proofs.putting.put_held.Goals as goal

pub replace_row-requires-clause-meta : goal.replace_row-requires-clause-meta
replace_row-requires-clause-meta g c = meta_looked g.P.Pages.tells (g.P.Pages.seen c.args.pages.now) (g.P.Pages.seen c.find_row.new.pages) 1 c.find_row.ensures.looks c.requires.entry.meta

pub replace_row-requires-clause-held : goal.replace_row-requires-clause-held
replace_row-requires-clause-held g c = record {
  entry = c.args.entry;
  is = entry_looked g.P.Pages.tells (g.P.Pages.seen c.args.pages.now) (g.P.Pages.seen c.find_row.new.pages) 1 c.args.cache c.args.key.now c.args.entry c.find_row.ensures.looks c.requires.entry;
}

pub returns-in_err-spot-clause-cause : goal.returns-in_err-spot-clause-cause
returns-in_err-spot-clause-cause g c =
    let T = g.P.Pages.tells in
    let a = g.P.Pages.seen c.args.pages.now in
    let b = g.P.Pages.seen c.find_row.new.pages in
    let p = err_from_is_err_and c.from_residual.result c.from_residual.ensures.1 in
    cause_passed T a b (IsFaultOfPut T b c.args.cache c.args.key.now) c.find_row.result c.from_residual.result c.in_err-spot.field-0.0 p.0 c.in_err-spot.was p.1 p.2
    (cause_get_put T a b c.args.cache c.args.key.now c.find_row.result c.find_row.ensures.cause)

pub returns-in_err-replace_row-clause-cause : goal.returns-in_err-replace_row-clause-cause
returns-in_err-replace_row-clause-cause g c =
    let T = g.P.Pages.tells in
    let a = g.P.Pages.seen c.args.pages.now in
    let b = g.P.Pages.seen c.find_row.new.pages in
    let d = g.P.Pages.seen c.replace_row.new.pages in
    let p = err_from_is_err_and c.from_residual-in_err-replace_row.result c.from_residual-in_err-replace_row.ensures.1 in
    cause_passed T a d (IsFaultOfPut T d c.args.cache c.args.key.now) c.replace_row.result c.from_residual-in_err-replace_row.result c.in_err-replace_row.field-0.0 p.0 c.in_err-replace_row.was p.1 p.2
    (cause_looked T a b d 1 (IsFaultOfPut T d c.args.cache c.args.key.now) c.replace_row.result c.find_row.ensures.looks c.replace_row.ensures.cause)

pub returns-in_err-replace_row-clause-kept : goal.returns-in_err-replace_row-clause-kept
returns-in_err-replace_row-clause-kept g c = g.met.P.Pages.kept_then c.args.pages.now c.find_row.new.pages c.replace_row.new.pages c.find_row.ensures.kept c.replace_row.ensures.kept

pub returns-clause-kept : goal.returns-clause-kept
returns-clause-kept g c = g.met.P.Pages.kept_then c.args.pages.now c.find_row.new.pages c.replace_row.new.pages c.find_row.ensures.kept c.replace_row.ensures.kept

pub returns-clause-changes : goal.returns-clause-changes
returns-clause-changes g c =
    let T = g.P.Pages.tells in
    let a = g.P.Pages.seen c.args.pages.now in
    let b = g.P.Pages.seen c.find_row.new.pages in
    let d = g.P.Pages.seen c.replace_row.new.pages in
    let meta = meta_looked T a b 1 c.find_row.ensures.looks c.requires.entry.meta in
    pages_then T a b d 1 15 16 (omega arith) (pages_looked T a b 1 meta c.find_row.ensures.looks) c.in_ok-replace_row.ensures.changes

pub returns-clause-puts : goal.returns-clause-puts
returns-clause-puts g c = λ t shape is value row_is.
    let T = g.P.Pages.tells in
    let a = g.P.Pages.seen c.args.pages.now in
    let b = g.P.Pages.seen c.find_row.new.pages in
    let d = g.P.Pages.seen c.replace_row.new.pages in
    let looks = c.find_row.ensures.looks in
    let is_b = partition_looked T a b 1 shape t looks is in
    let made = c.in_ok-replace_row.ensures.replaces t shape is_b value row_is in (
      made.0,
      puts_looked T a b 1 shape d.pages c.args.cache c.args.key.now value true t looks
          (held_put shape b d.pages c.in_ok-spot.spot c.args.cache c.args.key.now value is_b (meta_looked T a b 1 looks c.requires.entry.meta) c.in_ok-spot.ensures.row made.1),
    )

pub returns-in_err-spot-clause-sound : goal.returns-in_err-spot-clause-sound
returns-in_err-spot-clause-sound g c = λ t shape is names.
    let p = err_from_is_err_and c.from_residual.result c.from_residual.ensures.1 in
    no_bad_passed c.find_row.result c.from_residual.result c.in_err-spot.field-0.0 p.0 c.in_err-spot.was p.1 p.2 (c.find_row.ensures.sound t shape is names)

pub returns-in_err-replace_row-clause-sound : goal.returns-in_err-replace_row-clause-sound
returns-in_err-replace_row-clause-sound g c = λ t shape is names.
    let T = g.P.Pages.tells in
    let a = g.P.Pages.seen c.args.pages.now in
    let b = g.P.Pages.seen c.find_row.new.pages in
    let p = err_from_is_err_and c.from_residual-in_err-replace_row.result c.from_residual-in_err-replace_row.ensures.1 in
    no_bad_passed c.replace_row.result c.from_residual-in_err-replace_row.result c.in_err-replace_row.field-0.0 p.0 c.in_err-replace_row.was p.1 p.2 (c.replace_row.ensures.sound t shape (partition_looked T a b 1 shape t c.find_row.ensures.looks is))

pub returns-clause-sound : goal.returns-clause-sound
returns-clause-sound g c = λ t shape is names id h. absurd (cc h)
