use Rattle.pm_pages.proofs.PassingLooks.{bad_passed}
use Rattle.pm_pages.proofs.SoundPages.{no_bad_passed}
use Rattle.pm_part.proofs.SoundPuts.{may_take_row}
use Rattle.pm_part.proofs.ReplacedKeys.{first_added}
use Rattle.pm_part.proofs.FirstPartitions.{first_partition, takes_row}
use Rattle.std.proofs.Common.{refl}
use Rattle.std.proofs.Common.{arith}
use Rattle.std.proofs.lemmas.Result.{err_from_is_err_and}
use Rattle.pm_part.specs.Faults.{IsFaultOfPut}
use Rattle.pm_part.proofs.PartCauses.{cause_passed, cause_after, cause_disk}
use Rattle.pm_part.proofs.Swaps.{pages_then, pages_meta}
use Rattle.pm_part.proofs.putting.put_first.Goals as goal

pub returns-in_err-make_meta-clause-cause : goal.returns-in_err-make_meta-clause-cause
returns-in_err-make_meta-clause-cause g c =
    let T = g.P.Pages.tells in
    let a = g.P.Pages.seen c.args.pages.now in
    let b = g.P.Pages.seen c.make_meta.new.pages in
    let p = err_from_is_err_and c.from_residual.result c.from_residual.ensures.1 in
    cause_passed T a b (IsFaultOfPut T b c.args.cache c.args.key.now) c.make_meta.result c.from_residual.result c.in_err-make_meta.field-0.0 p.0 c.in_err-make_meta.was p.1 p.2
    (cause_disk T a b (IsFaultOfPut T b c.args.cache c.args.key.now) c.make_meta.result c.make_meta.ensures.cause)

pub returns-in_err-add_row-clause-cause : goal.returns-in_err-add_row-clause-cause
returns-in_err-add_row-clause-cause g c =
    let T = g.P.Pages.tells in
    let a = g.P.Pages.seen c.args.pages.now in
    let b = g.P.Pages.seen c.make_meta.new.pages in
    let d = g.P.Pages.seen c.add_row.new.pages in
    let made = pages_meta T a b 1 c.in_ok-make_meta.ensures.meta c.in_ok-make_meta.ensures.edits in
    let p = err_from_is_err_and c.from_residual-in_err-add_row.result c.from_residual-in_err-add_row.ensures.1 in
    cause_passed T a d (IsFaultOfPut T d c.args.cache c.args.key.now) c.add_row.result c.from_residual-in_err-add_row.result c.in_err-add_row.field-0.0 p.0 c.in_err-add_row.was p.1 p.2
    (cause_after T a b d 1 (IsFaultOfPut T d c.args.cache c.args.key.now) c.add_row.result made.edits c.add_row.ensures.cause)

pub returns-in_err-add_row-clause-kept : goal.returns-in_err-add_row-clause-kept
returns-in_err-add_row-clause-kept g c = g.met.P.Pages.kept_then c.args.pages.now c.make_meta.new.pages c.add_row.new.pages c.make_meta.ensures.kept c.add_row.ensures.kept

pub returns-clause-kept : goal.returns-clause-kept
returns-clause-kept g c = g.met.P.Pages.kept_then c.args.pages.now c.make_meta.new.pages c.add_row.new.pages c.make_meta.ensures.kept c.add_row.ensures.kept

pub returns-clause-changes : goal.returns-clause-changes
returns-clause-changes g c =
    let T = g.P.Pages.tells in
    let a = g.P.Pages.seen c.args.pages.now in
    let b = g.P.Pages.seen c.make_meta.new.pages in
    let d = g.P.Pages.seen c.add_row.new.pages in
    pages_then T a b d 1 21 22 (omega arith) (pages_meta T a b 1 c.in_ok-make_meta.ensures.meta c.in_ok-make_meta.ensures.edits) c.in_ok-add_row.ensures.changes

pub returns-clause-adds : goal.returns-clause-adds
returns-clause-adds g c = (
  refl,
  λ t none.
      let T = g.P.Pages.tells in
      let a = g.P.Pages.seen c.args.pages.now in
      let b = g.P.Pages.seen c.make_meta.new.pages in
      let d = g.P.Pages.seen c.add_row.new.pages in
      first_added T a b d.pages 1 c.args.cache c.args.row.now c.requires.cache none c.in_ok-make_meta.ensures.edits c.in_ok-make_meta.ensures.meta c.make_meta.ensures.readable c.in_ok-make_meta.ensures.new (c.in_ok-add_row.ensures.adds t),
)

pub returns-clause-stays : goal.returns-clause-stays
returns-clause-stays g c = λ t shape most for value row_is.
    let a = g.P.Pages.seen c.args.pages.now in
    let b = g.P.Pages.seen c.make_meta.new.pages in
    let may = takes_row a b shape for.partition c.in_ok-make_meta.ensures.edits.same c.in_ok-make_meta.ensures.meta c.make_meta.ensures.readable c.in_ok-make_meta.ensures.new most c.args.cache c.args.key.now c.requires.cache for in
    c.in_ok-add_row.ensures.stays t shape may value row_is

pub returns-in_err-make_meta-clause-sound : goal.returns-in_err-make_meta-clause-sound
returns-in_err-make_meta-clause-sound g c = λ t shape is none id h.
    let p = err_from_is_err_and c.from_residual.result c.from_residual.ensures.1 in
    c.make_meta.ensures.cause.not_bad id (bad_passed c.make_meta.result c.from_residual.result c.in_err-make_meta.field-0.0 p.0 c.in_err-make_meta.was p.1 p.2 id h)

pub returns-in_err-add_row-clause-sound : goal.returns-in_err-add_row-clause-sound
returns-in_err-add_row-clause-sound g c = λ t shape is none.
    let T = g.P.Pages.tells in
    let a = g.P.Pages.seen c.args.pages.now in
    let b = g.P.Pages.seen c.make_meta.new.pages in
    let p = err_from_is_err_and c.from_residual-in_err-add_row.result c.from_residual-in_err-add_row.ensures.1 in
    no_bad_passed c.add_row.result c.from_residual-in_err-add_row.result c.in_err-add_row.field-0.0 p.0 c.in_err-add_row.was p.1 p.2
    (c.add_row.ensures.sound t (may_take_row shape b c.args.cache c.requires.cache (first_partition a b shape is c.in_ok-make_meta.ensures.edits.same c.in_ok-make_meta.ensures.meta c.make_meta.ensures.readable c.in_ok-make_meta.ensures.new) c.in_ok-make_meta.ensures.meta))

pub returns-clause-sound : goal.returns-clause-sound
returns-clause-sound g c = λ t shape is none id h. absurd (cc h)
