use Rattle.std.proofs.lemmas.Result.{err_from_is_err_and}
use Rattle.pm_pages.proofs.SoundPages.{no_bad_passed}
use Rattle.pm_part.proofs.SoundPuts.{may_take_row}
use Rattle.pm_part.proofs.ReplacedKeys.{refused, new_put}
use Rattle.pm_part.specs.Puts.{MayAddRow}
use Rattle.pm_part.proofs.HeldSpare.{held_spare}
use Rattle.pm_part.proofs.CacheIndexes.{index_of}
use Rattle.pm_pages.proofs.ToldPages.{number_told}
use Rattle.pm_meta.specs.declared.slots.MetaSlot.TheVariants.{Rows}
use Rattle.std.proofs.Common.{◌+◌}
use Rattle.std.proofs.Common.{arith}
use Rattle.pm_part.proofs.Swaps.{pages_looked, pages_more}
use Rattle.pm_pages.proofs.EditedPages.{looks_at_none, looks_more}
use Rattle.pm_part.proofs.putting.put_next.Goals as goal

pub returns-then-rows-max_rows-clause-changes : goal.returns-then-rows-max_rows-clause-changes
returns-then-rows-max_rows-clause-changes g c =
    let T = g.P.Pages.tells in
    let a = g.P.Pages.seen c.args.pages.now in
    pages_more T a a 0 21 (omega arith) (pages_looked T a a 0 c.requires.meta (looks_at_none T a))

pub returns-then-rows-max_rows-clause-puts : goal.returns-then-rows-max_rows-clause-puts
returns-then-rows-max_rows-clause-puts g c = λ t shape for none value row_is.
    let a = g.P.Pages.seen c.args.pages.now in (
      for.partition,
      refused shape a c.args.max_rows c.args.cache c.args.key.now value c.requires.cache for none (omega (arith, c.if-rows-max_rows.true, number_told a Rows c.args.rows c.requires.rows)),
    )

pub returns-clause-puts : goal.returns-clause-puts
returns-clause-puts g c = λ t shape for none value row_is.
    let a = g.P.Pages.seen c.args.pages.now in
    let b = g.P.Pages.seen c.add_row.new.pages in
    let is = for.partition in
    let ix = index_of shape a c.args.cache is.page_size is.max_rows is.well_formed c.requires.cache in
    let adds = c.in_ok-add_row.ensures.adds t (held_spare shape a.part a.pages is.well_formed) ix.height ix.nodes ix.items ix.index in
    let may : MayAddRow shape a c.args.rows c.args.cache c.args.key.now = record { partition = is; counted = number_told a Rows c.args.rows c.requires.rows; few = omega (arith, c.if-rows-max_rows.false, for.most, is.max_rows); mine = for.mine; lacks = none } in (
      c.in_ok-add_row.ensures.stays t shape may value row_is,
      new_put shape a b.pages c.args.max_rows c.args.cache (c.args.rows + 1) c.args.key.now value c.args.row.now c.requires.cache for none row_is (omega (arith, c.if-rows-max_rows.false, number_told a Rows c.args.rows c.requires.rows, is.well_formed.keys_once.counted)) adds,
    )

pub returns-then-rows-max_rows-clause-sound : goal.returns-then-rows-max_rows-clause-sound
returns-then-rows-max_rows-clause-sound g c = λ t shape is id h. absurd (cc h)

pub returns-in_err-add_row-clause-sound : goal.returns-in_err-add_row-clause-sound
returns-in_err-add_row-clause-sound g c = λ t shape is.
    let a = g.P.Pages.seen c.args.pages.now in
    let p = err_from_is_err_and c.from_residual.result c.from_residual.ensures.1 in
    no_bad_passed c.add_row.result c.from_residual.result c.in_err-add_row.field-0.0 p.0 c.in_err-add_row.was p.1 p.2 (c.add_row.ensures.sound t (may_take_row shape a c.args.cache c.requires.cache is c.requires.meta))

pub returns-clause-sound : goal.returns-clause-sound
returns-clause-sound g c = λ t shape is id h. absurd (cc h)

pub returns-then-rows-max_rows-clause-refused : goal.returns-then-rows-max_rows-clause-refused
returns-then-rows-max_rows-clause-refused g c = λ no.
    let T = g.P.Pages.tells in
    let a = g.P.Pages.seen c.args.pages.now in
    looks_more T a a 0 21 (omega arith) (looks_at_none T a)
