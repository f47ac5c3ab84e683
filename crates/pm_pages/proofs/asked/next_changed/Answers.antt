use Rattle.std.proofs.Common.{◌+◌, get_or, sym, subst, arith}
use Rattle.std.proofs.lemmas.Option.{slice_get-get_or}
use Rattle.pm_pages.proofs.NextChanges.{FoundLeast, found_more, next_found}
use Rattle.pm_pages.proofs.asked.next_changed.Goals as goal

pub each-preserved : goal.each-preserved
each-preserved c =
    let asked = c.args.asked.now in
    let one = get_or asked c.each.i c.index-asked-i.result in
    record {
      within = omega (arith, c.each.invariant.within, c.each-test.true);
      found = subst (λ least. FoundLeast asked c.args.from (c.each.i + 1) least) (sym c.lower-least.ensures)
          (found_more asked c.args.from c.each.i c.each.least one c.each.invariant.found
          (slice_get-get_or asked c.each.i c.index-asked-i.result c.each-test.true));
    }

pub returns : goal.returns
returns c = next_found c.args.asked.now c.args.from c.each.least
    (subst (λ n. FoundLeast c.args.asked.now c.args.from n c.each.least) (omega (arith, c.each.invariant.within, c.each-test.false)) c.each.invariant.found)
