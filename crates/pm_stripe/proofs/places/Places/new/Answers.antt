use Rattle.std.proofs.Common.{◌≡◌, Option, None, replicate, length, rules, ap, arith}
use Rattle.std.proofs.lemmas.List.{length-replicate}
use Rattle.pm_types.specs.declared.page_id.PageId.{PageId}
use Rattle.pm_stripe.specs.PlacedPages.{kept_count}
use Rattle.pm_stripe.proofs.PlacedPages.{agree_none, count_none}
use Rattle.pm_stripe.proofs.places.Places.new.Goals as goal

pub invariant_of-result : goal.invariant_of-result
invariant_of-result c =
    let no_page : Option PageId = None in
    let items : c.in_ok-pages.pages.items ≡ replicate c.args.frames None = search rules in record {
      agree = agree_none c.in_ok-table.table.entries c.in_ok-pages.pages.items c.args.frames c.in_ok-table.ensures.entries items;
      few = omega (arith, c.requires.few, ap length items, length-replicate c.args.frames no_page);
      room = omega (arith, c.in_ok-table.ensures.spare, ap kept_count items, count_none c.args.frames, ap length items, length-replicate c.args.frames no_page);
    }
