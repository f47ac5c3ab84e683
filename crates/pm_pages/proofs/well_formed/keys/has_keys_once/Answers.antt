use Rattle.std.proofs.Common.{◌≡◌, ◌≤◌, List, length, sym, ap, subst, ◌∙◌, arith}
use Rattle.std.specs.Prelude.{◌^◌, All}
use Rattle.std.proofs.lemmas.Bool.{eq-eqb, eqb-true}
use Rattle.pm_model.specs.Partitions.{part_of}
use Rattle.pm_pages.specs.declared.row.Row.{Row}
use Rattle.pm_pages.specs.PageLists.{pages_in}
use Rattle.pm_pages.specs.Rows.{page_count}
use Rattle.pm_pages.specs.Trees.{HasTree}
use Rattle.pm_pages.proofs.ListedKeys.{keys_differ, rows_cached}
use Rattle.pm_pages.proofs.well_formed.keys.has_keys_once.Goals as goal

pub returns-then-are_of_part : goal.returns-then-are_of_part
returns-then-are_of_part c =
    let pages = pages_in c.args.pages.now in
    let rows = c.requires.rows in
    let few : page_count pages ≤ 2 ^ 32 = omega (arith, c.requires.few) in (
      λ same. record {
        once = keys_differ c.args.part pages (omega (arith, c.ranges.part.fits)) few (rows_cached c.args.part pages c.requires.readable)
            (λ cache lt. subst (λ (r : List Row). HasTree pages r cache) rows (c.requires.trees cache lt));
        of_part = subst (All (λ row. part_of row.key c.args.shape.now.partitions ≡ c.args.part)) rows (c.are_of_part.ensures.0 c.if-are_of_part.true);
        counted = sym c.number.ensures ∙ eqb-true c.number.result (length c.args.rows.now) same ∙ ap length rows;
      },
      λ has. eq-eqb c.number.result (length c.args.rows.now) (c.number.ensures ∙ has.counted ∙ sym (ap length rows)),
    )
