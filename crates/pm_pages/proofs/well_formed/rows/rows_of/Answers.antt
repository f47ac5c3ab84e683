use Rattle.std.proofs.Common.{◌≡◌, ℕ, ◌+◌, ◌-◌, ◌<◌, ◌++◌, List, subst, sym, ap, ◌∙◌, arith}
use Rattle.std.specs.List.{flat_map, range_with_len}
use Rattle.pm_types.specs.declared.page_id.PageId.{PageId}
use Rattle.pm_types.specs.Ids.{page_id}
use Rattle.pm_pages.specs.declared.row.Row.{Row}
use Rattle.pm_pages.specs.PageLists.{pages_in}
use Rattle.pm_pages.specs.Rows.{page_at, page_count, rows_on, rows_of}
use Rattle.pm_pages.proofs.RowsFrom.{one_page_more}
use Rattle.pm_pages.proofs.well_formed.rows.rows_of.Goals as goal

pub pages-preserved : goal.pages-preserved
pages-preserved c =
    let f : ℕ → List Row = λ i. rows_on (page_id c.args.part i) (page_at (pages_in c.args.pages.now) i) in
    let i = c.pages.i in
    let n = page_count (pages_in c.args.pages.now) in
    let lt : i < n = omega (arith, c.pages-test.true, c.page_count-i-end.ensures) in
    let added : c.add_rows.new.rows.items ≡ c.pages.rows.items ++ rows_on c.new.result c.page.result.now = c.in_ok-add_rows.ensures in
    let same : rows_on c.new.result c.page.result.now ≡ f i = ap (λ (p : PageId × List ℕ). rows_on p.0 p.1) (λ j. (c.new.ensures j, c.page.ensures.bytes j)) in
    let all = one_page_more f c.pages.rows.items (rows_of c.args.part (pages_in c.args.pages.now)) i n lt c.pages.invariant in
    subst (λ (rows : List Row). rows ++ flat_map f (range_with_len (i + 1) (n - (i + 1))) ≡ rows_of c.args.part (pages_in c.args.pages.now)) (sym (added ∙ ap (λ (t : List Row). c.pages.rows.items ++ t) same)) all
