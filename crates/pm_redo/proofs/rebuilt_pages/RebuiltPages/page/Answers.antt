use Rattle.std.proofs.Common.{arith, List, ℕ, Some, ap, sym, ◌∙◌, length}
use Rattle.pm_types.specs.Ids.{part_of_id, index_of_id}
use Rattle.pm_redo.specs.PageMaps.{PageMap, kept_pages}
use Rattle.pm_types.proofs.PageSizeBounds.{page_size_bounds}
use Rattle.pm_redo.proofs.Entries.{found_entry, no_entry}
use Rattle.pm_redo.proofs.rebuilt_pages.RebuiltPages.page.Goals as goal

pub returns-in-Some-clause-page : goal.returns-in-Some-clause-page
returns-in-Some-clause-page c =
    let page = c.args.page in
    ap (λ (l : List ℕ). Some l) c.as_slice.ensures.value
    ∙ sym (found_entry page c.number_of.result c.in-Some.bytes.now c.self.inside.pages.entries c.number_of.ensures c.in-Some.ensures.value)
    ∙ ap (λ (p : PageMap). kept_pages p (part_of_id page) (index_of_id page)) c.self.view_is

pub returns-in-Some-clause-sized : goal.returns-in-Some-clause-sized
returns-in-Some-clause-sized c =
    let page = c.args.page in
    ap length c.as_slice.ensures.value
    ∙ c.self.invariant.each (part_of_id page) (index_of_id page) c.in-Some.bytes.now.items (found_entry page c.number_of.result c.in-Some.bytes.now c.self.inside.pages.entries c.number_of.ensures c.in-Some.ensures.value)
    ∙ ap (λ (p : PageMap). p.shape.page_size) c.self.view_is

pub returns-in-None-clause-page : goal.returns-in-None-clause-page
returns-in-None-clause-page c =
    let page = c.args.page in
    sym (no_entry page c.number_of.result c.self.inside.pages.entries c.number_of.ensures c.in-None.ensures.value)
    ∙ ap (λ (p : PageMap). kept_pages p (part_of_id page) (index_of_id page)) c.self.view_is

pub returns-in-Some-clause-short : goal.returns-in-Some-clause-short
returns-in-Some-clause-short c =
    let page = c.args.page in
    let sized = c.self.invariant.each (part_of_id page) (index_of_id page) c.in-Some.bytes.now.items (found_entry page c.number_of.result c.in-Some.bytes.now c.self.inside.pages.entries c.number_of.ensures c.in-Some.ensures.value) in
    let bounds = page_size_bounds c.self.inside.shape.page_size c.self.invariant.may in
    omega (arith, bounds.1, sized, ap length c.as_slice.ensures.value)
