use Rattle.std.proofs.Common.{◌≡◌, inr, ℕ, List, Vec, true, sym, ◌∙◌, ap, subst, ◌⊎◌}
use Rattle.std.specs.declared.alloc.Global.{Global}
use Rattle.std.specs.Prelude.{IsSome, is_some}
use Rattle.pm_types.specs.declared.page_id.PageId.{PageId}
use Rattle.pm_core.specs.PageSets.{has_index}
use Rattle.pm_redo.specs.declared.rebuilt_pages.PageNumber.{PageNumber}
use Rattle.pm_redo.specs.PageMaps.{PageMap, pages_in, seen, kept_pages}
use Rattle.pm_redo.proofs.Entries.{bytes_in}
use Rattle.pm_redo.proofs.Listed.{listed_more, all_listed}
use Rattle.pm_redo.proofs.rebuilt_pages.RebuiltPages.pages.Goals as goal

pub each-init : goal.each-init
each-init c part index some =
    inr (ap (λ (es : List (PageNumber × Vec ℕ Global)). is_some (pages_in (seen bytes_in es) part index)) c.into_iter-number-iterator.ensures.into_iter_gives.0
    ∙ ap (λ (p : PageMap). is_some (kept_pages p part index)) c.self.view_is ∙ some)

pub each-preserved : goal.each-preserved
each-preserved c part index some =
    subst (λ (l : List PageId). (has_index part index l ≡ true) ⊎ IsSome (pages_in (seen bytes_in c.next.new.self) part index)) (sym c.in_ok-push.ensures.items)
    (listed_more part index c.each.pages.items c.page_of.result c.each.number-iterator c.next.new.self c.in-Some.number.now _ c.in-Some.ensures.steps c.page_of.ensures.part c.page_of.ensures.index (c.each.invariant part index some))

pub returns : goal.returns
returns c part index some = all_listed part index c.each.pages.items c.each.number-iterator c.in-None.ensures.steps.0 (c.each.invariant part index some)
