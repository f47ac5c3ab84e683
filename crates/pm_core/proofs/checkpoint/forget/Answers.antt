use Rattle.std.proofs.Common.{rules, ap, ◌∙◌, reverse}
use Rattle.std.specs.Prelude.{◌==◌, not}
use Rattle.std.proofs.lemmas.Fn.{filter_same}
use Rattle.pm_types.specs.declared.page_id.PageId.{PageId}
use Rattle.pm_core.proofs.Once.{forgets_next, forgets_other, once_then}
use Rattle.pm_core.proofs.checkpoint.forget.Goals as goal

pub returns-then-next-page-clause-left : goal.returns-then-next-page-clause-left
returns-then-next-page-clause-left c =
    forgets_next c.args.left.now.items c.pop.new.self.items c.in-Some.next c.args.page c.in-Some.ensures.items c.if-next-page.true c.requires

pub returns-clause-left : goal.returns-clause-left
returns-clause-left c =
    ap reverse c.push_reserved.ensures.items
    ∙ forgets_other c.args.left.now.items c.pop.new.self.items c.retain.new.self.items c.in-Some.next c.args.page c.in-Some.ensures.items c.if-next-page.false
    (filter_same _ (λ (other : PageId). not (other.0 == c.args.page.0)) _ (λ x b f called. search rules) c.pop.new.self.items c.retain.new.self.items c.retain.ensures.filtered)

pub returns-clause-once : goal.returns-clause-once
returns-clause-once c = once_then c.args.page (reverse c.args.left.now.items) (reverse c.push_reserved.new.self.items) c.requires (returns-clause-left c)
