use Rattle.std.proofs.Common.{ap, ◌∙◌}
use Rattle.pm_pages.specs.PageLists.{pages_in}
use Rattle.pm_pages.specs.Rows.{page_at}
use Rattle.pm_pages.specs.Chains.{reuse_next_of, reuse_chain}
use Rattle.pm_pages.proofs.Walks.{one_turn_more}
use Rattle.pm_pages.proofs.well_formed.chains.reuse_chain.Goals as goal

pub turns-preserved : goal.turns-preserved
turns-preserved c =
    one_turn_more (λ i. reuse_next_of (page_at (pages_in c.args.pages.now) i)) c.turns.chain.items c.push.new.self.items (reuse_chain (pages_in c.args.pages.now)) c.turns.turns c.turns.at c.reuse_next-at.result
    c.turns.invariant c.turns-test.true c.if-at-ne0.true c.in_ok-push.ensures.items (c.reuse_next-at.ensures ∙ ap reuse_next_of c.page.ensures.bytes)
