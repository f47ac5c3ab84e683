use Rattle.std.proofs.Common.{ap, ◌∙◌}
use Rattle.pm_pages.specs.PageLists.{pages_in}
use Rattle.pm_pages.specs.Rows.{page_at}
use Rattle.pm_pages.specs.Chains.{next_of, bucket_chain}
use Rattle.pm_pages.proofs.Walks.{one_turn_more}
use Rattle.pm_pages.proofs.well_formed.chains.bucket_chain.Goals as goal

pub turns-preserved : goal.turns-preserved
turns-preserved c =
    one_turn_more (λ i. next_of (page_at (pages_in c.args.pages.now) i)) c.turns.chain.items c.push.new.self.items (bucket_chain (pages_in c.args.pages.now) c.args.bucket) c.turns.turns c.turns.at c.next-at.result
    c.turns.invariant c.turns-test.true c.if-at-ne0.true c.in_ok-push.ensures.items (c.next-at.ensures ∙ ap next_of c.page.ensures.bytes)
