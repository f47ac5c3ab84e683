use Rattle.std.proofs.Common.{subst, ◌∙◌}
use Rattle.pm_stripe.specs.Begins.{IsOwnPart}
use Rattle.pm_bench.proofs.worker_pages.kept_pages.look_in_rounds.Goals as goal

pub next_round-pages-requires-clause-own : goal.next_round-pages-requires-clause-own
next_round-pages-requires-clause-own g c = subst (IsOwnPart c.look.new.pages) (c.look.ensures.stays ∙ c.rounds.invariant.part) c.look.ensures.part
