use Rattle.pm_policies.proofs.Halves.{protects_kept, protects_demoted}
use Rattle.pm_policies.proofs.segments.Segments.protect.Goals as goal

pub returns-then-is_at_most_half : goal.returns-then-is_at_most_half
returns-then-is_at_most_half c = protects_kept c.args.self.now c.place.new.self c.args.frame c.args.stamp c.place.ensures c.if-is_at_most_half.ensures.few

pub returns : goal.returns
returns c = protects_demoted c.args.self.now c.place.new.self c.demote.new.self c.args.frame c.args.stamp c.place.ensures c.if-is_at_most_half.ensures.more c.demote.ensures
