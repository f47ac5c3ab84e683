use Rattle.pm_stripe.proofs.ReadableParts.{reads_by_parts}
use Rattle.pm_stripe.proofs.laws.pages_at_hand_are_those_of_partitions.Goals as goal

pub returns : goal.returns
returns c = reads_by_parts
