use Rattle.std.proofs.Common.{subst}
use Rattle.pm_records.specs.LogFiles.{contents}
use Rattle.pm_tools.specs.Verifying.{CountsChanges}
use Rattle.pm_tools.proofs.Verified.{none_there}
use Rattle.pm_tools.proofs.verifying.count_changes.Goals as goal

pub returns-then-from-gt-SEGMENT_END_MAX-clause-counts : goal.returns-then-from-gt-SEGMENT_END_MAX-clause-counts
returns-then-from-gt-SEGMENT_END_MAX-clause-counts g c t =
    let old = g.H.Device.history c.args.host.now in
    subst (λ p. CountsChanges (contents old.world.log) p 0) (c.in_ok-from.ensures.place t)
    (none_there (contents old.world.log) c.in_ok-from.from c.if-from-gt-SEGMENT_END_MAX.true)
