use Rattle.std.proofs.Common.{length}
use Rattle.std.proofs.lemmas.Option.{slice_get_within}
use Rattle.std.proofs.lemmas.Result.{on_ok_weaker}
use Rattle.pm_logger.specs.Merges.{of_worker}
use Rattle.pm_logger.proofs.Splits.{keeps_beginning}
use Rattle.pm_logger.proofs.logger.Logger.rest.Goals as goal

pub returns-clause-whole : goal.returns-clause-whole
returns-clause-whole g c =
    let merge = c.take_all.ensures.appended in
    on_ok_weaker c.take_all.result (λ emptied room w e from inbox at_e at_from at_inbox.
    keeps_beginning from inbox e (of_worker w merge.entries) (length c.take_all.new.tally.lines) (merge.merges.each w from inbox at_from at_inbox) (emptied w e inbox (slice_get_within c.take_all.new.ends w e at_e) at_e at_inbox) room)
    c.take_all.ensures.emptied
