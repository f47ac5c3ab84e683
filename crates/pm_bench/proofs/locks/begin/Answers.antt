use Rattle.std.proofs.Common.{get_or}
use Rattle.std.proofs.lemmas.Option.{slice_get-get_or}
use Rattle.pm_bench.proofs.locks.begin.Goals as goal

pub returns-clause-seats : goal.returns-clause-seats
returns-clause-seats c = λ k d lt.
    let seats = c.spread.new.into.workers.items in
    (c.spread.ensures.seats.each k (get_or seats k d) (slice_get-get_or seats k d lt)).of
