use Rattle.std.proofs.Common.{◌∙◌}
use Rattle.pm_locks.proofs.Facts.{leases_back}
use Rattle.pm_tests_frames.proofs.locks.takes.the_leases_of_closed_locks_close_their_region.Goals as goal

pub close-requires : goal.close-requires
close-requires g c = leases_back c.in_ok-region.region c.in_ok-region.leases.items c.close-leases.result.items c.in_ok-region.ensures.leases c.close-leases.ensures.numbers (c.close-leases.ensures.ranges ∙ c.in-Ok.ensures.locks.1)
