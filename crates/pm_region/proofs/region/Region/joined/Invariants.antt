use Rattle.std.proofs.Common.{vec_len}
use Rattle.pm_region.proofs.Joins.{IsJoined}
use Rattle.pm_region.proofs.region.Region.joined.Given as goal

abbrev pub invariant-joins : goal.invariant-joins
invariant-joins l = IsJoined l.self l.leases.items l.room.origin l.room.len

abbrev pub decreases-joins : goal.decreases-joins
decreases-joins l = vec_len l.leases
