use Rattle.std.proofs.Common.{◌≤◌, vec_capacity}
use Rattle.pm_region.proofs.Cuts.{IsCut}
use Rattle.pm_region.proofs.region.leases_of.Given as goal

abbrev pub invariant-cuts : goal.invariant-cuts
invariant-cuts l = record {
  cut : IsCut l.fn.rest.origin l.frames l.size l.number l.leases.items l.rest.origin l.rest.len;
  room : l.frames ≤ vec_capacity l.leases;
}
