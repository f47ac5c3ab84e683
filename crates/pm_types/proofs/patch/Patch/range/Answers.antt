use Rattle.std.proofs.Common.{refl, arith}
use Rattle.pm_types.proofs.Coverages.{range_of_view}
use Rattle.pm_types.proofs.patch.Patch.range.Goals as goal

pub overflow_sub-result : goal.overflow_sub-result
overflow_sub-result c = let is = range_of_view _ _ c.self.inside.spans c.args.i c.self.inside.count (record { start = 0; end = 0 }) c.self.invariant.0 refl c.self.invariant.1 c.self.view_is c.requires in omega (arith, is.some)

pub returns-clause-range : goal.returns-clause-range
returns-clause-range c = (range_of_view _ _ c.self.inside.spans c.args.i c.self.inside.count (record { start = 0; end = 0 }) c.self.invariant.0 refl c.self.invariant.1 c.self.view_is c.requires).here

pub returns-clause-some : goal.returns-clause-some
returns-clause-some c = let is = range_of_view _ _ c.self.inside.spans c.args.i c.self.inside.count (record { start = 0; end = 0 }) c.self.invariant.0 refl c.self.invariant.1 c.self.view_is c.requires in omega (arith, is.some)

pub returns-clause-within : goal.returns-clause-within
returns-clause-within c = let is = range_of_view _ _ c.self.inside.spans c.args.i c.self.inside.count (record { start = 0; end = 0 }) c.self.invariant.0 refl c.self.invariant.1 c.self.view_is c.requires in omega (arith, is.some, is.within)
