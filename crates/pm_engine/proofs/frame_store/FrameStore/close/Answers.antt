use Rattle.pm_engine.proofs.RegionLeases.{leases_of}
use Rattle.pm_engine.proofs.frame_store.FrameStore.close.Goals as goal

pub close-requires-2 : goal.close-requires-2
close-requires-2 c = leases_of c.self.inside.locks c.self.inside.region c.close.result.items c.close.ensures.numbers c.close.ensures.ranges c.self.invariant.frames c.self.invariant.ranges
