use Rattle.pm_region.proofs.Joins.{IsJoined-last, IsJoined-more, joins_on}
use Rattle.pm_region.proofs.region.Region.joined.Goals as goal

pub joins-init : goal.joins-init
joins-init c =
    let lies = c.into_span-room.ensures in
    IsJoined-last c.args.self.now c.args.leases.items c.pop.new.self.items c.in-Some.last _ _ c.in-Some.ensures.items c.requires lies.0 lies.1

pub join-room-requires : goal.join-room-requires
join-room-requires c =
    let lies = c.into_span.ensures in
    joins_on c.args.self.now c.joins.leases.items c.pop-in-joins.new.self.items c.in-Some-pop.lease _ _ c.in-Some-pop.ensures.items _ _ c.joins.invariant lies.0 lies.1

pub joins-preserved : goal.joins-preserved
joins-preserved c =
    let lies = c.into_span.ensures in let joined = c.join-room.ensures in
    rw (joined.lies, joined.long) (IsJoined-more c.args.self.now c.joins.leases.items c.pop-in-joins.new.self.items c.in-Some-pop.lease _ _ c.in-Some-pop.ensures.items _ _ c.joins.invariant lies.0 lies.1)
