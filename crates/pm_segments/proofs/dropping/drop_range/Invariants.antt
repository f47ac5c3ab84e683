use Rattle.std.proofs.Common.{◌≡◌, ◌-◌}
use Rattle.pm_types.specs.declared.place.Place.{Place}
use Rattle.pm_disk.specs.Moments.{AllMoments}
use Rattle.pm_disk.specs.States.{IsLaterState}
use Rattle.pm_records.specs.LogSteps.{world_after, DoesPrefix}
use Rattle.pm_segments.specs.Drops.{drop_steps, AreDropped}
use Rattle.pm_segments.proofs.dropping.drop_range.Given as goal

abbrev pub invariant-each : goal.invariant-each
invariant-each g l =
    let old = g.H.Device.history l.fn.host in
    let now = g.H.Device.history l.host in
    record {
      state : IsLaterState (g.H.Device.state l.fn.host) (g.H.Device.state l.host);
      dropped : g.H.Device.tells → AreDropped l.from l.seg old.world now.world;
      moments : g.H.Device.tells → (end : Place) → AllMoments old now (DoesPrefix (drop_steps l.from (l.seg - l.from) old.world) end old.world);
      world : g.H.Device.tells → (end : Place) → now.world ≡ world_after (drop_steps l.from (l.seg - l.from) old.world) end old.world;
    }
