use Rattle.std.proofs.Common.{◌≡◌}
use Rattle.pm_disk.specs.Moments.{AllMoments}
use Rattle.pm_disk.specs.States.{IsLaterState}
use Rattle.pm_core.specs.Calls.{MakesPrefix, force_steps}
use Rattle.pm_core.specs.Machine.{worlds}
use Rattle.pm_core.specs.States.{State}
use Rattle.pm_core.proofs.forcing.force_parts.Given as goal

abbrev pub invariant-each : goal.invariant-each
invariant-each g l =
    let old = g.H.Device.history l.fn.host in
    let now = g.H.Device.history l.host in
    record {
      state : IsLaterState (g.H.Device.state l.fn.host) (g.H.Device.state l.host);
      moments : g.H.Device.tells → (s : State) → AllMoments old now (MakesPrefix (force_steps 0 l.part l.pages.items) s old.world);
      world : g.H.Device.tells → (s : State) → now.world ≡ worlds (force_steps 0 l.part l.pages.items) s old.world;
    }
