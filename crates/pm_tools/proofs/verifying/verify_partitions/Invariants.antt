use Rattle.std.proofs.Common.{◌≡◌, ◌*◌, ◌^◌, ◌≤◌}
use Rattle.pm_disk.specs.Moments.{AllMoments}
use Rattle.pm_disk.specs.States.{IsLaterState}
use Rattle.pm_core.specs.BasePages.{Partitions}
use Rattle.pm_redo.specs.Loading.{BaseIs}
use Rattle.pm_redo.specs.Rebuilding.{IsSame}
use Rattle.pm_tools.specs.Verifying.{HasCounted}
use Rattle.pm_tools.proofs.verifying.verify_partitions.Given as goal

abbrev pub invariant-each : goal.invariant-each
invariant-each g l =
    let state = g.H.Device.state in
    let old = g.H.Device.history l.fn.host in
    let now = g.H.Device.history l.host in
    record {
      state : IsLaterState (state l.fn.host) (state l.host);
      upto : l.part ≤ l.fn.shape.partitions;
      pages : l.counts.pages ≤ l.part * 2 ^ 32;
      rows : l.counts.rows ≤ l.part * 2 ^ 32;
      same : g.H.Device.tells → AllMoments old now (IsSame old.world);
      world : g.H.Device.tells → now.world ≡ old.world;
      counted : g.H.Device.tells → (base : Partitions) → BaseIs l.fn.pictures old.world base → HasCounted l.fn.shape base l.part l.counts;
    }
