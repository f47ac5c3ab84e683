use Rattle.std.proofs.Common.{◌≡◌, ℕ, List, drop}
use Rattle.pm_types.specs.declared.shape.Mark.{Mark}
use Rattle.pm_disk.specs.Moments.{AllMoments}
use Rattle.pm_disk.specs.States.{IsLaterState}
use Rattle.pm_core.specs.Calls.{ChangesDisk}
use Rattle.pm_core.specs.States.{State}
use Rattle.pm_redo.specs.Ending.{IsUnended, WritesPages}
use Rattle.pm_redo.proofs.ending.write_pages.Given as goal

abbrev pub invariant-each : goal.invariant-each
invariant-each g l = record {
  state : IsLaterState (g.H.Device.state l.fn.host) (g.H.Device.state l.host);
  written : g.H.Device.tells → (told : List ℕ → ℕ) (mark : Mark) (s : State) → IsUnended mark l.rebuilt s
      → WritesPages told l.rebuilt l.pages.items (drop l.page-index l.page-items) s (g.H.Device.history l.fn.host) (g.H.Device.history l.host);
  log : g.H.Device.tells → (g.H.Device.history l.host).world.log ≡ (g.H.Device.history l.fn.host).world.log;
  disk : g.H.Device.tells → AllMoments (g.H.Device.history l.fn.host) (g.H.Device.history l.host) (ChangesDisk (g.H.Device.history l.fn.host).world);
}
