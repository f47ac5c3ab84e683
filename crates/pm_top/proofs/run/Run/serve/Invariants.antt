use Rattle.pm_disk.specs.States.{IsLaterState}
use Rattle.std.proofs.Common.{ℕ, ◌≡◌, ◌+◌, ◌-◌, ◌≤◌, length, Bool, true, List, ◌++◌, Ok}
use Rattle.std.specs.List.{All}
use Rattle.pm_types.specs.declared.limits.TheConstants.{SCRIPT_BYTES_MAX, LINES_MAX}
use Rattle.pm_types.specs.declared.shape.Shape.{Shape}
use Rattle.pm_disk.specs.Moments.{AllMoments}
use Rattle.pm_script.specs.Reading.{rest_of, KnowsEnd}
use Rattle.pm_model.specs.declared.line.Line.{Line}
use Rattle.pm_engine.specs.FrameOpenings.{IsReadyOver}
use Rattle.pm_engine.specs.FrameStores.{pages_in_frames}
use Rattle.pm_engine.specs.MetPages.{AllowsLine, KeepsPagesBut}
use Rattle.pm_top.specs.Promises.{SameConfig}
use Rattle.pm_top.specs.Runs.{CanRun, GoesOn, KeepsRun, TakesFor}
use Rattle.pm_top.specs.Limits.{after_lines}
use Rattle.pm_top.specs.Served.{script_of}
use Rattle.pm_top.proofs.run.Run.serve.Given as goal

abbrev pub invariant-batches : goal.invariant-batches
invariant-batches g l =
    let tells = g.H.Device.tells in
    let state = g.H.Device.state in
    let old = g.H.Device.history l.fn.host in
    let now = g.H.Device.history l.host in
    let first = l.fn.self in
    record {
      counted : l.run.lines ≡ l.input.lines;
      few : l.input.lines ≤ LINES_MAX;
      state : IsLaterState (state l.fn.host) (state l.host);
      keeps : KeepsRun first l.run;
      is_open : l.run.engine.store.is_open ≡ true;
      numbers : TakesFor l.run.lines first.engine l.run.engine;
      limit : tells → l.input.bytes ≤ SCRIPT_BYTES_MAX;
      input_end : tells → KnowsEnd l.input now.world;
      ready : tells → IsReadyOver l.run.engine now.world;
      config : tells → AllMoments old now (SameConfig old.world);
      bytes : tells → l.input.bytes + length (rest_of l.input now.world) ≡ length old.world.input;
      place : tells → rest_of l.input now.world ≡ after_lines l.input.lines old.world.input;
      goes : tells → (wanted : Shape) (last number : ℕ) → CanRun wanted last number first.engine old.world
          → GoesOn {T = Unit {0}} wanted last number old now (script_of old.world.input) (script_of (rest_of l.input now.world)) first l.run (Ok tt);
      first_done : tells → (done : List Line) × (script_of old.world.input ≡ done ++ script_of (rest_of l.input now.world));
      pages : tells → (may_change : ℕ → Bool) → All (AllowsLine may_change first.engine.store.shape) (script_of old.world.input)
          → KeepsPagesBut may_change (pages_in_frames first.engine.store old.world) (pages_in_frames l.run.engine.store now.world);
    }

abbrev pub decreases-batches : goal.decreases-batches
decreases-batches g l = LINES_MAX - l.input.lines
