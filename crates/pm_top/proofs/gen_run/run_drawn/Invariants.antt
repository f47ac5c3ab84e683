use Rattle.std.proofs.Common.{◌≡◌, ◌-◌, ◌≤◌, ℕ, Bool}
use Rattle.std.specs.List.{All}
use Rattle.pm_disk.specs.States.{IsLaterState}
use Rattle.pm_model.specs.Eval.{replies_to}
use Rattle.pm_engine.specs.Engines.{map_in}
use Rattle.pm_engine.specs.FrameOpenings.{IsReadyOver}
use Rattle.pm_engine.specs.FrameStores.{pages_in_frames}
use Rattle.pm_engine.specs.MetPages.{AllowsLine, KeepsPagesBut}
use Rattle.pm_tools.specs.DrawnLines.{drawn_lines}
use Rattle.pm_top.specs.DrawnSteps.{HasRunDrawn, IfCanRun}
use Rattle.pm_top.specs.FrameRests.{IsServing}
use Rattle.pm_top.specs.ReplyCounts.{counted_in, counts_of}
use Rattle.pm_top.specs.Runs.{TakesFor}
use Rattle.pm_top.proofs.DrawnScripts.{DrawnFirst}
use Rattle.pm_top.proofs.gen_run.run_drawn.Given as goal

abbrev pub invariant-batches : goal.invariant-batches
invariant-batches g l =
    let tells = g.H.Device.tells in
    let state = g.H.Device.state in
    let old = g.H.Device.history l.fn.host in
    let now = g.H.Device.history l.host in
    let first = l.fn.engine in
    let lines = drawn_lines l.fn.seed 1 l.many in
    record {
      within : l.many ≤ l.count;
      drawn : DrawnFirst l.fn.seed 1 l.many lines l.drawing;
      state : IsLaterState (state l.fn.host) (state l.host);
      serving : IsServing l.config l.engine;
      ready : tells → IsReadyOver l.engine now.world;
      numbers : TakesFor l.many first l.engine;
      few : counted_in l.counts ≤ l.many;
      counts : IfCanRun tells first old.world (l.counts ≡ counts_of (replies_to first.store.shape lines (map_in first old.world)));
      ran : HasRunDrawn tells old now first l.engine lines;
      pages : tells → (may_change : ℕ → Bool) → All (AllowsLine may_change first.store.shape) lines
          → KeepsPagesBut may_change (pages_in_frames first.store old.world) (pages_in_frames l.engine.store now.world);
    }

abbrev pub decreases-batches : goal.decreases-batches
decreases-batches g l = l.count - l.many
