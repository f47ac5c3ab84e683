use Rattle.pm_disk.specs.States.{IsLaterState}
use Rattle.std.proofs.Common.{◌≡◌, ◌+◌, ◌-◌, ◌≤◌, ◌<◌, length}
use Rattle.std.specs.List.{All}
use Rattle.pm_types.specs.declared.limits.TheConstants.{BATCH_LINES_MAX, LINES_MAX}
use Rattle.pm_disk.specs.Moments.{AllMoments}
use Rattle.pm_model.specs.Batches.{HasCache}
use Rattle.pm_script.specs.Reading.{rest_of, KnowsEnd, OnlyTakes}
use Rattle.pm_top.specs.Scripts.{LinesAreTaken}
use Rattle.pm_top.proofs.batch.next_batch.Given as goal

abbrev pub invariant-lines : goal.invariant-lines
invariant-lines g l =
    let old = g.H.Device.history l.fn.host in
    let now = g.H.Device.history l.host in
    record {
      few : length l.lines.items < BATCH_LINES_MAX;
      caches : All HasCache l.lines.items;
      count : l.input.lines ≡ l.fn.input.lines + length l.lines.items;
      limit : l.fn.input.lines ≤ LINES_MAX → l.input.lines ≤ LINES_MAX;
      state : IsLaterState (g.H.Device.state l.fn.host) (g.H.Device.state l.host);
      input_end : g.H.Device.tells → KnowsEnd l.input now.world;
      taken : g.H.Device.tells → LinesAreTaken l.fn.input l.input (rest_of l.fn.input old.world) (rest_of l.input now.world) l.lines.items;
      takes : g.H.Device.tells → AllMoments old now (OnlyTakes old.world);
    }

abbrev pub decreases-lines : goal.decreases-lines
decreases-lines g l = BATCH_LINES_MAX - length l.lines.items
