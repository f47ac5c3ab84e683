use Rattle.pm_disk.specs.States.{IsLaterState}
use Rattle.std.proofs.Common.{◌≡◌, ◌⊎◌, ◌<◌, ◌-◌, [], true}
use Rattle.pm_types.specs.declared.limits.TheConstants.{SCRIPT_BYTES_MAX, LINES_MAX}
use Rattle.pm_disk.specs.Moments.{AllMoments}
use Rattle.pm_script.specs.Reading.{OnlyTakes, IsWithinLine, rest_of, KnowsEnd}
use Rattle.pm_script.proofs.lines.Lines.advance.Given as goal

abbrev pub invariant-pieces : goal.invariant-pieces
invariant-pieces g l =
    let state = g.H.Device.state in
    let history = g.H.Device.history in
    record {
      same_lines : l.self.lines ≡ l.fn.self.lines;
      is_open : l.self.is_open ≡ true;
      counted : (l.self.line ≡ []) ⊎ (l.self.lines < LINES_MAX);
      state : IsLaterState (state l.fn.host) (state l.host);
      end : g.H.Device.tells → KnowsEnd l.self (history l.host).world;
      takes : g.H.Device.tells → AllMoments (history l.fn.host) (history l.host) (OnlyTakes (history l.fn.host).world);
      going : g.H.Device.tells → IsWithinLine l.fn.self l.self (rest_of l.fn.self (history l.fn.host).world) (rest_of l.self (history l.host).world);
    }

abbrev pub decreases-pieces : goal.decreases-pieces
decreases-pieces g l = SCRIPT_BYTES_MAX - l.self.bytes
