use Rattle.std.proofs.Common.{ap, arith}
use Rattle.std.proofs.lemmas.Result.{on_ok_weaker}
use Rattle.pm_segments.specs.Ends.{LogEnd}
use Rattle.pm_segments.proofs.log.Log.make_room.Goals as goal

pub returns-clause-room : goal.returns-clause-room
returns-clause-room g c =
    on_ok_weaker c.roll.result (λ is.
    omega (arith, c.requires.short, c.self.invariant.size_from, ap (λ (l : LogEnd). l.segment_bytes) c.self.view_is, ap (λ (l : LogEnd). l.segment_bytes) is, ap (λ (l : LogEnd). l.end.off) is))
    c.roll.ensures.rolled
