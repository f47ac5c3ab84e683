use Rattle.std.proofs.Common.{◌≤◌, sym, subst, arith}
use Rattle.pm_types.specs.declared.place.Place.{Place}
use Rattle.pm_segments.specs.Scans.{IsAhead}
use Rattle.pm_segments.proofs.GrownLog.{still_ahead, nothing_ahead}
use Rattle.pm_engine.proofs.replay_log.keep_ahead.Goals as goal

pub returns-then-stays_ahead-clause-ahead : goal.returns-then-stays_ahead-clause-ahead
returns-then-stays_ahead-clause-ahead c = λ old new is grew.
    let low = c.stays_ahead.ensures c.if-stays_ahead.true in
    let within : c.args.scan.now.next.seg ≤ c.args.before.seg = subst (λ (p : Place). p.seg ≤ c.args.before.seg) c.next_place.ensures low.1 in
    subst (λ s. IsAhead s new) (sym c.look_again.ensures) (still_ahead c.args.scan.now old new (grew low.0 c.args.scan.now.next.seg (omega arith) within) is)

pub returns-clause-ahead : goal.returns-clause-ahead
returns-clause-ahead c = λ old new is grew. subst (λ s. IsAhead s new) (sym c.forget.ensures) (nothing_ahead c.args.scan.now new)
