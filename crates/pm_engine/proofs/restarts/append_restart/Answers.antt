use Rattle.std.proofs.Common.{List, ℕ, [], ◌∷◌, Ok, subst}
use Rattle.pm_frame.specs.declared.kinds.TheConstants.{RESTART}
use Rattle.pm_disk.specs.declared.failed.Failed.{Failed}
use Rattle.pm_engine.specs.AppendRuns.{AppendsAll}
use Rattle.pm_engine.proofs.AppendChains.{one_failed, one_appended}
use Rattle.pm_engine.proofs.Results.{on_err}
use Rattle.pm_engine.proofs.restarts.append_restart.Goals as goal

pub returns-in_err-append-clause-appends : goal.returns-in_err-append-clause-appends
returns-in_err-append-clause-appends g c =
    let old = g.H.Device.history c.args.host.now in
    let new = g.H.Device.history c.append.new.dev in
    let answer = c.from_residual.result in
    subst (λ (p : List ℕ). AppendsAll g.H.Device.tells old new answer c.args.log.now c.append.new.self (record { kind = RESTART; payload = p } ∷ [])) c.restart_payload.ensures.payload
    (one_failed g.H.Device.tells old new c.args.log.now c.append.new.self (record { kind = RESTART; payload = c.restart_payload.result }) answer (on_err answer c.from_residual.ensures.0) (λ t. (c.append.ensures.steps t).moments))

pub returns-clause-appends : goal.returns-clause-appends
returns-clause-appends g c =
    let old = g.H.Device.history c.args.host.now in
    let new = g.H.Device.history c.append.new.dev in
    subst (λ (p : List ℕ). AppendsAll {T = Unit {0}} {E = Failed} g.H.Device.tells old new (Ok tt) c.args.log.now c.append.new.self (record { kind = RESTART; payload = p } ∷ [])) c.restart_payload.ensures.payload
    (one_appended g.H.Device.tells old new c.args.log.now c.append.new.self (record { kind = RESTART; payload = c.restart_payload.result }) c.in_ok-append.ensures.grown (λ t. c.in_ok-append.ensures.ends t)
    (λ t. (c.in_ok-append.ensures.steps t).all) (λ t. (c.in_ok-append.ensures.steps t).moments))
