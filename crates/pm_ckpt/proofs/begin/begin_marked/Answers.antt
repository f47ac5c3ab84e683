use Rattle.std.proofs.Common.{ap}
use Rattle.std.proofs.lemmas.Result.{on_ok_weaker}
use Rattle.pm_disk.specs.Worlds.{World}
use Rattle.pm_core.specs.BasePages.{no_pages}
use Rattle.pm_core.specs.Calls.{begin_steps}
use Rattle.pm_core.specs.Machine.{states}
use Rattle.pm_core.specs.Rounds.{on_log}
use Rattle.pm_core.proofs.Making.{moments_first, broke_off}
use Rattle.pm_ckpt.specs.Checkpoints.{opening_steps}
use Rattle.pm_ckpt.specs.Marked.{begin_log}
use Rattle.pm_ckpt.proofs.Opening.{log_moments, log_world, makes_joined, some_state, ends_same}
use Rattle.pm_ckpt.proofs.begin.begin_marked.Goals as goal

pub returns-in_err-append_begin-clause-steps : goal.returns-in_err-append_begin-clause-steps
returns-in_err-append_begin-clause-steps g c t s rebuilt ends =
    let old = g.H.Device.history c.args.host.now in
    let mid = g.H.Device.history c.append_begin.new.host in
    let log = c.args.log.now in
    let mark = c.args.mark in
    broke_off old mid c.from_residual.result (opening_steps log mark rebuilt) s c.from_residual.ensures.0
    (moments_first old mid (on_log (begin_log log mark)) (begin_steps mark rebuilt) s
    (log_moments old mid (begin_log log mark) s log.end ends (c.append_begin.ensures.steps t).moments))

pub returns-clause-ends : goal.returns-clause-ends
returns-clause-ends g c t =
    let mid = g.H.Device.history c.append_begin.new.host in
    let new = g.H.Device.history c.begin.new.host in
    on_ok_weaker c.begin.result
    (λ is. ends_same c.append_begin.new.log mid.world new.world (ap (λ (w : World). w.log) is) (c.in_ok-append_begin.ensures.ends t))
    (c.begin.ensures.steps t (some_state c.args.mark.shape) no_pages).all

pub returns-clause-steps : goal.returns-clause-steps
returns-clause-steps g c t s rebuilt ends =
    let old = g.H.Device.history c.args.host.now in
    let mid = g.H.Device.history c.append_begin.new.host in
    let new = g.H.Device.history c.begin.new.host in
    let log = c.args.log.now in
    let mark = c.args.mark in
    let steps = on_log (begin_log log mark) in
    makes_joined old mid new c.begin.result steps (begin_steps mark rebuilt) s
    (log_moments old mid (begin_log log mark) s log.end ends (c.append_begin.ensures.steps t).moments)
    (log_world old.world mid.world (begin_log log mark) s log.end ends (c.in_ok-append_begin.ensures.steps t).all)
    (c.begin.ensures.steps t (states steps s old.world) rebuilt)
