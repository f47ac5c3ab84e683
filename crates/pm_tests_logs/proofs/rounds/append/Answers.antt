-- The segment is as it was, written, or written and forced.
use Rattle.std.proofs.Common.{◌≡◌}
use Rattle.std.proofs.lemmas.Result.{on_ok_weaker}
use Rattle.pm_disk.specs.Worlds.{log_forced}
use Rattle.pm_tests_logs.proofs.RoundMoments.{wrote, forced_too, lasts_then}
use Rattle.pm_tests_logs.proofs.rounds.append.Goals as goal

pub returns-in_err-write_log-clause-moments : goal.returns-in_err-write_log-clause-moments
returns-in_err-write_log-clause-moments g c = λ t.
    let at = g.L.Device.history in
    wrote (at c.args.log.now) (at c.write_log.new.self) c.write_log.result c.args.seg c.args.at c.args.bytes.now (g.L.Device.sound c.args.log.now t) (c.write_log.ensures.does t)

pub returns-clause-moments : goal.returns-clause-moments
returns-clause-moments g c = λ t.
    let at = g.L.Device.history in
    let call = c.in_ok-write_log.ensures.does t in
    forced_too (at c.args.log.now) (at c.write_log.new.self) (at c.force_log.new.self) c.force_log.result c.args.seg c.args.at c.args.bytes.now
    (wrote (at c.args.log.now) (at c.write_log.new.self) _ c.args.seg c.args.at c.args.bytes.now (g.L.Device.sound c.args.log.now t) call) call.ok (c.force_log.ensures.does t)

pub returns-clause-lasts : goal.returns-clause-lasts
returns-clause-lasts g c = λ t.
    let at = g.L.Device.history in
    on_ok_weaker c.force_log.result
    (λ (is : (at c.force_log.new.self).world ≡ log_forced c.args.seg (at c.write_log.new.self).world).
    lasts_then (at c.args.log.now).world (at c.write_log.new.self).world (at c.force_log.new.self).world c.args.seg c.args.at c.args.bytes.now (c.in_ok-write_log.ensures.does t).ok is)
    (c.force_log.ensures.does t).ok
