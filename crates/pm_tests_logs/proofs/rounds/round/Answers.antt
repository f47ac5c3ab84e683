-- The log part and the writer began as the host, and each pair of their moments is one of the round.
use Rattle.std.proofs.Common.{◌≤◌, ℕ, length, sym, subst}
use Rattle.pm_disk.specs.Files.{File, content, bytes_of}
use Rattle.pm_disk.specs.Moments.{AllMoments}
use Rattle.pm_tests_logs.specs.Rounds.{RoundMoment}
use Rattle.pm_tests_logs.proofs.RoundMoments.{round_moments, left_by_round}
use Rattle.pm_tests_logs.proofs.rounds.round.Goals as goal

pub append-appended-requires-clause-reached : goal.append-appended-requires-clause-reached
append-appended-requires-clause-reached g c t =
    let told = g.met.H.Host.parts_tell.2.0 t in
    subst (λ (f : ℕ → File). c.args.at ≤ length (bytes_of (content (f c.args.seg)))) (sym ((c.in_ok-lent.ensures.begin told).log).segments) (c.requires.reached told)

pub returns-then-is_ok-clause-moments : goal.returns-then-is_ok-clause-moments
returns-then-is_ok-clause-moments g c = λ t.
    let at = g.H.Device.history in
    round_moments (at c.args.host.now) (at c.lend.new.self) (at c.take_back.new.self) (g.H.Log.Device.history c.in_ok-lent.lent.log) (g.H.Log.Device.history c.append-appended.new.log)
    (g.H.Writer.Device.history c.in_ok-lent.lent.writer) (g.H.Writer.Device.history c.write_due-written.new.writer) _ c.args.seg c.args.at c.args.bytes.now c.args.page c.args.image.now (g.H.Device.sound c.args.host.now t) (c.in_ok-lent.ensures.does t)
    (c.in_ok-lent.ensures.begin t).log (c.append-appended.ensures.moments (g.met.H.Host.parts_tell.2.1 t)) (c.in_ok-lent.ensures.begin t).writer (c.write_due-written.ensures.moments (g.met.H.Host.parts_tell.1.1 t)) (c.take_back.ensures.joins t)

pub returns-then-is_ok-clause-crash : goal.returns-then-is_ok-clause-crash
returns-then-is_ok-clause-crash g c = λ t w left was leaves.
    let at = g.H.Device.history in
    let moments : AllMoments (at c.args.host.now) (at c.take_back.new.self) (RoundMoment (at c.args.host.now).world c.args.seg c.args.at c.args.bytes.now c.args.page c.args.image.now) =
    round_moments (at c.args.host.now) (at c.lend.new.self) (at c.take_back.new.self) (g.H.Log.Device.history c.in_ok-lent.lent.log) (g.H.Log.Device.history c.append-appended.new.log)
    (g.H.Writer.Device.history c.in_ok-lent.lent.writer) (g.H.Writer.Device.history c.write_due-written.new.writer) _ c.args.seg c.args.at c.args.bytes.now c.args.page c.args.image.now (g.H.Device.sound c.args.host.now t) (c.in_ok-lent.ensures.does t)
    (c.in_ok-lent.ensures.begin t).log (c.append-appended.ensures.moments (g.met.H.Host.parts_tell.2.1 t)) (c.in_ok-lent.ensures.begin t).writer (c.write_due-written.ensures.moments (g.met.H.Host.parts_tell.1.1 t)) (c.take_back.ensures.joins t) in
    left_by_round (at c.args.host.now).world w c.args.seg c.args.at c.args.bytes.now c.args.page c.args.image.now left (c.requires.reached t) (moments.each w was) leaves

pub returns-else-is_ok-clause-moments : goal.returns-else-is_ok-clause-moments
returns-else-is_ok-clause-moments g c = λ t.
    let at = g.H.Device.history in
    round_moments (at c.args.host.now) (at c.lend.new.self) (at c.take_back.new.self) (g.H.Log.Device.history c.in_ok-lent.lent.log) (g.H.Log.Device.history c.append-appended.new.log)
    (g.H.Writer.Device.history c.in_ok-lent.lent.writer) (g.H.Writer.Device.history c.write_due-written.new.writer) _ c.args.seg c.args.at c.args.bytes.now c.args.page c.args.image.now (g.H.Device.sound c.args.host.now t) (c.in_ok-lent.ensures.does t)
    (c.in_ok-lent.ensures.begin t).log (c.append-appended.ensures.moments (g.met.H.Host.parts_tell.2.1 t)) (c.in_ok-lent.ensures.begin t).writer (c.write_due-written.ensures.moments (g.met.H.Host.parts_tell.1.1 t)) (c.take_back.ensures.joins t)

pub returns-else-is_ok-clause-crash : goal.returns-else-is_ok-clause-crash
returns-else-is_ok-clause-crash g c = λ t w left was leaves.
    let at = g.H.Device.history in
    let moments : AllMoments (at c.args.host.now) (at c.take_back.new.self) (RoundMoment (at c.args.host.now).world c.args.seg c.args.at c.args.bytes.now c.args.page c.args.image.now) =
    round_moments (at c.args.host.now) (at c.lend.new.self) (at c.take_back.new.self) (g.H.Log.Device.history c.in_ok-lent.lent.log) (g.H.Log.Device.history c.append-appended.new.log)
    (g.H.Writer.Device.history c.in_ok-lent.lent.writer) (g.H.Writer.Device.history c.write_due-written.new.writer) _ c.args.seg c.args.at c.args.bytes.now c.args.page c.args.image.now (g.H.Device.sound c.args.host.now t) (c.in_ok-lent.ensures.does t)
    (c.in_ok-lent.ensures.begin t).log (c.append-appended.ensures.moments (g.met.H.Host.parts_tell.2.1 t)) (c.in_ok-lent.ensures.begin t).writer (c.write_due-written.ensures.moments (g.met.H.Host.parts_tell.1.1 t)) (c.take_back.ensures.joins t) in
    left_by_round (at c.args.host.now).world w c.args.seg c.args.at c.args.bytes.now c.args.page c.args.image.now left (c.requires.reached t) (moments.each w was) leaves
