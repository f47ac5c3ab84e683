-- The page is written or not.
use Rattle.pm_tests_logs.proofs.RoundMoments.{wrote_page}
use Rattle.pm_tests_logs.proofs.rounds.write_due.Goals as goal

pub returns-clause-moments : goal.returns-clause-moments
returns-clause-moments g c = λ t.
    let at = g.W.Device.history in
    wrote_page (at c.args.writer.now) (at c.write_page.new.self) c.write_page.result c.args.page c.args.bytes.now (g.W.Device.sound c.args.writer.now t) (c.write_page.ensures.writes t)
