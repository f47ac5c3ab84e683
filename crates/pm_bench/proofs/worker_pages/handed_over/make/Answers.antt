use Rattle.pm_stripe.proofs.CoveredPages.{are_covered}
use Rattle.pm_bench.proofs.worker_pages.handed_over.make.Goals as goal

pub done-requires-clause-covered : goal.done-requires-clause-covered
done-requires-clause-covered g c =
    are_covered g.R.Device.tells g.R.Device.history g.R.Device.state c.ready.new.self c.make_page.new.pages (c.in_ok-ready.ensures.ready c.requires.part) c.in_ok-ready.ensures.begins.none_held c.make_page.ensures.kept c.make_page.ensures.notes
