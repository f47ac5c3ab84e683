use Rattle.pm_stripe.proofs.CoveredPages.{are_covered}
use Rattle.pm_bench.proofs.worker_pages.handed_over.note.Goals as goal

pub done-requires-clause-covered : goal.done-requires-clause-covered
done-requires-clause-covered g c =
    are_covered g.R.Device.tells g.R.Device.history g.R.Device.state c.ready.new.self c.note_if_there.new.pages (c.in_ok-ready.ensures.ready c.requires.part) c.in_ok-ready.ensures.begins.none_held c.note_if_there.ensures.kept c.note_if_there.ensures.notes
