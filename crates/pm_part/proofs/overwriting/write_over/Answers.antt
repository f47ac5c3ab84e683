use Rattle.pm_part.proofs.SpotReads.{item_asked}
use Rattle.pm_part.proofs.overwriting.write_over.Goals as goal

pub write_lent-requires-clause-item : goal.write_lent-requires-clause-item
write_lent-requires-clause-item g c = item_asked g.P.Pages.tells (g.P.Pages.seen c.args.pages.now) (g.P.Pages.seen c.change.new.self) c.args.spot.at c.args.spot.item c.requires.meta c.requires.item c.change.ensures.asks

pub returns-clause-kept : goal.returns-clause-kept
returns-clause-kept g c = g.met.P.Pages.kept_then c.args.pages.now c.change.new.self c.write_lent.new.pages c.change.ensures.kept c.write_lent.ensures.kept
