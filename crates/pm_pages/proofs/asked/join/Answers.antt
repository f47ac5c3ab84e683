use Rattle.std.proofs.Common.{subst}
use Rattle.pm_types.specs.Spans.{Covers, AlsoCovers}
use Rattle.pm_pages.proofs.WholePages.{joins_whole}
use Rattle.pm_pages.proofs.asked.join.Goals as goal

pub returns-clause-whole : goal.returns-clause-whole
returns-clause-whole c =
    joins_whole c.args.old.now c.args.patch.now c.join.new.self c.len-ranges_before.ensures.patch c.requires.fits c.requires.size
    (subst (λ both. AlsoCovers both c.join.new.self (Covers c.args.patch.now)) c.copy-both.ensures c.join.ensures)
