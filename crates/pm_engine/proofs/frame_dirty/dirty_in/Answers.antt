use Rattle.std.proofs.Common.{None, arith}
use Rattle.pm_ckpt.proofs.Listed.{named_page}
use Rattle.pm_engine.proofs.FrameDirtyCounts.{none_in}
use Rattle.pm_engine.proofs.frame_dirty.dirty_in.Goals as goal

pub returns-in-None-clause-counts : goal.returns-in-None-clause-counts
returns-in-None-clause-counts c =
    let places = c.args.stripe.now.places in
    none_in c.args.stripe.now c.args.f c.args.word (omega (arith, c.if-owner-ne0.false, c.owner.ensures))
    (named_page places.table.entries places.pages.items c.args.f None places.agree c.in-None.ensures)
