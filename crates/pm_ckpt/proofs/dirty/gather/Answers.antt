use Rattle.std.proofs.Common.{length, ap, arith}
use Rattle.pm_ckpt.proofs.Listed.{below_few}
use Rattle.pm_ckpt.proofs.dirty.gather.Goals as goal

pub arrange_frames-requires : goal.arrange_frames-requires
arrange_frames-requires c =
    omega (arith, ap length c.list_dirty.ensures.pages, below_few c.args.stripes.now c.args.seat.now.view (length c.args.locks.now.ranges), c.requires.frames, c.requires.names_room)
