use Rattle.pm_frame.proofs.Blocks.{fold-words}
use Rattle.pm_frame.proofs.checksum.after_halves.Goals as goal

pub returns : goal.returns
returns c =
    let e = fold-words c.args.register c.args.front.now c.args.back.now c.told-front c.fits-front c.told-back c.fits-back in
    cc
