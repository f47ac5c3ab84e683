use Rattle.std.proofs.Common.{List, subst}
use Rattle.pm_stripe.specs.declared.stripe.Stripe.{Stripe}
use Rattle.pm_ckpt.specs.Dirty.{LeavesFrames}
use Rattle.pm_bench.proofs.OneRound.{none_stays, after_checkpoint}
use Rattle.pm_bench.proofs.checkpoint_tests.one_worker.checkpoint.Goals as goal

pub returns-clause-between : goal.returns-clause-between
returns-clause-between g c =
    let old = g.H.Device.history c.args.host.now in
    let new = g.H.Device.history c.whole-made.new.host in
    let frames = subst (λ (ss : List Stripe). LeavesFrames g.H.Device.tells c.args.locks.now c.args.ckpt.now.shape old new c.whole-made.result c.args.seat.now c.whole-made.new.seat ss) c.from_ref.ensures.value c.whole-made.ensures.frames in
    after_checkpoint g.H.Device.tells old new (g.H.Device.state c.args.host.now) (g.H.Device.state c.whole-made.new.host) c.args.locks.now c.args.ckpt.now.shape c.args.seat.now
    c.whole-made.new.seat c.args.stripe c.has_files.new.self c.requires.between c.requires.shape c.has_files.ensures.same c.has_files.ensures.files c.whole-made.result c.whole-made.ensures.cause frames

pub returns-clause-none : goal.returns-clause-none
returns-clause-none g c =
    let old = g.H.Device.history c.args.host.now in
    let new = g.H.Device.history c.whole-made.new.host in
    let frames = subst (λ (ss : List Stripe). LeavesFrames g.H.Device.tells c.args.locks.now c.args.ckpt.now.shape old new c.whole-made.result c.args.seat.now c.whole-made.new.seat ss) c.from_ref.ensures.value c.whole-made.ensures.frames in
    none_stays g.H.Device.tells old new (g.H.Device.state c.args.host.now) (g.H.Device.state c.whole-made.new.host) c.args.locks.now c.args.ckpt.now.shape c.args.seat.now
    c.whole-made.new.seat c.args.stripe c.has_files.new.self c.requires.between c.requires.shape c.has_files.ensures.same c.has_files.ensures.files c.whole-made.result frames
