use Rattle.std.proofs.Common.{◌+◌, ◌<◌, length, length-append, ap, ◌∙◌, arith, refl}
use Rattle.pm_types.specs.declared.limits.TheConstants.{OP_PAGES}
use Rattle.pm_stripe.specs.Stripes.{kept}
use Rattle.pm_stripe.proofs.SweptFrames.{tries_none, tries_one, tries_then}
use Rattle.pm_stripe.proofs.stripe.Stripe.sweep_range.Goals as goal

pub frames-preserved : goal.frames-preserved
frames-preserved c =
    let x = c.frames.invariant in
    let y = c.steal_one.ensures in
    let k = kept c.frames.self c.frames.seat in
    let room : length c.frames.self.free.items < OP_PAGES = omega (arith, x.tries.few, c.if-len.false, c.len.ensures) in
    record {
      tries = tries_then c.args.locks.now (kept c.args.self.now c.args.seat.now) k (kept c.steal_one.new.self c.steal_one.new.seat) c.args.from c.frames.frame (c.frames.frame + 1) x.after (omega arith) x.tries
          (tries_one c.args.locks.now k (kept c.steal_one.new.self c.steal_one.new.seat) c.frames.frame c.steal_one.result y.steals y.meets room y.exact y.sight);
      same = record { number = y.same.number ∙ x.same.number; shape = y.same.shape ∙ x.same.shape; files = y.same.files ∙ x.same.files; is_running = y.same.is_running ∙ x.same.is_running; outbox = y.same.outbox ∙ x.same.outbox };
      after = omega (arith, x.after);
      within = omega (arith, c.frames-test.true);
      enough = λ full. absurd (omega (arith, full, x.tries.few, ap length x.tries.gathers.free, length-append c.args.self.now.free.items x.tries.gathers.more, room));
      idle = λ e. absurd (omega (arith, e, x.after));
      still = λ e. absurd (omega (arith, e, x.after));
      moved = λ _. y.same.next;
    }

pub frames-init : goal.frames-init
frames-init c = record {
  tries = tries_none c.args.locks.now (kept c.args.self.now c.args.seat.now) c.args.from c.requires.holds c.requires.few;
  same = record { number = refl; shape = refl; files = refl; is_running = refl; outbox = refl };
  after = omega arith;
  within = c.requires.order;
  enough = λ _. refl;
  idle = λ _. refl;
  still = λ _. refl;
  moved = λ lt. absurd (omega (arith, lt));
}
