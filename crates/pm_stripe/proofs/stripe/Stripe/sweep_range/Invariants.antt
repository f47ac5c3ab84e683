use Rattle.std.proofs.Common.{◌≡◌, ◌<◌, ◌≤◌, length}
use Rattle.pm_types.specs.declared.limits.TheConstants.{OP_PAGES}
use Rattle.pm_stripe.specs.Sweeps.{TriesFrames}
use Rattle.pm_stripe.specs.Stripes.{kept, SameButFrames}
use Rattle.pm_stripe.proofs.stripe.Stripe.sweep_range.Given as goal

-- the frames before this one were tried
abbrev pub invariant-frames : goal.invariant-frames
invariant-frames l = record {
  tries : TriesFrames l.locks (kept l.initial.self l.initial.seat) (kept l.self l.seat) l.fn.from l.frame;
  same : SameButFrames l.initial.self l.self;
  after : l.fn.from ≤ l.frame;
  within : l.frame ≤ l.fn.upto;
  enough : length l.initial.self.free.items ≡ OP_PAGES → l.frame ≡ l.fn.from;
  idle : l.frame ≡ l.fn.from → l.self.next ≡ l.initial.self.next;
  still : l.frame ≡ l.fn.from → l.self.free.items ≡ l.initial.self.free.items;
  moved : l.fn.from < l.frame → l.self.next ≡ l.frame;
}
