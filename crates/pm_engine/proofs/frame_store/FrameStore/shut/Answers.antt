use Rattle.std.proofs.lemmas.Bool.{false≢true}
use Rattle.pm_engine.proofs.frame_store.FrameStore.shut.Goals as goal

pub invariant_of-self : goal.invariant_of-self
invariant_of-self c = record {
  seat = c.self.invariant.seat;
  outbox = c.self.invariant.outbox;
  counted = c.self.invariant.counted;
  open_is = λ on. absurd (false≢true on);
  frames = c.self.invariant.frames;
  size = c.self.invariant.size;
  ranges = c.self.invariant.ranges;
}
