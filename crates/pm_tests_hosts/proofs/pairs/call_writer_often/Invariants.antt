-- The page may be written, and the writer is later than it was.
use Rattle.pm_disk.specs.States.{IsLaterState, MayWrite}
use Rattle.pm_tests_hosts.proofs.pairs.call_writer_often.Given as goal

abbrev pub invariant-loop-call : goal.invariant-loop-call
invariant-loop-call g l = record {
  later : IsLaterState (g.W.Device.state l.initial.writer) (g.W.Device.state l.writer);
  allowed : MayWrite (g.W.Device.state l.writer) l.page;
}
