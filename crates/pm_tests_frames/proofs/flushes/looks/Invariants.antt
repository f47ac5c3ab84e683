use Rattle.pm_locks.specs.Rounds.{IsWorkers}
use Rattle.pm_tests_frames.proofs.flushes.looks.Given as goal

abbrev pub invariant-frames : goal.invariant-frames
invariant-frames l = IsWorkers l.locks 0 l.owner
