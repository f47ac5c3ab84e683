use Rattle.std.proofs.Common.{◌≤◌, vec_capacity}
use Rattle.pm_locks.specs.Opening.{AreFirst}
use Rattle.pm_locks.proofs.locks.first_words.Given as goal

abbrev pub invariant-words : goal.invariant-words
invariant-words l = AreFirst l.workers l.f l.words.items × (l.frames ≤ vec_capacity l.words)
