use Rattle.std.proofs.Common.{◌≡◌, ℕ, length, List, vec_capacity}
use Rattle.pm_engine.specs.OutboxLogs.{SpellNumbers}
use Rattle.pm_engine.proofs.OutboxLoops.{NotesSome}
use Rattle.pm_engine.proofs.outbox_log.note_operations.Given as goal

abbrev pub invariant-each : goal.invariant-each
invariant-each l = record {
  numbers : (numbers : List ℕ) → SpellNumbers l.bytes numbers → NotesSome l.rest numbers l.fn.order.items l.order.items;
  capacity : vec_capacity l.order ≡ vec_capacity l.fn.order;
}

abbrev pub decreases-each : goal.decreases-each
decreases-each l = length l.rest
