use Rattle.std.proofs.Common.{◌+◌, ◌≤◌}
use Rattle.pm_tests_frames.proofs.page_tables.colliding_pages_are_found_at_full_room.Given as goal

abbrev pub invariant-fills : goal.invariant-fills
invariant-fills g l = 64 ≤ l.table.spare + l.frame
