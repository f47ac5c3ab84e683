use Rattle.std.proofs.Common.{◌≤◌, length}
use Rattle.std.specs.Prelude.{All}
use Rattle.pm_pages.specs.PlainRooms.{AreZeros}
use Rattle.pm_pages.proofs.plain.fill_rooms.Given as goal

-- all that are kept are zeros, and one more with each turn
abbrev pub invariant-rooms : goal.invariant-rooms
invariant-rooms l = record {
  zeros : All (AreZeros l.page_size) l.rooms.items;
  as_many : l.counter ≤ length l.rooms.items;
  more : length l.initial.rooms.items ≤ length l.rooms.items;
}
