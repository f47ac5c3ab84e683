use Rattle.std.proofs.Common.{◌≡◌, ◌+◌, ◌≤◌, Some, length, arith, rules}
use Rattle.pm_data.specs.DataPages.{rows_of, row_at, room_of}
use Rattle.pm_part.proofs.FreedRoom.{fits_after}
use Rattle.pm_part.proofs.overwriting.way_on.Goals as goal

pub returns-then-len-room-clause-way : goal.returns-then-len-room-clause-way
returns-then-len-room-clause-way c =
    let page = c.args.page.now in
    let live : row_at (rows_of page) c.args.item ≡ Some c.in-Some.row.now = search rules in
    let room : c.args.len + 4 ≤ room_of page + length c.in-Some.row.now = omega (arith, c.if-len-room.true, c.room.ensures.room) in
    λ now edits. fits_after page now c.args.item c.args.len c.in-Some.row.now c.requires.page edits live room
