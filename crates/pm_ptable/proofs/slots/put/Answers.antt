use Rattle.pm_ptable.proofs.Rows.{IsRow-put, map_of-put, room_left}
use Rattle.pm_ptable.proofs.slots.put.Goals as goal

pub returns-clause-row : goal.returns-clause-row
returns-clause-row c =
    IsRow-put c.args.homes c.args.slots.now c.args.entry c.slot_for-at.result c.requires.row c.slot_for-at.ensures.index (room_left c.slot_for-at.ensures.found c.requires.room)

pub returns-clause-entries : goal.returns-clause-entries
returns-clause-entries c = map_of-put c.args.homes c.args.slots.now c.args.entry c.slot_for-at.result c.requires.row c.slot_for-at.ensures.index
