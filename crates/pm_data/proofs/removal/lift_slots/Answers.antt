use Rattle.std.proofs.Common.{arith}
use Rattle.pm_data.proofs.Lifting.{lifting_none, lifting_more}
use Rattle.pm_data.proofs.removal.lift_slots.Goals as goal

pub slots-init : goal.slots-init
slots-init c = lifting_none c.args.page.now c.put_slot.new.page c.args.item c.args.count c.requires.item c.requires.within c.put_slot.ensures.outside c.put_slot.ensures.slot

pub slots-preserved : goal.slots-preserved
slots-preserved c = lifting_more c.args.page.now c.slots.page c.lift.new.page c.get_slot-gone.result c.args.item c.slots.at c.args.count c.get_slot-gone.ensures c.slots.invariant c.slots-test.true (omega (arith, c.slots.invariant.outside.size)) c.requires.item c.lift.ensures.outside c.lift.ensures.slot
