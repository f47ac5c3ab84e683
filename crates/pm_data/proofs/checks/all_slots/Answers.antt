use Rattle.std.proofs.Common.{length, take, arith, ◌∙◌, ◌<◌}
use Rattle.std.proofs.lemmas.List.{length-take-le, length-set, get_or-take, get_or-set_same, get_or-set_other}
use Rattle.std.proofs.lemmas.List.FromFn.{fill_by_all}
use Rattle.pm_data.specs.DataPages.{slot_at}
use borrow.Author.Count.{below_more}
use Rattle.pm_data.proofs.checks.all_slots.Goals as goal

pub items-preserved : goal.items-preserved
items-preserved c =
    let slots = c.items.slots in
    let i = c.items.item in
    let within : i < length slots = omega (arith, c.items.invariant.size) in
    record {
      size = length-set slots i c.get_slot.result ∙ c.items.invariant.size;
      read = below_more _ _
          (λ k lt. get_or-set_other slots i k c.get_slot.result (record { start = 0; len = 0 }) (omega arith) ∙ c.items.invariant.read k lt)
          (get_or-set_same slots i c.get_slot.result (record { start = 0; len = 0 }) within ∙ c.get_slot.ensures);
    }

pub returns : goal.returns
returns c =
    let slots = c.items.slots in
    fill_by_all (slot_at c.args.page.now) (take c.args.count slots) c.args.count (record { start = 0; len = 0 })
    (length-take-le c.args.count slots (omega (arith, c.items.invariant.size)))
    (λ k lt. get_or-take c.args.count slots k (record { start = 0; len = 0 }) lt ∙ c.items.invariant.read k (omega arith))
