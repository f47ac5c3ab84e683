use Rattle.std.proofs.Common.{◌<◌, subst}
use Rattle.pm_ptable.specs.Slots.{IsProbeEnd}
use Rattle.pm_ptable.proofs.Probes.{ends_at_slot, found_at_slot}
use Rattle.pm_ptable.proofs.slots.slot_for.Goals as goal

pub returns-clause-index : goal.returns-clause-index
returns-clause-index c =
    let home = c.home.ensures.home in
    ends_at_slot c.args.homes c.args.slots.now c.args.page c.seek.result c.requires (subst (λ h. h < c.args.homes) home c.home.ensures.within)
    (subst (λ h. IsProbeEnd c.args.slots.now h c.args.page c.seek.result) home c.seek.ensures)

pub returns-clause-found : goal.returns-clause-found
returns-clause-found c = found_at_slot c.args.homes c.args.slots.now c.args.page c.seek.result c.requires.single (returns-clause-index c)
