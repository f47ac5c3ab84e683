use Rattle.std.proofs.Common.{ℕ, List, Option, map, sym, ap, ◌∙◌, subst}
use Rattle.atomic_table.specs.Table.{opening}
use Rattle.pm_region.specs.Lease.{Leased}
use Rattle.pm_locks.specs.Rule.{IsLawful}
use Rattle.pm_locks.specs.declared.view.Start.{Start}
use Rattle.pm_locks.specs.Opening.{AreFirst, first_view}
use Rattle.pm_locks.specs.Views.{IsOwnAlone}
use Rattle.pm_locks.specs.Kinds.{Seated}
use Rattle.pm_locks.proofs.Openings.{opens, first_alone}
use Rattle.pm_locks.proofs.Knowing.{knows_first}
use Rattle.pm_locks.proofs.Moving.{some_injective}
use Rattle.pm_locks.proofs.locks.Locks.start.Goals as goal

pub new-requires : goal.new-requires
new-requires c =
    let k = c.args.workers in let leases = c.args.leases.items in
    let words = c.in-Ok.words.items in
    let at_start = opens k words leases c.requires.workers.0 c.requires.workers.1 c.requires.numbers (subst (λ n. AreFirst k n words) (c.len-frames.ensures ∙ c.args.leases.ok.0) c.in-Ok.ensures) in
    subst (λ (p : List Leased × List ℕ × List (Option Leased)). IsLawful k (map (λ y. y.range) p.0) (opening p.1 p.2 (first_view k p.0)))
    (λ i. (sym (ap (λ v. v.items) c.of.ensures) i, sym c.deref.ensures.value i, sym c.into_slots-leases.ensures.slots i)) at_start

pub invariant_of-result : goal.invariant_of-result
invariant_of-result c =
    let e = c.in-Ok-new.ensures.ok.4 in (
      ap (λ (m : Seated). m.1) e,
      ap (λ (m : Seated). m.0.hand) e,
      ap (λ (m : Seated). m.0.numbers) e,
      subst IsOwnAlone (sym (ap (λ (m : Seated). m.0) e)) (first_alone c.args.workers c.of.result.value.items c.requires.workers.0),
    )

pub returns-clause-refused : goal.returns-clause-refused
returns-clause-refused c =
    some_injective c.out_of_slots.result.items c.args.leases.items
    (c.out_of_slots.ensures ∙ c.in-Err.ensures.err ∙ c.into_slots-leases.ensures.slots)

pub returns-in-Ok-new-clause-knows : goal.returns-in-Ok-new-clause-knows
returns-in-Ok-new-clause-knows c = knows_first _ _ c.args.workers c.args.leases.items
    (ap (λ (k : Start). map (λ (y : Leased). y.range) k.leases.value.items) c.in-Ok-new.ensures.ok.5 ∙ ap (λ l. map (λ (y : Leased). y.range) l) (ap (λ v. v.items) c.of.ensures))
    (ap (λ (m : Seated). m.0) c.in-Ok-new.ensures.ok.4 ∙ ap (λ l. first_view c.args.workers l) (ap (λ v. v.items) c.of.ensures))
