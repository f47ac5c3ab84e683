-- The copies are put in order.
use Rattle.std.proofs.Common.{◌≡◌, ◌++◌, ℕ, List, sym, ◌∙◌, ap, subst}
use Rattle.std.specs.Ordering.{nat_cmp}
use Rattle.std.specs.BTreeMap.{insert_entry}
use Rattle.std.specs.Map.{keys_of}
use Rattle.std.specs.List.Sorted.{IsStrictlySortedBy}
use Rattle.std.proofs.lemmas.List.{append-nil}
use Rattle.pm_disk_mem.specs.Tracks.{Track}
use Rattle.pm_disk_mem.specs.Disks.{seen}
use Rattle.pm_disk_mem.proofs.Maps.{seen-same, same_tracks}
use Rattle.pm_disk_mem.proofs.Orders.{made_more, keys_of-seen}
use Rattle.pm_disk_mem.proofs.family.Family.copy.Goals as goal

abbrev as_it_is : Track → Track
as_it_is t = t

pub loop-number-preserved : goal.loop-number-preserved
loop-number-preserved c =
    let given = c.into_iter-number-iterator.ensures.into_iter_gives in
    let all = c.into_iter-number-iterator.result in
    let sorted_all = subst (λ (l : List (ℕ × Track)). IsStrictlySortedBy nat_cmp (keys_of l)) (sym given.0) given.5 in
    let sorted = subst (λ (l : List ℕ). IsStrictlySortedBy nat_cmp l) (sym (keys_of-seen as_it_is all)) sorted_all in
    made_more as_it_is c.loop-number.copy.files.entries c.put.new.self.files.entries c.loop-number.number-iterator c.next.new.self (seen as_it_is all) c.in-Some.number.now c.in-Some.file.now
    c.loop-number.invariant c.in-Some.ensures.steps sorted
    (c.in_ok-put.ensures ∙ ap (λ (t : Track). insert_entry nat_cmp c.loop-number.copy.files.entries c.in-Some.number.now t) c.in_ok-copy.ensures)

pub returns : goal.returns
returns c =
    let entries = c.loop-number.copy.files.entries in
    let made : entries ≡ c.args.self.now.files.entries =
    sym (append-nil entries)
    ∙ ap (λ (l : List (ℕ × Track)). entries ++ seen as_it_is l) (sym c.in-None.ensures.steps.0)
    ∙ c.loop-number.invariant
    ∙ seen-same c.into_iter-number-iterator.result
    ∙ c.into_iter-number-iterator.ensures.into_iter_gives.0 in
    same_tracks c.args.self.now.files.entries entries made
