-- The files are put in order.
use Rattle.std.proofs.Common.{◌≡◌, ◌++◌, ℕ, List, Vec, Some, sym, ◌∙◌, ap, subst}
use Rattle.std.specs.declared.alloc.Global.{Global}
use Rattle.std.specs.Ordering.{nat_cmp}
use Rattle.std.specs.Map.{keys_of}
use Rattle.std.specs.List.Sorted.{IsStrictlySortedBy}
use Rattle.std.proofs.lemmas.List.{append-nil}
use Rattle.pm_disk_mem.specs.Tracks.{Track, new_track}
use Rattle.pm_disk_mem.specs.Disks.{seen}
use Rattle.pm_disk_mem.proofs.Maps.{tracks_made}
use Rattle.pm_disk_mem.proofs.Orders.{made_more, keys_of-seen}
use Rattle.pm_disk_mem.proofs.family.Family.new.Goals as goal

abbrev at_start : Vec ℕ Global → Track
at_start v = new_track (Some v.items)

pub loop-number-preserved : goal.loop-number-preserved
loop-number-preserved c =
    let given = c.into_iter-number-iterator.ensures.into_iter_gives in
    let sorted = subst (λ (l : List ℕ). IsStrictlySortedBy nat_cmp l) (sym (keys_of-seen at_start c.into_iter-number-iterator.result ∙ ap keys_of given.0)) given.5 in
    made_more at_start c.loop-number.family.files.entries c.add.new.self.files.entries c.loop-number.number-iterator c.next.new.self _ c.in-Some.number c.in-Some.bytes
    c.loop-number.invariant c.in-Some.ensures.steps sorted c.in_ok-add.ensures

pub returns : goal.returns
returns c =
    let entries = c.loop-number.family.files.entries in
    let made : entries ≡ seen at_start c.into_files-number-items.result.entries =
    sym (append-nil entries)
    ∙ ap (λ (l : List (ℕ × Vec ℕ Global)). entries ++ seen at_start l) (sym c.in-None.ensures.steps.0)
    ∙ c.loop-number.invariant
    ∙ ap (λ (l : List (ℕ × Vec ℕ Global)). seen at_start l) c.into_iter-number-iterator.ensures.into_iter_gives.0 in
    tracks_made entries c.into_files-number-items.result.entries c.args.contents made c.into_files-number-items.ensures
