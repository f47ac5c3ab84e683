-- What is left of the files is put in order.
use Rattle.std.proofs.Common.{ℕ, List, sym, subst}
use Rattle.std.specs.Ordering.{nat_cmp}
use Rattle.std.specs.Map.{keys_of}
use Rattle.std.specs.List.Sorted.{IsStrictlySortedBy}
use Rattle.pm_disk_mem.specs.Tracks.{Track}
use Rattle.pm_disk_mem.specs.Changes.{bytes_in}
use Rattle.pm_disk_mem.proofs.Picking.{picked, could_more, pick_more, sorted_picked, image_picked, image_leaves}
use Rattle.pm_disk_mem.proofs.family.Family.image.Goals as goal

pub loop-number-preserved : goal.loop-number-preserved
loop-number-preserved c =
    let given = c.into_iter-number-iterator.ensures.into_iter_gives in
    let sorted = subst (λ (l : List (ℕ × Track)). IsStrictlySortedBy nat_cmp (keys_of l)) (sym given.0) given.5 in
    let all = picked c.args.pick c.into_iter-number-iterator.result in
    let was = c.loop-number in
    record {
      picked = pick_more was.contents all was.rest c.left.new.pick was.number-iterator c.next.new.self c.in-Some.number.now c.in-Some.file.now was.invariant.picked c.in-Some.ensures.steps c.in_ok-left.ensures.next
          c.put_left.new.self (bytes_in c.in_ok-left.left) c.in_ok-put_left.ensures.put c.in_ok-left.ensures.left (sorted_picked c.args.pick c.into_iter-number-iterator.result sorted);
      each = λ each. was.invariant.each (could_more was.number-iterator c.next.new.self c.in-Some.number.now c.in-Some.file.now c.in-Some.ensures.steps c.left.ensures.could each);
    }

pub returns-clause-picked : goal.returns-clause-picked
returns-clause-picked c =
    let given = c.into_iter-number-iterator.ensures.into_iter_gives in
    image_picked c.args.pick c.loop-number.rest c.into_iter-number-iterator.result c.args.self.now.files.entries c.loop-number.number-iterator c.loop-number.contents
    c.in-None.ensures.steps.0 c.loop-number.invariant.picked given.0 given.5

pub returns-clause-leaves : goal.returns-clause-leaves
returns-clause-leaves c =
    let given = c.into_iter-number-iterator.ensures.into_iter_gives in
    image_leaves c.args.pick c.loop-number.rest c.into_iter-number-iterator.result c.args.self.now.files.entries c.loop-number.number-iterator c.loop-number.contents
    c.in-None.ensures.steps.0 c.loop-number.invariant.picked given.0 given.5 c.loop-number.invariant.each
