-- The pairs of the partitions are read, one partition after the other.
use Rattle.std.proofs.Common.{◌≡◌, ℕ, map, sym, ap, subst, ◌∙◌, arith}
use Rattle.std.specs.List.{range_with_len}
use Rattle.std.specs.Vec.{vec_capacity}
use Rattle.pm_types.specs.declared.fault.PageFault.TheVariants.{Failed, BadPage}
use Rattle.pm_model.specs.Eval.{pairs_of}
use Rattle.pm_core.specs.BasePages.{Partitions}
use Rattle.pm_engine.specs.declared.frame_scans.ScanStop.TheVariants.{Faulted}
use Rattle.pm_engine.specs.FrameCommands.{frame_pages}
use Rattle.pm_engine.specs.MetPages.{MeetsBadPage}
use Rattle.pm_engine.specs.PagedStores.{part_map}
use Rattle.pm_engine.proofs.FrameScans.{looks_refl, looks_then, owns_still, reading_begins, reading_goes_on, well_still, same_stop}
use Rattle.pm_engine.proofs.frame_scans.pairs_by_partition.Goals as goal

pub returns-in_default-clause-looks : goal.returns-in_default-clause-looks
returns-in_default-clause-looks g c =
    looks_refl g.R.Device.tells g.R.Device.history g.R.Device.state c.args.bound.now c.requires.between

pub each-init : goal.each-init
each-init g c =
    reading_begins g.R.Device.tells g.R.Device.history g.R.Device.state c.args.shape c.args.cache c.args.bound.now c.in-Ok.found.items (vec_capacity c.in-Ok.found) c.requires.between c.in-Ok.ensures.items (omega (arith, c.in-Ok.ensures.capacity))

pub pairs_of_partition-requires-clause-between : goal.pairs_of_partition-requires-clause-between
pairs_of_partition-requires-clause-between g c =
    let tells = g.R.Device.tells in
    let history = g.R.Device.history in
    let state = g.R.Device.state in
    let b = c.args.bound.now in
    let m = c.each.bound in
    let so_far = c.each.invariant in
    so_far.looks.between

pub pairs_of_partition-requires-clause-shape : goal.pairs_of_partition-requires-clause-shape
pairs_of_partition-requires-clause-shape g c =
    let tells = g.R.Device.tells in
    let history = g.R.Device.history in
    let state = g.R.Device.state in
    let b = c.args.bound.now in
    let m = c.each.bound in
    let so_far = c.each.invariant in
    c.requires.shape ∙ sym so_far.looks.same.shape

pub pairs_of_partition-requires-clause-own : goal.pairs_of_partition-requires-clause-own
pairs_of_partition-requires-clause-own g c =
    let tells = g.R.Device.tells in
    let history = g.R.Device.history in
    let state = g.R.Device.state in
    let b = c.args.bound.now in
    let m = c.each.bound in
    let so_far = c.each.invariant in
    owns_still tells history state b m so_far.looks c.requires.own

pub push_reserved-requires : goal.push_reserved-requires
push_reserved-requires g c =
    let tells = g.R.Device.tells in
    let history = g.R.Device.history in
    let state = g.R.Device.state in
    let b = c.args.bound.now in
    let m = c.each.bound in
    let so_far = c.each.invariant in
    omega (arith, so_far.many, so_far.room_for, c.each-test.true)

pub each-preserved : goal.each-preserved
each-preserved g c =
    let x = c.in-Ok-pairs_of_partition in
    reading_goes_on g.R.Device.tells g.R.Device.history g.R.Device.state c.args.shape c.args.cache c.args.bound.now c.each.bound c.each.found.items (vec_capacity c.each.found) c.each.part c.each.invariant
    c.pairs_of_partition.new.bound c.push_reserved.new.self.items x.pairs (vec_capacity c.push_reserved.new.self) c.each-test.true x.ensures.looks c.push_reserved.ensures.capacity c.push_reserved.ensures.items x.ensures.pairs

pub returns-in-Err-clause-looks : goal.returns-in-Err-clause-looks
returns-in-Err-clause-looks g c =
    let tells = g.R.Device.tells in
    let history = g.R.Device.history in
    let state = g.R.Device.state in
    let b = c.args.bound.now in
    let m = c.each.bound in
    let so_far = c.each.invariant in
    looks_then tells history state b m c.pairs_of_partition.new.bound so_far.looks c.in-Err.ensures.looks

pub returns-in-Err-clause-cause : goal.returns-in-Err-clause-cause
returns-in-Err-clause-cause g c =
    let tells = g.R.Device.tells in
    let history = g.R.Device.history in
    let state = g.R.Device.state in
    let b = c.args.bound.now in
    let m = c.each.bound in
    let so_far = c.each.invariant in
    λ is.
    let risen = c.in-Err.ensures.cause (same_stop c.in-Err.stop (Faulted Failed) is) in
    let later = so_far.looks.same.later.later in
    omega (arith, risen, later)

pub returns-in-Err-clause-sound : goal.returns-in-Err-clause-sound
returns-in-Err-clause-sound g c =
    let tells = g.R.Device.tells in
    let history = g.R.Device.history in
    let state = g.R.Device.state in
    let b = c.args.bound.now in
    let m = c.each.bound in
    let so_far = c.each.invariant in
    λ t all id is. c.in-Err.ensures.sound t (well_still tells history state c.args.shape c.args.cache b m c.each.found.items (vec_capacity c.each.found) c.each.part so_far t all c.each.part c.each-test.true) id (same_stop c.in-Err.stop (Faulted (BadPage id)) is)

pub returns-clause-looks : goal.returns-clause-looks
returns-clause-looks g c =
    let tells = g.R.Device.tells in
    let history = g.R.Device.history in
    let state = g.R.Device.state in
    let b = c.args.bound.now in
    let m = c.each.bound in
    let so_far = c.each.invariant in
    so_far.looks

pub returns-clause-pairs : goal.returns-clause-pairs
returns-clause-pairs g c = λ t all.
    let pages = frame_pages g.R.Device.history c.args.bound.now in
    let every : c.each.part ≡ c.args.shape.partitions = omega (arith, c.each-test.false, c.each.auto.part-end) in
    c.each.invariant.pairs t all ∙ ap (λ (count : ℕ). map (λ part. pairs_of c.args.cache (part_map pages part)) (range_with_len 0 count)) every

pub returns-in-Err-clause-meets : goal.returns-in-Err-clause-meets
returns-in-Err-clause-meets g c = λ t changed id is.
    let met = c.in-Err.ensures.meets t changed id (same_stop c.in-Err.stop (Faulted (BadPage id)) is) in
    subst (λ (pages : Partitions). MeetsBadPage g.R.Device.tells changed c.args.shape pages id) (c.each.invariant.looks.nothing.told t) met
