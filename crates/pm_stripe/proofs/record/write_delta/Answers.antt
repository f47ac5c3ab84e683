use Rattle.std.proofs.Common.{length, sym, ap, rules, arith}
use Rattle.pm_types.proofs.PageSizeBounds.{page_size_bounds}
use Rattle.pm_pages.specs.Deltas.{delta_of}
use Rattle.pm_stripe.proofs.Spelling.{delta_written, delta_logged}
use Rattle.pm_stripe.proofs.DeltaRooms.{delta_short}
use Rattle.pm_stripe.proofs.record.write_delta.Goals as goal

pub overflow_add-len : goal.overflow_add-len
overflow_add-len c = omega (arith, c.ranges_len-len.ensures, delta_short c.args.patch.now c.len-count.ensures.patch, (page_size_bounds c.args.patch.now.page_size c.len-count.ensures.patch.size).1)

pub overflow_add-end : goal.overflow_add-end
overflow_add-end c = omega (arith, c.ranges_len-len.ensures, delta_short c.args.patch.now c.len-count.ensures.patch, (page_size_bounds c.args.patch.now.page_size c.len-count.ensures.patch.size).1)

pub split_at_mut-written-requires : goal.split_at_mut-written-requires
split_at_mut-written-requires c = omega (arith, c.ranges_len-len.ensures, delta_short c.args.patch.now c.len-count.ensures.patch, c.requires.patched, c.requires.room)

pub overflow_cast-len : goal.overflow_cast-len
overflow_cast-len c = omega (arith, c.ranges_len-len.ensures, delta_short c.args.patch.now c.len-count.ensures.patch, (page_size_bounds c.args.patch.now.page_size c.len-count.ensures.patch.size).1)

pub returns-clause-short : goal.returns-clause-short
returns-clause-short c = omega (arith, c.ranges_len-len.ensures, delta_short c.args.patch.now c.len-count.ensures.patch, c.requires.patched)

pub returns-clause-written : goal.returns-clause-written
returns-clause-written c =
    delta_written c.args.page c.args.bytes.now c.args.patch.now.spans c.ranges_len-len.result c.copy_from_slice.new.self c.copy_from_slice-2.new.self c.write_ranges.new.into c.split_at_mut-written.result.1.now
    (search rules) (search rules) (search rules) c.write_ranges.ensures.written (search rules)

pub returns-clause-logged : goal.returns-clause-logged
returns-clause-logged c =
    delta_logged c.args.page (delta_of c.args.bytes.now c.args.patch.now.spans)
    (omega (arith, ap length (sym c.write_ranges.ensures.written), c.write_ranges.auto.into, c.ranges_len-len.ensures, c.split_at_mut-written.ensures.front_len, c.split_at_mut-head.ensures.back_len, c.split_at_mut-name.ensures.back_len, delta_short c.args.patch.now c.len-count.ensures.patch, (page_size_bounds c.args.patch.now.page_size c.len-count.ensures.patch.size).1))
