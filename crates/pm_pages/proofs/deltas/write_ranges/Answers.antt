use Rattle.std.proofs.Common.{ℕ, List, length, subst, sym, arith}
use Rattle.pm_types.specs.Spans.{span_of}
use Rattle.pm_types.specs.DeltaRanges.{IsDelta}
use Rattle.pm_types.proofs.PageSizeBounds.{page_size_bounds}
use Rattle.pm_pages.specs.Deltas.{GivesPage}
use Rattle.pm_pages.proofs.WrittenRanges.{room_for, first_written, one_more, all_written, is_delta, gives_page, delta_wider}
use Rattle.pm_pages.proofs.deltas.write_ranges.Goals as goal

pub each-init : goal.each-init
each-init c = first_written c.args.page.now c.args.patch.now.spans c.args.into.now c.len.result c.requires.room c.len.ensures.number

pub put_range-end-requires-clause-room : goal.put_range-end-requires-clause-room
put_range-end-requires-clause-room c =
    omega (arith, room_for c.args.page.now c.args.patch.now.spans c.each.into c.each.end c.each.i (span_of c.range-start.result.0 c.range-start.result.1) c.each.invariant c.range-start.ensures.range)

pub each-preserved : goal.each-preserved
each-preserved c =
    one_more c.args.page.now c.args.patch.now.spans c.each.into c.put_range-end.new.into c.each.end c.put_range-end.result c.each.i (span_of c.range-start.result.0 c.range-start.result.1)
    c.each.invariant c.range-start.ensures.range (omega (arith, c.put_range-end.ensures.end)) c.put_range-end.ensures.size c.put_range-end.ensures.written

pub returns-clause-written : goal.returns-clause-written
returns-clause-written c = all_written c.args.page.now c.args.patch.now.spans c.each.into c.each.end c.each.i c.each.invariant (omega (arith, c.len-i-end.ensures.number, c.each-test.false))

pub returns-clause-delta : goal.returns-clause-delta
returns-clause-delta c =
    subst (λ (t : List ℕ). IsDelta (length c.args.page.now) t) (sym (returns-clause-written c)) (is_delta c.args.page.now c.args.patch.now c.len.ensures.patch c.requires.some c.requires.size)

pub returns-clause-gives : goal.returns-clause-gives
returns-clause-gives c =
    subst (λ (t : List ℕ). GivesPage t c.args.patch.now c.args.page.now) (sym (returns-clause-written c)) (gives_page c.args.page.now c.args.patch.now c.len.ensures.patch c.requires.part c.requires.size)

pub returns-clause-grammar : goal.returns-clause-grammar
returns-clause-grammar c =
    delta_wider (length c.args.page.now) 16384 c.each.into (omega (arith, (page_size_bounds c.args.patch.now.page_size c.len.ensures.patch.size).1, c.requires.size)) (returns-clause-delta c)
