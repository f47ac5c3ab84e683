use Rattle.std.proofs.Common.{◌≡◌, ◌<◌, length, sym, ◌∙◌, ap, arith}
use Rattle.pm_locks.specs.Views.{known_at, out_at}
use Rattle.pm_locks.specs.declared.view.View.{View}
use Rattle.pm_ckpt.proofs.Listed.{looked_once, met_known, known_after}
use Rattle.pm_engine.proofs.FrameDirtyCounts.{count_few, count_more}
use Rattle.pm_engine.proofs.frame_dirty.count_dirty.Goals as goal

pub overflow_add-count : goal.overflow_add-count
overflow_add-count c =
    omega (arith, count_few c.args.stripe.now c.args.seat.now.view c.each.f c.each.count c.each.invariant.counts, c.dirty_in-count.ensures.few, c.each-test.true, c.ranges.frames.fits)

pub each-preserved : goal.each-preserved
each-preserved c =
    let locks = c.args.locks.now in
    let old = c.args.seat.now.view in
    let v = c.each.seat.view in
    let new = c.look-word.new.seat.view in
    let f = c.each.f in
    let word = c.look-word.result in
    let i = c.each.invariant in
    let lt : f < length locks.ranges = omega (arith, c.each-test.true, c.requires.frames) in
    let met = c.look-word.ensures.met in
    let is : word ≡ known_at old f = met_known locks v new f word i.seat.knows lt met ∙ i.words f in
    record {
      seat = record {
        of = c.look-word.ensures.seat;
        knows = c.look-word.ensures.knows i.seat.knows;
        still = λ g. ap (λ (u : View). out_at u.outs g) met.view ∙ i.seat.still g;
      };
      table = c.look-word.ensures.seat.of ∙ sym i.seat.of.of ∙ i.table;
      looked = looked_once old v new f word i.looked met.view;
      words = λ g. known_after locks v new f word i.seat.knows lt met g ∙ i.words g;
      counts = count_more c.args.stripe.now old f c.each.count c.dirty_in-count.result word i.counts is c.dirty_in-count.ensures.counts;
    }

pub returns-clause-looks : goal.returns-clause-looks
returns-clause-looks c =
    let i = c.each.invariant in
    record { seat = λ j. record { table = i.table j; view = i.looked j }; words = i.words }
