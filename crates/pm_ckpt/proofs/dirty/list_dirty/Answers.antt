use Rattle.std.proofs.Common.{◌≡◌, ◌<◌, ◌++◌, length, sym, ◌∙◌, ap, arith}
use Rattle.pm_locks.specs.Views.{known_at, out_at}
use Rattle.pm_locks.specs.declared.view.View.{View}
use Rattle.pm_locks.specs.Words.{LockWord}
use Rattle.pm_ckpt.specs.Dirty.{dirty_below, dirty_page}
use Rattle.pm_ckpt.proofs.Listed.{below_few, below_more, looked_once, met_known, known_after, same_sight}
use Rattle.pm_ckpt.proofs.dirty.list_dirty.Goals as goal

pub list_one-requires-clause-room : goal.list_one-requires-clause-room
list_one-requires-clause-room c =
    omega (arith, ap length c.each.invariant.pages, below_few c.args.stripes.now c.args.seat.now.view c.each.f, c.each-test.true, c.each.invariant.capacity, c.requires.room)

pub each-preserved : goal.each-preserved
each-preserved c =
    let locks = c.args.locks.now in
    let old = c.args.seat.now.view in
    let v = c.each.seat.view in
    let new = c.look-word.new.seat.view in
    let f = c.each.f in
    let word = c.look-word.result in
    let i = c.each.invariant in
    let lt : f < length locks.ranges = omega (arith, c.each-test.true, c.requires.frames) in
    let met = c.look-word.ensures.met in
    let is : word ≡ known_at old f = met_known locks v new f word i.seat.knows lt met ∙ i.words f in
    record {
      seat = record {
        of = c.look-word.ensures.seat;
        knows = c.look-word.ensures.knows i.seat.knows;
        still = λ g. ap (λ (u : View). out_at u.outs g) met.view ∙ i.seat.still g;
      };
      looked = looked_once old v new f word i.looked met.view;
      words = λ g. known_after locks v new f word i.seat.knows lt met g ∙ i.words g;
      pages = c.list_one.ensures.pages ∙ ap (λ ps. ps ++ dirty_page c.args.stripes.now f word) i.pages
          ∙ ap (λ (w : LockWord). dirty_below c.args.stripes.now old f ++ dirty_page c.args.stripes.now f w) is ∙ sym (below_more c.args.stripes.now old f);
      capacity = c.list_one.ensures.capacity ∙ i.capacity;
    }

pub returns-clause-same : goal.returns-clause-same
returns-clause-same c = same_sight c.args.seat.now.view c.each.seat.view c.each.invariant.looked c.each.invariant.words
