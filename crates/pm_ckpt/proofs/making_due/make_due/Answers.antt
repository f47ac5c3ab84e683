use Rattle.std.proofs.Common.{List, take, get_or, sym, subst, arith}
use Rattle.std.proofs.lemmas.List.{take_more, take_all}
use Rattle.pm_types.specs.declared.flag.Flag.TheVariants as flag
use Rattle.pm_ckpt.specs.declared.frame_page.FramePage.{FramePage}
use Rattle.pm_ckpt.specs.Frames.{SetsFlags}
use Rattle.pm_ckpt.proofs.Flagging.{apart_before, flagged_still, sets_none, sets_more}
use Rattle.pm_ckpt.proofs.making_due.make_due.Goals as goal

pub each-init : goal.each-init
each-init c = record { seat = c.requires.seat; due = sets_none flag.Due c.args.seat.now.view }

pub make_one-requires-clause-dirty : goal.make_one-requires-clause-dirty
make_one-requires-clause-dirty c =
    let none : FramePage = record { page = record { 0 = 0 }; frame = 0; tag = 0 } in
    let pages = c.args.pages.now in
    let i = c.each.page-index in
    let apart = apart_before pages i none c.each-test.true c.requires.apart in
    flagged_still c.args.locks.now flag.Dirty c.args.seat.now.view c.each.seat.view (get_or pages i none)
    (c.each.invariant.due.others (get_or pages i none).frame apart) (c.requires.dirty i none c.each-test.true)

pub each-preserved : goal.each-preserved
each-preserved c =
    let none : FramePage = record { page = record { 0 = 0 }; frame = 0; tag = 0 } in
    let pages = c.args.pages.now in
    let i = c.each.page-index in
    let old = c.args.seat.now.view in
    let new = c.make_one.new.seat.view in
    record {
      seat = c.make_one.ensures.seat;
      due = subst (λ (ps : List FramePage). SetsFlags flag.Due ps old new) (sym (take_more pages i none c.each-test.true))
          (sets_more flag.Due (take i pages) (get_or pages i none) old c.each.seat.view new (apart_before pages i none c.each-test.true c.requires.apart) c.each.invariant.due c.make_one.ensures.due);
    }

pub returns-clause-due : goal.returns-clause-due
returns-clause-due c =
    let pages = c.args.pages.now in
    subst (λ (ps : List FramePage). SetsFlags flag.Due ps c.args.seat.now.view c.each.seat.view) (take_all c.each.page-index pages (omega arith)) c.each.invariant.due
