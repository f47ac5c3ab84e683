use Rattle.std.proofs.Common.{List, take, get_or, sym, subst, arith}
use Rattle.std.proofs.lemmas.List.{take_more, take_all}
use Rattle.pm_types.specs.declared.flag.Flag.TheVariants as flag
use Rattle.pm_ckpt.specs.declared.frame_page.FramePage.{FramePage}
use Rattle.pm_ckpt.specs.Frames.{CleansFrames}
use Rattle.pm_ckpt.proofs.Flagging.{apart_before, flagged_still, cleans_none, cleans_more}
use Rattle.pm_ckpt.proofs.cleaning.make_clean.Goals as goal

pub each-init : goal.each-init
each-init c = record { seat = c.requires.seat; clean = cleans_none c.args.seat.now.view }

pub clean_one-requires-clause-done : goal.clean_one-requires-clause-done
clean_one-requires-clause-done c =
    let none : FramePage = record { page = record { 0 = 0 }; frame = 0; tag = 0 } in
    let pages = c.args.pages.now in
    let i = c.each.page-index in
    let apart = apart_before pages i none c.each-test.true c.requires.apart in
    flagged_still c.args.locks.now flag.Done c.args.seat.now.view c.each.seat.view (get_or pages i none)
    (c.each.invariant.clean.others (get_or pages i none).frame apart) (c.requires.done i none c.each-test.true)

pub each-preserved : goal.each-preserved
each-preserved c =
    let none : FramePage = record { page = record { 0 = 0 }; frame = 0; tag = 0 } in
    let pages = c.args.pages.now in
    let i = c.each.page-index in
    let old = c.args.seat.now.view in
    let new = c.clean_one.new.seat.view in
    record {
      seat = c.clean_one.ensures.seat;
      clean = subst (λ (ps : List FramePage). CleansFrames ps old new) (sym (take_more pages i none c.each-test.true))
          (cleans_more (take i pages) (get_or pages i none) old c.each.seat.view new (apart_before pages i none c.each-test.true c.requires.apart) c.each.invariant.clean c.clean_one.ensures.clean);
    }

pub returns-clause-clean : goal.returns-clause-clean
returns-clause-clean c =
    let pages = c.args.pages.now in
    subst (λ (ps : List FramePage). CleansFrames ps c.args.seat.now.view c.each.seat.view) (take_all c.each.page-index pages (omega arith)) c.each.invariant.clean
