use Rattle.std.proofs.Common.{◌≡◌, ℕ, min, Ok, refl, sym, ◌∙◌, ap, subst, arith}
use Rattle.pm_types.specs.declared.shape.Mark.{Mark}
use Rattle.pm_disk.specs.Files.{File, content}
use Rattle.pm_disk.specs.Worlds.{World, pages_in}
use Rattle.pm_disk.specs.declared.failed.Failed.{Failed}
use Rattle.pm_core.specs.BasePages.{no_pages}
use Rattle.pm_core.specs.PageSets.{Running}
use Rattle.pm_core.proofs.OnlyDisk.{makes_disk, logs_disk, then_disk}
use Rattle.pm_ckpt.specs.Checkpoints.{MayEnd}
use Rattle.pm_segments.specs.Appends.{grown}
use Rattle.pm_segments.specs.Drops.{drop_before_steps, kept_from}
use Rattle.pm_segments.specs.Ends.{LogEnd}
use Rattle.pm_ckpt.specs.Marked.{begin_frame, kept_segment}
use Rattle.pm_ckpt.specs.Writes.{Finishes}
use Rattle.pm_ckpt.proofs.Flagging.{frames_named}
use Rattle.pm_ckpt.proofs.Stored.{stored_as, opened_same}
use Rattle.pm_ckpt.proofs.KeptLog.{leaves_log}
use Rattle.pm_ckpt.proofs.OnlyDisk.{open_state, silent_opening, silent_ending}
use Rattle.pm_ckpt.proofs.Stages.{may_end, broke_open, broke_end, broke_drop, made, ending_makes, in_force_after, home_stays, drops_pages, grown_seg, are_gone}
use Rattle.pm_ckpt.proofs.from_frames.checkpoint_frames.Goals as goal

pub returns-in_err-begun-clause-steps : goal.returns-in_err-begun-clause-steps
returns-in_err-begun-clause-steps g c t held are wanted told s can =
    let held_all = frames_named c.args.mark.shape.page_size held c.args.seat.now.view c.args.pages.now c.args.order.now c.requires.names c.requires.sized are in
    let old = g.H.Device.history c.args.host.now in
    let new = g.H.Device.history c.begin_marked.new.host in
    broke_open wanted told s c.args.log.now c.args.mark held c.args.order.now old can held_all new c.from_residual.result c.from_residual.ensures.0
    (c.begin_marked.ensures.steps t s can.rebuilt can.ends).moments

pub returns-in_err-ended-clause-steps : goal.returns-in_err-ended-clause-steps
returns-in_err-ended-clause-steps g c t held are wanted told s can =
    let held_all = frames_named c.args.mark.shape.page_size held c.args.seat.now.view c.args.pages.now c.args.order.now c.requires.names c.requires.sized are in
    let old = g.H.Device.history c.args.host.now in
    let mid = g.H.Device.history c.begin_marked.new.host in
    let new = g.H.Device.history c.finish_frames.new.host in
    let order = c.args.order.now in
    let opened = c.in_ok-begun.ensures.steps t s can.rebuilt can.ends in
    let mark_is : c.in_ok-begun.begun.mark ≡ c.args.mark = ap (λ (r : Running). r.mark) c.in_ok-begun.ensures.begun in
    let ends = subst (λ (m : Mark). Finishes mid new c.finish_frames.result held order m) mark_is (c.finish_frames.ensures.steps t held are) in
    broke_end wanted told s c.args.log.now c.args.mark held order old can held_all mid opened.moments opened.all new c.finish_frames.result ends
    c.from_residual-in_err-ended.result c.from_residual-in_err-ended.ensures.0

pub drop_before-requires-clause-below_end : goal.drop_before-requires-clause-below_end
drop_before-requires-clause-below_end g c κs within =
    let log = c.args.log.now in
    let mark = c.args.mark in
    let is : c.min.result ≡ min mark.begin.seg mark.replay.seg = c.min.ensures in
    let there : mark.begin.seg ≡ (grown log (begin_frame mark)).end.seg = grown_seg log mark c.requires.begin in
    let grew : c.begin_marked.new.log.end.seg ≡ (grown log (begin_frame mark)).end.seg = ap (λ (l : LogEnd). l.end.seg) c.in_ok-begun.ensures.grown in
    omega (arith, is, there, grew)

pub returns-in_err-drop_before-clause-steps : goal.returns-in_err-drop_before-clause-steps
returns-in_err-drop_before-clause-steps g c t held are wanted told s can =
    let held_all = frames_named c.args.mark.shape.page_size held c.args.seat.now.view c.args.pages.now c.args.order.now c.requires.names c.requires.sized are in
    let old = g.H.Device.history c.args.host.now in
    let mid = g.H.Device.history c.begin_marked.new.host in
    let new = g.H.Device.history c.finish_frames.new.host in
    let last = g.H.Device.history c.drop_before.new.host in
    let order = c.args.order.now in
    let opened = c.in_ok-begun.ensures.steps t s can.rebuilt can.ends in
    let mark_is : c.in_ok-begun.begun.mark ≡ c.args.mark = ap (λ (r : Running). r.mark) c.in_ok-begun.ensures.begun in
    let ends = subst (λ (m : Mark). Finishes {E = Failed} mid new (Ok c.in_ok-ended.ended) held order m) mark_is (c.in_ok-ended.ensures.steps t held are) in
    let done = (ending_makes wanted told s c.args.log.now c.args.mark held order old can held_all mid opened.moments opened.all new (Ok c.in_ok-ended.ended) ends).all in
    broke_drop wanted told s c.args.log.now c.args.mark held order old can held_all mid opened.moments opened.all new (Ok c.in_ok-ended.ended) ends done
    last c.drop_before.result c.begin_marked.new.log c.min.result c.in_ok-begun.ensures.grown c.min.ensures (c.drop_before.ensures.steps t)
    c.from_residual-in_err-drop_before.result c.from_residual-in_err-drop_before.ensures.0

pub returns-clause-steps : goal.returns-clause-steps
returns-clause-steps g c t held are wanted told s can =
    let held_all = frames_named c.args.mark.shape.page_size held c.args.seat.now.view c.args.pages.now c.args.order.now c.requires.names c.requires.sized are in
    let old = g.H.Device.history c.args.host.now in
    let mid = g.H.Device.history c.begin_marked.new.host in
    let new = g.H.Device.history c.finish_frames.new.host in
    let last = g.H.Device.history c.drop_before.new.host in
    let order = c.args.order.now in
    let opened = c.in_ok-begun.ensures.steps t s can.rebuilt can.ends in
    let mark_is : c.in_ok-begun.begun.mark ≡ c.args.mark = ap (λ (r : Running). r.mark) c.in_ok-begun.ensures.begun in
    let ends = subst (λ (m : Mark). Finishes {E = Failed} mid new (Ok c.in_ok-ended.ended) held order m) mark_is (c.in_ok-ended.ensures.steps t held are) in
    let done = (ending_makes wanted told s c.args.log.now c.args.mark held order old can held_all mid opened.moments opened.all new (Ok c.in_ok-ended.ended) ends).all in
    made wanted told s c.args.log.now c.args.mark held order old can held_all mid opened.moments opened.all new (Ok c.in_ok-ended.ended) ends done
    last (Ok tt) c.begin_marked.new.log c.min.result c.in_ok-begun.ensures.grown c.min.ensures (c.in_ok-drop_before.ensures.steps t) (Ok c.idle.result) (λ p. p)

pub returns-in_err-begun-clause-disk : goal.returns-in_err-begun-clause-disk
returns-in_err-begun-clause-disk g c t =
    let old = g.H.Device.history c.args.host.now in
    let mid = g.H.Device.history c.begin_marked.new.host in
    let log = c.args.log.now in
    let mark = c.args.mark in
    let s = open_state mark.shape log.end in
    makes_disk old mid _ s (silent_opening log mark) (c.begin_marked.ensures.steps t s _ refl).moments

pub returns-in_err-ended-clause-disk : goal.returns-in_err-ended-clause-disk
returns-in_err-ended-clause-disk g c t =
    let old = g.H.Device.history c.args.host.now in
    let mid = g.H.Device.history c.begin_marked.new.host in
    let new = g.H.Device.history c.finish_frames.new.host in
    let log = c.args.log.now in
    let mark = c.args.mark in
    let s = open_state mark.shape log.end in
    let ends = c.finish_frames.ensures.steps t c.requires.held.0 c.requires.held.1 in
    then_disk old mid new (g.H.Device.sound c.begin_marked.new.host t)
    (makes_disk old mid _ s (silent_opening log mark) (c.begin_marked.ensures.steps t s _ refl).moments)
    (makes_disk mid new _ s (silent_ending c.requires.held.0 ends.writings c.in_ok-begun.begun.mark c.args.order.now) (ends.makes s).moments)

pub returns-in_err-drop_before-clause-disk : goal.returns-in_err-drop_before-clause-disk
returns-in_err-drop_before-clause-disk g c t =
    let old = g.H.Device.history c.args.host.now in
    let mid = g.H.Device.history c.begin_marked.new.host in
    let new = g.H.Device.history c.finish_frames.new.host in
    let last = g.H.Device.history c.drop_before.new.host in
    let log = c.args.log.now in
    let mark = c.args.mark in
    let s = open_state mark.shape log.end in
    let ends = c.finish_frames.ensures.steps t c.requires.held.0 c.requires.held.1 in
    then_disk old new last (g.H.Device.sound c.finish_frames.new.host t)
    (then_disk old mid new (g.H.Device.sound c.begin_marked.new.host t)
    (makes_disk old mid _ s (silent_opening log mark) (c.begin_marked.ensures.steps t s _ refl).moments)
    (makes_disk mid new _ s (silent_ending c.requires.held.0 ends.writings c.in_ok-begun.begun.mark c.args.order.now) (ends.makes s).moments))
    (logs_disk new last _ _ (c.drop_before.ensures.steps t).moments)

pub returns-clause-disk : goal.returns-clause-disk
returns-clause-disk g c t =
    let old = g.H.Device.history c.args.host.now in
    let mid = g.H.Device.history c.begin_marked.new.host in
    let new = g.H.Device.history c.finish_frames.new.host in
    let last = g.H.Device.history c.drop_before.new.host in
    let log = c.args.log.now in
    let mark = c.args.mark in
    let s = open_state mark.shape log.end in
    let ends = c.finish_frames.ensures.steps t c.requires.held.0 c.requires.held.1 in
    then_disk old new last (g.H.Device.sound c.finish_frames.new.host t)
    (then_disk old mid new (g.H.Device.sound c.begin_marked.new.host t)
    (makes_disk old mid _ s (silent_opening log mark) (c.begin_marked.ensures.steps t s _ refl).moments)
    (makes_disk mid new _ s (silent_ending c.requires.held.0 ends.writings c.in_ok-begun.begun.mark c.args.order.now) (ends.makes s).moments))
    (logs_disk new last _ _ (c.drop_before.ensures.steps t).moments)

pub returns-clause-ends : goal.returns-clause-ends
returns-clause-ends g c t =
    let old = g.H.Device.history c.args.host.now in
    let mid = g.H.Device.history c.begin_marked.new.host in
    let new = g.H.Device.history c.finish_frames.new.host in
    let last = g.H.Device.history c.drop_before.new.host in
    let log = c.args.log.now in
    let mark = c.args.mark in
    let grew = c.begin_marked.new.log in
    let s = open_state mark.shape log.end in
    let first = ap (λ (l : LogEnd). l.first) (c.in_ok-drop_before.ensures.kept ∙ ap (λ n. kept_from n grew) c.min.ensures) in
    leaves_log log grew c.drop_before.new.self mark no_pages s old.world mid.world new.world last.world (kept_segment mark) refl (c.requires.end t) (c.in_ok-begun.ensures.steps t s no_pages refl).all
    (c.in_ok-ended.ensures.log t) first (c.in_ok-drop_before.ensures.dropped t) (c.in_ok-drop_before.ensures.ends t)

pub returns-clause-pages : goal.returns-clause-pages
returns-clause-pages g c t held are = record {
  ended = λ may.
      let held_all = frames_named c.args.mark.shape.page_size held c.args.seat.now.view c.args.pages.now c.args.order.now c.requires.names c.requires.sized are in
      let old = g.H.Device.history c.args.host.now in
      let mid = g.H.Device.history c.begin_marked.new.host in
      let new = g.H.Device.history c.finish_frames.new.host in
      let last = g.H.Device.history c.drop_before.new.host in
      let order = c.args.order.now in
      let log = c.args.log.now in
      let mark = c.args.mark in
      let s = may.state in
      let can = may.can in
      let opened = c.in_ok-begun.ensures.steps t s can.rebuilt can.ends in
      let mark_is : c.in_ok-begun.begun.mark ≡ mark = ap (λ (r : Running). r.mark) c.in_ok-begun.ensures.begun in
      let ends = subst (λ (m : Mark). Finishes {E = Failed} mid new (Ok c.in_ok-ended.ended) held order m) mark_is (c.in_ok-ended.ensures.steps t held are) in
      let done = (ending_makes may.wanted may.told s log mark held order old can held_all mid opened.moments opened.all new (Ok c.in_ok-ended.ended) ends).all in
      let dropped = c.in_ok-drop_before.ensures.steps t in
      let grew = c.begin_marked.new.log in
      let begun_mark : mark ≡ c.in_ok-begun.begun.mark = sym mark_is in
      let may_end_there = subst (λ (m : Mark). MayEnd m held order mid.world) begun_mark (may_end log mark held order old.world mid.world may held_all opened.all) in
      record {
        checkpoint = in_force_after may.wanted may.told s log mark held order old can held_all mid opened.moments opened.all new (Ok c.in_ok-ended.ended) ends done
            last (Ok tt) grew c.min.result c.in_ok-begun.ensures.grown c.min.ensures dropped (λ p. p);
        home = home_stays mark.shape.page_size held order new.world last.world (drops_pages new.world last.world (drop_before_steps grew c.min.result new.world) grew.end dropped.all)
            (c.in_ok-ended.ensures.home t held are may_end_there);
        gone = are_gone log grew c.drop_before.new.self mark new.world last.world c.in_ok-begun.ensures.grown
            (c.in_ok-drop_before.ensures.kept ∙ ap (λ n. kept_from n grew) c.min.ensures) (c.in_ok-drop_before.ensures.dropped t);
      };
  stored =
      let old = g.H.Device.history c.args.host.now in
      let mid = g.H.Device.history c.begin_marked.new.host in
      let new = g.H.Device.history c.finish_frames.new.host in
      let last = g.H.Device.history c.drop_before.new.host in
      let log = c.args.log.now in
      let mark = c.args.mark in
      let grew = c.begin_marked.new.log in
      let s = open_state mark.shape log.end in
      let opened = (c.in_ok-begun.ensures.steps t s no_pages refl).all in
      let dropped = drops_pages new.world last.world (drop_before_steps grew c.min.result new.world) grew.end (c.in_ok-drop_before.ensures.steps t).all in
      stored_as mark.shape.page_size held c.args.order.now mid.world new.world old.world last.world
      (λ k. sym (ap (λ (w : World). pages_in w k) opened ∙ opened_same log mark no_pages s old.world k))
      (λ k. ap (λ (files : ℕ → File). content (files k)) dropped)
      (c.in_ok-ended.ensures.stored t held are);
}
