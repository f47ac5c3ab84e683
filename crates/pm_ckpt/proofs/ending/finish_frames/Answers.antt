use Rattle.std.proofs.Common.{◌≡◌, List, ◌++◌, sym, ◌∙◌, ap, subst}
use Rattle.std.specs.Prelude.{All}
use Rattle.pm_types.specs.declared.flag.Flag.TheVariants as flag
use Rattle.pm_types.specs.declared.page_id.PageId.{PageId}
use Rattle.pm_core.specs.Calls.{finish_steps}
use Rattle.pm_core.specs.PageSets.{AreAmong, Running, left_after}
use Rattle.pm_core.proofs.Making.{moments_first, broke_off}
use Rattle.pm_ckpt.specs.Writes.{IsHeld, write_steps, AreHome}
use Rattle.pm_ckpt.proofs.Finishing.{among_own, none_left}
use Rattle.pm_ckpt.proofs.FrameEnds.{finishes, home_there, stored_there, log_there, wrote_as, broke_finish, finishes_ok}
use Rattle.pm_ckpt.proofs.Flagging.{in_frames_flagged, length_flagged, all_flagged, cleans_after, frames_held}
use Rattle.pm_ckpt.proofs.ending.finish_frames.Goals as goal

pub write_frames-requires-clause-due : goal.write_frames-requires-clause-due
write_frames-requires-clause-due g c κs within =
    all_flagged c.args.locks.now flag.Dirty flag.Due c.args.pages.now c.args.seat.now.view c.make_due.new.seat.view c.make_due.ensures.due c.requires.dirty

pub write_frames-requires-clause-sized : goal.write_frames-requires-clause-sized
write_frames-requires-clause-sized g c κs within =
    length_flagged flag.Due c.args.size c.args.pages.now c.args.seat.now.view c.make_due.new.seat.view c.make_due.ensures.due c.requires.sized

pub returns-in_err-write_frames-clause-steps : goal.returns-in_err-write_frames-clause-steps
returns-in_err-write_frames-clause-steps g c t held are =
    let old = g.H.Device.history c.args.host.now in
    let mid = g.H.Device.history c.write_frames.new.host in
    let order = c.args.order.now in
    let mark = c.args.begun.mark in
    let wrote = c.write_frames.ensures.writes t held (in_frames_flagged flag.Due held c.args.pages.now c.args.seat.now.view c.make_due.new.seat.view c.make_due.ensures.due are) in
    record {
      writings = wrote.writings;
      pages_are = wrote.pages_are ∙ sym c.requires.names;
      gaps = wrote.gaps;
      makes = λ s.
          broke_off old mid c.from_residual.result (write_steps held wrote.writings ++ finish_steps mark order) s c.from_residual.ensures.0
          (moments_first old mid (write_steps held wrote.writings) (finish_steps mark order) s (wrote.makes s).moments);
    }

pub wrote-requires : goal.wrote-requires
wrote-requires g c = subst (λ (ps : List PageId). AreAmong c.args.order.now ps) (sym c.requires.set) (among_own c.args.order.now)

pub finish-requires-clause-written : goal.finish-requires-clause-written
finish-requires-clause-written g c κs within =
    ap (λ (r : Running). r.left) c.wrote.ensures ∙ ap (left_after c.args.order.now) c.requires.left ∙ none_left c.args.order.now c.requires.once

pub returns-in_err-ended-clause-steps : goal.returns-in_err-ended-clause-steps
returns-in_err-ended-clause-steps g c t held are =
    let old = g.H.Device.history c.args.host.now in
    let mid = g.H.Device.history c.write_frames.new.host in
    let new = g.H.Device.history c.finish.new.host in
    let order = c.args.order.now in
    let mark = c.args.begun.mark in
    let pages = c.args.pages.now in
    let wrote = wrote_as old mid _ held order pages c.requires.names (c.in_ok-write_frames.ensures.writes t held (in_frames_flagged flag.Due held pages c.args.seat.now.view c.make_due.new.seat.view c.make_due.ensures.due are)) in
    let mark_is : c.wrote.new.self.mark ≡ mark = ap (λ (r : Running). r.mark) c.wrote.ensures in
    let pages_is : c.wrote.new.self.set.pages ≡ order = ap (λ (r : Running). r.set.pages) c.wrote.ensures ∙ c.requires.set in
    let whole = finishes old mid _ held order wrote mark c.wrote.new.self mark_is pages_is new c.finish.result (c.finish.ensures.steps t) in
    broke_finish old new c.finish.result c.from_residual-in_err-ended.result held order mark c.from_residual-in_err-ended.ensures.0 whole

pub make_clean-requires-clause-done : goal.make_clean-requires-clause-done
make_clean-requires-clause-done g c =
    let pages = c.args.pages.now in
    let locks = c.args.locks.now in
    all_flagged locks flag.Due flag.Done pages c.make_due.new.seat.view c.write_frames.new.seat.view c.in_ok-write_frames.ensures.done
    (all_flagged locks flag.Dirty flag.Due pages c.args.seat.now.view c.make_due.new.seat.view c.make_due.ensures.due c.requires.dirty)

pub returns-clause-clean : goal.returns-clause-clean
returns-clause-clean g c =
    let pages = c.args.pages.now in
    cleans_after flag.Due pages c.args.seat.now.view c.make_due.new.seat.view c.make_clean.new.seat.view c.make_due.ensures.due
    (cleans_after flag.Done pages c.make_due.new.seat.view c.write_frames.new.seat.view c.make_clean.new.seat.view c.in_ok-write_frames.ensures.done c.make_clean.ensures.clean)

pub returns-clause-steps : goal.returns-clause-steps
returns-clause-steps g c t held are =
    let old = g.H.Device.history c.args.host.now in
    let mid = g.H.Device.history c.write_frames.new.host in
    let new = g.H.Device.history c.finish.new.host in
    let order = c.args.order.now in
    let mark = c.args.begun.mark in
    let pages = c.args.pages.now in
    let wrote = wrote_as old mid _ held order pages c.requires.names (c.in_ok-write_frames.ensures.writes t held (in_frames_flagged flag.Due held pages c.args.seat.now.view c.make_due.new.seat.view c.make_due.ensures.due are)) in
    let mark_is : c.wrote.new.self.mark ≡ mark = ap (λ (r : Running). r.mark) c.wrote.ensures in
    let pages_is : c.wrote.new.self.set.pages ≡ order = ap (λ (r : Running). r.set.pages) c.wrote.ensures ∙ c.requires.set in
    finishes_ok old new _ _ held order mark (finishes old mid _ held order wrote mark c.wrote.new.self mark_is pages_is new _ (c.in_ok-ended.ensures.steps t))

pub returns-clause-home : goal.returns-clause-home
returns-clause-home g c t held are may =
    let old = g.H.Device.history c.args.host.now in
    let mid = g.H.Device.history c.write_frames.new.host in
    let new = g.H.Device.history c.finish.new.host in
    let order = c.args.order.now in
    let mark = c.args.begun.mark in
    let pages = c.args.pages.now in
    let wrote = wrote_as old mid _ held order pages c.requires.names (c.in_ok-write_frames.ensures.writes t held (in_frames_flagged flag.Due held pages c.args.seat.now.view c.make_due.new.seat.view c.make_due.ensures.due are)) in
    let mark_is : c.wrote.new.self.mark ≡ mark = ap (λ (r : Running). r.mark) c.wrote.ensures in
    let pages_is : c.wrote.new.self.set.pages ≡ order = ap (λ (r : Running). r.set.pages) c.wrote.ensures ∙ c.requires.set in
    let held_all = subst (λ ps. All (IsHeld c.args.size held) ps) (sym c.requires.names) (frames_held c.args.size held c.args.seat.now.view pages c.requires.sized are) in
    subst (λ n. AreHome n held order new.world) (sym c.requires.size)
    (home_there old mid _ held order wrote mark c.wrote.new.self mark_is pages_is new _ (c.in_ok-ended.ensures.steps t) may (subst (λ n. All (IsHeld n held) order) c.requires.size held_all))

pub returns-clause-stored : goal.returns-clause-stored
returns-clause-stored g c t held are =
    let old = g.H.Device.history c.args.host.now in
    let mid = g.H.Device.history c.write_frames.new.host in
    let new = g.H.Device.history c.finish.new.host in
    let order = c.args.order.now in
    let mark = c.args.begun.mark in
    let pages = c.args.pages.now in
    let wrote = wrote_as old mid _ held order pages c.requires.names (c.in_ok-write_frames.ensures.writes t held (in_frames_flagged flag.Due held pages c.args.seat.now.view c.make_due.new.seat.view c.make_due.ensures.due are)) in
    let mark_is : c.wrote.new.self.mark ≡ mark = ap (λ (r : Running). r.mark) c.wrote.ensures in
    let pages_is : c.wrote.new.self.set.pages ≡ order = ap (λ (r : Running). r.set.pages) c.wrote.ensures ∙ c.requires.set in
    let held_all = subst (λ ps. All (IsHeld c.args.size held) ps) (sym c.requires.names) (frames_held c.args.size held c.args.seat.now.view pages c.requires.sized are) in
    stored_there old mid _ held order wrote mark c.wrote.new.self mark_is pages_is new _ (c.in_ok-ended.ensures.steps t) c.args.size held_all

pub returns-clause-log : goal.returns-clause-log
returns-clause-log g c t =
    let held = c.requires.held.0 in
    let are = c.requires.held.1 in
    let old = g.H.Device.history c.args.host.now in
    let mid = g.H.Device.history c.write_frames.new.host in
    let new = g.H.Device.history c.finish.new.host in
    let order = c.args.order.now in
    let mark = c.args.begun.mark in
    let pages = c.args.pages.now in
    let wrote = wrote_as old mid _ held order pages c.requires.names (c.in_ok-write_frames.ensures.writes t held (in_frames_flagged flag.Due held pages c.args.seat.now.view c.make_due.new.seat.view c.make_due.ensures.due are)) in
    let mark_is : c.wrote.new.self.mark ≡ mark = ap (λ (r : Running). r.mark) c.wrote.ensures in
    let pages_is : c.wrote.new.self.set.pages ≡ order = ap (λ (r : Running). r.set.pages) c.wrote.ensures ∙ c.requires.set in
    log_there old mid _ held order wrote mark c.wrote.new.self mark_is pages_is new _ (c.in_ok-ended.ensures.steps t)
