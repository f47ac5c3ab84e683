use Rattle.std.proofs.Common.{◌≡◌, ◌+◌, List, [], ◌∷◌, ◌++◌, length, take, drop, get_or, refl, sym, ◌∙◌, ap, subst, arith}
use Rattle.std.proofs.lemmas.List.{take_more, take_all, take-append-drop, map-append}
use Rattle.pm_types.specs.declared.flag.Flag.TheVariants as flag
use Rattle.pm_types.specs.declared.page_id.PageId.{PageId}
use Rattle.pm_disk.specs.Files.{bytes_of}
use Rattle.pm_ckpt.specs.declared.frame_page.FramePage.{FramePage}
use Rattle.pm_ckpt.specs.Frames.{SetsFlags, names_of}
use Rattle.pm_ckpt.specs.Writes.{WritesPages}
use Rattle.pm_ckpt.proofs.Flagging.{apart_before, flagged_still, sets_none, sets_more, bytes_same}
use Rattle.pm_ckpt.proofs.FrameWrites.{write_as}
use Rattle.pm_ckpt.proofs.Written.{WroteSome, wrote_none, wrote_more, wrote_to, wrote_all}
use Rattle.pm_ckpt.proofs.writing_frames.write_frames.Goals as goal

pub each-init : goal.each-init
each-init g c =
    let old = g.H.Device.history c.args.host.now in
    record {
      state = record { later = omega arith; access = refl; usable = λ usable. usable };
      seat = c.requires.seat;
      done = sets_none flag.Done c.args.seat.now.view;
      wrote = λ t held are. wrote_none old held (g.H.Device.sound c.args.host.now t);
    }

pub write_one-requires-clause-due : goal.write_one-requires-clause-due
write_one-requires-clause-due g c κs within =
    let none : FramePage = record { page = record { 0 = 0 }; frame = 0; tag = 0 } in
    let pages = c.args.pages.now in
    let i = c.each.page-index in
    let apart = apart_before pages i none c.each-test.true c.requires.apart in
    flagged_still c.args.locks.now flag.Due c.args.seat.now.view c.each.seat.view (get_or pages i none)
    (c.each.invariant.done.others (get_or pages i none).frame apart) (c.requires.due i none c.each-test.true)

pub write_one-requires-clause-sized : goal.write_one-requires-clause-sized
write_one-requires-clause-sized g c κs within =
    let none : FramePage = record { page = record { 0 = 0 }; frame = 0; tag = 0 } in
    let pages = c.args.pages.now in
    let i = c.each.page-index in
    let f = (get_or pages i none).frame in
    let apart = apart_before pages i none c.each-test.true c.requires.apart in
    let done = c.each.invariant.done in
    ap length (bytes_same c.args.seat.now.view c.each.seat.view f (done.others f apart) done.entries) ∙ c.requires.sized i none c.each-test.true

pub each-preserved : goal.each-preserved
each-preserved g c =
    let none : FramePage = record { page = record { 0 = 0 }; frame = 0; tag = 0 } in
    let old = g.H.Device.history c.args.host.now in
    let mid = g.H.Device.history c.each.host in
    let new = g.H.Device.history c.write_one.new.host in
    let v = c.each.invariant in
    let i = c.each.page-index in
    let pages = c.args.pages.now in
    let page = get_or pages i none in
    let view = c.args.seat.now.view in
    let apart = apart_before pages i none c.each-test.true c.requires.apart in
    let bytes = bytes_same view c.each.seat.view page.frame (v.done.others page.frame apart) v.done.entries in
    let more = take_more pages i none c.each-test.true in
    record {
      state = record {
        later = omega (arith, v.state.later, c.write_one.ensures.cause.later);
        access = c.write_one.ensures.cause.access ∙ v.state.access;
        usable = λ usable. c.write_one.ensures.cause.usable (v.state.usable usable);
      };
      seat = c.write_one.ensures.seat;
      done = subst (λ (ps : List FramePage). SetsFlags flag.Done ps view c.write_one.new.seat.view) (sym more)
          (sets_more flag.Done (take i pages) page view c.each.seat.view c.write_one.new.seat.view apart v.done c.write_one.ensures.done);
      wrote = λ t held are.
          let is = bytes ∙ sym (ap bytes_of (are i none c.each-test.true)) in
          let call = write_as mid new _ page.page _ _ is (c.in_ok-write_one.ensures.writes t) in
          subst (WroteSome old new held) (sym (ap names_of more ∙ map-append (λ (p : FramePage). p.page) (take i pages) (page ∷ [])))
          (wrote_more old mid new _ held (names_of (take i pages)) page.page (v.wrote t held are) call (g.H.Device.sound c.each.host t) call.does.ok);
    }

pub returns-in_err-write_one-clause-writes : goal.returns-in_err-write_one-clause-writes
returns-in_err-write_one-clause-writes g c t held are =
    let none : FramePage = record { page = record { 0 = 0 }; frame = 0; tag = 0 } in
    let old = g.H.Device.history c.args.host.now in
    let mid = g.H.Device.history c.each.host in
    let new = g.H.Device.history c.write_one.new.host in
    let v = c.each.invariant in
    let i = c.each.page-index in
    let pages = c.args.pages.now in
    let page = get_or pages i none in
    let name = λ (p : FramePage). p.page in
    let view = c.args.seat.now.view in
    let apart = apart_before pages i none c.each-test.true c.requires.apart in
    let bytes = bytes_same view c.each.seat.view page.frame (v.done.others page.frame apart) v.done.entries in
    let is = bytes ∙ sym (ap bytes_of (are i none c.each-test.true)) in
    let call = write_as mid new c.write_one.result page.page _ _ is (c.write_one.ensures.writes t) in
    let all : (names_of (take i pages) ++ page.page ∷ []) ++ names_of (drop (i + 1) pages) ≡ names_of pages =
    ap (λ ps. ps ++ names_of (drop (i + 1) pages)) (sym (ap names_of (take_more pages i none c.each-test.true) ∙ map-append name (take i pages) (page ∷ [])))
    ∙ sym (map-append name (take (i + 1) pages) (drop (i + 1) pages)) ∙ ap names_of (take-append-drop (i + 1) pages) in
    subst (λ (ps : List PageId). WritesPages old new c.from_residual.result held ps) all
    (wrote_to old mid new c.write_one.result held (names_of (take i pages)) page.page (v.wrote t held are) call (g.H.Device.sound c.each.host t)
    (names_of (drop (i + 1) pages)) c.from_residual.result c.from_residual.ensures.0)

pub returns-clause-done : goal.returns-clause-done
returns-clause-done g c =
    let pages = c.args.pages.now in
    subst (λ (ps : List FramePage). SetsFlags flag.Done ps c.args.seat.now.view c.each.seat.view) (take_all c.each.page-index pages (omega arith)) c.each.invariant.done

pub returns-clause-writes : goal.returns-clause-writes
returns-clause-writes g c t held are =
    let old = g.H.Device.history c.args.host.now in
    let now = g.H.Device.history c.each.host in
    let pages = c.args.pages.now in
    let whole = ap names_of (take_all c.each.page-index pages (omega arith)) in
    wrote_all old now _ held (names_of pages) (subst (WroteSome old now held) whole (c.each.invariant.wrote t held are))
