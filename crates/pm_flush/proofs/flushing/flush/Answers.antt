use Rattle.std.proofs.Common.{◌≡◌, ◌+◌, ◌<◌, List, [], ◌∷◌, ◌++◌, length, take, get_or, Bool, refl, sym, ◌∙◌, subst, arith, Result, Ok, Err}
use Rattle.std.proofs.lemmas.List.{length-take-le, take_more}
use Rattle.pm_types.specs.declared.page_id.PageId.{PageId}
use Rattle.pm_disk.specs.Moments.{WritesPage}
use Rattle.pm_disk.specs.declared.failed.Failed.{Failed}
use Rattle.pm_flush.specs.declared.due_page.DuePage.{DuePage}
use Rattle.pm_flush.specs.Copies.{copy_of}
use Rattle.pm_flush.specs.Flushes.{WritesDue}
use Rattle.pm_flush.specs.Frames.{bytes_due}
use Rattle.pm_flush.specs.Steps.{TriesPage}
use Rattle.pm_flush.proofs.Ending.{may_later, all_may_later, not_ok, splits_stopped, hand_is, splits_all, up_to_hand, whole_job, failed_images, failed_left, all_images, all_left}
use Rattle.pm_flush.proofs.Progress.{Progress, progress_none, progress_more, done_count, writes_due}
use Rattle.pm_flush.proofs.Taking.{same_bytes}
use Rattle.pm_flush.proofs.Writing.{Wrote, wrote_none, wrote_step, wrote_asked, wrote_all}
use Rattle.pm_flush.proofs.flushing.flush.Goals as goal

pub pages-init : goal.pages-init
pages-init g c =
    let v = c.args.seat.now.view in
    let copies = c.args.copies.now.pages in
    let history = g.W.Device.history c.args.writer.now in
    record {
      seat = record { may = c.requires.seat; numbers = refl; knows = λ knows. knows };
      state = record { later = omega arith; access = refl; usable = λ usable. usable };
      room = record { written = refl; left = refl };
      progress = subst (λ (x : List PageId × List PageId). Progress v v copies [] x.0 x.1) (λ i. (sym c.requires.empty.written i, sym c.requires.empty.left i)) (progress_none v copies);
      wrote = λ t. subst (λ ws. Wrote history history copies v [] ws) (sym c.requires.empty.written) (wrote_none history copies v (g.W.Device.sound c.args.writer.now t));
    }

pub write_page-requires-clause-allowed : goal.write_page-requires-clause-allowed
write_page-requires-clause-allowed g c =
    let none : DuePage = record { page = record { 0 = 0 }; frame = 0; tag = 0 } in
    may_later (g.W.Device.state c.args.writer.now) (g.W.Device.state c.pages.writer) (get_or c.args.job.now c.pages.due-index none).page c.pages.invariant.state (c.requires.allowed c.pages.due-index none c.pages-test.true)

pub note-requires-clause-written : goal.note-requires-clause-written
note-requires-clause-written g c =
    let i = c.pages.due-index in
    let lt : i < length c.args.job.now = c.pages-test.true in
    let n = done_count c.args.seat.now.view c.pages.seat.view c.args.copies.now.pages (take i c.args.job.now) c.pages.done.written.items c.pages.done.left.items c.pages.invariant.progress in
    let m = length-take-le i c.args.job.now (omega arith) in
    omega (arith, c.pages.done.written.ok.0, c.pages.invariant.room.written, c.requires.room.written)

pub note-requires-clause-left : goal.note-requires-clause-left
note-requires-clause-left g c =
    let i = c.pages.due-index in
    let lt : i < length c.args.job.now = c.pages-test.true in
    let n = done_count c.args.seat.now.view c.pages.seat.view c.args.copies.now.pages (take i c.args.job.now) c.pages.done.written.items c.pages.done.left.items c.pages.invariant.progress in
    let m = length-take-le i c.args.job.now (omega arith) in
    omega (arith, c.pages.done.left.ok.0, c.pages.invariant.room.left, c.requires.room.left)

pub pages-preserved : goal.pages-preserved
pages-preserved g c =
    let none : DuePage = record { page = record { 0 = 0 }; frame = 0; tag = 0 } in
    let job = c.args.job.now in
    let i = c.pages.due-index in
    let d = get_or job i none in
    let copies = c.args.copies.now.pages in
    let start = c.args.seat.now.view in
    let now = c.pages.seat.view in
    let next = c.write_page.new.seat.view in
    let ws = c.pages.done.written.items in
    let ls = c.pages.done.left.items in
    let v = c.pages.invariant in
    let told = c.in_ok-is_written in
    let part : take (i + 1) job ≡ take i job ++ d ∷ [] = take_more job i none c.pages-test.true in
    let old = g.W.Device.history c.args.writer.now in
    record {
      seat = record {
        may = told.ensures.seat.may;
        numbers = told.ensures.seat.numbers ∙ v.seat.numbers;
        knows = λ knows. told.ensures.seat.knows (v.seat.knows knows);
      };
      state = record {
        later = omega (arith, v.state.later, told.ensures.cause.later);
        access = told.ensures.cause.access ∙ v.state.access;
        usable = λ usable. told.ensures.cause.usable (v.state.usable usable);
      };
      room = record { written = c.note.ensures.room.written ∙ v.room.written; left = c.note.ensures.room.left ∙ v.room.left };
      progress = subst (λ (x : List DuePage × List PageId × List PageId). Progress start next copies x.0 x.1 x.2) (λ k. (sym part k, sym c.note.ensures.written k, sym c.note.ensures.left k))
          (progress_more told.is_written start now next copies (take i job) ws ls d told.ensures.tries v.progress);
      wrote = λ t. subst (λ (x : List DuePage × List PageId). Wrote old (g.W.Device.history c.write_page.new.writer) copies start x.0 x.1) (λ k. (sym part k, sym c.note.ensures.written k))
          (wrote_step {E = Failed} g.W.Device.history told.is_written old c.pages.writer c.write_page.new.writer copies start now (take i job) ws d (v.wrote t) (g.W.Device.sound c.pages.writer t)
          (λ is. same_bytes (copy_of copies d.page) start now next copies v.progress.asked d refl (subst (λ b. TriesPage (copy_of copies d.page) b now next d) is told.ensures.tries) v.progress.tried.took)
          (λ is. told.ensures.writes t is) (λ is. told.ensures.unwritten is));
    }

pub returns-in_err-is_written-clause-splits : goal.returns-in_err-is_written-clause-splits
returns-in_err-is_written-clause-splits g c =
    splits_stopped c.args.seat.now.view c.pages.seat.view c.args.copies.now.pages c.args.job.now c.pages.due-index c.pages.done.written.items c.pages.done.left.items c.pages.invariant.progress
    c.from_residual.result c.from_residual.ensures.0 c.pages-test.true

pub returns-in_err-is_written-clause-writes : goal.returns-in_err-is_written-clause-writes
returns-in_err-is_written-clause-writes g c t =
    let none : DuePage = record { page = record { 0 = 0 }; frame = 0; tag = 0 } in
    let job = c.args.job.now in
    let i = c.pages.due-index in
    let d = get_or job i none in
    let copies = c.args.copies.now.pages in
    let start = c.args.seat.now.view in
    let now = c.pages.seat.view in
    let next = c.write_page.new.seat.view in
    let ws = c.pages.done.written.items in
    let ls = c.pages.done.left.items in
    let old = g.W.Device.history c.args.writer.now in
    let mid = g.W.Device.history c.pages.writer in
    let new = g.W.Device.history c.write_page.new.writer in
    let p = c.pages.invariant.progress in
    let result = c.from_residual.result in
    let failed = c.from_residual.ensures.0 in
    let told = c.in_err-is_written.ensures in
    let error : Failed = c.in_err-is_written.field-0.0 in
    let broken : Result Bool Failed = Err error in
    let bytes = same_bytes (copy_of copies d.page) start now next copies p.asked d refl told.tries p.tried.took in
    let call : WritesPage {T = Bool} {E = Failed} mid new broken d.page (bytes_due copies start d) = subst (λ bs. WritesPage {T = Bool} {E = Failed} mid new broken d.page bs) bytes (told.writes t refl) in
    subst (λ ps. WritesDue old new result copies start job ps) (sym (hand_is start now copies job i ws ls p result none failed c.pages-test.true))
    (writes_due old new result copies start job (take i job ++ d ∷ []) (ws ++ d.page ∷ []) (up_to_hand job i none c.requires.job.once c.pages-test.true)
    (wrote_asked old mid new broken copies start (take i job) ws d (c.pages.invariant.wrote t) call (g.W.Device.sound c.pages.writer t) result (not_ok result _ failed)))

pub returns-in_err-is_written-clause-refused : goal.returns-in_err-is_written-clause-refused
returns-in_err-is_written-clause-refused g c =
    let none : DuePage = record { page = record { 0 = 0 }; frame = 0; tag = 0 } in
    failed_left c.args.seat.now.view c.pages.seat.view c.write_page.new.seat.view c.args.copies.now.pages c.args.job.now c.pages.due-index c.pages.done.written.items c.pages.done.left.items none
    c.requires.job.once c.pages-test.true c.pages.invariant.progress c.in_err-is_written.ensures.tries

pub returns-in_err-is_written-clause-images : goal.returns-in_err-is_written-clause-images
returns-in_err-is_written-clause-images g c =
    let none : DuePage = record { page = record { 0 = 0 }; frame = 0; tag = 0 } in
    failed_images c.args.seat.now.view c.pages.seat.view c.write_page.new.seat.view c.args.copies.now.pages c.args.job.now c.pages.due-index c.pages.done.written.items c.pages.done.left.items none
    c.requires.job.once c.pages-test.true c.pages.invariant.progress c.in_err-is_written.ensures.tries c.from_residual.result c.from_residual.ensures.0

pub returns-clause-splits : goal.returns-clause-splits
returns-clause-splits g c =
    splits_all c.args.seat.now.view c.pages.seat.view c.args.copies.now.pages c.args.job.now c.pages.due-index c.pages.done.written.items c.pages.done.left.items c.pages.invariant.progress (Unit {0}) Failed tt (omega arith) (omega arith)

pub returns-clause-writes : goal.returns-clause-writes
returns-clause-writes g c t =
    let old = g.W.Device.history c.args.writer.now in
    let now = g.W.Device.history c.pages.writer in
    let job = c.args.job.now in
    let i = c.pages.due-index in
    let ws = c.pages.done.written.items in
    let copies = c.args.copies.now.pages in
    let start = c.args.seat.now.view in
    let whole : Result (Unit {0}) Failed = Ok tt in
    writes_due old now whole copies start job (take i job) ws (whole_job job i c.requires.job.once) (wrote_all old now whole copies start (take i job) ws (c.pages.invariant.wrote t))

pub returns-clause-refused : goal.returns-clause-refused
returns-clause-refused g c =
    all_left c.args.seat.now.view c.pages.seat.view c.args.copies.now.pages c.args.job.now c.pages.due-index c.pages.done.written.items c.pages.done.left.items c.requires.job.once c.pages.invariant.progress

pub returns-clause-images : goal.returns-clause-images
returns-clause-images g c =
    all_images c.args.seat.now.view c.pages.seat.view c.args.copies.now.pages c.args.job.now c.pages.due-index c.pages.done.written.items c.pages.done.left.items c.requires.job.once c.pages.invariant.progress (Unit {0}) Failed tt

pub returns-clause-allowed : goal.returns-clause-allowed
returns-clause-allowed g c = all_may_later (g.W.Device.state c.args.writer.now) (g.W.Device.state c.pages.writer) c.args.job.now c.pages.invariant.state c.requires.allowed
