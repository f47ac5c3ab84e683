use Rattle.std.proofs.Common.{length, sym, ◌∙◌, subst}
use Rattle.pm_types.specs.declared.flag.Flag.TheVariants as flag
use Rattle.pm_locks.specs.Rule.{HasImage, HasTakenImage}
use Rattle.pm_locks.specs.Views.{due_at}
use Rattle.pm_locks.proofs.Facts.{lease_size}
use Rattle.pm_locks.proofs.Callers.{done_put, due_image, has_flusher}
use Rattle.pm_locks.proofs.Refusing.{flush_moved, flush_busy}
use Rattle.pm_tests_logs.proofs.lock_clients.write_due.Goals as goal

pub copy_from_slice-requires : goal.copy_from_slice-requires
copy_from_slice-requires c = sym (c.bytes.ensures.len ∙ lease_size c.args.locks.now c.args.seat.now c.args.f (length c.args.page.now) c.in-Got.lease c.requires.flusher.of c.requires.frame c.requires.size c.in-Got.ensures.answer.range_is)

pub returns-in-Got-clause-written : goal.returns-in-Got-clause-written
returns-in-Got-clause-written c = λ _.
    let v = c.args.seat.now.view in let v' = c.flush_take.new.seat.view in let v'' = c.flush_put.new.seat.view in
    let is = sym (c.copy_from_slice.ensures.after ∙ c.bytes.ensures.bytes) in (
      subst (HasImage (due_at v.dues c.args.f) c.args.tag) is
          (due_image v v' c.args.f c.args.tag c.in-Got.lease (has_flusher v.numbers c.args.locks.now.workers c.requires.flusher.alone) c.in-Got.ensures.answer),
      subst (HasTakenImage (due_at v''.dues c.args.f) c.args.tag) is
          (done_put v v' v'' c.args.f c.args.tag flag.Due c.in-Got.lease c.in-Got.ensures.answer c.flush_put.ensures.put),
    )

pub returns-in-Moved-clause-cause : goal.returns-in-Moved-clause-cause
returns-in-Moved-clause-cause c = λ _. flush_moved c.args.seat.now.view c.flush_take.new.seat.view c.args.f c.args.tag flag.Due c.in-Moved.ensures.answer

pub returns-in-Busy-clause-cause : goal.returns-in-Busy-clause-cause
returns-in-Busy-clause-cause c = λ _. flush_busy c.args.seat.now.view c.flush_take.new.seat.view c.args.f c.args.tag flag.Due _ c.in-Busy.ensures.answer
