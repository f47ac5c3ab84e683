-- What the answers of a take say of one page's frame.
use Rattle.std.proofs.Common.{◌≡◌, ◌∷◌, None, ap, ◌∙◌, subst, ⊎_elim}
use Rattle.pm_types.specs.declared.flag.Flag.TheVariants as flag
use Rattle.pm_region.specs.Lease.{Leased}
use Rattle.pm_locks.specs.Answers.{FlushTakeAnswer, out_of}
use Rattle.pm_locks.specs.Rule.{HasImage, HasTakenImage}
use Rattle.pm_locks.specs.Steps.{flushed_back, out_as, due_as}
use Rattle.pm_locks.specs.Views.{Has, due_at}
use Rattle.pm_locks.specs.Words.{LockWord, FLUSHER, held_by, put_as}
use Rattle.pm_locks.specs.declared.flush.FlushTake.TheVariants as flushed
use Rattle.pm_locks.specs.declared.view.View.{View}
use Rattle.pm_locks.proofs.Callers.{due_image, done_put}
use Rattle.pm_locks.proofs.Facts.{due_at-else}
use Rattle.pm_locks.proofs.Refusing.{flush_moved, flush_busy, flush_got}
use Rattle.pm_flush.specs.declared.due_page.DuePage.{DuePage}
use Rattle.pm_flush.specs.Frames.{image_of}
use Rattle.pm_flush.specs.Steps.{TakesFrame, LeavesFrame}
use Rattle.pm_flush.proofs.Taking.{image_is}

pub leaves_moved : (v v' : View) (page : DuePage) → FlushTakeAnswer v v' page.frame page.tag flag.Due flushed.Moved → LeavesFrame v v' page
leaves_moved v v' page x = record {
  dues = ⊎_elim (λ one. ap (λ (u : View). u.dues) one.view) (λ two. ap (λ (u : View). u.dues) two.last.view) x.met;
  outs = ⊎_elim (λ one. ap (λ (u : View). u.outs) one.view) (λ two. ap (λ (u : View). u.outs) two.last.view) x.met;
  shown = flush_moved v v' page.frame page.tag flag.Due x;
}

pub leaves_busy : (v v' : View) (page : DuePage) (word : LockWord) → FlushTakeAnswer v v' page.frame page.tag flag.Due (flushed.Busy word) → LeavesFrame v v' page
leaves_busy v v' page word x = record {
  dues = ⊎_elim (λ one. ap (λ (u : View). u.dues) one.0.view) (λ two. ap (λ (u : View). u.dues) two.last.view) x.1;
  outs = ⊎_elim (λ one. ap (λ (u : View). u.outs) one.0.view) (λ two. ap (λ (u : View). u.outs) two.last.view) x.1;
  shown = flush_busy v v' page.frame page.tag flag.Due word x;
}

-- the lease has the image that is due
pub lease_image : (v v' : View) (page : DuePage) (lease : Leased) → Has v FLUSHER → FlushTakeAnswer v v' page.frame page.tag flag.Due (flushed.Got lease) → lease.bytes ≡ image_of v page
lease_image v v' page lease has got = image_is (due_at v.dues page.frame) page.tag lease.bytes (due_image v v' page.frame page.tag lease has got)

pub takes_frame : (v v' v'' : View) (page : DuePage) (lease : Leased) → Has v FLUSHER → FlushTakeAnswer v v' page.frame page.tag flag.Due (flushed.Got lease)
    → v'' ≡ flushed_back v' page.frame (put_as flag.Done (out_of v' page.frame).word) lease.bytes → TakesFrame v v'' page
takes_frame v v' v'' page lease has got put =
    let f = page.frame in
    let is = lease_image v v' page lease has got in
    let left = put_as flag.Done (out_of v' f).word in
    let shown = flush_got v v' f page.tag flag.Due lease got in
    record {
      was_due = subst (HasImage (due_at v.dues f) page.tag) is (due_image v v' f page.tag lease has got);
      taken = subst (HasTakenImage (due_at v''.dues f) page.tag) is (done_put v v' v'' f page.tag flag.Due lease got put);
      others = λ g ne. ap (λ (u : View). due_at u.dues g) put ∙ due_at-else v'.dues f (due_as left lease.bytes) g ne ∙ ap (λ (u : View). due_at u.dues g) got.view;
      out = out_as (held_by FLUSHER got.word) lease;
      outs = ap (λ (u : View). u.outs) put ∙ ap (λ (u : View). (f, None) ∷ u.outs) got.view;
      added = shown.added;
      met = ap (λ (u : View). u.met) put ∙ shown.met;
      frame = shown.frame;
    }
