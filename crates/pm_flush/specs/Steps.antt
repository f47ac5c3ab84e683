-- What becomes of one page.
use Rattle.std.specs.Prelude.{◌≡◌, ◌≢◌, ℕ, List, ◌∷◌, Bool, true, false, Option, Some, None, Result, Ok, Err}
use Rattle.pm_types.specs.declared.flag.Flag.TheVariants as flag
use Rattle.pm_locks.specs.declared.view.Met.{Met}
use Rattle.pm_locks.specs.declared.view.Out.{Out}
use Rattle.pm_locks.specs.declared.view.View.{View}
use Rattle.pm_locks.specs.Refusals.{HasAdded, AreOfFrame, HasShown, ShowsNotLent}
use Rattle.pm_locks.specs.Rule.{HasImage, HasTakenImage}
use Rattle.pm_locks.specs.Views.{due_at}
use Rattle.pm_flush.specs.declared.due_page.DuePage.{DuePage}
use Rattle.pm_flush.specs.Frames.{image_of}

-- the writer was asked to write the page: it did so, or failed
abbrev pub is_asked : {E : Type 0} → Result Bool E → Bool
is_asked (Ok is_written) = is_written
is_asked (Err e) = true

-- The page's frame was taken and put back, and the image that was due there counts as taken.
pub record TakesFrame (old new : View) (page : DuePage) : Type 0 where
  pub was_due : HasImage (due_at old.dues page.frame) page.tag (image_of old page)
  pub taken : HasTakenImage (due_at new.dues page.frame) page.tag (image_of old page)
  pub others : (f : ℕ) → f ≢ page.frame → due_at new.dues f ≡ due_at old.dues f
  pub out : Out
  pub outs : new.outs ≡ (page.frame, None) ∷ (page.frame, Some out) ∷ old.outs
  pub added : List Met
  pub met : HasAdded old new added
  pub frame : AreOfFrame page.frame added

-- The page's frame wasn't had, and what the seat met shows why.
pub record LeavesFrame (old new : View) (page : DuePage) : Type 0 where
  pub dues : new.dues ≡ old.dues
  pub outs : new.outs ≡ old.outs
  pub shown : HasShown old new page.frame (λ added. ShowsNotLent added page.frame page.tag flag.Due)

-- By the page's copy: a copied page is written, and its frame left alone; of another one the frame was taken
-- where the writer was asked to write it.
abbrev pub TriesPage : Option (List ℕ) → Bool → View → View → DuePage → Type 0
TriesPage (Some bytes) asked old new page = (asked ≡ true) × (new ≡ old)
TriesPage None true old new page = TakesFrame old new page
TriesPage None false old new page = LeavesFrame old new page
