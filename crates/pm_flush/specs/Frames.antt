-- What a flush does to frames, by what its seat knows.
use Rattle.std.specs.Prelude.{◌≡◌, ◌≢◌, ℕ, List, [], ◌++◌, Option, Some, None}
use Rattle.std.specs.Prelude.{All, Contains}
use Rattle.pm_types.specs.declared.flag.Flag.TheVariants as flag
use Rattle.pm_types.specs.declared.page_id.PageId.{PageId}
use Rattle.pm_locks.specs.declared.view.Due.{Due}
use Rattle.pm_locks.specs.declared.view.Met.{Met}
use Rattle.pm_locks.specs.declared.view.Out.{Out}
use Rattle.pm_locks.specs.declared.view.View.{View}
use Rattle.pm_locks.specs.Refusals.{HasAdded, ShowsNotLent}
use Rattle.pm_locks.specs.Rule.{HasImage, HasTakenImage}
use Rattle.pm_locks.specs.Views.{due_at}
use Rattle.pm_flush.specs.declared.due_page.DuePage.{DuePage}
use Rattle.pm_flush.specs.Copies.{CopiedPage, copy_of}

-- an image's bytes
abbrev pub image_in : Option Due → List ℕ
image_in None = []
image_in (Some due) = due.image

-- the image that is due of a page's frame
abbrev pub image_of : View → DuePage → List ℕ
image_of view due = image_in (due_at view.dues due.frame)

-- the bytes of a copy, or these
abbrev pub copied_or : Option (List ℕ) → List ℕ → List ℕ
copied_or None image = image
copied_or (Some bytes) image = bytes

-- the bytes that are to be written of a page: its copy's, and else the image that is due of its frame
abbrev pub bytes_due : List CopiedPage → View → DuePage → List ℕ
bytes_due copies view due = copied_or (copy_of copies due.page) (image_of view due)

-- a page of the job, which is one of these and isn't copied
pub record IsUncopied (copies : List CopiedPage) (job : List DuePage) (pages : List PageId)
    (due : DuePage) : Type 0 where
  pub named : Contains job due
  pub among : Contains pages due.page
  pub uncopied : copy_of copies due.page ≡ None

-- Of the job's pages that are among these and aren't copied, the frames were taken and put back: the image that
-- was due there, under the job's tag, counts as taken. No other frame was taken, and of none another image is due.
pub record TakesImages (old new : View) (copies : List CopiedPage) (job : List DuePage)
    (pages : List PageId) : Type 0 where
  pub was_due : (due : DuePage) → IsUncopied copies job pages due
      → HasImage (due_at old.dues due.frame) due.tag (image_of old due)
  pub taken : (due : DuePage) → IsUncopied copies job pages due
      → HasTakenImage (due_at new.dues due.frame) due.tag (image_of old due)
  pub others : (f : ℕ) → ((due : DuePage) → IsUncopied copies job pages due → due.frame ≢ f)
      → due_at new.dues f ≡ due_at old.dues f
  pub outs : List (ℕ × Option Out)
  pub outs_are : new.outs ≡ outs ++ old.outs
  pub only : All (λ out. (due : DuePage) × IsUncopied copies job pages due × (out.0 ≡ due.frame)) outs

-- The job's pages that are among these aren't copied, and what the seat met shows why their frames weren't had.
-- It met no frames but those of the job's pages that aren't copied.
pub record RefusesFrames (old new : View) (copies : List CopiedPage) (job : List DuePage)
    (pages : List PageId) : Type 0 where
  pub added : List Met
  pub met : HasAdded old new added
  pub frames : All (λ m. (due : DuePage) × Contains job due × (copy_of copies due.page ≡ None)
      × (m.frame ≡ due.frame)) added
  pub uncopied : (due : DuePage) → Contains job due → Contains pages due.page
      → copy_of copies due.page ≡ None
  pub refused : (due : DuePage) → Contains job due → Contains pages due.page
      → ShowsNotLent added due.frame due.tag flag.Due
