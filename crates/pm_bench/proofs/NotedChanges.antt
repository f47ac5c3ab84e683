-- Code that looks at pages, and code that edits them and notes each change, notes what it changed.
use Rattle.std.proofs.Common.{ℕ, ◌⊎◌, ⊎_elim, inl, inr, sym, ap, subst, ◌∙◌, ◌<◌}
use Rattle.std.specs.Prelude.{slice_index}
use Rattle.pm_pages.specs.Edits.{EditsPages, LooksAtPages}
use Rattle.pm_pages.specs.Paged.{Paged, IsTold}
use Rattle.pm_pages.specs.Rows.{bytes_of}
use Rattle.pm_stripe.specs.Covers.{NotesChanges}

module _ (T : Type 0) where
  pub looks_note : (old new : Paged) (most : ℕ) → LooksAtPages T old new most → NotesChanges T old new
  looks_note old new most x = record { covered = λ j k lt told not. ap (λ o. slice_index (bytes_of o) k) (x.pages j told) }

  pub edits_note : (old new : Paged) (touched : ℕ → Type 0) (most : ℕ) → EditsPages T old new touched most → NotesChanges T old new
  edits_note old new touched most x = record { covered = x.covered }

  -- where pages were looked at before
  pub then_note : (old middle new : Paged) (most : ℕ) → LooksAtPages T old middle most → NotesChanges T middle new → NotesChanges T old new
  then_note old middle new most x y = record {
    covered = λ j k lt told not.
        let still : IsTold T middle j = ⊎_elim (λ t. inl t) (λ known. inr (x.known j known)) told in
        y.covered j k (subst (λ size. k < size) (sym x.same.page_size) lt) still not ∙ ap (λ o. slice_index (bytes_of o) k) (x.pages j told);
  }
