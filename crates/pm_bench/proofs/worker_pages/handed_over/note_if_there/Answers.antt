-- A look at a page changes none, so what is noted after it is all that changed.
use Rattle.std.proofs.Common.{⊎_elim, inl, inr, sym, ap, subst, ◌∙◌, ◌<◌}
use Rattle.std.specs.Prelude.{slice_index}
use Rattle.pm_pages.specs.Rows.{bytes_of}
use Rattle.pm_bench.proofs.worker_pages.handed_over.note_if_there.Goals as goal

pub returns-then-is_there-clause-notes : goal.returns-then-is_there-clause-notes
returns-then-is_there-clause-notes g c = record {
  covered = λ j k lt told not.
      let still = ⊎_elim (λ t. inl t) (λ known. inr (c.is_there.ensures.known j known)) told in
      c.note_ranges.ensures.notes.covered j k (subst (λ size. k < size) (sym c.is_there.ensures.size) lt) still not ∙ ap (λ o. slice_index (bytes_of o) k) (c.is_there.ensures.pages j told);
}
