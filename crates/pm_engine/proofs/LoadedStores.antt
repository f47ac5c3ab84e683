-- The base pages of a store that was restored are those that its state has in files.
use Rattle.std.proofs.Common.{◌≡◌, inl, inr, ℕ, ◌<◌, List, Option, Some, None, refl, sym, ap, ◌∙◌, subst}
use Rattle.std.specs.Prelude.{IfSome}
use Rattle.pm_types.specs.declared.shape.Mark.{Mark}
use Rattle.pm_types.specs.declared.shape.Shape.{Shape}
use Rattle.pm_disk.specs.Worlds.{World}
use Rattle.pm_segments.specs.Ends.{LogEnd}
use Rattle.pm_marks.specs.Slots.{IsMark}
use Rattle.pm_core.specs.BasePages.{Partitions, no_pages, laid_over, counted, pages_of}
use Rattle.pm_core.specs.PageLaws.{Grows}
use Rattle.pm_core.specs.Stands.{PagesStand, OnlyNoStart}
use Rattle.pm_core.specs.States.{State}
use Rattle.pm_core.proofs.Junk.{counted_same}
use Rattle.pm_redo.specs.Pictures.{files_in}
use Rattle.pm_redo.proofs.EndingSteps.{lasting_page, short_page}
use Rattle.pm_engine.specs.OpenedStores.{IsRestoredStore}
use Rattle.pm_engine.specs.Openings.{loaded_base}
use Rattle.pm_engine.specs.RunningStores.{IsMarkIn, HasSegmentsFor, ended_with}
use Rattle.pm_engine.proofs.OpenedStores.{good, not_rebuilt, well}

-- a mark that says what a marker may, with this shape
abbrev pub HasMark : Shape → Option Mark → Type 0
HasMark shape mark = IfSome mark (λ m. IsMark m × (m.shape ≡ shape))

-- ---- the pages that are read

pub mark_in : (shape : Shape) (mark : Option Mark) → HasMark shape mark → IsMarkIn mark
mark_in shape None has = tt
mark_in shape (Some mark) has = has.0

-- ---- those of the state

module _ (wanted : Shape) (told : List ℕ → ℕ) (shape : Shape) (log : LogEnd) (mark : Option Mark) (s : State) (w : World) (restored : IsRestoredStore wanted told shape log mark s w) (segments : HasSegmentsFor log 1) (has : HasMark shape mark) where
  stand : PagesStand shape.page_size s.files no_pages w.pages
  stand =
      subst (λ (rebuilt : Partitions). PagesStand shape.page_size s.files rebuilt w.pages) (not_rebuilt wanted told shape log mark s w restored segments)
      (subst (λ (k : Shape). PagesStand k.page_size s.files s.now.rebuilt w.pages) restored.shaped (good wanted told shape log mark s w restored segments).pages_stand)

  -- the files hold them, and maybe others that don't count
  files_grow : (part : ℕ) → Grows (s.files part) (pages_of shape.page_size (files_in w) part)
  files_grow part = record {
    stays = λ index bytes is. let k = stand.kept part index bytes refl is in lasting_page shape.page_size index (w.pages part) bytes k.0 k.1;
    comes = λ index is. elim (stand.absent part index refl is) [ inl short ↦ inl (short_page shape.page_size index (w.pages part) short) | inr some ↦ inr some ];
  }

  pub loaded_counted : (part : ℕ) → part < shape.partitions → counted (loaded_base mark w part) ≡ counted (s.files part)
  loaded_counted part inside = by mark restored.checkpoint has
    where
      bare : (m : Option Mark) → s.now.checkpoint ≡ ended_with m → OnlyNoStart (ended_with m) (s.files ≡ no_pages)
      bare m is = subst (λ c. OnlyNoStart c (s.files ≡ no_pages)) is (good wanted told shape log mark s w restored segments).bare

      by : (m : Option Mark) → s.now.checkpoint ≡ ended_with m → HasMark shape m → counted (loaded_base m w part) ≡ counted (s.files part)
      by None is has = ap (λ (pages : Partitions). counted (pages part)) (sym (bare None is))
      by (Some m) is has =
          ap (λ (k : Shape). counted (laid_over no_pages (pages_of k.page_size (files_in w)) part)) has.1
          ∙ counted_same shape part (s.files part) (pages_of shape.page_size (files_in w) part) (well wanted told shape log mark s w restored segments part inside) (files_grow part)
