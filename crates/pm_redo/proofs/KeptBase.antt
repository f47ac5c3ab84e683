-- The base pages stand in the partitions' files once a store was restored.
use Rattle.std.proofs.Common.{◌≡◌, ◌∙◌, ℕ, Result, Ok, Err, refl, ap, subst}
use Rattle.std.specs.Prelude.{IfOk, OnOk, IsErr}
use Rattle.pm_types.specs.declared.place.Place.{Place}
use Rattle.pm_types.specs.declared.shape.Mark.{Mark}
use Rattle.pm_types.specs.declared.shape.Shape.{Shape}
use Rattle.pm_disk.specs.Files.{File, content}
use Rattle.pm_disk.specs.Moments.{History, AllMoments}
use Rattle.pm_disk.specs.Worlds.{World}
use Rattle.pm_records.specs.LogFiles.{contents}
use Rattle.pm_records.specs.LogSteps.{DoesSteps, cut_steps}
use Rattle.pm_segments.specs.Ends.{LogEnd}
use Rattle.pm_marks.specs.InForce.{Checkpoint, NoStart, Started, Ended, replay_of}
use Rattle.pm_core.specs.BasePages.{Rebuilds, no_pages, laid_over, pages_of, base_of}
use Rattle.pm_core.specs.Calls.{ChangesDisk}
use Rattle.pm_redo.specs.Ending.{LaysPages, StandsInFile}
use Rattle.pm_redo.specs.LogEnds.{LogEndsAt}
use Rattle.pm_redo.specs.PageMaps.{PageMap, kept_pages}
use Rattle.pm_redo.specs.Restoring.{CutsLog, KeepsBase, OnlyCutsLog, RestoresFiles}
use Rattle.pm_redo.proofs.RestoringSteps.{on_err}

-- a call that failed
pub failed_files : {T E : Type 0} (checkpoint : Checkpoint) (old new : History) (answer : Result T E) → IsErr answer → AllMoments old new (ChangesDisk old.world) → RestoresFiles {T = T} {E = E} checkpoint old new answer
failed_files checkpoint old new answer err disk = record { disk = disk; base = on_err answer (KeepsBase checkpoint old.world new.world) err; log = on_err answer (OnlyCutsLog checkpoint old.world new.world) err }

-- the log was cut, and nothing else was changed
pub cut_pages : {E : Type 0} (result : Result LogEnd E) (old new : History) (replay : Place) (size : ℕ) → IfOk result (CutsLog (contents old.world.log) replay size)
    → ((end : Place) → LogEndsAt (contents old.world.log) replay end → DoesSteps old new result cut_steps end) → OnOk result (new.world.pages ≡ old.world.pages)
cut_pages (Ok log) old new replay size cuts steps = ap (λ (w : World). w.pages) (steps log.end cuts.ends).all
cut_pages (Err fault) old new replay size cuts steps = tt

pub cut_alone : {T E : Type 0} (result : Result T E) (checkpoint : Checkpoint) (old new : History) → ((end : Place) → LogEndsAt (contents old.world.log) (replay_of checkpoint) end → DoesSteps {T = T} {E = E} old new result cut_steps end)
    → OnOk result (OnlyCutsLog checkpoint old.world new.world)
cut_alone (Ok log) checkpoint old new steps = λ end ends. ap (λ (w : World). w.log) (steps end ends).all
cut_alone (Err fault) checkpoint old new steps = tt

-- without a start marker there are none
pub none_kept : (old now : World) → now.pages ≡ old.pages → KeepsBase NoStart old now
none_kept old now same = record { rebuilt = no_pages; rebuilt_are = refl; stays = λ part index page is. is; files = same }

-- with its end marker the log rebuilds none
pub ended_kept : (mark : Mark) (old now : World) → now.pages ≡ old.pages → KeepsBase (Ended mark) old now
ended_kept mark old now same = record {
  rebuilt = no_pages;
  rebuilt_are = refl;
  stays = λ part index page is. ap (λ (files : ℕ → File). base_of (Ended mark) no_pages (λ n. content (files n)) part index) same ∙ is;
  files = same;
}

-- a checkpoint was ended, once the log was cut
pub started_kept : (mark : Mark) (kept : PageMap) (old cut now : World) → kept.shape ≡ mark.shape → Rebuilds mark (contents old.log) (kept_pages kept) → cut.pages ≡ old.pages → LaysPages kept cut now → KeepsBase (Started mark) old now
started_kept mark kept old cut now shaped rebuilds same lays = record {
  rebuilt = kept_pages kept;
  rebuilt_are = rebuilds;
  stays = λ part index page is.
      subst (λ (shape : Shape). StandsInFile shape.page_size now part index page) shaped
      (lays part index page
      (ap (λ (files : ℕ → File). laid_over (kept_pages kept) (pages_of kept.shape.page_size (λ n. content (files n))) part index) same
      ∙ ap (λ (shape : Shape). laid_over (kept_pages kept) (pages_of shape.page_size (λ n. content (old.pages n))) part index) shaped ∙ is));
  files = tt;
}
