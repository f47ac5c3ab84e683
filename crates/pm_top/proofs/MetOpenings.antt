-- Pages that couldn't be used, over the base pages that a store had once it was restored.
use Rattle.std.proofs.Common.{◌≡◌, List, sym, subst}
use Rattle.std.specs.List.{All}
use Rattle.pm_types.specs.declared.page_id.PageId.{PageId}
use Rattle.pm_types.specs.declared.shape.Shape.{Shape}
use Rattle.pm_disk.specs.Worlds.{World}
use Rattle.pm_marks.specs.InForce.{Checkpoint}
use Rattle.pm_model.specs.declared.line.Line.{Line}
use Rattle.pm_core.specs.Held.{in_force}
use Rattle.pm_core.specs.LogAlone.{image_of}
use Rattle.pm_engine.specs.Engines.{FrameRunning}
use Rattle.pm_engine.specs.FrameOpenings.{IsBadOpeningPage, OpensOverBase}
use Rattle.pm_engine.specs.FrameStores.{pages_in_frames}
use Rattle.pm_engine.specs.MetPages.{AllowsLine, MeetsBadPage}
use Rattle.pm_engine.specs.Openings.{restored_base}
use Rattle.pm_engine.proofs.MetBasePages.{met_in_base}
use Rattle.pm_engine.proofs.ToldFaults.{met_told}
use Rattle.pm_top.specs.Promises.{IsFoundByLine, IsMetByLine, IsMetOver, NamesFound}

-- a page that a record met while the store was opened
pub opening_told : (tells : Type 0) (t : tells) (shape : Shape) (checkpoint : Checkpoint) (old : World) (id : PageId) → IsBadOpeningPage tells shape checkpoint old id → IsBadOpeningPage (Unit {0}) shape checkpoint old id
opening_told tells t shape checkpoint old id x = record {
  mid = x.mid;
  keeps = x.keeps;
  bad = x.bad;
  frames = x.frames;
  records = x.records;
  meets = λ may_change allows. met_told tells (Unit {0}) (λ u. t) may_change shape (restored_base checkpoint x.mid) id (x.meets may_change allows);
}

module _ (wanted : Shape) (old now : World) (engine : FrameRunning) (lines : List Line) (same : engine.store.shape ≡ wanted) (opens : OpensOverBase wanted (in_force (image_of old)) old now engine) where
  -- one that a line met over the store that was opened
  pub met_over : (id : PageId) → IsMetByLine engine.store.shape (pages_in_frames engine.store now) lines id → IsMetOver wanted old lines id
  met_over id met = record {
    mid = opens.mid;
    keeps = opens.keeps;
    frames = opens.frames;
    records = opens.records;
    meets = λ may_change records allows.
        met_in_base wanted may_change (restored_base (in_force (image_of old)) opens.mid) (pages_in_frames engine.store now) (opens.pages may_change records) (Unit {0}) id
        (subst (λ (s : Shape). MeetsBadPage (Unit {0}) may_change s (pages_in_frames engine.store now) id) same
        (met may_change (subst (λ (s : Shape). All (AllowsLine may_change s) lines) (sym same) allows)));
  }

  -- what was found bad then is named
  pub found_over : (new : World) → (found : IsFoundByLine engine.store.shape (pages_in_frames engine.store now) lines new) → NamesFound wanted old lines found.left found.text
  found_over new found = (found.met, met_over found.met found.meets, found.names)
