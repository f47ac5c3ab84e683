-- The records of the log, applied again one after the other.
use Rattle.std.proofs.Common.{◌≡◌, ℕ, ◌≤◌, Bool, true, false, List, [], ◌∷◌, ◌++◌, Some, None, refl, sym, ap, ◌∙◌, subst, arith}
use Rattle.std.specs.Prelude.{◌||◌, if◌then◌else◌}
use Rattle.pm_types.specs.declared.place.Place.{Place}
use Rattle.pm_types.specs.declared.shape.Shape.{Shape}
use Rattle.pm_frame.specs.Frames.{Frame, frame_at}
use Rattle.pm_disk.specs.Worlds.{World}
use Rattle.pm_model.specs.Eval.{Pairs}
use Rattle.pm_records.specs.LogFiles.{contents}
use Rattle.pm_records.specs.Logs.{all_frames, ends_log, next_place, after_frames, is_over, HasFrames}
use Rattle.pm_records.proofs.Runs.{neither, next_rises, rises_from}
use Rattle.pm_segments.specs.Ends.{LogEnd}
use Rattle.pm_segments.specs.Scans.{Scanned, bytes_after, frame_ahead}
use Rattle.pm_segments.proofs.GrownLog.{Extends, frame_stays}
use Rattle.pm_core.specs.Replays.{all_replayed}
use Rattle.pm_core.specs.States.{State}
use Rattle.pm_engine.specs.Replays.{AreLasting, LogLeadsTo}

-- ---- frames that stand ahead

pub stands_on : (scan : Scanned) (w : World) → scan.is_over ≡ false → frame_ahead scan w ≡ frame_at scan.next (bytes_after scan.next w)
stands_on scan w going = ap (λ (b : Bool). if b then None else frame_at scan.next (bytes_after scan.next w)) going

-- frames that stand one after the other, and are as the first of others
pub front_run : (bytes : ℕ → List ℕ) (p : Place) (xs ys : List Frame) → HasFrames all_frames bytes p (xs ++ ys) → HasFrames all_frames bytes p xs
front_run bytes p [] ys run = tt
front_run bytes p (x ∷ xs) ys run = (run.0, λ ends. none xs (run.1 ends), front_run bytes (next_place p x) xs ys run.2)
  where
    none : (fs : List Frame) → fs ++ ys ≡ [] → fs ≡ []
    none [] is = refl
    none (f ∷ fs) is = absurd cc

-- they stand where they stood when the segments from theirs on grew
pub run_on : (old new : ℕ → List ℕ) (p : Place) (fs : List Frame) (most : ℕ) → ((seg : ℕ) → p.seg ≤ seg → seg ≤ most → Extends (old seg) (new seg)) → (after_frames p fs).seg ≤ most → HasFrames all_frames old p fs → HasFrames all_frames new p fs
run_on old new p [] most more le run = tt
run_on old new p (f ∷ fs) most more le run =
    let low : p.seg ≤ most = omega (arith, rises_from p (f ∷ fs), le) in (
      frame_stays p.seg p.off (old p.seg) (new p.seg) f (more p.seg (omega arith) low) run.0,
      run.1,
      run_on old new (next_place p f) fs most (λ seg from to. more seg (omega (arith, next_rises p f, from)) to) le run.2,
    )

-- Of the frames that stood in the log up to its end these were applied, and the others stand ahead of the scan.
pub record StandsAhead (from end : Place) (frames : List Frame) (scan : Scanned) (was now : World) (log : LogEnd) : Type 0 where
  pub rest : List Frame
  pub stood : HasFrames all_frames (contents was.log) from (frames ++ rest)
  pub ahead : HasFrames all_frames (contents now.log) scan.next rest
  pub to : after_frames scan.next rest ≡ end
  pub behind : end.seg ≤ log.end.seg

stands_none : (from end : Place) (scan : Scanned) (w : World) (log : LogEnd) → scan.next ≡ from → LogLeadsTo from end log w → StandsAhead from end [] scan w w log
stands_none from end scan w log next leads = record {
  rest = leads.frames;
  stood = leads.run;
  ahead = subst (λ (p : Place). HasFrames all_frames (contents w.log) p leads.frames) (sym next) leads.run;
  to = ap (λ (p : Place). after_frames p leads.frames) next ∙ leads.to;
  behind = leads.behind;
}

-- ---- records that were applied so far

-- Frames lead from a place to where the scan goes on, and make this map of that one. They stood in the log, and the
-- others up to its end stand ahead.
pub record ReadsSoFar (from end : Place) (base : Pairs) (scan : Scanned) (shape : Shape) (map : Pairs) (was now : World) (log : LogEnd) : Type 0 where
  pub frames : List Frame
  pub next : scan.next ≡ after_frames from frames
  pub holds : all_replayed shape frames (Some base) ≡ Some map
  pub over : scan.is_over ≡ is_over from frames
  pub stands : StandsAhead from end frames scan was now log

pub reads_none : (from end : Place) (base : Pairs) (scan : Scanned) (shape : Shape) (w : World) (log : LogEnd) → scan.next ≡ from → scan.is_over ≡ false → LogLeadsTo from end log w → ReadsSoFar from end base scan shape base w w log
reads_none from end base scan shape w log next over leads = record { frames = []; next = next; holds = refl; over = over; stands = stands_none from end scan w log next leads }

pub or_false : (b : Bool) → (b || false) ≡ b
or_false true = refl
or_false false = refl

-- ---- records that make a map

-- frames that lead on from the first one's end are lasting as well
pub lasts_next : (p : Place) (f : Frame) (fs : List Frame) (shape : Shape) (pairs : Pairs) (s : State) (w : World) → AreLasting p (f ∷ fs) shape pairs s w → AreLasting (next_place p f) fs shape pairs s w
lasts_next p f fs shape pairs s w lasts = record {
  later = lasts.later;
  leads = record {
    kept = omega (arith, lasts.leads.kept, next_rises p f);
    run = lasts.leads.run.2;
    to = lasts.leads.to;
    goes_on = (neither (ends_log p f) (is_over (next_place p f) (fs ++ lasts.later)) lasts.leads.goes_on).1;
  };
  stays = lasts.stays;
}
