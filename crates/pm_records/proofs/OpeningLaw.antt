-- A log with nothing pending is made ready for more by cutting its tail.
use Rattle.std.proofs.Common.{◌≡◌, inl, inr, ℕ, ◌≤◌, List, [], ◌∷◌, length, refl, sym, subst, arith, false, append-nil}
use Rattle.pm_types.specs.declared.place.Place.{Place}
use Rattle.pm_frame.specs.Frames.{Frame}
use Rattle.pm_disk.specs.Worlds.{World}
use Rattle.pm_records.specs.LogFiles.{contents, Uncut, Ready, Written, IsWritten}
use Rattle.pm_records.specs.LogSteps.{cut_steps, world_after}
use Rattle.pm_records.specs.Logs.{all_frames, next_place, enters_next, is_over, after_frames, HasFrames, IsLogWithNothingAbove}
use Rattle.pm_records.proofs.FrameGrammar.{frame_laws}
use Rattle.pm_records.proofs.HeldLog.{quiet_held}
use Rattle.pm_records.proofs.Runs.{bool_cases, next-enters, next-stays}
use Rattle.pm_records.proofs.Writing.{CanAll, steps_keep}

-- a run ends within the file of its last segment
pub run_within : (c : ℕ → List ℕ) (p : Place) (fs : List Frame) → p.off ≤ length (c p.seg) → HasFrames all_frames c p fs → (after_frames p fs).off ≤ length (c (after_frames p fs).seg)
run_within c p [] le run = le
run_within c p (f ∷ fs) le run =
    let within : (next_place p f).off ≤ length (c (next_place p f).seg) = elim (bool_cases (enters_next p f)) [
      | inl enters ↦ subst (λ (q : Place). q.off ≤ length (c q.seg)) (sym (next-enters p f enters)) (omega arith)
      | inr stays ↦ subst (λ (q : Place). q.off ≤ length (c q.seg)) (sym (next-stays p f stays)) (frame_laws.within p.seg p.off (c p.seg) f run.0)
    ] in
    run_within c (next_place p f) fs within run.2

module _ (world : World) (low : ℕ) (from : Place) (fs : List Frame) (quiet : (seg : ℕ) → low ≤ seg → (world.log seg).since ≡ []) (kept : low ≤ from.seg)
    (is_log : IsLogWithNothingAbove all_frames (contents world.log) from fs) (goes_on : is_over from fs ≡ false) (long : from.off ≤ length (contents world.log from.seg)) where
  abbrev end : Place
  end = after_frames from fs

  abbrev uncut : Written
  uncut = record { at = after_frames from fs; lasting = fs; pending = []; tail = Uncut }

  found : IsWritten world low from end uncut
  found = record { log = quiet_held all_frames frame_laws world.log low from end fs quiet kept is_log goes_on refl (run_within (contents world.log) from fs long is_log.log.run); ends = (refl, refl) }

  can : CanAll low cut_steps end uncut
  can = (refl, (inr refl, tt))

  -- once the tail is cut and forced, the log is ready for more
  pub opened : IsWritten (world_after cut_steps end world) low from end (record { at = end; lasting = fs; pending = []; tail = Ready })
  opened = subst (λ l. IsWritten (world_after cut_steps end world) low from end (record { at = end; lasting = l; pending = []; tail = Ready })) (append-nil fs) (steps_keep low cut_steps world from end uncut found can)
