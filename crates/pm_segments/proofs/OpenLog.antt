-- An open log stays open: an append leaves all frames as they stood and one more after them, a force makes all of them
-- lasting, and a crash at any moment leaves a first part of them that has all that were lasting.
use Rattle.std.proofs.Common.{◌≡◌, ◌⊎◌, inl, inr, ℕ, ◌+◌, ◌^◌, ◌<◌, ◌≤◌, List, [], ◌∷◌, ◌++◌, length, take, Option, refl, sym, ◌∙◌, ap, subst, arith, Bool, true, false, append-nil}
use Rattle.std.specs.Prelude.{if◌then◌else◌}
use Rattle.std.proofs.lemmas.Bool.{leb-true}
use Rattle.std.proofs.lemmas.Bool.Decides.{nat_tests}
use Rattle.pm_types.specs.declared.place.Place.{Place}
use Rattle.pm_frame.specs.Frames.{Frame}
use Rattle.pm_disk.specs.Files.{bytes_of}
use Rattle.pm_disk.specs.Worlds.{World, log_forced}
use Rattle.pm_disk.specs.Images.{Leaves, IsTrueOf}
use Rattle.pm_records.specs.LogFiles.{Ready, Written, IsWritten, IsRecordFrame, AfterSeal}
use Rattle.pm_records.specs.LogSteps.{Step, Append, Force, step_end, next_segment, end_after, DoesPrefix, tail_forced, next_written, written_after, frames_in}
use Rattle.pm_records.specs.Logs.{all_frames, place_after, HasNoSeal, seal_frame, is_sealed, IsLogWithNothingAbove}
use Rattle.pm_records.proofs.Runs.{bool_cases}
use Rattle.pm_records.proofs.Tracing.{end_after-append, prefix_none}
use Rattle.pm_records.proofs.Writing.{frames_in-append, CanAll, step_keeps, crash_law}
use Rattle.pm_segments.specs.Appends.{enter_steps, roll_steps, room_steps, roomy, rolled, grown, append_steps, steps_of}
use Rattle.pm_segments.specs.Ends.{LogEnd, HasRoom, has_room, LogIsOpen}
use Rattle.pm_segments.proofs.AppendLaw.{append_can, append_tail, append_plain}
use Rattle.pm_segments.proofs.Sealing.{fits_seal, roomy_end}

-- without a SEAL among them the frames don't end with one
plain_unsealed : (fs : List Frame) → HasNoSeal fs → is_sealed fs ≡ false
plain_unsealed [] plain = refl
plain_unsealed (f ∷ []) plain = plain.0
plain_unsealed (f ∷ h ∷ fs) plain = plain_unsealed (h ∷ fs) plain.1

-- what a crash leaves of a log at rest
pub open_image : (world : World) (low : ℕ) (from end : Place) (s : Written) → IsWritten world low from end s
    → (left : ℕ → Option (List ℕ)) → ((seg : ℕ) → Leaves (world.log seg) (left seg)) → ((seg : ℕ) → IsTrueOf (all_frames.frame_at seg) (world.log seg) (left seg))
    → (n : ℕ) × (length s.lasting ≤ n) × IsLogWithNothingAbove all_frames (λ seg. bytes_of (left seg)) from (take n (s.lasting ++ s.pending))
open_image world low from end s written left leaves honest =
    let image = crash_law [] world world low from end s written tt (prefix_none [] end world) left leaves honest in
    (image.0, image.1, subst (λ fs. IsLogWithNothingAbove all_frames (λ seg. bytes_of (left seg)) from (take image.0 fs)) (append-nil (s.lasting ++ s.pending)) image.2)

-- ---- an append

module _ (log : LogEnd) (frame : Frame) (is : IsRecordFrame frame) (s : Written) (is_open : LogIsOpen log s) where
  abbrev end : Place
  end = log.end

  abbrev steps : List Step
  steps = append_steps log frame

  abbrev len : ℕ
  len = length frame.payload

  sealed : has_room log len ≡ false → frames_in (room_steps log len) ≡ seal_frame ∷ []
  sealed full =
      let fits = fits_seal end is_open.room_to_seal in
      ap (λ (c : Bool). frames_in (if c then [] else roll_steps end)) full
      ∙ ap (λ (c : Bool). let first : List Step = if c then Append seal_frame ∷ [] else [] in frames_in (first ++ enter_steps)) fits

  -- the frames that come before the record: a SEAL where the record doesn't fit
  pub room_frames : (frames_in (room_steps log len) ≡ []) ⊎ (frames_in (room_steps log len) ≡ seal_frame ∷ [])
  room_frames = elim (bool_cases (has_room log len)) [
    | inl room ↦ inl (ap (λ (b : Bool). frames_in (if b then [] else roll_steps end)) room)
    | inr full ↦ inr (sealed full)
  ]

  -- and those of the whole append
  pub append_frames : frames_in steps ≡ frames_in (room_steps log len) ++ frame ∷ []
  append_frames = frames_in-append (room_steps log len) (Append frame ∷ [])

  -- where the log ends after it
  pub grown_end : end_after steps end ≡ (grown log frame).end
  grown_end = end_after-append (room_steps log len) (Append frame ∷ []) end ∙ ap (λ (p : Place). place_after p frame) (roomy_end log len)

  -- the record fits where it goes
  abbrev Fits : LogEnd → Type 0
  Fits l = (l.segment_bytes ≡ log.segment_bytes) × HasRoom l len × (l.end.seg ≤ end.seg + 1) × (l.first ≤ l.end.seg)

  next_seg : next_segment end.seg ≤ end.seg + 1
  next_seg = let lt = is_open.numbered in let later : next_segment end.seg ≡ end.seg + 1 = grind (arith, nat_tests) in omega (arith, later)

  roomy_fits : Fits (roomy log len)
  roomy_fits = elim (bool_cases (has_room log len)) [
    | inl room ↦ subst (λ (b : Bool). Fits (if b then log else rolled log)) (sym room) (refl, leb-true _ _ room, omega arith, is_open.limits.kept)
    | inr full ↦ subst (λ (b : Bool). Fits (if b then log else rolled log)) (sym full) (refl, omega (arith, is.short, is_open.limits.size_from), next_seg, omega arith)
  ]

  -- the log goes on by a segment at most
  pub grown_seg : (grown log frame).end.seg ≤ end.seg + 1
  grown_seg = roomy_fits.2

  -- and is open again
  pub append_open : end.seg + 2 < 2 ^ 64 → LogIsOpen (grown log frame) (written_after steps s)
  append_open numbered =
      let f = roomy_fits in
      record {
        limits = record {
          kept = f.3;
          within = omega (arith, f.0, f.1, is_open.limits.size_to);
          size_from = omega (arith, f.0, is_open.limits.size_from);
          size_to = omega (arith, f.0, is_open.limits.size_to);
        };
        ready = append_tail log frame is s is_open;
        plain = append_plain log frame is s is_open;
        room_to_seal = omega (arith, f.0, f.1, is_open.limits.size_to);
        numbered = omega (arith, f.2, numbered);
      }

  can_before : (low : ℕ) (xs ys : List Step) (at : Place) (t : Written) → CanAll low (xs ++ ys) at t → CanAll low xs at t
  can_before low [] ys at t can = tt
  can_before low (x ∷ xs) ys at t can = (can.0, can_before low xs ys (step_end x at) (next_written x t) can.1)

  can_try : (low : ℕ) (tried : Bool) → CanAll low (steps_of tried log frame) end s
  can_try low true = append_can log frame is s is_open low
  can_try low false = can_before low (room_steps log len) (Append frame ∷ []) end s (append_can log frame is s is_open low)

  -- what a crash at a moment of it leaves
  pub append_image : (tried : Bool) (old now : World) (low : ℕ) (from : Place) → IsWritten old low from end s → DoesPrefix (steps_of tried log frame) end old now
      → (left : ℕ → Option (List ℕ)) → ((seg : ℕ) → Leaves (now.log seg) (left seg)) → ((seg : ℕ) → IsTrueOf (all_frames.frame_at seg) (now.log seg) (left seg))
      → (n : ℕ) × (length s.lasting ≤ n) × IsLogWithNothingAbove all_frames (λ seg. bytes_of (left seg)) from (take n ((s.lasting ++ s.pending) ++ frames_in (steps_of tried log frame)))
  append_image tried old now low from written some left leaves honest =
      crash_law (steps_of tried log frame) old now low from end s written (can_try low tried) some left leaves honest

-- ---- a force

module _ (log : LogEnd) (s : Written) (is_open : LogIsOpen log s) where
  -- all frames are lasting then
  pub force_written : (world : World) (low : ℕ) (from : Place) → IsWritten world low from log.end s → IsWritten (log_forced log.end.seg world) low from log.end (next_written Force s)
  force_written world low from written = step_keeps low Force world from log.end s written (inl is_open.ready)

  -- and the log is open
  pub force_open : LogIsOpen log (next_written Force s)
  force_open = record {
    limits = is_open.limits;
    ready = ap (λ t. tail_forced t s.pending) is_open.ready ∙ ap (λ (b : Bool). if b then AfterSeal else Ready) (plain_unsealed s.pending is_open.plain);
    plain = tt;
    room_to_seal = is_open.room_to_seal;
    numbered = is_open.numbered;
  }
