-- Where frames stand there is room for a SEAL after them.
use Rattle.std.proofs.Common.{◌≡◌, inl, inr, ℕ, ◌≤◌, List, [], ◌∷◌, drop, sym, ◌∙◌, ap, subst, arith, Bool, true, false}
use Rattle.std.specs.Prelude.{◌&&◌, if◌then◌else◌}
use Rattle.pm_types.specs.declared.place.Place.{Place}
use Rattle.pm_frame.specs.declared.limits.TheConstants.{FRAME_END_MAX, SEGMENT_END_MAX}
use Rattle.pm_frame.specs.Frames.{Frame, end_max}
use Rattle.pm_frame.proofs.FrameAt.{frame_at-some}
use Rattle.pm_records.specs.Logs.{ends_log, next_place, is_over, all_frames, HasFrames, after_frames, is_seal, is_last}
use Rattle.pm_records.proofs.Runs.{neither, bool_cases, next-plain, next-seal}

-- where frames don't end the log there is room for a SEAL after them
pub run_room : (c : ℕ → List ℕ) (p : Place) (fs : List Frame) → p.off ≤ FRAME_END_MAX → HasFrames all_frames c p fs → is_over p fs ≡ false → (after_frames p fs).off ≤ FRAME_END_MAX
run_room c p [] le run goes_on = le
run_room c p (f ∷ fs) le run goes_on =
    let parts = neither (ends_log p f) (is_over (next_place p f) fs) goes_on in
    let room : (next_place p f).off ≤ FRAME_END_MAX = elim (bool_cases (is_seal f)) [
      | inl sealed ↦ subst (λ (r : Place). r.off ≤ FRAME_END_MAX) (sym (next-seal p f sealed (inner p f sealed parts.0))) (omega arith)
      | inr plain ↦
          let head = (frame_at-some p (drop p.off (c p.seg)) f run.0).0 in
          let latest : end_max f.kind ≡ FRAME_END_MAX = ap (λ (b : Bool). if b then SEGMENT_END_MAX else FRAME_END_MAX) plain in
          subst (λ (r : Place). r.off ≤ FRAME_END_MAX) (sym (next-plain p f plain)) (omega (arith, head.ends, latest))
    ] in
    run_room c (next_place p f) fs room run.2 parts.1
  where
    inner : (q : Place) (h : Frame) → is_seal h ≡ true → ends_log q h ≡ false → is_last q.seg ≡ false
    inner q h sealed still = sym (ap (λ b. b && is_last q.seg) sealed) ∙ still
