-- An append may be made wherever the tail was cut, and leaves the log ready for the next one.
use Rattle.std.proofs.Common.{◌≡◌, inl, inr, ℕ, ◌+◌, ◌^◌, ◌<◌, ◌≤◌, List, [], ◌∷◌, ◌++◌, length, refl, sym, ◌∙◌, ap, subst, arith, Bool, true, false}
use Rattle.std.specs.Prelude.{if◌then◌else◌}
use Rattle.std.proofs.lemmas.Bool.{leb-true}
use Rattle.std.proofs.lemmas.Bool.Decides.{nat_tests}
use Rattle.pm_types.specs.declared.place.Place.{Place}
use Rattle.pm_frame.specs.declared.limits.TheConstants.{FRAME_EXTRA, FRAME_END_MAX, SEGMENT_END_MAX}
use Rattle.pm_frame.specs.Frames.{Frame, IsFrame, end_max}
use Rattle.pm_frame.proofs.FrameAt.{is_frame-from}
use Rattle.pm_disk.specs.Worlds.{World}
use Rattle.pm_records.specs.LogFiles.{Ready, Written, IsWritten, IsRecordFrame, AfterSeal}
use Rattle.pm_records.specs.LogSteps.{Step, Append, Force, NextSegment, next_segment, end_after, world_after, tail_forced, written_after}
use Rattle.pm_records.specs.Logs.{all_frames, is_last, place, HasNoSeal, is_seal, seal_frame, is_sealed}
use Rattle.pm_records.proofs.Runs.{bool_cases}
use Rattle.pm_records.proofs.Writing.{CanAll, steps_keep}
use Rattle.pm_segments.specs.Appends.{enter_steps, roll_steps, append_steps}
use Rattle.pm_segments.specs.Ends.{LogEnd, HasRoom, has_room, LogIsOpen}
use Rattle.pm_segments.proofs.Sealing.{fits_seal}

is_sealed-last : (fs : List Frame) → is_sealed (fs ++ seal_frame ∷ []) ≡ true
is_sealed-last [] = refl
is_sealed-last (f ∷ []) = refl
is_sealed-last (f ∷ h ∷ fs) = is_sealed-last (h ∷ fs)

plain-append : (fs : List Frame) (f : Frame) → HasNoSeal fs → is_seal f ≡ false → HasNoSeal (fs ++ f ∷ [])
plain-append [] f plain open_ = (open_, tt)
plain-append (h ∷ fs) f plain open_ = (plain.0, plain-append fs f plain.1 open_)

module _ (log : LogEnd) (frame : Frame) (is : IsRecordFrame frame) (s : Written) (is_open : LogIsOpen log s) where
  abbrev end : Place
  end = log.end

  no_seal : is_seal frame ≡ false
  no_seal = let lt = is.known_to in grind (arith, nat_tests)

  latest : end_max frame.kind ≡ FRAME_END_MAX
  latest = ap (λ (b : Bool). if b then SEGMENT_END_MAX else FRAME_END_MAX) no_seal

  fits_at : (seg off : ℕ) → off + length frame.payload + FRAME_EXTRA ≤ FRAME_END_MAX → seg < 2 ^ 64 → all_frames.fits seg off frame ≡ true
  fits_at seg off ends numbered =
      let head : IsFrame (place seg off) frame = record { known_from = is.known_from; known_to = omega (arith, is.known_to); short = is.short; ends = omega (arith, ends, latest); numbered = numbered } in
      is_frame-from (place seg off) frame head

  seal_fits : all_frames.fits end.seg end.off seal_frame ≡ true
  seal_fits =
      let head : IsFrame (place end.seg end.off) seal_frame = record { known_from = omega arith; known_to = omega arith; short = omega arith; ends = omega (arith, is_open.room_to_seal); numbered = omega (arith, is_open.numbered) } in
      is_frame-from (place end.seg end.off) seal_frame head

  not_last : is_last end.seg ≡ false
  not_last = let lt = is_open.numbered in grind (arith, nat_tests)

  unsealed : (seg : ℕ) → is_seal frame ≡ true → is_last seg ≡ false
  unsealed seg sealed = let no : true ≡ false = sym sealed ∙ no_seal in absurd cc

  next_numbered : next_segment end.seg < 2 ^ 64
  next_numbered = let lt = is_open.numbered in let later : next_segment end.seg ≡ end.seg + 1 = grind (arith, nat_tests) in omega (arith, later, lt)

  sealed_tail : tail_forced s.tail (s.pending ++ seal_frame ∷ []) ≡ AfterSeal
  sealed_tail = ap (λ tail. tail_forced tail (s.pending ++ seal_frame ∷ [])) is_open.ready ∙ ap (λ (b : Bool). if b then AfterSeal else Ready) (is_sealed-last s.pending)

  abbrev rolling : List Step
  rolling = Append seal_frame ∷ Force ∷ NextSegment ∷ Force ∷ Append frame ∷ []

  -- the steps of the append, by cases
  append_cases : (P : List Step → Type 0) → (HasRoom log (length frame.payload) → P (Append frame ∷ [])) → P rolling → P (append_steps log frame)
  append_cases P fitting roll = elim (bool_cases (has_room log (length frame.payload))) [
    | inl room ↦
        subst P (sym (ap (λ (b : Bool). let steps : List Step = if b then [] else roll_steps end in steps ++ Append frame ∷ []) room)) (fitting (leb-true _ _ room))
    | inr full ↦
        let sealed = fits_seal end is_open.room_to_seal in
        let same : append_steps log frame ≡ rolling =
        ap (λ (b : Bool). let steps : List Step = if b then [] else roll_steps end in steps ++ Append frame ∷ []) full
        ∙ ap (λ (b : Bool). let steps : List Step = if b then Append seal_frame ∷ [] else [] in (steps ++ enter_steps) ++ Append frame ∷ []) sealed in
        subst P (sym same) roll
  ]

  -- each of them may be made
  pub append_can : (low : ℕ) → CanAll low (append_steps log frame) end s
  append_can low = append_cases (λ steps. CanAll low steps end s)
      (λ room. ((is_open.ready, is_open.plain, fits_at end.seg end.off (omega (arith, room, is_open.limits.size_to)) (omega (arith, is_open.numbered)), unsealed end.seg), tt))
      ((is_open.ready, is_open.plain, seal_fits, λ _. not_last), (inl is_open.ready, ((sealed_tail, is_open.numbered), (inr refl, ((refl, tt, fits_at (next_segment end.seg) 0 (omega (arith, is.short)) next_numbered, unsealed (next_segment end.seg)), tt)))))

  -- they append the frame, after a SEAL where it didn't fit
  pub append_tail : (written_after (append_steps log frame) s).tail ≡ Ready
  append_tail = append_cases (λ steps. (written_after steps s).tail ≡ Ready) (λ room. is_open.ready) refl

  pub append_plain : HasNoSeal (written_after (append_steps log frame) s).pending
  append_plain = append_cases (λ steps. HasNoSeal (written_after steps s).pending) (λ room. plain-append s.pending frame is_open.plain no_seal) (no_seal, tt)

  -- once it is done, one frame more stands at the log's end, and all others as they stood
  pub append_written : (old : World) (low : ℕ) (from : Place) → IsWritten old low from end s → IsWritten (world_after (append_steps log frame) end old) low from (end_after (append_steps log frame) end) (written_after (append_steps log frame) s)
  append_written old low from written = steps_keep low (append_steps log frame) old from end s written (append_can low)
