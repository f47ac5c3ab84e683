-- What the log's steps make of it, and what a crash at any moment among them leaves.
use Rattle.std.proofs.Common.{◌≡◌, ◌⊎◌, inl, inr, ℕ, zero, suc, ◌+◌, ◌^◌, ◌<◌, ◌≤◌, List, [], ◌∷◌, ◌++◌, length, take, drop, Option, refl, sym, ◌∙◌, ap, subst, arith, Bool, true, false, append_assoc, length-append}
use Rattle.std.specs.Prelude.{if◌then◌else◌}
use Rattle.std.proofs.lemmas.Bool.Decides.{nat_tests}
use Rattle.std.proofs.lemmas.List.{append-nil, take-append-le, take-append-drop}
use Rattle.std.proofs.Math.Seq.{take-append-add}
use Rattle.pm_types.specs.declared.place.Place.{Place}
use Rattle.pm_frame.specs.Frames.{Frame, frame_len}
use Rattle.pm_disk.specs.Files.{Cut, Drop, bytes_of, with_change, all_forced}
use Rattle.pm_disk.specs.Worlds.{World, log_changed, log_forced}
use Rattle.pm_disk.specs.Images.{Leaves, IsTrueOf}
use Rattle.pm_records.specs.LogFiles.{Tail, Uncut, AfterSeal, Cutting, Ready, HoldsLog, Written, IsWritten}
use Rattle.pm_records.specs.LogSteps.{Step, CutTail, Append, Force, NextSegment, DropSegment, ForceSegment, next_segment, next_begin, step_end, cut_at, written, step_world, end_after, world_after, DoesPrefix, frames_in, tail_forced, next_written, written_after}
use Rattle.pm_records.specs.Logs.{Grammar, all_frames, is_seal, is_last, after_frames, frames_len, HasNoSeal, IsLogWithNothingAbove}
use Rattle.pm_records.proofs.FileSteps.{frames_len-append}
use Rattle.pm_records.proofs.FrameGrammar.{frame_laws}
use Rattle.pm_records.proofs.HeldLog.{Open, Sealed, pending_cases, held_append, held_force, held_force_sealed, held_cut, held_force_cut, held_below, held_image}

module _ (low : ℕ) where
  abbrev g : Grammar
  g = all_frames

  -- when a step may be made
  abbrev pub CanStep : Step → Place → Written → Type 0
  CanStep CutTail end s = s.tail ≡ Uncut
  CanStep (Append frame) end s = (s.tail ≡ Ready) × HasNoSeal s.pending × (g.fits end.seg end.off frame ≡ true) × (is_seal frame ≡ true → is_last end.seg ≡ false)
  CanStep Force end s = (s.tail ≡ Ready) ⊎ (s.tail ≡ Cutting)
  CanStep NextSegment end s = (s.tail ≡ AfterSeal) × (end.seg + 1 < 2 ^ 64)
  CanStep (DropSegment seg) end s = seg < low
  CanStep (ForceSegment seg) end s = seg < low

  abbrev pub CanAll : List Step → Place → Written → Type 0
  CanAll [] end s = Unit {0}
  CanAll (step ∷ steps) end s = CanStep step end s × CanAll steps (step_end step end) (next_written step s)

  -- ---- each step

  module _ (world : World) (from end at : Place) (lasting pending : List Frame) where
    abbrev state : List Frame → Tail → Written
    state fs tail = record { at = at; lasting = lasting; pending = fs; tail = tail }

    keeps_append : (f : Frame) → IsWritten world low from end (state pending Ready) → HasNoSeal pending → g.fits end.seg end.off f ≡ true → (is_seal f ≡ true → is_last end.seg ≡ false) → IsWritten (written end f world) low from (step_end (Append f) end) (state (pending ++ f ∷ []) Ready)
    keeps_append f s open_ fits numbered =
        let there : Place = record { seg = at.seg; off = at.off + frames_len pending } in
        let more : at.off + frames_len pending + frame_len f ≡ at.off + frames_len (pending ++ f ∷ []) = omega (arith, frames_len-append pending (f ∷ [])) in
        record {
          log = subst (λ (p : Place). g.fits p.seg p.off f ≡ true → (is_seal f ≡ true → is_last p.seg ≡ false) → HoldsLog g (written p f world).log low from at lasting (pending ++ f ∷ []) Ready) (sym s.ends)
              (λ fits_there numbered_there. held_append g frame_laws world.log low from at lasting pending f s.log open_ fits_there numbered_there) fits numbered;
          ends = ap (λ (p : Place). let q : Place = record { seg = p.seg; off = p.off + frame_len f } in q) s.ends ∙ ap (λ n. let q : Place = record { seg = at.seg; off = n } in q) more;
        }

    keeps_force : IsWritten world low from end (state pending Ready) → IsWritten (log_forced end.seg world) low from end (next_written Force (state pending Ready))
    keeps_force s =
        let laws = frame_laws in
        let same_seg : at.seg ≡ end.seg = sym (ap (λ (p : Place). p.seg) s.ends) in
        subst (λ n. IsWritten (log_forced n world) low from end (next_written Force (state pending Ready))) same_seg
        (elim (pending_cases g laws at.seg at.off (world.log at.seg) pending s.log.files.stood) [
          | Open plain last to ↦
              let there : Place = record { seg = at.seg; off = at.off + frames_len pending } in
              let forced = held_force g laws world.log low from at lasting pending s.log plain to in
              let tail : Ready ≡ tail_forced Ready pending = ap (λ (b : Bool). if b then AfterSeal else Ready) (sym last) in
              let nothing : at.off + frames_len pending ≡ at.off + frames_len pending + 0 = omega arith in
              let done : IsWritten (log_forced at.seg world) low from end (record { at = there; lasting = lasting ++ pending; pending = []; tail = Ready }) = record {
                log = forced;
                ends = s.ends ∙ ap (λ n. let q : Place = record { seg = at.seg; off = n } in q) nothing;
              } in
              subst (λ (p : Place × Tail). IsWritten (log_forced at.seg world) low from end (record { at = p.0; lasting = lasting ++ pending; pending = []; tail = p.1 })) (λ i. (sym to i, tail i)) done
          | Sealed last to ↦
              let there : Place = record { seg = at.seg + 1; off = 0 } in
              let forced = held_force_sealed g laws world.log low from at lasting pending s.log to in
              let tail : AfterSeal ≡ tail_forced Ready pending = ap (λ (b : Bool). if b then AfterSeal else Ready) (sym last) in
              let done : IsWritten (log_forced at.seg world) low from end (record { at = there; lasting = lasting ++ pending; pending = []; tail = AfterSeal }) = record {
                log = forced;
                ends = (ap (λ n. let q : Place = record { seg = n + 1; off = 0 } in q) same_seg, refl);
              } in
              subst (λ (p : Place × Tail). IsWritten (log_forced at.seg world) low from end (record { at = p.0; lasting = lasting ++ pending; pending = []; tail = p.1 })) (λ i. (sym to i, tail i)) done
        ])

    keeps_next : IsWritten world low from end (state pending AfterSeal) → end.seg + 1 < 2 ^ 64 → IsWritten (log_changed (next_segment end.seg) (Cut 0) world) low from (next_begin end) (state pending Cutting)
    keeps_next s numbered =
        let later : next_segment end.seg ≡ end.seg + 1 = grind (arith, nat_tests) in
        let there : at ≡ record { seg = next_segment end.seg; off = 0 } = s.ends.0 ∙ ap (λ n. let q : Place = record { seg = n; off = 0 } in q) (sym later) in
        let empty : HoldsLog g world.log low from at lasting [] AfterSeal = subst (λ (l : List Frame). HoldsLog g world.log low from at lasting l AfterSeal) s.ends.1 s.log in
        let cut = held_cut g frame_laws world.log low from at lasting AfterSeal empty in
        let named : HoldsLog g (log_changed (next_segment end.seg) (Cut 0) world).log low from at lasting [] Cutting =
        subst (λ (p : Place). HoldsLog g (log_changed p.seg (Cut p.off) world).log low from at lasting [] Cutting) there cut in
        record { log = subst (λ (l : List Frame). HoldsLog g (log_changed (next_segment end.seg) (Cut 0) world).log low from at lasting l Cutting) (sym s.ends.1) named; ends = (sym there, s.ends.1) }

    keeps_force_cut : IsWritten world low from end (state pending Cutting) → IsWritten (log_forced end.seg world) low from end (next_written Force (state pending Cutting))
    keeps_force_cut s =
        let same_seg : at.seg ≡ end.seg = sym (ap (λ (p : Place). p.seg) s.ends.0) in
        let cut : HoldsLog g world.log low from at lasting [] Cutting = subst (λ (l : List Frame). HoldsLog g world.log low from at lasting l Cutting) s.ends.1 s.log in
        let forced = held_force_cut g frame_laws world.log low from at lasting cut in
        let e : at.off ≡ at.off + 0 = omega arith in
        let done : IsWritten (log_forced at.seg world) low from end (record { at = at; lasting = lasting ++ []; pending = []; tail = Ready }) = record {
          log = subst (λ (l : List Frame). HoldsLog g (log_forced at.seg world).log low from at l [] Ready) (sym (append-nil lasting)) forced;
          ends = s.ends.0 ∙ ap (λ n. let q : Place = record { seg = at.seg; off = n } in q) e;
        } in
        subst (λ n. IsWritten (log_forced n world) low from end (next_written Force (state pending Cutting))) same_seg
        (subst (λ (l : List Frame). IsWritten (log_forced at.seg world) low from end (record { at = after_frames at l; lasting = lasting ++ l; pending = []; tail = Ready })) (sym s.ends.1) done)

    keeps_cut : IsWritten world low from end (state pending Uncut) → IsWritten (cut_at end world) low from end (next_written CutTail (state pending Uncut))
    keeps_cut s =
        let empty : HoldsLog g world.log low from at lasting [] Uncut = subst (λ (l : List Frame). HoldsLog g world.log low from at lasting l Uncut) s.ends.1 s.log in
        let cut = held_cut g frame_laws world.log low from at lasting Uncut empty in
        let named = subst (λ (p : Place). HoldsLog g (cut_at p world).log low from at lasting [] Cutting) (sym s.ends.0) cut in
        record { log = subst (λ (l : List Frame). HoldsLog g (cut_at end world).log low from at lasting l Cutting) (sym s.ends.1) named; ends = s.ends }

  -- A step keeps the log written.
  pub step_keeps : (step : Step) (world : World) (from end : Place) (s : Written) → IsWritten world low from end s → CanStep step end s → IsWritten (step_world step end world) low from (step_end step end) (next_written step s)
  step_keeps CutTail world from end s is can =
      keeps_cut world from end s.at s.lasting s.pending (subst (λ tail. IsWritten world low from end (record s { tail = tail })) can is)
  step_keeps (Append f) world from end s is can =
      subst (λ tail. IsWritten (written end f world) low from (step_end (Append f) end) (record s { pending = s.pending ++ f ∷ []; tail = tail })) (sym can.0)
      (keeps_append world from end s.at s.lasting s.pending f (subst (λ tail. IsWritten world low from end (record s { tail = tail })) can.0 is) can.1 can.2 can.3)
  step_keeps Force world from end s is can = elim can [
    | inl ready ↦ subst (λ tail. IsWritten (log_forced end.seg world) low from end (next_written Force (record s { tail = tail }))) (sym ready)
        (keeps_force world from end s.at s.lasting s.pending (subst (λ tail. IsWritten world low from end (record s { tail = tail })) ready is))
    | inr cutting ↦ subst (λ tail. IsWritten (log_forced end.seg world) low from end (next_written Force (record s { tail = tail }))) (sym cutting)
        (keeps_force_cut world from end s.at s.lasting s.pending (subst (λ tail. IsWritten world low from end (record s { tail = tail })) cutting is))
  ]
  step_keeps NextSegment world from end s is can =
      keeps_next world from end s.at s.lasting s.pending (subst (λ tail. IsWritten world low from end (record s { tail = tail })) can.0 is) can.1
  step_keeps (DropSegment seg) world from end s is can =
      record { log = held_below g frame_laws world.log low from s.at s.lasting s.pending s.tail seg (with_change (world.log seg) Drop) can is.log; ends = is.ends }
  step_keeps (ForceSegment seg) world from end s is can =
      record { log = held_below g frame_laws world.log low from s.at s.lasting s.pending s.tail seg (all_forced (world.log seg)) can is.log; ends = is.ends }

  -- So do steps one after the other.
  pub steps_keep : (steps : List Step) (world : World) (from end : Place) (s : Written) → IsWritten world low from end s → CanAll steps end s → IsWritten (world_after steps end world) low from (end_after steps end) (written_after steps s)
  steps_keep [] world from end s is can = is
  steps_keep (step ∷ steps) world from end s is can =
      steps_keep steps (step_world step end world) from (step_end step end) (next_written step s) (step_keeps step world from end s is can.0) can.1

  can_first : (k : ℕ) (steps : List Step) (end : Place) (s : Written) → CanAll steps end s → CanAll (take k steps) end s
  can_first zero steps end s can = tt
  can_first (suc k) [] end s can = tt
  can_first (suc k) (step ∷ steps) end s can = (can.0, can_first k steps (step_end step end) (next_written step s) can.1)

  -- at each moment among them the log is written so far
  pub moment_keeps : (steps : List Step) (old now : World) (from end : Place) (s : Written) → IsWritten old low from end s → CanAll steps end s → DoesPrefix steps end old now
      → (k : ℕ) × (k ≤ length steps) × IsWritten now low from (end_after (take k steps) end) (written_after (take k steps) s)
  moment_keeps steps old now from end s is can some =
      let k = some.0 in
      (k, some.1, subst (λ w. IsWritten w low from (end_after (take k steps) end) (written_after (take k steps) s)) (sym some.2) (steps_keep (take k steps) old from end s is (can_first k steps end s can)))

-- ---- which frames they are

pub frames_after : (steps : List Step) (s : Written) → (written_after steps s).lasting ++ (written_after steps s).pending ≡ (s.lasting ++ s.pending) ++ frames_in steps
frames_after [] s = sym (append-nil (s.lasting ++ s.pending))
frames_after (CutTail ∷ steps) s = frames_after steps (next_written CutTail s)
frames_after (Append f ∷ steps) s =
    frames_after steps (next_written (Append f) s)
    ∙ ap (λ l. l ++ frames_in steps) (sym (append_assoc s.lasting s.pending (f ∷ [])))
    ∙ append_assoc (s.lasting ++ s.pending) (f ∷ []) (frames_in steps)
frames_after (Force ∷ steps) s = frames_after steps (next_written Force s) ∙ ap (λ l. l ++ frames_in steps) (append-nil (s.lasting ++ s.pending))
frames_after (NextSegment ∷ steps) s = frames_after steps (next_written NextSegment s)
frames_after (DropSegment seg ∷ steps) s = frames_after steps s
frames_after (ForceSegment seg ∷ steps) s = frames_after steps s

pub lasting_after : (steps : List Step) (s : Written) → length s.lasting ≤ length (written_after steps s).lasting
lasting_after [] s = omega arith
lasting_after (CutTail ∷ steps) s = lasting_after steps (next_written CutTail s)
lasting_after (Append f ∷ steps) s = lasting_after steps (next_written (Append f) s)
lasting_after (Force ∷ steps) s = let le = lasting_after steps (next_written Force s) in omega (arith, le, length-append s.lasting s.pending)
lasting_after (NextSegment ∷ steps) s = lasting_after steps (next_written NextSegment s)
lasting_after (DropSegment seg ∷ steps) s = lasting_after steps s
lasting_after (ForceSegment seg ∷ steps) s = lasting_after steps s

pub frames_in-append : (xs ys : List Step) → frames_in (xs ++ ys) ≡ frames_in xs ++ frames_in ys
frames_in-append [] ys = refl
frames_in-append (CutTail ∷ xs) ys = frames_in-append xs ys
frames_in-append (Append f ∷ xs) ys = ap (λ l. f ∷ l) (frames_in-append xs ys)
frames_in-append (Force ∷ xs) ys = frames_in-append xs ys
frames_in-append (NextSegment ∷ xs) ys = frames_in-append xs ys
frames_in-append (DropSegment seg ∷ xs) ys = frames_in-append xs ys
frames_in-append (ForceSegment seg ∷ xs) ys = frames_in-append xs ys

-- a front of a front
front : (lasting pending rest : List Frame) (n : ℕ) → n ≤ length pending → take (length lasting + n) ((lasting ++ pending) ++ rest) ≡ lasting ++ take n pending
front lasting pending rest n le =
    take-append-le (length lasting + n) (lasting ++ pending) rest (omega (arith, le, length-append lasting pending)) ∙ take-append-add lasting pending n

-- What a crash at any moment among these steps leaves, as long as no sum is right by chance: a first part of the log
-- that has all that was lasting.
pub crash_law : (steps : List Step) (old now : World) (low : ℕ) (from end : Place) (s : Written) → IsWritten old low from end s → CanAll low steps end s → DoesPrefix steps end old now
    → (left : ℕ → Option (List ℕ)) → ((seg : ℕ) → Leaves (now.log seg) (left seg)) → ((seg : ℕ) → IsTrueOf (all_frames.frame_at seg) (now.log seg) (left seg))
    → (n : ℕ) × (length s.lasting ≤ n) × IsLogWithNothingAbove all_frames (λ seg. bytes_of (left seg)) from (take n ((s.lasting ++ s.pending) ++ frames_in steps))
crash_law steps old now low from end s is can some left leaves honest =
    let moment = moment_keeps low steps old now from end s is can some in
    let k = moment.0 in
    let t = written_after (take k steps) s in
    let image = held_image all_frames frame_laws now.log low from t.at t.lasting t.pending t.tail moment.2.log left leaves honest in
    let rest = frames_in (drop k steps) in
    let all : (t.lasting ++ t.pending) ++ rest ≡ (s.lasting ++ s.pending) ++ frames_in steps =
    ap (λ l. l ++ rest) (frames_after (take k steps) s)
    ∙ append_assoc (s.lasting ++ s.pending) (frames_in (take k steps)) rest
    ∙ ap (λ l. (s.lasting ++ s.pending) ++ l) (sym (frames_in-append (take k steps) (drop k steps)) ∙ ap frames_in (take-append-drop k steps)) in
    let has = lasting_after (take k steps) s in (
      length t.lasting + image.0,
      omega (arith, has),
      subst (λ fs. IsLogWithNothingAbove all_frames (λ seg. bytes_of (left seg)) from fs) (sym (front t.lasting t.pending rest image.0 image.1) ∙ ap (take (length t.lasting + image.0)) all) image.2,
    )
