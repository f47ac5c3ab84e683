-- What a run or a crash leaves is a start for the next run.
use Rattle.std.proofs.Common.{ℕ, ◌+◌, ◌*◌, ◌<◌, ◌^◌, length, ◌≡◌, ◌⊎◌, inl, inr, List, [], ◌∷◌, take, refl, sym, ◌∙◌, ap, subst, arith}
use Rattle.std.specs.FinMap.{empty}
use Rattle.pm_types.specs.declared.limits.TheConstants.{OP_PAGES}
use Rattle.pm_types.specs.declared.shape.Shape.{Shape}
use Rattle.pm_types.specs.Shapes.{IsShape}
use Rattle.pm_types.proofs.PageSizeBounds.{page_size_bounds}
use Rattle.pm_disk.specs.Files.{File, content}
use Rattle.pm_disk.specs.Images.{Image, NothingPending}
use Rattle.pm_disk.specs.Worlds.{World, empty_world}
use Rattle.pm_frame.specs.Frames.{Frame}
use Rattle.pm_model.specs.declared.line.Line.{Line}
use Rattle.pm_model.specs.Eval.{Pairs, after, after_all}
use Rattle.pm_model.specs.Orders.{after_numbers, line_at}
use Rattle.pm_model.proofs.Runs.{after_all-append}
use Rattle.pm_records.specs.Logs.{all_frames, after_frames, place, IsLogFrom}
use Rattle.pm_records.proofs.FrameGrammar.{frame_laws}
use Rattle.pm_records.proofs.Runs.{none_past, one_log}
use Rattle.pm_marks.specs.InForce.{Checkpoint, NoStart, number_in, replay_of}
use Rattle.pm_marks.proofs.SlotMarks.{mark_at-short}
use Rattle.pm_core.specs.Held.{in_force}
use Rattle.pm_core.specs.LogAlone.{image_of}
use Rattle.pm_core.specs.Sound.{LogIsAlone, Sound, SoundImage}
use Rattle.pm_core.proofs.NoFiles.{nothing_is_sound}
use Rattle.pm_core.proofs.Ranges.{no_page}
use Rattle.pm_core.proofs.WithoutStart.{none_in_force}
use Rattle.pm_engine.specs.RunningLines.{SameDisk}
use Rattle.pm_top.specs.Chains.{Follows, HasCrashed, IsFoundAfter, IsFresh, Stage, WasDone, found_last, lines_kept, lines_with}
use Rattle.pm_top.specs.Crashes.{HasNumbers}
use Rattle.pm_top.specs.Promises.{IsLeft, IsStart, last_after, number_after}
use Rattle.pm_top.specs.Served.{script_of}

-- ---- the same content

-- what a store's files hold is what a run begins over
start_from : (wanted : Shape) (image : Image) (world : World) (shape : Shape) (pairs : Pairs) → image_of world ≡ image → (sound : SoundImage wanted image shape pairs) → HasNumbers wanted image shape pairs sound → NothingPending world → IsStart wanted world shape pairs
start_from wanted image world shape pairs same sound numbers quiet =
    let both : (s : SoundImage wanted (image_of world) shape pairs) × HasNumbers wanted (image_of world) shape pairs s =
    subst (λ (held : Image). (s : SoundImage wanted held shape pairs) × HasNumbers wanted held shape pairs s) (sym same) (sound, numbers) in
    record { sound = both.0; numbers = both.1; quiet = quiet }

-- the same, where the numbers are those of the world
found_start : (wanted : Shape) (image : Image) (world : World) (shape : Shape) (pairs : Pairs) → image_of world ≡ image → SoundImage wanted image shape pairs → ((sound : Sound wanted world shape pairs) → HasNumbers wanted (image_of world) shape pairs sound) → NothingPending world
    → IsStart wanted world shape pairs
found_start wanted image world shape pairs same sound numbers quiet =
    let here : Sound wanted world shape pairs = subst (λ (held : Image). SoundImage wanted held shape pairs) (sym same) sound in
    record { sound = here; numbers = numbers here; quiet = quiet }

-- ---- what a crash leaves

found_image : (image : Image) (world : World) → IsFoundAfter image world → image_of world ≡ image
found_image image world found = λ i. record {
  log = λ seg. ap content (found.log seg) i;
  pages = λ part. ap content (found.pages part) i;
  starts = ap content found.starts i;
  ends = ap content found.ends i;
}

found_quiet : (image : Image) (world : World) → IsFoundAfter image world → NothingPending world
found_quiet image world found = record {
  log = λ seg. ap (λ (f : File). f.since) (found.log seg);
  pages = λ part. ap (λ (f : File). f.since) (found.pages part);
  starts = ap (λ (f : File). f.since) found.starts;
  ends = ap (λ (f : File). f.since) found.ends;
}

pub crash_law : (wanted shape : Shape) (image : Image) (world : World) (pairs : Pairs) (sound : SoundImage wanted image shape pairs) → HasNumbers wanted image shape pairs sound → IsFoundAfter image world → IsStart wanted world shape pairs
crash_law wanted shape image world pairs sound numbers found = start_from wanted image world shape pairs (found_image image world found) sound numbers (found_quiet image world found)

-- ---- what a done run leaves

same_image : (new world : World) → SameDisk new world → image_of world ≡ image_of new
same_image new world same = λ i. record {
  log = λ seg. content (same.log i seg);
  pages = λ part. content (same.pages i part);
  starts = content (same.starts i);
  ends = content (same.ends i);
}

same_quiet : (new world : World) → SameDisk new world → NothingPending new → NothingPending world
same_quiet new world same quiet = record {
  log = subst (λ (log : ℕ → File). (seg : ℕ) → (log seg).since ≡ []) (sym same.log) quiet.log;
  pages = subst (λ (pages : ℕ → File). (part : ℕ) → (pages part).since ≡ []) (sym same.pages) quiet.pages;
  starts = subst (λ (f : File). f.since ≡ []) (sym same.starts) quiet.starts;
  ends = subst (λ (f : File). f.since ≡ []) (sym same.ends) quiet.ends;
}

pub done_law : (wanted shape : Shape) (old new world : World) (pairs : Pairs) (start : IsStart wanted old shape pairs) (left : IsLeft wanted (last_after start) (number_after start) old new shape pairs)
    → HasNumbers wanted (image_of new) shape (after_all shape (script_of old.input) pairs) left.sound → SameDisk new world → IsStart wanted world shape (after_all shape (script_of old.input) pairs)
done_law wanted shape old new world pairs start left numbers same =
    start_from wanted (image_of new) world shape (after_all shape (script_of old.input) pairs) (same_image new world same) left.sound numbers (same_quiet new world same left.quiet)

-- ---- a fresh folder

module _ (wanted : Shape) (shaped : IsShape wanted) where
  alone : LogIsAlone wanted.page_size (image_of empty_world)
  alone = record {
    starts = λ slot. mark_at-short slot [] (omega arith);
    ends = λ slot. mark_at-short slot [] (omega arith);
    bare = λ part index. no_page wanted.page_size index (let bounds = page_size_bounds wanted.page_size shaped.page_size in omega (arith, bounds.0));
  }

  no_start : in_force (image_of empty_world) ≡ NoStart
  no_start = none_in_force wanted.page_size (image_of empty_world) alone

-- an empty log has no frames
no_frames : (frames : List Frame) → IsLogFrom all_frames (λ seg. []) (place 1 0) frames → frames ≡ []
no_frames frames is = one_log all_frames (λ seg. []) (place 1 0) frames [] is (record { run = tt; ends = λ still. none_past all_frames frame_laws 1 0 [] (omega arith) })

few_frames : (checkpoint : Checkpoint) → checkpoint ≡ NoStart → (frames : List Frame) → IsLogFrom all_frames (λ seg. []) (replay_of checkpoint) frames → (after_frames (replay_of checkpoint) frames).seg + (1 + (OP_PAGES + 1) * length frames) < 2 ^ 62
few_frames checkpoint none frames is =
    subst (λ (c : Checkpoint). (fs : List Frame) → IsLogFrom all_frames (λ seg. []) (replay_of c) fs → (after_frames (replay_of c) fs).seg + (1 + (OP_PAGES + 1) * length fs) < 2 ^ 62) (sym none)
    (λ fs its. subst (λ (gs : List Frame). (after_frames (place 1 0) gs).seg + (1 + (OP_PAGES + 1) * length gs) < 2 ^ 62) (sym (no_frames fs its)) (omega arith)) frames is

few_checkpoints : (checkpoint : Checkpoint) → checkpoint ≡ NoStart → (frames : List Frame) → IsLogFrom all_frames (λ seg. []) (replay_of checkpoint) frames → number_in checkpoint + length frames < 2 ^ 62
few_checkpoints checkpoint none frames is =
    subst (λ (c : Checkpoint). (fs : List Frame) → IsLogFrom all_frames (λ seg. []) (replay_of c) fs → number_in c + length fs < 2 ^ 62) (sym none)
    (λ fs its. subst (λ (gs : List Frame). number_in NoStart + length gs < 2 ^ 62) (sym (no_frames fs its)) (omega arith)) frames is

fresh_numbers : (wanted : Shape) → IsShape wanted → (sound : Sound wanted empty_world wanted empty) → HasNumbers wanted (image_of empty_world) wanted empty sound
fresh_numbers wanted shaped sound = record {
  segments = few_frames (in_force (image_of empty_world)) (no_start wanted shaped) sound.holds.frames sound.holds.log;
  checkpoints = few_checkpoints (in_force (image_of empty_world)) (no_start wanted shaped) sound.holds.frames sound.holds.log;
}

fresh_image : (world : World) → IsFresh world → image_of world ≡ image_of empty_world
fresh_image world fresh = λ i. record {
  log = λ seg. ap content (fresh.log seg) i;
  pages = λ part. ap content (fresh.pages part) i;
  starts = ap content fresh.starts i;
  ends = ap content fresh.ends i;
}

pub fresh_start : (wanted : Shape) (world : World) → IsShape wanted → IsFresh world → IsStart wanted world wanted empty
fresh_start wanted world shaped fresh =
    let sound = nothing_is_sound wanted shaped in
    start_from wanted (image_of empty_world) world wanted empty (fresh_image world fresh) sound (fresh_numbers wanted shaped sound)
    record {
      log = λ seg. ap (λ (f : File). f.since) (fresh.log seg);
      pages = λ part. ap (λ (f : File). f.since) (fresh.pages part);
      starts = ap (λ (f : File). f.since) fresh.starts;
      ends = ap (λ (f : File). f.since) fresh.ends;
    }

-- ---- one after the other

-- the lines with some numbers leave what the numbers leave
numbers_leave : (shape : Shape) (numbers : List ℕ) (script : List Line) (pairs : Pairs) → after_numbers shape numbers 1 script pairs ≡ after_all shape (lines_with script numbers) pairs
numbers_leave shape [] script pairs = refl
numbers_leave shape (n ∷ numbers) script pairs = numbers_leave shape numbers script (after shape (line_at 1 script n) pairs)

stage_start : (wanted shape : Shape) (start : World) (pairs : Pairs) (stage : Stage) → IsStart wanted start shape pairs → WasDone wanted shape start pairs stage ⊎ HasCrashed wanted shape start pairs stage → IsStart wanted stage.next shape (after_all shape stage.lines pairs)
stage_start wanted shape start pairs stage begins run = elim run [
  | inl done ↦
      let left = done.left begins in
      found_start wanted (image_of done.new) stage.next shape (after_all shape stage.lines pairs) (same_image done.new stage.next done.found)
      (subst (λ (ls : List Line). Sound wanted done.new shape (after_all shape ls pairs)) (sym done.lines_are) left.sound) done.numbers (same_quiet done.new stage.next done.found left.quiet)
  | inr crashed ↦
      let kept = crashed.kept begins in
      let script = script_of start.input in
      let map : after_numbers shape (take kept.count crashed.order) 1 script pairs ≡ after_all shape stage.lines pairs =
      numbers_leave shape (take kept.count crashed.order) script pairs ∙ ap (λ (ls : List Line). after_all shape ls pairs) (sym (crashed.lines_are begins)) in
      found_start wanted crashed.image stage.next shape (after_all shape stage.lines pairs) (found_image crashed.image stage.next crashed.found)
      (subst (SoundImage wanted crashed.image shape) map kept.holds.0) crashed.numbers (found_quiet crashed.image stage.next crashed.found)
]

pub chain : (wanted shape : Shape) (start : World) (pairs : Pairs) (stages : List Stage) → IsStart wanted start shape pairs → Follows wanted shape start pairs stages → IsStart wanted (found_last start stages) shape (after_all shape (lines_kept stages) pairs)
chain wanted shape start pairs [] begins follows = begins
chain wanted shape start pairs (stage ∷ stages) begins follows =
    subst (λ (m : Pairs). IsStart wanted (found_last stage.next stages) shape m) (sym (after_all-append shape stage.lines (lines_kept stages) pairs))
    (chain wanted shape stage.next (after_all shape stage.lines pairs) stages (stage_start wanted shape start pairs stage begins follows.0) follows.1)
