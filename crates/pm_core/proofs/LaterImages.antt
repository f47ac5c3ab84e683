-- How far what a crash leaves goes at most: the segment in which its log ends, and the number of the checkpoint in force.
use Rattle.std.proofs.Common.{◌≡◌, inl, inr, ℕ, zero, suc, ◌+◌, ◌≤◌, List, [], ◌∷◌, ◌++◌, take, Bool, true, false, Option, Some, None, refl, sym, ◌∙◌, ap, subst, arith}
use Rattle.std.specs.Prelude.{if◌then◌else◌, ◌&&◌, not}
use Rattle.std.proofs.lemmas.Bool.Decides.{nat_tests}
use Rattle.pm_types.specs.declared.place.Place.{Place}
use Rattle.pm_types.specs.declared.shape.Shape.{Shape}
use Rattle.pm_frame.specs.Frames.{Frame, frame_len}
use Rattle.pm_disk.specs.Files.{File, bytes_of}
use Rattle.pm_disk.specs.Images.{Image, LeavesAll}
use Rattle.pm_disk.specs.Worlds.{World}
use Rattle.pm_model.specs.Eval.{Pairs}
use Rattle.pm_records.specs.LogFiles.{Tail, Uncut, AfterSeal, Cutting, Ready, EndIs, OnlyTheseStood}
use Rattle.pm_records.specs.LogSteps.{Step, CutTail, Append, Force, NextSegment, DropSegment, ForceSegment, next_segment}
use Rattle.pm_records.specs.Logs.{all_frames, place, place_after, is_seal, is_last, enters_next, next_place, after_frames, IsLogFrom}
use Rattle.pm_records.proofs.FrameGrammar.{frame_laws}
use Rattle.pm_records.proofs.Runs.{LogLeft, bool_cases, log_image, one_log}
use Rattle.pm_marks.specs.InForce.{Checkpoint, number_in, replay_of}
use Rattle.pm_core.specs.Calls.{MakesPrefix}
use Rattle.pm_core.specs.Held.{in_force}
use Rattle.pm_core.specs.LogAlone.{log_in}
use Rattle.pm_core.specs.Machine.{DiskStep, OnLog, WriteFirst, WriteStart, ForceStart, WritePage, ForcePages, WriteEnd, ForceEnd, Say, CanLog, Can, CanAll, log_state, next_state, next_world, states, worlds}
use Rattle.pm_core.specs.Prefixes.{IsUpTo, last_number}
use Rattle.pm_core.specs.Sound.{SoundImage, IsTrueImage}
use Rattle.pm_core.specs.Stands.{IsGood, IsViewOf, Stands, soon_or}
use Rattle.pm_core.specs.States.{State, View}
use Rattle.pm_core.proofs.CrashLaw.{run_stands, can_front}
use Rattle.pm_core.proofs.Images.{joined_log, joined_end}
use Rattle.pm_core.proofs.Saying.{say_in_force}

-- ---- where frames lead to of which only the last may be a SEAL

next_le : (p : Place) (f : Frame) → (next_place p f).seg ≤ p.seg + 1
next_le p f = by (enters_next p f)
  where
    by : (b : Bool) → (if b then place (p.seg + 1) 0 else place_after p f).seg ≤ p.seg + 1
    by true = omega arith
    by false = omega arith

take_none : (n : ℕ) → take {A = Frame} n [] ≡ []
take_none zero = refl
take_none (suc n) = refl

stood_le : (seg off : ℕ) (file : File) (pending : List Frame) (n : ℕ) → OnlyTheseStood all_frames seg file off pending → (after_frames (place seg off) (take n pending)).seg ≤ seg + 1
stood_le seg off file pending zero stood = omega arith
stood_le seg off file [] (suc n) stood = omega arith
stood_le seg off file (f ∷ fs) (suc n) stood = elim (bool_cases (is_seal f)) [
  | inl seal ↦
      let none : take n fs ≡ [] = ap (take n) (stood.1 seal).0 ∙ take_none n in
      subst (λ gs. (after_frames (next_place (place seg off) f) gs).seg ≤ seg + 1) (sym none) (next_le (place seg off) f)
  | inr plain ↦
      subst (λ (b : Bool). (after_frames (if b && not (is_last seg) then place (seg + 1) 0 else place_after (place seg off) f) (take n fs)).seg ≤ seg + 1) (sym plain)
      (stood_le seg (off + frame_len f) file fs n (stood.2 plain))
]

pub end_le : (tail : Tail) (end at : Place) (pending : List Frame) (n : ℕ) (file : File) → EndIs tail end at pending → OnlyTheseStood all_frames at.seg file at.off pending
    → (after_frames at (take n pending)).seg ≤ end.seg + 1
end_le Uncut end at pending n file ends stood =
    let none : take n pending ≡ [] = ap (take n) ends.1 ∙ take_none n in
    subst (λ gs. (after_frames at gs).seg ≤ end.seg + 1) (sym none) (omega (arith, ap (λ (p : Place). p.seg) ends.0))
end_le AfterSeal end at pending n file ends stood =
    let none : take n pending ≡ [] = ap (take n) ends.1 ∙ take_none n in
    subst (λ gs. (after_frames at gs).seg ≤ end.seg + 1) (sym none) (omega (arith, ap (λ (p : Place). p.seg) ends.0))
end_le Cutting end at pending n file ends stood =
    let none : take n pending ≡ [] = ap (take n) ends.1 ∙ take_none n in
    subst (λ gs. (after_frames at gs).seg ≤ end.seg + 1) (sym none) (omega (arith, ap (λ (p : Place). p.seg) ends.0))
end_le Ready end at pending n file ends stood = omega (arith, stood_le at.seg at.off file pending n stood, ap (λ (p : Place). p.seg) ends)

-- ---- one moment

-- the checkpoint in force has at most the number of the marker that was written last
AreOrdered : State → Type 0
AreOrdered s = number_in s.now.checkpoint ≤ last_number s

view_le : (now : View) (soon : Option View) (view : View) → IsViewOf now soon view → number_in now.checkpoint ≤ number_in (soon_or soon now).checkpoint
    → number_in view.checkpoint ≤ number_in (soon_or soon now).checkpoint
view_le now None view is le = omega (arith, ap (λ (v : View). number_in v.checkpoint) is)
view_le now (Some soon) view (inl is) le = omega (arith, ap (λ (v : View). number_in v.checkpoint) is, le)
view_le now (Some soon) view (inr is) le = omega (arith, ap (λ (v : View). number_in v.checkpoint) is)

image_up_to : (wanted : Shape) (told : List ℕ → ℕ) (s : State) (w : World) (image : Image) → Stands wanted told s w → AreOrdered s → LeavesAll w image → IsTrueImage w image
    → (shape : Shape) (pairs : Pairs) (sound : SoundImage wanted image shape pairs) → IsUpTo (s.end.seg + 1) (last_number s) wanted image shape pairs sound
unfolding AreOrdered
image_up_to wanted told s w image stands ordered leaves honest shape pairs sound =
    let c : ℕ → List ℕ = log_in image in
    let li : LogLeft all_frames w.log s.low s.at s.pending c = log_image all_frames frame_laws w.log s.low s.at s.pending s.tail image.log stands.log leaves.log honest.frames in
    let mv = stands.marks image.starts image.ends leaves.starts honest.starts leaves.ends honest.ends in
    let v : View = mv.0 in
    let good : IsGood wanted s w.log w.pages v = stands.good v mv.1 in
    let force : in_force image ≡ v.checkpoint = say_in_force v.checkpoint (bytes_of image.starts) (bytes_of image.ends) mv.2 in
    let rest = take li.front.count s.pending in
    let joined = joined_log w.log s.low s.at s.pending c li (replay_of v.checkpoint) good.frames good.replay in
    let there = subst (λ (ch : Checkpoint). IsLogFrom all_frames c (replay_of ch) (good.frames ++ rest)) (sym force) joined.log in
    let same : sound.holds.frames ≡ good.frames ++ rest = one_log all_frames c (replay_of (in_force image)) sound.holds.frames (good.frames ++ rest) sound.holds.log there in
    let to : after_frames (replay_of (in_force image)) sound.holds.frames ≡ after_frames s.at rest =
    ap (after_frames (replay_of (in_force image))) same ∙ ap (λ (ch : Checkpoint). after_frames (replay_of ch) (good.frames ++ rest)) force
    ∙ joined_end w.log s.low s.at s.pending c li (replay_of v.checkpoint) good.frames good.replay in
    record {
      segment = omega (arith, ap (λ (p : Place). p.seg) to, end_le s.tail s.end s.at s.pending li.front.count (w.log s.at.seg) stands.ends stands.log.stood);
      checkpoint = omega (arith, ap number_in force, view_le s.now s.soon v mv.1 ordered);
    }

-- ---- steps

-- a step ends the log no lower, and writes a marker of no lower number
record Rises (s t : State) : Type 0 where
  ordered : AreOrdered t
  numbers : last_number s ≤ last_number t
  segments : s.end.seg ≤ t.end.seg

log_rises : (t : Step) (s : State) → CanLog t s → AreOrdered s → Rises s (log_state t s)
unfolding AreOrdered
log_rises CutTail s can is = record { ordered = is; numbers = omega arith; segments = omega arith }
log_rises (Append f) s can is = record { ordered = is; numbers = omega arith; segments = omega arith }
log_rises Force s can is = record { ordered = is; numbers = omega arith; segments = omega arith }
log_rises NextSegment s can is =
    let lt = can.1 in
    let next : next_segment s.end.seg ≡ s.end.seg + 1 = grind (arith, nat_tests) in
    record { ordered = is; numbers = omega arith; segments = omega (arith, next) }
log_rises (DropSegment seg) s can is = record { ordered = is; numbers = omega arith; segments = omega arith }
log_rises (ForceSegment seg) s can is = record { ordered = is; numbers = omega arith; segments = omega arith }

alone_last : (s : State) → s.soon ≡ None → last_number s ≡ number_in s.now.checkpoint
alone_last s alone = ap (λ (o : Option View). number_in (soon_or o s.now).checkpoint) alone

step_rises : (told : List ℕ → ℕ) (t : DiskStep) (s : State) (w : World) → Can told t s w → AreOrdered s → Rises s (next_state t s w)
unfolding AreOrdered
step_rises told (OnLog step) s w can is = log_rises step s can is
step_rises told (WriteFirst file) s w can is = record { ordered = is; numbers = omega arith; segments = omega arith }
step_rises told (WriteStart mark rebuilt) s w can is =
    let last = alone_last s can.0.alone in
    record { ordered = omega (arith, can.0.next); numbers = omega (arith, last, can.0.next); segments = omega arith }
step_rises told ForceStart s w can is = record { ordered = omega arith; numbers = omega arith; segments = omega arith }
step_rises told (WritePage page gap bytes) s w can is = record { ordered = is; numbers = omega arith; segments = omega arith }
step_rises told (ForcePages part) s w can is = record { ordered = is; numbers = omega arith; segments = omega arith }
step_rises told (WriteEnd mark) s w can is =
    let last = alone_last s can.0.alone in
    let runs : number_in s.now.checkpoint ≡ mark.number = ap number_in can.0.runs in
    record { ordered = omega (arith, runs); numbers = omega (arith, last, runs); segments = omega arith }
step_rises told ForceEnd s w can is = record { ordered = omega arith; numbers = omega arith; segments = omega arith }
step_rises told (Say bytes) s w can is = record { ordered = is; numbers = omega arith; segments = omega arith }

-- after some of the steps it is no further than after all
record RisesOn (mid last : State) : Type 0 where
  ordered : AreOrdered mid
  numbers : last_number mid ≤ last_number last
  segments : mid.end.seg ≤ last.end.seg

rises_on : (told : List ℕ → ℕ) (k : ℕ) (ts : List DiskStep) (s : State) (w : World) → CanAll told ts s w → AreOrdered s → RisesOn (states (take k ts) s w) (states ts s w)
rises_on told zero [] s w can is = record { ordered = is; numbers = omega arith; segments = omega arith }
rises_on told (suc k) [] s w can is = record { ordered = is; numbers = omega arith; segments = omega arith }
rises_on told zero (t ∷ ts) s w can is =
    let one = step_rises told t s w can.0 is in
    let more = rises_on told zero ts (next_state t s w) (next_world t s w) can.1 one.ordered in
    record { ordered = is; numbers = omega (arith, one.numbers, more.numbers); segments = omega (arith, one.segments, more.segments) }
rises_on told (suc k) (t ∷ ts) s w can is =
    let one = step_rises told t s w can.0 is in
    rises_on told k ts (next_state t s w) (next_world t s w) can.1 one.ordered

alone_ordered : (s : State) → s.soon ≡ None → AreOrdered s
unfolding AreOrdered
alone_ordered s alone = omega (arith, alone_last s alone)

pub call_up_to : (wanted : Shape) (told : List ℕ → ℕ) (s : State) (w : World) (ts : List DiskStep) → Stands wanted told s w → s.soon ≡ None → CanAll told ts s w → (now : World) → MakesPrefix ts s w now → (image : Image)
    → LeavesAll now image → IsTrueImage now image → (shape : Shape) (pairs : Pairs) (sound : SoundImage wanted image shape pairs)
    → IsUpTo ((states ts s w).end.seg + 1) (last_number (states ts s w)) wanted image shape pairs sound
call_up_to wanted told s w ts stands alone can now some image leaves honest shape pairs sound =
    let k = some.0 in
    let mid = states (take k ts) s w in
    let on = rises_on told k ts s w can (alone_ordered s alone) in
    let here = image_up_to wanted told mid (worlds (take k ts) s w) image (run_stands wanted told (take k ts) s w stands (can_front told k ts s w can)) on.ordered
    (subst (λ (v : World). LeavesAll v image) some.2 leaves) (subst (λ (v : World). IsTrueImage v image) some.2 honest) shape pairs sound in
    record { segment = omega (arith, here.segment, on.segments); checkpoint = omega (arith, here.checkpoint, on.numbers) }
