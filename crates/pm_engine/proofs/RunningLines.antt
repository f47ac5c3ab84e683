-- A store that runs does lines, and what a crash leaves of them.
use Rattle.std.proofs.Common.{◌≡◌, ◌⊎◌, inl, inr, ℕ, zero, suc, ◌+◌, ◌-◌, ◌<◌, ◌≤◌, Bool, true, false, List, [], ◌∷◌, ◌++◌, length, take, Option, Some, None, refl, sym, ap, ◌∙◌, subst, arith, append_assoc, append-nil, length-append}
use Rattle.std.specs.Prelude.{if◌then◌else◌, nat_le}
use Rattle.std.proofs.lemmas.Bool.{leb-true}
use Rattle.std.proofs.lemmas.Bool.Decides.{nat_tests}
use Rattle.std.proofs.lemmas.List.{take-append-le}
use Rattle.std.proofs.Math.Seq.{take-length, take-append-add}
use Rattle.pm_types.specs.declared.shape.Mark.{Mark}
use Rattle.pm_types.specs.declared.shape.Shape.{Shape}
use Rattle.pm_frame.specs.Frames.{Frame}
use Rattle.pm_disk.specs.Images.{Image}
use Rattle.pm_disk.specs.Moments.{History, AllMoments}
use Rattle.pm_disk.specs.Worlds.{World}
use Rattle.pm_disk.proofs.Chain.{weaker}
use Rattle.pm_model.specs.declared.line.Line.{Line}
use Rattle.pm_model.specs.Eval.{Pairs, after_all}
use Rattle.pm_records.specs.LogSteps.{Step, CutTail, Append, Force, NextSegment, DropSegment, ForceSegment, step_world, frames_in}
use Rattle.pm_records.specs.Logs.{record_in, seal_frame}
use Rattle.pm_records.proofs.Runs.{bool_cases}
use Rattle.pm_records.proofs.Writing.{frames_in-append}
use Rattle.pm_segments.specs.Appends.{can_seal, enter_steps, room_steps, append_steps, grown}
use Rattle.pm_segments.specs.Ends.{LogEnd, has_room}
use Rattle.pm_core.specs.Calls.{MakesPrefix}
use Rattle.pm_core.specs.Machine.{DiskStep, CanAll, log_state, states}
use Rattle.pm_core.specs.Prefixes.{last_number}
use Rattle.pm_core.specs.Replays.{replayed, all_replayed}
use Rattle.pm_core.specs.Rounds.{on_log}
use Rattle.pm_core.specs.Sound.{SoundImage}
use Rattle.pm_core.specs.Starts.{appended}
use Rattle.pm_core.specs.States.{State, View}
use Rattle.pm_core.specs.Stands.{Stands, soon_or}
use Rattle.pm_core.proofs.CrashLaw.{law_of_call}
use Rattle.pm_core.proofs.LaterImages.{call_up_to}
use Rattle.pm_core.proofs.Replaying.{replayed-append}
use Rattle.pm_marks.specs.InForce.{number_in}
use Rattle.pm_engine.specs.AppendRuns.{append_all_steps}
use Rattle.pm_engine.specs.RunningStores.{number_of}
use Rattle.pm_engine.specs.Replays.{CrashHoldsMap}
use Rattle.pm_engine.specs.RunningLines.{IsAfterPrefix, KeepsLines, GoesUpTo, CrashHoldsLines}
use Rattle.pm_engine.specs.RunningStores.{ended_with}
use Rattle.pm_engine.proofs.RunningLogs.{seal_is}

-- ---- what was appended

pub appended_on : (steps : List Step) (s : State) (w : World) → appended (states (on_log steps) s w) ≡ appended s ++ frames_in steps
appended_on [] s w = sym (append-nil (appended s))
appended_on (CutTail ∷ steps) s w = appended_on steps (log_state CutTail s) (step_world CutTail s.end w)
appended_on (Append f ∷ steps) s w =
    appended_on steps (log_state (Append f) s) (step_world (Append f) s.end w)
    ∙ ap (λ l. l ++ frames_in steps) (sym (append_assoc s.order s.pending (f ∷ []))) ∙ append_assoc (appended s) (f ∷ []) (frames_in steps)
appended_on (Force ∷ steps) s w = appended_on steps (log_state Force s) (step_world Force s.end w) ∙ ap (λ l. l ++ frames_in steps) (append-nil (appended s))
appended_on (NextSegment ∷ steps) s w = appended_on steps (log_state NextSegment s) (step_world NextSegment s.end w)
appended_on (DropSegment seg ∷ steps) s w = appended_on steps (log_state (DropSegment seg) s) (step_world (DropSegment seg) s.end w)
appended_on (ForceSegment seg ∷ steps) s w = appended_on steps (log_state (ForceSegment seg) s) (step_world (ForceSegment seg) s.end w)

-- ---- frames that change no map

abbrev pub ChangeNoMap : Shape → List Frame → Type 0
ChangeNoMap shape [] = Unit {0}
ChangeNoMap shape (frame ∷ frames) = ((pairs : Pairs) → replayed shape (record_in frame) pairs ≡ Some pairs) × ChangeNoMap shape frames

pub no_map_all : (shape : Shape) (fs : List Frame) (pairs : Pairs) → ChangeNoMap shape fs → all_replayed shape fs (Some pairs) ≡ Some pairs
no_map_all shape [] pairs none = refl
no_map_all shape (f ∷ fs) pairs none = ap (all_replayed shape fs) (none.0 pairs) ∙ no_map_all shape fs pairs none.1

no_map_take : (shape : Shape) (k : ℕ) (fs : List Frame) → ChangeNoMap shape fs → ChangeNoMap shape (take k fs)
no_map_take shape zero fs none = tt
no_map_take shape (suc k) [] none = tt
no_map_take shape (suc k) (f ∷ fs) none = (none.0, no_map_take shape k fs none.1)

no_map_append : (shape : Shape) (xs ys : List Frame) → ChangeNoMap shape xs → ChangeNoMap shape ys → ChangeNoMap shape (xs ++ ys)
no_map_append shape [] ys one two = two
no_map_append shape (x ∷ xs) ys one two = (one.0, no_map_append shape xs ys one.1 two)

seal_no_map : (shape : Shape) (pairs : Pairs) → replayed shape (record_in seal_frame) pairs ≡ Some pairs
seal_no_map shape pairs = ap (λ o. replayed shape o pairs) seal_is

room_no_map : (shape : Shape) (log : LogEnd) (n : ℕ) → ChangeNoMap shape (frames_in (room_steps log n))
room_no_map shape log n = by (has_room log n) (can_seal log.end)
  where
    by : (room seals : Bool) → ChangeNoMap shape (frames_in (if room then [] else (if seals then Append seal_frame ∷ [] else []) ++ enter_steps))
    by true seals = tt
    by false true = (seal_no_map shape, tt)
    by false false = tt

pub append_no_map : (shape : Shape) (log : LogEnd) (f : Frame) (fs : List Frame) → ChangeNoMap shape (f ∷ fs) → ChangeNoMap shape (frames_in (append_steps log f))
append_no_map shape log f fs none =
    let n = length f.payload in
    subst (λ l. ChangeNoMap shape l) (sym (frames_in-append (room_steps log n) (Append f ∷ []))) (no_map_append shape (frames_in (room_steps log n)) (f ∷ []) (room_no_map shape log n) (none.0, tt))

pub all_no_map : (shape : Shape) (log : LogEnd) (fs : List Frame) → ChangeNoMap shape fs → ChangeNoMap shape (frames_in (append_all_steps log fs))
all_no_map shape log [] none = tt
all_no_map shape log (f ∷ fs) none =
    let one = append_steps log f in
    let more = append_all_steps (grown log f) fs in
    subst (λ l. ChangeNoMap shape l) (sym (frames_in-append one more))
    (no_map_append shape (frames_in one) (frames_in more) (append_no_map shape log f fs none) (all_no_map shape (grown log f) fs none.1))

-- ---- frames of a line

-- each prefix of these frames leaves this map or that one
abbrev LeaveEither : Shape → Pairs → Pairs → List Frame → Type 0
LeaveEither shape now next frames = (m : ℕ) → (all_replayed shape (take m frames) (Some now) ≡ Some now) ⊎ (all_replayed shape (take m frames) (Some now) ≡ Some next)

split_le : (n m : ℕ) → (n ≤ m) ⊎ ((k : ℕ) × (n ≡ m + k))
split_le n m = elim (bool_cases (nat_le n m)) [
  | inl le ↦ inl (leb-true n m le)
  | inr past ↦ let lt : m < n = grind (arith, nat_tests) in inr (n - m, omega (arith, lt))
]

one_changes : (shape : Shape) (now next : Pairs) (xs : List Frame) (f : Frame) (ys : List Frame) → ChangeNoMap shape xs → replayed shape (record_in f) now ≡ Some next → ChangeNoMap shape ys → LeaveEither shape now next (xs ++ f ∷ ys)
one_changes shape now next xs f ys before is rest m = elim (split_le m (length xs)) [
  | inl le ↦ inl (ap (λ l. all_replayed shape l (Some now)) (take-append-le m xs (f ∷ ys) le) ∙ no_map_all shape (take m xs) now (no_map_take shape m xs before))
  | inr past ↦ later past.0 (ap (λ n. take n (xs ++ f ∷ ys)) past.1 ∙ take-append-add xs (f ∷ ys) past.0)
]
  where
    here : (gs : List Frame) → ChangeNoMap shape gs → all_replayed shape (xs ++ f ∷ gs) (Some now) ≡ Some next
    here gs none =
        replayed-append shape xs (f ∷ gs) (Some now) ∙ ap (all_replayed shape (f ∷ gs)) (no_map_all shape xs now before)
        ∙ ap (all_replayed shape gs) is ∙ no_map_all shape gs next none

    later : (k : ℕ) → take m (xs ++ f ∷ ys) ≡ xs ++ take k (f ∷ ys)
        → (all_replayed shape (take m (xs ++ f ∷ ys)) (Some now) ≡ Some now) ⊎ (all_replayed shape (take m (xs ++ f ∷ ys)) (Some now) ≡ Some next)
    later zero e = inl (ap (λ l. all_replayed shape l (Some now)) (e ∙ append-nil xs) ∙ no_map_all shape xs now before)
    later (suc k) e = inr (ap (λ l. all_replayed shape l (Some now)) e ∙ here (take k ys) (no_map_take shape k ys rest))

-- the steps that append a record which changes the map, and then others which don't
pub steps_either : (shape : Shape) (now next : Pairs) (log : LogEnd) (f : Frame) (fs : List Frame) → replayed shape (record_in f) now ≡ Some next → ChangeNoMap shape fs → LeaveEither shape now next (frames_in (append_all_steps log (f ∷ fs)))
steps_either shape now next log f fs is none =
    let n = length f.payload in
    let rolls = frames_in (room_steps log n) in
    let more = append_all_steps (grown log f) fs in
    let same : frames_in (append_all_steps log (f ∷ fs)) ≡ rolls ++ f ∷ frames_in more =
    frames_in-append (append_steps log f) more ∙ ap (λ l. l ++ frames_in more) (frames_in-append (room_steps log n) (Append f ∷ [])) ∙ append_assoc rolls (f ∷ []) (frames_in more) in
    subst (λ l. LeaveEither shape now next l) (sym same) (one_changes shape now next rolls f (frames_in more) (room_no_map shape log n) is (all_no_map shape (grown log f) fs none))

-- ---- lines

some_same : (a b : Pairs) → Some a ≡ Some b → a ≡ b
some_same a b e = cc

after_wider : (shape : Shape) (start : Pairs) (lines more : List Line) (pairs : Pairs) → IsAfterPrefix shape start lines pairs → IsAfterPrefix shape start (lines ++ more) pairs
after_wider shape start lines more pairs a = record {
  count = a.count;
  within = omega (arith, a.within, length-append lines more);
  is = a.is ∙ ap (λ ls. after_all shape ls start) (sym (take-append-le a.count lines more a.within));
}

pub after_whole : (shape : Shape) (start : Pairs) (lines : List Line) (pairs : Pairs) → pairs ≡ after_all shape lines start → IsAfterPrefix shape start lines pairs
after_whole shape start lines pairs is = record { count = length lines; within = omega arith; is = is ∙ ap (λ ls. after_all shape ls start) (sym (take-length lines)) }

pub keeps_wider : (shape : Shape) (from : ℕ) (start : Pairs) (lines more : List Line) (base : Pairs) (frames : List Frame) → KeepsLines shape from start lines base frames → KeepsLines shape from start (lines ++ more) base frames
keeps_wider shape from start lines more base frames keeps n le pairs is = after_wider shape start lines more pairs (keeps n le pairs is)

-- frames more, of which each prefix leaves the map or the next one
pub keeps_more : (shape : Shape) (from : ℕ) (start : Pairs) (lines others : List Line) (base now next : Pairs) (frames gs : List Frame) → KeepsLines shape from start lines base frames → all_replayed shape frames (Some base) ≡ Some now
    → now ≡ after_all shape lines start → next ≡ after_all shape (lines ++ others) start → LeaveEither shape now next gs → KeepsLines shape from start (lines ++ others) base (frames ++ gs)
keeps_more shape from start lines others base now next frames gs keeps whole now_is next_is either n le pairs is = elim (split_le n (length frames)) [
  | inl short ↦ after_wider shape start lines others pairs (keeps n le pairs (ap (λ l. all_replayed shape l (Some base)) (sym (take-append-le n frames gs short)) ∙ is))
  | inr past ↦ later past.0 (ap (λ k. take k (frames ++ gs)) past.1 ∙ take-append-add frames gs past.0)
]
  where
    later : (k : ℕ) → take n (frames ++ gs) ≡ frames ++ take k gs → IsAfterPrefix shape start (lines ++ others) pairs
    later k e =
        let there : all_replayed shape (take k gs) (Some now) ≡ Some pairs =
        ap (all_replayed shape (take k gs)) (sym whole) ∙ sym (replayed-append shape frames (take k gs) (Some base)) ∙ ap (λ l. all_replayed shape l (Some base)) (sym e) ∙ is in
        elim (either k) [
          | inl still ↦ after_wider shape start lines others pairs (after_whole shape start lines pairs (some_same pairs now (sym there ∙ still) ∙ now_is))
          | inr changed ↦ after_whole shape start (lines ++ others) pairs (some_same pairs next (sym there ∙ changed) ∙ next_is)
        ]

-- frames more that change no map
pub keeps_still : (shape : Shape) (from : ℕ) (start : Pairs) (lines : List Line) (base now : Pairs) (frames gs : List Frame) → KeepsLines shape from start lines base frames → all_replayed shape frames (Some base) ≡ Some now
    → now ≡ after_all shape lines start → ChangeNoMap shape gs → KeepsLines shape from start lines base (frames ++ gs)
keeps_still shape from start lines base now frames gs keeps whole now_is none =
    let same : lines ++ [] ≡ lines = append-nil lines in
    subst (λ ls. KeepsLines shape from start ls base (frames ++ gs)) same
    (keeps_more shape from start lines [] base now now frames gs keeps whole now_is (now_is ∙ ap (λ ls. after_all shape ls start) (sym same))
    (λ m. inl (no_map_all shape (take m gs) now (no_map_take shape m gs none))))

-- ---- a crash

-- how far it goes at most: where the steps leave the log's end, and the marker that was written last
pub crash_holds : (wanted : Shape) (told : List ℕ → ℕ) (from : ℕ) (start : Pairs) (lines : List Line) (s : State) (w : World) (steps : List DiskStep) → Stands wanted told s w → s.soon ≡ None → CanAll told steps s w → from ≤ length s.order
    → KeepsLines s.shape from start lines s.first (appended (states steps s w)) → (now : World) → MakesPrefix steps s w now
    → CrashHoldsLines ((states steps s w).end.seg + 1) (last_number (states steps s w)) wanted s.shape start lines now
crash_holds wanted told from start lines s w steps stands alone can lasting keeps now some image leaves honest =
    let left = law_of_call wanted told s w steps stands can now some image leaves honest in
    let prefix = keeps left.count (omega (arith, lasting, left.has)) left.map left.is in
    record {
      count = prefix.count;
      within = prefix.within;
      sound = subst (λ (p : Pairs). SoundImage wanted image s.shape p) prefix.is left.sound;
      up_to = λ shape pairs sound. call_up_to wanted told s w steps stands alone can now some image leaves honest shape pairs sound;
    }

-- it goes no further than to a later segment, and to a higher number
pub up_to_further : (a b c d : ℕ) (wanted : Shape) (image : Image) → a ≤ c → b ≤ d → GoesUpTo a b wanted image → GoesUpTo c d wanted image
up_to_further a b c d wanted image later higher goes shape pairs sound =
    let up_to = goes shape pairs sound in
    record { segment = omega (arith, up_to.segment, later); checkpoint = omega (arith, up_to.checkpoint, higher) }

pub crash_further : (a b c d : ℕ) (wanted shape : Shape) (start : Pairs) (lines : List Line) (w : World) → a ≤ c → b ≤ d → CrashHoldsLines a b wanted shape start lines w → CrashHoldsLines c d wanted shape start lines w
crash_further a b c d wanted shape start lines w later higher holds image leaves honest =
    let held = holds image leaves honest in
    record { count = held.count; within = held.within; sound = held.sound; up_to = up_to_further a b c d wanted image later higher held.up_to }

pub moments_further : (a b c d : ℕ) (wanted shape : Shape) (start : Pairs) (lines : List Line) (old new : History) → a ≤ c → b ≤ d → AllMoments old new (CrashHoldsLines a b wanted shape start lines) → AllMoments old new (CrashHoldsLines c d wanted shape start lines)
moments_further a b c d wanted shape start lines old new later higher moments =
    weaker old new (CrashHoldsLines a b wanted shape start lines) (CrashHoldsLines c d wanted shape start lines) (λ w holds. crash_further a b c d wanted shape start lines w later higher holds) moments

-- it holds the map after a prefix of more lines, too
pub crash_wider : (last number : ℕ) (wanted shape : Shape) (start : Pairs) (lines more : List Line) (w : World) → CrashHoldsLines last number wanted shape start lines w → CrashHoldsLines last number wanted shape start (lines ++ more) w
crash_wider last number wanted shape start lines more w holds image leaves honest =
    let held = holds image leaves honest in
    record {
      count = held.count;
      within = omega (arith, held.within, length-append lines more);
      sound = subst (λ (ls : List Line). SoundImage wanted image shape (after_all shape ls start)) (sym (take-append-le held.count lines more held.within)) held.sound;
      up_to = held.up_to;
    }

-- the number of the checkpoint whose marker was written last, where none runs
pub number_ended : (mark : Option Mark) → number_in (ended_with mark) ≡ number_of mark
number_ended None = refl
number_ended (Some _) = refl

pub number_at_rest : (s : State) (mark : Option Mark) → s.soon ≡ None → s.now.checkpoint ≡ ended_with mark → last_number s ≡ number_of mark
number_at_rest s mark alone checkpoint = ap (λ (o : Option View). number_in (soon_or o s.now).checkpoint) alone ∙ ap number_in checkpoint ∙ number_ended mark

-- without a line there is one map
no_first : (count : ℕ) → take {A = Line} count [] ≡ []
no_first zero = refl
no_first (suc count) = refl

pub crash_one : (last number : ℕ) (wanted shape : Shape) (pairs : Pairs) (world : World) → CrashHoldsLines last number wanted shape pairs [] world → CrashHoldsMap last number wanted shape pairs world
crash_one last number wanted shape pairs world holds = record {
  holds = λ image leaves honest.
      let held = holds image leaves honest in
      subst (λ (ls : List Line). SoundImage wanted image shape (after_all shape ls pairs)) (no_first held.count) held.sound;
  up_to = λ image leaves honest. (holds image leaves honest).up_to;
}

pub map_further : (a b c d : ℕ) (wanted shape : Shape) (pairs : Pairs) (w : World) → a ≤ c → b ≤ d → CrashHoldsMap a b wanted shape pairs w → CrashHoldsMap c d wanted shape pairs w
map_further a b c d wanted shape pairs w later higher map =
    record { holds = map.holds; up_to = λ image leaves honest. up_to_further a b c d wanted image later higher (map.up_to image leaves honest) }

pub map_moments : (a b c d : ℕ) (wanted shape : Shape) (pairs : Pairs) (old new : History) → a ≤ c → b ≤ d → AllMoments old new (CrashHoldsMap a b wanted shape pairs) → AllMoments old new (CrashHoldsMap c d wanted shape pairs)
map_moments a b c d wanted shape pairs old new later higher moments =
    weaker old new (CrashHoldsMap a b wanted shape pairs) (CrashHoldsMap c d wanted shape pairs) (λ w map. map_further a b c d wanted shape pairs w later higher map) moments
