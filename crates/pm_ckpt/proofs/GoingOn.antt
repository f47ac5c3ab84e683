-- The begin of a checkpoint may be appended to a log that is open, and the log forced past it.
use Rattle.std.proofs.Common.{◌≡◌, inl, inr, ℕ, ◌≤◌, List, [], ◌∷◌, ◌++◌, length, Bool, true, false, Option, Some, None, refl, sym, ◌∙◌, ap, subst, arith, append_assoc, append-nil}
use Rattle.std.specs.Prelude.{if◌then◌else◌, IsSome, is_some}
use Rattle.pm_types.specs.declared.place.Place.{Place}
use Rattle.pm_types.specs.declared.shape.Mark.{Mark}
use Rattle.pm_types.specs.declared.shape.Shape.{Shape}
use Rattle.pm_frame.specs.Frames.{Frame}
use Rattle.pm_disk.specs.Worlds.{World}
use Rattle.pm_marks.specs.Slots.{IsMark}
use Rattle.pm_model.specs.Eval.{Pairs}
use Rattle.pm_records.specs.LogFiles.{Written, IsRecordFrame}
use Rattle.pm_records.specs.LogSteps.{Step, CutTail, Append, Force, NextSegment, DropSegment, ForceSegment, step_end, step_world, end_after, frames_in, next_written, written_after}
use Rattle.pm_records.specs.Logs.{record_in, seal_frame, after_frames}
use Rattle.pm_records.specs.Records.{Record, CpBegin, Seal, payload_of}
use Rattle.pm_records.proofs.RecordOf.{record_of-payload}
use Rattle.pm_records.proofs.Runs.{rises, option_cases}
use Rattle.pm_records.proofs.Writing.{CanAll as CanWriteAll}
use Rattle.pm_segments.specs.Appends.{can_seal, enter_steps, append_steps}
use Rattle.pm_segments.specs.Ends.{LogEnd, LogIsOpen, has_room}
use Rattle.pm_segments.proofs.AppendLaw.{append_can, append_tail}
use Rattle.pm_core.specs.Machine.{CanAll, log_state, map_or}
use Rattle.pm_core.specs.Replays.{replayed, all_replayed}
use Rattle.pm_core.specs.Rounds.{on_log}
use Rattle.pm_core.specs.States.{State}
use Rattle.pm_core.specs.Stands.{Stands}
use Rattle.pm_core.proofs.Replaying.{replayed-append, replayed-none}
use Rattle.pm_ckpt.specs.Checkpoints.{written_so, IsBegunLog}
use Rattle.pm_ckpt.specs.Marked.{begin_frame, begin_log}
use Rattle.pm_records.specs.declared.limits.TheConstants.{CP_BEGIN_LEN}

-- ---- steps of the log that begins with a record already

-- the map in between
pub front_replays : (shape : Shape) (xs ys : List Frame) (pairs now : Pairs) → all_replayed shape (xs ++ ys) (Some pairs) ≡ Some now
    → (mid : Pairs) × (all_replayed shape xs (Some pairs) ≡ Some mid) × (all_replayed shape ys (Some mid) ≡ Some now)
front_replays shape xs ys pairs now is = elim (option_cases (all_replayed shape xs (Some pairs))) [
  | inl none ↦
      let whole = replayed-append shape xs ys (Some pairs) ∙ ap (all_replayed shape ys) none ∙ replayed-none shape ys in
      let no : None ≡ Some now = sym whole ∙ is in absurd cc
  | inr some ↦ (some.0, some.1, ap (all_replayed shape ys) (sym some.1) ∙ sym (replayed-append shape xs ys (Some pairs)) ∙ is)
]

some_found : (shape : Shape) (found : Option Record) (pairs now : Pairs) → replayed shape found pairs ≡ Some now → IsSome found
some_found shape None pairs now is = absurd cc
some_found shape (Some found) pairs now is = refl

-- it goes on having one
pub begun_append : (at : Place) (pending : List Frame) (f : Frame) → 1 ≤ at.seg → IsBegunLog at (pending ++ f ∷ [])
begun_append at [] f from = record { from_one = from; has_frame = λ here none. absurd cc }
begun_append at (x ∷ xs) f from = record { from_one = from; has_frame = λ here none. absurd cc }

pub begun_force : (at : Place) (pending : List Frame) → IsBegunLog at pending → IsBegunLog (after_frames at pending) []
begun_force at [] begun = record { from_one = begun.from_one; has_frame = begun.has_frame }
begun_force at (x ∷ xs) begun = elim (rises at (x ∷ xs)) [
  | inl lt ↦ record { from_one = omega (arith, lt, begun.from_one); has_frame = λ here none. absurd (omega (arith, lt, begun.from_one, ap (λ (p : Place). p.seg) here)) }
  | inr there ↦ record { from_one = omega (arith, there.0, begun.from_one); has_frame = λ here none. absurd (omega (arith, there.1, ap (λ (p : Place). p.off) here)) }
]

-- how far the log of a state is written, after these frames
abbrev pub so_far : List Frame → State → Written
so_far lasting s = record { at = s.at; lasting = lasting; pending = s.pending; tail = s.tail }

pub steps_go : (told : List ℕ → ℕ) (now : Pairs) (steps : List Step) (lasting : List Frame) (s : State) (w : World) → CanWriteAll 0 steps s.end (so_far lasting s) → IsBegunLog s.at s.pending
    → all_replayed s.shape (s.pending ++ frames_in steps) (Some s.map) ≡ Some now → CanAll told (on_log steps) s w
steps_go told now [] lasting s w can begun replays = tt
steps_go told now (CutTail ∷ steps) lasting s w can begun replays = (can.0, steps_go told now steps lasting (log_state CutTail s) (step_world CutTail s.end w) can.1 begun replays)
steps_go told now (Append f ∷ steps) lasting s w can begun replays =
    let regrouped = append_assoc s.pending (f ∷ []) (frames_in steps) in
    let again : all_replayed s.shape ((s.pending ++ f ∷ []) ++ frames_in steps) (Some s.map) ≡ Some now = ap (λ fs. all_replayed s.shape fs (Some s.map)) regrouped ∙ replays in
    let with_it = front_replays s.shape (s.pending ++ f ∷ []) (frames_in steps) s.map now again in
    let without = front_replays s.shape s.pending (f ∷ []) s.map with_it.0 with_it.1 in (
      record {
        ready = can.0.0;
        open_segment = can.0.1;
        fits = can.0.2;
        inner = can.0.3;
        in_grammar = some_found s.shape (record_in f) without.0 with_it.0 without.2;
        not_full = ap is_some with_it.1;
        restart_first = λ at_first none. absurd (begun.has_frame at_first none);
      },
      steps_go told now steps lasting (log_state (Append f) s) (step_world (Append f) s.end w) can.1 (begun_append s.at s.pending f begun.from_one) again,
    )
steps_go told now (Force ∷ steps) lasting s w can begun replays =
    let front = front_replays s.shape s.pending (frames_in steps) s.map now replays in
    let there : map_or (all_replayed s.shape s.pending (Some s.map)) s.map ≡ front.0 = ap (λ o. map_or o s.map) front.1 in (
      can.0,
      steps_go told now steps (lasting ++ s.pending) (log_state Force s) (step_world Force s.end w) can.1 (begun_force s.at s.pending begun)
          (ap (λ p. all_replayed s.shape (frames_in steps) (Some p)) there ∙ front.2),
    )
steps_go told now (NextSegment ∷ steps) lasting s w can begun replays = (can.0, steps_go told now steps lasting (log_state NextSegment s) (step_world NextSegment s.end w) can.1 begun replays)
steps_go told now (DropSegment seg ∷ steps) lasting s w can begun replays = absurd (omega (arith, can.0))
steps_go told now (ForceSegment seg ∷ steps) lasting s w can begun replays = absurd (omega (arith, can.0))

-- ---- the begin of a checkpoint

pub payload_len : (number : ℕ) (replay : Place) → length (payload_of (CpBegin number replay)) ≡ CP_BEGIN_LEN
unfolding payload_of
payload_len number replay = refl

pub can_join : (low : ℕ) (xs ys : List Step) (end : Place) (t : Written) → CanWriteAll low xs end t → CanWriteAll low ys (end_after xs end) (written_after xs t) → CanWriteAll low (xs ++ ys) end t
can_join low [] ys end t one two = two
can_join low (x ∷ xs) ys end t one two = (one.0, can_join low xs ys (step_end x end) (next_written x t) one.1 two)

pub frames_join : (xs ys : List Step) → frames_in (xs ++ ys) ≡ frames_in xs ++ frames_in ys
frames_join [] ys = refl
frames_join (CutTail ∷ xs) ys = frames_join xs ys
frames_join (Append f ∷ xs) ys = ap (λ fs. f ∷ fs) (frames_join xs ys)
frames_join (Force ∷ xs) ys = frames_join xs ys
frames_join (NextSegment ∷ xs) ys = frames_join xs ys
frames_join (DropSegment seg ∷ xs) ys = frames_join xs ys
frames_join (ForceSegment seg ∷ xs) ys = frames_join xs ys

module _ (mark : Mark) (fits : IsMark mark) where
  pub begin_is : record_in (begin_frame mark) ≡ Some (CpBegin mark.number mark.replay)
  begin_is =
      record_of-payload (CpBegin mark.number mark.replay)
      (record { from_one = fits.numbered; number_fits = fits.number_fits; seg_fits = fits.replay.seg_fits; off_fits = omega (arith, fits.replay.within) })

  seal_is : record_in seal_frame ≡ Some Seal
  unfolding payload_of
  seal_is = record_of-payload Seal tt

  pub begin_fits : IsRecordFrame (begin_frame mark)
  begin_fits = record { known_from = omega arith; known_to = omega arith; short = omega (arith, payload_len mark.number mark.replay) }

  -- neither it nor a SEAL changes the map
  pub begin_stays : (shape : Shape) (pairs : Pairs) → all_replayed shape (begin_frame mark ∷ []) (Some pairs) ≡ Some pairs
  begin_stays shape pairs = ap (λ o. replayed shape o pairs) begin_is

  seal_stays : (shape : Shape) (pairs : Pairs) → all_replayed shape (seal_frame ∷ begin_frame mark ∷ []) (Some pairs) ≡ Some pairs
  seal_stays shape pairs = ap (λ o. all_replayed shape (begin_frame mark ∷ []) (replayed shape o pairs)) seal_is ∙ begin_stays shape pairs

  append_stays : (log : LogEnd) (shape : Shape) (pairs : Pairs) → all_replayed shape (frames_in (append_steps log (begin_frame mark))) (Some pairs) ≡ Some pairs
  append_stays log shape pairs = by (has_room log (length (begin_frame mark).payload)) (can_seal log.end)
    where
      by : (room seals : Bool) → all_replayed shape
          (frames_in ((if room then [] else (if seals then Append seal_frame ∷ [] else []) ++ enter_steps) ++ Append (begin_frame mark) ∷ [])) (Some pairs) ≡ Some pairs
      by true seals = begin_stays shape pairs
      by false true = seal_stays shape pairs
      by false false = begin_stays shape pairs

  pub begin_goes : (wanted : Shape) (told : List ℕ → ℕ) (s : State) (log : LogEnd) (w : World) → Stands wanted told s w → s.end ≡ log.end → LogIsOpen log (written_so s) → IsBegunLog s.at s.pending
      → CanAll told (on_log (begin_log log mark)) s w
  begin_goes wanted told s log w stands ends is_open begun =
      let frame = begin_frame mark in
      let steps = append_steps log frame in
      let all : CanWriteAll 0 (begin_log log mark) log.end (written_so s) =
      can_join 0 steps (Force ∷ []) log.end (written_so s) (append_can log frame begin_fits (written_so s) is_open 0)
      (inl (append_tail log frame begin_fits (written_so s) is_open), tt) in
      let frames : frames_in (begin_log log mark) ≡ frames_in steps ++ [] = frames_join steps (Force ∷ []) in
      let replays : all_replayed s.shape (s.pending ++ frames_in (begin_log log mark)) (Some s.map) ≡ Some stands.newest =
      replayed-append s.shape s.pending (frames_in (begin_log log mark)) (Some s.map)
      ∙ ap (all_replayed s.shape (frames_in (begin_log log mark))) stands.newest_is
      ∙ ap (λ fs. all_replayed s.shape fs (Some stands.newest)) (frames ∙ append-nil (frames_in steps))
      ∙ append_stays log s.shape stands.newest in
      steps_go told stands.newest (begin_log log mark) [] s w (subst (λ (p : Place). CanWriteAll 0 (begin_log log mark) p (written_so s)) (sym ends) all) begun replays
