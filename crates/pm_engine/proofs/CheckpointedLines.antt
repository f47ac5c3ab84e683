-- The lines of a store that is checkpointed, and what a crash leaves between two moments of a run.
use Rattle.std.proofs.Common.{◌≡◌, ℕ, ◌+◌, ◌^◌, ◌<◌, List, [], ◌∷◌, None, refl, sym, ap, ◌∙◌, subst, arith, append-nil}
use Rattle.pm_types.specs.declared.shape.Shape.{Shape}
use Rattle.pm_types.specs.declared.shape.Mark.{Mark}
use Rattle.pm_types.specs.declared.place.Place.{Place}
use Rattle.pm_disk.specs.Worlds.{World}
use Rattle.pm_model.specs.declared.line.Line.{Line}
use Rattle.pm_model.specs.Eval.{Pairs}
use Rattle.pm_records.specs.LogSteps.{Force, frames_in}
use Rattle.pm_records.proofs.Writing.{frames_in-append}
use Rattle.pm_segments.specs.Appends.{append_steps}
use Rattle.pm_segments.specs.Ends.{LogEnd}
use Rattle.pm_marks.specs.Slots.{IsMark}
use Rattle.pm_core.specs.Calls.{MakesPrefix}
use Rattle.pm_core.specs.Machine.{DiskStep, CanAll, states, worlds}
use Rattle.pm_core.specs.Prefixes.{last_number}
use Rattle.pm_core.specs.Replays.{replayed}
use Rattle.pm_core.specs.Starts.{appended}
use Rattle.pm_core.specs.States.{State}
use Rattle.pm_core.proofs.CrashLaw.{run_grows, run_start}
use Rattle.pm_ckpt.specs.Checkpoints.{CanCheckpoint, IsStateAfter, whole_steps}
use Rattle.pm_ckpt.specs.Marked.{number_after, begin_frame, begin_log}
use Rattle.pm_ckpt.specs.Writes.{Writing}
use Rattle.pm_ckpt.proofs.GoingOn.{begin_is}
use Rattle.pm_engine.specs.RunningStores.{number_of}
use Rattle.pm_engine.specs.RunningLines.{KeepsLines, HasRun, CrashHoldsLines}
use Rattle.pm_engine.specs.RunningStores.{StoreState, HasSegmentsFor, map_of, mark_after, checkpointed}
use Rattle.pm_engine.proofs.CheckpointedStores.{store_checkpointed, t_first, t_appended}
use Rattle.pm_engine.proofs.HasRunLines.{newest_since, run_crash}
use Rattle.pm_engine.proofs.RunningCheckpoints.{is_mark}
use Rattle.pm_engine.proofs.RunningLines.{ChangeNoMap, append_no_map, keeps_still, crash_further, number_at_rest}

-- the begin of a checkpoint changes no map
pub begin_no_map : (shape : Shape) (log : LogEnd) (mark : Mark) → IsMark mark → ChangeNoMap shape (frames_in (begin_log log mark))
begin_no_map shape log mark fits =
    let frame = begin_frame mark in
    subst (ChangeNoMap shape) (sym (frames_in-append (append_steps log frame) (Force ∷ []) ∙ append-nil (frames_in (append_steps log frame))))
    (append_no_map shape log frame [] (λ pairs. ap (λ o. replayed shape o pairs) (begin_is mark fits), tt))

module _ (wanted : Shape) (told : List ℕ → ℕ) (from : ℕ) (start : Pairs) (lines : List Line) (store : StoreState) (s : State) (w : World) (has : HasRun wanted told from start lines store s w) (numbered : number_after store.mark < 2 ^ 64)
    (segments : HasSegmentsFor store.log 1) (can : CanCheckpoint wanted told s store.log (mark_after store) store.pages store.logged w) (xs : List Writing)
    (guards : CanAll told (whole_steps store.log (mark_after store) can.rebuilt store.pages xs s w) s w)
    (leaves : IsStateAfter store.log (mark_after store) (states (whole_steps store.log (mark_after store) can.rebuilt store.pages xs s w) s w)) where
  abbrev mark : Mark
  mark = mark_after store

  abbrev whole : List DiskStep
  whole = whole_steps store.log mark can.rebuilt store.pages xs s w

  pub checkpoint_has_run : HasRun wanted told from start lines (checkpointed store) (states whole s w) (worlds whole s w)
  checkpoint_has_run = record {
    runs = store_checkpointed wanted told store (map_of store) None s w has.runs refl numbered segments can xs guards leaves;
    lasting = omega (arith, has.lasting, run_grows whole s w);
    map = has.map;
    keeps = subst (λ (p : Pairs). KeepsLines store.shape from start lines p (appended (states whole s w))) (sym (t_first wanted told store (map_of store) None s w has.runs refl numbered segments can xs guards leaves))
        (subst (λ l. KeepsLines store.shape from start lines s.first l) (sym (t_appended wanted told store (map_of store) None s w has.runs refl numbered segments can xs guards leaves))
        (keeps_still store.shape from start lines s.first (map_of store) (appended s) (frames_in (begin_log store.log mark)) has.keeps (newest_since wanted told store s w has.runs) has.map (begin_no_map store.shape store.log mark (is_mark wanted told store (map_of store) None s w has.runs refl numbered))));
  }

-- steps that lead on from where the store has done some lines to where it has done others
pub between_crash : (wanted : Shape) (told : List ℕ → ℕ) (from : ℕ) (start : Pairs) (lines others : List Line) (store new : StoreState) (s : State) (w now : World) (steps : List DiskStep) → HasRun wanted told from start lines store s w
    → CanAll told steps s w → HasRun wanted told from start others new (states steps s w) (worlds steps s w) → MakesPrefix steps s w now
    → CrashHoldsLines (new.log.end.seg + 1) (number_of new.mark) wanted store.shape start others now
between_crash wanted told from start lines others store new s w now steps has can after some =
    let same = run_start steps s w in
    let shape : new.shape ≡ store.shape = sym after.runs.log.shape ∙ same.shape ∙ has.runs.log.shape in
    let keeps : KeepsLines store.shape from start others s.first (appended (states steps s w)) =
    subst (λ (k : Shape). KeepsLines k from start others s.first (appended (states steps s w))) shape
    (subst (λ (p : Pairs). KeepsLines new.shape from start others p (appended (states steps s w))) same.first after.keeps) in
    let t : State = states steps s w in
    let segment : t.end.seg ≡ new.log.end.seg = ap (λ (p : Place). p.seg) after.runs.log.ends in
    let number : last_number t ≡ number_of new.mark = number_at_rest t new.mark after.runs.log.alone after.runs.log.checkpoint in
    crash_further (t.end.seg + 1) (last_number t) (new.log.end.seg + 1) (number_of new.mark) wanted store.shape start others now (omega (arith, segment)) (omega (arith, number))
    (run_crash wanted told from start lines store s w has others steps can keeps now some)
