-- The lines that a store has done while it ran.
use Rattle.std.proofs.Common.{◌≡◌, ℕ, ◌+◌, List, [], ◌∷◌, ◌++◌, length, take, Some, refl, sym, ap, ◌∙◌, subst, arith, append-nil}
use Rattle.std.proofs.lemmas.List.{take_all}
use Rattle.pm_types.specs.declared.shape.Shape.{Shape}
use Rattle.pm_frame.specs.Frames.{Frame}
use Rattle.pm_disk.specs.Worlds.{World}
use Rattle.pm_model.specs.declared.line.Line.{Line}
use Rattle.pm_model.specs.Eval.{Pairs, after, after_all}
use Rattle.pm_model.proofs.Runs.{after_all-append}
use Rattle.pm_records.specs.LogSteps.{Step, Force, frames_in}
use Rattle.pm_core.specs.BasePages.{Partitions}
use Rattle.pm_core.specs.Calls.{MakesPrefix}
use Rattle.pm_core.specs.Held.{pairs_in}
use Rattle.pm_core.specs.Machine.{DiskStep, CanAll, states, worlds}
use Rattle.pm_core.specs.Prefixes.{last_number}
use Rattle.pm_core.specs.Replays.{all_replayed}
use Rattle.pm_core.specs.Rounds.{on_log}
use Rattle.pm_core.specs.Starts.{appended}
use Rattle.pm_core.specs.States.{State}
use Rattle.pm_core.proofs.CrashLaw.{run_grows}
use Rattle.pm_core.proofs.Replaying.{replayed-append}
use Rattle.pm_engine.specs.AppendRuns.{append_all_steps}
use Rattle.pm_engine.specs.PageLogs.{NotedPages, noted_frames}
use Rattle.pm_engine.specs.RunningLines.{KeepsLines, HasRun, CrashHoldsLines}
use Rattle.pm_engine.specs.RunningSteps.{appended_to, MakesPages, operation_frames, operation_names}
use Rattle.pm_engine.specs.RunningStores.{StoreState, IsRunning, HasSegmentsFor, map_of}
use Rattle.pm_engine.proofs.RunningForces.{store_force_runs}
use Rattle.pm_engine.proofs.RunningLines.{appended_on, steps_either, after_whole, keeps_wider, keeps_more, crash_holds}
use Rattle.pm_engine.proofs.RunningLogs.{state_follows}
use Rattle.pm_engine.proofs.RunningOperations.{operation_says, changes_no_map, store_append_runs}

-- the map that all records leave which were appended since the start
pub newest_since : (wanted : Shape) (told : List ℕ → ℕ) (store : StoreState) (s : State) (w : World) → IsRunning wanted told store s w → all_replayed store.shape (appended s) (Some s.first) ≡ Some (map_of store)
newest_since wanted told store s w runs =
    let log = runs.log in
    ap (λ (shape : Shape). all_replayed shape (appended s) (Some s.first)) (sym log.shape)
    ∙ replayed-append s.shape s.order s.pending (Some s.first) ∙ ap (all_replayed s.shape s.pending) log.stands.since_first ∙ log.newest

-- at rest
pub rest_has_run : (wanted : Shape) (told : List ℕ → ℕ) (store : StoreState) (s : State) (w : World) → IsRunning wanted told store s w → s.pending ≡ [] → HasRun wanted told (length s.order) (map_of store) [] store s w
rest_has_run wanted told store s w runs none = record {
  runs = runs;
  lasting = omega arith;
  map = refl;
  keeps = λ n le pairs is.
      let all : appended s ≡ s.order = ap (λ l. s.order ++ l) none ∙ append-nil s.order in
      let whole : take n (appended s) ≡ appended s = take_all n (appended s) (omega (arith, le, ap length all)) in
      let same : Some (map_of store) ≡ Some pairs = sym (newest_since wanted told store s w runs) ∙ ap (λ l. all_replayed store.shape l (Some s.first)) (sym whole) ∙ is in
      after_whole store.shape (map_of store) [] pairs (same_map pairs (map_of store) (sym same));
}
  where
    same_map : (a b : Pairs) → Some a ≡ Some b → a ≡ b
    same_map a b e = cc

module _ (wanted : Shape) (told : List ℕ → ℕ) (from : ℕ) (start : Pairs) (lines : List Line) (store : StoreState) (s : State) (w : World) (has : HasRun wanted told from start lines store s w) where
  -- the map after one line more
  one_more : (line : Line) (next : Pairs) → next ≡ after store.shape line (map_of store) → next ≡ after_all store.shape (lines ++ line ∷ []) start
  one_more line next is = is ∙ ap (after store.shape line) has.map ∙ sym (after_all-append store.shape lines (line ∷ []) start)

  -- a line that changes nothing
  pub line_unchanged : (line : Line) → after store.shape line (map_of store) ≡ map_of store → HasRun wanted told from start (lines ++ line ∷ []) store s w
  line_unchanged line same = record {
    runs = has.runs;
    lasting = has.lasting;
    map = one_more line (map_of store) (sym same);
    keeps = keeps_wider store.shape from start lines (line ∷ []) s.first (appended s) has.keeps;
  }

  -- the log is forced
  pub line_forced : HasRun wanted told from start lines store (states (on_log (Force ∷ [])) s w) (worlds (on_log (Force ∷ [])) s w)
  line_forced = record {
    runs = store_force_runs wanted told store s w has.runs;
    lasting = omega (arith, has.lasting, run_grows (on_log (Force ∷ [])) s w);
    map = has.map;
    keeps = subst (λ l. KeepsLines store.shape from start lines s.first l) (sym (append-nil (appended s))) has.keeps;
  }

  -- a line that an operation did
  module _ (line : Line) (part : ℕ) (noted : NotedPages) (frame : Frame) (pages : Partitions) (made : MakesPages store part noted frame pages) (does : pairs_in store.shape.partitions pages ≡ after store.shape line (map_of store))
      (segments : HasSegmentsFor store.log (length (operation_frames store noted frame))) where
    abbrev fs : List Frame
    fs = operation_frames store noted frame

    abbrev steps : List Step
    steps = append_all_steps store.log fs

    abbrev next : Pairs
    next = pairs_in store.shape.partitions pages

    pub line_done : HasRun wanted told from start (lines ++ line ∷ []) (appended_to store fs pages (operation_names store noted)) (states (on_log steps) s w) (worlds (on_log steps) s w)
    line_done =
        let says = operation_says store has.runs.is_shape part noted frame pages made has.runs.frames has.runs.files has.runs.tracks has.runs.holds.once in
        let changes = noted_frames noted store.logged in
        let none = changes_no_map store has.runs.is_shape part noted pages made.change has.runs.frames has.runs.files has.runs.tracks in
        let either = steps_either store.shape (map_of store) next store.log frame changes made.map none in
        let first : (states (on_log steps) s w).first ≡ s.first = (state_follows steps [] s w).first in
        record {
          runs = store_append_runs wanted told store (map_of store) next s w has.runs fs pages (operation_names store noted) says segments;
          lasting = omega (arith, has.lasting, run_grows (on_log steps) s w);
          map = one_more line next does;
          keeps = subst (λ (p : Pairs). KeepsLines store.shape from start (lines ++ line ∷ []) p (appended (states (on_log steps) s w))) (sym first)
              (subst (λ l. KeepsLines store.shape from start (lines ++ line ∷ []) s.first l) (sym (appended_on steps s w))
              (keeps_more store.shape from start lines (line ∷ []) s.first (map_of store) next (appended s) (frames_in steps) has.keeps (newest_since wanted told store s w has.runs) has.map (one_more line next does) either));
        }

  -- a crash
  pub run_crash : (others : List Line) (steps : List DiskStep) → CanAll told steps s w → KeepsLines store.shape from start others s.first (appended (states steps s w)) → (now : World) → MakesPrefix steps s w now
      → CrashHoldsLines ((states steps s w).end.seg + 1) (last_number (states steps s w)) wanted store.shape start others now
  run_crash others steps can keeps now some =
      subst (λ (shape : Shape). KeepsLines shape from start others s.first (appended (states steps s w)) → CrashHoldsLines ((states steps s w).end.seg + 1) (last_number (states steps s w)) wanted shape start others now) has.runs.log.shape
      (λ k. crash_holds wanted told from start others s w steps has.runs.log.stands has.runs.log.alone can has.lasting k now some) keeps
