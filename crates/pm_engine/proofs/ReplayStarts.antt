-- A store that was restored and is sound holds its map, and is replaying once its pages are loaded and its RESTART is
-- appended.
use Rattle.std.proofs.Common.{◌≡◌, ℕ, ◌+◌, List, [], ◌++◌, Option, Some, None, refl, sym, ap, ◌∙◌, subst, arith, append-nil}
use Rattle.pm_types.specs.declared.place.Place.{Place}
use Rattle.pm_types.specs.declared.shape.Mark.{Mark}
use Rattle.pm_types.specs.declared.shape.Shape.{Shape}
use Rattle.pm_frame.specs.Frames.{Frame}
use Rattle.pm_disk.specs.Moments.{History, AllMoments}
use Rattle.pm_disk.specs.Worlds.{World}
use Rattle.pm_disk.proofs.Chain.{weaker}
use Rattle.pm_model.specs.Eval.{Pairs}
use Rattle.pm_records.specs.FirstRecords.{restart_frame}
use Rattle.pm_records.specs.LogFiles.{HasLasting, contents}
use Rattle.pm_records.specs.LogSteps.{Step, DoesPrefix, frames_in, world_after}
use Rattle.pm_records.specs.Logs.{all_frames, place, after_frames, frames_len, HasFrames}
use Rattle.pm_records.proofs.FrameGrammar.{frame_laws}
use Rattle.pm_records.proofs.HeldLog.{held_log}
use Rattle.pm_segments.specs.Appends.{append_steps}
use Rattle.pm_segments.specs.Ends.{LogEnd}
use Rattle.pm_pages.specs.Rows.{Partition}
use Rattle.pm_pages.specs.WellFormed.{IsWellFormed}
use Rattle.pm_marks.specs.InForce.{replay_of}
use Rattle.pm_core.specs.BasePages.{Partitions, laid_over}
use Rattle.pm_core.specs.Held.{pairs_in}
use Rattle.pm_core.specs.Machine.{states, worlds}
use Rattle.pm_core.specs.Prefixes.{last_number}
use Rattle.pm_core.specs.Replays.{replayed, all_replayed}
use Rattle.pm_core.specs.Rounds.{on_log}
use Rattle.pm_core.specs.Starts.{appended as all_appended}
use Rattle.pm_core.specs.States.{State}
use Rattle.pm_core.proofs.Junk.{pairs_same}
use Rattle.pm_core.proofs.LogCalls.{log_worlds, prefix}
use Rattle.pm_redo.specs.FoundMarks.{replay_at}
use Rattle.pm_engine.specs.OpenedStores.{IsRestoredStore}
use Rattle.pm_engine.specs.Openings.{IsRestoredHolding, loaded_base}
use Rattle.pm_engine.specs.Replays.{AreLasting, CrashHoldsMap}
use Rattle.pm_engine.specs.RunningLines.{KeepsLines, CrashHoldsLines}
use Rattle.pm_engine.specs.RunningStores.{HasSegmentsFor, ended_with}
use Rattle.pm_engine.proofs.HeldReplays.{HoldsMap}
use Rattle.pm_engine.proofs.LastingFrames.{leads_one, lasts_further}
use Rattle.pm_engine.proofs.LoadedStores.{HasMark, loaded_counted}
use Rattle.pm_engine.proofs.OpenedStores.{good, not_rebuilt, well, opened_goes, opened_runs, restart_is, restart_fits}
use Rattle.pm_engine.proofs.RisenLogs.{grown_rises}
use Rattle.pm_engine.proofs.RunningCheckpoints.{end_ready}
use Rattle.pm_engine.proofs.RunningLines.{ChangeNoMap, appended_on, append_no_map, keeps_still, crash_holds, crash_one, map_further, number_at_rest}

replay_is : (mark : Option Mark) → replay_of (ended_with mark) ≡ replay_at mark
replay_is None = refl
replay_is (Some mark) = refl

module _ (last highest : ℕ) (wanted : Shape) (told : List ℕ → ℕ) (shape : Shape) (pairs : Pairs) (log : LogEnd) (mark : Option Mark) (s : State) (w : World) (holding : IsRestoredHolding last highest wanted told shape pairs log mark s w) where
  abbrev store : IsRestoredStore wanted told shape log mark s w
  store = holding.store

  pub segments : HasSegmentsFor log 1
  segments = omega (arith, holding.below, holding.last_fits)

  abbrev f : Frame
  f = restart_frame shape

  abbrev steps : List Step
  steps = append_steps log f

  abbrev t : State
  t = states (on_log steps) s w

  abbrev v : World
  v = worlds (on_log steps) s w

  v_is : v ≡ world_after steps log.end w
  v_is = log_worlds steps s w ∙ ap (λ (p : Place). world_after steps p w) store.ends

  -- ---- nothing changes a map

  whole : all_replayed shape (all_appended s) (Some s.first) ≡ Some pairs
  whole =
      ap (λ (k : Shape). all_replayed k (all_appended s) (Some s.first)) (sym store.shaped)
      ∙ ap (λ (l : List Frame). all_replayed s.shape l (Some s.first)) (ap (λ (l : List Frame). s.order ++ l) store.nothing_pending ∙ append-nil s.order)
      ∙ store.stands.since_first ∙ ap (λ (p : Pairs). Some p) holding.map

  pub keeps_from_first : KeepsLines shape 0 pairs [] s.first (all_appended t)
  keeps_from_first =
      subst (λ (l : List Frame). KeepsLines shape 0 pairs [] s.first l) (sym (appended_on steps s w))
      (keeps_still shape 0 pairs [] s.first pairs (all_appended s) (frames_in steps) holding.keeps whole refl
      (append_no_map shape log f [] (λ (p : Pairs). ap (λ o. replayed shape o p) (restart_is shape store.is_shape), tt)))

  -- whatever a crash leaves while the RESTART is appended
  pub restart_holds : (now : World) → DoesPrefix steps log.end w now → CrashHoldsMap (last + 1) highest wanted shape pairs now
  restart_holds now some =
      let made = prefix steps s w now (subst (λ (p : Place). DoesPrefix steps p w now) (sym store.ends) some) in
      let log_then = (opened_runs wanted told shape log mark s w store segments).log in
      map_further (t.end.seg + 1) (last_number t) (last + 1) highest wanted shape pairs now (omega (arith, ap (λ (p : Place). p.seg) log_then.ends, grown_rises log f, holding.below))
      (omega (arith, number_at_rest t mark log_then.alone log_then.checkpoint, holding.number))
      (crash_one (t.end.seg + 1) (last_number t) wanted shape pairs now
      (subst (λ (k : Shape). KeepsLines k 0 pairs [] s.first (all_appended t) → CrashHoldsLines (t.end.seg + 1) (last_number t) wanted k pairs [] now) store.shaped
      (λ k. crash_holds wanted told 0 pairs [] s w (on_log steps) store.stands store.alone (opened_goes wanted told shape log mark s w store segments) (omega arith) k now made) keeps_from_first))

  -- ---- the records of the log

  at_is : s.at ≡ log.end
  at_is =
      let ends = end_ready s.tail s.end s.at s.pending store.is_open.ready store.stands.ends in
      let none : s.at.off + frames_len s.pending ≡ s.at.off = omega (arith, ap frames_len store.nothing_pending) in
      sym (ap (λ n. place s.at.seg n) none) ∙ sym ends ∙ store.ends

  abbrev pub records : List Frame
  records = (good wanted told shape log mark s w store segments).frames

  lasts : HasLasting all_frames w.log s.low s.at (replay_at mark) records
  lasts = subst (λ (p : Place). HasLasting all_frames w.log s.low s.at p records) (ap replay_of store.checkpoint ∙ replay_is mark) (good wanted told shape log mark s w store segments).replay

  pub run_here : HasFrames all_frames (contents w.log) (replay_at mark) records
  run_here =
      let held = held_log all_frames frame_laws w.log s.low (replay_at mark) s.at records s.pending s.tail (record { files = store.stands.log; leads = lasts }) in
      subst (HasFrames all_frames (contents w.log) (replay_at mark)) (ap (λ (l : List Frame). records ++ l) store.nothing_pending ∙ append-nil records) held.log.run

  pub to_end : after_frames (replay_at mark) records ≡ log.end
  to_end = lasts.to ∙ at_is

  -- they are lasting still once the RESTART is appended, which changes no map
  restart_no_map : ChangeNoMap shape (frames_in steps)
  restart_no_map = append_no_map shape log f [] (λ (p : Pairs). ap (λ o. replayed shape o p) (restart_is shape store.is_shape), tt)

  lasts_here : AreLasting (replay_at mark) records shape pairs s w
  lasts_here = record {
    later = [];
    leads = subst (λ (l : List Frame). HasLasting all_frames w.log s.low s.at (replay_at mark) l) (sym (append-nil records)) lasts;
    stays = ap (λ (l : List Frame). all_replayed shape l (Some pairs)) store.nothing_pending;
  }

  pub lasts_then : (world : World) → world ≡ world_after steps log.end w → AreLasting (replay_at mark) records shape pairs t world
  lasts_then world is = subst (λ (u : World). AreLasting (replay_at mark) records shape pairs t u) (v_is ∙ sym is)
      (lasts_further (replay_at mark) records (frames_in steps) shape pairs s t w v lasts_here restart_no_map
      (leads_one wanted told f log s w store.stands store.ends store.is_open (restart_fits shape store.is_shape) (replay_at mark) (records ++ lasts_here.later) lasts_here.leads))

  -- ---- the map that it holds

  -- the base pages' rows are those of the state's files
  based : HasMark shape mark → pairs_in shape.partitions (loaded_base mark w) ≡ (good wanted told shape log mark s w store segments).based
  based has =
      pairs_same shape.partitions s.files (loaded_base mark w) (λ part inside. loaded_counted wanted told shape log mark s w store segments has part inside)
      ∙ ap (λ (rebuilt : Partitions). pairs_in shape.partitions (laid_over rebuilt s.files)) (sym (not_rebuilt wanted told shape log mark s w store segments))
      ∙ ap (λ (k : Shape). pairs_in k.partitions (laid_over s.now.rebuilt s.files)) (sym store.shaped) ∙ (good wanted told shape log mark s w store segments).based_is.is

  pub holds_map : HasMark shape mark → (from end : Place) → from ≡ replay_at mark → end ≡ log.end → HoldsMap last highest shape mark from end pairs w
  holds_map has from end from_is end_is = subst (λ (q : Place × Place). HoldsMap last highest shape mark q.0 q.1 pairs w) {x = (replay_at mark, log.end)} {y = (from, end)} (λ i. (sym from_is i, sym end_is i)) (record {
    well_formed = λ part inside.
        subst (λ (p : Partition). IsWellFormed shape part p) (sym (loaded_counted wanted told shape log mark s w store segments has part inside)) (well wanted told shape log mark s w store segments part inside);
    frames = records;
    run = run_here;
    to = to_end;
    makes = ap (λ (p : Pairs). all_replayed shape records (Some p)) (based has) ∙ ap (λ (k : Shape). all_replayed k records (Some (good wanted told shape log mark s w store segments).based)) (sym store.shaped)
        ∙ (good wanted told shape log mark s w store segments).holds ∙ ap (λ (p : Pairs). Some p) holding.map;
    room = (holding.room records run_here to_end).0;
    last_fits = holding.last_fits;
    marks = (holding.room records run_here to_end).1;
    highest_fits = omega (arith, holding.highest_fits);
  })

-- a store that was read, and to whose log a RESTART was appended
pub restart_moments : (last highest : ℕ) (wanted : Shape) (told : List ℕ → ℕ) (shape : Shape) (pairs : Pairs) (log : LogEnd) (mark : Option Mark) (s : State) (old new : History) → IsRestoredHolding last highest wanted told shape pairs log mark s old.world
    → AllMoments old new (DoesPrefix (append_steps log (restart_frame shape)) log.end old.world) → AllMoments old new (CrashHoldsMap (last + 1) highest wanted shape pairs)
restart_moments last highest wanted told shape pairs log mark s old new holding moments =
    weaker old new (DoesPrefix (append_steps log (restart_frame shape)) log.end old.world) (CrashHoldsMap (last + 1) highest wanted shape pairs) (restart_holds last highest wanted told shape pairs log mark s old.world holding) moments
