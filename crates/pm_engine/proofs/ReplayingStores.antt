-- A store that applies the records of its log again, and appends records that change no map.
use Rattle.std.proofs.Common.{◌≡◌, ℕ, ◌+◌, ◌≤◌, List, [], ◌++◌, length, Some, refl, sym, ap, ◌∙◌, subst, arith, append-nil}
use Rattle.pm_types.specs.declared.page_id.PageId.{PageId}
use Rattle.pm_types.specs.declared.place.Place.{Place}
use Rattle.pm_types.specs.declared.shape.Shape.{Shape}
use Rattle.pm_frame.specs.Frames.{Frame}
use Rattle.pm_disk.specs.Worlds.{World}
use Rattle.pm_model.specs.Eval.{Pairs}
use Rattle.pm_records.specs.LogSteps.{frames_in}
use Rattle.pm_core.specs.BasePages.{Partitions}
use Rattle.pm_core.specs.Calls.{MakesPrefix}
use Rattle.pm_core.specs.Machine.{DiskStep, CanAll, states, worlds}
use Rattle.pm_core.specs.Prefixes.{last_number}
use Rattle.pm_core.specs.Replays.{all_replayed}
use Rattle.pm_core.specs.Rounds.{on_log}
use Rattle.pm_core.specs.Starts.{appended}
use Rattle.pm_core.specs.States.{State}
use Rattle.pm_core.proofs.Replaying.{replayed-append}
use Rattle.pm_engine.specs.AppendRuns.{append_all_steps, grown_all}
use Rattle.pm_engine.specs.RunningStores.{number_of}
use Rattle.pm_engine.specs.Replays.{CrashHoldsMap, AreLasting}
use Rattle.pm_engine.specs.RunningLines.{KeepsLines, CrashHoldsLines}
use Rattle.pm_engine.specs.RunningSteps.{appended_to, SayPagesOver}
use Rattle.pm_engine.specs.RunningStores.{StoreState, RunsOver, HasSegmentsFor}
use Rattle.pm_engine.specs.TrackedPages.{TracksPages}
use Rattle.pm_engine.proofs.LastingFrames.{leads_all, lasts_further}
use Rattle.pm_engine.proofs.GrownLogs.{all_rises}
use Rattle.pm_engine.proofs.RunningLines.{ChangeNoMap, appended_on, all_no_map, keeps_still, crash_holds, crash_one, map_further, number_at_rest}
use Rattle.pm_engine.proofs.RunningLogs.{state_follows}
use Rattle.pm_engine.proofs.RunningOperations.{store_append_goes, store_append_runs}

-- ---- nothing is appended

-- the same pages and names need no record
pub says_nothing : (store : StoreState) (pairs : Pairs) (wanted : Shape) (told : List ℕ → ℕ) (s : State) (w : World) → RunsOver wanted told store pairs s w → SayPagesOver store pairs pairs [] store.pages store.logged
says_nothing store pairs wanted told s w runs = record {
  kinds = tt;
  rebuild = λ older files tracks. subst (λ (fs : List Frame). TracksPages store.shape fs files store.pages store.logged) (sym (append-nil older)) tracks;
  map = refl;
  holds = runs.holds;
}

module _ (wanted : Shape) (told : List ℕ → ℕ) (pairs : Pairs) (store : StoreState) (s : State) (w : World) (runs : RunsOver wanted told store pairs s w) (keeps : KeepsLines store.shape 0 pairs [] s.first (appended s)) where
  -- ---- a crash

  -- all that was appended makes the newest map
  pub newest : all_replayed store.shape (appended s) (Some s.first) ≡ Some pairs
  newest =
      let log = runs.log in
      ap (λ (k : Shape). all_replayed k (appended s) (Some s.first)) (sym log.shape)
      ∙ replayed-append s.shape s.order s.pending (Some s.first) ∙ ap (all_replayed s.shape s.pending) log.stands.since_first ∙ log.newest

  -- whatever a crash leaves between steps that append what changes no map
  pub between_holds : (steps : List DiskStep) → CanAll told steps s w → KeepsLines store.shape 0 pairs [] s.first (appended (states steps s w)) → (now : World) → MakesPrefix steps s w now
      → CrashHoldsMap ((states steps s w).end.seg + 1) (last_number (states steps s w)) wanted store.shape pairs now
  between_holds steps can kept now some =
      let t : State = states steps s w in
      crash_one (t.end.seg + 1) (last_number t) wanted store.shape pairs now
      (subst (λ (k : Shape). KeepsLines k 0 pairs [] s.first (appended t) → CrashHoldsLines (t.end.seg + 1) (last_number t) wanted k pairs [] now) runs.log.shape
      (λ k. crash_holds wanted told 0 pairs [] s w steps runs.log.stands runs.log.alone can (omega arith) k now some) kept)

  pub holds_now : CrashHoldsMap (store.log.end.seg + 1) (number_of store.mark) wanted store.shape pairs w
  holds_now =
      let log = runs.log in
      map_further (s.end.seg + 1) (last_number s) (store.log.end.seg + 1) (number_of store.mark) wanted store.shape pairs w (omega (arith, ap (λ (p : Place). p.seg) log.ends))
      (omega (arith, number_at_rest s store.mark log.alone log.checkpoint)) (between_holds [] tt keeps w (0, omega arith, refl))

  -- while a record's pages may be appended
  pub holds_soon : CrashHoldsMap (store.log.end.seg + 33) (number_of store.mark) wanted store.shape pairs w
  holds_soon =
      let log = runs.log in
      map_further (s.end.seg + 1) (last_number s) (store.log.end.seg + 33) (number_of store.mark) wanted store.shape pairs w (omega (arith, ap (λ (p : Place). p.seg) log.ends))
      (omega (arith, number_at_rest s store.mark log.alone log.checkpoint)) (between_holds [] tt keeps w (0, omega arith, refl))

  -- ---- records are appended that change no map

  module _ (frames : List Frame) (pages : Partitions) (logged : List PageId) (says : SayPagesOver store pairs pairs frames pages logged) (none : ChangeNoMap store.shape frames) (few : length frames ≤ 32) (segments : HasSegmentsFor store.log 32) where
    abbrev pub steps : List DiskStep
    steps = on_log (append_all_steps store.log frames)

    -- the store after it
    abbrev pub next : StoreState
    next = appended_to store frames pages logged

    enough : HasSegmentsFor store.log (length frames)
    enough = omega (arith, segments, few)

    all_rise : (grown_all store.log frames).end.seg ≤ store.log.end.seg + 32
    all_rise = omega (arith, all_rises store.log frames, few)

    can : CanAll told steps s w
    can = store_append_goes wanted told store pairs pairs s w runs frames pages logged says enough

    keeps_all : KeepsLines store.shape 0 pairs [] s.first (appended (states steps s w))
    keeps_all =
        subst (λ (l : List Frame). KeepsLines store.shape 0 pairs [] s.first l) (sym (appended_on (append_all_steps store.log frames) s w))
        (keeps_still store.shape 0 pairs [] s.first pairs (appended s) (frames_in (append_all_steps store.log frames)) keeps newest refl (all_no_map store.shape store.log frames none))

    pub then_runs : RunsOver wanted told next pairs (states steps s w) (worlds steps s w)
    then_runs = store_append_runs wanted told store pairs pairs s w runs frames pages logged says enough

    pub then_keeps : KeepsLines store.shape 0 pairs [] (states steps s w).first (appended (states steps s w))
    then_keeps = subst (λ (p : Pairs). KeepsLines store.shape 0 pairs [] p (appended (states steps s w))) (sym (state_follows (append_all_steps store.log frames) [] s w).first) keeps_all

    -- what is left to be applied is lasting still
    pub still_lasts : (from : Place) (left : List Frame) → AreLasting from left store.shape pairs s w → AreLasting from left store.shape pairs (states steps s w) (worlds steps s w)
    still_lasts from left lasts =
        lasts_further from left (frames_in (append_all_steps store.log frames)) store.shape pairs s (states steps s w) w (worlds steps s w) lasts (all_no_map store.shape store.log frames none)
        (leads_all wanted told frames store runs.frames pairs s w runs.log says.kinds pairs says.map enough from (left ++ lasts.later) lasts.leads)

    pub then_crash : (world : World) → MakesPrefix steps s w world → CrashHoldsMap (store.log.end.seg + 33) (number_of store.mark) wanted store.shape pairs world
    then_crash world some =
        let t : State = states steps s w in
        let log = then_runs.log in
        map_further (t.end.seg + 1) (last_number t) (store.log.end.seg + 33) (number_of store.mark) wanted store.shape pairs world (omega (arith, ap (λ (p : Place). p.seg) log.ends, all_rise))
        (omega (arith, number_at_rest t store.mark log.alone log.checkpoint)) (between_holds steps can keeps_all world some)
