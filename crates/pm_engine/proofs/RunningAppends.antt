-- Frames are appended to the log of a store that runs, and forced.
use Rattle.std.proofs.Common.{◌≡◌, inl, ℕ, ◌+◌, ◌≤◌, List, [], ◌∷◌, ◌++◌, length, Some, refl, sym, ap, ◌∙◌, subst, arith, append_assoc, append-nil}
use Rattle.pm_types.specs.declared.place.Place.{Place}
use Rattle.pm_types.specs.declared.shape.Shape.{Shape}
use Rattle.pm_frame.specs.Frames.{Frame}
use Rattle.pm_disk.specs.Worlds.{World}
use Rattle.pm_model.specs.Eval.{Pairs}
use Rattle.pm_records.specs.LogFiles.{IsQuietBut, IsRecordFrame}
use Rattle.pm_records.specs.LogSteps.{Step, Force, end_after, frames_in, world_after, written_after}
use Rattle.pm_records.specs.Logs.{HasNoSeal}
use Rattle.pm_records.proofs.Writing.{CanAll as CanWriteAll, frames_after, frames_in-append}
use Rattle.pm_segments.specs.Appends.{append_steps, grown}
use Rattle.pm_segments.specs.Ends.{LogEnd, LogIsOpen}
use Rattle.pm_segments.proofs.AppendLaw.{append_can}
use Rattle.pm_segments.proofs.OpenLog.{append_open, force_open, grown_seg}
use Rattle.pm_core.specs.Machine.{DiskStep, OnLog, CanAll, states, worlds}
use Rattle.pm_core.specs.Replays.{all_replayed}
use Rattle.pm_core.specs.Rounds.{on_log}
use Rattle.pm_core.specs.States.{State}
use Rattle.pm_core.proofs.CrashLaw.{run_stands}
use Rattle.pm_core.proofs.Joins.{can-append}
use Rattle.pm_core.proofs.LogSteps.{written_by}
use Rattle.pm_core.proofs.Making.{worlds_join}
use Rattle.pm_core.proofs.Replaying.{replayed-append}
use Rattle.pm_ckpt.proofs.GoingOn.{steps_go, front_replays}
use Rattle.pm_ckpt.proofs.Opening.{grown_end}
use Rattle.pm_ckpt.proofs.Whole.{states_join, logs_end}
use Rattle.pm_engine.specs.AppendRuns.{grown_all, append_all_steps}
use Rattle.pm_engine.specs.RunningStores.{StoreState, LogRuns, HasSegmentsFor, AreRecordFrames}
use Rattle.pm_engine.proofs.RunningLogs.{state_follows, leads_on, newest_on, begun_on, append_replays, open_as}
use Rattle.pm_engine.proofs.RunningQuiet.{steps_quiet, append_leaves, force_leaves}

-- ---- steps of the log

-- steps that write the log, of which the machine's guards are met
module _ (wanted : Shape) (told : List ℕ → ℕ) (store : StoreState) (frames : List Frame) (pairs : Pairs) (s : State) (w : World) (runs : LogRuns wanted told store frames pairs s w) (steps : List Step) (log : LogEnd) (now : Pairs)
    (can : CanWriteAll 0 steps store.log.end (written_by s runs.lasting)) (replays : all_replayed store.shape (frames_in steps) (Some pairs) ≡ Some now)
    (ends : end_after steps store.log.end ≡ log.end) (is_open : LogIsOpen log (written_after steps (written_by s runs.lasting))) where
  abbrev t : State
  t = states (on_log steps) s w

  abbrev there : World
  there = worlds (on_log steps) s w

  can_here : CanWriteAll 0 steps s.end (written_by s runs.lasting)
  can_here = subst (λ (p : Place). CanWriteAll 0 steps p (written_by s runs.lasting)) (sym runs.ends) can

  whole : all_replayed s.shape (s.pending ++ frames_in steps) (Some s.map) ≡ Some now
  whole =
      replayed-append s.shape s.pending (frames_in steps) (Some s.map) ∙ ap (all_replayed s.shape (frames_in steps)) runs.newest
      ∙ ap (λ (shape : Shape). all_replayed shape (frames_in steps) (Some pairs)) runs.shape ∙ replays

  pub steps_can : CanAll told (on_log steps) s w
  steps_can = steps_go told now steps runs.lasting s w can_here runs.begun whole

  pub steps_run : IsQuietBut (world_after steps store.log.end w) log.end.seg → LogRuns wanted told (record store { log = log }) (frames ++ frames_in steps) now t there
  steps_run segments =
      let follows = state_follows steps runs.lasting s w in
      record {
        stands = run_stands wanted told (on_log steps) s w runs.stands steps_can;
        shape = follows.shape ∙ runs.shape;
        checkpoint = ap (λ v. v.checkpoint) follows.now ∙ runs.checkpoint;
        alone = follows.soon ∙ runs.alone;
        ends = logs_end steps s w ∙ ap (end_after steps) runs.ends ∙ ends;
        is_open = record {
          limits = is_open.limits;
          ready = follows.tail ∙ is_open.ready;
          plain = subst HasNoSeal (sym follows.pending) is_open.plain;
          room_to_seal = is_open.room_to_seal;
          numbered = is_open.numbered;
        };
        begun = begun_on steps s w runs.begun;
        lasting = (written_after steps (written_by s runs.lasting)).lasting;
        leads = leads_on wanted told s w runs.stands steps _ runs.lasting runs.leads can_here;
        all = ap (λ fs. (written_after steps (written_by s runs.lasting)).lasting ++ fs) follows.pending ∙ frames_after steps (written_by s runs.lasting) ∙ ap (λ fs. fs ++ frames_in steps) runs.all;
        newest = ap (λ (shape : Shape). all_replayed shape t.pending (Some t.map)) follows.shape ∙ newest_on steps s w now whole;
        quiet = steps_quiet steps store.log log s w runs.ends runs.quiet segments;
      }

-- ---- one frame

module _ (wanted : Shape) (told : List ℕ → ℕ) (store : StoreState) (frames : List Frame) (pairs : Pairs) (s : State) (w : World) (runs : LogRuns wanted told store frames pairs s w) (f : Frame) (is : IsRecordFrame f) (now : Pairs)
    (makes : all_replayed store.shape (f ∷ []) (Some pairs) ≡ Some now) (segments : HasSegmentsFor store.log 1) where
  abbrev steps : List Step
  steps = append_steps store.log f

  open_here : LogIsOpen store.log (written_by s runs.lasting)
  open_here = open_as store.log s runs.lasting runs.is_open

  replays : all_replayed store.shape (frames_in steps) (Some pairs) ≡ Some now
  replays = append_replays store.log f store.shape pairs ∙ makes

  open_after : LogIsOpen (grown store.log f) (written_after steps (written_by s runs.lasting))
  open_after = append_open store.log f is (written_by s runs.lasting) open_here (omega (arith, segments))

  pub append_goes : CanAll told (on_log steps) s w
  append_goes = steps_can wanted told store frames pairs s w runs steps (grown store.log f) now (append_can store.log f is (written_by s runs.lasting) open_here 0) replays (grown_end store.log f) open_after

  pub append_runs : LogRuns wanted told (record store { log = grown store.log f }) (frames ++ frames_in steps) now (states (on_log steps) s w) (worlds (on_log steps) s w)
  append_runs = steps_run wanted told store frames pairs s w runs steps (grown store.log f) now (append_can store.log f is (written_by s runs.lasting) open_here 0) replays (grown_end store.log f) open_after
      (append_leaves store.log f w runs.quiet.segments)

  pub append_seg : (grown store.log f).end.seg ≤ store.log.end.seg + 1
  append_seg = grown_seg store.log f is (written_by s runs.lasting) open_here

-- ---- frames

pub on_log-append : (xs ys : List Step) → on_log (xs ++ ys) ≡ on_log xs ++ on_log ys
on_log-append [] ys = refl
on_log-append (x ∷ xs) ys = ap (λ l. OnLog x ∷ l) (on_log-append xs ys)

some_same : (a b : Pairs) → Some a ≡ Some b → a ≡ b
some_same a b e = cc

pub frames_run : (wanted : Shape) (told : List ℕ → ℕ) (fs : List Frame) (store : StoreState) (frames : List Frame) (pairs : Pairs) (s : State) (w : World) → LogRuns wanted told store frames pairs s w → AreRecordFrames fs → (now : Pairs)
    → all_replayed store.shape fs (Some pairs) ≡ Some now → HasSegmentsFor store.log (length fs)
    → CanAll told (on_log (append_all_steps store.log fs)) s w
    × LogRuns wanted told (record store { log = grown_all store.log fs }) (frames ++ frames_in (append_all_steps store.log fs)) now (states (on_log (append_all_steps store.log fs)) s w) (worlds (on_log (append_all_steps store.log fs)) s w)
frames_run wanted told [] store frames pairs s w runs are now makes segments =
    (tt, subst (λ (l : List Frame). LogRuns wanted told store l now s w) (sym (append-nil frames)) (subst (λ (p : Pairs). LogRuns wanted told store frames p s w) (some_same pairs now makes) runs))
frames_run wanted told (f ∷ fs) store frames pairs s w runs are now makes segments =
    let front = front_replays store.shape (f ∷ []) fs pairs now makes in
    let one = append_steps store.log f in
    let more = append_all_steps (grown store.log f) fs in
    let seg : HasSegmentsFor store.log 1 = omega (arith, segments) in
    let go = append_goes wanted told store frames pairs s w runs f are.0 front.0 front.1 seg in
    let mid = append_runs wanted told store frames pairs s w runs f are.0 front.0 front.1 seg in
    let t = states (on_log one) s w in
    let v = worlds (on_log one) s w in
    let rises = append_seg wanted told store frames pairs s w runs f are.0 front.0 front.1 seg in
    let rest = frames_run wanted told fs (record store { log = grown store.log f }) (frames ++ frames_in one) front.0 t v mid are.1 now front.2 (omega (arith, segments, rises)) in
    let joined : on_log (one ++ more) ≡ on_log one ++ on_log more = on_log-append one more in
    let all : (frames ++ frames_in one) ++ frames_in more ≡ frames ++ frames_in (one ++ more) =
    append_assoc frames (frames_in one) (frames_in more) ∙ ap (λ l. frames ++ l) (sym (frames_in-append one more)) in (
      subst (λ (l : List DiskStep). CanAll told l s w) (sym joined) (can-append told (on_log one) (on_log more) s w go rest.0),
      subst (λ (l : List DiskStep). LogRuns wanted told (record store { log = grown_all store.log (f ∷ fs) }) (frames ++ frames_in (one ++ more)) now (states l s w) (worlds l s w)) (sym joined)
          (subst (λ (r : State). LogRuns wanted told (record store { log = grown_all store.log (f ∷ fs) }) (frames ++ frames_in (one ++ more)) now r (worlds (on_log one ++ on_log more) s w)) (sym (states_join (on_log one) (on_log more) s w))
          (subst (λ (u : World). LogRuns wanted told (record store { log = grown_all store.log (f ∷ fs) }) (frames ++ frames_in (one ++ more)) now (states (on_log more) t v) u) (sym (worlds_join (on_log one) (on_log more) s w))
          (subst (λ (l : List Frame). LogRuns wanted told (record store { log = grown_all store.log (f ∷ fs) }) l now (states (on_log more) t v) (worlds (on_log more) t v)) all rest.1))),
    )

-- ---- a force

module _ (wanted : Shape) (told : List ℕ → ℕ) (store : StoreState) (frames : List Frame) (pairs : Pairs) (s : State) (w : World) (runs : LogRuns wanted told store frames pairs s w) where
  can_force : CanWriteAll 0 (Force ∷ []) store.log.end (written_by s runs.lasting)
  can_force = (inl runs.is_open.ready, tt)

  open_forced : LogIsOpen store.log (written_after (Force ∷ []) (written_by s runs.lasting))
  open_forced = force_open store.log (written_by s runs.lasting) (open_as store.log s runs.lasting runs.is_open)

  pub force_goes : CanAll told (on_log (Force ∷ [])) s w
  force_goes = steps_can wanted told store frames pairs s w runs (Force ∷ []) store.log pairs can_force refl refl open_forced

  pub force_runs : LogRuns wanted told store frames pairs (states (on_log (Force ∷ [])) s w) (worlds (on_log (Force ∷ [])) s w)
  force_runs =
      subst (λ (l : List Frame). LogRuns wanted told store l pairs (states (on_log (Force ∷ [])) s w) (worlds (on_log (Force ∷ [])) s w)) (append-nil frames)
      (steps_run wanted told store frames pairs s w runs (Force ∷ []) store.log pairs can_force refl refl open_forced (force_leaves store.log.end.seg store.log.end w runs.quiet.segments))
