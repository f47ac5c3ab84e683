-- What a force of the log leaves of an engine over page frames.
use Rattle.std.proofs.Common.{◌≡◌, ℕ, ◌+◌, List, [], ◌∷◌, length, Result, refl, sym, ap, ◌∙◌, subst, arith}
use Rattle.std.specs.Prelude.{OnOk}
use Rattle.std.proofs.lemmas.Bool.{false≢true}
use Rattle.std.proofs.lemmas.Result.{on_ok_weaker}
use Rattle.pm_types.specs.declared.place.Place.{Place}
use Rattle.pm_types.specs.declared.shape.Shape.{Shape}
use Rattle.pm_disk.specs.Files.{bytes_of}
use Rattle.pm_disk.specs.Moments.{History, IsHistory, Does, AllMoments}
use Rattle.pm_disk.specs.Worlds.{World, log_forced}
use Rattle.pm_disk.proofs.Chain.{started, weaker, does}
use Rattle.pm_model.specs.declared.line.Line.{Line}
use Rattle.pm_model.specs.Eval.{Pairs}
use Rattle.pm_records.specs.LogSteps.{Force}
use Rattle.pm_segments.specs.Ends.{EndsThere}
use Rattle.pm_segments.proofs.Emptied.{forced_reads}
use Rattle.pm_core.specs.Calls.{ChangesDisk, MakesPrefix, MakesSteps}
use Rattle.pm_core.specs.Machine.{DiskStep, states, worlds}
use Rattle.pm_core.specs.Rounds.{on_log}
use Rattle.pm_core.specs.States.{State}
use Rattle.pm_core.proofs.OnlyDisk.{disk_same, none_disk}
use Rattle.pm_engine.specs.Engines.{FrameRunning, IsEngine, running_in, HasDoneLines, HasLastingLinesIn, AllLastIn, closed_engine}
use Rattle.pm_engine.specs.FrameStores.{pages_in_frames, HasCleanPages}
use Rattle.pm_engine.specs.RunningStores.{number_of}
use Rattle.pm_engine.specs.RunningLines.{HasRun, CrashHoldsLines}
use Rattle.pm_engine.proofs.CheckpointedLines.{between_crash}
use Rattle.pm_engine.proofs.HasRunLines.{line_forced, rest_has_run}
use Rattle.pm_engine.proofs.RunningForces.{store_force_goes, store_force_quiet}

module _ (engine : FrameRunning) (old new : History) (sound : IsHistory old) {T E : Type 0} (result : Result T E) (call : Does {T = T} {E = E} old new result (log_forced engine.log.end.seg old.world)) where
  abbrev forces : List DiskStep
  forces = on_log (Force ∷ [])

  forced_at : (s : State) → s.end ≡ engine.log.end → log_forced engine.log.end.seg old.world ≡ worlds forces s old.world
  forced_at s ends = ap (λ (p : Place). log_forced p.seg old.world) (sym ends)

  force_makes : (s : State) → s.end ≡ engine.log.end → MakesSteps {T = T} {E = E} old new result forces s
  force_makes s ends =
      let next = forced_at s ends in
      let P : World → Type 0 = MakesPrefix forces s old.world in
      let none : P old.world = (0, omega arith, refl) in
      let one : P (log_forced engine.log.end.seg old.world) = (1, omega arith, next) in
      record {
        all = on_ok_weaker result (λ is. is ∙ next) call.ok;
        moments = does old old new result (log_forced engine.log.end.seg old.world) P (started old P sound none) call none one;
      }

  pub forced_ends : EndsThere engine.log old.world → OnOk result (EndsThere engine.log new.world)
  forced_ends ends = on_ok_weaker result (λ is. subst (EndsThere engine.log) (sym is) (record { kept = ends.kept; ends = ap (λ o. length (bytes_of o)) (forced_reads engine.log.end.seg old.world) ∙ ends.ends })) call.ok

  pub forced_disk : AllMoments old new (ChangesDisk old.world)
  forced_disk = does old old new result (log_forced engine.log.end.seg old.world) (ChangesDisk old.world) (none_disk old sound) call (disk_same old.world) (record { said = refl; input = refl; config = refl })

  -- the partitions' files are as they were
  pub forced_pages : OnOk result (pages_in_frames engine.store new.world ≡ pages_in_frames engine.store old.world)
  forced_pages = on_ok_weaker result (λ is. ap (λ (w : World). pages_in_frames engine.store w) is) call.ok

  pub forced_clean : HasCleanPages engine.store old.world → OnOk result (HasCleanPages engine.store new.world)
  forced_clean clean = on_ok_weaker result (λ is. subst (λ (w : World). HasCleanPages engine.store w) (sym is) clean) call.ok

  module _ (wanted : Shape) (told : List ℕ → ℕ) (low : ℕ) (start : Pairs) (lines : List Line) (has : HasDoneLines wanted told low start lines engine old.world) where
    abbrev s : State
    s = has.state

    then_has : HasRun wanted told low start lines (running_in engine old.world has.logged) (states forces s old.world) (worlds forces s old.world)
    then_has = line_forced wanted told low start lines (running_in engine old.world has.logged) s old.world has.has

    then_lasts : HasLastingLinesIn wanted told low start lines engine (worlds forces s old.world)
    then_lasts = record {
      done = record { state = states forces s old.world; logged = has.logged; names = has.names; has = then_has };
      quiet = store_force_quiet wanted told (running_in engine old.world has.logged) s old.world has.has.runs;
    }

    pub forced_lasts : OnOk result (HasLastingLinesIn wanted told low start lines engine new.world)
    forced_lasts = on_ok_weaker result
        (λ is. subst (HasLastingLinesIn wanted told low start lines engine) (sym is) then_lasts)
        (force_makes s has.has.runs.log.ends).all

    -- whatever a crash leaves then holds the map
    pub forced_rests : OnOk result (AllLastIn wanted told engine new.world)
    forced_rests = on_ok_weaker result
        (λ is. subst (AllLastIn wanted told engine) (sym is) (record {
          low = length (states forces s old.world).order;
          lasts = record {
            done = record {
              state = states forces s old.world;
              logged = has.logged;
              names = has.names;
              has = rest_has_run wanted told (running_in engine old.world has.logged) (states forces s old.world) (worlds forces s old.world) then_has.runs refl;
            };
            quiet = then_lasts.quiet;
          };
        }))
        (force_makes s has.has.runs.log.ends).all

    pub forced_crash : AllMoments old new (CrashHoldsLines (engine.log.end.seg + 1) (number_of engine.ckpt.mark) wanted engine.store.shape start lines)
    forced_crash =
        let store = running_in engine old.world has.logged in
        weaker old new (MakesPrefix forces s old.world) (CrashHoldsLines (engine.log.end.seg + 1) (number_of engine.ckpt.mark) wanted engine.store.shape start lines)
        (λ w some. between_crash wanted told low start lines lines store store s old.world w forces has.has (store_force_goes wanted told store s old.world has.has.runs) then_has some)
        (force_makes s has.has.runs.log.ends).moments

-- an engine that is closed
pub engine_closed : (engine : FrameRunning) → IsEngine engine → IsEngine (closed_engine engine)
engine_closed engine is = record {
  shape = is.shape;
  mark = is.mark;
  from_one = λ on. absurd (false≢true on);
  size_to = λ on. absurd (false≢true on);
  room = λ on. absurd (false≢true on);
  sent = λ on. absurd (false≢true on);
}
