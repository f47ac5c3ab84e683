-- Steps of the log, as the crate of the log makes them, are steps of the machine.
use Rattle.std.proofs.Common.{◌≡◌, ℕ, zero, suc, List, [], ◌∷◌, length, take, refl, sym, ◌∙◌, ap, arith}
use Rattle.pm_types.specs.declared.place.Place.{Place}
use Rattle.pm_disk.specs.Worlds.{World}
use Rattle.pm_records.specs.LogSteps.{Step, CutTail, Append, Force, NextSegment, DropSegment, ForceSegment, step_end, step_world, world_after, DoesPrefix}
use Rattle.pm_core.specs.Calls.{MakesPrefix}
use Rattle.pm_core.specs.Machine.{OnLog, log_state, worlds}
use Rattle.pm_core.specs.Rounds.{on_log}
use Rattle.pm_core.specs.States.{State}

end_is : (step : Step) (s : State) → (log_state step s).end ≡ step_end step s.end
end_is CutTail s = refl
end_is (Append frame) s = refl
end_is Force s = refl
end_is NextSegment s = refl
end_is (DropSegment seg) s = refl
end_is (ForceSegment seg) s = refl

pub log_worlds : (steps : List Step) (s : State) (w : World) → worlds (on_log steps) s w ≡ world_after steps s.end w
log_worlds [] s w = refl
log_worlds (step ∷ steps) s w =
    log_worlds steps (log_state step s) (step_world step s.end w) ∙ ap (λ (p : Place). world_after steps p (step_world step s.end w)) (end_is step s)

first_steps : (k : ℕ) (steps : List Step) → on_log (take k steps) ≡ take k (on_log steps)
first_steps zero steps = refl
first_steps (suc k) [] = refl
first_steps (suc k) (step ∷ steps) = ap (λ rest. OnLog step ∷ rest) (first_steps k steps)

length_log : (steps : List Step) → length (on_log steps) ≡ length steps
length_log [] = refl
length_log (step ∷ steps) = ap suc (length_log steps)

pub prefix : (steps : List Step) (s : State) (old now : World) → DoesPrefix steps s.end old now → MakesPrefix (on_log steps) s old now
prefix steps s old now some = (
  some.0,
  omega (arith, some.1, length_log steps),
  some.2 ∙ sym (log_worlds (take some.0 steps) s old) ∙ ap (λ all. worlds all s old) (first_steps some.0 steps),
)
