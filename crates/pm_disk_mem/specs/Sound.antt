-- What a host in memory and its parts tell is a history.
use Rattle.std.proofs.Common.{inl, inr, List, length, take, sym, ap, subst, ◌∙◌, arith}
use Rattle.std.proofs.lemmas.List.{take_all, drop_all}
use Rattle.pm_disk.specs.Worlds.{World}
use Rattle.pm_disk.specs.Moments.{IsHistory}
use Rattle.pm_disk_mem.specs.Steps.{replay, history_after}
use Rattle.pm_disk_mem.specs.Events.{after_events, WasDuringFirst, history_during}
use Rattle.pm_disk_mem.specs.declared.event.Event.{Event}
use Rattle.pm_disk_mem.specs.declared.step.Step.{Step}

-- this moment is one of those since each earlier one, and since this moment there is no other
pub sound : (start : World) (steps : List Step) → IsHistory (history_after start steps)
sound start steps = record {
  counts_now = λ t le. (
    length steps,
    le,
    omega arith,
    ap (λ (l : List Step). replay l start) (sym (take_all (length steps) steps (omega arith))),
  );
  only_now = λ world was. was.3 ∙ ap (λ (l : List Step). replay l start) (take_all was.0 steps was.1);
}

-- the same of a host that has had rounds
pub sound_during : (start : World) (events : List Event) → IsHistory (history_during start events)
sound_during start events = record {
  counts_now = λ t le. (
    length events,
    le,
    omega arith,
    inl (ap (λ (l : List Event). after_events l start) (sym (take_all (length events) events (omega arith)))),
  );
  only_now = λ world was. elim was.3 [
    | inl is ↦ is ∙ ap (λ (l : List Event). after_events l start) (take_all was.0 events was.1)
    | inr during ↦ absurd
        (subst (λ (l : List Event). WasDuringFirst l (after_events (take was.0 events) start) world)
        (drop_all was.0 events was.1) during)
  ];
}
