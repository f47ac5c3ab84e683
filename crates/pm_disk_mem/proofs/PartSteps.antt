-- A step that a part keeps in its record is one moment more.
use Rattle.std.proofs.Common.{◌≡◌, ◌⊎◌, inl, inr, ◌≤◌, ℕ, List, [], ◌∷◌, ◌++◌, length, Result, Ok, refl, sym, ◌∙◌, ap, subst, arith, length-append}
use Rattle.std.specs.Prelude.{IsErr}
use Rattle.std.proofs.lemmas.List.{take_all, take-append-le}
use Rattle.pm_disk.specs.Worlds.{World}
use Rattle.pm_disk.specs.Moments.{Elapses, Does}
use Rattle.pm_disk_mem.specs.Steps.{replay, history_after, files_world, stepped, HoldsWorld}
use Rattle.pm_disk_mem.specs.declared.console.Console.{Console}
use Rattle.pm_disk_mem.specs.declared.files.Files.{Files}
use Rattle.pm_disk_mem.specs.declared.step.Step.{Step}
use Rattle.pm_disk_mem.proofs.Recording.{nothing_done, on_error}

pub replay-push : (steps : List Step) (step : Step) (world : World) → replay (steps ++ step ∷ []) world ≡ stepped step (replay steps world)
replay-push [] step world = refl
replay-push (first ∷ steps) step world = replay-push steps step (stepped first world)

elapses : (start : World) (steps : List Step) (step : Step) → Elapses (history_after start steps) (history_after start (steps ++ step ∷ []))
elapses start steps step = record {
  later = omega (arith, length-append steps (step ∷ []));
  nothing_else = λ t w le was. elim (split was.0 was.2) [
    | inl within ↦ inl (was.0, was.1, within, was.3 ∙ ap (λ (l : List Step). replay l start) (take-append-le was.0 steps (step ∷ []) within))
    | inr past ↦ inr (was.3 ∙ ap (λ (l : List Step). replay l start) (take_all was.0 (steps ++ step ∷ []) past))
  ];
  keeps = λ t w le was. (was.0, was.1, omega (arith, was.2, length-append steps (step ∷ [])), was.3 ∙ ap (λ (l : List Step). replay l start) (sym (take-append-le was.0 steps (step ∷ []) was.2)));
}
  where
    split : (k : ℕ) → k ≤ length (steps ++ step ∷ []) → (k ≤ length steps) ⊎ (length (steps ++ step ∷ []) ≤ k)
    split k le = grind (arith, length-append steps (step ∷ []))

done : {T E : Type 0} (start : World) (steps : List Step) (step : Step) (value : T) → Does {T = T} {E = E} (history_after start steps) (history_after start (steps ++ step ∷ [])) (Ok value) (stepped step (replay steps start))
done start steps step value = record { time = elapses start steps step; ok = replay-push steps step start; either = inr (replay-push steps step start) }

-- What is held before a step and after it, or after out of memory.
module _ (files new_files : Files) (console new_console : Console) (began : Files) (steps new_steps : List Step) where
  pub stands_still : HoldsWorld files console (replay steps (files_world began)) → ((w : World) → HoldsWorld files console w → HoldsWorld new_files new_console w) → new_steps ≡ steps → HoldsWorld new_files new_console (replay new_steps (files_world began))
  stands_still stands keeps is = subst (λ (l : List Step). HoldsWorld new_files new_console (replay l (files_world began))) (sym is) (keeps (replay steps (files_world began)) stands)

  pub stands_after : (step : Step) → HoldsWorld files console (replay steps (files_world began)) → ((w : World) → HoldsWorld files console w → HoldsWorld new_files new_console (stepped step w)) → new_steps ≡ steps ++ step ∷ []
      → HoldsWorld new_files new_console (replay new_steps (files_world began))
  stands_after step stands goes is =
      subst (λ (l : List Step). HoldsWorld new_files new_console (replay l (files_world began))) (sym is)
      (subst (λ (w : World). HoldsWorld new_files new_console w) (sym (replay-push steps step (files_world began))) (goes (replay steps (files_world began)) stands))

-- What is told before a step and after it, or after out of memory.
module _ (began : Files) (steps new_steps : List Step) where
  pub does_nothing : {T E : Type 0} (result : Result T E) (next : World) → IsErr result → new_steps ≡ steps → Does {T = T} {E = E} (history_after (files_world began) steps) (history_after (files_world began) new_steps) result next
  does_nothing {T} {E} result next failed is =
      subst (λ (l : List Step). Does {T = T} {E = E} (history_after (files_world began) steps) (history_after (files_world began) l) result next) (sym is)
      (nothing_done (history_after (files_world began) steps) result next (on_error result _ failed))

  pub does_step : {T E : Type 0} (step : Step) (value : T) → new_steps ≡ steps ++ step ∷ [] → Does {T = T} {E = E} (history_after (files_world began) steps) (history_after (files_world began) new_steps) (Ok value) (stepped step (replay steps (files_world began)))
  does_step {T} {E} step value is =
      subst (λ (l : List Step). Does {T = T} {E = E} (history_after (files_world began) steps) (history_after (files_world began) l) (Ok value) (stepped step (replay steps (files_world began)))) (sym is)
      (done (files_world began) steps step value)

  pub world_same : new_steps ≡ steps → replay new_steps (files_world began) ≡ replay steps (files_world began)
  world_same is = ap (λ (l : List Step). replay l (files_world began)) is
