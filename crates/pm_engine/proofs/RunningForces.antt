-- The log of a store that runs is forced.
use Rattle.std.proofs.Common.{◌≡◌, inl, inr, ℕ, List, [], ◌∷◌, Option, Some, None, refl, sym, ap, subst}
use Rattle.std.specs.Prelude.{IsSome}
use Rattle.pm_types.specs.declared.place.Place.{Place}
use Rattle.pm_types.specs.declared.shape.Mark.{Mark}
use Rattle.pm_types.specs.declared.shape.Shape.{Shape}
use Rattle.pm_disk.specs.Images.{NothingPending}
use Rattle.pm_disk.specs.Worlds.{World}
use Rattle.pm_records.specs.LogFiles.{IsQuietBut}
use Rattle.pm_records.specs.LogSteps.{Force}
use Rattle.pm_records.proofs.QuietLog.{forced_quiet}
use Rattle.pm_core.specs.BasePages.{Partitions, no_pages}
use Rattle.pm_core.specs.Machine.{CanAll, states, worlds, map_or}
use Rattle.pm_core.specs.Rounds.{on_log}
use Rattle.pm_core.specs.Stands.{IsGood, IsViewOf, RebuiltIsLasting}
use Rattle.pm_core.specs.States.{State}
use Rattle.pm_engine.specs.RunningStores.{StoreState, IsRunning, ended_with, map_of}
use Rattle.pm_engine.proofs.RunningAppends.{force_goes, force_runs}

module _ (wanted : Shape) (told : List ℕ → ℕ) (store : StoreState) (s : State) (w : World) (runs : IsRunning wanted told store s w) where
  pub store_force_goes : CanAll told (on_log (Force ∷ [])) s w
  store_force_goes = force_goes wanted told store runs.frames (map_of store) s w runs.log

  pub store_force_runs : IsRunning wanted told store (states (on_log (Force ∷ [])) s w) (worlds (on_log (Force ∷ [])) s w)
  store_force_runs = record {
    is_shape = runs.is_shape;
    is_mark = runs.is_mark;
    frames = runs.frames;
    log = force_runs wanted told store runs.frames (map_of store) s w runs.log;
    files = runs.files;
    tracks = runs.tracks;
    grows = runs.grows;
    holds = runs.holds;
  }

  good : IsGood wanted s w.log w.pages s.now
  good = runs.log.stands.good s.now (subst (λ o. IsViewOf s.now o s.now) (sym runs.log.alone) refl)

  not_rebuilt : s.now.rebuilt ≡ no_pages
  not_rebuilt = by store.mark runs.log.checkpoint
    where
      by : (m : Option Mark) → s.now.checkpoint ≡ ended_with m → s.now.rebuilt ≡ no_pages
      by None is = subst (λ c. RebuiltIsLasting c w.log s.low s.at s.now.rebuilt) is good.rebuilt_lasts
      by (Some m) is = subst (λ c. RebuiltIsLasting c w.log s.low s.at s.now.rebuilt) is good.rebuilt_lasts

  pub pages_quiet : (part : ℕ) → (w.pages part).since ≡ []
  pages_quiet part = elim (good.calm part) [
    | inl none ↦ none
    | inr there ↦ let some : IsSome (no_pages part there.0) = subst (λ (p : Partitions). IsSome (p part there.0)) not_rebuilt there.1 in absurd cc
  ]

  -- nothing is pending then
  pub store_force_quiet : NothingPending (worlds (on_log (Force ∷ [])) s w)
  store_force_quiet = record {
    log = λ seg. forced_quiet s.end.seg w (subst (λ (p : Place). IsQuietBut w p.seg) (sym runs.log.ends) runs.log.quiet.segments) seg;
    pages = pages_quiet;
    starts = runs.log.quiet.starts;
    ends = runs.log.quiet.ends;
  }

  pub store_force_lasts : (states (on_log (Force ∷ [])) s w).map ≡ map_of store
  store_force_lasts = ap (λ o. map_or o s.map) runs.log.newest
