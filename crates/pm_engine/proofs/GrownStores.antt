-- A store without logged pages runs also with more of what the partitions' files have.
use Rattle.std.proofs.Common.{◌≡◌, ℕ, ◌<◌, inl, inr, List, [], Option, Some, None, refl, sym, ap, ◌∙◌, subst}
use Rattle.std.specs.Prelude.{IsSome, is_some}
use Rattle.std.proofs.lemmas.Bool.{false≢true}
use Rattle.pm_types.specs.declared.shape.Shape.{Shape}
use Rattle.pm_frame.specs.Frames.{Frame}
use Rattle.pm_disk.specs.Worlds.{World}
use Rattle.pm_model.specs.declared.line.Line.{Line}
use Rattle.pm_model.specs.Eval.{Pairs}
use Rattle.pm_records.proofs.Runs.{option_cases}
use Rattle.pm_pages.specs.Rows.{Partition}
use Rattle.pm_pages.specs.WellFormed.{IsWellFormed}
use Rattle.pm_core.specs.BasePages.{Partitions, counted}
use Rattle.pm_core.specs.PageLaws.{Grows}
use Rattle.pm_core.specs.States.{State}
use Rattle.pm_core.proofs.Junk.{counted_same, pairs_same}
use Rattle.pm_engine.specs.RunningLines.{HasRun}
use Rattle.pm_engine.specs.RunningStores.{StoreState, LogRuns, RunsOver, IsRunning, map_of}

-- none is logged, and it has these pages
abbrev pub unlogged : StoreState → Partitions → StoreState
unlogged store pages = record store { pages = pages; logged = [] }

pub log_grown : (wanted : Shape) (told : List ℕ → ℕ) (store : StoreState) (was now : Partitions) (frames : List Frame) (pairs : Pairs) (s : State) (w : World) → LogRuns wanted told (unlogged store was) frames pairs s w → LogRuns wanted told (unlogged store now) frames pairs s w
log_grown wanted told store was now frames pairs s w runs = record {
  stands = runs.stands;
  shape = runs.shape;
  checkpoint = runs.checkpoint;
  alone = runs.alone;
  ends = runs.ends;
  is_open = runs.is_open;
  begun = runs.begun;
  lasting = runs.lasting;
  leads = runs.leads;
  all = runs.all;
  newest = runs.newest;
  quiet = runs.quiet;
}

-- where a page is there, the first one is
pub first_grown : (old new : Partition) (index : ℕ) → Grows old new → (IsSome (old index) → IsSome (old 0)) → IsSome (new index) → IsSome (new 0)
first_grown old new index grows first some = elim (option_cases (old index)) [
  | inl none ↦ elim (grows.comes index none) [
    | inl still ↦ absurd (none_some (new index) still some)
    | inr there ↦ goes there
  ]
  | inr it ↦ goes (first (ap is_some it.1))
]
  where
    none_some : (o : Option (List ℕ)) → o ≡ None → IsSome o → ⊥
    none_some None is some = absurd cc
    none_some (Some page) is some = absurd cc

    goes : IsSome (old 0) → IsSome (new 0)
    goes some = elim (option_cases (old 0)) [
      | inl none ↦ absurd (none_some (old 0) none some)
      | inr it ↦ ap is_some (grows.stays 0 it.0 it.1)
    ]

module _ (wanted : Shape) (told : List ℕ → ℕ) (store : StoreState) (was now : Partitions) (s : State) (w : World) (grows : (part : ℕ) → part < store.shape.partitions → Grows (was part) (now part)) (within : (part : ℕ) → part < store.shape.partitions → Grows (now part) (s.files part)) where
  module _ (runs : IsRunning wanted told (unlogged store was) s w) where
    same : (part : ℕ) → part < store.shape.partitions → counted (now part) ≡ counted (was part)
    same part inside = counted_same store.shape part (was part) (now part) (runs.holds.well_formed part inside) (grows part inside)

    pub map_grown : map_of (unlogged store now) ≡ map_of (unlogged store was)
    map_grown = pairs_same store.shape.partitions was now same

    pub runs_grown : IsRunning wanted told (unlogged store now) s w
    runs_grown =
        subst (λ (p : Pairs). RunsOver wanted told (unlogged store now) p s w) (sym map_grown)
        (record {
          is_shape = runs.is_shape;
          is_mark = runs.is_mark;
          frames = runs.frames;
          log = log_grown wanted told store was now runs.frames (map_of (unlogged store was)) s w runs.log;
          files = now;
          tracks = record {
            rebuilt = runs.tracks.rebuilt;
            is = runs.tracks.is;
            each = runs.tracks.each;
            there = λ part index has. absurd (false≢true has);
            clean = λ part index inside none. refl;
          };
          grows = within;
          holds = record {
            well_formed = λ part inside. subst (λ (pages : Partition). IsWellFormed store.shape part pages) (sym (same part inside)) (runs.holds.well_formed part inside);
            first_pages = λ part index inside some. first_grown (was part) (now part) index (grows part inside) (runs.holds.first_pages part index inside) some;
            once = tt;
          };
        })

  pub lines_grown : (from : ℕ) (start : Pairs) (lines : List Line) → HasRun wanted told from start lines (unlogged store was) s w → HasRun wanted told from start lines (unlogged store now) s w
  lines_grown from start lines has = record { runs = runs_grown has.runs; lasting = has.lasting; map = map_grown has.runs ∙ has.map; keeps = has.keeps }
