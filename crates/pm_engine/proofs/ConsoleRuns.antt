-- A store that runs doesn't see what is read of the input and what is said.
use Rattle.std.proofs.Common.{◌≡◌, ℕ, List, sym, subst, arith}
use Rattle.pm_types.specs.declared.shape.Shape.{Shape}
use Rattle.pm_frame.specs.Frames.{Frame}
use Rattle.pm_disk.specs.Worlds.{World}
use Rattle.pm_model.specs.declared.line.Line.{Line}
use Rattle.pm_model.specs.Eval.{Pairs}
use Rattle.pm_core.specs.Stands.{Stands}
use Rattle.pm_core.specs.States.{State}
use Rattle.pm_engine.specs.RunningLines.{HasRun, SameDisk, says_nothing}
use Rattle.pm_engine.specs.RunningStores.{StoreState, LogRuns, RunsOver}

-- the same disk beside another console
abbrev beside : World → World → World
beside w now = record w { config = now.config; said = now.said; input = now.input }

module _ (wanted : Shape) (store : StoreState) (s : State) (w now : World) where
  stands_beside : Stands wanted says_nothing s w → Stands wanted says_nothing s (beside w now)
  stands_beside stands = record {
    log = stands.log;
    ends = stands.ends;
    marks = stands.marks;
    reads = stands.reads;
    quiet = stands.quiet;
    good = stands.good;
    well = stands.well;
    newest = stands.newest;
    newest_is = stands.newest_is;
    said = omega arith;
    since_first = stands.since_first;
  }

  log_beside : (frames : List Frame) (pairs : Pairs) → LogRuns wanted says_nothing store frames pairs s w → LogRuns wanted says_nothing store frames pairs s (beside w now)
  log_beside frames pairs runs = record {
    stands = stands_beside runs.stands;
    shape = runs.shape;
    checkpoint = runs.checkpoint;
    alone = runs.alone;
    ends = runs.ends;
    is_open = runs.is_open;
    begun = runs.begun;
    lasting = runs.lasting;
    leads = runs.leads;
    all = runs.all;
    newest = runs.newest;
    quiet = record { segments = runs.quiet.segments; starts = runs.quiet.starts; ends = runs.quiet.ends };
  }

  runs_beside : (pairs : Pairs) → RunsOver wanted says_nothing store pairs s w → RunsOver wanted says_nothing store pairs s (beside w now)
  runs_beside pairs runs = record {
    is_shape = runs.is_shape;
    is_mark = runs.is_mark;
    frames = runs.frames;
    log = log_beside runs.frames pairs runs.log;
    files = runs.files;
    tracks = runs.tracks;
    grows = runs.grows;
    holds = runs.holds;
  }

  is_beside : SameDisk w now → beside w now ≡ now
  is_beside same = λ i. record {
    log = (sym same.log) i;
    pages = (sym same.pages) i;
    starts = (sym same.starts) i;
    ends = (sym same.ends) i;
    config = now.config;
    said = now.said;
    input = now.input;
  }

  pub has_beside : (from : ℕ) (start : Pairs) (lines : List Line) → HasRun wanted says_nothing from start lines store s w → SameDisk w now → HasRun wanted says_nothing from start lines store s now
  has_beside from start lines has same =
      subst (λ (v : World). HasRun wanted says_nothing from start lines store s v) (is_beside same)
      (record { runs = runs_beside _ has.runs; lasting = has.lasting; map = has.map; keeps = has.keeps })
