-- An engine over page frames between two batches: what a crash leaves there, and that what is said and read changes nothing of it.
use Rattle.std.proofs.Common.{◌≡◌, ℕ, ◌+◌, List, [], length, true, refl, sym, ◌∙◌, ap, subst, arith}
use Rattle.pm_types.specs.declared.shape.Shape.{Shape}
use Rattle.pm_config.specs.declared.config.Config.{Config}
use Rattle.pm_disk.specs.Worlds.{World, with_said}
use Rattle.pm_script.specs.Reading.{OnlyTakes}
use Rattle.pm_engine.specs.Engines.{FrameRunning, AllLastIn, IsSameEngine, running_in, map_in}
use Rattle.pm_engine.specs.FrameOpenings.{IsReadyOver}
use Rattle.pm_engine.specs.RunningStores.{number_of}
use Rattle.pm_engine.specs.RunningLines.{SameDisk, CrashHoldsLines, says_nothing}
use Rattle.pm_engine.proofs.CheckpointedLines.{between_crash}
use Rattle.pm_engine.proofs.ConsoleRuns.{has_beside}
use Rattle.pm_top.specs.FrameRests.{FrameAtRest, IsServing}

-- ---- the same disk beside another console

-- this disk beside that console
abbrev pub beside : World → World → World
beside w now = record w { config = now.config; said = now.said; input = now.input }

pub is_beside : (w now : World) → SameDisk w now → beside w now ≡ now
is_beside w now same = λ i. record {
  log = (sym same.log) i;
  pages = (sym same.pages) i;
  starts = (sym same.starts) i;
  ends = (sym same.ends) i;
  config = now.config;
  said = now.said;
  input = now.input;
}

pub same_said : (bytes : List ℕ) (w : World) → SameDisk w (with_said bytes w)
same_said bytes w = record { log = refl; pages = refl; starts = refl; ends = refl }

pub same_taken : (old new : World) → OnlyTakes old new → SameDisk old new
same_taken old new takes = subst (SameDisk old) (sym takes.1) (record { log = refl; pages = refl; starts = refl; ends = refl })

-- ---- what is said and read changes nothing of it

pub map_beside : (engine : FrameRunning) (old now : World) → SameDisk old now → map_in engine now ≡ map_in engine old
map_beside engine old now same = sym (ap (λ (w : World). map_in engine w) (is_beside old now same))

done_beside : (wanted : Shape) (engine : FrameRunning) (old now : World) → FrameAtRest wanted engine old → SameDisk old (beside old now) → FrameAtRest wanted engine (beside old now)
done_beside wanted engine old now rest same = record {
  from = rest.from;
  has = record {
    state = rest.has.state;
    logged = rest.has.logged;
    names = rest.has.names;
    has = has_beside wanted (running_in engine old rest.has.logged) rest.has.state old (beside old now) rest.from (map_in engine old) [] rest.has.has same;
  };
}

pub rest_beside : (wanted : Shape) (engine : FrameRunning) (old now : World) → FrameAtRest wanted engine old → SameDisk old now → FrameAtRest wanted engine now
rest_beside wanted engine old now rest same =
    subst (λ (w : World). FrameAtRest wanted engine w) (is_beside old now same)
    (done_beside wanted engine old now rest (record { log = refl; pages = refl; starts = refl; ends = refl }))

ready_here : (engine : FrameRunning) (old now : World) → IsReadyOver engine old → IsReadyOver engine (beside old now)
ready_here engine old now ready = record {
  ends = record { kept = ready.ends.kept; ends = ready.ends.ends };
  clean = record { kept = ready.clean.kept; read = ready.clean.read };
}

pub ready_beside : (engine : FrameRunning) (old now : World) → IsReadyOver engine old → SameDisk old now → IsReadyOver engine now
ready_beside engine old now ready same = subst (λ (w : World). IsReadyOver engine w) (is_beside old now same) (ready_here engine old now ready)

-- ---- what a crash leaves

-- a crash leaves its map
pub rest_keeps : (wanted : Shape) (engine : FrameRunning) (w : World) → FrameAtRest wanted engine w
    → CrashHoldsLines (engine.log.end.seg + 1) (number_of engine.ckpt.mark) wanted engine.store.shape (map_in engine w) [] w
rest_keeps wanted engine w rest =
    let store = running_in engine w rest.has.logged in
    between_crash wanted says_nothing rest.from (map_in engine w) [] [] store store rest.has.state w w [] rest.has.has tt rest.has.has (0, omega arith, refl)

-- where all lines of a store last, it is so
pub rest_of_last : (wanted : Shape) (engine : FrameRunning) (w : World) → AllLastIn wanted says_nothing engine w → FrameAtRest wanted engine w
rest_of_last wanted engine w last = record { from = last.low; has = last.lasts.done }

-- ---- an engine that may run a batch

pub same_both : (before mid now : FrameRunning) → IsSameEngine before mid → IsSameEngine mid now → IsSameEngine before now
same_both before mid now first second = record {
  shape = second.shape ∙ first.shape;
  region = second.region ∙ first.region;
  locks = second.locks ∙ first.locks;
}

pub same_engine : (engine : FrameRunning) → IsSameEngine engine engine
same_engine engine = record { shape = refl; region = refl; locks = refl }

-- where it is open still, it may run another one
pub serving_still : (config : Config) (before now : FrameRunning) → IsServing config before → IsSameEngine before now → now.store.is_open ≡ true → IsServing config now
serving_still config before now serving same is_open = record {
  is_open = is_open;
  frames = serving.frames ∙ sym (λ i. length ((same.locks i).ranges));
}
