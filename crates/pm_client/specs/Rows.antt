-- A row that a program puts.
use Rattle.std.specs.Prelude.{◌≡◌, ℕ, List, Some, Result, Ok, Err}
use Rattle.std.specs.FinMap as map
use Rattle.pm_types.specs.declared.shape.Shape.{Shape}
use Rattle.pm_types.specs.declared.fault.StoreFault.{StoreFault}
use Rattle.pm_disk.specs.Worlds.{World}
use Rattle.pm_model.specs.declared.line.Cmd.TheVariants.{Put}
use Rattle.pm_model.specs.declared.line.Line.{Line}
use Rattle.pm_model.specs.declared.line.Line.TheVariants.{Good}
use Rattle.pm_model.specs.Eval.{Pairs, cache_key}
use Rattle.pm_engine.specs.Engines.{FrameRunning, HasLastingLinesIn, map_in}

-- the line that puts this value at this key of a cache
abbrev pub put_line : ℕ → List ℕ → List ℕ → Line
put_line cache key value = Good (Put cache key value)

-- the engine's map has this value at this key of a cache
abbrev pub HasRow : ℕ → List ℕ → List ℕ → FrameRunning → World → Type 0
HasRow cache key value engine world = map.get (map_in engine world) (cache_key cache key) ≡ Some value

-- over this disk some engine's store has done these lines since it had this map, and all of them last: whatever a crash
-- leaves now holds the map after them
pub record AllLast (wanted : Shape) (told : List ℕ → ℕ) (start : Pairs) (lines : List Line) (world : World)
    : Type 0 where
  pub from : ℕ
  pub engine : FrameRunning
  pub lasts : HasLastingLinesIn wanted told from start lines engine world

-- whether a call succeeded, whatever it answered
abbrev pub without_answer : {T : Type 0} → Result T StoreFault → Result (Unit {0}) StoreFault
without_answer (Ok answer) = Ok tt
without_answer (Err fault) = Err fault
