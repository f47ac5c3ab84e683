-- What a call over a batch of lines is given, and what it leaves.
use Rattle.std.specs.Prelude.{◌≡◌, ◌⊎◌, ℕ, ◌+◌, ◌^◌, ◌≤◌, ◌<◌, List, ◌++◌, length, Option, None, Some}
use Rattle.std.specs.List.{All}
use Rattle.pm_types.specs.declared.limits.TheConstants.{BATCH_LINES_MAX, CACHES}
use Rattle.pm_types.specs.declared.shape.Shape.{Shape}
use Rattle.pm_types.specs.declared.fault.StoreFault.{StoreFault}
use Rattle.pm_types.specs.declared.fault.StoreFault.TheVariants.{Failed, Memory, BadPage, BadRecord}
use Rattle.pm_model.specs.declared.line.Cmd.TheVariants.{Put, Get, Remove, Scan, Checkpoint}
use Rattle.pm_model.specs.declared.line.Line.{Line}
use Rattle.pm_model.specs.declared.line.Line.TheVariants.{Good, Bad, Long}
use Rattle.pm_model.specs.Eval.{Pairs}
use Rattle.pm_model.specs.ReplyLists.{ReplyList}

-- the line names no cache that isn't there
abbrev pub HasCache : Line → Type 0
HasCache (Good (Put cache key value)) = cache < CACHES
HasCache (Good (Get cache key)) = cache < CACHES
HasCache (Good (Remove cache key)) = cache < CACHES
HasCache (Good (Scan cache)) = cache < CACHES
HasCache (Good Checkpoint) = Unit {0}
HasCache Bad = Unit {0}
HasCache Long = Unit {0}

-- these lines, of which the first has this number, are a batch whose replies have room
pub record IsBatch (lines : List Line) (first : ℕ) (replies : ReplyList) : Type 0 where
  pub some : 1 ≤ length lines
  pub few : length lines ≤ BATCH_LINES_MAX
  pub numbers : first + length lines ≤ 2 ^ 32
  pub caches : All HasCache lines
  pub room : length lines ≤ replies.spare

-- the fault that is left by an answer: out of memory leaves none
abbrev pub fault_left : StoreFault → Option StoreFault
fault_left (Memory lack) = None
fault_left Failed = Some Failed
fault_left (BadPage page) = Some (BadPage page)
fault_left (BadRecord place) = Some (BadRecord place)

-- the lines that were run are as before, or have these more
abbrev pub MayHaveRun : List Line → List Line → List Line → Type 0
MayHaveRun lines old new = (new ≡ old) ⊎ (new ≡ old ++ lines)

-- a batcher over a plain map: the shape of its store, its map, and the lines that it has run
pub record PlainBatching : Type 0 where
  pub shape : Shape
  pub pairs : Pairs
  pub ran : List Line
