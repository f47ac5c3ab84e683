-- What a batch of lines asks for, and which faults its calls have.
use Rattle.std.specs.Prelude.{◌+◌, ℕ, List, [], ◌∷◌, Bool, true, false, if◌then◌else◌, Result, Ok, Err}
use Rattle.pm_types.specs.declared.fault.StoreFault.{StoreFault}
use Rattle.pm_types.specs.declared.fault.StoreFault.TheVariants.{Failed, Memory, BadPage, BadRecord}
use Rattle.pm_model.specs.declared.line.Cmd.TheVariants.{Put, Get, Remove, Scan, Checkpoint}
use Rattle.pm_model.specs.declared.line.Line.{Line}
use Rattle.pm_model.specs.declared.line.Line.TheVariants.{Good, Bad, Long}
pub use Rattle.pm_redo.specs.Faults.{IsPlainFault, HasPlainFault}

-- the call succeeded, or memory ran out: the engine is open still
abbrev pub StaysOpen : Result (Unit {0}) StoreFault → Type 0
StaysOpen (Ok value) = Unit {0}
StaysOpen (Err (Memory lack)) = Unit {0}
StaysOpen (Err Failed) = ⊥
StaysOpen (Err (BadPage page)) = ⊥
StaysOpen (Err (BadRecord place)) = ⊥

-- whether a line asks for a checkpoint
abbrev pub is_checkpoint : Line → Bool
is_checkpoint (Good (Put cache key value)) = false
is_checkpoint (Good (Get cache key)) = false
is_checkpoint (Good (Remove cache key)) = false
is_checkpoint (Good (Scan cache)) = false
is_checkpoint (Good Checkpoint) = true
is_checkpoint Bad = false
is_checkpoint Long = false

-- how many of these lines ask for a checkpoint
abbrev pub checkpoints_in : List Line → ℕ
checkpoints_in [] = 0
checkpoints_in (line ∷ lines) = (if is_checkpoint line then 1 else 0) + checkpoints_in lines

-- whether the last of these lines asks for a checkpoint; without a line, whether one was asked for last before
abbrev pub asked_last : Bool → List Line → Bool
asked_last was [] = was
asked_last was (line ∷ lines) = asked_last (is_checkpoint line) lines
