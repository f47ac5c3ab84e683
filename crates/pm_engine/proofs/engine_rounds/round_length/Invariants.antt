use Rattle.std.proofs.Common.{◌≡◌, ℕ, ◌<◌, Some, false}
use Rattle.std.specs.Prelude.{slice_get}
use Rattle.pm_model.specs.declared.line.Line.{Line}
use Rattle.pm_engine.specs.FrameBatches.{is_alone}
use Rattle.pm_engine.proofs.engine_rounds.round_length.Given as goal

-- the lines that were passed may be done in one round
abbrev pub invariant-each : goal.invariant-each
invariant-each l = record {
  lines : (i : ℕ) (line : Line) → i < l.at → slice_get l.lines i ≡ Some line → is_alone line ≡ false;
}
