-- A put of the log is replayed as a put.
use Rattle.std.proofs.Common.{◌≡◌, ℕ, Bool, true, false, List, Option, Some, None, ap, ◌∙◌}
use Rattle.std.specs.Prelude.{◌==◌, if◌then◌else◌}
use Rattle.pm_types.specs.declared.shape.Shape.{Shape}
use Rattle.pm_model.specs.declared.line.Line.{Line}
use Rattle.pm_records.specs.declared.limits.TheConstants.{PUT}
use Rattle.pm_records.specs.Records.{Logical}
use Rattle.pm_model.specs.declared.line.Cmd.TheVariants.{Put, Remove}
use Rattle.pm_model.specs.declared.line.Line.TheVariants.{Good}
use Rattle.pm_model.specs.Eval.{Pairs, after}
use Rattle.pm_core.specs.Replays.{put_replayed, replayed}
use Rattle.pm_engine.specs.Replays.{Replays}

-- whether a put could be replayed, and the map that it leaves
abbrev pub ReplaysPut : Bool → Shape → Line → Pairs → Pairs → Type 0
ReplaysPut true shape line before now = put_replayed shape line before ≡ Some now
ReplaysPut false shape line before now = put_replayed shape line before ≡ None

applied_put : (shape : Shape) (op cache : ℕ) (key value : List ℕ) (pairs : Pairs) → op ≡ PUT → replayed shape (Some (Logical op cache key value)) pairs ≡ put_replayed shape (Good (Put cache key value)) pairs
applied_put shape op cache key value pairs is =
    ap (λ n. let o : Option Pairs = if n == PUT then put_replayed shape (Good (Put cache key value)) pairs else Some (after shape (Good (Remove cache key)) pairs) in o) is

pub puts_apply : (can : Bool) (shape : Shape) (op cache : ℕ) (key value : List ℕ) (before now : Pairs) → op ≡ PUT → ReplaysPut can shape (Good (Put cache key value)) before now
    → Replays can shape (Some (Logical op cache key value)) before now
puts_apply true shape op cache key value before now is puts = applied_put shape op cache key value before is ∙ puts
puts_apply false shape op cache key value before now is puts = applied_put shape op cache key value before is ∙ puts
