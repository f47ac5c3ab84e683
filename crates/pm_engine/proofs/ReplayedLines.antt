-- A put and a removal, applied again as lines.
use Rattle.std.proofs.Common.{◌≡◌, ℕ, Bool, true, false, List, Some, None, sym, ap, ◌∙◌}
use Rattle.std.specs.Prelude.{◌==◌, if◌then◌else◌}
use Rattle.pm_types.specs.declared.shape.Shape.{Shape}
use Rattle.pm_model.specs.declared.line.Cmd.TheVariants.{Put, Remove}
use Rattle.pm_model.specs.declared.line.Line.{Line}
use Rattle.pm_model.specs.declared.line.Line.TheVariants.{Good}
use Rattle.pm_model.specs.Eval.{Pairs, after, is_accepted}
use Rattle.pm_records.specs.declared.limits.TheConstants.{PUT}
use Rattle.pm_records.specs.Records.{Logical}
use Rattle.pm_core.specs.Replays.{put_replayed}
use Rattle.pm_engine.specs.Replays.{Replays}
use Rattle.pm_engine.proofs.Applying.{ReplaysPut}
use Rattle.pm_engine.specs.Replays.{line_in}
use Rattle.pm_engine.proofs.Applying.{puts_apply}

-- a put
pub put_applies : (can : Bool) (op cache : ℕ) (key value : List ℕ) (shape : Shape) (before now : Pairs) (line : Line) → op ≡ PUT → line ≡ line_in op cache key value → can ≡ is_accepted shape line before → now ≡ after shape line before
    → Replays can shape (Some (Logical op cache key value)) before now
put_applies can op cache key value shape before now line is line_is accepted next =
    let put : line ≡ Good (Put cache key value) = line_is ∙ ap (λ n. let l : Line = if n == PUT then Good (Put cache key value) else Good (Remove cache key) in l) is in
    puts_apply can shape op cache key value before now is (by can (accepted ∙ ap (λ l. is_accepted shape l before) put) (next ∙ ap (λ l. after shape l before) put))
  where
    by : (b : Bool) → b ≡ is_accepted shape (Good (Put cache key value)) before → now ≡ after shape (Good (Put cache key value)) before → ReplaysPut b shape (Good (Put cache key value)) before now
    by true holds_so is = ap (λ (c : Bool). if c then Some (after shape (Good (Put cache key value)) before) else None) (sym holds_so) ∙ ap (λ (p : Pairs). Some p) (sym is)
    by false fails_so is = ap (λ (c : Bool). if c then Some (after shape (Good (Put cache key value)) before) else None) (sym fails_so)

-- a remove
pub remove_applies : (op cache : ℕ) (key value : List ℕ) (shape : Shape) (before now : Pairs) (line : Line) → (op == PUT) ≡ false → line ≡ line_in op cache key value → now ≡ after shape line before
    → Replays true shape (Some (Logical op cache key value)) before now
remove_applies op cache key value shape before now line fails_so line_is next =
    let remove : line ≡ Good (Remove cache key) = line_is ∙ ap (λ (b : Bool). if b then Good (Put cache key value) else Good (Remove cache key)) fails_so in
    ap (λ (b : Bool). if b then put_replayed shape (Good (Put cache key value)) before else Some (after shape (Good (Remove cache key)) before)) fails_so
    ∙ ap (λ (p : Pairs). Some p) (sym (next ∙ ap (λ l. after shape l before) remove))
