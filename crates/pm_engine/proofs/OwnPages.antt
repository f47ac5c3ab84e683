-- A command that is applied again changes no pages but those of its key's partition.
use Rattle.std.proofs.Common.{◌≡◌, inl, inr, ℕ, List, Bool, true, false, sym, ap, subst, ◌∙◌}
use Rattle.std.specs.Prelude.{IsSome, IsTrue, ◌==◌, if◌then◌else◌}
use Rattle.std.proofs.lemmas.Bool.{cases_eq, false≢true}
use Rattle.pm_types.specs.declared.shape.Shape.{Shape}
use Rattle.pm_model.specs.declared.line.Cmd.{Cmd}
use Rattle.pm_model.specs.declared.line.Cmd.TheVariants.{Put, Get, Remove, Scan, Checkpoint}
use Rattle.pm_model.specs.declared.line.Line.TheVariants.{Good}
use Rattle.pm_model.specs.Orders.{part_of_line}
use Rattle.pm_model.specs.Partitions.{part_of}
use Rattle.pm_records.specs.declared.limits.TheConstants.{PUT}
use Rattle.pm_core.specs.BasePages.{Partitions}
use Rattle.pm_engine.specs.MetPages.{AllowsLine, KeepsPagesBut}
use Rattle.pm_engine.specs.Records.{record_of_line}
use Rattle.pm_engine.specs.Replays.{line_in}
use Rattle.pm_engine.proofs.WholePages.{ChangesOwnPart}

module _ (may_change : ℕ → Bool) (shape : Shape) where
  -- the partition of a put or a remove
  allowed_part : (cmd : Cmd) → IsSome (record_of_line (Good cmd)) → AllowsLine may_change shape (Good cmd) → IsTrue (may_change (part_of_line shape (Good cmd)))
  allowed_part (Put cache key value) some allows = allows
  allowed_part (Get cache key) some allows = absurd (false≢true some)
  allowed_part (Remove cache key) some allows = allows
  allowed_part (Scan cache) some allows = absurd (false≢true some)
  allowed_part Checkpoint some allows = absurd (false≢true some)

  pub kept_but_own : (cmd : Cmd) (old new : Partitions) → IsSome (record_of_line (Good cmd)) → AllowsLine may_change shape (Good cmd) → ChangesOwnPart (Good cmd) shape old new → KeepsPagesBut may_change old new
  kept_but_own cmd old new some allows x part index bytes there = elim (cases_eq part (part_of_line shape (Good cmd))) [
    | inl is ↦ inr (subst (λ (n : ℕ). IsTrue (may_change n)) (sym is) (allowed_part cmd some allows))
    | inr other ↦ inl (x.elsewhere part index other ∙ there)
  ]

  -- the line of a logical record changes the partition of its key
  pub line_allowed : (op cache : ℕ) (key value : List ℕ) → IsTrue (may_change (part_of key shape.partitions)) → AllowsLine may_change shape (line_in op cache key value)
  line_allowed op cache key value changed = by (op == PUT)
    where
      by : (b : Bool) → AllowsLine may_change shape (if b then Good (Put cache key value) else Good (Remove cache key))
      by true = changed
      by false = changed

-- pages that are the same are kept
pub kept_equal : (may_change : ℕ → Bool) (old new : Partitions) → new ≡ old → KeepsPagesBut may_change old new
kept_equal may_change old new is part index bytes there = inl (ap (λ (pages : Partitions). pages part index) is ∙ there)
