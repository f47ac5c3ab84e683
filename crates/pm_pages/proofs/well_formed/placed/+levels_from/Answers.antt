use Rattle.std.proofs.Common.{◌≡◌, ℕ, ◌+◌, ◌-◌, Bool, false, List, sym, ap, ◌∙◌, inl, inr, arith}
use Rattle.std.specs.Prelude.{IsTrue}
use Rattle.pm_pages.specs.PageLists.{pages_in}
use Rattle.pm_pages.specs.Rows.{kind_of}
use Rattle.pm_pages.specs.Trees.{child_of, levels_from}
use Rattle.pm_pages.proofs.BelowTrees.{levels-none, levels-inner}
use Rattle.pm_pages.proofs.well_formed.placed.+levels_from.Goals as goal
use Rattle.pm_pages.proofs.well_formed.placed.+levels_from.Goals.{then-limit-eq0-via-then-limit-eq0, then-limit-eq0-via-else-limit-eq0+then-not-is_of}

not_true : (b : Bool) → b ≡ false → IsTrue b → ⊥
not_true b is_false is_true = absurd (cc)

pub returns-then-limit-eq0-clause-levels : goal.returns-then-limit-eq0-clause-levels
returns-then-limit-eq0-clause-levels t c = sym (levels-none (pages_in c.args.pages.now) c.args.limit c.args.at (elim c.then-limit-eq0.branch [
  | then-limit-eq0-via-then-limit-eq0 w ↦ inl w.if-limit-eq0.true
  | then-limit-eq0-via-else-limit-eq0+then-not-is_of w ↦ inr (λ is. not_true w.is_of.result w.if-not-is_of.true (w.is_of.ensures.1 (ap kind_of c.page-root.ensures.bytes ∙ is)))
]))

pub returns-clause-levels : goal.returns-clause-levels
returns-clause-levels t c =
    let pages = pages_in c.args.pages.now in
    let is = ap kind_of (sym c.page-root.ensures.bytes) ∙ c.is_of.ensures.0 c.if-not-is_of.false in
    let child = c.child.ensures ∙ ap (λ (page : List ℕ). child_of page 0) c.page-root.ensures.bytes in
    ap (λ n. 1 + n) (c.levels_from.ensures.levels ∙ ap (levels_from pages (c.args.limit - 1)) child)
    ∙ sym (levels-inner pages c.args.limit c.args.at (omega (arith, c.if-limit-eq0.false)) is)
