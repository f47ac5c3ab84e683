use Rattle.std.proofs.Common.{◌≡◌, List, true, false, sym, subst, ◌∙◌}
use Rattle.std.specs.Prelude.{All, Any}
use Rattle.pm_pages.specs.declared.row.Row.{Row}
use Rattle.pm_pages.specs.TreeItems.{as_item}
use Rattle.pm_pages.specs.Trees.{IsItemOf}
use Rattle.pm_pages.proofs.TreeLists.{lists, all_of, only_of}
use Rattle.pm_pages.proofs.well_formed.listing.lists_rows.Goals as goal
use Rattle.pm_pages.proofs.well_formed.listing.lists_rows.Goals.{then-rise, else-rise}

pub returns-then-rows_are_listed : goal.returns-then-rows_are_listed
returns-then-rows_are_listed c = elim c.if-rise.branch [
  | then-rise w ↦ (
    λ h. lists c.args.rows.now c.args.cache c.args.items.now (c.rise.ensures.0 w.if-rise.true) (w.rows_are_listed.ensures.0 (sym w.value-is ∙ c.if-rows_are_listed.true)) (subst (λ (rows : List Row). All (λ item. Any (IsItemOf c.args.cache (as_item item)) rows) c.args.items.now) (sym c.requires.rows) (c.items_are_of_rows.ensures.0 h)),
    λ l. c.items_are_of_rows.ensures.1 (subst (λ (rows : List Row). All (λ item. Any (IsItemOf c.args.cache (as_item item)) rows) c.args.items.now) c.requires.rows (only_of c.args.rows.now c.args.cache c.args.items.now l)),
  )
  | else-rise w ↦ (let no : true ≡ false = sym c.if-rows_are_listed.true ∙ w.value-is ∙ w.if-rise.false in absurd (cc no))
]

pub returns-else-rows_are_listed : goal.returns-else-rows_are_listed
returns-else-rows_are_listed c = (
  λ h. (let no : true ≡ false = sym h ∙ c.if-rows_are_listed.false in absurd (cc no)),
  λ l. elim c.if-rise.branch [
    | then-rise w ↦ w.value-is ∙ w.rows_are_listed.ensures.1 (all_of c.args.rows.now c.args.cache c.args.items.now l)
    | else-rise w ↦ w.value-is ∙ c.rise.ensures.1 l.rising
  ],
)
