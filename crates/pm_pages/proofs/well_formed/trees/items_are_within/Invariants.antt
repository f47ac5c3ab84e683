use Rattle.std.proofs.Common.{ℕ, ◌<◌}
use Rattle.pm_btpage.specs.IndexPages.{items_of, key_in}
use Rattle.pm_pages.specs.Trees.{IsKeyWithin}
use Rattle.pm_pages.proofs.well_formed.trees.items_are_within.Given as goal

-- the keys so far are within the bounds
abbrev pub invariant-items : goal.invariant-items
invariant-items l = (k : ℕ) → k < l.k → IsKeyWithin (items_of l.inner) l.i (key_in (items_of l.leaf) k)
