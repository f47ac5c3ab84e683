-- What a removal makes of a tree.
use Rattle.std.specs.Prelude.{◌≡◌, ◌≢◌, ℕ, ◌+◌, ◌-◌, ◌<◌, ◌≤◌, List, None, Some}
use Rattle.pm_pages.specs.Chains.{times}
use Rattle.pm_pages.specs.Rows.{Partition}
use Rattle.pm_tree.specs.Maps.{get_in}
use Rattle.pm_tree.specs.Nodes.{Node, nodes_in, items_under, leaves_under, nodes_under, IsTreeIn}
use Rattle.pm_tree.specs.Nodes.{first_or, AreLinkedTo}
use Rattle.pm_tree.specs.Puts.{IsSpare}
use Rattle.pm_tree_del.specs.declared.remove.Removal.{Removal}
use Rattle.pm_tree_del.specs.declared.remove.Removal.TheVariants.{Absent, Kept, Small}
use Rattle.pm_tree_del.specs.Maps.{remove_in}
use Rattle.pm_tree_del.specs.Given.{GivesBack}

-- A removal from a tree of so many levels at page `at`: it has the items without that of the key. The pages
-- `given` are in it no more. No page of another tree changed.
pub record RemovesTree (old new : ℕ → Node) (given : List ℕ) (levels least at : ℕ) (key : List ℕ) : Type 0 where
  pub tree : IsTreeIn new levels least at
  pub items : items_under new levels at ≡ remove_in (items_under old levels at) key
  pub linked : (after : ℕ) → AreLinkedTo old (leaves_under old levels at) after
      → AreLinkedTo new (leaves_under new levels at) after
  pub first : (after : ℕ) → first_or (leaves_under new levels at) after
      ≡ first_or (leaves_under old levels at) after
  pub nodes : (j : ℕ) → times j (nodes_under new levels at) + times j given
      ≡ times j (nodes_under old levels at)
  pub others : (j : ℕ) → (IsSpare (old j) → ⊥) → times j (nodes_under old levels at) ≡ 0 → new j ≡ old j

-- The same, over the pages of a partition: besides the tree's pages no page changed but the meta page, and the
-- pages `given` stand on the reuse chain now.
pub record RemovesIn (old new : Partition) (levels least at : ℕ) (key : List ℕ) : Type 0 where
  pub given : List ℕ
  pub removes : RemovesTree (nodes_in old) (nodes_in new) given levels least at key
  pub others : (j : ℕ) → j ≢ 0 → times j (nodes_under (nodes_in old) levels at) ≡ 0 → new j ≡ old j
  pub gives : GivesBack old new given

-- what is said of a removal's answer: the key wasn't there; or it had this word, and the tree has its item no
-- more, with as many items on its page as it has to have, or one less
abbrev pub RemovesAs : Partition → Partition → ℕ → ℕ → ℕ → List ℕ → Removal → Type 0
RemovesAs old new levels least at key Absent =
    (get_in (items_under (nodes_in old) levels at) key ≡ None) × ((j : ℕ) → new j ≡ old j)
RemovesAs old new levels least at key (Kept was) =
    (get_in (items_under (nodes_in old) levels at) key ≡ Some was) × RemovesIn old new levels least at key
RemovesAs old new levels least at key (Small was) =
    (get_in (items_under (nodes_in old) levels at) key ≡ Some was) × RemovesIn old new levels (least - 1) at key

-- a removal at page `at` is that of the tree there, if it has fewer levels than so many, each page once, and
-- needs half of what its page has room for at most
pub record RemovesFor (old new : Partition) (half limit at : ℕ) (key : List ℕ) (removal : Removal) :
    Type 0 where
  pub each : (levels : ℕ) → levels < limit → (least : ℕ) → least ≤ half
      → IsTreeIn (nodes_in old) levels least at
      → ((j : ℕ) → times j (nodes_under (nodes_in old) levels at) ≤ 1)
      → RemovesAs old new levels least at key removal
