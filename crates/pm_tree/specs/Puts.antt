-- What a put makes of a tree, without a byte.
use Rattle.std.specs.Prelude.{◌≡◌, ◌≢◌, ℕ, ◌+◌, ◌/◌, ◌<◌, ◌≤◌, List, [], ◌∷◌, None, Some}
use Rattle.std.specs.List.{flat_map}
use Rattle.pm_btpage.specs.declared.layout.TheConstants.{LEAF_KIND, INNER_KIND}
use Rattle.pm_btpage.specs.IndexPages.{capacity_of}
use Rattle.pm_pages.specs.Chains.{times}
use Rattle.pm_pages.specs.Rows.{Partition}
use Rattle.pm_tree.specs.Maps.{get_in, put_in}
use Rattle.pm_pages.specs.SpareChains.{MovesSpare}
use Rattle.pm_tree.specs.declared.put.Put.{Put}
use Rattle.pm_tree.specs.declared.put.Put.TheVariants.{Kept, Split}
use Rattle.pm_tree.specs.Nodes.{Node, nodes_in, Entry, items_under, leaves_under, nodes_under}
use Rattle.pm_tree.specs.Nodes.{AreBounded, Each, IsTreeIn, first_or, AreLinkedTo}

-- what stands below each entry, joined
abbrev pub flat : {A : Type 0} → (ℕ → List A) → List Entry → List A
flat f es = flat_map (λ (e : Entry). f e.child) es

-- the page is of no tree
pub record IsSpare (node : Node) : Type 0 where
  pub leaf : node.kind ≢ LEAF_KIND
  pub inner : node.kind ≢ INNER_KIND

-- a tree at page `at`, and those that follow it
abbrev pub row : ℕ → List Entry → List Entry
row at rest = record { from = None; child = at } ∷ rest

-- A put into a tree of so many levels at page `at`: it became a row of trees, whose items are those
-- of the put. The pages `made` are new in it. No page of another tree changed.
pub record PutsTree (old new : ℕ → Node) (made : List ℕ) (levels least at : ℕ) (key : List ℕ) (word : ℕ)
    (rest : List Entry) : Type 0 where
  pub trees : Each (IsTreeIn new levels least) (row at rest)
  pub bounds : AreBounded (items_under new levels) (row at rest) None
  pub items : flat (items_under new levels) (row at rest) ≡ put_in (items_under old levels at) key word
  pub linked : (after : ℕ) → AreLinkedTo old (leaves_under old levels at) after
      → AreLinkedTo new (flat (leaves_under new levels) (row at rest)) after
  pub first : (after : ℕ)
      → first_or (flat (leaves_under new levels) (row at rest)) after
      ≡ first_or (leaves_under old levels at) after
  pub nodes : (j : ℕ) → times j (flat (nodes_under new levels) (row at rest))
      ≡ times j (nodes_under old levels at) + times j made
  pub others : (j : ℕ) → (IsSpare (old j) → ⊥) → times j (nodes_under old levels at) ≡ 0 → new j ≡ old j
  pub spare : (j : ℕ) → 1 ≤ times j made → IsSpare (old j)
  pub once : (j : ℕ) → times j made ≤ 1

-- half of what a page of this size has room for, rounded down
abbrev pub half_of : ℕ → ℕ
half_of size = capacity_of size / 2

-- so many items are half of what a page of this size has room for, rounded up
pub record IsMiddle (size cut : ℕ) : Type 0 where
  pub low : capacity_of size ≤ cut + cut
  pub high : cut + cut ≤ capacity_of size + 1
  pub some : 1 ≤ cut

-- The same, over the pages of a partition: besides the tree's pages and the new ones no page changed but the
-- meta page, and the new ones were taken from the reuse chain or follow the last page.
pub record PutsIn (old new : Partition) (levels least at : ℕ) (key : List ℕ) (word : ℕ)
    (rest : List Entry) : Type 0 where
  pub made : List ℕ
  pub puts : PutsTree (nodes_in old) (nodes_in new) made levels least at key word rest
  pub others : (j : ℕ) → j ≢ 0 → times j (nodes_under (nodes_in old) levels at) ≡ 0 → times j made ≡ 0
      → new j ≡ old j
  pub moves : MovesSpare old new made []

-- what is said of a put's answer: the tree has the key's item, or a page to its right took a half,
-- from a key on
abbrev pub PutsAs : Partition → Partition → ℕ → ℕ → ℕ → ℕ → List ℕ → ℕ → Put → Type 0
PutsAs old new half levels least at key word (Kept was) =
    (was ≡ get_in (items_under (nodes_in old) levels at) key) × PutsIn old new levels least at key word []
PutsAs old new half levels least at key word (Split part) =
    (get_in (items_under (nodes_in old) levels at) key ≡ None) × (part.levels ≡ levels)
    × PutsIn old new levels half at key word (record { from = Some part.from; child = part.right } ∷ [])

-- a put at page `at` is that of the tree there, if it has fewer levels than so many and each page once
pub record PutsFor (old new : Partition) (half limit at : ℕ) (key : List ℕ) (word : ℕ)
    (put : Put) : Type 0 where
  pub each : (levels : ℕ) → levels < limit → (least : ℕ) → IsTreeIn (nodes_in old) levels least at
      → ((j : ℕ) → times j (nodes_under (nodes_in old) levels at) ≤ 1)
      → PutsAs old new half levels least at key word put

-- the page has the tree still
abbrev pub IsKept : Put → Type 0
IsKept (Kept was) = Unit {0}
IsKept (Split part) = ⊥

-- a page that was divided has fewer levels than so many, and the new page isn't the first
abbrev pub HasLevels : ℕ → Put → Type 0
HasLevels limit (Kept was) = Unit {0}
HasLevels limit (Split part) = (part.levels < limit) × (1 ≤ part.right)
