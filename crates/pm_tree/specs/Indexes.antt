-- The tree of a cache as a whole.
use Rattle.std.specs.Prelude.{◌≡◌, ◌≢◌, ℕ, zero, suc, ◌<◌, ◌≤◌, List, [], Option}
use Rattle.std.specs.Option.{option_map}
use Rattle.pm_types.specs.declared.page_id.Link.{Link}
use Rattle.pm_btpage.specs.IndexPages.{Item}
use Rattle.pm_pages.specs.declared.limits.TheConstants.{LEVELS_MAX}
use Rattle.pm_pages.specs.Rows.{Partition}
use Rattle.pm_pages.specs.Chains.{times}
use Rattle.pm_pages.specs.Trees.{IsTree, AreLinked, leaves_below, nodes_below, items_below}
use Rattle.pm_tree.specs.Maps.{get_in}

-- a tree of pages at a root, with so many levels of inner pages: its pages, each once, and its items
pub record IsTreeAt (pages : Partition) (root levels : ℕ) (nodes : List ℕ) (items : List Item) : Type 0 where
  pub some : root ≢ 0
  pub few : levels < LEVELS_MAX
  pub tree : IsTree pages levels 1 root
  pub linked : AreLinked pages (leaves_below pages levels root)
  pub nodes_are : nodes ≡ nodes_below pages levels root
  pub items_are : items ≡ items_below pages levels root
  pub once : (i : ℕ) → times i nodes ≤ 1

-- the index of a cache, of so many levels of pages: a root of 0 is none
abbrev pub IsIndex : Partition → ℕ → ℕ → List ℕ → List Item → Type 0
IsIndex pages root zero nodes items = (root ≡ 0) × (nodes ≡ []) × (items ≡ [])
IsIndex pages root (suc levels) nodes items = IsTreeAt pages root levels nodes items

-- a word as the name of a row
abbrev pub as_link : ℕ → Link
as_link word = record { 0 = word }

-- the link of a key, if it is there
abbrev pub link_in : List Item → List ℕ → Option Link
link_in items key = option_map as_link (get_in items key)

-- a tree of fewer levels than this says at page `at` that the key has this word
pub record AnswersFrom (pages : Partition) (key : List ℕ) (limit at : ℕ) (word : Option ℕ) : Type 0 where
  pub levels : ℕ
  pub few : levels < limit
  pub least : ℕ
  pub tree : IsTree pages levels least at
  pub is : get_in (items_below pages levels at) key ≡ word
