-- Two partitions with the same numbers in the meta page and the same pages below the page count have the same rows, trees and
-- chains.
use Rattle.std.proofs.Common.{◌≡◌, ℕ, zero, suc, ◌+◌, ◌/◌, Bool, List, [], ◌∷◌, ◌++◌, ◌==◌, length, refl, sym, ap, subst, ◌∙◌}
use Rattle.std.specs.Prelude.{All, nat_le, if◌then◌else◌}
use Rattle.std.specs.List.{flat_map, range_with_len}
use Rattle.pm_types.specs.Ids.{page_id}
use Rattle.pm_btpage.specs.IndexPages.{items_of, index_of, capacity_of}
use Rattle.pm_btpage.specs.declared.layout.TheConstants.{LEAF_KIND, INNER_KIND}
use Rattle.pm_meta.specs.declared.layout.TheConstants.{BUCKETS, REUSE_KIND}
use Rattle.pm_types.specs.declared.limits.TheConstants.{CACHES}
use Rattle.pm_meta.specs.declared.slots.MetaSlot.{MetaSlot}
use Rattle.pm_meta.specs.declared.slots.MetaSlot.TheVariants.{Root, Bucket, Reuse, Pages}
use Rattle.pm_pages.specs.declared.limits.TheConstants.{LEVELS_MAX}
use Rattle.pm_pages.specs.declared.row.Row.{Row}
use Rattle.pm_pages.specs.Rows.{Partition, page_at, number_in, page_count, kind_of, rows_on, rows_of}
use Rattle.pm_pages.specs.Chains.{IsExactly, walk, next_of, before_of, reuse_next_of, bucket_chain, reuse_chain, is_in_bucket, NamesBefore, HasChain, HasReuseChain}
use Rattle.pm_pages.specs.Trees.{children_of, child_of, levels_from, leaves_below, items_below, nodes_below, IsNode, KeepsBounds, IsTree, AreLinked, root_of, levels_of, nodes_of, ListsRows, IsTreeOf, HasTree}
use Rattle.pm_pages.specs.WellFormed.{placed_pages, EachOnce}

-- the numbers and the pages are the same
pub record SamePages (was now : Partition) : Type 0 where
  pub numbers : (slot : MetaSlot) → number_in was slot ≡ number_in now slot
  pub pages : (i : ℕ) → page_at was i ≡ page_at now i

pub back : (was now : Partition) → SamePages was now → SamePages now was
back was now same = record { numbers = λ slot. sym (same.numbers slot); pages = λ i. sym (same.pages i) }

module _ (was now : Partition) (same : SamePages was now) where
  pub rows_same : (part : ℕ) → rows_of part was ≡ rows_of part now
  rows_same part = λ j. flat_map (λ i. rows_on (page_id part i) (same.pages i j)) (range_with_len 0 (same.numbers Pages j))

  leaves_same : (levels at : ℕ) → leaves_below was levels at ≡ leaves_below now levels at
  leaves_same zero at = refl
  leaves_same (suc levels) at = λ j. flat_map (λ i. leaves_same levels i j) (children_of (same.pages at j))

  nodes_same : (levels at : ℕ) → nodes_below was levels at ≡ nodes_below now levels at
  nodes_same zero at = refl
  nodes_same (suc levels) at = λ j. at ∷ flat_map (λ i. nodes_same levels i j) (children_of (same.pages at j))

  items_same : (levels at : ℕ) → items_below was levels at ≡ items_below now levels at
  items_same levels at = λ j. flat_map (λ i. items_of (same.pages i j)) (leaves_same levels at j)

  levels_same : (limit at : ℕ) → levels_from was limit at ≡ levels_from now limit at
  unfolding levels_from
  levels_same zero at = refl
  levels_same (suc limit) at = λ j. if kind_of (same.pages at j) == INNER_KIND then 1 + levels_same limit (child_of (same.pages at j) 0) j else 0

  tree_same : (levels least at : ℕ) → IsTree was levels least at ≡ IsTree now levels least at
  tree_same zero least at = λ j. IsNode LEAF_KIND least (same.pages at j)
  tree_same (suc levels) least at = λ j.
      IsNode INNER_KIND least (same.pages at j)
      × All (λ i. tree_same levels (capacity_of (length (same.pages at j)) / 2) i j) (children_of (same.pages at j))
      × KeepsBounds (items_of (same.pages at j)) (λ i. items_same levels (child_of (same.pages at j) i) j)

  pub tree_of : (levels least at : ℕ) → IsTree was levels least at → IsTree now levels least at
  tree_of levels least at tree = subst (λ (X : Type 0). X) (tree_same levels least at) tree

  linked_of : (leaves : List ℕ) → AreLinked was leaves → AreLinked now leaves
  linked_of [] linked = tt
  linked_of (leaf ∷ leaves) linked = (sym (ap (λ (page : List ℕ). (index_of page).link) (same.pages leaf)) ∙ linked.0, linked_of leaves linked.1)

  root_same : (cache : ℕ) → root_of was cache ≡ root_of now cache
  root_same cache = same.numbers (Root cache)

  levels_of_same : (cache : ℕ) → levels_of was cache ≡ levels_of now cache
  levels_of_same cache = λ j. levels_same LEVELS_MAX (root_same cache j) j

  nodes_of_same : (cache : ℕ) → nodes_of was cache ≡ nodes_of now cache
  nodes_of_same cache = λ j. if root_same cache j == 0 then [] else nodes_same (levels_of_same cache j) (root_same cache j) j

  tree_of_cache : (rows : List Row) (cache levels root : ℕ) → IsTreeOf was rows cache levels root → IsTreeOf now rows cache levels root
  tree_of_cache rows cache levels root is = record {
    few = is.few;
    tree = tree_of levels 1 root is.tree;
    lists = subst (ListsRows rows cache) (items_same levels root) is.lists;
    linked = subst (AreLinked now) (leaves_same levels root) (linked_of (leaves_below was levels root) is.linked);
  }

  pub has_tree : (part cache : ℕ) → HasTree was (rows_of part was) cache → HasTree now (rows_of part now) cache
  has_tree part cache has = subst (λ rows. HasTree now rows cache) (rows_same part) (record {
    none = λ none. sym (root_same cache) ∙ has.none none;
    some = λ some. subst (λ (p : ℕ × ℕ). IsTreeOf now (rows_of part was) cache p.0 p.1) {x = (levels_of was cache, root_of was cache)} (λ j. (levels_of_same cache j, root_same cache j))
        (tree_of_cache (rows_of part was) cache (levels_of was cache) (root_of was cache) (has.some some));
  })

  walk_same : (next next' : ℕ → ℕ) → ((i : ℕ) → next i ≡ next' i) → (turns at : ℕ) → walk next turns at ≡ walk next' turns at
  walk_same next next' each turns at = λ j. walk (λ i. each i j) turns at

  bucket_same : (bucket : ℕ) → bucket_chain was bucket ≡ bucket_chain now bucket
  bucket_same bucket = λ j. walk (λ i. next_of (same.pages i j)) (same.numbers Pages j) (same.numbers (Bucket bucket) j)

  reuse_same : reuse_chain was ≡ reuse_chain now
  reuse_same = λ j. walk (λ i. reuse_next_of (same.pages i j)) (same.numbers Pages j) (same.numbers Reuse j)

  pub has_chain : (bucket : ℕ) → HasChain was bucket → HasChain now bucket
  has_chain bucket has = record {
    exact = subst (λ (p : ℕ × (ℕ → Bool) × List ℕ). IsExactly p.0 p.1 p.2) {x = (page_count was, (λ i. is_in_bucket bucket (page_at was i)), bucket_chain was bucket)}
        (λ j. (same.numbers Pages j, (λ i. is_in_bucket bucket (same.pages i j)), bucket_same bucket j)) has.exact;
    before = subst (λ (p : (ℕ → ℕ) × List ℕ). NamesBefore p.0 0 p.1) {x = ((λ i. before_of (page_at was i)), bucket_chain was bucket)}
        (λ j. ((λ i. before_of (same.pages i j)), bucket_same bucket j)) has.before;
  }

  pub has_reuse_chain : HasReuseChain was → HasReuseChain now
  has_reuse_chain has = subst (λ (p : (ℕ → ℕ) × List ℕ). All (λ i. p.0 i ≡ REUSE_KIND) p.1) {x = ((λ i. kind_of (page_at was i)), reuse_chain was)}
      (λ j. ((λ i. kind_of (same.pages i j)), reuse_same j)) has

  placed_same : placed_pages was ≡ placed_pages now
  unfolding placed_pages
  placed_same = λ j. flat_map (λ cache. nodes_of_same cache j) (range_with_len 0 CACHES) ++ (flat_map (λ bucket. bucket_same bucket j) (range_with_len 0 BUCKETS) ++ reuse_same j)

  pub each_once : EachOnce was → EachOnce now
  each_once once = subst (λ (p : ℕ × List ℕ). IsExactly p.0 (λ i. nat_le 1 i) p.1) {x = (page_count was, placed_pages was)} (λ j. (same.numbers Pages j, placed_same j)) once
