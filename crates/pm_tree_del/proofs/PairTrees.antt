-- Two trees that stand side by side, merged or sharing anew what they have.
use Rattle.std.proofs.Common.{◌≡◌, ℕ, zero, suc, ◌+◌, ◌<◌, ◌≤◌, List, [], ◌∷◌, ◌++◌, map, length, refl, sym, ap, subst, ◌∙◌, inl, inr, arith}
use Rattle.std.specs.Prelude.{Option, None, Some}
use Rattle.std.proofs.lemmas.List.{append-nil}
use Rattle.pm_btpage.specs.declared.layout.TheConstants.{LEAF_KIND, INNER_KIND}
use Rattle.pm_btpage.specs.IndexPages.{Item, key_in, IsBelow}
use Rattle.pm_pages.specs.Chains.{times}
use Rattle.pm_pages.specs.Trees.{index_in}
use Rattle.pm_tree.specs.Nodes.{Node, Entry, entry, entries, items_under, leaves_under, nodes_under, IsFrom, IsUpTo, AreBounded, Each, IsPlain, IsTreeIn, first_or, AreLinkedTo, Keys}
use Rattle.pm_tree.specs.Puts.{flat}
use Rattle.pm_tree.proofs.KeyOrder.{below_then, key_cases}
use Rattle.pm_tree.proofs.MapLists.{keys_joined, keys_left, keys_right, keys_weaker}
use Rattle.pm_tree.proofs.Seams.{flat_joined, each_left, each_right, each_joined}
use Rattle.pm_tree.proofs.RowPuts.{bounds_apart, bounds_joined, bounds_end}
use Rattle.pm_pages.proofs.ChainWalks.{times-append}
use Rattle.pm_tree.proofs.Frames.{flat_items_stay, flat_leaves_stay, flat_nodes_stay, bounds_stay, trees_stay, links_stay, flat_leaves_few}
use Rattle.pm_tree.proofs.NodePuts.{keys_any}
use Rattle.pm_tree.proofs.Ascents.{upto_all, from_all}
use Rattle.pm_tree_del.proofs.RowSwaps.{RowSwap}

-- two neighbours, and the key that parts them
abbrev pub two : Option (List ℕ) → ℕ → List ℕ → ℕ → List Entry
two from left s right = record { from = from; child = left } ∷ record { from = Some s; child = right } ∷ []

abbrev pub one : Option (List ℕ) → ℕ → List Entry
one from left = record { from = from; child = left } ∷ []

-- what became of two neighbours: the row R
pub record PairSwap (M L : ℕ → Node) (h half : ℕ) (from : Option (List ℕ)) (left : ℕ) (s : List ℕ) (right : ℕ) (R : List Entry) (end : Option (List ℕ)) (given : List ℕ) : Type 0 where
  pub trees : Each (IsTreeIn L h half) R
  pub swap : RowSwap M L h (two from left s right) R end given
  pub items : flat (items_under L h) R ≡ flat (items_under M h) (two from left s right)

-- keys of both lie where those of the one or the other do
from_low : (from : Option (List ℕ)) (s k : List ℕ) → IsFrom from s → IsFrom (Some s) k → IsFrom from k
from_low None s k low h = tt
from_low (Some f) s k low h = λ below. elim (key_cases s k) [
  | inl lt ↦ low (below_then s k f lt below)
  | inr r ↦ elim r [ inl e ↦ low (subst (λ z. IsBelow z f) (sym e) below) | inr gt ↦ h gt ]
]

upto_high : (end : Option (List ℕ)) (s k : List ℕ) → IsUpTo end s → IsUpTo (Some s) k → IsUpTo end k
upto_high None s k high h = tt
upto_high (Some f) s k high h = below_then k s f h high

-- the bounds of a pair, whatever its items are
module _ (f : ℕ → List Item) (from : Option (List ℕ)) (left : ℕ) (s : List ℕ) (right : ℕ) (end : Option (List ℕ)) (low : IsFrom from s) (high : IsUpTo end s) (b : AreBounded f (two from left s right) end) where
  pub all_from : Keys (IsFrom from) (f left ++ f right)
  all_from = keys_joined (IsFrom from) (f left) (f right) b.0 (keys_weaker (IsFrom (Some s)) (IsFrom from) (f right) (λ k h. from_low from s k low h) b.2.0)

  pub all_upto : Keys (IsUpTo end) (f left ++ f right)
  all_upto = keys_joined (IsUpTo end) (f left) (f right) (keys_weaker (IsUpTo (Some s)) (IsUpTo end) (f left) (λ k h. upto_high end s k high h) b.1) b.2.1

  merged_bounds : (f' : ℕ → List Item) → f' left ≡ f left ++ f right → AreBounded f' (one from left) end
  merged_bounds f' e = (subst (Keys (IsFrom from)) (sym e) all_from, subst (Keys (IsUpTo end)) (sym e) all_upto, tt)

  shared_bounds : (f' : ℕ → List Item) (s' : List ℕ) → f' left ++ f' right ≡ f left ++ f right → Keys (IsUpTo (Some s')) (f' left) → Keys (IsFrom (Some s')) (f' right) → AreBounded f' (two from left s' right) end
  shared_bounds f' s' e upto above = (
    keys_left (IsFrom from) (f' left) (f' right) (subst (Keys (IsFrom from)) (sym e) all_from),
    upto,
    (above, keys_right (IsUpTo end) (f' left) (f' right) (subst (Keys (IsUpTo end)) (sym e) all_upto), tt),
  )

flat_two : {A : Type 0} (f : ℕ → List A) (from : Option (List ℕ)) (left : ℕ) (s : List ℕ) (right : ℕ) → flat f (two from left s right) ≡ f left ++ f right
flat_two f from left s right = ap (λ t. f left ++ t) (append-nil (f right))

-- Two leaves.
module _ (M L : ℕ → Node) (half : ℕ) (from : Option (List ℕ)) (left : ℕ) (s : List ℕ) (right : ℕ) (end : Option (List ℕ)) (low : IsFrom from s) (high : IsUpTo end s) where
  pub leaves_merged : (L left).kind ≡ LEAF_KIND → (L left).items ≡ (M left).items ++ (M right).items → (L left).link ≡ (M right).link → half ≤ length (L left).items → PairSwap M L zero half from left s right (one from left) end (right ∷ [])
  leaves_merged kind items link full = record {
    trees = (record { kind_is = kind; full = full }, tt);
    swap = record {
      bounds = λ b. merged_bounds (λ i. (M i).items) from left s right end low high b (λ i. (L i).items) items;
      linked = λ after l. (link ∙ l.1.0, tt);
      first = λ after. refl;
      nodes = λ j. omega (arith, times-append j (left ∷ []) (right ∷ []));
    };
    items = append-nil (L left).items ∙ items ∙ sym (flat_two (λ i. (M i).items) from left s right);
  }

  pub leaves_shared : (s' : List ℕ) → (L left).kind ≡ LEAF_KIND → (L right).kind ≡ LEAF_KIND → (L left).items ++ (L right).items ≡ (M left).items ++ (M right).items → (L left).link ≡ (M left).link → (L right).link ≡ (M right).link
      → Keys (IsUpTo (Some s')) (L left).items → Keys (IsFrom (Some s')) (L right).items → half ≤ length (L left).items → half ≤ length (L right).items → PairSwap M L zero half from left s right (two from left s' right) end []
  leaves_shared s' kind kind' items link link' upto above full full' = record {
    trees = (record { kind_is = kind; full = full }, (record { kind_is = kind'; full = full' }, tt));
    swap = record {
      bounds = λ b. shared_bounds (λ i. (M i).items) from left s right end low high b (λ i. (L i).items) s' items upto above;
      linked = λ after l. (link ∙ l.0, (link' ∙ l.1.0, tt));
      first = λ after. refl;
      nodes = λ j. omega arith;
    };
    items = flat_two (λ i. (L i).items) from left s' right ∙ items ∙ sym (flat_two (λ i. (M i).items) from left s right);
  }

-- Two inner pages: the children of both in one row.
module _ (M L : ℕ → Node) (g half : ℕ) (from : Option (List ℕ)) (left : ℕ) (s : List ℕ) (right : ℕ) (end : Option (List ℕ)) (low : IsFrom from s) (high : IsUpTo end s)
    (l1 l2 : ℕ) (t1 : IsTreeIn M (suc g) l1 left) (t2 : IsTreeIn M (suc g) l2 right) (half1 : (M left).half ≡ half) (half2 : (M right).half ≡ half) where
  abbrev right_entries : List Entry
  right_entries = record { from = Some s; child = index_in (M right).link } ∷ map entry (M right).items

  abbrev W : List Entry
  W = entries (M left) ++ (record { from = Some s; child = index_in (M right).link } ∷ map entry (M right).items)

  row_trees : Each (IsTreeIn M g half) (entries (M left) ++ (record { from = Some s; child = index_in (M right).link } ∷ map entry (M right).items))
  row_trees = each_joined (IsTreeIn M g half) (entries (M left)) right_entries (subst (λ n. Each (IsTreeIn M g n) (entries (M left))) half1 t1.1) (subst (λ n. Each (IsTreeIn M g n) (entries (M right))) half2 t2.1)

  row_items : items_under M (suc g) left ++ items_under M (suc g) right ≡ flat (items_under M g) (entries (M left) ++ (record { from = Some s; child = index_in (M right).link } ∷ map entry (M right).items))
  row_items = sym (flat_joined (items_under M g) (entries (M left)) right_entries)

  row_leaves : leaves_under M (suc g) left ++ leaves_under M (suc g) right ≡ flat (leaves_under M g) (entries (M left) ++ (record { from = Some s; child = index_in (M right).link } ∷ map entry (M right).items))
  row_leaves = sym (flat_joined (leaves_under M g) (entries (M left)) right_entries)

  row_bounds : Keys (IsUpTo (Some s)) (items_under M (suc g) left) → Keys (IsFrom (Some s)) (items_under M (suc g) right) → AreBounded (items_under M g) (entries (M left) ++ (record { from = Some s; child = index_in (M right).link } ∷ map entry (M right).items)) None
  row_bounds upto above = bounds_joined (items_under M g) (entries (M left)) right_entries None (bounds_end (items_under M g) (entries (M left)) (Some s) t1.2 upto)
      (keys_left (IsFrom (Some s)) (items_under M g (index_in (M right).link)) (flat (items_under M g) (map entry (M right).items)) above, t2.2.1, t2.2.2)

  pub row_times : (j : ℕ) → times j (nodes_under M (suc g) left) + times j (nodes_under M (suc g) right) ≡ times j (left ∷ []) + (times j (right ∷ []) + times j (flat (nodes_under M g) (entries (M left) ++ (record { from = Some s; child = index_in (M right).link } ∷ map entry (M right).items))))
  row_times j =
      let e = ap (λ t. times j t) (flat_joined (nodes_under M g) (entries (M left)) right_entries) in
      omega (
        arith,
        e,
        times-append j (flat (nodes_under M g) (entries (M left))) (flat (nodes_under M g) right_entries),
        times-append j (left ∷ []) (flat (nodes_under M g) (entries (M left))),
        times-append j (right ∷ []) (flat (nodes_under M g) (entries (M right))),
      )

  module _ (same : (j : ℕ) → 1 ≤ times j (flat (nodes_under M g) (entries (M left) ++ (record { from = Some s; child = index_in (M right).link } ∷ map entry (M right).items))) → L j ≡ M j) where
    leaves_W : (j : ℕ) → 1 ≤ times j (flat (leaves_under M g) (entries (M left) ++ (record { from = Some s; child = index_in (M right).link } ∷ map entry (M right).items))) → L j ≡ M j
    leaves_W j some = same j (omega (arith, some, flat_leaves_few M g W j))

    module _ (plain : IsPlain L INNER_KIND half left) (half_now : (L left).half ≡ half) (here : entries (L left) ≡ entries (M left) ++ (record { from = Some s; child = index_in (M right).link } ∷ map entry (M right).items))
        (b : AreBounded (items_under M (suc g)) (two from left s right) end) where
      merged_tree : IsTreeIn L (suc g) half left
      merged_tree = (
        plain,
        subst (λ n. Each (IsTreeIn L g n) (entries (L left))) (sym half_now) (subst (Each (IsTreeIn L g half)) (sym here) (trees_stay M L g half W same row_trees)),
        subst (λ (es : List Entry). AreBounded (items_under L g) es None) (sym here) (bounds_stay M L g W None same (row_bounds b.1 b.2.0)),
      )

      merged_items : items_under L (suc g) left ≡ items_under M (suc g) left ++ items_under M (suc g) right
      merged_items = ap (λ (es : List Entry). flat (items_under L g) es) here ∙ flat_items_stay M L g W same ∙ sym row_items

      merged_leaves : leaves_under L (suc g) left ++ [] ≡ leaves_under M (suc g) left ++ (leaves_under M (suc g) right ++ [])
      merged_leaves = append-nil (leaves_under L (suc g) left) ∙ ap (λ (es : List Entry). flat (leaves_under L g) es) here ∙ flat_leaves_stay M L g W same ∙ sym row_leaves ∙ sym (flat_two (leaves_under M (suc g)) from left s right)

      pub inner_merged : PairSwap M L (suc g) half from left s right (one from left) end (right ∷ [])
      inner_merged = record {
        trees = (merged_tree, tt);
        swap = record {
          bounds = λ b'. merged_bounds (items_under M (suc g)) from left s right end low high b' (items_under L (suc g)) merged_items;
          linked = λ after l.
              let before : AreLinkedTo M (flat (leaves_under M g) W) after = subst (λ t. AreLinkedTo M t after) (flat_two (leaves_under M (suc g)) from left s right ∙ row_leaves) l in
              subst (λ t. AreLinkedTo L t after) (sym (merged_leaves ∙ flat_two (leaves_under M (suc g)) from left s right ∙ row_leaves)) (links_stay M L (flat (leaves_under M g) W) after leaves_W before);
          first = λ after. ap (λ t. first_or t after) merged_leaves;
          nodes = λ j.
              let e : times j (flat (nodes_under L g) (entries (L left))) ≡ times j (flat (nodes_under M g) W) = ap (λ (es : List Entry). times j (flat (nodes_under L g) es)) here ∙ ap (λ t. times j t) (flat_nodes_stay M L g W same) in
              omega (
                arith,
                e,
                row_times j,
                times-append j (left ∷ []) (flat (nodes_under L g) (entries (L left))),
                times-append j (nodes_under L (suc g) left) [],
                times-append j (nodes_under M (suc g) left) (nodes_under M (suc g) right ++ []),
                times-append j (nodes_under M (suc g) right) [],
              );
        };
        items = append-nil (items_under L (suc g) left) ∙ merged_items ∙ sym (flat_two (items_under M (suc g)) from left s right);
      }

    -- they share the children anew, which this key parts
    module _ (s' : List ℕ) (plain : IsPlain L INNER_KIND half left) (plain' : IsPlain L INNER_KIND half right) (half_now : (L left).half ≡ half) (half_now' : (L right).half ≡ half)
        (here : entries (L left) ++ (record { from = Some s'; child = index_in (L right).link } ∷ map entry (L right).items) ≡ entries (M left) ++ (record { from = Some s; child = index_in (M right).link } ∷ map entry (M right).items))
        (below : (j : ℕ) → j < length (L left).items → IsBelow (key_in (L left).items j) s') (above : (j : ℕ) → j < length (L right).items → IsBelow s' (key_in (L right).items j))
        (b : AreBounded (items_under M (suc g)) (two from left s right) end) where
      abbrev entries_now : List Entry
      entries_now = record { from = Some s'; child = index_in (L right).link } ∷ map entry (L right).items

      abbrev V : List Entry
      V = entries (L left) ++ (record { from = Some s'; child = index_in (L right).link } ∷ map entry (L right).items)

      same_V : (j : ℕ) → 1 ≤ times j (flat (nodes_under M g) (entries (L left) ++ (record { from = Some s'; child = index_in (L right).link } ∷ map entry (L right).items))) → L j ≡ M j
      same_V j some = same j (subst (λ (es : List Entry). 1 ≤ times j (flat (nodes_under M g) es)) here some)

      now_trees : Each (IsTreeIn L g half) (entries (L left) ++ (record { from = Some s'; child = index_in (L right).link } ∷ map entry (L right).items))
      now_trees = trees_stay M L g half V same_V (subst (Each (IsTreeIn M g half)) (sym here) row_trees)

      now_bounds : AreBounded (items_under L g) (entries (L left)) (Some s') × AreBounded (items_under L g) (record { from = Some s'; child = index_in (L right).link } ∷ map entry (L right).items) None
      now_bounds = bounds_apart (items_under L g) (entries (L left)) entries_now None (bounds_stay M L g V None same_V (subst (λ (es : List Entry). AreBounded (items_under M g) es None) (sym here) (row_bounds b.1 b.2.0)))

      no_end : (f : ℕ → List Item) (es : List Entry) (e : Option (List ℕ)) → AreBounded f es e → AreBounded f es None
      no_end f [] e h = tt
      no_end f (x ∷ []) e h = (h.0, keys_any (IsUpTo None) (f x.child) (λ k. tt), tt)
      no_end f (x ∷ y ∷ es) e h = (h.0, h.1, no_end f (y ∷ es) e h.2)

      left_tree : IsTreeIn L (suc g) half left
      left_tree = (
        plain,
        subst (λ n. Each (IsTreeIn L g n) (entries (L left))) (sym half_now) (each_left (IsTreeIn L g half) (entries (L left)) entries_now now_trees),
        no_end (items_under L g) (entries (L left)) (Some s') now_bounds.0,
      )

      right_tree : IsTreeIn L (suc g) half right
      right_tree = (
        plain',
        (let t = each_right (IsTreeIn L g half) (entries (L left)) entries_now now_trees in subst (λ n. Each (IsTreeIn L g n) (entries (L right))) (sym half_now') t),
        (keys_any (IsFrom None) (items_under L g (index_in (L right).link)) (λ k. tt), now_bounds.1.1, now_bounds.1.2),
      )

      both : {X : Type 0} (f f' : ℕ → List X) → flat f' V ≡ flat f V → flat f' (entries (L left)) ++ flat f' (entries (L right)) ≡ flat f W
      both f f' stay = sym (flat_joined f' (entries (L left)) entries_now) ∙ stay ∙ ap (λ (es : List Entry). flat f es) here

      shared_items : items_under L (suc g) left ++ items_under L (suc g) right ≡ items_under M (suc g) left ++ items_under M (suc g) right
      shared_items = both (items_under M g) (items_under L g) (flat_items_stay M L g V same_V) ∙ sym row_items

      shared_leaves : leaves_under L (suc g) left ++ (leaves_under L (suc g) right ++ []) ≡ leaves_under M (suc g) left ++ (leaves_under M (suc g) right ++ [])
      shared_leaves = flat_two (leaves_under L (suc g)) from left s' right ∙ both (leaves_under M g) (leaves_under L g) (flat_leaves_stay M L g V same_V) ∙ sym row_leaves ∙ sym (flat_two (leaves_under M (suc g)) from left s right)

      upto : Keys (IsUpTo (Some s')) (items_under L (suc g) left)
      upto = upto_all (items_under L g) (record { from = None; child = index_in (L left).link }) (L left).items s' now_bounds.0 below

      above_all : Keys (IsFrom (Some s')) (items_under L (suc g) right)
      above_all = keys_joined (IsFrom (Some s')) (items_under L g (index_in (L right).link)) (flat (items_under L g) (map entry (L right).items)) now_bounds.1.0 (from_all (items_under L g) (L right).items s' now_bounds.1.2 above)

      pub inner_shared : PairSwap M L (suc g) half from left s right (two from left s' right) end []
      inner_shared = record {
        trees = (left_tree, (right_tree, tt));
        swap = record {
          bounds = λ b'. shared_bounds (items_under M (suc g)) from left s right end low high b' (items_under L (suc g)) s' shared_items upto above_all;
          linked = λ after l.
              let before : AreLinkedTo M (flat (leaves_under M g) W) after = subst (λ t. AreLinkedTo M t after) (flat_two (leaves_under M (suc g)) from left s right ∙ row_leaves) l in
              subst (λ t. AreLinkedTo L t after) (sym (shared_leaves ∙ flat_two (leaves_under M (suc g)) from left s right ∙ row_leaves)) (links_stay M L (flat (leaves_under M g) W) after leaves_W before);
          first = λ after. ap (λ t. first_or t after) shared_leaves;
          nodes = λ j.
              let e : times j (flat (nodes_under L g) V) ≡ times j (flat (nodes_under M g) W) = ap (λ t. times j t) (flat_nodes_stay M L g V same_V) ∙ ap (λ (es : List Entry). times j (flat (nodes_under M g) es)) here in
              omega (
                arith,
                e,
                row_times j,
                ap (λ t. times j t) (flat_joined (nodes_under L g) (entries (L left)) entries_now),
                times-append j (flat (nodes_under L g) (entries (L left))) (flat (nodes_under L g) entries_now),
                times-append j (left ∷ []) (flat (nodes_under L g) (entries (L left))),
                times-append j (right ∷ []) (flat (nodes_under L g) (entries (L right))),
                times-append j (nodes_under L (suc g) left) (nodes_under L (suc g) right ++ []),
                times-append j (nodes_under L (suc g) right) [],
                times-append j (nodes_under M (suc g) left) (nodes_under M (suc g) right ++ []),
                times-append j (nodes_under M (suc g) right) [],
              );
        };
        items = flat_two (items_under L (suc g)) from left s' right ∙ shared_items ∙ sym (flat_two (items_under M (suc g)) from left s right);
      }
