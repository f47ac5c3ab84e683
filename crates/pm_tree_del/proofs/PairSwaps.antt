-- Two trees of any height that stand side by side, merged or sharing anew what they have.
use Rattle.std.proofs.Common.{◌≡◌, ◌≢◌, ℕ, zero, suc, ◌+◌, ◌<◌, ◌≤◌, ◌⊎◌, List, [], ◌∷◌, ◌++◌, map, length, sym, ap, ◌∙◌, inl, inr, arith}
use Rattle.std.specs.Prelude.{Option, None, Some}
use Rattle.std.proofs.lemmas.List.{map-append, length-append}
use Rattle.pm_btpage.specs.declared.layout.TheConstants.{LEAF_KIND, INNER_KIND}
use Rattle.pm_btpage.specs.IndexPages.{Item, key_in, IsBelow}
use Rattle.pm_pages.specs.Chains.{times}
use Rattle.pm_pages.specs.Trees.{index_in}
use Rattle.pm_tree.specs.Nodes.{Node, Entry, entry, entries, items_under, nodes_under, IsFrom, IsUpTo, AreBounded, IsTreeIn, Keys}
use Rattle.pm_pages.proofs.ChainWalks.{times_here}
use Rattle.pm_tree_del.proofs.PairTrees.{two, one, PairSwap, leaves_merged, leaves_shared, inner_merged, inner_shared, row_times}

-- what the left page says once it has the items of both: of leaves, and of inner pages
pub record JoinsNodes (ml mr ll : Node) (s : List ℕ) : Type 0 where
  pub leaf : ml.kind ≡ LEAF_KIND → (ll.items ≡ ml.items ++ mr.items) × (ll.link ≡ mr.link)
  pub inner : ml.kind ≡ INNER_KIND → (ll.items ≡ ml.items ++ (record { key = s; word = mr.link } ∷ mr.items)) × (ll.link ≡ ml.link)

-- what both say that share their items anew
pub record SharesNodes (ml mr ll lr : Node) (s s' : List ℕ) : Type 0 where
  pub leaf : ml.kind ≡ LEAF_KIND → (ll.items ++ lr.items ≡ ml.items ++ mr.items) × (lr.link ≡ mr.link)
  pub inner : ml.kind ≡ INNER_KIND → ll.items ++ (record { key = s'; word = lr.link } ∷ lr.items) ≡ ml.items ++ (record { key = s; word = mr.link } ∷ mr.items)
  pub left_link : ll.link ≡ ml.link
  pub parts : ml.kind ≡ LEAF_KIND → Keys (IsUpTo (Some s)) ml.items → Keys (IsFrom (Some s)) mr.items → Keys (IsUpTo (Some s')) ll.items × Keys (IsFrom (Some s')) lr.items
  pub below : ml.kind ≡ INNER_KIND → (j : ℕ) → j < length ll.items → IsBelow (key_in ll.items j) s'
  pub above : ml.kind ≡ INNER_KIND → (j : ℕ) → j < length lr.items → IsBelow s' (key_in lr.items j)

module _ (M L : ℕ → Node) (half : ℕ) (from : Option (List ℕ)) (left : ℕ) (s : List ℕ) (right : ℕ) (end : Option (List ℕ)) (low : IsFrom from s) (high : IsUpTo end s)
    (l1 l2 : ℕ) (half1 : (M left).half ≡ half) (half2 : (M right).half ≡ half) (kind : (L left).kind ≡ (M left).kind) (half_now : (L left).half ≡ half) where
  full_leaf : (half ≤ l1) ⊎ (half ≤ l2) → l1 ≤ length (M left).items → l2 ≤ length (M right).items → (xs : List Item) → xs ≡ (M left).items ++ (M right).items → half ≤ length xs
  full_leaf enough f1 f2 xs e = elim enough [
    | inl le ↦ omega (arith, le, f1, ap length e, length-append (M left).items (M right).items)
    | inr le ↦ omega (arith, le, f2, ap length e, length-append (M left).items (M right).items)
  ]

  full_inner : (half ≤ l1) ⊎ (half ≤ l2) → l1 ≤ length (M left).items → l2 ≤ length (M right).items → (x : Item) (xs : List Item) → xs ≡ (M left).items ++ (x ∷ (M right).items) → half ≤ length xs
  full_inner enough f1 f2 x xs e = elim enough [
    | inl le ↦ omega (arith, le, f1, ap length e, length-append (M left).items (x ∷ (M right).items))
    | inr le ↦ omega (arith, le, f2, ap length e, length-append (M left).items (x ∷ (M right).items))
  ]

  pub pair_merged : (h : ℕ) → IsTreeIn M h l1 left → IsTreeIn M h l2 right → (half ≤ l1) ⊎ (half ≤ l2) → JoinsNodes (M left) (M right) (L left) s → ((j : ℕ) → times j (nodes_under M h left) + times j (nodes_under M h right) ≤ 1)
      → ((j : ℕ) → 1 ≤ times j (nodes_under M h left) + times j (nodes_under M h right) → j ≢ left → j ≢ right → L j ≡ M j) → AreBounded (items_under M h) (two from left s right) end
      → PairSwap M L h half from left s right (one from left) end (right ∷ [])
  pair_merged zero t1 t2 enough joins once same b =
      let j = joins.leaf t1.kind_is in
      leaves_merged M L half from left s right end low high (kind ∙ t1.kind_is) j.0 j.1 (full_leaf enough t1.full t2.full (L left).items j.0)
  pair_merged (suc g) t1 t2 enough joins once same b =
      let j = joins.inner t1.0.kind_is in
      let x : Item = record { key = s; word = (M right).link } in
      let here : entries (L left) ≡ entries (M left) ++ (entry x ∷ map entry (M right).items) = (λ k. record { from = None; child = index_in (j.1 k) } ∷ map entry (j.0 k)) ∙ ap (λ es. record { from = None; child = index_in (M left).link } ∷ es) (map-append entry (M left).items (x ∷ (M right).items)) in
      inner_merged M L g half from left s right end low high l1 l2 t1 t2 half1 half2
      (λ k some. (let r = row_times M L g half from left s right end low high l1 l2 t1 t2 half1 half2 k in same k (omega (arith, r, some)) (λ e. omega (arith, r, some, once k, times_here k [], ap (λ n. times k (n ∷ [])) e)) (λ e. omega (arith, r, some, once k, times_here k [], ap (λ n. times k (n ∷ [])) e))))
      (record { kind_is = kind ∙ t1.0.kind_is; full = full_inner enough t1.0.full t2.0.full x (L left).items j.0 }) half_now here b

  pub pair_shared : (h : ℕ) → IsTreeIn M h l1 left → IsTreeIn M h l2 right → (s' : List ℕ) → SharesNodes (M left) (M right) (L left) (L right) s s' → (L right).kind ≡ (M right).kind → (L right).half ≡ half → half ≤ length (L left).items → half ≤ length (L right).items
      → ((j : ℕ) → times j (nodes_under M h left) + times j (nodes_under M h right) ≤ 1) → ((j : ℕ) → 1 ≤ times j (nodes_under M h left) + times j (nodes_under M h right) → j ≢ left → j ≢ right → L j ≡ M j) → AreBounded (items_under M h) (two from left s right) end
      → PairSwap M L h half from left s right (two from left s' right) end []
  pair_shared zero t1 t2 s' shares kind' half_now' full full' once same b =
      let j = shares.leaf t1.kind_is in
      let p = shares.parts t1.kind_is b.1 b.2.0 in
      leaves_shared M L half from left s right end low high s' (kind ∙ t1.kind_is) (kind' ∙ t2.kind_is) j.0 shares.left_link j.1 p.0 p.1 full full'
  pair_shared (suc g) t1 t2 s' shares kind' half_now' full full' once same b =
      let x : Item = record { key = s; word = (M right).link } in
      let y : Item = record { key = s'; word = (L right).link } in
      let first : Entry = record { from = None; child = index_in (M left).link } in
      let here : entries (L left) ++ (entry y ∷ map entry (L right).items) ≡ entries (M left) ++ (entry x ∷ map entry (M right).items) =
      (λ k. record { from = None; child = index_in (shares.left_link k) } ∷ (map entry (L left).items ++ (entry y ∷ map entry (L right).items)))
      ∙ ap (λ es. first ∷ es) (sym (map-append entry (L left).items (y ∷ (L right).items)))
      ∙ ap (λ (xs : List Item). first ∷ map entry xs) (shares.inner t1.0.kind_is)
      ∙ ap (λ es. first ∷ es) (map-append entry (M left).items (x ∷ (M right).items)) in
      inner_shared M L g half from left s right end low high l1 l2 t1 t2 half1 half2
      (λ k some. (let r = row_times M L g half from left s right end low high l1 l2 t1 t2 half1 half2 k in same k (omega (arith, r, some)) (λ e. omega (arith, r, some, once k, times_here k [], ap (λ n. times k (n ∷ [])) e)) (λ e. omega (arith, r, some, once k, times_here k [], ap (λ n. times k (n ∷ [])) e))))
      s' (record { kind_is = kind ∙ t1.0.kind_is; full = full }) (record { kind_is = kind' ∙ t2.0.kind_is; full = full' }) half_now half_now' here (shares.below t1.0.kind_is) (shares.above t1.0.kind_is) b
