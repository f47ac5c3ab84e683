-- Puts into a leaf, and new roots.
use Rattle.std.proofs.Common.{◌≡◌, ◌≢◌, ℕ, zero, suc, ◌+◌, ◌≤◌, List, [], ◌∷◌, ◌++◌, length, refl, sym, ap, subst, ◌∙◌, inl, inr, arith}
use Rattle.std.specs.Prelude.{None, Some}
use Rattle.std.proofs.lemmas.Bool.{cases_eq, cases_lt}
use Rattle.std.proofs.lemmas.List.{append-nil}
use Rattle.pm_btpage.specs.declared.layout.TheConstants.{LEAF_KIND, INNER_KIND}
use Rattle.pm_btpage.specs.IndexPages.{Item}
use Rattle.pm_pages.specs.Chains.{times}
use Rattle.pm_tree.specs.Maps.{put_in}
use Rattle.pm_tree.specs.Nodes.{Node, Entry, entries, items_under, leaves_under, nodes_under, IsFrom, IsUpTo, AreBounded, Each, IsTreeIn, AreLinkedTo, Keys}
use Rattle.pm_tree.specs.Puts.{flat, row, IsSpare, PutsTree}
use Rattle.pm_pages.proofs.ChainWalks.{times-append, times_here, times_other}
use Rattle.pm_tree.proofs.Frames.{flat_items_stay, flat_leaves_stay, flat_nodes_stay, bounds_stay, trees_stay, links_stay, flat_leaves_few, flat_trees_used}
use Rattle.pm_tree.proofs.NodePuts.{keys_any, length_put}

pub times_few : (i j : ℕ) → times j (i ∷ []) ≤ 1
times_few i j = elim (cases_eq i j) [ inl e ↦ omega (arith, ap (λ n. times j (n ∷ [])) e, times_here j []) | inr ne ↦ omega (arith, times_other j i [] ne) ]

-- a leaf has the items of the put
pub leaf_puts : (N N' : ℕ → Node) (least at : ℕ) (key : List ℕ) (word : ℕ) → IsTreeIn N zero least at → (N' at).kind ≡ LEAF_KIND → (N' at).link ≡ (N at).link → (N' at).items ≡ put_in (N at).items key word
    → ((j : ℕ) → j ≢ at → (IsSpare (N j) → ⊥) → N' j ≡ N j) → PutsTree N N' [] zero least at key word []
leaf_puts N N' least at key word tree kind link items away = record {
  trees = (record { kind_is = kind; full = omega (arith, tree.full, length_put (N at).items key word, ap length items) }, tt);
  bounds = (keys_any (IsFrom None) (N' at).items (λ k. tt), keys_any (IsUpTo None) (N' at).items (λ k. tt), tt);
  items = append-nil (N' at).items ∙ items;
  linked = λ after linked. (link ∙ linked.0, tt);
  first = λ after. refl;
  nodes = λ j. omega arith;
  others = λ j used none. away j (λ e. omega (arith, none, times_here at [], ap (λ i. times i (at ∷ [])) e)) used;
  spare = λ j some. absurd (omega (arith, some));
  once = λ j. omega arith;
}

-- a leaf was divided, and the new one stands after it
pub leaf_divided : (N N' : ℕ → Node) (least half at right : ℕ) (key : List ℕ) (word : ℕ) (m : List ℕ) (xs ys : List Item) → IsTreeIn N zero least at → IsSpare (N right) → xs ++ ys ≡ put_in (N at).items key word
    → (N' at).kind ≡ LEAF_KIND → (N' at).link ≡ right → (N' at).items ≡ xs → (N' right).kind ≡ LEAF_KIND → (N' right).link ≡ (N at).link → (N' right).items ≡ ys
    → half ≤ length xs → half ≤ length ys → Keys (IsUpTo (Some m)) xs → Keys (IsFrom (Some m)) ys
    → ((j : ℕ) → j ≢ at → j ≢ right → (IsSpare (N j) → ⊥) → N' j ≡ N j) → PutsTree N N' (right ∷ []) zero half at key word (record { from = Some m; child = right } ∷ [])
leaf_divided N N' least half at right key word m xs ys tree spare whole kind link items kind_right link_right items_right full full_right upto from away = record {
  trees = (record { kind_is = kind; full = omega (arith, full, ap length items) }, (record { kind_is = kind_right; full = omega (arith, full_right, ap length items_right) }, tt));
  bounds = (keys_any (IsFrom None) (N' at).items (λ k. tt), subst (Keys (IsUpTo (Some m))) (sym items) upto, (subst (Keys (IsFrom (Some m))) (sym items_right) from, keys_any (IsUpTo None) (N' right).items (λ k. tt), tt));
  items = ap (λ (t : List Item). (N' at).items ++ t) (append-nil (N' right).items) ∙ ap (λ (t : List Item). t ++ (N' right).items) items ∙ ap (λ (t : List Item). xs ++ t) items_right ∙ whole;
  linked = λ after linked. (link, (link_right ∙ linked.0, tt));
  first = λ after. refl;
  nodes = λ j. omega (arith, times-append j (at ∷ []) (right ∷ []));
  others = λ j used none. away j (λ e. omega (arith, none, times_here at [], ap (λ i. times i (at ∷ [])) e)) (λ e. used (subst (λ i. IsSpare (N i)) (sym e) spare)) used;
  spare = λ j some. elim (cases_eq right j) [
    | inl e ↦ subst (λ i. IsSpare (N i)) e spare
    | inr ne ↦ absurd (omega (arith, some, times_other j right [] ne))
  ];
  once = λ j. times_few right j;
}

-- what a put makes of a cache's tree: the one at this root has the items of the put
pub record PutsRoot (N N' : ℕ → Node) (made nodes : List ℕ) (items : List Item) (levels root : ℕ) (key : List ℕ) (word : ℕ) : Type 0 where
  pub tree : IsTreeIn N' levels 1 root
  pub items_are : items_under N' levels root ≡ put_in items key word
  pub linked : AreLinkedTo N' (leaves_under N' levels root) 0
  pub nodes_are : (j : ℕ) → times j (nodes_under N' levels root) ≡ times j nodes + times j made
  pub spare : (j : ℕ) → 1 ≤ times j made → IsSpare (N j)
  pub once : (j : ℕ) → times j made ≤ 1

-- the same root
pub root_kept : (N N' : ℕ → Node) (made : List ℕ) (levels root : ℕ) (key : List ℕ) (word : ℕ) → AreLinkedTo N (leaves_under N levels root) 0 → PutsTree N N' made levels 1 root key word [] → PutsRoot N N' made (nodes_under N levels root) (items_under N levels root) levels root key word
root_kept N N' made levels root key word linked put = record {
  tree = put.trees.0;
  items_are = sym (append-nil (items_under N' levels root)) ∙ put.items;
  linked = subst (λ t. AreLinkedTo N' t 0) (append-nil (leaves_under N' levels root)) (put.linked 0 linked);
  nodes_are = λ j. omega (arith, put.nodes j, times-append j (nodes_under N' levels root) []);
  spare = put.spare;
  once = put.once;
}

-- a new root above the old one and the page that was divided from it
pub root_grown : (N M N' : ℕ → Node) (made : List ℕ) (levels least half root top : ℕ) (key : List ℕ) (word : ℕ) (r : Entry) → IsTreeIn N levels least root → AreLinkedTo N (leaves_under N levels root) 0 → PutsTree N M made levels half root key word (r ∷ [])
    → IsSpare (M top) → (N' top).kind ≡ INNER_KIND → (N' top).half ≡ half → 1 ≤ length (N' top).items → entries (N' top) ≡ row root (r ∷ []) → ((j : ℕ) → j ≢ top → (IsSpare (M j) → ⊥) → N' j ≡ M j)
    → PutsRoot N N' (top ∷ made) (nodes_under N levels root) (items_under N levels root) (suc levels) top key word
root_grown N M N' made levels least half root top key word r tree linked put top_spare kind half_is full here away =
    let R = row root (r ∷ []) in
    let unused : times top (flat (nodes_under M levels) R) ≡ 0 = elim (cases_lt 0 (times top (flat (nodes_under M levels) R))) [ inl h ↦ absurd (flat_trees_used M levels half top R put.trees (omega (arith, h)) top_spare) | inr none ↦ omega (arith, none) ] in
    let same : (j : ℕ) → 1 ≤ times j (flat (nodes_under M levels) R) → N' j ≡ M j = λ j h. away j (λ e. omega (arith, h, unused, ap (λ i. times i (flat (nodes_under M levels) R)) e)) (λ s. flat_trees_used M levels half j R put.trees h s) in
    let leaves : flat (leaves_under N' levels) (entries (N' top)) ≡ flat (leaves_under M levels) R = ap (λ (es : List Entry). flat (leaves_under N' levels) es) here ∙ flat_leaves_stay M N' levels R same in
    let old : IsSpare (N top) = record {
      leaf = λ k. bad unused (λ s. s.leaf k);
      inner = λ k. bad unused (λ s. s.inner k);
    } in
    record {
      tree = (
        record { kind_is = kind; full = full },
        subst (λ n. Each (IsTreeIn N' levels n) (entries (N' top))) (sym half_is) (subst (Each (IsTreeIn N' levels half)) (sym here) (trees_stay M N' levels half R same put.trees)),
        subst (λ (es : List Entry). AreBounded (items_under N' levels) es None) (sym here) (bounds_stay M N' levels R None same put.bounds),
      );
      items_are = ap (λ (es : List Entry). flat (items_under N' levels) es) here ∙ flat_items_stay M N' levels R same ∙ put.items;
      linked = subst (λ t. AreLinkedTo N' t 0) (sym leaves) (links_stay M N' (flat (leaves_under M levels) R) 0 (λ j h. same j (omega (arith, h, flat_leaves_few M levels R j))) (put.linked 0 linked));
      nodes_are = λ j.
          let a = times-append j (top ∷ []) (flat (nodes_under N' levels) (entries (N' top))) in
          let b = times-append j (top ∷ []) made in
          let e : times j (flat (nodes_under N' levels) (entries (N' top))) ≡ times j (flat (nodes_under M levels) R) = ap (λ (es : List Entry). times j (flat (nodes_under N' levels) es)) here ∙ ap (λ t. times j t) (flat_nodes_stay M N' levels R same) in
          omega (arith, a, b, e, put.nodes j);
      spare = λ j h. elim (cases_eq top j) [
        | inl e ↦ subst (λ i. IsSpare (N i)) e old
        | inr ne ↦ put.spare j (omega (arith, h, times_other j top made ne))
      ];
      once = λ j. elim (cases_eq top j) [
        | inl e ↦ (let none : times top made ≡ 0 = omega (arith, unused, put.nodes top) in let n : times j made ≡ 0 = ap (λ i. times i made) (sym e) ∙ none in omega (arith, n, times-append j (top ∷ []) made, times_few top j))
        | inr ne ↦ omega (arith, times_other j top made ne, put.once j)
      ];
    }
  where
    bad : times top (flat (nodes_under M levels) (row root (r ∷ []))) ≡ 0 → (IsSpare (N top) → ⊥) → ⊥
    bad unused used = used (subst IsSpare (put.others top used (omega (arith, unused, put.nodes top))) top_spare)

-- a first leaf
pub root_planted : (N N' : ℕ → Node) (top : ℕ) (key : List ℕ) (word : ℕ) → IsSpare (N top) → (N' top).kind ≡ LEAF_KIND → (N' top).link ≡ 0 → (N' top).items ≡ record { key = key; word = word } ∷ [] → PutsRoot N N' (top ∷ []) [] [] zero top key word
root_planted N N' top key word spare kind link items = record {
  tree = record { kind_is = kind; full = omega (arith, ap length items) };
  items_are = items;
  linked = (link, tt);
  nodes_are = λ j. omega arith;
  spare = λ j some. elim (cases_eq top j) [
    | inl e ↦ subst (λ i. IsSpare (N i)) e spare
    | inr ne ↦ absurd (omega (arith, some, times_other j top [] ne))
  ];
  once = λ j. times_few top j;
}
