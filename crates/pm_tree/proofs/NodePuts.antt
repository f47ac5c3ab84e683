-- Puts into a page of a tree: its own items change, or it is divided into two pages.
use Rattle.std.proofs.Common.{◌≡◌, ◌≢◌, ℕ, suc, ◌+◌, ◌≤◌, List, [], ◌∷◌, ◌++◌, length, sym, ap, subst, ◌∙◌, inl, inr, arith}
use Rattle.std.specs.Prelude.{Option, None, Some}
use Rattle.std.specs.Ordering.{nat_cmp}
use Rattle.std.specs.declared.cmp.Ordering.{Ordering}
use Rattle.std.specs.declared.cmp.Ordering.TheVariants.{Less, Equal, Greater}
use Rattle.std.specs.Cmp.Lexicographic.{slice_cmp}
use Rattle.std.proofs.lemmas.Bool.{cases_eq, cases_lt}
use Rattle.std.proofs.lemmas.List.{append-nil}
use Rattle.pm_btpage.specs.declared.layout.TheConstants.{INNER_KIND}
use Rattle.pm_btpage.specs.IndexPages.{Item}
use Rattle.pm_pages.specs.Chains.{times}
use Rattle.pm_tree.specs.Maps.{by_order, put_in}
use Rattle.pm_tree.specs.Nodes.{Node, Entry, entries, items_under, leaves_under, nodes_under, IsFrom, IsUpTo, AreBounded, Each, IsPlain, IsTreeIn, first_or, AreLinkedTo, Keys}
use Rattle.pm_tree.specs.Puts.{flat, row, IsSpare, PutsTree}
use Rattle.pm_tree.proofs.Seams.{flat_joined, each_left, each_right}
use Rattle.pm_pages.proofs.ChainWalks.{times-append, times_here, times_other}
use Rattle.pm_tree.proofs.Frames.{flat_items_stay, flat_leaves_stay, flat_nodes_stay, bounds_stay, trees_stay, links_stay, flat_leaves_few, flat_trees_used}
use Rattle.pm_tree.proofs.RowPuts.{RowPut, bounds_apart}

pub keys_any : (P : List ℕ → Type 0) (xs : List Item) → ((k : List ℕ) → P k) → Keys P xs
keys_any P [] f = tt
keys_any P (x ∷ xs) f = (f x.key, keys_any P xs f)

pub length_put : (xs : List Item) (key : List ℕ) (word : ℕ) → length xs ≤ length (put_in xs key word)
length_put [] key word = omega arith
length_put (x ∷ xs) key word = cases (length_put xs key word) (slice_cmp nat_cmp x.key key)
  where
    cases : length xs ≤ length (put_in xs key word) → (o : Ordering) → length (x ∷ xs) ≤ length (by_order o (x ∷ put_in xs key word) (record { key = key; word = word } ∷ xs) (record { key = key; word = word } ∷ x ∷ xs))
    cases more Less = omega (arith, more)
    cases more Equal = omega arith
    cases more Greater = omega arith

-- the row of one page
one_bounded : (f : ℕ → List Item) (at : ℕ) → AreBounded f (row at []) None
one_bounded f at = (keys_any (IsFrom None) (f at) (λ k. tt), keys_any (IsUpTo None) (f at) (λ k. tt), tt)

-- A page with other entries, below which the trees are a row that was put.
module _ (N M N' : ℕ → Node) (made : List ℕ) (h least at : ℕ) (key : List ℕ) (word : ℕ) (tree : IsTreeIn N (suc h) least at) (once : (j : ℕ) → times j (nodes_under N (suc h) at) ≤ 1)
    (E' : List Entry) (put : RowPut N M made h (N at).half (entries (N at)) E' key word)
    (others : (j : ℕ) → (IsSpare (N j) → ⊥) → times j (flat (nodes_under N h) (entries (N at))) ≡ 0 → M j ≡ N j)
    (spare : (j : ℕ) → 1 ≤ times j made → IsSpare (N j)) (made_once : (j : ℕ) → times j made ≤ 1) where
  old_nodes : List ℕ
  old_nodes = flat (nodes_under N h) (entries (N at))

  at_used : IsSpare (N at) → ⊥
  at_used s = s.inner tree.0.kind_is

  below_once : (j : ℕ) → times j (at ∷ flat (nodes_under N h) (entries (N at))) ≤ 1
  below_once j = once j

  at_alone : times at (flat (nodes_under N h) (entries (N at))) ≡ 0
  at_alone = omega (arith, below_once at, times_here at (flat (nodes_under N h) (entries (N at))))

  at_not_made : times at made ≡ 0
  at_not_made = elim (cases_lt 0 (times at made)) [ inl some ↦ absurd (at_used (spare at (omega (arith, some)))) | inr none ↦ omega (arith, none) ]

  at_not_below : times at (flat (nodes_under M h) E') ≡ 0
  at_not_below = omega (arith, put.nodes at, at_alone, at_not_made)

  pub at_same : M at ≡ N at
  at_same = others at at_used at_alone

  -- what no tree is made of still isn't
  not_spare_there : (j : ℕ) → (IsSpare (N j) → ⊥) → times j (flat (nodes_under N h) (entries (N at))) ≡ 0 → IsSpare (M j) → ⊥
  not_spare_there j used none s = used (subst IsSpare (others j used none) s)

  module _ (plain : IsPlain N' INNER_KIND least at) (half : (N' at).half ≡ (N at).half) (here : entries (N' at) ≡ E') (away : (j : ℕ) → j ≢ at → (IsSpare (M j) → ⊥) → N' j ≡ M j) where
    same : (j : ℕ) → 1 ≤ times j (flat (nodes_under M h) E') → N' j ≡ M j
    same j some = away j (λ e. omega (arith, some, at_not_below, ap (λ i. times i (flat (nodes_under M h) E')) e)) (λ s. flat_trees_used M h (N at).half j E' put.trees some s)

    below : {X : Type 0} (f : (ℕ → Node) → ℕ → List X) → flat (f N') (entries (N' at)) ≡ flat (f N') E'
    below f = ap (λ (es : List Entry). flat (f N') es) here

    leaves_same : (j : ℕ) → 1 ≤ times j (flat (leaves_under M h) E') → N' j ≡ M j
    leaves_same j some = same j (omega (arith, some, flat_leaves_few M h E' j))

    leaves : leaves_under N' (suc h) at ++ [] ≡ flat (leaves_under M h) E'
    leaves = append-nil (leaves_under N' (suc h) at) ∙ ap (λ (es : List Entry). flat (leaves_under N' h) es) here ∙ flat_leaves_stay M N' h E' same

    pub inner_puts : PutsTree N N' made (suc h) least at key word []
    inner_puts = record {
      trees = (
        (
          plain,
          subst (λ (n : ℕ). Each (IsTreeIn N' h n) (entries (N' at))) (sym half) (subst (Each (IsTreeIn N' h (N at).half)) (sym here) (trees_stay M N' h (N at).half E' same put.trees)),
          subst (λ (es : List Entry). AreBounded (items_under N' h) es None) (sym here) (bounds_stay M N' h E' None same put.bounds),
        ),
        tt,
      );
      bounds = one_bounded (items_under N' (suc h)) at;
      items = append-nil (items_under N' (suc h) at) ∙ ap (λ (es : List Entry). flat (items_under N' h) es) here ∙ flat_items_stay M N' h E' same ∙ put.items;
      linked = λ after linked. subst (λ t. AreLinkedTo N' t after) (sym leaves) (links_stay M N' (flat (leaves_under M h) E') after leaves_same (put.linked after linked));
      first = λ after. ap (λ t. first_or t after) leaves ∙ put.first after;
      nodes = λ j.
          let a = times-append j (at ∷ []) (flat (nodes_under N' h) (entries (N' at))) in
          let b = times-append j (at ∷ []) (flat (nodes_under N h) (entries (N at))) in
          let z = times-append j (nodes_under N' (suc h) at) [] in
          let e : times j (flat (nodes_under N' h) (entries (N' at))) ≡ times j (flat (nodes_under M h) E') = ap (λ (es : List Entry). times j (flat (nodes_under N' h) es)) here ∙ ap (λ t. times j t) (flat_nodes_stay M N' h E' same) in
          omega (arith, a, b, z, e, put.nodes j);
      others = λ j used none.
          let none' : times j (flat (nodes_under N h) (entries (N at))) ≡ 0 = omega (arith, none, times-append j (at ∷ []) (flat (nodes_under N h) (entries (N at)))) in
          away j (λ e. omega (arith, none, times_here at (flat (nodes_under N h) (entries (N at))), ap (λ i. times i (nodes_under N (suc h) at)) e)) (not_spare_there j used none') ∙ others j used none';
      spare = spare;
      once = made_once;
    }

  module _ (right : ℕ) (m : List ℕ) (mc : ℕ) (EL ER : List Entry) (parts : E' ≡ EL ++ (record { from = Some m; child = mc } ∷ ER)) (right_spare : IsSpare (M right))
      (plain : IsPlain N' INNER_KIND (N at).half at) (half : (N' at).half ≡ (N at).half) (here : entries (N' at) ≡ EL)
      (plain_right : IsPlain N' INNER_KIND (N at).half right) (half_right : (N' right).half ≡ (N at).half) (there : entries (N' right) ≡ record { from = None; child = mc } ∷ ER)
      (upto : Keys (IsUpTo (Some m)) (flat (items_under M h) EL)) (from : Keys (IsFrom (Some m)) (flat (items_under M h) (record { from = Some m; child = mc } ∷ ER)))
      (away : (j : ℕ) → j ≢ at → j ≢ right → (IsSpare (M j) → ⊥) → N' j ≡ M j) where
    EM : List Entry
    EM = record { from = Some m; child = mc } ∷ ER

    EZ : List Entry
    EZ = record { from = None; child = mc } ∷ ER

    below_used : (j : ℕ) → 1 ≤ times j (flat (nodes_under M h) E') → IsSpare (M j) → ⊥
    below_used j some s = flat_trees_used M h (N at).half j E' put.trees some s

    right_not_below : times right (flat (nodes_under M h) E') ≡ 0
    right_not_below = elim (cases_lt 0 (times right (flat (nodes_under M h) E'))) [ inl some ↦ absurd (below_used right (omega (arith, some)) right_spare) | inr none ↦ omega (arith, none) ]

    right_other : right ≢ at
    right_other e = at_used (subst IsSpare (ap M e ∙ at_same) right_spare)

    right_old : IsSpare (N right)
    right_old = record { leaf = λ k. bad (λ s. s.leaf k); inner = λ k. bad (λ s. s.inner k) }
      where
        bad : (IsSpare (N right) → ⊥) → ⊥
        bad used = used (subst IsSpare (others right used (omega (arith, right_not_below, put.nodes right))) right_spare)

    same_below : (j : ℕ) → 1 ≤ times j (flat (nodes_under M h) E') → N' j ≡ M j
    same_below j some = away j (λ e. omega (arith, some, at_not_below, ap (λ i. times i (flat (nodes_under M h) E')) e)) (λ e. omega (arith, some, right_not_below, ap (λ i. times i (flat (nodes_under M h) E')) e)) (below_used j some)

    times_parts : (j : ℕ) → times j (flat (nodes_under M h) E') ≡ times j (flat (nodes_under M h) EL) + times j (flat (nodes_under M h) (record { from = Some m; child = mc } ∷ ER))
    times_parts j = ap (λ (es : List Entry). times j (flat (nodes_under M h) es)) parts ∙ ap (λ t. times j t) (flat_joined (nodes_under M h) EL (record { from = Some m; child = mc } ∷ ER)) ∙ times-append j (flat (nodes_under M h) EL) (flat (nodes_under M h) (record { from = Some m; child = mc } ∷ ER))

    same_L : (j : ℕ) → 1 ≤ times j (flat (nodes_under M h) EL) → N' j ≡ M j
    same_L j some = same_below j (omega (arith, some, times_parts j))

    same_R : (j : ℕ) → 1 ≤ times j (flat (nodes_under M h) (record { from = Some m; child = mc } ∷ ER)) → N' j ≡ M j
    same_R j some = same_below j (omega (arith, some, times_parts j))

    trees_parts : Each (IsTreeIn M h (N at).half) (EL ++ (record { from = Some m; child = mc } ∷ ER))
    trees_parts = subst (Each (IsTreeIn M h (N at).half)) parts put.trees

    bounds_parts : AreBounded (items_under M h) EL (Some m) × AreBounded (items_under M h) (record { from = Some m; child = mc } ∷ ER) None
    bounds_parts = bounds_apart (items_under M h) EL (record { from = Some m; child = mc } ∷ ER) None (subst (λ (es : List Entry). AreBounded (items_under M h) es None) parts put.bounds)

    no_end : (f : ℕ → List Item) (es : List Entry) (end : Option (List ℕ)) → AreBounded f es end → AreBounded f es None
    no_end f [] end b = tt
    no_end f (e ∷ []) end b = (b.0, keys_any (IsUpTo None) (f e.child) (λ k. tt), tt)
    no_end f (e ∷ e2 ∷ es) end b = (b.0, b.1, no_end f (e2 ∷ es) end b.2)

    left_tree : IsTreeIn N' (suc h) (N at).half at
    left_tree = (
      plain,
      subst (λ (n : ℕ). Each (IsTreeIn N' h n) (entries (N' at))) (sym half) (subst (Each (IsTreeIn N' h (N at).half)) (sym here) (trees_stay M N' h (N at).half EL same_L (each_left (IsTreeIn M h (N at).half) EL (record { from = Some m; child = mc } ∷ ER) trees_parts))),
      subst (λ (es : List Entry). AreBounded (items_under N' h) es None) (sym here) (bounds_stay M N' h EL None same_L (no_end (items_under M h) EL (Some m) bounds_parts.0)),
    )

    right_tree : IsTreeIn N' (suc h) (N at).half right
    right_tree = (
      plain_right,
      subst (λ (n : ℕ). Each (IsTreeIn N' h n) (entries (N' right))) (sym half_right) (subst (Each (IsTreeIn N' h (N at).half)) (sym there) (trees_stay M N' h (N at).half (record { from = None; child = mc } ∷ ER) same_R (each_right (IsTreeIn M h (N at).half) EL (record { from = Some m; child = mc } ∷ ER) trees_parts))),
      subst (λ (es : List Entry). AreBounded (items_under N' h) es None) (sym there) (bounds_stay M N' h (record { from = None; child = mc } ∷ ER) None same_R (keys_any (IsFrom None) (items_under M h mc) (λ k. tt), bounds_parts.1.1, bounds_parts.1.2)),
    )

    both : {X : Type 0} (f f' : ℕ → List X) → (flat f' EL ≡ flat f EL) → (flat f' (record { from = Some m; child = mc } ∷ ER) ≡ flat f (record { from = Some m; child = mc } ∷ ER)) → flat f' (entries (N' at)) ++ (flat f' (entries (N' right)) ++ []) ≡ flat f E'
    both f f' x y =
        ap (λ (es : List Entry). flat f' es ++ (flat f' (entries (N' right)) ++ [])) here
        ∙ ap (λ (es : List Entry). flat f' EL ++ (flat f' es ++ [])) there
        ∙ ap (λ t. flat f' EL ++ t) (append-nil (flat f' (record { from = Some m; child = mc } ∷ ER)))
        ∙ ap (λ t. t ++ flat f' (record { from = Some m; child = mc } ∷ ER)) x ∙ ap (λ t. flat f EL ++ t) y
        ∙ sym (flat_joined f EL (record { from = Some m; child = mc } ∷ ER)) ∙ ap (λ (es : List Entry). flat f es) (sym parts)

    items_both : flat (items_under N' (suc h)) (row at (record { from = Some m; child = right } ∷ [])) ≡ flat (items_under M h) E'
    items_both = both (items_under M h) (items_under N' h) (flat_items_stay M N' h EL same_L) (flat_items_stay M N' h (record { from = Some m; child = mc } ∷ ER) same_R)

    leaves_both : flat (leaves_under N' (suc h)) (row at (record { from = Some m; child = right } ∷ [])) ≡ flat (leaves_under M h) E'
    leaves_both = both (leaves_under M h) (leaves_under N' h) (flat_leaves_stay M N' h EL same_L) (flat_leaves_stay M N' h (record { from = Some m; child = mc } ∷ ER) same_R)

    left_items : items_under N' (suc h) at ≡ flat (items_under M h) EL
    left_items = ap (λ (es : List Entry). flat (items_under N' h) es) here ∙ flat_items_stay M N' h EL same_L

    right_items : items_under N' (suc h) right ≡ flat (items_under M h) (record { from = Some m; child = mc } ∷ ER)
    right_items = ap (λ (es : List Entry). flat (items_under N' h) es) there ∙ flat_items_stay M N' h (record { from = Some m; child = mc } ∷ ER) same_R

    pub inner_divided : PutsTree N N' (right ∷ made) (suc h) (N at).half at key word (record { from = Some m; child = right } ∷ [])
    inner_divided = record {
      trees = (left_tree, (right_tree, tt));
      bounds = (
        keys_any (IsFrom None) (items_under N' (suc h) at) (λ k. tt),
        subst (Keys (IsUpTo (Some m))) (sym left_items) upto,
        (subst (Keys (IsFrom (Some m))) (sym right_items) from, keys_any (IsUpTo None) (items_under N' (suc h) right) (λ k. tt), tt),
      );
      items = items_both ∙ put.items;
      linked = λ after linked. subst (λ t. AreLinkedTo N' t after) (sym leaves_both) (links_stay M N' (flat (leaves_under M h) E') after (λ j some. same_below j (omega (arith, some, flat_leaves_few M h E' j))) (put.linked after linked));
      first = λ after. ap (λ t. first_or t after) leaves_both ∙ put.first after;
      nodes = λ j.
          let a = times-append j (at ∷ []) (flat (nodes_under N' h) (entries (N' at))) in
          let b = times-append j (right ∷ []) (flat (nodes_under N' h) (entries (N' right))) in
          let d = times-append j (at ∷ []) (flat (nodes_under N h) (entries (N at))) in
          let z = times-append j (nodes_under N' (suc h) at) (nodes_under N' (suc h) right ++ []) in
          let z2 = times-append j (nodes_under N' (suc h) right) [] in
          let r = times-append j (right ∷ []) made in
          let x : times j (flat (nodes_under N' h) (entries (N' at))) ≡ times j (flat (nodes_under M h) EL) = ap (λ (es : List Entry). times j (flat (nodes_under N' h) es)) here ∙ ap (λ t. times j t) (flat_nodes_stay M N' h EL same_L) in
          let y : times j (flat (nodes_under N' h) (entries (N' right))) ≡ times j (flat (nodes_under M h) (record { from = Some m; child = mc } ∷ ER)) = ap (λ (es : List Entry). times j (flat (nodes_under N' h) es)) there ∙ ap (λ t. times j t) (flat_nodes_stay M N' h (record { from = Some m; child = mc } ∷ ER) same_R) in
          omega (arith, a, b, d, z, z2, r, x, y, times_parts j, put.nodes j);
      others = λ j used none.
          let none' : times j (flat (nodes_under N h) (entries (N at))) ≡ 0 = omega (arith, none, times-append j (at ∷ []) (flat (nodes_under N h) (entries (N at)))) in
          away j (λ e. omega (arith, none, times_here at (flat (nodes_under N h) (entries (N at))), ap (λ i. times i (nodes_under N (suc h) at)) e)) (λ e. used (subst (λ i. IsSpare (N i)) (sym e) right_old)) (not_spare_there j used none') ∙ others j used none';
      spare = λ j some. elim (cases_eq right j) [
        | inl e ↦ subst (λ i. IsSpare (N i)) e right_old
        | inr ne ↦ spare j (omega (arith, some, times_other j right made ne))
      ];
      once = λ j. elim (cases_eq right j) [
        | inl e ↦ (let n : times j made ≡ 0 = ap (λ i. times i made) (sym e) ∙ (let w : times right made ≡ 0 = omega (arith, right_not_below, put.nodes right) in w) in omega (arith, n, times-append j (right ∷ []) made, times_few j))
        | inr ne ↦ omega (arith, times_other j right made ne, made_once j)
      ];
    }
      where
        times_few : (j : ℕ) → times j (right ∷ []) ≤ 1
        times_few j = elim (cases_eq right j) [ inl e ↦ omega (arith, ap (λ i. times j (i ∷ [])) e, times_here j []) | inr ne ↦ omega (arith, times_other j right [] ne) ]
