-- A removal from the tree of a child, for the tree of its parent.
use Rattle.std.proofs.Common.{◌≡◌, ◌≢◌, ℕ, zero, suc, ◌+◌, ◌<◌, ◌≤◌, ◌⊎◌, List, [], ◌∷◌, ◌++◌, map, length, refl, sym, ap, subst, ◌∙◌, inl, inr, arith}
use Rattle.std.specs.Prelude.{None}
use Rattle.std.proofs.lemmas.List.{append-nil}
use Rattle.pm_btpage.specs.declared.layout.TheConstants.{INNER_KIND}
use Rattle.pm_btpage.specs.IndexPages.{Item}
use Rattle.pm_pages.specs.Chains.{times}
use Rattle.pm_tree.specs.Nodes.{Node, Entry, entry, entries, items_under, leaves_under, nodes_under, IsFrom, IsUpTo, end_before, AreBounded, Each, IsPlain, IsTreeIn, first_or, AreLinkedTo, Keys}
use Rattle.pm_tree.specs.Puts.{flat, IsSpare}
use Rattle.pm_tree.proofs.Seams.{flat_joined, each_left, each_right, each_joined}
use Rattle.pm_pages.proofs.ChainWalks.{times-append, times_here}
use Rattle.pm_tree.proofs.Frames.{flat_items_stay, trees_stay, flat_trees_used}
use Rattle.pm_tree_del.specs.Maps.{remove_in}
use Rattle.pm_tree_del.specs.Removes.{RemovesTree}
use Rattle.pm_tree_del.proofs.RemovedItems.{keys_removed}
use Rattle.pm_tree_del.proofs.RowSwaps.{RowSwap, swap_within}
use Rattle.pm_tree_del.proofs.Stands.{Stand, remove_stand}

-- what holds of each child by its number
abbrev pub EachAt : (ℕ → ℕ → Type 0) → ℕ → List Entry → Type 0
EachAt P n [] = Unit {0}
EachAt P n (e ∷ es) = P n e.child × EachAt P (suc n) es

each_at_left : (P : ℕ → ℕ → Type 0) (n : ℕ) (xs ys : List Entry) → EachAt P n (xs ++ ys) → EachAt P n xs
each_at_left P n [] ys h = tt
each_at_left P n (x ∷ xs) ys h = (h.0, each_at_left P (suc n) xs ys h.1)

each_at_right : (P : ℕ → ℕ → Type 0) (n m : ℕ) (xs ys : List Entry) → m ≡ n + length xs → EachAt P n (xs ++ ys) → EachAt P m ys
each_at_right P n m [] ys e h = (let e' : n ≡ m = omega (arith, e) in subst (λ k. EachAt P k ys) e' h)
each_at_right P n m (x ∷ xs) ys e h = each_at_right P (suc n) m xs ys (omega (arith, e)) h.1

each_at_joined : (P : ℕ → ℕ → Type 0) (n m : ℕ) (xs ys : List Entry) → m ≡ n + length xs → EachAt P n xs → EachAt P m ys → EachAt P n (xs ++ ys)
each_at_joined P n m [] ys e hx hy = (let e' : m ≡ n = omega (arith, e) in subst (λ k. EachAt P k ys) e' hy)
each_at_joined P n m (x ∷ xs) ys e hx hy = (hx.0, each_at_joined P (suc n) m xs ys (omega (arith, e)) hx.1 hy)

each_at_from : (P : ℕ → ℕ → Type 0) (Q : ℕ → Type 0) (n : ℕ) (xs : List Entry) → ((k c : ℕ) → n ≤ k → k < n + length xs → Q c → P k c) → Each Q xs → EachAt P n xs
each_at_from P Q n [] f h = tt
each_at_from P Q n (x ∷ xs) f h = (f n x.child (omega arith) (omega arith) h.0, each_at_from P Q (suc n) xs (λ k c le lt q. f k c (omega (arith, le)) (omega (arith, lt)) q) h.1)

pub each_at_to : (P : ℕ → ℕ → Type 0) (Q : ℕ → Type 0) (n : ℕ) (xs : List Entry) → ((k c : ℕ) → n ≤ k → k < n + length xs → P k c → Q c) → EachAt P n xs → Each Q xs
each_at_to P Q n [] f h = tt
each_at_to P Q n (x ∷ xs) f h = (f n x.child (omega arith) (omega arith) h.0, each_at_to P Q (suc n) xs (λ k c le lt q. f k c (omega (arith, le)) (omega (arith, lt)) q) h.1)

-- child i is a tree that may lack an item, and every other one isn't
pub record LacksAt (M : ℕ → Node) (h half less i k c : ℕ) : Type 0 where
  pub here : k ≡ i → IsTreeIn M h less c
  pub other : k ≢ i → IsTreeIn M h half c

-- A removal from child i.
module _ (N M : ℕ → Node) (given : List ℕ) (h least at less i : ℕ) (key : List ℕ) (tree : IsTreeIn N (suc h) least at) (once : (j : ℕ) → times j (nodes_under N (suc h) at) ≤ 1)
    (first : Entry) (items : List Item) (E_is : entries (N at) ≡ (first ∷ map entry items)) (s : Stand (items_under N h) first items key i)
    (child : RemovesTree N M given h less s.here.child key) where
  abbrev A : List Entry
  A = s.before

  abbrev C : List Entry
  C = s.after

  abbrev c : ℕ
  c = s.here.child

  abbrev one : List Entry
  one = s.here ∷ []

  E_apart : entries (N at) ≡ s.before ++ (s.here ∷ s.after)
  E_apart = E_is ∙ s.is

  parts : Each (IsTreeIn N h (N at).half) (s.before ++ (s.here ∷ s.after))
  parts = subst (Each (IsTreeIn N h (N at).half)) E_apart tree.1

  trees_A : Each (IsTreeIn N h (N at).half) s.before
  trees_A = each_left (IsTreeIn N h (N at).half) A (s.here ∷ C) parts

  trees_C : Each (IsTreeIn N h (N at).half) s.after
  trees_C = (let t = each_right (IsTreeIn N h (N at).half) A (s.here ∷ C) parts in t.1)

  -- how often a page stands below them
  pub count_apart : (j : ℕ) → times j (nodes_under N (suc h) at) ≡ times j (at ∷ []) + (times j (flat (nodes_under N h) s.before) + (times j (nodes_under N h s.here.child) + times j (flat (nodes_under N h) s.after)))
  count_apart j =
      let e : times j (flat (nodes_under N h) (entries (N at))) ≡ times j (flat (nodes_under N h) (A ++ (s.here ∷ C))) = ap (λ (es : List Entry). times j (flat (nodes_under N h) es)) E_apart in
      omega (
        arith,
        e,
        times-append j (at ∷ []) (flat (nodes_under N h) (entries (N at))),
        ap (λ t. times j t) (flat_joined (nodes_under N h) A (s.here ∷ C)),
        times-append j (flat (nodes_under N h) A) (nodes_under N h c ++ flat (nodes_under N h) C),
        times-append j (nodes_under N h c) (flat (nodes_under N h) C),
      )

  same_A : (j : ℕ) → 1 ≤ times j (flat (nodes_under N h) s.before) → M j ≡ N j
  same_A j some = child.others j (λ spare. flat_trees_used N h (N at).half j A trees_A some spare) (omega (arith, some, once j, count_apart j))

  same_C : (j : ℕ) → 1 ≤ times j (flat (nodes_under N h) s.after) → M j ≡ N j
  same_C j some = child.others j (λ spare. flat_trees_used N h (N at).half j C trees_C some spare) (omega (arith, some, once j, count_apart j))

  at_used : IsSpare (N at) → ⊥
  at_used spare = spare.inner tree.0.kind_is

  -- the page itself is as it was
  pub at_same : M at ≡ N at
  at_same = child.others at at_used (omega (arith, once at, count_apart at, times_here at []))

  swap_here : RowSwap N M h (s.here ∷ []) (s.here ∷ []) (end_before s.after None) given
  swap_here = record {
    bounds = λ b. (
      subst (Keys (IsFrom s.here.from)) (sym child.items) (keys_removed (IsFrom s.here.from) (items_under N h c) key b.0),
      subst (Keys (IsUpTo (end_before s.after None))) (sym child.items) (keys_removed (IsUpTo (end_before s.after None)) (items_under N h c) key b.1),
      tt,
    );
    linked = λ after l. subst (λ t. AreLinkedTo M t after) (sym (append-nil (leaves_under M h c))) (child.linked after (subst (λ t. AreLinkedTo N t after) (append-nil (leaves_under N h c)) l));
    first = λ after. ap (λ t. first_or t after) (append-nil (leaves_under M h c)) ∙ child.first after ∙ ap (λ t. first_or t after) (sym (append-nil (leaves_under N h c)));
    nodes = λ j. omega (arith, child.nodes j, times-append j (nodes_under M h c) [], times-append j (nodes_under N h c) []);
  }

  pub row_removed : RowSwap N M h (entries (N at)) (entries (N at)) None given
  row_removed = subst (λ (es : List Entry). RowSwap N M h es es None given) (sym E_apart) (swap_within N M h A s.here [] [] C None given swap_here same_A same_C)

  pub items_removed : flat (items_under M h) (entries (N at)) ≡ remove_in (flat (items_under N h) (entries (N at))) key
  items_removed =
      ap (λ (es : List Entry). flat (items_under M h) es) E_apart
      ∙ flat_joined (items_under M h) A (s.here ∷ C)
      ∙ ap (λ (t : List Item). t ++ (items_under M h c ++ flat (items_under M h) C)) (flat_items_stay N M h A same_A)
      ∙ ap (λ (t : List Item). flat (items_under N h) A ++ (items_under M h c ++ t)) (flat_items_stay N M h C same_C)
      ∙ ap (λ (t : List Item). flat (items_under N h) A ++ (t ++ flat (items_under N h) C)) child.items
      ∙ sym (remove_stand (items_under N h) first items key i s)
      ∙ ap (λ (es : List Entry). remove_in (flat (items_under N h) es) key) (sym E_is)

  -- the trees of the children, by their numbers
  pub trees_removed : EachAt (LacksAt M h (N at).half less i) 0 (entries (N at))
  trees_removed = subst (EachAt (LacksAt M h (N at).half less i) 0) (sym E_apart)
      (each_at_joined (LacksAt M h (N at).half less i) 0 i A (s.here ∷ C) (omega (arith, s.long))
      (each_at_from (LacksAt M h (N at).half less i) (IsTreeIn M h (N at).half) 0 A (λ k x le lt t. record { here = λ e. absurd (omega (arith, e, lt, s.long)); other = λ ne. t }) (trees_stay N M h (N at).half A same_A trees_A)) (
        record { here = λ e. child.tree; other = λ ne. absurd (ne refl) },
        each_at_from (LacksAt M h (N at).half less i) (IsTreeIn M h (N at).half) (suc i) C (λ k x le lt t. record { here = λ e. absurd (omega (arith, e, le)); other = λ ne. t }) (trees_stay N M h (N at).half C same_C trees_C),
      ))

  below_none : (j : ℕ) → times j (nodes_under N (suc h) at) ≡ 0 → times j (nodes_under N h s.here.child) ≡ 0
  below_none j none = omega (arith, none, count_apart j)

  pub others_removed : (j : ℕ) → (IsSpare (N j) → ⊥) → times j (nodes_under N (suc h) at) ≡ 0 → M j ≡ N j
  others_removed j used none = child.others j used (below_none j none)

-- The row of children after a removal and what was made of it then.
module _ (N L : ℕ → Node) (given : List ℕ) (h least least' at : ℕ) (key : List ℕ) (E' : List Entry)
    (plain : IsPlain L INNER_KIND least' at) (half : (L at).half ≡ (N at).half) (here : entries (L at) ≡ E') (bounded : AreBounded (items_under N h) (entries (N at)) None)
    (swap : RowSwap N L h (entries (N at)) E' None given) (trees : Each (IsTreeIn L h (N at).half) E')
    (items : flat (items_under L h) E' ≡ remove_in (flat (items_under N h) (entries (N at))) key)
    (others : (j : ℕ) → (IsSpare (N j) → ⊥) → times j (nodes_under N (suc h) at) ≡ 0 → L j ≡ N j) where
  pub parent_removes : RemovesTree N L given (suc h) least' at key
  parent_removes = record {
    tree = (
      plain,
      subst (λ n. Each (IsTreeIn L h n) (entries (L at))) (sym half) (subst (Each (IsTreeIn L h (N at).half)) (sym here) trees),
      subst (λ (es : List Entry). AreBounded (items_under L h) es None) (sym here) (swap.bounds bounded),
    );
    items = ap (λ (es : List Entry). flat (items_under L h) es) here ∙ items;
    linked = λ after l. subst (λ (es : List Entry). AreLinkedTo L (flat (leaves_under L h) es) after) (sym here) (swap.linked after l);
    first = λ after. ap (λ (es : List Entry). first_or (flat (leaves_under L h) es) after) here ∙ swap.first after;
    nodes = λ j.
        let e : times j (flat (nodes_under L h) (entries (L at))) ≡ times j (flat (nodes_under L h) E') = ap (λ (es : List Entry). times j (flat (nodes_under L h) es)) here in
        omega (arith, e, swap.nodes j, times-append j (at ∷ []) (flat (nodes_under L h) (entries (L at))), times-append j (at ∷ []) (flat (nodes_under N h) (entries (N at))));
    others = others;
  }

-- a tree that has enough items lacks none
pub tree_full : (M : ℕ → Node) (h less half c : ℕ) → half ≤ length (M c).items → IsTreeIn M h less c → IsTreeIn M h half c
tree_full M zero less half c full tree = record { kind_is = tree.kind_is; full = full }
tree_full M (suc h) less half c full tree = (record { kind_is = tree.0.kind_is; full = full }, tree.1, tree.2)

-- a tree that lacks fewer
pub tree_less : (M : ℕ → Node) (h more less c : ℕ) → less ≤ more → IsTreeIn M h more c → IsTreeIn M h less c
tree_less M zero more less c le tree = record { kind_is = tree.kind_is; full = omega (arith, le, tree.full) }
tree_less M (suc h) more less c le tree = (record { kind_is = tree.0.kind_is; full = omega (arith, le, tree.0.full) }, tree.1, tree.2)

-- A pair of children that is mended, among the others.
module _ (M L : ℕ → Node) (h half less i place : ℕ) (before : List Entry) (left right : Entry) (after : List Entry) (rest : List Entry) (given : List ℕ)
    (long : length before ≡ place) (near : (i ≡ place) ⊎ (i ≡ suc place)) (trees : EachAt (LacksAt M h half less i) 0 (before ++ (left ∷ right ∷ after)))
    (same_before : (j : ℕ) → 1 ≤ times j (flat (nodes_under M h) before) → L j ≡ M j) (same_after : (j : ℕ) → 1 ≤ times j (flat (nodes_under M h) after) → L j ≡ M j)
    (swap : RowSwap M L h (left ∷ right ∷ []) (left ∷ rest) (end_before after None) given) (made : Each (IsTreeIn L h half) (left ∷ rest))
    (items : flat (items_under L h) (left ∷ rest) ≡ flat (items_under M h) (left ∷ right ∷ [])) where
  trees_before : Each (IsTreeIn M h half) before
  trees_before = each_at_to (LacksAt M h half less i) (IsTreeIn M h half) 0 before (λ k x le lt t. t.other (λ e. elim near [ inl z ↦ omega (arith, e, z, lt, long) | inr z ↦ omega (arith, e, z, lt, long) ]))
      (each_at_left (LacksAt M h half less i) 0 before (left ∷ right ∷ after) trees)

  pub pair_trees : EachAt (LacksAt M h half less i) place (left ∷ right ∷ after)
  pair_trees = each_at_right (LacksAt M h half less i) 0 place before (left ∷ right ∷ after) (omega (arith, long)) trees

  trees_after : Each (IsTreeIn M h half) after
  trees_after = each_at_to (LacksAt M h half less i) (IsTreeIn M h half) (suc (suc place)) after (λ k x le lt t. t.other (λ e. elim near [ inl z ↦ omega (arith, e, z, le) | inr z ↦ omega (arith, e, z, le) ])) pair_trees.1.1

  pub row_mended : RowSwap M L h (before ++ (left ∷ right ∷ after)) (before ++ (left ∷ (rest ++ after))) None given
  row_mended = swap_within M L h before left (right ∷ []) rest after None given swap same_before same_after

  pub trees_mended : Each (IsTreeIn L h half) (before ++ (left ∷ (rest ++ after)))
  trees_mended = each_joined (IsTreeIn L h half) before ((left ∷ rest) ++ after) (trees_stay M L h half before same_before trees_before) (each_joined (IsTreeIn L h half) (left ∷ rest) after made (trees_stay M L h half after same_after trees_after))

  pub items_mended : flat (items_under L h) (before ++ (left ∷ (rest ++ after))) ≡ flat (items_under M h) (before ++ (left ∷ right ∷ after))
  items_mended =
      flat_joined (items_under L h) before ((left ∷ rest) ++ after)
      ∙ ap (λ (t : List Item). flat (items_under L h) before ++ t) (flat_joined (items_under L h) (left ∷ rest) after)
      ∙ ap (λ (t : List Item). t ++ (flat (items_under L h) (left ∷ rest) ++ flat (items_under L h) after)) (flat_items_stay M L h before same_before)
      ∙ ap (λ (t : List Item). flat (items_under M h) before ++ (flat (items_under L h) (left ∷ rest) ++ t)) (flat_items_stay M L h after same_after)
      ∙ ap (λ (t : List Item). flat (items_under M h) before ++ (t ++ flat (items_under M h) after)) items
      ∙ ap (λ (t : List Item). flat (items_under M h) before ++ t) (sym (flat_joined (items_under M h) (left ∷ right ∷ []) after))
      ∙ sym (flat_joined (items_under M h) before ((left ∷ right ∷ []) ++ after))
