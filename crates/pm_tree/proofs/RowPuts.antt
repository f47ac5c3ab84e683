-- A child's row of trees in place of the child, among the entries of its parent.
use Rattle.std.proofs.Common.{◌≡◌, ℕ, ◌+◌, ◌≤◌, List, [], ◌∷◌, ◌++◌, map, refl, sym, ap, subst, ◌∙◌, arith}
use Rattle.std.specs.Prelude.{Option, None}
use Rattle.pm_btpage.specs.IndexPages.{Item}
use Rattle.pm_pages.specs.Chains.{times}
use Rattle.pm_tree.specs.Maps.{put_in}
use Rattle.pm_tree.specs.Nodes.{Node, Entry, entry, items_under, leaves_under, nodes_under, IsFrom, IsUpTo, end_before, AreBounded, Each, IsTreeIn, first_or, AreLinkedTo, Keys}
use Rattle.pm_tree.specs.Puts.{flat, PutsTree}
use Rattle.pm_tree.proofs.MapLists.{keys_left, keys_right, keys_put}
use Rattle.pm_tree.proofs.Seams.{Seam, put_seam, flat_joined, each_left, each_right, each_joined}
use Rattle.pm_pages.proofs.ChainWalks.{times-append}
use Rattle.pm_tree.proofs.Frames.{flat_items_stay, flat_leaves_stay, flat_nodes_stay, bounds_stay, trees_stay, links_stay, flat_leaves_few, flat_trees_used, first_joined, linked_apart, linked_joined}

end_joined : (xs ys : List Entry) (end : Option (List ℕ)) → end_before (xs ++ ys) end ≡ end_before xs (end_before ys end)
end_joined [] ys end = refl
end_joined (x ∷ xs) ys end = refl

pub bounds_apart : (f : ℕ → List Item) (xs ys : List Entry) (end : Option (List ℕ)) → AreBounded f (xs ++ ys) end → AreBounded f xs (end_before ys end) × AreBounded f ys end
bounds_apart f [] ys end b = (tt, b)
bounds_apart f (x ∷ xs) ys end b =
    let more = bounds_apart f xs ys end b.2 in
    ((b.0, subst (λ o. Keys (IsUpTo o) (f x.child)) (end_joined xs ys end) b.1, more.0), more.1)

pub bounds_joined : (f : ℕ → List Item) (xs ys : List Entry) (end : Option (List ℕ)) → AreBounded f xs (end_before ys end) → AreBounded f ys end → AreBounded f (xs ++ ys) end
bounds_joined f [] ys end hx hy = hy
bounds_joined f (x ∷ xs) ys end hx hy = (hx.0, subst (λ o. Keys (IsUpTo o) (f x.child)) (sym (end_joined xs ys end)) hx.1, bounds_joined f xs ys end hx.2 hy)

-- keys that end earlier
pub bounds_end : (f : ℕ → List Item) (es : List Entry) (end : Option (List ℕ)) → AreBounded f es None → Keys (IsUpTo end) (flat f es) → AreBounded f es end
bounds_end f [] end b keys = tt
bounds_end f (e ∷ []) end b keys = (b.0, keys_left (IsUpTo end) (f e.child) [] keys, tt)
bounds_end f (e ∷ e2 ∷ es) end b keys = (b.0, b.1, bounds_end f (e2 ∷ es) end b.2 (keys_right (IsUpTo end) (f e.child) (flat f (e2 ∷ es)) keys))

-- the entries E' in place of E
pub record RowPut (N M : ℕ → Node) (made : List ℕ) (h half : ℕ) (E E' : List Entry) (key : List ℕ) (word : ℕ) : Type 0 where
  pub trees : Each (IsTreeIn M h half) E'
  pub bounds : AreBounded (items_under M h) E' None
  pub items : flat (items_under M h) E' ≡ put_in (flat (items_under N h) E) key word
  pub linked : (after : ℕ) → AreLinkedTo N (flat (leaves_under N h) E) after → AreLinkedTo M (flat (leaves_under M h) E') after
  pub first : (after : ℕ) → first_or (flat (leaves_under M h) E') after ≡ first_or (flat (leaves_under N h) E) after
  pub nodes : (j : ℕ) → times j (flat (nodes_under M h) E') ≡ times j (flat (nodes_under N h) E) + times j made

module _ (N M : ℕ → Node) (made : List ℕ) (h half : ℕ) (first : Entry) (items : List Item) (key : List ℕ) (i word : ℕ) (s : Seam (items_under N h) first items key i) (rest : List Entry)
    (trees : Each (IsTreeIn N h half) (first ∷ map entry items)) (bounded : AreBounded (items_under N h) (first ∷ map entry items) None)
    (once : (j : ℕ) → times j (flat (nodes_under N h) (first ∷ map entry items)) ≤ 1) (child : PutsTree N M made h half s.here.child key word rest) where
  E : List Entry
  E = first ∷ map entry items

  abbrev A : List Entry
  A = s.before

  abbrev C : List Entry
  C = s.after

  abbrev c : ℕ
  c = s.here.child

  abbrev R : List Entry
  R = s.here ∷ rest

  -- how often a page stands below them
  count : (j : ℕ) → times j (flat (nodes_under N h) (first ∷ map entry items)) ≡ times j (flat (nodes_under N h) A) + (times j (nodes_under N h c) + times j (flat (nodes_under N h) C))
  count j =
      let e : times j (flat (nodes_under N h) (first ∷ map entry items)) ≡ times j (flat (nodes_under N h) (A ++ (s.here ∷ C))) = ap (λ (es : List Entry). times j (flat (nodes_under N h) es)) s.is in
      e ∙ ap (λ t. times j t) (flat_joined (nodes_under N h) A (s.here ∷ C)) ∙ times-append j (flat (nodes_under N h) A) (nodes_under N h c ++ flat (nodes_under N h) C)
      ∙ ap (λ n. times j (flat (nodes_under N h) A) + n) (times-append j (nodes_under N h c) (flat (nodes_under N h) C))

  parts : Each (IsTreeIn N h half) (A ++ (s.here ∷ C))
  parts = subst (Each (IsTreeIn N h half)) s.is trees

  trees_A : Each (IsTreeIn N h half) A
  trees_A = each_left (IsTreeIn N h half) A (s.here ∷ C) parts

  trees_C : Each (IsTreeIn N h half) C
  trees_C = (let t = each_right (IsTreeIn N h half) A (s.here ∷ C) parts in t.1)

  same_A : (j : ℕ) → 1 ≤ times j (flat (nodes_under N h) A) → M j ≡ N j
  same_A j some = child.others j (λ spare. flat_trees_used N h half j A trees_A some spare) (omega (arith, some, once j, count j))

  same_C : (j : ℕ) → 1 ≤ times j (flat (nodes_under N h) C) → M j ≡ N j
  same_C j some = child.others j (λ spare. flat_trees_used N h half j C trees_C some spare) (omega (arith, some, once j, count j))

  bounds_parts : AreBounded (items_under N h) A s.here.from × AreBounded (items_under N h) (s.here ∷ C) None
  bounds_parts = bounds_apart (items_under N h) A (s.here ∷ C) None (subst (λ (es : List Entry). AreBounded (items_under N h) es None) s.is bounded)

  bounds_R : AreBounded (items_under M h) R (end_before C None)
  bounds_R =
      let f = items_under M h in
      let b = bounds_parts.1 in
      let upto : Keys (IsUpTo (end_before C None)) (flat f R) = subst (Keys (IsUpTo (end_before C None))) (sym child.items) (keys_put (IsUpTo (end_before C None)) (items_under N h c) key word s.upto b.1) in
      let from : Keys (IsFrom s.here.from) (flat f R) = subst (Keys (IsFrom s.here.from)) (sym child.items) (keys_put (IsFrom s.here.from) (items_under N h c) key word s.from b.0) in
      bounds_end f R (end_before C None) (keys_left (IsFrom s.here.from) (f c) (flat f rest) from, child.bounds.1, child.bounds.2) upto

  flat3 : {X : Type 0} (f : ℕ → List X) → flat f (A ++ (R ++ C)) ≡ flat f A ++ (flat f R ++ flat f C)
  flat3 f = flat_joined f A (R ++ C) ∙ ap (λ t. flat f A ++ t) (flat_joined f R C)

  flat3_old : {X : Type 0} (f : ℕ → List X) → flat f (first ∷ map entry items) ≡ flat f A ++ (f c ++ flat f C)
  flat3_old f = ap (λ (es : List Entry). flat f es) s.is ∙ flat_joined f A (s.here ∷ C)

  leaves_A : (j : ℕ) → 1 ≤ times j (flat (leaves_under N h) A) → M j ≡ N j
  leaves_A j some = same_A j (omega (arith, some, flat_leaves_few N h A j))

  leaves_C : (j : ℕ) → 1 ≤ times j (flat (leaves_under N h) C) → M j ≡ N j
  leaves_C j some = same_C j (omega (arith, some, flat_leaves_few N h C j))

  leaves_new : flat (leaves_under M h) (A ++ (R ++ C)) ≡ flat (leaves_under N h) A ++ (flat (leaves_under M h) R ++ flat (leaves_under N h) C)
  leaves_new = flat3 (leaves_under M h)
      ∙ ap (λ t. t ++ (flat (leaves_under M h) R ++ flat (leaves_under M h) C)) (flat_leaves_stay N M h A same_A)
      ∙ ap (λ t. flat (leaves_under N h) A ++ (flat (leaves_under M h) R ++ t)) (flat_leaves_stay N M h C same_C)

  pub row_put : RowPut N M made h half (first ∷ map entry items) (s.before ++ ((s.here ∷ rest) ++ s.after)) key word
  row_put = record {
    trees = each_joined (IsTreeIn M h half) A (R ++ C) (trees_stay N M h half A same_A trees_A) (each_joined (IsTreeIn M h half) R C child.trees (trees_stay N M h half C same_C trees_C));
    bounds = bounds_joined (items_under M h) A (R ++ C) None (bounds_stay N M h A s.here.from same_A bounds_parts.0)
        (bounds_joined (items_under M h) R C None bounds_R (bounds_stay N M h C None same_C bounds_parts.1.2));
    items = flat3 (items_under M h)
        ∙ ap (λ (t : List Item). t ++ (flat (items_under M h) R ++ flat (items_under M h) C)) (flat_items_stay N M h A same_A)
        ∙ ap (λ (t : List Item). flat (items_under N h) A ++ (flat (items_under M h) R ++ t)) (flat_items_stay N M h C same_C)
        ∙ ap (λ (t : List Item). flat (items_under N h) A ++ (t ++ flat (items_under N h) C)) child.items
        ∙ sym (put_seam (items_under N h) first items key i word s);
    linked = λ after linked.
        let La = flat (leaves_under N h) A in
        let Lc = leaves_under N h c in
        let Lz = flat (leaves_under N h) C in
        let Lr = flat (leaves_under M h) R in
        let whole : AreLinkedTo N (La ++ (Lc ++ Lz)) after = subst (λ t. AreLinkedTo N t after) (flat3_old (leaves_under N h)) linked in
        let one = linked_apart N La (Lc ++ Lz) after whole in
        let two = linked_apart N Lc Lz after one.1 in
        let same_first : first_or (Lc ++ Lz) after ≡ first_or (Lr ++ Lz) after = first_joined Lc Lz after ∙ sym (child.first (first_or Lz after)) ∙ sym (first_joined Lr Lz after) in
        subst (λ t. AreLinkedTo M t after) (sym leaves_new)
        (linked_joined M La (Lr ++ Lz) after (subst (AreLinkedTo M La) same_first (links_stay N M La (first_or (Lc ++ Lz) after) leaves_A one.0))
        (linked_joined M Lr Lz after (child.linked (first_or Lz after) two.0) (links_stay N M Lz after leaves_C two.1)));
    first = λ after.
        let La = flat (leaves_under N h) A in
        let Lc = leaves_under N h c in
        let Lz = flat (leaves_under N h) C in
        let Lr = flat (leaves_under M h) R in
        ap (λ t. first_or t after) leaves_new ∙ first_joined La (Lr ++ Lz) after
        ∙ ap (λ n. first_or La n) (first_joined Lr Lz after ∙ child.first (first_or Lz after) ∙ sym (first_joined Lc Lz after))
        ∙ sym (first_joined La (Lc ++ Lz) after) ∙ ap (λ t. first_or t after) (sym (flat3_old (leaves_under N h)));
    nodes = λ j.
        let a = times-append j (flat (nodes_under M h) A) (flat (nodes_under M h) R ++ flat (nodes_under M h) C) in
        let b = times-append j (flat (nodes_under M h) R) (flat (nodes_under M h) C) in
        let e = ap (λ t. times j t) (flat3 (nodes_under M h)) in
        let x = ap (λ t. times j t) (flat_nodes_stay N M h A same_A) in
        let y = ap (λ t. times j t) (flat_nodes_stay N M h C same_C) in
        omega (arith, a, b, e, x, y, child.nodes j, count j);
  }
