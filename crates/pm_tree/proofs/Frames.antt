-- A tree whose pages say what they said is the same tree.
use Rattle.std.proofs.Common.{◌≡◌, ℕ, zero, suc, ◌≤◌, List, [], ◌∷◌, ◌++◌, length, refl, sym, ap, subst, ◌∙◌, inl, inr, arith}
use Rattle.std.specs.Prelude.{Option, None}
use Rattle.std.proofs.lemmas.Bool.{cases_eq, cases_lt}
use Rattle.pm_pages.specs.Chains.{times}
use Rattle.pm_pages.proofs.ChainWalks.{times-append, times_here, times_other}
use Rattle.pm_tree.specs.Nodes.{Node, Entry, entries, items_under, leaves_under, nodes_under, IsFrom, IsUpTo, end_before, AreBounded, Each, IsTreeIn, first_or, AreLinkedTo, Keys}
use Rattle.pm_tree.specs.Puts.{flat, IsSpare}

-- the page of a tree stands among its pages
pub root_stands : (N : ℕ → Node) (levels at : ℕ) → 1 ≤ times at (nodes_under N levels at)
root_stands N zero at = omega (arith, times_here at [])
root_stands N (suc levels) at = omega (arith, times_here at (flat (nodes_under N levels) (entries (N at))))

module _ (N N' : ℕ → Node) where
  -- on these pages nothing changed
  abbrev pub SameOn : List ℕ → Type 0
  SameOn pages = (j : ℕ) → 1 ≤ times j pages → N' j ≡ N j

  same_left : (xs ys : List ℕ) → SameOn (xs ++ ys) → SameOn xs
  same_left xs ys same j h = same j (omega (arith, h, times-append j xs ys))

  same_right : (xs ys : List ℕ) → SameOn (xs ++ ys) → SameOn ys
  same_right xs ys same j h = same j (omega (arith, h, times-append j xs ys))

  same_tail : (x : ℕ) (xs : List ℕ) → SameOn (x ∷ xs) → SameOn xs
  same_tail x xs same j h = same j (omega (arith, h, times-append j (x ∷ []) xs))

  -- what is the same below each entry is the same joined
  flat_same : {A : Type 0} (f f' : ℕ → List A) (g : ℕ → List ℕ) (es : List Entry) → ((i : ℕ) → SameOn (g i) → f' i ≡ f i) → SameOn (flat g es) → flat f' es ≡ flat f es
  flat_same f f' g [] each same = refl
  flat_same f f' g (e ∷ es) each same =
      ap (λ t. t ++ flat f' es) (each e.child (same_left (g e.child) (flat g es) same))
      ∙ ap (λ t. f e.child ++ t) (flat_same f f' g es each (same_right (g e.child) (flat g es) same))

  pub nodes_stay : (levels at : ℕ) → SameOn (nodes_under N levels at) → nodes_under N' levels at ≡ nodes_under N levels at
  nodes_stay zero at same = refl
  nodes_stay (suc levels) at same =
      let rest = flat (nodes_under N levels) (entries (N at)) in
      let here : N' at ≡ N at = same at (omega (arith, times_here at rest)) in
      ap (λ (n : Node). at ∷ flat (nodes_under N' levels) (entries n)) here
      ∙ ap (λ t. at ∷ t) (flat_same (nodes_under N levels) (nodes_under N' levels) (nodes_under N levels) (entries (N at)) (λ i s. nodes_stay levels i s) (same_tail at rest same))

  pub items_stay : (levels at : ℕ) → SameOn (nodes_under N levels at) → items_under N' levels at ≡ items_under N levels at
  items_stay zero at same = ap (λ (n : Node). n.items) (same at (omega (arith, times_here at [])))
  items_stay (suc levels) at same =
      let rest = flat (nodes_under N levels) (entries (N at)) in
      let here : N' at ≡ N at = same at (omega (arith, times_here at rest)) in
      ap (λ (n : Node). flat (items_under N' levels) (entries n)) here
      ∙ flat_same (items_under N levels) (items_under N' levels) (nodes_under N levels) (entries (N at)) (λ i s. items_stay levels i s) (same_tail at rest same)

  pub leaves_stay : (levels at : ℕ) → SameOn (nodes_under N levels at) → leaves_under N' levels at ≡ leaves_under N levels at
  leaves_stay zero at same = refl
  leaves_stay (suc levels) at same =
      let rest = flat (nodes_under N levels) (entries (N at)) in
      let here : N' at ≡ N at = same at (omega (arith, times_here at rest)) in
      ap (λ (n : Node). flat (leaves_under N' levels) (entries n)) here
      ∙ flat_same (leaves_under N levels) (leaves_under N' levels) (nodes_under N levels) (entries (N at)) (λ i s. leaves_stay levels i s) (same_tail at rest same)

  pub flat_items_stay : (levels : ℕ) (es : List Entry) → SameOn (flat (nodes_under N levels) es) → flat (items_under N' levels) es ≡ flat (items_under N levels) es
  flat_items_stay levels es same = flat_same (items_under N levels) (items_under N' levels) (nodes_under N levels) es (λ i s. items_stay levels i s) same

  pub flat_leaves_stay : (levels : ℕ) (es : List Entry) → SameOn (flat (nodes_under N levels) es) → flat (leaves_under N' levels) es ≡ flat (leaves_under N levels) es
  flat_leaves_stay levels es same = flat_same (leaves_under N levels) (leaves_under N' levels) (nodes_under N levels) es (λ i s. leaves_stay levels i s) same

  pub flat_nodes_stay : (levels : ℕ) (es : List Entry) → SameOn (flat (nodes_under N levels) es) → flat (nodes_under N' levels) es ≡ flat (nodes_under N levels) es
  flat_nodes_stay levels es same = flat_same (nodes_under N levels) (nodes_under N' levels) (nodes_under N levels) es (λ i s. nodes_stay levels i s) same

  -- bounds are of the items alone
  pub bounds_stay : (levels : ℕ) (es : List Entry) (end : Option (List ℕ)) → SameOn (flat (nodes_under N levels) es) → AreBounded (items_under N levels) es end → AreBounded (items_under N' levels) es end
  bounds_stay levels [] end same bounded = tt
  bounds_stay levels (e ∷ es) end same bounded =
      let own = sym (items_stay levels e.child (same_left (nodes_under N levels e.child) (flat (nodes_under N levels) es) same)) in (
        subst (Keys (IsFrom e.from)) own bounded.0,
        subst (Keys (IsUpTo (end_before es end))) own bounded.1,
        bounds_stay levels es end (same_right (nodes_under N levels e.child) (flat (nodes_under N levels) es) same) bounded.2,
      )

  each_stay : (P P' : ℕ → Type 0) (g : ℕ → List ℕ) (es : List Entry) → ((i : ℕ) → SameOn (g i) → P i → P' i) → SameOn (flat g es) → Each P es → Each P' es
  each_stay P P' g [] f same each = tt
  each_stay P P' g (e ∷ es) f same each = (f e.child (same_left (g e.child) (flat g es) same) each.0, each_stay P P' g es f (same_right (g e.child) (flat g es) same) each.1)

  pub tree_stays : (levels least at : ℕ) → SameOn (nodes_under N levels at) → IsTreeIn N levels least at → IsTreeIn N' levels least at
  tree_stays zero least at same tree =
      let here : N' at ≡ N at = same at (omega (arith, times_here at [])) in
      record { kind_is = ap (λ (n : Node). n.kind) here ∙ tree.kind_is; full = omega (arith, tree.full, ap (λ (n : Node). length n.items) here) }
  tree_stays (suc levels) least at same tree =
      let rest = flat (nodes_under N levels) (entries (N at)) in
      let here : N' at ≡ N at = same at (omega (arith, times_here at rest)) in
      let below = same_tail at rest same in (
        record { kind_is = ap (λ (n : Node). n.kind) here ∙ tree.0.kind_is; full = omega (arith, tree.0.full, ap (λ (n : Node). length n.items) here) },
        subst (λ (n : Node). Each (IsTreeIn N' levels n.half) (entries n)) (sym here) (each_stay (IsTreeIn N levels (N at).half) (IsTreeIn N' levels (N at).half) (nodes_under N levels) (entries (N at)) (λ i s t. tree_stays levels (N at).half i s t) below tree.1),
        subst (λ (n : Node). AreBounded (items_under N' levels) (entries n) None) (sym here) (bounds_stay levels (entries (N at)) None below tree.2),
      )

  pub trees_stay : (levels least : ℕ) (es : List Entry) → SameOn (flat (nodes_under N levels) es) → Each (IsTreeIn N levels least) es → Each (IsTreeIn N' levels least) es
  trees_stay levels least es same each = each_stay (IsTreeIn N levels least) (IsTreeIn N' levels least) (nodes_under N levels) es (λ i s t. tree_stays levels least i s t) same each

  pub links_stay : (leaves : List ℕ) (after : ℕ) → SameOn leaves → AreLinkedTo N leaves after → AreLinkedTo N' leaves after
  links_stay [] after same linked = tt
  links_stay (leaf ∷ leaves) after same linked = (ap (λ (n : Node). n.link) (same leaf (omega (arith, times_here leaf leaves))) ∙ linked.0, links_stay leaves after (same_tail leaf leaves same) linked.1)

-- the leaves of a tree are among its pages
flat_few : (f g : ℕ → List ℕ) (j : ℕ) (es : List Entry) → ((i : ℕ) → times j (f i) ≤ times j (g i)) → times j (flat f es) ≤ times j (flat g es)
flat_few f g j [] each = omega arith
flat_few f g j (e ∷ es) each = omega (arith, times-append j (f e.child) (flat f es), times-append j (g e.child) (flat g es), each e.child, flat_few f g j es each)

pub leaves_few : (N : ℕ → Node) (levels at j : ℕ) → times j (leaves_under N levels at) ≤ times j (nodes_under N levels at)
leaves_few N zero at j = omega arith
leaves_few N (suc levels) at j = omega (arith, times-append j (at ∷ []) (flat (nodes_under N levels) (entries (N at))), flat_few (leaves_under N levels) (nodes_under N levels) j (entries (N at)) (λ i. leaves_few N levels i j))

pub flat_leaves_few : (N : ℕ → Node) (levels : ℕ) (es : List Entry) (j : ℕ) → times j (flat (leaves_under N levels) es) ≤ times j (flat (nodes_under N levels) es)
flat_leaves_few N levels es j = flat_few (leaves_under N levels) (nodes_under N levels) j es (λ i. leaves_few N levels i j)

-- a page of a tree is no spare page
flat_used : (N : ℕ → Node) (levels least j : ℕ) (es : List Entry) → ((i : ℕ) → IsTreeIn N levels least i → 1 ≤ times j (nodes_under N levels i) → IsSpare (N j) → ⊥) → Each (IsTreeIn N levels least) es → 1 ≤ times j (flat (nodes_under N levels) es) → IsSpare (N j) → ⊥
flat_used N levels least j [] each trees some spare = omega (arith, some)
flat_used N levels least j (e ∷ es) each trees some spare = elim (cases_lt 0 (times j (nodes_under N levels e.child))) [
  | inl here ↦ each e.child trees.0 (omega (arith, here)) spare
  | inr none ↦ flat_used N levels least j es each trees.1 (omega (arith, some, none, times-append j (nodes_under N levels e.child) (flat (nodes_under N levels) es))) spare
]

pub used : (N : ℕ → Node) (levels least at j : ℕ) → IsTreeIn N levels least at → 1 ≤ times j (nodes_under N levels at) → IsSpare (N j) → ⊥
used N zero least at j tree some spare = elim (cases_eq at j) [
  | inl e ↦ spare.leaf (ap (λ i. (N i).kind) (sym e) ∙ tree.kind_is)
  | inr ne ↦ omega (arith, some, times_other j at [] ne)
]
used N (suc levels) least at j tree some spare = elim (cases_eq at j) [
  | inl e ↦ spare.inner (ap (λ i. (N i).kind) (sym e) ∙ tree.0.kind_is)
  | inr ne ↦ flat_used N levels (N at).half j (entries (N at)) (λ i t s. used N levels (N at).half i j t s) tree.1 (omega (arith, some, times_other j at (flat (nodes_under N levels) (entries (N at))) ne)) spare
]

pub flat_trees_used : (N : ℕ → Node) (levels least j : ℕ) (es : List Entry) → Each (IsTreeIn N levels least) es → 1 ≤ times j (flat (nodes_under N levels) es) → IsSpare (N j) → ⊥
flat_trees_used N levels least j es trees some spare = flat_used N levels least j es (λ i t s. used N levels least i j t s) trees some spare

-- leaves in a row, and what follows them
pub first_joined : (xs ys : List ℕ) (after : ℕ) → first_or (xs ++ ys) after ≡ first_or xs (first_or ys after)
first_joined [] ys after = refl
first_joined (x ∷ xs) ys after = refl

pub linked_apart : (N : ℕ → Node) (xs ys : List ℕ) (after : ℕ) → AreLinkedTo N (xs ++ ys) after → AreLinkedTo N xs (first_or ys after) × AreLinkedTo N ys after
linked_apart N [] ys after linked = (tt, linked)
linked_apart N (x ∷ xs) ys after linked = (let more = linked_apart N xs ys after linked.1 in ((linked.0 ∙ first_joined xs ys after, more.0), more.1))

pub linked_joined : (N : ℕ → Node) (xs ys : List ℕ) (after : ℕ) → AreLinkedTo N xs (first_or ys after) → AreLinkedTo N ys after → AreLinkedTo N (xs ++ ys) after
linked_joined N [] ys after hx hy = hy
linked_joined N (x ∷ xs) ys after hx hy = (hx.0 ∙ sym (first_joined xs ys after), linked_joined N xs ys after hx.1 hy)
