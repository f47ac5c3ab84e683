-- The leaves of a tree are those that are read from its first one on, where the store reports its pages.
use Rattle.std.proofs.Common.{◌≡◌, ◌≢◌, ℕ, zero, suc, ◌-◌, ◌<◌, ◌≤◌, ◌⊎◌, List, [], ◌∷◌, ◌++◌, length, Some, refl, sym, ap, subst, ◌∙◌, inl, inr, arith}
use Rattle.std.proofs.lemmas.Grind.{flat_map-append}
use Rattle.std.proofs.lemmas.List.{append_assoc, append-nil}
use Rattle.pm_btpage.specs.declared.layout.TheConstants.{LEAF_KIND, INNER_KIND}
use Rattle.pm_btpage.specs.IndexPages.{Item, items_of, index_of}
use Rattle.pm_meta.specs.declared.slots.MetaSlot.{MetaSlot}
use Rattle.pm_pages.specs.Rows.{Partition, bytes_of, page_at, page_count, number_in, number_of, kind_of}
use Rattle.pm_pages.specs.Trees.{child_of, leaves_below, items_in, items_below, first_of, IsSomeTree, AreLinked}
use Rattle.pm_pages.specs.Paged.{Paged}
use Rattle.pm_pages.specs.SoundPages.{PassesAll}
use Rattle.pm_pages.proofs.PageReads.{page_at-below}
use Rattle.pm_pages.proofs.BelowTrees.{some_child, all_leaves}
use Rattle.pm_tree.proofs.SoundLooks.{tree_some}
use Rattle.pm_part.specs.PairReads.{PairsList, WasRead, HadNumber, LeadsDown, WasFirstLeaf, HadPairs, HadLeaf, HadLeaves, HadAllLeaves}
use Rattle.pm_pages.proofs.Quantified.{Each, each_of, each_middle}

-- the bytes of a page that was read
pub read_told : (T : Type 0) (a : Paged) (i : ℕ) (page : List ℕ) → T → WasRead T a i page → a.pages i ≡ Some page
read_told T a i page t read = sym (read.reads.pages t i) ∙ read.in_hand.page

pub number_told : (T : Type 0) (a : Paged) (slot : MetaSlot) (n : ℕ) → T → HadNumber T a slot n → number_in a.pages slot ≡ n
number_told T a slot n t had = ap (λ o. number_of o slot) (read_told T a 0 had.meta t had.read) ∙ sym had.is

pub page_told : (T : Type 0) (a : Paged) (count i : ℕ) (page : List ℕ) → T → count ≡ page_count a.pages → i < count → WasRead T a i page → page_at a.pages i ≡ page
page_told T a count i page t all lt read = page_at-below a.pages i (omega (arith, lt, all)) ∙ ap bytes_of (read_told T a i page t read)

-- the first of some pages, of which there is one
first_left : (xs ys : List ℕ) → 1 ≤ length xs → first_of (xs ++ ys) ≡ first_of xs
first_left [] ys some = absurd (omega (arith, some))
first_left (x ∷ xs) ys some = refl

some_leaf : (pages : Partition) (levels at : ℕ) → 1 ≤ length (leaves_below pages levels at)
some_leaf pages zero at = omega arith
some_leaf pages (suc levels) at = some_joined (leaves_below pages levels (child_of (page_at pages at) 0)) _ (some_leaf pages levels (child_of (page_at pages at) 0))
  where
    some_joined : (xs ys : List ℕ) → 1 ≤ length xs → 1 ≤ length (xs ++ ys)
    some_joined [] ys some = absurd (omega (arith, some))
    some_joined (x ∷ xs) ys some = omega arith

-- what a descent by first children comes to
pub record IsOnLeft (pages : Partition) (root levels n at : ℕ) : Type 0 where
  pub few : n ≤ levels
  pub tree : IsSomeTree pages (levels - n) at
  pub first : first_of (leaves_below pages (levels - n) at) ≡ first_of (leaves_below pages levels root)

down_one : (pages : Partition) (m at : ℕ) → 0 < m → first_of (leaves_below pages (m - 1) (child_of (page_at pages at) 0)) ≡ first_of (leaves_below pages m at)
down_one pages zero at some = absurd (omega (arith, some))
down_one pages (suc m) at some =
    let e : m ≡ suc m - 1 = omega arith in
    subst (λ n. first_of (leaves_below pages n (child_of (page_at pages at) 0)) ≡ first_of (leaves_below pages (suc m) at)) e
    (sym (first_left (leaves_below pages m (child_of (page_at pages at) 0)) _ (some_leaf pages m (child_of (page_at pages at) 0))))

pub tree_kinds : (pages : Partition) (m at : ℕ) → IsSomeTree pages m at → ((m ≡ 0) × (kind_of (page_at pages at) ≡ LEAF_KIND)) ⊎ ((0 < m) × (kind_of (page_at pages at) ≡ INNER_KIND))
tree_kinds pages zero at tree = inl (refl, tree.1.kind_is)
tree_kinds pages (suc m) at tree = inr (omega arith, tree.1.0.kind_is)

pub on_left : (T : Type 0) (a : Paged) (count root levels n from at : ℕ) → T → count ≡ page_count a.pages → IsSomeTree a.pages levels root → LeadsDown T a count root n from at → IsOnLeft a.pages root levels n at
on_left T a count root levels zero from at t all tree leads =
    let e : levels ≡ levels - 0 = omega arith in
    subst (λ i. IsOnLeft a.pages root levels 0 i) (sym leads.1)
    (record { few = omega arith; tree = subst (λ n. IsSomeTree a.pages n root) e tree; first = ap (λ n. first_of (leaves_below a.pages n root)) (sym e) })
on_left T a count root levels (suc n) from at t all tree leads =
    let was = leads.0 in
    let left = on_left T a count root levels n leads.1 from t all tree leads.2 in
    let page : page_at a.pages from ≡ was.page = page_told T a count from was.page t all was.below was.read in
    let child : at ≡ child_of (page_at a.pages from) 0 = was.is.1 ∙ ap (λ (p : List ℕ). child_of p 0) (sym page) in
    let inner : kind_of (page_at a.pages from) ≡ INNER_KIND = ap kind_of page ∙ was.is.0 in
    elim (tree_kinds a.pages (levels - n) from left.tree) [
      | inl leaf ↦ absurd (omega (arith, leaf.1, inner))
      | inr some ↦
          let e : levels - n - 1 ≡ levels - suc n = omega arith in
          subst (λ i. IsOnLeft a.pages root levels (suc n) i) (sym child) (record {
            few = omega (arith, some.0, left.few);
            tree = subst (λ m. IsSomeTree a.pages m (child_of (page_at a.pages from) 0)) e (some_child a.pages (levels - n) from 0 some.0 left.tree (omega arith));
            first = ap (λ m. first_of (leaves_below a.pages m (child_of (page_at a.pages from) 0))) (sym e) ∙ down_one a.pages (levels - n) from some.0 ∙ left.first;
          })
    ]

-- the first leaf that is found is the tree's
pub first_is : (T : Type 0) (a : Paged) (count root levels leaf : ℕ) → T → count ≡ page_count a.pages → IsSomeTree a.pages levels root → WasFirstLeaf T a count root leaf → leaf ≡ first_of (leaves_below a.pages levels root)
first_is T a count root levels leaf t all tree was =
    let left = on_left T a count root levels was.levels was.from leaf t all tree was.read in
    let kind : kind_of (page_at a.pages leaf) ≡ LEAF_KIND = ap kind_of (page_told T a count leaf was.was.page t all was.was.below was.was.read) ∙ was.was.is in
    elim (tree_kinds a.pages (levels - was.levels) leaf left.tree) [
      | inl at ↦ sym (ap (λ m. first_of (leaves_below a.pages m leaf)) (at.0)) ∙ left.first
      | inr inner ↦ absurd (omega (arith, inner.1, kind))
    ]

-- pairs of items, joined
pub had_joined : (T : Type 0) (start : Paged) (count cache : ℕ) (xs ys : List Item) (ps qs : PairsList) → HadPairs T start count cache xs ps → HadPairs T start count cache ys qs → HadPairs T start count cache (xs ++ ys) (ps ++ qs)
had_joined T start count cache [] ys [] qs hp hq = hq
had_joined T start count cache [] ys (p ∷ ps) qs hp hq = absurd hp
had_joined T start count cache (x ∷ xs) ys [] qs hp hq = absurd hp
had_joined T start count cache (x ∷ xs) ys (p ∷ ps) qs hp hq = (hp.0, had_joined T start count cache xs ys ps qs hp.1 hq)

-- the leaves that were read, and those that are left
pub record HasSplit (T : Type 0) (a : Paged) (count cache : ℕ) (leaves : List ℕ) (n at : ℕ) (pairs : PairsList) : Type 0 where
  pub done : List ℕ
  pub left : List ℕ
  pub all : leaves ≡ done ++ left
  pub many : length done ≡ n
  pub next : at ≡ first_of left
  pub pairs_are : HadPairs T a count cache (items_in a.pages done) pairs

linked_at : (pages : Partition) (xs : List ℕ) (leaf : ℕ) (ys : List ℕ) → AreLinked pages (xs ++ leaf ∷ ys) → (index_of (page_at pages leaf)).link ≡ first_of ys
linked_at pages [] leaf ys linked = linked.0
linked_at pages (x ∷ xs) leaf ys linked = linked_at pages xs leaf ys linked.1

length_more : (xs : List ℕ) (x : ℕ) → length (xs ++ x ∷ []) ≡ suc (length xs)
length_more [] x = refl
length_more (y ∷ xs) x = ap (λ (n : ℕ). suc n) (length_more xs x)

pub split : (T : Type 0) (a : Paged) (count cache : ℕ) (leaves : List ℕ) (first n from at : ℕ) (pairs : PairsList) → T → count ≡ page_count a.pages → AreLinked a.pages leaves → first ≡ first_of leaves → HadLeaves T a count cache first n from at pairs → HasSplit T a count cache leaves n at pairs
split T a count cache leaves first zero from at pairs t all linked starts had =
    record { done = []; left = leaves; all = refl; many = refl; next = had.1 ∙ starts; pairs_are = subst (HadPairs T a count cache []) (sym had.2) tt }
split T a count cache leaves first (suc n) from at pairs t all linked starts had =
    further (split T a count cache leaves first n had.4 from had.0 t all linked starts had.5)
  where
    leaf : HadLeaf T a count cache from at had.1
    leaf = had.2

    page : page_at a.pages from ≡ leaf.page
    page = page_told T a count from leaf.page t all leaf.was.below leaf.was.read

    further : HasSplit T a count cache leaves n from had.0 → HasSplit T a count cache leaves (suc n) at pairs
    further s = cases s.left s.all s.next
      where
        cases : (left : List ℕ) → leaves ≡ s.done ++ left → from ≡ first_of left → HasSplit T a count cache leaves (suc n) at pairs
        cases [] all_is next = absurd (omega (arith, leaf.was.some, next))
        cases (l ∷ rest) all_is next =
            let own : HadPairs T a count cache (items_of (page_at a.pages from)) had.1 = subst (λ (p : List ℕ). HadPairs T a count cache (items_of p) had.1) (sym page) leaf.pairs_are in
            let items : items_in a.pages (s.done ++ l ∷ []) ≡ items_in a.pages s.done ++ items_of (page_at a.pages from) =
            flat_map-append (λ i. items_of (page_at a.pages i)) s.done (l ∷ [])
            ∙ ap (λ (t : List Item). items_in a.pages s.done ++ t) (append-nil (items_of (page_at a.pages l)) ∙ ap (λ i. items_of (page_at a.pages i)) (sym next)) in
            record {
              done = s.done ++ l ∷ [];
              left = rest;
              all = all_is ∙ sym (append_assoc s.done (l ∷ []) rest);
              many = length_more s.done l ∙ ap (λ (k : ℕ). suc k) s.many;
              next = leaf.next_is ∙ ap (λ (p : List ℕ). (index_of p).link) (sym page) ∙ ap (λ i. (index_of (page_at a.pages i)).link) next ∙ linked_at a.pages s.done l rest (subst (AreLinked a.pages) all_is linked);
              pairs_are = subst (λ (q : List Item × PairsList). HadPairs T a count cache q.0 q.1) {x = (items_in a.pages s.done ++ items_of (page_at a.pages from), had.0 ++ had.1)} {y = (items_in a.pages (s.done ++ l ∷ []), pairs)} (λ i. (sym items i, sym had.3 i))
                  (had_joined T a count cache (items_in a.pages s.done) (items_of (page_at a.pages from)) had.0 had.1 s.pairs_are own);
            }

-- a leaf of the tree is no first page
pub leaf_some : (a : Paged) (levels root at : ℕ) (done rest : List ℕ) → PassesAll a → IsSomeTree a.pages levels root → leaves_below a.pages levels root ≡ done ++ at ∷ rest → (kind_of (page_at a.pages at) ≡ LEAF_KIND) × (at ≢ 0)
leaf_some a levels root at done rest passes tree is =
    let each = each_of (λ i. kind_of (page_at a.pages i) ≡ LEAF_KIND) (leaves_below a.pages levels root) (all_leaves a.pages levels tree.0 root tree.1) in
    let kind = each_middle (λ i. kind_of (page_at a.pages i) ≡ LEAF_KIND) done at rest (subst (Each (λ i. kind_of (page_at a.pages i) ≡ LEAF_KIND)) is each) in
    (kind, tree_some a 0 0 at passes (record { kind_is = kind; full = omega arith }))

-- the pairs of all leaves are those of all items
pub all_items : (T : Type 0) (a : Paged) (count cache root levels first : ℕ) (pairs : PairsList) → T → count ≡ page_count a.pages → PassesAll a → IsSomeTree a.pages levels root → AreLinked a.pages (leaves_below a.pages levels root) → first ≡ first_of (leaves_below a.pages levels root) → HadAllLeaves T a count cache first pairs → HadPairs T a count cache (items_below a.pages levels root) pairs
all_items T a count cache root levels first pairs t all passes tree linked starts had =
    step (split T a count cache (leaves_below a.pages levels root) first had.leaves had.last 0 pairs t all linked starts had.read)
  where
    step : HasSplit T a count cache (leaves_below a.pages levels root) had.leaves 0 pairs → HadPairs T a count cache (items_below a.pages levels root) pairs
    step s = cases s.left s.all s.next
      where
        cases : (left : List ℕ) → leaves_below a.pages levels root ≡ s.done ++ left → 0 ≡ first_of left → HadPairs T a count cache (items_below a.pages levels root) pairs
        cases [] all_is next = subst (λ (l : List ℕ). HadPairs T a count cache (items_in a.pages l) pairs) (sym (all_is ∙ append-nil s.done)) s.pairs_are
        cases (l ∷ rest) all_is next = absurd ((leaf_some a levels root l s.done rest passes tree all_is).1 (sym next))
