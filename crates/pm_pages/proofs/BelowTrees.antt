-- What holds of all items below an inner page, child by child.
use Rattle.std.proofs.Common.{◌≡◌, ℕ, zero, suc, ◌+◌, ◌-◌, ◌<◌, ◌≤◌, ◌⊎◌, List, [], ◌∷◌, ◌++◌, ◌/◌, false, length, drop, get_or, append_assoc, subst, refl, sym, ap, ◌∙◌, inl, inr, arith}
use Rattle.std.specs.Prelude.{◌↔◌, All}
use Rattle.std.specs.List.{flat_map, range_with_len}
use Rattle.std.proofs.lemmas.Bool.{ne_eqb, eq-eqb}
use Rattle.std.proofs.lemmas.List.{length-append, length-map, get_or_append_left, get_or-append-add, get_or_default, append-nil, drop_more, drop_all}
use Rattle.std.proofs.lemmas.List.Elements.{All-append}
use Rattle.std.proofs.lemmas.List.Concat.{flat_map-append}
use Rattle.pm_btpage.specs.declared.layout.TheConstants.{LEAF_KIND, INNER_KIND}
use Rattle.pm_btpage.specs.IndexPages.{Item, items_of, index_of, capacity_of, IsIndexPage}
use Rattle.pm_pages.proofs.RowsFrom.{range_more}
use Rattle.pm_pages.specs.Rows.{Partition, page_at, kind_of}
use Rattle.pm_pages.specs.PageLists.{MayRead}
use Rattle.pm_pages.specs.Trees.{children_of, child_of, levels_from, leaves_below, nodes_below, items_in, items_below, IsNode, IsWithin, IsTree, IsSomeTree, index_in}

-- all of two lists are all of the first and all of the second
all_parts : {X : Type 0} (P : X → Type 0) (xs ys : List X) → All P (xs ++ ys) → All P xs × All P ys
all_parts P xs ys all = (
  (λ k d lt. subst P (get_or_append_left xs ys d k lt) (all k d (omega (arith, length-append xs ys)))),
  (λ k d lt. subst P (get_or-append-add xs ys k d) (all (length xs + k) d (omega (arith, length-append xs ys)))),
)

-- of the items below children
pub all_below : (P : Item → Type 0) (pages : Partition) (levels : ℕ) (children : List ℕ) → All P (items_in pages (flat_map (leaves_below pages levels) children)) ↔ ((k : ℕ) → k < length children → All P (items_below pages levels (get_or children k 0)))
all_below P pages levels [] = (λ all k lt. absurd (omega arith), λ each k d lt. absurd (omega arith))
all_below P pages levels (child ∷ children) =
    let own : List Item = items_below pages levels child in
    let rest : List ℕ = flat_map (leaves_below pages levels) children in
    let both : items_in pages (leaves_below pages levels child ++ rest) ≡ own ++ items_in pages rest = flat_map-append (λ i. items_of (page_at pages i)) (leaves_below pages levels child) rest in
    let after = all_below P pages levels children in (
      λ all k lt. each_child (all_parts P own (items_in pages rest) (subst (All P) both all)) after.0 k lt,
      λ each. subst (All P) (sym both) (All-append P own (items_in pages rest) (each 0 (omega arith)) (after.1 (λ k lt. each (suc k) (omega (arith, lt))))),
    )
  where
    each_child : All P (items_below pages levels child) × All P (items_in pages (flat_map (leaves_below pages levels) children)) → (All P (items_in pages (flat_map (leaves_below pages levels) children)) → (k : ℕ) → k < length children → All P (items_below pages levels (get_or children k 0))) → (k : ℕ) → k < length {A = ℕ} (child ∷ children) → All P (items_below pages levels (get_or (child ∷ children) k 0))
    each_child parts after zero lt = parts.0
    each_child parts after (suc k) lt = after parts.1 k (omega (arith, lt))

pub length-children : (page : List ℕ) → length (children_of page) ≡ length (items_of page) + 1
length-children page = omega (arith, length-map (items_of page) (λ (item : Item). index_in item.word))

-- an inner page is a tree exactly where it is a node and each child is a tree within its bounds
pub inner_tree : (pages : Partition) (levels least at : ℕ) → IsNode INNER_KIND least (page_at pages at) → ((k : ℕ) → k < length (items_of (page_at pages at)) + 1 → IsTree pages levels (capacity_of (length (page_at pages at)) / 2) (child_of (page_at pages at) k) × All (IsWithin (items_of (page_at pages at)) k) (items_below pages levels (child_of (page_at pages at) k))) → IsTree pages (suc levels) least at
inner_tree pages levels least at node each =
    let page = page_at pages at in
    let long = length-children page in (
      node,
      (λ k d lt. subst (IsTree pages levels (capacity_of (length page) / 2)) (get_or_default (children_of page) k 0 d lt) (each k (omega (arith, long, lt))).0),
      (λ i le. (each i (omega arith)).1),
    )

pub child_tree : (pages : Partition) (levels least at k : ℕ) → IsTree pages (suc levels) least at → k < length (items_of (page_at pages at)) + 1 → IsTree pages levels (capacity_of (length (page_at pages at)) / 2) (child_of (page_at pages at) k) × All (IsWithin (items_of (page_at pages at)) k) (items_below pages levels (child_of (page_at pages at) k))
child_tree pages levels least at k tree lt = (tree.1 k 0 (omega (arith, length-children (page_at pages at), lt)), tree.2 k (omega arith))

pub as_inner : (page : List ℕ) → MayRead page → kind_of page ≡ INNER_KIND → IsIndexPage page × ((index_of page).leaf ≡ false)
as_inner page may kind = elim may [
  | inl none ↦ (let no : kind_of [] ≡ 3 = ap kind_of (sym none) ∙ kind in absurd (omega (arith, no)))
  | inr reads ↦ (reads.inner kind, ne_eqb (kind_of page) LEAF_KIND (λ e. omega (arith, e, kind)))
]

pub inner_kind : (pages : Partition) (levels at : ℕ) → 0 < levels → IsSomeTree pages levels at → kind_of (page_at pages at) ≡ INNER_KIND
inner_kind pages zero at some tree = absurd (omega arith)
inner_kind pages (suc levels) at some tree = tree.1.0.kind_is

pub some_child : (pages : Partition) (levels at k : ℕ) → 0 < levels → IsSomeTree pages levels at → k < length (items_of (page_at pages at)) + 1 → IsSomeTree pages (levels - 1) (child_of (page_at pages at) k)
some_child pages zero at k some tree lt = absurd (omega arith)
some_child pages (suc levels) at k some tree lt =
    let e : levels ≡ suc levels - 1 = omega arith in
    subst (λ n. IsSomeTree pages n (child_of (page_at pages at) k)) e (capacity_of (length (page_at pages at)) / 2, (child_tree pages levels tree.0 at k tree.1 lt).0)

-- the items below a leaf are its own
pub below_leaf : (P : Item → Type 0) (pages : Partition) (levels at : ℕ) → levels ≡ 0 → All P (items_below pages levels at) ↔ All P (items_of (page_at pages at))
below_leaf P pages zero at e = (λ h. subst (All P) (append-nil (items_of (page_at pages at))) h, λ h. subst (All P) (sym (append-nil (items_of (page_at pages at)))) h)
below_leaf P pages (suc levels) at e = absurd (omega (arith, e))

-- the items below an inner page are those below its children
pub below_inner : (P : Item → Type 0) (pages : Partition) (levels at : ℕ) → 0 < levels → All P (items_below pages levels at) ↔ ((k : ℕ) → k < length (items_of (page_at pages at)) + 1 → All P (items_below pages (levels - 1) (child_of (page_at pages at) k)))
below_inner P pages zero at some = absurd (omega arith)
below_inner P pages (suc levels) at some =
    let page = page_at pages at in
    let e : levels ≡ suc levels - 1 = omega arith in
    let all = all_below P pages levels (children_of page) in
    let Q : ℕ → Type 0 = λ n. All P (items_below pages (suc levels) at) ↔ ((k : ℕ) → k < length (items_of page) + 1 → All P (items_below pages n (child_of page k))) in
    subst Q e ((λ h k lt. all.0 h k (omega (arith, length-children page, lt))), (λ h. all.1 (λ k lt. h k (omega (arith, length-children page, lt)))))

-- one child more, of a list that is made of its children's
pub one_child_more : (f : ℕ → List ℕ) (out out' all children : List ℕ) (i child : ℕ) → i < length children → child ≡ get_or children i 0 → out ++ flat_map f (drop i children) ≡ all → out' ≡ out ++ f child → out' ++ flat_map f (drop (i + 1) children) ≡ all
one_child_more f out out' all children i child lt is before more =
    ap (λ (t : List ℕ). t ++ flat_map f (drop (i + 1) children)) (more ∙ ap (λ c. out ++ f c) is)
    ∙ append_assoc out (f (get_or children i 0)) (flat_map f (drop (i + 1) children))
    ∙ ap (λ (cs : List ℕ). out ++ flat_map f cs) (sym (drop_more children i 0 lt))
    ∙ before

-- no child is left
pub no_child_left : (f : ℕ → List ℕ) (out all children : List ℕ) (i : ℕ) → length children ≤ i → out ++ flat_map f (drop i children) ≡ all → out ≡ all
no_child_left f out all children i last before =
    sym (append-nil out) ∙ ap (λ (cs : List ℕ). out ++ flat_map f cs) (sym (drop_all i children last)) ∙ before

pub leaves-inner : (pages : Partition) (levels at : ℕ) (root : List ℕ) → 0 < levels → root ≡ page_at pages at → flat_map (leaves_below pages (levels - 1)) (children_of root) ≡ leaves_below pages levels at
leaves-inner pages zero at root some is = absurd (omega arith)
leaves-inner pages (suc levels) at root some is =
    let e : suc levels - 1 ≡ levels = omega arith in
    ap (λ (p : ℕ × List ℕ). flat_map (leaves_below pages p.0) (children_of p.1)) (λ i. (e i, is i))

pub nodes-inner : (pages : Partition) (levels at : ℕ) (root : List ℕ) → 0 < levels → root ≡ page_at pages at → at ∷ flat_map (nodes_below pages (levels - 1)) (children_of root) ≡ nodes_below pages levels at
nodes-inner pages zero at root some is = absurd (omega arith)
nodes-inner pages (suc levels) at root some is =
    let e : suc levels - 1 ≡ levels = omega arith in
    ap (λ (p : ℕ × List ℕ). at ∷ flat_map (nodes_below pages p.0) (children_of p.1)) (λ i. (e i, is i))

-- where no level is left, or a page is no inner page, there is none
pub levels-none : (pages : Partition) (limit at : ℕ) → (limit ≡ 0) ⊎ (kind_of (page_at pages at) ≡ INNER_KIND → ⊥) → levels_from pages limit at ≡ 0
unfolding levels_from
levels-none pages zero at none = refl
levels-none pages (suc limit) at none = elim none [
  | inl e ↦ absurd (omega (arith, e))
  | inr other ↦ simp (ne_eqb (kind_of (page_at pages at)) INNER_KIND other) refl
]

-- an inner page is a level more than its first child
pub levels-inner : (pages : Partition) (limit at : ℕ) → 0 < limit → kind_of (page_at pages at) ≡ INNER_KIND → levels_from pages limit at ≡ 1 + levels_from pages (limit - 1) (child_of (page_at pages at) 0)
unfolding levels_from
levels-inner pages zero at some is = absurd (omega arith)
levels-inner pages (suc limit) at some is =
    let e : limit ≡ suc limit - 1 = omega arith in
    simp (eq-eqb (kind_of (page_at pages at)) INNER_KIND is) (ap (λ n. 1 + levels_from pages n (child_of (page_at pages at) 0)) e)

-- what holds of each child's list holds of all
all_flat : (P : ℕ → Type 0) (f : ℕ → List ℕ) (xs : List ℕ) → ((k d : ℕ) → k < length xs → All P (f (get_or xs k d))) → All P (flat_map f xs)
all_flat P f [] each = λ k d lt. absurd (omega arith)
all_flat P f (x ∷ xs) each = All-append P (f x) (flat_map f xs) (each 0 0 (omega arith)) (all_flat P f xs (λ k d lt. each (suc k) d (omega (arith, lt))))

-- the leaves of a tree are leaves
pub all_leaves : (pages : Partition) (levels least at : ℕ) → IsTree pages levels least at → All (λ i. kind_of (page_at pages i) ≡ LEAF_KIND) (leaves_below pages levels at)
all_leaves pages zero least at tree = one at tree.kind_is
  where
    one : (at : ℕ) → kind_of (page_at pages at) ≡ LEAF_KIND → (k d : ℕ) → k < length {A = ℕ} (at ∷ []) → kind_of (page_at pages (get_or (at ∷ []) k d)) ≡ LEAF_KIND
    one at kind zero d lt = kind
    one at kind (suc k) d lt = absurd (omega (arith, lt))
all_leaves pages (suc levels) least at tree =
    all_flat (λ i. kind_of (page_at pages i) ≡ LEAF_KIND) (leaves_below pages levels) (children_of (page_at pages at)) (λ k d lt. all_leaves pages levels (capacity_of (length (page_at pages at)) / 2) (get_or (children_of (page_at pages at)) k d) (tree.1 k d lt))

-- one number's list more
pub one_list_more : (f : ℕ → List ℕ) (out out' all : List ℕ) (i n : ℕ) → i < n → out ++ flat_map f (range_with_len i (n - i)) ≡ all → out' ≡ out ++ f i → out' ++ flat_map f (range_with_len (i + 1) (n - (i + 1))) ≡ all
one_list_more f out out' all i n lt before more =
    ap (λ (t : List ℕ). t ++ flat_map f (range_with_len (i + 1) (n - (i + 1)))) more
    ∙ append_assoc out (f i) (flat_map f (range_with_len (i + 1) (n - (i + 1))))
    ∙ ap (λ (is : List ℕ). out ++ flat_map f is) (sym (range_more i n lt))
    ∙ before

-- no number is left
pub no_list_left : (f : ℕ → List ℕ) (out all : List ℕ) (i n : ℕ) → n ≤ i → out ++ flat_map f (range_with_len i (n - i)) ≡ all → out ≡ all
no_list_left f out all i n le before =
    let e : 0 ≡ n - i = omega arith in
    sym (append-nil out) ∙ ap (λ m. out ++ flat_map f (range_with_len i m)) e ∙ before
