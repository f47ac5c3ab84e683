-- Trees over what their pages say are the trees of a partition.
use Rattle.std.proofs.Common.{◌≡◌, ℕ, zero, suc, ◌+◌, ◌/◌, ◌<◌, ◌≤◌, List, [], ◌∷◌, ◌++◌, map, length, get_or, refl, sym, ap, subst, ◌∙◌, inl, inr, arith}
use Rattle.std.specs.Prelude.{Option, None, Some, All}
use Rattle.std.specs.List.{flat_map}
use Rattle.std.proofs.lemmas.Bool.{cases_lt}
use Rattle.std.proofs.lemmas.List.{append-nil, get_or_default}
use Rattle.std.proofs.lemmas.List.Concat.{flat_map-append}
use Rattle.pm_btpage.specs.IndexPages.{Item, items_of, index_of, key_in, capacity_of, IsBelow}
use Rattle.pm_pages.specs.Rows.{Partition, page_at}
use Rattle.pm_pages.specs.Trees.{children_of, child_of, index_in, leaves_below, nodes_below, items_below, IsKeyWithin, IsWithin, IsTree}
use Rattle.pm_pages.proofs.BelowTrees.{length-children}
use Rattle.pm_tree.specs.Nodes.{node_of, nodes_in, Entry, entry, entries, Keys, items_under, leaves_under, nodes_under, IsFrom, IsUpTo, AreBounded, Each, IsTreeIn}
use Rattle.pm_tree.proofs.MapLists.{keys_by_index, keys_at}

-- of entries as of their children
flat_entries : {A : Type 0} (f : ℕ → List A) (items : List Item) → flat_map (λ (e : Entry). f e.child) (map entry items) ≡ flat_map f (map (λ (item : Item). index_in item.word) items)
flat_entries f [] = refl
flat_entries f (item ∷ items) = ap (λ t. f (index_in item.word) ++ t) (flat_entries f items)

pub flat_children : {A : Type 0} (f : ℕ → List A) (page : List ℕ) → flat_map (λ (e : Entry). f e.child) (entries (node_of page)) ≡ flat_map f (children_of page)
flat_children f page = ap (λ t. f (index_in (index_of page).link) ++ t) (flat_entries f (items_of page))

flat_flat : {A : Type 0} (f : ℕ → List A) (g : ℕ → List ℕ) (xs : List ℕ) → flat_map f (flat_map g xs) ≡ flat_map (λ x. flat_map f (g x)) xs
flat_flat f g [] = refl
flat_flat f g (x ∷ xs) = flat_map-append f (g x) (flat_map g xs) ∙ ap (λ t. flat_map f (g x) ++ t) (flat_flat f g xs)

pub leaves_same : (pages : Partition) (levels at : ℕ) → leaves_under (nodes_in pages) levels at ≡ leaves_below pages levels at
leaves_same pages zero at = refl
leaves_same pages (suc levels) at = (λ j. flat_map (λ (e : Entry). leaves_same pages levels e.child j) (entries (nodes_in pages at))) ∙ flat_children (leaves_below pages levels) (page_at pages at)

pub nodes_same : (pages : Partition) (levels at : ℕ) → nodes_under (nodes_in pages) levels at ≡ nodes_below pages levels at
nodes_same pages zero at = refl
nodes_same pages (suc levels) at = (λ j. at ∷ flat_map (λ (e : Entry). nodes_same pages levels e.child j) (entries (nodes_in pages at))) ∙ ap (λ t. at ∷ t) (flat_children (nodes_below pages levels) (page_at pages at))

pub items_same : (pages : Partition) (levels at : ℕ) → items_under (nodes_in pages) levels at ≡ items_below pages levels at
items_same pages zero at = sym (append-nil (items_of (page_at pages at)))
items_same pages (suc levels) at =
    (λ j. flat_map (λ (e : Entry). items_same pages levels e.child j) (entries (nodes_in pages at)))
    ∙ flat_children (items_below pages levels) (page_at pages at)
    ∙ sym (flat_flat (λ i. items_of (page_at pages i)) (leaves_below pages levels) (children_of (page_at pages at)))

-- the bounds of a child by its number, and the child
pub lower : Option (List ℕ) → List Item → ℕ → Option (List ℕ)
lower from items zero = from
lower from [] (suc i) = None
lower from (x ∷ xs) (suc i) = lower (Some x.key) xs i

pub upper : List Item → ℕ → Option (List ℕ)
upper [] i = None
upper (x ∷ xs) zero = Some x.key
upper (x ∷ xs) (suc i) = upper xs i

unfoldable pub kid : ℕ → List Item → ℕ → ℕ
kid child items zero = child
kid child [] (suc i) = 0
kid child (x ∷ xs) (suc i) = kid (index_in x.word) xs i

pub kid_is : (child : ℕ) (items : List Item) (i : ℕ) → get_or (child ∷ map (λ (item : Item). index_in item.word) items) i 0 ≡ kid child items i
unfolding kid
kid_is child items zero = refl
kid_is child [] (suc i) = refl
kid_is child (x ∷ xs) (suc i) = kid_is (index_in x.word) xs i

pub lower_first : (from : Option (List ℕ)) (items : List Item) → lower from items zero ≡ from
unfolding lower
lower_first from items = refl

pub lower_is : (from : Option (List ℕ)) (items : List Item) (j : ℕ) → j < length items → lower from items (suc j) ≡ Some (key_in items j)
unfolding lower
lower_is from [] j lt = absurd (omega (arith, lt))
lower_is from (x ∷ xs) zero lt = refl
lower_is from (x ∷ xs) (suc j) lt = lower_is (Some x.key) xs j (omega (arith, lt))

pub upper_is : (items : List Item) (i : ℕ) → i < length items → upper items i ≡ Some (key_in items i)
unfolding upper
upper_is [] i lt = absurd (omega (arith, lt))
upper_is (x ∷ xs) zero lt = refl
upper_is (x ∷ xs) (suc i) lt = upper_is xs i (omega (arith, lt))

pub upper_none : (items : List Item) (i : ℕ) → length items ≤ i → upper items i ≡ None
unfolding upper
upper_none [] i le = refl
upper_none (x ∷ xs) zero le = absurd (omega (arith, le))
upper_none (x ∷ xs) (suc i) le = upper_none xs i (omega (arith, le))

keys_any : (P : List ℕ → Type 0) (xs : List Item) → ((k : List ℕ) → P k) → Keys P xs
keys_any P xs f = keys_by_index P xs (λ j lt. f (key_in xs j))

module _ (f : ℕ → List Item) where
  pub by_index : (from : Option (List ℕ)) (child : ℕ) (items : List Item)
      → ((i : ℕ) → i ≤ length items → Keys (IsFrom (lower from items i)) (f (kid child items i)) × Keys (IsUpTo (upper items i)) (f (kid child items i)))
      → AreBounded f (record { from = from; child = child } ∷ map entry items) None
  unfolding lower upper kid
  by_index from child [] each = (let h = each 0 (omega arith) in (h.0, keys_any (IsUpTo None) (f child) (λ k. tt), tt))
  by_index from child (x ∷ xs) each =
      let h = each 0 (omega arith) in
      (h.0, h.1, by_index (Some x.key) (index_in x.word) xs (λ i le. each (suc i) (omega (arith, le))))

  pub at_index : (from : Option (List ℕ)) (child : ℕ) (items : List Item) → AreBounded f (record { from = from; child = child } ∷ map entry items) None
      → (i : ℕ) → i ≤ length items → Keys (IsFrom (lower from items i)) (f (kid child items i)) × Keys (IsUpTo (upper items i)) (f (kid child items i))
  unfolding lower upper kid
  at_index from child [] bounded zero le = (bounded.0, bounded.1)
  at_index from child [] bounded (suc i) le = absurd (omega (arith, le))
  at_index from child (x ∷ xs) bounded zero le = (bounded.0, bounded.1)
  at_index from child (x ∷ xs) bounded (suc i) le = at_index (Some x.key) (index_in x.word) xs bounded.2 i (omega (arith, le))

  each_to : (child : ℕ) (items : List Item) → ((i : ℕ) → i ≤ length items → All (IsWithin items i) (f (get_or (child ∷ map (λ (item : Item). index_in item.word) items) i 0)))
      → AreBounded f (record { from = None; child = child } ∷ map entry items) None
  unfolding lower
  each_to child items each = by_index None child items (λ i le.
      let all : All (IsWithin items i) (f (kid child items i)) = subst (λ c. All (IsWithin items i) (f c)) (kid_is child items i) (each i le) in (
        keys_by_index (IsFrom (lower None items i)) (f (kid child items i)) (λ k lt. low i le (key_in (f (kid child items i)) k) (all k (record { key = []; word = 0 }) lt)),
        keys_by_index (IsUpTo (upper items i)) (f (kid child items i)) (λ k lt. high i (key_in (f (kid child items i)) k) (all k (record { key = []; word = 0 }) lt)),
      ))
    where
      low : (i : ℕ) → i ≤ length items → (key : List ℕ) → IsKeyWithin items i key → IsFrom (lower None items i) key
      low zero le key within = tt
      low (suc i) le key within = subst (λ o. IsFrom o key) (sym (lower_is None items i (omega (arith, le)))) (within.from i (omega arith))

      high : (i : ℕ) (key : List ℕ) → IsKeyWithin items i key → IsUpTo (upper items i) key
      high i key within = elim (cases_lt i (length items)) [
        | inl lt ↦ subst (λ o. IsUpTo o key) (sym (upper_is items i lt)) (within.below lt)
        | inr le ↦ subst (λ o. IsUpTo o key) (sym (upper_none items i le)) tt
      ]

  each_from : (child : ℕ) (items : List Item) → AreBounded f (record { from = None; child = child } ∷ map entry items) None
      → (i : ℕ) → i ≤ length items → All (IsWithin items i) (f (get_or (child ∷ map (λ (item : Item). index_in item.word) items) i 0))
  unfolding lower
  each_from child items bounded i le =
      let h = at_index None child items bounded i le in
      subst (λ c. All (IsWithin items i) (f c)) (sym (kid_is child items i)) (λ k d lt. record {
        from = λ j e b. low j (sub j e) k d lt e b;
        below = λ less. let up : IsUpTo (upper items i) (key_in (f (kid child items i)) k) = keys_at (IsUpTo (upper items i)) (f (kid child items i)) h.1 k lt in
            subst (λ (x : Item). IsBelow x.key (key_in items i)) (get_or_default (f (kid child items i)) k (record { key = []; word = 0 }) d lt) (subst (λ o. IsUpTo o (key_in (f (kid child items i)) k)) (upper_is items i less) up);
      })
    where
      sub : (j : ℕ) → i ≡ j + 1 → j < length items
      sub j e = omega (arith, e, le)

      low : (j : ℕ) → j < length items → (k : ℕ) (d : Item) → k < length (f (kid child items i)) → i ≡ j + 1 → IsBelow (get_or (f (kid child items i)) k d).key (key_in items j) → ⊥
      low j lt' k d lt e b =
          let h = at_index None child items bounded i le in
          let e' : i ≡ suc j = omega (arith, e) in
          let from : IsFrom (lower None items i) (key_in (f (kid child items i)) k) = keys_at (IsFrom (lower None items i)) (f (kid child items i)) h.0 k lt in
          let from' : IsFrom (Some (key_in items j)) (key_in (f (kid child items i)) k) = subst (λ o. IsFrom o (key_in (f (kid child items i)) k)) (ap (λ n. lower None items n) e' ∙ lower_is None items j lt') from in
          from' (subst (λ (x : Item). IsBelow x.key (key_in items j)) (sym (get_or_default (f (kid child items i)) k (record { key = []; word = 0 }) d lt)) b)

each_all : (P : ℕ → Type 0) (items : List Item) → ((k d : ℕ) → k < length items → P (get_or (map (λ (item : Item). index_in item.word) items) k d)) → Each P (map entry items)
each_all P [] h = tt
each_all P (x ∷ xs) h = (h 0 0 (omega arith), each_all P xs (λ k d lt. h (suc k) d (omega (arith, lt))))

all_each : (P : ℕ → Type 0) (items : List Item) → Each P (map entry items) → (k d : ℕ) → k < length items → P (get_or (map (λ (item : Item). index_in item.word) items) k d)
all_each P [] h k d lt = absurd (omega (arith, lt))
all_each P (x ∷ xs) h zero d lt = h.0
all_each P (x ∷ xs) h (suc k) d lt = all_each P xs h.1 k d (omega (arith, lt))

each_weaker : (P Q : ℕ → Type 0) (es : List Entry) → ((i : ℕ) → P i → Q i) → Each P es → Each Q es
each_weaker P Q [] f h = tt
each_weaker P Q (e ∷ es) f h = (f e.child h.0, each_weaker P Q es f h.1)

-- a tree of pages is one of what they say
pub tree_to : (pages : Partition) (levels least at : ℕ) → IsTree pages levels least at → IsTreeIn (nodes_in pages) levels least at
tree_to pages zero least at tree = record { kind_is = tree.kind_is; full = tree.full }
tree_to pages (suc levels) least at tree =
    let page = page_at pages at in
    let half = capacity_of (length page) / 2 in
    let P : ℕ → Type 0 = IsTree pages levels half in
    let Q : ℕ → Type 0 = IsTreeIn (nodes_in pages) levels half in
    let long = length-children page in (
      record { kind_is = tree.0.kind_is; full = tree.0.full },
      (
        tree_to pages levels half (index_in (index_of page).link) (tree.1 0 0 (omega arith)),
        each_weaker P Q (map entry (items_of page)) (λ i t. tree_to pages levels half i t) (each_all P (items_of page) (λ k d lt. tree.1 (suc k) d (omega (arith, long, lt)))),
      ),
      each_to (items_under (nodes_in pages) levels) (index_in (index_of page).link) (items_of page) (λ i le. subst (λ (t : List Item). All (IsWithin (items_of page) i) t) (sym (items_same pages levels (child_of page i))) (tree.2 i le)),
    )

pub tree_from : (pages : Partition) (levels least at : ℕ) → IsTreeIn (nodes_in pages) levels least at → IsTree pages levels least at
tree_from pages zero least at tree = record { kind_is = tree.kind_is; full = tree.full }
tree_from pages (suc levels) least at tree =
    let page = page_at pages at in
    let half = capacity_of (length page) / 2 in (
      record { kind_is = tree.0.kind_is; full = tree.0.full },
      child (λ i t. tree_from pages levels half i t),
      (λ i le. subst (λ (t : List Item). All (IsWithin (items_of page) i) t) (items_same pages levels (child_of page i)) (each_from (items_under (nodes_in pages) levels) (index_in (index_of page).link) (items_of page) tree.2 i le)),
    )
  where
    child : ((i : ℕ) → IsTreeIn (nodes_in pages) levels (capacity_of (length (page_at pages at)) / 2) i → IsTree pages levels (capacity_of (length (page_at pages at)) / 2) i) → (k d : ℕ) → k < length (children_of (page_at pages at)) → IsTree pages levels (capacity_of (length (page_at pages at)) / 2) (get_or (children_of (page_at pages at)) k d)
    child back zero d lt = back (index_in (index_of (page_at pages at)).link) tree.1.0
    child back (suc k) d lt = back (get_or (map (λ (item : Item). index_in item.word) (items_of (page_at pages at))) k d) (all_each (IsTreeIn (nodes_in pages) levels (capacity_of (length (page_at pages at)) / 2)) (items_of (page_at pages at)) tree.1.1 k d (omega (arith, lt, length-children (page_at pages at))))
