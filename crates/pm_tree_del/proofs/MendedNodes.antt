-- What pages that were mended say.
use Rattle.std.proofs.Common.{◌≡◌, ℕ, zero, suc, ◌<◌, ◌⊎◌, true, false, List, [], ◌∷◌, ◌++◌, length, sym, ap, subst, ◌∙◌, inl, inr, arith}
use Rattle.std.specs.Prelude.{Some}
use Rattle.std.proofs.lemmas.Bool.{eq-eqb}
use Rattle.pm_btpage.specs.declared.layout.TheConstants.{LEAF_KIND, INNER_KIND}
use Rattle.pm_btpage.specs.IndexPages.{Item, IndexPage, items_of, index_of, key_in, AllBelow, IsBelow, IsRising, IsIndexPage}
use Rattle.pm_pages.specs.Rows.{kind_of}
use Rattle.pm_pages.specs.PageLists.{IsReadable}
use Rattle.pm_tree.specs.Nodes.{node_of, IsFrom, IsUpTo}
use Rattle.pm_tree.proofs.KeyOrder.{below_then}
use Rattle.pm_tree.proofs.MapLists.{keys_joined, keys_by_index, keys_at}
use Rattle.pm_tree.proofs.Told.{leaf_kind, inner_kind}
use Rattle.pm_tree.proofs.ForkSteps.{inner_says}
use Rattle.pm_tree.proofs.Ascents.{rising_low, rising_high}
use Rattle.pm_tree_del.specs.Neighbours.{joined_items, joined_link, joined, AreOfOneKind, AreApart, Shares}
use Rattle.pm_tree_del.proofs.RemovedItems.{Rises, rises_from, rises_to}
use Rattle.pm_tree_del.proofs.PairSwaps.{JoinsNodes, SharesNodes}

pub leaf_says : (page : List ℕ) → kind_of page ≡ LEAF_KIND → (index_of page).leaf ≡ true
leaf_says page kind = eq-eqb (kind_of page) LEAF_KIND kind

-- pages of a tree read as such
pub reads_left : (left right : List ℕ) → AreOfOneKind left right → IsReadable left → IsIndexPage left
reads_left left right kind reads = elim kind.kind [ inl k ↦ reads.leaf k | inr k ↦ reads.inner k ]

pub reads_right : (left right : List ℕ) → AreOfOneKind left right → IsReadable right → IsIndexPage right
reads_right left right kind reads = elim kind.kind [ inl k ↦ reads.leaf (kind.same ∙ k) | inr k ↦ reads.inner (kind.same ∙ k) ]

-- a page that says so of the same kind
pub kind_kept : (was now : List ℕ) → IsIndexPage now → (kind_of was ≡ LEAF_KIND) ⊎ (kind_of was ≡ INNER_KIND) → (index_of now).leaf ≡ (index_of was).leaf → kind_of now ≡ kind_of was
kind_kept was now page kind same = elim kind [
  | inl k ↦ leaf_kind now (same ∙ leaf_says was k) ∙ sym k
  | inr k ↦ inner_kind now page (same ∙ inner_says was k) ∙ sym k
]

-- rising keys, and others that are above them
rises_joined : (xs ys : List Item) → Rises xs → Rises ys → ((j k : ℕ) → j < length xs → k < length ys → IsBelow (key_in xs j) (key_in ys k)) → Rises (xs ++ ys)
rises_joined [] ys hx hy below = hy
rises_joined (x ∷ xs) ys hx hy below = (
  keys_joined (λ k. IsBelow x.key k) xs ys hx.0 (keys_by_index (λ k. IsBelow x.key k) ys (λ k lt. below 0 k (omega arith) lt)),
  rises_joined xs ys hx.1 hy (λ j k j_lt k_lt. below (suc j) k (omega (arith, j_lt)) k_lt),
)

rises_after : (x : Item) (ys : List Item) → Rises ys → ((k : ℕ) → k < length ys → IsBelow x.key (key_in ys k)) → Rises (x ∷ ys)
rises_after x ys hy above = (keys_by_index (λ k. IsBelow x.key k) ys above, hy)

-- the keys of two inner pages rise with the one that parts them
pub rising_inner : (xs ys : List Item) (x : Item) → IsRising xs → IsRising ys → ((j : ℕ) → j < length xs → IsBelow (key_in xs j) x.key) → ((k : ℕ) → k < length ys → IsBelow x.key (key_in ys k)) → IsRising (xs ++ (x ∷ ys))
rising_inner xs ys x rx ry low high =
    rises_to (xs ++ (x ∷ ys)) (rises_joined xs (x ∷ ys) (rises_from xs rx) (rises_after x ys (rises_from ys ry) high) (λ j k j_lt k_lt. step j k j_lt k_lt))
  where
    step : (j k : ℕ) → j < length xs → k < length (x ∷ ys) → IsBelow (key_in xs j) (key_in (x ∷ ys) k)
    step j zero j_lt k_lt = low j j_lt
    step j (suc k) j_lt k_lt = below_then (key_in xs j) x.key (key_in ys k) (low j j_lt) (high k (omega (arith, k_lt)))

pub rising_leaves : (xs ys : List Item) → IsRising xs → IsRising ys → AllBelow xs ys → IsRising (xs ++ ys)
rising_leaves xs ys rx ry below = rises_to (xs ++ ys) (rises_joined xs ys (rises_from xs rx) (rises_from ys ry) below)

pub joins_nodes : (l r left' key : List ℕ) → index_of left' ≡ joined (index_of l) (index_of r) key → JoinsNodes (node_of l) (node_of r) (node_of left') key
joins_nodes l r left' key is = record {
  leaf = λ k. (
    ap (λ (p : IndexPage). p.items) is ∙ ap (λ b. joined_items b (index_of l) (index_of r) key) (leaf_says l k),
    ap (λ (p : IndexPage). p.link) is ∙ ap (λ b. joined_link b (index_of l) (index_of r)) (leaf_says l k),
  );
  inner = λ k. (
    ap (λ (p : IndexPage). p.items) is ∙ ap (λ b. joined_items b (index_of l) (index_of r) key) (inner_says l k),
    ap (λ (p : IndexPage). p.link) is ∙ ap (λ b. joined_link b (index_of l) (index_of r)) (inner_says l k),
  );
}

pub shares_nodes : (parent l r : List ℕ) (place : ℕ) (parent' left' right' : List ℕ) → IsIndexPage l → IsIndexPage r → (s : Shares parent l r place parent' left' right') → SharesNodes (node_of l) (node_of r) (node_of left') (node_of right') (key_in (items_of parent) place) s.key
shares_nodes parent l r place parent' left' right' li ri s = record {
  leaf = λ k. (subst (λ b. joined_items b (index_of left') (index_of right') s.key ≡ joined_items b (index_of l) (index_of r) key) (leaf_says l k) s.items, s.right_link (leaf_says l k));
  inner = λ k. inner_same k;
  left_link = ap (λ (p : IndexPage). p.link) s.left_is;
  parts = λ k upto from.
      let p = s.parts (leaf_says l k) ((λ j lt. keys_at (IsUpTo (Some key)) (items_of l) upto j lt), (λ j lt. keys_at (IsFrom (Some key)) (items_of r) from j lt)) in
      (keys_by_index (IsUpTo (Some s.key)) (items_of left') p.0, keys_by_index (IsFrom (Some s.key)) (items_of right') p.1);
  below = λ k j lt. rising_low (items_of left') (items_of right') (record { key = s.key; word = (index_of right').link }) (rising_now k) j lt;
  above = λ k j lt. rising_high (items_of left') (items_of right') (record { key = s.key; word = (index_of right').link }) (rising_now k) j lt;
}
  where
    key : List ℕ
    key = key_in (items_of parent) place

    inner_same : kind_of l ≡ INNER_KIND → items_of left' ++ (record { key = s.key; word = (index_of right').link } ∷ items_of right') ≡ items_of l ++ (record { key = key_in (items_of parent) place; word = (index_of r).link } ∷ items_of r)
    inner_same k = subst (λ b. joined_items b (index_of left') (index_of right') s.key ≡ joined_items b (index_of l) (index_of r) (key_in (items_of parent) place)) (inner_says l k) s.items

    rising_now : kind_of l ≡ INNER_KIND → IsRising (items_of left' ++ (record { key = s.key; word = (index_of right').link } ∷ items_of right'))
    rising_now k =
        let apart : AreApart false (items_of l) (items_of r) (key_in (items_of parent) place) = subst (λ b. AreApart b (items_of l) (items_of r) (key_in (items_of parent) place)) (inner_says l k) s.apart in
        subst IsRising (sym (inner_same k)) (rising_inner (items_of l) (items_of r) (record { key = key_in (items_of parent) place; word = (index_of r).link }) li.items.rising ri.items.rising apart.0 apart.1)
