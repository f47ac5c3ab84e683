-- A child that was mended with the one beside it, for the row of children.
use Rattle.std.proofs.Common.{◌≡◌, ◌≢◌, ℕ, zero, suc, ◌+◌, ◌-◌, ◌/◌, ◌<◌, ◌≤◌, ◌⊎◌, false, List, [], ◌∷◌, ◌++◌, map, length, refl, sym, ap, subst, ◌∙◌, inl, inr, arith}
use Rattle.std.specs.Prelude.{Bool, None, Some, IsTrue, nat_lt, if◌then◌else◌}
use Rattle.std.proofs.lemmas.Bool.{cases_eq, cases_lt, eq-eqb}
use Rattle.std.proofs.lemmas.List.{length-append}
use Rattle.pm_btpage.specs.declared.layout.TheConstants.{LEAF_KIND, INNER_KIND}
use Rattle.pm_btpage.specs.IndexPages.{Item, IndexPage, items_of, index_of, key_in, word_in, without_item, capacity_of, AllBelow, IsBelow, IsIndexPage}
use Rattle.pm_btpage.proofs.ItemLists.{length-with_item}
use Rattle.pm_meta.specs.declared.layout.TheConstants.{REUSE_KIND}
use Rattle.pm_meta.specs.declared.slots.MetaSlot.TheVariants.{Reuse, Pages}
use Rattle.pm_meta.specs.MetaPages.{field_of, next_of}
use Rattle.pm_pages.specs.Rows.{Partition, bytes_of, page_at, number_in, number_of, page_count, kind_of}
use Rattle.pm_pages.specs.Chains.{times, reuse_next_of}
use Rattle.pm_pages.specs.Trees.{index_in, child_of}
use Rattle.pm_pages.specs.PageLists.{IsReadable}
use Rattle.pm_pages.specs.Paged.{Paged, AllReadable}
use Rattle.pm_pages.specs.Edits.{EditsPages, HasMeta, IsNumberIn}
use Rattle.pm_pages.proofs.PageReads.{page_at-below}
use Rattle.pm_tree.specs.Nodes.{Node, node_of, nodes_in, Entry, entry, first_entry, entries, items_under, nodes_under, IsFrom, IsUpTo, end_before, AreBounded, Each, IsTreeIn, Keys}
use Rattle.pm_tree.specs.Puts.{flat, IsSpare, half_of}
use Rattle.pm_tree.proofs.Decoded.{kid_is}
use Rattle.pm_pages.proofs.ChainWalks.{times-append, times_here}
use Rattle.pm_tree.proofs.Frames.{root_stands, used}
use Rattle.pm_tree.proofs.Seams.{flat_joined}
use Rattle.pm_tree.proofs.RowPuts.{bounds_apart}
use Rattle.pm_tree.proofs.MapLists.{keys_at, keys_left, keys_right}
use Rattle.pm_tree.proofs.NodePuts.{keys_any}
use Rattle.pm_tree.proofs.Ascents.{key_here}
use Rattle.pm_tree.proofs.ForkSteps.{inner_says}
use Rattle.pm_tree.proofs.LeafChanges.{capacity_bounds}
use Rattle.pm_tree.proofs.Told.{meta_spare, past_spare, node_away_count, page_is}
use Rattle.pm_pages.proofs.ToldPages.{number_told}
use Rattle.pm_tree_del.specs.declared.pairs.Pair.{Pair}
use Rattle.pm_tree_del.specs.Neighbours.{joined_items, with_key, AreApart, HasPlaceFor, AreNeighbours, Merges, Shares}
use Rattle.pm_tree_del.specs.Pairs.{IsPairOf, MayMend}
use Rattle.pm_tree_del.specs.Given.{GivesBack}
use Rattle.pm_tree_del.specs.Mending.{IsOfFamily, MergesPages, SharesPages}
use Rattle.pm_tree_del.proofs.EditedItems.{length_without}
use Rattle.pm_tree_del.proofs.Stands.{IsAbove, Two, two_of}
use Rattle.pm_tree.proofs.PartedKeys.{AreWide, trees_some}
use Rattle.pm_tree_del.proofs.SoundRows.{above_then, between_row, leaves_apart}
use Rattle.pm_tree_del.proofs.SharedItems.{joined_after_key, joined_before}
use Rattle.pm_tree_del.proofs.RowSwaps.{RowSwap}
use Rattle.pm_tree_del.proofs.PairTrees.{two, one, PairSwap, all_from, all_upto}
use Rattle.pm_tree_del.proofs.PairSwaps.{JoinsNodes, SharesNodes, pair_merged, pair_shared}
use Rattle.pm_tree_del.proofs.ParentTrees.{EachAt, LacksAt, row_mended, trees_mended, items_mended}
use Rattle.pm_tree_del.proofs.MendedNodes.{leaf_says, kind_kept, rising_leaves, joins_nodes, shares_nodes}
use Rattle.pm_tree_del.proofs.GivenPages.{IsOfNoChain, gives_none, gives_one}

-- What became of the row of children, of which one lacked an item: the entries E' of the pages L. The page above has
-- as many items as before, or one less.
pub record RowMended (b c : Partition) (h half at : ℕ) (E : List Entry) (few : Bool) : Type 0 where
  pub given : List ℕ
  pub row : List Entry
  pub here : entries (nodes_in c at) ≡ row
  pub kind : (nodes_in c at).kind ≡ INNER_KIND
  pub half_now : (nodes_in c at).half ≡ half
  pub count : (length (nodes_in b at).items ≤ length (nodes_in c at).items) ⊎ ((length (nodes_in b at).items ≤ length (nodes_in c at).items + 1) × ((IsTrue few → ⊥) → half ≤ length (nodes_in c at).items))
  pub swap : RowSwap (nodes_in b) (nodes_in c) h E row None given
  pub trees : Each (IsTreeIn (nodes_in c) h half) row
  pub items : flat (items_under (nodes_in c) h) row ≡ flat (items_under (nodes_in b) h) E
  pub others : (j : ℕ) → j ≢ 0 → j ≢ at → times j (flat (nodes_under (nodes_in b) h) E) ≡ 0 → c j ≡ b j
  pub gives : GivesBack b c given

-- a page of a partition with so many pages
node_at : (p : Paged) (i : ℕ) (bytes : List ℕ) → i < page_count p.pages → p.pages i ≡ Some bytes → nodes_in p.pages i ≡ node_of bytes
node_at p i bytes lt is = ap node_of (page_is p i bytes lt is)

near_of : (i place : ℕ) → place ≡ i - 1 → (i ≡ place) ⊎ (i ≡ suc place)
near_of zero place e = inl (omega (arith, e))
near_of (suc i) place e = inr (omega (arith, e))

-- The pair of child i of an inner page, below which one child has too few items.
module _ (T : Type 0) (b c : Paged) (count at i : ℕ) (t : T) (readable : AllReadable b) (meta : HasMeta b) (some : 1 ≤ at) (number : IsNumberIn b Pages count) (at_lt : at < count)
    (pair : Pair) (page : List ℕ) (page_now : b.pages at ≡ Some page) (pair_of : IsPairOf page i pair) (h half less : ℕ) (half_is : half ≡ half_of b.page_size) (lacks : half ≤ less + 1)
    (trees : EachAt (LacksAt (nodes_in b.pages) h half less i) 0 (entries (nodes_in b.pages at))) (bounded : AreBounded (items_under (nodes_in b.pages) h) (entries (nodes_in b.pages at)) None)
    (once : (j : ℕ) → times j (flat (nodes_under (nodes_in b.pages) h) (entries (nodes_in b.pages at))) ≤ 1) (alone : times at (flat (nodes_under (nodes_in b.pages) h) (entries (nodes_in b.pages at))) ≡ 0) where
  abbrev M : ℕ → Node
  M = nodes_in b.pages

  abbrev L : ℕ → Node
  L = nodes_in c.pages

  counted : page_count b.pages ≡ count
  counted = number_told b Pages count number

  at_node : nodes_in b.pages at ≡ node_of page
  at_node = node_at b at page (omega (arith, counted, at_lt)) page_now

  E_is : entries (nodes_in b.pages at) ≡ first_entry (index_of page).link ∷ map entry (items_of page)
  E_is = ap (λ (n : Node). entries n) at_node

  tw : Two (first_entry (index_of page).link) (items_of page) pair.place
  tw = two_of (first_entry (index_of page).link) (items_of page) pair.place pair_of.within pair_of.well_made.items.rising (λ j lt. tt)

  left_is : tw.left.child ≡ pair.left
  left_is = tw.left_is ∙ sym (kid_is (index_in (index_of page).link) (items_of page) pair.place) ∙ sym pair_of.left

  right_is : index_in tw.item.word ≡ pair.right
  right_is = (let e : suc pair.place ≡ pair.place + 1 = omega arith in tw.right_is ∙ sym (kid_is (index_in (index_of page).link) (items_of page) (suc pair.place)) ∙ ap (child_of page) e ∙ sym pair_of.right)

  abbrev s : List ℕ
  s = tw.item.key

  -- the row, and the pair in it
  E_apart : entries (nodes_in b.pages at) ≡ tw.before ++ (tw.left ∷ entry tw.item ∷ tw.after)
  E_apart = E_is ∙ tw.is

  near : (i ≡ pair.place) ⊎ (i ≡ suc pair.place)
  near = near_of i pair.place pair_of.place

  trees_apart : EachAt (LacksAt (nodes_in b.pages) h half less i) 0 (tw.before ++ (tw.left ∷ entry tw.item ∷ tw.after))
  trees_apart = subst (EachAt (LacksAt (nodes_in b.pages) h half less i) 0) E_apart trees

  times_apart : (j : ℕ) → times j (flat (nodes_under (nodes_in b.pages) h) (entries (nodes_in b.pages at))) ≡ times j (flat (nodes_under (nodes_in b.pages) h) tw.before) + (times j (nodes_under (nodes_in b.pages) h pair.left) + (times j (nodes_under (nodes_in b.pages) h pair.right) + times j (flat (nodes_under (nodes_in b.pages) h) tw.after)))
  times_apart j =
      let f = nodes_under (nodes_in b.pages) h in
      let e : times j (flat f (entries (nodes_in b.pages at))) ≡ times j (flat f (tw.before ++ (tw.left ∷ entry tw.item ∷ tw.after))) = ap (λ (es : List Entry). times j (flat f es)) E_apart in
      omega (
        arith,
        e,
        ap (λ u. times j u) (flat_joined f tw.before (tw.left ∷ entry tw.item ∷ tw.after)),
        times-append j (flat f tw.before) (f tw.left.child ++ (f (index_in tw.item.word) ++ flat f tw.after)),
        times-append j (f tw.left.child) (f (index_in tw.item.word) ++ flat f tw.after),
        times-append j (f (index_in tw.item.word)) (flat f tw.after),
        ap (λ n. times j (f n)) left_is,
        ap (λ n. times j (f n)) right_is,
      )

  left_stands : 1 ≤ times pair.left (nodes_under (nodes_in b.pages) h pair.left)
  left_stands = root_stands (nodes_in b.pages) h pair.left

  right_stands : 1 ≤ times pair.right (nodes_under (nodes_in b.pages) h pair.right)
  right_stands = root_stands (nodes_in b.pages) h pair.right

  -- which of the two lacks an item
  abbrev Lacks : ℕ → ℕ → Type 0
  Lacks l1 l2 = IsTreeIn (nodes_in b.pages) h l1 pair.left × IsTreeIn (nodes_in b.pages) h l2 pair.right × ((half ≤ l1) ⊎ (half ≤ l2)) × (half ≤ l1 + 1) × (half ≤ l2 + 1)

  pair_at : EachAt (LacksAt (nodes_in b.pages) h half less i) pair.place (tw.left ∷ entry tw.item ∷ tw.after)
  pair_at = each_right tw.before (tw.left ∷ entry tw.item ∷ tw.after) 0 (omega (arith, tw.long)) trees_apart
    where
      each_right : (xs ys : List Entry) (n : ℕ) → n + length xs ≡ pair.place → EachAt (LacksAt (nodes_in b.pages) h half less i) n (xs ++ ys) → EachAt (LacksAt (nodes_in b.pages) h half less i) pair.place ys
      each_right [] ys n e x = (let e' : n ≡ pair.place = omega (arith, e) in subst (λ k. EachAt (LacksAt (nodes_in b.pages) h half less i) k ys) e' x)
      each_right (z ∷ xs) ys n e x = each_right xs ys (suc n) (omega (arith, e)) x.1

  lacking : (l1 : ℕ) × (l2 : ℕ) × Lacks l1 l2
  lacking = elim near [
    | inl e ↦ (less, half, (subst (IsTreeIn (nodes_in b.pages) h less) left_is (pair_at.0.here (sym e)), subst (IsTreeIn (nodes_in b.pages) h half) right_is (pair_at.1.0.other (λ z. omega (arith, z, e))), inr (omega arith), lacks, omega arith))
    | inr e ↦ (half, less, (subst (IsTreeIn (nodes_in b.pages) h half) left_is (pair_at.0.other (λ z. omega (arith, z, e))), subst (IsTreeIn (nodes_in b.pages) h less) right_is (pair_at.1.0.here (sym e)), inl (omega arith), omega arith, lacks))
  ]

  bounds_pair : AreBounded (items_under (nodes_in b.pages) h) (tw.left ∷ entry tw.item ∷ []) (end_before tw.after None)
  bounds_pair =
      let f = items_under (nodes_in b.pages) h in
      let x = bounds_apart f tw.before (tw.left ∷ entry tw.item ∷ tw.after) None (subst (λ (es : List Entry). AreBounded f es None) E_apart bounded) in
      let y = bounds_apart f (tw.left ∷ entry tw.item ∷ []) tw.after None x.1 in
      y.0

  bounds_two : AreBounded (items_under (nodes_in b.pages) h) (two tw.left.from pair.left s pair.right) (end_before tw.after None)
  bounds_two = subst (λ (q : ℕ × ℕ). AreBounded (items_under (nodes_in b.pages) h) (two tw.left.from q.0 s q.1) (end_before tw.after None)) {x = (tw.left.child, index_in tw.item.word)} {y = (pair.left, pair.right)} (λ k. (left_is k, right_is k)) bounds_pair

  pair_once : (j : ℕ) → times j (nodes_under (nodes_in b.pages) h pair.left) + times j (nodes_under (nodes_in b.pages) h pair.right) ≤ 1
  pair_once j = omega (arith, once j, times_apart j)

  -- the pages of the row are of a tree
  pub row_used : (j : ℕ) → 1 ≤ times j (flat (nodes_under (nodes_in b.pages) h) (entries (nodes_in b.pages at))) → IsSpare (nodes_in b.pages j) → ⊥
  row_used j there spare = stands_used (entries (nodes_in b.pages at)) 0 trees there
    where
      stands_used : (es : List Entry) (n : ℕ) → EachAt (LacksAt (nodes_in b.pages) h half less i) n es → 1 ≤ times j (flat (nodes_under (nodes_in b.pages) h) es) → ⊥
      stands_used [] n each none = omega (arith, none)
      stands_used (e ∷ es) n each none = elim (cases_lt 0 (times j (nodes_under (nodes_in b.pages) h e.child))) [
        | inl lt ↦ elim (cases_eq n i) [
          | inl z ↦ used (nodes_in b.pages) h less e.child j (each.0.here z) (omega (arith, lt)) spare
          | inr z ↦ used (nodes_in b.pages) h half e.child j (each.0.other z) (omega (arith, lt)) spare
        ]
        | inr le ↦ stands_used es (suc n) each.1 (omega (arith, none, le, times-append j (nodes_under (nodes_in b.pages) h e.child) (flat (nodes_under (nodes_in b.pages) h) es)))
      ]

  -- both are pages of the partition, and no others of the row
  left_in : 1 ≤ times pair.left (flat (nodes_under (nodes_in b.pages) h) (entries (nodes_in b.pages at)))
  left_in = omega (arith, times_apart pair.left, left_stands)

  right_in : 1 ≤ times pair.right (flat (nodes_under (nodes_in b.pages) h) (entries (nodes_in b.pages at)))
  right_in = omega (arith, times_apart pair.right, right_stands)

  in_partition : (j : ℕ) → 1 ≤ times j (flat (nodes_under (nodes_in b.pages) h) (entries (nodes_in b.pages at))) → (1 ≤ j) × (j < count)
  in_partition j there = (
    elim (cases_lt 0 j) [ inl lt ↦ lt | inr le ↦ absurd (let e : j ≡ 0 = omega (arith, le) in row_used j there (subst (λ n. IsSpare (nodes_in b.pages n)) (sym e) (meta_spare b readable meta))) ],
    elim (cases_lt j (page_count b.pages)) [ inl lt ↦ omega (arith, lt, counted) | inr le ↦ absurd (row_used j there (past_spare b.pages j le)) ],
  )

  pub may_of : MayMend pair count at (child_of page i)
  may_of =
      let l = in_partition pair.left left_in in
      let r = in_partition pair.right right_in in
      record {
        left_some = l.0;
        left_below = l.1;
        right_some = r.0;
        right_below = r.1;
        left_other = λ e. omega (arith, alone, left_in, ap (λ n. times n (flat (nodes_under (nodes_in b.pages) h) (entries (nodes_in b.pages at)))) e);
        right_other = λ e. omega (arith, alone, right_in, ap (λ n. times n (flat (nodes_under (nodes_in b.pages) h) (entries (nodes_in b.pages at)))) e);
        two = λ e. omega (arith, pair_once pair.left, left_stands, right_stands, ap (λ n. times n (nodes_under (nodes_in b.pages) h pair.right)) e);
        one_is = elim near [
          | inl e ↦ inl (pair_of.left ∙ ap (child_of page) (sym e))
          | inr e ↦ inr (let z : pair.place + 1 ≡ i = omega (arith, e) in pair_of.right ∙ ap (child_of page) z)
        ];
      }

  -- a page of a tree is an index page, if it reads as what it says
  index_page : (j : ℕ) (bytes : List ℕ) → nodes_in b.pages j ≡ node_of bytes → 1 ≤ times j (flat (nodes_under (nodes_in b.pages) h) (entries (nodes_in b.pages at))) → IsReadable bytes → IsIndexPage bytes
  index_page j bytes node there reads = elim (cases_eq (kind_of bytes) LEAF_KIND) [
    | inl k ↦ reads.leaf k
    | inr nl ↦ elim (cases_eq (kind_of bytes) INNER_KIND) [
      | inl k ↦ reads.inner k
      | inr ni ↦ absurd (row_used j there (subst IsSpare (sym node) (record { leaf = nl; inner = ni })))
    ]
  ]

  pub left_index : (l : List ℕ) → b.pages pair.left ≡ Some l → IsReadable l → IsIndexPage l
  left_index l is reads = index_page pair.left l (node_at b pair.left l (omega (arith, counted, (in_partition pair.left left_in).1)) is) left_in reads

  pub right_index : (r : List ℕ) → b.pages pair.right ≡ Some r → IsReadable r → IsIndexPage r
  right_index r is reads = index_page pair.right r (node_at b pair.right r (omega (arith, counted, (in_partition pair.right right_in).1)) is) right_in reads

  -- pages that read as what they say have room for items
  pub wide_row : ((j : ℕ) → 1 ≤ j → j < page_count b.pages → (bytes : List ℕ) × (b.pages j ≡ Some bytes) × IsReadable bytes) → AreWide (nodes_in b.pages) (flat (nodes_under (nodes_in b.pages) h) (entries (nodes_in b.pages at)))
  wide_row reads j there =
      let place = in_partition j there in
      let lt : j < page_count b.pages = omega (arith, counted, place.1) in
      let x = reads j place.0 lt in
      let room = capacity_bounds (length x.0) x.2.size in
      let e : (nodes_in b.pages j).half ≡ half_of (length x.0) = ap (λ (n : Node). n.half) (node_at b j x.0 lt x.1) in
      omega (arith, e, room)

  -- of the bytes of both
  module _ (child : ℕ) (may : MayMend pair count at child) (l r : List ℕ) (l_now : b.pages pair.left ≡ Some l) (r_now : b.pages pair.right ≡ Some r)
      (page_size : length page ≡ b.page_size) (l_size : length l ≡ b.page_size) (r_size : length r ≡ b.page_size) (l_page : IsIndexPage l) (r_page : IsIndexPage r) where
    l_node : nodes_in b.pages pair.left ≡ node_of l
    l_node = node_at b pair.left l (omega (arith, counted, may.left_below)) l_now

    r_node : nodes_in b.pages pair.right ≡ node_of r
    r_node = node_at b pair.right r (omega (arith, counted, may.right_below)) r_now

    l_half : (nodes_in b.pages pair.left).half ≡ half
    l_half = ap (λ (n : Node). n.half) l_node ∙ ap half_of l_size ∙ sym half_is

    r_half : (nodes_in b.pages pair.right).half ≡ half
    r_half = ap (λ (n : Node). n.half) r_node ∙ ap half_of r_size ∙ sym half_is

    -- Where no page is without items, the two stand side by side.
    module _ (wide : AreWide (nodes_in b.pages) (flat (nodes_under (nodes_in b.pages) h) (entries (nodes_in b.pages at)))) where
      wide_left : AreWide (nodes_in b.pages) (nodes_under (nodes_in b.pages) h pair.left)
      wide_left j there = wide j (omega (arith, there, times_apart j))

      wide_right : AreWide (nodes_in b.pages) (nodes_under (nodes_in b.pages) h pair.right)
      wide_right j there = wide j (omega (arith, there, times_apart j))

      l_items : (nodes_in b.pages pair.left).items ≡ items_of l
      l_items = ap (λ (n : Node). n.items) l_node

      r_items : (nodes_in b.pages pair.right).items ≡ items_of r
      r_items = ap (λ (n : Node). n.items) r_node

      abbrev Place : List ℕ → Type 0
      Place key = HasPlaceFor (items_of page) pair.place key

      place_of : (key : List ℕ) → IsAbove tw.left.from key → IsUpTo (end_before tw.after None) key → HasPlaceFor (items_of page) pair.place key
      place_of key above upto = record { below = tw.below key above; above = tw.above key upto }

      place_of_s : HasPlaceFor (items_of page) pair.place (key_in (items_of page) pair.place)
      place_of_s = record {
        below = λ j lt. pair_of.well_made.items.rising j pair.place lt pair_of.within;
        above = λ j ge lt. pair_of.well_made.items.rising pair.place j (omega (arith, ge)) lt;
      }

      both_from : Keys (IsFrom tw.left.from) (items_under (nodes_in b.pages) h pair.left ++ items_under (nodes_in b.pages) h pair.right)
      both_from = all_from (items_under (nodes_in b.pages) h) tw.left.from pair.left tw.item.key pair.right (end_before tw.after None) tw.low tw.high bounds_two

      both_upto : Keys (IsUpTo (end_before tw.after None)) (items_under (nodes_in b.pages) h pair.left ++ items_under (nodes_in b.pages) h pair.right)
      both_upto = all_upto (items_under (nodes_in b.pages) h) tw.left.from pair.left tw.item.key pair.right (end_before tw.after None) tw.low tw.high bounds_two

      -- two leaves
      module _ (kl : kind_of l ≡ LEAF_KIND) (kr : kind_of r ≡ LEAF_KIND) (xs_from : Keys (IsFrom tw.left.from) (items_of l ++ items_of r)) (xs_upto : Keys (IsUpTo (end_before tw.after None)) (items_of l ++ items_of r))
          (low : Keys (IsUpTo (Some (key_in (items_of page) pair.place))) (items_of l)) (high : Keys (IsFrom (Some (key_in (items_of page) pair.place))) (items_of r)) where
        below_leaves : AllBelow (items_of l) (items_of r)
        below_leaves = leaves_apart (items_of l) (items_of r) (key_in (items_of page) pair.place) low high

        leaf_within : (k : ℕ) → 0 < k → k < length (items_of l ++ items_of r) → HasPlaceFor (items_of page) pair.place (key_in (items_of l ++ items_of r) k)
        leaf_within k some_k lt =
            let xs = items_of l ++ items_of r in
            let rising = rising_leaves (items_of l) (items_of r) l_page.items.rising r_page.items.rising below_leaves in
            place_of (key_in xs k) (above_then tw.left.from (key_in xs 0) (key_in xs k) (keys_at (IsFrom tw.left.from) xs xs_from 0 (omega (arith, lt))) (rising 0 k some_k lt)) (keys_at (IsUpTo (end_before tw.after None)) xs xs_upto k lt)

        leaf_neighbours : AreNeighbours page l r pair.place
        leaf_neighbours = record {
          kind = record { kind = inl kl; same = kr ∙ sym kl };
          apart = subst (λ z. AreApart z (items_of l) (items_of r) (key_in (items_of page) pair.place)) (sym (leaf_says l kl)) below_leaves;
          within = subst (λ z. (k : ℕ) → 0 < k → k < length (joined_items z (index_of l) (index_of r) (key_in (items_of page) pair.place)) → HasPlaceFor (items_of page) pair.place (key_in (joined_items z (index_of l) (index_of r) (key_in (items_of page) pair.place)) k)) (sym (leaf_says l kl)) leaf_within;
        }

      -- two inner pages, whose keys lie between those below their children
      module _ (kl : kind_of l ≡ INNER_KIND) (kr : kind_of r ≡ INNER_KIND) (low : (j : ℕ) → j < length (items_of l) → IsBelow (key_in (items_of l) j) (key_in (items_of page) pair.place)) (high : (j : ℕ) → j < length (items_of r) → IsBelow (key_in (items_of page) pair.place) (key_in (items_of r) j))
          (place_l : (j : ℕ) → j < length (items_of l) → HasPlaceFor (items_of page) pair.place (key_in (items_of l) j)) (place_r : (j : ℕ) → j < length (items_of r) → HasPlaceFor (items_of page) pair.place (key_in (items_of r) j)) where
        inner_within : (k : ℕ) → 0 < k → k < length (joined_items false (index_of l) (index_of r) (key_in (items_of page) pair.place)) → HasPlaceFor (items_of page) pair.place (key_in (joined_items false (index_of l) (index_of r) (key_in (items_of page) pair.place)) k)
        inner_within k some_k lt =
            let s' = key_in (items_of page) pair.place in
            let xs = joined_items false (index_of l) (index_of r) s' in
            let P : List ℕ → Type 0 = HasPlaceFor (items_of page) pair.place in
            elim (cases_lt k (length (items_of l))) [
              | inl before ↦ subst P (sym (joined_before false (index_of l) (index_of r) s' k before)) (place_l k before)
              | inr from ↦ elim (cases_eq k (length (items_of l))) [
                | inl e ↦ subst P (sym (ap (key_in xs) e ∙ key_here (items_of l) (items_of r) (record { key = s'; word = (index_of r).link }))) place_of_s
                | inr ne ↦
                    let n = k - length (items_of l) - 1 in
                    let e : length (items_of l) + suc n ≡ k = omega (arith, from, ne) in
                    subst P (ap (key_in xs) e) (subst P (sym (joined_after_key false (index_of l) (index_of r) s' n refl)) (place_r n (omega (arith, lt, from, ne, length-append (items_of l) (record { key = s'; word = (index_of r).link } ∷ items_of r)))))
              ]
            ]

        inner_neighbours : AreNeighbours page l r pair.place
        inner_neighbours = record {
          kind = record { kind = inr kl; same = kr ∙ sym kl };
          apart = subst (λ z. AreApart z (items_of l) (items_of r) (key_in (items_of page) pair.place)) (sym (inner_says l kl)) (low, high);
          within = subst (λ z. (k : ℕ) → 0 < k → k < length (joined_items z (index_of l) (index_of r) (key_in (items_of page) pair.place)) → HasPlaceFor (items_of page) pair.place (key_in (joined_items z (index_of l) (index_of r) (key_in (items_of page) pair.place)) k)) (sym (inner_says l kl)) inner_within;
        }

      by_height : (g : ℕ) → g ≡ h → AreNeighbours page l r pair.place
      by_height zero e =
          let x = lacking in
          let t1 = subst (λ n. IsTreeIn (nodes_in b.pages) n x.0 pair.left) (sym e) x.2.0 in
          let t2 = subst (λ n. IsTreeIn (nodes_in b.pages) n x.1 pair.right) (sym e) x.2.1 in
          let f : ℕ → List Item = items_under (nodes_in b.pages) h in
          let fl : items_under (nodes_in b.pages) h pair.left ≡ items_of l = ap (λ n. items_under (nodes_in b.pages) n pair.left) (sym e) ∙ l_items in
          let fr : items_under (nodes_in b.pages) h pair.right ≡ items_of r = ap (λ n. items_under (nodes_in b.pages) n pair.right) (sym e) ∙ r_items in
          leaf_neighbours (sym (ap (λ (n : Node). n.kind) l_node) ∙ t1.kind_is) (sym (ap (λ (n : Node). n.kind) r_node) ∙ t2.kind_is)
          (subst (Keys (IsFrom tw.left.from)) (λ z. fl z ++ fr z) both_from) (subst (Keys (IsUpTo (end_before tw.after None))) (λ z. fl z ++ fr z) both_upto)
          (subst (λ (q : List ℕ × List Item). Keys (IsUpTo (Some q.0)) q.1) {x = (tw.item.key, items_under (nodes_in b.pages) h pair.left)} {y = (key_in (items_of page) pair.place, items_of l)} (λ z. (tw.key_is z, fl z)) bounds_two.1)
          (subst (λ (q : List ℕ × List Item). Keys (IsFrom (Some q.0)) q.1) {x = (tw.item.key, items_under (nodes_in b.pages) h pair.right)} {y = (key_in (items_of page) pair.place, items_of r)} (λ z. (tw.key_is z, fr z)) bounds_two.2.0)
      by_height (suc g) e =
          let x = lacking in
          let M' = nodes_in b.pages in
          let t1 : IsTreeIn (nodes_in b.pages) (suc g) x.0 pair.left = subst (λ n. IsTreeIn (nodes_in b.pages) n x.0 pair.left) (sym e) x.2.0 in
          let t2 : IsTreeIn (nodes_in b.pages) (suc g) x.1 pair.right = subst (λ n. IsTreeIn (nodes_in b.pages) n x.1 pair.right) (sym e) x.2.1 in
          let w1 : AreWide (nodes_in b.pages) (nodes_under (nodes_in b.pages) (suc g) pair.left) = subst (λ n. AreWide (nodes_in b.pages) (nodes_under (nodes_in b.pages) n pair.left)) (sym e) wide_left in
          let w2 : AreWide (nodes_in b.pages) (nodes_under (nodes_in b.pages) (suc g) pair.right) = subst (λ n. AreWide (nodes_in b.pages) (nodes_under (nodes_in b.pages) n pair.right)) (sym e) wide_right in
          let some1 = children_some g x.0 pair.left t1 w1 in
          let some2 = children_some g x.1 pair.right t2 w2 in
          let f : ℕ → List Item = items_under (nodes_in b.pages) g in
          let from_l : Keys (IsFrom tw.left.from) (items_under (nodes_in b.pages) (suc g) pair.left) = subst (λ n. Keys (IsFrom tw.left.from) (items_under (nodes_in b.pages) n pair.left)) (sym e) bounds_two.0 in
          let upto_l : Keys (IsUpTo (Some tw.item.key)) (items_under (nodes_in b.pages) (suc g) pair.left) = subst (λ n. Keys (IsUpTo (Some tw.item.key)) (items_under (nodes_in b.pages) n pair.left)) (sym e) bounds_two.1 in
          let from_r : Keys (IsFrom (Some tw.item.key)) (items_under (nodes_in b.pages) (suc g) pair.right) = subst (λ n. Keys (IsFrom (Some tw.item.key)) (items_under (nodes_in b.pages) n pair.right)) (sym e) bounds_two.2.0 in
          let upto_r : Keys (IsUpTo (end_before tw.after None)) (items_under (nodes_in b.pages) (suc g) pair.right) = subst (λ n. Keys (IsUpTo (end_before tw.after None)) (items_under (nodes_in b.pages) n pair.right)) (sym e) bounds_two.2.1 in
          let all_l : Keys (IsUpTo (end_before tw.after None)) (items_under (nodes_in b.pages) (suc g) pair.left) = subst (λ n. Keys (IsUpTo (end_before tw.after None)) (items_under (nodes_in b.pages) n pair.left)) (sym e) (keys_left (IsUpTo (end_before tw.after None)) (items_under (nodes_in b.pages) h pair.left) (items_under (nodes_in b.pages) h pair.right) both_upto) in
          let all_r : Keys (IsFrom tw.left.from) (items_under (nodes_in b.pages) (suc g) pair.right) = subst (λ n. Keys (IsFrom tw.left.from) (items_under (nodes_in b.pages) n pair.right)) (sym e) (keys_right (IsFrom tw.left.from) (items_under (nodes_in b.pages) h pair.left) (items_under (nodes_in b.pages) h pair.right) both_from) in
          let low : (j : ℕ) → j < length (nodes_in b.pages pair.left).items → IsBelow (key_in (nodes_in b.pages pair.left).items j) tw.item.key = λ j lt.
          (between_row f (first_entry (nodes_in b.pages pair.left).link) (nodes_in b.pages pair.left).items None (Some tw.item.key) t1.2 some1 (keys_any (IsFrom None) (items_under (nodes_in b.pages) (suc g) pair.left) (λ k. tt)) upto_l j lt).1 in
          let high : (j : ℕ) → j < length (nodes_in b.pages pair.right).items → IsBelow tw.item.key (key_in (nodes_in b.pages pair.right).items j) = λ j lt.
          (between_row f (first_entry (nodes_in b.pages pair.right).link) (nodes_in b.pages pair.right).items (Some tw.item.key) None t2.2 some2 from_r (keys_any (IsUpTo None) (items_under (nodes_in b.pages) (suc g) pair.right) (λ k. tt)) j lt).0 in
          let in_l : (j : ℕ) → j < length (nodes_in b.pages pair.left).items → HasPlaceFor (items_of page) pair.place (key_in (nodes_in b.pages pair.left).items j) = λ j lt.
          (let z = between_row f (first_entry (nodes_in b.pages pair.left).link) (nodes_in b.pages pair.left).items tw.left.from (end_before tw.after None) t1.2 some1 from_l all_l j lt in place_of (key_in (nodes_in b.pages pair.left).items j) z.0 z.1) in
          let in_r : (j : ℕ) → j < length (nodes_in b.pages pair.right).items → HasPlaceFor (items_of page) pair.place (key_in (nodes_in b.pages pair.right).items j) = λ j lt.
          (let z = between_row f (first_entry (nodes_in b.pages pair.right).link) (nodes_in b.pages pair.right).items tw.left.from (end_before tw.after None) t2.2 some2 all_r upto_r j lt in place_of (key_in (nodes_in b.pages pair.right).items j) z.0 z.1) in
          inner_neighbours (sym (ap (λ (n : Node). n.kind) l_node) ∙ t1.0.kind_is) (sym (ap (λ (n : Node). n.kind) r_node) ∙ t2.0.kind_is)
          (subst (λ (q : List Item × List ℕ). (j : ℕ) → j < length q.0 → IsBelow (key_in q.0 j) q.1) {x = ((nodes_in b.pages pair.left).items, tw.item.key)} {y = (items_of l, key_in (items_of page) pair.place)} (λ z. (l_items z, tw.key_is z)) low)
          (subst (λ (q : List Item × List ℕ). (j : ℕ) → j < length q.0 → IsBelow q.1 (key_in q.0 j)) {x = ((nodes_in b.pages pair.right).items, tw.item.key)} {y = (items_of r, key_in (items_of page) pair.place)} (λ z. (r_items z, tw.key_is z)) high)
          (subst (λ (xs : List Item). (j : ℕ) → j < length xs → HasPlaceFor (items_of page) pair.place (key_in xs j)) l_items in_l)
          (subst (λ (xs : List Item). (j : ℕ) → j < length xs → HasPlaceFor (items_of page) pair.place (key_in xs j)) r_items in_r)
        where
          children_some : (n least x : ℕ) → IsTreeIn (nodes_in b.pages) (suc n) least x → AreWide (nodes_in b.pages) (nodes_under (nodes_in b.pages) (suc n) x) → Each (λ i. 0 < length (items_under (nodes_in b.pages) n i)) (entries (nodes_in b.pages x))
          children_some n least x tree w =
              let under = times-append x (x ∷ []) (flat (nodes_under (nodes_in b.pages) n) (entries (nodes_in b.pages x))) in
              trees_some (nodes_in b.pages) n (nodes_in b.pages x).half (entries (nodes_in b.pages x)) (w x (omega (arith, under, times_here x [])))
              (λ j there. w j (omega (arith, there, times-append j (x ∷ []) (flat (nodes_under (nodes_in b.pages) n) (entries (nodes_in b.pages x)))))) tree.1

      pub neighbours : AreNeighbours page l r pair.place
      neighbours = by_height h refl

    -- a page of the row that is none of the three says what it said
    module _ (touched : ℕ → Type 0) (m : ℕ) (edits : EditsPages T b c touched m) (only : (j : ℕ) → touched j → (j ≡ 0) ⊎ IsOfFamily at pair j) (counts : page_count c.pages ≡ page_count b.pages) where
      away : (j : ℕ) → 1 ≤ times j (flat (nodes_under (nodes_in b.pages) h) (entries (nodes_in b.pages at))) → j ≢ pair.left → j ≢ pair.right → nodes_in c.pages j ≡ nodes_in b.pages j
      away j there not_left not_right = node_away_count T b c touched m t readable meta edits (omega (arith, counts)) j
          (λ x. elim (only j x) [ inl e ↦ e | inr y ↦ elim y [ inl e ↦ absurd (not_left e) | inr z ↦ elim z [ inl e ↦ absurd (not_right e) | inr e ↦ absurd (omega (arith, there, alone, ap (λ n. times n (flat (nodes_under (nodes_in b.pages) h) (entries (nodes_in b.pages at)))) e)) ] ] ])
          (row_used j there)

      same_before : (j : ℕ) → 1 ≤ times j (flat (nodes_under (nodes_in b.pages) h) tw.before) → nodes_in c.pages j ≡ nodes_in b.pages j
      same_before j there = away j (omega (arith, there, times_apart j))
          (λ e. omega (arith, there, once j, times_apart j, left_stands, ap (λ n. times n (nodes_under (nodes_in b.pages) h pair.left)) e))
          (λ e. omega (arith, there, once j, times_apart j, right_stands, ap (λ n. times n (nodes_under (nodes_in b.pages) h pair.right)) e))

      same_after : (j : ℕ) → 1 ≤ times j (flat (nodes_under (nodes_in b.pages) h) tw.after) → nodes_in c.pages j ≡ nodes_in b.pages j
      same_after j there = away j (omega (arith, there, times_apart j))
          (λ e. omega (arith, there, once j, times_apart j, left_stands, ap (λ n. times n (nodes_under (nodes_in b.pages) h pair.left)) e))
          (λ e. omega (arith, there, once j, times_apart j, right_stands, ap (λ n. times n (nodes_under (nodes_in b.pages) h pair.right)) e))

      same_pair : (j : ℕ) → 1 ≤ times j (nodes_under (nodes_in b.pages) h pair.left) + times j (nodes_under (nodes_in b.pages) h pair.right) → j ≢ pair.left → j ≢ pair.right → nodes_in c.pages j ≡ nodes_in b.pages j
      same_pair j there not_left not_right = away j (omega (arith, there, times_apart j)) not_left not_right

      others_stay : (j : ℕ) → j ≢ 0 → j ≢ at → times j (flat (nodes_under (nodes_in b.pages) h) (entries (nodes_in b.pages at))) ≡ 0 → c.pages j ≡ b.pages j
      others_stay j not_zero not_at none = edits.others j (inl t) (λ x. elim (only j x) [
        | inl e ↦ not_zero e
        | inr y ↦ elim y [
          | inl e ↦ omega (arith, none, times_apart j, left_stands, ap (λ n. times n (nodes_under (nodes_in b.pages) h pair.left)) e)
          | inr z ↦ elim z [ inl e ↦ omega (arith, none, times_apart j, right_stands, ap (λ n. times n (nodes_under (nodes_in b.pages) h pair.right)) e) | inr e ↦ not_at e ]
        ]
      ])

    -- the numbers of the meta page where it wasn't touched
    meta_kept : (touched : ℕ → Type 0) (m : ℕ) → EditsPages T b c touched m → (touched 0 → ⊥) → c.pages 0 ≡ b.pages 0
    meta_kept touched m edits out = edits.others 0 (inl t) out

    -- the three pages are none of the chain's
    index_kind : (bytes : List ℕ) → IsIndexPage bytes → kind_of bytes ≢ REUSE_KIND
    index_kind bytes index e = elim index.head.kind [ inl k ↦ omega (arith, e, k) | inr k ↦ omega (arith, e, k) ]

    no_chain : (j : ℕ) (was now : List ℕ) → page_at b.pages j ≡ was → page_at c.pages j ≡ now → IsIndexPage was → IsIndexPage now → IsOfNoChain (page_at b.pages j) (page_at c.pages j)
    no_chain j was now e e' x y = record { before = λ k. index_kind was x (ap kind_of (sym e) ∙ k); after = λ k. index_kind now y (ap kind_of (sym e') ∙ k) }

    page_of : (p : Paged) (j : ℕ) (bytes : List ℕ) → page_count p.pages ≡ count → j < count → p.pages j ≡ Some bytes → page_at p.pages j ≡ bytes
    page_of p j bytes e lt is = page_at-below p.pages j (omega (arith, e, lt)) ∙ ap bytes_of is

    same_at : (j : ℕ) → page_count c.pages ≡ page_count b.pages → c.pages j ≡ b.pages j → page_at c.pages j ≡ page_at b.pages j
    same_at j counts e = λ k. if nat_lt j (counts k) then bytes_of (e k) else []

    -- they share their items anew
    module _ (parent' left' right' : List ℕ) (sh : Shares page l r pair.place parent' left' right') (sizes : (length parent' ≡ length page) × (length left' ≡ length l) × (length right' ≡ length r)) (m : ℕ) (sp : SharesPages T b c at pair parent' left' right' m) where
      sh_meta : c.pages 0 ≡ b.pages 0
      sh_meta = meta_kept (IsOfFamily at pair) m sp.edits (λ x. elim x [ inl e ↦ omega (arith, e, may.left_some) | inr y ↦ elim y [ inl e ↦ omega (arith, e, may.right_some) | inr e ↦ omega (arith, e, some) ] ])

      sh_counts : page_count c.pages ≡ page_count b.pages
      sh_counts = ap (λ o. number_of o Pages) sh_meta

      sh_count : page_count c.pages ≡ count
      sh_count = sh_counts ∙ counted

      at_now : nodes_in c.pages at ≡ node_of parent'
      at_now = node_at c at parent' (omega (arith, sh_count, at_lt)) sp.parent_now

      l_at : nodes_in c.pages pair.left ≡ node_of left'
      l_at = node_at c pair.left left' (omega (arith, sh_count, may.left_below)) sp.left_now

      r_at : nodes_in c.pages pair.right ≡ node_of right'
      r_at = node_at c pair.right right' (omega (arith, sh_count, may.right_below)) sp.right_now

      only : (j : ℕ) → IsOfFamily at pair j → (j ≡ 0) ⊎ IsOfFamily at pair j
      only j x = inr x

      key_is : key_in (items_of page) pair.place ≡ tw.item.key
      key_is = sym tw.key_is

      sh_nodes : SharesNodes (nodes_in b.pages pair.left) (nodes_in b.pages pair.right) (nodes_in c.pages pair.left) (nodes_in c.pages pair.right) tw.item.key sh.key
      sh_nodes = subst (λ (q : Node × Node × Node × Node × List ℕ). SharesNodes q.0 q.1 q.2 q.3 q.4 sh.key) {x = (node_of l, node_of r, node_of left', node_of right', key_in (items_of page) pair.place)} {y = (nodes_in b.pages pair.left, nodes_in b.pages pair.right, nodes_in c.pages pair.left, nodes_in c.pages pair.right, tw.item.key)}
          (λ k. (sym l_node k, sym r_node k, sym l_at k, sym r_at k, key_is k)) (shares_nodes page l r pair.place parent' left' right' l_page r_page sh)

      full_now : (half ≤ length (nodes_in c.pages pair.left).items) × (half ≤ length (nodes_in c.pages pair.right).items)
      full_now =
          let x = lacking in
          let half_l : half ≡ capacity_of (length l) / 2 = half_is ∙ ap half_of (sym l_size) in
          let f1 = ap (λ (n : Node). length n.items) l_node in
          let f2 = ap (λ (n : Node). length n.items) r_node in
          let p = sh.full (omega (arith, half_l, tree_few h x.0 pair.left x.2.0, f1, x.2.3)) (omega (arith, half_l, tree_few h x.1 pair.right x.2.1, f2, x.2.4)) in
          (omega (arith, half_l, p.0, ap (λ (n : Node). length n.items) l_at), omega (arith, half_l, p.1, ap (λ (n : Node). length n.items) r_at))
        where
          tree_few : (g least x : ℕ) → IsTreeIn (nodes_in b.pages) g least x → least ≤ length (nodes_in b.pages x).items
          tree_few zero least x tree = tree.full
          tree_few (suc g) least x tree = tree.0.full

      sh_swap : PairSwap (nodes_in b.pages) (nodes_in c.pages) h half tw.left.from pair.left tw.item.key pair.right (two tw.left.from pair.left sh.key pair.right) (end_before tw.after None) []
      sh_swap =
          let x = lacking in
          pair_shared (nodes_in b.pages) (nodes_in c.pages) half tw.left.from pair.left tw.item.key pair.right (end_before tw.after None) tw.low tw.high x.0 x.1 l_half r_half
          (ap (λ (n : Node). n.kind) l_at ∙ kind_kept l left' sh.left_page sh.kind.kind (ap (λ (p : IndexPage). p.leaf) sh.left_is) ∙ sym (ap (λ (n : Node). n.kind) l_node))
          (ap (λ (n : Node). n.half) l_at ∙ ap half_of (sizes.1 ∙ l_size) ∙ sym half_is) h x.2.0 x.2.1 sh.key sh_nodes
          (ap (λ (n : Node). n.kind) r_at ∙ kind_kept r right' sh.right_page (elim sh.kind.kind [ inl k ↦ inl (sh.kind.same ∙ k) | inr k ↦ inr (sh.kind.same ∙ k) ]) sh.right_leaf ∙ sym (ap (λ (n : Node). n.kind) r_node))
          (ap (λ (n : Node). n.half) r_at ∙ ap half_of (sizes.2 ∙ r_size) ∙ sym half_is) full_now.0 full_now.1 pair_once (same_pair (IsOfFamily at pair) m sp.edits only sh_counts) bounds_two

      -- the same, of the entries as they stand in the row
      sh_pair : PairSwap (nodes_in b.pages) (nodes_in c.pages) h half tw.left.from tw.left.child tw.item.key (index_in tw.item.word) (two tw.left.from tw.left.child sh.key (index_in tw.item.word)) (end_before tw.after None) []
      sh_pair = subst (λ (q : ℕ × ℕ). PairSwap (nodes_in b.pages) (nodes_in c.pages) h half tw.left.from q.0 tw.item.key q.1 (two tw.left.from q.0 sh.key q.1) (end_before tw.after None) []) {x = (pair.left, pair.right)} {y = (tw.left.child, index_in tw.item.word)} (λ k. (sym left_is k, sym right_is k)) sh_swap

      abbrev sh_rest : List Entry
      sh_rest = record { from = Some sh.key; child = index_in tw.item.word } ∷ []

      sh_here : entries (nodes_in c.pages at) ≡ tw.before ++ (tw.left ∷ ((record { from = Some sh.key; child = index_in tw.item.word } ∷ []) ++ tw.after))
      sh_here = ap (λ (n : Node). entries n) at_now ∙ ap (λ (p : IndexPage). first_entry p.link ∷ map entry p.items) sh.parent_is ∙ tw.rekeyed sh.key

      sh_length : length (nodes_in c.pages at).items ≡ length (nodes_in b.pages at).items
      sh_length = ap (λ (n : Node). length n.items) at_now ∙ ap (λ (p : IndexPage). length p.items) sh.parent_is ∙ keyed (items_of page) pair.place pair_of.within ∙ sym (ap (λ (n : Node). length n.items) at_node)
        where
          keyed : (xs : List Item) (n : ℕ) → n < length xs → length (with_key xs n sh.key) ≡ length xs
          keyed xs n lt = (let w = length_without xs n lt in omega (arith, w, length-with_item (without_item xs n) n (record { key = sh.key; word = word_in xs n }) (omega (arith, w, lt))))

      sh_gives : GivesBack b.pages c.pages []
      sh_gives = gives_none b.pages c.pages (ap (λ o. number_of o Reuse) sh_meta) sh_counts (λ j not_zero. elim (cases_eq j pair.left) [
        | inl e ↦ inr (no_chain j l left' (ap (page_at b.pages) e ∙ page_of b pair.left l counted may.left_below l_now) (ap (page_at c.pages) e ∙ page_of c pair.left left' sh_count may.left_below sp.left_now) l_page sh.left_page)
        | inr n1 ↦ elim (cases_eq j pair.right) [
          | inl e ↦ inr (no_chain j r right' (ap (page_at b.pages) e ∙ page_of b pair.right r counted may.right_below r_now) (ap (page_at c.pages) e ∙ page_of c pair.right right' sh_count may.right_below sp.right_now) r_page sh.right_page)
          | inr n2 ↦ elim (cases_eq j at) [
            | inl e ↦ inr (no_chain j page parent' (ap (page_at b.pages) e ∙ page_of b at page counted at_lt page_now) (ap (page_at c.pages) e ∙ page_of c at parent' sh_count at_lt sp.parent_now) pair_of.well_made sh.parent_page)
            | inr n3 ↦ inl (same_at j sh_counts (sp.edits.others j (inl t) (λ x. elim x [ inl e ↦ n1 e | inr y ↦ elim y [ inl e ↦ n2 e | inr e ↦ n3 e ] ])))
          ]
        ]
      ])

      pub shared_row : (few : Bool) → RowMended b.pages c.pages h half at (entries (nodes_in b.pages at)) few
      shared_row few =
          let before = tw.before in
          let sb = same_before (IsOfFamily at pair) m sp.edits only sh_counts in
          let sa = same_after (IsOfFamily at pair) m sp.edits only sh_counts in
          record {
            given = [];
            row = tw.before ++ (tw.left ∷ (sh_rest ++ tw.after));
            here = sh_here;
            kind = ap (λ (n : Node). n.kind) at_now ∙ kind_kept page parent' sh.parent_page (inr pair_of.kind) (ap (λ (p : IndexPage). p.leaf) sh.parent_is) ∙ pair_of.kind;
            half_now = ap (λ (n : Node). n.half) at_now ∙ ap half_of (sizes.0 ∙ page_size) ∙ sym half_is;
            count = inl (omega (arith, sh_length));
            swap = subst (λ (es : List Entry). RowSwap (nodes_in b.pages) (nodes_in c.pages) h es (tw.before ++ (tw.left ∷ (sh_rest ++ tw.after))) None []) (sym E_apart)
                (row_mended (nodes_in b.pages) (nodes_in c.pages) h half less i pair.place tw.before tw.left (entry tw.item) tw.after sh_rest [] tw.long near trees_apart sb sa sh_pair.swap sh_pair.trees sh_pair.items);
            trees = trees_mended (nodes_in b.pages) (nodes_in c.pages) h half less i pair.place tw.before tw.left (entry tw.item) tw.after sh_rest [] tw.long near trees_apart sb sa sh_pair.swap sh_pair.trees sh_pair.items;
            items = items_mended (nodes_in b.pages) (nodes_in c.pages) h half less i pair.place tw.before tw.left (entry tw.item) tw.after sh_rest [] tw.long near trees_apart sb sa sh_pair.swap sh_pair.trees sh_pair.items
                ∙ ap (λ (es : List Entry). flat (items_under (nodes_in b.pages) h) es) (sym E_apart);
            others = others_stay (IsOfFamily at pair) m sp.edits only sh_counts;
            gives = sh_gives;
          }

    -- they were merged
    module _ (parent' left' : List ℕ) (mg : Merges page l r pair.place parent' left') (sizes : (length parent' ≡ length page) × (length left' ≡ length l)) (m : ℕ) (mp : MergesPages T b c at pair parent' left' m) where
      mg_number : (p : Paged) (bytes : List ℕ) → p.pages 0 ≡ Some bytes → (number_in p.pages Pages ≡ field_of bytes Pages) × (number_in p.pages Reuse ≡ field_of bytes Reuse)
      mg_number p bytes e = (ap (λ o. number_of o Pages) e, ap (λ o. number_of o Reuse) e)

      was : List ℕ
      was = mp.gives.numbers.was

      mg_counts : page_count c.pages ≡ page_count b.pages
      mg_counts = (mg_number c mp.gives.numbers.now mp.gives.numbers.after).0 ∙ mp.gives.numbers.change.1.others Pages tt (λ e. cc e) ∙ sym (mg_number b mp.gives.numbers.was mp.gives.numbers.before).0

      mg_count : page_count c.pages ≡ count
      mg_count = mg_counts ∙ counted

      mg_at : nodes_in c.pages at ≡ node_of parent'
      mg_at = node_at c at parent' (omega (arith, mg_count, at_lt)) mp.parent_now

      mg_left : nodes_in c.pages pair.left ≡ node_of left'
      mg_left = node_at c pair.left left' (omega (arith, mg_count, may.left_below)) mp.left_now

      mg_only : (j : ℕ) → (j ≡ 0) ⊎ IsOfFamily at pair j → (j ≡ 0) ⊎ IsOfFamily at pair j
      mg_only j x = x

      mg_nodes : JoinsNodes (nodes_in b.pages pair.left) (nodes_in b.pages pair.right) (nodes_in c.pages pair.left) tw.item.key
      mg_nodes = subst (λ (q : Node × Node × Node × List ℕ). JoinsNodes q.0 q.1 q.2 q.3) {x = (node_of l, node_of r, node_of left', key_in (items_of page) pair.place)} {y = (nodes_in b.pages pair.left, nodes_in b.pages pair.right, nodes_in c.pages pair.left, tw.item.key)}
          (λ k. (sym l_node k, sym r_node k, sym mg_left k, sym tw.key_is k)) (joins_nodes l r left' (key_in (items_of page) pair.place) mg.left_is)

      mg_swap : PairSwap (nodes_in b.pages) (nodes_in c.pages) h half tw.left.from pair.left tw.item.key pair.right (one tw.left.from pair.left) (end_before tw.after None) (pair.right ∷ [])
      mg_swap =
          let x = lacking in
          pair_merged (nodes_in b.pages) (nodes_in c.pages) half tw.left.from pair.left tw.item.key pair.right (end_before tw.after None) tw.low tw.high x.0 x.1 l_half r_half
          (ap (λ (n : Node). n.kind) mg_left ∙ kind_kept l left' mg.left_page mg.kind.kind (ap (λ (p : IndexPage). p.leaf) mg.left_is) ∙ sym (ap (λ (n : Node). n.kind) l_node))
          (ap (λ (n : Node). n.half) mg_left ∙ ap half_of (sizes.1 ∙ l_size) ∙ sym half_is) h x.2.0 x.2.1 x.2.2 mg_nodes pair_once
          (same_pair (λ j. (j ≡ 0) ⊎ IsOfFamily at pair j) m mp.edits mg_only mg_counts) bounds_two

      mg_pair : PairSwap (nodes_in b.pages) (nodes_in c.pages) h half tw.left.from tw.left.child tw.item.key (index_in tw.item.word) (one tw.left.from tw.left.child) (end_before tw.after None) (pair.right ∷ [])
      mg_pair = subst (λ (q : ℕ × ℕ). PairSwap (nodes_in b.pages) (nodes_in c.pages) h half tw.left.from q.0 tw.item.key q.1 (one tw.left.from q.0) (end_before tw.after None) (pair.right ∷ [])) {x = (pair.left, pair.right)} {y = (tw.left.child, index_in tw.item.word)} (λ k. (sym left_is k, sym right_is k)) mg_swap

      mg_here : entries (nodes_in c.pages at) ≡ tw.before ++ (tw.left ∷ ([] ++ tw.after))
      mg_here = ap (λ (n : Node). entries n) mg_at ∙ ap (λ (p : IndexPage). first_entry p.link ∷ map entry p.items) mg.parent_is ∙ tw.without

      mg_length : length (nodes_in c.pages at).items + 1 ≡ length (nodes_in b.pages at).items
      mg_length =
          let e : length (nodes_in c.pages at).items ≡ length (without_item (items_of page) pair.place) = ap (λ (n : Node). length n.items) mg_at ∙ ap (λ (p : IndexPage). length p.items) mg.parent_is in
          omega (arith, e, length_without (items_of page) pair.place pair_of.within, ap (λ (n : Node). length n.items) at_node)

      right_page : page_at c.pages pair.right ≡ mp.gives.page
      right_page = page_of c pair.right mp.gives.page mg_count may.right_below mp.gives.here

      next_is : (bytes : List ℕ) → kind_of bytes ≡ REUSE_KIND → reuse_next_of bytes ≡ next_of bytes
      next_is bytes k = simp (eq-eqb (kind_of bytes) REUSE_KIND k) refl

      mg_gives : GivesBack b.pages c.pages (pair.right ∷ [])
      mg_gives = gives_one b.pages c.pages pair.right (field_of mp.gives.numbers.was Reuse) may.right_some (omega (arith, counted, may.right_below)) (mg_number b mp.gives.numbers.was mp.gives.numbers.before).1 mg_counts
          ((mg_number c mp.gives.numbers.now mp.gives.numbers.after).1 ∙ mp.gives.numbers.change.1.here)
          (ap kind_of right_page ∙ mp.gives.stored.well_made.kind) (ap reuse_next_of right_page ∙ next_is mp.gives.page mp.gives.stored.well_made.kind ∙ mp.gives.numbers.change.0)
          (λ k. index_kind r r_page (ap kind_of (sym (page_of b pair.right r counted may.right_below r_now)) ∙ k))
          (λ j not_zero not_right. elim (cases_eq j pair.left) [
            | inl e ↦ inr (no_chain j l left' (ap (page_at b.pages) e ∙ page_of b pair.left l counted may.left_below l_now) (ap (page_at c.pages) e ∙ page_of c pair.left left' mg_count may.left_below mp.left_now) l_page mg.left_page)
            | inr n1 ↦ elim (cases_eq j at) [
              | inl e ↦ inr (no_chain j page parent' (ap (page_at b.pages) e ∙ page_of b at page counted at_lt page_now) (ap (page_at c.pages) e ∙ page_of c at parent' mg_count at_lt mp.parent_now) pair_of.well_made mg.parent_page)
              | inr n3 ↦ inl (same_at j mg_counts (mp.edits.others j (inl t) (λ x. elim x [ inl e ↦ not_zero e | inr y ↦ elim y [ inl e ↦ n1 e | inr z ↦ elim z [ inl e ↦ not_right e | inr e ↦ n3 e ] ] ])))
            ]
          ])

      pub merged_row : (few : Bool) → ((IsTrue few → ⊥) → capacity_of (length parent') / 2 ≤ length (items_of parent')) → RowMended b.pages c.pages h half at (entries (nodes_in b.pages at)) few
      merged_row few enough =
          let X : ℕ → Type 0 = λ j. (j ≡ 0) ⊎ IsOfFamily at pair j in
          let sb = same_before X m mp.edits mg_only mg_counts in
          let sa = same_after X m mp.edits mg_only mg_counts in
          record {
            given = pair.right ∷ [];
            row = tw.before ++ (tw.left ∷ ([] ++ tw.after));
            here = mg_here;
            kind = ap (λ (n : Node). n.kind) mg_at ∙ kind_kept page parent' mg.parent_page (inr pair_of.kind) (ap (λ (p : IndexPage). p.leaf) mg.parent_is) ∙ pair_of.kind;
            half_now = ap (λ (n : Node). n.half) mg_at ∙ ap half_of (sizes.0 ∙ page_size) ∙ sym half_is;
            count = inr (omega (arith, mg_length), λ not_few. (let e : half ≡ capacity_of (length parent') / 2 = half_is ∙ ap half_of (sym (sizes.0 ∙ page_size)) in omega (arith, e, enough not_few, ap (λ (n : Node). length n.items) mg_at)));
            swap = subst (λ (es : List Entry). RowSwap (nodes_in b.pages) (nodes_in c.pages) h es (tw.before ++ (tw.left ∷ ([] ++ tw.after))) None (pair.right ∷ [])) (sym E_apart)
                (row_mended (nodes_in b.pages) (nodes_in c.pages) h half less i pair.place tw.before tw.left (entry tw.item) tw.after [] (pair.right ∷ []) tw.long near trees_apart sb sa mg_pair.swap mg_pair.trees mg_pair.items);
            trees = trees_mended (nodes_in b.pages) (nodes_in c.pages) h half less i pair.place tw.before tw.left (entry tw.item) tw.after [] (pair.right ∷ []) tw.long near trees_apart sb sa mg_pair.swap mg_pair.trees mg_pair.items;
            items = items_mended (nodes_in b.pages) (nodes_in c.pages) h half less i pair.place tw.before tw.left (entry tw.item) tw.after [] (pair.right ∷ []) tw.long near trees_apart sb sa mg_pair.swap mg_pair.trees mg_pair.items
                ∙ ap (λ (es : List Entry). flat (items_under (nodes_in b.pages) h) es) (sym E_apart);
            others = others_stay X m mp.edits mg_only mg_counts;
            gives = mg_gives;
          }
