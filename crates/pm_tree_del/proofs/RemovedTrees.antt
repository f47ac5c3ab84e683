-- A removal below a page: from a leaf, or from the tree of a child, which is mended then.
use Rattle.std.proofs.Common.{◌≡◌, ◌≢◌, ℕ, zero, suc, ◌+◌, ◌-◌, ◌/◌, ◌<◌, ◌≤◌, true, false, List, [], ◌∷◌, ◌++◌, length, refl, sym, ap, subst, ◌∙◌, inl, inr, arith}
use Rattle.std.specs.Prelude.{Bool, Option, None, Some, nat_lt, if◌then◌else◌}
use Rattle.std.proofs.lemmas.Bool.{cases_eq, cases_lt}
use Rattle.pm_btpage.specs.declared.layout.TheConstants.{LEAF_KIND}
use Rattle.pm_btpage.specs.IndexPages.{Item, IndexPage, items_of, index_of, without_item, capacity_of}
use Rattle.pm_meta.specs.declared.layout.TheConstants.{REUSE_KIND}
use Rattle.pm_meta.specs.declared.slots.MetaSlot.TheVariants.{Reuse, Pages}
use Rattle.pm_pages.specs.Rows.{bytes_of, page_at, number_of, page_count, kind_of}
use Rattle.pm_pages.specs.Chains.{times}
use Rattle.pm_pages.specs.Trees.{index_in, child_of}
use Rattle.pm_pages.specs.Paged.{Paged, AllReadable}
use Rattle.pm_pages.specs.Edits.{EditsPages, HasMeta, IsNumberIn}
use Rattle.pm_tree.specs.Maps.{get_in}
use Rattle.pm_tree.specs.Steps.{IsChildFor}
use Rattle.pm_tree.specs.Nodes.{Node, node_of, nodes_in, Entry, first_entry, entries, items_under, nodes_under, AreBounded, Each, IsTreeIn}
use Rattle.pm_tree.specs.Puts.{flat, IsSpare, half_of}
use Rattle.pm_tree.specs.Edits.{IsNode}
use Rattle.pm_tree.specs.Places.{IsPlaceIn}
use Rattle.pm_tree.specs.declared.places.Place.TheVariants.{Held, Below}
use Rattle.pm_tree.proofs.Decoded.{kid, kid_is}
use Rattle.pm_pages.proofs.ChainWalks.{times-append, times_here}
use Rattle.pm_tree.proofs.Frames.{root_stands}
use Rattle.pm_tree.proofs.MapLists.{get_found}
use Rattle.pm_tree.proofs.Seams.{flat_joined, each_right}
use Rattle.pm_tree.proofs.Told.{below_count, meta_spare, node_away_count, page_is, half_is, leaf_kind}
use Rattle.pm_pages.proofs.ToldPages.{number_told}
use Rattle.pm_tree_del.specs.declared.mends.Mend.{Mend}
use Rattle.pm_tree_del.specs.declared.mends.Mend.TheVariants.{Merged, Shared, Wrong}
use Rattle.pm_tree_del.specs.Maps.{remove_in}
use Rattle.pm_tree_del.specs.Given.{GivesBack}
use Rattle.pm_tree_del.specs.Neighbours.{IsMend}
use Rattle.pm_tree_del.specs.Pairs.{HasPair, IsPairOf, MayMend}
use Rattle.pm_tree_del.specs.Items.{TakesOutAt}
use Rattle.pm_tree_del.specs.Mending.{IsWritten, MendsChild}
use Rattle.pm_tree_del.specs.Causes.{as_removal}
use Rattle.pm_pages.specs.SoundPages.{IsSound}
use Rattle.pm_tree_del.specs.Sound.{CanBeMended}
use Rattle.pm_tree_del.specs.Removes.{RemovesTree, RemovesIn, RemovesAs, RemovesFor}
use Rattle.pm_tree_del.proofs.EditedItems.{length_without}
use Rattle.pm_tree_del.proofs.RemovedItems.{remove_found}
use Rattle.pm_tree_del.proofs.Stands.{Stand, stand, get_stand}
use Rattle.pm_tree_del.proofs.RowSwaps.{RowSwap, swap_then}
use Rattle.pm_tree_del.proofs.ParentTrees.{EachAt, LacksAt, each_at_to, at_same, row_removed, items_removed, trees_removed, others_removed, parent_removes}
use Rattle.pm_tree_del.proofs.MendedNodes.{leaf_says, reads_left, reads_right}
use Rattle.pm_tree_del.proofs.MendedTrees.{RowMended, may_of, left_index, right_index, wide_row, neighbours, shared_row, merged_row}
use Rattle.pm_pages.proofs.SoundPages.{sound_reads, reads_now}
use Rattle.pm_tree_del.proofs.GivenPages.{gives_then, gives_none}

-- an item was taken out of a leaf
module _ (T : Type 0) (a c : Paged) (at i was : ℕ) (key : List ℕ) (few : Bool) (half : ℕ) (t : T) (readable : AllReadable a) (meta : HasMeta a) (below : (n : ℕ) → IsNumberIn a Pages n → at < n) (half_size : half ≡ half_of a.page_size)
    (place : IsPlaceIn a at key (Held i was)) (edits : EditsPages T a c (λ j. j ≡ at) 0) (takes : TakesOutAt a c at i few) where
  page_is_was : takes.was ≡ place.page
  page_is_was = cc (takes.before, place.in_hand.page)

  leaf_meta : c.pages 0 ≡ a.pages 0
  leaf_meta = edits.others 0 (inl t) (λ e. omega (arith, e, place.some))

  leaf_counts : page_count c.pages ≡ page_count a.pages
  leaf_counts = ap (λ o. number_of o Pages) leaf_meta

  at_in : at < page_count a.pages
  at_in = below_count a at meta below

  old_node : nodes_in a.pages at ≡ node_of place.page
  old_node = ap node_of (page_is a at place.page at_in place.in_hand.page)

  new_node : nodes_in c.pages at ≡ node_of takes.now
  new_node = ap node_of (page_is c at takes.now (omega (arith, at_in, leaf_counts)) takes.after)

  says : index_of takes.now ≡ record (index_of place.page) { items = without_item (items_of place.page) i }
  says = takes.takes.says ∙ ap (λ (q : List ℕ). record (index_of q) { items = without_item (items_of q) i }) page_is_was

  items_now : (nodes_in c.pages at).items ≡ without_item (items_of place.page) i
  items_now = ap (λ (n : Node). n.items) new_node ∙ ap (λ (p : IndexPage). p.items) says

  leaf_now : kind_of takes.now ≡ LEAF_KIND
  leaf_now = kind_of_leaf takes.now (ap (λ (p : IndexPage). p.leaf) says ∙ leaf_says place.page place.is.kind)
    where
      kind_of_leaf : (page : List ℕ) → (index_of page).leaf ≡ true → kind_of page ≡ LEAF_KIND
      kind_of_leaf page e = leaf_kind page e

  long_now : length (nodes_in c.pages at).items + 1 ≡ length (nodes_in a.pages at).items
  long_now = omega (arith, ap length items_now, length_without (items_of place.page) i place.is.at.in_range, ap (λ (n : Node). length n.items) old_node)

  half_now : half ≡ capacity_of (length takes.now) / 2
  half_now = half_size ∙ ap half_of (sym (takes.takes.size ∙ ap length page_is_was ∙ place.size))

  leaf_tree : (least least' : ℕ) → IsTreeIn (nodes_in a.pages) zero least at → least' ≤ length (nodes_in c.pages at).items → RemovesTree (nodes_in a.pages) (nodes_in c.pages) [] zero least' at key
  leaf_tree least least' tree full = record {
    tree = record { kind_is = ap (λ (n : Node). n.kind) new_node ∙ leaf_now; full = full };
    items = items_now ∙ sym (remove_found (items_of place.page) key i place.is.well_made.items.rising place.is.at) ∙ ap (λ (xs : List Item). remove_in xs key) (sym (ap (λ (n : Node). n.items) old_node));
    linked = λ after l. (ap (λ (n : Node). n.link) new_node ∙ ap (λ (p : IndexPage). p.link) says ∙ sym (ap (λ (n : Node). n.link) old_node) ∙ l.0, tt);
    first = λ after. refl;
    nodes = λ j. omega arith;
    others = λ j not_spare none. node_away_count T a c (λ j. j ≡ at) 0 t readable meta edits (omega (arith, leaf_counts)) j (λ e. absurd (omega (arith, none, times_here at [], ap (λ n. times n (at ∷ [])) e))) not_spare;
  }

  index_other : (bytes : List ℕ) → kind_of bytes ≡ LEAF_KIND → kind_of bytes ≢ REUSE_KIND
  index_other bytes k e = omega (arith, e, k)

  leaf_gives : GivesBack a.pages c.pages []
  leaf_gives = gives_none a.pages c.pages (ap (λ o. number_of o Reuse) leaf_meta) leaf_counts (λ j not_zero. elim (cases_eq j at) [
    | inl e ↦ inr (record {
      before = λ k. index_other place.page place.is.kind (ap kind_of (sym (ap (page_at a.pages) e ∙ page_is a at place.page at_in place.in_hand.page)) ∙ k);
      after = λ k. index_other takes.now leaf_now (ap kind_of (sym (ap (page_at c.pages) e ∙ page_is c at takes.now (omega (arith, at_in, leaf_counts)) takes.after)) ∙ k);
    })
    | inr ne ↦ inl (λ k. if nat_lt j (leaf_counts k) then bytes_of (edits.others j (inl t) ne k) else [])
  ])

  leaf_in : (least least' : ℕ) → IsTreeIn (nodes_in a.pages) zero least at → least' ≤ length (nodes_in c.pages at).items → RemovesIn a.pages c.pages zero least' at key
  leaf_in least least' tree full = record {
    given = [];
    removes = leaf_tree least least' tree full;
    others = λ j not_zero none. edits.others j (inl t) (λ e. omega (arith, none, times_here at [], ap (λ n. times n (at ∷ [])) e));
    gives = leaf_gives;
  }

  word_is : get_in (nodes_in a.pages at).items key ≡ Some was
  word_is = ap (λ (n : Node). get_in n.items key) old_node ∙ get_found (items_of place.page) key i place.is.well_made.items.rising place.is.at ∙ ap (λ (w : ℕ). Some w) (sym place.is.is)

  leaf_as : (f : Bool) → few ≡ f → (least : ℕ) → least ≤ half → IsTreeIn (nodes_in a.pages) zero least at → RemovesAs a.pages c.pages zero least at key (as_removal was f)
  leaf_as true e least le tree = (word_is, leaf_in least (least - 1) tree (omega (arith, tree.full, long_now)))
  leaf_as false e least le tree =
      let enough : half ≤ length (items_of takes.now) = elim (cases_lt (length (items_of takes.now)) (capacity_of (length takes.now) / 2)) [
        | inl lt ↦ absurd (let z = sym e ∙ takes.takes.few_is.1 lt in cc z)
        | inr from ↦ omega (arith, from, half_now)
      ] in
      (word_is, leaf_in least least tree (omega (arith, le, enough, ap (λ (n : Node). length n.items) new_node)))

  pub leaf_removes : (limit : ℕ) → RemovesFor a.pages c.pages half limit at key (as_removal was few)
  leaf_removes limit = record { each = step }
    where
      step : (levels : ℕ) → levels < limit → (least : ℕ) → least ≤ half → IsTreeIn (nodes_in a.pages) levels least at → ((j : ℕ) → times j (nodes_under (nodes_in a.pages) levels at) ≤ 1) → RemovesAs a.pages c.pages levels least at key (as_removal was few)
      step zero lt least le tree once = leaf_as few refl least le tree
      step (suc h) lt least le tree once = absurd (let k = ap (λ (n : Node). n.kind) old_node ∙ place.is.kind in omega (arith, k, tree.0.kind_is))

-- One step up: a removal from the tree of a child.
module _ (T : Type 0) (a b : Paged) (at i child : ℕ) (key : List ℕ) (half h least : ℕ) (t : T) (meta : HasMeta a) (readable_a : AllReadable a) (place : IsPlaceIn a at key (Below i child)) (below : (n : ℕ) → IsNumberIn a Pages n → at < n)
    (half_size : half ≡ half_of a.page_size) (tree : IsTreeIn (nodes_in a.pages) (suc h) least at) (once : (j : ℕ) → times j (nodes_under (nodes_in a.pages) (suc h) at) ≤ 1) where
  node : IsNode a at (index_of place.page)
  node = record { page = place.page; in_hand = place.in_hand; well_made = place.is.well_made; size = place.size; is = refl }

  up_in : at < page_count a.pages
  up_in = below_count a at meta below

  page_at_is : page_at a.pages at ≡ place.page
  page_at_is = page_is a at place.page up_in place.in_hand.page

  for_key : IsChildFor (nodes_in a.pages at).items key i
  for_key = subst (λ (q : List ℕ). IsChildFor (items_of q) key i) (sym page_at_is) place.is.for_key

  st : Stand (items_under (nodes_in a.pages) h) (first_entry (nodes_in a.pages at).link) (nodes_in a.pages at).items key i
  st = stand (items_under (nodes_in a.pages) h) (first_entry (nodes_in a.pages at).link) (nodes_in a.pages at).items key i for_key tree.2

  child_is : st.here.child ≡ child
  child_is = st.child ∙ ap (λ (q : List ℕ). kid (index_in (index_of q).link) (items_of q) i) page_at_is ∙ sym (kid_is (index_in (index_of place.page).link) (items_of place.page) i) ∙ sym place.is.is

  half_here : (nodes_in a.pages at).half ≡ half
  half_here = half_is a at (index_of place.page) up_in node ∙ sym half_size

  parts : Each (IsTreeIn (nodes_in a.pages) h (nodes_in a.pages at).half) (st.before ++ (st.here ∷ st.after))
  parts = subst (Each (IsTreeIn (nodes_in a.pages) h (nodes_in a.pages at).half)) st.is tree.1

  -- the child's tree, and its pages, each once
  pub child_tree : IsTreeIn (nodes_in a.pages) h half child
  child_tree = (let e = each_right (IsTreeIn (nodes_in a.pages) h (nodes_in a.pages at).half) st.before (st.here ∷ st.after) parts in
      subst (λ (q : ℕ × ℕ). IsTreeIn (nodes_in a.pages) h q.0 q.1) {x = ((nodes_in a.pages at).half, st.here.child)} {y = (half, child)} (λ z. (half_here z, child_is z)) e.0)

  row_times : (j : ℕ) → times j (nodes_under (nodes_in a.pages) (suc h) at) ≡ times j (at ∷ []) + times j (flat (nodes_under (nodes_in a.pages) h) (entries (nodes_in a.pages at)))
  row_times j = times-append j (at ∷ []) (flat (nodes_under (nodes_in a.pages) h) (entries (nodes_in a.pages at)))

  child_few : (j : ℕ) → times j (nodes_under (nodes_in a.pages) h child) ≤ times j (flat (nodes_under (nodes_in a.pages) h) (entries (nodes_in a.pages at)))
  child_few j =
      let f = nodes_under (nodes_in a.pages) h in
      let e : times j (flat f (entries (nodes_in a.pages at))) ≡ times j (flat f (st.before ++ (st.here ∷ st.after))) = ap (λ (es : List Entry). times j (flat f es)) st.is in
      omega (
        arith,
        e,
        ap (λ u. times j u) (flat_joined f st.before (st.here ∷ st.after)),
        times-append j (flat f st.before) (f st.here.child ++ flat f st.after),
        times-append j (f st.here.child) (flat f st.after),
        ap (λ n. times j (f n)) child_is,
      )

  pub child_once : (j : ℕ) → times j (nodes_under (nodes_in a.pages) h child) ≤ 1
  child_once j = omega (arith, child_few j, once j, row_times j)

  pub get_here : (was : Option ℕ) → get_in (items_under (nodes_in a.pages) h child) key ≡ was → get_in (items_under (nodes_in a.pages) (suc h) at) key ≡ was
  get_here was is = get_stand (items_under (nodes_in a.pages) h) (first_entry (nodes_in a.pages at).link) (nodes_in a.pages at).items key i st ∙ ap (λ n. get_in (items_under (nodes_in a.pages) h n) key) child_is ∙ is

  module _ (less : ℕ) (removal : RemovesIn a.pages b.pages h less child key) where
    child_removes : RemovesTree (nodes_in a.pages) (nodes_in b.pages) removal.given h less st.here.child key
    child_removes = subst (λ n. RemovesTree (nodes_in a.pages) (nodes_in b.pages) removal.given h less n key) (sym child_is) removal.removes

    still : nodes_in b.pages at ≡ nodes_in a.pages at
    still = at_same (nodes_in a.pages) (nodes_in b.pages) removal.given h least at less i key tree once (first_entry (nodes_in a.pages at).link) (nodes_in a.pages at).items refl st child_removes

    swap_up : RowSwap (nodes_in a.pages) (nodes_in b.pages) h (entries (nodes_in a.pages at)) (entries (nodes_in a.pages at)) None removal.given
    swap_up = row_removed (nodes_in a.pages) (nodes_in b.pages) removal.given h least at less i key tree once (first_entry (nodes_in a.pages at).link) (nodes_in a.pages at).items refl st child_removes

    items_up : flat (items_under (nodes_in b.pages) h) (entries (nodes_in a.pages at)) ≡ remove_in (flat (items_under (nodes_in a.pages) h) (entries (nodes_in a.pages at))) key
    items_up = items_removed (nodes_in a.pages) (nodes_in b.pages) removal.given h least at less i key tree once (first_entry (nodes_in a.pages at).link) (nodes_in a.pages at).items refl st child_removes

    trees_up : EachAt (LacksAt (nodes_in b.pages) h (nodes_in a.pages at).half less i) 0 (entries (nodes_in a.pages at))
    trees_up = trees_removed (nodes_in a.pages) (nodes_in b.pages) removal.given h least at less i key tree once (first_entry (nodes_in a.pages at).link) (nodes_in a.pages at).items refl st child_removes

    others_up : (j : ℕ) → (IsSpare (nodes_in a.pages j) → ⊥) → times j (nodes_under (nodes_in a.pages) (suc h) at) ≡ 0 → nodes_in b.pages j ≡ nodes_in a.pages j
    others_up = others_removed (nodes_in a.pages) (nodes_in b.pages) removal.given h least at less i key tree once (first_entry (nodes_in a.pages at).link) (nodes_in a.pages at).items refl st child_removes

    not_below : (j : ℕ) → times j (nodes_under (nodes_in a.pages) (suc h) at) ≡ 0 → times j (nodes_under (nodes_in a.pages) h child) ≡ 0
    not_below j none = omega (arith, none, child_few j, row_times j)

    -- the row's pages, after the removal
    row_few : (j : ℕ) → times j (flat (nodes_under (nodes_in b.pages) h) (entries (nodes_in a.pages at))) ≤ times j (flat (nodes_under (nodes_in a.pages) h) (entries (nodes_in a.pages at)))
    row_few j = omega (arith, swap_up.nodes j)

  -- the child has enough items
  pub kept_up : RemovesIn a.pages b.pages h half child key → RemovesIn a.pages b.pages (suc h) least at key
  kept_up removal =
      let e = still half removal in
      record {
        given = removal.given;
        removes = parent_removes (nodes_in a.pages) (nodes_in b.pages) removal.given h least least at key (entries (nodes_in a.pages at))
            (record { kind_is = ap (λ (n : Node). n.kind) e ∙ tree.0.kind_is; full = omega (arith, tree.0.full, ap (λ (n : Node). length n.items) e) }) (ap (λ (n : Node). n.half) e) (ap (λ (n : Node). entries n) e) tree.2
            (swap_up half removal)
            (each_at_to (LacksAt (nodes_in b.pages) h (nodes_in a.pages at).half half i) (IsTreeIn (nodes_in b.pages) h (nodes_in a.pages at).half) 0 (entries (nodes_in a.pages at))
            (λ k x le lt l. elim (cases_eq k i) [ inl z ↦ subst (λ n. IsTreeIn (nodes_in b.pages) h n x) (sym half_here) (l.here z) | inr z ↦ l.other z ]) (trees_up half removal))
            (items_up half removal) (others_up half removal);
        others = λ j not_zero none. removal.others j not_zero (not_below half removal j none);
        gives = removal.gives;
      }

  -- the child was mended
  module _ (count : ℕ) (removal : RemovesIn a.pages b.pages h (half - 1) child key) (readable : AllReadable b) (meta_b : HasMeta b) (number : IsNumberIn b Pages count) (at_lt : at < count) (size : b.page_size ≡ a.page_size) where
    abbrev less : ℕ
    less = half - 1

    mended_half : half ≡ half_of b.page_size
    mended_half = half_size ∙ ap half_of (sym size)

    E_still : entries (nodes_in b.pages at) ≡ entries (nodes_in a.pages at)
    E_still = ap (λ (n : Node). entries n) (still less removal)

    row_trees : EachAt (LacksAt (nodes_in b.pages) h half (half - 1) i) 0 (entries (nodes_in b.pages at))
    row_trees = subst (λ (q : ℕ × List Entry). EachAt (LacksAt (nodes_in b.pages) h q.0 (half - 1) i) 0 q.1) {x = ((nodes_in a.pages at).half, entries (nodes_in a.pages at))} {y = (half, entries (nodes_in b.pages at))} (λ z. (half_here z, sym E_still z)) (trees_up less removal)

    row_bounded : AreBounded (items_under (nodes_in b.pages) h) (entries (nodes_in b.pages at)) None
    row_bounded = subst (λ (es : List Entry). AreBounded (items_under (nodes_in b.pages) h) es None) (sym E_still) ((swap_up less removal).bounds tree.2)

    row_once : (j : ℕ) → times j (flat (nodes_under (nodes_in b.pages) h) (entries (nodes_in b.pages at))) ≤ 1
    row_once j = subst (λ (es : List Entry). times j (flat (nodes_under (nodes_in b.pages) h) es) ≤ 1) (sym E_still) (omega (arith, row_few less removal j, once j, row_times j))

    row_alone : times at (flat (nodes_under (nodes_in b.pages) h) (entries (nodes_in b.pages at))) ≡ 0
    row_alone = subst (λ (es : List Entry). times at (flat (nodes_under (nodes_in b.pages) h) es) ≡ 0) (sym E_still) (omega (arith, row_few less removal at, once at, row_times at, times_here at []))

    page_b : b.pages at ≡ Some place.page
    page_b = removal.others at (λ e. omega (arith, e, place.some)) (omega (arith, child_few at, once at, row_times at, times_here at [])) ∙ place.in_hand.page

    items_some : 1 ≤ least → 1 ≤ length (items_of place.page)
    items_some some = (let e : length (nodes_in a.pages at).items ≡ length (items_of place.page) = ap (λ (q : List ℕ). length (items_of q)) page_at_is in omega (arith, some, tree.0.full, e))

    -- the child can be mended, where no page is bad
    pub can_be_mended : IsSound b → 1 ≤ least → CanBeMended b count at i child
    can_be_mended sound some = record {
      below = omega (arith, at_lt, number_told b Pages count number);
      has = λ page is. (let e : place.page ≡ page = cc (page_b, is) in subst (λ (q : List ℕ). HasPair q i) e (record { kind = place.is.kind; some = items_some some; in_range = place.is.for_key.in_range }));
      may = λ page is pair pair_is. (let e : place.page ≡ page = cc (page_b, is) in
          let c : child_of page i ≡ child = ap (λ (q : List ℕ). child_of q i) (sym e) ∙ sym place.is.is in
          subst (MayMend pair count at) c (may_of T b b count at i t readable meta_b place.some number at_lt pair page is pair_is h half (half - 1) mended_half (omega arith) row_trees row_bounded row_once row_alone));
      stand = λ page is pair pair_is. record {
        each = λ parent left right p l r p_size l_size r_size.
            (let e : page ≡ parent = cc (is, p) in
            let pair_of : IsPairOf parent i pair = subst (λ (q : List ℕ). IsPairOf q i pair) e pair_is in
            let may = may_of T b b count at i t readable meta_b place.some number at_lt pair parent p pair_of h half (half - 1) mended_half (omega arith) row_trees row_bounded row_once row_alone in
            let reads = sound_reads b sound readable in
            let lr = reads_now b sound readable pair.left left may.left_some (omega (arith, may.left_below, number_told b Pages count number)) l in
            let rr = reads_now b sound readable pair.right right may.right_some (omega (arith, may.right_below, number_told b Pages count number)) r in
            neighbours T b b count at i t readable meta_b place.some number at_lt pair parent p pair_of h half (half - 1) mended_half (omega arith) row_trees row_bounded row_once row_alone (child_of parent i) may left right l r p_size l_size r_size
            (left_index T b b count at i t readable meta_b place.some number at_lt pair parent p pair_of h half (half - 1) mended_half (omega arith) row_trees row_bounded row_once row_alone left l lr)
            (right_index T b b count at i t readable meta_b place.some number at_lt pair parent p pair_of h half (half - 1) mended_half (omega arith) row_trees row_bounded row_once row_alone right r rr)
            (wide_row T b b count at i t readable meta_b place.some number at_lt pair parent p pair_of h half (half - 1) mended_half (omega arith) row_trees row_bounded row_once row_alone reads));
      };
    }

    module _ (c : Paged) (few : Bool) (mended : MendsChild T b c count at i child few) where
      page_same : mended.page ≡ mended.mends.parent
      page_same = cc (mended.page_is, mended.mends.parent_is (inl t))

      pair_of : IsPairOf mended.mends.parent i mended.pair
      pair_of = subst (λ (q : List ℕ). IsPairOf q i mended.pair) page_same mended.pair_of

      row_by : (mend : Mend) → IsMend mended.mends.parent mended.mends.left mended.mends.right mended.pair.place mended.mends.mends.parent' mended.mends.mends.left' mended.mends.mends.right' mend
          → IsWritten T b c at mended.pair mended.mends.mends.parent' mended.mends.mends.left' mended.mends.mends.right' 1 mend few → RowMended b.pages c.pages h half at (entries (nodes_in b.pages at)) few
      row_by Merged is w =
          let m = mended.mends in
          merged_row T b c count at i t readable meta_b place.some number at_lt mended.pair m.parent (m.parent_is (inl t)) pair_of h half (half - 1) mended_half (omega arith) row_trees row_bounded row_once row_alone
          child mended.may m.left m.right (m.left_is (inl t)) (m.right_is (inl t)) m.parent_size m.left_size m.right_size (reads_left m.left m.right is.kind m.left_reads) (reads_right m.left m.right is.kind m.right_reads)
          m.mends.parent' m.mends.left' is (m.mends.sizes.0, m.mends.sizes.1) 1 w.0 few
          (λ not_few. elim (cases_lt (length (items_of m.mends.parent')) (capacity_of (length m.mends.parent') / 2)) [ inl lt ↦ absurd (not_few (w.1.1 lt)) | inr from ↦ from ])
      row_by Shared is w =
          let m = mended.mends in
          shared_row T b c count at i t readable meta_b place.some number at_lt mended.pair m.parent (m.parent_is (inl t)) pair_of h half (half - 1) mended_half (omega arith) row_trees row_bounded row_once row_alone
          child mended.may m.left m.right (m.left_is (inl t)) (m.right_is (inl t)) m.parent_size m.left_size m.right_size (reads_left m.left m.right is.kind m.left_reads) (reads_right m.left m.right is.kind m.right_reads)
          m.mends.parent' m.mends.left' m.mends.right' is m.mends.sizes 1 w.0 few
      row_by Wrong is w = absurd w

      rm : RowMended b.pages c.pages h half at (entries (nodes_in b.pages at)) few
      rm = row_by mended.mends.mends.mend mended.mends.mends.is mended.mends.mends.written

      rm_swap : RowSwap (nodes_in b.pages) (nodes_in c.pages) h (entries (nodes_in a.pages at)) rm.row None rm.given
      rm_swap = subst (λ (es : List Entry). RowSwap (nodes_in b.pages) (nodes_in c.pages) h es rm.row None rm.given) E_still rm.swap

      row_none : (j : ℕ) → times j (nodes_under (nodes_in a.pages) (suc h) at) ≡ 0 → times j (flat (nodes_under (nodes_in b.pages) h) (entries (nodes_in b.pages at))) ≡ 0
      row_none j none = subst (λ (es : List Entry). times j (flat (nodes_under (nodes_in b.pages) h) es) ≡ 0) (sym E_still) (omega (arith, none, row_times j, row_few less removal j))

      not_at : (j : ℕ) → times j (nodes_under (nodes_in a.pages) (suc h) at) ≡ 0 → j ≢ at
      not_at j none e = omega (arith, none, root_stands (nodes_in a.pages) (suc h) at, ap (λ n. times n (nodes_under (nodes_in a.pages) (suc h) at)) e)

      pages_others : (j : ℕ) → j ≢ 0 → times j (nodes_under (nodes_in a.pages) (suc h) at) ≡ 0 → c.pages j ≡ a.pages j
      pages_others j not_zero none = rm.others j not_zero (not_at j none) (row_none j none) ∙ removal.others j not_zero (not_below less removal j none)

      all_gives : GivesBack a.pages c.pages (rm.given ++ removal.given)
      all_gives = gives_then a.pages b.pages c.pages removal.given rm.given removal.gives rm.gives

      nodes_others : (j : ℕ) → (IsSpare (nodes_in a.pages j) → ⊥) → times j (nodes_under (nodes_in a.pages) (suc h) at) ≡ 0 → nodes_in c.pages j ≡ nodes_in a.pages j
      nodes_others j used none =
          let not_zero : j ≢ 0 = λ e. used (subst (λ n. IsSpare (nodes_in a.pages n)) (sym e) (meta_spare a readable_a meta)) in
          λ k. node_of (if nat_lt j (all_gives.count k) then bytes_of (pages_others j not_zero none k) else [])

      mended_in : (least' : ℕ) → least' ≤ length (nodes_in c.pages at).items → RemovesIn a.pages c.pages (suc h) least' at key
      mended_in least' full = record {
        given = rm.given ++ removal.given;
        removes = parent_removes (nodes_in a.pages) (nodes_in c.pages) (rm.given ++ removal.given) h least least' at key rm.row (record { kind_is = rm.kind; full = full }) (rm.half_now ∙ sym half_here) rm.here tree.2
            (swap_then (nodes_in a.pages) (nodes_in b.pages) (nodes_in c.pages) h (entries (nodes_in a.pages at)) (entries (nodes_in a.pages at)) rm.row None removal.given rm.given (swap_up less removal) rm_swap)
            (subst (λ n. Each (IsTreeIn (nodes_in c.pages) h n) rm.row) (sym half_here) rm.trees)
            (rm.items ∙ ap (λ (es : List Entry). flat (items_under (nodes_in b.pages) h) es) E_still ∙ items_up less removal)
            nodes_others;
        others = pages_others;
        gives = all_gives;
      }

      long_b : length (nodes_in b.pages at).items ≡ length (nodes_in a.pages at).items
      long_b = ap (λ (n : Node). length n.items) (still less removal)

      pub mended_as : (f : Bool) → few ≡ f → (was : ℕ) → get_in (items_under (nodes_in a.pages) (suc h) at) key ≡ Some was → least ≤ half → RemovesAs a.pages c.pages (suc h) least at key (as_removal was f)
      mended_as true e was word le = (word, mended_in (least - 1) (elim rm.count [ inl x ↦ omega (arith, x, long_b, tree.0.full) | inr x ↦ omega (arith, x.0, long_b, tree.0.full) ]))
      mended_as false e was word le = (word, mended_in least (elim rm.count [ inl x ↦ omega (arith, x, long_b, tree.0.full) | inr x ↦ (let enough = x.1 (λ z. absurd (let q = sym e ∙ z in cc q)) in omega (arith, enough, le)) ]))
