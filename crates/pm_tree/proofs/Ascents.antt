-- A put into a child, for the tree of its parent.
use Rattle.std.proofs.Common.{◌≡◌, ◌≢◌, ℕ, suc, ◌<◌, ◌≤◌, ◌⊎◌, false, List, [], ◌∷◌, ◌++◌, map, length, refl, sym, ap, subst, ◌∙◌, inl, inr, arith}
use Rattle.std.specs.Prelude.{Option, None, Some}
use Rattle.std.proofs.lemmas.List.{map-append, length-append, get_or_append_left}
use Rattle.pm_types.specs.Ids.{page_id}
use Rattle.pm_btpage.specs.IndexPages.{Item, IndexPage, items_of, index_of, key_in, with_item, with_items, IsBelow, IsBetween, IsRising}
use Rattle.pm_btpage.proofs.ItemLists.{rising-with_item, length-with_item}
use Rattle.pm_meta.specs.declared.slots.MetaSlot.TheVariants.{Pages}
use Rattle.pm_pages.specs.Rows.{page_at, page_count}
use Rattle.pm_pages.specs.Chains.{times}
use Rattle.pm_pages.specs.Trees.{index_in}
use Rattle.pm_pages.specs.Paged.{Paged, AllReadable}
use Rattle.pm_pages.specs.Edits.{EditsPages, HasMeta, IsNumberIn}
use Rattle.pm_tree.specs.declared.put.Part.{Part}
use Rattle.pm_tree.specs.Maps.{get_in}
use Rattle.pm_tree.specs.Steps.{IsChildFor}
use Rattle.pm_tree.specs.Nodes.{Node, Entry, entry, first_entry, entries, nodes_in, items_under, nodes_under, IsFrom, IsUpTo, AreBounded, Each, IsTreeIn, Keys}
use Rattle.pm_tree.specs.Puts.{flat, IsSpare, PutsTree, PutsIn, half_of}
use Rattle.pm_tree.specs.Edits.{IsNode}
use Rattle.pm_tree.specs.Places.{IsPlaceIn}
use Rattle.pm_tree.specs.declared.places.Place.TheVariants.{Below}
use Rattle.pm_tree.specs.Divisions.{KeepsNumbers}
use Rattle.pm_tree.specs.Grown.{child_item}
use Rattle.pm_pages.specs.SpareChains.{MovesSpare}
use Rattle.pm_tree.proofs.KeyOrder.{below_then}
use Rattle.pm_pages.proofs.SpareMoves.{moves_then, moves_on}
use Rattle.pm_pages.proofs.SpareSteps.{moves_page}
use Rattle.pm_tree.proofs.NodeKinds.{node_kind}
use Rattle.pm_tree.proofs.MapLists.{keys_joined, keys_weaker}
use Rattle.pm_tree.proofs.Decoded.{kid, kid_is}
use Rattle.pm_tree.proofs.Seams.{Seam, seam, get_seam, flat_joined, each_right}
use Rattle.pm_pages.proofs.ChainWalks.{times-append, times_here}
use Rattle.pm_tree.proofs.RowPuts.{RowPut, row_put, bounds_apart}
use Rattle.pm_tree.proofs.NodePuts.{inner_puts, inner_divided}
use Rattle.pm_tree.proofs.Told.{node_away, page_is, link_is, items_are, half_is, is_inner, below_count, counts_rise}
use Rattle.pm_tree.proofs.Divided.{numbers_stay}

-- the keys below entries that are all below one are below it, and those from one on aren't
pub upto_all : (f : ℕ → List Item) (first : Entry) (xs : List Item) (m : List ℕ) → AreBounded f (first ∷ map entry xs) (Some m) → ((j : ℕ) → j < length xs → IsBelow (key_in xs j) m) → Keys (IsUpTo (Some m)) (flat f (first ∷ map entry xs))
upto_all f first [] m bounded below = keys_joined (IsUpTo (Some m)) (f first.child) [] bounded.1 tt
upto_all f first (x ∷ xs) m bounded below =
    keys_joined (IsUpTo (Some m)) (f first.child) (flat f (map entry (x ∷ xs))) (keys_weaker (IsUpTo (Some x.key)) (IsUpTo (Some m)) (f first.child) (λ k upto. below_then k x.key m upto (below 0 (omega arith))) bounded.1)
    (upto_all f (entry x) xs m bounded.2 (λ j lt. below (suc j) (omega (arith, lt))))

pub from_all : (f : ℕ → List Item) (xs : List Item) (m : List ℕ) → AreBounded f (map entry xs) None → ((j : ℕ) → j < length xs → IsBelow m (key_in xs j)) → Keys (IsFrom (Some m)) (flat f (map entry xs))
from_all f [] m bounded above = tt
from_all f (x ∷ xs) m bounded above =
    keys_joined (IsFrom (Some m)) (f (index_in x.word)) (flat f (map entry xs)) (keys_weaker (IsFrom (Some x.key)) (IsFrom (Some m)) (f (index_in x.word)) (λ k from low. from (below_then k m x.key low (above 0 (omega arith)))) bounded.0)
    (from_all f xs m bounded.2 (λ j lt. above (suc j) (omega (arith, lt))))

-- rising keys, around one of them
pub key_here : (xs ys : List Item) (x : Item) → key_in (xs ++ (x ∷ ys)) (length xs) ≡ x.key
key_here [] ys x = refl
key_here (z ∷ xs) ys x = key_here xs ys x

pub rising_low : (xs ys : List Item) (x : Item) → IsRising (xs ++ (x ∷ ys)) → (j : ℕ) → j < length xs → IsBelow (key_in xs j) x.key
rising_low xs ys x rising j lt =
    let less = rising j (length xs) lt (omega (arith, length-append xs (x ∷ ys))) in
    let one = subst (IsBelow (key_in (xs ++ (x ∷ ys)) j)) (key_here xs ys x) less in
    subst (λ (y : Item). IsBelow y.key x.key) (get_or_append_left xs (x ∷ ys) (record { key = []; word = 0 }) j lt) one

pub rising_high : (xs ys : List Item) (x : Item) → IsRising (xs ++ (x ∷ ys)) → (j : ℕ) → j < length ys → IsBelow x.key (key_in ys j)
rising_high [] ys x rising j lt = rising 0 (suc j) (omega arith) (omega (arith, lt))
rising_high (y ∷ xs) ys x rising j lt = rising_high xs ys x (λ a b less lt'. rising (suc a) (suc b) (omega (arith, less)) (omega (arith, lt'))) j lt

-- One step up: the child's row in place of the child.
module _ (T : Type 0) (a b : Paged) (at i child : ℕ) (key : List ℕ) (word half h least : ℕ) (t : T) (meta : HasMeta a) (place : IsPlaceIn a at key (Below i child)) (below : (n : ℕ) → IsNumberIn a Pages n → at < n)
    (half_size : half ≡ half_of a.page_size) (tree : IsTreeIn (nodes_in a.pages) (suc h) least at) (once : (j : ℕ) → times j (nodes_under (nodes_in a.pages) (suc h) at) ≤ 1) where
  N : ℕ → Node
  N = nodes_in a.pages

  node : IsNode a at (index_of place.page)
  node = record { page = place.page; in_hand = place.in_hand; well_made = place.is.well_made; size = place.size; is = refl }

  at_in : at < page_count a.pages
  at_in = below_count a at meta below

  page_at_is : page_at a.pages at ≡ place.page
  page_at_is = page_is a at place.page at_in place.in_hand.page

  abbrev first : Entry
  first = first_entry (nodes_in a.pages at).link

  for_key : IsChildFor (nodes_in a.pages at).items key i
  for_key = subst (λ (q : List ℕ). IsChildFor (items_of q) key i) (sym page_at_is) place.is.for_key

  pub at_seam : Seam (items_under (nodes_in a.pages) h) (first_entry (nodes_in a.pages at).link) (nodes_in a.pages at).items key i
  at_seam = seam (items_under (nodes_in a.pages) h) first (nodes_in a.pages at).items key i tt for_key tree.2

  child_is : at_seam.here.child ≡ child
  child_is = at_seam.child ∙ ap (λ (q : List ℕ). kid (index_in (index_of q).link) (items_of q) i) page_at_is ∙ sym (kid_is (index_in (index_of place.page).link) (items_of place.page) i) ∙ sym place.is.is

  half_here : (nodes_in a.pages at).half ≡ half
  half_here = half_is a at (index_of place.page) at_in node ∙ sym half_size

  parts : Each (IsTreeIn (nodes_in a.pages) h (nodes_in a.pages at).half) (at_seam.before ++ (at_seam.here ∷ at_seam.after))
  parts = subst (Each (IsTreeIn (nodes_in a.pages) h (nodes_in a.pages at).half)) at_seam.is tree.1

  child_tree_here : IsTreeIn (nodes_in a.pages) h (nodes_in a.pages at).half at_seam.here.child
  child_tree_here = (let e = each_right (IsTreeIn (nodes_in a.pages) h (nodes_in a.pages at).half) at_seam.before (at_seam.here ∷ at_seam.after) parts in e.0)

  -- the child's tree, and its pages, each once
  pub child_tree : IsTreeIn (nodes_in a.pages) h half child
  child_tree = subst (λ (q : ℕ × ℕ). IsTreeIn (nodes_in a.pages) h q.0 q.1) {x = ((nodes_in a.pages at).half, at_seam.here.child)} {y = (half, child)} (λ z. (half_here z, child_is z)) child_tree_here

  below_once : (j : ℕ) → times j (flat (nodes_under (nodes_in a.pages) h) (entries (nodes_in a.pages at))) ≤ 1
  below_once j = omega (arith, once j, times-append j (at ∷ []) (flat (nodes_under (nodes_in a.pages) h) (entries (nodes_in a.pages at))))

  child_few : (j : ℕ) → times j (nodes_under (nodes_in a.pages) h child) ≤ times j (flat (nodes_under (nodes_in a.pages) h) (entries (nodes_in a.pages at)))
  child_few j =
      let f = nodes_under (nodes_in a.pages) h in
      let e : times j (flat f (entries (nodes_in a.pages at))) ≡ times j (flat f (at_seam.before ++ (at_seam.here ∷ at_seam.after))) = ap (λ (es : List Entry). times j (flat f es)) at_seam.is in
      omega (
        arith,
        e,
        ap (λ u. times j u) (flat_joined f at_seam.before (at_seam.here ∷ at_seam.after)),
        times-append j (flat f at_seam.before) (f at_seam.here.child ++ flat f at_seam.after),
        times-append j (f at_seam.here.child) (flat f at_seam.after),
        ap (λ n. times j (f n)) child_is,
      )

  pub child_once : (j : ℕ) → times j (nodes_under (nodes_in a.pages) h child) ≤ 1
  child_once j = omega (arith, child_few j, below_once j)

  -- the page itself isn't one of them
  pub child_apart : times at (nodes_under (nodes_in a.pages) h child) < 1
  child_apart = omega (arith, once at, times_here at (flat (nodes_under (nodes_in a.pages) h) (entries (nodes_in a.pages at))), child_few at)

  pub get_here : (was : Option ℕ) → was ≡ get_in (items_under (nodes_in a.pages) h child) key → was ≡ get_in (items_under (nodes_in a.pages) (suc h) at) key
  get_here was is = is ∙ ap (λ n. get_in (items_under (nodes_in a.pages) h n) key) (sym child_is) ∙ sym (get_seam (items_under (nodes_in a.pages) h) first (nodes_in a.pages at).items key i at_seam)

  module _ (rest : List Entry) (puts : PutsIn a.pages b.pages h half child key word rest) where
    M : ℕ → Node
    M = nodes_in b.pages

    put : PutsTree (nodes_in a.pages) (nodes_in b.pages) puts.made h (nodes_in a.pages at).half at_seam.here.child key word rest
    put = subst (λ (q : ℕ × ℕ). PutsTree (nodes_in a.pages) (nodes_in b.pages) puts.made h q.0 q.1 key word rest) {x = (half, child)} {y = ((nodes_in a.pages at).half, at_seam.here.child)} (λ z. (sym half_here z, sym child_is z)) puts.puts

    pub row_up : RowPut (nodes_in a.pages) (nodes_in b.pages) puts.made h (nodes_in a.pages at).half (entries (nodes_in a.pages at)) (at_seam.before ++ ((at_seam.here ∷ rest) ++ at_seam.after)) key word
    row_up = row_put (nodes_in a.pages) (nodes_in b.pages) puts.made h (nodes_in a.pages at).half first (nodes_in a.pages at).items key i word at_seam rest tree.1 tree.2 below_once put

    pub others_up : (j : ℕ) → (IsSpare (nodes_in a.pages j) → ⊥) → times j (flat (nodes_under (nodes_in a.pages) h) (entries (nodes_in a.pages at))) ≡ 0 → nodes_in b.pages j ≡ nodes_in a.pages j
    others_up j not_spare none = puts.puts.others j not_spare (omega (arith, none, child_few j))

    at_used : IsSpare (nodes_in a.pages at) → ⊥
    at_used s = s.inner tree.0.kind_is

    pub at_still : nodes_in b.pages at ≡ nodes_in a.pages at
    at_still = others_up at at_used (omega (arith, once at, times_here at (flat (nodes_under (nodes_in a.pages) h) (entries (nodes_in a.pages at)))))

    not_below : (j : ℕ) → times j (nodes_under (nodes_in a.pages) (suc h) at) ≡ 0 → times j (nodes_under (nodes_in a.pages) h child) ≡ 0
    not_below j none = omega (arith, none, child_few j, times-append j (at ∷ []) (flat (nodes_under (nodes_in a.pages) h) (entries (nodes_in a.pages at))))

    at_other : (j : ℕ) → times j (nodes_under (nodes_in a.pages) (suc h) at) ≡ 0 → j ≢ at
    at_other j none e = omega (arith, none, times_here at (flat (nodes_under (nodes_in a.pages) h) (entries (nodes_in a.pages at))), ap (λ k. times k (nodes_under (nodes_in a.pages) (suc h) at)) e)

  -- the child kept its page
  pub kept_up : PutsIn a.pages b.pages h half child key word [] → PutsIn a.pages b.pages (suc h) least at key word []
  kept_up puts =
      let still = at_still [] puts in
      record {
        made = puts.made;
        puts = inner_puts (nodes_in a.pages) (nodes_in b.pages) (nodes_in b.pages) puts.made h least at key word tree once (at_seam.before ++ (at_seam.here ∷ at_seam.after)) (row_up [] puts) (others_up [] puts) puts.puts.spare puts.puts.once
            (record { kind_is = ap (λ (n : Node). n.kind) still ∙ tree.0.kind_is; full = omega (arith, tree.0.full, ap (λ (n : Node). length n.items) still) })
            (ap (λ (n : Node). n.half) still) (ap (λ (n : Node). entries n) still ∙ at_seam.is) (λ j ne not_spare. refl);
        others = λ j not_zero none made. puts.others j not_zero (not_below [] puts j none) made;
        moves = puts.moves;
      }

  -- the child was divided
  module _ (part : Part) (puts : PutsIn a.pages b.pages h half child key word (record { from = Some part.from; child = part.right } ∷ [])) (readable : AllReadable b) (changes : KeepsNumbers a b) (meta_b : HasMeta b) (below_b : (n : ℕ) → IsNumberIn b Pages n → at < n) (size_b : b.page_size ≡ a.page_size) where
    abbrev rest : List Entry
    rest = record { from = Some part.from; child = part.right } ∷ []

    still : nodes_in b.pages at ≡ nodes_in a.pages at
    still = at_still (record { from = Some part.from; child = part.right } ∷ []) puts

    in_b : at < page_count b.pages
    in_b = below_count b at meta_b below_b

    module _ (says : IndexPage) (before : IsNode b at says) (between : IsBetween says.items part.from i) (index : index_in (child_item b.part part).word ≡ part.right) where
      items_b : says.items ≡ (nodes_in a.pages at).items
      items_b = sym (items_are b at says in_b before) ∙ ap (λ (n : Node). n.items) still

      link_b : says.link ≡ (nodes_in a.pages at).link
      link_b = sym (link_is b at says in_b before) ∙ ap (λ (n : Node). n.link) still

      row_is : (first_entry says.link ∷ map entry (with_item says.items i (child_item b.part part))) ≡ at_seam.before ++ ((at_seam.here ∷ (record { from = Some part.from; child = part.right } ∷ [])) ++ at_seam.after)
      row_is =
          (λ z. first_entry (link_b z) ∷ map entry (with_item (items_b z) i (child_item b.part part))) ∙ at_seam.more (child_item b.part part)
          ∙ ap (λ n. at_seam.before ++ (at_seam.here ∷ record { from = Some part.from; child = n } ∷ at_seam.after)) index

      pub grown_up : (c : Paged) → says.leaf ≡ false → IsNode c at (with_items says (with_item says.items i (child_item b.part part))) → EditsPages T b c (λ j. j ≡ at) 0 → PutsIn a.pages c.pages (suc h) least at key word []
      grown_up c inner after edits =
          let numbers = numbers_stay T b c (λ j. j ≡ at) 0 edits (λ e. omega (arith, e, place.some)) in
          let in_c : at < page_count c.pages = omega (arith, in_b, counts_rise b c meta_b numbers) in
          let now = with_items says (with_item says.items i (child_item b.part part)) in
          let items_c = items_are c at now in_c after in
          record {
            made = puts.made;
            puts = inner_puts (nodes_in a.pages) (nodes_in b.pages) (nodes_in c.pages) puts.made h least at key word tree once (at_seam.before ++ ((at_seam.here ∷ (record { from = Some part.from; child = part.right } ∷ [])) ++ at_seam.after))
                (row_up rest puts) (others_up rest puts) puts.puts.spare puts.puts.once
                (record { kind_is = is_inner c at now in_c after inner; full = omega (arith, tree.0.full, ap length items_c, ap length items_b, length-with_item says.items i (child_item b.part part) between.in_range) })
                (half_is c at now in_c after ∙ ap half_of (edits.same.page_size ∙ size_b) ∙ sym half_size ∙ sym half_here)
                ((λ z. first_entry (link_is c at now in_c after z) ∷ map entry (items_c z)) ∙ row_is)
                (λ j ne not_spare. node_away T b c (λ j. j ≡ at) 0 t readable meta_b edits numbers j (λ e. absurd (ne e)) not_spare);
            others = λ j not_zero none made. edits.others j (inl t) (at_other rest puts j none) ∙ puts.others j not_zero (not_below rest puts j none) made;
            moves = moves_on a.pages b.pages c.pages puts.made [] puts.moves (moves_page T b c at 0 t place.some edits (node_kind b at says before) (node_kind c at now after));
          }

      pub forked_up : (c : Paged) (forked : Part) → says.leaf ≡ false → (low : List Item) (middle : Item) (high : List Item) → with_item says.items i (child_item b.part part) ≡ low ++ (middle ∷ high)
          → IsNode c at (with_items says low) → IsNode c forked.right (record { id = page_id b.part forked.right; leaf = false; link = middle.word; items = high }) → forked.from ≡ middle.key → half_of b.page_size ≤ length low → half_of b.page_size ≤ length high
          → ((n : ℕ) → IsNumberIn c Pages n → forked.right < n) → EditsPages T b c (λ j. (j ≡ 0) ⊎ (j ≡ forked.right) ⊎ (j ≡ at)) 1 → HasMeta c → KeepsNumbers b c → IsSpare (nodes_in b.pages forked.right) → MovesSpare b.pages c.pages (forked.right ∷ []) []
          → PutsIn a.pages c.pages (suc h) half at key word (record { from = Some forked.from; child = forked.right } ∷ [])
      forked_up c forked inner low middle high whole left_is right_is from_is full full_high below_right edits meta_c numbers spare moves =
          let in_c : at < page_count c.pages = omega (arith, in_b, counts_rise b c meta_b numbers) in
          let right_in = below_count c forked.right meta_c below_right in
          let E' = at_seam.before ++ ((at_seam.here ∷ (record { from = Some part.from; child = part.right } ∷ [])) ++ at_seam.after) in
          let up = row_up rest puts in
          let apart : E' ≡ (first_entry says.link ∷ map entry low) ++ (entry middle ∷ map entry high) = sym row_is ∙ ap (λ (xs : List Item). first_entry says.link ∷ map entry xs) whole ∙ ap (λ (es : List Entry). first_entry says.link ∷ es) (map-append entry low (middle ∷ high)) in
          let rising : IsRising (low ++ (middle ∷ high)) = subst IsRising whole (rising-with_item says.items i (child_item b.part part) (subst (λ (s : IndexPage). IsRising s.items) before.is before.well_made.items.rising) between) in
          let bounds = bounds_apart (items_under (nodes_in b.pages) h) (first_entry says.link ∷ map entry low) (entry middle ∷ map entry high) None (subst (λ (es : List Entry). AreBounded (items_under (nodes_in b.pages) h) es None) apart up.bounds) in
          let half_c : half_of c.page_size ≡ (nodes_in a.pages at).half = ap half_of (edits.same.page_size ∙ size_b) ∙ sym half_size ∙ sym half_here in
          let half_b : half_of b.page_size ≡ (nodes_in a.pages at).half = ap half_of size_b ∙ sym half_size ∙ sym half_here in
          subst (λ (q : ℕ × List ℕ). PutsIn a.pages c.pages (suc h) q.0 at key word (record { from = Some q.1; child = forked.right } ∷ [])) {x = ((nodes_in a.pages at).half, middle.key)} {y = (half, forked.from)} (λ z. (half_here z, sym from_is z)) (record {
            made = forked.right ∷ puts.made;
            puts = inner_divided (nodes_in a.pages) (nodes_in b.pages) (nodes_in c.pages) puts.made h least at key word tree once E' up (others_up rest puts) puts.puts.spare puts.puts.once
                forked.right middle.key (index_in middle.word) (first_entry says.link ∷ map entry low) (map entry high) apart spare
                (record { kind_is = is_inner c at (with_items says low) in_c left_is inner; full = omega (arith, full, half_b, ap length (items_are c at (with_items says low) in_c left_is)) })
                (half_is c at (with_items says low) in_c left_is ∙ half_c)
                (λ z. first_entry (link_is c at (with_items says low) in_c left_is z) ∷ map entry (items_are c at (with_items says low) in_c left_is z))
                (record { kind_is = is_inner c forked.right _ right_in right_is refl; full = omega (arith, full_high, half_b, ap length (items_are c forked.right _ right_in right_is)) })
                (half_is c forked.right _ right_in right_is ∙ half_c)
                (λ z. first_entry (link_is c forked.right _ right_in right_is z) ∷ map entry (items_are c forked.right _ right_in right_is z))
                (upto_all (items_under (nodes_in b.pages) h) (first_entry says.link) low middle.key bounds.0 (rising_low low high middle rising))
                (keys_joined (IsFrom (Some middle.key)) (items_under (nodes_in b.pages) h (index_in middle.word)) (flat (items_under (nodes_in b.pages) h) (map entry high)) bounds.1.0 (from_all (items_under (nodes_in b.pages) h) high middle.key bounds.1.2 (rising_high low high middle rising)))
                (λ j ne ne_right not_spare. node_away T b c (λ j. (j ≡ 0) ⊎ (j ≡ forked.right) ⊎ (j ≡ at)) 1 t readable meta_b edits numbers j (λ hh. elim hh [ inl e ↦ e | inr h2 ↦ elim h2 [ inl e ↦ absurd (ne_right e) | inr e ↦ absurd (ne e) ] ]) not_spare);
            others = λ j not_zero none made.
                let ne_right : j ≢ forked.right = λ e. omega (arith, made, times_here forked.right puts.made, ap (λ k. times k (forked.right ∷ puts.made)) e) in
                edits.others j (inl t) (λ hh. elim hh [ inl e ↦ not_zero e | inr h2 ↦ elim h2 [ inl e ↦ ne_right e | inr e ↦ at_other rest puts j none e ] ])
                ∙ puts.others j not_zero (not_below rest puts j none) (omega (arith, made, times-append j (forked.right ∷ []) puts.made));
            moves = moves_then a.pages b.pages c.pages puts.made (forked.right ∷ []) [] [] puts.moves moves;
          })
