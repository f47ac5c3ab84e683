-- The key that parts a tree from a new one beside it has its place in the page above.
use Rattle.std.proofs.Common.{◌≡◌, ℕ, zero, suc, ◌-◌, ◌<◌, ◌≤◌, List, [], ◌∷◌, ◌++◌, map, length, refl, sym, ap, subst, ◌∙◌, inl, inr, arith}
use Rattle.std.specs.Prelude.{None, Some}
use Rattle.std.proofs.lemmas.Bool.{cases_eq, cases_lt}
use Rattle.std.proofs.lemmas.List.{length-append}
use Rattle.pm_btpage.specs.declared.layout.TheConstants.{INNER_KIND}
use Rattle.pm_btpage.specs.IndexPages.{Item, items_of, index_of, key_in, capacity_of, IsBelow, IsBetween, IsRising}
use Rattle.pm_meta.specs.declared.slots.MetaSlot.TheVariants.{Pages}
use Rattle.pm_pages.specs.Rows.{page_at, page_count, kind_of}
use Rattle.pm_pages.specs.Chains.{times}
use Rattle.pm_pages.specs.Trees.{index_in}
use Rattle.pm_pages.specs.Paged.{Paged, AllReadable}
use Rattle.pm_pages.specs.Edits.{HasMeta, IsNumberIn}
use Rattle.pm_tree.specs.declared.put.Part.{Part}
use Rattle.pm_tree.specs.declared.put.Put.TheVariants.{Split}
use Rattle.pm_tree.specs.declared.places.Place.TheVariants.{Below}
use Rattle.pm_tree.specs.Maps.{put_in}
use Rattle.pm_tree.specs.Nodes.{Node, Entry, Each, entry, first_entry, entries, nodes_in, items_under, nodes_under, Keys, IsFrom, IsUpTo, AreBounded, IsTreeIn}
use Rattle.pm_tree.specs.Steps.{IsChildFor}
use Rattle.pm_tree.specs.Places.{IsPlaceIn}
use Rattle.pm_tree.specs.Puts.{flat, row, half_of, PutsIn, PutsFor}
use Rattle.pm_tree.specs.Grown.{IsParent}
use Rattle.pm_pages.specs.SoundPages.{IsSound}
use Rattle.pm_tree.specs.Sound.{HasTree}
use Rattle.pm_tree.proofs.KeyOrder.{below_then, key_cases}
use Rattle.pm_tree.proofs.MapLists.{keys_left, keys_right, keys_at, keys_put}
use Rattle.pm_tree.proofs.Decoded.{lower, upper, kid, kid_is, lower_first, lower_is, upper_is, upper_none, at_index}
use Rattle.pm_pages.proofs.ChainWalks.{times-append, times_here, times_other}
use Rattle.pm_tree.proofs.Frames.{used}
use Rattle.pm_tree.proofs.Told.{below_count, page_is}
use Rattle.pm_tree.proofs.LeafChanges.{capacity_bounds}
use Rattle.pm_tree.proofs.Ascents.{child_tree, child_once, child_apart}
use Rattle.pm_pages.proofs.SoundPages.{sound_reads}
use Rattle.pm_tree.proofs.SoundPages.{used_within}

-- every page of these has room for an item at least by half
abbrev pub AreWide : (ℕ → Node) → List ℕ → Type 0
AreWide N pages = (j : ℕ) → 1 ≤ times j pages → 1 ≤ (N j).half

-- a tree has a key
pub tree_some : (N : ℕ → Node) (h least at : ℕ) → 1 ≤ least → AreWide N (nodes_under N h at) → IsTreeIn N h least at → 0 < length (items_under N h at)
tree_some N zero least at le wide tree = omega (arith, le, tree.full)
tree_some N (suc g) least at le wide tree =
    let first = index_in (N at).link in
    let rest = flat (nodes_under N g) (map entry (N at).items) in
    let half : 1 ≤ (N at).half = wide at (omega (arith, times-append at (at ∷ []) (flat (nodes_under N g) (entries (N at))), times_here at [])) in
    let some = tree_some N g (N at).half first half (λ j there. wide j (omega (arith, there, times-append j (at ∷ []) (flat (nodes_under N g) (entries (N at))), times-append j (nodes_under N g first) rest))) tree.1.0 in
    omega (arith, some, length-append (items_under N g first) (flat (items_under N g) (map entry (N at).items)))

pub trees_some : (N : ℕ → Node) (h half : ℕ) (es : List Entry) → 1 ≤ half → AreWide N (flat (nodes_under N h) es) → Each (IsTreeIn N h half) es → Each (λ i. 0 < length (items_under N h i)) es
trees_some N h half [] le wide trees = tt
trees_some N h half (e ∷ es) le wide trees = (
  tree_some N h half e.child le (λ j there. wide j (omega (arith, there, times-append j (nodes_under N h e.child) (flat (nodes_under N h) es)))) trees.0,
  trees_some N h half es le (λ j there. wide j (omega (arith, there, times-append j (nodes_under N h e.child) (flat (nodes_under N h) es)))) trees.1,
)

-- what holds of a page below one of these entries
in_row : (N : ℕ → Node) (g half j : ℕ) (es : List Entry) → ((n : ℕ) → AreWide N (nodes_under N g n) → IsTreeIn N g half n → 1 ≤ times j (nodes_under N g n) → 1 ≤ length (N j).items) → AreWide N (flat (nodes_under N g) es) → Each (IsTreeIn N g half) es → 1 ≤ times j (flat (nodes_under N g) es) → 1 ≤ length (N j).items
in_row N g half j [] deeper wide trees here = absurd (omega (arith, here))
in_row N g half j (e ∷ es) deeper wide trees here = elim (cases_lt 0 (times j (nodes_under N g e.child))) [
  | inl lt ↦ deeper e.child (λ k more. wide k (omega (arith, more, times-append k (nodes_under N g e.child) (flat (nodes_under N g) es)))) trees.0 (omega (arith, lt))
  | inr none ↦ in_row N g half j es deeper (λ k more. wide k (omega (arith, more, times-append k (nodes_under N g e.child) (flat (nodes_under N g) es)))) trees.1 (omega (arith, none, here, times-append j (nodes_under N g e.child) (flat (nodes_under N g) es)))
]

-- each page of a tree has an item
pub page_some : (N : ℕ → Node) (h least at j : ℕ) → 1 ≤ least → AreWide N (nodes_under N h at) → IsTreeIn N h least at → 1 ≤ times j (nodes_under N h at) → 1 ≤ length (N j).items
page_some N zero least at j le wide tree there = elim (cases_eq at j) [
  | inl e ↦ subst (λ n. 1 ≤ length (N n).items) e (omega (arith, le, tree.full))
  | inr ne ↦ absurd (omega (arith, there, times_other j at [] ne))
]
page_some N (suc g) least at j le wide tree there = elim (cases_eq at j) [
  | inl e ↦ subst (λ n. 1 ≤ length (N n).items) e (omega (arith, le, tree.0.full))
  | inr ne ↦ in_row N g (N at).half j (entries (N at)) (λ n w t h. page_some N g (N at).half n j half w t h) (λ k more. wide k (omega (arith, more, times-append k (at ∷ []) (flat (nodes_under N g) (entries (N at)))))) tree.1 (omega (arith, there, times_other j at (flat (nodes_under N g) (entries (N at))) ne))
]
  where
    half : 1 ≤ (N at).half
    half = wide at (omega (arith, times-append at (at ∷ []) (flat (nodes_under N g) (entries (N at))), times_here at []))

-- the pages of a tree that are there have room for items
pub wide_tree : (p : Paged) (h least at : ℕ) → IsSound p → AllReadable p → HasMeta p → IsTreeIn (nodes_in p.pages) h least at → AreWide (nodes_in p.pages) (nodes_under (nodes_in p.pages) h at)
wide_tree p h least at sound readable meta tree j there =
    let within = used_within p j readable meta (used (nodes_in p.pages) h least at j tree there) in
    let x = sound_reads p sound readable j within.0 within.1 in
    omega (arith, ap (λ (q : List ℕ). capacity_of (length q)) (page_is p j x.0 within.1 x.1), capacity_bounds (length x.0) x.2.size)

-- a key is above one that isn't above another below it
above_key : (s k key : List ℕ) → (IsBelow k s → ⊥) → IsBelow k key → IsBelow s key
above_key s k key low below = elim (key_cases s k) [
  | inl lt ↦ below_then s k key lt below
  | inr r ↦ elim r [ inl e ↦ subst (λ z. IsBelow z key) (sym e) below | inr gt ↦ absurd (low gt) ]
]

-- a key that isn't above another is below what that is below
below_key : (e key k : List ℕ) → (IsBelow k key → ⊥) → IsBelow k e → IsBelow key e
below_key e key k le upto = elim (key_cases key k) [
  | inl lt ↦ below_then key k e lt upto
  | inr r ↦ elim r [ inl z ↦ subst (λ q. IsBelow q e) (sym z) upto | inr gt ↦ absurd (le gt) ]
]

-- a key lies within the bounds of its child
key_low : (items : List Item) (key : List ℕ) (i : ℕ) → IsChildFor items key i → IsFrom (lower None items i) key
key_low items key zero c = subst (λ o. IsFrom o key) (sym (lower_first None items)) tt
key_low items key (suc j) c = subst (λ o. IsFrom o key) (sym (lower_is None items j (omega (arith, c.in_range)))) (c.upto j (omega arith))

key_high : (items : List Item) (key : List ℕ) (i : ℕ) → IsChildFor items key i → IsUpTo (upper items i) key
key_high items key i c = elim (cases_lt i (length items)) [
  | inl lt ↦ subst (λ o. IsUpTo o key) (sym (upper_is items i lt)) (c.above i (omega arith) lt)
  | inr le ↦ subst (λ o. IsUpTo o key) (sym (upper_none items i le)) tt
]

module _ (f g : ℕ → List Item) (link : ℕ) (items : List Item) (key from : List ℕ) (word i child right : ℕ) (bounded : AreBounded f (first_entry link ∷ map entry items) None) (c : IsChildFor items key i) (rising : IsRising items)
    (is_child : kid (index_in link) items i ≡ child) (put : flat g (row child (record { from = Some from; child = right } ∷ [])) ≡ put_in (f child) key word)
    (parted : AreBounded g (row child (record { from = Some from; child = right } ∷ [])) None) (some : 0 < length (g child)) (some_right : 0 < length (g right)) where
  old_keys : Keys (IsFrom (lower None items i)) (f child) × Keys (IsUpTo (upper items i)) (f child)
  old_keys = subst (λ n. Keys (IsFrom (lower None items i)) (f n) × Keys (IsUpTo (upper items i)) (f n)) is_child (at_index f None (index_in link) items bounded i c.in_range)

  new_low : Keys (IsFrom (lower None items i)) (g child ++ (g right ++ []))
  new_low = subst (Keys (IsFrom (lower None items i))) (sym put) (keys_put (IsFrom (lower None items i)) (f child) key word (key_low items key i c) old_keys.0)

  new_high : Keys (IsUpTo (upper items i)) (g child ++ (g right ++ []))
  new_high = subst (Keys (IsUpTo (upper items i))) (sym put) (keys_put (IsUpTo (upper items i)) (f child) key word (key_high items key i c) old_keys.1)

  low_here : IsFrom (lower None items i) (key_in (g child) 0)
  low_here = keys_at (IsFrom (lower None items i)) (g child) (keys_left (IsFrom (lower None items i)) (g child) (g right ++ []) new_low) 0 some

  high_here : IsUpTo (upper items i) (key_in (g right) 0)
  high_here = keys_at (IsUpTo (upper items i)) (g right) (keys_left (IsUpTo (upper items i)) (g right) [] (keys_right (IsUpTo (upper items i)) (g child) (g right ++ []) new_high)) 0 some_right

  -- the last key before the place, and the first from it on
  last_below : (j : ℕ) → i ≡ suc j → IsBelow (key_in items j) from
  last_below j e =
      let is : lower None items i ≡ Some (key_in items j) = ap (λ n. lower None items n) e ∙ lower_is None items j (omega (arith, e, c.in_range)) in
      above_key (key_in items j) (key_in (g child) 0) from (subst (λ o. IsFrom o (key_in (g child) 0)) is low_here) (keys_at (IsUpTo (Some from)) (g child) parted.1 0 some)

  first_above : i < length items → IsBelow from (key_in items i)
  first_above lt = below_key (key_in items i) from (key_in (g right) 0) (keys_at (IsFrom (Some from)) (g right) parted.2.0 0 some_right) (subst (λ o. IsUpTo o (key_in (g right) 0)) (upper_is items i lt) high_here)

  each_below : (j n : ℕ) → i ≡ suc n → j ≤ n → IsBelow (key_in items j) from
  each_below j n e le = elim (cases_lt j n) [
    | inl lt ↦ below_then (key_in items j) (key_in items n) from (rising j n lt (omega (arith, e, c.in_range))) (last_below n e)
    | inr ge ↦ (let same : n ≡ j = omega (arith, le, ge) in subst (λ k. IsBelow (key_in items k) from) same (last_below n e))
  ]

  pub parted_between : IsBetween items from i
  parted_between = record {
    in_range = c.in_range;
    below = λ j lt. each_below j (i - 1) (omega (arith, lt)) (omega (arith, lt));
    above = λ j le lt. elim (cases_lt i j) [
      | inl less ↦ below_then from (key_in items i) (key_in items j) (first_above (omega (arith, less, lt))) (rising i j less lt)
      | inr ge ↦ (let same : i ≡ j = omega (arith, le, ge) in subst (λ k. IsBelow from (key_in items k)) same (first_above (omega (arith, le, lt))))
    ];
  }

-- A put into the child, which was divided: the page above has a place for the new child.
module _ (T : Type 0) (a b : Paged) (count at i child levels word : ℕ) (key : List ℕ) (part : Part) (t : T) (meta : HasMeta a) (place : IsPlaceIn a at key (Below i child)) (below : (n : ℕ) → IsNumberIn a Pages n → at < n)
    (tree : HasTree a levels at) (puts : PutsFor a.pages b.pages (half_of a.page_size) (levels - 1) child key word (Split part)) (readable : AllReadable b) (meta_b : HasMeta b) (sound : IsSound b) where
  at_in : at < page_count a.pages
  at_in = below_count a at meta below

  here_is : page_at a.pages at ≡ place.page
  here_is = page_is a at place.page at_in place.in_hand.page

  inner_here : (nodes_in a.pages at).kind ≡ INNER_KIND
  inner_here = ap kind_of here_is ∙ place.is.kind

  by_puts : (h : ℕ) → IsTreeIn (nodes_in a.pages) (suc h) tree.least at → ((j : ℕ) → times j (nodes_under (nodes_in a.pages) (suc h) at) ≤ 1)
      → PutsIn a.pages b.pages h (half_of a.page_size) child key word (record { from = Some part.from; child = part.right } ∷ []) → (page : List ℕ) × (b.pages at ≡ Some page) × IsParent page part.from i
  by_puts h here once p =
      let N = nodes_in a.pages in
      let M = nodes_in b.pages in
      let some : 1 ≤ half_of a.page_size = omega (arith, tree.some, tree.most) in
      let not_below : times at (nodes_under (nodes_in a.pages) h child) ≡ 0 = omega (arith, below_few h here once) in
      let not_made : times at p.made ≡ 0 = elim (cases_lt 0 (times at p.made)) [ inl lt ↦ absurd ((p.puts.spare at (omega (arith, lt))).inner inner_here) | inr none ↦ omega (arith, none) ] in
      let kid_here : kid (index_in (index_of place.page).link) (items_of place.page) i ≡ child = sym (kid_is (index_in (index_of place.page).link) (items_of place.page) i) ∙ sym place.is.is in (
        place.page,
        p.others at (λ e. omega (arith, e, place.some)) not_below not_made ∙ place.in_hand.page,
        record {
          kind = place.is.kind;
          well_made = place.is.well_made;
          between = parted_between (items_under (nodes_in a.pages) h) (items_under (nodes_in b.pages) h) (index_of place.page).link (items_of place.page) key part.from word i child part.right
              (subst (λ (q : List ℕ). AreBounded (items_under (nodes_in a.pages) h) (first_entry (index_of q).link ∷ map entry (items_of q)) None) here_is here.2) place.is.for_key place.is.well_made.items.rising kid_here p.puts.items p.puts.bounds
              (tree_some (nodes_in b.pages) h (half_of a.page_size) child some (wide_tree b h (half_of a.page_size) child sound readable meta_b p.puts.trees.0) p.puts.trees.0)
              (tree_some (nodes_in b.pages) h (half_of a.page_size) part.right some (wide_tree b h (half_of a.page_size) part.right sound readable meta_b p.puts.trees.1.0) p.puts.trees.1.0);
        },
      )
    where
      below_few : (h : ℕ) → IsTreeIn (nodes_in a.pages) (suc h) tree.least at → ((j : ℕ) → times j (nodes_under (nodes_in a.pages) (suc h) at) ≤ 1) → times at (nodes_under (nodes_in a.pages) h child) < 1
      below_few h here once = child_apart T a a at i child key word (half_of a.page_size) h tree.least t meta place below refl here once

  pub place_for_part : (page : List ℕ) × (b.pages at ≡ Some page) × IsParent page part.from i
  place_for_part = by tree.height tree.few tree.tree tree.once
    where
      by : (n : ℕ) → n < levels → IsTreeIn (nodes_in a.pages) n tree.least at → ((j : ℕ) → times j (nodes_under (nodes_in a.pages) n at) ≤ 1) → (page : List ℕ) × (b.pages at ≡ Some page) × IsParent page part.from i
      by zero few here once = absurd (omega (arith, inner_here, here.kind_is))
      by (suc h) few here once =
          by_puts h here once
          (puts.each h (omega (arith, few)) (half_of a.page_size)
          (child_tree T a a at i child key word (half_of a.page_size) h tree.least t meta place below refl here once)
          (child_once T a a at i child key word (half_of a.page_size) h tree.least t meta place below refl here once)).2
