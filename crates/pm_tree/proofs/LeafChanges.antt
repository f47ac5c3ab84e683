-- Puts into a leaf, over the calls that make them.
use Rattle.std.proofs.Common.{◌≡◌, ◌≢◌, ℕ, ◌+◌, ◌-◌, ◌^◌, ◌<◌, ◌≤◌, ◌⊎◌, true, List, [], ◌∷◌, length, take, drop, refl, sym, ap, subst, ◌∙◌, inl, inr, arith}
use Rattle.std.specs.Prelude.{None, Some, IsSome, IsTrue}
use Rattle.std.proofs.lemmas.Bool.{cases_eq, eq-eqb}
use Rattle.std.proofs.lemmas.List.{length-take-le, length-drop, get_or-take, get_or-drop}
use Rattle.pm_types.specs.Ids.{page_id}
use Rattle.pm_types.specs.Keys.{HasKeyLength}
use Rattle.pm_types.specs.PageSizes.{IsPageSize}
use Rattle.pm_btpage.specs.declared.layout.TheConstants.{LEAF_KIND}
use Rattle.pm_btpage.specs.IndexPages.{Item, IndexPage, items_of, index_of, key_in, with_items, with_link, empty_leaf, capacity_of, IsBelow, IsBetween, IsIndexPage}
use Rattle.pm_btpage.proofs.ItemsByIndex.{items_within}
use Rattle.pm_meta.specs.declared.layout.TheConstants.{REUSE_KIND}
use Rattle.pm_meta.specs.declared.slots.MetaSlot.TheVariants.{Pages}
use Rattle.pm_pages.specs.Rows.{Partition, kind_of, page_at, page_count}
use Rattle.pm_pages.specs.Paged.{Paged, AllReadable, IsInHand, IsThere}
use Rattle.pm_pages.specs.Edits.{LooksAtPages, EditsPages, HasMeta, IsNumberIn}
use Rattle.pm_pages.proofs.EditedPages.{edits_then, edits_more, edits_looked}
use Rattle.pm_tree.specs.declared.put.Put.TheVariants.{Kept, Split}
use Rattle.pm_tree.specs.Nodes.{nodes_in}
use Rattle.pm_tree.specs.Puts.{IsSpare, PutsFor, half_of, IsMiddle}
use Rattle.pm_tree.specs.Edits.{edited, IsNode, TakesEdit, EditsNodeAt}
use Rattle.pm_tree.specs.declared.edits.Edit.{Edit}
use Rattle.pm_tree.specs.declared.edits.Edit.TheVariants.{Word, Insert}
use Rattle.pm_tree.specs.Places.{IsPlaceIn}
use Rattle.pm_tree.specs.declared.places.Place.TheVariants.{Held, Gap}
use Rattle.pm_tree.specs.Divisions.{KeepsNumbers, PartsLeaf, PutsPages, CanDivide, IsFullLeaf}
use Rattle.pm_tree.proofs.MapLists.{get_found, get_between, put_found, put_between}
use Rattle.pm_pages.specs.SpareChains.{MovesSpare}
use Rattle.pm_tree.proofs.NodeEdits.{node_stays}
use Rattle.pm_pages.proofs.SpareMoves.{moves_on}
use Rattle.pm_pages.proofs.SpareSteps.{moves_page}
use Rattle.pm_tree.proofs.NodeKinds.{node_kind}
use Rattle.pm_tree.proofs.Divided.{node_edited, meta_stays, numbers_stay, numbers_then, numbers_looked, number_back, count_of, added_looked}
use Rattle.pm_tree.proofs.Told.{below_count, counts_rise}
use Rattle.pm_btpage.specs.Stored.{IsLink}
use Rattle.pm_pages.specs.StoredPages.{IsStored, KeepsStored}
use Rattle.pm_pages.proofs.StoredMeta.{keeps_on, keeps_looked}
use Rattle.pm_tree.proofs.StoredNodes.{IsStoredNode, stored_one, stored_two, halves_stored}
use Rattle.pm_tree.proofs.LeafSteps.{puts_pages, leaf_kept, leaf_parted, Halves, left_half, right_half}

pub leaf_says : (page : List ℕ) → kind_of page ≡ LEAF_KIND → (index_of page).leaf ≡ true
leaf_says page kind = eq-eqb (kind_of page) LEAF_KIND kind

-- what a page says once it took a change
abbrev says_after : IndexPage → List ℕ → Edit → IndexPage
says_after says bytes edit = edited says bytes edit

-- a page that says something is at hand
pub held_node : (p : Paged) (i : ℕ) (says : IndexPage) → IsNode p i says → IsTrue (p.known i) × IsThere p i
held_node p i says node = (node.in_hand.known, subst IsSome (sym node.in_hand.page) refl)

-- one page of the tree was changed, which was asked for
pub changes_one : {G : Type 0} → (T : Type 0) (a c : Paged) (at : ℕ) (says now : IndexPage) → 1 ≤ at → HasMeta a → ((n : ℕ) → IsNumberIn a Pages n → at < n) → IsNode a at says → IsNode c at now → EditsPages T a c (λ j. j ≡ at) 0
    → (a.part < 2 ^ 16 → G → IsStoredNode a.part at says → IsStoredNode a.part at now) → PutsPages T a c 0 G
changes_one T a c at says now some meta below node node' edits step =
    let out : 0 ≡ at → ⊥ = λ e. omega (arith, e, some) in
    puts_pages T a c (λ j. j ≡ at) 0 0 [] (omega arith) edits (λ j e. subst (λ n. IsTrue (c.asked n)) (sym e) node'.in_hand.asked) (meta_stays T a c (λ j. j ≡ at) 0 edits out meta) (numbers_stay T a c (λ j. j ≡ at) 0 edits out)
    (λ j e. subst (λ n. IsTrue (c.known n) × IsThere c n) (sym e) (held_node c at now node')) (λ t j lt. inl (omega (arith, lt, count_of T a c (λ j. j ≡ at) 0 t edits out)))
    (λ t. moves_page T a c at 0 t some edits (node_kind a at says node) (node_kind c at now node')) (omega arith)
    (λ t g limit small can stored. stored_one T a c at 0 says now t some (below_count a at meta below) node node' edits (step stored.part g) stored)

-- the page of a leaf that took a change
pub changes_leaf : {G : Type 0} → (T : Type 0) (a c : Paged) (at : ℕ) (key : List ℕ) (edit : Edit) (page : List ℕ) → 1 ≤ at → HasMeta a → ((n : ℕ) → IsNumberIn a Pages n → at < n) → IsInHand a at page → IsIndexPage page → length page ≡ a.page_size → EditsPages T a c (λ j. j ≡ at) 0 → EditsNodeAt a c at key edit
    → (G → IsStoredNode a.part at (index_of page) → IsStoredNode a.part at (edited (index_of page) key edit)) → PutsPages T a c 0 G
changes_leaf T a c at key edit page some meta below in_hand index size edits changed step =
    let node : IsNode a at (index_of page) = record { page = page; in_hand = in_hand; well_made = index; size = size; is = refl } in
    changes_one T a c at (index_of page) (edited (index_of page) key edit) some meta below node (node_edited T a c at 0 key edit (index_of page) edits node changed) edits (λ small g stored. step g stored)

pub stored_leaf : (T : Type 0) (a c : Paged) (at : ℕ) (key : List ℕ) (edit : Edit) (page : List ℕ) → T → 1 ≤ at → HasMeta a → ((n : ℕ) → IsNumberIn a Pages n → at < n) → IsInHand a at page → IsIndexPage page → length page ≡ a.page_size → EditsPages T a c (λ j. j ≡ at) 0 → EditsNodeAt a c at key edit
    → (IsStoredNode a.part at (index_of page) → IsStoredNode a.part at (edited (index_of page) key edit)) → IsStored a → IsStored c
stored_leaf T a c at key edit page t some meta below in_hand index size edits changed step stored =
    let node : IsNode a at (index_of page) = record { page = page; in_hand = in_hand; well_made = index; size = size; is = refl } in
    stored_one T a c at 0 (index_of page) (edited (index_of page) key edit) t some (below_count a at meta below) node (node_edited T a c at 0 key edit (index_of page) edits node changed) edits step stored

-- a leaf has another word at a key
pub set_puts : (T : Type 0) (a c : Paged) (at i was : ℕ) (key : List ℕ) (word half : ℕ) → T → AllReadable a → HasMeta a → ((n : ℕ) → IsNumberIn a Pages n → at < n) → IsPlaceIn a at key (Held i was) → EditsPages T a c (λ j. j ≡ at) 0 → EditsNodeAt a c at key (Word i word)
    → (limit : ℕ) → PutsFor a.pages c.pages half limit at key word (Kept (Some was))
set_puts T a c at i was key word half t readable meta below place edits edited =
    let says = index_of place.page in
    let node : IsNode a at says = record { page = place.page; in_hand = place.in_hand; well_made = place.is.well_made; size = place.size; is = refl } in
    let numbers = numbers_stay T a c (λ j. j ≡ at) 0 edits (λ e. omega (arith, e, place.some)) in
    let rising = place.is.well_made.items.rising in
    leaf_kept T a c at key word half t readable meta place.some below says node (leaf_says place.page place.is.kind) numbers 0 edits _ (node_edited T a c at 0 key (Word i word) says edits node edited) (leaf_says place.page place.is.kind) refl
    (sym (put_found says.items key word i rising place.is.at)) (Some was) (ap (λ (w : ℕ). Some w) place.is.is ∙ sym (get_found says.items key i rising place.is.at))
    (omega (arith, below_count a at meta below, counts_rise a c meta numbers))

-- a leaf has another item
pub add_puts : (T : Type 0) (a c : Paged) (at i : ℕ) (key : List ℕ) (word half : ℕ) → T → AllReadable a → HasMeta a → ((n : ℕ) → IsNumberIn a Pages n → at < n) → IsPlaceIn a at key (Gap i) → EditsPages T a c (λ j. j ≡ at) 0 → EditsNodeAt a c at key (Insert i word)
    → (limit : ℕ) → PutsFor a.pages c.pages half limit at key word (Kept None)
add_puts T a c at i key word half t readable meta below place edits edited =
    let says = index_of place.page in
    let gap = place.is.0 in
    let node : IsNode a at says = record { page = place.page; in_hand = place.in_hand; well_made = gap.well_made; size = place.size; is = refl } in
    let numbers = numbers_stay T a c (λ j. j ≡ at) 0 edits (λ e. omega (arith, e, place.some)) in
    leaf_kept T a c at key word half t readable meta place.some below says node (leaf_says place.page gap.kind) numbers 0 edits _ (node_edited T a c at 0 key (Insert i word) says edits node edited) (leaf_says place.page gap.kind) refl
    (sym (put_between says.items key word i gap.between)) None (sym (get_between says.items key i gap.between))
    (omega (arith, below_count a at meta below, counts_rise a c meta numbers))

pub capacity_bounds : (size : ℕ) → IsPageSize size → 13 ≤ capacity_of size
capacity_bounds size is = elim is [ inl e ↦ omega (arith, e) | inr r ↦ elim r [ inl e ↦ omega (arith, e) | inr r2 ↦ elim r2 [ inl e ↦ omega (arith, e) | inr r3 ↦ elim r3 [ inl e ↦ omega (arith, e) | inr e ↦ omega (arith, e) ] ] ] ]

-- of a full leaf
module _ (a : Paged) (at : ℕ) (key : List ℕ) (i cut : ℕ) (leaf : IsFullLeaf a at key i) (middle : IsMiddle a.page_size cut) where
  pub cap_is : capacity_of (length leaf.page) ≡ capacity_of a.page_size
  cap_is = ap capacity_of leaf.size

  pub full_is : length (items_of leaf.page) ≡ capacity_of a.page_size
  full_is = (let w = items_within leaf.page leaf.gap.well_made in omega (arith, w.0, leaf.full, cap_is))

  pub cut_below : cut < length (items_of leaf.page)
  cut_below = omega (arith, full_is, middle.high, ap capacity_of leaf.size, capacity_bounds (length leaf.page) leaf.gap.well_made.size)

  pub can_part : CanDivide a at leaf.page None cut cut
  can_part = record {
    some = leaf.some;
    below = leaf.below;
    in_hand = leaf.in_hand;
    well_made = leaf.gap.well_made;
    size = leaf.size;
    leaf = leaf_says leaf.page leaf.gap.kind;
    start_in = omega (arith, cut_below);
    end_in = omega (arith, cut_below);
  }

pub between_take : (items : List Item) (key : List ℕ) (i cut : ℕ) → cut ≤ length items → i ≤ cut → IsBetween items key i → IsBetween (take cut items) key i
between_take items key i cut le side between =
    let long = length-take-le cut items le in
    record {
      in_range = omega (arith, long, side);
      below = λ j lt. subst (λ k. IsBelow k key) (sym (ap (λ (x : Item). x.key) (get_or-take cut items j (record { key = []; word = 0 }) (omega (arith, lt, side))))) (between.below j lt);
      above = λ j from lt. subst (IsBelow key) (sym (ap (λ (x : Item). x.key) (get_or-take cut items j (record { key = []; word = 0 }) (omega (arith, lt, long))))) (between.above j from (omega (arith, lt, long, le)));
    }

pub between_drop : (items : List Item) (key : List ℕ) (i cut : ℕ) → cut ≤ i → IsBetween items key i → IsBetween (drop cut items) key (i - cut)
between_drop items key i cut side between =
    let long = length-drop cut items in
    record {
      in_range = omega (arith, long, side, between.in_range);
      below = λ j lt. subst (λ k. IsBelow k key) (sym (ap (λ (x : Item). x.key) (get_or-drop cut items j (record { key = []; word = 0 })))) (between.below (cut + j) (omega (arith, lt, side)));
      above = λ j from lt. subst (IsBelow key) (sym (ap (λ (x : Item). x.key) (get_or-drop cut items j (record { key = []; word = 0 })))) (between.above (cut + j) (omega (arith, from, side)) (omega (arith, lt, long)));
    }

-- a page was divided after looks
pub parts_looked : (T : Type 0) (a b c : Paged) (at : ℕ) (page : List ℕ) (cut right : ℕ) → LooksAtPages T a b 0 → PartsLeaf T b c at page cut right → PartsLeaf T a c at page cut right
parts_looked T a b c at page cut right looks d = record {
  some = d.some;
  below = d.below;
  other = d.other;
  edits = edits_more T a c (λ j. ⊥ ⊎ ((j ≡ 0) ⊎ (j ≡ right) ⊎ (j ≡ at))) (λ j. (j ≡ 0) ⊎ (j ≡ right) ⊎ (j ≡ at)) (0 + 1) 1 (λ j h. elim h [ inl never ↦ absurd never | inr h2 ↦ h2 ]) (omega arith)
      (edits_then T a b c (λ j. ⊥) (λ j. (j ≡ 0) ⊎ (j ≡ right) ⊎ (j ≡ at)) 0 1 (edits_looked T a b (λ j. ⊥) 0 looks) d.edits);
  left_is = d.left_is;
  right_is = subst (λ n. IsNode c right (with_link (with_items (empty_leaf (page_id n right)) (drop cut (items_of page))) (index_of page).link)) looks.same.part d.right_is;
  meta = d.meta;
  numbers = numbers_then a b c (numbers_looked T a b 0 looks) d.numbers;
  spare = λ t. subst (λ (q : Partition). IsSpare (nodes_in q right)) (λ k j. looks.pages j (inl t) k) (d.spare t);
  added = λ t j lt. added_looked T a b 0 right t looks j (d.added t j lt);
  moves = λ t. subst (λ (q : Partition). MovesSpare q c.pages (right ∷ []) []) (λ k j. looks.pages j (inl t) k) (d.moves t);
  meta_passes = λ t. keeps_looked T a b c 0 t looks (d.meta_passes t);
}

-- A full leaf was divided, and then the item was put into one of the halves, page `into`.
module _ (T : Type 0) (a c d : Paged) (at : ℕ) (key : List ℕ) (i cut word right into k : ℕ) (leaf : IsFullLeaf a at key i) (middle : IsMiddle a.page_size cut) (meta : HasMeta a)
    (parts : PartsLeaf T a c at leaf.page cut right) (edits : EditsPages T c d (λ j. j ≡ into) 0) (edited : EditsNodeAt c d into key (Insert k word)) (is_half : (into ≡ right) ⊎ (into ≡ at)) where
  not_zero : 0 ≡ into → ⊥
  not_zero e = elim is_half [ inl h ↦ omega (arith, e, h, parts.some) | inr h ↦ omega (arith, e, h, leaf.some) ]

  all_edits : EditsPages T a d (λ j. (j ≡ 0) ⊎ (j ≡ right) ⊎ (j ≡ at)) 1
  all_edits = edits_more T a d (λ j. ((j ≡ 0) ⊎ (j ≡ right) ⊎ (j ≡ at)) ⊎ (j ≡ into)) (λ j. (j ≡ 0) ⊎ (j ≡ right) ⊎ (j ≡ at)) (1 + 0) 1
      (λ j h. elim h [ inl x ↦ x | inr e ↦ elim is_half [ inl z ↦ inr (inl (e ∙ z)) | inr z ↦ inr (inr (e ∙ z)) ] ]) (omega arith)
      (edits_then T a c d (λ j. (j ≡ 0) ⊎ (j ≡ right) ⊎ (j ≡ at)) (λ j. j ≡ into) 1 0 parts.edits edits)

  all_numbers : KeepsNumbers a d
  all_numbers = numbers_then a c d parts.numbers (numbers_stay T c d (λ j. j ≡ into) 0 edits not_zero)

  meta_d : HasMeta d
  meta_d = meta_stays T c d (λ j. j ≡ into) 0 edits not_zero parts.meta

  into_there : 1 ≤ into
  into_there = elim is_half [ inl e ↦ omega (arith, e, parts.some) | inr e ↦ omega (arith, e, leaf.some) ]

  -- what the page said that took the item
  into_was : (says : IndexPage) × IsNode c into says
  into_was = elim is_half [
    | inl e ↦ (with_link (with_items (empty_leaf (page_id a.part right)) (drop cut (items_of leaf.page))) (index_of leaf.page).link, subst (λ n. IsNode c n (with_link (with_items (empty_leaf (page_id a.part right)) (drop cut (items_of leaf.page))) (index_of leaf.page).link)) (sym e) parts.right_is)
    | inr e ↦ (with_link (with_items (index_of leaf.page) (take cut (items_of leaf.page))) right, subst (λ n. IsNode c n (with_link (with_items (index_of leaf.page) (take cut (items_of leaf.page))) right)) (sym e) parts.left_is)
  ]

  into_now : IsNode d into (says_after into_was.0 key (Insert k word))
  into_now = node_edited T c d into 0 key (Insert k word) into_was.0 edits into_was.1 edited

  still_there : (i : ℕ) (says : IndexPage) → IsNode c i says → IsTrue (d.known i) × IsThere d i
  still_there i says node = elim (cases_eq i into) [
    | inl e ↦ subst (λ n. IsTrue (d.known n) × IsThere d n) (sym e) (held_node d into _ into_now)
    | inr ne ↦ held_node d i says (node_stays T c d (λ j. j ≡ into) 0 i says edits ne node)
  ]

  right_held : IsTrue (d.known right) × IsThere d right
  right_held = still_there right _ parts.right_is

  left_held : IsTrue (d.known at) × IsThere d at
  left_held = still_there at _ parts.left_is

  -- what both halves say passes
  half_stored : (t : T) (left_now right_now : IndexPage) → IsNode d at left_now → IsNode d right right_now → left_now.id ≡ (index_of leaf.page).id → left_now.leaf ≡ true → right_now.id ≡ page_id a.part right → right_now.leaf ≡ true
      → Halves (items_of leaf.page) i cut (record { key = key; word = word }) left_now.items right_now.items → IsLink a.part word → KeepsStored a d 1
  half_stored t left_now right_now left_is right_is left_id left_leaf right_id right_leaf halves link limit small can stored =
      let node : IsNode a at (index_of leaf.page) = record { page = leaf.page; in_hand = leaf.in_hand; well_made = leaf.gap.well_made; size = leaf.size; is = refl } in
      stored_two T a d at right 1 limit (index_of leaf.page) left_now right_now t leaf.some (below_count a at meta leaf.below) parts.some node left_is right_is all_edits
      (keeps_on T a c d (λ j. j ≡ into) 0 t edits not_zero (parts.meta_passes t)) (λ j lt. parts.added t j (omega (arith, lt, count_of T c d (λ j. j ≡ into) 0 t edits not_zero)))
      (λ was. halves_stored a.part at right i (index_of leaf.page) left_now right_now (record { key = key; word = word }) (leaf_says leaf.page leaf.gap.kind) left_id left_leaf right_id right_leaf halves.whole
      (omega (arith, halves.left_len, middle.some)) (omega (arith, halves.right_len, halves.left_high, middle.high, full_is a at key i cut leaf middle, capacity_bounds (length leaf.page) leaf.gap.well_made.size, cap_is a at key i cut leaf middle)) link was) small can stored

  half_changes : (T → IsLink a.part word → KeepsStored a d 1) → PutsPages T a d 1 (IsLink a.part word)
  half_changes pass = puts_pages T a d (λ j. (j ≡ 0) ⊎ (j ≡ right) ⊎ (j ≡ at)) 1 1 (right ∷ []) (omega arith) all_edits
      (λ j h. elim h [
        | inl e ↦ subst (λ n. IsTrue (d.asked n)) (sym e) meta_d.asked
        | inr h2 ↦ elim h2 [
          | inl e ↦ subst (λ n. IsTrue (d.asked n)) (sym e) (edits.asked right parts.right_is.in_hand.asked)
          | inr e ↦ subst (λ n. IsTrue (d.asked n)) (sym e) (edits.asked at parts.left_is.in_hand.asked)
        ]
      ]) meta_d all_numbers
      (λ j h. elim h [
        | inl e ↦ subst (λ n. IsTrue (d.known n) × IsThere d n) (sym e) (meta_d.known, meta_d.there)
        | inr h2 ↦ elim h2 [
          | inl e ↦ subst (λ n. IsTrue (d.known n) × IsThere d n) (sym e) right_held
          | inr e ↦ subst (λ n. IsTrue (d.known n) × IsThere d n) (sym e) left_held
        ]
      ])
      (λ t j lt. elim (parts.added t j (omega (arith, lt, count_of T c d (λ j. j ≡ into) 0 t edits not_zero))) [ inl old ↦ inl old | inr e ↦ inr (inr (inl e)) ])
      (λ t. moves_on a.pages c.pages d.pages (right ∷ []) [] (parts.moves t) (moves_page T c d into 0 t into_there edits (node_kind c into into_was.0 into_was.1) (node_kind d into _ into_now)))
      (omega arith) pass

  edits_to : (n : ℕ) → into ≡ n → EditsPages T c d (λ j. j ≡ n) 0
  edits_to n e = subst (λ n. EditsPages T c d (λ j. j ≡ n) 0) e edits

  edited_to : (n l : ℕ) → into ≡ n → k ≡ l → EditsNodeAt c d n key (Insert l word)
  edited_to n l into_is k_is = subst (λ (p : ℕ × ℕ). EditsNodeAt c d p.0 key (Insert p.1 word)) {x = (into, k)} {y = (n, l)} (λ z. (into_is z, k_is z)) edited

  pub left_changes : i ≤ cut → into ≡ at → k ≡ i → PutsPages T a d 1 (IsLink a.part word)
  left_changes side into_is k_is = half_changes (λ t link.
      let says = with_link (with_items (index_of leaf.page) (take cut (items_of leaf.page))) right in
      half_stored t _ _ (node_edited T c d at 0 key (Insert i word) says (edits_to at into_is) parts.left_is (edited_to at i into_is k_is)) (node_stays T c d (λ j. j ≡ at) 0 right _ (edits_to at into_is) parts.other parts.right_is)
      refl (leaf_says leaf.page leaf.gap.kind) refl refl
      (left_half (items_of leaf.page) i cut (record { key = key; word = word }) (cut_below a at key i cut leaf middle) leaf.gap.well_made.items.rising leaf.gap.between side) link)

  pub right_changes : cut < i → into ≡ right → k ≡ i - cut → PutsPages T a d 1 (IsLink a.part word)
  right_changes side into_is k_is = half_changes (λ t link.
      let says = with_link (with_items (empty_leaf (page_id a.part right)) (drop cut (items_of leaf.page))) (index_of leaf.page).link in
      half_stored t _ _ (node_stays T c d (λ j. j ≡ right) 0 at _ (edits_to right into_is) (λ e. parts.other (sym e)) parts.left_is) (node_edited T c d right 0 key (Insert (i - cut) word) says (edits_to right into_is) parts.right_is (edited_to right (i - cut) into_is k_is))
      refl (leaf_says leaf.page leaf.gap.kind) refl refl
      (right_half (items_of leaf.page) i cut (record { key = key; word = word }) (cut_below a at key i cut leaf middle) leaf.gap.well_made.items.rising leaf.gap.between side) link)

  module _ (t : T) (readable : AllReadable a) where
    at_in : at < page_count d.pages
    at_in = omega (arith, below_count a at meta leaf.below, counts_rise a d meta all_numbers)

    right_in : right < page_count d.pages
    right_in = below_count d right meta_d (λ n is. parts.below n (number_back T c d (λ j. j ≡ into) 0 Pages n edits not_zero parts.meta is))

    node_a : IsNode a at (index_of leaf.page)
    node_a = record { page = leaf.page; in_hand = leaf.in_hand; well_made = leaf.gap.well_made; size = leaf.size; is = refl }

    into_some : 1 ≤ into
    into_some = elim is_half [ inl e ↦ omega (arith, e, parts.some) | inr e ↦ omega (arith, e, leaf.some) ]

    half_moves : (left_now right_now : IndexPage) → IsNode d at left_now → IsNode d right right_now → MovesSpare a.pages d.pages (right ∷ []) []
    half_moves left_now right_now left_is right_is =
        let was : kind_of (page_at c.pages into) ≢ REUSE_KIND = elim is_half [
          | inl e ↦ subst (λ n. kind_of (page_at c.pages n) ≢ REUSE_KIND) (sym e) (node_kind c right _ parts.right_is)
          | inr e ↦ subst (λ n. kind_of (page_at c.pages n) ≢ REUSE_KIND) (sym e) (node_kind c at _ parts.left_is)
        ] in
        let now : kind_of (page_at d.pages into) ≢ REUSE_KIND = elim is_half [
          | inl e ↦ subst (λ n. kind_of (page_at d.pages n) ≢ REUSE_KIND) (sym e) (node_kind d right right_now right_is)
          | inr e ↦ subst (λ n. kind_of (page_at d.pages n) ≢ REUSE_KIND) (sym e) (node_kind d at left_now left_is)
        ] in
        moves_on a.pages c.pages d.pages (right ∷ []) [] (parts.moves t) (moves_page T c d into 0 t into_some edits was now)

    divided : (left_now right_now : IndexPage) → IsNode d at left_now → IsNode d right right_now → left_now.leaf ≡ true → left_now.link ≡ right → right_now.leaf ≡ true → right_now.link ≡ (index_of leaf.page).link
        → Halves (items_of leaf.page) i cut (record { key = key; word = word }) left_now.items right_now.items → (limit : ℕ) → PutsFor a.pages d.pages (half_of a.page_size) limit at key word (Split (record { from = key_in (items_of leaf.page) cut; right = right; levels = 0 }))
    divided left_now right_now left_is right_is l1 l2 r1 r2 halves =
        leaf_parted T a d at key word (half_of a.page_size) t readable meta leaf.some leaf.below (index_of leaf.page) node_a (leaf_says leaf.page leaf.gap.kind) all_numbers right all_edits left_now right_now left_is right_is l1 l2 r1 r2
        (halves.whole ∙ sym (put_between (items_of leaf.page) key word i leaf.gap.between)) (get_between (items_of leaf.page) key i leaf.gap.between)
        (omega (arith, halves.left_len, middle.low)) (omega (arith, halves.right_len, halves.left_high, middle.high, full_is a at key i cut leaf middle))
        (key_in (items_of leaf.page) cut) halves.upto halves.from (parts.spare t) (half_moves left_now right_now left_is right_is) at_in right_in

    pub left_puts : i ≤ cut → into ≡ at → k ≡ i → (limit : ℕ) → PutsFor a.pages d.pages (half_of a.page_size) limit at key word (Split (record { from = key_in (items_of leaf.page) cut; right = right; levels = 0 }))
    left_puts side into_is k_is =
        let says = with_link (with_items (index_of leaf.page) (take cut (items_of leaf.page))) right in
        let edits' : EditsPages T c d (λ j. j ≡ at) 0 = subst (λ n. EditsPages T c d (λ j. j ≡ n) 0) into_is edits in
        let edited' : EditsNodeAt c d at key (Insert i word) = subst (λ (p : ℕ × ℕ). EditsNodeAt c d p.0 key (Insert p.1 word)) {x = (into, k)} {y = (at, i)} (λ z. (into_is z, k_is z)) edited in
        divided _ _ (node_edited T c d at 0 key (Insert i word) says edits' parts.left_is edited') (node_stays T c d (λ j. j ≡ at) 0 right _ edits' parts.other parts.right_is)
        (leaf_says leaf.page leaf.gap.kind) refl refl refl
        (left_half (items_of leaf.page) i cut (record { key = key; word = word }) (cut_below a at key i cut leaf middle) leaf.gap.well_made.items.rising leaf.gap.between side)

    pub right_puts : cut < i → into ≡ right → k ≡ i - cut → (limit : ℕ) → PutsFor a.pages d.pages (half_of a.page_size) limit at key word (Split (record { from = key_in (items_of leaf.page) cut; right = right; levels = 0 }))
    right_puts side into_is k_is =
        let says = with_link (with_items (empty_leaf (page_id a.part right)) (drop cut (items_of leaf.page))) (index_of leaf.page).link in
        let edits' : EditsPages T c d (λ j. j ≡ right) 0 = subst (λ n. EditsPages T c d (λ j. j ≡ n) 0) into_is edits in
        let edited' : EditsNodeAt c d right key (Insert (i - cut) word) = subst (λ (p : ℕ × ℕ). EditsNodeAt c d p.0 key (Insert p.1 word)) {x = (into, k)} {y = (right, i - cut)} (λ z. (into_is z, k_is z)) edited in
        divided _ _ (node_stays T c d (λ j. j ≡ right) 0 at _ edits' (λ e. parts.other (sym e)) parts.left_is) (node_edited T c d right 0 key (Insert (i - cut) word) says edits' parts.right_is edited')
        (leaf_says leaf.page leaf.gap.kind) refl refl refl
        (right_half (items_of leaf.page) i cut (record { key = key; word = word }) (cut_below a at key i cut leaf middle) leaf.gap.well_made.items.rising leaf.gap.between side)

-- the halves have room for the item
pub takes_left : (T : Type 0) (a c : Paged) (at : ℕ) (key : List ℕ) (i cut word right : ℕ) (leaf : IsFullLeaf a at key i) → IsMiddle a.page_size cut → HasKeyLength key → i ≤ cut → PartsLeaf T a c at leaf.page cut right → TakesEdit c at key (Insert i word)
takes_left T a c at key i cut word right leaf middle long side parts =
    let below = cut_below a at key i cut leaf middle in
    let len = length-take-le cut (items_of leaf.page) (omega (arith, below)) in
    let node = parts.left_is in
    let items : items_of node.page ≡ take cut (items_of leaf.page) = ap (λ (s : IndexPage). s.items) node.is in
    let cap : capacity_of (length node.page) ≡ capacity_of a.page_size = ap capacity_of (node.size ∙ parts.edits.same.page_size) in
    record {
      some = leaf.some;
      page = node.page;
      in_hand = node.in_hand;
      well_made = node.well_made;
      size = node.size;
      fits = (omega (arith, ap length items, len, below, full_is a at key i cut leaf middle, cap), long, subst (λ (t : List Item). IsBetween t key i) (sym items) (between_take (items_of leaf.page) key i cut (omega (arith, below)) side leaf.gap.between));
    }

pub takes_right : (T : Type 0) (a c : Paged) (at : ℕ) (key : List ℕ) (i cut word right : ℕ) (leaf : IsFullLeaf a at key i) → IsMiddle a.page_size cut → HasKeyLength key → cut < i → PartsLeaf T a c at leaf.page cut right → TakesEdit c right key (Insert (i - cut) word)
takes_right T a c at key i cut word right leaf middle long side parts =
    let below = cut_below a at key i cut leaf middle in
    let len = length-drop cut (items_of leaf.page) in
    let node = parts.right_is in
    let items : items_of node.page ≡ drop cut (items_of leaf.page) = ap (λ (s : IndexPage). s.items) node.is in
    let cap : capacity_of (length node.page) ≡ capacity_of a.page_size = ap capacity_of (node.size ∙ parts.edits.same.page_size) in
    record {
      some = parts.some;
      page = node.page;
      in_hand = node.in_hand;
      well_made = node.well_made;
      size = node.size;
      fits = (omega (arith, ap length items, len, below, full_is a at key i cut leaf middle, cap, middle.some), long, subst (λ (t : List Item). IsBetween t key (i - cut)) (sym items) (between_drop (items_of leaf.page) key i cut (omega (arith, side)) leaf.gap.between));
    }
