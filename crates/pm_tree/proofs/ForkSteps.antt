-- An inner page that has no room for a new child is divided, step by step.
use Rattle.std.proofs.Common.{◌≡◌, ◌≢◌, ℕ, ◌+◌, ◌-◌, ◌<◌, ◌≤◌, ◌⊎◌, false, List, [], ◌∷◌, ◌++◌, length, take, drop, get_or, refl, sym, ap, subst, ◌∙◌, inl, inr, arith}
use Rattle.std.specs.Prelude.{Option, Some}
use Rattle.std.specs.List.{insert}
use Rattle.std.proofs.lemmas.Bool.{ne_eqb}
use Rattle.std.proofs.lemmas.List.{take-append-drop, length-take-le, length-drop, drop_more, append_assoc, length-append}
use Rattle.std.proofs.lemmas.List.Edits.{length-insert, insert-append_left, insert-append_right}
use Rattle.pm_types.specs.Ids.{page_id}
use Rattle.pm_types.specs.Keys.{HasKeyLength}
use Rattle.pm_types.specs.declared.page_id.PageId.{PageId}
use Rattle.pm_btpage.specs.declared.layout.TheConstants.{LEAF_KIND, INNER_KIND}
use Rattle.pm_btpage.specs.IndexPages.{Item, IndexPage, items_of, index_of, key_in, word_in, with_item, with_items, capacity_of, IsBetween}
use Rattle.pm_btpage.proofs.ItemsByIndex.{items_within}
use Rattle.pm_meta.specs.declared.slots.MetaSlot.TheVariants.{Pages}
use Rattle.pm_pages.specs.Rows.{page_count, kind_of}
use Rattle.pm_pages.specs.Trees.{index_in}
use Rattle.pm_pages.specs.Paged.{Paged}
use Rattle.pm_pages.specs.Edits.{LooksAtPages, EditsPages, HasMeta, IsNumberIn}
use Rattle.pm_pages.proofs.EditedPages.{edits_then, edits_more}
use Rattle.pm_tree.specs.declared.put.Part.{Part}
use Rattle.pm_tree.specs.Nodes.{nodes_in}
use Rattle.pm_tree.specs.Puts.{IsSpare, half_of}
use Rattle.pm_tree.specs.Edits.{IsNode, TakesEdit, EditsNodeAt}
use Rattle.pm_tree.specs.declared.edits.Edit.TheVariants.{Insert}
use Rattle.pm_tree.specs.Divisions.{KeepsNumbers, CanDivide, Divides}
use Rattle.pm_tree.specs.Grown.{IsParentAt, child_item, Grows, Forks}
use Rattle.pm_pages.specs.SpareChains.{MovesSpare}
use Rattle.pm_pages.proofs.SpareMoves.{moves_on}
use Rattle.pm_pages.specs.StoredPages.{KeepsMeta}
use Rattle.pm_pages.proofs.StoredMeta.{keeps_on}
use Rattle.pm_pages.proofs.SpareSteps.{moves_page}
use Rattle.pm_tree.proofs.NodeKinds.{node_kind}
use Rattle.pm_tree.proofs.NodeEdits.{node_stays}
use Rattle.pm_tree.proofs.Divided.{node_edited, meta_stays, numbers_stay, numbers_then, number_back, count_of}
use Rattle.pm_tree.proofs.LeafChanges.{capacity_bounds, between_take, between_drop}

pub inner_says : (page : List ℕ) → kind_of page ≡ INNER_KIND → (index_of page).leaf ≡ false
inner_says page kind = ne_eqb (kind_of page) LEAF_KIND (λ e. omega (arith, e, kind))

parent_node : (a : Paged) (at i : ℕ) (key : List ℕ) (p : IsParentAt a at key i) → IsNode a at (index_of p.page)
parent_node a at i key p = record { page = p.page; in_hand = p.in_hand; well_made = p.parent.well_made; size = p.size; is = refl }

pub takes_child : (a : Paged) (at i word : ℕ) (key : List ℕ) (p : IsParentAt a at key i) → HasKeyLength key → length (items_of p.page) < capacity_of (length p.page) → TakesEdit a at key (Insert i word)
takes_child a at i word key p long room = record { some = p.some; page = p.page; in_hand = p.in_hand; well_made = p.parent.well_made; size = p.size; fits = (room, long, p.parent.between) }

pub grows_child : (T : Type 0) (a c : Paged) (at i word : ℕ) (part : Part) → IsParentAt a at part.from i → index_in (child_item a.part part).word ≡ part.right → word ≡ (page_id a.part part.right).0 → EditsPages T a c (λ j. j ≡ at) 0 → EditsNodeAt a c at part.from (Insert i word) → Grows T a c at i part
grows_child T a c at i word part p index word_is edits edited = record {
  says = index_of p.page;
  before = parent_node a at i part.from p;
  inner = inner_says p.page p.parent.kind;
  between = p.parent.between;
  index = index;
  after = subst (λ w. IsNode c at (with_items (index_of p.page) (with_item (items_of p.page) i (record { key = part.from; word = w })))) word_is
      (node_edited T a c at 0 part.from (Insert i word) (index_of p.page) edits (parent_node a at i part.from p) edited);
  edits = edits;
}

-- of a full inner page
module _ (a : Paged) (at i : ℕ) (key : List ℕ) (p : IsParentAt a at key i) (full : capacity_of (length p.page) ≤ length (items_of p.page)) where
  pub inner_full : length (items_of p.page) ≡ capacity_of a.page_size
  inner_full = (let w = items_within p.page p.parent.well_made in omega (arith, w.0, full, ap capacity_of p.size))

  pub inner_cap : 13 ≤ capacity_of a.page_size
  inner_cap = omega (arith, capacity_bounds (length p.page) p.parent.well_made.size, ap capacity_of p.size)

  pub can_fork : (child : PageId) (start end : ℕ) → start ≤ length (items_of p.page) → end ≤ length (items_of p.page) → CanDivide a at p.page (Some child) start end
  can_fork child start end s e = record {
    some = p.some;
    below = p.below;
    in_hand = p.in_hand;
    well_made = p.parent.well_made;
    size = p.size;
    leaf = inner_says p.page p.parent.kind;
    start_in = s;
    end_in = e;
  }

-- the items with another, divided at one of them that goes up
pub record Cuts (items : List Item) (i half : ℕ) (x : Item) (low : List Item) (middle : Item) (high : List Item) : Type 0 where
  pub whole : with_item items i x ≡ low ++ (middle ∷ high)
  pub full : half ≤ length low
  pub full_high : half ≤ length high

pub cuts_middle : (items : List Item) (i half : ℕ) (x : Item) → i ≡ half → half + half ≤ length items → Cuts items i half x (take i items) x (drop i items)
cuts_middle items i half x e le = record { whole = refl; full = omega (arith, e, length-take-le i items (omega (arith, e, le))); full_high = omega (arith, e, length-drop i items, le) }

pub cuts_left : (items : List Item) (i half : ℕ) (x d : Item) → i < half → half + half ≤ length items → Cuts items i half x (with_item (take (half - 1) items) i x) (get_or items (half - 1) d) (drop half items)
cuts_left items i half x d lt le =
    let n = half - 1 in
    let long = length-take-le n items (omega (arith, le)) in
    let more = length-insert (take n items) i x (omega (arith, long, lt)) in
    let e : n + 1 ≡ half = omega (arith, lt) in
    record {
      whole = ap (λ (t : List Item). insert t i x) (sym (take-append-drop n items)) ∙ insert-append_left (take n items) (drop n items) i x (omega (arith, long, lt))
          ∙ ap (λ (t : List Item). insert (take n items) i x ++ t) (drop_more items n d (omega (arith, le, lt)) ∙ ap (λ m. get_or items n d ∷ drop m items) e);
      full = omega (arith, more, long, lt);
      full_high = omega (arith, length-drop half items, le);
    }

pub cuts_right : (items : List Item) (i half : ℕ) (x d : Item) → half < i → i ≤ length items → half + half ≤ length items → Cuts items i half x (take half items) (get_or items half d) (with_item (drop (half + 1) items) (i - half - 1) x)
cuts_right items i half x d lt in_range le =
    let long = length-take-le half items (omega (arith, le)) in
    let len : length (take half items ++ (get_or items half d ∷ [])) ≡ half + 1 = omega (arith, length-append (take half items) (get_or items half d ∷ []), long) in
    let apart : (take half items ++ (get_or items half d ∷ [])) ++ drop (half + 1) items ≡ items =
    append_assoc (take half items) (get_or items half d ∷ []) (drop (half + 1) items) ∙ ap (λ (t : List Item). take half items ++ t) (sym (drop_more items half d (omega (arith, lt, in_range)))) ∙ take-append-drop half items in
    let e : i - (half + 1) ≡ i - half - 1 = omega arith in
    record {
      whole = ap (λ (t : List Item). insert t i x) (sym apart) ∙ insert-append_right (take half items ++ (get_or items half d ∷ [])) (drop (half + 1) items) (half + 1) i x len (omega (arith, lt))
          ∙ ap (λ m. (take half items ++ (get_or items half d ∷ [])) ++ insert (drop (half + 1) items) m x) e
          ∙ append_assoc (take half items) (get_or items half d ∷ []) (insert (drop (half + 1) items) (i - half - 1) x);
      full = omega (arith, long);
      full_high = omega (arith, length-insert (drop (half + 1) items) (i - half - 1) x (omega (arith, length-drop (half + 1) items, in_range, lt)), length-drop (half + 1) items, le);
    }

-- The page was divided, and then maybe one of the halves took the item.
module _ (T : Type 0) (a d : Paged) (at i right : ℕ) (part : Part) (p : IsParentAt a at part.from i) (full : capacity_of (length p.page) ≤ length (items_of p.page)) (some : 1 ≤ right) (below : (n : ℕ) → IsNumberIn d Pages n → right < n) (other : right ≢ at)
    (edits : EditsPages T a d (λ j. (j ≡ 0) ⊎ (j ≡ right) ⊎ (j ≡ at)) 1) (meta : HasMeta d) (numbers : KeepsNumbers a d) (index : index_in (child_item a.part part).word ≡ part.right) where
  pub forks : (low : List Item) (middle : Item) (high : List Item) (from : List ℕ) → Cuts (items_of p.page) i (half_of a.page_size) (child_item a.part part) low middle high → IsNode d at (with_items (index_of p.page) low)
      → IsNode d right (record { id = page_id a.part right; leaf = false; link = middle.word; items = high }) → from ≡ middle.key → (T → IsSpare (nodes_in a.pages right)) → (T → (j : ℕ) → j < page_count d.pages → (j < page_count a.pages) ⊎ (j ≡ right)) → (T → MovesSpare a.pages d.pages (right ∷ []) []) → (T → KeepsMeta a d) → Forks T a d at i part (record { from = from; right = right; levels = part.levels + 1 })
  forks low middle high from cuts left_is right_is from_is spare added moves keeps = record {
    says = index_of p.page;
    before = parent_node a at i part.from p;
    inner = inner_says p.page p.parent.kind;
    between = p.parent.between;
    index = index;
    low = low;
    middle = middle;
    high = high;
    whole = cuts.whole;
    left_is = left_is;
    right_is = right_is;
    from = from_is;
    levels = refl;
    full = cuts.full;
    full_right = cuts.full_high;
    some = some;
    below = below;
    other = other;
    edits = edits;
    meta = meta;
    numbers = numbers;
    spare = spare;
    added = added;
    moves = moves;
    meta_passes = keeps;
  }

-- changes after a division, of one of its pages
module _ (T : Type 0) (a c d : Paged) (at right into start end : ℕ) (page : List ℕ) (first : Option PageId) (divides : Divides T a c at page first start end right) (edits : EditsPages T c d (λ j. j ≡ into) 0) (some : 1 ≤ at) (is_half : (into ≡ right) ⊎ (into ≡ at)) where
  then_zero : 0 ≡ into → ⊥
  then_zero e = elim is_half [ inl h ↦ omega (arith, e, h, divides.some) | inr h ↦ omega (arith, e, h, some) ]

  pub then_edits : EditsPages T a d (λ j. (j ≡ 0) ⊎ (j ≡ right) ⊎ (j ≡ at)) 1
  then_edits = edits_more T a d (λ j. ((j ≡ 0) ⊎ (j ≡ right) ⊎ (j ≡ at)) ⊎ (j ≡ into)) (λ j. (j ≡ 0) ⊎ (j ≡ right) ⊎ (j ≡ at)) (1 + 0) 1
      (λ j h. elim h [ inl x ↦ x | inr e ↦ elim is_half [ inl z ↦ inr (inl (e ∙ z)) | inr z ↦ inr (inr (e ∙ z)) ] ]) (omega arith)
      (edits_then T a c d (λ j. (j ≡ 0) ⊎ (j ≡ right) ⊎ (j ≡ at)) (λ j. j ≡ into) 1 0 divides.edits edits)

  pub then_numbers : KeepsNumbers a d
  then_numbers = numbers_then a c d divides.numbers (numbers_stay T c d (λ j. j ≡ into) 0 edits then_zero)

  pub then_meta : HasMeta d
  then_meta = meta_stays T c d (λ j. j ≡ into) 0 edits then_zero divides.meta

  pub then_below : (n : ℕ) → IsNumberIn d Pages n → right < n
  then_below n is = divides.below n (number_back T c d (λ j. j ≡ into) 0 Pages n edits then_zero divides.meta is)

blank_item : Item
blank_item = record { key = []; word = 0 }

module _ (T : Type 0) (a : Paged) (at i : ℕ) (part : Part) (p : IsParentAt a at part.from i) (full : capacity_of (length p.page) ≤ length (items_of p.page)) where
  half_twice : half_of a.page_size + half_of a.page_size ≤ length (items_of p.page)
  half_twice = omega (arith, inner_full a at i part.from p full)

  pub half_some : 6 ≤ half_of a.page_size
  half_some = omega (arith, inner_cap a at i part.from p full)

  pub half_in : half_of a.page_size < length (items_of p.page)
  half_in = omega (arith, half_twice, half_some)

  pub middle_forks : (d : Paged) (right : ℕ) → index_in (child_item a.part part).word ≡ part.right → i ≡ half_of a.page_size → Divides T a d at p.page (Some (page_id a.part part.right)) i i right → Forks T a d at i part (record { from = part.from; right = right; levels = part.levels + 1 })
  middle_forks d right index e divides = forks T a d at i right part p full divides.some divides.below divides.other divides.edits divides.meta divides.numbers index
      (take i (items_of p.page)) (child_item a.part part) (drop i (items_of p.page)) part.from (cuts_middle (items_of p.page) i (half_of a.page_size) (child_item a.part part) e half_twice) divides.left_is divides.right_is refl divides.spare divides.added divides.moves divides.meta_passes

  pub left_forks : (c d : Paged) (right word w half : ℕ) (from : List ℕ) → index_in (child_item a.part part).word ≡ part.right → half ≡ half_of a.page_size → i < half → w ≡ word_in (items_of p.page) (half - 1) → from ≡ key_in (items_of p.page) (half - 1) → word ≡ (page_id a.part part.right).0
      → Divides T a c at p.page (Some (record { 0 = w })) half (half - 1) right → EditsPages T c d (λ j. j ≡ at) 0 → EditsNodeAt c d at part.from (Insert i word) → Forks T a d at i part (record { from = from; right = right; levels = part.levels + 1 })
  left_forks c d right word w half from index e lt w_is from_is word_is divides edits edited =
      let items = items_of p.page in
      let says = with_items (index_of p.page) (take (half - 1) items) in
      let left = subst (λ v. IsNode d at (with_items says (with_item (take (half - 1) items) i (record { key = part.from; word = v })))) word_is (node_edited T c d at 0 part.from (Insert i word) says edits divides.left_is edited) in
      let right_is = subst (λ v. IsNode d right (record { id = page_id a.part right; leaf = false; link = v; items = drop half items })) w_is (node_stays T c d (λ j. j ≡ at) 0 right _ edits divides.other divides.right_is) in
      let cuts : Cuts items i (half_of a.page_size) (child_item a.part part) (with_item (take (half - 1) items) i (child_item a.part part)) (get_or items (half - 1) (record { key = []; word = 0 })) (drop half items) =
      subst (λ n. Cuts items i n (child_item a.part part) (with_item (take (half - 1) items) i (child_item a.part part)) (get_or items (half - 1) (record { key = []; word = 0 })) (drop half items)) e
      (cuts_left items i half (child_item a.part part) (record { key = []; word = 0 }) lt (omega (arith, e, half_twice))) in
      forks T a d at i right part p full divides.some (then_below T a c d at right at half (half - 1) p.page _ divides edits p.some (inr refl)) divides.other (then_edits T a c d at right at half (half - 1) p.page _ divides edits p.some (inr refl))
      (then_meta T a c d at right at half (half - 1) p.page _ divides edits p.some (inr refl)) (then_numbers T a c d at right at half (half - 1) p.page _ divides edits p.some (inr refl)) index
      (with_item (take (half - 1) items) i (child_item a.part part)) (get_or items (half - 1) (record { key = []; word = 0 })) (drop half items) from cuts left right_is from_is divides.spare
      (λ t j lt. divides.added t j (omega (arith, lt, count_of T c d (λ j. j ≡ at) 0 t edits (λ z. omega (arith, z, p.some)))))
      (λ t. moves_on a.pages c.pages d.pages (right ∷ []) [] (divides.moves t) (moves_page T c d at 0 t p.some edits (node_kind c at _ divides.left_is) (node_kind d at _ left)))
      (λ t. keeps_on T a c d (λ j. j ≡ at) 0 t edits (λ z. omega (arith, z, p.some)) (divides.meta_passes t))

  pub right_forks : (c d : Paged) (right word w half : ℕ) (from : List ℕ) → index_in (child_item a.part part).word ≡ part.right → half ≡ half_of a.page_size → half < i → w ≡ word_in (items_of p.page) half → from ≡ key_in (items_of p.page) half → word ≡ (page_id a.part part.right).0
      → Divides T a c at p.page (Some (record { 0 = w })) (half + 1) half right → EditsPages T c d (λ j. j ≡ right) 0 → EditsNodeAt c d right part.from (Insert (i - half - 1) word) → Forks T a d at i part (record { from = from; right = right; levels = part.levels + 1 })
  right_forks c d right word w half from index e lt w_is from_is word_is divides edits edited =
      let items = items_of p.page in
      let says : IndexPage = record { id = page_id a.part right; leaf = false; link = w; items = drop (half + 1) items } in
      let left = node_stays T c d (λ j. j ≡ right) 0 at _ edits (λ z. divides.other (sym z)) divides.left_is in
      let right_is = subst (λ (v : ℕ × ℕ). IsNode d right (record { id = page_id a.part right; leaf = false; link = v.0; items = with_item (drop (half + 1) items) (i - half - 1) (record { key = part.from; word = v.1 }) })) {x = (w, word)} {y = (word_in items half, (page_id a.part part.right).0)} (λ z. (w_is z, word_is z))
      (node_edited T c d right 0 part.from (Insert (i - half - 1) word) says edits divides.right_is edited) in
      let cuts = subst (λ n. Cuts items i n (child_item a.part part) (take half items) (get_or items half (record { key = []; word = 0 })) (with_item (drop (half + 1) items) (i - half - 1) (child_item a.part part))) e
      (cuts_right items i half (child_item a.part part) (record { key = []; word = 0 }) lt p.parent.between.in_range (omega (arith, e, half_twice))) in
      forks T a d at i right part p full divides.some (then_below T a c d at right right (half + 1) half p.page _ divides edits p.some (inl refl)) divides.other (then_edits T a c d at right right (half + 1) half p.page _ divides edits p.some (inl refl))
      (then_meta T a c d at right right (half + 1) half p.page _ divides edits p.some (inl refl)) (then_numbers T a c d at right right (half + 1) half p.page _ divides edits p.some (inl refl)) index
      (take half items) (get_or items half (record { key = []; word = 0 })) (with_item (drop (half + 1) items) (i - half - 1) (child_item a.part part)) from cuts left right_is from_is divides.spare
      (λ t j lt. divides.added t j (omega (arith, lt, count_of T c d (λ j. j ≡ right) 0 t edits (λ z. omega (arith, z, divides.some)))))
      (λ t. moves_on a.pages c.pages d.pages (right ∷ []) [] (divides.moves t) (moves_page T c d right 0 t divides.some edits (node_kind c right _ divides.right_is) (node_kind d right _ right_is)))
      (λ t. keeps_on T a c d (λ j. j ≡ right) 0 t edits (λ z. omega (arith, z, divides.some)) (divides.meta_passes t))

  -- the halves have room
  pub takes_low : (c : Paged) (right word half : ℕ) (first : Option PageId) → HasKeyLength part.from → half ≡ half_of a.page_size → i < half → Divides T a c at p.page first half (half - 1) right → TakesEdit c at part.from (Insert i word)
  takes_low c right word half first long e lt divides =
      let items = items_of p.page in
      let len = length-take-le (half - 1) items (omega (arith, e, half_twice)) in
      let node = divides.left_is in
      let is : items_of node.page ≡ take (half - 1) items = ap (λ (s : IndexPage). s.items) node.is in
      let cap : capacity_of (length node.page) ≡ capacity_of a.page_size = ap capacity_of (node.size ∙ divides.edits.same.page_size) in
      record {
        some = p.some;
        page = node.page;
        in_hand = node.in_hand;
        well_made = node.well_made;
        size = node.size;
        fits = (omega (arith, ap length is, len, e, cap, inner_cap a at i part.from p full), long, subst (λ (t : List Item). IsBetween t part.from i) (sym is) (between_take items part.from i (half - 1) (omega (arith, e, half_twice)) (omega (arith, lt)) p.parent.between));
      }

  pub takes_high : (c : Paged) (right word half : ℕ) (w : PageId) → HasKeyLength part.from → half ≡ half_of a.page_size → half < i → Divides T a c at p.page (Some w) (half + 1) half right → TakesEdit c right part.from (Insert (i - half - 1) word)
  takes_high c right word half w long e lt divides =
      let items = items_of p.page in
      let len = length-drop (half + 1) items in
      let node = divides.right_is in
      let is : items_of node.page ≡ drop (half + 1) items = ap (λ (s : IndexPage). s.items) node.is in
      let cap : capacity_of (length node.page) ≡ capacity_of a.page_size = ap capacity_of (node.size ∙ divides.edits.same.page_size) in
      let index : i - (half + 1) ≡ i - half - 1 = omega arith in
      record {
        some = divides.some;
        page = node.page;
        in_hand = node.in_hand;
        well_made = node.well_made;
        size = node.size;
        fits = (
          omega (arith, ap length is, len, cap, inner_cap a at i part.from p full, inner_full a at i part.from p full),
          long,
          subst (λ (t : List Item). IsBetween t part.from (i - half - 1)) (sym is) (subst (λ n. IsBetween (drop (half + 1) items) part.from n) index (between_drop items part.from i (half + 1) (omega (arith, lt)) p.parent.between)),
        );
      }

-- a parent that was only looked at
pub parent_looked : (T : Type 0) (a b : Paged) (at i : ℕ) (key : List ℕ) → HasMeta a → LooksAtPages T a b 0 → IsParentAt a at key i → IsParentAt b at key i
parent_looked T a b at i key meta looks p = record {
  some = p.some;
  below = λ n is. p.below n (record { meta = is.meta; in_hand = record { known = meta.known; asked = meta.asked; page = sym (looks.pages 0 (inr meta.known)) ∙ is.in_hand.page }; is = is.is });
  page = p.page;
  in_hand = record { known = looks.known at p.in_hand.known; asked = looks.asked at p.in_hand.asked; page = looks.pages at (inr p.in_hand.known) ∙ p.in_hand.page };
  size = p.size ∙ sym looks.same.page_size;
  parent = p.parent;
}
