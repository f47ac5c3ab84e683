-- A page of a tree is divided, step by step.
use Rattle.std.proofs.Common.{◌≡◌, ◌≢◌, ℕ, ◌+◌, ◌<◌, ◌≤◌, ◌⊎◌, List, [], ◌∷◌, length, drop, refl, sym, ap, subst, ◌∙◌, inl, inr, arith}
use Rattle.std.specs.Prelude.{Option, None, Some, IsSome}
use Rattle.std.proofs.lemmas.Bool.{cases_eq, le-ltb}
use Rattle.pm_types.specs.Ids.{page_id}
use Rattle.pm_types.specs.declared.page_id.PageId.{PageId}
use Rattle.pm_btpage.specs.IndexPages.{IndexPage, items_of, index_of, with_items, IsIndexPage}
use Rattle.pm_meta.specs.declared.layout.TheConstants.{REUSE_KIND}
use Rattle.pm_meta.specs.declared.slots.MetaSlot.{MetaSlot}
use Rattle.pm_meta.specs.declared.slots.MetaSlot.TheVariants.{Pages}
use Rattle.pm_meta.specs.MetaPages.{field_of}
use Rattle.pm_pages.specs.Rows.{Partition, bytes_of, page_at, page_count, number_of, kind_of}
use Rattle.pm_pages.specs.Paged.{Paged, IsTold, IsInHand}
use Rattle.pm_pages.specs.Edits.{LooksAtPages, EditsPages, HasMeta, IsNumberIn}
use Rattle.pm_pages.specs.SparePages.{IsMetaOr, TakesPage}
use Rattle.pm_pages.proofs.EditedPages.{edits_then, edits_more, edits_looked}
use Rattle.pm_pages.proofs.PageReads.{page_at-below}
use Rattle.pm_tree.specs.Nodes.{nodes_in}
use Rattle.pm_tree.specs.Puts.{IsSpare}
use Rattle.pm_tree.specs.Edits.{blank, edited, IsNode, TakesEdit, EditsNodeAt}
use Rattle.pm_tree.specs.declared.edits.Edit.{Edit}
use Rattle.pm_tree.specs.declared.edits.Edit.TheVariants.{Tail, Cut}
use Rattle.pm_tree.specs.Divisions.{KeepsNumbers, is_leaf_blank, CanDivide, Divides}
use Rattle.pm_pages.specs.SpareChains.{MovesSpare}
use Rattle.pm_tree.proofs.NodeEdits.{node_stays}
use Rattle.pm_pages.proofs.SpareMoves.{moves_on}
use Rattle.pm_pages.proofs.SpareSteps.{zeros_at, moves_page, moves_take}
use Rattle.pm_tree.proofs.NodeKinds.{node_kind}
use Rattle.pm_pages.proofs.StoredMeta.{keeps_taken, keeps_on, keeps_looked}

-- the number that a meta page has
pub number_is : (p : Paged) (slot : MetaSlot) (n : ℕ) (was : List ℕ) → IsNumberIn p slot n → p.pages 0 ≡ Some was → n ≡ field_of was slot
number_is p slot n was is e = (let same : is.meta ≡ was = cc (is.in_hand.page, e) in is.is ∙ ap (λ (m : List ℕ). field_of m slot) same)

pub number_now : (p : Paged) (slot : MetaSlot) (n : ℕ) (now : List ℕ) → HasMeta p → p.pages 0 ≡ Some now → n ≡ field_of now slot → IsNumberIn p slot n
number_now p slot n now meta e is = record { meta = now; in_hand = record { known = meta.known; asked = meta.asked; page = e }; is = is }

-- a page that is taken keeps the other numbers
pub numbers_taken : (T : Type 0) (a b : Paged) (n i : ℕ) → TakesPage T a b n i → KeepsNumbers a b
numbers_taken T a b n i takes = record {
  count = λ n is. (let e = number_is a Pages n takes.numbers.was is takes.numbers.before in elim takes.numbers.change [
    | inl r ↦ (n, number_now b Pages n takes.numbers.now takes.meta takes.numbers.after (e ∙ sym (r.sets.others Pages tt (λ x. cc x))), omega arith)
    | inr x ↦ (i + 1, number_now b Pages (i + 1) takes.numbers.now takes.meta takes.numbers.after (sym x.sets.here), omega (arith, e, x.index))
  ]);
  others = λ slot is_slot not_reuse not_pages n is. (let e = number_is a slot n takes.numbers.was is takes.numbers.before in elim takes.numbers.change [
    | inl r ↦ number_now b slot n takes.numbers.now takes.meta takes.numbers.after (e ∙ sym (r.sets.others slot is_slot not_reuse))
    | inr x ↦ number_now b slot n takes.numbers.now takes.meta takes.numbers.after (e ∙ sym (x.sets.others slot is_slot not_pages))
  ]);
}

-- the meta page stays where another page is changed
pub number_stays : (T : Type 0) (a b : Paged) (touched : ℕ → Type 0) (m : ℕ) (slot : MetaSlot) (n : ℕ) → EditsPages T a b touched m → (touched 0 → ⊥) → IsNumberIn a slot n → IsNumberIn b slot n
number_stays T a b touched m slot n edits out is = record {
  meta = is.meta;
  in_hand = record { known = edits.known 0 is.in_hand.known; asked = edits.asked 0 is.in_hand.asked; page = edits.others 0 (inr is.in_hand.known) out ∙ is.in_hand.page };
  is = is.is;
}

pub meta_stays : (T : Type 0) (a b : Paged) (touched : ℕ → Type 0) (m : ℕ) → EditsPages T a b touched m → (touched 0 → ⊥) → HasMeta a → HasMeta b
meta_stays T a b touched m edits out meta = record {
  known = edits.known 0 meta.known;
  asked = edits.asked 0 meta.asked;
  there = subst IsSome (sym (edits.others 0 (inr meta.known) out)) meta.there;
}

pub numbers_then : (a b c : Paged) → KeepsNumbers a b → KeepsNumbers b c → KeepsNumbers a c
numbers_then a b c x y = record {
  count = λ n is. (let p = x.count n is in let q = y.count p.0 p.1 in (q.0, q.1, omega (arith, p.2, q.2)));
  others = λ slot is_slot r p n is. y.others slot is_slot r p n (x.others slot is_slot r p n is);
}

pub numbers_stay : (T : Type 0) (a b : Paged) (touched : ℕ → Type 0) (m : ℕ) → EditsPages T a b touched m → (touched 0 → ⊥) → KeepsNumbers a b
numbers_stay T a b touched m edits out = record {
  count = λ n is. (n, number_stays T a b touched m Pages n edits out is, omega arith);
  others = λ slot is_slot r p n is. number_stays T a b touched m slot n edits out is;
}

-- the page count stays where the meta page does
pub count_of : (T : Type 0) (a b : Paged) (touched : ℕ → Type 0) (m : ℕ) → T → EditsPages T a b touched m → (touched 0 → ⊥) → page_count b.pages ≡ page_count a.pages
count_of T a b touched m t edits out = ap (λ o. number_of o Pages) (edits.others 0 (inl t) out)

-- a page that is taken is of no tree
pub spare_taken : (T : Type 0) (a b : Paged) (n i : ℕ) → T → TakesPage T a b n i → IsSpare (nodes_in a.pages i)
spare_taken T a b n i t takes = elim takes.numbers.change [
  | inl r ↦ (let kind : kind_of (page_at a.pages i) ≡ REUSE_KIND = ap kind_of (page_at-below a.pages i (omega (arith, r.below, count)) ∙ ap bytes_of (r.told (inl t))) ∙ r.kind in
      record { leaf = λ e. omega (arith, e, kind); inner = λ e. omega (arith, e, kind) })
  | inr x ↦ (let kind : kind_of (page_at a.pages i) ≡ 0 = simp (le-ltb i (page_count a.pages) (omega (arith, x.index, count))) refl in
      record { leaf = λ e. omega (arith, e, kind); inner = λ e. omega (arith, e, kind) })
]
  where
    count : page_count a.pages ≡ field_of takes.numbers.was Pages
    count = ap (λ o. number_of o Pages) takes.numbers.before

-- it isn't an index page that is at hand
pub taken_other : (T : Type 0) (a b : Paged) (n i at : ℕ) (page : List ℕ) → TakesPage T a b n i → IsInHand a at page → IsIndexPage page → ((n : ℕ) → IsNumberIn a Pages n → at < n) → HasMeta a → i ≢ at
taken_other T a b n i at page takes in_hand index below meta e = elim takes.numbers.change [
  | inl r ↦ (let same : r.page ≡ page = cc (r.told (subst (IsTold T a) (sym e) (inr in_hand.known)), ap a.pages e ∙ in_hand.page) in
      let kind : kind_of page ≡ REUSE_KIND = ap kind_of (sym same) ∙ r.kind in
      elim index.head.kind [ inl k ↦ omega (arith, k, kind) | inr k ↦ omega (arith, k, kind) ])
  | inr x ↦ omega (arith, e, below i (number_now a Pages i takes.numbers.was meta takes.numbers.before (sym x.index)))
]

blank_leaf : (id : PageId) (first : Option PageId) → (blank id first).leaf ≡ is_leaf_blank first
blank_leaf id None = refl
blank_leaf id (Some child) = refl

pub blank_items : (id : PageId) (first : Option PageId) → (blank id first).items ≡ []
blank_items id None = refl
blank_items id (Some child) = refl

-- the new page takes the items
pub takes_tail : (a c : Paged) (at right : ℕ) (page : List ℕ) (id : PageId) (first : Option PageId) (start end : ℕ) → 1 ≤ right → c.page_size ≡ a.page_size → CanDivide a at page first start end → IsNode c right (blank id first) → TakesEdit c right page (Tail start)
takes_tail a c at right page id first start end some size can node = record {
  some = some;
  page = node.page;
  in_hand = node.in_hand;
  well_made = node.well_made;
  size = node.size;
  fits = (can.well_made, ap (λ (s : IndexPage). s.leaf) node.is ∙ blank_leaf id first ∙ sym can.leaf, can.size ∙ sym size ∙ sym node.size, ap (λ (s : IndexPage). s.items) node.is ∙ blank_items id first, can.start_in);
}

pub takes_cut : (T : Type 0) (a d : Paged) (touched : ℕ → Type 0) (m at : ℕ) (page bytes : List ℕ) (first : Option PageId) (start end : ℕ) → CanDivide a at page first start end → EditsPages T a d touched m → (touched at → ⊥) → TakesEdit d at bytes (Cut end)
takes_cut T a d touched m at page bytes first start end can edits out = record {
  some = can.some;
  page = page;
  in_hand = record { known = edits.known at can.in_hand.known; asked = edits.asked at can.in_hand.asked; page = edits.others at (inr can.in_hand.known) out ∙ can.in_hand.page };
  well_made = can.well_made;
  size = can.size ∙ sym edits.same.page_size;
  fits = can.end_in;
}

-- what a page says that took a change
pub node_edited : (T : Type 0) (a b : Paged) (i m : ℕ) (bytes : List ℕ) (edit : Edit) (says : IndexPage) → EditsPages T a b (λ j. j ≡ i) m → IsNode a i says → EditsNodeAt a b i bytes edit → IsNode b i (edited says bytes edit)
node_edited T a b i m bytes edit says edits node e =
    let same : e.was ≡ node.page = cc (e.before, node.in_hand.page) in
    record {
      page = e.now;
      in_hand = record { known = edits.known i node.in_hand.known; asked = edits.asked i node.in_hand.asked; page = e.after };
      well_made = e.edits.well_made;
      size = e.edits.size ∙ ap length same ∙ node.size ∙ sym edits.same.page_size;
      is = e.edits.says ∙ ap (λ (s : IndexPage). edited s bytes edit) (ap index_of same ∙ node.is);
    }

-- what changed before the old page's items are taken out
pub before_cut : (T : Type 0) (a b c d : Paged) (at right : ℕ) (page bytes : List ℕ) (first : Option PageId) (start end : ℕ) → HasMeta a → CanDivide a at page first start end → TakesPage T a b 1 right → EditsPages T b c (λ j. j ≡ right) 0 → EditsPages T c d (λ j. j ≡ right) 0 → TakesEdit d at bytes (Cut end)
before_cut T a b c d at right page bytes first start end meta can takes edits_c edits_d =
    let other : right ≢ at = taken_other T a b 1 right at page takes can.in_hand can.well_made can.below meta in
    let one = edits_then T a b c (IsMetaOr right) (λ j. j ≡ right) 1 0 takes.edits edits_c in
    let two = edits_then T a c d (λ j. IsMetaOr right j ⊎ (j ≡ right)) (λ j. j ≡ right) (1 + 0) 0 one edits_d in
    takes_cut T a d (λ j. (IsMetaOr right j ⊎ (j ≡ right)) ⊎ (j ≡ right)) (1 + 0 + 0) at page bytes first start end can two
    (λ h. elim h [ inl h1 ↦ elim h1 [ inl h2 ↦ elim h2 [ inl z ↦ omega (arith, z, can.some) | inr z ↦ other (sym z) ] | inr z ↦ other (sym z) ] | inr z ↦ other (sym z) ])

-- a page that was only looked at can be divided still
pub can_looked : (T : Type 0) (a b : Paged) (m at : ℕ) (page : List ℕ) (first : Option PageId) (start end : ℕ) → HasMeta a → LooksAtPages T a b m → CanDivide a at page first start end → CanDivide b at page first start end
can_looked T a b m at page first start end meta looks can = record {
  some = can.some;
  below = λ n is. can.below n (record { meta = is.meta; in_hand = record { known = meta.known; asked = meta.asked; page = sym (looks.pages 0 (inr meta.known)) ∙ is.in_hand.page }; is = is.is });
  in_hand = record { known = looks.known at can.in_hand.known; asked = looks.asked at can.in_hand.asked; page = looks.pages at (inr can.in_hand.known) ∙ can.in_hand.page };
  well_made = can.well_made;
  size = can.size ∙ sym looks.same.page_size;
  leaf = can.leaf;
  start_in = can.start_in;
  end_in = can.end_in;
}

pub numbers_looked : (T : Type 0) (a b : Paged) (m : ℕ) → LooksAtPages T a b m → KeepsNumbers a b
numbers_looked T a b m looks = numbers_stay T a b (λ j. ⊥) m (edits_looked T a b (λ j. ⊥) m looks) (λ h. h)

-- a page that the partition has now, before others were looked at
pub added_looked : (T : Type 0) (a b : Paged) (m right : ℕ) → T → LooksAtPages T a b m → (j : ℕ) → (j < page_count b.pages) ⊎ (j ≡ right) → (j < page_count a.pages) ⊎ (j ≡ right)
added_looked T a b m right t looks j h = elim h [ inl lt ↦ inl (omega (arith, lt, ap (λ o. number_of o Pages) (looks.pages 0 (inl t)))) | inr e ↦ inr e ]

-- only a page that was taken is one that the partition hadn't
pub added_taken : (T : Type 0) (a b : Paged) (n i : ℕ) → TakesPage T a b n i → (j : ℕ) → j < page_count b.pages → (j < page_count a.pages) ⊎ (j ≡ i)
added_taken T a b n i takes j lt =
    let was = ap (λ o. number_of o Pages) takes.numbers.before in
    let now = ap (λ o. number_of o Pages) takes.numbers.after in
    elim takes.numbers.change [
      | inl r ↦ inl (omega (arith, lt, was, now, r.sets.others Pages tt (λ e. cc e)))
      | inr x ↦ elim (cases_eq j i) [ inl e ↦ inr e | inr ne ↦ inl (omega (arith, lt, was, now, ne, x.sets.here, x.index)) ]
    ]

-- a page was divided after looks
pub divides_looked : (T : Type 0) (a b c : Paged) (at right : ℕ) (page : List ℕ) (first : Option PageId) (start end : ℕ) → LooksAtPages T a b 0 → Divides T b c at page first start end right → Divides T a c at page first start end right
divides_looked T a b c at right page first start end looks d = record {
  some = d.some;
  below = d.below;
  other = d.other;
  edits = edits_more T a c (λ j. ⊥ ⊎ ((j ≡ 0) ⊎ (j ≡ right) ⊎ (j ≡ at))) (λ j. (j ≡ 0) ⊎ (j ≡ right) ⊎ (j ≡ at)) (0 + 1) 1 (λ j h. elim h [ inl never ↦ absurd never | inr h2 ↦ h2 ]) (omega arith)
      (edits_then T a b c (λ j. ⊥) (λ j. (j ≡ 0) ⊎ (j ≡ right) ⊎ (j ≡ at)) 0 1 (edits_looked T a b (λ j. ⊥) 0 looks) d.edits);
  left_is = d.left_is;
  right_is = subst (λ n. IsNode c right (with_items (blank (page_id n right) first) (drop start (items_of page)))) looks.same.part d.right_is;
  meta = d.meta;
  numbers = numbers_then a b c (numbers_looked T a b 0 looks) d.numbers;
  spare = λ t. subst (λ (q : Partition). IsSpare (nodes_in q right)) (λ k j. looks.pages j (inl t) k) (d.spare t);
  added = λ t j lt. added_looked T a b 0 right t looks j (d.added t j lt);
  moves = λ t. subst (λ (q : Partition). MovesSpare q c.pages (right ∷ []) []) (λ k j. looks.pages j (inl t) k) (d.moves t);
  meta_passes = λ t. keeps_looked T a b c 0 t looks (d.meta_passes t);
}

-- a number of the meta page was the same before another page was changed
pub number_back : (T : Type 0) (a b : Paged) (touched : ℕ → Type 0) (m : ℕ) (slot : MetaSlot) (n : ℕ) → EditsPages T a b touched m → (touched 0 → ⊥) → HasMeta a → IsNumberIn b slot n → IsNumberIn a slot n
number_back T a b touched m slot n edits out meta is = record {
  meta = is.meta;
  in_hand = record { known = meta.known; asked = meta.asked; page = sym (edits.others 0 (inr meta.known) out) ∙ is.in_hand.page };
  is = is.is;
}

-- a page that was taken is below the page count
pub below_taken : (T : Type 0) (a b : Paged) (m i : ℕ) → TakesPage T a b m i → (n : ℕ) → IsNumberIn b Pages n → i < n
below_taken T a b m i takes n is = (let e = number_is b Pages n takes.numbers.now is takes.numbers.after in elim takes.numbers.change [
  | inl r ↦ omega (arith, e, r.below, r.sets.others Pages tt (λ x. cc x))
  | inr x ↦ omega (arith, e, x.sets.here)
])

pub divided : (T : Type 0) (a b c d e : Paged) (at right : ℕ) (page : List ℕ) (first : Option PageId) (start end : ℕ) → HasMeta a → CanDivide a at page first start end → TakesPage T a b 1 right
    → EditsPages T b c (λ j. j ≡ right) 0 → IsNode c right (blank (page_id b.part right) first)
    → EditsPages T c d (λ j. j ≡ right) 0 → EditsNodeAt c d right page (Tail start)
    → EditsPages T d e (λ j. j ≡ at) 0 → EditsNodeAt d e at page (Cut end) → Divides T a e at page first start end right
divided T a b c d e at right page first start end meta can takes edits_c node edits_d tail edits_e cut =
    let other : right ≢ at = taken_other T a b 1 right at page takes can.in_hand can.well_made can.below meta in
    let not_zero : 0 ≡ right → ⊥ = λ z. omega (arith, z, takes.some) in
    let at_some : 0 ≡ at → ⊥ = λ z. omega (arith, z, can.some) in
    let one = edits_then T a b c (IsMetaOr right) (λ j. j ≡ right) 1 0 takes.edits edits_c in
    let two = edits_then T a c d (λ j. IsMetaOr right j ⊎ (j ≡ right)) (λ j. j ≡ right) (1 + 0) 0 one edits_d in
    let out : (IsMetaOr right at ⊎ (at ≡ right)) ⊎ (at ≡ right) → ⊥ = λ h. elim h [ inl h1 ↦ elim h1 [ inl h2 ↦ elim h2 [ inl z ↦ at_some (sym z) | inr z ↦ other (sym z) ] | inr z ↦ other (sym z) ] | inr z ↦ other (sym z) ] in
    let three = edits_then T a d e (λ j. (IsMetaOr right j ⊎ (j ≡ right)) ⊎ (j ≡ right)) (λ j. j ≡ at) (1 + 0 + 0) 0 two edits_e in
    let meta_c = meta_stays T b c (λ j. j ≡ right) 0 edits_c not_zero takes.meta in
    let meta_d = meta_stays T c d (λ j. j ≡ right) 0 edits_d not_zero meta_c in
    let old : IsNode a at (index_of page) = record { page = page; in_hand = can.in_hand; well_made = can.well_made; size = can.size; is = refl } in
    record {
      some = takes.some;
      below = λ n is. below_taken T a b 1 right takes n
          (number_back T b c (λ j. j ≡ right) 0 Pages n edits_c not_zero takes.meta (number_back T c d (λ j. j ≡ right) 0 Pages n edits_d not_zero meta_c (number_back T d e (λ j. j ≡ at) 0 Pages n edits_e at_some meta_d is)));
      other = other;
      edits = edits_more T a e (λ j. ((IsMetaOr right j ⊎ (j ≡ right)) ⊎ (j ≡ right)) ⊎ (j ≡ at)) (λ j. (j ≡ 0) ⊎ (j ≡ right) ⊎ (j ≡ at)) (1 + 0 + 0 + 0) 1
          (λ j h. elim h [ inl h1 ↦ elim h1 [ inl h2 ↦ elim h2 [ inl h3 ↦ elim h3 [ inl z ↦ inl z | inr z ↦ inr (inl z) ] | inr z ↦ inr (inl z) ] | inr z ↦ inr (inl z) ] | inr z ↦ inr (inr z) ]) (omega arith) three;
      left_is = node_edited T d e at 0 page (Cut end) (index_of page) edits_e (node_stays T a d (λ j. (IsMetaOr right j ⊎ (j ≡ right)) ⊎ (j ≡ right)) (1 + 0 + 0) at (index_of page) two out old) cut;
      right_is = subst (λ n. IsNode e right (with_items (blank (page_id n right) first) (drop start (items_of page)))) takes.edits.same.part
          (node_stays T d e (λ j. j ≡ at) 0 right (with_items (blank (page_id b.part right) first) (drop start (items_of page))) edits_e other
          (node_edited T c d right 0 page (Tail start) (blank (page_id b.part right) first) edits_d node tail));
      meta = meta_stays T d e (λ j. j ≡ at) 0 edits_e at_some (meta_stays T c d (λ j. j ≡ right) 0 edits_d not_zero (meta_stays T b c (λ j. j ≡ right) 0 edits_c not_zero takes.meta));
      numbers = numbers_then a b e (numbers_taken T a b 1 right takes)
          (numbers_then b c e (numbers_stay T b c (λ j. j ≡ right) 0 edits_c not_zero) (numbers_then c d e (numbers_stay T c d (λ j. j ≡ right) 0 edits_d not_zero) (numbers_stay T d e (λ j. j ≡ at) 0 edits_e at_some)));
      spare = λ t. spare_taken T a b 1 right t takes;
      added = λ t j lt.
          added_taken T a b 1 right takes j
          (omega (arith, lt, count_of T b c (λ j. j ≡ right) 0 t edits_c not_zero, count_of T c d (λ j. j ≡ right) 0 t edits_d not_zero, count_of T d e (λ j. j ≡ at) 0 t edits_e at_some));
      moves = λ t.
          let blank_at : IsNode c right (blank (page_id b.part right) first) = node in
          let tail_at = node_edited T c d right 0 page (Tail start) (blank (page_id b.part right) first) edits_d node tail in
          let old_at = node_stays T a d (λ j. (IsMetaOr right j ⊎ (j ≡ right)) ⊎ (j ≡ right)) (1 + 0 + 0) at (index_of page) two out old in
          let cut_at = node_edited T d e at 0 page (Cut end) (index_of page) edits_e old_at cut in
          moves_on a.pages d.pages e.pages (right ∷ []) []
          (moves_on a.pages c.pages d.pages (right ∷ []) []
          (moves_on a.pages b.pages c.pages (right ∷ []) [] (moves_take T a b 1 right t takes) (moves_page T b c right 0 t takes.some edits_c (zeros_at b right a.page_size takes.zeros) (node_kind c right _ blank_at)))
          (moves_page T c d right 0 t takes.some edits_d (node_kind c right _ blank_at) (node_kind d right _ tail_at)))
          (moves_page T d e at 0 t can.some edits_e (node_kind d at _ old_at) (node_kind e at _ cut_at));
      meta_passes = λ t. keeps_on T a d e (λ j. j ≡ at) 0 t edits_e at_some (keeps_on T a c d (λ j. j ≡ right) 0 t edits_d not_zero (keeps_on T a b c (λ j. j ≡ right) 0 t edits_c not_zero (keeps_taken T a b 1 right t takes)));
    }
