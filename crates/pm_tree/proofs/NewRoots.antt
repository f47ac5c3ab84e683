-- A new page is the root of a cache, step by step.
use Rattle.std.proofs.Common.{◌≡◌, ◌≢◌, ℕ, ◌+◌, ◌<◌, ◌≤◌, ◌⊎◌, List, [], ◌∷◌, length, refl, sym, ap, subst, ◌∙◌, inl, inr, arith}
use Rattle.std.specs.Prelude.{Option, None, Some, IsSome}
use Rattle.pm_types.specs.Ids.{page_id}
use Rattle.pm_types.specs.Keys.{HasKeyLength}
use Rattle.pm_types.specs.declared.page_id.PageId.{PageId}
use Rattle.pm_btpage.specs.IndexPages.{Item, IndexPage, index_of, with_items, with_item, IsBetween}
use Rattle.pm_meta.specs.declared.slots.MetaSlot.{MetaSlot}
use Rattle.pm_meta.specs.declared.slots.MetaSlot.TheVariants.{Root, Pages}
use Rattle.pm_meta.specs.MetaPages.{field_of, IsSlot}
use Rattle.pm_pages.specs.Rows.{number_of}
use Rattle.pm_pages.specs.Paged.{Paged}
use Rattle.pm_pages.specs.Edits.{EditsPages, HasMeta, IsNumberIn}
use Rattle.pm_pages.specs.SparePages.{IsMetaOr, SetsNumber, MetaBecomes, TakesPage}
use Rattle.pm_pages.proofs.EditedPages.{edits_then, edits_more}
use Rattle.pm_tree.specs.Edits.{blank, IsNode, TakesEdit, EditsNodeAt}
use Rattle.pm_tree.specs.declared.edits.Edit.TheVariants.{Insert}
use Rattle.pm_tree.specs.Divisions.{KeepsNumbers}
use Rattle.pm_tree.specs.Roots.{KeepsButRoot, MakesRoot}
use Rattle.pm_tree.proofs.NodeEdits.{node_stays}
use Rattle.pm_pages.proofs.SpareMoves.{moves_on}
use Rattle.pm_pages.proofs.SpareSteps.{zeros_at, moves_page, moves_number, moves_take}
use Rattle.pm_tree.proofs.NodeKinds.{node_kind}
use Rattle.pm_pages.proofs.PassingPages.{meta_sets}
use Rattle.pm_pages.proofs.StoredMeta.{keeps_taken, keeps_on}
use Rattle.pm_tree.proofs.Divided.{number_is, number_now, node_edited, meta_stays, numbers_taken, numbers_then, numbers_stay, number_back, below_taken, spare_taken, blank_items, count_of, added_taken}
use Rattle.pm_tree.proofs.LeafChanges.{capacity_bounds}

-- a page without items takes the first one
pub takes_first : (c : Paged) (top word : ℕ) (key : List ℕ) (id : PageId) (first : Option PageId) → 1 ≤ top → HasKeyLength key → IsNode c top (blank id first) → TakesEdit c top key (Insert 0 word)
takes_first c top word key id first some long node =
    let none : (index_of node.page).items ≡ [] = ap (λ (s : IndexPage). s.items) node.is ∙ blank_items id first in
    record {
      some = some;
      page = node.page;
      in_hand = node.in_hand;
      well_made = node.well_made;
      size = node.size;
      fits = (
        omega (arith, ap length none, capacity_bounds (length node.page) node.well_made.size),
        long,
        subst (λ (t : List Item). IsBetween t key 0) (sym none) (record { in_range = omega arith; below = λ j lt. absurd (omega (arith, lt)); above = λ j le lt. absurd (omega (arith, lt)) }),
      );
    }

one_item : (id : PageId) (first : Option PageId) (x : Item) → with_items (blank id first) (with_item (blank id first).items 0 x) ≡ with_items (blank id first) (x ∷ [])
one_item id None x = refl
one_item id (Some child) x = refl

-- a number was set, of the root of a cache
module _ (T : Type 0) (c d : Paged) (cache top : ℕ) (edits : EditsPages T c d (λ j. j ≡ 0) 0) (meta : HasMeta c) (sets : MetaBecomes c d (λ was now. SetsNumber was now (Root cache) top)) where
  pub meta_set : HasMeta d
  meta_set = record { known = edits.known 0 meta.known; asked = edits.asked 0 meta.asked; there = subst IsSome (sym sets.after) refl }

  pub root_set : IsNumberIn d (Root cache) top
  root_set = number_now d (Root cache) top sets.now meta_set sets.after (sym sets.change.here)

  other_set : (slot : MetaSlot) → IsSlot slot → slot ≢ Root cache → (n : ℕ) → IsNumberIn c slot n → IsNumberIn d slot n
  other_set slot is_slot not_root n is = number_now d slot n sets.now meta_set sets.after (number_is c slot n sets.was is sets.before ∙ sym (sets.change.others slot is_slot not_root))

  other_back : (slot : MetaSlot) → IsSlot slot → slot ≢ Root cache → (n : ℕ) → IsNumberIn d slot n → IsNumberIn c slot n
  other_back slot is_slot not_root n is = number_now c slot n sets.was meta sets.before (number_is d slot n sets.now is sets.after ∙ sets.change.others slot is_slot not_root)

  pub set_numbers : (a : Paged) → KeepsNumbers a c → KeepsButRoot a d cache
  set_numbers a keeps = record {
    count = λ n is. (let m = keeps.count n is in (m.0, other_set Pages tt (λ e. cc e) m.0 m.1, m.2));
    others = λ slot is_slot r p not_root n is. other_set slot is_slot not_root n (keeps.others slot is_slot r p n is);
  }

  pub pages_back : (n : ℕ) → IsNumberIn d Pages n → IsNumberIn c Pages n
  pages_back n is = other_back Pages tt (λ e. cc e) n is

pub makes_root : (T : Type 0) (a b c d e : Paged) (cache top : ℕ) (first : Option PageId) (key : List ℕ) (word : ℕ) → TakesPage T a b 1 top → EditsPages T b c (λ j. j ≡ top) 0 → IsNode c top (blank (page_id b.part top) first)
    → EditsPages T c d (λ j. j ≡ top) 0 → EditsNodeAt c d top key (Insert 0 word) → EditsPages T d e (λ j. j ≡ 0) 0 → MetaBecomes d e (λ was now. SetsNumber was now (Root cache) top) → MakesRoot T a e cache first key word
makes_root T a b c d e cache top first key word takes edits_c node edits_d edited edits_e sets =
    let not_zero : 0 ≡ top → ⊥ = λ z. omega (arith, z, takes.some) in
    let meta_c = meta_stays T b c (λ j. j ≡ top) 0 edits_c not_zero takes.meta in
    let meta_d = meta_stays T c d (λ j. j ≡ top) 0 edits_d not_zero meta_c in
    let numbers_d = numbers_then a b d (numbers_taken T a b 1 top takes) (numbers_then b c d (numbers_stay T b c (λ j. j ≡ top) 0 edits_c not_zero) (numbers_stay T c d (λ j. j ≡ top) 0 edits_d not_zero)) in
    let one = edits_then T a b c (IsMetaOr top) (λ j. j ≡ top) 1 0 takes.edits edits_c in
    let two = edits_then T a c d (λ j. IsMetaOr top j ⊎ (j ≡ top)) (λ j. j ≡ top) (1 + 0) 0 one edits_d in
    let three = edits_then T a d e (λ j. (IsMetaOr top j ⊎ (j ≡ top)) ⊎ (j ≡ top)) (λ j. j ≡ 0) (1 + 0 + 0) 0 two edits_e in
    let new = node_edited T c d top 0 key (Insert 0 word) (blank (page_id b.part top) first) edits_d node edited in
    let new_e = node_stays T d e (λ j. j ≡ 0) 0 top _ edits_e (λ z. not_zero (sym z)) new in
    record {
      top = top;
      some = takes.some;
      below = λ n is. below_taken T a b 1 top takes n (number_back T b c (λ j. j ≡ top) 0 Pages n edits_c not_zero takes.meta (number_back T c d (λ j. j ≡ top) 0 Pages n edits_d not_zero meta_c (pages_back T d e cache top edits_e meta_d sets n is)));
      edits = edits_more T a e (λ j. ((IsMetaOr top j ⊎ (j ≡ top)) ⊎ (j ≡ top)) ⊎ (j ≡ 0)) (λ j. (j ≡ 0) ⊎ (j ≡ top)) (1 + 0 + 0 + 0) 1
          (λ j h. elim h [ inl h1 ↦ elim h1 [ inl h2 ↦ elim h2 [ inl z ↦ z | inr z ↦ inr z ] | inr z ↦ inr z ] | inr z ↦ inl z ]) (omega arith) three;
      node = subst (λ n. IsNode e top (with_items (blank (page_id n top) first) (record { key = key; word = word } ∷ []))) takes.edits.same.part
          (subst (IsNode e top) (one_item (page_id b.part top) first (record { key = key; word = word })) new_e);
      root = root_set T d e cache top edits_e meta_d sets;
      meta = meta_set T d e cache top edits_e meta_d sets;
      numbers = set_numbers T d e cache top edits_e meta_d sets a numbers_d;
      spare = λ t. spare_taken T a b 1 top t takes;
      added = λ t j lt.
          added_taken T a b 1 top takes j (omega (
            arith,
            lt,
            count_of T b c (λ j. j ≡ top) 0 t edits_c not_zero,
            count_of T c d (λ j. j ≡ top) 0 t edits_d not_zero,
            ap (λ o. number_of o Pages) sets.before,
            ap (λ o. number_of o Pages) sets.after,
            sets.change.others Pages tt (λ z. cc z),
          ));
      moves = λ t.
          moves_on a.pages d.pages e.pages (top ∷ []) []
          (moves_on a.pages c.pages d.pages (top ∷ []) []
          (moves_on a.pages b.pages c.pages (top ∷ []) [] (moves_take T a b 1 top t takes) (moves_page T b c top 0 t takes.some edits_c (zeros_at b top a.page_size takes.zeros) (node_kind c top _ node)))
          (moves_page T c d top 0 t takes.some edits_d (node_kind c top _ node) (node_kind d top _ new)))
          (moves_number T d e (Root cache) top 0 t (λ z. cc z) (λ z. cc z) edits_e sets);
      meta_passes = λ t limit small can meta.
          let keeps_d = keeps_on T a c d (λ j. j ≡ top) 0 t edits_d not_zero (keeps_on T a b c (λ j. j ≡ top) 0 t edits_c not_zero (keeps_taken T a b 1 top t takes)) in
          let below_d : (n : ℕ) → IsNumberIn d Pages n → top < n = λ n is. below_taken T a b 1 top takes n (number_back T b c (λ j. j ≡ top) 0 Pages n edits_c not_zero takes.meta (number_back T c d (λ j. j ≡ top) 0 Pages n edits_d not_zero meta_c is)) in
          meta_sets d e (Root cache) top edits_e.same sets.was sets.now sets.before sets.after sets.change (below_d (field_of sets.was Pages) (number_now d Pages (field_of sets.was Pages) sets.was meta_d sets.before refl)) (keeps_d limit small can meta);
    }
