-- Pages that pass their checks, but for index pages without items, do so still after they were changed.
use Rattle.std.proofs.Common.{◌≡◌, ℕ, zero, suc, ◌+◌, ◌^◌, ◌<◌, ◌≤◌, ◌⊎◌, true, false, List, [], ◌∷◌, length, take, drop, refl, sym, ap, subst, ◌∙◌, inl, inr, arith}
use Rattle.std.specs.Prelude.{All, Bool, Some}
use Rattle.std.proofs.lemmas.List.Elements.{All-cons, All-head, All-tail, All-append, All-take, All-drop, All-get_or, All-from_get_or}
use Rattle.pm_types.specs.Ids.{page_id}
use Rattle.pm_btpage.specs.declared.layout.TheConstants.{LEAF_KIND, INNER_KIND}
use Rattle.pm_btpage.specs.IndexPages.{Item, IndexPage, items_of, index_of, word_in, with_items, without_item, IsIndexPage}
use Rattle.pm_btpage.specs.Stored.{IsChild, IsWord, NamesPagesOf}
use Rattle.pm_meta.specs.declared.slots.MetaSlot.TheVariants.{Pages}
use Rattle.pm_pages.specs.Rows.{page_count, number_of, kind_of}
use Rattle.pm_pages.specs.Paged.{Paged, PassesIn, SamePartition}
use Rattle.pm_pages.specs.Edits.{LooksAtPages, EditsPages}
use Rattle.pm_pages.proofs.PassingPages.{passes_same, there_still}
use Rattle.pm_pages.specs.StoredPages.{IsStoredPage}
use Rattle.pm_tree.proofs.StoredNodes.{part_in, all_left, all_right}
use Rattle.pm_pages.proofs.StoredPages.{count_small}
use Rattle.pm_tree_del.specs.Neighbours.{joined_items, joined_link, joined, with_key}
use Rattle.pm_tree_del.specs.Stored.{IsNamedIndex, IsNearlyStored, AreNearlyStored}

-- what an index page says under its own name, with names of pages of its partition
pub record IsNamedNode (part at : ℕ) (says : IndexPage) : Type 0 where
  pub own : says.id ≡ page_id part at
  pub first : says.leaf ≡ false → IsChild part says.link
  pub words : All (λ (item : Item). IsWord says.leaf part item.word) says.items

pub node_named : (p : Paged) (i : ℕ) (page : List ℕ) → IsNamedIndex p i page → IsNamedNode p.part i (index_of page)
node_named p i page named = record {
  own = named.own;
  first = named.names.first;
  words = All-from_get_or (λ (item : Item). IsWord (index_of page).leaf p.part item.word) (items_of page) (record { key = []; word = 0 }) named.names.words;
}

pub index_named : (p : Paged) (i : ℕ) (page : List ℕ) → length page ≡ p.page_size → IsIndexPage page → IsNamedNode p.part i (index_of page) → IsNamedIndex p i page
index_named p i page size index node = record {
  size = size;
  own = node.own;
  well_made = index;
  names = record { first = node.first; words = λ k in_range. All-get_or (λ (item : Item). IsWord (index_of page).leaf p.part item.word) (items_of page) k (record { key = []; word = 0 }) in_range node.words };
}

-- a page of a tree that passes is such a page
pub named_of : (p : Paged) (i : ℕ) (page : List ℕ) → p.part < 2 ^ 16 → 1 ≤ i → i < 2 ^ 32 → (kind_of page ≡ LEAF_KIND) ⊎ (kind_of page ≡ INNER_KIND) → PassesIn p i page ⊎ IsNamedIndex p i page → IsNamedIndex p i page
named_of p i page small some lt kind (inr named) = named
named_of p zero page small some lt kind (inl passes) = absurd (omega (arith, some))
named_of p (suc i) page small some lt kind (inl passes) = elim passes.kind [
  | inl meta ↦ absurd (other 1 meta.well_made.form.kind (λ e. omega (arith, e)) (λ e. omega (arith, e)))
  | inr r ↦ elim r [
    | inl index ↦ record { size = passes.size; own = index.own; well_made = index.well_made; names = subst (λ n. NamesPagesOf n (index_of page)) (part_in p.part (suc i) small lt) index.names }
    | inr r2 ↦ elim r2 [
      | inl rows ↦ absurd (other 4 rows.well_made.head.kind (λ e. omega (arith, e)) (λ e. omega (arith, e)))
      | inr reuse ↦ absurd (other 5 reuse.well_made.kind (λ e. omega (arith, e)) (λ e. omega (arith, e)))
    ]
  ]
]
  where
    other : (k : ℕ) → kind_of page ≡ k → (k ≡ 2 → ⊥) → (k ≡ 3 → ⊥) → ⊥
    other k is leaf inner = elim kind [ inl e ↦ leaf (sym is ∙ e) | inr e ↦ inner (sym is ∙ e) ]

-- a page that wasn't changed
pub named_same : (a b : Paged) → SamePartition a b → (i : ℕ) (page : List ℕ) → IsNamedIndex a i page → IsNamedIndex b i page
named_same a b same i page named = record { size = named.size ∙ sym same.page_size; own = named.own ∙ ap (λ n. page_id n i) (sym same.part); well_made = named.well_made; names = subst (λ n. NamesPagesOf n (index_of page)) (sym same.part) named.names }

pub nearly_still : (a b : Paged) → SamePartition a b → (i : ℕ) → b.pages i ≡ a.pages i → IsNearlyStored a i → IsNearlyStored b i
nearly_still a b same i e near = (near.0, e ∙ near.1, elim near.2 [ inl passes ↦ inl (passes_same a b same i near.0 passes) | inr named ↦ inr (named_same a b same i near.0 named) ])

-- of a page that is there
pub nearly_is : (p : Paged) (i : ℕ) (page : List ℕ) → p.pages i ≡ Some page → IsNearlyStored p i → PassesIn p i page ⊎ IsNamedIndex p i page
nearly_is p i page is near = (let same : near.0 ≡ page = cc (near.1, is) in subst (λ (q : List ℕ). PassesIn p i q ⊎ IsNamedIndex p i q) same near.2)

-- a page of the partition that is one of a tree
pub tree_page : (p : Paged) (i : ℕ) (page : List ℕ) → AreNearlyStored p → 1 ≤ i → i < page_count p.pages → p.pages i ≡ Some page → (kind_of page ≡ LEAF_KIND) ⊎ (kind_of page ≡ INNER_KIND) → IsNamedIndex p i page
tree_page p i page near some lt is kind = named_of p i page near.part some (omega (arith, lt, count_small p near.rows near.meta)) kind (nearly_is p i page is (near.each i some lt))

-- every page that was changed is so still, and the page count is as it was
pub nearly_edited : (T : Type 0) (a c : Paged) (touched : ℕ → Type 0) (m : ℕ) → T → EditsPages T a c touched m → ((j : ℕ) → touched j ⊎ (touched j → ⊥)) → IsStoredPage c 0 → page_count c.pages ≡ page_count a.pages
    → ((j : ℕ) → 1 ≤ j → j < page_count a.pages → touched j → IsNearlyStored c j) → AreNearlyStored a → AreNearlyStored c
nearly_edited T a c touched m t edits decide meta count there near = record {
  meta = meta;
  each = λ i some lt. (let below : i < page_count a.pages = omega (arith, lt, count) in elim (decide i) [ inl h ↦ there i some below h | inr out ↦ nearly_still a c edits.same i (edits.others i (inl t) out) (near.each i some below) ]);
  rows = omega (arith, near.rows, edits.same.max_rows);
  part = omega (arith, near.part, edits.same.part);
}

pub nearly_looked : (T : Type 0) (a b : Paged) (m : ℕ) → T → LooksAtPages T a b m → AreNearlyStored a → AreNearlyStored b
nearly_looked T a b m t looks near = record {
  meta = there_still a b looks.same 0 (looks.pages 0 (inl t)) near.meta;
  each = λ i some lt. nearly_still a b looks.same i (looks.pages i (inl t)) (near.each i some (omega (arith, lt, ap (λ o. number_of o Pages) (looks.pages 0 (inl t)))));
  rows = omega (arith, near.rows, looks.same.max_rows);
  part = omega (arith, near.part, looks.same.part);
}

-- the words of items
abbrev pub Words : Bool → ℕ → List Item → Type 0
Words leaf part items = All (λ (item : Item). IsWord leaf part item.word) items

words_without : (leaf : Bool) (part i : ℕ) (items : List Item) → Words leaf part items → Words leaf part (without_item items i)
words_without leaf part i items words =
    let P : Item → Type 0 = λ item. IsWord leaf part item.word in
    All-append P (take i items) (drop (i + 1) items) (All-take P i items words) (All-drop P (i + 1) items words)

pub without_named : (part at i : ℕ) (says : IndexPage) → IsNamedNode part at says → IsNamedNode part at (with_items says (without_item says.items i))
without_named part at i says node = record { own = node.own; first = node.first; words = words_without says.leaf part i says.items node.words }

pub key_named : (part at i : ℕ) (key : List ℕ) (says : IndexPage) → i < length says.items → IsNamedNode part at says → IsNamedNode part at (with_items says (with_key says.items i key))
key_named part at i key says in_range node =
    let P : Item → Type 0 = λ item. IsWord says.leaf part item.word in
    let rest = without_item says.items i in
    let x : Item = record { key = key; word = word_in says.items i } in
    let words : All P rest = words_without says.leaf part i says.items node.words in
    record {
      own = node.own;
      first = node.first;
      words = All-append P (take i rest) (x ∷ drop i rest) (All-take P i rest words) (All-cons P x (drop i rest) (All-get_or P says.items i (record { key = []; word = 0 }) in_range node.words) (All-drop P i rest words));
    }

-- the words of two pages in one row
row_words : (part : ℕ) (leaf : Bool) (left right : IndexPage) (key : List ℕ) → Words leaf part left.items → Words leaf part right.items → (leaf ≡ false → IsChild part right.link) → Words leaf part (joined_items leaf left right key)
row_words part true left right key low high first = All-append (λ (item : Item). IsWord true part item.word) left.items right.items low high
row_words part false left right key low high first =
    let x : Item = record { key = key; word = right.link } in
    All-append (λ (item : Item). IsWord false part item.word) left.items (x ∷ right.items) low (All-cons (λ (item : Item). IsWord false part item.word) x right.items (first refl) high)

-- and each page's own
part_words : (part : ℕ) (leaf : Bool) (left right : IndexPage) (key : List ℕ) → Words leaf part (joined_items leaf left right key) → Words leaf part left.items × Words leaf part right.items × (leaf ≡ false → IsChild part right.link)
part_words part true left right key words = (
  all_left (λ (item : Item). IsWord true part item.word) left.items right.items words,
  all_right (λ (item : Item). IsWord true part item.word) left.items right.items words,
  λ e. absurd (cc e),
)
part_words part false left right key words =
    let P : Item → Type 0 = λ item. IsWord false part item.word in
    let x : Item = record { key = key; word = right.link } in
    let high = all_right P left.items (x ∷ right.items) words in
    (all_left P left.items (x ∷ right.items) words, All-tail P x right.items high, λ e. All-head P x right.items high)

-- the page that has the items of both
module _ (part at beside : ℕ) (left right : IndexPage) (key : List ℕ) (l : IsNamedNode part at left) (r : IsNamedNode part beside right) (same : right.leaf ≡ left.leaf) where
  both : Words left.leaf part (joined_items left.leaf left right key)
  both = row_words part left.leaf left right key l.words (subst (λ b. Words b part right.items) same r.words) (λ e. r.first (same ∙ e))

  pub joined_named : IsNamedNode part at (joined left right key)
  joined_named = record { own = l.own; first = λ e. subst (IsChild part) (sym (inner_link left.leaf left right e)) (l.first e); words = both }
    where
      inner_link : (leaf : Bool) (x y : IndexPage) → leaf ≡ false → joined_link leaf x y ≡ x.link
      inner_link true x y e = absurd (cc e)
      inner_link false x y e = refl

  -- two pages that share these items anew
  pub shared_named : (left' right' : IndexPage) (k : List ℕ) → left'.id ≡ left.id → left'.leaf ≡ left.leaf → left'.link ≡ left.link → right'.id ≡ right.id → right'.leaf ≡ right.leaf → joined_items left.leaf left' right' k ≡ joined_items left.leaf left right key → IsNamedNode part at left' × IsNamedNode part beside right'
  shared_named left' right' k left_id left_leaf left_link right_id right_leaf items =
      let each = part_words part left.leaf left' right' k (subst (Words left.leaf part) (sym items) both) in (
        record { own = left_id ∙ l.own; first = λ e. subst (IsChild part) (sym left_link) (l.first (sym left_leaf ∙ e)); words = subst (λ b. Words b part left'.items) (sym left_leaf) each.0 },
        record { own = right_id ∙ r.own; first = λ e. each.2 (sym same ∙ sym right_leaf ∙ e); words = subst (λ b. Words b part right'.items) (sym (right_leaf ∙ same)) each.1 },
      )
