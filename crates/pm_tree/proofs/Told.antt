-- What the pages of a partition say that the store reports.
use Rattle.std.proofs.Common.{◌≡◌, ℕ, ◌/◌, ◌<◌, ◌≤◌, true, false, List, length, refl, sym, ap, subst, ◌∙◌, inl, inr, arith}
use Rattle.std.specs.Prelude.{Some, IfSome}
use Rattle.std.proofs.lemmas.Bool.{cases_lt, le-ltb, eq-eqb, eqb-true}
use Rattle.pm_btpage.specs.declared.layout.TheConstants.{LEAF_KIND, INNER_KIND}
use Rattle.pm_btpage.specs.IndexPages.{IndexPage, items_of, index_of, capacity_of, IsIndexPage}
use Rattle.pm_meta.specs.declared.slots.MetaSlot.TheVariants.{Pages}
use Rattle.pm_meta.specs.MetaPages.{field_of, IsMetaPage}
use Rattle.pm_pages.specs.Rows.{Partition, bytes_of, page_at, page_count, kind_of}
use Rattle.pm_pages.specs.Paged.{Paged, AllReadable}
use Rattle.pm_pages.specs.Edits.{EditsPages, HasMeta, IsNumberIn}
use Rattle.pm_pages.proofs.EditedPages.{some_bytes}
use Rattle.pm_pages.proofs.PageReads.{page_at-below}
use Rattle.pm_tree.specs.Nodes.{nodes_in, node_of}
use Rattle.pm_tree.specs.Puts.{IsSpare}
use Rattle.pm_tree.specs.Edits.{IsNode}
use Rattle.pm_tree.specs.Divisions.{KeepsNumbers}
use Rattle.pm_pages.proofs.ToldPages.{number_told}

-- the meta page has a page count
pub count_there : (p : Paged) → HasMeta p → (n : ℕ) × IsNumberIn p Pages n
count_there p meta = (let m = some_bytes (p.pages 0) meta.there in (field_of m.0 Pages, record { meta = m.0; in_hand = record { known = meta.known; asked = meta.asked; page = m.1 }; is = refl }))

-- the page count didn't fall
pub counts_rise : (a b : Paged) → HasMeta a → KeepsNumbers a b → page_count a.pages ≤ page_count b.pages
counts_rise a b meta keeps = (let n = count_there a meta in let m = keeps.count n.0 n.1 in omega (arith, number_told a Pages n.0 n.1, number_told b Pages m.0 m.1, m.2))

-- a page that is below each page count that is read is below it
pub below_count : (p : Paged) (i : ℕ) → HasMeta p → ((n : ℕ) → IsNumberIn p Pages n → i < n) → i < page_count p.pages
below_count p i meta below = (let n = count_there p meta in omega (arith, below n.0 n.1, number_told p Pages n.0 n.1))

-- the meta page is of no tree
pub meta_spare : (p : Paged) → AllReadable p → HasMeta p → IsSpare (nodes_in p.pages 0)
meta_spare p readable meta =
    let m = some_bytes (p.pages 0) meta.there in
    let reads : IsMetaPage m.0 = subst (λ o. IfSome o IsMetaPage) m.1 (readable.each 0 meta.known) in
    elim (cases_lt 0 (page_count p.pages)) [
      | inl lt ↦ (let kind : kind_of (page_at p.pages 0) ≡ 1 = ap kind_of (page_at-below p.pages 0 lt ∙ ap bytes_of m.1) ∙ reads.form.kind in record { leaf = λ e. omega (arith, e, kind); inner = λ e. omega (arith, e, kind) })
      | inr le ↦ (let kind : kind_of (page_at p.pages 0) ≡ 0 = simp (le-ltb 0 (page_count p.pages) le) refl in record { leaf = λ e. omega (arith, e, kind); inner = λ e. omega (arith, e, kind) })
    ]

-- a page past the page count is of no tree
pub past_spare : (pages : Partition) (i : ℕ) → page_count pages ≤ i → IsSpare (nodes_in pages i)
past_spare pages i le = (let kind : kind_of (page_at pages i) ≡ 0 = simp (le-ltb i (page_count pages) le) refl in record { leaf = λ e. omega (arith, e, kind); inner = λ e. omega (arith, e, kind) })

-- a page of a tree that wasn't touched says what it said
pub node_away : (T : Type 0) (a b : Paged) (touched : ℕ → Type 0) (m : ℕ) → T → AllReadable a → HasMeta a → EditsPages T a b touched m → KeepsNumbers a b → (j : ℕ) → (touched j → j ≡ 0) → (IsSpare (nodes_in a.pages j) → ⊥) → nodes_in b.pages j ≡ nodes_in a.pages j
node_away T a b touched m t readable meta edits keeps j only used =
    let not_zero : j ≡ 0 → ⊥ = λ e. used (subst (λ i. IsSpare (nodes_in a.pages i)) (sym e) (meta_spare a readable meta)) in
    elim (cases_lt j (page_count a.pages)) [
      | inl lt ↦ ap node_of (page_at-below b.pages j (omega (arith, lt, counts_rise a b meta keeps)) ∙ ap bytes_of (edits.others j (inl t) (λ h. not_zero (only h))) ∙ sym (page_at-below a.pages j lt))
      | inr le ↦ absurd (used (past_spare a.pages j le))
    ]

-- the same, where the page count alone is known not to fall
pub node_away_count : (T : Type 0) (a b : Paged) (touched : ℕ → Type 0) (m : ℕ) → T → AllReadable a → HasMeta a → EditsPages T a b touched m → page_count a.pages ≤ page_count b.pages → (j : ℕ) → (touched j → j ≡ 0) → (IsSpare (nodes_in a.pages j) → ⊥) → nodes_in b.pages j ≡ nodes_in a.pages j
node_away_count T a b touched m t readable meta edits rise j only used =
    let not_zero : j ≡ 0 → ⊥ = λ e. used (subst (λ i. IsSpare (nodes_in a.pages i)) (sym e) (meta_spare a readable meta)) in
    elim (cases_lt j (page_count a.pages)) [
      | inl lt ↦ ap node_of (page_at-below b.pages j (omega (arith, lt, rise)) ∙ ap bytes_of (edits.others j (inl t) (λ h. not_zero (only h))) ∙ sym (page_at-below a.pages j lt))
      | inr le ↦ absurd (used (past_spare a.pages j le))
    ]

-- a page that is at hand, below the page count
pub page_is : (p : Paged) (i : ℕ) (page : List ℕ) → i < page_count p.pages → p.pages i ≡ Some page → page_at p.pages i ≡ page
page_is p i page lt e = page_at-below p.pages i lt ∙ ap bytes_of e

pub link_is : (p : Paged) (i : ℕ) (says : IndexPage) → i < page_count p.pages → IsNode p i says → (nodes_in p.pages i).link ≡ says.link
link_is p i says lt node = ap (λ (q : List ℕ). (index_of q).link) (page_is p i node.page lt node.in_hand.page) ∙ ap (λ (s : IndexPage). s.link) node.is

pub items_are : (p : Paged) (i : ℕ) (says : IndexPage) → i < page_count p.pages → IsNode p i says → (nodes_in p.pages i).items ≡ says.items
items_are p i says lt node = ap items_of (page_is p i node.page lt node.in_hand.page) ∙ ap (λ (s : IndexPage). s.items) node.is

pub half_is : (p : Paged) (i : ℕ) (says : IndexPage) → i < page_count p.pages → IsNode p i says → (nodes_in p.pages i).half ≡ capacity_of p.page_size / 2
half_is p i says lt node = ap (λ (q : List ℕ). capacity_of (length q) / 2) (page_is p i node.page lt node.in_hand.page) ∙ ap (λ n. capacity_of n / 2) node.size

pub leaf_kind : (page : List ℕ) → (index_of page).leaf ≡ true → kind_of page ≡ LEAF_KIND
leaf_kind page leaf = eqb-true (kind_of page) LEAF_KIND leaf

pub inner_kind : (page : List ℕ) → IsIndexPage page → (index_of page).leaf ≡ false → kind_of page ≡ INNER_KIND
inner_kind page index inner = elim index.head.kind [
  | inl k ↦ (let no_leaf = sym inner ∙ eq-eqb (kind_of page) LEAF_KIND k in absurd (cc no_leaf))
  | inr k ↦ k
]

pub is_leaf : (p : Paged) (i : ℕ) (says : IndexPage) → i < page_count p.pages → IsNode p i says → says.leaf ≡ true → (nodes_in p.pages i).kind ≡ LEAF_KIND
is_leaf p i says lt node leaf = ap kind_of (page_is p i node.page lt node.in_hand.page) ∙ leaf_kind node.page (ap (λ (s : IndexPage). s.leaf) node.is ∙ leaf)

pub is_inner : (p : Paged) (i : ℕ) (says : IndexPage) → i < page_count p.pages → IsNode p i says → says.leaf ≡ false → (nodes_in p.pages i).kind ≡ INNER_KIND
is_inner p i says lt node inner = ap kind_of (page_is p i node.page lt node.in_hand.page) ∙ inner_kind node.page node.well_made (ap (λ (s : IndexPage). s.leaf) node.is ∙ inner)
