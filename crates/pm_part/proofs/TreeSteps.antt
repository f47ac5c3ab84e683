-- A partition stays laid out where a key is put into the index of a cache, or removed from it, and its rows are as they were.
use Rattle.std.proofs.Common.{◌≡◌, ◌≢◌, ℕ, ◌+◌, ◌<◌, ◌≤◌, ◌⊎◌, ◌==◌, List, [], refl, sym, ap, subst, ◌∙◌, inl, inr, arith}
use Rattle.std.specs.Prelude.{if◌then◌else◌}
use Rattle.std.proofs.lemmas.Bool.{cases_eq, eq-eqb, ne_eqb, le-ltb}
use Rattle.pm_types.specs.declared.limits.TheConstants.{CACHES}
use Rattle.pm_btpage.specs.IndexPages.{Item}
use Rattle.pm_data.specs.declared.layout.TheConstants.{DATA_KIND}
use Rattle.pm_meta.specs.declared.layout.TheConstants.{BUCKETS}
use Rattle.pm_meta.specs.declared.slots.MetaSlot.TheVariants.{Bucket}
use Rattle.pm_pages.specs.Rows.{Partition, page_at, page_count, number_in, kind_of}
use Rattle.pm_pages.specs.Chains.{times, next_of, before_of}
use Rattle.pm_pages.specs.Trees.{root_of, ListsRows}
use Rattle.pm_pages.specs.declared.row.Row.{Row}
use Rattle.pm_tree.specs.Indexes.{IsIndex}
use Rattle.pm_tree.specs.Nodes.{nodes_in}
use Rattle.pm_tree.specs.Puts.{IsSpare}
use Rattle.pm_free.specs.Chained.{homes_in, home_of}
use Rattle.pm_free.specs.Placed.{HasChains}
use Rattle.pm_free.proofs.NewPages.{chained_away}
use Rattle.pm_free.proofs.PlacedRows.{chains_in, chains_out}
use Rattle.pm_free.proofs.Settled.{chained_as}
use Rattle.pm_free.proofs.Views.{other_next, other_before, other_home}
use Rattle.pm_part.specs.LaidOut.{joined, is_data}
use Rattle.pm_part.proofs.JoinedLists.{times_set, one_in}
use Rattle.pm_part.proofs.Layouts.{data_none, data_same}

-- a page has the bytes that it had, or it wasn't a data page and isn't one
abbrev pub KeepsDataAt : Partition → Partition → ℕ → Type 0
KeepsDataAt old new j = (page_at new j ≡ page_at old j) ⊎ ((kind_of (page_at old j) ≢ DATA_KIND) × (kind_of (page_at new j) ≢ DATA_KIND))

-- the data pages are as they were, and there are no others
abbrev pub KeepsData : Partition → Partition → Type 0
KeepsData old new = (j : ℕ) → KeepsDataAt old new j

pub data_kept : (old new : Partition) → KeepsData old new → (j : ℕ) → is_data new j ≡ is_data old j
data_kept old new keeps j = elim (keeps j) [
  | inl same ↦ data_same old new j (ap kind_of same)
  | inr neither ↦ data_none new j neither.1 ∙ sym (data_none old j neither.0)
]

-- so are the chains of the buckets
pub chains_stay : (old new : Partition) → 1 ≤ page_count old → page_count old ≤ page_count new → KeepsData old new
    → ((bucket : ℕ) → bucket < BUCKETS → number_in new (Bucket bucket) ≡ number_in old (Bucket bucket)) → HasChains old → HasChains new
chains_stay old new some count keeps heads chains =
    chains_out new (chained_as new (homes_in old) (homes_in new) home
    (chained_away old new (homes_in old) (page_count old) (past (page_count old) (omega arith)) (omega (arith, some)) count (λ i le lt. past i le) heads
    (λ j nz away. elim (keeps j) [
      | inl same ↦ (ap next_of same, ap before_of same)
      | inr neither ↦ (other_next (page_at new j) neither.1 ∙ sym (other_next (page_at old j) neither.0), other_before (page_at new j) neither.1 ∙ sym (other_before (page_at old j) neither.0))
    ]) (chains_in old chains)))
  where
    home : (j : ℕ) → homes_in new j ≡ homes_in old j
    home j = elim (keeps j) [
      | inl same ↦ ap home_of same
      | inr neither ↦ other_home (page_at new j) neither.1 ∙ sym (other_home (page_at old j) neither.0)
    ]

    past : (i : ℕ) → page_count old ≤ i → homes_in old i ≡ BUCKETS
    past i le = other_home (page_at old i) (λ e. (let none : kind_of (page_at old i) ≡ 0 = simp (le-ltb i (page_count old) le) refl in omega (arith, e, none)))

-- a value for each cache, of which one is another one
abbrev pub set_at : {A : Type 0} → (ℕ → A) → ℕ → A → (ℕ → A)
set_at f cache x c = if c == cache then x else f c

pub set_here : {A : Type 0} (f : ℕ → A) (cache : ℕ) (x : A) → set_at f cache x cache ≡ x
set_here f cache x = simp (eq-eqb cache cache refl) refl

pub set_other : {A : Type 0} (f : ℕ → A) (cache : ℕ) (x : A) (c : ℕ) → c ≢ cache → set_at f cache x c ≡ f c
set_other f cache x c other = simp (ne_eqb c cache other) refl

-- two caches' lists have together no more than all joined
pub two_in : (f : ℕ → List ℕ) (c cache j : ℕ) → c ≢ cache → c < CACHES → cache < CACHES → times j (f c) + times j (f cache) ≤ times j (joined f)
two_in f c cache j other few_c few =
    let g : ℕ → List ℕ = set_at f c [] in
    let set = times_set f g c j (λ k ne. set_other f c [] k ne) few_c in
    let here : times j (g c) ≡ 0 = ap (λ l. times j l) (set_here f c []) in
    let there : times j (g cache) ≡ times j (f cache) = ap (λ l. times j l) (set_other f c [] cache (λ e. other (sym e))) in
    omega (arith, set, here, there, one_in g cache j few)

-- an index at another root is that of a cache where its root, height, pages and items were set
pub index_set : (pages : Partition) (heights : ℕ → ℕ) (nodes : ℕ → List ℕ) (items : ℕ → List Item) (cache height : ℕ) (now : List ℕ) (list : List Item)
    → IsIndex pages (root_of pages cache) height now list
    → ((c : ℕ) → c ≢ cache → c < CACHES → IsIndex pages (root_of pages c) (heights c) (nodes c) (items c))
    → (c : ℕ) → c < CACHES → IsIndex pages (root_of pages c) (set_at heights cache height c) (set_at nodes cache now c) (set_at items cache list c)
index_set pages heights nodes items cache height now list here others c few = elim (cases_eq c cache) [
  | inl e ↦ simp (eq-eqb c cache e) (subst (λ k. IsIndex pages (root_of pages k) height now list) (sym e) here)
  | inr ne ↦ simp (ne_eqb c cache ne) (others c ne few)
]

-- neither page is a data page
abbrev pub NoDataFirst : Partition → Partition → Type 0
NoDataFirst old new = (kind_of (page_at old 0) ≢ DATA_KIND) × (kind_of (page_at new 0) ≢ DATA_KIND)

pub past_none : (pages : Partition) (j : ℕ) → page_count pages ≤ j → kind_of (page_at pages j) ≢ DATA_KIND
past_none pages j le e = (let none : kind_of (page_at pages j) ≡ 0 = simp (le-ltb j (page_count pages) le) refl in omega (arith, e, none))

pub no_data : (pages : Partition) (j : ℕ) → (IsSpare (nodes_in pages j) → ⊥) → kind_of (page_at pages j) ≢ DATA_KIND
no_data pages j used kind = used (record { leaf = λ e. absurd (cc (sym kind ∙ e)); inner = λ e. absurd (cc (sym kind ∙ e)) })

-- the items of one cache were replaced, and the rows of every cache are listed still
pub lists_set : (rows : List Row) (items : ℕ → List Item) (cache : ℕ) (now : List Item) → ListsRows rows cache now
    → ((c : ℕ) → c ≢ cache → c < CACHES → ListsRows rows c (items c)) → (c : ℕ) → c < CACHES → ListsRows rows c (set_at items cache now c)
lists_set rows items cache now here others c few = elim (cases_eq c cache) [
  | inl e ↦ simp (eq-eqb c cache e) (subst (λ k. ListsRows rows k now) (sym e) here)
  | inr ne ↦ simp (ne_eqb c cache ne) (others c ne few)
]
