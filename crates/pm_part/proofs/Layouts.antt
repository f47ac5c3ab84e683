-- Where a page of a partition that is laid out stands, and that each page still stands once after pages were taken and given back.
use Rattle.std.proofs.Common.{◌≡◌, ◌≢◌, ℕ, ◌+◌, ◌<◌, ◌≤◌, ◌==◌, List, refl, sym, ap, ◌∙◌, inl, inr, arith}
use Rattle.std.specs.Prelude.{if◌then◌else◌}
use Rattle.std.proofs.lemmas.Bool.{cases_lt, ne_eqb, eq-eqb, le-leb, lt-ltb, lt-leb, le-ltb}
use Rattle.pm_btpage.specs.IndexPages.{Item}
use Rattle.pm_btpage.specs.declared.layout.TheConstants.{LEAF_KIND, INNER_KIND}
use Rattle.pm_data.specs.declared.layout.TheConstants.{DATA_KIND}
use Rattle.pm_pages.specs.Rows.{Partition, page_at, page_count, kind_of}
use Rattle.pm_pages.specs.Chains.{times, reuse_chain}
use Rattle.pm_pages.specs.Trees.{root_of}
use Rattle.pm_pages.specs.SpareChains.{MovesSpare, is_added}
use Rattle.pm_pages.proofs.ChainWalks.{stands}
use Rattle.pm_tree.specs.Nodes.{nodes_in}
use Rattle.pm_tree.specs.Puts.{IsSpare}
use Rattle.pm_part.specs.LaidOut.{joined, is_data, IsLaidOut}
use Rattle.pm_part.proofs.JoinedLists.{in_one}
use Rattle.pm_part.proofs.SameIndexes.{index_kind, index_below}

pub data_one : (pages : Partition) (j : ℕ) → kind_of (page_at pages j) ≡ DATA_KIND → is_data pages j ≡ 1
data_one pages j kind = simp (eq-eqb (kind_of (page_at pages j)) DATA_KIND kind) refl

pub data_none : (pages : Partition) (j : ℕ) → kind_of (page_at pages j) ≢ DATA_KIND → is_data pages j ≡ 0
data_none pages j kind = simp (ne_eqb (kind_of (page_at pages j)) DATA_KIND kind) refl

pub data_same : (old new : Partition) (j : ℕ) → kind_of (page_at new j) ≡ kind_of (page_at old j) → is_data new j ≡ is_data old j
data_same old new j same = ap (λ k. if k == DATA_KIND then 1 else 0) same

-- a page of an index is no data page and no reuse page
not_spare : (pages : Partition) (j : ℕ) (k : ℕ) → (IsSpare (nodes_in pages j) → ⊥) → kind_of (page_at pages j) ≡ k → k ≢ LEAF_KIND → k ≢ INNER_KIND → ⊥
not_spare pages j k used kind leaf inner = used (record { leaf = λ e. leaf (sym kind ∙ e); inner = λ e. inner (sym kind ∙ e) })

module _ (pages : Partition) (items : ℕ → List Item) (laid : IsLaidOut pages items) where
  pub in_index : (j : ℕ) → 1 ≤ times j (joined laid.nodes) → (IsSpare (nodes_in pages j) → ⊥) × (j < page_count pages)
  in_index j there =
      let one = in_one laid.nodes j there in
      let index = laid.indexes one.0 one.1 in (
        index_kind pages (root_of pages one.0) (laid.heights one.0) (laid.nodes one.0) (items one.0) index j one.2,
        index_below pages (root_of pages one.0) (laid.heights one.0) (laid.nodes one.0) (items one.0) index j one.2,
      )

  pub no_index : (j k : ℕ) → kind_of (page_at pages j) ≡ k → k ≢ LEAF_KIND → k ≢ INNER_KIND → times j (joined laid.nodes) ≡ 0
  no_index j k kind leaf inner = elim (cases_lt 0 (times j (joined laid.nodes))) [
    | inl lt ↦ absurd (not_spare pages j k (in_index j lt).0 kind leaf inner)
    | inr le ↦ omega (arith, le)
  ]

  -- past the page count stands none
  pub none_past : (j : ℕ) → page_count pages ≤ j → (times j (joined laid.nodes) ≡ 0) × (is_data pages j ≡ 0) × (times j (reuse_chain pages) ≡ 0)
  none_past j past = (
    elim (cases_lt 0 (times j (joined laid.nodes))) [ inl lt ↦ absurd (omega (arith, (in_index j lt).1, past)) | inr le ↦ omega (arith, le) ],
    data_none pages j (λ e. (let none : kind_of (page_at pages j) ≡ 0 = simp (le-ltb j (page_count pages) past) refl in omega (arith, e, none))),
    elim (cases_lt 0 (times j (reuse_chain pages))) [
      | inl lt ↦ absurd (omega (arith, stands (λ i. i < page_count pages) (reuse_chain pages) laid.spare.below j lt, past))
      | inr le ↦ omega (arith, le)
    ],
  )

  -- a page that isn't in the reuse chain nor past the count isn't taken
  pub reuse_once : (j : ℕ) → times j (reuse_chain pages) ≤ 1
  reuse_once j = laid.spare.once j

-- 1 for a page that was added, 0 for any other
abbrev pub added : ℕ → ℕ → ℕ → ℕ
added was now j = if is_added was now j then 1 else 0

pub added_old : (was now j : ℕ) → j < was → added was now j ≡ 0
added_old was now j lt = simp (lt-leb was j lt) refl

pub added_new : (was now j : ℕ) → was ≤ j → j < now → added was now j ≡ 1
added_new was now j le lt = simp (le-leb was j le, lt-ltb j now lt) refl

-- What was taken and given back together makes up for what came and went: each page still stands once.
pub each_after : (old new : Partition) (items : ℕ → List Item) (laid : IsLaidOut old items) (nodes : ℕ → List ℕ) (made given : List ℕ) → MovesSpare old new made given
    → ((j : ℕ) → 1 ≤ j → j < page_count new → times j (joined nodes) + is_data new j + times j given ≡ times j (joined laid.nodes) + is_data old j + times j made)
    → (j : ℕ) → 1 ≤ j → j < page_count new → times j (joined nodes) + is_data new j + times j (reuse_chain new) ≡ 1
each_after old new items laid nodes made given moves sums j some lt = elim (cases_lt j (page_count old)) [
  | inl before ↦ omega (arith, moves.moved laid.spare j, added_old (page_count old) (page_count new) j before, sums j some lt, laid.each j some before)
  | inr past ↦ (let none = none_past old items laid j past in
      omega (arith, moves.moved laid.spare j, added_new (page_count old) (page_count new) j past lt, sums j some lt, none.0, none.1, none.2))
]
