-- A partition stays laid out where a row is placed or taken out.
use Rattle.std.proofs.Common.{◌≡◌, ◌≢◌, ℕ, ◌+◌, ◌<◌, ◌≤◌, List, [], sym, subst, ◌∙◌, inl, inr, arith}
use Rattle.std.proofs.lemmas.Bool.{cases_lt}
use Rattle.pm_types.specs.declared.limits.TheConstants.{CACHES}
use Rattle.pm_types.specs.declared.page_id.Link.{Link}
use Rattle.pm_btpage.specs.IndexPages.{Item}
use Rattle.pm_data.specs.declared.layout.TheConstants.{DATA_KIND}
use Rattle.pm_meta.specs.declared.layout.TheConstants.{REUSE_KIND}
use Rattle.pm_meta.specs.declared.slots.MetaSlot.TheVariants.{Root}
use Rattle.pm_pages.specs.Rows.{Partition, page_at, page_count, kind_of}
use Rattle.pm_pages.specs.Chains.{times}
use Rattle.pm_pages.specs.Trees.{root_of}
use Rattle.pm_pages.specs.SpareChains.{MovesSpare}
use Rattle.pm_tree.specs.Indexes.{IsIndex}
use Rattle.pm_free.specs.Placed.{PlacesRow, TakesRow, KeepsRoots, HasChains}
use Rattle.pm_part.specs.LaidOut.{joined, IsLaidOut, is_data}
use Rattle.pm_part.proofs.JoinedLists.{one_in}
use Rattle.pm_part.proofs.SameIndexes.{index_stays}
use Rattle.pm_part.proofs.Layouts.{data_one, data_none, data_same, no_index, none_past, added_old, added_new, each_after}

-- the roots are as they were
pub roots_stay : (old new : Partition) (cache : ℕ) → cache < CACHES → KeepsRoots old new → root_of new cache ≡ root_of old cache
roots_stay old new cache few keeps = keeps (Root cache) few (λ e. absurd (cc e)) (λ e. absurd (cc e)) (λ b e. absurd (cc e))

-- where no page of an index changed, the indexes are as they were
pub indexes_stay : (old new : Partition) (items : ℕ → List Item) (laid : IsLaidOut old items) → page_count old ≤ page_count new → KeepsRoots old new
    → ((j : ℕ) → 1 ≤ times j (joined laid.nodes) → new j ≡ old j)
    → (cache : ℕ) → cache < CACHES → IsIndex new (root_of new cache) (laid.heights cache) (laid.nodes cache) (items cache)
indexes_stay old new items laid count roots same cache few =
    subst (λ r. IsIndex new r (laid.heights cache) (laid.nodes cache) (items cache)) (sym (roots_stay old new cache few roots))
    (index_stays old new (root_of old cache) (laid.heights cache) (laid.nodes cache) (items cache) count
    (λ j there. same j (omega (arith, there, one_in laid.nodes cache j few))) (laid.indexes cache few))

module _ (size part : ℕ) (old new : Partition) (row : List ℕ) (link : Link) (items : ℕ → List Item) (laid : IsLaidOut old items) (places : PlacesRow size part old new row link) where
  -- a page that was made was unused
  unused : (j : ℕ) → 1 ≤ times j places.made → times j (joined laid.nodes) ≡ 0
  unused j there = elim (places.only j there).1 [
    | inl reuse ↦ no_index old items laid j REUSE_KIND reuse (λ e. absurd (cc e)) (λ e. absurd (cc e))
    | inr past ↦ (none_past old items laid j past).0
  ]

  node_stays : (j : ℕ) → 1 ≤ times j (joined laid.nodes) → new j ≡ old j
  node_stays j there = places.others j
      (λ e. omega (arith, there, subst (λ i. times i (joined laid.nodes) ≡ 0) (sym e) laid.first))
      (λ kind. omega (arith, there, no_index old items laid j DATA_KIND kind (λ e. absurd (cc e)) (λ e. absurd (cc e))))
      (elim (cases_lt 0 (times j places.made)) [ inl lt ↦ absurd (omega (arith, there, unused j lt)) | inr le ↦ omega (arith, le) ])

  -- a page that was made is one data page more
  made_data : (j : ℕ) → 1 ≤ j → j < page_count new → times j (joined laid.nodes) + is_data new j + times j [] ≡ times j (joined laid.nodes) + is_data old j + times j places.made
  made_data j some lt = elim (cases_lt 0 (times j places.made)) [
    | inr none ↦ omega (arith, none, data_same old new j (places.kinds j (omega (arith, none))))
    | inl there ↦
        let only = places.only j there in
        let now : is_data new j ≡ 1 = data_one new j (subst (λ i. kind_of (page_at new i) ≡ DATA_KIND) (sym only.0) places.kind) in
        elim only.1 [
          | inl reuse ↦
              let was : is_data old j ≡ 0 = data_none old j (λ e. absurd (cc (sym reuse ∙ e))) in
              elim (cases_lt j (page_count old)) [
                | inl before ↦ omega (arith, now, was, there, places.moves.moved laid.spare j, added_old (page_count old) (page_count new) j before, laid.spare.once j)
                | inr past ↦ omega (arith, now, was, there, places.moves.moved laid.spare j, added_new (page_count old) (page_count new) j past lt, (none_past old items laid j past).2)
              ]
          | inr past ↦ (let none = none_past old items laid j past in
              omega (arith, now, none.1, there, places.moves.moved laid.spare j, added_new (page_count old) (page_count new) j past lt, none.2))
        ]
  ]

  pub laid_place : IsLaidOut new items
  laid_place = record {
    some = omega (arith, laid.some, places.moves.count);
    heights = laid.heights;
    nodes = laid.nodes;
    indexes = indexes_stay old new items laid places.moves.count places.numbers node_stays;
    chains = places.chains laid.chains;
    spare = places.moves.sound laid.spare;
    first = laid.first;
    each = each_after old new items laid laid.nodes places.made [] places.moves made_data;
  }

module _ (part : ℕ) (old new : Partition) (link : Link) (items : ℕ → List Item) (laid : IsLaidOut old items) (takes : TakesRow part old new link) where
  node_left : (j : ℕ) → 1 ≤ times j (joined laid.nodes) → new j ≡ old j
  node_left j there = takes.others j
      (λ e. omega (arith, there, subst (λ i. times i (joined laid.nodes) ≡ 0) (sym e) laid.first))
      (λ kind. omega (arith, there, no_index old items laid j DATA_KIND kind (λ e. absurd (cc e)) (λ e. absurd (cc e))))

  -- a page that was given back is one data page less
  given_data : (j : ℕ) → 1 ≤ j → j < page_count new → times j (joined laid.nodes) + is_data new j + times j takes.given ≡ times j (joined laid.nodes) + is_data old j + times j []
  given_data j some lt = elim (cases_lt 0 (times j takes.given)) [
    | inr none ↦ omega (arith, none, data_same old new j (takes.kinds j (omega (arith, none))))
    | inl there ↦
        let only = takes.only j there in
        omega (arith, there, data_one old j only.1, data_none new j (λ e. absurd (cc (sym only.2 ∙ e))), once j there)
  ]
    where
      once : (j : ℕ) → 1 ≤ times j takes.given → times j takes.given ≤ 1
      once j there = omega (arith, takes.moves.moved laid.spare j, (takes.moves.sound laid.spare).once j)

  pub laid_take : IsLaidOut new items
  laid_take = record {
    some = omega (arith, laid.some, takes.moves.count);
    heights = laid.heights;
    nodes = laid.nodes;
    indexes = indexes_stay old new items laid takes.moves.count takes.numbers node_left;
    chains = takes.chains laid.chains;
    spare = takes.moves.sound laid.spare;
    first = laid.first;
    each = each_after old new items laid laid.nodes [] takes.given takes.moves given_data;
  }

-- a partition stays laid out where no page was taken or given back, each page has its kind, and no page changed but the first one and
-- data pages
pub laid_kept : (old new : Partition) (items : ℕ → List Item) → IsLaidOut old items → MovesSpare old new [] [] → KeepsRoots old new → (HasChains old → HasChains new)
    → ((j : ℕ) → kind_of (page_at new j) ≡ kind_of (page_at old j)) → ((j : ℕ) → j ≢ 0 → kind_of (page_at old j) ≢ DATA_KIND → new j ≡ old j) → IsLaidOut new items
laid_kept old new items laid moves roots chains kinds others = record {
  some = omega (arith, laid.some, moves.count);
  heights = laid.heights;
  nodes = laid.nodes;
  indexes = indexes_stay old new items laid moves.count roots node_kept;
  chains = chains laid.chains;
  spare = moves.sound laid.spare;
  first = laid.first;
  each = each_after old new items laid laid.nodes [] [] moves (λ j some lt. omega (arith, data_same old new j (kinds j)));
}
  where
    node_kept : (j : ℕ) → 1 ≤ times j (joined laid.nodes) → new j ≡ old j
    node_kept j there = others j
        (λ e. omega (arith, there, subst (λ i. times i (joined laid.nodes) ≡ 0) (sym e) laid.first))
        (λ kind. omega (arith, there, no_index old items laid j DATA_KIND kind (λ e. absurd (cc e)) (λ e. absurd (cc e))))
