-- Over pages that are told and well formed, the pairs that are read are those of the map that the rows make.
use Rattle.std.proofs.Common.{◌≡◌, ℕ, zero, suc, ◌<◌, List, [], ◌∷◌, sym, ap, subst, ◌∙◌, inl, inr, arith}
use Rattle.std.specs.Prelude.{Result, OnOk, ◌++◌}
use Rattle.std.proofs.lemmas.Result.{on_ok_weaker}
use Rattle.pm_types.specs.declared.fault.StoreFault.{StoreFault}
use Rattle.pm_types.specs.declared.limits.TheConstants.{CACHES}
use Rattle.pm_types.specs.declared.shape.Shape.{Shape}
use Rattle.pm_btpage.specs.IndexPages.{Item}
use Rattle.pm_meta.specs.declared.slots.MetaSlot.TheVariants.{Root, Pages}
use Rattle.pm_model.specs.Eval.{pairs_of}
use Rattle.pm_pages.specs.Rows.{number_of, page_count, rows_of}
use Rattle.pm_pages.specs.RowMaps.{map_of}
use Rattle.pm_pages.specs.Trees.{root_of, ListsRows}
use Rattle.pm_pages.specs.Paged.{Paged}
use Rattle.pm_pages.specs.SoundPages.{PassesAll}
use Rattle.pm_tree.specs.Indexes.{IsIndex}
use Rattle.pm_part.specs.Runs.{IsPartitionOf}
use Rattle.pm_part.specs.PairReads.{PairsList, AppendsPairs, WasFirstLeaf, HadPair, HadPairs, HadTreePairs, HadTree}
use Rattle.pm_part.proofs.CacheIndexes.{index_of}
use Rattle.pm_part.proofs.KeyedRows.{HasValue}
use Rattle.pm_pages.proofs.Quantified.{Holds}
use Rattle.pm_part.proofs.ReadRows.{row_is_there}
use Rattle.pm_part.proofs.SortedPairs.{IsPairOf, ArePairsOf, pairs_are}
use Rattle.pm_part.proofs.TreeLeaves.{read_told, number_told, first_is, all_items}

pub passes_of : (shape : Shape) (a : Paged) → IsPartitionOf shape a → PassesAll a
passes_of shape a of = record { shape = shape; page_size = of.page_size; max_rows = of.max_rows; pass = of.well_formed.all_pass }

-- a pair that was read is that of a row
pair_of : (T : Type 0) (a : Paged) (count cache : ℕ) (item : Item) (pair : List ℕ × List ℕ) → T → count ≡ page_count a.pages → HadPair T a count cache (record { 0 = item.word }) item.key pair → IsPairOf (rows_of a.part a.pages) cache item pair
pair_of T a count cache item pair t all had =
    let is = had.is in
    let row = row_is_there a.part a.pages had.spot.at had.spot.item cache item.key is.row is.page (omega (arith, had.leads.below, all)) (read_told T a had.spot.at is.page t is.read) is.is in
    record { key_is = is.key_is; row = subst (λ (q : List ℕ × List ℕ). Holds (HasValue cache q.0 q.1) (rows_of a.part a.pages)) (λ i. (sym is.key_is i, sym is.value_is i)) row }

pairs_of_items : (T : Type 0) (a : Paged) (count cache : ℕ) (items : List Item) (pairs : PairsList) → T → count ≡ page_count a.pages → HadPairs T a count cache items pairs → ArePairsOf (rows_of a.part a.pages) cache items pairs
pairs_of_items T a count cache [] [] t all had = tt
pairs_of_items T a count cache [] (pair ∷ pairs) t all had = absurd had
pairs_of_items T a count cache (item ∷ items) [] t all had = absurd had
pairs_of_items T a count cache (item ∷ items) (pair ∷ pairs) t all had = (pair_of T a count cache item pair t all had.0, pairs_of_items T a count cache items pairs t all had.1)

-- a cache whose root is 0 has no rows, and so no pairs
none_of : (shape : Shape) (a : Paged) (cache height : ℕ) (nodes : List ℕ) (items : List Item) → IsPartitionOf shape a → root_of a.pages cache ≡ 0 → IsIndex a.pages (root_of a.pages cache) height nodes items → ListsRows (rows_of a.part a.pages) cache items → [] ≡ pairs_of cache (map_of (rows_of a.part a.pages))
none_of shape a cache zero nodes items of none index lists = pairs_are (rows_of a.part a.pages) cache [] [] of.well_formed.keys_once.once (subst (ListsRows (rows_of a.part a.pages) cache) index.2 lists) tt
none_of shape a cache (suc levels) nodes items of none index lists = absurd (index.some none)

some_of : (T : Type 0) (shape : Shape) (a : Paged) (cache height : ℕ) (nodes : List ℕ) (items : List Item) (pairs : PairsList) → T → IsPartitionOf shape a → HadTreePairs T a cache pairs → IsIndex a.pages (root_of a.pages cache) height nodes items → ListsRows (rows_of a.part a.pages) cache items → pairs ≡ pairs_of cache (map_of (rows_of a.part a.pages))
some_of T shape a cache zero nodes items pairs t of had index lists = absurd (had.some (sym (number_told T a (Root cache) had.root t had.root_is) ∙ index.0))
some_of T shape a cache (suc levels) nodes items pairs t of had index lists =
    let count : had.count ≡ page_count a.pages = sym (number_told T a Pages had.count t had.count_is) in
    let root : root_of a.pages cache ≡ had.root = number_told T a (Root cache) had.root t had.root_is in
    let first = first_is T a had.count (root_of a.pages cache) levels had.first t count (1, index.tree) (subst (λ r. WasFirstLeaf T a had.count r had.first) (sym root) had.first_is) in
    let all = all_items T a had.count cache (root_of a.pages cache) levels had.first pairs t count (passes_of shape a of) (1, index.tree) index.linked first had.are in
    pairs_are (rows_of a.part a.pages) cache items pairs of.well_formed.keys_once.once lists
    (subst (λ l. ArePairsOf (rows_of a.part a.pages) cache l pairs) (sym index.items_are) (pairs_of_items T a had.count cache _ pairs t count all))

pub told_pairs : (T : Type 0) (shape : Shape) (a : Paged) (cache : ℕ) (pairs : PairsList) → cache < CACHES → T → IsPartitionOf shape a → HadTree T a cache pairs → pairs ≡ pairs_of cache (map_of (rows_of a.part a.pages))
told_pairs T shape a cache pairs few t of had =
    let ix = index_of shape a cache of.page_size of.max_rows of.well_formed few in
    elim had [
      | inl none ↦ none.1 ∙ none_of shape a cache ix.height ix.nodes ix.items of (elim none.0 [
        | inl absent ↦ ap (λ o. number_of o (Root cache)) (absent t)
        | inr gone ↦ number_told T a (Root cache) 0 t gone
      ]) ix.index ix.lists
      | inr some ↦ some_of T shape a cache ix.height ix.nodes ix.items pairs t of some ix.index ix.lists
    ]

pub told_appended : (T : Type 0) (shape : Shape) (a : Paged) (cache : ℕ) (old was now : PairsList) (r : Result (Unit {0}) StoreFault) → old ≡ was → cache < CACHES → T → IsPartitionOf shape a → OnOk r (AppendsPairs was now (HadTree T a cache)) → OnOk r (now ≡ old ++ pairs_of cache (map_of (rows_of a.part a.pages)))
told_appended T shape a cache old was now r same few t of appends = on_ok_weaker r (λ more. more.appended ∙ ap (λ (l : PairsList). was ++ l) (told_pairs T shape a cache more.more few t of more.are) ∙ ap (λ (l : PairsList). l ++ pairs_of cache (map_of (rows_of a.part a.pages))) (sym same)) appends
