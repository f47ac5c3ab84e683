-- A partition stays laid out where its row count is set.
use Rattle.std.proofs.Common.{◌≡◌, ◌≢◌, ℕ, ◌<◌, ◌≤◌, List, [], sym, subst, ◌∙◌, inl, inr, arith}
use Rattle.std.proofs.lemmas.Bool.{cases_eq}
use Rattle.pm_types.specs.declared.limits.TheConstants.{CACHES}
use Rattle.pm_btpage.specs.IndexPages.{Item}
use Rattle.pm_meta.specs.declared.slots.MetaSlot.{MetaSlot}
use Rattle.pm_meta.specs.declared.slots.MetaSlot.TheVariants.{Root, Bucket, Rows, Pages}
use Rattle.pm_meta.specs.MetaPages.{IsSlot}
use Rattle.pm_pages.specs.Rows.{page_at, page_count, number_in, kind_of}
use Rattle.pm_pages.specs.Chains.{times}
use Rattle.pm_pages.specs.Trees.{root_of}
use Rattle.pm_pages.specs.Paged.{Paged}
use Rattle.pm_pages.specs.Edits.{EditsPages}
use Rattle.pm_pages.specs.SparePages.{SetsNumber, MetaBecomes}
use Rattle.pm_pages.specs.SpareChains.{MovesSpare}
use Rattle.pm_pages.proofs.SpareSteps.{number_by, moves_number, same_at}
use Rattle.pm_tree.specs.Indexes.{IsIndex}
use Rattle.pm_part.specs.LaidOut.{joined, IsLaidOut}
use Rattle.pm_part.proofs.JoinedLists.{one_in}
use Rattle.pm_part.proofs.SameIndexes.{index_stays}
use Rattle.pm_part.proofs.Layouts.{each_after}
use Rattle.pm_part.proofs.TreeSteps.{KeepsData, NoDataFirst, data_kept, chains_stay}

module _ (T : Type 0) (a b : Paged) (count m : ℕ) (t : T) (edits : EditsPages T a b (λ j. j ≡ 0) m) (sets : MetaBecomes a b (λ was now. SetsNumber was now Rows count))
    (first : NoDataFirst a.pages b.pages) where
  pub count_is : number_in b.pages Rows ≡ count
  count_is = number_by b.pages Rows sets.now sets.after ∙ sets.change.here

  pub number_stays : (slot : MetaSlot) → IsSlot slot → slot ≢ Rows → number_in b.pages slot ≡ number_in a.pages slot
  number_stays slot is other = number_by b.pages slot sets.now sets.after ∙ sets.change.others slot is other ∙ sym (number_by a.pages slot sets.was sets.before)

  pages_stay : page_count b.pages ≡ page_count a.pages
  pages_stay = number_stays Pages tt (λ e. absurd (cc e))

  moves : MovesSpare a.pages b.pages [] []
  moves = moves_number T a b Rows count m t (λ e. absurd (cc e)) (λ e. absurd (cc e)) edits sets

  pub count_keeps_data : KeepsData a.pages b.pages
  count_keeps_data j = elim (cases_eq j 0) [
    | inl e ↦ inr (subst (λ i. (kind_of (page_at a.pages i) ≢ 4) × (kind_of (page_at b.pages i) ≢ 4)) (sym e) first)
    | inr ne ↦ inl (same_at a.pages b.pages j pages_stay (edits.others j (inl t) ne))
  ]

  module _ (items : ℕ → List Item) (laid : IsLaidOut a.pages items) where
    node_stays : (cache : ℕ) → cache < CACHES → (j : ℕ) → 1 ≤ times j (laid.nodes cache) → b.pages j ≡ a.pages j
    node_stays cache few j there = edits.others j (inl t) (λ e. omega (arith, there, one_in laid.nodes cache j few, subst (λ i. times i (joined laid.nodes) ≡ 0) (sym e) laid.first))

    pub laid_count : IsLaidOut b.pages items
    laid_count = record {
      some = omega (arith, laid.some, pages_stay);
      heights = laid.heights;
      nodes = laid.nodes;
      indexes = λ cache few. subst (λ r. IsIndex b.pages r (laid.heights cache) (laid.nodes cache) (items cache)) (sym (number_stays (Root cache) few (λ e. absurd (cc e))))
          (index_stays a.pages b.pages (root_of a.pages cache) (laid.heights cache) (laid.nodes cache) (items cache) (omega (arith, pages_stay)) (node_stays cache few) (laid.indexes cache few));
      chains = chains_stay a.pages b.pages laid.some (omega (arith, pages_stay)) count_keeps_data (λ bucket few. number_stays (Bucket bucket) few (λ e. absurd (cc e))) laid.chains;
      spare = moves.sound laid.spare;
      first = laid.first;
      each = each_after a.pages b.pages items laid laid.nodes [] [] moves (λ j some lt. omega (arith, data_kept a.pages b.pages count_keeps_data j));
    }
