-- Pages that pass their checks after calls, where they did before: the meta page step by step, and all pages of a
-- partition at once.
use Rattle.std.proofs.Common.{◌≡◌, ℕ, zero, suc, ◌+◌, ◌-◌, ◌*◌, ◌<◌, ◌≤◌, ◌⊎◌, List, ◌∷◌, length, sym, ap, subst, ◌∙◌, inl, inr, arith}
use Rattle.std.specs.Prelude.{Some, IfSome, IsSomeAnd}
use Rattle.std.proofs.lemmas.Bool.{cases_lt}
use Rattle.pm_types.specs.declared.shape.Shape.{Shape}
use Rattle.pm_types.specs.Ids.{page_id}
use Rattle.pm_meta.specs.declared.layout.TheConstants.{EXTRA_PAGES}
use Rattle.pm_meta.specs.declared.slots.MetaSlot.{MetaSlot}
use Rattle.pm_meta.specs.declared.slots.MetaSlot.TheVariants.{Reuse, Pages}
use Rattle.pm_meta.specs.MetaPages.{next_of, IsInBounds}
use Rattle.pm_pages.specs.Rows.{Partition, number_in, page_count, page_at}
use Rattle.pm_pages.specs.Chains.{times, walk, reuse_next_of, reuse_chain}
use Rattle.pm_pages.specs.Passes.{Passes, PassesAsMeta, PassesAt}
use Rattle.pm_pages.specs.WellFormed.{AllPass}
use Rattle.pm_pages.specs.Paged.{Paged, PassesIn, SamePartition}
use Rattle.pm_pages.specs.Edits.{EditsPages}
use Rattle.pm_pages.specs.StoredPages.{IsStoredPage}
use Rattle.pm_pages.specs.SparePages.{SetsNumber, TakesPage, GivesPage}
use Rattle.pm_pages.specs.SpareChains.{HasSpare}
use Rattle.pm_pages.proofs.ChainWalks.{stands, walk_none, walk_on, times_here}
use Rattle.pm_pages.proofs.SpareSteps.{number_by, moves_take}

-- the same bytes pass in a partition of the same shape and number
pub passes_same : (a b : Paged) → SamePartition a b → (i : ℕ) (page : List ℕ) → PassesIn a i page → PassesIn b i page
passes_same a b same i page h =
    subst (λ (q : ℕ × ℕ × ℕ). PassesAt q.0 q.1 q.2 i page) {x = (a.page_size, a.max_rows, a.part)} {y = (b.page_size, b.max_rows, b.part)} (λ z. (sym same.page_size z, sym same.max_rows z, sym same.part z)) h

-- a page that wasn't changed passes still
pub there_still : (a b : Paged) → SamePartition a b → (i : ℕ) → b.pages i ≡ a.pages i → IsStoredPage a i → IsStoredPage b i
there_still a b same i e there = (there.0, e ∙ there.1, passes_same a b same i there.0 there.2)

-- a page that is there has one content
pub there_is : (p : Paged) (i : ℕ) (page : List ℕ) → p.pages i ≡ Some page → IsStoredPage p i → PassesIn p i page
there_is p i page is there = (let same : there.0 ≡ page = cc (there.1, is) in subst (PassesIn p i) same there.2)

-- the page count is within its limit
pub count_within : (p : Paged) → IsStoredPage p 0 → (1 ≤ page_count p.pages) × (page_count p.pages ≤ 2 * p.max_rows + EXTRA_PAGES)
count_within p meta = (let e = number_by p.pages Pages meta.0 meta.1 in (omega (arith, e, meta.2.stored.counts.some), omega (arith, e, meta.2.stored.counts.pages)))

-- one number of the meta page was set to one that may stand there
pub meta_sets : (a b : Paged) (slot : MetaSlot) (value : ℕ) → SamePartition a b → (was now : List ℕ) → a.pages 0 ≡ Some was → b.pages 0 ≡ Some now → SetsNumber was now slot value → IsInBounds a.max_rows was slot value → IsStoredPage a 0 → IsStoredPage b 0
meta_sets a b slot value same was now before after sets bounds meta =
    let passes : PassesAsMeta a.page_size a.max_rows (page_id a.part 0) was = there_is a 0 was before meta in
    (now, after, passes_same a b same 0 now (record { size = sets.size ∙ passes.size; stored = sets.stored (page_id a.part 0) a.max_rows passes.stored bounds }))

-- a chain's first page stands on it
pub first_stands : (a : Partition) → 1 ≤ page_count a → 1 ≤ number_in a Reuse → 1 ≤ times (number_in a Reuse) (reuse_chain a)
first_stands a counted first =
    let f : ℕ → ℕ = λ j. reuse_next_of (page_at a j) in
    let size : page_count a ≡ suc (page_count a - 1) = omega (arith, counted) in
    let on : reuse_chain a ≡ number_in a Reuse ∷ walk (λ j. reuse_next_of (page_at a j)) (page_count a - 1) (reuse_next_of (page_at a (number_in a Reuse))) =
    (λ k. walk (λ j. reuse_next_of (page_at a j)) (size k) (number_in a Reuse)) ∙ walk_on (λ j. reuse_next_of (page_at a j)) (page_count a - 1) (number_in a Reuse) (λ e. omega (arith, e, first)) in
    omega (arith, ap (λ t. times (number_in a Reuse) t) on, times_here (number_in a Reuse) (walk (λ j. reuse_next_of (page_at a j)) (page_count a - 1) (reuse_next_of (page_at a (number_in a Reuse)))))

pub no_chain : (a : Partition) → number_in a Reuse ≡ 0 → length (reuse_chain a) ≡ 0
no_chain a none = ap length ((λ k. walk (λ j. reuse_next_of (page_at a j)) (page_count a) (none k)) ∙ walk_none (λ j. reuse_next_of (page_at a j)) (page_count a))

-- the first page of a sound chain is below the page count, and so is 0
pub first_below : (a : Partition) → HasSpare a → 1 ≤ page_count a → number_in a Reuse < page_count a
first_below a spare counted = elim (cases_lt 0 (number_in a Reuse)) [
  | inl begins ↦ stands (λ i. i < page_count a) (reuse_chain a) spare.below (number_in a Reuse) (first_stands a counted begins)
  | inr none ↦ omega (arith, none, counted)
]

-- a page was taken, and the limit of the page count allows one more where the chain is empty
pub meta_taken : (T : Type 0) (a b : Paged) (m i limit : ℕ) → T → TakesPage T a b m i → HasSpare a.pages → limit ≤ 2 * a.max_rows + EXTRA_PAGES → page_count a.pages + 1 ≤ length (reuse_chain a.pages) + limit → IsStoredPage a 0 → IsStoredPage b 0
meta_taken T a b m i limit t takes spare small room meta =
    let was = takes.numbers.was in
    let now = takes.numbers.now in
    let count_a = number_by a.pages Pages was takes.numbers.before in
    let count_b = number_by b.pages Pages now takes.numbers.after in
    let reuse_a = number_by a.pages Reuse was takes.numbers.before in
    let reuse_b = number_by b.pages Reuse now takes.numbers.after in
    let counted = count_within a meta in
    let moves = moves_take T a b m i t takes in
    let passes : PassesAsMeta a.page_size a.max_rows (page_id a.part 0) was = there_is a 0 was takes.numbers.before meta in
    elim takes.numbers.change [
      | inl r ↦
          let below = first_below b.pages (moves.sound spare) (omega (arith, counted.0, moves.count)) in
          meta_sets a b Reuse (next_of r.page) takes.edits.same was now takes.numbers.before takes.numbers.after r.sets
          (omega (arith, below, reuse_b, r.sets.here, count_b, r.sets.others Pages tt (λ e. cc e))) meta
      | inr x ↦ meta_sets a b Pages (i + 1) takes.edits.same was now takes.numbers.before takes.numbers.after x.sets
          (omega arith, omega (arith, room, small, no_chain a.pages (reuse_a ∙ x.none), count_a, x.index), λ slot is. omega (arith, passes.stored.below slot is, x.index)) meta
    ]

-- a page of the partition was given back
pub meta_given : (T : Type 0) (a b : Paged) (i : ℕ) → GivesPage T a b i → i < page_count a.pages → IsStoredPage a 0 → IsStoredPage b 0
meta_given T a b i gives below meta =
    let was = gives.numbers.was in
    meta_sets a b Reuse i gives.edits.same was gives.numbers.now gives.numbers.before gives.numbers.after gives.numbers.change.1 (omega (arith, below, number_by a.pages Pages was gives.numbers.before)) meta

-- All pages pass still: the meta page, each page that was changed, and each that the partition has besides.
module _ (T : Type 0) (a c : Paged) (touched : ℕ → Type 0) (m : ℕ) (t : T) (edits : EditsPages T a c touched m) (decide : (j : ℕ) → touched j ⊎ (touched j → ⊥)) (meta : IsStoredPage c 0)
    (there : (j : ℕ) → 1 ≤ j → j < page_count c.pages → touched j → IsStoredPage c j) (added : (j : ℕ) → j < page_count c.pages → (j < page_count a.pages) ⊎ touched j) (shape : Shape) (page_size : shape.page_size ≡ c.page_size) (max_rows : shape.max_rows ≡ c.max_rows) where
  of_shape : (i : ℕ) (page : List ℕ) → PassesIn c i page → PassesAt shape.page_size shape.max_rows c.part i page
  of_shape i page passes = subst (λ (q : ℕ × ℕ). PassesAt q.0 q.1 c.part i page) {x = (c.page_size, c.max_rows)} {y = (shape.page_size, shape.max_rows)} (λ k. (sym page_size k, sym max_rows k)) passes

  pub all_kept : ((i : ℕ) → 1 ≤ i → i < page_count a.pages → IsStoredPage a i) → AllPass shape c.part c.pages
  all_kept before = record { meta = subst (λ o. IfSome o (PassesAsMeta shape.page_size shape.max_rows (page_id c.part 0))) (sym meta.1) (of_shape 0 meta.0 meta.2); each = each_there }
    where
      there_now : (i : ℕ) → 1 ≤ i → i < page_count c.pages → IsStoredPage c i
      there_now i some lt = elim (decide i) [
        | inl h ↦ there i some lt h
        | inr out ↦ elim (added i lt) [ inl old ↦ there_still a c edits.same i (edits.others i (inl t) out) (before i some old) | inr h ↦ absurd (out h) ]
      ]

      each_there : (i : ℕ) → i < page_count c.pages → IsSomeAnd (c.pages i) (Passes shape.page_size shape.max_rows (page_id c.part i))
      each_there zero lt = subst (λ o. IsSomeAnd o (Passes shape.page_size shape.max_rows (page_id c.part 0))) (sym meta.1) (let q = of_shape 0 meta.0 meta.2 in record { size = q.size; kind = inl q.stored })
      each_there (suc i) lt = (let h = there_now (suc i) (omega arith) lt in subst (λ o. IsSomeAnd o (Passes shape.page_size shape.max_rows (page_id c.part (suc i)))) (sym h.1) (of_shape (suc i) h.0 h.2))
