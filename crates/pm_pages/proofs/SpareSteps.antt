-- What calls over pages take from the reuse chain and give back to it, where the store reports its pages.
use Rattle.std.proofs.Common.{◌≡◌, ◌≢◌, ℕ, ◌<◌, ◌≤◌, ◌⊎◌, List, [], ◌∷◌, replicate, refl, sym, ap, subst, ◌∙◌, inl, inr, arith}
use Rattle.std.specs.Prelude.{if◌then◌else◌, nat_lt, Some}
use Rattle.std.proofs.lemmas.Bool.{cases_eq, cases_lt, le-ltb, ne_eqb, eq-eqb}
use Rattle.std.proofs.lemmas.List.{get_or-replicate, get_or_past, length-replicate}
use Rattle.pm_meta.specs.declared.layout.TheConstants.{REUSE_KIND}
use Rattle.pm_meta.specs.declared.slots.MetaSlot.{MetaSlot}
use Rattle.pm_meta.specs.declared.slots.MetaSlot.TheVariants.{Reuse, Pages}
use Rattle.pm_meta.specs.MetaPages.{field_of, next_of}
use Rattle.pm_pages.specs.Rows.{Partition, bytes_of, number_of, number_in, page_at, page_count, kind_of}
use Rattle.pm_pages.specs.Chains.{times, reuse_next_of, reuse_chain}
use Rattle.pm_pages.specs.Paged.{Paged}
use Rattle.pm_pages.specs.Edits.{LooksAtPages, EditsPages}
use Rattle.pm_pages.specs.SparePages.{SetsNumber, MetaBecomes, TakesPage, GivesPage}
use Rattle.pm_pages.proofs.PageReads.{page_at-below}
use Rattle.pm_pages.specs.SpareChains.{HasSpare, MovesSpare}
use Rattle.pm_pages.proofs.ChainWalks.{stands}
use Rattle.pm_pages.proofs.SpareMoves.{moves_none, moves_next, moves_taken, moves_given}

-- a page that didn't change, in partitions of as many pages
pub same_at : (a b : Partition) (j : ℕ) → page_count b ≡ page_count a → b j ≡ a j → page_at b j ≡ page_at a j
same_at a b j count same = λ k. if nat_lt j (count k) then bytes_of (same k) else []

-- of a page what is so for its bytes and where it isn't there
pub read_as : (P : List ℕ → Type 0) (a : Partition) (j : ℕ) (page : List ℕ) → a j ≡ Some page → P page → P [] → P (page_at a j)
read_as P a j page is here none = elim (cases_lt j (page_count a)) [
  | inl lt ↦ subst P (sym (page_at-below a j lt ∙ ap bytes_of is)) here
  | inr le ↦ subst P (sym (λ k. if le-ltb j (page_count a) le k then bytes_of (a j) else [])) none
]

pub no_kind : kind_of [] ≢ REUSE_KIND
no_kind e = omega (arith, e)

-- a page of zeros has no kind
pub zeros_kind : (n : ℕ) → kind_of (replicate n 0) ≡ 0
zeros_kind n = elim (cases_lt 8 n) [
  | inl lt ↦ get_or-replicate n 8 0 0 lt
  | inr le ↦ get_or_past (replicate n 0) 8 0 (omega (arith, le, length-replicate {A = ℕ} n 0))
]

pub zeros_at : (p : Paged) (i n : ℕ) → p.pages i ≡ Some (replicate n 0) → kind_of (page_at p.pages i) ≢ REUSE_KIND
zeros_at p i n is = read_as (λ page. kind_of page ≢ REUSE_KIND) p.pages i (replicate n 0) is (λ e. omega (arith, e, zeros_kind n)) no_kind

-- a page that is no reuse page names no next one
other_next : (page : List ℕ) → kind_of page ≢ REUSE_KIND → reuse_next_of page ≡ 0
other_next page other = simp (ne_eqb (kind_of page) REUSE_KIND other) refl

reuse_next : (page : List ℕ) → kind_of page ≡ REUSE_KIND → reuse_next_of page ≡ next_of page
reuse_next page is = simp (eq-eqb (kind_of page) REUSE_KIND is) refl

-- the numbers of a meta page
pub number_by : (a : Partition) (slot : MetaSlot) (meta : List ℕ) → a 0 ≡ Some meta → number_in a slot ≡ field_of meta slot
number_by a slot meta is = ap (λ o. number_of o slot) is

-- pages were changed, none of which is or was a reuse page, and not the meta page
pub moves_edit : (T : Type 0) (a b : Paged) (touched : ℕ → Type 0) (m : ℕ) → T → EditsPages T a b touched m → (touched 0 → ⊥) → ((j : ℕ) → touched j ⊎ (touched j → ⊥))
    → ((j : ℕ) → touched j → (kind_of (page_at a.pages j) ≢ REUSE_KIND) × (kind_of (page_at b.pages j) ≢ REUSE_KIND)) → MovesSpare a.pages b.pages [] []
moves_edit T a b touched m t edits out decides other =
    let meta : b.pages 0 ≡ a.pages 0 = edits.others 0 (inl t) out in
    let count : page_count b.pages ≡ page_count a.pages = ap (λ o. number_of o Pages) meta in
    moves_none a.pages b.pages (ap (λ o. number_of o Reuse) meta) count
    (λ j not_zero. elim (decides j) [
      | inl h ↦ (let k = other j h in other_next (page_at b.pages j) k.1 ∙ sym (other_next (page_at a.pages j) k.0))
      | inr away ↦ ap reuse_next_of (same_at a.pages b.pages j count (edits.others j (inl t) away))
    ])
    (λ j not_zero kind. elim (decides j) [
      | inl h ↦ (let k = other j h in absurd (k.0 kind))
      | inr away ↦ ap kind_of (same_at a.pages b.pages j count (edits.others j (inl t) away)) ∙ kind
    ])

-- one such page, or two
pub moves_page : (T : Type 0) (a b : Paged) (i m : ℕ) → T → 1 ≤ i → EditsPages T a b (λ j. j ≡ i) m → kind_of (page_at a.pages i) ≢ REUSE_KIND → kind_of (page_at b.pages i) ≢ REUSE_KIND → MovesSpare a.pages b.pages [] []
moves_page T a b i m t some edits was now =
    moves_edit T a b (λ j. j ≡ i) m t edits (λ e. omega (arith, e, some)) (λ j. cases_eq j i)
    (λ j e. (λ k. was (ap (λ n. kind_of (page_at a.pages n)) (sym e) ∙ k), λ k. now (ap (λ n. kind_of (page_at b.pages n)) (sym e) ∙ k)))

pub moves_pages : (T : Type 0) (a b : Paged) (i k m : ℕ) → T → 1 ≤ i → 1 ≤ k → EditsPages T a b (λ j. (j ≡ i) ⊎ (j ≡ k)) m → kind_of (page_at a.pages i) ≢ REUSE_KIND → kind_of (page_at b.pages i) ≢ REUSE_KIND
    → kind_of (page_at a.pages k) ≢ REUSE_KIND → kind_of (page_at b.pages k) ≢ REUSE_KIND → MovesSpare a.pages b.pages [] []
moves_pages T a b i k m t some_i some_k edits was_i now_i was_k now_k =
    moves_edit T a b (λ j. (j ≡ i) ⊎ (j ≡ k)) m t edits (λ h. elim h [ inl e ↦ omega (arith, e, some_i) | inr e ↦ omega (arith, e, some_k) ])
    (λ j. elim (cases_eq j i) [ inl e ↦ inl (inl e) | inr ne ↦ elim (cases_eq j k) [ inl e ↦ inl (inr e) | inr other ↦ inr (λ h. elim h [ inl e ↦ ne e | inr e ↦ other e ]) ] ])
    (λ j h. elim h [
      | inl e ↦ (λ z. was_i (ap (λ n. kind_of (page_at a.pages n)) (sym e) ∙ z), λ z. now_i (ap (λ n. kind_of (page_at b.pages n)) (sym e) ∙ z))
      | inr e ↦ (λ z. was_k (ap (λ n. kind_of (page_at a.pages n)) (sym e) ∙ z), λ z. now_k (ap (λ n. kind_of (page_at b.pages n)) (sym e) ∙ z))
    ])

-- pages were only looked at
pub moves_look : (T : Type 0) (a b : Paged) (m : ℕ) → T → LooksAtPages T a b m → MovesSpare a.pages b.pages [] []
moves_look T a b m t looks =
    let count : page_count b.pages ≡ page_count a.pages = ap (λ o. number_of o Pages) (looks.pages 0 (inl t)) in
    moves_none a.pages b.pages (ap (λ o. number_of o Reuse) (looks.pages 0 (inl t))) count
    (λ j not_zero. ap reuse_next_of (same_at a.pages b.pages j count (looks.pages j (inl t))))
    (λ j not_zero kind. ap kind_of (same_at a.pages b.pages j count (looks.pages j (inl t))) ∙ kind)

-- a number of the meta page was set, but that of the reuse chain's first page or the page count
pub moves_number : (T : Type 0) (a b : Paged) (slot : MetaSlot) (value m : ℕ) → T → slot ≢ Reuse → slot ≢ Pages → EditsPages T a b (λ j. j ≡ 0) m → MetaBecomes a b (λ was now. SetsNumber was now slot value) → MovesSpare a.pages b.pages [] []
moves_number T a b slot value m t not_reuse not_pages edits sets =
    let reuse : number_in b.pages Reuse ≡ number_in a.pages Reuse = number_by b.pages Reuse sets.now sets.after ∙ sets.change.others Reuse tt (λ e. not_reuse (sym e)) ∙ sym (number_by a.pages Reuse sets.was sets.before) in
    let count : page_count b.pages ≡ page_count a.pages = number_by b.pages Pages sets.now sets.after ∙ sets.change.others Pages tt (λ e. not_pages (sym e)) ∙ sym (number_by a.pages Pages sets.was sets.before) in
    moves_none a.pages b.pages reuse count
    (λ j not_zero. ap reuse_next_of (same_at a.pages b.pages j count (edits.others j (inl t) not_zero)))
    (λ j not_zero kind. ap kind_of (same_at a.pages b.pages j count (edits.others j (inl t) not_zero)) ∙ kind)

-- a page was taken
pub moves_take : (T : Type 0) (a b : Paged) (n i : ℕ) → T → TakesPage T a b n i → MovesSpare a.pages b.pages (i ∷ []) []
moves_take T a b n i t takes =
    let was = takes.numbers.was in
    let now = takes.numbers.now in
    let reuse_a = number_by a.pages Reuse was takes.numbers.before in
    let pages_a = number_by a.pages Pages was takes.numbers.before in
    let reuse_b = number_by b.pages Reuse now takes.numbers.after in
    let pages_b = number_by b.pages Pages now takes.numbers.after in
    elim takes.numbers.change [
      | inl r ↦ (let count : page_count b.pages ≡ page_count a.pages = pages_b ∙ r.sets.others Pages tt (λ e. cc e) ∙ sym pages_a in
          let below : i < page_count a.pages = omega (arith, r.below, pages_a) in
          let page : page_at a.pages i ≡ r.page = page_at-below a.pages i below ∙ ap bytes_of (r.told (inl t)) in
          moves_taken a.pages b.pages i (next_of r.page) takes.some (reuse_a ∙ r.head) below count (reuse_b ∙ r.sets.here) (ap reuse_next_of page ∙ reuse_next r.page r.kind)
          (λ j not_zero ne. same_at a.pages b.pages j count (takes.edits.others j (inl t) (λ h. elim h [ inl e ↦ not_zero e | inr e ↦ ne e ]))))
      | inr x ↦ moves_next a.pages b.pages i (reuse_a ∙ x.none) (reuse_b ∙ x.sets.others Reuse tt (λ e. cc e) ∙ x.none) (pages_a ∙ x.index) (pages_b ∙ x.sets.here)
    ]

-- a page of the partition that wasn't on the chain was given back
pub moves_give : (T : Type 0) (a b : Paged) (i : ℕ) → T → 1 ≤ i → i < page_count a.pages → times i (reuse_chain a.pages) ≡ 0 → GivesPage T a b i → MovesSpare a.pages b.pages [] (i ∷ [])
moves_give T a b i t some below away gives =
    let was = gives.numbers.was in
    let now = gives.numbers.now in
    let reuse_a = number_by a.pages Reuse was gives.numbers.before in
    let pages_a = number_by a.pages Pages was gives.numbers.before in
    let reuse_b = number_by b.pages Reuse now gives.numbers.after in
    let pages_b = number_by b.pages Pages now gives.numbers.after in
    let change = gives.numbers.change in
    let count : page_count b.pages ≡ page_count a.pages = pages_b ∙ change.1.others Pages tt (λ e. cc e) ∙ sym pages_a in
    let below_b : i < page_count b.pages = omega (arith, below, count) in
    let page : page_at b.pages i ≡ gives.page = page_at-below b.pages i below_b ∙ ap bytes_of gives.here in
    let kind : kind_of gives.page ≡ REUSE_KIND = gives.stored.well_made.kind in
    moves_given a.pages b.pages i (field_of was Reuse) some below away reuse_a count (reuse_b ∙ change.1.here) (ap kind_of page ∙ kind) (ap reuse_next_of page ∙ reuse_next gives.page kind ∙ change.0)
    (λ j not_zero ne. same_at a.pages b.pages j count (gives.edits.others j (inl t) (λ h. elim h [ inl e ↦ not_zero e | inr e ↦ ne e ])))

-- a page that is no reuse page isn't on the chain
pub not_spare : (pages : Partition) (i : ℕ) → kind_of (page_at pages i) ≢ REUSE_KIND → HasSpare pages → times i (reuse_chain pages) ≡ 0
not_spare pages i other h = elim (cases_lt 0 (times i (reuse_chain pages))) [
  | inl lt ↦ absurd (other (stands (λ j. kind_of (page_at pages j) ≡ REUSE_KIND) (reuse_chain pages) h.kind i (omega (arith, lt))))
  | inr z ↦ omega (arith, z)
]

-- a page of another use was given back
pub moves_give_other : (T : Type 0) (a b : Paged) (i : ℕ) → T → 1 ≤ i → i < page_count a.pages → kind_of (page_at a.pages i) ≢ REUSE_KIND → GivesPage T a b i → MovesSpare a.pages b.pages [] (i ∷ [])
moves_give_other T a b i t some below other gives =
    let count : page_count b.pages ≡ page_count a.pages = number_by b.pages Pages gives.numbers.now gives.numbers.after ∙ gives.numbers.change.1.others Pages tt (λ e. cc e) ∙ sym (number_by a.pages Pages gives.numbers.was gives.numbers.before) in
    record {
      count = omega (arith, count);
      sound = λ h. (moves_give T a b i t some below (not_spare a.pages i other h) gives).sound h;
      moved = λ h j. (moves_give T a b i t some below (not_spare a.pages i other h) gives).moved h j;
      room = λ h. (moves_give T a b i t some below (not_spare a.pages i other h) gives).room h;
    }
