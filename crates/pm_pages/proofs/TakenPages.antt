-- Pages that are taken and given back, step by step.
use Rattle.std.proofs.Common.{◌≡◌, ℕ, ◌+◌, ◌-◌, ◌<◌, ◌≤◌, ◌⊎◌, List, length, replicate, refl, sym, ap, subst, ◌∙◌, inl, inr, arith}
use Rattle.std.proofs.lemmas.Bool.{ne_eqb, eq-eqb}
use Rattle.std.specs.Prelude.{Option, Some, IsSome, IsSomeAnd, Result, IfSome}
use Rattle.pm_pages.specs.Passes.{PassesAt}
use Rattle.pm_types.specs.Counts.{HasRisen}
use Rattle.pm_types.specs.Ids.{page_id}
use Rattle.pm_types.specs.declared.page_id.PageId.{PageId}
use Rattle.pm_types.specs.declared.fault.PageFault.{PageFault}
use Rattle.pm_meta.specs.declared.slots.MetaSlot.{MetaSlot}
use Rattle.pm_meta.specs.declared.slots.MetaSlot.TheVariants.{Reuse, Pages}
use Rattle.pm_meta.specs.MetaPages.{field_of, next_of, IsStoredReuse}
use Rattle.pm_pages.specs.Paged.{Paged, IsTold, IsInHand, IsWhole, MakesPage, WritesPage, IsBadPage, IsAfterGap, HasPageCause, HasGapCause, with_page}
use Rattle.pm_pages.specs.Edits.{LooksAtPages, EditsPages, HasMeta, IsNumberIn}
use Rattle.pm_pages.specs.SparePages.{IsMetaOr, SetsNumber, MetaBecomes, Takes, TakesPage, GivesPage, IsReuseIn, IsFirstReuse, IsAfterLast, IsTakenNext, HasTakeCause}
use Rattle.pm_pages.proofs.EditedPages.{edits_then, edits_more, edits_made, edits_looked, edits_whole, told_still, whole_covers}

-- the meta page is at hand still
pub meta_looked : (T : Type 0) (a b : Paged) (m : ℕ) → LooksAtPages T a b m → HasMeta a → HasMeta b
meta_looked T a b m looks meta = record {
  known = looks.known 0 meta.known;
  asked = looks.asked 0 meta.asked;
  there = subst IsSome (sym (looks.pages 0 (inr meta.known))) meta.there;
}

pub meta_made : (T : Type 0) (a b : Paged) (i : ℕ) → 1 ≤ i → MakesPage T a b i → HasMeta a → HasMeta b
meta_made T a b i some makes meta = record {
  known = makes.known 0 meta.known;
  asked = makes.room.others 0 meta.asked;
  there = subst IsSome (sym (makes.pages 0 (λ e. omega (arith, e, some)) (inr meta.known))) meta.there;
}

pub meta_written : (a b : Paged) (i : ℕ) (now : List ℕ) → 1 ≤ i → WritesPage a b i now → HasMeta a → HasMeta b
meta_written a b i now some writes meta = record {
  known = writes.known 0 ∙ meta.known;
  asked = writes.asked 0 ∙ meta.asked;
  there = subst IsSome (sym (writes.pages 0 ∙ other)) meta.there;
}
  where
    other : with_page a.pages i now 0 ≡ a.pages 0
    other = simp (ne_eqb 0 i (λ e. omega (arith, e, some))) refl

-- a number of the meta page is the one that it has
pub number_of : (a : Paged) (slot : MetaSlot) (n : ℕ) (was : List ℕ) → IsNumberIn a slot n → a.pages 0 ≡ Some was → field_of was slot ≡ n
number_of a slot n was is e =
    let same : is.meta ≡ was = cc (is.in_hand.page, e) in
    ap (λ (m : List ℕ). field_of m slot) (sym same) ∙ sym is.is

pub number_looked : (T : Type 0) (a b : Paged) (m : ℕ) (slot : MetaSlot) (n : ℕ) → LooksAtPages T a b m → IsNumberIn a slot n → IsNumberIn b slot n
number_looked T a b m slot n looks is = record {
  meta = is.meta;
  in_hand = record { known = looks.known 0 is.in_hand.known; asked = looks.asked 0 is.in_hand.asked; page = looks.pages 0 (inr is.in_hand.known) ∙ is.in_hand.page };
  is = is.is;
}

-- a page was made, and then a number of the meta page was set: the page was taken
pub takes_made : (T : Type 0) (a b c : Paged) (i : ℕ) (slot : MetaSlot) (value n : ℕ) → 1 ≤ i → HasMeta a → MakesPage T a b i → EditsPages T a b (λ j. j ≡ i) n → EditsPages T b c (λ j. j ≡ 0) 0 → MetaBecomes b c (λ was now. SetsNumber was now slot value)
    → ((was now : List ℕ) → a.pages 0 ≡ Some was → SetsNumber was now slot value → Takes T a i was now) → TakesPage T a c n i
takes_made T a b c i slot value n some meta makes first edits sets takes =
    let told0 : IsTold T a 0 = inr meta.known in
    let none : i ≡ 0 → ⊥ = λ e. omega (arith, e, some) in
    let before : a.pages 0 ≡ Some sets.was = sym (makes.pages 0 (λ e. none (sym e)) told0) ∙ sets.before in
    let told_i : IsTold T b i = inr makes.lends.known in
    record {
      some = some;
      edits = edits_more T a c (λ j. (j ≡ i) ⊎ (j ≡ 0)) (IsMetaOr i) (n + 0) n (λ j h. elim h [ inl e ↦ inr e | inr e ↦ inl e ]) (omega arith) (edits_then T a b c (λ j. j ≡ i) (λ j. j ≡ 0) n 0 first edits);
      zeros = edits.others i told_i none ∙ makes.here;
      lent = record { known = edits.known i makes.lends.known; asked = edits.asked i makes.lends.asked; lent = edits.lent i makes.lends.lent; there = subst IsSome (sym (edits.others i told_i none)) makes.lends.there };
      covered = λ k lt. edits.covers i k (omega (arith, lt, makes.same.page_size)) (whole_covers a.page_size (b.patch i) makes.whole k lt);
      meta = record { known = edits.known 0 (makes.known 0 meta.known); asked = edits.asked 0 (makes.room.others 0 meta.asked); there = subst IsSome (sym sets.after) refl };
      numbers = record { was = sets.was; now = sets.now; before = before; after = sets.after; change = takes sets.was sets.now before sets.change };
    }

-- a page was taken after looks at others
pub takes_looked : (T : Type 0) (a b c : Paged) (m n i : ℕ) → HasMeta a → LooksAtPages T a b m → TakesPage T b c n i → TakesPage T a c (m + n) i
takes_looked T a b c m n i meta looks takes =
    let told0 : IsTold T a 0 = inr meta.known in
    record {
      some = takes.some;
      edits = edits_more T a c (λ j. IsMetaOr i j ⊎ IsMetaOr i j) (IsMetaOr i) (m + n) (m + n) (λ j h. elim h [ inl e ↦ e | inr e ↦ e ]) (omega arith) (edits_then T a b c (IsMetaOr i) (IsMetaOr i) m n (edits_looked T a b (IsMetaOr i) m looks) takes.edits);
      zeros = takes.zeros ∙ ap (λ n. Some (replicate n 0)) looks.same.page_size;
      lent = takes.lent;
      covered = λ k lt. takes.covered k (omega (arith, lt, looks.same.page_size));
      meta = takes.meta;
      numbers = record {
        was = takes.numbers.was;
        now = takes.numbers.now;
        before = sym (looks.pages 0 told0) ∙ takes.numbers.before;
        after = takes.numbers.after;
        change = elim takes.numbers.change [
          | inl r ↦ inl (record { page = r.page; told = λ told. sym (looks.pages i told) ∙ r.told (told_still T a b i (looks.known i) told); kind = r.kind; head = r.head; below = r.below; sets = r.sets })
          | inr n ↦ inr n
        ];
      };
    }

-- the page after the last is made
pub takes_next : (a : Paged) (T : Type 0) (i : ℕ) (was now : List ℕ) → IsNumberIn a Reuse 0 → IsNumberIn a Pages i → a.pages 0 ≡ Some was → SetsNumber was now Pages (i + 1) → Takes T a i was now
takes_next a T i was now head count e sets = inr (record { none = number_of a Reuse 0 was head e; index = number_of a Pages i was count e; sets = sets })

-- the first page of the reuse chain is made anew
pub takes_head : (a : Paged) (T : Type 0) (i count next : ℕ) (was now : List ℕ) → IsNumberIn a Reuse i → IsNumberIn a Pages count → i < count → IsReuseIn a i next → a.pages 0 ≡ Some was → SetsNumber was now Reuse next → Takes T a i was now
takes_head a T i count next was now head number below reuse e sets = inl (record {
  page = reuse.page;
  told = λ told. reuse.in_hand.page;
  kind = reuse.kind;
  head = number_of a Reuse i was head e;
  below = omega (arith, below, number_of a Pages count was number e);
  sets = subst (SetsNumber was now Reuse) reuse.is sets;
})

-- a bad page was so before others were looked at
pub bad_before : (T : Type 0) (a b : Paged) (m i : ℕ) (id : PageId) → LooksAtPages T a b m → IsBadPage T b i id → IsBadPage T a i id
bad_before T a b m i id looks bad = record {
  name = bad.name ∙ ap (λ n. page_id n i) looks.same.part;
  known = λ k. sym (looks.pages i (inr k)) ∙ bad.known (looks.known i k);
  told = λ t. subst (λ (q : Option (List ℕ) × ℕ × ℕ × ℕ). IfSome q.0 (λ bytes. PassesAt q.1 q.2 q.3 i bytes → ⊥)) {x = (b.pages i, b.page_size, b.max_rows, b.part)} {y = (a.pages i, a.page_size, a.max_rows, a.part)}
      (λ k. (looks.pages i (inl t) k, looks.same.page_size k, looks.same.max_rows k, looks.same.part k)) (bad.told t);
  first = λ e told. subst IsSome (looks.pages i told) (bad.first e (told_still T a b i (looks.known i) told));
}

gap_before : (T : Type 0) (a b : Paged) (m i : ℕ) (id : PageId) → LooksAtPages T a b m → IsAfterGap T b i id → IsAfterGap T a i id
gap_before T a b m i id looks gap = record {
  later = gap.later;
  name = gap.name ∙ ap (λ n. page_id n (i - 1)) looks.same.part;
  absent = λ told. sym (looks.pages (i - 1) told) ∙ gap.absent (told_still T a b (i - 1) (looks.known (i - 1)) told);
}

risen_before : (T : Type 0) (a b : Paged) (m now : ℕ) → LooksAtPages T a b m → HasRisen b.faults now → HasRisen a.faults now
risen_before T a b m now looks risen = omega (arith, risen, looks.same.faults)

-- the meta page is at hand before others were looked at, if it was then
meta_before : (T : Type 0) (a b : Paged) (m : ℕ) (page : List ℕ) → HasMeta a → LooksAtPages T a b m → IsInHand b 0 page → IsInHand a 0 page
meta_before T a b m page meta looks hand = record { known = meta.known; asked = meta.asked; page = sym (looks.pages 0 (inr meta.known)) ∙ hand.page }

first_before : (T : Type 0) (a b : Paged) (m i : ℕ) → HasMeta a → LooksAtPages T a b m → IsFirstReuse b i → IsFirstReuse a i
first_before T a b m i meta looks first = record { some = first.some; meta = first.meta; in_hand = meta_before T a b m first.meta meta looks first.in_hand; head = first.head; below = first.below }

next_before : (T : Type 0) (a b : Paged) (m i : ℕ) → HasMeta a → LooksAtPages T a b m → IsTakenNext b i → IsTakenNext a i
next_before T a b m i meta looks next = elim next [
  | inl first ↦ inl (first_before T a b m i meta looks first)
  | inr last ↦ inr (record { meta = last.meta; in_hand = meta_before T a b m last.meta meta looks last.in_hand; none = last.none; count = last.count })
]

pub cause_looked : {R : Type 0} (T : Type 0) (a b c : Paged) (m : ℕ) (result : Result R PageFault) → HasMeta a → LooksAtPages T a b m → HasTakeCause T b c result → HasTakeCause T a c result
cause_looked T a b c m result meta looks cause = record {
  failed = λ e. risen_before T a b m c.faults looks (cause.failed e);
  bad = λ id e. elim (cause.bad id e) [
    | inl names ↦ inl names
    | inr r ↦ elim r [
      | inl bad ↦ inr (inl (record { index = bad.index; is_first = first_before T a b m bad.index meta looks bad.is_first; bad = bad_before T a b m bad.index id looks bad.bad }))
      | inr gap ↦ inr (inr (record { index = gap.index; is_next = next_before T a b m gap.index meta looks gap.is_next; gap = gap_before T a b m gap.index id looks gap.gap }))
    ]
  ];
}

-- a number of the reuse chain's first page that is below the page count
pub first_of : (a : Paged) (i count : ℕ) → 1 ≤ i → IsNumberIn a Reuse i → IsNumberIn a Pages count → i < count → IsFirstReuse a i
first_of a i count some head number below = record {
  some = some;
  meta = head.meta;
  in_hand = head.in_hand;
  head = sym head.is;
  below = omega (arith, below, number_of a Pages count head.meta number head.in_hand.page);
}

-- the page count, where the reuse chain is empty
pub last_of : (a : Paged) (i : ℕ) → IsNumberIn a Reuse 0 → IsNumberIn a Pages i → IsAfterLast a i
last_of a i head number = record {
  meta = head.meta;
  in_hand = head.in_hand;
  none = sym head.is;
  count = number_of a Pages i head.meta number head.in_hand.page;
}

-- of the first page of the chain, and of one made
pub cause_paged : {R : Type 0} (T : Type 0) (a c : Paged) (i : ℕ) (result : Result R PageFault) → IsFirstReuse a i → HasPageCause T a c.faults i result → HasTakeCause T a c result
cause_paged T a c i result first cause = record { failed = cause.failed; bad = λ id e. inr (inl (record { index = i; is_first = first; bad = cause.bad id e })) }

pub cause_gap : {R : Type 0} (T : Type 0) (a c : Paged) (i : ℕ) (result : Result R PageFault) → IsTakenNext a i → HasGapCause T a c.faults i result → HasTakeCause T a c result
cause_gap T a c i result next cause = record { failed = cause.failed; bad = λ id e. inr (inr (record { index = i; is_next = next; gap = cause.bad id e })) }

-- a page was made and written as a reuse page, and then it was the first of the chain: the page was given back
pub gives_made : (T : Type 0) (a b c d e : Paged) (i next : ℕ) (page : List ℕ) → 1 ≤ i → HasMeta a → LooksAtPages T a b 0 → IsNumberIn b Reuse next → MakesPage T b c i → WritesPage c d i page → length page ≡ c.page_size → IsStoredReuse (page_id c.part i) page → next_of page ≡ next
    → EditsPages T d e (λ j. j ≡ 0) 0 → MetaBecomes d e (λ was now. SetsNumber was now Reuse i) → GivesPage T a e i
gives_made T a b c d e i next page some meta looks number makes writes size stored is edits sets =
    let none : i ≡ 0 → ⊥ = λ z. omega (arith, z, some) in
    let none' : 0 ≡ i → ⊥ = λ z. omega (arith, z, some) in
    let told0 : IsTold T a 0 = inr meta.known in
    let part : c.part ≡ a.part = makes.same.part ∙ looks.same.part in
    let meta_d : d.pages 0 ≡ a.pages 0 = writes.pages 0 ∙ other none' ∙ makes.pages 0 none' (inr (looks.known 0 meta.known)) ∙ looks.pages 0 told0 in
    let made : EditsPages T a c (λ j. j ≡ i) (0 + 1) = edits_more T a c (λ j. (j ≡ i) ⊎ (j ≡ i)) (λ j. j ≡ i) (0 + 1) (0 + 1) (λ j h. elim h [ inl z ↦ z | inr z ↦ z ]) (omega arith) (edits_then T a b c (λ j. j ≡ i) (λ j. j ≡ i) 0 1 (edits_looked T a b (λ j. j ≡ i) 0 looks) (edits_made T b c i makes)) in
    let written : EditsPages T c d (λ j. j ≡ i) 0 = edits_whole T c d i page (subst (λ n. IsSomeAnd (c.patch i) (IsWhole n)) (sym makes.same.page_size) makes.whole) writes in
    record {
      edits = edits_more T a e (λ j. ((j ≡ i) ⊎ (j ≡ i)) ⊎ (j ≡ 0)) (IsMetaOr i) (0 + 1 + 0 + 0) 1 (λ j h. elim h [ inl z ↦ elim z [ inl y ↦ inr y | inr y ↦ inr y ] | inr z ↦ inl z ]) (omega arith)
          (edits_then T a d e (λ j. (j ≡ i) ⊎ (j ≡ i)) (λ j. j ≡ 0) (0 + 1 + 0) 0 (edits_then T a c d (λ j. j ≡ i) (λ j. j ≡ i) (0 + 1) 0 made written) edits);
      page = page;
      here = edits.others i (inr (writes.known i ∙ makes.lends.known)) none ∙ writes.pages i ∙ here;
      size = size ∙ makes.same.page_size ∙ looks.same.page_size;
      stored = subst (λ n. IsStoredReuse (page_id n i) page) part stored;
      meta = record { known = edits.known 0 (writes.known 0 ∙ makes.known 0 (looks.known 0 meta.known)); asked = edits.asked 0 (writes.asked 0 ∙ makes.room.others 0 (looks.asked 0 meta.asked)); there = subst IsSome (sym sets.after) refl };
      numbers = record {
        was = sets.was;
        now = sets.now;
        before = sym meta_d ∙ sets.before;
        after = sets.after;
        change = (is ∙ sym (number_of b Reuse next sets.was number (looks.pages 0 told0 ∙ sym meta_d ∙ sets.before)), sets.change);
      };
    }
  where
    other : (0 ≡ i → ⊥) → with_page c.pages i page 0 ≡ c.pages 0
    other ne = simp (ne_eqb 0 i ne) refl

    here : with_page c.pages i page i ≡ Some page
    here = simp (eq-eqb i i refl) refl
