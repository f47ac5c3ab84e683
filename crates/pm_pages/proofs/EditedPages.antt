-- Calls on pages one after the other: what they left together.
use Rattle.std.proofs.Common.{◌≡◌, ℕ, ◌+◌, ◌<◌, ◌≤◌, ◌⊎◌, Bool, List, refl, sym, ap, subst, ◌∙◌, inl, inr, arith}
use Rattle.std.specs.Prelude.{Option, None, Some, IsSome, IsSomeAnd, IsTrue, slice_index}
use Rattle.std.proofs.lemmas.Bool.{cases_eq, eq-eqb, ne_eqb}
use Rattle.pm_types.specs.Spans.{Coverage, Covers}
use Rattle.pm_types.specs.Pages.{SameOutside}
use Rattle.pm_pages.specs.Rows.{bytes_of}
use Rattle.pm_pages.specs.Paged.{Paged, IsTold, SamePartition, AsksPage, LendsNone, IsWhole, CoversByte, JoinsPatch, WritesPage, MakesPage, NotesPatch, with_page}
use Rattle.pm_pages.specs.Edits.{byte_of, LooksAtPages, EditsPages, RewritesPage}

pub same_then : (a b c : Paged) → SamePartition a b → SamePartition b c → SamePartition a c
same_then a b c x y = record {
  page_size = y.page_size ∙ x.page_size;
  max_rows = y.max_rows ∙ x.max_rows;
  part = y.part ∙ x.part;
  faults = omega (arith, x.faults, y.faults);
}

-- what was told is told still
pub told_still : (T : Type 0) (a b : Paged) (j : ℕ) → (IsTrue (a.known j) → IsTrue (b.known j)) → IsTold T a j → IsTold T b j
told_still T a b j known told = elim told [ inl t ↦ inl t | inr k ↦ inr (known k) ]

pub looks_at_none : (T : Type 0) (a : Paged) → LooksAtPages T a a 0
looks_at_none T a = record {
  pages = λ j told. refl;
  known = λ j h. h;
  asked = λ j h. h;
  lent = λ j h. h;
  none_lent = λ j h. h;
  patches = λ j. refl;
  spare = omega arith;
  same = record { page_size = refl; max_rows = refl; part = refl; faults = omega arith };
}

-- one page was asked for
pub looks_once : (T : Type 0) (a b : Paged) (i : ℕ) → AsksPage T a b i → LendsNone a b → LooksAtPages T a b 1
looks_once T a b i asks none = record {
  pages = asks.pages;
  known = asks.known;
  asked = asks.room.others;
  lent = asks.lent;
  none_lent = none;
  patches = asks.patches;
  spare = asks.room.most;
  same = asks.same;
}

-- one page was asked for again, or not given
pub looks_again : (T : Type 0) (a b : Paged) (i : ℕ) → AsksPage T a b i → LendsNone a b → a.spare ≤ b.spare → LooksAtPages T a b 0
looks_again T a b i asks none spare = record {
  pages = asks.pages;
  known = asks.known;
  asked = asks.room.others;
  lent = asks.lent;
  none_lent = none;
  patches = asks.patches;
  spare = omega (arith, spare);
  same = asks.same;
}

pub looks_then : (T : Type 0) (a b c : Paged) (m n : ℕ) → LooksAtPages T a b m → LooksAtPages T b c n → LooksAtPages T a c (m + n)
looks_then T a b c m n x y = record {
  pages = λ j told. y.pages j (told_still T a b j (x.known j) told) ∙ x.pages j told;
  known = λ j h. y.known j (x.known j h);
  asked = λ j h. y.asked j (x.asked j h);
  lent = λ j h. y.lent j (x.lent j h);
  none_lent = λ j h. x.none_lent j (y.none_lent j h);
  patches = λ j. y.patches j ∙ x.patches j;
  spare = omega (arith, x.spare, y.spare);
  same = same_then a b c x.same y.same;
}

pub looks_more : (T : Type 0) (a b : Paged) (m n : ℕ) → m ≤ n → LooksAtPages T a b m → LooksAtPages T a b n
looks_more T a b m n le x = record {
  pages = x.pages;
  known = x.known;
  asked = x.asked;
  lent = x.lent;
  none_lent = x.none_lent;
  patches = x.patches;
  spare = omega (arith, x.spare, le);
  same = x.same;
}

-- pages that were looked at are edited nowhere
pub edits_looked : (T : Type 0) (a b : Paged) (touched : ℕ → Type 0) (m : ℕ) → LooksAtPages T a b m → EditsPages T a b touched m
edits_looked T a b touched m x = record {
  others = λ j told out. x.pages j told;
  known = x.known;
  asked = x.asked;
  lent = x.lent;
  covers = λ j k lt h. subst (λ o. CoversByte o k) (sym (x.patches j)) h;
  covered = λ j k lt told out. ap (λ o. slice_index (bytes_of o) k) (x.pages j told);
  spare = x.spare;
  same = x.same;
}

pub edits_then : (T : Type 0) (a b c : Paged) (X Y : ℕ → Type 0) (m n : ℕ) → EditsPages T a b X m → EditsPages T b c Y n → EditsPages T a c (λ j. X j ⊎ Y j) (m + n)
edits_then T a b c X Y m n x y = record {
  others = λ j told out. y.others j (told_still T a b j (x.known j) told) (λ h. out (inr h)) ∙ x.others j told (λ h. out (inl h));
  known = λ j h. y.known j (x.known j h);
  asked = λ j h. y.asked j (x.asked j h);
  lent = λ j h. y.lent j (x.lent j h);
  covers = λ j k lt h. y.covers j k (omega (arith, lt, x.same.page_size)) (x.covers j k lt h);
  covered = λ j k lt told out. (let lt' : k < b.page_size = omega (arith, lt, x.same.page_size) in y.covered j k lt' (told_still T a b j (x.known j) told) out ∙ x.covered j k lt told (λ h. out (y.covers j k lt' h)));
  spare = omega (arith, x.spare, y.spare);
  same = same_then a b c x.same y.same;
}

pub edits_more : (T : Type 0) (a b : Paged) (X Y : ℕ → Type 0) (m n : ℕ) → ((j : ℕ) → X j → Y j) → m ≤ n → EditsPages T a b X m → EditsPages T a b Y n
edits_more T a b X Y m n wider le x = record {
  others = λ j told out. x.others j told (λ h. out (wider j h));
  known = x.known;
  asked = x.asked;
  lent = x.lent;
  covers = x.covers;
  covered = x.covered;
  spare = omega (arith, x.spare, le);
  same = x.same;
}

-- a page was asked for to be written
pub edits_asked : (T : Type 0) (a b : Paged) (i : ℕ) (touched : ℕ → Type 0) → AsksPage T a b i → EditsPages T a b touched 1
edits_asked T a b i touched asks = record {
  others = λ j told out. asks.pages j told;
  known = asks.known;
  asked = asks.room.others;
  lent = asks.lent;
  covers = λ j k lt h. subst (λ o. CoversByte o k) (sym (asks.patches j)) h;
  covered = λ j k lt told out. ap (λ o. slice_index (bytes_of o) k) (asks.pages j told);
  spare = asks.room.most;
  same = asks.same;
}

-- a page that was asked for before was asked for to be written
pub edits_asked_again : (T : Type 0) (a b : Paged) (i : ℕ) (touched : ℕ → Type 0) → IsTrue (a.asked i) → AsksPage T a b i → EditsPages T a b touched 0
edits_asked_again T a b i touched before asks = record {
  others = λ j told out. asks.pages j told;
  known = asks.known;
  asked = asks.room.others;
  lent = asks.lent;
  covers = λ j k lt h. subst (λ o. CoversByte o k) (sym (asks.patches j)) h;
  covered = λ j k lt told out. ap (λ o. slice_index (bytes_of o) k) (asks.pages j told);
  spare = omega (arith, asks.room.again before);
  same = asks.same;
}

covers_joined : (o o' : Option Coverage) (patch : Coverage) (k : ℕ) → IsSomeAnd o' (JoinsPatch o patch) → CoversByte o k → CoversByte o' k
covers_joined None o' patch k joins h = absurd h
covers_joined (Some old) None patch k joins h = absurd joins
covers_joined (Some old) (Some new) patch k joins h = joins.keeps k h

covers_patch : (o o' : Option Coverage) (patch : Coverage) (k : ℕ) → IsSomeAnd o' (JoinsPatch o patch) → Covers patch k → CoversByte o' k
covers_patch o None patch k joins h = absurd joins
covers_patch None (Some new) patch k joins h = subst (λ (p : Coverage). Covers p k) (sym joins) h
covers_patch (Some old) (Some new) patch k joins h = joins.adds k h

-- the bytes of page i were written, and the patch that covers what changed was joined to its own
pub edits_written : (T : Type 0) (a b c : Paged) (i : ℕ) (was now : List ℕ) (patch : Coverage) → a.pages i ≡ Some was → WritesPage a b i now → NotesPatch T b c i patch → SameOutside (Covers patch) was now → EditsPages T a c (λ j. j ≡ i) 0
edits_written T a b c i was now patch is writes notes outside = record {
  others = λ j told out. notes.pages j (told_b j told) ∙ writes.pages j ∙ away j out;
  known = λ j h. sym_true (notes.known j ∙ writes.known j) h;
  asked = λ j h. sym_true (notes.asked j ∙ writes.asked j) h;
  lent = λ j h. sym_true (notes.lent j ∙ writes.lent j) h;
  covers = λ j k lt h. (let h' : CoversByte (b.patch j) k = subst (λ o. CoversByte o k) (sym (writes.patches j)) h in elim (cases_eq j i) [
    | inl e ↦ subst (λ n. CoversByte (c.patch n) k) (sym e) (covers_joined (b.patch i) (c.patch i) patch k notes.joins (subst (λ n. CoversByte (b.patch n) k) e h'))
    | inr ne ↦ subst (λ o. CoversByte o k) (sym (notes.patches j ne)) h'
  ]);
  covered = λ j k lt told out. ap (λ o. slice_index (bytes_of o) k) (notes.pages j (told_b j told) ∙ writes.pages j) ∙ byte j k out;
  spare = omega (arith, writes.spare, notes.spare);
  same = same_then a b c writes.same notes.same;
}
  where
    sym_true : {x y : Bool} → y ≡ x → IsTrue x → IsTrue y
    sym_true e h = e ∙ h

    told_b : (j : ℕ) → IsTold T a j → IsTold T b j
    told_b j told = told_still T a b j (λ h. writes.known j ∙ h) told

    away : (j : ℕ) → (j ≡ i → ⊥) → with_page a.pages i now j ≡ a.pages j
    away j out = simp (ne_eqb j i out) refl

    byte : (j k : ℕ) → (CoversByte (c.patch j) k → ⊥) → slice_index (bytes_of (with_page a.pages i now j)) k ≡ byte_of a j k
    byte j k out = elim (cases_eq j i) [
      | inl e ↦ simp (eq-eqb j i e) (outside.bytes k (λ h. out (subst (λ n. CoversByte (c.patch n) k) (sym e) (covers_patch (b.patch i) (c.patch i) patch k notes.joins h))) ∙ ap (λ o. slice_index (bytes_of o) k) (sym (ap a.pages e ∙ is)))
      | inr ne ↦ ap (λ o. slice_index (bytes_of o) k) (away j ne)
    ]

pub some_bytes : (o : Option (List ℕ)) → IsSome o → (was : List ℕ) × (o ≡ Some was)
some_bytes None h = absurd (cc h)
some_bytes (Some was) h = (was, refl)

-- a page that was lent was written, and its patch noted
pub edits_lent : (T : Type 0) (a b c : Paged) (i : ℕ) (before patch : Coverage) (change : List ℕ → List ℕ → Type 0) → RewritesPage a b i before patch change → NotesPatch T b c i patch → EditsPages T a c (λ j. j ≡ i) 0
edits_lent T a b c i before patch change writes notes = edits_written T a b c i writes.was writes.now patch writes.is writes.writes notes writes.noted.outside

-- a patch that is the whole page covers each of its bytes
pub whole_covers : (size : ℕ) (o : Option Coverage) → IsSomeAnd o (IsWhole size) → (k : ℕ) → k < size → CoversByte o k
whole_covers size None whole k lt = absurd whole
whole_covers size (Some patch) whole k lt = inl (whole.whole, omega (arith, whole.size, lt))

-- a page was made anew
pub edits_made : (T : Type 0) (a b : Paged) (i : ℕ) → MakesPage T a b i → EditsPages T a b (λ j. j ≡ i) 1
edits_made T a b i makes = record {
  others = λ j told out. makes.pages j out told;
  known = makes.known;
  asked = makes.room.others;
  lent = makes.lent;
  covers = λ j k lt h. elim (cases_eq j i) [
    | inl e ↦ subst (λ n. CoversByte (b.patch n) k) (sym e) (whole_covers a.page_size (b.patch i) makes.whole k lt)
    | inr ne ↦ subst (λ o. CoversByte o k) (sym (makes.patches j ne)) h
  ];
  covered = λ j k lt told out. elim (cases_eq j i) [
    | inl e ↦ absurd (out (subst (λ n. CoversByte (b.patch n) k) (sym e) (whole_covers a.page_size (b.patch i) makes.whole k lt)))
    | inr ne ↦ ap (λ o. slice_index (bytes_of o) k) (makes.pages j ne told)
  ];
  spare = makes.room.most;
  same = makes.same;
}

-- a page that was asked for before was made anew
pub edits_remade : (T : Type 0) (a b : Paged) (i : ℕ) → IsTrue (a.asked i) → MakesPage T a b i → EditsPages T a b (λ j. j ≡ i) 0
edits_remade T a b i before makes =
    let x = edits_made T a b i makes in
    record {
      others = x.others;
      known = x.known;
      asked = x.asked;
      lent = x.lent;
      covers = x.covers;
      covered = x.covered;
      spare = omega (arith, makes.room.again before);
      same = x.same;
    }

-- bytes were written on a page that its patch covers as a whole
pub edits_covered : (T : Type 0) (a b : Paged) (i : ℕ) (now : List ℕ) → ((k : ℕ) → k < a.page_size → CoversByte (a.patch i) k) → WritesPage a b i now → EditsPages T a b (λ j. j ≡ i) 0
edits_covered T a b i now whole writes = record {
  others = λ j told out. writes.pages j ∙ away j out;
  known = λ j h. writes.known j ∙ h;
  asked = λ j h. writes.asked j ∙ h;
  lent = λ j h. writes.lent j ∙ h;
  covers = λ j k lt h. subst (λ o. CoversByte o k) (sym (writes.patches j)) h;
  covered = λ j k lt told out. elim (cases_eq j i) [
    | inl e ↦ absurd (out (subst (λ o. CoversByte o k) (sym (writes.patches j)) (subst (λ n. CoversByte (a.patch n) k) (sym e) (whole k lt))))
    | inr ne ↦ ap (λ o. slice_index (bytes_of o) k) (writes.pages j ∙ away j ne)
  ];
  spare = omega (arith, writes.spare);
  same = writes.same;
}
  where
    away : (j : ℕ) → (j ≡ i → ⊥) → with_page a.pages i now j ≡ a.pages j
    away j out = simp (ne_eqb j i out) refl

-- bytes were written on a page of which the patch is the whole page
pub edits_whole : (T : Type 0) (a b : Paged) (i : ℕ) (now : List ℕ) → IsSomeAnd (a.patch i) (IsWhole a.page_size) → WritesPage a b i now → EditsPages T a b (λ j. j ≡ i) 0
edits_whole T a b i now whole writes = edits_covered T a b i now (λ k lt. whole_covers a.page_size (a.patch i) whole k lt) writes
