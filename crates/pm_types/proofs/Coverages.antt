-- What covers besides: rising ranges are settled by what they hold, and so is when the whole page is needed.
use Rattle.std.proofs.Common.{◌≡◌, ℕ, ◌+◌, ◌-◌, ◌<◌, ◌≤◌, ◌⊎◌, ◌↔◌, false, List, [], ◌∷◌, length, get_or, take, slice_get, Some, zero, suc, IsTrue, refl, sym, ap, subst, ◌∙◌, inl, inr, arith}
use Rattle.std.proofs.lemmas.Bool.{cases_lt, cases_Bool, false≢true}
use Rattle.std.proofs.lemmas.List.{get_or-take}
use Rattle.std.proofs.lemmas.Option.{slice_get-get_or}
use Rattle.pm_types.specs.declared.spans.Span.{Span}
use Rattle.pm_types.proofs.PageSizeBounds.{page_size_bounds}
use Rattle.pm_types.specs.Spans.{IsInSpan, IsInSpans, RiseFrom, Lists, AreMany, Coverage, Covers, AlsoCovers, IsPatch}

pub rise_at : (xs : List Span) (low i : ℕ) (d : Span) → RiseFrom low xs → i < length xs → (get_or xs i d).start < (get_or xs i d).end
rise_at [] low i d rise lt = absurd (omega arith)
rise_at (x ∷ xs) low zero d rise lt = rise.1
rise_at (x ∷ xs) low (suc i) d rise lt = rise_at xs (x.end + 1) i d rise.2 (omega arith)

pub any_at : (xs : List Span) (i k : ℕ) (d : Span) → i < length xs → IsInSpan (get_or xs i d) k → IsInSpans xs k
any_at [] i k d lt h = absurd (omega arith)
any_at (x ∷ xs) zero k d lt h = inl h
any_at (x ∷ xs) (suc i) k d lt h = inr (any_at xs i k d (omega arith) h)

above : (xs : List Span) (low k : ℕ) → RiseFrom low xs → IsInSpans xs k → low ≤ k
above [] low k rise h = absurd h
above (x ∷ xs) low k rise h = elim h [ inl here ↦ omega (arith, rise.0, here.0) | inr rest ↦ omega (arith, rise.0, rise.1, above xs (x.end + 1) k rise.2 rest) ]

-- what holds the first byte of the other's first range begins there or before
starts_by : (x y : Span) (xs : List Span) (low : ℕ) → RiseFrom low (x ∷ xs) → IsInSpans (x ∷ xs) y.start → x.start ≤ y.start
starts_by x y xs low rise h = elim h [ inl here ↦ here.0 | inr rest ↦ omega (arith, rise.1, above xs (x.end + 1) y.start rise.2 rest) ]

-- a first range ends where the other does: the byte at its end isn't held
ends_by : (x y : Span) (xs : List Span) (low : ℕ) → RiseFrom low (x ∷ xs) → x.start ≡ y.start → ((k : ℕ) → IsInSpan y k → IsInSpans (x ∷ xs) k) → y.end ≤ x.end
ends_by x y xs low rise same all =
    elim (cases_lt x.end y.end) [
      | inl lt ↦ elim (all x.end (omega (arith, rise.1), lt)) [ inl here ↦ absurd (omega (arith, here.1)) | inr rest ↦ absurd (omega (arith, above xs (x.end + 1) x.end rise.2 rest)) ]
      | inr le ↦ le
    ]

-- after equal first ranges, the others hold the same
rest_of : (x y : Span) (xs ys : List Span) (low : ℕ) → RiseFrom low (x ∷ xs) → y.end ≡ x.end → ((k : ℕ) → IsInSpans (x ∷ xs) k → IsInSpans (y ∷ ys) k) → (k : ℕ) → IsInSpans xs k → IsInSpans ys k
rest_of x y xs ys low rise same all k h =
    let up = above xs (x.end + 1) k rise.2 h in
    elim (all k (inr h)) [ inl here ↦ absurd (omega (arith, here.1, up, same)) | inr rest ↦ rest ]

-- rising ranges that hold the same bytes are the same
pub rise_unique : (xs ys : List Span) (low : ℕ) → RiseFrom low xs → RiseFrom low ys → ((k : ℕ) → IsInSpans xs k → IsInSpans ys k) → ((k : ℕ) → IsInSpans ys k → IsInSpans xs k) → xs ≡ ys
rise_unique [] [] low rise_x rise_y to back = refl
rise_unique [] (y ∷ ys) low rise_x rise_y to back = absurd (back y.start (inl (omega arith, rise_y.1)))
rise_unique (x ∷ xs) [] low rise_x rise_y to back = absurd (to x.start (inl (omega arith, rise_x.1)))
rise_unique (x ∷ xs) (y ∷ ys) low rise_x rise_y to back =
    let a = starts_by x y xs low rise_x (back y.start (inl (omega arith, rise_y.1))) in
    let b = starts_by y x ys low rise_y (to x.start (inl (omega arith, rise_x.1))) in
    let start : x.start ≡ y.start = omega (arith, a, b) in
    let p = ends_by x y xs low rise_x start (λ k h. back k (inl h)) in
    let q = ends_by y x ys low rise_y (sym start) (λ k h. to k (inl h)) in
    let end : x.end ≡ y.end = omega (arith, p, q) in
    let tail : xs ≡ ys = rise_unique xs ys (x.end + 1) rise_x.2 (subst (λ e. RiseFrom (e + 1) ys) (sym end) rise_y.2) (rest_of x y xs ys low rise_x (sym end) to) (rest_of y x ys xs low rise_y end back) in
    λ j. (record { start = start j; end = end j }) ∷ tail j

-- the ranges of both, settled, are what covers besides
pub also_covers : (old new : Coverage) (set : ℕ → Type 0) (xs : List Span) → old.whole ≡ false → Lists xs (λ k. IsInSpans old.spans k ⊎ set k) → ((k : ℕ) → IsInSpans xs k → k < old.page_size) →
    new.page_size ≡ old.page_size → (IsTrue new.whole ↔ AreMany old.page_size xs) → (new.whole ≡ false → new.spans ≡ xs) → AlsoCovers old new set
also_covers old new set xs partly lists within size whole spans =
    let both : ℕ → Type 0 = λ k. Covers old k ⊎ set k in
    let told : (k : ℕ) → IsInSpans xs k → both k = λ k h. elim (lists.only k h) [ inl there ↦ inl (inr there) | inr added ↦ inr added ] in
    let held : (k : ℕ) → both k → IsInSpans xs k = λ k h. elim h [ inl was ↦ elim was [ inl all ↦ absurd (false≢true (sym partly ∙ all.0)) | inr there ↦ lists.all k (inl there) ] | inr added ↦ lists.all k (inr added) ] in
    let covered : (k : ℕ) → both k → Covers new k = λ k h. elim (cases_Bool new.whole) [ inl entire ↦ inl (entire, omega (arith, size, within k (held k h))) | inr part ↦ inr (subst (λ (t : List Span). IsInSpans t k) (sym (spans part)) (held k h)) ] in
    let alone : Lists xs both = record { rise = lists.rise; all = held; only = told } in
    record {
      size = size;
      keeps = λ k h. covered k (inl h);
      adds = λ k h. covered k (inr h);
      nothing_else = λ part k h. elim h [ inl all ↦ absurd (false≢true (sym part ∙ all.0)) | inr there ↦ told k (subst (λ (t : List Span). IsInSpans t k) (spans part) there) ];
      whole_if_needed = (
        λ entire. record { spans = xs; lists = alone; many = whole.0 entire },
        λ needed. let same : needed.spans ≡ xs = rise_unique needed.spans xs 0 needed.lists.rise lists.rise (λ k h. held k (needed.lists.only k h)) (λ k h. needed.lists.all k (told k h)) in
            whole.1 (subst (λ (t : List Span). AreMany old.page_size t) same needed.many),
      );
    }

-- a whole page covers besides what makes up the page
pub whole_covers : (old new : Coverage) (set : ℕ → Type 0) → IsTrue new.whole → new.page_size ≡ old.page_size → 0 < old.page_size → ((k : ℕ) → Covers old k ⊎ set k → k < old.page_size) → ((k : ℕ) → k < old.page_size → Covers old k ⊎ set k) → AlsoCovers old new set
whole_covers old new set whole size some within all =
    let page : Span = record { start = 0; end = old.page_size } in
    record {
      size = size;
      keeps = λ k h. inl (whole, omega (arith, size, within k (inl h)));
      adds = λ k h. inl (whole, omega (arith, size, within k (inr h)));
      nothing_else = λ part k h. absurd (false≢true (sym part ∙ whole));
      whole_if_needed = (
        λ _. record {
          spans = page ∷ [];
          lists = record { rise = (omega arith, some, tt); all = λ k h. inl (omega arith, within k h); only = λ k h. elim h [ inl here ↦ all k here.1 | inr none ↦ absurd none ] };
          many = inr (omega (arith, some));
        },
        λ _. whole,
      );
    }

-- all that a patch covers is of its page
pub covers_within : (patch : Coverage) (k : ℕ) → IsPatch patch → Covers patch k → k < patch.page_size
covers_within patch k is h = elim h [ inl all ↦ all.1 | inr there ↦ is.within k there ]

-- nothing covers besides nothing
pub covers_nothing : (patch : Coverage) (set : ℕ → Type 0) → IsPatch patch → ((k : ℕ) → set k → ⊥) → AlsoCovers patch patch set
covers_nothing patch set is none =
    elim (cases_Bool patch.whole) [
      | inl entire ↦ whole_covers patch patch set entire refl (omega (arith, (page_size_bounds patch.page_size is.size).0)) (λ k h. elim h [ inl was ↦ covers_within patch k is was | inr added ↦ absurd (none k added) ]) (λ k lt. inl (inl (entire, lt)))
      | inr part ↦ also_covers patch patch set patch.spans part (record { rise = is.rise; all = λ k h. elim h [ inl there ↦ there | inr added ↦ absurd (none k added) ]; only = λ k h. inl h }) is.within refl
          (λ entire. absurd (false≢true (sym part ∙ entire)), λ many. elim many [ inl more ↦ absurd (omega (arith, is.few)) | inr large ↦ absurd (omega (arith, is.small)) ]) (λ _. refl)
    ]

back_again : (a b : ℕ) → a < b → a + (b - a) ≡ b
back_again a b lt = omega arith

-- the range of a patch at a place
pub record IsRange (patch : Coverage) (i : ℕ) (span : Span) : Type 0 where
  pub some : span.start < span.end
  pub here : slice_get patch.spans i ≡ Some (record { start = span.start; end = span.start + (span.end - span.start) })
  pub within : span.end ≤ patch.page_size

pub range_of_view : (view patch : Coverage) (xs : List Span) (i count : ℕ) (d : Span) → count ≡ length view.spans → view.spans ≡ take count xs → IsPatch view → view ≡ patch → i < length patch.spans → IsRange patch i (get_or xs i d)
range_of_view view patch xs i count d number first is same_patch lt =
    let there : i < length view.spans = subst (λ (p : Coverage). i < length p.spans) (sym same_patch) lt in
    let same : get_or view.spans i d ≡ get_or xs i d = ap (λ (t : List Span). get_or t i d) first ∙ get_or-take count xs i d (omega (arith, number)) in
    let some : (get_or view.spans i d).start < (get_or view.spans i d).end = rise_at view.spans 0 i d is.rise there in
    let last = is.within ((get_or view.spans i d).end - 1) (any_at view.spans i ((get_or view.spans i d).end - 1) d there (omega arith, omega arith)) in
    subst (λ (s : Span). IsRange patch i s) same (subst (λ (p : Coverage). IsRange p i (get_or view.spans i d)) same_patch (record {
      some = some;
      here = slice_get-get_or view.spans i d there ∙ (λ j. Some (record { start = (get_or view.spans i d).start; end = sym (back_again (get_or view.spans i d).start (get_or view.spans i d).end some) j }));
      within = omega (arith, last, some);
    }))

-- a patch that is made anew of the ranges of both
pub settled_covers : (view old settled new : Coverage) (set added : ℕ → Type 0) (before xs : List Span) → view ≡ old → settled ≡ new → IsPatch view → view.whole ≡ false → before ≡ view.spans → Lists xs (λ k. IsInSpans before k ⊎ added k) →
    ((k : ℕ) → added k → set k) → ((k : ℕ) → set k → added k) → ((k : ℕ) → set k → k < view.page_size) →
    settled.page_size ≡ view.page_size → (IsTrue settled.whole ↔ AreMany view.page_size xs) → (settled.whole ≡ false → settled.spans ≡ xs) → AlsoCovers old new set
settled_covers view old settled new set added before xs old_is new_is is partly same lists to back within size whole spans =
    let both : Lists xs (λ k. IsInSpans view.spans k ⊎ set k) = subst (λ (t : List Span). Lists xs (λ k. IsInSpans t k ⊎ set k)) same (record {
      rise = lists.rise;
      all = λ k h. lists.all k (elim h [ inl there ↦ inl there | inr here ↦ inr (back k here) ]);
      only = λ k h. elim (lists.only k h) [ inl there ↦ inl there | inr here ↦ inr (to k here) ];
    }) in
    let inside : (k : ℕ) → IsInSpans xs k → k < view.page_size = λ k h. elim (both.only k h) [ inl there ↦ is.within k there | inr here ↦ within k here ] in
    subst (λ (p : Coverage × Coverage). AlsoCovers p.0 p.1 set) {x = (view, settled)} {y = (old, new)} (λ j. (old_is j, new_is j)) (also_covers view settled set xs partly both inside size whole spans)

-- a patch that isn't whole covers what its ranges hold
pub covers_spans : (patch : Coverage) (k : ℕ) → patch.whole ≡ false → Covers patch k → IsInSpans patch.spans k
covers_spans patch k partly h = elim h [ inl all ↦ absurd (false≢true (sym partly ∙ all.0)) | inr there ↦ there ]

-- a whole patch, and one that is joined with it, as they are after a call
pub stays_whole : (patch : Coverage) (set : ℕ → Type 0) → IsPatch patch → IsTrue patch.whole → ((k : ℕ) → set k → k < patch.page_size) → AlsoCovers patch patch set
stays_whole patch set is whole within =
    whole_covers patch patch set whole refl (omega (arith, (page_size_bounds patch.page_size is.size).0)) (λ k h. elim h [ inl was ↦ covers_within patch k is was | inr added ↦ within k added ]) (λ k lt. inl (inl (whole, lt)))

pub becomes_whole : (old new other : Coverage) → IsPatch old → IsPatch other → IsTrue old.whole ⊎ IsTrue other.whole → IsTrue new.whole → new.page_size ≡ old.page_size → other.page_size ≡ old.page_size → AlsoCovers old new (Covers other)
becomes_whole old new other is is_other whole now size same =
    whole_covers old new (Covers other) now size (omega (arith, (page_size_bounds old.page_size is.size).0))
    (λ k h. elim h [ inl was ↦ covers_within old k is was | inr added ↦ let lt = covers_within other k is_other added in omega (arith, lt, same) ])
    (λ k lt. elim whole [ inl old_whole ↦ inl (inl (old_whole, lt)) | inr other_whole ↦ inr (inl (other_whole, omega (arith, lt, same))) ])
