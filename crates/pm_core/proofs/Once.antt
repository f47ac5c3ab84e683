-- Lists in which each page stands once.
use Rattle.std.proofs.Common.{◌≡◌, List, [], ◌∷◌, ◌++◌, Bool, true, false, inl, inr, refl, sym, ap, subst, ◌∙◌}
use Rattle.std.specs.Prelude.{◌==◌, if◌then◌else◌, not, reverse}
use Rattle.std.proofs.lemmas.Bool.{eqb-true, eq-eqb, false≢true}
use Rattle.std.proofs.lemmas.List.{append-nil, reverse-append}
use Rattle.pm_types.specs.declared.page_id.PageId.{PageId}
use Rattle.pm_records.proofs.Runs.{bool_cases}
use Rattle.pm_core.specs.PageSets.{AreOnce, has_page, without_page}

not_same : (a b : PageId) → (a.0 == b.0) ≡ false → (b.0 == a.0) ≡ false
not_same a b other = elim (bool_cases (b.0 == a.0)) [
  | inl is ↦ absurd (false≢true (sym other ∙ eq-eqb _ _ (sym (eqb-true _ _ is))))
  | inr is ↦ is
]

-- a page that isn't among others is not the first of them, and isn't among the rest
past : (page x : PageId) (xs : List PageId) → has_page page (x ∷ xs) ≡ false → ((x.0 == page.0) ≡ false) × (has_page page xs ≡ false)
past page x xs is = by (x.0 == page.0) is
  where
    by : (b : Bool) → (if b then true else has_page page xs) ≡ false → (b ≡ false) × (has_page page xs ≡ false)
    by true has = absurd (false≢true (sym has))
    by false has = (refl, has)

has_push : (page new : PageId) (pages : List PageId) → has_page page pages ≡ false → (new.0 == page.0) ≡ false → has_page page (pages ++ new ∷ []) ≡ false
has_push page new [] none other = ap (λ (b : Bool). if b then true else false) other
has_push page new (x ∷ xs) none other =
    let parts = past page x xs none in
    ap (λ (b : Bool). if b then true else has_page page (xs ++ new ∷ [])) parts.0 ∙ has_push page new xs parts.1 other

-- one page more
pub once_push : (page : PageId) (pages : List PageId) → has_page page pages ≡ false → AreOnce pages → AreOnce (pages ++ page ∷ [])
once_push page [] new once = (refl, tt)
once_push page (x ∷ xs) new once =
    let parts = past page x xs new in
    (has_push x page xs once.0 (not_same x page parts.0), once_push page xs parts.1 once.1)

-- ---- pages that are taken out

none_without : (page : PageId) (pages : List PageId) → has_page page pages ≡ false → without_page page pages ≡ pages
none_without page [] none = refl
none_without page (x ∷ xs) none =
    let parts = past page x xs none in
    ap (λ (b : Bool). let l : List PageId = if not b then x ∷ without_page page xs else without_page page xs in l) parts.0
    ∙ ap (λ l. x ∷ l) (none_without page xs parts.1)

has_without : (page other : PageId) (pages : List PageId) → has_page page pages ≡ false → has_page page (without_page other pages) ≡ false
has_without page other [] none = refl
has_without page other (x ∷ xs) none =
    let parts = past page x xs none in by (not (x.0 == other.0)) parts.0 (has_without page other xs parts.1)
  where
    by : (b : Bool) → (x.0 == page.0) ≡ false → has_page page (without_page other xs) ≡ false → has_page page (if b then x ∷ without_page other xs else without_page other xs) ≡ false
    by true apart rest = ap (λ (c : Bool). if c then true else has_page page (without_page other xs)) apart ∙ rest
    by false apart rest = rest

once_without : (other : PageId) (pages : List PageId) → AreOnce pages → AreOnce (without_page other pages)
once_without other [] once = tt
once_without other (x ∷ xs) once = by (not (x.0 == other.0)) (once_without other xs once.1)
  where
    by : (b : Bool) → AreOnce (without_page other xs) → AreOnce (if b then x ∷ without_page other xs else without_page other xs)
    by true rest = (has_without x other xs once.0, rest)
    by false rest = rest

without_append : (page : PageId) (xs ys : List PageId) → without_page page (xs ++ ys) ≡ without_page page xs ++ without_page page ys
without_append page [] ys = refl
without_append page (x ∷ xs) ys = by (not (x.0 == page.0)) (without_append page xs ys)
  where
    by : (b : Bool) → without_page page (xs ++ ys) ≡ without_page page xs ++ without_page page ys
        → (if b then x ∷ without_page page (xs ++ ys) else without_page page (xs ++ ys)) ≡ (if b then x ∷ without_page page xs else without_page page xs) ++ without_page page ys
    by true rest = ap (λ l. x ∷ l) rest
    by false rest = rest

without_reverse : (page : PageId) (xs : List PageId) → reverse (without_page page xs) ≡ without_page page (reverse xs)
without_reverse page [] = refl
without_reverse page (x ∷ xs) =
    by (not (x.0 == page.0)) (without_reverse page xs) ∙ sym (ap (without_page page) (reverse-append (x ∷ []) xs) ∙ without_append page (reverse xs) (x ∷ []))
  where
    by : (b : Bool) → reverse (without_page page xs) ≡ without_page page (reverse xs)
        → reverse (if b then x ∷ without_page page xs else without_page page xs) ≡ without_page page (reverse xs) ++ (if b then x ∷ [] else [])
    by true rest = reverse-append (x ∷ []) (without_page page xs) ∙ ap (λ l. l ++ x ∷ []) rest
    by false rest = rest ∙ sym (append-nil (without_page page (reverse xs)))

-- ---- the last page of a list in which they stand the last of them first

-- it is the one that is taken out
pub forgets_next : (old ys : List PageId) (next page : PageId) → old ≡ ys ++ next ∷ [] → next.0 ≡ page.0 → AreOnce (reverse old) → reverse ys ≡ without_page page (reverse old)
forgets_next old ys next page is same once =
    let back : reverse old ≡ next ∷ reverse ys = ap reverse is ∙ reverse-append ys (next ∷ []) in
    let apart : has_page next (reverse ys) ≡ false = (subst AreOnce back once).0 in
    let named : next ≡ page = ap (λ n. let p : PageId = record { 0 = n } in p) same in
    sym (none_without page (reverse ys) (subst (λ (p : PageId). has_page p (reverse ys) ≡ false) named apart))
    ∙ ap (λ (b : Bool). let l : List PageId = if not b then next ∷ without_page page (reverse ys) else without_page page (reverse ys) in l) (sym (eq-eqb _ _ same))
    ∙ ap (without_page page) (sym back)

-- or it stays, and the page is taken out of the others
pub forgets_other : (old ys zs : List PageId) (next page : PageId) → old ≡ ys ++ next ∷ [] → (next.0 ≡ page.0 → ⊥) → zs ≡ without_page page ys → reverse (zs ++ next ∷ []) ≡ without_page page (reverse old)
forgets_other old ys zs next page is apart rest =
    let other : (next.0 == page.0) ≡ false = elim (bool_cases (next.0 == page.0)) [ inl same ↦ absurd (apart (eqb-true _ _ same)) | inr differs ↦ differs ] in
    reverse-append zs (next ∷ [])
    ∙ ap (λ l. next ∷ l) (ap reverse rest ∙ without_reverse page ys)
    ∙ ap (λ (b : Bool). let l : List PageId = if not b then next ∷ without_page page (reverse ys) else without_page page (reverse ys) in l) (sym other)
    ∙ ap (without_page page) (sym (ap reverse is ∙ reverse-append ys (next ∷ [])))

pub once_then : (page : PageId) (old new : List PageId) → AreOnce old → new ≡ without_page page old → AreOnce new
once_then page old new once is = subst AreOnce (sym is) (once_without page old once)
