-- Names of pages, and which pages are among names.
use Rattle.std.proofs.Common.{◌≡◌, ◌≢◌, ℕ, ◌^◌, ◌<◌, Bool, true, false, List, [], ◌∷◌, ◌++◌, inl, inr, refl, sym, ap, ◌∙◌, arith}
use Rattle.std.specs.Prelude.{◌==◌, ◌&&◌, if◌then◌else◌}
use Rattle.std.proofs.lemmas.Bool.{eq-eqb, eqb-true, ne_eqb, and_from, false≢true}
use Rattle.pm_types.specs.declared.page_id.PageId.{PageId}
use Rattle.pm_types.specs.Ids.{page_id, part_of_id, index_of_id}
use Rattle.pm_records.proofs.Runs.{bool_cases}
use Rattle.pm_records.specs.PageNames.{IsPageName}
use Rattle.pm_core.specs.PageSets.{has_index, has_page, AreOnce}
use Rattle.pm_core.proofs.Once.{once_push}

pub part_named : (part index : ℕ) → part < 2 ^ 16 → index < 2 ^ 32 → part_of_id (page_id part index) ≡ part
part_named part index small low = omega arith

pub index_named : (part index : ℕ) → index < 2 ^ 32 → index_of_id (page_id part index) ≡ index
index_named part index low = omega arith

pub is_named : (part index : ℕ) → part < 64 → index < 2 ^ 32 → IsPageName (page_id part index)
is_named part index small low = record { flag = omega arith; partition = omega arith }

-- whether a name is that of the page with this index of this partition
abbrev pub is_at : PageId → ℕ → ℕ → Bool
is_at page part index = part_of_id page == part && index_of_id page == index

pub own_name : (part index : ℕ) → part < 2 ^ 16 → index < 2 ^ 32 → is_at (page_id part index) part index ≡ true
own_name part index small low =
    and_from (part_of_id (page_id part index) == part) (index_of_id (page_id part index) == index)
    (eq-eqb _ _ (part_named part index small low)) (eq-eqb _ _ (index_named part index low))

-- the name of a page with another index
pub other_name : (part index other : ℕ) → index < 2 ^ 32 → index ≢ other → is_at (page_id part index) part other ≡ false
other_name part index other low ne =
    both_false (part_of_id (page_id part index) == part) (index_of_id (page_id part index) == other)
    (ne_eqb _ _ (λ e. ne (sym (index_named part index low) ∙ e)))
  where
    both_false : (a b : Bool) → b ≡ false → (a && b) ≡ false
    both_false true b is = is
    both_false false b is = refl

-- ---- which pages are among names

pub has_index-append : (part index : ℕ) (xs ys : List PageId) → has_index part index (xs ++ ys) ≡ (if has_index part index xs then true else has_index part index ys)
has_index-append part index [] ys = refl
has_index-append part index (x ∷ xs) ys = by (is_at x part index) (has_index-append part index xs ys)
  where
    by : (b : Bool) → has_index part index (xs ++ ys) ≡ (if has_index part index xs then true else has_index part index ys)
        → (if b then true else has_index part index (xs ++ ys)) ≡ (if if b then true else has_index part index xs then true else has_index part index ys)
    by true rest = refl
    by false rest = rest

-- pages more, none of which is this one
pub has_index-others : (part index : ℕ) (xs ys : List PageId) → has_index part index ys ≡ false → has_index part index (xs ++ ys) ≡ has_index part index xs
has_index-others part index xs ys none =
    has_index-append part index xs ys ∙ ap (λ (b : Bool). if has_index part index xs then true else b) none ∙ same (has_index part index xs)
  where
    same : (b : Bool) → (if b then true else false) ≡ b
    same true = refl
    same false = refl

-- one page more
pub has_index-push : (part index : ℕ) (xs : List PageId) (page : PageId) → has_index part index (xs ++ page ∷ []) ≡ (if is_at page part index then true else has_index part index xs)
has_index-push part index xs page = has_index-append part index xs (page ∷ []) ∙ either (has_index part index xs) (is_at page part index)
  where
    either : (a b : Bool) → (if a then true else if b then true else false) ≡ (if b then true else a)
    either true true = refl
    either true false = refl
    either false true = refl
    either false false = refl

-- a name that is among others has its partition and index among them
pub has_own_index : (page : PageId) (pages : List PageId) → has_page page pages ≡ true → has_index (part_of_id page) (index_of_id page) pages ≡ true
has_own_index page [] is = is
has_own_index page (x ∷ xs) is = by (x.0 == page.0) refl (has_own_index page xs) is
  where
    by : (b : Bool) → (x.0 == page.0) ≡ b → (has_page page xs ≡ true → has_index (part_of_id page) (index_of_id page) xs ≡ true) → (if b then true else has_page page xs) ≡ true → has_index (part_of_id page) (index_of_id page) (x ∷ xs) ≡ true
    by true same later has =
        let named : x ≡ page = ap (λ n. let p : PageId = record { 0 = n } in p) (eqb-true _ _ same) in
        ap (λ (b : Bool). if b then true else has_index (part_of_id page) (index_of_id page) xs)
        (and_from (part_of_id x == part_of_id page) (index_of_id x == index_of_id page) (eq-eqb _ _ (ap part_of_id named)) (eq-eqb _ _ (ap index_of_id named)))
    by false other later has = rest (is_at x (part_of_id page) (index_of_id page)) (later has)
      where
        rest : (b : Bool) → has_index (part_of_id page) (index_of_id page) xs ≡ true → (if b then true else has_index (part_of_id page) (index_of_id page) xs) ≡ true
        rest true after = refl
        rest false after = after

-- a page that isn't among them may be added
pub once_more : (page : PageId) (pages : List PageId) → has_index (part_of_id page) (index_of_id page) pages ≡ false → AreOnce pages → AreOnce (pages ++ page ∷ [])
once_more page pages new once = elim (bool_cases (has_page page pages)) [
  | inl has ↦ absurd (false≢true (sym new ∙ has_own_index page pages has))
  | inr none ↦ once_push page pages none once
]
