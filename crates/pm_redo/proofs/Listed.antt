-- The pages of entries are listed, one after the other.
use Rattle.std.proofs.Common.{◌≡◌, ◌⊎◌, inl, inr, ℕ, List, [], ◌∷◌, ◌++◌, Option, Some, Vec, Bool, true, false, refl, sym, ◌∙◌, ap, subst}
use Rattle.std.specs.declared.alloc.Global.{Global}
use Rattle.std.specs.Prelude.{◌&&◌, ◌==◌, IsSome, is_some, if◌then◌else◌}
use Rattle.std.proofs.lemmas.Bool.{and_from, and_parts, eqb-true, eq-eqb}
use Rattle.pm_types.specs.declared.page_id.PageId.{PageId}
use Rattle.pm_types.specs.Ids.{part_of_id, index_of_id}
use Rattle.pm_core.specs.PageSets.{has_index}
use Rattle.pm_redo.specs.declared.rebuilt_pages.PageNumber.{PageNumber}
use Rattle.pm_redo.specs.PageMaps.{pages_in, seen}
use Rattle.pm_redo.proofs.Entries.{bytes_in}

has_old : (part index : ℕ) (pages : List PageId) (page : PageId) → has_index part index pages ≡ true → has_index part index (pages ++ page ∷ []) ≡ true
has_old part index [] page is = let no_page : false ≡ true = is in absurd cc
has_old part index (p ∷ pages) page is = by (λ rest. has_old part index pages page rest) (part_of_id p == part && index_of_id p == index) is
  where
    by : (has_index part index pages ≡ true → has_index part index (pages ++ page ∷ []) ≡ true) → (b : Bool) → (let t : Bool = if b then true else has_index part index pages in t) ≡ true
        → (let t : Bool = if b then true else has_index part index (pages ++ page ∷ []) in t) ≡ true
    by rest true is = refl
    by rest false is = rest is

has_new : (part index : ℕ) (pages : List PageId) (page : PageId) → (part_of_id page == part && index_of_id page == index) ≡ true → has_index part index (pages ++ page ∷ []) ≡ true
has_new part index [] page is = ap (λ (b : Bool). let t : Bool = if b then true else false in t) is
has_new part index (p ∷ pages) page is = by (has_new part index pages page is) (part_of_id p == part && index_of_id p == index)
  where
    by : has_index part index (pages ++ page ∷ []) ≡ true → (b : Bool) → (let t : Bool = if b then true else has_index part index (pages ++ page ∷ []) in t) ≡ true
    by rest true = refl
    by rest false = rest

-- one page more
pub listed_more : (part index : ℕ) (pages : List PageId) (page : PageId) (left rest : List (PageNumber × Vec ℕ Global)) (number : PageNumber) (v : Vec ℕ Global) → left ≡ (number, v) ∷ rest → part_of_id page ≡ number.part
    → index_of_id page ≡ number.index → (has_index part index pages ≡ true) ⊎ IsSome (pages_in (seen bytes_in left) part index)
    → (has_index part index (pages ++ page ∷ []) ≡ true) ⊎ IsSome (pages_in (seen bytes_in rest) part index)
listed_more part index pages page left rest number v is p i (inl has) = inl (has_old part index pages page has)
listed_more part index pages page left rest number v is p i (inr some) =
    by (part == number.part && index == number.index) refl (subst (λ (l : List (PageNumber × Vec ℕ Global)). IsSome (pages_in (seen bytes_in l) part index)) is some)
  where
    by : (b : Bool) → (part == number.part && index == number.index) ≡ b
        → IsSome (let o : Option (List ℕ) = if part == number.part && index == number.index then Some v.items else pages_in (seen bytes_in rest) part index in o)
        → (has_index part index (pages ++ page ∷ []) ≡ true) ⊎ IsSome (pages_in (seen bytes_in rest) part index)
    by true it there =
        let both = and_parts (part == number.part) (index == number.index) it in
        inl (has_new part index pages page
        (and_from (part_of_id page == part) (index_of_id page == index) (eq-eqb (part_of_id page) part (p ∙ sym (eqb-true part number.part both.0))) (eq-eqb (index_of_id page) index (i ∙ sym (eqb-true index number.index both.1)))))
    by false it there = inr (subst (λ (b : Bool). IsSome (let o : Option (List ℕ) = if b then Some v.items else pages_in (seen bytes_in rest) part index in o)) it there)

pub all_listed : (part index : ℕ) (pages : List PageId) (left : List (PageNumber × Vec ℕ Global)) → left ≡ [] → (has_index part index pages ≡ true) ⊎ IsSome (pages_in (seen bytes_in left) part index) → has_index part index pages ≡ true
all_listed part index pages left is (inl has) = has
all_listed part index pages left is (inr some) = let no_page : false ≡ true = sym (ap (λ (l : List (PageNumber × Vec ℕ Global)). is_some (pages_in (seen bytes_in l) part index)) is) ∙ some in absurd cc
