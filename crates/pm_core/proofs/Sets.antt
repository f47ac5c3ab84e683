-- Lists of pages, one page after the other.
use Rattle.std.proofs.Common.{◌≡◌, ℕ, ◌+◌, ◌<◌, ◌≤◌, List, [], ◌∷◌, length, drop, get_or, Bool, true, false, refl, ◌∙◌, ap, add-one, drop-cons}
use Rattle.std.specs.Prelude.{◌==◌, ◌&&◌, if◌then◌else◌}
use Rattle.std.proofs.lemmas.Bool.{eq-eqb}
use Rattle.std.proofs.lemmas.List.{drop_all}
use Rattle.pm_types.specs.declared.page_id.PageId.{PageId}
use Rattle.pm_types.specs.Ids.{part_of_id, index_of_id}
use Rattle.pm_core.specs.PageSets.{has_index, has_part, without_page, left_after}

abbrev pub none : PageId
none = record { 0 = 0 }

pub drop_next : (xs : List PageId) (i : ℕ) → i < length xs → drop i xs ≡ get_or xs i none ∷ drop (i + 1) xs
drop_next xs i lt = rw (add-one, drop-cons xs i none) refl

-- the page at an index is of the partition, or it is of no account
pub part_here : (part : ℕ) (xs : List PageId) (i : ℕ) → i < length xs → part_of_id (get_or xs i none) ≡ part → has_part part (drop i xs) ≡ true
part_here part xs i lt is = ap (has_part part) (drop_next xs i lt) ∙ ap (λ (b : Bool). if b then true else has_part part (drop (i + 1) xs)) (eq-eqb _ _ is)

pub part_past : (part : ℕ) (xs : List PageId) (i : ℕ) → i < length xs → (part_of_id (get_or xs i none) == part) ≡ false → has_part part (drop i xs) ≡ has_part part (drop (i + 1) xs)
part_past part xs i lt not_it = ap (has_part part) (drop_next xs i lt) ∙ ap (λ (b : Bool). if b then true else has_part part (drop (i + 1) xs)) not_it

pub left_next : (xs : List PageId) (i : ℕ) (left : List PageId) → i < length xs → left_after (drop i xs) left ≡ left_after (drop (i + 1) xs) (without_page (get_or xs i none) left)
left_next xs i left lt = ap (λ ps. left_after ps left) (drop_next xs i lt)

pub left_end : (xs : List PageId) (i : ℕ) (left : List PageId) → length xs ≤ i → left_after (drop i xs) left ≡ left
left_end xs i left le = ap (λ ps. left_after ps left) (drop_all i xs le)

pub part_end : (part : ℕ) (xs : List PageId) (i : ℕ) → length xs ≤ i → has_part part (drop i xs) ≡ false
part_end part xs i le = ap (has_part part) (drop_all i xs le)

-- a page's partition is among those of the pages
pub part_of_page : (part index : ℕ) (pages : List PageId) → has_index part index pages ≡ true → has_part part pages ≡ true
part_of_page part index [] is = absurd cc
part_of_page part index (page ∷ pages) is = by (part_of_id page == part) (index_of_id page == index) (part_of_page part index pages) is
  where
    by : (a b : Bool) → (has_index part index pages ≡ true → has_part part pages ≡ true) → (if a && b then true else has_index part index pages) ≡ true → (if a then true else has_part part pages) ≡ true
    by true b rest is = refl
    by false b rest is = rest is
