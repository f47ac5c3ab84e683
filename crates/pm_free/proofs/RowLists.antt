-- Lists of rows that have one row more or less.
use Rattle.std.proofs.Common.{◌≡◌, ◌≢◌, ℕ, zero, suc, ◌+◌, ◌<◌, ◌≤◌, List, [], ◌∷◌, ◌++◌, append_assoc, refl, sym, ap, subst, ◌∙◌, inl, inr, arith}
use Rattle.std.specs.Prelude.{Option, None, Some}
use Rattle.std.specs.List.{flat_map, range_with_len}
use Rattle.std.proofs.lemmas.Bool.{cases_eq}
use Rattle.std.proofs.lemmas.List.{append-nil}
use Rattle.pm_types.specs.Ids.{link}
use Rattle.pm_types.specs.declared.page_id.PageId.{PageId}
use Rattle.pm_data.specs.DataPages.{row_at}
use Rattle.pm_pages.specs.declared.row.Row.{Row}
use Rattle.pm_pages.specs.Rows.{row_of, rows_from}
use Rattle.pm_free.specs.Placed.{HasOneMore}

pub more_before : (zs xs ys : List Row) (row : Row) → HasOneMore xs ys row → HasOneMore (zs ++ xs) (zs ++ ys) row
more_before zs xs ys row one = record {
  before = zs ++ one.before;
  after = one.after;
  fewer = ap (λ (t : List Row). zs ++ t) one.fewer ∙ sym (append_assoc zs one.before one.after);
  more = ap (λ (t : List Row). zs ++ t) one.more ∙ sym (append_assoc zs one.before (row ∷ one.after));
}

pub more_after : (zs xs ys : List Row) (row : Row) → HasOneMore xs ys row → HasOneMore (xs ++ zs) (ys ++ zs) row
more_after zs xs ys row one = record {
  before = one.before;
  after = one.after ++ zs;
  fewer = ap (λ (t : List Row). t ++ zs) one.fewer ∙ append_assoc one.before one.after zs;
  more = ap (λ (t : List Row). t ++ zs) one.more ∙ append_assoc one.before (row ∷ one.after) zs;
}

-- the rows of pages of which all but one have the same rows
pub rows_same : (f g : ℕ → List Row) (start k at : ℕ) → ((j : ℕ) → j ≢ at → g j ≡ f j) → at < start → flat_map g (range_with_len start k) ≡ flat_map f (range_with_len start k)
rows_same f g start zero at same lt = refl
rows_same f g start (suc k) at same lt =
    ap (λ (t : List Row). t ++ flat_map g (range_with_len (start + 1) k)) (same start (λ e. omega (arith, e, lt)))
    ∙ ap (λ (t : List Row). f start ++ t) (rows_same f g (start + 1) k at same (omega (arith, lt)))

pub rows_more : (f g : ℕ → List Row) (start k at : ℕ) (row : Row) → ((j : ℕ) → j ≢ at → g j ≡ f j) → start ≤ at → at < start + k → HasOneMore (f at) (g at) row → HasOneMore (flat_map f (range_with_len start k)) (flat_map g (range_with_len start k)) row
rows_more f g start zero at row same from upto one = absurd (omega (arith, from, upto))
rows_more f g start (suc k) at row same from upto one = elim (cases_eq start at) [
  | inl e ↦
      let here : HasOneMore (f start) (g start) row = subst (λ n. HasOneMore (f n) (g n) row) (sym e) one in
      subst (λ (t : List Row). HasOneMore (flat_map f (range_with_len start (suc k))) (g start ++ t) row) (sym (rows_same f g (start + 1) k at same (omega (arith, e))))
      (more_after (flat_map f (range_with_len (start + 1) k)) (f start) (g start) row here)
  | inr ne ↦
      subst (λ (t : List Row). HasOneMore (flat_map f (range_with_len start (suc k))) (t ++ flat_map g (range_with_len (start + 1) k)) row) (sym (same start ne))
      (more_before (f start) (flat_map f (range_with_len (start + 1) k)) (flat_map g (range_with_len (start + 1) k)) row
      (rows_more f g (start + 1) k at row same (omega (arith, from, ne)) (omega (arith, upto)) one))
]

-- a page without rows after the last
pub rows_end : (f : ℕ → List Row) (start k n : ℕ) → start + k ≡ n → f n ≡ [] → flat_map f (range_with_len start (suc k)) ≡ flat_map f (range_with_len start k)
rows_end f start zero n is none = append-nil (f start) ∙ ap f (omega (arith, is)) ∙ none
rows_end f start (suc k) n is none = ap (λ (t : List Row). f start ++ t) (rows_end f (start + 1) k n (omega (arith, is)) none)

-- the row of one item
row_alone : PageId → ℕ → Option (List ℕ) → List Row
row_alone id i None = []
row_alone id i (Some row) = row_of (link id i) row ∷ []

tail : List (Option (List ℕ)) → List (Option (List ℕ))
tail [] = []
tail (x ∷ xs) = xs

row_at-tail : (xs : List (Option (List ℕ))) (k : ℕ) → row_at (tail xs) k ≡ row_at xs (suc k)
unfolding tail
row_at-tail [] k = refl
row_at-tail (x ∷ xs) k = refl

rows_step : (id : PageId) (i : ℕ) (xs : List (Option (List ℕ))) → rows_from id i xs ≡ row_alone id i (row_at xs 0) ++ rows_from id (i + 1) (tail xs)
unfolding row_alone tail
rows_step id i [] = refl
rows_step id i (None ∷ xs) = refl
rows_step id i (Some row ∷ xs) = refl

rows_none : (id : PageId) (i : ℕ) (xs : List (Option (List ℕ))) → ((k : ℕ) → row_at xs k ≡ None) → rows_from id i xs ≡ []
rows_none id i [] none = refl
rows_none id i (x ∷ xs) none =
    ap (λ (t : List (Option (List ℕ))). rows_from id i t) (ap (λ (y : Option (List ℕ)). y ∷ xs) (none 0)) ∙ rows_none id (i + 1) xs (λ k. none (suc k))

-- items with the same rows
pub rows_by : (id : PageId) (i : ℕ) (xs ys : List (Option (List ℕ))) → ((k : ℕ) → row_at ys k ≡ row_at xs k) → rows_from id i ys ≡ rows_from id i xs
unfolding row_alone tail
rows_by id i [] ys same = rows_none id i ys same
rows_by id i (x ∷ xs) [] same = sym (rows_none id i (x ∷ xs) (λ k. sym (same k)))
rows_by id i (x ∷ xs) (y ∷ ys) same =
    rows_step id i (y ∷ ys)
    ∙ ap (λ (o : Option (List ℕ)). row_alone id i o ++ rows_from id (i + 1) ys) (same 0)
    ∙ ap (λ (t : List Row). row_alone id i x ++ t) (rows_by id (i + 1) xs ys (λ k. same (suc k)))
    ∙ sym (rows_step id i (x ∷ xs))

-- items of which one has a row now
pub items_more : (id : PageId) (i : ℕ) (xs ys : List (Option (List ℕ))) (item : ℕ) (row : List ℕ) → row_at xs item ≡ None → row_at ys item ≡ Some row → ((k : ℕ) → k ≢ item → row_at ys k ≡ row_at xs k) → HasOneMore (rows_from id i xs) (rows_from id i ys) (row_of (link id (i + item)) row)
unfolding row_alone tail
items_more id i xs ys zero row gone here others =
    let rest : rows_from id (i + 1) (tail ys) ≡ rows_from id (i + 1) (tail xs) = rows_by id (i + 1) (tail xs) (tail ys) (λ k. row_at-tail ys k ∙ others (suc k) (λ e. omega (arith, e)) ∙ sym (row_at-tail xs k)) in
    let number : i ≡ i + 0 = omega arith in
    record {
      before = [];
      after = rows_from id (i + 1) (tail xs);
      fewer = rows_step id i xs ∙ ap (λ (o : Option (List ℕ)). row_alone id i o ++ rows_from id (i + 1) (tail xs)) gone;
      more = rows_step id i ys ∙ ap (λ (o : Option (List ℕ)). row_alone id i o ++ rows_from id (i + 1) (tail ys)) here
          ∙ ap (λ (t : List Row). row_of (link id i) row ∷ t) rest ∙ ap (λ n. row_of (link id n) row ∷ rows_from id (i + 1) (tail xs)) number;
    }
items_more id i xs ys (suc item) row gone here others =
    let number : i + 1 + item ≡ i + suc item = omega arith in
    let next = items_more id (i + 1) (tail xs) (tail ys) item row (row_at-tail xs item ∙ gone) (row_at-tail ys item ∙ here) (λ k ne. row_at-tail ys k ∙ others (suc k) (λ e. ne (omega (arith, e))) ∙ sym (row_at-tail xs k)) in
    let first : row_at ys 0 ≡ row_at xs 0 = others 0 (λ e. omega (arith, e)) in
    subst (λ (p : List Row × List Row × Row). HasOneMore p.0 p.1 p.2) {x = (row_alone id i (row_at xs 0) ++ rows_from id (i + 1) (tail xs), row_alone id i (row_at xs 0) ++ rows_from id (i + 1) (tail ys), row_of (link id (i + 1 + item)) row)} {y = (rows_from id i xs, rows_from id i ys, row_of (link id (i + suc item)) row)}
    (λ k. (sym (rows_step id i xs) k, (sym (rows_step id i ys ∙ ap (λ (o : Option (List ℕ)). row_alone id i o ++ rows_from id (i + 1) (tail ys)) first)) k, row_of (link id (number k)) row))
    (more_before (row_alone id i (row_at xs 0)) (rows_from id (i + 1) (tail xs)) (rows_from id (i + 1) (tail ys)) (row_of (link id (i + 1 + item)) row) next)
