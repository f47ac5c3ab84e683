-- The indexes of all caches together have no more items than there are rows.
use Rattle.std.proofs.Common.{◌≡◌, ℕ, ◌+◌, ◌<◌, ◌≤◌, List, [], ◌∷◌, length, refl, sym, ap, inl, inr, arith}
use Rattle.std.specs.Prelude.{AllPairs, Any}
use Rattle.std.specs.declared.cmp.Ordering.{Ordering}
use Rattle.std.specs.declared.cmp.Ordering.TheVariants.{Less, Equal, Greater}
use Rattle.std.specs.Ordering.{nat_cmp}
use Rattle.std.specs.Cmp.Lexicographic.{slice_cmp}
use Rattle.std.proofs.lemmas.Bool.{cases_lt}
use Rattle.pm_types.specs.declared.limits.TheConstants.{CACHES}
use Rattle.pm_btpage.specs.IndexPages.{Item}
use Rattle.pm_pages.specs.declared.row.Row.{Row}
use Rattle.pm_pages.specs.Trees.{ListsRows, IsItemOf}
use Rattle.pm_pages.specs.WellFormed.{AreDifferent}
use Rattle.pm_tree.specs.Maps.{by_order}
use Rattle.pm_tree_del.specs.Maps.{remove_in}
use Rattle.pm_free.specs.Placed.{HasOneMore}
use Rattle.pm_pages.proofs.Quantified.{Each, each_of, holds_of}
use Rattle.pm_part.proofs.RowKeys.{once_less}
use Rattle.pm_part.proofs.ListedRows.{lists_taken, lists_other_taken}
use Rattle.pm_part.proofs.TreeSteps.{set_at, set_here, set_other, lists_set}
use Rattle.pm_part.proofs.Totals.{total, total_none, total_set}

-- a removal takes one item at most
by_cases : (o : Ordering) (item : Item) (items less : List Item) → length items ≤ length less + 1 → length (item ∷ items) ≤ length (by_order o (item ∷ less) items (item ∷ items)) + 1
by_cases Less item items less few = omega (arith, few)
by_cases Equal item items less few = omega arith
by_cases Greater item items less few = omega arith

one_less : (items : List Item) (key : List ℕ) → length items ≤ length (remove_in items key) + 1
one_less [] key = omega arith
one_less (item ∷ items) key = by_cases (slice_cmp nat_cmp item.key key) item items (remove_in items key) (one_less items key)

none_listed : (items : List Item) (cache : ℕ) → Each (λ (item : Item). Any (IsItemOf cache item) []) items → length items ≡ 0
none_listed [] cache each = refl
none_listed (item ∷ items) cache each = absurd (holds_of (IsItemOf cache item) [] each.0)

-- how many items the indexes have
abbrev pub all_items : (ℕ → List Item) → ℕ
all_items items = total (λ c. length (items c)) 0 CACHES

pub items_few : (rows : List Row) (items : ℕ → List Item) → AllPairs AreDifferent rows → ((c : ℕ) → c < CACHES → ListsRows rows c (items c)) → all_items items ≤ length rows
items_few [] items once lists = omega (arith, total_none (λ c. length (items c)) 0 CACHES (λ c low high. none_listed (items c) c (each_of _ (items c) (lists c (omega (arith, high))).only)))
items_few (row ∷ rows) items once lists = elim (cases_lt row.cache CACHES) [
  | inl few ↦
      let cache = row.cache in
      let fewer = set_at items cache (remove_in (items cache) row.key) in
      let rest = items_few rows fewer (once_less rows (row ∷ rows) row one once)
      (lists_set rows items cache (remove_in (items cache) row.key) (lists_taken rows (row ∷ rows) row cache (items cache) one once refl (lists cache few))
      (λ c other few_c. lists_other_taken rows (row ∷ rows) row c (items c) one (λ e. other (sym e)) (lists c few_c))) in
      let set = total_set (λ c. length (items c)) (λ c. length (fewer c)) 0 CACHES cache (omega arith) (omega (arith, few)) (λ c other. ap (λ (l : List Item). length l) (set_other items cache (remove_in (items cache) row.key) c other)) in
      let here : length (fewer cache) ≡ length (remove_in (items cache) row.key) = ap (λ (l : List Item). length l) (set_here items cache (remove_in (items cache) row.key)) in
      omega (arith, rest, set, here, one_less (items cache) row.key)
  | inr past ↦
      let rest = items_few rows items (once_less rows (row ∷ rows) row one once) (λ c few_c. lists_other_taken rows (row ∷ rows) row c (items c) one (λ e. omega (arith, e, past, few_c)) (lists c few_c)) in
      omega (arith, rest)
]
  where
    one : HasOneMore rows (row ∷ rows) row
    one = record { before = []; after = rows; fewer = refl; more = refl }
