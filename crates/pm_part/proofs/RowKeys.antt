-- Rows with one more: what holds of each of them, and that their keys differ.
use Rattle.std.proofs.Common.{◌≡◌, ◌≢◌, ℕ, suc, ◌⊎◌, List, [], ◌∷◌, ◌++◌, length, sym, ap, subst, ◌∙◌, inl, inr}
use Rattle.std.specs.Prelude.{All, AllPairs}
use Rattle.std.proofs.lemmas.Bool.{cases_eq}
use Rattle.pm_btpage.specs.IndexPages.{IsBelow}
use Rattle.pm_pages.specs.declared.row.Row.{Row}
use Rattle.pm_pages.specs.WellFormed.{AreDifferent}
use Rattle.pm_free.specs.Placed.{HasOneMore}
use Rattle.pm_tree.proofs.KeyOrder.{key_cases, not_below_itself}
use Rattle.pm_part.proofs.KeyedRows.{HasKey}
use Rattle.pm_pages.proofs.Quantified.{Holds, Each, each_of, all_of}
use Rattle.pm_part.proofs.OneMore.{each_weaker, EachPair, each_pair_of, all_pairs_of, around_less, around_one, around_more, around_some, around_cases, around_length}

-- no row of this cache has this key
abbrev pub HasNoRow : List Row → ℕ → List ℕ → Type 0
HasNoRow rows cache key = Each (λ row. HasKey cache key row → ⊥) rows

-- what holds of each row, of the others and of the one

pub each_less : (P : Row → Type 0) (less all : List Row) (row : Row) → HasOneMore less all row → Each P all → Each P less
each_less P less all row one each = subst (Each P) (sym one.fewer) (around_less P one.before one.after row (subst (Each P) one.more each))

pub each_one : (P : Row → Type 0) (less all : List Row) (row : Row) → HasOneMore less all row → Each P all → P row
each_one P less all row one each = around_one P one.before one.after row (subst (Each P) one.more each)

pub each_more : (P : Row → Type 0) (less all : List Row) (row : Row) → HasOneMore less all row → P row → Each P less → Each P all
each_more P less all row one here each = subst (Each P) (sym one.more) (around_more P one.before one.after row here (subst (Each P) one.fewer each))

pub all_less : (P : Row → Type 0) (less all : List Row) (row : Row) → HasOneMore less all row → All P all → All P less
all_less P less all row one each = all_of P less (each_less P less all row one (each_of P all each))

pub all_one : (P : Row → Type 0) (less all : List Row) (row : Row) → HasOneMore less all row → All P all → P row
all_one P less all row one each = each_one P less all row one (each_of P all each)

pub all_more : (P : Row → Type 0) (less all : List Row) (row : Row) → HasOneMore less all row → P row → All P less → All P all
all_more P less all row one here each = all_of P all (each_more P less all row one here (each_of P less each))

-- what holds of some row

pub holds_one : (P : Row → Type 0) (less all : List Row) (row : Row) → HasOneMore less all row → P row → Holds P all
holds_one P less all row one here = subst (Holds P) (sym one.more) (around_some P one.before one.after row (inl here))

pub holds_more : (P : Row → Type 0) (less all : List Row) (row : Row) → HasOneMore less all row → Holds P less → Holds P all
holds_more P less all row one any = subst (Holds P) (sym one.more) (around_some P one.before one.after row (inr (subst (Holds P) one.fewer any)))

pub holds_cases : (P : Row → Type 0) (less all : List Row) (row : Row) → HasOneMore less all row → Holds P all → P row ⊎ Holds P less
holds_cases P less all row one any = elim (around_cases P one.before one.after row (subst (Holds P) one.more any)) [
  | inl here ↦ inl here
  | inr rest ↦ inr (subst (Holds P) (sym one.fewer) rest)
]

pub length_more : (less all : List Row) (row : Row) → HasOneMore less all row → length all ≡ suc (length less)
length_more less all row one = ap length one.more ∙ around_length one.before one.after row ∙ ap (λ (t : List Row). suc (length t)) (sym one.fewer)

-- keys that differ

pub different_back : (a b : Row) → AreDifferent a b → AreDifferent b a
different_back a b differ cache key = differ (sym cache) (sym key)

pairs_less : (xs ys : List Row) (row : Row) → EachPair AreDifferent (xs ++ row ∷ ys) → EachPair AreDifferent (xs ++ ys)
pairs_less [] ys row pairs = pairs.1
pairs_less (x ∷ xs) ys row pairs = (around_less (AreDifferent x) xs ys row pairs.0, pairs_less xs ys row pairs.1)

pairs_one : (xs ys : List Row) (row : Row) → EachPair AreDifferent (xs ++ row ∷ ys) → Each (AreDifferent row) (xs ++ ys)
pairs_one [] ys row pairs = pairs.0
pairs_one (x ∷ xs) ys row pairs = (different_back x row (around_one (AreDifferent x) xs ys row pairs.0), pairs_one xs ys row pairs.1)

pairs_more : (xs ys : List Row) (row : Row) → Each (AreDifferent row) (xs ++ ys) → EachPair AreDifferent (xs ++ ys) → EachPair AreDifferent (xs ++ row ∷ ys)
pairs_more [] ys row apart pairs = (apart, pairs)
pairs_more (x ∷ xs) ys row apart pairs = (around_more (AreDifferent x) xs ys row (different_back row x apart.0) pairs.0, pairs_more xs ys row apart.1 pairs.1)

pub once_less : (less all : List Row) (row : Row) → HasOneMore less all row → AllPairs AreDifferent all → AllPairs AreDifferent less
once_less less all row one once =
    let pairs = subst (EachPair AreDifferent) one.more (each_pair_of AreDifferent all once) in
    all_pairs_of AreDifferent less (subst (EachPair AreDifferent) (sym one.fewer) (pairs_less one.before one.after row pairs))

-- the row differs from each of the others, and each of these from it
pub once_apart : (less all : List Row) (row : Row) → HasOneMore less all row → AllPairs AreDifferent all → All (AreDifferent row) less
once_apart less all row one once =
    let pairs = subst (EachPair AreDifferent) one.more (each_pair_of AreDifferent all once) in
    all_of (AreDifferent row) less (subst (Each (AreDifferent row)) (sym one.fewer) (pairs_one one.before one.after row pairs))

pub apart_back : (row : Row) (rows : List Row) → All (AreDifferent row) rows → All (λ other. AreDifferent other row) rows
apart_back row rows apart = all_of (λ other. AreDifferent other row) rows (each_weaker (AreDifferent row) (λ other. AreDifferent other row) rows (λ other. different_back row other) (each_of (AreDifferent row) rows apart))

pub apart_forth : (row : Row) (rows : List Row) → All (λ other. AreDifferent other row) rows → All (AreDifferent row) rows
apart_forth row rows apart = all_of (AreDifferent row) rows (each_weaker (λ other. AreDifferent other row) (AreDifferent row) rows (λ other. different_back other row) (each_of (λ other. AreDifferent other row) rows apart))

pub once_more : (less all : List Row) (row : Row) → HasOneMore less all row → All (AreDifferent row) less → AllPairs AreDifferent less → AllPairs AreDifferent all
once_more less all row one apart once =
    let apart_in = subst (Each (AreDifferent row)) one.fewer (each_of (AreDifferent row) less apart) in
    let pairs = subst (EachPair AreDifferent) one.fewer (each_pair_of AreDifferent less once) in
    all_pairs_of AreDifferent all (subst (EachPair AreDifferent) (sym one.more) (pairs_more one.before one.after row apart_in pairs))

-- a row differs from each of some rows where none of these has its cache and key

pub no_row_in : (row : Row) (rows : List Row) → Each (AreDifferent row) rows → HasNoRow rows row.cache row.key
no_row_in row [] apart = tt
no_row_in row (other ∷ rows) apart = (λ has. apart.0 (sym has.cache_is) (sym has.key_is), no_row_in row rows apart.1)

apart_in : (row : Row) (rows : List Row) → HasNoRow rows row.cache row.key → Each (AreDifferent row) rows
apart_in row [] none = tt
apart_in row (other ∷ rows) none = (λ cache key. none.0 (record { cache_is = sym cache; key_is = sym key }), apart_in row rows none.1)

pub apart_from : (row : Row) (rows : List Row) → HasNoRow rows row.cache row.key → All (AreDifferent row) rows
apart_from row rows none = all_of (AreDifferent row) rows (apart_in row rows none)

-- the others have no row with the cache and key of the one
pub no_other_row : (less all : List Row) (row : Row) → HasOneMore less all row → AllPairs AreDifferent all → HasNoRow less row.cache row.key
no_other_row less all row one once = no_row_in row less (each_of (AreDifferent row) less (once_apart less all row one once))

pub once_with_new : (less all : List Row) (row : Row) → HasOneMore less all row → HasNoRow less row.cache row.key → AllPairs AreDifferent less → AllPairs AreDifferent all
once_with_new less all row one none once = once_more less all row one (apart_from row less none) once

-- a row in another's place, of the same cache and key

pub no_row_like : (rows : List Row) (a b : Row) → b.cache ≡ a.cache → b.key ≡ a.key → HasNoRow rows a.cache a.key → HasNoRow rows b.cache b.key
no_row_like rows a b cache key none = subst (λ (at : ℕ × List ℕ). HasNoRow rows at.0 at.1) (λ i. (sym cache i, sym key i)) none

pub once_replaced : (less old new : List Row) (row other : Row) → HasOneMore less old row → HasOneMore less new other → other.cache ≡ row.cache → other.key ≡ row.key → AllPairs AreDifferent old → AllPairs AreDifferent new
once_replaced less old new row other was now cache key once =
    once_with_new less new other now (no_row_like less row other cache key (no_other_row less old row was once)) (once_less less old row was once)

pub length_replaced : (less old new : List Row) (row other : Row) → HasOneMore less old row → HasOneMore less new other → length new ≡ length old
length_replaced less old new row other was now = length_more less new other now ∙ sym (length_more less old row was)

pub all_replaced : (P : Row → Type 0) (less old new : List Row) (row other : Row) → HasOneMore less old row → HasOneMore less new other → (P row → P other) → All P old → All P new
all_replaced P less old new row other was now like each = all_more P less new other now (like (all_one P less old row was each)) (all_less P less old row was each)

-- two keys are the same or differ
pub same_key : (a b : List ℕ) → (a ≡ b) ⊎ (a ≢ b)
same_key a b = elim (key_cases a b) [
  | inl lt ↦ inr (λ e. not_below_itself b (subst (λ k. IsBelow k b) e lt))
  | inr r ↦ elim r [ inl e ↦ inl e | inr gt ↦ inr (λ e. not_below_itself b (subst (IsBelow b) e gt)) ]
]

-- a key of a cache has a row, or none
pub row_or_none : (rows : List Row) (cache : ℕ) (key : List ℕ) → Holds (HasKey cache key) rows ⊎ HasNoRow rows cache key
row_or_none [] cache key = inr tt
row_or_none (row ∷ rows) cache key = elim (row_or_none rows cache key) [
  | inl later ↦ inl (inr later)
  | inr none ↦ elim (cases_eq row.cache cache) [
    | inl of ↦ elim (same_key row.key key) [
      | inl same ↦ inl (inl (record { cache_is = of; key_is = same }))
      | inr other ↦ inr (λ has. other has.key_is, none)
    ]
    | inr apart ↦ inr (λ has. apart has.cache_is, none)
  ]
]
