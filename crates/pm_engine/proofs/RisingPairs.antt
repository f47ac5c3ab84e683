-- Pairs by rising key, no two of which have the same: what is found by a key says what they are.
use Rattle.std.proofs.Common.{◌≡◌, ◌≢◌, ℕ, ◌≤◌, List, [], ◌∷◌, Bool, true, false, cond, None, Some, Option, T, refl, sym, ap, subst, ◌∙◌, inl, inr, ◌&&◌, arith}
use Rattle.std.specs.Prelude.{All}
use Rattle.std.specs.declared.cmp.Ordering.{Ordering}
use Rattle.std.specs.declared.cmp.Ordering.TheVariants.{Less, Equal, Greater}
use Rattle.std.specs.Ordering.{nat_cmp, is_lt, eq_by_cmp}
use Rattle.std.specs.Cmp.Lexicographic.{slice_cmp, nat_list_cmp_total}
use Rattle.std.specs.List.{sum_by}
use Rattle.std.specs.FinMap.Entries.{find, is_sorted, below_all}
use Rattle.std.proofs.lemmas.Bool.{cases_Bool}
use Rattle.std.proofs.lemmas.Cmp.{eq_by_cmp_equiv}
use Rattle.std.proofs.lemmas.List.Elements.{All-tail}
use Rattle.std.proofs.lemmas.List.Sorted.{sorted_far, ranks_by}
use Rattle.std.proofs.lemmas.List.Sums.{sum_by-cons}
use Rattle.std.proofs.lemmas.Map.Lookups.{exact_bytes}
use Rattle.itertools.proofs.KMergeLemmas.{sorted-tail, sorted-cons}
use Rattle.pm_tree.proofs.KeyOrder.{key_cases, equal, greater}
use Rattle.pm_part.proofs.KeyedRows.{equal as is_tied}
use Rattle.pm_pages.proofs.Quantified.{Each, each_of, all_of}
use Rattle.pm_engine.specs.Merges.{is_below, HasRisingKeys}

abbrev pub PairsList : Type 0
PairsList = List (List ℕ × List ℕ)

-- what these pairs have at a key
abbrev pub found : List ℕ → PairsList → Option (List ℕ)
found key pairs = find (slice_cmp nat_cmp) key pairs

-- the keys strictly rise
abbrev pub Rises : PairsList → Type 0
Rises pairs = T (is_sorted (slice_cmp nat_cmp) pairs)

pub both : (a b : Bool) → T a → T b → T (a && b)
both true b p q = q
both false b p q = p

pub first : (a b : Bool) → T (a && b) → T a
first true b p = tt
first false b p = p

pub second : (a b : Bool) → T (a && b) → T b
second true b p = p
second false b p = absurd p

tied : (a b : List ℕ) → eq_by_cmp (slice_cmp nat_cmp) a b ≡ true → a ≡ b
tied a b hit = exact_bytes a b (is_tied _ hit)

alike : (key : List ℕ) → eq_by_cmp (slice_cmp nat_cmp) key key ≡ true
alike key = (eq_by_cmp_equiv nat_list_cmp_total).refl key

apart : (a b : List ℕ) → a ≢ b → eq_by_cmp (slice_cmp nat_cmp) a b ≡ false
apart a b ne = elim (cases_Bool (eq_by_cmp (slice_cmp nat_cmp) a b)) [ inl hit ↦ absurd (ne (tied a b hit)) | inr miss ↦ miss ]

less : (a b : List ℕ) → T (is_lt (slice_cmp nat_cmp a b)) → b ≢ a
less a b lt same = subst (λ o. T (is_lt o)) (equal a b (sym same)) lt

-- ---- what is found

-- each of rising pairs is found by its key
later : (e : List ℕ × List ℕ) (es xs : PairsList) → T (below_all (slice_cmp nat_cmp) e.0 xs) → Each (λ (x : List ℕ × List ℕ). found x.0 es ≡ Some x.1) xs → Each (λ (x : List ℕ × List ℕ). found x.0 (e ∷ es) ≡ Some x.1) xs
later e es [] below each = tt
later e es (x ∷ xs) below each = (
  ap (λ b. cond b (Some e.1) (found x.0 es)) (apart x.0 e.0 (less e.0 x.0 (first _ _ below))) ∙ each.0,
  later e es xs (second _ _ below) each.1,
)

pub finds_each : (pairs : PairsList) → Rises pairs → Each (λ (x : List ℕ × List ℕ). found x.0 pairs ≡ Some x.1) pairs
finds_each [] rises = tt
finds_each (e ∷ es) rises = (
  ap (λ b. cond b (Some e.1) (found e.0 es)) (alike e.0),
  later e es es (first _ _ rises) (finds_each es (second _ _ rises)),
)

-- what holds of each pair holds of what is found
pub found_by : (P : List ℕ → List ℕ → Type 0) (key value : List ℕ) (pairs : PairsList) → Each (λ (x : List ℕ × List ℕ). P x.0 x.1) pairs → found key pairs ≡ Some value → P key value
found_by P key value [] each is = absurd cc
found_by P key value (x ∷ xs) each is = elim (cases_Bool (eq_by_cmp (slice_cmp nat_cmp) key x.0)) [
  | inl hit ↦
      let values : Some x.1 ≡ Some value = sym (ap (λ b. cond b (Some x.1) (found key xs)) hit) ∙ is in
      let value_is : x.1 ≡ value = cc in
      subst (λ (k : List ℕ). P k value) (sym (tied key x.0 hit)) (subst (λ (v : List ℕ). P x.0 v) value_is each.0)
  | inr miss ↦ found_by P key value xs each.1 (sym (ap (λ b. cond b (Some x.1) (found key xs)) miss) ∙ is)
]

pub not_found : (key : List ℕ) (pairs : PairsList) → found key pairs ≡ None → Each (λ (x : List ℕ × List ℕ). x.0 ≢ key) pairs
not_found key [] none = tt
not_found key (x ∷ xs) none = elim (cases_Bool (eq_by_cmp (slice_cmp nat_cmp) key x.0)) [
  | inl hit ↦ absurd (cc (sym (ap (λ b. cond b (Some x.1) (found key xs)) hit) ∙ none))
  | inr miss ↦ (
    λ same. absurd (cc (sym miss ∙ ap (λ (k : List ℕ). eq_by_cmp (slice_cmp nat_cmp) key k) same ∙ alike key)),
    not_found key xs (sym (ap (λ b. cond b (Some x.1) (found key xs)) miss) ∙ none),
  )
]

pub none_found : (key : List ℕ) (pairs : PairsList) → Each (λ (x : List ℕ × List ℕ). x.0 ≢ key) pairs → found key pairs ≡ None
none_found key [] none = refl
none_found key (x ∷ xs) none =
    ap (λ b. cond b (Some x.1) (found key xs)) (apart key x.0 (λ e. none.0 (sym e))) ∙ none_found key xs none.1

-- ---- how often a key stands

abbrev pub one_of : List ℕ → List ℕ × List ℕ → ℕ
one_of key pair = cond (eq_by_cmp (slice_cmp nat_cmp) key pair.0) 1 0

-- how many of the pairs have this key
abbrev pub times_of : List ℕ → PairsList → ℕ
times_of key pairs = sum_by (one_of key) pairs

one_hit : (key : List ℕ) (pair : List ℕ × List ℕ) → key ≡ pair.0 → one_of key pair ≡ 1
one_hit key pair same = ap (λ (b : Bool). cond {A = ℕ} b 1 0) (ap (λ (k : List ℕ). eq_by_cmp (slice_cmp nat_cmp) key k) (sym same) ∙ alike key)

pub times_none : (key : List ℕ) (pairs : PairsList) → Each (λ (x : List ℕ × List ℕ). x.0 ≢ key) pairs → times_of key pairs ≡ 0
times_none key [] none = refl
times_none key (x ∷ xs) none =
    let miss : one_of key x ≡ 0 = ap (λ (b : Bool). cond {A = ℕ} b 1 0) (apart key x.0 (λ e. none.0 (sym e))) in
    omega (arith, sum_by-cons (one_of key) x xs, miss, times_none key xs none.1)

above : (e : List ℕ) (pairs : PairsList) → T (below_all (slice_cmp nat_cmp) e pairs) → Each (λ (x : List ℕ × List ℕ). x.0 ≢ e) pairs
above e [] below = tt
above e (x ∷ xs) below = (less e x.0 (first _ _ below), above e xs (second _ _ below))

-- in rising pairs a key stands at most once
pub times_rising : (key : List ℕ) (pairs : PairsList) → Rises pairs → times_of key pairs ≤ 1
times_rising key [] rises = omega arith
times_rising key (e ∷ es) rises =
    let more = sum_by-cons (one_of key) e es in
    elim (cases_Bool (eq_by_cmp (slice_cmp nat_cmp) key e.0)) [
      | inl hit ↦
          let same : key ≡ e.0 = tied key e.0 hit in
          let none = times_none key es (subst (λ (k : List ℕ). Each (λ (x : List ℕ × List ℕ). x.0 ≢ k) es) (sym same) (above e.0 es (first _ _ rises))) in
          omega (arith, more, one_hit key e same, none)
      | inr miss ↦
          let zero_one : one_of key e ≡ 0 = ap (λ (b : Bool). cond {A = ℕ} b 1 0) miss in
          omega (arith, more, zero_one, times_rising key es (second _ _ rises))
    ]

-- none has a key that stands no time
stands_not : (key : List ℕ) (pairs : PairsList) → times_of key pairs ≡ 0 → Each (λ (x : List ℕ × List ℕ). x.0 ≢ key) pairs
stands_not key [] none = tt
stands_not key (x ∷ xs) none = (
  (λ same. absurd (omega (arith, none, sum_by-cons (one_of key) x xs, one_hit key x (sym same)))),
  stands_not key xs (omega (arith, none, sum_by-cons (one_of key) x xs)),
)

all_above : (key : List ℕ) (pairs : PairsList) → Each (λ (x : List ℕ × List ℕ). x.0 ≢ key) pairs → Each (λ (x : List ℕ × List ℕ). is_lt (slice_cmp nat_cmp x.0 key) ≡ false) pairs → T (below_all (slice_cmp nat_cmp) key pairs)
all_above key [] none from = tt
all_above key (x ∷ xs) none from = both _ _ (elim (key_cases key x.0) [
  | inl lt ↦ subst (λ o. T (is_lt o)) (sym lt) tt
  | inr r ↦ elim r [ inl e ↦ absurd (none.0 (sym e)) | inr gt ↦ absurd (cc (sym from.0 ∙ ap is_lt gt)) ]
]) (all_above key xs none.1 from.1)

-- pairs with rising keys, each of which stands once, strictly rise
pub rises_once : (pairs : PairsList) → HasRisingKeys pairs → ((key : List ℕ) → times_of key pairs ≤ 1) → Rises pairs
rises_once [] rising once = tt
rises_once (x ∷ xs) rising once =
    let all : All (λ (e : List ℕ × List ℕ). is_below e x ≡ false) (x ∷ xs) = λ k d lt. sorted_far is_below (ranks_by nat_list_cmp_total (λ (e : List ℕ × List ℕ). e.0)) (x ∷ xs) rising 0 k d (omega arith) lt in
    let from = each_of (λ (e : List ℕ × List ℕ). is_below e x ≡ false) xs (All-tail (λ (e : List ℕ × List ℕ). is_below e x ≡ false) x xs all) in
    let rest : times_of x.0 xs ≡ 0 = omega (arith, once x.0, sum_by-cons (one_of x.0) x xs, one_hit x.0 x refl) in
    both _ _ (all_above x.0 xs (stands_not x.0 xs rest) from)
    (rises_once xs (sorted-tail is_below x xs rising) (λ key. omega (arith, once key, sum_by-cons (one_of key) x xs)))

-- ---- strictly rising pairs have rising keys

is_less : (o : Ordering) → T (is_lt o) → o ≡ Less
is_less Less lt = refl
is_less Equal lt = absurd lt
is_less Greater lt = absurd lt

none_below : (key : List ℕ) (pairs : PairsList) → T (below_all (slice_cmp nat_cmp) key pairs) → Each (λ (x : List ℕ × List ℕ). is_lt (slice_cmp nat_cmp x.0 key) ≡ false) pairs
none_below key [] below = tt
none_below key (x ∷ xs) below = (ap is_lt (greater x.0 key (is_less _ (first _ _ below))), none_below key xs (second _ _ below))

pub rising_of : (pairs : PairsList) → Rises pairs → HasRisingKeys pairs
rising_of [] rises = λ k d low high. absurd (omega (arith, high))
rising_of (x ∷ xs) rises = sorted-cons is_below x xs (rising_of xs (second _ _ rises)) (all_of (λ (e : List ℕ × List ℕ). is_below e x ≡ false) xs (none_below x.0 xs (first _ _ rises)))
