-- Lists of rising numbers, their prefixes and what a test keeps of them.
use Rattle.std.proofs.Common.{◌≡◌, ◌⊎◌, inl, inr, ℕ, zero, suc, ◌+◌, ◌-◌, ◌<◌, ◌≤◌, List, [], ◌∷◌, ◌++◌, length, take, cond, Bool, true, false, refl, ap, sym, ◌∙◌, subst, arith, get_or, append-nil}
use Rattle.std.specs.Prelude.{filter}
use Rattle.std.specs.List.{All, AllPairs, Contains}
use Rattle.std.proofs.lemmas.List.{get_or_append_left, get_or-append-add, length-append}
use Rattle.std.proofs.lemmas.Grind.{get_or_default_zero}
use Rattle.std.proofs.Math.Seq.{take-append-add}
use Rattle.std.proofs.lemmas.List.Elements.{All-head, All-tail, All-contains, Contains-get_or, Contains-append_left, Contains-append_right, Contains-push, Contains-push_cases, Contains-append_cases, filter_passes}
use Rattle.std.proofs.lemmas.List.Kept.{AllPairs-cons}

-- each number is below those after it
abbrev pub Rises : List ℕ → Type 0
Rises numbers = AllPairs (λ a b. a < b) numbers

pub none_paired : (R : ℕ → ℕ → Type 0) → AllPairs R []
none_paired R = λ i j d before within. absurd (omega (arith, before, within))

pub contains_nothing : (n : ℕ) → Contains {X = ℕ} [] n → ⊥
contains_nothing n has = omega (arith, has.1)

pub contains_first : (x : ℕ) (xs : List ℕ) → Contains (x ∷ xs) x
contains_first x xs = Contains-append_left (x ∷ []) xs x (Contains-push [] x)

pub contains_later : (x : ℕ) (xs : List ℕ) (n : ℕ) → Contains xs n → Contains (x ∷ xs) n
contains_later x xs n has = Contains-append_right (x ∷ []) xs n has

only_one : (x n : ℕ) → Contains (x ∷ []) n → x ≡ n
only_one x n has = elim (Contains-push_cases [] x n has) [ inl none ↦ absurd (contains_nothing n none) | inr is ↦ is ]

pub contains_cases : (x : ℕ) (xs : List ℕ) (n : ℕ) → Contains (x ∷ xs) n → (x ≡ n) ⊎ Contains xs n
contains_cases x xs n has = elim (Contains-append_cases (x ∷ []) xs n has) [ inl first ↦ inl (only_one x n first) | inr later ↦ inr later ]

pub all_from_contains : (P : ℕ → Type 0) (xs : List ℕ) → ((n : ℕ) → Contains xs n → P n) → All P xs
all_from_contains P xs each = λ k d within. each (get_or xs k d) (Contains-get_or xs k d within)

-- a test keeps what passes it
pub contains_kept : (test : ℕ → Bool) (xs : List ℕ) (n : ℕ) → Contains xs n → test n ≡ true → Contains (filter test xs) n
contains_kept test [] n has passes = has
contains_kept test (x ∷ xs) n has passes =
    let P : Bool → Type 0 = λ t. test x ≡ t → Contains (cond t (x ∷ filter test xs) (filter test xs)) n in
    elim (test x) as P [
      | true ↦ λ _. elim (contains_cases x xs n has) [
        | inl is ↦ subst (λ m. Contains (x ∷ filter test xs) m) is (contains_first x (filter test xs))
        | inr later ↦ contains_later x (filter test xs) n (contains_kept test xs n later passes)
      ]
      | false ↦ λ isnt. elim (contains_cases x xs n has) [
        | inl is ↦ absurd (let clash : true ≡ false = sym passes ∙ ap test (sym is) ∙ isnt in absurd cc)
        | inr later ↦ contains_kept test xs n later passes
      ]
    ] refl

pub contains_unkept : (test : ℕ → Bool) (xs : List ℕ) (n : ℕ) → Contains (filter test xs) n → Contains xs n
contains_unkept test [] n has = has
contains_unkept test (x ∷ xs) n has =
    let P : Bool → Type 0 = λ t. Contains (cond t (x ∷ filter test xs) (filter test xs)) n → Contains (x ∷ xs) n in
    elim (test x) as P [
      | true ↦ λ has. elim (contains_cases x (filter test xs) n has) [
        | inl is ↦ subst (λ m. Contains (x ∷ xs) m) is (contains_first x xs)
        | inr later ↦ contains_later x xs n (contains_unkept test xs n later)
      ]
      | false ↦ λ has. contains_later x xs n (contains_unkept test xs n has)
    ] has

pub kept_passes : (test : ℕ → Bool) (xs : List ℕ) (n : ℕ) → Contains (filter test xs) n → test n ≡ true
kept_passes test xs n has = All-contains (λ x. test x ≡ true) (filter test xs) n (filter_passes test xs) has

-- a test that nothing passes keeps nothing
pub kept_none : (test : ℕ → Bool) (xs : List ℕ) → All (λ x. test x ≡ false) xs → filter test xs ≡ []
kept_none test [] none = refl
kept_none test (x ∷ xs) none =
    ap (λ t. cond t (x ∷ filter test xs) (filter test xs)) (All-head (λ x. test x ≡ false) x xs none) ∙ kept_none test xs (All-tail (λ x. test x ≡ false) x xs none)

-- two tests, in either order
pub kept_both : (p q : ℕ → Bool) (xs : List ℕ) → filter p (filter q xs) ≡ filter q (filter p xs)
kept_both p q [] = refl
kept_both p q (x ∷ xs) =
    let further = kept_both p q xs in
    let P : Bool → Bool → Type 0 = λ s t. p x ≡ s → q x ≡ t → filter p (cond t (x ∷ filter q xs) (filter q xs)) ≡ filter q (cond s (x ∷ filter p xs) (filter p xs)) in
    let keep : (s t : Bool) → P s t = λ s t. elim s as (λ s. P s t) [
      | true ↦ elim t as (λ t. P true t) [
        | true ↦ λ yes_p yes_q. ap (λ b. cond b (x ∷ filter p (filter q xs)) (filter p (filter q xs))) yes_p ∙ ap (λ r. x ∷ r) further ∙ sym (ap (λ b. cond b (x ∷ filter q (filter p xs)) (filter q (filter p xs))) yes_q)
        | false ↦ λ yes_p no_q. further ∙ sym (ap (λ b. cond b (x ∷ filter q (filter p xs)) (filter q (filter p xs))) no_q)
      ]
      | false ↦ elim t as (λ t. P false t) [
        | true ↦ λ no_p yes_q. ap (λ b. cond b (x ∷ filter p (filter q xs)) (filter p (filter q xs))) no_p ∙ further
        | false ↦ λ no_p no_q. further
      ]
    ] in
    keep (p x) (q x) refl refl

-- what holds of each two numbers holds of those in a prefix
pub paired_front : (R : ℕ → ℕ → Type 0) (xs ys : List ℕ) → AllPairs R (xs ++ ys) → AllPairs R xs
paired_front R xs ys both = λ i j d before within.
    let longer : j < length (xs ++ ys) = omega (arith, within, length-append xs ys) in
    let at_i = get_or_append_left xs ys d i (omega (arith, before, within)) in
    let at_j = get_or_append_left xs ys d j within in
    subst (λ (p : ℕ × ℕ). R p.0 p.1) (λ k. (at_i k, at_j k)) (both i j d before longer)

-- and of those after the first
pub paired_rest : (R : ℕ → ℕ → Type 0) (x : ℕ) (xs : List ℕ) → AllPairs R (x ∷ xs) → AllPairs R xs
paired_rest R x xs all = λ i j d before within. all (suc i) (suc j) d (omega (arith, before)) (omega (arith, within))

-- no number stands both in a front of rising numbers and after it
pub rises_apart : (xs ys : List ℕ) (n : ℕ) → Rises (xs ++ ys) → Contains xs n → Contains ys n → ⊥
rises_apart xs ys n rises front back =
    let before : front.0 < length xs + back.0 = omega (arith, front.1) in
    let within : length xs + back.0 < length (xs ++ ys) = omega (arith, back.1, length-append xs ys) in
    let less = rises front.0 (length xs + back.0) n before within in
    let at_front = get_or_append_left xs ys n front.0 front.1 in
    let at_back = get_or-append-add xs ys back.0 n in
    omega (arith, less, at_front, at_back, front.2, back.2)

-- of what is after a front that has all that pass a test, none passes it
pub none_after : (test : ℕ → Bool) (xs ys : List ℕ) → Rises (xs ++ ys) → ((n : ℕ) → Contains (xs ++ ys) n → test n ≡ true → Contains xs n) → filter test ys ≡ []
none_after test xs ys rises has = kept_none test ys (all_from_contains (λ n. test n ≡ false) ys (λ n there.
    let P : Bool → Type 0 = λ t. test n ≡ t → t ≡ false in
    elim (test n) as P [
      | true ↦ λ passes. absurd (rises_apart xs ys n rises (has n (Contains-append_right xs ys n there) passes) there)
      | false ↦ λ _. refl
    ] refl))

-- a front that has all is the whole
pub all_in_front : (xs ys : List ℕ) → Rises (xs ++ ys) → ((n : ℕ) → Contains (xs ++ ys) n → Contains xs n) → xs ++ ys ≡ xs
all_in_front xs [] rises has = append-nil xs
all_in_front xs (y ∷ ys) rises has =
    let there : Contains (y ∷ ys) y = contains_first y ys in
    absurd (rises_apart xs (y ∷ ys) y rises (has y (Contains-append_right xs (y ∷ ys) y there)) there)

-- of two fronts of rising numbers, one that has all of the other is as long
pub longer_has : (xs ys : List ℕ) (count : ℕ) → Rises (xs ++ ys) → All (Contains (take count (xs ++ ys))) xs → length xs ≤ count
longer_has [] ys count rises has = omega arith
longer_has (x ∷ xs) ys zero rises has = absurd (contains_nothing x (All-head (Contains (take 0 (x ∷ xs ++ ys))) x xs has))
longer_has (x ∷ xs) ys (suc count) rises has =
    let later : All (Contains (take count (xs ++ ys))) xs = all_from_contains (Contains (take count (xs ++ ys))) xs (λ n there.
    let found : Contains (x ∷ take count (xs ++ ys)) n = All-contains (Contains (x ∷ take count (xs ++ ys))) xs n (All-tail (Contains (x ∷ take count (xs ++ ys))) x xs has) there in
    elim (contains_cases x (take count (xs ++ ys)) n found) [
      | inl is ↦ absurd (rises_apart (x ∷ []) (xs ++ ys) n rises (subst (λ m. Contains (x ∷ []) m) is (contains_first x [])) (Contains-append_left xs ys n there))
      | inr following ↦ following
    ]) in
    let further = longer_has xs ys count (paired_rest (λ a b. a < b) x (xs ++ ys) rises) later in
    omega (arith, further)

-- and one that is as long has them
pub has_longer : (xs ys : List ℕ) (count : ℕ) → length xs ≤ count → All (Contains (take count (xs ++ ys))) xs
has_longer xs ys count le =
    let split : length xs + (count - length xs) ≡ count = omega (arith, le) in
    let front : take count (xs ++ ys) ≡ xs ++ take (count - length xs) ys = sym (ap (λ c. take c (xs ++ ys)) split) ∙ take-append-add xs ys (count - length xs) in
    subst (λ (l : List ℕ). All (Contains l) xs) (sym front) (all_from_contains (Contains (xs ++ take (count - length xs) ys)) xs (λ n there. Contains-append_left xs (take (count - length xs) ys) n there))

-- a test again keeps what it kept
pub kept_twice : (test : ℕ → Bool) (xs : List ℕ) → filter test (filter test xs) ≡ filter test xs
kept_twice test [] = refl
kept_twice test (x ∷ xs) =
    let further = kept_twice test xs in
    let rest = filter test xs in
    let P : Bool → Type 0 = λ t. test x ≡ t → filter test (cond t (x ∷ rest) rest) ≡ cond t (x ∷ rest) rest in
    elim (test x) as P [
      | true ↦ λ passes. ap (λ t. cond t (x ∷ filter test rest) (filter test rest)) passes ∙ ap (λ r. x ∷ r) further
      | false ↦ λ _. further
    ] refl

-- the first of a prefix
pub take_first : {X : Type 0} (a b : ℕ) (xs : List X) → a ≤ b → take a (take b xs) ≡ take a xs
take_first zero b xs le = take_zero (take b xs) ∙ sym (take_zero xs)
  where
    take_zero : {X : Type 0} (xs : List X) → take 0 xs ≡ []
    take_zero [] = refl
    take_zero (x ∷ xs) = refl
take_first (suc a) zero xs le = absurd (omega (arith, le))
take_first (suc a) (suc b) [] le = refl
take_first (suc a) (suc b) (x ∷ xs) le = ap (λ r. x ∷ r) (take_first a b xs (omega (arith, le)))

-- a test that all pass keeps all
pub kept_all : (test : ℕ → Bool) (xs : List ℕ) → All (λ x. test x ≡ true) xs → filter test xs ≡ xs
kept_all test [] all = refl
kept_all test (x ∷ xs) all =
    ap (λ t. cond t (x ∷ filter test xs) (filter test xs)) (All-head (λ x. test x ≡ true) x xs all) ∙ ap (λ r. x ∷ r) (kept_all test xs (All-tail (λ x. test x ≡ true) x xs all))

-- tests that agree on a list keep the same of it
pub kept_same : (p q : ℕ → Bool) (xs : List ℕ) → ((n : ℕ) → Contains xs n → p n ≡ q n) → filter p xs ≡ filter q xs
kept_same p q [] agree = refl
kept_same p q (x ∷ xs) agree =
    ap (λ t. cond t (x ∷ filter p xs) (filter p xs)) (agree x (contains_first x xs))
    ∙ ap (λ r. cond (q x) (x ∷ r) r) (kept_same p q xs (λ n there. agree n (contains_later x xs n there)))

-- what holds of each two numbers follows from what is known of them
pub paired_weaker : (R S : ℕ → ℕ → Type 0) (xs : List ℕ) → ((a b : ℕ) → Contains xs a → Contains xs b → R a b → S a b) → AllPairs R xs → AllPairs S xs
paired_weaker R S xs weaker all = λ i j d before within.
    weaker (get_or xs i d) (get_or xs j d) (Contains-get_or xs i d (omega (arith, before, within))) (Contains-get_or xs j d within) (all i j d before within)

-- it holds of each two of both lists, where it holds in each and between them
pub paired_append : (R : ℕ → ℕ → Type 0) (xs ys : List ℕ) → AllPairs R xs → AllPairs R ys → ((a b : ℕ) → Contains xs a → Contains ys b → R a b) → AllPairs R (xs ++ ys)
paired_append R [] ys front back between = back
paired_append R (x ∷ xs) ys front back between =
    let first : (n : ℕ) → Contains (xs ++ ys) n → R x n = λ n there. elim (Contains-append_cases xs ys n there) [
      | inl near ↦ subst (λ m. R x m) near.2 (front 0 (suc near.0) n (omega arith) (omega (arith, near.1)))
      | inr far ↦ between x n (contains_first x xs) far
    ] in
    AllPairs-cons R x (xs ++ ys) (all_from_contains (R x) (xs ++ ys) first)
    (paired_append R xs ys (paired_rest R x xs front) back (λ a b at_a at_b. between a b (contains_later x xs a at_a) at_b))

-- the first ones of a longer list have the first ones of a shorter
pub contains_more : (xs ys : List ℕ) (count n : ℕ) → Contains (take count xs) n → Contains (take count (xs ++ ys)) n
contains_more [] ys zero n has = absurd (contains_nothing n has)
contains_more [] ys (suc count) n has = absurd (contains_nothing n has)
contains_more (x ∷ xs) ys zero n has = absurd (contains_nothing n has)
contains_more (x ∷ xs) ys (suc count) n has = elim (contains_cases x (take count xs) n has) [
  | inl is ↦ subst (λ m. Contains (x ∷ take count (xs ++ ys)) m) is (contains_first x (take count (xs ++ ys)))
  | inr later ↦ contains_later x (take count (xs ++ ys)) n (contains_more xs ys count n later)
]

-- what holds of each two numbers holds of one in front and one after
pub paired_across : (R : ℕ → ℕ → Type 0) (xs ys : List ℕ) (a b : ℕ) → AllPairs R (xs ++ ys) → Contains xs a → Contains ys b → R a b
paired_across R xs ys a b all front back =
    let within : length xs + back.0 < length (xs ++ ys) = omega (arith, back.1, length-append xs ys) in
    let at_front : get_or (xs ++ ys) front.0 0 ≡ a = get_or_append_left xs ys 0 front.0 front.1 ∙ sym (get_or_default_zero xs front.0 a front.1) ∙ front.2 in
    let at_back : get_or (xs ++ ys) (length xs + back.0) 0 ≡ b = get_or-append-add xs ys back.0 0 ∙ sym (get_or_default_zero ys back.0 b back.1) ∙ back.2 in
    subst (λ (p : ℕ × ℕ). R p.0 p.1) (λ i. (at_front i, at_back i)) (all front.0 (length xs + back.0) 0 (omega (arith, front.1)) within)
