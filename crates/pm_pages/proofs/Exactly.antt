-- Whether a list has exactly certain numbers, each once: what was seen of it so far.
use Rattle.std.proofs.Common.{◌≡◌, ℕ, ◌+◌, ◌<◌, ◌≤◌, Bool, true, false, List, length, drop, set, get_or, replicate, refl, sym, ap, ◌∙◌, inl, inr, arith}
use Rattle.std.specs.Prelude.{if◌then◌else◌, ◌==◌}
use Rattle.std.proofs.lemmas.Bool.{cases_eq, eq-eqb, ne_eqb}
use Rattle.std.proofs.lemmas.List.{drop_more, drop_all, get_or-set_same, get_or-set_other, length-set, length-replicate, get_or-replicate, get_or_default}
use Rattle.std.proofs.lemmas.List.FromFn.{fill_by_all}
use Rattle.pm_pages.specs.Chains.{times, IsExactly}

-- how often a number counts that was seen
abbrev pub one_if : Bool → ℕ
one_if seen = if seen then 1 else 0

pub record HasSeen (list : List ℕ) (wanted seen : List Bool) (k : ℕ) : Type 0 where
  pub size : length seen ≡ length wanted
  pub counts : (i : ℕ) → i < length wanted → times i list ≡ one_if (get_or seen i false) + times i (drop k list)
  pub below : (j : ℕ) (d : ℕ) → j < k → get_or list j d < length wanted

pub none_seen : (list : List ℕ) (wanted : List Bool) → HasSeen list wanted (replicate (length wanted) false) 0
none_seen list wanted = record {
  size = length-replicate (length wanted) false;
  counts = λ i lt. (let e : get_or (replicate (length wanted) false) i false ≡ false = get_or-replicate (length wanted) i false false lt in simp e (omega arith));
  below = λ j d lt. absurd (omega arith);
}

-- the numbers from one on are it and those after it
times-drop : (list : List ℕ) (k i n : ℕ) → k < length list → n ≡ get_or list k n → times i (drop k list) ≡ one_if (n == i) + times i (drop (k + 1) list)
times-drop list k i n lt is = ap (times i) (drop_more list k n lt) ∙ ap (λ m. one_if (m == i) + times i (drop (k + 1) list)) (sym is)

pub one_seen : (list : List ℕ) (wanted seen : List Bool) (k n : ℕ) → HasSeen list wanted seen k → k < length list → n ≡ get_or list k n → n < length seen → get_or seen n false ≡ false → HasSeen list wanted (set seen n true) (k + 1)
one_seen list wanted seen k n has lt is below new = record {
  size = length-set seen n true ∙ has.size;
  counts = λ i i_lt. has.counts i i_lt ∙ ap (λ t. one_if (get_or seen i false) + t) (times-drop list k i n lt is) ∙ step i;
  below = λ j d j_lt. elim (cases_eq j k) [
    | inl same ↦ omega (arith, has.size, ap (λ m. get_or list m d) same ∙ get_or_default list k d n lt ∙ sym is, below)
    | inr away ↦ has.below j d (omega (arith, away))
  ];
}
  where
    step : (i : ℕ) → one_if (get_or seen i false) + (one_if (n == i) + times i (drop (k + 1) list)) ≡ one_if (get_or (set seen n true) i false) + times i (drop (k + 1) list)
    step i = elim (cases_eq i n) [
      | inl same ↦
          let now : get_or (set seen n true) i false ≡ true = ap (λ j. get_or (set seen n true) j false) same ∙ get_or-set_same seen n true false below in
          let was : get_or seen i false ≡ false = ap (λ j. get_or seen j false) same ∙ new in
          simp (now, was, eq-eqb n i (sym same)) (omega arith)
      | inr away ↦ simp (get_or-set_other seen n i true false away, ne_eqb n i (λ e. away (sym e))) (omega arith)
    ]

one_if-le : (b : Bool) → one_if b ≤ 1
one_if-le true = omega arith
one_if-le false = omega arith

one_if_same : (a b : Bool) → one_if a ≡ one_if b → a ≡ b
one_if_same true true e = refl
one_if_same true false e = absurd (omega (arith, e))
one_if_same false true e = absurd (omega (arith, e))
one_if_same false false e = refl

-- a number that is seen again
pub seen_twice : (list : List ℕ) (wanted seen : List Bool) (k n : ℕ) → HasSeen list wanted seen k → k < length list → n ≡ get_or list k n → n < length seen → get_or seen n false ≡ true → IsExactly (length wanted) (λ i. get_or wanted i false) list → ⊥
seen_twice list wanted seen k n has lt is below again exactly =
    let below' : n < length wanted = omega (arith, has.size) in
    let first : one_if (get_or seen n false) ≡ 1 = ap one_if again in
    let here : one_if (n == n) ≡ 1 = ap one_if (eq-eqb n n refl) in
    omega (arith, has.counts n below', times-drop list k n n lt is, first, here, exactly.once n below', one_if-le (get_or wanted n false))

-- a number that no page has
pub too_large : (list : List ℕ) (wanted seen : List Bool) (k n : ℕ) → HasSeen list wanted seen k → k < length list → n ≡ get_or list k n → length seen ≤ n → IsExactly (length wanted) (λ i. get_or wanted i false) list → ⊥
too_large list wanted seen k n has lt is above exactly = omega (arith, has.size, exactly.below k n lt, is)

-- all that were seen
counted : (list : List ℕ) (wanted seen : List Bool) (k i : ℕ) → HasSeen list wanted seen k → length list ≤ k → i < length wanted → times i list ≡ one_if (get_or seen i false)
counted list wanted seen k i has last lt = omega (arith, has.counts i lt, ap (times i) (drop_all k list last))

-- all were seen that are wanted, and no other
pub as_wanted : (list : List ℕ) (wanted seen : List Bool) (k : ℕ) → HasSeen list wanted seen k → length list ≤ k → seen ≡ wanted → IsExactly (length wanted) (λ i. get_or wanted i false) list
as_wanted list wanted seen k has last same = record {
  below = λ j d lt. has.below j d (omega arith);
  once = λ i lt. counted list wanted seen k i has last lt ∙ ap (λ (t : List Bool). one_if (get_or t i false)) same;
}

same_flags : (xs ys : List Bool) (n : ℕ) → length xs ≡ n → length ys ≡ n → ((k : ℕ) → k < n → get_or xs k false ≡ get_or ys k false) → xs ≡ ys
same_flags xs ys n x_long y_long same = fill_by_all (λ k. get_or ys k false) xs n false x_long same ∙ sym (fill_by_all (λ k. get_or ys k false) ys n false y_long (λ k lt. refl))

pub not_as_wanted : (list : List ℕ) (wanted seen : List Bool) (k : ℕ) → HasSeen list wanted seen k → length list ≤ k → IsExactly (length wanted) (λ i. get_or wanted i false) list → seen ≡ wanted
not_as_wanted list wanted seen k has last exactly = same_flags seen wanted (length wanted) has.size refl
    (λ i lt. one_if_same (get_or seen i false) (get_or wanted i false) (sym (counted list wanted seen k i has last lt) ∙ exactly.once i lt))
