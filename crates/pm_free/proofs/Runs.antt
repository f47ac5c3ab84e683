-- A chain as a run of numbers, each of which names the one after it and the one before it; 0 stands before the first
-- and after the last. A number is taken out of a run, or put at its front.
use Rattle.std.proofs.Common.{◌≡◌, ◌≢◌, ℕ, zero, suc, ◌+◌, ◌<◌, ◌≤◌, ◌⊎◌, List, [], ◌∷◌, ◌==◌, length, refl, sym, ap, subst, ◌∙◌, inl, inr, arith}
use Rattle.std.specs.Prelude.{if◌then◌else◌}
use Rattle.std.proofs.lemmas.Bool.{cases_eq, eq-eqb, ne_eqb}
use Rattle.pm_pages.specs.Chains.{times, walk, NamesBefore}
use Rattle.pm_pages.proofs.ChainWalks.{times_here, times_other, more, walk_none, walk_on}

-- from p on
abbrev pub Run : (ℕ → ℕ) → (ℕ → ℕ) → ℕ → List ℕ → Type 0
Run next before p [] = next p ≡ 0
Run next before p (x ∷ xs) = (next p ≡ x) × (x ≢ 0) × (before x ≡ p) × Run next before x xs

-- where nothing changed on the way
pub run_same : (N B N' B' : ℕ → ℕ) (p : ℕ) (xs : List ℕ) → ((j : ℕ) → 1 ≤ times j (p ∷ xs) → N' j ≡ N j) → ((j : ℕ) → 1 ≤ times j xs → B' j ≡ B j) → Run N B p xs → Run N' B' p xs
run_same N B N' B' p [] n b run = n p (omega (arith, times_here p [])) ∙ run
run_same N B N' B' p (x ∷ xs) n b run = (
  n p (omega (arith, times_here p (x ∷ xs))) ∙ run.0,
  run.1,
  b x (omega (arith, times_here x xs)) ∙ run.2,
  run_same N B N' B' x xs (λ j some. n j (more p j (x ∷ xs) some)) (λ j some. b j (more x j xs some)) run.3,
)

-- the number before one of a run is of the run, or the one before it
pub before_stands : (N B : ℕ → ℕ) (p at : ℕ) (xs : List ℕ) → Run N B p xs → 1 ≤ times at xs → 1 ≤ times (B at) (p ∷ xs)
before_stands N B p at [] run some = absurd (omega (arith, some))
before_stands N B p at (x ∷ xs) run some = elim (cases_eq x at) [
  | inl e ↦ (let same : B at ≡ p = ap B (sym e) ∙ run.2 in subst (λ n. 1 ≤ times n (p ∷ x ∷ xs)) (sym same) (omega (arith, times_here p (x ∷ xs))))
  | inr ne ↦ more p (B at) (x ∷ xs) (before_stands N B x at xs run.3 (omega (arith, some, times_other at x xs ne)))
]

-- the number after one of a run is of the run, or 0
follows : (N B : ℕ → ℕ) (p : ℕ) (xs : List ℕ) → Run N B p xs → (N p ≡ 0) ⊎ (1 ≤ times (N p) xs)
follows N B p [] run = inl run
follows N B p (x ∷ xs) run = inr (subst (λ n. 1 ≤ times n (x ∷ xs)) (sym run.0) (omega (arith, times_here x xs)))

pub next_stands : (N B : ℕ → ℕ) (p at : ℕ) (xs : List ℕ) → Run N B p xs → 1 ≤ times at xs → (N at ≡ 0) ⊎ (1 ≤ times (N at) xs)
next_stands N B p at [] run some = absurd (omega (arith, some))
next_stands N B p at (x ∷ xs) run some = elim (cases_eq x at) [
  | inl e ↦ subst (λ n. (N n ≡ 0) ⊎ (1 ≤ times (N n) (x ∷ xs))) e (elim (follows N B x xs run.3) [ inl none ↦ inl none | inr there ↦ inr (more x (N x) xs there) ])
  | inr ne ↦ elim (next_stands N B x at xs run.3 (omega (arith, some, times_other at x xs ne))) [ inl none ↦ inl none | inr there ↦ inr (more x (N at) xs there) ]
]

-- the list without the first that is this number
abbrev pub without : ℕ → List ℕ → List ℕ
without at [] = []
without at (x ∷ xs) = if x == at then xs else x ∷ without at xs

without_here : (at x : ℕ) (xs : List ℕ) → x ≡ at → without at (x ∷ xs) ≡ xs
without_here at x xs e = simp (eq-eqb x at e) refl

without_other : (at x : ℕ) (xs : List ℕ) → x ≢ at → without at (x ∷ xs) ≡ x ∷ without at xs
without_other at x xs ne = simp (ne_eqb x at ne) refl

pub times_without_here : (at : ℕ) (xs : List ℕ) → 1 ≤ times at xs → times at (without at xs) + 1 ≡ times at xs
times_without_here at [] some = absurd (omega (arith, some))
times_without_here at (x ∷ xs) some = elim (cases_eq x at) [
  | inl e ↦ (let here : times at (x ∷ xs) ≡ 1 + times at xs = ap (λ n. times at (n ∷ xs)) e ∙ times_here at xs in omega (arith, here, ap (λ t. times at t) (without_here at x xs e)))
  | inr ne ↦ (let skip = times_other at x xs ne in omega (arith, skip, ap (λ t. times at t) (without_other at x xs ne), times_other at x (without at xs) ne, times_without_here at xs (omega (arith, some, skip))))
]

pub times_without_other : (at j : ℕ) (xs : List ℕ) → j ≢ at → times j (without at xs) ≡ times j xs
times_without_other at j [] ne = refl
times_without_other at j (x ∷ xs) ne = elim (cases_eq x at) [
  | inl e ↦ ap (λ t. times j t) (without_here at x xs e) ∙ sym (times_other j x xs (λ z. ne (sym z ∙ e)))
  | inr other ↦ (let rest = times_without_other at j xs ne in let e = ap (λ t. times j t) (without_other at x xs other) in omega (arith, e, rest))
]

-- A number is taken out: the one before it names the one after it, and the other way round.
module _ (N B N' B' : ℕ → ℕ) (at : ℕ) (here : N' (B at) ≡ N at) (next : (j : ℕ) → j ≢ B at → N' j ≡ N j) (back : N at ≢ 0 → B' (N at) ≡ B at) (before : (j : ℕ) → j ≢ N at → B' j ≡ B j) where
  first_out : (p : ℕ) (xs : List ℕ) → B at ≡ p → Run N B at xs → ((j : ℕ) → times j (p ∷ at ∷ xs) ≤ 1) → Run N' B' p xs
  first_out p [] is run once = ap N' (sym is) ∙ here ∙ run
  first_out p (y ∷ ys) is run once = (
    ap N' (sym is) ∙ here ∙ run.0,
    run.1,
    ap B' (sym run.0) ∙ back (λ z. run.1 (sym run.0 ∙ z)) ∙ is,
    run_same N B N' B' y ys
        (λ j some. next j (λ e. (let some' = subst (λ n. 1 ≤ times n (y ∷ ys)) (e ∙ is) some in omega (arith, some', more at p (y ∷ ys) some', times_here p (at ∷ y ∷ ys), once p))))
        (λ j some. before j (λ e. (let some' = subst (λ n. 1 ≤ times n ys) (e ∙ run.0) some in omega (arith, some', times_here y ys, once y))))
        run.3,
  )

  pub run_without : (p : ℕ) (xs : List ℕ) → Run N B p xs → 1 ≤ times at xs → ((j : ℕ) → times j (p ∷ xs) ≤ 1) → Run N' B' p (without at xs)
  run_without p [] run some once = absurd (omega (arith, some))
  run_without p (x ∷ xs) run some once = elim (cases_eq x at) [
    | inl e ↦
        subst (Run N' B' p) (sym (without_here at x xs e))
        (first_out p xs (ap B (sym e) ∙ run.2) (subst (λ n. Run N B n xs) e run.3) (subst (λ n. (j : ℕ) → times j (p ∷ n ∷ xs) ≤ 1) e once))
    | inr ne ↦
        let some' : 1 ≤ times at xs = omega (arith, some, times_other at x xs ne) in
        let tail : (j : ℕ) → times j (x ∷ xs) ≤ 1 = λ j. omega (arith, once j) in
        subst (Run N' B' p) (sym (without_other at x xs ne)) (
          next p (λ e. (let stands = before_stands N B x at xs run.3 some' in let at_p = subst (λ n. 1 ≤ times n (x ∷ xs)) (sym e) stands in omega (arith, at_p, times_here p (x ∷ xs), once p))) ∙ run.0,
          run.1,
          before x (λ e. elim (next_stands N B x at xs run.3 some') [ inl none ↦ run.1 (e ∙ none) | inr there ↦ (let at_x = subst (λ n. 1 ≤ times n xs) (sym e) there in omega (arith, at_x, times_here x xs, tail x)) ]) ∙ run.2,
          run_without x xs run.3 some' tail,
        )
  ]

-- A number is put at the front.
module _ (N B N' B' : ℕ → ℕ) (at : ℕ) (some : at ≢ 0) (first : N' 0 ≡ at) (here : N' at ≡ N 0) (next : (j : ℕ) → j ≢ 0 → j ≢ at → N' j ≡ N j) (start : B' at ≡ 0) (back : N 0 ≢ 0 → N 0 ≢ at → B' (N 0) ≡ at) (before : (j : ℕ) → j ≢ at → j ≢ N 0 → B' j ≡ B j) where
  pub run_with : (xs : List ℕ) → Run N B 0 xs → times at xs ≡ 0 → ((j : ℕ) → times j (0 ∷ xs) ≤ 1) → Run N' B' 0 (at ∷ xs)
  run_with [] run away once = (first, some, start, here ∙ run)
  run_with (x ∷ xs) run away once =
      let is_away : (j : ℕ) → 1 ≤ times j (x ∷ xs) → j ≢ at = λ j there e. (let there' = subst (λ n. 1 ≤ times n (x ∷ xs)) e there in omega (arith, there', away)) in
      let is_some : (j : ℕ) → 1 ≤ times j (x ∷ xs) → j ≢ 0 = λ j there e. (let there' = subst (λ n. 1 ≤ times n (x ∷ xs)) e there in omega (arith, there', times_here 0 (x ∷ xs), once 0)) in
      let x_away : x ≢ at = is_away x (omega (arith, times_here x xs)) in (
        first,
        some,
        start,
        (
          here ∙ run.0,
          run.1,
          ap B' (sym run.0) ∙ back (λ z. run.1 (sym run.0 ∙ z)) (λ z. x_away (sym run.0 ∙ z)),
          run_same N B N' B' x xs (λ j there. next j (is_some j there) (is_away j there))
              (λ j there. before j (is_away j (more x j xs there)) (λ e. (let there' = subst (λ n. 1 ≤ times n xs) (e ∙ run.0) there in omega (arith, there', times_here x xs, once x))))
              run.3,
        ),
      )

-- a run is what a walk passes
pub walk_run : (f N B : ℕ → ℕ) → ((j : ℕ) → j ≢ 0 → N j ≡ f j) → (n p : ℕ) (xs : List ℕ) → Run N B p xs → length xs ≤ n → walk f n (N p) ≡ xs
walk_run f N B same n p [] run le = (λ k. walk f n (run k)) ∙ walk_none f n
walk_run f N B same zero p (x ∷ xs) run le = absurd (omega (arith, le))
walk_run f N B same (suc n) p (x ∷ xs) run le =
    (λ k. walk f (suc n) (run.0 k))
    ∙ walk_on f n x run.1
    ∙ ap (λ t. x ∷ t) ((λ k. walk f n (sym (same x run.1) k)) ∙ walk_run f N B same n x xs run.3 (omega (arith, le)))

pub names_run : (N B : ℕ → ℕ) (p : ℕ) (xs : List ℕ) → Run N B p xs → NamesBefore B p xs
names_run N B p [] run = tt
names_run N B p (x ∷ xs) run = (run.2, names_run N B x xs run.3)

-- what a walk passes that ended is a run
pub run_walk : (f N B : ℕ → ℕ) → ((j : ℕ) → j ≢ 0 → N j ≡ f j) → (n p at : ℕ) → N p ≡ at → NamesBefore B p (walk f n at) → length (walk f n at) < n → Run N B p (walk f n at)
run_walk f N B same zero p at is names short = absurd (omega (arith, short))
run_walk f N B same (suc n) p at is names short = elim (cases_eq at 0) [
  | inl e ↦ (let none : walk f (suc n) at ≡ [] = λ k. walk f (suc n) (e k) in subst (Run N B p) (sym none) (is ∙ e))
  | inr away ↦
      let on = walk_on f n at away in
      let names' : (B at ≡ p) × NamesBefore B at (walk f n (f at)) = subst (NamesBefore B p) on names in
      subst (Run N B p) (sym on) (is, away, names'.0, run_walk f N B same n at (f at) (same at away) names'.1 (omega (arith, short, ap length on)))
]
