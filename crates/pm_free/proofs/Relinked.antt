-- A page that is taken out of a chain, and one that is put at a chain's head: the other chains stay.
use Rattle.std.proofs.Common.{◌≡◌, ◌≢◌, ℕ, ◌+◌, ◌<◌, ◌≤◌, ◌⊎◌, Bool, true, false, List, [], ◌∷◌, ◌==◌, length, refl, sym, ap, subst, ◌∙◌, inl, inr, arith}
use Rattle.std.specs.Prelude.{if◌then◌else◌}
use Rattle.std.proofs.lemmas.Bool.{cases_eq, cases_lt, eq-eqb, ne_eqb}
use Rattle.pm_meta.specs.declared.layout.TheConstants.{BUCKETS}
use Rattle.pm_meta.specs.declared.slots.MetaSlot.TheVariants.{Bucket}
use Rattle.pm_pages.specs.Rows.{Partition, page_at, page_count, number_in}
use Rattle.pm_pages.specs.Chains.{times, IsExactly, NamesBefore, next_of, bucket_chain}
use Rattle.pm_free.specs.Chained.{with_home, IsChainOf, AreChained}
use Rattle.pm_pages.proofs.ChainWalks.{times_here, times_other, stands, all_stand, few, walk_some}
use Rattle.pm_free.proofs.Runs.{Run, run_same, before_stands, next_stands, without, times_without_here, times_without_other, run_without, run_with, walk_run, names_run, run_walk}
use Rattle.pm_free.proofs.Views.{chain_next, chain_before, next_here}

abbrev pub one_if : Bool → ℕ
one_if b = if b then 1 else 0

one_if-le : (b : Bool) → one_if b ≤ 1
one_if-le true = omega arith
one_if-le false = omega arith

-- numbers below n, each once where a test says so
pub record IsListOf (n : ℕ) (test : ℕ → Bool) (xs : List ℕ) : Type 0 where
  pub counts : (i : ℕ) → i < n → times i xs ≡ one_if (test i)
  pub past : (i : ℕ) → n ≤ i → times i xs ≡ 0

list_once : (n : ℕ) (test : ℕ → Bool) (xs : List ℕ) → IsListOf n test xs → (j : ℕ) → times j xs ≤ 1
list_once n test xs is j = elim (cases_lt j n) [
  | inl lt ↦ omega (arith, is.counts j lt, one_if-le (test j))
  | inr le ↦ omega (arith, is.past j le)
]

-- with 0 before them
pub zero_once : (xs : List ℕ) → ((j : ℕ) → times j xs ≤ 1) → times 0 xs ≡ 0 → (j : ℕ) → times j (0 ∷ xs) ≤ 1
zero_once xs once none j = elim (cases_eq 0 j) [
  | inl e ↦ (let here : times j (0 ∷ xs) ≡ 1 + times j xs = ap (λ n. times j (n ∷ xs)) e ∙ times_here j xs in omega (arith, here, ap (λ n. times n xs) (sym e), none))
  | inr ne ↦ omega (arith, times_other j 0 xs ne, once j)
]

list_below : (n : ℕ) (test : ℕ → Bool) (xs : List ℕ) → IsListOf n test xs → (j : ℕ) → 1 ≤ times j xs → j < n
list_below n test xs is j some = elim (cases_lt j n) [ inl lt ↦ lt | inr le ↦ absurd (omega (arith, some, is.past j le)) ]

list_short : (n : ℕ) (test : ℕ → Bool) (xs : List ℕ) → 0 < n → IsListOf n test xs → times 0 xs ≡ 0 → length xs < n
list_short n test xs some is none =
    let below : (j : ℕ) → 1 ≤ times j (0 ∷ xs) → j < n = λ j there. elim (cases_eq 0 j) [ inl e ↦ omega (arith, e, some) | inr ne ↦ list_below n test xs is j (omega (arith, there, times_other j 0 xs ne)) ] in
    let short = few n (0 ∷ xs) (zero_once xs (list_once n test xs is) none) below in
    omega (arith, short)

-- the chain of a bucket is a run
pub record IsRunOf (pages : Partition) (bucket : ℕ) (test : ℕ → Bool) (xs : List ℕ) : Type 0 where
  pub run : Run (chain_next pages bucket) (chain_before pages) 0 xs
  pub list : IsListOf (page_count pages) test xs
  pub none : times 0 xs ≡ 0

pub run_once : (pages : Partition) (bucket : ℕ) (test : ℕ → Bool) (xs : List ℕ) → IsRunOf pages bucket test xs → (j : ℕ) → times j (0 ∷ xs) ≤ 1
run_once pages bucket test xs is = zero_once xs (list_once (page_count pages) test xs is.list) is.none

pub run_of : (pages : Partition) (bucket : ℕ) (test : ℕ → Bool) → 0 < page_count pages → IsChainOf pages bucket test → IsRunOf pages bucket test (bucket_chain pages bucket)
run_of pages bucket test some chain =
    let xs = bucket_chain pages bucket in
    let list : IsListOf (page_count pages) test xs = record {
      counts = chain.exact.once;
      past = λ i le. elim (cases_lt 0 (times i xs)) [ inl lt ↦ absurd (omega (arith, le, stands (λ j. j < page_count pages) xs chain.exact.below i (omega (arith, lt)))) | inr z ↦ omega (arith, z) ];
    } in
    let none : times 0 xs ≡ 0 = elim (cases_lt 0 (times 0 xs)) [ inl lt ↦ absurd (omega (arith, walk_some (λ i. next_of (page_at pages i)) (page_count pages) (number_in pages (Bucket bucket)) 0 (omega (arith, lt)))) | inr z ↦ omega (arith, z) ] in
    record {
      run = run_walk (λ i. next_of (page_at pages i)) (chain_next pages bucket) (chain_before pages) (λ j ne. next_here pages bucket j ne) (page_count pages) 0 (number_in pages (Bucket bucket)) refl chain.before (list_short (page_count pages) test xs some list none);
      list = list;
      none = none;
    }

pub chain_of : (pages : Partition) (bucket : ℕ) (test : ℕ → Bool) (xs : List ℕ) → 0 < page_count pages → IsRunOf pages bucket test xs → IsChainOf pages bucket test
chain_of pages bucket test xs some is =
    let short = list_short (page_count pages) test xs some is.list is.none in
    let chain : bucket_chain pages bucket ≡ xs =
    walk_run (λ i. next_of (page_at pages i)) (chain_next pages bucket) (chain_before pages) (λ j ne. next_here pages bucket j ne) (page_count pages) 0 xs is.run (omega (arith, short)) in
    record {
      exact = subst (IsExactly (page_count pages) test) (sym chain) (record {
        below = all_stand (λ i. i < page_count pages) xs (list_below (page_count pages) test xs is.list);
        once = is.list.counts;
      });
      before = subst (NamesBefore (chain_before pages) 0) (sym chain) (names_run (chain_next pages bucket) (chain_before pages) 0 xs is.run);
    }

-- what a page of a chain has as its bucket
pub home_there : (n bucket j : ℕ) (home : ℕ → ℕ) (xs : List ℕ) → IsListOf n (λ i. home i == bucket) xs → 1 ≤ times j xs → home j ≡ bucket
home_there n bucket j home xs list some = elim (cases_eq (home j) bucket) [
  | inl e ↦ e
  | inr ne ↦ (let count = list.counts j (list_below n (λ i. home i == bucket) xs list j some) in let none : one_if (home j == bucket) ≡ 0 = simp (ne_eqb (home j) bucket ne) refl in absurd (omega (arith, some, count, none)))
]

pub stands_home : (n bucket j : ℕ) (home : ℕ → ℕ) (xs : List ℕ) → IsListOf n (λ i. home i == bucket) xs → j < n → home j ≡ bucket → times j xs ≡ 1
stands_home n bucket j home xs list lt is = list.counts j lt ∙ simp (eq-eqb (home j) bucket is) refl

pub away_home : (n bucket j : ℕ) (home : ℕ → ℕ) (xs : List ℕ) → IsListOf n (λ i. home i == bucket) xs → home j ≢ bucket → times j xs ≡ 0
away_home n bucket j home xs list ne = elim (cases_lt 0 (times j xs)) [ inl lt ↦ absurd (ne (home_there n bucket j home xs list (omega (arith, lt)))) | inr z ↦ omega (arith, z) ]

-- the list for another home of page `at`, where it has the counts
list_with : (n bucket at to : ℕ) (home : ℕ → ℕ) (xs ys : List ℕ) → IsListOf n (λ i. home i == bucket) xs → at < n → times at ys ≡ one_if (to == bucket) → ((j : ℕ) → j ≢ at → times j ys ≡ times j xs) → IsListOf n (λ i. with_home home at to i == bucket) ys
list_with n bucket at to home xs ys list below here others = record {
  counts = λ i lt. elim (cases_eq i at) [
    | inl e ↦ ap (λ k. times k ys) e ∙ here ∙ sym (home_is i e)
    | inr ne ↦ others i ne ∙ list.counts i lt ∙ sym (home_other i ne)
  ];
  past = λ i le. others i (λ e. omega (arith, e, le, below)) ∙ list.past i le;
}
  where
    home_is : (i : ℕ) → i ≡ at → one_if (with_home home at to i == bucket) ≡ one_if (to == bucket)
    home_is i e = simp (eq-eqb i at e) refl

    home_other : (i : ℕ) → i ≢ at → one_if (with_home home at to i == bucket) ≡ one_if (home i == bucket)
    home_other i ne = simp (ne_eqb i at ne) refl

-- Page `at` was taken out of a chain: `prev` and `next`, which it names, name one another.
module _ (old new : Partition) (at bucket prev next : ℕ) (count : page_count new ≡ page_count old) (below : at < page_count old) (some : at ≢ 0) (prev_is : chain_before old at ≡ prev) (next_is : chain_next old bucket at ≡ next)
    (here : chain_next new bucket prev ≡ next) (heads : (b : ℕ) → b < BUCKETS → b ≢ bucket → number_in new (Bucket b) ≡ number_in old (Bucket b)) (nexts : (b j : ℕ) → b < BUCKETS → j ≢ prev → chain_next new b j ≡ chain_next old b j)
    (back : next ≢ 0 → chain_before new next ≡ prev) (befores : (j : ℕ) → j ≢ next → chain_before new j ≡ chain_before old j) where
  pub unlinked : (home : ℕ → ℕ) → bucket < BUCKETS → AreChained old home → home at ≡ bucket → AreChained new (with_home home at BUCKETS)
  unlinked home is_bucket chained is = record { each = each }
    where
      some_old : 0 < page_count old
      some_old = omega (arith, below)

      some_new : 0 < page_count new
      some_new = omega (arith, below, count)

      was : (b : ℕ) → b < BUCKETS → IsRunOf old b (λ i. home i == b) (bucket_chain old b)
      was b lt = run_of old b (λ i. home i == b) some_old (chained.each b lt)

      gone : (b : ℕ) → b < BUCKETS → one_if (BUCKETS == b) ≡ 0
      gone b lt = simp (ne_eqb BUCKETS b (λ e. omega (arith, e, lt))) refl

      there : 1 ≤ times at (bucket_chain old bucket)
      there = omega (arith, stands_home (page_count old) bucket at home (bucket_chain old bucket) (was bucket is_bucket).list below is)

      -- the pages before and after it are of the same chain
      prev_home : prev ≢ 0 → home prev ≡ bucket
      prev_home ne =
          let w = was bucket is_bucket in
          let s = subst (λ n. 1 ≤ times n (0 ∷ bucket_chain old bucket)) prev_is (before_stands (chain_next old bucket) (chain_before old) 0 at (bucket_chain old bucket) w.run there) in
          home_there (page_count old) bucket prev home (bucket_chain old bucket) w.list (omega (arith, s, times_other prev 0 (bucket_chain old bucket) (λ e. ne (sym e))))

      next_home : next ≢ 0 → home next ≡ bucket
      next_home ne =
          let w = was bucket is_bucket in
          elim (subst (λ n. (n ≡ 0) ⊎ (1 ≤ times n (bucket_chain old bucket))) next_is (next_stands (chain_next old bucket) (chain_before old) 0 at (bucket_chain old bucket) w.run there)) [
            | inl e ↦ absurd (ne e)
            | inr s ↦ home_there (page_count old) bucket next home (bucket_chain old bucket) w.list s
          ]

      here_run : IsRunOf new bucket (λ i. with_home home at BUCKETS i == bucket) (without at (bucket_chain old bucket))
      here_run =
          let w = was bucket is_bucket in
          let xs = bucket_chain old bucket in
          let one = stands_home (page_count old) bucket at home xs w.list below is in
          record {
            run = run_without (chain_next old bucket) (chain_before old) (chain_next new bucket) (chain_before new) at
                (ap (λ n. chain_next new bucket n) prev_is ∙ here ∙ sym next_is)
                (λ j ne. nexts bucket j is_bucket (λ e. ne (e ∙ sym prev_is)))
                (λ ne. ap (λ n. chain_before new n) next_is ∙ back (λ e. ne (next_is ∙ e)) ∙ sym prev_is)
                (λ j ne. befores j (λ e. ne (e ∙ sym next_is)))
                0 xs w.run there (run_once old bucket (λ i. home i == bucket) xs w);
            list = subst (λ n. IsListOf n (λ i. with_home home at BUCKETS i == bucket) (without at xs)) (sym count)
                (list_with (page_count old) bucket at BUCKETS home xs (without at xs) w.list below (omega (arith, gone bucket is_bucket, times_without_here at xs there, one)) (λ j ne. times_without_other at j xs ne));
            none = times_without_other at 0 xs (λ e. some (sym e)) ∙ w.none;
          }

      other_run : (b : ℕ) → b < BUCKETS → b ≢ bucket → IsRunOf new b (λ i. with_home home at BUCKETS i == b) (bucket_chain old b)
      other_run b lt ne =
          let w = was b lt in
          let xs = bucket_chain old b in
          record {
            run = run_same (chain_next old b) (chain_before old) (chain_next new b) (chain_before new) 0 xs
                (λ j s. elim (cases_eq j prev) [
                  | inr away ↦ nexts b j lt away
                  | inl e ↦ elim (cases_eq j 0) [
                    | inl z ↦ ap (λ n. chain_next new b n) z ∙ heads b lt ne ∙ sym (ap (λ n. chain_next old b n) z)
                    | inr nz ↦ absurd (ne (sym (home_there (page_count old) b j home xs w.list (omega (arith, s, times_other j 0 xs (λ z. nz (sym z))))) ∙ ap home e ∙ prev_home (λ z. nz (e ∙ z))))
                  ]
                ])
                (λ j s. befores j (λ e. ne (sym (home_there (page_count old) b j home xs w.list s) ∙ ap home e ∙ next_home (λ z. (let zero_there = subst (λ n. 1 ≤ times n xs) (e ∙ z) s in omega (arith, zero_there, w.none))))))
                w.run;
            list = subst (λ n. IsListOf n (λ i. with_home home at BUCKETS i == b) xs) (sym count)
                (list_with (page_count old) b at BUCKETS home xs xs w.list below (away_home (page_count old) b at home xs w.list (λ e. ne (sym e ∙ is)) ∙ sym (gone b lt)) (λ j z. refl));
            none = w.none;
          }

      each : (b : ℕ) → b < BUCKETS → IsChainOf new b (λ i. with_home home at BUCKETS i == b)
      each b lt = elim (cases_eq b bucket) [
        | inl e ↦ subst (λ n. IsChainOf new n (λ i. with_home home at BUCKETS i == n)) (sym e) (chain_of new bucket (λ i. with_home home at BUCKETS i == bucket) (without at (bucket_chain old bucket)) some_new here_run)
        | inr ne ↦ chain_of new b (λ i. with_home home at BUCKETS i == b) (bucket_chain old b) some_new (other_run b lt ne)
      ]

-- Page `at`, which stood in no chain, was put before the first page of a chain.
module _ (old new : Partition) (at bucket head : ℕ) (count : page_count new ≡ page_count old) (below : at < page_count old) (not_meta : at ≢ 0) (head_is : number_in old (Bucket bucket) ≡ head)
    (first : number_in new (Bucket bucket) ≡ at) (heads : (b : ℕ) → b < BUCKETS → b ≢ bucket → number_in new (Bucket b) ≡ number_in old (Bucket b)) (here : (b : ℕ) → chain_next new b at ≡ head)
    (nexts : (b j : ℕ) → j ≢ 0 → j ≢ at → chain_next new b j ≡ chain_next old b j) (start : chain_before new at ≡ 0) (back : head ≢ 0 → head ≢ at → chain_before new head ≡ at)
    (befores : (j : ℕ) → j ≢ at → j ≢ head → chain_before new j ≡ chain_before old j) where
  pub linked : (home : ℕ → ℕ) → bucket < BUCKETS → AreChained old home → home at ≡ BUCKETS → AreChained new (with_home home at bucket)
  linked home is_bucket chained is = record { each = each }
    where
      some_old : 0 < page_count old
      some_old = omega (arith, below)

      some_new : 0 < page_count new
      some_new = omega (arith, below, count)

      was : (b : ℕ) → b < BUCKETS → IsRunOf old b (λ i. home i == b) (bucket_chain old b)
      was b lt = run_of old b (λ i. home i == b) some_old (chained.each b lt)

      away : (b : ℕ) → b < BUCKETS → times at (bucket_chain old b) ≡ 0
      away b lt = away_home (page_count old) b at home (bucket_chain old b) (was b lt).list (λ e. omega (arith, e, is, lt))

      not_at : (b j : ℕ) → b < BUCKETS → 1 ≤ times j (bucket_chain old b) → j ≢ at
      not_at b j lt s e = (let s' = subst (λ n. 1 ≤ times n (bucket_chain old b)) e s in omega (arith, s', away b lt))

      head_home : head ≢ 0 → home head ≡ bucket
      head_home ne =
          let w = was bucket is_bucket in
          home_there (page_count old) bucket head home (bucket_chain old bucket) w.list (stands_first (bucket_chain old bucket) w.run)
        where
          stands_first : (xs : List ℕ) → Run (chain_next old bucket) (chain_before old) 0 xs → 1 ≤ times head xs
          stands_first [] run = absurd (ne (sym head_is ∙ run))
          stands_first (x ∷ xs) run = subst (λ n. 1 ≤ times n (x ∷ xs)) (sym run.0 ∙ head_is) (omega (arith, times_here x xs))

      here_run : IsRunOf new bucket (λ i. with_home home at bucket i == bucket) (at ∷ bucket_chain old bucket)
      here_run =
          let w = was bucket is_bucket in
          let xs = bucket_chain old bucket in
          let one : one_if (bucket == bucket) ≡ 1 = simp (eq-eqb bucket bucket refl) refl in
          record {
            run = run_with (chain_next old bucket) (chain_before old) (chain_next new bucket) (chain_before new) at not_meta first (here bucket ∙ sym head_is) (λ j nz ne. nexts bucket j nz ne) start
                (λ nz ne. ap (λ n. chain_before new n) head_is ∙ back (λ e. nz (head_is ∙ e)) (λ e. ne (head_is ∙ e))) (λ j ne nh. befores j ne (λ e. nh (e ∙ sym head_is)))
                xs w.run (away bucket is_bucket) (run_once old bucket (λ i. home i == bucket) xs w);
            list = subst (λ n. IsListOf n (λ i. with_home home at bucket i == bucket) (at ∷ xs)) (sym count)
                (list_with (page_count old) bucket at bucket home xs (at ∷ xs) w.list below (omega (arith, times_here at xs, away bucket is_bucket, one)) (λ j ne. times_other j at xs (λ e. ne (sym e))));
            none = times_other 0 at xs not_meta ∙ w.none;
          }

      other_run : (b : ℕ) → b < BUCKETS → b ≢ bucket → IsRunOf new b (λ i. with_home home at bucket i == b) (bucket_chain old b)
      other_run b lt ne =
          let w = was b lt in
          let xs = bucket_chain old b in
          let none : one_if (bucket == b) ≡ 0 = simp (ne_eqb bucket b (λ e. ne (sym e))) refl in
          record {
            run = run_same (chain_next old b) (chain_before old) (chain_next new b) (chain_before new) 0 xs
                (λ j s. elim (cases_eq j 0) [
                  | inl z ↦ ap (λ n. chain_next new b n) z ∙ heads b lt ne ∙ sym (ap (λ n. chain_next old b n) z)
                  | inr nz ↦ nexts b j nz (not_at b j lt (omega (arith, s, times_other j 0 xs (λ z. nz (sym z)))))
                ])
                (λ j s. befores j (not_at b j lt s) (λ e. ne (sym (home_there (page_count old) b j home xs w.list s) ∙ ap home e ∙ head_home (λ z. (let zero_there = subst (λ n. 1 ≤ times n xs) (e ∙ z) s in omega (arith, zero_there, w.none))))))
                w.run;
            list = subst (λ n. IsListOf n (λ i. with_home home at bucket i == b) xs) (sym count)
                (list_with (page_count old) b at bucket home xs xs w.list below (omega (arith, away b lt, none)) (λ j z. refl));
            none = w.none;
          }

      each : (b : ℕ) → b < BUCKETS → IsChainOf new b (λ i. with_home home at bucket i == b)
      each b lt = elim (cases_eq b bucket) [
        | inl e ↦ subst (λ n. IsChainOf new n (λ i. with_home home at bucket i == n)) (sym e) (chain_of new bucket (λ i. with_home home at bucket i == bucket) (at ∷ bucket_chain old bucket) some_new here_run)
        | inr ne ↦ chain_of new b (λ i. with_home home at bucket i == b) (bucket_chain old b) some_new (other_run b lt ne)
      ]
