-- What one step takes from the reuse chain or gives back to it, and steps one after another.
use Rattle.std.proofs.Common.{◌≡◌, ◌≢◌, ℕ, suc, ◌+◌, ◌-◌, ◌<◌, ◌≤◌, ◌⊎◌, List, [], ◌∷◌, ◌++◌, length, get_or, length-append, refl, sym, ap, subst, ◌∙◌, inl, inr, arith}
use Rattle.std.specs.Prelude.{All, if◌then◌else◌}
use Rattle.std.proofs.lemmas.Bool.{cases_eq, cases_lt, lt-ltb, le-ltb, le-leb, lt-leb}
use Rattle.std.proofs.lemmas.List.Elements.{All-nil}
use Rattle.pm_meta.specs.declared.layout.TheConstants.{REUSE_KIND}
use Rattle.pm_meta.specs.declared.slots.MetaSlot.TheVariants.{Reuse}
use Rattle.pm_pages.specs.Rows.{Partition, page_at, number_in, page_count, kind_of}
use Rattle.pm_pages.specs.Chains.{times, walk, reuse_next_of, reuse_chain}
use Rattle.pm_pages.specs.SpareChains.{HasSpare, is_added, MovesSpare}
use Rattle.pm_pages.proofs.ChainWalks.{times-append, times_here, times_other}
use Rattle.pm_pages.proofs.ChainWalks.{stands, all_stand, few, walk_none, walk_on, walk_some, walk_ended, walk_shorter, walk_same}

-- how often a page counts that was added
abbrev added : ℕ → ℕ → ℕ → ℕ
added was now j = if is_added was now j then 1 else 0

added_none : (was now j : ℕ) → now ≤ was → added was now j ≡ 0
added_none was now j le = elim (cases_lt j was) [
  | inl lt ↦ simp (lt-leb was j lt) refl
  | inr from ↦ simp (le-leb was j from, le-ltb j now (omega (arith, le, from))) refl
]

added_one : (was now j : ℕ) → was ≤ j → j < now → added was now j ≡ 1
added_one was now j from upto = simp (le-leb was j from, lt-ltb j now upto) refl

added_out : (was now j : ℕ) → (j < was) ⊎ (now ≤ j) → added was now j ≡ 0
added_out was now j out = elim out [
  | inl lt ↦ simp (lt-leb was j lt) refl
  | inr upto ↦ elim (cases_lt j was) [
    | inl lt ↦ simp (lt-leb was j lt) refl
    | inr from ↦ simp (le-leb was j from, le-ltb j now upto) refl
  ]
]

added_then : (a b c j : ℕ) → a ≤ b → b ≤ c → added a c j ≡ added a b j + added b c j
added_then a b c j ab bc = elim (cases_lt j a) [
  | inl lt ↦ omega (arith, added_out a c j (inl lt), added_out a b j (inl lt), added_out b c j (inl (omega (arith, lt, ab))))
  | inr from ↦ elim (cases_lt j b) [
    | inl lt ↦ omega (arith, added_one a c j from (omega (arith, lt, bc)), added_one a b j from lt, added_out b c j (inl lt))
    | inr from_b ↦ elim (cases_lt j c) [
      | inl lt ↦ omega (arith, added_one a c j from lt, added_out a b j (inr from_b), added_one b c j from_b lt)
      | inr out ↦ omega (arith, added_out a c j (inr out), added_out a b j (inr from_b), added_out b c j (inr out))
    ]
  ]
]

-- one change after another
pub moves_then : (a b c : Partition) (made made' given given' : List ℕ) → MovesSpare a b made given → MovesSpare b c made' given' → MovesSpare a c (made' ++ made) (given' ++ given)
moves_then a b c made made' given given' x y = record {
  count = omega (arith, x.count, y.count);
  sound = λ h. y.sound (x.sound h);
  moved = λ h j. omega (
    arith,
    x.moved h j,
    y.moved (x.sound h) j,
    times-append j made' made,
    times-append j given' given,
    added_then (page_count a) (page_count b) (page_count c) j x.count y.count,
  );
  room = λ h. omega (arith, x.room h, y.room (x.sound h), length-append made' made, length-append given' given);
}

-- a change after which the chain stays
pub moves_on : (a b c : Partition) (made given : List ℕ) → MovesSpare a b made given → MovesSpare b c [] [] → MovesSpare a c made given
moves_on a b c made given x y = moves_then a b c made [] given [] x y

-- The page count and the chain's first page stay, and no page of the chain changed but in what isn't of the chain.
module _ (a b : Partition) (first : number_in b Reuse ≡ number_in a Reuse) (count : page_count b ≡ page_count a)
    (next : (j : ℕ) → j ≢ 0 → reuse_next_of (page_at b j) ≡ reuse_next_of (page_at a j)) (kind : (j : ℕ) → j ≢ 0 → kind_of (page_at a j) ≡ REUSE_KIND → kind_of (page_at b j) ≡ REUSE_KIND) where
  pub same_chain : reuse_chain b ≡ reuse_chain a
  same_chain =
      (λ k. walk (λ i. reuse_next_of (page_at b i)) (count k) (first k))
      ∙ walk_same (λ i. reuse_next_of (page_at a i)) (λ i. reuse_next_of (page_at b i)) (page_count a) (number_in a Reuse)
      (λ j some. next j (λ e. omega (arith, e, walk_some (λ i. reuse_next_of (page_at a i)) (page_count a) (number_in a Reuse) j some)))

  pub moves_none : MovesSpare a b [] []
  moves_none = record {
    count = omega (arith, count);
    sound = λ h. record {
      kind = subst (λ t. (k d : ℕ) → k < length t → kind_of (page_at b (get_or t k d)) ≡ REUSE_KIND) (sym same_chain)
          (all_stand (λ i. kind_of (page_at b i) ≡ REUSE_KIND) (reuse_chain a)
          (λ j some. kind j (λ e. omega (arith, e, stands (λ i. 1 ≤ i) (reuse_chain a) h.some j some)) (stands (λ i. kind_of (page_at a i) ≡ REUSE_KIND) (reuse_chain a) h.kind j some)));
      once = λ i. subst (λ t. times i t ≤ 1) (sym same_chain) (h.once i);
      some = subst (All (λ i. 1 ≤ i)) (sym same_chain) h.some;
      below = subst (λ (p : List ℕ × ℕ). All (λ i. i < p.1) p.0) {x = (reuse_chain a, page_count a)} {y = (reuse_chain b, page_count b)} (λ k. (sym same_chain k, sym count k)) h.below;
    };
    moved = λ h j. omega (arith, ap (λ t. times j t) same_chain, added_none (page_count a) (page_count b) j (omega (arith, count)));
    room = λ h. omega (arith, ap length same_chain, count);
  }

-- no change at all
pub moves_refl : (a : Partition) → MovesSpare a a [] []
moves_refl a = moves_none a a refl refl (λ j h. refl) (λ j h e. e)

-- a chain that has no page, and one more page
pub moves_next : (a b : Partition) (i : ℕ) → number_in a Reuse ≡ 0 → number_in b Reuse ≡ 0 → page_count a ≡ i → page_count b ≡ i + 1 → MovesSpare a b (i ∷ []) []
moves_next a b i none none' count count' =
    let chain : reuse_chain a ≡ [] = (λ k. walk (λ i. reuse_next_of (page_at a i)) (page_count a) (none k)) ∙ walk_none (λ i. reuse_next_of (page_at a i)) (page_count a) in
    let chain' : reuse_chain b ≡ [] = (λ k. walk (λ i. reuse_next_of (page_at b i)) (page_count b) (none' k)) ∙ walk_none (λ i. reuse_next_of (page_at b i)) (page_count b) in
    record {
      count = omega (arith, count, count');
      sound = λ h. record {
        kind = subst (All (λ i. kind_of (page_at b i) ≡ REUSE_KIND)) (sym chain') (All-nil (λ i. kind_of (page_at b i) ≡ REUSE_KIND));
        once = λ j. omega (arith, ap (λ t. times j t) chain');
        some = subst (All (λ i. 1 ≤ i)) (sym chain') (All-nil (λ i. 1 ≤ i));
        below = subst (All (λ i. i < page_count b)) (sym chain') (All-nil (λ i. i < page_count b));
      };
      moved = λ h j. elim (cases_eq i j) [
        | inl e ↦
            let here : times j (i ∷ []) ≡ 1 = ap (λ n. times j (n ∷ [])) e ∙ times_here j [] in
            omega (arith, here, ap (λ t. times j t) chain, ap (λ t. times j t) chain', added_one (page_count a) (page_count b) j (omega (arith, e, count)) (omega (arith, e, count')))
        | inr ne ↦ omega (
          arith,
          times_other j i [] ne,
          ap (λ t. times j t) chain,
          ap (λ t. times j t) chain',
          added_out (page_count a) (page_count b) j (elim (cases_lt j i) [ inl lt ↦ inl (omega (arith, lt, count)) | inr le ↦ inr (omega (arith, le, ne, count')) ]),
        )
      ];
      room = λ h. omega (arith, count, count', ap length chain, ap length chain');
    }

-- the pages of the chain, and others that aren't on it, are fewer than the page count
chain_short : (a : Partition) (more : List ℕ) → HasSpare a → ((j : ℕ) → times j more + times j (reuse_chain a) ≤ 1) → ((j : ℕ) → 1 ≤ times j more → j < page_count a) → length more + length (reuse_chain a) ≤ page_count a
chain_short a more h once below =
    omega (
      arith,
      length-append more (reuse_chain a),
      few (page_count a) (more ++ reuse_chain a) (λ j. omega (arith, times-append j more (reuse_chain a), once j))
          (λ j some. elim (cases_lt 0 (times j more)) [
            | inl lt ↦ below j (omega (arith, lt))
            | inr none ↦ stands (λ i. i < page_count a) (reuse_chain a) h.below j (omega (arith, none, some, times-append j more (reuse_chain a)))
          ]),
    )

-- The chain's first page was taken.
module _ (a b : Partition) (i next : ℕ) (some : 1 ≤ i) (first : number_in a Reuse ≡ i) (below : i < page_count a) (count : page_count b ≡ page_count a) (first' : number_in b Reuse ≡ next)
    (names : reuse_next_of (page_at a i) ≡ next) (others : (j : ℕ) → j ≢ 0 → j ≢ i → page_at b j ≡ page_at a j) where
  f : ℕ → ℕ
  f j = reuse_next_of (page_at a j)

  g : ℕ → ℕ
  g j = reuse_next_of (page_at b j)

  abbrev m : ℕ
  m = page_count a - 1

  size : page_count a ≡ suc (page_count a - 1)
  size = omega (arith, below)

  was_chain : reuse_chain a ≡ i ∷ walk (λ j. reuse_next_of (page_at a j)) (page_count a - 1) next
  was_chain =
      (λ k. walk (λ j. reuse_next_of (page_at a j)) (size k) (first k))
      ∙ walk_on (λ j. reuse_next_of (page_at a j)) (page_count a - 1) i (λ e. omega (arith, e, some))
      ∙ ap (λ n. i ∷ walk (λ j. reuse_next_of (page_at a j)) (page_count a - 1) n) names

  module _ (h : HasSpare a) where
    zero_once : (j : ℕ) → times j (0 ∷ []) + times j (reuse_chain a) ≤ 1
    zero_once j = elim (cases_eq 0 j) [
      | inl e ↦ elim (cases_lt 0 (times j (reuse_chain a))) [
        | inl stands_there ↦ absurd (omega (arith, e, stands (λ i. 1 ≤ i) (reuse_chain a) h.some j (omega (arith, stands_there))))
        | inr none ↦ omega (arith, none, ap (λ n. times n (0 ∷ [])) (sym e))
      ]
      | inr ne ↦ omega (arith, times_other j 0 [] ne, h.once j)
    ]

    short : length (walk (λ j. reuse_next_of (page_at a j)) (page_count a - 1) next) < page_count a - 1
    short = omega (arith, chain_short a (0 ∷ []) h zero_once (λ j lt. elim (cases_eq 0 j) [ inl e ↦ omega (arith, e, below) | inr ne ↦ absurd (omega (arith, lt, times_other j 0 [] ne)) ]), ap length was_chain, below)

    -- page i isn't on the rest
    not_on : (j : ℕ) → 1 ≤ times j (walk (λ j. reuse_next_of (page_at a j)) (page_count a - 1) next) → j ≢ i
    not_on j there e =
        omega (arith, there, h.once i, ap (λ t. times i t) was_chain, times_here i (walk (λ j. reuse_next_of (page_at a j)) (page_count a - 1) next), ap (λ n. times n (walk (λ j. reuse_next_of (page_at a j)) (page_count a - 1) next)) e)

    not_zero : (j : ℕ) → 1 ≤ times j (walk (λ j. reuse_next_of (page_at a j)) (page_count a - 1) next) → j ≢ 0
    not_zero j there e = omega (arith, e, walk_some (λ j. reuse_next_of (page_at a j)) (page_count a - 1) next j there)

    now_chain : reuse_chain b ≡ walk (λ j. reuse_next_of (page_at a j)) (page_count a - 1) next
    now_chain =
        let longer = walk_ended (λ j. reuse_next_of (page_at a j)) (page_count a - 1) next short in
        (λ k. walk (λ j. reuse_next_of (page_at b j)) ((count ∙ size) k) (first' k))
        ∙ walk_same (λ j. reuse_next_of (page_at a j)) (λ j. reuse_next_of (page_at b j)) (suc (page_count a - 1)) next
        (λ j there. (let there' = subst (λ t. 1 ≤ times j t) longer there in ap reuse_next_of (others j (not_zero j there') (not_on j there'))))
        ∙ longer

    -- what stands on the rest stood on the chain
    rest_stands : (j : ℕ) → 1 ≤ times j (reuse_chain b) → 1 ≤ times j (walk (λ j. reuse_next_of (page_at a j)) (page_count a - 1) next)
    rest_stands j there = subst (λ t. 1 ≤ times j t) now_chain there

    was_there : (j : ℕ) → 1 ≤ times j (reuse_chain b) → 1 ≤ times j (reuse_chain a)
    was_there j there = omega (arith, rest_stands j there, ap (λ t. times j t) was_chain, times_other j i (walk (λ j. reuse_next_of (page_at a j)) (page_count a - 1) next) (λ e. not_on j (rest_stands j there) (sym e)))

    spare_now : HasSpare b
    spare_now = record {
      kind = all_stand (λ i. kind_of (page_at b i) ≡ REUSE_KIND) (reuse_chain b)
          (λ j there. ap kind_of (others j (not_zero j (rest_stands j there)) (not_on j (rest_stands j there))) ∙ stands (λ i. kind_of (page_at a i) ≡ REUSE_KIND) (reuse_chain a) h.kind j (was_there j there));
      once = λ j. elim (cases_lt 0 (times j (reuse_chain b))) [
        | inl lt ↦
            let there = rest_stands j (omega (arith, lt)) in
            omega (arith, h.once j, ap (λ t. times j t) was_chain, ap (λ t. times j t) now_chain, times_other j i (walk (λ j. reuse_next_of (page_at a j)) (page_count a - 1) next) (λ e. not_on j there (sym e)))
        | inr none ↦ omega (arith, none)
      ];
      some = all_stand (λ i. 1 ≤ i) (reuse_chain b) (λ j there. stands (λ i. 1 ≤ i) (reuse_chain a) h.some j (was_there j there));
      below = all_stand (λ i. i < page_count b) (reuse_chain b) (λ j there. omega (arith, count, stands (λ i. i < page_count a) (reuse_chain a) h.below j (was_there j there)));
    }

    moved_now : (j : ℕ) → times j (reuse_chain b) + times j (i ∷ []) ≡ times j (reuse_chain a) + times j [] + added (page_count a) (page_count b) j
    moved_now j = omega (
      arith,
      ap (λ t. times j t) now_chain,
      ap (λ t. times j t) was_chain,
      times-append j (i ∷ []) (walk (λ j. reuse_next_of (page_at a j)) (page_count a - 1) next),
      added_none (page_count a) (page_count b) j (omega (arith, count)),
    )

  pub moves_taken : MovesSpare a b (i ∷ []) []
  moves_taken = record { count = omega (arith, count); sound = spare_now; moved = moved_now; room = λ h. omega (arith, count, ap length was_chain, ap length (now_chain h)) }

-- A page became the chain's first.
module _ (a b : Partition) (i head : ℕ) (some : 1 ≤ i) (below : i < page_count a) (away : times i (reuse_chain a) ≡ 0) (first : number_in a Reuse ≡ head) (count : page_count b ≡ page_count a) (first' : number_in b Reuse ≡ i)
    (kind : kind_of (page_at b i) ≡ REUSE_KIND) (names : reuse_next_of (page_at b i) ≡ head) (others : (j : ℕ) → j ≢ 0 → j ≢ i → page_at b j ≡ page_at a j) where
  given_size : page_count a ≡ suc (page_count a - 1)
  given_size = omega (arith, below)

  chain_was : reuse_chain a ≡ walk (λ j. reuse_next_of (page_at a j)) (suc (page_count a - 1)) head
  chain_was = λ k. walk (λ j. reuse_next_of (page_at a j)) (given_size k) (first k)

  module _ (h : HasSpare a) where
    more_once : (j : ℕ) → times j (0 ∷ i ∷ []) + times j (reuse_chain a) ≤ 1
    more_once j = elim (cases_eq 0 j) [
      | inl e ↦
          let zero_once : times j (0 ∷ i ∷ []) ≡ 1 + times j (i ∷ []) = ap (λ n. times n (0 ∷ i ∷ [])) (sym e) ∙ times_here 0 (i ∷ []) ∙ ap (λ n. 1 + times n (i ∷ [])) e in
          let none = times_other j i [] (λ z. omega (arith, z, e, some)) in
          elim (cases_lt 0 (times j (reuse_chain a))) [
            | inl there ↦ absurd (omega (arith, e, stands (λ i. 1 ≤ i) (reuse_chain a) h.some j (omega (arith, there))))
            | inr gone ↦ omega (arith, gone, zero_once, none)
          ]
      | inr ne ↦ (let skip = times_other j 0 (i ∷ []) ne in elim (cases_eq i j) [
        | inl e ↦ (let one : times j (i ∷ []) ≡ 1 = ap (λ n. times j (n ∷ [])) e ∙ times_here j [] in omega (arith, skip, one, ap (λ n. times n (reuse_chain a)) e, away))
        | inr other ↦ omega (arith, skip, times_other j i [] other, h.once j)
      ])
    ]

    more_below : (j : ℕ) → 1 ≤ times j (0 ∷ i ∷ []) → j < page_count a
    more_below j there = elim (cases_eq 0 j) [
      | inl e ↦ omega (arith, e, below)
      | inr ne ↦ elim (cases_eq i j) [
        | inl e ↦ omega (arith, e, below)
        | inr other ↦ absurd (omega (arith, there, times_other j 0 (i ∷ []) ne, times_other j i [] other))
      ]
    ]

    chain_fits : walk (λ j. reuse_next_of (page_at a j)) (page_count a - 1) head ≡ reuse_chain a
    chain_fits = sym (chain_was ∙ walk_shorter (λ j. reuse_next_of (page_at a j)) (page_count a - 1) head (omega (arith, chain_short a (0 ∷ i ∷ []) h more_once more_below, ap length chain_was)))

    on_chain : (j : ℕ) → 1 ≤ times j (reuse_chain a) → page_at b j ≡ page_at a j
    on_chain j there = others j (λ e. omega (arith, e, stands (λ i. 1 ≤ i) (reuse_chain a) h.some j there)) (λ e. omega (arith, there, away, ap (λ n. times n (reuse_chain a)) e))

    pub chain_now : reuse_chain b ≡ i ∷ reuse_chain a
    chain_now =
        (λ k. walk (λ j. reuse_next_of (page_at b j)) ((count ∙ given_size) k) (first' k))
        ∙ walk_on (λ j. reuse_next_of (page_at b j)) (page_count a - 1) i (λ e. omega (arith, e, some))
        ∙ ap (λ n. i ∷ walk (λ j. reuse_next_of (page_at b j)) (page_count a - 1) n) names
        ∙ ap (λ t. i ∷ t) (walk_same (λ j. reuse_next_of (page_at a j)) (λ j. reuse_next_of (page_at b j)) (page_count a - 1) head (λ j there. ap reuse_next_of (on_chain j (subst (λ t. 1 ≤ times j t) chain_fits there))))
        ∙ ap (λ t. i ∷ t) chain_fits

    -- what holds of page i and of each page of the chain holds of each page of the new one
    each_now : (P : ℕ → Type 0) → P i → ((j : ℕ) → 1 ≤ times j (reuse_chain a) → P j) → All P (reuse_chain b)
    each_now P here each = all_stand P (reuse_chain b) (λ j there. elim (cases_eq i j) [
      | inl e ↦ subst P e here
      | inr ne ↦ each j (omega (arith, there, ap (λ t. times j t) chain_now, times_other j i (reuse_chain a) ne))
    ])

    given_spare : HasSpare b
    given_spare = record {
      kind = each_now (λ j. kind_of (page_at b j) ≡ REUSE_KIND) kind (λ j there. ap kind_of (on_chain j there) ∙ stands (λ i. kind_of (page_at a i) ≡ REUSE_KIND) (reuse_chain a) h.kind j there);
      once = λ j. elim (cases_eq i j) [
        | inl e ↦ omega (arith, ap (λ n. times n (reuse_chain b)) e, ap (λ t. times i t) chain_now, times_here i (reuse_chain a), away)
        | inr ne ↦ omega (arith, ap (λ t. times j t) chain_now, times_other j i (reuse_chain a) ne, h.once j)
      ];
      some = each_now (λ j. 1 ≤ j) some (stands (λ i. 1 ≤ i) (reuse_chain a) h.some);
      below = each_now (λ j. j < page_count b) (omega (arith, below, count)) (λ j there. omega (arith, count, stands (λ i. i < page_count a) (reuse_chain a) h.below j there));
    }

    given_moved : (j : ℕ) → times j (reuse_chain b) + times j [] ≡ times j (reuse_chain a) + times j (i ∷ []) + added (page_count a) (page_count b) j
    given_moved j = omega (
      arith,
      ap (λ t. times j t) chain_now,
      times-append j (i ∷ []) (reuse_chain a),
      added_none (page_count a) (page_count b) j (omega (arith, count)),
    )

  pub moves_given : MovesSpare a b [] (i ∷ [])
  moves_given = record { count = omega (arith, count); sound = given_spare; moved = given_moved; room = λ h. omega (arith, count, ap length (chain_now h)) }
