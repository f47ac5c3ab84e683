-- What is on the reuse chain once a page was given back, and pages of trees were changed besides.
use Rattle.std.proofs.Common.{◌≡◌, ◌≢◌, ℕ, ◌<◌, ◌≤◌, ◌⊎◌, List, [], ◌∷◌, ◌++◌, append_assoc, refl, sym, ap, subst, ◌∙◌, inl, inr, arith}
use Rattle.std.specs.Prelude.{if◌then◌else◌, ◌==◌, nat_lt}
use Rattle.std.proofs.lemmas.Bool.{cases_eq, cases_lt, eq-eqb, ne_eqb}
use Rattle.pm_meta.specs.declared.layout.TheConstants.{REUSE_KIND}
use Rattle.pm_meta.specs.declared.slots.MetaSlot.TheVariants.{Reuse}
use Rattle.pm_pages.specs.Rows.{Partition, bytes_of, page_at, number_in, page_count, kind_of}
use Rattle.pm_pages.specs.Chains.{times, reuse_next_of, reuse_chain}
use Rattle.pm_pages.specs.SpareChains.{HasSpare, MovesSpare}
use Rattle.pm_pages.proofs.ChainWalks.{stands, times-append, times_other}
use Rattle.pm_pages.proofs.SpareMoves.{moves_then, moves_none, moves_given, same_chain, chain_now}
use Rattle.pm_tree_del.specs.Given.{GivesBack}

pub gives_then : (a b c : Partition) (given given' : List ℕ) → GivesBack a b given → GivesBack b c given' → GivesBack a c (given' ++ given)
gives_then a b c given given' x y = record {
  count = y.count ∙ x.count;
  moves = moves_then a b c [] [] given given' x.moves y.moves;
  chain = λ h. y.chain (x.moves.sound h) ∙ ap (λ t. given' ++ t) (x.chain h) ∙ sym (append_assoc given' given (reuse_chain a));
  reuse = λ j there. elim (cases_lt 0 (times j given')) [
    | inl lt ↦ y.reuse j (omega (arith, lt))
    | inr none ↦ (let was = x.reuse j (omega (arith, there, none, times-append j given' given)) in (was.0, y.stays j was.0 was.1))
  ];
  stays = λ j some kind. y.stays j some (x.stays j some kind);
}

-- a page that is none of the chain's, before or after
pub record IsOfNoChain (was now : List ℕ) : Type 0 where
  pub before : kind_of was ≢ REUSE_KIND
  pub after : kind_of now ≢ REUSE_KIND

no_next : (page : List ℕ) → kind_of page ≢ REUSE_KIND → reuse_next_of page ≡ 0
no_next page ne = simp (ne_eqb (kind_of page) REUSE_KIND ne) refl

-- a page that is as it was, or none of the chain's
next_stays : (was now : List ℕ) → (now ≡ was) ⊎ IsOfNoChain was now → reuse_next_of now ≡ reuse_next_of was
next_stays was now h = elim h [ inl e ↦ ap reuse_next_of e | inr n ↦ no_next now n.after ∙ sym (no_next was n.before) ]

kind_stays : (was now : List ℕ) → (now ≡ was) ⊎ IsOfNoChain was now → kind_of was ≡ REUSE_KIND → kind_of now ≡ REUSE_KIND
kind_stays was now h is = elim h [ inl e ↦ ap kind_of e ∙ is | inr n ↦ absurd (n.before is) ]

-- no page was given back
pub gives_none : (a b : Partition) → number_in b Reuse ≡ number_in a Reuse → page_count b ≡ page_count a → ((j : ℕ) → j ≢ 0 → (page_at b j ≡ page_at a j) ⊎ IsOfNoChain (page_at a j) (page_at b j)) → GivesBack a b []
gives_none a b first count each = record {
  count = count;
  moves = moves_none a b first count (λ j some. next_stays (page_at a j) (page_at b j) (each j some)) (λ j some. kind_stays (page_at a j) (page_at b j) (each j some));
  chain = λ h. same_chain a b first count (λ j some. next_stays (page_at a j) (page_at b j) (each j some)) (λ j some. kind_stays (page_at a j) (page_at b j) (each j some));
  reuse = λ j there. absurd (omega (arith, there));
  stays = λ j some kind. kind_stays (page_at a j) (page_at b j) (each j (λ e. omega (arith, e, some))) kind;
}

-- One page was given back, and others changed that are none of the chain's. Between the two no page was given back.
module _ (a b : Partition) (i head : ℕ) (some : 1 ≤ i) (below : i < page_count a) (first : number_in a Reuse ≡ head) (count : page_count b ≡ page_count a) (first' : number_in b Reuse ≡ i)
    (kind : kind_of (page_at b i) ≡ REUSE_KIND) (names : reuse_next_of (page_at b i) ≡ head) (was : kind_of (page_at a i) ≢ REUSE_KIND)
    (each : (j : ℕ) → j ≢ 0 → j ≢ i → (page_at b j ≡ page_at a j) ⊎ IsOfNoChain (page_at a j) (page_at b j)) where
  abbrev mid : Partition
  mid = λ j. if j == 0 then a 0 else (if j == i then a i else b j)

  mid_here : page_at (λ j. if j == 0 then a 0 else (if j == i then a i else b j)) i ≡ page_at a i
  mid_here = simp (ne_eqb i 0 (λ e. omega (arith, e, some)), eq-eqb i i refl) refl

  mid_other : (j : ℕ) → j ≢ 0 → j ≢ i → page_at (λ j. if j == 0 then a 0 else (if j == i then a i else b j)) j ≡ page_at b j
  mid_other j not_zero ne = simp (ne_eqb j 0 not_zero, ne_eqb j i ne) (λ k. if nat_lt j (sym count k) then bytes_of (b j) else [])

  mid_each : (j : ℕ) → j ≢ 0 → (page_at (λ j. if j == 0 then a 0 else (if j == i then a i else b j)) j ≡ page_at a j) ⊎ IsOfNoChain (page_at a j) (page_at (λ j. if j == 0 then a 0 else (if j == i then a i else b j)) j)
  mid_each j not_zero = elim (cases_eq j i) [
    | inl e ↦ inl (subst (λ n. page_at mid n ≡ page_at a n) (sym e) mid_here)
    | inr ne ↦ elim (each j not_zero ne) [
      | inl same ↦ inl (mid_other j not_zero ne ∙ same)
      | inr n ↦ inr (record { before = n.before; after = λ k. n.after (ap kind_of (sym (mid_other j not_zero ne)) ∙ k) })
    ]
  ]

  first_step : GivesBack a (λ j. if j == 0 then a 0 else (if j == i then a i else b j)) []
  first_step = gives_none a mid refl refl mid_each

  mid_same : (j : ℕ) → j ≢ 0 → j ≢ i → page_at b j ≡ page_at (λ j. if j == 0 then a 0 else (if j == i then a i else b j)) j
  mid_same j not_zero ne = sym (mid_other j not_zero ne)

  -- page i isn't on the chain
  away : HasSpare (λ j. if j == 0 then a 0 else (if j == i then a i else b j)) → times i (reuse_chain (λ j. if j == 0 then a 0 else (if j == i then a i else b j))) ≡ 0
  away h = elim (cases_lt 0 (times i (reuse_chain mid))) [
    | inl there ↦ absurd (was (ap kind_of (sym mid_here) ∙ stands (λ j. kind_of (page_at mid j) ≡ REUSE_KIND) (reuse_chain mid) h.kind i (omega (arith, there))))
    | inr none ↦ omega (arith, none)
  ]

  moves_by : HasSpare (λ j. if j == 0 then a 0 else (if j == i then a i else b j)) → MovesSpare (λ j. if j == 0 then a 0 else (if j == i then a i else b j)) b [] (i ∷ [])
  moves_by h = moves_given mid b i head some below (away h) first count first' kind names mid_same

  second_step : GivesBack (λ j. if j == 0 then a 0 else (if j == i then a i else b j)) b (i ∷ [])
  second_step = record {
    count = count;
    moves = record { count = omega (arith, count); sound = λ h. (moves_by h).sound h; moved = λ h. (moves_by h).moved h; room = λ h. (moves_by h).room h };
    chain = λ h. chain_now mid b i head some below (away h) first count first' kind names mid_same h;
    reuse = λ j there. elim (cases_eq i j) [
      | inl e ↦ subst (λ n. (1 ≤ n) × (kind_of (page_at b n) ≡ REUSE_KIND)) e (some, kind)
      | inr ne ↦ absurd (omega (arith, there, times_other j i [] ne))
    ];
    stays = λ j some_j is. elim (cases_eq j i) [
      | inl e ↦ subst (λ n. kind_of (page_at b n) ≡ REUSE_KIND) (sym e) kind
      | inr ne ↦ ap kind_of (mid_same j (λ z. omega (arith, z, some_j)) ne) ∙ is
    ];
  }

  pub gives_one : GivesBack a b (i ∷ [])
  gives_one = gives_then a mid b [] (i ∷ []) first_step second_step
