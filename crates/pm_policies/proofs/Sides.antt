-- The frames on one side, and the oldest of them by their tournament.
use Rattle.std.proofs.Common.{◌≡◌, ◌≢◌, ℕ, zero, suc, ◌+◌, ◌*◌, ◌^◌, ◌<◌, ◌≤◌, ◌⊎◌, ⊎_elim, inl, inr, Bool, true, false, cond, List, [], ◌∷◌, length, set, replicate, Option, Some, None, refl, sym, ap, ◌∙◌, subst, arith, length-set}
use Rattle.std.proofs.lemmas.Bool.{cases_eq, cases_Bool}
use Rattle.std.proofs.lemmas.List.{get_or-set_same, get_or-set_other, get_or-replicate, length-replicate}
use Rattle.std.proofs.lemmas.List.Sums.{sum_by-cons, sum_by-set}
use Rattle.pm_policies.specs.declared.segments.Standing.{Standing}
use Rattle.pm_policies.specs.declared.tournament.Contender.{Contender}
use Rattle.pm_policies.specs.Tournaments.{node_at, leaf_at, IsTournament}
use Rattle.pm_policies.specs.Segments.{fresh, standing_at, count_protected, contender_of, IsOldest, HasSide, IsSegments}
use Rattle.pm_policies.proofs.Orders.{Leads}
use Rattle.pm_policies.proofs.Trees.{root_leads, root_is_leaf, node_at-replicate, nobody}

abbrev as_contender : Standing → ℕ → Contender
as_contender s i = record { stamp = s.stamp; frame = i }

-- a frame on this side takes part
pub takes_part : (side : Bool) (s : Standing) (i : ℕ) → s.is_protected ≡ side → contender_of side s i ≡ Some (as_contender s i)
takes_part true s i e = ap (λ b. cond b (Some (as_contender s i)) None) e
takes_part false s i e = ap (λ b. cond b None (Some (as_contender s i))) e

-- a frame on the other doesn't
stays_out : (side other : Bool) (s : Standing) (i : ℕ) → s.is_protected ≡ other → (other ≡ side → ⊥) → contender_of side s i ≡ None
stays_out true true s i e away = absurd (away refl)
stays_out true false s i e away = ap (λ b. cond b (Some (as_contender s i)) None) e
stays_out false true s i e away = ap (λ b. cond b None (Some (as_contender s i))) e
stays_out false false s i e away = absurd (away refl)

same_side : (a b : Bool) → (a ≡ b) ⊎ (a ≡ b → ⊥)
same_side true true = inl refl
same_side true false = inr (λ e. absurd (cc))
same_side false true = inr (λ e. absurd (cc))
same_side false false = inl refl

-- who takes part is on this side
part_of_side : (side : Bool) (s : Standing) (i : ℕ) (c : Contender) → contender_of side s i ≡ Some c → (s.is_protected ≡ side) × (c ≡ as_contender s i)
part_of_side side s i c is =
    ⊎_elim
    (λ (e : s.is_protected ≡ side). (e, let both : Some c ≡ Some (as_contender s i) = sym is ∙ takes_part side s i e in cc))
    (λ (away : s.is_protected ≡ side → ⊥). let none : None ≡ Some c = sym (stays_out side s.is_protected s i refl away) ∙ is in absurd (cc))
    (same_side s.is_protected side)

module _ (frames : List Standing) (side : Bool) (nodes : List (Option Contender)) (has : HasSide frames side nodes) where
  -- the root comes before each frame on this side
  leads_member : (i : ℕ) → i < length frames → (standing_at frames i).is_protected ≡ side → Leads (node_at nodes 1) (Some (as_contender (standing_at frames i) i))
  leads_member i within on =
      let leaf : leaf_at (length frames) nodes i ≡ Some (as_contender (standing_at frames i) i) = has.leaves i within ∙ takes_part side (standing_at frames i) i on in
      subst (λ x. Leads (node_at nodes 1) x) leaf (root_leads (length frames) nodes has.games (length frames + i) (omega arith) (omega arith))

  -- where a frame is on this side, the root is one
  pub root_is_some : (i : ℕ) → i < length frames → (standing_at frames i).is_protected ≡ side → node_at nodes 1 ≡ None → ⊥
  root_is_some i within on none = subst (λ x. Leads x (Some (as_contender (standing_at frames i) i))) none (leads_member i within on)

  oldest_at : (c : Contender) (j : ℕ) → node_at nodes 1 ≡ Some c → j < length frames → (standing_at frames j).is_protected ≡ side → c ≡ as_contender (standing_at frames j) j → IsOldest frames side j
  oldest_at c j root within on same = record {
    within = within;
    stands = on;
    oldest = λ i below there. subst (λ x. Leads x (Some (as_contender (standing_at frames i) i))) (root ∙ ap Some same) (leads_member i below there);
  }

  -- and then the oldest of them
  pub root_is_oldest : (c : Contender) → 1 ≤ length frames → node_at nodes 1 ≡ Some c → IsOldest frames side c.frame
  root_is_oldest c some root =
      let leaf = root_is_leaf (length frames) nodes has.games some in let j = leaf.0 in
      let is : contender_of side (standing_at frames j) j ≡ Some c = sym (has.leaves j leaf.1) ∙ sym leaf.2 ∙ root in
      let part = part_of_side side (standing_at frames j) j c is in
      subst (λ k. IsOldest frames side k) (sym (ap (λ (x : Contender). x.frame) part.1)) (oldest_at c j root leaf.1 part.0 part.1)

-- a frame is placed, and its leaf set
pub side_placed : (frames : List Standing) (side : Bool) (old new : List (Option Contender)) (leaves frame : ℕ) (s : Standing) → HasSide frames side old → frame < length frames
    → leaves ≡ length frames
    → IsTournament leaves new
    → leaf_at leaves new frame ≡ contender_of side s frame
    → ((i : ℕ) → i < leaves → i ≢ frame → leaf_at leaves new i ≡ leaf_at leaves old i)
    → HasSide (set frames frame s) side new
side_placed frames side old new leaves frame s has within long games entered others =
    let same : length (set frames frame s) ≡ leaves = length-set frames frame s ∙ sym long in
    record {
      games = subst (λ n. IsTournament n new) (sym same) games;
      leaves = λ i below.
          let inside : i < leaves = omega arith in let there : i < length frames = omega arith in
          subst (λ n. leaf_at n new i ≡ contender_of side (standing_at (set frames frame s) i) i) (sym same)
          (⊎_elim
          (λ (e : i ≡ frame). subst (λ k. leaf_at leaves new k ≡ contender_of side (standing_at (set frames frame s) k) k) (sym e)
          (entered ∙ ap (λ x. contender_of side x frame) (sym (get_or-set_same frames frame s fresh within))))
          (λ (e : i ≡ frame → ⊥).
          others i inside e ∙ ap (λ n. leaf_at n old i) long ∙ has.leaves i there ∙ ap (λ x. contender_of side x i) (sym (get_or-set_other frames frame i s fresh e)))
          (cases_eq i frame));
    }

-- at first all frames are on one side
pub side_of_all : (n : ℕ) (nodes : List (Option Contender)) → IsTournament n nodes → ((i : ℕ) → i < n → leaf_at n nodes i ≡ Some (record { stamp = 0; frame = i })) → HasSide (replicate n fresh) false nodes
side_of_all n nodes games all =
    let same = length-replicate n fresh in
    record {
      games = subst (λ m. IsTournament m nodes) (sym same) games;
      leaves = λ i below.
          let inside : i < n = omega arith in
          subst (λ m. leaf_at m nodes i ≡ contender_of false (standing_at (replicate n fresh) i) i) (sym same)
          (all i inside ∙ ap (λ s. contender_of false s i) (sym (get_or-replicate n i fresh fresh inside)));
    }

pub side_of_none : (n : ℕ) → HasSide (replicate n fresh) true (replicate (2 * n) None)
side_of_none n =
    let same = length-replicate n fresh in
    record {
      games = subst (λ m. IsTournament m (replicate (2 * n) None)) (sym same) (nobody n);
      leaves = λ i below.
          let inside : i < n = omega arith in
          node_at-replicate (2 * n) (length (replicate n fresh) + i) ∙ ap (λ s. contender_of true s i) (sym (get_or-replicate n i fresh fresh inside));
    }

-- how many are protected, where one is placed
abbrev pub one_if : Bool → ℕ
one_if b = cond b 1 0

pub count_placed : (frames : List Standing) (frame : ℕ) (s : Standing) → frame < length frames
    → count_protected (set frames frame s) + one_if (standing_at frames frame).is_protected ≡ count_protected frames + one_if s.is_protected
count_placed frames frame s within = sum_by-set (λ (x : Standing). one_if x.is_protected) frames frame s fresh within

count-cons : (s : Standing) (frames : List Standing) → count_protected (s ∷ frames) ≡ one_if s.is_protected + count_protected frames
count-cons s frames = sum_by-cons (λ (x : Standing). one_if x.is_protected) s frames

pub count-replicate : (n : ℕ) → count_protected (replicate n fresh) ≡ 0
count-replicate zero = refl
count-replicate (suc n) = count-cons fresh (replicate n fresh) ∙ ap (λ k. 0 + k) (count-replicate n)

abbrev pub HasOne : List Standing → Bool → Type 0
HasOne frames side = (i : ℕ) × (i < length frames) × ((standing_at frames i).is_protected ≡ side)

-- where fewer are protected than there are, one isn't
pub one_left : (frames : List Standing) → count_protected frames < length frames → HasOne frames false
one_left [] h = absurd (omega arith)
one_left (s ∷ frames) h =
    ⊎_elim
    (λ (e : s.is_protected ≡ true).
    let rest = one_left frames (omega (arith, count-cons s frames, ap one_if e)) in (suc rest.0, omega (arith, rest.1), rest.2))
    (λ (e : s.is_protected ≡ false). (0, omega arith, e))
    (cases_Bool s.is_protected)

-- where some are protected, one is
pub one_protected : (frames : List Standing) → 0 < count_protected frames → HasOne frames true
one_protected [] h = absurd (omega arith)
one_protected (s ∷ frames) h =
    ⊎_elim
    (λ (e : s.is_protected ≡ true). (0, omega arith, e))
    (λ (e : s.is_protected ≡ false).
    let rest = one_protected frames (omega (arith, count-cons s frames, ap one_if e)) in (suc rest.0, omega (arith, rest.1), rest.2))
    (cases_Bool s.is_protected)

-- a protected frame is counted
pub counts_one : (frames : List Standing) (i : ℕ) → i < length frames → (standing_at frames i).is_protected ≡ true → 0 < count_protected frames
counts_one [] i a e = absurd (omega arith)
counts_one (s ∷ frames) zero a e = omega (arith, count-cons s frames, ap one_if e)
counts_one (s ∷ frames) (suc i) a e = omega (arith, count-cons s frames, counts_one frames i (omega arith) e)

-- all of it, where a frame is placed
pub segments_placed : (frames : List Standing) (others spared others_after spared_after : List (Option Contender)) (count count_after frame : ℕ) (s : Standing)
    → IsSegments frames others spared count → HasSide (set frames frame s) false others_after → HasSide (set frames frame s) true spared_after → frame < length frames
    → count_after + one_if (standing_at frames frame).is_protected ≡ count + one_if s.is_protected
    → IsSegments (set frames frame s) others_after spared_after count_after
segments_placed frames others spared others_after spared_after count count_after frame s was first second within counted = record {
  few = omega (arith, was.few, length-set frames frame s);
  probationary = first;
  protected = second;
  counted = omega (arith, was.counted, count_placed frames frame s within);
}

-- all of it, at first
pub segments_fresh : (n : ℕ) (others spared : List (Option Contender)) → n < 2 ^ 32 → IsTournament n others
    → ((i : ℕ) → i < n → leaf_at n others i ≡ Some (record { stamp = 0; frame = i })) → spared ≡ replicate (2 * n) None → IsSegments (replicate n fresh) others spared 0
segments_fresh n others spared small games all none = record {
  few = omega (arith, length-replicate n fresh);
  probationary = side_of_all n others games all;
  protected = subst (HasSide (replicate n fresh) true) (sym none) (side_of_none n);
  counted = sym (count-replicate n);
}
