-- The root of a tournament, and a leaf that is set.
use Rattle.std.proofs.Common.{◌≡◌, ◌≢◌, ℕ, zero, suc, ◌+◌, ◌-◌, ◌*◌, ◌/◌, ◌<◌, ◌≤◌, ◌⊎◌, ⊎_elim, inl, inr, List, length, set, replicate, Option, None, refl, sym, ap, ◌∙◌, subst, arith, length-set}
use Rattle.std.proofs.lemmas.Bool.{cases_lt, cases_eq}
use Rattle.std.proofs.lemmas.List.{get_or-set_same, get_or-set_other, length-replicate}
use Rattle.pm_policies.specs.declared.tournament.Contender.{Contender}
use Rattle.pm_policies.specs.Tournaments.{node_at, leaf_at, winner, IsTournamentBut, IsTournament}
use Rattle.pm_policies.proofs.Orders.{Leads, leads_itself, leads_along, winner_is}

-- an inner node's number is half of that of each of the two below it
halved : (i : ℕ) → 2 ≤ i → (1 ≤ i / 2) × (i / 2 < i) × ((i ≡ 2 * (i / 2)) ⊎ (i ≡ 2 * (i / 2) + 1))
halved i h = (omega arith, omega arith, ⊎_elim (λ (l : 2 * (i / 2) < i). inr (omega arith)) (λ (l : i ≤ 2 * (i / 2)). inl (omega arith)) (cases_lt (2 * (i / 2)) i))

module _ (n : ℕ) (nodes : List (Option Contender)) (tree : IsTournament n nodes) where
  game : (i : ℕ) → 1 ≤ i → i < n → node_at nodes i ≡ winner (node_at nodes (2 * i)) (node_at nodes (2 * i + 1))
  game i a b = tree.games i a b (λ e. omega arith)

  leads_first : (i : ℕ) → 1 ≤ i → i < n → Leads (node_at nodes i) (node_at nodes (2 * i))
  leads_first i a b = subst (λ x. Leads x (node_at nodes (2 * i))) (sym (game i a b)) (winner_is (node_at nodes (2 * i)) (node_at nodes (2 * i + 1))).1

  leads_second : (i : ℕ) → 1 ≤ i → i < n → Leads (node_at nodes i) (node_at nodes (2 * i + 1))
  leads_second i a b = subst (λ x. Leads x (node_at nodes (2 * i + 1))) (sym (game i a b)) (winner_is (node_at nodes (2 * i)) (node_at nodes (2 * i + 1))).2

  leads_below : (i p : ℕ) → 1 ≤ p → p < n → ((i ≡ 2 * p) ⊎ (i ≡ 2 * p + 1)) → Leads (node_at nodes p) (node_at nodes i)
  leads_below i p a b w =
      ⊎_elim
      (λ (e : i ≡ 2 * p). subst (λ k. Leads (node_at nodes p) (node_at nodes k)) (sym e) (leads_first p a b))
      (λ (e : i ≡ 2 * p + 1). subst (λ k. Leads (node_at nodes p) (node_at nodes k)) (sym e) (leads_second p a b))
      w

  root_leads_by : (steps i : ℕ) → i ≤ steps → 1 ≤ i → i < 2 * n → Leads (node_at nodes 1) (node_at nodes i)
  root_leads_by zero i a b c = absurd (omega arith)
  root_leads_by (suc steps) i a b c =
      ⊎_elim
      (λ (e : i ≡ 1). subst (λ k. Leads (node_at nodes 1) (node_at nodes k)) (sym e) (leads_itself (node_at nodes 1)))
      (λ (e : i ≡ 1 → ⊥).
      let two : 2 ≤ i = omega (arith, e) in let half = halved i two in
      leads_along (node_at nodes 1) (node_at nodes (i / 2)) (node_at nodes i)
      (root_leads_by steps (i / 2) (omega (arith, half.1)) half.0 (omega (arith, half.1)))
      (leads_below i (i / 2) half.0 (omega arith) half.2))
      (cases_eq i 1)

  -- the root comes before every node
  pub root_leads : (i : ℕ) → 1 ≤ i → i < 2 * n → Leads (node_at nodes 1) (node_at nodes i)
  root_leads i a b = root_leads_by i i (omega arith) a b

  leaf_by : (steps i : ℕ) → 2 * n ≤ i + steps → 1 ≤ i → i < 2 * n → (j : ℕ) × (j < n) × (node_at nodes i ≡ leaf_at n nodes j)
  leaf_by zero i a b c = absurd (omega arith)
  leaf_by (suc steps) i a b c =
      ⊎_elim
      (λ (inner : i < n).
      ⊎_elim
      (λ (e : winner (node_at nodes (2 * i)) (node_at nodes (2 * i + 1)) ≡ node_at nodes (2 * i)).
      let rest = leaf_by steps (2 * i) (omega arith) (omega arith) (omega arith) in (rest.0, rest.1, game i b inner ∙ e ∙ rest.2))
      (λ (e : winner (node_at nodes (2 * i)) (node_at nodes (2 * i + 1)) ≡ node_at nodes (2 * i + 1)).
      let rest = leaf_by steps (2 * i + 1) (omega arith) (omega arith) (omega arith) in (rest.0, rest.1, game i b inner ∙ e ∙ rest.2))
      (winner_is (node_at nodes (2 * i)) (node_at nodes (2 * i + 1))).0)
      (λ (outer : n ≤ i). (i - n, omega arith, ap (node_at nodes) {x = i} {y = n + (i - n)} (omega arith)))
      (cases_lt i n)

  -- the root is one of the leaves
  pub root_is_leaf : 1 ≤ n → (j : ℕ) × (j < n) × (node_at nodes 1 ≡ leaf_at n nodes j)
  root_is_leaf some = leaf_by (2 * n) 1 (omega arith) (omega arith) (omega arith)

-- a node that isn't set stays
pub node_stays : (nodes : List (Option Contender)) (at i : ℕ) (node : Option Contender) → i ≢ at → node_at (set nodes at node) i ≡ node_at nodes i
node_stays nodes at i node away = get_or-set_other nodes at i node None away

-- a game between nodes that aren't set is as before
game_stays : (nodes : List (Option Contender)) (at i : ℕ) (node : Option Contender) → i ≢ at → 2 * i ≢ at → 2 * i + 1 ≢ at
    → node_at nodes i ≡ winner (node_at nodes (2 * i)) (node_at nodes (2 * i + 1))
    → node_at (set nodes at node) i ≡ winner (node_at (set nodes at node) (2 * i)) (node_at (set nodes at node) (2 * i + 1))
game_stays nodes at i node a b c e =
    let at_i = node_stays nodes at i node a in let at_first = node_stays nodes at (2 * i) node b in let at_second = node_stays nodes at (2 * i + 1) node c in
    at_i ∙ e ∙ ap (λ x. winner x (node_at nodes (2 * i + 1))) (sym at_first) ∙ ap (λ y. winner (node_at (set nodes at node) (2 * i)) y) (sym at_second)

-- where a leaf is set, one game is to be played
pub leaf_set : (n : ℕ) (nodes : List (Option Contender)) (at : ℕ) (node : Option Contender) → IsTournament n nodes → n ≤ at → at < 2 * n → IsTournamentBut n (set nodes at node) (at / 2)
leaf_set n nodes at node tree low high = record {
  size = length-set nodes at node ∙ tree.size;
  games = λ i a b other. game_stays nodes at i node (λ e. omega arith) (λ e. other (omega arith)) (λ e. other (omega arith)) (tree.games i a b (λ e. omega arith));
}

-- and after it the one above
pub game_played : (n : ℕ) (nodes : List (Option Contender)) (at : ℕ) → IsTournamentBut n nodes at → 1 ≤ at → at < n
    → IsTournamentBut n (set nodes at (winner (node_at nodes (2 * at)) (node_at nodes (2 * at + 1)))) (at / 2)
game_played n nodes at tree low high =
    let node = winner (node_at nodes (2 * at)) (node_at nodes (2 * at + 1)) in
    record {
      size = length-set nodes at node ∙ tree.size;
      games = λ i a b other.
          ⊎_elim
          (λ (e : i ≡ at).
          let here : node_at (set nodes at node) at ≡ node = get_or-set_same nodes at node None (omega (arith, tree.size)) in
          let first : node_at (set nodes at node) (2 * at) ≡ node_at nodes (2 * at) = node_stays nodes at (2 * at) node (λ f. omega arith) in
          let second : node_at (set nodes at node) (2 * at + 1) ≡ node_at nodes (2 * at + 1) = node_stays nodes at (2 * at + 1) node (λ f. omega arith) in
          subst (λ k. node_at (set nodes at node) k ≡ winner (node_at (set nodes at node) (2 * k)) (node_at (set nodes at node) (2 * k + 1))) (sym e)
          (here ∙ ap (λ x. winner x (node_at nodes (2 * at + 1))) (sym first) ∙ ap (λ y. winner (node_at (set nodes at node) (2 * at)) y) (sym second)))
          (λ (e : i ≡ at → ⊥). game_stays nodes at i node e (λ f. other (omega arith)) (λ f. other (omega arith)) (tree.games i a b e))
          (cases_eq i at);
    }

-- nobody takes part
pub node_at-replicate : (m i : ℕ) → node_at (replicate m None) i ≡ None
node_at-replicate zero i = refl
node_at-replicate (suc m) zero = refl
node_at-replicate (suc m) (suc i) = node_at-replicate m i

pub nobody : (n : ℕ) → IsTournament n (replicate (2 * n) None)
nobody n = record {
  size = length-replicate (2 * n) None;
  games = λ i a b other. node_at-replicate (2 * n) i ∙ sym (ap (λ x. winner x (node_at (replicate (2 * n) None) (2 * i + 1))) (node_at-replicate (2 * n) (2 * i)) ∙ node_at-replicate (2 * n) (2 * i + 1));
}

-- what a loop keeps that plays the games above a leaf
pub record IsEntered (n : ℕ) (old new : List (Option Contender)) (leaf : ℕ) (node : Option Contender) (at : ℕ) : Type 0 where
  pub inner : at < n
  pub tree : IsTournamentBut n new at
  pub entered : leaf_at n new leaf ≡ node
  pub others : (i : ℕ) → i < n → i ≢ leaf → leaf_at n new i ≡ leaf_at n old i

pub enters : (n : ℕ) (nodes : List (Option Contender)) (leaf : ℕ) (node : Option Contender) → IsTournament n nodes → leaf < n → IsEntered n nodes (set nodes (n + leaf) node) leaf node ((n + leaf) / 2)
enters n nodes leaf node tree within = record {
  inner = omega arith;
  tree = leaf_set n nodes (n + leaf) node tree (omega arith) (omega arith);
  entered = get_or-set_same nodes (n + leaf) node None (omega (arith, tree.size));
  others = λ i a away. node_stays nodes (n + leaf) (n + i) node (λ e. away (omega arith));
}

pub enters_more : (n : ℕ) (old new : List (Option Contender)) (leaf : ℕ) (node : Option Contender) (at : ℕ) → IsEntered n old new leaf node at → leaf < n → 1 ≤ at
    → IsEntered n old (set new at (winner (node_at new (2 * at)) (node_at new (2 * at + 1)))) leaf node (at / 2)
enters_more n old new leaf node at so_far within low =
    let inner = so_far.inner in let w = winner (node_at new (2 * at)) (node_at new (2 * at + 1)) in
    record {
      inner = omega arith;
      tree = game_played n new at so_far.tree low inner;
      entered = node_stays new at (n + leaf) w (λ e. omega arith) ∙ so_far.entered;
      others = λ i a away. node_stays new at (n + i) w (λ e. omega arith) ∙ so_far.others i a away;
    }
