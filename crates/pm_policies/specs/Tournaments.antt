-- A tournament: a tree in which each inner node is the lesser of the two below it. Node i stands
-- above nodes 2i and 2i + 1, node 1 is the root, and the nodes from the number of leaves on are the
-- leaves.
use Rattle.std.specs.Prelude.{◌≡◌, ℕ, ◌+◌, ◌*◌, ◌<◌, ◌≤◌, ◌==◌, ◌&&◌, ◌||◌, Bool, List, length, Option}
use Rattle.std.specs.Prelude.{Some, None, nat_lt, slice_index_or, if◌then◌else◌}
use Rattle.pm_policies.specs.declared.tournament.Contender.{Contender}

abbrev pub node_at : List (Option Contender) → ℕ → Option Contender
node_at nodes i = slice_index_or nodes i None

abbrev pub leaf_at : ℕ → List (Option Contender) → ℕ → Option Contender
leaf_at leaves nodes i = node_at nodes (leaves + i)

-- the first has a lesser stamp, or the same and a lesser number
abbrev pub is_before : Contender → Contender → Bool
is_before a b = nat_lt a.stamp b.stamp || (a.stamp == b.stamp && nat_lt a.frame b.frame)

-- the one of the two that comes first; who isn't there comes last
abbrev pub winner : Option Contender → Option Contender → Option Contender
winner None b = b
winner (Some a) None = Some a
winner (Some a) (Some b) = if is_before b a then Some b else Some a

-- each inner node but perhaps one is the winner of the two below it
pub record IsTournamentBut (leaves : ℕ) (nodes : List (Option Contender)) (but : ℕ) : Type 0 where
  pub size : length nodes ≡ 2 * leaves
  pub games : (i : ℕ) → 1 ≤ i → i < leaves → (i ≡ but → ⊥)
      → node_at nodes i ≡ winner (node_at nodes (2 * i)) (node_at nodes (2 * i + 1))

-- each inner node is the winner of the two below it
abbrev pub IsTournament : ℕ → List (Option Contender) → Type 0
IsTournament leaves nodes = IsTournamentBut leaves nodes 0
