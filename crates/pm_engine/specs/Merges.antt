-- Lists of keys with their values, by rising key.
use Rattle.std.specs.Prelude.{ℕ, Bool, List, IsPermutation}
use Rattle.std.specs.Ordering.{is_lt, nat_cmp}
use Rattle.std.specs.Cmp.Lexicographic.{slice_cmp}
use Rattle.std.specs.List.{flat_map}
use Rattle.std.specs.List.Sorted.{IsSortedBy}

-- whether a pair's key is below another's
abbrev pub is_below : List ℕ × List ℕ → List ℕ × List ℕ → Bool
is_below a b = is_lt (slice_cmp nat_cmp a.0 b.0)

-- no key is below the one before it
abbrev pub HasRisingKeys : List (List ℕ × List ℕ) → Type 0
HasRisingKeys pairs = IsSortedBy is_below pairs

-- the pairs of some lists were joined: all of them and no others, by rising key
pub record JoinsByKey (lists : List (List (List ℕ × List ℕ))) (pairs : List (List ℕ × List ℕ)) : Type 0 where
  pub rising : HasRisingKeys pairs
  pub all : IsPermutation (flat_map (λ list. list) lists) pairs
