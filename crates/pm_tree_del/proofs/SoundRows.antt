-- Keys of inner pages stand between those below their children, where no page is without items.
use Rattle.std.proofs.Common.{ℕ, zero, suc, ◌<◌, List, [], ◌∷◌, map, length, sym, subst, inl, inr, arith}
use Rattle.std.specs.Prelude.{Option, None, Some}
use Rattle.pm_btpage.specs.IndexPages.{Item, AllBelow, IsBelow, key_in}
use Rattle.pm_pages.specs.Trees.{index_in}
use Rattle.pm_tree.specs.Nodes.{Entry, entry, IsFrom, IsUpTo, AreBounded, Each, Keys}
use Rattle.pm_tree.specs.Puts.{flat}
use Rattle.pm_tree.proofs.KeyOrder.{below_then, below_upto, key_cases}
use Rattle.pm_tree.proofs.MapLists.{keys_left, keys_right, keys_at}
use Rattle.pm_tree_del.proofs.Stands.{IsAbove}

-- above a key that is from one on
pub above_then : (from : Option (List ℕ)) (k key : List ℕ) → IsFrom from k → IsBelow k key → IsAbove from key
above_then None k key low below = tt
above_then (Some s) k key low below = elim (key_cases s k) [
  | inl lt ↦ below_then s k key lt below
  | inr r ↦ elim r [ inl e ↦ subst (λ z. IsBelow z key) (sym e) below | inr gt ↦ absurd (low gt) ]
]

-- a key isn't above one that ends where another does
pub upto_then : (end : Option (List ℕ)) (key k : List ℕ) → (IsBelow k key → ⊥) → IsUpTo end k → IsUpTo end key
upto_then None key k le upto = tt
upto_then (Some e) key k le upto = elim (key_cases key k) [
  | inl lt ↦ below_then key k e lt upto
  | inr r ↦ elim r [ inl z ↦ subst (λ q. IsBelow q e) (sym z) upto | inr gt ↦ absurd (le gt) ]
]

-- the keys of an inner page lie within the bounds of those below its children
pub between_row : (f : ℕ → List Item) (first : Entry) (xs : List Item) (from end : Option (List ℕ)) → AreBounded f (first ∷ map entry xs) None → Each (λ i. 0 < length (f i)) (first ∷ map entry xs)
    → Keys (IsFrom from) (flat f (first ∷ map entry xs)) → Keys (IsUpTo end) (flat f (first ∷ map entry xs)) → (j : ℕ) → j < length xs → IsAbove from (key_in xs j) × IsUpTo end (key_in xs j)
between_row f first [] from end bounded some low high j lt = absurd (omega (arith, lt))
between_row f first (x ∷ xs) from end bounded some low high zero lt = (
  above_then from (key_in (f first.child) 0) x.key (keys_at (IsFrom from) (f first.child) (keys_left (IsFrom from) (f first.child) (flat f (map entry (x ∷ xs))) low) 0 some.0) (keys_at (IsUpTo (Some x.key)) (f first.child) bounded.1 0 some.0),
  upto_then end x.key (key_in (f (index_in x.word)) 0) (keys_at (IsFrom (Some x.key)) (f (index_in x.word)) bounded.2.0 0 some.1.0)
      (keys_at (IsUpTo end) (f (index_in x.word)) (keys_left (IsUpTo end) (f (index_in x.word)) (flat f (map entry xs)) (keys_right (IsUpTo end) (f first.child) (flat f (map entry (x ∷ xs))) high)) 0 some.1.0),
)
between_row f first (x ∷ xs) from end bounded some low high (suc j) lt =
    between_row f (entry x) xs from end bounded.2 some.1 (keys_right (IsFrom from) (f first.child) (flat f (map entry (x ∷ xs))) low) (keys_right (IsUpTo end) (f first.child) (flat f (map entry (x ∷ xs))) high) j (omega (arith, lt))

-- the items of two leaves that a key parts
pub leaves_apart : (xs ys : List Item) (s : List ℕ) → Keys (IsUpTo (Some s)) xs → Keys (IsFrom (Some s)) ys → AllBelow xs ys
leaves_apart xs ys s upto from i j i_lt j_lt = below_upto (key_in xs i) s (key_in ys j) (keys_at (IsUpTo (Some s)) xs upto i i_lt) (keys_at (IsFrom (Some s)) ys from j j_lt)
