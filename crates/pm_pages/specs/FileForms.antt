-- The form that a page has in its partition's file.
use Rattle.std.specs.Prelude.{ℕ, List}

-- in version 1 it is the page itself
abbrev pub sealed : List ℕ → List ℕ
sealed page = page

-- a file of this version holds a page in these bytes: in version 1 in any
abbrev pub HoldsPage : ℕ → List ℕ → Type 0
HoldsPage version bytes = Unit {0}
