-- Items by rising key as a sorted map.
use Rattle.std.specs.Prelude.{ℕ, List, [], ◌∷◌, Option, None, Some}
use Rattle.std.specs.Ordering.{nat_cmp}
use Rattle.std.specs.declared.cmp.Ordering.{Ordering}
use Rattle.std.specs.declared.cmp.Ordering.TheVariants.{Less, Equal, Greater}
use Rattle.std.specs.Cmp.Lexicographic.{slice_cmp}
use Rattle.pm_btpage.specs.IndexPages.{Item}

-- one of three values, as one key is below another, the same or above it
abbrev pub by_order : {A : Type 0} → Ordering → A → A → A → A
by_order Less below same above = below
by_order Equal below same above = same
by_order Greater below same above = above

-- the word of a key, if it is there
abbrev pub get_in : List Item → List ℕ → Option ℕ
get_in [] key = None
get_in (item ∷ items) key = by_order (slice_cmp nat_cmp item.key key) (get_in items key) (Some item.word) None

-- the items with this word at a key, in place of the one that it had or as a new item
abbrev pub put_in : List Item → List ℕ → ℕ → List Item
put_in [] key word = record { key = key; word = word } ∷ []
put_in (item ∷ items) key word =
    by_order (slice_cmp nat_cmp item.key key)
    (item ∷ put_in items key word)
    (record { key = key; word = word } ∷ items)
    (record { key = key; word = word } ∷ item ∷ items)
