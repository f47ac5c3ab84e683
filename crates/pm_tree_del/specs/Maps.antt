-- Items by rising key as a sorted map, from which a key is removed.
use Rattle.std.specs.Prelude.{ℕ, List, [], ◌∷◌}
use Rattle.std.specs.Ordering.{nat_cmp}
use Rattle.std.specs.Cmp.Lexicographic.{slice_cmp}
use Rattle.pm_btpage.specs.IndexPages.{Item}
use Rattle.pm_tree.specs.Maps.{by_order}

-- the items without that of a key, if it is there
abbrev pub remove_in : List Item → List ℕ → List Item
remove_in [] key = []
remove_in (item ∷ items) key =
    by_order (slice_cmp nat_cmp item.key key)
    (item ∷ remove_in items key)
    items
    (item ∷ items)
