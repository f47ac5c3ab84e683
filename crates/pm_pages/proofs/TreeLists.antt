-- Items of a tree that were read, and leaves in a row.
use Rattle.std.proofs.Common.{◌≡◌, ℕ, ◌+◌, ◌<◌, List, [], ◌∷◌, ◌++◌, length, drop, get_or, append_assoc, subst, sym, ap, ◌∙◌, arith}
use Rattle.std.specs.Prelude.{◌↔◌, All, Any}
use Rattle.std.proofs.lemmas.List.{length-map, drop_more, get_or_default, map-append, get_or-map}
use Rattle.pm_btpage.specs.IndexPages.{Item, key_in, IsRising}
use Rattle.pm_pages.specs.declared.well_formed.listing.TreeItem.{TreeItem}
use Rattle.pm_pages.specs.declared.row.Row.{Row}
use Rattle.pm_pages.specs.TreeItems.{as_item, as_items}
use Rattle.pm_pages.specs.Trees.{IsItemOf, ListsRows}

-- the key of an item that was read
pub key_in-as_items : (items : List TreeItem) (k : ℕ) (d : TreeItem) → k < length items → key_in (as_items items) k ≡ (get_or items k d).key
key_in-as_items items k d lt = ap (λ (item : Item). item.key) (get_or-map as_item items k d (record { key = []; word = 0 }) lt)

-- one item more
pub one_item_more : (items items' : List TreeItem) (all own : List Item) (item : TreeItem) (i : ℕ) (d : Item) → i < length own → as_items items ++ drop i own ≡ all → as_item item ≡ get_or own i d → items' ≡ items ++ item ∷ [] → as_items items' ++ drop (i + 1) own ≡ all
one_item_more items items' all own item i d lt before is more =
    ap (λ (t : List TreeItem). as_items t ++ drop (i + 1) own) more
    ∙ ap (λ (t : List Item). t ++ drop (i + 1) own) (map-append as_item items (item ∷ []))
    ∙ append_assoc (as_items items) (as_item item ∷ []) (drop (i + 1) own)
    ∙ ap (λ (x : Item). as_items items ++ x ∷ drop (i + 1) own) is
    ∙ ap (λ (t : List Item). as_items items ++ t) (sym (drop_more own i d lt))
    ∙ before

-- what holds of one of the items, as a page has them
pub any_as_items : (P : Item → Type 0) (items : List TreeItem) → Any P (as_items items) ↔ Any (λ item. P (as_item item)) items
any_as_items P items = (to, from)
  where
    blank : TreeItem
    blank = record { key = []; word = 0 }

    to : Any P (as_items items) → Any (λ item. P (as_item item)) items
    to any =
        let k = any.0 in
        let lt : k < length items = omega (arith, any.2, length-map items as_item) in
        let t : TreeItem = get_or items k blank in
        (k, t, lt, get_or_default items k t blank lt, subst P (sym any.3 ∙ get_or-map as_item items k blank any.1 lt) any.4)

    from : Any (λ item. P (as_item item)) items → Any P (as_items items)
    from any =
        let k = any.0 in
        let lt : k < length (as_items items) = omega (arith, any.2, length-map items as_item) in
        (k, as_item any.1, lt, get_or-map as_item items k any.1 (as_item any.1) any.2 ∙ ap as_item any.3, any.4)

-- what holds of all items, as a page has them
pub all_as_items : (P : Item → Type 0) (items : List TreeItem) → All P (as_items items) ↔ All (λ item. P (as_item item)) items
all_as_items P items = (
  (λ all k d lt. subst P (get_or-map as_item items k d (as_item d) lt) (all k (as_item d) (omega (arith, lt, length-map items as_item)))),
  (λ all k d lt. (let lt' : k < length items = omega (arith, lt, length-map items as_item) in subst P (sym (get_or-map as_item items k (record { key = []; word = 0 }) d lt')) (all k (record { key = []; word = 0 }) lt'))),
)

-- the three tests together
pub lists : (rows : List Row) (cache : ℕ) (items : List TreeItem) → IsRising (as_items items) → All (λ row. row.cache ≡ cache → Any (λ item. IsItemOf cache (as_item item) row) items) rows → All (λ item. Any (IsItemOf cache (as_item item)) rows) items → ListsRows rows cache (as_items items)
lists rows cache items rising all only = record {
  rising = rising;
  all = λ k d lt is. (any_as_items (λ item. IsItemOf cache item (get_or rows k d)) items).1 (all k d lt is);
  only = (all_as_items (λ item. Any (IsItemOf cache item) rows) items).1 only;
}

pub all_of : (rows : List Row) (cache : ℕ) (items : List TreeItem) → ListsRows rows cache (as_items items) → All (λ row. row.cache ≡ cache → Any (λ item. IsItemOf cache (as_item item) row) items) rows
all_of rows cache items lists' k d lt is = (any_as_items (λ item. IsItemOf cache item (get_or rows k d)) items).0 (lists'.all k d lt is)

pub only_of : (rows : List Row) (cache : ℕ) (items : List TreeItem) → ListsRows rows cache (as_items items) → All (λ item. Any (IsItemOf cache (as_item item)) rows) items
only_of rows cache items lists' = (all_as_items (λ item. Any (IsItemOf cache item) rows) items).0 lists'.only
