-- The items of a cache's rows as a map: a key has its row's name, and none where no row has it.
use Rattle.std.proofs.Common.{◌≡◌, ℕ, ◌⊎◌, List, [], ◌∷◌, Option, None, Some, refl, sym, ap, subst, ◌∙◌, inl, inr}
use Rattle.std.specs.Prelude.{Any}
use Rattle.std.specs.Ordering.{nat_cmp}
use Rattle.std.specs.declared.cmp.Ordering.{Ordering}
use Rattle.std.specs.declared.cmp.Ordering.TheVariants.{Less, Equal, Greater}
use Rattle.std.specs.Cmp.Lexicographic.{slice_cmp}
use Rattle.std.proofs.lemmas.Map.Lookups.{exact_bytes}
use Rattle.pm_btpage.specs.IndexPages.{Item, IsBelow, IsRising}
use Rattle.pm_pages.specs.declared.row.Row.{Row}
use Rattle.pm_pages.specs.Trees.{IsItemOf, ListsRows}
use Rattle.pm_tree.specs.Maps.{by_order, get_in}
use Rattle.pm_tree.specs.Nodes.{Keys}
use Rattle.pm_tree.proofs.KeyOrder.{at_less, at_equal}
use Rattle.pm_tree_del.proofs.RemovedItems.{Rises, rises_from}
use Rattle.pm_part.proofs.KeyedRows.{HasKey}
use Rattle.pm_pages.proofs.Quantified.{Holds, Each, each_of, all_of, holds_of, any_of}
use Rattle.pm_part.proofs.OneMore.{each_weaker, holds_weaker, met, each_among}
use Rattle.pm_part.proofs.RowKeys.{HasNoRow}

-- the row of a key of a cache, with this name
pub record HasLink (cache : ℕ) (key : List ℕ) (word : ℕ) (row : Row) : Type 0 where
  pub has : HasKey cache key row
  pub word_is : row.link.0 ≡ word

-- each row of a cache has its name at its key, and what a key has is the name of its row
pub record MapsRows (rows : List Row) (cache : ℕ) (items : List Item) : Type 0 where
  pub rising : IsRising items
  pub all : Each (λ (row : Row). row.cache ≡ cache → get_in items row.key ≡ Some row.link.0) rows
  pub only : (key : List ℕ) (word : ℕ) → get_in items key ≡ Some word
      → Holds (HasLink cache key word) rows

-- the item of a key, with this word
record HasWord (key : List ℕ) (word : ℕ) (item : Item) : Type 0 where
  key_is : item.key ≡ key
  word_is : item.word ≡ word

key_among : (P : List ℕ → Type 0) (xs : List Item) (key : List ℕ) (word : ℕ) → Keys P xs → Holds (HasWord key word) xs → P key
key_among P [] key word each any = absurd any
key_among P (x ∷ xs) key word each any = elim any [ inl here ↦ subst P here.key_is each.0 | inr later ↦ key_among P xs key word each.1 later ]

word_of_item : (items : List Item) (key : List ℕ) (word : ℕ) → Rises items → Holds (HasWord key word) items → get_in items key ≡ Some word
word_of_item [] key word rises any = absurd any
word_of_item (x ∷ xs) key word rises any = elim any [
  | inl here ↦ at_equal x.key key (get_in xs key) (Some x.word) None here.key_is ∙ ap (λ (w : ℕ). Some w) here.word_is
  | inr later ↦ at_less x.key key (get_in xs key) (Some x.word) None (key_among (λ k. IsBelow x.key k) xs key word rises.0 later) ∙ word_of_item xs key word rises.1 later
]

item_of_word : (items : List Item) (key : List ℕ) (word : ℕ) → get_in items key ≡ Some word → Holds (HasWord key word) items
item_of_word [] key word got = absurd (cc got)
item_of_word (x ∷ xs) key word got = cases (item_of_word xs key word) (slice_cmp nat_cmp x.key key) refl got
  where
    cases : (get_in xs key ≡ Some word → Holds (HasWord key word) xs) → (o : Ordering) → slice_cmp nat_cmp x.key key ≡ o → by_order o (get_in xs key) (Some x.word) None ≡ Some word → HasWord key word x ⊎ Holds (HasWord key word) xs
    cases more Less e got = inr (more got)
    cases more Equal e got = inl (record { key_is = exact_bytes x.key key e; word_is = cc got })
    cases more Greater e got = absurd (cc got)

row_got : (rows : List Row) (cache : ℕ) (items : List Item) → ListsRows rows cache items → (key : List ℕ) (word : ℕ) → get_in items key ≡ Some word → Holds (HasLink cache key word) rows
row_got rows cache items lists key word got =
    met (λ (item : Item). Any (IsItemOf cache item) rows) (HasWord key word) items (each_of _ items lists.only) (item_of_word items key word got)
    (λ item any is. holds_weaker (IsItemOf cache item) (HasLink cache key word) rows
    (λ row of. record { has = record { cache_is = of.cache_is; key_is = sym of.key ∙ is.key_is }; word_is = sym of.word ∙ is.word_is })
    (holds_of (IsItemOf cache item) rows any))

pub maps_rows : (rows : List Row) (cache : ℕ) (items : List Item) → ListsRows rows cache items → MapsRows rows cache items
maps_rows rows cache items lists = record {
  rising = lists.rising;
  all = each_weaker (λ (row : Row). row.cache ≡ cache → Any (λ (item : Item). IsItemOf cache item row) items) (λ (row : Row). row.cache ≡ cache → get_in items row.key ≡ Some row.link.0) rows
      (λ row listed is. word_of_item items row.key row.link.0 (rises_from items lists.rising)
      (holds_weaker (λ (item : Item). IsItemOf cache item row) (HasWord row.key row.link.0) items (λ item of. record { key_is = of.key; word_is = of.word })
      (holds_of (λ (item : Item). IsItemOf cache item row) items (listed is))))
      (each_of _ rows lists.all);
  only = row_got rows cache items lists;
}

pub lists_rows : (rows : List Row) (cache : ℕ) (items : List Item) → MapsRows rows cache items → ListsRows rows cache items
lists_rows rows cache items maps = record {
  rising = maps.rising;
  all = all_of (λ (row : Row). row.cache ≡ cache → Any (λ (item : Item). IsItemOf cache item row) items) rows
      (each_weaker (λ (row : Row). row.cache ≡ cache → get_in items row.key ≡ Some row.link.0) (λ (row : Row). row.cache ≡ cache → Any (λ (item : Item). IsItemOf cache item row) items) rows
      (λ row got is. any_of (λ (item : Item). IsItemOf cache item row) items
      (holds_weaker (HasWord row.key row.link.0) (λ (item : Item). IsItemOf cache item row) items (λ item has. record { cache_is = is; key = has.key_is; word = has.word_is })
      (item_of_word items row.key row.link.0 (got is))))
      maps.all);
  only = all_of (λ (item : Item). Any (IsItemOf cache item) rows) items
      (each_weaker (λ (item : Item). Holds (λ (other : Item). other ≡ item) items) (λ (item : Item). Any (IsItemOf cache item) rows) items
      (λ item among. any_of (IsItemOf cache item) rows
      (holds_weaker (HasLink cache item.key item.word) (IsItemOf cache item) rows (λ row is. record { cache_is = is.has.cache_is; key = sym is.has.key_is; word = sym is.word_is })
      (maps.only item.key item.word (word_of_item items item.key item.word (rises_from items maps.rising)
      (holds_weaker (λ (other : Item). other ≡ item) (HasWord item.key item.word) items (λ other same. record { key_is = ap (λ (i : Item). i.key) same; word_is = ap (λ (i : Item). i.word) same }) among)))))
      (each_among items));
}

-- a key has a word exactly where its row has this name

pub row_of_item : (rows : List Row) (cache : ℕ) (items : List Item) (key : List ℕ) (word : ℕ) → ListsRows rows cache items → get_in items key ≡ Some word → Holds (HasLink cache key word) rows
row_of_item rows cache items key word lists got = row_got rows cache items lists key word got

got_of : (rows : List Row) (cache : ℕ) (items : List Item) (key : List ℕ) (word : ℕ) → MapsRows rows cache items → Holds (HasLink cache key word) rows → get_in items key ≡ Some word
got_of rows cache items key word maps any =
    met (λ (row : Row). row.cache ≡ cache → get_in items row.key ≡ Some row.link.0) (HasLink cache key word) rows maps.all any
    (λ row got is. ap (get_in items) (sym is.has.key_is) ∙ got is.has.cache_is ∙ ap (λ (w : ℕ). Some w) is.word_is)

pub item_of_row : (rows : List Row) (cache : ℕ) (items : List Item) (key : List ℕ) (word : ℕ) → ListsRows rows cache items → Holds (HasLink cache key word) rows → get_in items key ≡ Some word
item_of_row rows cache items key word lists any = got_of rows cache items key word (maps_rows rows cache items lists) any

-- it has none exactly where no row has the key

pub no_row : (rows : List Row) (cache : ℕ) (key : List ℕ) (items : List Item) → ListsRows rows cache items → get_in items key ≡ None → HasNoRow rows cache key
no_row rows cache key items lists none =
    each_weaker (λ (row : Row). row.cache ≡ cache → get_in items row.key ≡ Some row.link.0) (λ row. HasKey cache key row → ⊥) rows
    (λ row got has. (let there : get_in items key ≡ Some row.link.0 = ap (get_in items) (sym has.key_is) ∙ got has.cache_is in absurd (cc (none, there))))
    (maps_rows rows cache items lists).all

pub no_item : (rows : List Row) (cache : ℕ) (key : List ℕ) (items : List Item) → ListsRows rows cache items → HasNoRow rows cache key → get_in items key ≡ None
no_item rows cache key items lists none = cases (get_in items key) refl
  where
    cases : (found : Option ℕ) → get_in items key ≡ found → get_in items key ≡ None
    cases None e = e
    cases (Some word) e = absurd (met (λ row. HasKey cache key row → ⊥) (HasLink cache key word) rows none (row_got rows cache items lists key word e) (λ row none is. none is.has))
