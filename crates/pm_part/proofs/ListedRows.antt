-- The items that list the rows of a cache once a row is added, taken or moved.
use Rattle.std.proofs.Common.{◌≡◌, ◌≢◌, ℕ, List, [], ◌∷◌, None, Some, refl, sym, ap, subst, ◌∙◌, inl, inr}
use Rattle.std.specs.Prelude.{AllPairs}
use Rattle.std.specs.Ordering.{nat_cmp}
use Rattle.std.specs.declared.cmp.Ordering.{Ordering}
use Rattle.std.specs.declared.cmp.Ordering.TheVariants.{Less, Equal, Greater}
use Rattle.std.specs.Cmp.Lexicographic.{slice_cmp}
use Rattle.std.proofs.lemmas.Map.Lookups.{exact_bytes}
use Rattle.pm_btpage.specs.IndexPages.{Item, IsBelow, IsRising}
use Rattle.pm_btpage.proofs.Sought.{flipped}
use Rattle.pm_pages.specs.declared.row.Row.{Row}
use Rattle.pm_pages.specs.Trees.{ListsRows}
use Rattle.pm_pages.specs.WellFormed.{AreDifferent}
use Rattle.pm_free.specs.Placed.{HasOneMore}
use Rattle.pm_tree.specs.Maps.{by_order, get_in, put_in}
use Rattle.pm_tree.specs.Nodes.{Keys}
use Rattle.pm_tree.proofs.KeyOrder.{at_less, at_greater}
use Rattle.pm_tree.proofs.MapLists.{put_before}
use Rattle.pm_tree.proofs.MapLaws.{put_rising, get_put_here, get_put_other}
use Rattle.pm_tree_del.specs.Maps.{remove_in}
use Rattle.pm_tree_del.proofs.RemovedItems.{Rises, rises_from, remove_rising, get_remove_here, get_remove_other}
use Rattle.pm_pages.proofs.Quantified.{Each}
use Rattle.pm_part.proofs.RowKeys.{HasNoRow, same_key, each_less, each_one, each_more, holds_one, holds_more, holds_cases, no_other_row}
use Rattle.pm_part.proofs.RowItems.{HasLink, maps_rows, lists_rows}

-- the rows of a cache have these names
abbrev AreNamed : ℕ → List Item → Row → Type 0
AreNamed cache items row = row.cache ≡ cache → get_in items row.key ≡ Some row.link.0

-- names that stay where another key is changed
named_beside : (cache : ℕ) (key : List ℕ) (items changed : List Item) (rows : List Row) → ((other : List ℕ) → other ≢ key → get_in changed other ≡ get_in items other) → HasNoRow rows cache key → Each (AreNamed cache items) rows → Each (AreNamed cache changed) rows
named_beside cache key items changed [] kept none each = tt
named_beside cache key items changed (row ∷ rows) kept none each =
    (λ is. kept row.key (λ e. none.0 (record { cache_is = is; key_is = e })) ∙ each.0 is, named_beside cache key items changed rows kept none.1 each.1)

no_row_at : (rows : List Row) (row : Row) (cache : ℕ) → row.cache ≡ cache → HasNoRow rows row.cache row.key → HasNoRow rows cache row.key
no_row_at rows row cache is none = subst (λ c. HasNoRow rows c row.key) is none

-- a row added

pub lists_added : (less all : List Row) (row : Row) (cache : ℕ) (items : List Item) → HasOneMore less all row → row.cache ≡ cache → HasNoRow less cache row.key → ListsRows less cache items → ListsRows all cache (put_in items row.key row.link.0)
lists_added less all row cache items one is none lists =
    let maps = maps_rows less cache items lists in
    let now = put_in items row.key row.link.0 in
    lists_rows all cache now (record {
      rising = put_rising items row.key row.link.0 maps.rising;
      all = each_more (AreNamed cache now) less all row one (λ _. get_put_here items row.key row.link.0)
          (named_beside cache row.key items now less (λ other ne. get_put_other items row.key other row.link.0 ne) none maps.all);
      only = λ key word got. elim (same_key key row.key) [
        | inl same ↦
            let here : Some row.link.0 ≡ Some word = sym (get_put_here items row.key row.link.0) ∙ ap (get_in now) (sym same) ∙ got in
            holds_one (HasLink cache key word) less all row one (record { has = record { cache_is = is; key_is = sym same }; word_is = cc here })
        | inr other ↦ holds_more (HasLink cache key word) less all row one (maps.only key word (sym (get_put_other items row.key key row.link.0 other) ∙ got))
      ];
    })

-- a row of another cache

pub lists_other_added : (less all : List Row) (row : Row) (cache : ℕ) (items : List Item) → HasOneMore less all row → row.cache ≢ cache → ListsRows less cache items → ListsRows all cache items
lists_other_added less all row cache items one other lists =
    let maps = maps_rows less cache items lists in
    lists_rows all cache items (record {
      rising = maps.rising;
      all = each_more (AreNamed cache items) less all row one (λ is. absurd (other is)) maps.all;
      only = λ key word got. holds_more (HasLink cache key word) less all row one (maps.only key word got);
    })

pub lists_other_taken : (less all : List Row) (row : Row) (cache : ℕ) (items : List Item) → HasOneMore less all row → row.cache ≢ cache → ListsRows all cache items → ListsRows less cache items
lists_other_taken less all row cache items one other lists =
    let maps = maps_rows all cache items lists in
    lists_rows less cache items (record {
      rising = maps.rising;
      all = each_less (AreNamed cache items) less all row one maps.all;
      only = λ key word got. elim (holds_cases (HasLink cache key word) less all row one (maps.only key word got)) [
        | inl here ↦ absurd (other here.has.cache_is)
        | inr rest ↦ rest
      ];
    })

-- a row taken

pub lists_taken : (less all : List Row) (row : Row) (cache : ℕ) (items : List Item) → HasOneMore less all row → AllPairs AreDifferent all → row.cache ≡ cache → ListsRows all cache items → ListsRows less cache (remove_in items row.key)
lists_taken less all row cache items one once is lists =
    let maps = maps_rows all cache items lists in
    let now = remove_in items row.key in
    let none = no_row_at less row cache is (no_other_row less all row one once) in
    lists_rows less cache now (record {
      rising = remove_rising items row.key maps.rising;
      all = named_beside cache row.key items now less (λ other ne. get_remove_other items row.key other maps.rising ne) none (each_less (AreNamed cache items) less all row one maps.all);
      only = λ key word got. elim (same_key key row.key) [
        | inl same ↦
            let gone = get_remove_here items row.key maps.rising in
            let here : None ≡ Some word = sym gone ∙ ap (get_in now) (sym same) ∙ got in
            absurd (cc here)
        | inr other ↦ elim (holds_cases (HasLink cache key word) less all row one (maps.only key word (sym (get_remove_other items row.key key maps.rising other) ∙ got))) [
          | inl here ↦ absurd (other (sym here.has.key_is))
          | inr rest ↦ rest
        ]
      ];
    })

-- a key that is removed and put again

put_removed_in : (items : List Item) (key : List ℕ) (word : ℕ) → Rises items → put_in (remove_in items key) key word ≡ put_in items key word
put_removed_in [] key word rises = refl
put_removed_in (x ∷ xs) key word rises = cases (put_removed_in xs key word rises.1) (slice_cmp nat_cmp x.key key) refl
  where
    new : Item
    new = record { key = key; word = word }

    cases : put_in (remove_in xs key) key word ≡ put_in xs key word → (o : Ordering) → slice_cmp nat_cmp x.key key ≡ o → put_in (by_order o (x ∷ remove_in xs key) xs (x ∷ xs)) key word ≡ by_order o (x ∷ put_in xs key word) (new ∷ xs) (new ∷ x ∷ xs)
    cases more Less e = at_less x.key key (x ∷ put_in (remove_in xs key) key word) (new ∷ remove_in xs key) (new ∷ x ∷ remove_in xs key) e ∙ ap (λ (t : List Item). x ∷ t) more
    cases more Equal e = put_before [] xs key word (subst (λ k. Keys (λ other. IsBelow k other) xs) (exact_bytes x.key key e) rises.0)
    cases more Greater e = at_greater x.key key (x ∷ put_in xs key word) (new ∷ xs) (new ∷ x ∷ xs) (flipped x.key key e)

pub put_removed : (items : List Item) (key : List ℕ) (word : ℕ) → IsRising items → put_in (remove_in items key) key word ≡ put_in items key word
put_removed items key word rising = put_removed_in items key word (rises_from items rising)

-- a row in another's place, of the same cache and key

-- it has another name
pub lists_moved : (less old new : List Row) (row other : Row) (cache : ℕ) (items : List Item) → HasOneMore less old row → HasOneMore less new other → other.cache ≡ row.cache → other.key ≡ row.key → AllPairs AreDifferent old → row.cache ≡ cache → ListsRows old cache items → ListsRows new cache (put_in items row.key other.link.0)
lists_moved less old new row other cache items was now cache_same key_same once is lists =
    let none = no_row_at less row cache is (no_other_row less old row was once) in
    let without = lists_taken less old row cache items was once is lists in
    let back = lists_added less new other cache (remove_in items row.key) now (cache_same ∙ is) (subst (HasNoRow less cache) (sym key_same) none) without in
    let same : put_in (remove_in items row.key) other.key other.link.0 ≡ put_in items row.key other.link.0 =
    ap (λ (k : List ℕ). put_in (remove_in items row.key) k other.link.0) key_same ∙ put_removed items row.key other.link.0 lists.rising in
    subst (ListsRows new cache) same back

-- it has the same name, and another value
pub lists_kept : (less old new : List Row) (row other : Row) (cache : ℕ) (items : List Item) → HasOneMore less old row → HasOneMore less new other → other.cache ≡ row.cache → other.key ≡ row.key → other.link.0 ≡ row.link.0 → ListsRows old cache items → ListsRows new cache items
lists_kept less old new row other cache items was now cache_same key_same link_same lists =
    let maps = maps_rows old cache items lists in
    lists_rows new cache items (record {
      rising = maps.rising;
      all = each_more (AreNamed cache items) less new other now
          (λ is. ap (get_in items) key_same ∙ each_one (AreNamed cache items) less old row was maps.all (sym cache_same ∙ is) ∙ ap (λ (w : ℕ). Some w) (sym link_same))
          (each_less (AreNamed cache items) less old row was maps.all);
      only = λ key word got. elim (holds_cases (HasLink cache key word) less old row was (maps.only key word got)) [
        | inl here ↦ holds_one (HasLink cache key word) less new other now (record { has = record { cache_is = cache_same ∙ here.has.cache_is; key_is = key_same ∙ here.has.key_is }; word_is = link_same ∙ here.word_is })
        | inr rest ↦ holds_more (HasLink cache key word) less new other now rest
      ];
    })

-- the indexes of other caches
pub lists_other_moved : (less old new : List Row) (row other : Row) (cache : ℕ) (items : List Item) → HasOneMore less old row → HasOneMore less new other → other.cache ≡ row.cache → row.cache ≢ cache → ListsRows old cache items → ListsRows new cache items
lists_other_moved less old new row other cache items was now cache_same apart lists =
    lists_other_added less new other cache items now (λ is. apart (sym cache_same ∙ is)) (lists_other_taken less old row cache items was apart lists)
