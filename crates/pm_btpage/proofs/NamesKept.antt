-- What a page names stays of its partition through each edit.
use Rattle.std.proofs.Common.{◌≡◌, ℕ, ◌+◌, ◌-◌, ◌<◌, ◌≤◌, Bool, false, List, ◌++◌, length, take, drop, get_or, refl, sym, ap, subst, ◌∙◌, inl, inr, arith}
use Rattle.std.proofs.lemmas.Bool.{cases_lt, cases_eq}
use Rattle.std.proofs.lemmas.List.{length-append, length-take-le, length-drop, get_or_append_left, get_or-append_right, get_or-take, get_or-drop}
use Rattle.pm_types.specs.Ids.{part_of_id}
use Rattle.pm_types.specs.declared.page_id.PageId.{PageId}
use Rattle.pm_btpage.specs.IndexPages.{Item, IndexPage, index_of, word_in, with_items, with_item, with_link, IsIndexPage}
use Rattle.pm_btpage.specs.Stored.{IsChild, IsWord, NamesPagesOf, IsStoredIndex}
use Rattle.pm_btpage.proofs.ItemLists.{no_item, length-with_item, with_item-below, with_item-here, with_item-above}

-- the word of each item is the name of a row or of a child
abbrev pub AreWords : Bool → ℕ → List Item → Type 0
AreWords leaf part items = (i : ℕ) → i < length items → IsWord leaf part (word_in items i)

-- the word of an item that is the same elsewhere
same_word : (leaf : Bool) (part : ℕ) (x y : Item) → y ≡ x → IsWord leaf part x.word → IsWord leaf part y.word
same_word leaf part x y same word = subst (λ (z : Item). IsWord leaf part z.word) {x = x} {y = y} (sym same) word

pub words_with_item : (leaf : Bool) (part i : ℕ) (items : List Item) (item : Item) → i ≤ length items → AreWords leaf part items → IsWord leaf part item.word → AreWords leaf part (with_item items i item)
words_with_item leaf part i items item le words word k lt =
    let len = length-with_item items i item le in
    let get : ℕ → Item = λ n. get_or (with_item items i item) n no_item in
    elim (cases_lt k i) [
      | inl below ↦ same_word leaf part (get_or items k no_item) (get k) (with_item-below items i k item le below) (words k (omega (arith, below, le)))
      | inr from ↦ elim (cases_eq k i) [
        | inl is ↦ same_word leaf part item (get k) (ap get is ∙ with_item-here items i item le) word
        | inr other ↦
            let e : k ≡ k - 1 + 1 = omega (arith, from, other) in
            same_word leaf part (get_or items (k - 1) no_item) (get k) (ap get e ∙ with_item-above items i (k - 1) item le (omega (arith, from, other))) (words (k - 1) (omega (arith, len, lt, from, other)))
      ]
    ]

pub words_before : (leaf : Bool) (part n : ℕ) (items : List Item) → n ≤ length items → AreWords leaf part items → AreWords leaf part (take n items)
words_before leaf part n items le words k lt =
    let len = length-take-le n items le in
    same_word leaf part (get_or items k no_item) (get_or (take n items) k no_item) (get_or-take n items k no_item (omega (arith, lt, len))) (words k (omega (arith, lt, len, le)))

pub words_from : (leaf : Bool) (part n : ℕ) (items : List Item) → AreWords leaf part items → AreWords leaf part (drop n items)
words_from leaf part n items words k lt = same_word leaf part (get_or items (n + k) no_item) (get_or (drop n items) k no_item) (get_or-drop n items k no_item) (words (n + k) (omega (arith, lt, length-drop n items)))

pub words_of_both : (leaf : Bool) (part : ℕ) (low high : List Item) → AreWords leaf part low → AreWords leaf part high → AreWords leaf part (low ++ high)
words_of_both leaf part low high words more k lt =
    let n = length low in
    elim (cases_lt k n) [
      | inl below ↦ same_word leaf part (get_or low k no_item) (get_or (low ++ high) k no_item) (get_or_append_left low high no_item k below) (words k below)
      | inr from ↦ same_word leaf part (get_or high (k - n) no_item) (get_or (low ++ high) k no_item) (get_or-append_right low high n k no_item refl from) (more (k - n) (omega (arith, lt, length-append low high, from)))
    ]

pub names_with_items : (part : ℕ) (page : IndexPage) (items : List Item) → NamesPagesOf part page → AreWords page.leaf part items → NamesPagesOf part (with_items page items)
names_with_items part page items names words = record { first = names.first; words = words }

pub names_with_link : (part link : ℕ) (page : IndexPage) → NamesPagesOf part page → (page.leaf ≡ false → IsChild part link) → NamesPagesOf part (with_link page link)
names_with_link part link page names first = record { first = first; words = names.words }

-- a page that was sound in its file is so after a change of its items
pub still_stored : (id : PageId) (was now : List ℕ) (items : List Item) → IsStoredIndex id was → IsIndexPage now → index_of now ≡ with_items (index_of was) items → 1 ≤ length items → AreWords (index_of was).leaf (part_of_id id) items → IsStoredIndex id now
still_stored id was now items stored page says some words = record {
  own = ap (λ (p : IndexPage). p.id) says ∙ stored.own;
  some = omega (arith, ap (λ (p : IndexPage). length p.items) says, some);
  well_made = page;
  names = subst (NamesPagesOf (part_of_id id)) {x = with_items (index_of was) items} {y = index_of now} (sym says) (names_with_items (part_of_id id) (index_of was) items stored.names words);
}
