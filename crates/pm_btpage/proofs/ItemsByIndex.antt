-- The items of a page, by index, and items that stand elsewhere with the same bytes.
use Rattle.std.proofs.Common.{◌≡◌, ℕ, ◌+◌, ◌-◌, ◌<◌, ◌≤◌, List, [], length, get_or, sym, ap, ◌∙◌, arith, w64}
use Rattle.std.specs.Int.{from_le_bytes}
use Rattle.std.proofs.lemmas.List.FromFn.{length-map-range_with_len, get_or-map-range_with_len, fill_by_all}
use Rattle.pm_types.specs.Fields.{bytes_at, u64_at}
use Rattle.pm_types.proofs.PageSizeBounds.{page_size_bounds}
use Rattle.pm_types.proofs.Unchanged.{bytes_agree}
use Rattle.pm_btpage.specs.IndexPages.{Item, item_at, items_of, count_of, offset_of, key_in, key_len_at, IsItem, IsIndexPage}

pub length-items_of : (page : List ℕ) → length (items_of page) ≡ count_of page
length-items_of page = length-map-range_with_len (item_at page) 0 (count_of page)

pub get_or-items_of : (page : List ℕ) (i : ℕ) (d : Item) → i < count_of page → get_or (items_of page) i d ≡ item_at page i
get_or-items_of page i d lt = get_or-map-range_with_len (item_at page) 0 (count_of page) i i d lt (omega arith)

-- items that are those of each index are the page's
pub items_by_index : (page : List ℕ) (items : List Item) (d : Item) → length items ≡ count_of page → ((i : ℕ) → i < count_of page → get_or items i d ≡ item_at page i) → items_of page ≡ items
items_by_index page items d len each = sym (fill_by_all (item_at page) items (count_of page) d len each)

pub record SameItem (was now : List ℕ) (i j : ℕ) : Type 0 where
  pub item : item_at now j ≡ item_at was i
  pub sound : IsItem now j

-- an item whose bytes stand in another page as item j
pub item_moved : (was now : List ℕ) (i j : ℕ) → length now ≡ length was → offset_of i + 73 ≤ length was → offset_of j + 73 ≤ length was →
    ((k : ℕ) → k < 73 → get_or now (offset_of j + k) 0 ≡ get_or was (offset_of i + k) 0) → IsItem was i → SameItem was now i j
unfolding u64_at
item_moved was now i j size fits_i fits_j same sound =
    let a = offset_of i in
    let b = offset_of j in
    let n = get_or was a 0 in
    let a0 : a + 0 ≡ a = omega arith in
    let b0 : b ≡ b + 0 = omega arith in
    let len : get_or now b 0 ≡ n = ap (λ k. get_or now k 0) b0 ∙ same 0 (omega arith) ∙ ap (λ k. get_or was k 0) a0 in
    let from : (d k : ℕ) → d + k < 73 → get_or now (b + d + k) 0 ≡ get_or was (a + d + k) 0 = λ d k lt.
    let e : b + d + k ≡ b + (d + k) = omega arith in
    let e' : a + (d + k) ≡ a + d + k = omega arith in
    ap (λ q. get_or now q 0) e ∙ same (d + k) lt ∙ ap (λ q. get_or was q 0) e' in
    let key : bytes_at now (b + 1) (get_or now b 0) ≡ bytes_at was (a + 1) n =
    ap (bytes_at now (b + 1)) len ∙ bytes_agree was now (a + 1) (b + 1) n size (omega (arith, sound.short)) (omega (arith, sound.short)) (λ k lt. from 1 k (omega (arith, lt, sound.short))) in
    let word : u64_at now (b + 65) ≡ u64_at was (a + 65) = ap (from_le_bytes w64) (bytes_agree was now (a + 65) (b + 65) 8 size (omega arith) (omega arith) (λ k lt. from 65 k (omega arith))) in
    record {
      item = λ t. record { key = key t; word = word t };
      sound = record {
        some = omega (arith, len, sound.some);
        short = omega (arith, len, sound.short);
        padding = λ k ge lt.
            let e : k ≡ b + (k - b) = omega arith in
            ap (λ q. get_or now q 0) e ∙ same (k - b) (omega arith) ∙ sound.padding (a + (k - b)) (omega (arith, len)) (omega arith);
      };
    }

-- where an item of a page stands, and how long its key is
pub record ItemBounds (page : List ℕ) (i : ℕ) : Type 0 where
  pub counted : i < count_of page
  pub within : offset_of i + 73 ≤ length page
  pub long : length page ≤ 16384
  pub short : key_len_at page i ≤ 64

pub item_bounds : (page : List ℕ) (i : ℕ) → IsIndexPage page → i < length (items_of page) → ItemBounds page i
item_bounds page i ok lt =
    let few : i < count_of page = omega (arith, length-items_of page, lt) in
    record { counted = few; within = omega (arith, ok.items.within, few); long = (page_size_bounds (length page) ok.size).1; short = (ok.items.each i few).short }

-- the items are within the page
pub items_within : (page : List ℕ) → IsIndexPage page → (offset_of (length (items_of page)) ≤ length page) × (length page ≤ 16384)
items_within page ok = (omega (arith, ok.items.within, length-items_of page), (page_size_bounds (length page) ok.size).1)

-- the key of an item, as it stands in the page and as it stands in the list
pub key_in-items_of : (page : List ℕ) (i : ℕ) → i < count_of page → key_in (items_of page) i ≡ (item_at page i).key
key_in-items_of page i lt = ap (λ (x : Item). x.key) (get_or-items_of page i (record { key = []; word = 0 }) lt)
