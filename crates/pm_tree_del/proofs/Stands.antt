-- The entries of an inner page, divided at the child below which a key stands, or at two neighbours.
use Rattle.std.proofs.Common.{◌≡◌, ℕ, zero, suc, ◌+◌, ◌<◌, ◌≤◌, List, [], ◌∷◌, ◌++◌, map, length, take, drop, refl, ap, ◌∙◌, arith}
use Rattle.std.specs.Prelude.{Option, None, Some}
use Rattle.pm_btpage.specs.IndexPages.{Item, IsBelow, IsRising, key_in, word_in, without_item, with_item}
use Rattle.pm_pages.specs.Trees.{index_in}
use Rattle.pm_tree.specs.Maps.{get_in}
use Rattle.pm_tree.specs.Steps.{IsChildFor}
use Rattle.pm_tree.specs.Puts.{flat}
use Rattle.pm_tree.specs.Nodes.{Keys, Entry, entry, IsFrom, IsUpTo, end_before, AreBounded}
use Rattle.pm_tree.proofs.KeyOrder.{below_upto, above_from, below_then, not_below_itself}
use Rattle.pm_tree.proofs.MapLists.{keys_joined, keys_weaker, get_after, get_before}
use Rattle.pm_tree.proofs.Decoded.{kid}
use Rattle.pm_tree.proofs.Seams.{flat_joined}
use Rattle.pm_tree_del.specs.Maps.{remove_in}
use Rattle.pm_tree_del.specs.Neighbours.{with_key}
use Rattle.pm_tree_del.proofs.RemovedItems.{remove_after, remove_before}

-- the entry of the key, which is number i: the keys of those before are below, and of those after above
pub record Stand (f : ℕ → List Item) (first : Entry) (items : List Item) (key : List ℕ) (i : ℕ) : Type 0 where
  pub before : List Entry
  pub here : Entry
  pub after : List Entry
  pub is : (first ∷ map entry items) ≡ before ++ (here ∷ after)
  pub long : length before ≡ i
  pub child : here.child ≡ kid first.child items i
  pub below : Keys (λ k. IsBelow k key) (flat f before)
  pub above : Keys (λ k. IsBelow key k) (flat f after)

all_above : (f : ℕ → List Item) (items : List Item) (key : List ℕ) → ((j : ℕ) → j < length items → IsBelow key (key_in items j)) → AreBounded f (map entry items) None → Keys (λ k. IsBelow key k) (flat f (map entry items))
all_above f [] key above bounded = tt
all_above f (x ∷ xs) key above bounded =
    keys_joined (λ k. IsBelow key k) (f (index_in x.word)) (flat f (map entry xs))
    (keys_weaker (IsFrom (Some x.key)) (λ k. IsBelow key k) (f (index_in x.word)) (λ k from. above_from key x.key k (above 0 (omega arith)) from) bounded.0)
    (all_above f xs key (λ j lt. above (suc j) (omega (arith, lt))) bounded.2)

pub stand : (f : ℕ → List Item) (first : Entry) (items : List Item) (key : List ℕ) (i : ℕ) → IsChildFor items key i → AreBounded f (first ∷ map entry items) None → Stand f first items key i
unfolding kid
stand f first [] key zero child bounded = record { before = []; here = first; after = []; is = refl; long = refl; child = refl; below = tt; above = tt }
stand f first [] key (suc i) child bounded = absurd (omega (arith, child.in_range))
stand f first (x ∷ xs) key zero child bounded = record {
  before = [];
  here = first;
  after = map entry (x ∷ xs);
  is = refl;
  long = refl;
  child = refl;
  below = tt;
  above = all_above f (x ∷ xs) key (λ j lt. child.above j (omega arith) lt) bounded.2;
}
stand f first (x ∷ xs) key (suc i) child bounded =
    let s = stand f (entry x) xs key i (record {
      in_range = omega (arith, child.in_range);
      upto = λ j lt. child.upto (suc j) (omega (arith, lt));
      above = λ j le lt. child.above (suc j) (omega (arith, le)) (omega (arith, lt));
    }) bounded.2 in
    record {
      before = first ∷ s.before;
      here = s.here;
      after = s.after;
      is = ap (λ t. first ∷ t) s.is;
      long = ap suc s.long;
      child = s.child;
      below = keys_joined (λ k. IsBelow k key) (f first.child) (flat f s.before)
          (keys_weaker (IsUpTo (Some x.key)) (λ k. IsBelow k key) (f first.child) (λ k upto. below_upto k x.key key upto (child.upto 0 (omega arith))) bounded.1)
          s.below;
      above = s.above;
    }

pub get_stand : (f : ℕ → List Item) (first : Entry) (items : List Item) (key : List ℕ) (i : ℕ) (s : Stand f first items key i) → get_in (flat f (first ∷ map entry items)) key ≡ get_in (f s.here.child) key
get_stand f first items key i s =
    ap (λ (es : List Entry). get_in (flat f es) key) s.is
    ∙ ap (λ (t : List Item). get_in t key) (flat_joined f s.before (s.here ∷ s.after))
    ∙ get_after (flat f s.before) (f s.here.child ++ flat f s.after) key s.below
    ∙ get_before (f s.here.child) (flat f s.after) key s.above

pub remove_stand : (f : ℕ → List Item) (first : Entry) (items : List Item) (key : List ℕ) (i : ℕ) (s : Stand f first items key i) → remove_in (flat f (first ∷ map entry items)) key ≡ flat f s.before ++ (remove_in (f s.here.child) key ++ flat f s.after)
remove_stand f first items key i s =
    ap (λ (es : List Entry). remove_in (flat f es) key) s.is
    ∙ ap (λ (t : List Item). remove_in t key) (flat_joined f s.before (s.here ∷ s.after))
    ∙ remove_after (flat f s.before) (f s.here.child ++ flat f s.after) key s.below
    ∙ ap (λ (t : List Item). flat f s.before ++ t) (remove_before (f s.here.child) (flat f s.after) key s.above)

-- the key is above this one, if there is one
abbrev pub IsAbove : Option (List ℕ) → List ℕ → Type 0
IsAbove None key = Unit {0}
IsAbove (Some from) key = IsBelow from key

above_from_it : (from : Option (List ℕ)) (key : List ℕ) → IsAbove from key → IsFrom from key
above_from_it None key h = tt
above_from_it (Some s) key h = λ below. not_below_itself s (below_then s key s h below)

above_more : (from : Option (List ℕ)) (a b : List ℕ) → IsAbove from a → IsBelow a b → IsAbove from b
above_more None a b h lt = tt
above_more (Some s) a b h lt = below_then s a b h lt

-- a key below the first is below all
below_all : (xs : List Item) (key : List ℕ) → IsRising xs → IsUpTo (end_before (map entry xs) None) key → (j : ℕ) → j < length xs → IsBelow key (key_in xs j)
below_all [] key rising upto j lt = absurd (omega (arith, lt))
below_all (x ∷ xs) key rising upto zero lt = upto
below_all (x ∷ xs) key rising upto (suc j) lt = below_then key x.key (key_in xs j) upto (rising 0 (suc j) (omega arith) lt)

-- the entries of two neighbours: the second one is that of item `place`, whose key parts them
pub record Two (first : Entry) (items : List Item) (place : ℕ) : Type 0 where
  pub before : List Entry
  pub left : Entry
  pub item : Item
  pub after : List Entry
  pub is : (first ∷ map entry items) ≡ before ++ (left ∷ entry item ∷ after)
  pub long : length before ≡ place
  pub left_is : left.child ≡ kid first.child items place
  pub right_is : index_in item.word ≡ kid first.child items (suc place)
  pub key_is : item.key ≡ key_in items place
  pub low : IsFrom left.from item.key
  pub high : IsUpTo (end_before after None) item.key
  pub low_first : (key : List ℕ) → IsAbove left.from key → IsAbove first.from key
  pub below : (key : List ℕ) → IsAbove left.from key → (j : ℕ) → j < place → IsBelow (key_in items j) key
  pub above : (key : List ℕ) → IsUpTo (end_before after None) key → (j : ℕ) → place + 1 ≤ j → j < length items → IsBelow key (key_in items j)
  pub without : (first ∷ map entry (without_item items place)) ≡ before ++ (left ∷ after)
  pub rekeyed : (key : List ℕ) → (first ∷ map entry (with_key items place key)) ≡ before ++ (left ∷ record { from = Some key; child = index_in item.word } ∷ after)

rising_tail : (x : Item) (xs : List Item) → IsRising (x ∷ xs) → IsRising xs
rising_tail x xs rising i j less lt = rising (suc i) (suc j) (omega (arith, less)) (omega (arith, lt))

high_of : (x : Item) (xs : List Item) → IsRising (x ∷ xs) → IsUpTo (end_before (map entry xs) None) x.key
high_of x [] rising = tt
high_of x (y ∷ ys) rising = rising 0 1 (omega arith) (omega arith)

drop_more : (x : Item) (xs : List Item) (n : ℕ) → drop (suc n + 1) (x ∷ xs) ≡ drop (n + 1) xs
drop_more x xs n = (let e : suc n + 1 ≡ suc (n + 1) = omega arith in ap (λ m. drop m (x ∷ xs)) e)

without_more : (x : Item) (xs : List Item) (n : ℕ) → without_item (x ∷ xs) (suc n) ≡ x ∷ without_item xs n
without_more x xs n = ap (λ (t : List Item). (x ∷ take n xs) ++ t) (drop_more x xs n)

pub with_more : (x : Item) (xs : List Item) (n : ℕ) (key : List ℕ) → with_key (x ∷ xs) (suc n) key ≡ x ∷ with_key xs n key
with_more x xs n key = ap (λ (t : List Item). with_item t (suc n) (record { key = key; word = word_in xs n })) (without_more x xs n)

pub two_of : (first : Entry) (items : List Item) (place : ℕ) → place < length items → IsRising items → ((j : ℕ) → j < length items → IsAbove first.from (key_in items j)) → Two first items place
unfolding kid
two_of first [] place lt rising low = absurd (omega (arith, lt))
two_of first (x ∷ xs) zero lt rising low = record {
  before = [];
  left = first;
  item = x;
  after = map entry xs;
  is = refl;
  long = refl;
  left_is = refl;
  right_is = kid_first xs;
  key_is = refl;
  low = above_from_it first.from x.key (low 0 (omega arith));
  high = high_of x xs rising;
  low_first = λ key h. h;
  below = λ key h j less. absurd (omega (arith, less));
  above = after_first;
  without = refl;
  rekeyed = λ key. refl;
}
  where
    kid_first : (xs : List Item) → index_in x.word ≡ kid (index_in x.word) xs zero
    kid_first [] = refl
    kid_first (y ∷ ys) = refl

    after_first : (key : List ℕ) → IsUpTo (end_before (map entry xs) None) key → (j : ℕ) → 0 + 1 ≤ j → j < length (x ∷ xs) → IsBelow key (key_in (x ∷ xs) j)
    after_first key upto zero ge less = absurd (omega (arith, ge))
    after_first key upto (suc j) ge less = below_all xs key (rising_tail x xs rising) upto j (omega (arith, less))
two_of first (x ∷ xs) (suc p) lt rising low =
    let t = two_of (entry x) xs p (omega (arith, lt)) (rising_tail x xs rising) (λ j less. rising 0 (suc j) (omega arith) (omega (arith, less))) in
    record {
      before = first ∷ t.before;
      left = t.left;
      item = t.item;
      after = t.after;
      is = ap (λ u. first ∷ u) t.is;
      long = ap suc t.long;
      left_is = t.left_is;
      right_is = t.right_is;
      key_is = t.key_is;
      low = t.low;
      high = t.high;
      low_first = λ key h. above_more first.from x.key key (low 0 (omega arith)) (t.low_first key h);
      below = λ key h j less. up_to t key h j less;
      above = λ key h j ge less. past t key h j ge less;
      without = ap (λ (u : List Item). first ∷ map entry u) (without_more x xs p) ∙ ap (λ u. first ∷ u) t.without;
      rekeyed = λ key. ap (λ (u : List Item). first ∷ map entry u) (with_more x xs p key) ∙ ap (λ u. first ∷ u) (t.rekeyed key);
    }
  where
    up_to : (t : Two (entry x) xs p) (key : List ℕ) → IsAbove t.left.from key → (j : ℕ) → j < suc p → IsBelow (key_in (x ∷ xs) j) key
    up_to t key h zero less = t.low_first key h
    up_to t key h (suc j) less = t.below key h j (omega (arith, less))

    past : (t : Two (entry x) xs p) (key : List ℕ) → IsUpTo (end_before t.after None) key → (j : ℕ) → suc p + 1 ≤ j → j < length (x ∷ xs) → IsBelow key (key_in (x ∷ xs) j)
    past t key h zero ge less = absurd (omega (arith, ge))
    past t key h (suc j) ge less = t.above key h j (omega (arith, ge)) (omega (arith, less))
