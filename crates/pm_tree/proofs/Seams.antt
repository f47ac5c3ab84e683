-- The entries of an inner page divided at the child below which a key stands.
use Rattle.std.proofs.Common.{◌≡◌, ℕ, zero, suc, ◌<◌, List, [], ◌∷◌, ◌++◌, map, length, refl, ap, ◌∙◌, arith}
use Rattle.std.specs.Prelude.{None, Some}
use Rattle.std.proofs.lemmas.List.Concat.{flat_map-append}
use Rattle.pm_btpage.specs.IndexPages.{Item, IsBelow, key_in, with_item}
use Rattle.pm_pages.specs.Trees.{index_in}
use Rattle.pm_tree.specs.Maps.{get_in, put_in}
use Rattle.pm_tree.specs.Steps.{IsChildFor}
use Rattle.pm_tree.specs.Puts.{flat}
use Rattle.pm_tree.proofs.KeyOrder.{below_upto, above_from}
use Rattle.pm_tree.specs.Nodes.{Keys, Entry, entry, IsFrom, IsUpTo, end_before, AreBounded, Each}
use Rattle.pm_tree.proofs.MapLists.{keys_joined, keys_weaker, get_after, get_before, put_after, put_before}
use Rattle.pm_tree.proofs.Decoded.{kid}

pub flat_joined : {A : Type 0} (f : ℕ → List A) (xs ys : List Entry) → flat f (xs ++ ys) ≡ flat f xs ++ flat f ys
flat_joined f xs ys = flat_map-append (λ (e : Entry). f e.child) xs ys

-- the entries, divided at the one of the key: the keys of those before are below, and of those after above
pub record Seam (f : ℕ → List Item) (first : Entry) (items : List Item) (key : List ℕ) (i : ℕ) : Type 0 where
  pub before : List Entry
  pub here : Entry
  pub after : List Entry
  pub is : (first ∷ map entry items) ≡ before ++ (here ∷ after)
  pub child : here.child ≡ kid first.child items i
  pub from : IsFrom here.from key
  pub upto : IsUpTo (end_before after None) key
  pub below : Keys (λ k. IsBelow k key) (flat f before)
  pub above : Keys (λ k. IsBelow key k) (flat f after)
  pub more : (x : Item) → (first ∷ map entry (with_item items i x)) ≡ before ++ (here ∷ entry x ∷ after)

all_above : (f : ℕ → List Item) (items : List Item) (key : List ℕ) → ((j : ℕ) → j < length items → IsBelow key (key_in items j)) → AreBounded f (map entry items) None → Keys (λ k. IsBelow key k) (flat f (map entry items))
all_above f [] key above bounded = tt
all_above f (x ∷ xs) key above bounded =
    keys_joined (λ k. IsBelow key k) (f (index_in x.word)) (flat f (map entry xs))
    (keys_weaker (IsFrom (Some x.key)) (λ k. IsBelow key k) (f (index_in x.word)) (λ k from. above_from key x.key k (above 0 (omega arith)) from) bounded.0)
    (all_above f xs key (λ j lt. above (suc j) (omega (arith, lt))) bounded.2)

pub seam : (f : ℕ → List Item) (first : Entry) (items : List Item) (key : List ℕ) (i : ℕ) → IsFrom first.from key → IsChildFor items key i → AreBounded f (first ∷ map entry items) None → Seam f first items key i
unfolding kid
seam f first [] key zero from child bounded = record {
  before = [];
  here = first;
  after = [];
  is = refl;
  child = refl;
  from = from;
  upto = tt;
  below = tt;
  above = tt;
  more = λ x. refl;
}
seam f first [] key (suc i) from child bounded = absurd (omega (arith, child.in_range))
seam f first (x ∷ xs) key zero from child bounded = record {
  before = [];
  here = first;
  after = map entry (x ∷ xs);
  is = refl;
  child = refl;
  from = from;
  upto = child.above 0 (omega arith) (omega arith);
  below = tt;
  above = all_above f (x ∷ xs) key (λ j lt. child.above j (omega arith) lt) bounded.2;
  more = λ y. refl;
}
seam f first (x ∷ xs) key (suc i) from child bounded =
    let s = seam f (entry x) xs key i (child.upto 0 (omega arith)) (record {
      in_range = omega (arith, child.in_range);
      upto = λ j lt. child.upto (suc j) (omega (arith, lt));
      above = λ j le lt. child.above (suc j) (omega (arith, le)) (omega (arith, lt));
    }) bounded.2 in
    record {
      before = first ∷ s.before;
      here = s.here;
      after = s.after;
      is = ap (λ t. first ∷ t) s.is;
      child = s.child;
      from = s.from;
      upto = s.upto;
      below = keys_joined (λ k. IsBelow k key) (f first.child) (flat f s.before)
          (keys_weaker (IsUpTo (Some x.key)) (λ k. IsBelow k key) (f first.child) (λ k upto. below_upto k x.key key upto (child.upto 0 (omega arith))) bounded.1)
          s.below;
      above = s.above;
      more = λ y. ap (λ t. first ∷ t) (s.more y);
    }

pub get_seam : (f : ℕ → List Item) (first : Entry) (items : List Item) (key : List ℕ) (i : ℕ) (s : Seam f first items key i) → get_in (flat f (first ∷ map entry items)) key ≡ get_in (f s.here.child) key
get_seam f first items key i s =
    ap (λ (es : List Entry). get_in (flat f es) key) s.is
    ∙ ap (λ (t : List Item). get_in t key) (flat_joined f s.before (s.here ∷ s.after))
    ∙ get_after (flat f s.before) (f s.here.child ++ flat f s.after) key s.below
    ∙ get_before (f s.here.child) (flat f s.after) key s.above

pub put_seam : (f : ℕ → List Item) (first : Entry) (items : List Item) (key : List ℕ) (i word : ℕ) (s : Seam f first items key i) → put_in (flat f (first ∷ map entry items)) key word ≡ flat f s.before ++ (put_in (f s.here.child) key word ++ flat f s.after)
put_seam f first items key i word s =
    ap (λ (es : List Entry). put_in (flat f es) key word) s.is
    ∙ ap (λ (t : List Item). put_in t key word) (flat_joined f s.before (s.here ∷ s.after))
    ∙ put_after (flat f s.before) (f s.here.child ++ flat f s.after) key word s.below
    ∙ ap (λ (t : List Item). flat f s.before ++ t) (put_before (f s.here.child) (flat f s.after) key word s.above)

pub each_left : (P : ℕ → Type 0) (xs ys : List Entry) → Each P (xs ++ ys) → Each P xs
each_left P [] ys h = tt
each_left P (x ∷ xs) ys h = (h.0, each_left P xs ys h.1)

pub each_right : (P : ℕ → Type 0) (xs ys : List Entry) → Each P (xs ++ ys) → Each P ys
each_right P [] ys h = h
each_right P (x ∷ xs) ys h = each_right P xs ys h.1

pub each_joined : (P : ℕ → Type 0) (xs ys : List Entry) → Each P xs → Each P ys → Each P (xs ++ ys)
each_joined P [] ys hx hy = hy
each_joined P (x ∷ xs) ys hx hy = (hx.0, each_joined P xs ys hx.1 hy)
