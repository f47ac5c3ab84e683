-- Two pages that share their items anew.
use Rattle.std.proofs.Common.{◌≡◌, ℕ, suc, ◌+◌, ◌-◌, ◌/◌, ◌<◌, ◌≤◌, true, false, List, [], ◌∷◌, ◌++◌, length, take, drop, refl, sym, ap, subst, ◌∙◌, arith}
use Rattle.std.specs.Prelude.{Bool}
use Rattle.std.proofs.lemmas.List.{length-take-le, length-append, length-drop}
use Rattle.pm_btpage.specs.IndexPages.{Item, IndexPage, items_of, index_of, key_in, word_in, with_items, with_link, capacity_of, AllBelow, IsIndexPage}
use Rattle.pm_tree_del.specs.Neighbours.{joined_items, with_key, AreOfOneKind, AreApart, HasPlaceFor, Parts, AreNeighbours, Shares}
use Rattle.pm_tree_del.proofs.SharedItems.{first_parts, last_parts, last_joined, first_joined, first_child_joined, last_child_joined, joined_after, joined_after_key, joined_before, joined_length, no_neighbours}

module _ (parent left right : List ℕ) (place : ℕ) (key : List ℕ) (left_page : IsIndexPage left) (right_page : IsIndexPage right) (kind : AreOfOneKind left right) (key_is : key ≡ key_in (items_of parent) place)
    (apart : AreApart (index_of left).leaf (items_of left) (items_of right) key) (many : capacity_of (length left) < length (joined_items (index_of left).leaf (index_of left) (index_of right) key)) where
  apart_is : AreApart (index_of left).leaf (items_of left) (items_of right) (key_in (items_of parent) place)
  apart_is = subst (AreApart (index_of left).leaf (items_of left) (items_of right)) key_is apart

  leaf_long : (index_of left).leaf ≡ true → capacity_of (length left) < length (items_of left) + length (items_of right)
  leaf_long leaf = omega (arith, many, (joined_length (index_of left).leaf (index_of left) (index_of right) key).0 leaf)

  inner_long : (index_of left).leaf ≡ false → capacity_of (length left) < length (items_of left) + length (items_of right) + 1
  inner_long inner = omega (arith, many, (joined_length (index_of left).leaf (index_of left) (index_of right) key).1 inner)

  -- the right page has no place for its second key, or an inner page's right one for its first
  pub first_wrong : (index_of left).leaf ≡ true → length (items_of left) < capacity_of (length left) / 2 → (k : List ℕ) → k ≡ key_in (items_of right) 1 → (HasPlaceFor (items_of parent) place k → ⊥) → AreNeighbours parent left right place → ⊥
  first_wrong leaf few k k_is out =
      no_neighbours parent left right place (length (items_of left) + 1) k (omega arith)
      (omega (arith, few, leaf_long leaf, (joined_length (index_of left).leaf (index_of left) (index_of right) (key_in (items_of parent) place)).0 leaf))
      (joined_after (index_of left).leaf (index_of left) (index_of right) (key_in (items_of parent) place) 1 leaf ∙ sym k_is) out

  pub first_child_wrong : (index_of left).leaf ≡ false → length (items_of left) < capacity_of (length left) / 2 → (k : List ℕ) → k ≡ key_in (items_of right) 0 → (HasPlaceFor (items_of parent) place k → ⊥) → AreNeighbours parent left right place → ⊥
  first_child_wrong inner few k k_is out =
      no_neighbours parent left right place (length (items_of left) + suc 0) k (omega arith)
      (omega (arith, few, inner_long inner, (joined_length (index_of left).leaf (index_of left) (index_of right) (key_in (items_of parent) place)).1 inner))
      (joined_after_key (index_of left).leaf (index_of left) (index_of right) (key_in (items_of parent) place) 0 inner ∙ sym k_is) out

  left_two : (b : Bool) → (index_of left).leaf ≡ b → length (items_of right) < capacity_of (length left) / 2 → 1 < length (items_of left)
  left_two true leaf few = omega (arith, few, leaf_long leaf)
  left_two false inner few = omega (arith, few, inner_long inner)

  whole_long : (b : Bool) → (index_of left).leaf ≡ b → length (items_of left) ≤ length (joined_items (index_of left).leaf (index_of left) (index_of right) (key_in (items_of parent) place))
  whole_long true leaf = omega (arith, (joined_length (index_of left).leaf (index_of left) (index_of right) (key_in (items_of parent) place)).0 leaf)
  whole_long false inner = omega (arith, (joined_length (index_of left).leaf (index_of left) (index_of right) (key_in (items_of parent) place)).1 inner)

  pub last_wrong : length (items_of right) < capacity_of (length left) / 2 → (k : List ℕ) → k ≡ key_in (items_of left) (length (items_of left) - 1) → (HasPlaceFor (items_of parent) place k → ⊥) → AreNeighbours parent left right place → ⊥
  last_wrong few k k_is out =
      let two = left_two (index_of left).leaf refl few in
      no_neighbours parent left right place (length (items_of left) - 1) k (omega (arith, two)) (omega (arith, two, whole_long (index_of left).leaf refl))
      (joined_before (index_of left).leaf (index_of left) (index_of right) (key_in (items_of parent) place) (length (items_of left) - 1) (omega (arith, two)) ∙ sym k_is) out

  module _ (parent' left' right' k : List ℕ) (parent_page : IsIndexPage parent') (left_page' : IsIndexPage left') (right_page' : IsIndexPage right') (parent_is : index_of parent' ≡ with_items (index_of parent) (with_key (items_of parent) place k)) where
    pub first_shares : (index_of left).leaf ≡ true → length (items_of left) < capacity_of (length left) / 2 → k ≡ key_in (items_of right) 1
        → index_of left' ≡ with_items (index_of left) (items_of left ++ take 1 (items_of right)) → index_of right' ≡ with_items (index_of right) (drop 1 (items_of right)) → Shares parent left right place parent' left' right'
    first_shares leaf few k_is left_is right_is =
        let xs = items_of left in
        let ys = items_of right in
        let li : items_of left' ≡ xs ++ take 1 ys = ap (λ (p : IndexPage). p.items) left_is in
        let ri : items_of right' ≡ drop 1 ys = ap (λ (p : IndexPage). p.items) right_is in
        let long = leaf_long leaf in
        let below : AllBelow xs ys = subst (λ b. AreApart b xs ys key) leaf apart in
        let J : Bool → Type 0 = λ b. joined_items b (index_of left') (index_of right') k ≡ joined_items b (index_of left) (index_of right) (key_in (items_of parent) place) in
        record {
          kind = kind;
          apart = apart_is;
          left_page = left_page';
          right_page = right_page';
          parent_page = parent_page;
          key = k;
          parent_is = parent_is;
          left_is = left_is ∙ ap (λ (t : List Item). with_items (index_of left) t) (sym li);
          right_id = ap (λ (p : IndexPage). p.id) right_is;
          right_leaf = ap (λ (p : IndexPage). p.leaf) right_is;
          right_link = λ e. ap (λ (p : IndexPage). p.link) right_is;
          items = subst J (sym leaf) ((λ z. li z ++ ri z) ∙ first_joined xs ys);
          parts = λ e h. subst (λ (q : List Item × List Item × List ℕ). Parts q.0 q.1 q.2) {x = (xs ++ take 1 ys, drop 1 ys, key_in ys 1)} {y = (items_of left', items_of right', k)} (λ z. (sym li z, sym ri z, sym k_is z))
              (first_parts xs ys right_page.items.rising below (omega (arith, few, long)));
          full = λ l r. (omega (arith, l, ap length li, length-append xs (take 1 ys), length-take-le 1 ys (omega (arith, few, long))), omega (arith, few, long, ap length ri, length-drop 1 ys));
        }

    pub last_shares : (index_of left).leaf ≡ true → length (items_of right) < capacity_of (length left) / 2 → k ≡ key_in (items_of left) (length (items_of left) - 1)
        → index_of left' ≡ with_items (index_of left) (take (length (items_of left) - 1) (items_of left)) → index_of right' ≡ with_items (index_of right) (drop (length (items_of left) - 1) (items_of left) ++ items_of right) → Shares parent left right place parent' left' right'
    last_shares leaf few k_is left_is right_is =
        let xs = items_of left in
        let ys = items_of right in
        let n = length xs - 1 in
        let li : items_of left' ≡ take n xs = ap (λ (p : IndexPage). p.items) left_is in
        let ri : items_of right' ≡ drop n xs ++ ys = ap (λ (p : IndexPage). p.items) right_is in
        let long = leaf_long leaf in
        let below : AllBelow xs ys = subst (λ b. AreApart b xs ys key) leaf apart in
        let J : Bool → Type 0 = λ b. joined_items b (index_of left') (index_of right') k ≡ joined_items b (index_of left) (index_of right) (key_in (items_of parent) place) in
        record {
          kind = kind;
          apart = apart_is;
          left_page = left_page';
          right_page = right_page';
          parent_page = parent_page;
          key = k;
          parent_is = parent_is;
          left_is = left_is ∙ ap (λ (t : List Item). with_items (index_of left) t) (sym li);
          right_id = ap (λ (p : IndexPage). p.id) right_is;
          right_leaf = ap (λ (p : IndexPage). p.leaf) right_is;
          right_link = λ e. ap (λ (p : IndexPage). p.link) right_is;
          items = subst J (sym leaf) ((λ z. li z ++ ri z) ∙ last_joined xs ys left_page.items.rising below (omega (arith, few, long)));
          parts = λ e h. subst (λ (q : List Item × List Item × List ℕ). Parts q.0 q.1 q.2) {x = (take n xs, drop n xs ++ ys, key_in xs n)} {y = (items_of left', items_of right', k)} (λ z. (sym li z, sym ri z, sym k_is z))
              (last_parts xs ys left_page.items.rising below (omega (arith, few, long)));
          full = λ l r. (omega (arith, few, long, ap length li, length-take-le n xs (omega arith)), omega (arith, r, few, long, ap length ri, length-append (drop n xs) ys, length-drop n xs));
        }

    pub first_child_shares : (index_of left).leaf ≡ false → length (items_of left) < capacity_of (length left) / 2 → k ≡ key_in (items_of right) 0
        → index_of left' ≡ with_items (index_of left) (items_of left ++ (record { key = key; word = (index_of right).link } ∷ [])) → index_of right' ≡ with_link (with_items (index_of right) (drop 1 (items_of right))) (word_in (items_of right) 0) → Shares parent left right place parent' left' right'
    first_child_shares inner few k_is left_is right_is =
        let xs = items_of left in
        let ys = items_of right in
        let x : Item = record { key = key; word = (index_of right).link } in
        let li : items_of left' ≡ xs ++ (x ∷ []) = ap (λ (p : IndexPage). p.items) left_is in
        let ri : items_of right' ≡ drop 1 ys = ap (λ (p : IndexPage). p.items) right_is in
        let rl : (index_of right').link ≡ word_in ys 0 = ap (λ (p : IndexPage). p.link) right_is in
        let long = inner_long inner in
        let J : Bool → Type 0 = λ b. joined_items b (index_of left') (index_of right') k ≡ joined_items b (index_of left) (index_of right) (key_in (items_of parent) place) in
        record {
          kind = kind;
          apart = apart_is;
          left_page = left_page';
          right_page = right_page';
          parent_page = parent_page;
          key = k;
          parent_is = parent_is;
          left_is = left_is ∙ ap (λ (t : List Item). with_items (index_of left) t) (sym li);
          right_id = ap (λ (p : IndexPage). p.id) right_is;
          right_leaf = ap (λ (p : IndexPage). p.leaf) right_is;
          right_link = λ e. absurd (let z = sym e ∙ inner in cc z);
          items = subst J (sym inner) ((λ z. li z ++ (record { key = k_is z; word = rl z } ∷ ri z)) ∙ first_child_joined xs ys x (omega (arith, few, long)) ∙ ap (λ (q : List ℕ). xs ++ (record { key = q; word = (index_of right).link } ∷ ys)) key_is);
          parts = λ e h. absurd (let z = sym e ∙ inner in cc z);
          full = λ l r. (omega (arith, l, ap length li, length-append xs (x ∷ [])), omega (arith, few, long, ap length ri, length-drop 1 ys));
        }

    pub last_child_shares : (index_of left).leaf ≡ false → length (items_of right) < capacity_of (length left) / 2 → k ≡ key_in (items_of left) (length (items_of left) - 1)
        → index_of left' ≡ with_items (index_of left) (take (length (items_of left) - 1) (items_of left))
        → index_of right' ≡ with_link (with_items (index_of right) (record { key = key; word = (index_of right).link } ∷ items_of right)) (word_in (items_of left) (length (items_of left) - 1)) → Shares parent left right place parent' left' right'
    last_child_shares inner few k_is left_is right_is =
        let xs = items_of left in
        let ys = items_of right in
        let n = length xs - 1 in
        let x : Item = record { key = key; word = (index_of right).link } in
        let li : items_of left' ≡ take n xs = ap (λ (p : IndexPage). p.items) left_is in
        let ri : items_of right' ≡ x ∷ ys = ap (λ (p : IndexPage). p.items) right_is in
        let rl : (index_of right').link ≡ word_in xs n = ap (λ (p : IndexPage). p.link) right_is in
        let long = inner_long inner in
        let J : Bool → Type 0 = λ b. joined_items b (index_of left') (index_of right') k ≡ joined_items b (index_of left) (index_of right) (key_in (items_of parent) place) in
        record {
          kind = kind;
          apart = apart_is;
          left_page = left_page';
          right_page = right_page';
          parent_page = parent_page;
          key = k;
          parent_is = parent_is;
          left_is = left_is ∙ ap (λ (t : List Item). with_items (index_of left) t) (sym li);
          right_id = ap (λ (p : IndexPage). p.id) right_is;
          right_leaf = ap (λ (p : IndexPage). p.leaf) right_is;
          right_link = λ e. absurd (let z = sym e ∙ inner in cc z);
          items = subst J (sym inner) ((λ z. li z ++ (record { key = k_is z; word = rl z } ∷ ri z)) ∙ last_child_joined xs ys x (omega (arith, few, long)) ∙ ap (λ (q : List ℕ). xs ++ (record { key = q; word = (index_of right).link } ∷ ys)) key_is);
          parts = λ e h. absurd (let z = sym e ∙ inner in cc z);
          full = λ l r. (omega (arith, few, long, ap length li, length-take-le n xs (omega arith)), omega (arith, r, ap length ri));
        }
