-- Puts into a leaf that is at hand.
use Rattle.std.proofs.Common.{◌≡◌, ℕ, zero, suc, ◌+◌, ◌-◌, ◌<◌, ◌≤◌, ◌⊎◌, true, List, [], ◌∷◌, ◌++◌, length, take, drop, refl, sym, ap, subst, ◌∙◌, inl, inr, arith}
use Rattle.std.specs.Prelude.{Option, None, Some, IsTrue}
use Rattle.std.specs.List.{insert}
use Rattle.std.proofs.lemmas.List.{take-append-drop, length-take-le, length-drop, get_or-take, get_or-drop}
use Rattle.std.proofs.lemmas.List.Edits.{length-insert, insert-append_left, insert-append_right}
use Rattle.pm_btpage.specs.declared.layout.TheConstants.{LEAF_KIND}
use Rattle.pm_btpage.specs.IndexPages.{Item, IndexPage, key_in, with_item, IsBelow, IsBetween, IsRising}
use Rattle.pm_meta.specs.declared.slots.MetaSlot.TheVariants.{Pages}
use Rattle.pm_pages.specs.Rows.{page_count}
use Rattle.pm_pages.specs.Chains.{times}
use Rattle.pm_pages.specs.Paged.{Paged, AllReadable, IsThere}
use Rattle.pm_pages.specs.Edits.{EditsPages, HasMeta, IsNumberIn}
use Rattle.pm_tree.specs.declared.put.Put.TheVariants.{Kept, Split}
use Rattle.pm_tree.specs.Maps.{get_in, put_in}
use Rattle.pm_tree.specs.Nodes.{nodes_in, nodes_under, IsFrom, IsUpTo, IsTreeIn, Keys}
use Rattle.pm_tree.specs.Puts.{IsSpare, PutsAs, PutsFor}
use Rattle.pm_tree.specs.Edits.{IsNode}
use Rattle.pm_tree.specs.Divisions.{KeepsNumbers, PutsPages}
use Rattle.pm_pages.specs.StoredPages.{KeepsStored}
use Rattle.pm_pages.specs.SpareChains.{MovesSpare}
use Rattle.pm_pages.proofs.SpareRoom.{can_take_after}
use Rattle.pm_tree.proofs.KeyOrder.{below_then, not_below_itself}
use Rattle.pm_pages.proofs.SpareSteps.{moves_page}
use Rattle.pm_tree.proofs.NodeKinds.{node_kind}
use Rattle.pm_tree.proofs.MapLists.{keys_by_index}
use Rattle.pm_pages.proofs.ChainWalks.{times_here}
use Rattle.pm_tree.proofs.LeafPuts.{leaf_puts, leaf_divided}
use Rattle.pm_tree.proofs.Told.{node_away, below_count, link_is, items_are, is_leaf}

-- what changed is what was asked for
pub puts_pages : {G : Type 0} → (T : Type 0) (a c : Paged) (touched : ℕ → Type 0) (m n : ℕ) (made : List ℕ) → m ≤ n → EditsPages T a c touched m → ((j : ℕ) → touched j → IsTrue (c.asked j)) → HasMeta c → KeepsNumbers a c
    → ((j : ℕ) → touched j → IsTrue (c.known j) × IsThere c j) → (T → (j : ℕ) → j < page_count c.pages → (j < page_count a.pages) ⊎ touched j) → (T → MovesSpare a.pages c.pages made []) → length made ≤ n → (T → G → KeepsStored a c n) → PutsPages T a c n G
puts_pages T a c touched m n made le edits asked meta numbers held added moves few pass = record {
  edits = record {
    others = λ j told out. edits.others j told (λ h. out (asked j h));
    known = edits.known;
    asked = edits.asked;
    lent = edits.lent;
    covers = edits.covers;
    covered = edits.covered;
    spare = omega (arith, edits.spare, le);
    same = edits.same;
  };
  meta = meta;
  numbers = numbers;
  takes = λ t limit left can. can_take_after T a c touched m n made t edits held (added t) (moves t) few limit left can;
  passes = pass;
}

-- only a leaf is a tree of one level whose page is a leaf
module _ (T : Type 0) (a c : Paged) (at : ℕ) (key : List ℕ) (word half : ℕ) (t : T) (readable : AllReadable a) (meta : HasMeta a) (some : 1 ≤ at) (below : (n : ℕ) → IsNumberIn a Pages n → at < n)
    (says : IndexPage) (node : IsNode a at says) (leaf : says.leaf ≡ true) (numbers : KeepsNumbers a c) where
  at_count : at < page_count a.pages
  at_count = below_count a at meta below

  at_leaf : (nodes_in a.pages at).kind ≡ LEAF_KIND
  at_leaf = is_leaf a at says at_count node leaf

  at_items : (nodes_in a.pages at).items ≡ says.items
  at_items = items_are a at says at_count node

  module _ (m : ℕ) (edits : EditsPages T a c (λ j. j ≡ at) m) (now : IndexPage) (node' : IsNode c at now) (leaf' : now.leaf ≡ true) (link : now.link ≡ says.link) (items : now.items ≡ put_in says.items key word) (was : Option ℕ) (was_is : was ≡ get_in says.items key) (below' : at < page_count c.pages) where
    pub leaf_kept : (limit : ℕ) → PutsFor a.pages c.pages half limit at key word (Kept was)
    leaf_kept limit = record { each = step }
      where
        step : (levels : ℕ) → levels < limit → (least : ℕ) → IsTreeIn (nodes_in a.pages) levels least at → ((j : ℕ) → times j (nodes_under (nodes_in a.pages) levels at) ≤ 1) → PutsAs a.pages c.pages half levels least at key word (Kept was)
        step zero few least tree once = (
          was_is ∙ ap (λ (xs : List Item). get_in xs key) (sym at_items),
          record {
            made = [];
            puts = leaf_puts (nodes_in a.pages) (nodes_in c.pages) least at key word tree (is_leaf c at now below' node' leaf') (link_is c at now below' node' ∙ link ∙ sym (link_is a at says at_count node))
                (items_are c at now below' node' ∙ items ∙ ap (λ (xs : List Item). put_in xs key word) (sym at_items))
                (λ j ne used. node_away T a c (λ j. j ≡ at) m t readable meta edits numbers j (λ e. absurd (ne e)) used);
            others = λ j not_zero none made. edits.others j (inl t) (λ e. omega (arith, none, times_here at [], ap (λ i. times i (at ∷ [])) e));
            moves = moves_page T a c at m t some edits (node_kind a at says node) (node_kind c at now node');
          },
        )
        step (suc levels) few least tree once = absurd (omega (arith, at_leaf, tree.0.kind_is))

  module _ (right : ℕ) (edits : EditsPages T a c (λ j. (j ≡ 0) ⊎ (j ≡ right) ⊎ (j ≡ at)) 1) (left_now right_now : IndexPage) (left_is : IsNode c at left_now) (right_is : IsNode c right right_now)
      (left_leaf : left_now.leaf ≡ true) (left_link : left_now.link ≡ right) (right_leaf : right_now.leaf ≡ true) (right_link : right_now.link ≡ says.link)
      (whole : left_now.items ++ right_now.items ≡ put_in says.items key word) (none_is : get_in says.items key ≡ None)
      (full : half ≤ length left_now.items) (full_right : half ≤ length right_now.items) (m : List ℕ) (upto : Keys (IsUpTo (Some m)) left_now.items) (from : Keys (IsFrom (Some m)) right_now.items)
      (spare : IsSpare (nodes_in a.pages right)) (moves : MovesSpare a.pages c.pages (right ∷ []) []) (below' : at < page_count c.pages) (below_right : right < page_count c.pages) where
    pub leaf_parted : (limit : ℕ) → PutsFor a.pages c.pages half limit at key word (Split (record { from = m; right = right; levels = 0 }))
    leaf_parted limit = record { each = step }
      where
        step : (levels : ℕ) → levels < limit → (least : ℕ) → IsTreeIn (nodes_in a.pages) levels least at → ((j : ℕ) → times j (nodes_under (nodes_in a.pages) levels at) ≤ 1) → PutsAs a.pages c.pages half levels least at key word (Split (record { from = m; right = right; levels = 0 }))
        step zero few least tree once = (
          ap (λ (xs : List Item). get_in xs key) at_items ∙ none_is,
          refl,
          record {
            made = right ∷ [];
            puts = leaf_divided (nodes_in a.pages) (nodes_in c.pages) least half at right key word m left_now.items right_now.items tree spare (whole ∙ ap (λ (xs : List Item). put_in xs key word) (sym at_items))
                (is_leaf c at left_now below' left_is left_leaf) (link_is c at left_now below' left_is ∙ left_link) (items_are c at left_now below' left_is)
                (is_leaf c right right_now below_right right_is right_leaf) (link_is c right right_now below_right right_is ∙ right_link ∙ sym (link_is a at says at_count node)) (items_are c right right_now below_right right_is)
                full full_right upto from
                (λ j ne ne_right used. node_away T a c (λ j. (j ≡ 0) ⊎ (j ≡ right) ⊎ (j ≡ at)) 1 t readable meta edits numbers j (λ h. elim h [ inl e ↦ e | inr h2 ↦ elim h2 [ inl e ↦ absurd (ne_right e) | inr e ↦ absurd (ne e) ] ]) used);
            others = λ j not_zero none made. edits.others j (inl t) (λ h. elim h [
              | inl e ↦ not_zero e
              | inr h2 ↦ elim h2 [
                | inl e ↦ omega (arith, made, times_here right [], ap (λ i. times i (right ∷ [])) e)
                | inr e ↦ omega (arith, none, times_here at [], ap (λ i. times i (at ∷ [])) e)
              ]
            ]);
            moves = moves;
          },
        )
        step (suc levels) few least tree once = absurd (omega (arith, at_leaf, tree.0.kind_is))

-- the items of a full leaf, divided at the middle
module _ (items : List Item) (cut : ℕ) (lt : cut < length items) (rising : IsRising items) where
  upto_cut : Keys (IsUpTo (Some (key_in items cut))) (take cut items)
  upto_cut = keys_by_index (IsUpTo (Some (key_in items cut))) (take cut items) (λ j h.
      let le : j < cut = omega (arith, h, length-take-le cut items (omega (arith, lt))) in
      subst (λ k. IsBelow k (key_in items cut)) (sym (ap (λ (x : Item). x.key) (get_or-take cut items j (record { key = []; word = 0 }) le))) (rising j cut le lt))

  from_cut : Keys (IsFrom (Some (key_in items cut))) (drop cut items)
  from_cut = keys_by_index (IsFrom (Some (key_in items cut))) (drop cut items) (λ j h.
      let le : cut + j < length items = omega (arith, h, length-drop cut items) in
      subst (λ k. IsBelow k (key_in items cut) → ⊥) (sym (ap (λ (x : Item). x.key) (get_or-drop cut items j (record { key = []; word = 0 })))) (not_below j le))
    where
      not_below : (j : ℕ) → cut + j < length items → IsBelow (key_in items (cut + j)) (key_in items cut) → ⊥
      not_below zero le below = (let e : cut + 0 ≡ cut = omega arith in not_below_itself (key_in items cut) (subst (λ n. IsBelow (key_in items n) (key_in items cut)) e below))
      not_below (suc j) le below = not_below_itself (key_in items cut) (below_then (key_in items cut) (key_in items (cut + suc j)) (key_in items cut) (rising cut (cut + suc j) (omega arith) le) below)

keys_with : (P : List ℕ → Type 0) (xs : List Item) (i : ℕ) (x : Item) → P x.key → Keys P xs → Keys P (with_item xs i x)
keys_with P xs zero x here each = (here, each)
keys_with P [] (suc i) x here each = (here, tt)
keys_with P (y ∷ xs) (suc i) x here each = (each.0, keys_with P xs i x here each.1)

-- the item stands before the cut
pub record Halves (items : List Item) (i cut : ℕ) (x : Item) (left right : List Item) : Type 0 where
  pub whole : left ++ right ≡ with_item items i x
  pub upto : Keys (IsUpTo (Some (key_in items cut))) left
  pub from : Keys (IsFrom (Some (key_in items cut))) right
  pub left_len : cut ≤ length left
  pub right_len : length left + length right ≡ length items + 1
  pub left_high : length left ≤ cut + 1

pub left_half : (items : List Item) (i cut : ℕ) (x : Item) → cut < length items → IsRising items → IsBetween items x.key i → i ≤ cut → Halves items i cut x (with_item (take cut items) i x) (drop cut items)
left_half items i cut x lt rising between le =
    let long : length (take cut items) ≡ cut = length-take-le cut items (omega (arith, lt)) in
    let more = length-insert (take cut items) i x (omega (arith, le, long)) in
    record {
      whole = sym (insert-append_left (take cut items) (drop cut items) i x (omega (arith, le, long))) ∙ ap (λ (t : List Item). insert t i x) (take-append-drop cut items);
      upto = keys_with (IsUpTo (Some (key_in items cut))) (take cut items) i x (between.above cut le lt) (upto_cut items cut lt rising);
      from = from_cut items cut lt rising;
      left_len = omega (arith, more, long);
      right_len = omega (arith, more, long, length-drop cut items, lt);
      left_high = omega (arith, more, long);
    }

pub right_half : (items : List Item) (i cut : ℕ) (x : Item) → cut < length items → IsRising items → IsBetween items x.key i → cut < i → Halves items i cut x (take cut items) (with_item (drop cut items) (i - cut) x)
right_half items i cut x lt rising between after =
    let long : length (take cut items) ≡ cut = length-take-le cut items (omega (arith, lt)) in
    let fits : i - cut ≤ length (drop cut items) = omega (arith, length-drop cut items, between.in_range) in
    let more = length-insert (drop cut items) (i - cut) x fits in
    record {
      whole = sym (insert-append_right (take cut items) (drop cut items) cut i x long (omega (arith, after))) ∙ ap (λ (t : List Item). insert t i x) (take-append-drop cut items);
      upto = upto_cut items cut lt rising;
      from = keys_with (IsFrom (Some (key_in items cut))) (drop cut items) (i - cut) x (λ b. not_below_itself x.key (below_then x.key (key_in items cut) x.key b (between.below cut after))) (from_cut items cut lt rising);
      left_len = omega (arith, long);
      right_len = omega (arith, more, long, length-drop cut items, lt);
      left_high = omega (arith, long);
    }
