-- A put into the index of a cache.
use Rattle.std.proofs.Common.{◌≡◌, ◌≢◌, ℕ, zero, suc, ◌+◌, ◌^◌, ◌<◌, ◌≤◌, ◌⊎◌, List, [], ◌∷◌, map, length, refl, sym, ap, subst, ◌∙◌, inl, inr, arith}
use Rattle.std.specs.Prelude.{Option, None, Some, IsTrue, Result}
use Rattle.std.specs.Option.{option_map}
use Rattle.std.proofs.lemmas.Bool.{cases_lt}
use Rattle.pm_types.specs.Ids.{page_id}
use Rattle.pm_types.specs.declared.limits.TheConstants.{CACHES}
use Rattle.pm_types.specs.declared.page_id.PageId.{PageId}
use Rattle.pm_types.specs.declared.page_id.Link.{Link}
use Rattle.pm_types.specs.declared.fault.PageFault.{PageFault}
use Rattle.pm_btpage.specs.IndexPages.{Item, with_items}
use Rattle.pm_meta.specs.declared.slots.MetaSlot.{MetaSlot}
use Rattle.pm_meta.specs.declared.slots.MetaSlot.TheVariants.{Root, Reuse, Pages}
use Rattle.pm_meta.specs.MetaPages.{field_of, IsSlot}
use Rattle.pm_pages.specs.Rows.{Partition, number_in, page_count}
use Rattle.pm_pages.specs.Chains.{times}
use Rattle.pm_pages.specs.Trees.{root_of, AreLinked, first_of, leaves_below, nodes_below}
use Rattle.pm_pages.specs.Paged.{Paged, AllReadable, IsThere}
use Rattle.pm_pages.specs.Edits.{LooksAtPages, HasMeta, IsNumberIn}
use Rattle.pm_pages.proofs.EditedPages.{some_bytes, edits_then, edits_more}
use Rattle.pm_tree.specs.declared.put.Part.{Part}
use Rattle.pm_tree.specs.declared.put.Put.TheVariants.{Kept, Split}
use Rattle.pm_tree.specs.Maps.{get_in, put_in}
use Rattle.pm_tree.specs.Nodes.{entry, entries, first_entry, nodes_in, items_under, leaves_under, nodes_under, IsTreeIn, first_or, AreLinkedTo}
use Rattle.pm_tree.specs.Puts.{row, IsSpare, PutsFor, half_of}
use Rattle.pm_tree.specs.Edits.{blank}
use Rattle.pm_tree.specs.Indexes.{IsTreeAt, IsIndex, as_link, link_in}
use Rattle.pm_tree.specs.Divisions.{KeepsNumbers, PutsPages}
use Rattle.pm_tree.specs.Roots.{KeepsButRoot, MakesRoot, MakesTop, PutsIndex, PutsRootPages, HasGrowCause, HasTreePutCause}
use Rattle.pm_tree.specs.PutCauses.{HasPutCause}
use Rattle.pm_pages.specs.SpareChains.{MovesSpare}
use Rattle.pm_tree.proofs.Climbs.{changes_looked, fault_after}
use Rattle.pm_pages.proofs.SpareMoves.{moves_then}
use Rattle.pm_tree.proofs.Decoded.{leaves_same, nodes_same, items_same, tree_to, tree_from}
use Rattle.pm_pages.proofs.ChainWalks.{times-append, times_here}
use Rattle.pm_tree.proofs.Frames.{used}
use Rattle.pm_pages.specs.SoundPages.{CanTake}
use Rattle.pm_pages.proofs.SpareRoom.{can_take_less, can_take_after, can_take_looked}
use Rattle.pm_tree.proofs.LeafChanges.{held_node}
use Rattle.pm_btpage.specs.Stored.{IsLink}
use Rattle.pm_tree.proofs.StoredNodes.{IsStoredNode, stored_root}
use Rattle.pm_pages.proofs.StoredPages.{stored_looked}
use Rattle.pm_tree.proofs.LeafPuts.{PutsRoot, root_kept, root_grown, root_planted}
use Rattle.pm_tree.proofs.Told.{node_away_count, below_count, link_is, items_are, half_is, is_leaf, is_inner}
use Rattle.pm_pages.proofs.ToldPages.{number_told}

pub linked_to : (pages : Partition) (leaves : List ℕ) → AreLinked pages leaves → AreLinkedTo (nodes_in pages) leaves 0
linked_to pages [] linked = tt
linked_to pages (leaf ∷ leaves) linked = (linked.0 ∙ first_is leaves, linked_to pages leaves linked.1)
  where
    first_is : (leaves : List ℕ) → first_of leaves ≡ first_or leaves 0
    first_is [] = refl
    first_is (i ∷ is) = refl

pub linked_from : (pages : Partition) (leaves : List ℕ) → AreLinkedTo (nodes_in pages) leaves 0 → AreLinked pages leaves
linked_from pages [] linked = tt
linked_from pages (leaf ∷ leaves) linked = (linked.0 ∙ first_is leaves, linked_from pages leaves linked.1)
  where
    first_is : (leaves : List ℕ) → first_or leaves 0 ≡ first_of leaves
    first_is [] = refl
    first_is (i ∷ is) = refl

-- a number of the meta page that is at hand
pub number_there : (p : Paged) (slot : MetaSlot) → HasMeta p → (n : ℕ) × IsNumberIn p slot n
number_there p slot meta = (let m = some_bytes (p.pages 0) meta.there in (field_of m.0 slot, record { meta = m.0; in_hand = record { known = meta.known; asked = meta.asked; page = m.1 }; is = refl }))

-- numbers that are kept, as the store reports them
pub numbers_told : (a c : Paged) (cache : ℕ) → HasMeta a → KeepsButRoot a c cache → (slot : MetaSlot) → IsSlot slot → slot ≢ Reuse → slot ≢ Pages → slot ≢ Root cache → number_in c.pages slot ≡ number_in a.pages slot
numbers_told a c cache meta keeps slot is_slot r p not_root =
    let n = number_there a slot meta in
    number_told c slot n.0 (keeps.others slot is_slot r p not_root n.0 n.1) ∙ sym (number_told a slot n.0 n.1)

pub count_told : (a c : Paged) (cache : ℕ) → HasMeta a → KeepsButRoot a c cache → page_count a.pages ≤ page_count c.pages
count_told a c cache meta keeps = (let n = number_there a Pages meta in let m = keeps.count n.0 n.1 in omega (arith, number_told a Pages n.0 n.1, number_told c Pages m.0 m.1, m.2))

pub keeps_but_root : (a c : Paged) (cache : ℕ) → KeepsNumbers a c → KeepsButRoot a c cache
keeps_but_root a c cache keeps = record { count = keeps.count; others = λ slot is_slot r p not_root n is. keeps.others slot is_slot r p n is }

pub but_root_then : (a b c : Paged) (cache : ℕ) → KeepsNumbers a b → KeepsButRoot b c cache → KeepsButRoot a c cache
but_root_then a b c cache x y = record {
  count = λ n is. (let p = x.count n is in let q = y.count p.0 p.1 in (q.0, q.1, omega (arith, p.2, q.2)));
  others = λ slot is_slot r p not_root n is. y.others slot is_slot r p not_root n (x.others slot is_slot r p n is);
}

-- The index once its root is that of a put.
module _ (a c : Paged) (cache : ℕ) (made nodes : List ℕ) (items : List Item) (levels root : ℕ) (key : List ℕ) (word : ℕ) (put : PutsRoot (nodes_in a.pages) (nodes_in c.pages) made nodes items levels root key word) (some : root ≢ 0) (few : levels < 8) (is_root : root_of c.pages cache ≡ root)
    (once : (j : ℕ) → times j nodes ≤ 1) (used_there : (j : ℕ) → 1 ≤ times j nodes → IsSpare (nodes_in a.pages j) → ⊥) where
  counts : (j : ℕ) → times j (nodes_below c.pages levels root) ≡ times j nodes + times j made
  counts j = ap (λ u. times j u) (sym (nodes_same c.pages levels root)) ∙ put.nodes_are j

  once_now : (j : ℕ) → times j (nodes_below c.pages levels root) ≤ 1
  once_now j = elim (cases_lt 0 (times j made)) [
    | inl h ↦ elim (cases_lt 0 (times j nodes)) [
      | inl h2 ↦ absurd (used_there j (omega (arith, h2)) (put.spare j (omega (arith, h))))
      | inr none ↦ omega (arith, counts j, none, put.once j)
    ]
    | inr none ↦ omega (arith, counts j, none, once j)
  ]

  index_at : IsTreeAt c.pages root levels (nodes_below c.pages levels root) (put_in items key word)
  index_at = record {
    some = some;
    few = few;
    tree = tree_from c.pages levels 1 root put.tree;
    linked = subst (AreLinked c.pages) (leaves_same c.pages levels root) (linked_from c.pages (leaves_under (nodes_in c.pages) levels root) put.linked);
    nodes_are = refl;
    items_are = sym put.items_are ∙ items_same c.pages levels root;
    once = once_now;
  }

  pub puts_index : (was : Option Link) → was ≡ link_in items key → ((j : ℕ) → j ≢ 0 → times j nodes ≡ 0 → times j made ≡ 0 → c.pages j ≡ a.pages j) → MovesSpare a.pages c.pages made [] → HasMeta a → KeepsButRoot a c cache → PutsIndex a.pages c.pages cache nodes items key word was
  puts_index was was_is others moves meta keeps = record {
    was_is = was_is;
    height = suc levels;
    nodes_now = nodes_below c.pages levels root;
    index = subst (λ r. IsIndex c.pages r (suc levels) (nodes_below c.pages levels root) (put_in items key word)) (sym is_root) index_at;
    made = made;
    counted = counts;
    made_once = put.once;
    spare = put.spare;
    others = others;
    numbers = numbers_told a c cache meta keeps;
    moves = moves;
  }

-- a first leaf
pub plants_index : (T : Type 0) (a c : Paged) (cache : ℕ) (key : List ℕ) (word : ℕ) → T → AllReadable a → HasMeta a → MakesRoot T a c cache None key word → (height : ℕ) (nodes : List ℕ) (items : List Item) → IsIndex a.pages 0 height nodes items → PutsIndex a.pages c.pages cache nodes items key word None
plants_index T a c cache key word t readable meta makes (suc levels) nodes items index = absurd (index.some refl)
plants_index T a c cache key word t readable meta makes zero nodes items index =
    let top = makes.top in
    let top_in : top < page_count c.pages = below_count c top makes.meta makes.below in
    let says = with_items (blank (page_id a.part top) None) (record { key = key; word = word } ∷ []) in
    let put : PutsRoot (nodes_in a.pages) (nodes_in c.pages) (top ∷ []) [] [] zero top key word =
    root_planted (nodes_in a.pages) (nodes_in c.pages) top key word (makes.spare t) (is_leaf c top says top_in makes.node refl) (link_is c top says top_in makes.node) (items_are c top says top_in makes.node) in
    subst (λ (q : List ℕ × List Item). PutsIndex a.pages c.pages cache q.0 q.1 key word None) {x = ([], [])} {y = (nodes, items)} (λ z. (sym index.1 z, sym index.2 z))
    (puts_index a c cache (top ∷ []) [] [] zero top key word put (λ e. omega (arith, e, makes.some)) (omega arith) (number_told c (Root cache) top makes.root) (λ j. omega arith) (λ j h. absurd (omega (arith, h))) None refl
    (λ j not_zero none made. makes.edits.others j (inl t) (λ h. elim h [ inl e ↦ not_zero e | inr e ↦ omega (arith, made, times_here top [], ap (λ i. times i (top ∷ [])) e) ])) (makes.moves t) meta makes.numbers)

-- A put below a root.
module _ (T : Type 0) (a b : Paged) (cache root : ℕ) (key : List ℕ) (word m : ℕ) (t : T) (meta : HasMeta a) (in_caches : cache < CACHES) (is_root : IsNumberIn a (Root cache) root) (some : root ≢ 0) {G : Type 0} (changes : PutsPages T a b m G)
    (levels : ℕ) (nodes : List ℕ) (items : List Item) (index : IsTreeAt a.pages root levels nodes items) where
  tree_a : IsTreeIn (nodes_in a.pages) levels 1 root
  tree_a = tree_to a.pages levels 1 root index.tree

  nodes_a : nodes ≡ nodes_under (nodes_in a.pages) levels root
  nodes_a = index.nodes_are ∙ sym (nodes_same a.pages levels root)

  items_a : items ≡ items_under (nodes_in a.pages) levels root
  items_a = index.items_are ∙ sym (items_same a.pages levels root)

  linked_a : AreLinkedTo (nodes_in a.pages) (leaves_under (nodes_in a.pages) levels root) 0
  linked_a = subst (λ ls. AreLinkedTo (nodes_in a.pages) ls 0) (sym (leaves_same a.pages levels root)) (linked_to a.pages (leaves_below a.pages levels root) index.linked)

  once_a : (j : ℕ) → times j (nodes_under (nodes_in a.pages) levels root) ≤ 1
  once_a j = subst (λ u. times j u ≤ 1) nodes_a (index.once j)

  used_a : (j : ℕ) → 1 ≤ times j nodes → IsSpare (nodes_in a.pages j) → ⊥
  used_a j h = used (nodes_in a.pages) levels 1 root j tree_a (subst (λ u. 1 ≤ times j u) nodes_a h)

  to_given : (made : List ℕ) (levels' root' : ℕ) (c : Paged) → PutsRoot (nodes_in a.pages) (nodes_in c.pages) made (nodes_under (nodes_in a.pages) levels root) (items_under (nodes_in a.pages) levels root) levels' root' key word → PutsRoot (nodes_in a.pages) (nodes_in c.pages) made nodes items levels' root' key word
  to_given made levels' root' c put = subst (λ (q : List ℕ × List Item). PutsRoot (nodes_in a.pages) (nodes_in c.pages) made q.0 q.1 levels' root' key word) {x = (nodes_under (nodes_in a.pages) levels root, items_under (nodes_in a.pages) levels root)} {y = (nodes, items)} (λ z. (sym nodes_a z, sym items_a z)) put

  pub keeps_index : (was : Option ℕ) → PutsFor a.pages b.pages (half_of a.page_size) 8 root key word (Kept was) → PutsIndex a.pages b.pages cache nodes items key word (option_map as_link was)
  keeps_index was puts =
      let p = puts.each levels index.few 1 tree_a once_a in
      let put = to_given p.1.made levels root b (root_kept (nodes_in a.pages) (nodes_in b.pages) p.1.made levels root key word linked_a p.1.puts) in
      puts_index a b cache p.1.made nodes items levels root key word put some index.few (number_told b (Root cache) root (changes.numbers.others (Root cache) in_caches (λ e. cc e) (λ e. cc e) root is_root)) index.once used_a
      (option_map as_link was) (ap (λ o. option_map as_link o) (p.0 ∙ ap (λ (xs : List Item). get_in xs key) (sym items_a)))
      (λ j not_zero none made. p.1.others j not_zero (subst (λ u. times j u ≡ 0) nodes_a none) made) p.1.moves meta (keeps_but_root a b cache changes.numbers)

  pub grows_index : (c : Paged) (part : Part) → AllReadable b → PutsFor a.pages b.pages (half_of a.page_size) 8 root key word (Split part) → part.levels < 7 → MakesTop T b c cache root part → PutsIndex a.pages c.pages cache nodes items key word None
  grows_index c part readable puts few makes_top =
      let p = puts.each levels index.few 1 tree_a once_a in
      let makes = makes_top.makes in
      let top = makes.top in
      let top_in : top < page_count c.pages = below_count c top makes.meta makes.below in
      let says = with_items (blank (page_id b.part top) (Some makes_top.lower)) (record { key = part.from; word = makes_top.upper.0 } ∷ []) in
      let half_here : half_of c.page_size ≡ half_of a.page_size = ap half_of (makes.edits.same.page_size ∙ changes.edits.same.page_size) in
      let rows : entries (nodes_in c.pages top) ≡ row root (record { from = Some part.from; child = part.right } ∷ []) =
      (λ z. first_entry (link_is c top says top_in makes.node z) ∷ map entry (items_are c top says top_in makes.node z))
      ∙ (λ z. record { from = None; child = makes_top.lower_is z } ∷ record { from = Some part.from; child = makes_top.upper_is z } ∷ []) in
      let put = to_given (top ∷ p.2.made) (suc levels) top c (root_grown (nodes_in a.pages) (nodes_in b.pages) (nodes_in c.pages) p.2.made levels 1 (half_of a.page_size) root top key word (record { from = Some part.from; child = part.right }) tree_a linked_a p.2.puts
      (makes.spare t) (is_inner c top says top_in makes.node refl) (half_is c top says top_in makes.node ∙ half_here) (omega (arith, ap length (items_are c top says top_in makes.node))) rows
      (λ j ne not_spare. node_away_root j ne not_spare)) in
      puts_index a c cache (top ∷ p.2.made) nodes items (suc levels) top key word put (λ e. omega (arith, e, makes.some)) (omega (arith, few, p.1)) (number_told c (Root cache) top makes.root) index.once used_a
      None (ap (λ o. option_map as_link o) (sym p.0 ∙ ap (λ (xs : List Item). get_in xs key) (sym items_a)))
      (λ j not_zero none made. makes.edits.others j (inl t) (λ h. elim h [ inl e ↦ not_zero e | inr e ↦ omega (arith, made, times_here top p.2.made, ap (λ i. times i (top ∷ p.2.made)) e) ])
      ∙ p.2.others j not_zero (subst (λ u. times j u ≡ 0) nodes_a none) (omega (arith, made, times-append j (top ∷ []) p.2.made)))
      (moves_then a.pages b.pages c.pages p.2.made (top ∷ []) [] [] p.2.moves (makes.moves t)) meta (but_root_then a b c cache changes.numbers makes.numbers)
    where
      node_away_root : (j : ℕ) → j ≢ makes_top.makes.top → (IsSpare (nodes_in b.pages j) → ⊥) → nodes_in c.pages j ≡ nodes_in b.pages j
      node_away_root j ne not_spare = node_away_count T b c (λ j. (j ≡ 0) ⊎ (j ≡ makes_top.makes.top)) 1 t readable changes.meta makes_top.makes.edits (count_told b c cache changes.meta makes_top.makes.numbers) j (λ h. elim h [ inl e ↦ e | inr e ↦ absurd (ne e) ]) not_spare

-- whatever height the index has
pub keeps_height : {G : Type 0} → (T : Type 0) (a b : Paged) (cache root : ℕ) (key : List ℕ) (word m : ℕ) → T → HasMeta a → cache < CACHES → IsNumberIn a (Root cache) root → root ≢ 0 → PutsPages T a b m G → (was : Option ℕ) → PutsFor a.pages b.pages (half_of a.page_size) 8 root key word (Kept was)
    → (height : ℕ) (nodes : List ℕ) (items : List Item) → IsIndex a.pages root height nodes items → PutsIndex a.pages b.pages cache nodes items key word (option_map as_link was)
keeps_height T a b cache root key word m t meta in_caches is_root some changes was puts zero nodes items index = absurd (some index.0)
keeps_height T a b cache root key word m t meta in_caches is_root some changes was puts (suc levels) nodes items index = keeps_index T a b cache root key word m t meta in_caches is_root some changes levels nodes items index was puts

pub grows_height : {G : Type 0} → (T : Type 0) (a b c : Paged) (cache root : ℕ) (key : List ℕ) (word m : ℕ) → T → HasMeta a → cache < CACHES → IsNumberIn a (Root cache) root → root ≢ 0 → PutsPages T a b m G → (part : Part) → AllReadable b → PutsFor a.pages b.pages (half_of a.page_size) 8 root key word (Split part) → part.levels < 7 → MakesTop T b c cache root part
    → (height : ℕ) (nodes : List ℕ) (items : List Item) → IsIndex a.pages root height nodes items → PutsIndex a.pages c.pages cache nodes items key word None
grows_height T a b c cache root key word m t meta in_caches is_root some changes part readable puts few makes zero nodes items index = absurd (some index.0)
grows_height T a b c cache root key word m t meta in_caches is_root some changes part readable puts few makes (suc levels) nodes items index = grows_index T a b cache root key word m t meta in_caches is_root some changes levels nodes items index c part readable puts few makes

-- a tree whose root was divided and can have no root above has all its levels
pub tall_height : (a b : Paged) (root : ℕ) (key : List ℕ) (word : ℕ) (part : Part) → root ≢ 0 → PutsFor a.pages b.pages (half_of a.page_size) 8 root key word (Split part) → 8 ≤ part.levels + 1 → (height : ℕ) (nodes : List ℕ) (items : List Item) → IsIndex a.pages root height nodes items → height ≡ 8
tall_height a b root key word part some puts many zero nodes items index = absurd (some index.0)
tall_height a b root key word part some puts many (suc levels) nodes items index =
    let once : (j : ℕ) → times j (nodes_under (nodes_in a.pages) levels root) ≤ 1 = λ j. subst (λ u. times j u ≤ 1) (index.nodes_are ∙ sym (nodes_same a.pages levels root)) (index.once j) in
    let p = puts.each levels index.few 1 (tree_to a.pages levels 1 root index.tree) once in
    omega (arith, p.1, many, index.few)

-- what can be taken still once there is a new root
pub can_take_root : (T : Type 0) (a c : Paged) (cache : ℕ) (first : Option PageId) (key : List ℕ) (word : ℕ) → T → MakesRoot T a c cache first key word → (limit left : ℕ) → CanTake limit a (1 + left) → CanTake limit c left
can_take_root T a c cache first key word t makes limit left can =
    can_take_after T a c (λ j. (j ≡ 0) ⊎ (j ≡ makes.top)) 1 1 (makes.top ∷ []) t makes.edits
    (λ j h. elim h [
      | inl e ↦ subst (λ n. IsTrue (c.known n) × IsThere c n) (sym e) (makes.meta.known, makes.meta.there)
      | inr e ↦ subst (λ n. IsTrue (c.known n) × IsThere c n) (sym e) (held_node c makes.top _ makes.node)
    ])
    (λ j lt. elim (makes.added t j lt) [ inl old ↦ inl old | inr e ↦ inr (inr e) ]) (makes.moves t) (omega arith) limit left can

-- what was changed, with a new root
pub changes_root : {X G : Type 0} → (T : Type 0) (a b c : Paged) (cache m n : ℕ) (first : Option PageId) (key : List ℕ) (word : ℕ) → m + 1 ≤ n → (G → X) → PutsPages T a b m X → (makes : MakesRoot T b c cache first key word)
    → (G → b.part < 2 ^ 16 → IsStoredNode b.part makes.top (with_items (blank (page_id b.part makes.top) first) (record { key = key; word = word } ∷ []))) → PutsRootPages T a c cache n G
changes_root T a b c cache m n first key word le gx x makes node = record {
  edits = edits_more T a c (λ j. IsTrue (b.asked j) ⊎ ((j ≡ 0) ⊎ (j ≡ makes.top))) (λ j. IsTrue (c.asked j)) (m + 1) n
      (λ j h. elim h [ inl z ↦ makes.edits.asked j z | inr h2 ↦ elim h2 [ inl e ↦ subst (λ i. IsTrue (c.asked i)) (sym e) makes.meta.asked | inr e ↦ subst (λ i. IsTrue (c.asked i)) (sym e) makes.node.in_hand.asked ] ]) le
      (edits_then T a b c (λ j. IsTrue (b.asked j)) (λ j. (j ≡ 0) ⊎ (j ≡ makes.top)) m 1 x.edits makes.edits);
  meta = makes.meta;
  numbers = but_root_then a b c cache x.numbers makes.numbers;
  takes = λ t limit left can. can_take_root T b c cache first key word t makes limit left (x.takes t limit (1 + left) (can_take_less limit a (n + left) (m + (1 + left)) (omega (arith, le)) can));
  passes = λ t g limit small can stored.
      let stored_b = x.passes t (gx g) limit small (can_take_less limit a n m (omega (arith, le)) can) stored in
      let can_b = x.takes t limit 1 (can_take_less limit a n (m + 1) le can) in
      stored_root T b c makes.top 1 limit _ t makes.some makes.node makes.edits (makes.meta_passes t) (makes.added t) (node g stored_b.part) (omega (arith, small, x.edits.same.max_rows)) can_b stored_b;
}

pub changes_same_root : {G : Type 0} → (T : Type 0) (a b : Paged) (cache m n : ℕ) → m ≤ n → PutsPages T a b m G → PutsRootPages T a b cache n G
changes_same_root T a b cache m n le x = record { edits = edits_more T a b (λ j. IsTrue (b.asked j)) (λ j. IsTrue (b.asked j)) m n (λ j h. h) le x.edits; meta = x.meta; numbers = keeps_but_root a b cache x.numbers; takes = λ t limit left can. x.takes t limit left (can_take_less limit a (n + left) (m + left) (omega (arith, le)) can); passes = λ t g limit small can stored. x.passes t g limit small (can_take_less limit a n m le can) stored }

-- after pages were looked at
pub root_changes_looked : (T : Type 0) (a b c : Paged) (cache n word : ℕ) → HasMeta a → LooksAtPages T a b 0 → PutsRootPages T b c cache n (IsLink b.part word) → PutsRootPages T a c cache n (IsLink a.part word)
root_changes_looked T a b c cache n word meta looks x =
    let y = changes_looked {G = Unit {0}} T a b 0 meta looks in
    record {
      edits = edits_more T a c (λ j. IsTrue (b.asked j) ⊎ IsTrue (c.asked j)) (λ j. IsTrue (c.asked j)) (0 + n) n (λ j h. elim h [ inl z ↦ x.edits.asked j z | inr z ↦ z ]) (omega arith)
          (edits_then T a b c (λ j. IsTrue (b.asked j)) (λ j. IsTrue (c.asked j)) 0 n y.edits x.edits);
      meta = x.meta;
      numbers = but_root_then a b c cache y.numbers x.numbers;
      takes = λ t limit left can. x.takes t limit left (can_take_looked T a b 0 t looks limit (n + left) can);
      passes = λ t g limit small can stored. x.passes t (subst (λ i. IsLink i word) (sym looks.same.part) g) limit (omega (arith, small, looks.same.max_rows)) (can_take_looked T a b 0 t looks limit n can) (stored_looked T a b 0 t looks stored);
    }

pub tree_cause : {R : Type 0} (T : Type 0) (a d : Paged) (cache : ℕ) (r : Result R PageFault) → HasPutCause T a d cache r → HasTreePutCause T a d cache r
tree_cause T a d cache r cause = record { failed = cause.failed; bad = λ id e. inl (cause.bad id e) }

pub tree_cause_looked : {R : Type 0} (T : Type 0) (a b d : Paged) (cache : ℕ) (r : Result R PageFault) → HasMeta a → LooksAtPages T a b 0 → HasTreePutCause T b d cache r → HasTreePutCause T a d cache r
tree_cause_looked T a b d cache r meta looks cause = record {
  failed = λ e. omega (arith, cause.failed e, looks.same.faults);
  bad = λ id e. elim (cause.bad id e) [
    | inl f ↦ (let ch = changes_looked {G = Unit {0}} T a b 0 meta looks in inl (fault_after T a b d cache id 0 ch.edits f))
    | inr tall ↦ inr (record {
      root = tall.root;
      name = tall.name ∙ ap (λ n. page_id n tall.root) looks.same.part;
      is_root = record { meta = tall.is_root.meta; in_hand = record { known = meta.known; asked = meta.asked; page = sym (looks.pages 0 (inr meta.known)) ∙ tall.is_root.in_hand.page }; is = tall.is_root.is };
      tall = λ t height nodes items index. tall.tall t height nodes items (subst (λ (q : Partition). IsIndex q tall.root height nodes items) (λ k j. sym (looks.pages j (inl t)) k) index);
    })
  ];
}

-- why no root was made above one that was divided
pub grow_cause : {R G : Type 0} → (T : Type 0) (a b c : Paged) (cache root : ℕ) (key : List ℕ) (word m : ℕ) (part : Part) (r : Result R PageFault) → IsNumberIn a (Root cache) root → root ≢ 0 → PutsPages T a b m G → (T → PutsFor a.pages b.pages (half_of a.page_size) 8 root key word (Split part)) → HasGrowCause T b c root part.levels r → HasTreePutCause T a c cache r
grow_cause T a b c cache root key word m part r is_root some changes puts cause = record {
  failed = λ e. omega (arith, cause.failed e, changes.edits.same.faults);
  bad = λ id e. elim (cause.bad id e) [
    | inl tall ↦ inr (record { root = root; name = tall.0 ∙ ap (λ n. page_id n root) changes.edits.same.part; is_root = is_root; tall = λ t height nodes items index. tall_height a b root key word part some (puts t) tall.1 height nodes items index })
    | inr r2 ↦ inl (record {
      between = b;
      most = m;
      edits = changes.edits;
      fault = elim r2 [ inl names ↦ inr (inr (inl names)) | inr r3 ↦ elim r3 [ inl bad ↦ inl (bad.index, bad.bad) | inr gap ↦ inr (inl gap) ] ];
    })
  ];
}
