-- A removal from the index of a cache.
use Rattle.std.proofs.Common.{◌≡◌, ◌≢◌, ℕ, zero, suc, ◌+◌, ◌<◌, ◌≤◌, ◌⊎◌, List, [], ◌∷◌, ◌++◌, map, length, refl, sym, ap, subst, ◌∙◌, inl, inr, arith}
use Rattle.std.specs.Prelude.{Option, None, Some, IsTrue, nat_lt, if◌then◌else◌}
use Rattle.std.specs.Option.{option_map}
use Rattle.std.proofs.lemmas.Bool.{cases_lt, le-ltb, eq-eqb}
use Rattle.std.proofs.lemmas.List.{append-nil}
use Rattle.pm_types.specs.PageSizes.{IsPageSize}
use Rattle.pm_types.specs.declared.limits.TheConstants.{CACHES}
use Rattle.pm_types.specs.declared.page_id.Link.{Link}
use Rattle.pm_btpage.specs.declared.layout.TheConstants.{LEAF_KIND, INNER_KIND}
use Rattle.pm_btpage.specs.IndexPages.{Item, items_of}
use Rattle.pm_meta.specs.declared.layout.TheConstants.{REUSE_KIND}
use Rattle.pm_meta.specs.declared.slots.MetaSlot.{MetaSlot}
use Rattle.pm_meta.specs.declared.slots.MetaSlot.TheVariants.{Root, Reuse, Pages}
use Rattle.pm_meta.specs.MetaPages.{field_of, next_of, IsSlot}
use Rattle.pm_pages.specs.Rows.{Partition, bytes_of, page_at, number_in, number_of, page_count, kind_of}
use Rattle.pm_pages.specs.Chains.{times, reuse_next_of}
use Rattle.pm_pages.specs.Trees.{root_of, child_of, index_in, AreLinked, nodes_below}
use Rattle.pm_pages.specs.Paged.{Paged, AllReadable}
use Rattle.pm_pages.specs.Edits.{HasMeta, IsNumberIn}
use Rattle.pm_tree.specs.Maps.{get_in}
use Rattle.pm_tree.specs.Nodes.{Node, node_of, nodes_in, Entry, entry, entries, items_under, leaves_under, nodes_under, IsTreeIn, AreLinkedTo}
use Rattle.pm_tree.specs.Puts.{flat, half_of}
use Rattle.pm_tree.specs.Indexes.{IsTreeAt, IsIndex, as_link, link_in}
use Rattle.pm_tree.proofs.Decoded.{leaves_same, nodes_same, items_same, tree_to, tree_from}
use Rattle.pm_pages.proofs.ChainWalks.{times-append, times_here}
use Rattle.pm_tree.proofs.Frames.{root_stands, used, tree_stays, items_stay, leaves_stay, nodes_stay, links_stay, leaves_few}
use Rattle.pm_tree.proofs.IndexPuts.{linked_to, linked_from, number_there}
use Rattle.pm_tree.proofs.Told.{node_away_count, page_is}
use Rattle.pm_pages.proofs.ToldPages.{number_told}
use Rattle.pm_tree.proofs.LeafChanges.{capacity_bounds}
use Rattle.pm_tree_del.specs.declared.remove.Removal.TheVariants.{Absent, Kept, Small}
use Rattle.pm_tree_del.specs.Maps.{remove_in}
use Rattle.pm_tree_del.specs.Given.{GivesBack}
use Rattle.pm_tree_del.specs.Removes.{RemovesIn, RemovesFor}
use Rattle.pm_tree_del.specs.Causes.{RemovesPages}
use Rattle.pm_tree_del.specs.Roots.{IsFullTop, KeepsButRoot, RemovesRootPages, ReplacesRoot, Settles, RemovesIndex}
use Rattle.pm_tree_del.proofs.RemovedItems.{remove_absent}
use Rattle.pm_tree_del.proofs.GivenPages.{gives_then, gives_none, gives_one}
use Rattle.pm_tree_del.proofs.ParentTrees.{tree_full, tree_less}

-- nothing changed: the key wasn't there
pub stays_index : (a c : Partition) (cache : ℕ) (key : List ℕ) → c ≡ a → (height : ℕ) (nodes : List ℕ) (items : List Item) → IsIndex a (root_of a cache) height nodes items → get_in items key ≡ None → RemovesIndex a c cache nodes items key None
stays_index a c cache key same height nodes items index none = subst (λ (q : Partition). RemovesIndex a q cache nodes items key None) (sym same) (record {
  was_is = ap (λ o. option_map as_link o) (sym none);
  height = height;
  nodes_now = nodes;
  index = subst (IsIndex a (root_of a cache) height nodes) (sym (remove_absent items key none)) index;
  given = [];
  counted = λ j. omega arith;
  given_once = λ j. omega arith;
  others = λ j not_zero out. refl;
  numbers = λ slot is_slot not_reuse not_root. refl;
  gives = gives_none a a refl refl (λ j not_zero. inl refl);
})

-- an index without items
pub empty_index : (a c : Partition) (cache : ℕ) (key : List ℕ) → c ≡ a → root_of a cache ≡ 0 → (height : ℕ) (nodes : List ℕ) (items : List Item) → IsIndex a (root_of a cache) height nodes items → RemovesIndex a c cache nodes items key None
empty_index a c cache key same zero_root zero nodes items index = stays_index a c cache key same zero nodes items index (ap (λ (xs : List Item). get_in xs key) index.2)
empty_index a c cache key same zero_root (suc levels) nodes items index = absurd (index.some zero_root)

-- The index once its root is that of a tree with the items of a removal.
module _ (a c : Paged) (cache : ℕ) (nodes : List ℕ) (items : List Item) (levels root : ℕ) (key : List ℕ) (given : List ℕ) (tree : IsTreeIn (nodes_in c.pages) levels 1 root) (items_are : items_under (nodes_in c.pages) levels root ≡ remove_in items key)
    (linked : AreLinkedTo (nodes_in c.pages) (leaves_under (nodes_in c.pages) levels root) 0) (nodes_are : (j : ℕ) → times j (nodes_under (nodes_in c.pages) levels root) + times j given ≡ times j nodes) (some : root ≢ 0) (few : levels < 8) (is_root : root_of c.pages cache ≡ root)
    (once : (j : ℕ) → times j nodes ≤ 1) where
  counts : (j : ℕ) → times j nodes ≡ times j (nodes_below c.pages levels root) + times j given
  counts j = omega (arith, nodes_are j, ap (λ u. times j u) (nodes_same c.pages levels root))

  index_at : IsTreeAt c.pages root levels (nodes_below c.pages levels root) (remove_in items key)
  index_at = record {
    some = some;
    few = few;
    tree = tree_from c.pages levels 1 root tree;
    linked = subst (AreLinked c.pages) (leaves_same c.pages levels root) (linked_from c.pages (leaves_under (nodes_in c.pages) levels root) linked);
    nodes_are = refl;
    items_are = sym items_are ∙ items_same c.pages levels root;
    once = λ j. omega (arith, counts j, once j);
  }

  pub removes_index : (was : Option Link) → was ≡ link_in items key → ((j : ℕ) → j ≢ 0 → times j nodes ≡ 0 → c.pages j ≡ a.pages j) → ((slot : MetaSlot) → IsSlot slot → slot ≢ Reuse → slot ≢ Root cache → number_in c.pages slot ≡ number_in a.pages slot) → GivesBack a.pages c.pages given → RemovesIndex a.pages c.pages cache nodes items key was
  removes_index was was_is others numbers gives = record {
    was_is = was_is;
    height = suc levels;
    nodes_now = nodes_below c.pages levels root;
    index = subst (λ r. IsIndex c.pages r (suc levels) (nodes_below c.pages levels root) (remove_in items key)) (sym is_root) index_at;
    given = given;
    counted = counts;
    given_once = λ j. omega (arith, counts j, once j);
    others = others;
    numbers = numbers;
    gives = gives;
  }

-- numbers that are kept, as the store reports them
pub numbers_told : (a c : Paged) (cache : ℕ) → HasMeta a → KeepsButRoot a c cache → (slot : MetaSlot) → IsSlot slot → slot ≢ Reuse → slot ≢ Root cache → number_in c.pages slot ≡ number_in a.pages slot
numbers_told a c cache meta keeps slot is_slot not_reuse not_root =
    let n = number_there a slot meta in
    number_told c slot n.0 (keeps.others slot is_slot not_reuse not_root n.0 n.1) ∙ sym (number_told a slot n.0 n.1)

-- a page of a tree lies below the page count
pub tree_within : (pages : Partition) (levels least at : ℕ) → IsTreeIn (nodes_in pages) levels least at → at < page_count pages
tree_within pages levels least at tree = elim (cases_lt at (page_count pages)) [
  | inl lt ↦ lt
  | inr le ↦ (let none : (nodes_in pages at).kind ≡ 0 = simp (le-ltb at (page_count pages) le) refl in absurd (kind levels tree none))
]
  where
    kind : (n : ℕ) → IsTreeIn (nodes_in pages) n least at → (nodes_in pages at).kind ≡ 0 → ⊥
    kind zero tree none = omega (arith, none, tree.kind_is)
    kind (suc n) tree none = omega (arith, none, tree.0.kind_is)

-- A removal below a root.
module _ (T : Type 0) (a b c : Paged) (cache root : ℕ) (key : List ℕ) (t : T) (meta : HasMeta a) (in_caches : cache < CACHES) (is_root : IsNumberIn a (Root cache) root) (some : root ≢ 0) (m : ℕ) (changes : RemovesPages T a b m) (readable : AllReadable b)
    (levels : ℕ) (nodes : List ℕ) (items : List Item) (index : IsTreeAt a.pages root levels nodes items) where
  tree_a : IsTreeIn (nodes_in a.pages) levels 1 root
  tree_a = tree_to a.pages levels 1 root index.tree

  nodes_a : nodes_under (nodes_in a.pages) levels root ≡ nodes
  nodes_a = nodes_same a.pages levels root ∙ sym index.nodes_are

  items_a : items_under (nodes_in a.pages) levels root ≡ items
  items_a = items_same a.pages levels root ∙ sym index.items_are

  linked_a : AreLinkedTo (nodes_in a.pages) (leaves_under (nodes_in a.pages) levels root) 0
  linked_a = subst (λ u. AreLinkedTo (nodes_in a.pages) u 0) (sym (leaves_same a.pages levels root)) (linked_to a.pages _ index.linked)

  pub once_a : (j : ℕ) → times j (nodes_under (nodes_in a.pages) levels root) ≤ 1
  once_a j = subst (λ u. times j u ≤ 1) (sym nodes_a) (index.once j)

  root_b : IsNumberIn b (Root cache) root
  root_b = changes.numbers.others (Root cache) in_caches (λ e. cc e) root is_root

  keeps : KeepsButRoot a b cache
  keeps = record { others = λ slot is_slot not_reuse not_root n is. changes.numbers.others slot is_slot not_reuse n is }

  link_is : (was : Option ℕ) → get_in (items_under (nodes_in a.pages) levels root) key ≡ was → option_map as_link was ≡ link_in items key
  link_is was is = ap (λ o. option_map as_link o) (sym is ∙ ap (λ (xs : List Item). get_in xs key) items_a)

  -- the root has an item
  kept_index : (was : ℕ) → get_in (items_under (nodes_in a.pages) levels root) key ≡ Some was → (d : Paged) → ((j : ℕ) → d.pages j ≡ b.pages j) → (removal : RemovesIn a.pages b.pages levels 1 root key) → RemovesIndex a.pages d.pages cache nodes items key (Some (as_link was))
  kept_index was is d same removal = subst (λ (q : Partition). RemovesIndex a.pages q cache nodes items key (Some (as_link was))) (λ k j. sym (same j) k)
      (removes_index a b cache nodes items levels root key removal.given removal.removes.tree (removal.removes.items ∙ ap (λ (xs : List Item). remove_in xs key) items_a) (removal.removes.linked 0 linked_a)
      (λ j. removal.removes.nodes j ∙ ap (λ u. times j u) nodes_a) some index.few (number_told b (Root cache) root root_b) index.once (Some (as_link was)) (link_is (Some was) is)
      (λ j not_zero none. removal.others j not_zero (subst (λ u. times j u ≡ 0) (sym nodes_a) none)) (numbers_told a b cache meta keeps) removal.gives)

  pub absent_index : RemovesFor a.pages b.pages (half_of a.page_size) 8 root key Absent → 1 ≤ half_of a.page_size → RemovesIndex a.pages b.pages cache nodes items key None
  absent_index removes le =
      let x = removes.each levels index.few 1 le tree_a once_a in
      stays_index a.pages b.pages cache key (λ k j. x.1 j k) (suc levels) nodes items (subst (λ r. IsIndex a.pages r (suc levels) nodes items) (sym (number_told a (Root cache) root is_root)) index) (ap (λ (xs : List Item). get_in xs key) (sym items_a) ∙ x.0)

  pub keeps_index : (was : ℕ) → RemovesFor a.pages b.pages (half_of a.page_size) 8 root key (Kept was) → 1 ≤ half_of a.page_size → RemovesIndex a.pages b.pages cache nodes items key (Some (as_link was))
  keeps_index was removes le = (let x = removes.each levels index.few 1 le tree_a once_a in kept_index was x.0 b (λ j. refl) x.1)

  -- the root has one item less, and was settled
  module _ (was : ℕ) (is : get_in (items_under (nodes_in a.pages) levels root) key ≡ Some was) (removal : RemovesIn a.pages b.pages levels 0 root key) (root_changes : RemovesRootPages T b c cache 0) where
    within_b : root < page_count b.pages
    within_b = tree_within b.pages levels 0 root removal.removes.tree

    root_node : (page : List ℕ) → b.pages root ≡ Some page → nodes_in b.pages root ≡ node_of page
    root_node page e = ap node_of (page_is b root page within_b e)

    full_index : (page : List ℕ) → b.pages root ≡ Some page → IsFullTop page → ((j : ℕ) → IsTrue (b.known j) ⊎ T → c.pages j ≡ b.pages j) → RemovesIndex a.pages c.pages cache nodes items key (Some (as_link was))
    full_index page page_now full same = kept_index was is c (λ j. same j (inr t)) (record {
      given = removal.given;
      removes = record {
        tree = tree_full (nodes_in b.pages) levels 0 1 root (omega (arith, full.some, ap (λ (n : Node). length n.items) (root_node page page_now))) removal.removes.tree;
        items = removal.removes.items;
        linked = removal.removes.linked;
        first = removal.removes.first;
        nodes = removal.removes.nodes;
        others = removal.removes.others;
      };
      others = removal.others;
      gives = removal.gives;
    })

    -- the root was given back
    module _ (page : List ℕ) (page_now : b.pages root ≡ Some page) (page_size : IsPageSize (length page)) (kind : (kind_of page ≡ LEAF_KIND) ⊎ (kind_of page ≡ INNER_KIND)) (none : items_of page ≡ []) (child : ℕ) (rep : ReplacesRoot T b c cache root child) where
      rep_counts : page_count c.pages ≡ page_count b.pages
      rep_counts = ap (λ o. number_of o Pages) rep.numbers.after ∙ rep.numbers.change.others Pages tt (λ e. cc e) (λ e. cc e) ∙ sym (ap (λ o. number_of o Pages) rep.numbers.before)

      same_at : (j : ℕ) → j ≢ 0 → j ≢ root → page_at c.pages j ≡ page_at b.pages j
      same_at j not_zero not_root = λ k. if nat_lt j (rep_counts k) then bytes_of (rep.edits.others j (inl t) (λ h. elim h [ inl e ↦ not_zero e | inr e ↦ not_root e ]) k) else []

      page_b : page_at b.pages root ≡ page
      page_b = page_is b root page within_b page_now

      page_c : page_at c.pages root ≡ rep.page
      page_c = page_is c root rep.page (omega (arith, within_b, rep_counts)) rep.here

      next_is : (bytes : List ℕ) → kind_of bytes ≡ REUSE_KIND → reuse_next_of bytes ≡ next_of bytes
      next_is bytes k = simp (eq-eqb (kind_of bytes) REUSE_KIND k) refl

      rep_gives : GivesBack b.pages c.pages (root ∷ [])
      rep_gives = gives_one b.pages c.pages root (field_of rep.numbers.was Reuse) (omega (arith, some)) within_b (ap (λ o. number_of o Reuse) rep.numbers.before) rep_counts (ap (λ o. number_of o Reuse) rep.numbers.after ∙ rep.numbers.change.reuse)
          (ap kind_of page_c ∙ rep.stored.well_made.kind) (ap reuse_next_of page_c ∙ next_is rep.page rep.stored.well_made.kind ∙ rep.numbers.change.next_is)
          (λ k. elim kind [ inl z ↦ omega (arith, z, sym (ap kind_of page_b) ∙ k) | inr z ↦ omega (arith, z, sym (ap kind_of page_b) ∙ k) ])
          (λ j not_zero not_root. inl (same_at j not_zero not_root))

      all_gives : GivesBack a.pages c.pages (root ∷ removal.given)
      all_gives = gives_then a.pages b.pages c.pages removal.given (root ∷ []) removal.gives rep_gives

      root_in : (j : ℕ) → times j nodes ≡ 0 → j ≢ root
      root_in j out e = omega (arith, out, root_stands (nodes_in a.pages) levels root, ap (λ n. times n (nodes_under (nodes_in a.pages) levels root)) e, ap (λ u. times j u) nodes_a)

      rep_others : (j : ℕ) → j ≢ 0 → times j nodes ≡ 0 → c.pages j ≡ a.pages j
      rep_others j not_zero out = rep.edits.others j (inl t) (λ h. elim h [ inl e ↦ not_zero e | inr e ↦ root_in j out e ]) ∙ removal.others j not_zero (subst (λ u. times j u ≡ 0) (sym nodes_a) out)

      rep_numbers : (slot : MetaSlot) → IsSlot slot → slot ≢ Reuse → slot ≢ Root cache → number_in c.pages slot ≡ number_in a.pages slot
      rep_numbers slot is_slot not_reuse not_root = numbers_told b c cache changes.meta (record { others = root_changes.numbers.others }) slot is_slot not_reuse not_root ∙ numbers_told a b cache meta keeps slot is_slot not_reuse not_root

      rep_root : root_of c.pages cache ≡ child
      rep_root = ap (λ o. number_of o (Root cache)) rep.numbers.after ∙ rep.numbers.change.root_is

      none_b : (nodes_in b.pages root).items ≡ []
      none_b = ap (λ (n : Node). n.items) (root_node page page_now) ∙ none

      -- it was a leaf
      bare_leaf : (l : ℕ) → l ≡ levels → kind_of page ≡ LEAF_KIND → child ≡ 0 → RemovesIndex a.pages c.pages cache nodes items key (Some (as_link was))
      bare_leaf zero e k no_child =
          let items_b : items_under (nodes_in b.pages) levels root ≡ [] = ap (λ n. items_under (nodes_in b.pages) n root) (sym e) ∙ none_b in
          let gone : remove_in items key ≡ [] = ap (λ (xs : List Item). remove_in xs key) (sym items_a) ∙ sym removal.removes.items ∙ items_b in
          let alone : nodes_under (nodes_in b.pages) levels root ≡ root ∷ [] = ap (λ n. nodes_under (nodes_in b.pages) n root) (sym e) in
          let counted : (j : ℕ) → times j nodes ≡ times j (root ∷ removal.given) = λ j. omega (arith, removal.removes.nodes j, ap (λ u. times j u) nodes_a, ap (λ u. times j u) alone, times-append j (root ∷ []) removal.given) in
          record {
            was_is = link_is (Some was) is;
            height = zero;
            nodes_now = [];
            index = (rep_root ∙ no_child, refl, gone);
            given = root ∷ removal.given;
            counted = λ j. omega (arith, counted j);
            given_once = λ j. omega (arith, counted j, index.once j);
            others = rep_others;
            numbers = rep_numbers;
            gives = all_gives;
          }
      bare_leaf (suc l) e k no_child = absurd (let tree = subst (λ n. IsTreeIn (nodes_in b.pages) n 0 root) (sym e) removal.removes.tree in omega (arith, tree.0.kind_is, ap (λ (n : Node). n.kind) (root_node page page_now), k))

      -- it was an inner page, with one child
      bare_inner : (l : ℕ) → l ≡ levels → kind_of page ≡ INNER_KIND → child ≡ child_of page 0 → 1 ≤ child → RemovesIndex a.pages c.pages cache nodes items key (Some (as_link was))
      bare_inner zero e k child_is some_child = absurd (let tree = subst (λ n. IsTreeIn (nodes_in b.pages) n 0 root) (sym e) removal.removes.tree in omega (arith, tree.kind_is, ap (λ (n : Node). n.kind) (root_node page page_now), k))
      bare_inner (suc g) e k child_is some_child =
          let M = nodes_in b.pages in
          let tree : IsTreeIn (nodes_in b.pages) (suc g) 0 root = subst (λ n. IsTreeIn (nodes_in b.pages) n 0 root) (sym e) removal.removes.tree in
          let at_child : index_in (nodes_in b.pages root).link ≡ child = ap (λ (n : Node). index_in n.link) (root_node page page_now) ∙ sym child_is in
          let E : entries (nodes_in b.pages root) ≡ record { from = None; child = child } ∷ [] = (λ z. record { from = None; child = at_child z } ∷ map entry (none_b z)) in
          let child_tree : IsTreeIn (nodes_in b.pages) g (nodes_in b.pages root).half child = subst (IsTreeIn (nodes_in b.pages) g (nodes_in b.pages root).half) at_child tree.1.0 in
          let nodes_b : nodes_under (nodes_in b.pages) (suc g) root ≡ root ∷ (nodes_under (nodes_in b.pages) g child ++ []) = ap (λ (es : List Entry). root ∷ flat (nodes_under (nodes_in b.pages) g) es) E in
          let items_b : items_under (nodes_in b.pages) (suc g) root ≡ items_under (nodes_in b.pages) g child = ap (λ (es : List Entry). flat (items_under (nodes_in b.pages) g) es) E ∙ append-nil (items_under (nodes_in b.pages) g child) in
          let leaves_b : leaves_under (nodes_in b.pages) (suc g) root ≡ leaves_under (nodes_in b.pages) g child = ap (λ (es : List Entry). flat (leaves_under (nodes_in b.pages) g) es) E ∙ append-nil (leaves_under (nodes_in b.pages) g child) in
          let total : (j : ℕ) → times j nodes ≡ times j (root ∷ []) + (times j (nodes_under (nodes_in b.pages) g child) + times j removal.given) = λ j.
          omega (
            arith,
            removal.removes.nodes j,
            ap (λ u. times j u) nodes_a,
            ap (λ n. times j (nodes_under (nodes_in b.pages) n root)) e,
            ap (λ u. times j u) nodes_b,
            times-append j (root ∷ []) (nodes_under (nodes_in b.pages) g child ++ []),
            times-append j (nodes_under (nodes_in b.pages) g child) [],
          ) in
          let same : (j : ℕ) → 1 ≤ times j (nodes_under (nodes_in b.pages) g child) → nodes_in c.pages j ≡ nodes_in b.pages j = λ j there.
          node_away_count T b c (λ k. (k ≡ 0) ⊎ (k ≡ root)) 0 t readable changes.meta rep.edits (omega (arith, rep_counts)) j
          (λ h. elim h [ inl z ↦ z | inr z ↦ absurd (omega (arith, there, total j, index.once j, times_here root [], ap (λ n. times n (root ∷ [])) z)) ])
          (λ spare. used (nodes_in b.pages) g (nodes_in b.pages root).half child j child_tree there spare) in
          let half_some : 1 ≤ (nodes_in b.pages root).half = omega (arith, ap (λ (n : Node). n.half) (root_node page page_now), capacity_bounds (length page) page_size) in
          removes_index a c cache nodes items g child key (root ∷ removal.given)
          (tree_less (nodes_in c.pages) g (nodes_in b.pages root).half 1 child half_some (tree_stays (nodes_in b.pages) (nodes_in c.pages) g (nodes_in b.pages root).half child same child_tree))
          (items_stay (nodes_in b.pages) (nodes_in c.pages) g child same ∙ sym items_b ∙ ap (λ n. items_under (nodes_in b.pages) n root) e ∙ removal.removes.items ∙ ap (λ (xs : List Item). remove_in xs key) items_a)
          (subst (λ u. AreLinkedTo (nodes_in c.pages) u 0) (sym (leaves_stay (nodes_in b.pages) (nodes_in c.pages) g child same))
          (links_stay (nodes_in b.pages) (nodes_in c.pages) (leaves_under (nodes_in b.pages) g child) 0 (λ j there. same j (omega (arith, there, leaves_few (nodes_in b.pages) g child j)))
          (subst (λ u. AreLinkedTo (nodes_in b.pages) u 0) (ap (λ n. leaves_under (nodes_in b.pages) n root) (sym e) ∙ leaves_b) (removal.removes.linked 0 linked_a))))
          (λ j. omega (arith, total j, ap (λ u. times j u) (nodes_stay (nodes_in b.pages) (nodes_in c.pages) g child same), times-append j (root ∷ []) removal.given))
          (λ z. omega (arith, z, some_child)) (omega (arith, e, index.few)) rep_root index.once (Some (as_link was)) (link_is (Some was) is) rep_others rep_numbers all_gives

    pub settled_index : Settles T b c cache root → RemovesIndex a.pages c.pages cache nodes items key (Some (as_link was))
    settled_index h = elim h [
      | inl f ↦ full_index f.0 f.1 f.2 f.3
      | inr r ↦ elim r [
        | inl l ↦ bare_leaf l.0 l.1 l.2.size (inl l.2.kind_is) l.2.none 0 l.3 levels refl l.2.kind_is refl
        | inr n ↦ bare_inner n.0 n.1 n.2.size (inr n.2.kind_is) n.2.none n.3 n.7 levels refl n.2.kind_is n.4 n.5
      ]
    ]

  pub settles_index : (was : ℕ) → RemovesFor a.pages b.pages (half_of a.page_size) 8 root key (Small was) → 1 ≤ half_of a.page_size → RemovesRootPages T b c cache 0 → Settles T b c cache root → RemovesIndex a.pages c.pages cache nodes items key (Some (as_link was))
  settles_index was removes le root_changes settles = (let x = removes.each levels index.few 1 le tree_a once_a in settled_index was x.0 x.1 root_changes settles)
