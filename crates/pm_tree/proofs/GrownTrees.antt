-- A put of a new key meets no bad page where pages can be taken.
use Rattle.std.proofs.Common.{◌≡◌, ℕ, ◌+◌, ◌-◌, ◌*◌, ◌^◌, ◌<◌, ◌≤◌, ◌⊎◌, zero, suc, ◌≢◌, List, length, sym, subst, ◌∙◌, inl, inr, arith}
use Rattle.std.proofs.lemmas.Bool.{cases_lt}
use Rattle.pm_types.specs.PageSizes.{IsPageSize}
use Rattle.pm_btpage.specs.IndexPages.{Item}
use Rattle.pm_meta.specs.declared.slots.MetaSlot.TheVariants.{Pages}
use Rattle.pm_pages.specs.Rows.{Partition, page_at}
use Rattle.pm_pages.specs.Chains.{times}
use Rattle.pm_pages.specs.Paged.{Paged, AllReadable, PassesIn}
use Rattle.pm_pages.specs.Edits.{LooksAtPages, HasMeta, IsNumberIn}
use Rattle.pm_tree.specs.declared.put.Part.{Part}
use Rattle.pm_tree.specs.declared.put.Put.{Put}
use Rattle.pm_tree.specs.declared.put.Put.TheVariants.{Split}
use Rattle.pm_tree.specs.declared.places.Place.TheVariants.{Below}
use Rattle.pm_tree.specs.Places.{IsPlaceIn}
use Rattle.pm_tree.specs.Puts.{IsKept, PutsFor, half_of}
use Rattle.pm_tree.specs.Divisions.{PutsPages}
use Rattle.pm_tree.specs.Nodes.{nodes_in}
use Rattle.pm_tree.specs.Indexes.{IsIndex}
use Rattle.pm_pages.specs.SoundPages.{PassesAll, IsSound, CanTake, MayTake}
use Rattle.pm_tree.specs.SoundPuts.{MayTakeChild, MayGrow, HasSparePages, MayPutBelow}
use Rattle.pm_pages.proofs.EditedPages.{some_bytes}
use Rattle.pm_tree.proofs.Decoded.{tree_to, nodes_same}
use Rattle.pm_tree.proofs.Frames.{used}
use Rattle.pm_tree.proofs.Told.{page_is}
use Rattle.pm_pages.proofs.SpareSteps.{number_by}
use Rattle.pm_pages.proofs.ToldPages.{pages_told}
use Rattle.pm_pages.proofs.PassingLooks.{meta_passes}
use Rattle.pm_pages.proofs.SoundPages.{sound_all, sound_reads}
use Rattle.pm_tree.proofs.SoundPages.{used_within}
use Rattle.pm_tree.proofs.TallTrees.{tall_has_items}
use Rattle.pm_tree.proofs.IndexPuts.{tall_height}
use Rattle.pm_tree.proofs.Climbs.{below_count_of}
use Rattle.pm_tree.proofs.SoundTrees.{tree_looked, tree_of_child, index_tree}
use Rattle.pm_pages.proofs.SpareRoom.{can_take_less, can_take_looked, may_take}
use Rattle.pm_tree.proofs.PartedKeys.{place_for_part}

-- one of two ways
pub either : {A B C : Type 0} → A ⊎ B → (A → C) → (B → C) → C
either h f g = elim h [ inl a ↦ f a | inr b ↦ g b ]

-- a page that has the tree still gives no new child
pub kept_takes : (T : Type 0) (p : Paged) (at i : ℕ) (put : Put) → IsKept put → (part : Part) → put ≡ Split part → MayTakeChild T p at i part
kept_takes T p at i put kept part is = absurd (subst IsKept is kept)

module _ (T : Type 0) (a b : Paged) (m count at i child levels : ℕ) (key : List ℕ) (looks : LooksAtPages T a b m) (meta : HasMeta b) where
  -- the same below
  pub grow_below : AllReadable b → IsPlaceIn b at key (Below i child) → IsNumberIn b Pages count → at < count → MayGrow T a levels at → MayGrow T b (levels - 1) child
  grow_below readable place number lt n =
      let tree = tree_looked T a b m levels at n.told looks n.tree in
      record {
        told = n.told;
        limit = n.limit;
        small = n.small;
        take = can_take_less n.limit b (2 * levels) (2 * (levels - 1)) (omega arith) (can_take_looked T a b m n.told looks n.limit (2 * levels) n.take);
        tree = tree_of_child T b count at i child levels key n.told meta readable place number lt tree;
      }

-- once the child was divided
pub takes_place : {G : Type 0} → (T : Type 0) (a b d : Paged) (m count at i child levels word : ℕ) (key : List ℕ) (part : Part) → LooksAtPages T a b m → HasMeta b → IsPlaceIn b at key (Below i child) → IsNumberIn b Pages count → at < count → 1 ≤ levels → MayGrow T a levels at → AllReadable d
    → PutsPages T b d (2 * (levels - 1)) G → PutsFor b.pages d.pages (half_of b.page_size) (levels - 1) child key word (Split part) → MayTakeChild T d at i part
takes_place T a b d m count at i child levels word key part looks meta place number lt some n readable changes puts =
    let tree = tree_looked T a b m levels at n.told looks n.tree in
    let take = can_take_less n.limit b (2 * levels) (2 * (levels - 1) + 1) (omega (arith, some)) (can_take_looked T a b m n.told looks n.limit (2 * levels) n.take) in
    let left = changes.takes n.told n.limit 1 take in
    let found = place_for_part T b d count at i child levels word key part n.told meta place (below_count_of b count at number lt) tree puts readable changes.meta left.sound in
    record { take = may_take T d n.limit 1 n.told n.small (omega arith) left; page = found.0; here = found.1; parent = found.2 }

-- a partition in which more pages can be taken
pub can_take_spare : (p : Paged) (n : ℕ) → HasMeta p → HasSparePages p n → CanTake (2 * p.max_rows + 256) p n
can_take_spare p n meta spare =
    let page = some_bytes (p.pages 0) meta.there in
    let passes : PassesIn p 0 page.0 = meta_passes p spare.all page.0 page.1 in
    record {
      sound = sound_all p spare.all;
      spare = spare.spare;
      some = omega (arith, passes.stored.counts.some, number_by p.pages Pages page.0 page.1);
      room = spare.room;
    }

pub limit_small : (rows : ℕ) → rows ≤ 400000 → 2 * rows + 256 < 2 ^ 32
limit_small rows few = omega (arith, few)

pub size_of_pages : (p : Paged) → HasMeta p → PassesAll p → IsPageSize p.page_size
size_of_pages p meta all =
    let page = some_bytes (p.pages 0) meta.there in
    let passes : PassesIn p 0 page.0 = meta_passes p all page.0 page.1 in
    subst IsPageSize passes.size passes.stored.well_made.size

-- what an index needs for a put
pub may_put_below : (T : Type 0) (p : Paged) (root : ℕ) → T → HasMeta p → HasSparePages p 17 → (height : ℕ) (nodes : List ℕ) (items : List Item) → IsIndex p.pages root height nodes items → length items ≤ p.max_rows → MayPutBelow T p root
may_put_below T p root t meta spare height nodes items index few = record {
  told = t;
  limit = 2 * p.max_rows + 256;
  small = limit_small p.max_rows spare.rows;
  take = can_take_spare p 17 meta spare;
  size = size_of_pages p meta spare.all;
  height = height;
  nodes = nodes;
  items = items;
  index = index;
  few = omega (arith, few, spare.rows);
}

pub may_put_looked : (T : Type 0) (a b : Paged) (m root : ℕ) → LooksAtPages T a b m → MayPutBelow T a root → MayPutBelow T b root
may_put_looked T a b m root looks may = record {
  told = may.told;
  limit = may.limit;
  small = may.small;
  take = can_take_looked T a b m may.told looks may.limit 17 may.take;
  size = subst IsPageSize (sym looks.same.page_size) may.size;
  height = may.height;
  nodes = may.nodes;
  items = may.items;
  index = subst (λ (q : Partition). IsIndex q root may.height may.nodes may.items) (sym (pages_told T a b m may.told looks)) may.index;
  few = may.few;
}

pub may_grow_root : (T : Type 0) (a b : Paged) (m root : ℕ) → root ≢ 0 → LooksAtPages T a b m → MayPutBelow T a root → MayGrow T b 8 root
may_grow_root T a b m root some looks may =
    record {
      told = may.told;
      limit = may.limit;
      small = may.small;
      take = can_take_less may.limit b 17 16 (omega arith) (can_take_looked T a b m may.told looks may.limit 17 may.take);
      tree = index_tree b root (subst IsPageSize (sym looks.same.page_size) may.size) some may.height may.nodes may.items (subst (λ (q : Partition). IsIndex q root may.height may.nodes may.items) (sym (pages_told T a b m may.told looks)) may.index);
    }

-- the pages of an index have a page's size
index_sizes : (p : Paged) (root : ℕ) → root ≢ 0 → IsSound p → AllReadable p → HasMeta p → (height : ℕ) (nodes : List ℕ) (items : List Item) → IsIndex p.pages root height nodes items → (j : ℕ) → 1 ≤ times j nodes → IsPageSize (length (page_at p.pages j))
index_sizes p root some sound readable meta zero nodes items index j there = absurd (some index.0)
index_sizes p root some sound readable meta (suc levels) nodes items index j there =
    let tree = tree_to p.pages levels 1 root index.tree in
    let within = used_within p j readable meta (used (nodes_in p.pages) levels 1 root j tree (subst (λ u. 1 ≤ times j u) (index.nodes_are ∙ sym (nodes_same p.pages levels root)) there)) in
    let x = sound_reads p sound readable j within.0 within.1 in
    subst (λ (q : List ℕ). IsPageSize (length q)) (sym (page_is p j x.0 within.1 x.1)) x.2.size

-- a root that was divided can have one above it
pub not_tall : (T : Type 0) (a b : Paged) (root : ℕ) (key : List ℕ) (word : ℕ) (part : Part) → root ≢ 0 → AllReadable a → HasMeta a → MayPutBelow T a root → PutsFor a.pages b.pages (half_of a.page_size) 8 root key word (Split part) → part.levels < 7
not_tall T a b root key word part some readable meta may puts = elim (cases_lt part.levels 7) [
  | inl lt ↦ lt
  | inr ge ↦
      let tall = tall_height a b root key word part some puts (omega (arith, ge)) may.height may.nodes may.items may.index in
      let many = tall_has_items a.pages root may.nodes may.items (index_sizes a root some may.take.sound readable meta may.height may.nodes may.items may.index) (subst (λ h. IsIndex a.pages root h may.nodes may.items) tall may.index) in
      omega (arith, many, may.few)
]

-- a page for the root can be taken
pub may_take_root : {G : Type 0} → (T : Type 0) (a b d : Paged) (m root : ℕ) → LooksAtPages T a b m → PutsPages T b d 16 G → MayPutBelow T a root → MayTake T d
may_take_root T a b d m root looks changes may = may_take T d may.limit 1 may.told may.small (omega arith) (changes.takes may.told may.limit 1 (can_take_looked T a b m may.told looks may.limit 17 may.take))
