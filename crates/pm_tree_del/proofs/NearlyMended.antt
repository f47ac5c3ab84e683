-- Pages that pass their checks, but for index pages without items, do so still after an item was taken out of one, after a
-- child was mended, and after a root was replaced.
use Rattle.std.proofs.Common.{◌≡◌, ℕ, zero, suc, ◌<◌, ◌≤◌, ◌⊎◌, List, length, sym, ap, subst, ◌∙◌, inl, inr, arith}
use Rattle.std.specs.Prelude.{Bool, Some, ◌==◌}
use Rattle.std.proofs.lemmas.Bool.{cases_eq}
use Rattle.pm_types.specs.declared.limits.TheConstants.{CACHES}
use Rattle.pm_types.specs.Ids.{page_id}
use Rattle.pm_pages.specs.Passes.{PassesAsMeta}
use Rattle.pm_tree_del.specs.Roots.{ReplacesRoot}
use Rattle.pm_btpage.specs.declared.layout.TheConstants.{LEAF_KIND}
use Rattle.pm_btpage.specs.IndexPages.{IndexPage, items_of, index_of, IsIndexPage}
use Rattle.pm_meta.specs.declared.slots.MetaSlot.TheVariants.{Root, Reuse, Pages}
use Rattle.pm_meta.specs.MetaPages.{field_of, IsStoredReuse}
use Rattle.pm_pages.specs.Rows.{page_count, number_of, kind_of}
use Rattle.pm_pages.specs.Paged.{Paged}
use Rattle.pm_pages.specs.Edits.{EditsPages, IsNumberIn}
use Rattle.pm_pages.proofs.PassingPages.{there_still, there_is, passes_same, meta_sets}
use Rattle.pm_pages.proofs.SpareSteps.{number_by}
use Rattle.pm_pages.proofs.ToldPages.{number_told}
use Rattle.pm_tree_del.specs.declared.pairs.Pair.{Pair}
use Rattle.pm_tree_del.specs.declared.mends.Mend.{Mend}
use Rattle.pm_tree_del.specs.declared.mends.Mend.TheVariants.{Merged, Shared, Wrong}
use Rattle.pm_tree_del.specs.Items.{HasItemAt, TakesOutAt}
use Rattle.pm_tree_del.specs.Neighbours.{AreOfOneKind, Merges, Shares, IsMend}
use Rattle.pm_tree_del.specs.Mending.{IsOfFamily, MergesPages, SharesPages, IsWritten, MendsChild}
use Rattle.pm_tree_del.specs.Stored.{IsNamedIndex, IsNearlyStored, AreNearlyStored}
use Rattle.pm_tree_del.proofs.NearlyStored.{IsNamedNode, node_named, index_named, tree_page, nearly_edited, without_named, key_named, joined_named, shared_named}

-- a page of this content, which says something with the names of pages of its partition
named_there : (b c : Paged) (i : ℕ) (page : List ℕ) → c.page_size ≡ b.page_size → c.part ≡ b.part → c.pages i ≡ Some page → length page ≡ b.page_size → IsIndexPage page → IsNamedNode b.part i (index_of page) → IsNearlyStored c i
named_there b c i page size part here long index node = (page, here, inr (index_named c i page (long ∙ sym size) index (subst (λ n. IsNamedNode n i (index_of page)) (sym part) node)))

-- a reuse page under its own name
pub reuse_there : (b c : Paged) (i : ℕ) (page : List ℕ) → 1 ≤ i → c.page_size ≡ b.page_size → c.part ≡ b.part → c.pages i ≡ Some page → length page ≡ b.page_size → IsStoredReuse (page_id b.part i) page → IsNearlyStored c i
reuse_there b c zero page some size part here long stored = absurd (omega (arith, some))
reuse_there b c (suc i) page some size part here long stored = (page, here, inl (record { size = long ∙ sym size; kind = inr (inr (inr (subst (λ n. IsStoredReuse (page_id n (suc i)) page) (sym part) stored))) }))

-- an item was taken out of a page
pub taken_nearly : (T : Type 0) (a d : Paged) (at i : ℕ) (few : Bool) → T → HasItemAt a at i → EditsPages T a d (λ j. j ≡ at) 0 → TakesOutAt a d at i few → AreNearlyStored a → AreNearlyStored d
taken_nearly T a d at i few t item edits takes near =
    let out : 0 ≡ at → ⊥ = λ e. omega (arith, e, item.some) in
    let zero_same = edits.others 0 (inl t) out in
    let same : item.page ≡ takes.was = cc (item.in_hand.page, takes.before) in
    nearly_edited T a d (λ j. j ≡ at) 0 t edits (λ j. cases_eq j at) (there_still a d edits.same 0 zero_same near.meta) (ap (λ o. number_of o Pages) zero_same)
    (λ j some lt e.
    let named : IsNamedIndex a at takes.was = subst (IsNamedIndex a at) same (tree_page a at item.page near item.some (omega (arith, lt, e)) item.in_hand.page item.well_made.head.kind) in
    subst (IsNearlyStored d) (sym e) (named_there a d at takes.now edits.same.page_size edits.same.part takes.after (takes.takes.size ∙ named.size) takes.takes.well_made
    (subst (IsNamedNode a.part at) (sym takes.takes.says) (without_named a.part at i (index_of takes.was) (node_named a at takes.was named)))))
    near

-- a child was mended
module _ (T : Type 0) (b c : Paged) (count at i child : ℕ) (few : Bool) (t : T) (some : 1 ≤ at) (number : IsNumberIn b Pages count) (mended : MendsChild T b c count at i child few) (near : AreNearlyStored b) where
  pair : Pair
  pair = mended.pair

  counted : page_count b.pages ≡ count
  counted = number_told b Pages count number

  parent_here : b.pages at ≡ Some mended.mends.parent
  parent_here = mended.mends.parent_is (inl t)

  left_here : b.pages mended.pair.left ≡ Some mended.mends.left
  left_here = mended.mends.left_is (inl t)

  right_here : b.pages mended.pair.right ≡ Some mended.mends.right
  right_here = mended.mends.right_is (inl t)

  page_same : mended.page ≡ mended.mends.parent
  page_same = cc (mended.page_is, parent_here)

  parent_named : at < page_count b.pages → IsNamedNode b.part at (index_of mended.mends.parent)
  parent_named lt = node_named b at mended.mends.parent (tree_page b at mended.mends.parent near some lt parent_here (inr (ap kind_of (sym page_same) ∙ mended.pair_of.kind)))

  module _ (kind : AreOfOneKind mended.mends.left mended.mends.right) where
    left_named : IsNamedNode b.part mended.pair.left (index_of mended.mends.left)
    left_named = node_named b mended.pair.left mended.mends.left (tree_page b mended.pair.left mended.mends.left near mended.may.left_some (omega (arith, mended.may.left_below, counted)) left_here kind.kind)

    right_named : IsNamedNode b.part mended.pair.right (index_of mended.mends.right)
    right_named = node_named b mended.pair.right mended.mends.right (tree_page b mended.pair.right mended.mends.right near mended.may.right_some (omega (arith, mended.may.right_below, counted)) right_here (elim kind.kind [ inl e ↦ inl (kind.same ∙ e) | inr e ↦ inr (kind.same ∙ e) ]))

    leaf_same : (index_of mended.mends.right).leaf ≡ (index_of mended.mends.left).leaf
    leaf_same = ap (λ k. k == LEAF_KIND) kind.same

  -- one of the three pages
  family_of : (j : ℕ) → IsOfFamily at mended.pair j ⊎ (IsOfFamily at mended.pair j → ⊥)
  family_of j = elim (cases_eq j mended.pair.left) [
    | inl e ↦ inl (inl e)
    | inr not_left ↦ elim (cases_eq j mended.pair.right) [
      | inl e ↦ inl (inr (inl e))
      | inr not_right ↦ elim (cases_eq j at) [ inl e ↦ inl (inr (inr e)) | inr not_at ↦ inr (λ h. elim h [ inl e ↦ not_left e | inr h2 ↦ elim h2 [ inl e ↦ not_right e | inr e ↦ not_at e ] ]) ]
    ]
  ]

  meta_or : (j : ℕ) → ((j ≡ 0) ⊎ IsOfFamily at mended.pair j) ⊎ ((j ≡ 0) ⊎ IsOfFamily at mended.pair j → ⊥)
  meta_or j = elim (cases_eq j 0) [ inl e ↦ inl (inl e) | inr not_zero ↦ elim (family_of j) [ inl h ↦ inl (inr h) | inr out ↦ inr (λ h. elim h [ inl e ↦ not_zero e | inr f ↦ out f ]) ] ]

  of_family : (j : ℕ) → IsOfFamily at mended.pair j → IsNearlyStored c mended.pair.left → IsNearlyStored c mended.pair.right → (j ≡ at → IsNearlyStored c at) → IsNearlyStored c j
  of_family j h left right above = elim h [
    | inl e ↦ subst (IsNearlyStored c) (sym e) left
    | inr h2 ↦ elim h2 [ inl e ↦ subst (IsNearlyStored c) (sym e) right | inr e ↦ subst (IsNearlyStored c) (sym e) (above e) ]
  ]

  merged : (parent' left' right' : List ℕ) → length parent' ≡ length mended.mends.parent → length left' ≡ length mended.mends.left → Merges mended.mends.parent mended.mends.left mended.mends.right mended.pair.place parent' left' → MergesPages T b c at mended.pair parent' left' 1 → AreNearlyStored c
  merged parent' left' right' parent_long left_long is w =
      let gives = w.gives in
      let n = gives.numbers in
      let same = w.edits.same in
      let count_b = number_by b.pages Pages n.was n.before in
      let left_now = named_there b c mended.pair.left left' same.page_size same.part w.left_now (left_long ∙ mended.mends.left_size) is.left_page
      (subst (IsNamedNode b.part mended.pair.left) (sym is.left_is) (joined_named b.part mended.pair.left mended.pair.right (index_of mended.mends.left) (index_of mended.mends.right) _ (left_named is.kind) (right_named is.kind) (leaf_same is.kind))) in
      let right_now = reuse_there b c mended.pair.right gives.page mended.may.right_some same.page_size same.part gives.here gives.size gives.stored in
      nearly_edited T b c (λ j. (j ≡ 0) ⊎ IsOfFamily at mended.pair j) 1 t w.edits meta_or
      (meta_sets b c Reuse mended.pair.right same n.was n.now n.before n.after n.change.1 (omega (arith, mended.may.right_below, counted, count_b)) near.meta)
      (number_by c.pages Pages n.now n.after ∙ n.change.1.others Pages tt (λ e. cc e) ∙ sym count_b)
      (λ j some_j lt h. elim h [
        | inl e ↦ absurd (omega (arith, e, some_j))
        | inr f ↦ of_family j f left_now right_now (λ e. named_there b c at parent' same.page_size same.part w.parent_now (parent_long ∙ mended.mends.parent_size) is.parent_page
            (subst (IsNamedNode b.part at) (sym is.parent_is) (without_named b.part at mended.pair.place (index_of mended.mends.parent) (parent_named (omega (arith, lt, e))))))
      ]) near

  shared : (parent' left' right' : List ℕ) → length parent' ≡ length mended.mends.parent → length left' ≡ length mended.mends.left → length right' ≡ length mended.mends.right → Shares mended.mends.parent mended.mends.left mended.mends.right mended.pair.place parent' left' right' → SharesPages T b c at mended.pair parent' left' right' 1 → AreNearlyStored c
  shared parent' left' right' parent_long left_long right_long is w =
      let same = w.edits.same in
      let out : IsOfFamily at mended.pair 0 → ⊥ = λ h. elim h [ inl e ↦ omega (arith, e, mended.may.left_some) | inr h2 ↦ elim h2 [ inl e ↦ omega (arith, e, mended.may.right_some) | inr e ↦ omega (arith, e, some) ] ] in
      let zero_same = w.edits.others 0 (inl t) out in
      let both = shared_named b.part mended.pair.left mended.pair.right (index_of mended.mends.left) (index_of mended.mends.right) _ (left_named is.kind) (right_named is.kind) (leaf_same is.kind) (index_of left') (index_of right') is.key
      (ap (λ (s : IndexPage). s.id) is.left_is) (ap (λ (s : IndexPage). s.leaf) is.left_is) (ap (λ (s : IndexPage). s.link) is.left_is) is.right_id is.right_leaf is.items in
      let left_now = named_there b c mended.pair.left left' same.page_size same.part w.left_now (left_long ∙ mended.mends.left_size) is.left_page both.0 in
      let right_now = named_there b c mended.pair.right right' same.page_size same.part w.right_now (right_long ∙ mended.mends.right_size) is.right_page both.1 in
      let within = subst (λ (q : List ℕ). mended.pair.place < length (items_of q)) page_same mended.pair_of.within in
      nearly_edited T b c (IsOfFamily at mended.pair) 1 t w.edits family_of (there_still b c same 0 zero_same near.meta) (ap (λ o. number_of o Pages) zero_same)
      (λ j some_j lt f. of_family j f left_now right_now (λ e. named_there b c at parent' same.page_size same.part w.parent_now (parent_long ∙ mended.mends.parent_size) is.parent_page
      (subst (IsNamedNode b.part at) (sym is.parent_is) (key_named b.part at mended.pair.place is.key (index_of mended.mends.parent) within (parent_named (omega (arith, lt, e))))))) near

  pub mended_nearly : AreNearlyStored c
  mended_nearly = by mended.mends.mends.mend mended.mends.mends.is mended.mends.mends.written
    where
      by : (mend : Mend) → IsMend mended.mends.parent mended.mends.left mended.mends.right mended.pair.place mended.mends.mends.parent' mended.mends.mends.left' mended.mends.mends.right' mend → IsWritten T b c at mended.pair mended.mends.mends.parent' mended.mends.mends.left' mended.mends.mends.right' 1 mend few → AreNearlyStored c
      by Merged is w = merged mended.mends.mends.parent' mended.mends.mends.left' mended.mends.mends.right' mended.mends.mends.sizes.0 mended.mends.mends.sizes.1 is w.0
      by Shared is w = shared mended.mends.mends.parent' mended.mends.mends.left' mended.mends.mends.right' mended.mends.mends.sizes.0 mended.mends.mends.sizes.1 mended.mends.mends.sizes.2 is w.0
      by Wrong is w = absurd w

-- a root was given back, and another page is the root, or none
pub root_nearly : (T : Type 0) (b c : Paged) (cache root child : ℕ) → T → cache < CACHES → 1 ≤ root → IsNumberIn b (Root cache) root → child < page_count b.pages → ReplacesRoot T b c cache root child → AreNearlyStored b → AreNearlyStored c
root_nearly T b c cache root child t in_caches some number child_in rep near =
    let n = rep.numbers in
    let same = rep.edits.same in
    let passes : PassesAsMeta b.page_size b.max_rows (page_id b.part 0) n.was = there_is b 0 n.was n.before near.meta in
    let count_b = number_by b.pages Pages n.was n.before in
    let root_in : root < field_of n.was Pages = omega (arith, passes.stored.below (Root cache) in_caches, number_by b.pages (Root cache) n.was n.before, number_told b (Root cache) root number) in
    nearly_edited T b c (λ j. (j ≡ 0) ⊎ (j ≡ root)) 0 t rep.edits
    (λ j. elim (cases_eq j 0) [ inl e ↦ inl (inl e) | inr not_zero ↦ elim (cases_eq j root) [ inl e ↦ inl (inr e) | inr other ↦ inr (λ h. elim h [ inl e ↦ not_zero e | inr e ↦ other e ]) ] ])
    (n.now, n.after, passes_same b c same 0 n.now (record { size = n.change.size ∙ passes.size; stored = n.change.stored (page_id b.part 0) b.max_rows passes.stored root_in (omega (arith, child_in, count_b)) }))
    (number_by c.pages Pages n.now n.after ∙ n.change.others Pages tt (λ e. cc e) (λ e. cc e) ∙ sym count_b)
    (λ j some_j lt h. elim h [ inl e ↦ absurd (omega (arith, e, some_j)) | inr e ↦ subst (IsNearlyStored c) (sym e) (reuse_there b c root rep.page some same.page_size same.part rep.here rep.size rep.stored) ]) near
