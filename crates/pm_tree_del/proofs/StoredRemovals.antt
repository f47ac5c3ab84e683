-- The pages of a partition pass their checks still after a removal from an index.
use Rattle.std.proofs.Common.{◌≡◌, ℕ, zero, suc, ◌^◌, ◌<◌, ◌≤◌, List, length, sym, ap, subst, ◌∙◌, inl, inr, arith}
use Rattle.std.specs.Prelude.{Option, Some, Result, Ok, Err, IfOk, OnOk}
use Rattle.std.proofs.lemmas.Bool.{cases_lt}
use Rattle.pm_types.specs.PageSizes.{IsPageSize}
use Rattle.pm_types.specs.declared.page_id.Link.{Link}
use Rattle.pm_btpage.specs.IndexPages.{Item, items_of, index_of, capacity_of}
use Rattle.pm_btpage.specs.Stored.{NamesPagesOf}
use Rattle.pm_pages.specs.Rows.{bytes_of, page_at, page_count, kind_of}
use Rattle.pm_pages.specs.Chains.{times}
use Rattle.pm_pages.specs.Trees.{root_of}
use Rattle.pm_pages.specs.Paged.{Paged}
use Rattle.pm_pages.proofs.PageReads.{page_at-below}
use Rattle.pm_pages.specs.StoredPages.{IsStoredPage}
use Rattle.pm_pages.proofs.PassingPages.{there_still, count_within}
use Rattle.pm_pages.proofs.StoredPages.{all_there, meta_there, count_small}
use Rattle.pm_tree.specs.Indexes.{IsIndex}
use Rattle.pm_tree.specs.Nodes.{nodes_in}
use Rattle.pm_tree.specs.Puts.{IsSpare}
use Rattle.pm_pages.specs.SoundPages.{PassesAll}
use Rattle.pm_tree.proofs.Decoded.{nodes_same, tree_to}
use Rattle.pm_tree.proofs.Frames.{used}
use Rattle.pm_tree.proofs.LeafChanges.{capacity_bounds}
use Rattle.pm_tree.proofs.PartedKeys.{page_some}
use Rattle.pm_meta.specs.declared.slots.MetaSlot.{MetaSlot}
use Rattle.pm_meta.specs.declared.slots.MetaSlot.TheVariants.{Pages}
use Rattle.pm_pages.specs.Edits.{IsNumberIn}
use Rattle.pm_pages.proofs.SpareSteps.{number_by}
use Rattle.pm_pages.proofs.PassingLooks.{meta_passes, page_passes, page_there}
use Rattle.pm_tree.proofs.StoredNodes.{part_in}
use Rattle.pm_tree.proofs.Told.{past_spare}
use Rattle.pm_tree_del.specs.Maps.{remove_in}
use Rattle.pm_tree_del.specs.Roots.{RemovesIndex, RemovesRootPages}
use Rattle.pm_tree_del.specs.Stored.{IsNamedIndex, AreNearlyStored}

-- two facts of a value
pub if_ok_both : {R E Q S : Type 0} {P : R → Type 0} (r : Result R E) → IfOk r P → OnOk r Q → ((x : R) → P x → Q → S) → OnOk r S
if_ok_both (Ok x) p q f = f x p q
if_ok_both (Err e) p q f = tt

-- pages that pass
pub near_all : (p : Paged) → p.part < 2 ^ 16 → p.max_rows ≤ 400000 → 1 ≤ page_count p.pages → PassesAll p → AreNearlyStored p
near_all p part rows some all = record {
  meta = meta_there p all some;
  each = λ i some_i lt. (let page = page_there p i all lt in (page.0, page.1, inl (page_passes p i page.0 all lt page.1)));
  rows = rows;
  part = part;
}

-- where the meta page is at hand and passes there is a page
pub count_some : {slot : MetaSlot} {n : ℕ} (p : Paged) → IsNumberIn p slot n → PassesAll p → 1 ≤ page_count p.pages
count_some p number all = (let passes = meta_passes p all number.meta number.in_hand.page in omega (arith, number_by p.pages Pages number.meta number.in_hand.page, passes.stored.counts.some))

-- an index page with an item passes
named_passes : (p : Paged) (i : ℕ) (page : List ℕ) → p.part < 2 ^ 16 → 1 ≤ i → i < 2 ^ 32 → p.pages i ≡ Some page → IsNamedIndex p i page → 1 ≤ length (items_of page) → IsStoredPage p i
named_passes p zero page part some lt here named items = absurd (omega (arith, some))
named_passes p (suc i) page part some lt here named items = (
  page,
  here,
  record {
    size = named.size;
    kind = inr (inl (record { own = named.own; some = items; well_made = named.well_made; names = subst (λ n. NamesPagesOf n (index_of page)) (sym (part_in p.part (suc i) part lt)) named.names }));
  },
)

-- the pages of trees are pages of the partition, and have room for items
module _ (d : Paged) (near : AreNearlyStored d) where
  within : (j : ℕ) → (IsSpare (nodes_in d.pages j) → ⊥) → (1 ≤ j) × (j < page_count d.pages)
  within j used_j = (some j used_j, elim (cases_lt j (page_count d.pages)) [ inl lt ↦ lt | inr le ↦ absurd (used_j (past_spare d.pages j le)) ])
    where
      some : (j : ℕ) → (IsSpare (nodes_in d.pages j) → ⊥) → 1 ≤ j
      some zero used_0 =
          let kind : kind_of (page_at d.pages 0) ≡ 1 = ap kind_of (page_at-below d.pages 0 (omega (arith, (count_within d near.meta).0)) ∙ ap bytes_of near.meta.1) ∙ near.meta.2.stored.well_made.form.kind in
          absurd (used_0 (record { leaf = λ e. omega (arith, e, kind); inner = λ e. omega (arith, e, kind) }))
      some (suc j) used_j = omega arith

  long : (j : ℕ) (one : 1 ≤ j) (lt : j < page_count d.pages) → length (near.each j one lt).0 ≡ d.page_size
  long zero one lt = absurd (omega (arith, one))
  long (suc j) one lt = elim (near.each (suc j) one lt).2 [ inl passes ↦ passes.size | inr named ↦ named.size ]

  wide : (j : ℕ) → (IsSpare (nodes_in d.pages j) → ⊥) → 1 ≤ (nodes_in d.pages j).half
  wide j used_j =
      let w = within j used_j in
      let page = near.each j w.0 w.1 in
      let size : length (page_at d.pages j) ≡ d.page_size = ap length (page_at-below d.pages j w.1 ∙ ap bytes_of page.1) ∙ long j w.0 w.1 in
      let of_page : IsPageSize d.page_size = subst IsPageSize near.meta.2.size near.meta.2.stored.well_made.size in
      omega (arith, ap capacity_of size, capacity_bounds d.page_size of_page)

  -- each page of an index has an item
  pub index_some : (root height : ℕ) (nodes : List ℕ) (items : List Item) → IsIndex d.pages root height nodes items → (j : ℕ) → 1 ≤ times j nodes → 1 ≤ length (items_of (page_at d.pages j))
  index_some root zero nodes items index j there = absurd (omega (arith, there, ap (λ u. times j u) index.1))
  index_some root (suc levels) nodes items index j there =
      let tree = tree_to d.pages levels 1 root index.tree in
      page_some (nodes_in d.pages) levels 1 root j (omega arith) (λ k more. wide k (used (nodes_in d.pages) levels 1 root k tree more)) tree (subst (λ u. 1 ≤ times j u) (index.nodes_are ∙ sym (nodes_same d.pages levels root)) there)

-- all pages pass after a removal
pub passes_removed : (T : Type 0) (a d : Paged) (cache m : ℕ) (nodes : List ℕ) (items : List Item) (key : List ℕ) (was : Option Link) → T → a.part < 2 ^ 16 → a.max_rows ≤ 400000 → 1 ≤ page_count a.pages → RemovesRootPages T a d cache m → RemovesIndex a.pages d.pages cache nodes items key was → PassesAll a → PassesAll d
passes_removed T a d cache m nodes items key was t part rows counted changes removes all =
    let same = changes.edits.same in
    let near = changes.passes t (near_all a part rows counted all) in
    let size = all.page_size ∙ sym same.page_size in
    let most = all.max_rows ∙ sym same.max_rows in
    let small = count_small d near.rows near.meta in
    record {
      shape = all.shape;
      page_size = size;
      max_rows = most;
      pass = all_there d all.shape size most near.meta (λ i some lt.
          let x = near.each i some lt in
          elim x.2 [
            | inl passes ↦ (x.0, x.1, passes)
            | inr named ↦
                let here : page_at d.pages i ≡ x.0 = page_at-below d.pages i lt ∙ ap bytes_of x.1 in
                elim (cases_lt 0 (times i nodes)) [
                  | inr none ↦ (let old = page_there a i all (omega (arith, lt, removes.gives.count)) in
                      there_still a d same i (removes.others i (λ e. omega (arith, e, some)) (omega (arith, none))) (old.0, old.1, page_passes a i old.0 all (omega (arith, lt, removes.gives.count)) old.1))
                  | inl in_tree ↦ elim (cases_lt 0 (times i removes.nodes_now)) [
                    | inl still ↦ named_passes d i x.0 near.part some (omega (arith, lt, small)) x.1 named (subst (λ (q : List ℕ). 1 ≤ length (items_of q)) here (index_some d near (root_of d.pages cache) removes.height removes.nodes_now (remove_in items key) removes.index i (omega (arith, still))))
                    | inr gone ↦ absurd (let kind = ap kind_of (sym here) ∙ (removes.gives.reuse i (omega (arith, in_tree, gone, removes.counted i))).1 in elim named.well_made.head.kind [ inl k ↦ omega (arith, k, kind) | inr k ↦ omega (arith, k, kind) ])
                  ]
                ]
          ]);
    }
