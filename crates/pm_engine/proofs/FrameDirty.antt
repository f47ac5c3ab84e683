-- The pages that a checkpoint of an open store writes are those that stay in their frames.
use Rattle.std.proofs.Common.{◌≡◌, inl, inr, ℕ, ◌<◌, ◌≤◌, List, [], ◌∷◌, true, refl, sym, ap, subst, ◌∙◌, arith}
use Rattle.std.specs.Prelude.{◌^◌, ◌↔◌, All}
use Rattle.std.proofs.lemmas.List.Elements.{All-head, All-tail}
use Rattle.pm_types.specs.declared.shape.Shape.{Shape}
use Rattle.pm_types.specs.Ids.{page_id, part_of_id, index_of_id}
use Rattle.pm_disk.specs.Worlds.{World}
use Rattle.pm_core.specs.PageSets.{has_index}
use Rattle.pm_stripe.specs.declared.stripe.Stripe.{Stripe}
use Rattle.pm_stripe.specs.Kept.{IsPageOf, page_bytes}
use Rattle.pm_stripe.specs.Stripes.{kept, file_in}
use Rattle.pm_ckpt.specs.declared.frame_page.FramePage.{FramePage}
use Rattle.pm_ckpt.specs.Dirty.{AreResting, dirty_frames}
use Rattle.pm_ckpt.specs.Frames.{names_of}
use Rattle.pm_ckpt.specs.Staying.{ListsStaying}
use Rattle.pm_ckpt.proofs.DirtyPages.{IsListed, all_listed, kept_of}
use Rattle.pm_ckpt.proofs.Home.{first_or}
use Rattle.pm_ckpt.proofs.StayingPages.{dirty_stays}
use Rattle.pm_engine.specs.FrameDirty.{ListsDirty, dirty_names, dirty_bytes}
use Rattle.pm_engine.specs.FrameStores.{FrameStoreView, IsOpenStore, IsFrameStore, IsDirtyPage, pages_in_frames}
use Rattle.pm_engine.proofs.FrameCheckpoints.{own_page, shape_is_one, store_rests}
use Rattle.pm_engine.proofs.FrameSteps.{cut_there}
use Rattle.pm_engine.proofs.PageNames.{part_named, index_named}

-- one of these pages has this partition and index
found_page : (P : FramePage → Type 0) (part index : ℕ) (xs : List FramePage) → All P xs → has_index part index (names_of xs) ≡ true → (x : FramePage) × P x × (part_of_id x.page ≡ part) × (index_of_id x.page ≡ index)
found_page P part index [] all has = absurd cc
found_page P part index (x ∷ xs) all has = elim (first_or part index x.page (names_of xs) has) [
  | inl it ↦ (x, All-head P x xs all, it.0, it.1)
  | inr later ↦ found_page P part index xs (All-tail P x xs all) later
]

module _ (store : FrameStoreView) (is : IsFrameStore store) (on : IsOpenStore store) (empty : store.stripe.outbox ≡ []) where
  abbrev stripes : List Stripe
  stripes = store.stripe ∷ []

  resting : AreResting store.locks store.shape store.seat stripes
  resting = store_rests store is on empty

  lists : ListsStaying store.locks store.shape store.seat stripes
  lists = dirty_stays store.locks store.shape store.seat stripes resting is.seat

  few : store.shape.partitions ≤ 64
  few = (shape_is_one store on).partitions_to

  -- ---- a page of the store, by its partition and index

  module _ (part index : ℕ) (below : part < store.shape.partitions) (low : index < 2 ^ 32) where
    own : IsPageOf store.locks.workers store.shape.partitions 0 (page_id part index)
    own = own_page store.locks.workers store.shape.partitions 0 part index on.workers refl few below low

    part_is : part_of_id (page_id part index) ≡ part
    part_is = part_named part index (omega (arith, below, few)) low

    index_is : index_of_id (page_id part index) ≡ index
    index_is = index_named part index low

    listed : (has_index part index (dirty_names store) ≡ true) ↔ IsDirtyPage store (page_id part index)
    listed =
        subst (λ (q : ℕ × ℕ). (has_index q.0 q.1 (dirty_names store) ≡ true) ↔ IsDirtyPage store (page_id part index))
        {x = (part_of_id (page_id part index), index_of_id (page_id part index))} {y = (part, index)} (λ i. (part_is i, index_is i))
        (lists.listed 0 store.stripe (page_id part index) refl own)

    same_bytes : (world : World) → has_index part index (dirty_names store) ≡ true → dirty_bytes store part index ≡ pages_in_frames store world part index
    same_bytes world has =
        let file = file_in store.stripe world in
        let x = page_bytes file (kept store.stripe store.seat) (page_id part index) in
        (λ i. dirty_bytes store (sym part_is i) (sym index_is i)) ∙ lists.bytes 0 store.stripe (page_id part index) refl own (listed.0 has) file
        ∙ sym (cut_there store.shape part index x below low)

  -- ---- all of them

  names_inside : (part index : ℕ) → has_index part index (dirty_names store) ≡ true → (part < store.shape.partitions) × (index < 2 ^ 32)
  names_inside part index has =
      let x = found_page (IsListed store.locks store.shape store.seat stripes) part index (dirty_frames store.locks stripes store.seat.view) (all_listed store.locks store.shape store.seat stripes resting is.seat) has in
      let k = kept_of store.locks store.shape store.seat stripes resting is.seat x.0 x.1 in
      let shaped = ap (λ (s : Shape). s.partitions) (resting.each _ x.1.stripe x.1.at).shaped in
      (omega (arith, k.own.part, x.2, shaped), omega (arith, x.3))

  pub lists_dirty : ListsDirty store (dirty_names store) (dirty_bytes store)
  lists_dirty = record {
    names_are = record { once = lists.once; each = listed };
    inside = names_inside;
    bytes_are = λ world part index has. let at = names_inside part index has in same_bytes part index at.0 at.1 world has;
  }
