-- After a round that handed nothing over as many pages stay in Dirty frames as before it.
use Rattle.std.proofs.Common.{◌≡◌, inl, inr, ℕ, zero, suc, ◌%◌, ◌<◌, ◌≤◌, List, [], ◌∷◌, ◌++◌, length, get_or, Bool, true, false, Option, refl, sym, ◌∙◌, ap, subst, arith}
use Rattle.std.specs.Prelude.{◌==◌, ◌↔◌, not, if◌then◌else◌, All, slice_get}
use Rattle.std.specs.Option.{option_and_then}
use Rattle.std.proofs.Math.Nat.{mod-one}
use Rattle.std.proofs.lemmas.Bool.{eqb-true, eq-eqb, false≢true}
use Rattle.std.proofs.lemmas.List.Elements.{All-head, All-tail}
use Rattle.pm_types.specs.declared.page_id.PageId.{PageId}
use Rattle.pm_types.specs.declared.shape.Shape.{Shape}
use Rattle.pm_types.specs.Ids.{part_of_id, index_of_id}
use Rattle.pm_records.specs.PageNames.{IsPageName}
use Rattle.pm_locks.specs.Views.{known_at}
use Rattle.pm_locks.specs.declared.view.View.{View}
use Rattle.pm_core.specs.PageSets.{AreOnce, has_index, has_page, without_page}
use Rattle.pm_stripe.specs.declared.places.Places.{Places}
use Rattle.pm_stripe.specs.declared.stripe.Stripe.{Stripe}
use Rattle.pm_stripe.specs.Kept.{IsPageOf}
use Rattle.pm_ckpt.specs.declared.frame_page.FramePage.{FramePage}
use Rattle.pm_ckpt.specs.Dirty.{AreResting, IsResting, dirty_below, dirty_frames, dirty_page, is_dirty, page_in, placed}
use Rattle.pm_ckpt.specs.Frames.{IsWholeSeat, names_of, owner_of}
use Rattle.pm_ckpt.specs.Staying.{ListsStaying}
use Rattle.pm_ckpt.proofs.DirtyPages.{IsListed, all_listed, kept_of, name_same}
use Rattle.pm_ckpt.proofs.Home.{first_or}
use Rattle.pm_ckpt.proofs.StayingPages.{dirty_stays}
use Rattle.pm_engine.specs.FrameStores.{FrameStoreView, IsDirtyPage, IsOpenStore, dirty_count}
use Rattle.pm_engine.proofs.FrameCheckpoints.{of_one}
use Rattle.pm_engine.proofs.PageNames.{has_own_index}

-- ---- lists of pages

-- without a page there are no more pages than with it
no_longer : (x : PageId) (ys : List PageId) → length (without_page x ys) ≤ length ys
no_longer x [] = omega arith
no_longer x (y ∷ ys) = by (y.0 == x.0) (no_longer x ys)
  where
    by : (b : Bool) → length (without_page x ys) ≤ length ys → length (let l : List PageId = if not b then y ∷ without_page x ys else without_page x ys in l) ≤ length (y ∷ ys)
    by true le = omega (arith, le)
    by false le = omega (arith, le)

-- and fewer, where it is among them
shorter : (x : PageId) (ys : List PageId) → has_page x ys ≡ true → length (without_page x ys) < length ys
shorter x [] has = absurd cc
shorter x (y ∷ ys) has = by (y.0 == x.0) has (shorter x ys)
  where
    by : (b : Bool) → (if b then true else has_page x ys) ≡ true → (has_page x ys ≡ true → length (without_page x ys) < length ys)
        → length (let l : List PageId = if not b then y ∷ without_page x ys else without_page x ys in l) < length (y ∷ ys)
    by true is rest = omega (arith, no_longer x ys)
    by false is rest = omega (arith, rest is)

-- each other one is among them still
others_stay : (x id : PageId) (ys : List PageId) → (x.0 == id.0) ≡ false → has_page id ys ≡ true → has_page id (without_page x ys) ≡ true
others_stay x id [] other has = absurd cc
others_stay x id (y ∷ ys) other has = by (y.0 == x.0) (y.0 == id.0) refl refl (others_stay x id ys other) has
  where
    by : (a b : Bool) → (y.0 == x.0) ≡ a → (y.0 == id.0) ≡ b → (has_page id ys ≡ true → has_page id (without_page x ys) ≡ true) → (if b then true else has_page id ys) ≡ true
        → has_page id (let l : List PageId = if not a then y ∷ without_page x ys else without_page x ys in l) ≡ true
    by true true same it rest is =
        let both : x.0 ≡ id.0 = sym (eqb-true _ _ same) ∙ eqb-true _ _ it in
        absurd (false≢true (sym other ∙ eq-eqb _ _ both))
    by true false same it rest is = rest is
    by false true same it rest is = ap (λ (b : Bool). if b then true else has_page id (without_page x ys)) it
    by false false same it rest is = ap (λ (b : Bool). if b then true else has_page id (without_page x ys)) it ∙ rest is

-- pages that stand once each, and are among others, are no more than these
pub no_more : (xs ys : List PageId) → AreOnce xs → ((id : PageId) → has_page id xs ≡ true → has_page id ys ≡ true) → length xs ≤ length ys
no_more [] ys once among = omega arith
no_more (x ∷ xs) ys once among =
    let here : has_page x (x ∷ xs) ≡ true = ap (λ (b : Bool). if b then true else has_page x xs) (eq-eqb x.0 x.0 refl) in
    omega (arith, shorter x ys (among x here), no_more xs (without_page x ys) once.1 (λ id has. by id (x.0 == id.0) refl has))
  where
    by : (id : PageId) (b : Bool) → (x.0 == id.0) ≡ b → has_page id xs ≡ true → has_page id (without_page x ys) ≡ true
    by id true same has =
        let named : id ≡ x = ap (λ n. let p : PageId = record { 0 = n } in p) (sym (eqb-true _ _ same)) in
        absurd (false≢true (sym once.0 ∙ subst (λ (p : PageId). has_page p xs ≡ true) named has))
    by id false other has = others_stay x id ys other (among id (ap (λ (b : Bool). if b then true else has_page id xs) other ∙ has))

-- ---- names of pages in frames

-- one of these pages has this name
named_page : (P : FramePage → Type 0) (id : PageId) (xs : List FramePage) → All P xs → has_page id (names_of xs) ≡ true → (x : FramePage) × P x × (x.page ≡ id)
named_page P id [] all has = absurd cc
named_page P id (x ∷ xs) all has = by (x.page.0 == id.0) refl has (named_page P id xs (All-tail P x xs all))
  where
    by : (b : Bool) → (x.page.0 == id.0) ≡ b → (if b then true else has_page id (names_of xs)) ≡ true → (has_page id (names_of xs) ≡ true → (y : FramePage) × P y × (y.page ≡ id))
        → (y : FramePage) × P y × (y.page ≡ id)
    by true same is rest = (x, All-head P x xs all, ap (λ n. let p : PageId = record { 0 = n } in p) (eqb-true _ _ same))
    by false other is rest = rest is

-- a page whose partition and index are among them is among them
indexed_page : (id : PageId) (xs : List FramePage) → IsPageName id → All (λ x. IsPageName x.page) xs → has_index (part_of_id id) (index_of_id id) (names_of xs) ≡ true → has_page id (names_of xs) ≡ true
indexed_page id [] name all has = absurd cc
indexed_page id (x ∷ xs) name all has = elim (first_or (part_of_id id) (index_of_id id) x.page (names_of xs) has) [
  | inl it ↦
      let same : x.page.0 ≡ id.0 = name_same x.page id (All-head (λ (y : FramePage). IsPageName y.page) x xs all) name it.0 it.1 in
      ap (λ (b : Bool). if b then true else has_page id (names_of xs)) (eq-eqb _ _ same)
  | inr later ↦ either (x.page.0 == id.0) (indexed_page id xs name (All-tail (λ (y : FramePage). IsPageName y.page) x xs all) later)
]
  where
    either : (b : Bool) → has_page id (names_of xs) ≡ true → (if b then true else has_page id (names_of xs)) ≡ true
    either true has = refl
    either false has = has

-- ---- stripes with the same pages

page_in_one : (s t : Stripe) → s.places ≡ t.places → (owner f : ℕ) → page_in (slice_get (s ∷ []) owner) f ≡ page_in (slice_get (t ∷ []) owner) f
page_in_one s t same zero f = ap (λ (p : Places). option_and_then (λ (page : Option PageId). page) (slice_get p.pages.items f)) same
page_in_one s t same (suc n) f = refl

-- a stripe's Dirty frames go by its places
pub same_below : (s t : Stripe) → s.places ≡ t.places → (view : View) (n : ℕ) → dirty_below (s ∷ []) view n ≡ dirty_below (t ∷ []) view n
same_below s t same view zero = refl
same_below s t same view (suc f) =
    let w = known_at view f in
    ap (λ xs. xs ++ dirty_page (s ∷ []) f w) (same_below s t same view f)
    ∙ ap (λ (o : Option PageId). dirty_below (t ∷ []) view f ++ (let l : List FramePage = if is_dirty w.flag then placed o f w.tag else [] in l)) (page_in_one s t same w.owner f)

-- a store's count goes by its stripe's places
pub count_by_places : (store : FrameStoreView) (t : Stripe) → t.places ≡ store.stripe.places → dirty_count store ≡ dirty_count (record store { stripe = t })
count_by_places store t same = ap (λ xs. length (names_of xs)) (same_below store.stripe t (sym same) store.seat.view (length store.locks.ranges))

-- ---- the pages that stay in an open store's frames

module _ (store : FrameStoreView) (whole : IsWholeSeat store.locks store.seat) (on : IsOpenStore store) where
  -- its stripe, as if all that its rounds handed over were sent
  abbrev sent : Stripe
  sent = record store.stripe { outbox = [] }

  abbrev pages : List FramePage
  pages = dirty_frames store.locks (sent ∷ []) store.seat.view

  resting : AreResting store.locks store.shape store.seat (sent ∷ [])
  resting = record {
    settled = on.settled;
    count = sym on.workers;
    each = of_one (IsResting store.locks store.shape store.seat) sent (record { number = on.number; shaped = on.shaped; rests = on.rests; idle = on.idle; sent = refl });
  }

  lists : ListsStaying store.locks store.shape store.seat (sent ∷ [])
  lists = dirty_stays store.locks store.shape store.seat (sent ∷ []) resting whole

  listed : All (IsListed store.locks store.shape store.seat (sent ∷ [])) pages
  listed = all_listed store.locks store.shape store.seat (sent ∷ []) resting whole

  -- a page with a name of a page of the store's is one of its worker's
  own_by : (id : PageId) → IsPageName id → part_of_id id < store.shape.partitions → IsPageOf store.locks.workers store.shape.partitions 0 id
  own_by id name part = record { name = name; part = part; worker = ap (λ n. part_of_id id % n) on.workers ∙ mod-one (part_of_id id) }

  own : (id : PageId) → has_page id (names_of pages) ≡ true → IsPageOf store.locks.workers store.shape.partitions 0 id
  own id has =
      let y = named_page (IsListed store.locks store.shape store.seat (sent ∷ [])) id pages listed has in
      let k = kept_of store.locks store.shape store.seat (sent ∷ []) resting whole y.0 y.1 in
      let shaped : y.1.stripe.shape ≡ store.shape = (resting.each (owner_of store.seat.view y.0.frame) y.1.stripe y.1.at).shaped in
      own_by id (subst IsPageName y.2 k.own.name) (subst (λ (q : PageId × Shape). part_of_id q.0 < q.1.partitions) (λ i. (y.2 i, shaped i)) k.own.part)

  -- a page that is listed stays
  pub listed_stays : (id : PageId) → has_page id (names_of pages) ≡ true → IsDirtyPage store id
  listed_stays id has = (lists.listed 0 sent id refl (own id has)).0 (has_own_index id (names_of pages) has)

  -- and one that stays is listed
  pub stays_listed : (id : PageId) → IsDirtyPage store id → has_page id (names_of pages) ≡ true
  stays_listed id stays =
      let k = on.rests.holds.kept id stays.frame stays.tag stays.kept in
      let mine = own_by id k.own.name (subst (λ (s : Shape). part_of_id id < s.partitions) on.shaped k.own.part) in
      indexed_page id pages k.own.name
      (λ n d lt. (kept_of store.locks store.shape store.seat (sent ∷ []) resting whole (get_or pages n d) (listed n d lt)).own.name)
      ((lists.listed 0 sent id refl mine).1 stays)

  pub counted_so : length (names_of pages) ≡ dirty_count store
  counted_so = ap (λ xs. length (names_of xs)) (same_below sent store.stripe refl store.seat.view (length store.locks.ranges))

  pub once_each : AreOnce (names_of pages)
  once_each = lists.once

-- where each page that stays in one store's frames does so in another's, it has no more
pub no_more_dirty : (old new : FrameStoreView) → IsWholeSeat old.locks old.seat → IsOpenStore old → IsWholeSeat new.locks new.seat → IsOpenStore new
    → ((id : PageId) → IsDirtyPage old id → IsDirtyPage new id) → dirty_count old ≤ dirty_count new
no_more_dirty old new whole on whole_new on_new stay =
    omega (
      arith,
      counted_so old whole on,
      counted_so new whole_new on_new,
      no_more (names_of (pages old whole on)) (names_of (pages new whole_new on_new)) (once_each old whole on)
          (λ id has. stays_listed new whole_new on_new id (stay id (listed_stays old whole on id has))),
    )

pub as_many_dirty : (old new : FrameStoreView) → IsWholeSeat old.locks old.seat → IsOpenStore old → IsWholeSeat new.locks new.seat → IsOpenStore new
    → ((id : PageId) → IsDirtyPage old id ↔ IsDirtyPage new id) → dirty_count old ≡ dirty_count new
as_many_dirty old new whole on whole_new on_new same =
    omega (
      arith,
      no_more_dirty old new whole on whole_new on_new (λ id. (same id).0),
      no_more_dirty new old whole_new on_new whole on (λ id. (same id).1),
    )
