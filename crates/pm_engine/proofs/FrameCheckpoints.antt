-- A checkpoint of an open store leaves one.
use Rattle.std.proofs.Common.{◌≡◌, ◌≢◌, ℕ, zero, suc, ◌<◌, ◌%◌, List, [], ◌∷◌, None, Option, Some, Result, Ok, true, false, refl, sym, ap, subst, ◌∙◌, arith}
use Rattle.std.specs.Option.{option_map}
use Rattle.std.specs.Prelude.{◌≤◌, ◌^◌, ◌==◌, ◌&&◌, Bool, if◌then◌else◌, IsTrue, slice_get}
use Rattle.std.proofs.lemmas.Bool.{false≢true, eq-eqb}
use Rattle.std.proofs.lemmas.Option.{same_Some}
use Rattle.std.proofs.Math.Nat.{mod-one}
use Rattle.pm_types.specs.declared.flag.Flag.{Flag}
use Rattle.pm_types.specs.declared.flag.Flag.TheVariants as flag
use Rattle.pm_types.specs.declared.page_id.PageId.{PageId}
use Rattle.pm_types.specs.declared.shape.Mark.{Mark}
use Rattle.pm_types.specs.declared.shape.Shape.{Shape}
use Rattle.pm_types.specs.Ids.{page_id, part_of_id, index_of_id}
use Rattle.pm_types.specs.Shapes.{IsShape}
use Rattle.pm_disk.specs.Moments.{History}
use Rattle.pm_disk.specs.Worlds.{pages_in}
use Rattle.pm_locks.specs.Sight.{Sight, LockTable}
use Rattle.pm_locks.specs.declared.view.Entry.{Entry}
use Rattle.pm_segments.specs.Ends.{LogEnd}
use Rattle.pm_core.specs.BasePages.{Partitions, page_in_file}
use Rattle.pm_core.specs.PageSets.{has_index, has_part}
use Rattle.pm_core.specs.States.{State}
use Rattle.pm_stripe.specs.declared.stripe.Stripe.{Stripe}
use Rattle.pm_stripe.specs.Kept.{Kept, AreClean, IsPageOf, IsStaying, held_at, place_of, bytes_by, page_bytes, stays}
use Rattle.pm_stripe.specs.Readable.{ReadsAtHand}
use Rattle.pm_stripe.specs.Reads.{stored}
use Rattle.pm_stripe.specs.Stripes.{kept, file_in, SameButFiles, IsAtRest}
use Rattle.pm_stripe.proofs.FileStripes.{rests_on_files}
use Rattle.pm_stripe.proofs.ReadableParts.{reads_by_parts}
use Rattle.pm_ckpt.specs.Checkpoints.{CanCheckpoint, MakesWhole}
use Rattle.pm_ckpt.specs.Dirty.{AreReading, AreResting, IsResting, LeavesFrames, dirty_held, dirty_pages}
use Rattle.pm_ckpt.specs.Frames.{IsWholeSeat}
use Rattle.pm_ckpt.proofs.RestingStripes.{stored_is}
use Rattle.pm_ckpt.proofs.StayingPages.{dirty_stays, stay_at_rest}
use Rattle.pm_engine.specs.FrameCheckpoints.{IsCheckpointed}
use Rattle.pm_engine.specs.FrameDirty.{ListsDirty, dirty_names, dirty_bytes}
use Rattle.pm_engine.specs.FrameStores.{FrameStoreView, IsOpenStore, IsFrameStore, IsDirtyPage, HasCleanPages}
use Rattle.pm_engine.specs.OutboxLogs.{AreOperationBytes}
use Rattle.pm_engine.proofs.FrameSteps.{cut_same, cut_some, cut_there}
use Rattle.pm_engine.proofs.PageNames.{is_named, part_named, index_named}

-- what is so of the one stripe is so of each
pub of_one : {X : Type 0} (P : ℕ → X → Type 0) (x : X) → P 0 x → (n : ℕ) (y : X) → slice_get (x ∷ []) n ≡ Some y → P n y
of_one P x is zero y at = subst (P 0) (same_Some _ _ at) is
of_one P x is (suc n) y at = absurd cc

-- an open store whose outbox is empty rests
pub store_rests : (store : FrameStoreView) → IsFrameStore store → IsOpenStore store → store.stripe.outbox ≡ [] → AreResting store.locks store.shape store.seat (store.stripe ∷ [])
store_rests store is on empty = record {
  settled = on.settled;
  count = sym on.workers;
  each = of_one (IsResting store.locks store.shape store.seat) store.stripe (record {
    number = on.number;
    shaped = on.shaped;
    rests = on.rests;
    idle = on.idle;
    sent = empty;
  });
}

-- the store's shape is one
pub shape_is_one : (store : FrameStoreView) → IsOpenStore store → IsShape store.shape
shape_is_one store on = subst IsShape on.shaped on.rests.holds.shaped

-- the stripe rests for a checkpoint of this shape
pub rests_for : (store : FrameStoreView) (shape : Shape) → IsFrameStore store → store.is_open ≡ true → store.stripe.outbox ≡ [] → shape ≡ store.shape → AreResting store.locks shape store.seat (store.stripe ∷ [])
rests_for store shape is opens empty same = subst (λ (s : Shape). AreResting store.locks s store.seat (store.stripe ∷ [])) (sym same) (store_rests store is (is.open_is opens) empty)

-- a frame that keeps a page, which doesn't stay there, is Clean
is_clean : (f : Flag) → f ≢ flag.Empty → (IsTrue (stays f) → ⊥) → f ≡ flag.Clean
is_clean flag.Empty some stay = absurd (some refl)
is_clean flag.Clean some stay = refl
is_clean flag.Dirty some stay = absurd (stay refl)
is_clean flag.Due some stay = absurd (stay refl)
is_clean flag.Done some stay = absurd (stay refl)

-- where no page stays in its frame, and what is Clean is as the files have it, each page is as they have it
page_by_file : (locks : LockTable) (k : Kept) (file : PageId → Option (List ℕ)) → IsAtRest locks k → ((id : PageId) → IsStaying k id → ⊥) → AreClean file k → (id : PageId) → page_bytes file k id ≡ file id
page_by_file locks k file rest none clean id = by (place_of k id) refl
  where
    held : held_at k.held id.0 ≡ None
    held = ap (λ hs. held_at hs id.0) rest.none_held

    by : (p : Option (ℕ × ℕ)) → place_of k id ≡ p → page_bytes file k id ≡ file id
    by None at = λ i. bytes_by (held i) (at i) k.seat.view.entries k.number (file id)
    by (Some (f, tag)) at =
        let x = rest.holds.kept id f tag at in
        let c : x.entry.flag ≡ flag.Clean = is_clean x.entry.flag x.some (λ s. none id (record { frame = f; tag = tag; entry = x.entry; kept = at; at = x.at; stay = s })) in
        (λ i. bytes_by (held i) (at i) k.seat.view.entries k.number (file id)) ∙ ap (option_map (λ (e : Entry). e.bytes)) x.at ∙ sym (clean.kept id f tag x.entry at x.at c)

-- where none of these pages has an index of a partition, none is of the partition
no_part : (part : ℕ) (pages : List PageId) → ((index : ℕ) → has_index part index pages ≡ true → ⊥) → has_part part pages ≡ false
no_part part [] none = refl
no_part part (page ∷ pages) none = by (part_of_id page == part) refl (no_part part pages (λ index has. none index (later index has)))
  where
    here : (part_of_id page == part) ≡ true → has_index part (index_of_id page) (page ∷ pages) ≡ true
    here own =
        ap (λ (b : Bool). if b && (index_of_id page == index_of_id page) then true else has_index part (index_of_id page) pages) own
        ∙ ap (λ (b : Bool). if b then true else has_index part (index_of_id page) pages) (eq-eqb (index_of_id page) (index_of_id page) refl)

    later : (index : ℕ) → has_index part index pages ≡ true → has_index part index (page ∷ pages) ≡ true
    later index has = among (part_of_id page == part && index_of_id page == index) has
      where
        among : (b : Bool) → has_index part index pages ≡ true → (if b then true else has_index part index pages) ≡ true
        among true has = refl
        among false has = has

    by : (b : Bool) → (part_of_id page == part) ≡ b → has_part part pages ≡ false → has_part part (page ∷ pages) ≡ false
    by true own rest = absurd (none (index_of_id page) (here own))
    by false other rest = ap (λ (b : Bool). if b then true else has_part part pages) other ∙ rest

-- a page of the store belongs to its one worker
pub own_page : (workers partitions number part index : ℕ) → workers ≡ 1 → number ≡ 0 → partitions ≤ 64 → part < partitions → index < 2 ^ 32 → IsPageOf workers partitions number (page_id part index)
own_page workers partitions number part index one none few below low =
    let here : part_of_id (page_id part index) ≡ part = omega (arith, low, below, few) in
    record {
      name = is_named part index (omega (arith, below, few)) low;
      part = omega (arith, here, below);
      worker = ap (λ n. part_of_id (page_id part index) % n) one ∙ mod-one (part_of_id (page_id part index)) ∙ sym none;
    }

module _ {T E : Type 0} (tells : Type 0) (before after : History) (u : T) (shape : Shape) (old : FrameStoreView) (is : IsFrameStore old) (on : IsOpenStore old) (empty : old.stripe.outbox ≡ []) (shape_is : shape ≡ old.shape) (seat : Sight)
    (leaves : LeavesFrames {T = T} {E = E} tells old.locks shape before after (Ok u) old.seat seat (old.stripe ∷ [])) (t : Stripe) (same : SameButFiles old.stripe t) (files : t.files ≡ true) where
  abbrev new : FrameStoreView
  new = record old { seat = seat; stripe = t; dirty = None }

  resting : AreResting old.locks shape old.seat (old.stripe ∷ [])
  resting = subst (λ (s : Shape). AreResting old.locks s old.seat (old.stripe ∷ [])) (sym shape_is) (store_rests old is on empty)

  reading : AreReading (dirty_held old.locks (old.stripe ∷ []) old.seat.view) (dirty_pages old.locks (old.stripe ∷ []) old.seat.view)
  reading = (dirty_stays old.locks shape old.seat (old.stripe ∷ []) resting is.seat).reading (λ x id. None)
      (of_one (λ n x. ReadsAtHand (λ id. None) old.locks.workers (kept x old.seat)) old.stripe on.readable)

  rests : AreResting old.locks old.shape seat (t ∷ [])
  rests = subst (λ (s : Shape). AreResting old.locks s seat (t ∷ [])) shape_is
      (stay_at_rest old.locks shape seat (old.stripe ∷ []) (t ∷ []) refl
      (λ n y z. of_one (λ m w. slice_get (t ∷ []) m ≡ Some z → SameButFiles w z × (z.files ≡ true)) old.stripe (λ at. subst (λ (w : Stripe). SameButFiles old.stripe w × (w.files ≡ true)) (same_Some _ _ at) (same, files)) n y)
      (leaves.rests reading))

  pages_same : kept t seat ≡ kept old.stripe seat
  pages_same = (rests_on_files old.stripe t seat same files).pages

  none_after : (id : PageId) → IsStaying (kept t seat) id → ⊥
  none_after id x = leaves.none_stays 0 old.stripe id refl (subst (λ k. IsStaying k id) pages_same x)

  pub store_after : IsFrameStore new
  store_after =
      let rest = rests.each 0 t refl in
      record {
        seat = leaves.seat;
        outbox = subst AreOperationBytes (sym same.outbox) is.outbox;
        counted = tt;
        open_is = λ _. record {
          workers = on.workers;
          number = rest.number;
          shaped = rest.shaped;
          settled = rests.settled;
          rests = rest.rests;
          idle = rest.idle;
          readable = reads_by_parts.none (λ id. None) old.locks.workers (kept t seat) rest.rests.none_held none_after;
        };
        frames = is.frames;
        size = is.size;
        ranges = is.ranges;
      }

  few : old.shape.partitions ≤ 64
  few = (shape_is_one old on).partitions_to

  read_now : file_in t after.world ≡ stored after.world old.stripe.shape.page_size
  read_now = (λ i id. (rests_on_files old.stripe t seat same files).files after.world id i) ∙ ap (λ (s : Shape). stored after.world s.page_size) same.shape

  clean_now : tells → HasCleanPages old before.world → HasCleanPages new after.world
  clean_now told clean = (rests_on_files old.stripe t seat same files).clean after.world ((leaves.clean told).in_files 0 old.stripe refl clean)

  there : tells → (part index : ℕ) → part < old.shape.partitions → index < 2 ^ 32 → (bytes : List ℕ) → page_bytes (file_in old.stripe before.world) (kept old.stripe old.seat) (page_id part index) ≡ Some bytes
      → page_bytes (file_in t after.world) (kept t seat) (page_id part index) ≡ Some bytes
  there told part index below low bytes was =
      let id = page_id part index in
      let own = own_page old.locks.workers shape.partitions 0 part index on.workers refl (subst (λ (s : Shape). s.partitions ≤ 64) (sym shape_is) few) (subst (λ (s : Shape). part < s.partitions) (sym shape_is) below) low in
      (λ i. page_bytes (read_now i) (pages_same i) id) ∙ leaves.pages told 0 old.stripe id bytes refl own was

  by_files : tells → HasCleanPages old before.world → (part index : ℕ) → part < old.shape.partitions → index < 2 ^ 32 → page_bytes (file_in t after.world) (kept t seat) (page_id part index) ≡ page_in_file old.shape.page_size (pages_in after.world part) index
  by_files told clean part index below low =
      let id = page_id part index in
      let part_is : part_of_id id ≡ part = part_named part index (omega (arith, below, few)) low in
      let index_is : index_of_id id ≡ index = index_named part index low in
      page_by_file old.locks (kept t seat) (file_in t after.world) (rests.each 0 t refl).rests none_after (clean_now told clean) id
      ∙ ap (λ (f : PageId → Option (List ℕ)). f id) read_now ∙ stored_is after.world old.stripe.shape.page_size id
      ∙ (λ i. page_in_file (on.shaped i).page_size (pages_in after.world (part_is i)) (index_is i))

  -- a partition of which no page is Dirty has none that is written
  none_named : ListsDirty old (dirty_names old) (dirty_bytes old) → (part : ℕ) → part < old.shape.partitions → ((index : ℕ) → index < 2 ^ 32 → IsDirtyPage old (page_id part index) → ⊥) → has_part part (dirty_names old) ≡ false
  none_named listed part below none =
      no_part part (dirty_names old) (λ index has. let at = listed.inside part index has in none index at.1 ((listed.names_are.each part index below at.1).0 has))

  pub checkpointed : ListsDirty old (dirty_names old) (dirty_bytes old) → IsCheckpointed tells before.world after.world old new
  checkpointed listed = record {
    shape = refl;
    region = refl;
    locks = refl;
    is_open = refl;
    outbox = same.outbox;
    files = files;
    none_dirty = none_after;
    pages = λ told part index bytes was.
        let id = page_id part index in
        let x = page_bytes (file_in old.stripe before.world) (kept old.stripe old.seat) id in
        let y = page_bytes (file_in t after.world) (kept t seat) id in
        let found : x ≡ Some bytes = cut_some old.shape part index x bytes was in
        cut_same old.shape part index y x (λ below low. there told part index below low bytes found ∙ sym found) ∙ was;
    alone = λ told part below none. leaves.alone told part (none_named listed part below none);
    clean = clean_now;
    as_files = λ told clean part index below low.
        cut_there old.shape part index (page_bytes (file_in t after.world) (kept t seat) (page_id part index)) below low
        ∙ by_files told clean part index below low;
  }

-- a store that isn't open any more
pub store_closed : (old : FrameStoreView) (seat : Sight) → IsFrameStore old → IsWholeSeat old.locks seat → IsFrameStore (record old { seat = seat; dirty = None; is_open = false })
store_closed old seat is whole = record { seat = whole; outbox = is.outbox; counted = tt; open_is = λ yes. absurd (false≢true yes); frames = is.frames; size = is.size; ranges = is.ranges }

-- ---- its steps, by the store's pages

-- from each state in which it may be made
abbrev pub MakesFrom : {T E : Type 0} → Type 0 → History → History → Result T E → LogEnd → Mark → Partitions → List PageId → Type 0
MakesFrom {T} {E} tells old new result log mark bytes names =
    tells → (wanted : Shape) (told : List ℕ → ℕ) (s : State) → (can : CanCheckpoint wanted told s log mark bytes names old.world) → MakesWhole {T = T} {E = E} told old new result log mark can.rebuilt bytes names s

pub makes_by_store : {T E : Type 0} (tells : Type 0) (old new : History) (result : Result T E) (log : LogEnd) (mark : Mark) (store view : FrameStoreView) (stripes : List Stripe) → stripes ≡ store.stripe ∷ [] → store ≡ view
    → MakesFrom {T = T} {E = E} tells old new result log mark (dirty_held store.locks stripes store.seat.view) (dirty_pages store.locks stripes store.seat.view) → MakesFrom {T = T} {E = E} tells old new result log mark (dirty_bytes view) (dirty_names view)
makes_by_store {T} {E} tells old new result log mark store view stripes one same makes =
    subst (λ (v : FrameStoreView). MakesFrom {T = T} {E = E} tells old new result log mark (dirty_bytes v) (dirty_names v)) same
    (subst (λ (xs : List Stripe). MakesFrom {T = T} {E = E} tells old new result log mark (dirty_held store.locks xs store.seat.view) (dirty_pages store.locks xs store.seat.view)) one makes)
