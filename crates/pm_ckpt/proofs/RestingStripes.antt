-- Stripes rest over the frames that a checkpoint left, and what is Clean is as the files have it.
use Rattle.std.proofs.Common.{◌≡◌, inl, inr, ℕ, ◌+◌, ◌-◌, ◌*◌, List, [], ◌∷◌, length, take, drop, get_or, Bool, true, false, Option, Some, None, refl, sym, ◌∙◌, ap, subst, arith}
use Rattle.std.specs.Option.{option_map}
use Rattle.std.specs.Prelude.{◌≢◌, ◌⊎◌, ◌==◌, ◌&&◌, ◌%◌, nat_le, if◌then◌else◌, slice_get, All, Contains, IsTrue}
use Rattle.std.specs.FinMap as map
use Rattle.std.specs.List.Sorted.{IsPermutation}
use Rattle.std.proofs.lemmas.Bool.{cases_lt, eqb-true}
use Rattle.std.proofs.lemmas.List.{length-map, get_or-map}
use Rattle.std.proofs.lemmas.List.Elements.{All-contains, All-head, All-tail, All-map}
use Rattle.std.proofs.lemmas.List.Sorted.{All-permutation}
use Rattle.std.proofs.lemmas.Option.{same_Some}
use Rattle.pm_types.specs.declared.flag.Flag.TheVariants as flag
use Rattle.pm_types.specs.declared.page_id.PageId.{PageId}
use Rattle.pm_types.specs.declared.shape.Shape.{Shape}
use Rattle.pm_types.specs.Ids.{part_of_id, index_of_id}
use Rattle.pm_disk.specs.Files.{bytes_of}
use Rattle.pm_disk.specs.Moments.{History}
use Rattle.pm_disk.specs.Worlds.{World, pages_in}
use Rattle.pm_locks.specs.Sight.{Sight, LockTable, IsFrameOf}
use Rattle.pm_locks.specs.Views as views
use Rattle.pm_locks.specs.Views.{Has, all_numbers, known_at, entry_at, entry_or, out_at}
use Rattle.pm_locks.specs.Words.{LockWord, IsSpare, put_as}
use Rattle.pm_locks.specs.declared.view.Numbers.{Numbers}
use Rattle.pm_locks.specs.declared.view.Entry.{Entry}
use Rattle.pm_locks.proofs.Numbering.{whole_has}
use Rattle.pm_core.specs.BasePages.{page_in_file}
use Rattle.pm_core.specs.PageSets.{has_index}
use Rattle.pm_stripe.specs.Kept.{IsKeptPage, IsPageOf, IsStaying, AreClean, Holds, bytes_by, held_at, page_bytes, place_of, stays}
use Rattle.pm_stripe.specs.Reads.{Reads, stored}
use Rattle.pm_stripe.specs.Sights.{IsSettledFrame, IsSettledIn, AreSettled}
use Rattle.pm_stripe.specs.Stripes.{kept, file_in, file_of, IsAtRest}
use Rattle.pm_stripe.specs.declared.stripe.Stripe.{Stripe}
use Rattle.pm_ckpt.specs.declared.frame_page.FramePage.{FramePage}
use Rattle.pm_ckpt.specs.Dirty.{is_dirty, cleaned_word, dirty_frames, dirty_pages, dirty_held, AreResting, IsResting, AreReading}
use Rattle.pm_ckpt.specs.Frames.{IsWholeSeat, CleansFrames, names_of, owner_of, frame_bytes}
use Rattle.pm_ckpt.specs.Writes.{page_of, StoresPages}
use Rattle.pm_ckpt.proofs.CleanedFrames.{IsCleaned, are_cleaned, entry_cleaned, entry_before, entry_outside, owned_dirty, true_not_false}
use Rattle.pm_ckpt.proofs.Home.{index_of_own}
use Rattle.pm_ckpt.proofs.DirtyPages.{IsListed, dirty_or, own_place, staying_word, name_same, pages_listed, pages_held, is_among, kept_of, number_of}

dirty_not_clean : flag.Dirty ≡ flag.Clean → ⊥
dirty_not_clean e = cc e

-- ---- what a file has

pub stored_is : (w : World) (size : ℕ) (id : PageId) → stored w size id ≡ page_in_file size (pages_in w (part_of_id id)) (index_of_id id)
stored_is w size id =
    let at = index_of_id id * size in
    let bytes = bytes_of (pages_in w (part_of_id id)) in
    let e : at + size - at ≡ size = omega arith in
    ap (λ n. let o : Option (List ℕ) = if nat_le (at + size) (length bytes) then Some (take n (drop at bytes)) else None in o) (sym e)

-- no page of these has this partition and index
none_indexed : (part index : ℕ) (pages : List PageId) → All (λ page. (part_of_id page ≡ part) → (index_of_id page ≡ index) → ⊥) pages → has_index part index pages ≡ false
none_indexed part index [] all = refl
none_indexed part index (page ∷ pages) all =
    let P : PageId → Type 0 = λ x. (part_of_id x ≡ part) → (index_of_id x ≡ index) → ⊥ in
    by (part_of_id page == part) (index_of_id page == index) refl refl (All-head P page pages all) (none_indexed part index pages (All-tail P page pages all))
  where
    by : (a b : Bool) → (part_of_id page == part) ≡ a → (index_of_id page == index) ≡ b → ((part_of_id page ≡ part) → (index_of_id page ≡ index) → ⊥) → has_index part index pages ≡ false
        → (if a && b then true else has_index part index pages) ≡ false
    by true true p i apart rest = absurd (apart (eqb-true _ _ p) (eqb-true _ _ i))
    by true false p i apart rest = rest
    by false b p i apart rest = rest

-- and each of them is among them
pub one_indexed : (pages : List FramePage) (x : FramePage) → Contains pages x → has_index (part_of_id x.page) (index_of_id x.page) (names_of pages) ≡ true
one_indexed pages x has =
    let name = λ (p : FramePage). p.page in
    All-contains (λ (p : FramePage). has_index (part_of_id p.page) (index_of_id p.page) (names_of pages) ≡ true) pages x
    (λ k d lt.
    subst (λ (page : PageId). has_index (part_of_id page) (index_of_id page) (names_of pages) ≡ true) (get_or-map name pages k d d.page lt)
    (index_of_own (names_of pages) k d.page (omega (arith, lt, length-map pages name)))) has

module _ (locks : LockTable) (shape : Shape) (seat : Sight) (stripes : List Stripe) (resting : AreResting locks shape seat stripes) (whole : IsWholeSeat locks seat)
    (pages : List FramePage) (same : IsPermutation (dirty_frames locks stripes seat.view) pages) (after : Sight) (whole_after : IsWholeSeat locks after)
    (cleans : CleansFrames pages seat.view after.view) where
  module _ (n : ℕ) (s : Stripe) (at : slice_get stripes n ≡ Some s) where
    rest : IsResting locks shape seat n s
    rest = resting.each n s at

    holds : Holds locks (kept s seat)
    holds = rest.rests.holds

    has : Has seat.view s.number
    has = whole_has seat.view s.number whole.knows.whole (inl (omega (arith, holds.worker.below, whole.of.staff)))

    -- a page that was Dirty is listed
    pub listed : (id : PageId) (f tag : ℕ) (e : Entry) → place_of (kept s seat) id ≡ Some (f, tag) → IsFrameOf locks f → entry_at seat.view.entries s.number f ≡ Some e → (known_at seat.view f).flag ≡ flag.Dirty → owner_of seat.view f ≡ s.number
        → (x : FramePage) × (x.frame ≡ f) × (x.page ≡ id) × Contains pages x × (frame_bytes seat.view x.frame ≡ e.bytes)
    listed id f tag e place lt put dirty owner =
        let x = is_among locks shape seat stripes resting whole pages same f lt dirty in
        let l = All-contains (IsListed locks shape seat stripes) pages x.0 (pages_listed locks shape seat stripes resting whole pages same) x.2 in
        let number : owner_of seat.view x.0.frame ≡ n = ap (owner_of seat.view) x.1 ∙ owner ∙ rest.number in
        let stripe : l.stripe ≡ s = same_Some _ _ (sym l.at ∙ ap (slice_get stripes) number ∙ at) in
        let here = l.stripe.places.agree.kept x.0.page x.0.frame x.0.tag l.place in
        let there = s.places.agree.kept id f tag place in
        let page : x.0.page ≡ id =
        same_Some _ _ (same_Some _ _ (sym here ∙ ap (λ (t : Stripe). slice_get t.places.pages.items x.0.frame) stripe ∙ ap (slice_get s.places.pages.items) x.1 ∙ there)) in
        let bytes : frame_bytes seat.view x.0.frame ≡ e.bytes =
        ap (frame_bytes seat.view) x.1 ∙ ap (λ m. (entry_or (entry_at seat.view.entries m f)).bytes) owner ∙ ap (λ o. (entry_or o).bytes) put in
        (x.0, x.1, page, x.2, bytes)

    -- what is there of its entries
    now_at : (f : ℕ) (e : Entry) → IsFrameOf locks f → entry_at seat.view.entries s.number f ≡ Some e → IsCleaned (known_at seat.view f) s.number e (entry_at after.view.entries s.number f)
    now_at f e lt put = entry_cleaned locks shape seat stripes resting whole pages same after.view cleans s.number f e lt has put

    -- no page stays in its frame
    pub stays_none : (id : PageId) → IsStaying (kept s after) id → ⊥
    stays_none id x =
        let lt = (holds.kept id x.frame x.tag x.kept).frame in
        let was = entry_before locks shape seat stripes resting whole pages same after.view cleans s.number x.frame x.entry lt has x.at in
        elim was.2 [
          | inl own ↦
              let clean : stays x.entry.flag ≡ false = ap (λ (y : Entry). stays y.flag) (same_Some _ _ own.3) in
              absurd (true_not_false (sym x.stay ∙ clean))
          | inr other ↦
              let e : x.entry ≡ was.0 = same_Some _ _ other.1 in
              let d = staying_word seat.view x.frame s.number was.0 (resting.settled.each x.frame lt) has was.1 (subst (λ (y : Entry). IsTrue (stays y.flag)) e x.stay) in
              absurd (true_not_false (sym (owned_dirty (known_at seat.view x.frame) s.number d.0 d.1) ∙ other.0))
        ]

    -- a page that was there has the bytes that it had
    pub page_there : (old new : World) → StoresPages shape.page_size (dirty_held locks stripes seat.view) (names_of pages) old new → (id : PageId) → IsPageOf locks.workers shape.partitions n id → (bytes : List ℕ)
        → page_bytes (file_in s old) (kept s seat) id ≡ Some bytes → page_bytes (stored new s.shape.page_size) (kept s after) id ≡ Some bytes
    page_there old new stores id own bytes was = by (place_of (kept s seat) id) refl (sym (ap (λ o. bytes_by o (place_of (kept s seat) id) seat.view.entries s.number (file_in s old id)) none_held) ∙ was)
      where
        none_held : held_at s.held.items id.0 ≡ None
        none_held = ap (λ hs. held_at hs id.0) rest.rests.none_held

        size_is : s.shape.page_size ≡ shape.page_size
        size_is = ap (λ (sh : Shape). sh.page_size) rest.shaped

        now_is : stored new s.shape.page_size id ≡ page_in_file shape.page_size (pages_in new (part_of_id id)) (index_of_id id)
        now_is = ap (λ z. stored new z id) size_is ∙ stored_is new shape.page_size id

        was_stored : file_in s old id ≡ Some bytes → page_in_file shape.page_size (pages_in old (part_of_id id)) (index_of_id id) ≡ Some bytes
        was_stored is = of_file s.files is
          where
            of_file : (b : Bool) → (if b then stored old s.shape.page_size id else None) ≡ Some bytes → page_in_file shape.page_size (pages_in old (part_of_id id)) (index_of_id id) ≡ Some bytes
            of_file true there = sym (ap (λ z. stored old z id) size_is ∙ stored_is old shape.page_size id) ∙ there
            of_file false there = absurd cc

        apart : place_of (kept s seat) id ≡ None → All (λ (p : FramePage). (part_of_id p.page ≡ part_of_id id) → (index_of_id p.page ≡ index_of_id id) → ⊥) pages
        apart none j d lt part index =
            let x = get_or pages j d in
            let l = pages_listed locks shape seat stripes resting whole pages same j d lt in
            let place = own_place locks shape seat stripes resting whole n s at id own x l part index in
            let never : None ≡ Some (x.frame, x.tag) = sym none ∙ place.1 in
            absurd cc

        by : (o : Option (ℕ × ℕ)) → place_of (kept s seat) id ≡ o → bytes_by None (place_of (kept s seat) id) seat.view.entries s.number (file_in s old id) ≡ Some bytes
            → page_bytes (stored new s.shape.page_size) (kept s after) id ≡ Some bytes
        by None none is =
            let was_file : file_in s old id ≡ Some bytes = sym (ap (λ o. bytes_by None o seat.view.entries s.number (file_in s old id)) none) ∙ is in
            let absent = none_indexed (part_of_id id) (index_of_id id) (names_of pages)
            (All-map (λ (p : PageId). (part_of_id p ≡ part_of_id id) → (index_of_id p ≡ index_of_id id) → ⊥) (λ (p : FramePage). p.page) pages (apart none)) in
            (λ i. bytes_by (none_held i) (none i) after.view.entries s.number (stored new s.shape.page_size id))
            ∙ now_is ∙ stores.others (part_of_id id) (index_of_id id) bytes absent (was_stored was_file)
        by (Some (f, tag)) place is =
            let k = holds.kept id f tag place in
            let had : Some k.entry.bytes ≡ Some bytes =
            sym (ap (λ o. bytes_by None o seat.view.entries s.number (file_in s old id)) place ∙ ap (option_map (λ (e : Entry). e.bytes)) k.at) ∙ is in
            (λ i. bytes_by (none_held i) (place i) after.view.entries s.number (stored new s.shape.page_size id))
            ∙ elim (now_at f k.entry k.frame k.at) [
              | inl own ↦ ap (option_map (λ (e : Entry). e.bytes)) own.3 ∙ had
              | inr other ↦ ap (option_map (λ (e : Entry). e.bytes)) other.1 ∙ had
            ]

    -- ---- at rest

    module _ (reading : AreReading (dirty_held locks stripes seat.view) (dirty_pages locks stripes seat.view)) where
      reads : (id : PageId) (f tag : ℕ) (e : Entry) → place_of (kept s seat) id ≡ Some (f, tag) → IsFrameOf locks f → entry_at seat.view.entries s.number f ≡ Some e → (known_at seat.view f).flag ≡ flag.Dirty → owner_of seat.view f ≡ s.number
          → Reads id e.bytes
      reads id f tag e place lt put dirty owner =
          let x = listed id f tag e place lt put dirty owner in
          let held = dirty_held locks stripes seat.view in
          let there = All-contains (λ (p : FramePage). held (part_of_id p.page) (index_of_id p.page) ≡ Some (frame_bytes seat.view p.frame)) pages x.0
          (pages_held locks shape seat stripes resting whole pages same) x.3 in
          let bytes : page_of held x.0.page ≡ e.bytes = ap bytes_of there ∙ x.4 in
          subst (λ (p : PageId). Reads p e.bytes) x.2
          (subst (Reads x.0.page) bytes (All-contains (λ (p : FramePage). Reads p.page (page_of held p.page)) pages x.0 pages_read x.3))
        where
          frames_read : All (λ (p : FramePage). Reads p.page (page_of (dirty_held locks stripes seat.view) p.page)) (dirty_frames locks stripes seat.view)
          frames_read k d low =
              let all = dirty_frames locks stripes seat.view in
              let name = λ (p : FramePage). p.page in
              subst (λ (p : PageId). Reads p (page_of (dirty_held locks stripes seat.view) p)) (get_or-map name all k d d.page low) (reading k d.page (omega (arith, low, length-map all name)))

          pages_read : All (λ (p : FramePage). Reads p.page (page_of (dirty_held locks stripes seat.view) p.page)) pages
          pages_read = All-permutation (λ (p : FramePage). Reads p.page (page_of (dirty_held locks stripes seat.view) p.page)) (dirty_frames locks stripes seat.view) pages same frames_read

      kept_after : (id : PageId) (f tag : ℕ) → place_of (kept s seat) id ≡ Some (f, tag) → IsKeptPage locks s.shape s.number (entry_at after.view.entries s.number f) id f tag
      kept_after id f tag place =
          let k = holds.kept id f tag place in
          elim (now_at f k.entry k.frame k.at) [
            | inl own ↦
                record {
                  own = k.own;
                  frame = k.frame;
                  entry = record k.entry { flag = flag.Clean };
                  at = own.3;
                  tag_is = k.tag_is;
                  long = k.long;
                  some = λ e. cc e;
                  reads = λ clean. reads id f tag k.entry place k.frame k.at own.0 own.1;
                }
            | inr other ↦
                record {
                  own = k.own;
                  frame = k.frame;
                  entry = k.entry;
                  at = other.1;
                  tag_is = k.tag_is;
                  long = k.long;
                  some = k.some;
                  reads = k.reads;
                }
          ]

      stay_after : (f : ℕ) (e : Entry) → entry_at after.view.entries s.number f ≡ Some e → IsTrue (stays e.flag) → (id : PageId) × (place_of (kept s seat) id ≡ Some (f, e.tag))
      stay_after f e put stay = elim (cases_lt f (length locks.ranges)) [
        | inr out ↦
            let outside : IsFrameOf locks f → ⊥ = λ lt. omega (arith, lt, out) in
            holds.stay f e (sym (entry_outside locks shape seat stripes resting whole pages same after.view cleans s.number f outside) ∙ put) stay
        | inl lt ↦
            let was = entry_before locks shape seat stripes resting whole pages same after.view cleans s.number f e lt has put in
            elim was.2 [
              | inl own ↦
                  let clean : stays e.flag ≡ false = ap (λ (y : Entry). stays y.flag) (same_Some _ _ own.3) in
                  absurd (true_not_false (sym stay ∙ clean))
              | inr other ↦ holds.stay f e (was.1 ∙ sym other.1) stay
            ]
      ]

      pub rests_after : IsAtRest locks (kept s after)
      rests_after = record {
        holds = record {
          shaped = holds.shaped;
          frames = holds.frames;
          many = holds.many;
          worker = record {
            seat_of = whole_after.of;
            below = holds.worker.below;
            few = holds.worker.few;
            has = whole_has after.view s.number whole_after.knows.whole (inl (omega (arith, holds.worker.below, whole_after.of.staff)));
          };
          kept = kept_after;
          stay = stay_after;
          held = λ i h is. let never = none_at s.held.items i h rest.rests.none_held is in absurd never;
          free = λ i h is. let never = none_at s.free.items i h rest.rests.none_free is in absurd never;
          apart = record {
            names = holds.apart.names;
            held_once = holds.apart.held_once;
            free_once = holds.apart.free_once;
            both = holds.apart.both;
            all = λ f out is. let never : None ≡ Some out = sym (whole_after.still f) ∙ is in absurd cc;
          };
          held_room = holds.held_room;
          free_room = holds.free_room;
        };
        none_held = rest.rests.none_held;
        none_free = rest.rests.none_free;
      }
        where
          none_at : {X : Type 0} (xs : List X) (i : ℕ) (x : X) → xs ≡ [] → slice_get xs i ≡ Some x → ⊥
          none_at xs i x none is = let never = sym (ap (λ ys. slice_get ys i) none) ∙ is in absurd cc

    -- ---- as the files have it

    pub clean_stored : (old new : History) → StoresPages shape.page_size (dirty_held locks stripes seat.view) (names_of pages) old.world new.world → AreClean (file_of s old) (kept s seat)
        → AreClean (stored new.world s.shape.page_size) (kept s after)
    clean_stored old new stores clean = record {
      kept = λ id f tag e place put flagged. by id f tag e place put flagged;
      read = λ i h is. let never = sym (ap (λ ys. slice_get ys i) rest.rests.none_held) ∙ is in absurd cc;
    }
      where
        size_is : s.shape.page_size ≡ shape.page_size
        size_is = ap (λ (sh : Shape). sh.page_size) rest.shaped

        now_is : (id : PageId) → stored new.world s.shape.page_size id ≡ page_in_file shape.page_size (pages_in new.world (part_of_id id)) (index_of_id id)
        now_is id = ap (λ n. stored new.world n id) size_is ∙ stored_is new.world shape.page_size id

        -- where a file was read, it has that page
        was_stored : (id : PageId) (bytes : List ℕ) → file_of s old id ≡ Some bytes → page_in_file shape.page_size (pages_in old.world (part_of_id id)) (index_of_id id) ≡ Some bytes
        was_stored id bytes is = of_file s.files is
          where
            of_file : (b : Bool) → (if b then stored old.world s.shape.page_size id else None) ≡ Some bytes → page_in_file shape.page_size (pages_in old.world (part_of_id id)) (index_of_id id) ≡ Some bytes
            of_file true there = sym (ap (λ n. stored old.world n id) size_is ∙ stored_is old.world shape.page_size id) ∙ there
            of_file false there = absurd cc

        by : (id : PageId) (f tag : ℕ) (e : Entry) → place_of (kept s seat) id ≡ Some (f, tag) → entry_at after.view.entries s.number f ≡ Some e → e.flag ≡ flag.Clean → stored new.world s.shape.page_size id ≡ Some e.bytes
        by id f tag e place put flagged =
            let k = holds.kept id f tag place in
            elim (now_at f k.entry k.frame k.at) [
              | inl own ↦
                  let x = listed id f tag k.entry place k.frame k.at own.0 own.1 in
                  let held = dirty_held locks stripes seat.view in
                  let there = All-contains (λ (p : FramePage). held (part_of_id p.page) (index_of_id p.page) ≡ Some (frame_bytes seat.view p.frame)) pages x.0
                  (pages_held locks shape seat stripes resting whole pages same) x.3 in
                  let bytes : k.entry.bytes ≡ e.bytes = ap (λ (y : Entry). y.bytes) (same_Some _ _ (sym own.3 ∙ put)) in
                  let stands = stores.there (part_of_id x.0.page) (index_of_id x.0.page) (frame_bytes seat.view x.0.frame) (one_indexed pages x.0 x.3) there in
                  now_is id ∙ ap (λ (p : PageId). page_in_file shape.page_size (pages_in new.world (part_of_id p)) (index_of_id p)) (sym x.2) ∙ stands ∙ ap Some (x.4 ∙ bytes)
              | inr other ↦
                  let same_entry : k.entry ≡ e = same_Some _ _ (sym other.1 ∙ put) in
                  let was = clean.kept id f tag e place (k.at ∙ ap Some same_entry) flagged in
                  let apart = none_indexed (part_of_id id) (index_of_id id) (names_of pages)
                  (All-map (λ (p : PageId). (part_of_id p ≡ part_of_id id) → (index_of_id p ≡ index_of_id id) → ⊥) (λ (p : FramePage). p.page) pages
                  (others id f tag place (ap (λ (y : Entry). y.flag) same_entry ∙ flagged))) in
                  now_is id ∙ stores.others (part_of_id id) (index_of_id id) e.bytes apart (was_stored id e.bytes was)
            ]
          where
            others : (id : PageId) (f tag : ℕ) → (place : place_of (kept s seat) id ≡ Some (f, tag)) → (holds.kept id f tag place).entry.flag ≡ flag.Clean
                → All (λ (p : FramePage). (part_of_id p.page ≡ part_of_id id) → (index_of_id p.page ≡ index_of_id id) → ⊥) pages
            others id f tag place flagged j d lt part index =
                let x = get_or pages j d in
                let l = pages_listed locks shape seat stripes resting whole pages same j d lt in
                let k = holds.kept id f tag place in
                let page = kept_of locks shape seat stripes resting whole x l in
                let number : owner_of seat.view x.frame ≡ n =
                sym (number_of locks shape seat stripes resting whole x l) ∙ sym page.own.worker ∙ ap (λ m. m % locks.workers) part ∙ k.own.worker ∙ rest.number in
                let stripe : l.stripe ≡ s = same_Some _ _ (sym l.at ∙ ap (slice_get stripes) number ∙ at) in
                let name : x.page.0 ≡ id.0 = name_same x.page id page.own.name k.own.name part index in
                let places : Some (x.frame, x.tag) ≡ Some (f, tag) =
                sym l.place ∙ ap (λ (t : Stripe). place_of (kept t seat) x.page) stripe ∙ ap (λ m. map.get s.places.table.entries m) name ∙ place in
                let frame : x.frame ≡ f = ap (λ (p : ℕ × ℕ). p.0) (same_Some _ _ places) in
                let put : Some l.entry ≡ Some k.entry =
                sym l.put ∙ ap (λ m. entry_at seat.view.entries m x.frame) (number ∙ sym rest.number) ∙ ap (entry_at seat.view.entries s.number) frame ∙ k.at in
                absurd (dirty_not_clean (sym l.entry_flag ∙ ap (λ (y : Entry). y.flag) (same_Some _ _ put) ∙ flagged))

    pub clean_read : (old new : History) → s.files ≡ true → StoresPages shape.page_size (dirty_held locks stripes seat.view) (names_of pages) old.world new.world → AreClean (file_of s old) (kept s seat) → AreClean (file_of s new) (kept s after)
    clean_read old new files stores clean =
        let there = clean_stored old new stores clean in
        let same : (id : PageId) → file_of s new id ≡ stored new.world s.shape.page_size id =
        λ id. ap (λ (b : Bool). if b then stored new.world s.shape.page_size id else None) files in
        record {
          kept = λ id f tag e place put flagged. same id ∙ there.kept id f tag e place put flagged;
          read = λ i h is fresh bare. same h.page ∙ there.read i h is fresh bare;
        }

  -- no frame is Due or Done
  settled_after : AreSettled locks after.view
  settled_after = record {
    knows = whole_after.knows;
    each = λ f lt. by f lt (resting.settled.each f lt) (dirty_or (known_at seat.view f).flag);
  }
    where
      staff : after.view.workers ≡ seat.view.workers
      staff = whole_after.of.staff ∙ sym whole.of.staff

      has_before : (n : ℕ) → Has after.view n → Has seat.view n
      has_before n is = ap (λ (l : Numbers). views.is_among l n) (whole.knows.whole ∙ ap all_numbers (sym staff) ∙ sym whole_after.knows.whole) ∙ is

      word : (f : ℕ) → IsFrameOf locks f → known_at after.view f ≡ cleaned_word (known_at seat.view f)
      word f lt = (are_cleaned locks shape seat stripes resting whole pages same after.view cleans).words f lt

      others : (f : ℕ) → IsFrameOf locks f → IsSettledIn seat.view f → (n : ℕ) (e : Entry) → Has after.view n → n ≢ owner_of seat.view f → entry_at after.view.entries n f ≡ Some e → IsSpare e.flag
      others f lt k n e is ne put =
          let was = entry_before locks shape seat stripes resting whole pages same after.view cleans n f e lt (has_before n is) put in
          elim was.2 [
            | inl own ↦ absurd (ne (sym own.1))
            | inr other ↦ subst (λ (y : Entry). IsSpare y.flag) (sym (same_Some _ _ other.1)) (k.others n was.0 (has_before n is) ne was.1)
          ]

      by : (f : ℕ) → IsFrameOf locks f → IsSettledIn seat.view f → ((known_at seat.view f).flag ≡ flag.Dirty) ⊎ (is_dirty (known_at seat.view f).flag ≡ false) → IsSettledIn after.view f
      by f lt k (inl dirty) =
          let w = known_at seat.view f in
          let now : known_at after.view f ≡ put_as flag.Clean w = word f lt ∙ ap (λ (b : Bool). if b then put_as flag.Clean w else w) (ap is_dirty dirty) in
          let put : entry_at after.view.entries w.owner f ≡ Some (record k.last { flag = flag.Clean }) =
          elim (entry_cleaned locks shape seat stripes resting whole pages same after.view cleans w.owner f k.last lt (whole_has seat.view w.owner whole.knows.whole (inl k.worker)) k.at) [
            | inl own ↦ own.3
            | inr other ↦ absurd (true_not_false (sym (owned_dirty w w.owner dirty refl) ∙ other.0))
          ] in
          subst (λ (z : LockWord). IsSettledFrame after.view.workers after.view.numbers z (out_at after.view.outs f) (λ n. entry_at after.view.entries n f)) (sym now) (record {
            worker = omega (arith, k.worker, staff);
            not_due = λ e. cc e;
            not_done = λ e. cc e;
            home = λ _. refl;
            out = λ o is. (let never : None ≡ Some o = sym (whole_after.still f) ∙ is in absurd cc);
            last = record k.last { flag = flag.Clean };
            at = put;
            tag_is = k.tag_is;
            flag_is = refl;
            others = others f lt k;
          })
      by f lt k (inr clean) =
          let w = known_at seat.view f in
          let now : known_at after.view f ≡ w = word f lt ∙ ap (λ (b : Bool). if b then put_as flag.Clean w else w) clean in
          let put : entry_at after.view.entries w.owner f ≡ Some k.last =
          elim (entry_cleaned locks shape seat stripes resting whole pages same after.view cleans w.owner f k.last lt (whole_has seat.view w.owner whole.knows.whole (inl k.worker)) k.at) [
            | inl own ↦ absurd (true_not_false (sym (ap is_dirty own.0) ∙ clean))
            | inr other ↦ other.1
          ] in
          subst (λ (z : LockWord). IsSettledFrame after.view.workers after.view.numbers z (out_at after.view.outs f) (λ n. entry_at after.view.entries n f)) (sym now) (record {
            worker = omega (arith, k.worker, staff);
            not_due = k.not_due;
            not_done = k.not_done;
            home = λ _. k.home (whole.still f);
            out = λ o is. (let never : None ≡ Some o = sym (whole_after.still f) ∙ is in absurd cc);
            last = k.last;
            at = put;
            tag_is = k.tag_is;
            flag_is = k.flag_is;
            others = others f lt k;
          })

  pub resting_after : AreReading (dirty_held locks stripes seat.view) (dirty_pages locks stripes seat.view) → AreResting locks shape after stripes
  resting_after reading = record {
    settled = settled_after;
    count = resting.count;
    each = λ n s at.
        let r = resting.each n s at in
        record { number = r.number; shaped = r.shaped; rests = rests_after n s at reading; idle = r.idle; sent = r.sent };
  }
