-- An operation of a worker over its page frames, from its begin to its end.
use Rattle.std.proofs.Common.{◌≡◌, ◌≢◌, ℕ, ◌+◌, ◌<◌, ◌≤◌, Bool, true, false, List, [], ◌⊎◌, ⊎_elim, inl, inr, length, Option, None, Some, sym, refl, ap, subst, ◌∙◌, arith, cond}
use Rattle.std.specs.Prelude.{◌^◌, IsTrue, slice_get, ◌&&◌, nat_lt, nat_le, if◌then◌else◌, take, drop}
use Rattle.std.proofs.lemmas.Bool.{false≢true, ltb-true, leb-true, lt-ltb}
use Rattle.std.proofs.lemmas.List.{length-take-le, length-drop}
use Rattle.pm_types.specs.Pages.{SameOutside}
use Rattle.pm_types.specs.Spans.{Coverage, Covers}
use Rattle.pm_types.specs.declared.page_id.PageId.{PageId}
use Rattle.pm_types.specs.declared.shape.Shape.{Shape}
use Rattle.pm_types.specs.Ids.{page_id, index_of_id, part_of_id}
use Rattle.pm_disk.specs.Files.{bytes_of}
use Rattle.pm_disk.specs.Moments.{History}
use Rattle.pm_disk.specs.States.{DeviceState, IsLaterState}
use Rattle.pm_disk.specs.Worlds.{pages_in, page_at}
use Rattle.pm_records.specs.Records.{Record}
use Rattle.pm_pages.specs.Asked.{is_changed}
use Rattle.pm_pages.specs.KeptPages.{IsPageOf}
use Rattle.pm_pages.specs.Paged.{AllReadable}
use Rattle.pm_locks.specs.Sight.{LockTable, Sight}
use Rattle.pm_stripe.specs.declared.bound.Bound.{Bound}
use Rattle.pm_stripe.specs.declared.held.Held.{Held}
use Rattle.pm_stripe.specs.declared.stripe.Stripe.{Stripe}
use Rattle.pm_stripe.specs.Bases.{KeepsBases}
use Rattle.pm_stripe.specs.Begins.{IsOwnPart, MayBegin}
use Rattle.pm_stripe.specs.Bounds.{SameButPart}
use Rattle.pm_stripe.specs.ChangedPages.{ChangedPage}
use Rattle.pm_stripe.specs.Covers.{NotesChanges}
use Rattle.pm_stripe.specs.Dones.{EndsOperation}
use Rattle.pm_stripe.specs.Kept.{Kept, held_at, page_bytes, is_known, known_by, place_of, Holds, IsStaying}
use Rattle.pm_stripe.specs.Listings.{GrowsByOperation, IsChangedPage, MayBeLogical}
use Rattle.pm_stripe.specs.Moves.{AreOfPart, HasOperation}
use Rattle.pm_stripe.specs.Puts.{AreToldCovered}
use Rattle.pm_stripe.specs.Reads.{stored, stored_at}
use Rattle.pm_stripe.specs.Shown.{kept_by, file_by, paged, patch_of, shown, KeepsOthers, IsReady, KeepsBound}
use Rattle.pm_stripe.specs.Sights.{KeepsSight}
use Rattle.pm_stripe.specs.SightLaws.{sight_then}
use Rattle.pm_stripe.specs.Stripes.{kept, file_of}
use Rattle.pm_stripe.proofs.CoveredPages.{are_covered}
use Rattle.pm_stripe.proofs.Hands.{found_at}
use Rattle.pm_stripe.proofs.MarkedPages.{found}
use Rattle.pm_stripe.proofs.PlacedPages.{same_page}
use Rattle.pm_stripe.specs.HandLaws.{held_is}
use Rattle.pm_engine.specs.FrameCommands.{IsChangedIn, ChangesAsNoted, noted_in, frame_pages, part_seen, AreReadable, IsSameWorker, IsBetweenLines, KeepsSeat, ChangesNothing, IsHandedOver, EndsFrom, HandsOverChange}
use Rattle.pm_engine.proofs.FrameChanges.{page_stays, page_now, page_long, page_name, page_logged, staying_back, others_same, noted_change, patch_size, at_end, long}
use Rattle.pm_engine.proofs.FrameReads.{readable_still, readable_beside}

-- ---- pages by partition and index

-- a page, where the store may have one of this partition and index
abbrev pub cut : Shape → ℕ → ℕ → Option (List ℕ) → Option (List ℕ)
cut shape part index o = if nat_lt part shape.partitions && nat_lt index (2 ^ 32) then o else None

within_both : (a b : Bool) → (a && b) ≡ true → (a ≡ true) × (b ≡ true)
within_both true true e = (refl, refl)
within_both true false e = absurd (false≢true e)
within_both false b e = absurd (false≢true e)

chosen : (b : Bool) (one other : Option (List ℕ)) → (b ≡ true → one ≡ other) → cond b one None ≡ cond b other None
chosen true one other same = same refl
chosen false one other same = refl

chosen_some : (b : Bool) (o : Option (List ℕ)) (bytes : List ℕ) → cond b o None ≡ Some bytes → o ≡ Some bytes
chosen_some true o bytes e = e
chosen_some false o bytes e = absurd (let bad : None ≡ Some bytes = e in cc bad)

chosen_there : (b : Bool) (o : Option (List ℕ)) → b ≡ true → cond b o None ≡ o
chosen_there true o e = refl
chosen_there false o e = absurd (false≢true e)

pub cut_same : (shape : Shape) (part index : ℕ) (o o' : Option (List ℕ)) → (part < shape.partitions → index < 2 ^ 32 → o ≡ o') → cut shape part index o ≡ cut shape part index o'
cut_same shape part index o o' same =
    chosen (nat_lt part shape.partitions && nat_lt index (2 ^ 32)) o o' (λ e.
    let both = within_both (nat_lt part shape.partitions) (nat_lt index (2 ^ 32)) e in same (ltb-true part shape.partitions both.0) (ltb-true index (2 ^ 32) both.1))

pub cut_some : (shape : Shape) (part index : ℕ) (o : Option (List ℕ)) (bytes : List ℕ) → cut shape part index o ≡ Some bytes → o ≡ Some bytes
cut_some shape part index o bytes e = chosen_some (nat_lt part shape.partitions && nat_lt index (2 ^ 32)) o bytes e

pub cut_there : (shape : Shape) (part index : ℕ) (o : Option (List ℕ)) → part < shape.partitions → index < 2 ^ 32 → cut shape part index o ≡ o
cut_there shape part index o below low =
    chosen_there (nat_lt part shape.partitions && nat_lt index (2 ^ 32)) o ((λ i. lt-ltb part shape.partitions below i && nat_lt index (2 ^ 32)) ∙ lt-ltb index (2 ^ 32) low)

-- ---- pages of the files

stored_long : (file : Option (List ℕ)) (at size : ℕ) (bytes : List ℕ) → stored_at file at size ≡ Some bytes → length bytes ≡ size
stored_long file at size bytes is = by_test (nat_le (at + size) (length (bytes_of file))) refl is
  where
    by_test : (b : Bool) → nat_le (at + size) (length (bytes_of file)) ≡ b → cond b (Some (take size (drop at (bytes_of file)))) None ≡ Some bytes → length bytes ≡ size
    by_test false e bad = absurd (let no : None ≡ Some bytes = bad in cc no)
    by_test true e good =
        let le : at + size ≤ length (bytes_of file) = leb-true (at + size) (length (bytes_of file)) e in
        let same : take size (drop at (bytes_of file)) ≡ bytes = (let q : Some (take size (drop at (bytes_of file))) ≡ Some bytes = good in cc q) in
        ap length (sym same) ∙ length-take-le size (drop at (bytes_of file)) (omega (arith, le, length-drop at (bytes_of file)))

file_long : (s : Stripe) (history : History) (id : PageId) (bytes : List ℕ) → file_of s history id ≡ Some bytes → length bytes ≡ s.shape.page_size
file_long s history id bytes is = by_files s.files is
  where
    by_files : (b : Bool) → cond b (stored history.world s.shape.page_size id) None ≡ Some bytes → length bytes ≡ s.shape.page_size
    by_files true e = stored_long (pages_in history.world (part_of_id id)) (page_at id s.shape.page_size) s.shape.page_size bytes e
    by_files false e = absurd (let bad : None ≡ Some bytes = e in cc bad)

-- ---- the calls of an operation

module _ {Q R : Type 0} (tells : Type 0) (history : R → History) (state : R → DeviceState) where
  -- Calls on the pages of a partition were made, by an operation that began when no page was in hand, and they noted
  -- what they changed.
  pub record HasCalled (part : ℕ) (b m : Bound Q R) : Type 0 where
    pub none_held : b.stripe.held.items ≡ []
    pub own : IsOwnPart b part
    pub holds : Holds b.locks.now (kept_by b)
    pub same : IsSameWorker tells history state b m
    pub outbox : m.stripe.outbox ≡ b.stripe.outbox
    pub part_is : m.part ≡ part
    pub ready : IsReady tells history state m
    pub others : KeepsOthers tells (file_by history b) (file_by history m) part (kept_by b) (kept_by m)
    pub bases : KeepsBases b.stripe.shape.page_size tells (file_by history b) (file_by history m) (kept_by b) (kept_by m)
    pub covered : AreToldCovered tells m.stripe.held.items
    pub staying : (id : PageId) → IsStaying (kept_by b) id → IsStaying (kept_by m) id

  -- where a partition was named
  module _ (part : ℕ) (b n : Bound Q R) (same : SameButPart b n) (at : n.part ≡ part) where
    kept_same : kept_by n ≡ kept_by b
    kept_same i = kept (same.stripe i) (same.seat i)

    file_same : file_by history n ≡ file_by history b
    file_same i = file_of (same.stripe i) (history (same.reader i))

    pub seen_same : shown history state n ≡ part_seen history state b part
    seen_same i = paged (file_same i) (state (same.reader i)).faults (at i) (kept_same i)

  -- and code over any pages was run
  module _ (part : ℕ) (b n m : Bound Q R) (same : SameButPart b n) (at : n.part ≡ part) (keeps : KeepsBound tells history state n m) where
    pub seen_then : shown history state m ≡ part_seen history state m part
    seen_then i = paged (file_by history m) (state m.reader).faults ((keeps.part ∙ at) i) (kept_by m)

    pub outbox_same : m.stripe.outbox ≡ b.stripe.outbox
    outbox_same = keeps.same.outbox ∙ ap (λ (s : Stripe). s.outbox) same.stripe

    pub worker_same : IsSameWorker tells history state b m
    worker_same = record {
      locks = keeps.locks ∙ same.locks;
      number = keeps.same.number ∙ ap (λ (s : Stripe). s.number) same.stripe;
      shape = keeps.same.shape ∙ ap (λ (s : Stripe). s.shape) same.stripe;
      files = keeps.same.files ∙ ap (λ (s : Stripe). s.files) same.stripe;
      is_running = keeps.same.is_running ∙ ap (λ (s : Stripe). s.is_running) same.stripe;
      world = λ t. keeps.world t ∙ ap (λ (r : R). (history r).world) same.reader;
      later = subst (λ (r : R). IsLaterState (state r) (state m.reader)) same.reader keeps.later;
      sight = subst (λ (p : LockTable × Sight). KeepsSight p.0 p.1.view m.seat.view) (λ i. ((same.locks i).now, same.seat i)) keeps.sight;
    }

    -- and it noted what it changed
    pub has_called : MayBegin tells history state b → IsOwnPart b part → IsReady tells history state n → NotesChanges tells (shown history state n) (shown history state m) → HasCalled part b m
    has_called begins own ready notes =
        let leaves = keeps.leaves ready in
        record {
          none_held = begins.none_held;
          own = own;
          holds = begins.bound.holds;
          same = worker_same;
          outbox = outbox_same;
          part_is = keeps.part ∙ at;
          ready = leaves.ready;
          others = subst (λ (p : (PageId → Option (List ℕ)) × ℕ × Kept). KeepsOthers tells p.0 (file_by history m) p.1 p.2 (kept_by m)) (λ i. (file_same part b n same at i, at i, kept_same part b n same at i)) leaves.others;
          bases = subst (λ (p : ℕ × (PageId → Option (List ℕ)) × Kept). KeepsBases p.0 tells p.1 (file_by history m) p.2 (kept_by m)) (λ i. ((same.stripe i).shape.page_size, file_same part b n same at i, kept_same part b n same at i)) leaves.bases;
          covered = are_covered tells history state n m ready (ap (λ (s : Stripe). s.held.items) same.stripe ∙ begins.none_held) keeps notes;
          staying = subst (λ (k : Kept). (id : PageId) → IsStaying k id → IsStaying (kept_by m) id) (kept_same part b n same at) leaves.staying;
        }

  module _ (part : ℕ) (b m c : Bound Q R) (called : HasCalled part b m) (ends : EndsOperation tells history state m c) where
    abbrev k : Kept
    k = kept_by b

    abbrev k' : Kept
    k' = kept_by m

    abbrev k2 : Kept
    k2 = kept_by c

    abbrev file : PageId → Option (List ℕ)
    file = file_by history b

    abbrev file' : PageId → Option (List ℕ)
    file' = file_by history m

    abbrev file2 : PageId → Option (List ℕ)
    file2 = file_by history c

    abbrev held : List Held
    held = m.stripe.held.items

    holds' : Holds m.locks.now k'
    holds' = called.ready.bound.holds

    -- the locks as at the begin
    holds_then : Holds b.locks.now k'
    holds_then = subst (λ l. Holds l.now k') called.same.locks holds'

    alone : AreOfPart part held
    alone = subst (λ p. AreOfPart p held) called.part_is called.ready.operates.alone

    shape_then : c.stripe.shape ≡ b.stripe.shape
    shape_then = ends.same.shape ∙ called.same.shape

    few : b.stripe.shape.partitions ≤ 2 ^ 16
    few = omega (arith, called.holds.shaped.partitions_to)

    -- ---- what is left

    pub same_worker : IsSameWorker tells history state b c
    same_worker = record {
      locks = ends.locks ∙ called.same.locks;
      number = ends.same.number ∙ called.same.number;
      shape = shape_then;
      files = ends.same.files ∙ called.same.files;
      is_running = ends.same.is_running ∙ called.same.is_running;
      world = λ t. ap (λ r. (history r).world) ends.reader ∙ called.same.world t;
      later = subst (λ r. IsLaterState (state b.reader) (state r)) (sym ends.reader) called.same.later;
      sight = sight_then b.locks.now b.seat.view m.seat.view c.seat.view called.same.sight (subst (λ l. KeepsSight l.now m.seat.view c.seat.view) called.same.locks ends.sight);
    }

    known_then : (id : PageId) → IsTrue (is_known k2 id) → IsTrue (is_known k' id)
    known_then id known = by_hand (held_at held id.0) refl
      where
        by_hand : (o : Option Held) → held_at held id.0 ≡ o → IsTrue (is_known k' id)
        by_hand None away = sym (ends.only id away) ∙ known
        by_hand (Some h) at = ap (λ (o : Option Held). known_by o (place_of k' id) k'.seat.view.entries k'.number) at

    pub between_lines : AllReadable (part_seen history state m part) → AreReadable history b → IsBetweenLines tells history state c
    between_lines here readable = record {
      bound = ends.bound;
      none_held = ends.none_held;
      readable = readable_still history state m c ends.same.shape known_then (λ id known. ends.pages id (inr known))
          (readable_beside history state tells b m part called.same.shape few called.others here readable);
    }

    -- ---- what was changed

    others_kept : (id : PageId) → (IsChangedIn held id → ⊥) → tells ⊎ IsTrue (is_known k2 id) → page_bytes file2 k2 id ≡ page_bytes file k id
    others_kept = others_same b.locks.now tells file file' part k k' called.none_held called.same.shape called.holds holds_then called.bases alone called.covered (file_long b.stripe (history b.reader)) file2 k2 ends.none_held ends.pages ends.only ends.put

    stays_back : (id : PageId) → IsStaying k2 id → IsStaying k id ⊎ IsChangedIn held id
    stays_back = staying_back b.locks.now tells file file' part k k' called.none_held called.same.shape called.holds holds_then called.bases alone called.covered (file_long b.stripe (history b.reader)) file2 k2 ends.none_held ends.pages ends.only ends.put

    keeps_seat : KeepsSeat b c
    keeps_seat = record { locks = same_worker.locks; shape = same_worker.shape; sight = same_worker.sight }

    stays_still : (id : PageId) → IsStaying k id → IsStaying k2 id
    stays_still id is = ends.staying id (called.staying id is)

    frame_same : (q index : ℕ) → (q < b.stripe.shape.partitions → index < 2 ^ 32 → page_bytes file2 k2 (page_id q index) ≡ page_bytes file k (page_id q index)) → frame_pages history c q index ≡ frame_pages history b q index
    frame_same q index same =
        ap (λ (s : Shape). cut s q index (page_bytes file2 k2 (page_id q index))) shape_then
        ∙ cut_same b.stripe.shape q index (page_bytes file2 k2 (page_id q index)) (page_bytes file k (page_id q index)) same

    pub nothing_changed : ((id : PageId) → IsChangedIn held id → ⊥) → c.stripe.outbox ≡ b.stripe.outbox → ChangesNothing tells history b c
    nothing_changed none outbox = record {
      seat = keeps_seat;
      outbox = outbox;
      still = stays_still;
      staying = λ id stay. ⊎_elim (λ was. was) (λ on. absurd (none id on)) (stays_back id stay);
      pages = λ id told. others_kept id (none id) told;
      told = λ t i q index. frame_same q index (λ _ _. others_kept (page_id q index) (none (page_id q index)) (inl t)) i;
    }

    -- a changed page, by its index
    hand_patch : (index : ℕ) → IsChangedIn held (page_id part index) → is_changed (noted_in held part index) ≡ true
    hand_patch index x =
        let h = x.changed.page in
        let id : h.page ≡ page_id part index = sym (ap (λ (p : ChangedPage). p.page) x.changed.is) ∙ x.is in
        let here : held_at held (page_id part index).0 ≡ Some h = ap (λ (p : PageId). held_at held p.0) (sym id) ∙ found b.locks.now k' holds_then x.changed.place h x.changed.at in
        ap (λ o. is_changed (patch_of o)) here ∙ ap is_changed x.changed.patched ∙ x.changed.some

    -- a page in hand of which a patch was noted
    pub record IsNotedHere (index : ℕ) (patch : Coverage) : Type 0 where
      pub place : ℕ
      pub page : Held
      pub at : slice_get held place ≡ Some page
      pub patched : page.patch ≡ Some patch
      pub id : page.page ≡ page_id part index
      pub low : index < 2 ^ 32

    noted_here : (index : ℕ) (patch : Coverage) → noted_in held part index ≡ Some patch → IsNotedHere index patch
    noted_here index patch noted = by_hand (held_at held (page_id part index).0) refl
      where
        by_hand : (o : Option Held) → held_at held (page_id part index).0 ≡ o → IsNotedHere index patch
        by_hand None away = absurd (let bad : None ≡ Some patch = ap patch_of (sym away) ∙ noted in cc bad)
        by_hand (Some h) at =
            let x = found_at held (page_id part index).0 h at in
            let name : h.page.0 ≡ (page_id part index).0 = held_is held (page_id part index).0 h at in
            record {
              place = x.0;
              page = h;
              at = x.1;
              patched = ap patch_of (sym at) ∙ noted;
              id = same_page h.page (page_id part index) name;
              low = omega (arith, name, alone x.0 h x.1, (holds_then.held x.0 h x.1).own.name.flag, called.own.there, few);
            }

    now_bytes : (index : ℕ) (patch : Coverage) (x : IsNotedHere index patch) → tells ⊎ IsTrue (is_known k2 (page_id part index)) → page_bytes file2 k2 (page_id part index) ≡ Some x.page.lease.bytes
    now_bytes index patch x told =
        ends.pages (page_id part index) told ∙ ap (page_bytes file' k') (sym x.id)
        ∙ at_end b.locks.now tells file file' part k k' called.none_held called.same.shape called.holds holds_then called.bases alone called.covered (file_long b.stripe (history b.reader)) x.place x.page x.at

    there_now : (index : ℕ) (patch : Coverage) (x : IsNotedHere index patch) → tells → frame_pages history c part index ≡ Some x.page.lease.bytes
    there_now index patch x t =
        cut_there c.stripe.shape part index (page_bytes file2 k2 (page_id part index)) (subst (λ (s : Shape). part < s.partitions) (sym shape_then) called.own.there) x.low
        ∙ now_bytes index patch x (inl t)

    as_noted : tells → ChangesAsNoted b.stripe.shape.page_size (frame_pages history b part) (frame_pages history c part) (noted_in held part)
    as_noted t = record {
      unchanged = λ index off. frame_same part index (λ _ _. others_kept (page_id part index) (λ x. false≢true (sym off ∙ hand_patch index x)) (inl t));
      there = λ index on. by_patch index (noted_in held part index) refl on;
      noted = λ index patch is.
          let x = noted_here index patch is in
          record {
            size_is = patch_size b.locks.now tells file file' part k k' called.none_held called.same.shape called.holds holds_then called.bases alone called.covered (file_long b.stripe (history b.reader)) x.place x.page x.at patch x.patched;
            within = λ whole before after was now.
                let same : x.page.lease.bytes ≡ after = (let e : Some x.page.lease.bytes ≡ Some after = sym (there_now index patch x t) ∙ now in cc e) in
                let was_page : page_bytes file k x.page.page ≡ Some before = ap (page_bytes file k) x.id ∙ cut_some b.stripe.shape part index (page_bytes file k (page_id part index)) before was in
                subst (λ (bytes : List ℕ). SameOutside (Covers patch) before bytes) same
                (noted_change b.locks.now tells file file' part k k' called.none_held called.same.shape called.holds holds_then called.bases alone called.covered (file_long b.stripe (history b.reader)) x.place x.page x.at patch x.patched (inl t) before was_page);
          };
    }
      where
        by_patch : (index : ℕ) (o : Option Coverage) → noted_in held part index ≡ o → is_changed o ≡ true → IsPageOf b.stripe.shape.page_size (frame_pages history c part index)
        by_patch index None is on = absurd (false≢true on)
        by_patch index (Some patch) is on =
            let x = noted_here index patch is in
            record {
              bytes = x.page.lease.bytes;
              is = there_now index patch x t;
              sized = long b.locks.now tells file file' part k k' called.none_held called.same.shape called.holds holds_then called.bases alone called.covered (file_long b.stripe (history b.reader)) x.place x.page x.at;
            }

    handed_over : (page : ChangedPage) → IsChangedPage held page → IsHandedOver history part b c page
    handed_over page is = record {
      name = page_name b.locks.now tells file file' part k k' called.none_held called.same.shape called.holds holds_then called.bases alone called.covered (file_long b.stripe (history b.reader)) file2 k2 ends.none_held ends.pages ends.only ends.put page is;
      long = page_long b.locks.now tells file file' part k k' called.none_held called.same.shape called.holds holds_then called.bases alone called.covered (file_long b.stripe (history b.reader)) file2 k2 ends.none_held ends.pages ends.only ends.put page is;
      staying = page_stays b.locks.now tells file file' part k k' called.none_held called.same.shape called.holds holds_then called.bases alone called.covered (file_long b.stripe (history b.reader)) file2 k2 ends.none_held ends.pages ends.only ends.put page is;
      bytes = page_now b.locks.now tells file file' part k k' called.none_held called.same.shape called.holds holds_then called.bases alone called.covered (file_long b.stripe (history b.reader)) file2 k2 ends.none_held ends.pages ends.only ends.put page is;
      logged = page_logged b.locks.now tells file file' part k k' called.none_held called.same.shape called.holds holds_then called.bases alone called.covered (file_long b.stripe (history b.reader)) file2 k2 ends.none_held ends.pages ends.only ends.put page is;
    }

    -- a page of another partition isn't among those that changed
    other_unchanged : (q index : ℕ) → q ≢ part → q < b.stripe.shape.partitions → index < 2 ^ 32 → IsChangedIn held (page_id q index) → ⊥
    other_unchanged q index ne below low x =
        let name = (handed_over x.page x.changed).name in
        let same : (page_id part (index_of_id x.page.page)).0 ≡ (page_id q index).0 = ap (λ (p : PageId). p.0) (sym name ∙ x.is) in
        let short : index_of_id x.page.page < 2 ^ 32 = omega arith in
        ne (omega (arith, same, low, short))

    pub elsewhere : tells → (q index : ℕ) → q ≢ part → frame_pages history c q index ≡ frame_pages history b q index
    elsewhere t q index ne = frame_same q index (λ below low. others_kept (page_id q index) (other_unchanged q index ne below low) (inl t))

    -- what it kept right before its end
    ends_from : EndsFrom tells history part held b c
    ends_from = record {
      kept = k';
      held_are = refl;
      shape = called.same.shape;
      holds = holds_then;
      operates = subst (λ (p : LockTable × ℕ). HasOperation p.0 p.1 k') {x = (m.locks.now, m.part)} {y = (b.locks.now, part)} (λ i. ((called.same.locks i).now, called.part_is i)) called.ready.operates;
      sight = called.same.sight;
      stayed = λ id is. (called.bases.stay id is).0;
      still = called.staying;
      files = file';
      pages = λ t id. ends.pages id (inl t);
    }

    pub hands_over : (line : ℕ) (rec : Option Record) → MayBeLogical rec → GrowsByOperation line rec held m.stripe.outbox c.stripe.outbox → HandsOverChange tells history line rec part b c
    hands_over line rec logical grows = record {
      seat = keeps_seat;
      logical = logical;
      held = held;
      before = ends_from;
      still = stays_still;
      grows = subst (λ (out : List ℕ). GrowsByOperation line rec held out c.stripe.outbox) called.outbox grows;
      changed = handed_over;
      staying = stays_back;
      others = others_kept;
      noted = as_noted;
      elsewhere = elsewhere;
    }
