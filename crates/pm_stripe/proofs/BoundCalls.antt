-- What the calls on pages that are bound keep, and what contracts see of the pages then.
use Rattle.std.proofs.Common.{◌≡◌, ℕ, ◌<◌, ◌≤◌, Bool, true, false, List, [], Option, Some, None, Result, Ok, sym, refl, ap, subst, ◌∙◌, arith}
use Rattle.std.specs.Prelude.{IsTrue, IfSome, IsErrOf}
use Rattle.std.specs.Vec.{vec_capacity}
use Rattle.pm_types.specs.declared.limits.TheConstants.{OP_PAGES}
use Rattle.pm_types.specs.declared.page_id.PageId.{PageId}
use Rattle.pm_types.specs.declared.fault.PageFault.{PageFault}
use Rattle.pm_types.specs.declared.fault.PageFault.TheVariants.{BadPage}
use Rattle.pm_types.specs.Ids.{page_id, part_of_id}
use Rattle.pm_types.specs.Spans.{Coverage}
use Rattle.pm_disk.specs.Moments.{History}
use Rattle.pm_disk.specs.States.{DeviceState, IsLaterState}
use Rattle.pm_pages.specs.Paged.{IsTold, IsThere, NoneLent, JoinsPatch, CoversByte, AsksPage, LendsNone, AsksInVain, IsPageIn, IsInHand, IsLent, MakesPage, NotesPatch, GivesUpPages, IsBadPage}
use Rattle.pm_locks.specs.Sight.{Sight}
use Rattle.pm_stripe.specs.declared.held.Held.{Held}
use Rattle.pm_stripe.specs.declared.stripe.Stripe.{Stripe}
use Rattle.pm_stripe.specs.declared.bound.Bound.{Bound}
use Rattle.pm_stripe.specs.Bases.{IsAllCovered}
use Rattle.pm_stripe.specs.ChangedPages.{is_changed}
use Rattle.pm_stripe.specs.Fetches.{Fetches}
use Rattle.pm_stripe.specs.GivenUp.{AreUnlent, GivesUpHeld}
use Rattle.pm_stripe.specs.HandLaws.{place_there, place_some}
use Rattle.pm_stripe.specs.Kept.{held_at, place_at, IsHeldIn}
use Rattle.pm_stripe.specs.Makes.{MakesAnew}
use Rattle.pm_stripe.specs.Moves.{ChangesOnePage}
use Rattle.pm_stripe.specs.ReplacedLaws.{moves_replaced}
use Rattle.pm_stripe.specs.Rewrites.{Replaces, LendsPage, NotesPage}
use Rattle.pm_stripe.specs.Shown.{is_lent, paged, kept_by, file_by, shown, IsReady, KeepsBound}
use Rattle.pm_stripe.specs.Sights.{KeepsSight}
use Rattle.pm_stripe.specs.SightLaws.{sight_refl}
use Rattle.pm_stripe.specs.ShownLaws.{after_moved, keeps_by, kept_then, same_file}
use Rattle.pm_stripe.specs.Stripes.{kept, SameButPages}
use Rattle.pm_stripe.proofs.Fetched.{some_held}
use Rattle.pm_stripe.proofs.MadePages.{kept_replaced, same_replaced, moves_fetched, moves_any}
use Rattle.pm_stripe.proofs.ShownPages as pages

-- a page that isn't there wasn't had
pub not_had : (result : Result Bool PageFault) → result ≡ Ok false → result ≡ Ok true → ⊥
not_had result is had = let bad : Ok true ≡ Ok false = sym had ∙ is in cc bad

-- the reader did nothing
pub same_state : (state : DeviceState) → IsLaterState state state
same_state state = record { later = omega arith; access = refl; usable = λ is. is }

module _ {Q R : Type 0} (tells : Type 0) (history : R → History) (state : R → DeviceState) where
  -- the partition that is meant is one of the store's
  pub part_small : (b : Bound Q R) → IsReady tells history state b → b.part < 65536
  part_small b ready = omega (arith, ready.operates.there, ready.bound.holds.shaped.partitions_to)

  -- a call on one page keeps what calls keep
  pub moved_keeps : (b : Bound Q R) (s : Stripe) (seat : Sight) (r : R) (id : PageId) → part_of_id id ≡ b.part → SameButPages b.stripe s
      → (tells → (history r).world ≡ (history b.reader).world) → IsLaterState (state b.reader) (state r) → KeepsSight b.locks.now b.seat.view seat.view
      → (IsReady tells history state b → ChangesOnePage b.locks.now tells (file_by history b) (kept_by b) (kept s seat) id)
      → KeepsBound tells history state b (record b { stripe = s; seat = seat; reader = r })
  moved_keeps b s seat r id in_part same world later sight m =
      let b' : Bound Q R = record b { stripe = s; seat = seat; reader = r } in
      keeps_by tells history state b b' refl refl refl same world later sight
      (λ ready. after_moved b.locks.now tells (file_by history b) (file_by history b') (state b.reader) (state r) b.part (kept_by b) (kept s seat) id
      (same_file tells history state b b' same world) later ready.bound.reads ready.bound.clean ready.operates in_part (m ready))

  -- and so does one that replaces a page in hand
  pub replaced_keeps : (b : Bound Q R) (t : Stripe) (id : PageId) (h h' : Held) → part_of_id id ≡ b.part → Replaces b.stripe t id h h'
      → h'.page ≡ h.page → h'.frame ≡ h.frame → h'.was.value.bytes ≡ h.was.value.bytes → h'.is_read ≡ h.is_read
      → (is_changed h'.patch ≡ false → is_changed h.patch ≡ false)
      → (IsHeldIn b.locks.now (kept_by b) h → IsHeldIn b.locks.now (kept_by b) h')
      → (IsAllCovered b.stripe.shape.page_size (Some h) → IsAllCovered b.stripe.shape.page_size (Some h'))
      → KeepsBound tells history state b (record b { stripe = t })
  replaced_keeps b t id h h' in_part r page frame was_same read_same unchanged still covered =
      moved_keeps b t b.seat b.reader id in_part (same_replaced b.stripe t id h h' r) (λ _. refl) (same_state (state b.reader)) (sight_refl b.locks.now b.seat.view)
      (λ ready.
      let lt = place_some b.stripe.held.items id.0 (some_held (held_at b.stripe.held.items id.0) h r.at) in
      let x = place_there b.stripe.held.items id.0 lt in
      let held : IsHeldIn b.locks.now (kept_by b) h = ready.bound.holds.held (place_at b.stripe.held.items id.0) h (x.2 ∙ sym x.1 ∙ r.at) in
      subst (λ k'. ChangesOnePage b.locks.now tells (file_by history b) (kept_by b) k' id) (sym (kept_replaced b.stripe t b.seat id h h' r))
      (moves_replaced b.locks.now (kept_by b) id h h' (vec_capacity t.held) r.at page frame tells (file_by history b)
      (subst (λ n. OP_PAGES ≤ n) (sym r.room) ready.bound.holds.held_room) ready.bound.holds (still held) ready.operates.frames was_same read_same unchanged covered))

-- a page was sought
module _ {Q R : Type 0} (tells : Type 0) (history : R → History) (state : R → DeviceState) (b : Bound Q R) (s : Stripe) (seat : Sight) (r : R) (i : ℕ) (result : Result Bool PageFault) (i32 : i < 4294967296) (ready : IsReady tells history state b)
    (same : SameButPages b.stripe s) (world : tells → (history r).world ≡ (history b.reader).world) (later : IsLaterState (state b.reader) (state r))
    (f : Fetches b.locks.now (kept_by b) (kept s seat) (page_id b.part i) tells (file_by history b (page_id b.part i)) result) where
  abbrev now : Bound Q R
  now = record b { stripe = s; seat = seat; reader = r }

  p16 : b.part < 65536
  p16 = part_small tells history state b ready

  told : tells → (j : PageId) → file_by history now j ≡ file_by history b j
  told = same_file tells history state b now same world

  in_part : part_of_id (page_id b.part i) ≡ b.part
  in_part = pages.in_part b.part i p16 i32

  pub keeps : KeepsBound tells history state b now
  keeps = moved_keeps tells history state b s seat r (page_id b.part i) in_part same world later f.sight
      (λ _. moves_fetched b.locks.now tells (file_by history b) (kept_by b) (kept s seat) (page_id b.part i) result f)

  pub asks : AsksPage tells (shown history state b) (shown history state now) i
  asks = pages.asks b.locks.now tells (file_by history b) (file_by history now) (state b.reader).faults (state r).faults b.part (kept_by b) (kept s seat) i result p16 i32 told later.later ready.bound.clean f

  pub none_lent : LendsNone (shown history state b) (shown history state now)
  none_lent = pages.none_lent b.locks.now tells (file_by history b) (file_by history now) (state b.reader).faults (state r).faults b.part (kept_by b) (kept s seat) i result p16 i32 told later.later ready.bound.clean f

  pub vain : (result ≡ Ok true → ⊥) → AsksInVain tells (shown history state b) (shown history state now) i
  vain = pages.vain b.locks.now tells (file_by history b) (file_by history now) (state b.reader).faults (state r).faults b.part (kept_by b) (kept s seat) i result p16 i32 told later.later ready.bound.clean f

  pub had_page : (h : Held) → held_at s.held.items (page_id b.part i).0 ≡ Some h → IsPageIn tells (shown history state b) i h.lease.bytes × IsInHand (shown history state now) i h.lease.bytes
  had_page = pages.had_page b.locks.now tells (file_by history b) (file_by history now) (state b.reader).faults (state r).faults b.part (kept_by b) (kept s seat) i result p16 i32 told later.later ready.bound.clean f

  pub gone : result ≡ Ok false → IsTold tells (shown history state b) i → (shown history state b).pages i ≡ None
  gone = pages.gone b.locks.now tells (file_by history b) (file_by history now) (state b.reader).faults (state r).faults b.part (kept_by b) (kept s seat) i result p16 i32 told later.later ready.bound.clean f

  pub bad : (named : PageId) → (result ≡ Ok true → ⊥) → IsErrOf result (BadPage named) → IsBadPage tells (shown history state b) i named
  bad = pages.bad b.locks.now tells (file_by history b) (file_by history now) (state b.reader).faults (state r).faults b.part (kept_by b) (kept s seat) i result p16 i32 told later.later ready.bound.clean f

  pub missing : result ≡ Ok false → (IsTold tells (shown history state b) i → i ≡ 0 → IsThere (shown history state b) i) → IsBadPage tells (shown history state b) i (page_id b.part i)
  missing = pages.missing b.locks.now tells (file_by history b) (file_by history now) (state b.reader).faults (state r).faults b.part (kept_by b) (kept s seat) i result p16 i32 told later.later ready.bound.clean f

  -- and lent
  module _ (t : Stripe) (x : LendsPage s t (page_id b.part i)) where
    abbrev lent_now : Bound Q R
    lent_now = record b { stripe = t; seat = seat; reader = r }

    pub lends : AsksPage tells (shown history state b) (shown history state lent_now) i × IsLent (shown history state lent_now) i
    lends =
        let P : Stripe → Type 0 = λ z. AsksPage tells (shown history state b) (shown history state (record b { stripe = z; seat = seat; reader = r })) i × IsLent (shown history state (record b { stripe = z; seat = seat; reader = r })) i in
        let L : List Held → Type 0 = λ hs. AsksPage tells (shown history state b) (paged (file_by history now) (state r).faults b.part (record (kept s seat) { held = hs; held_room = vec_capacity t.held })) i
        × IsLent (paged (file_by history now) (state r).faults b.part (record (kept s seat) { held = hs; held_room = vec_capacity t.held })) i in
        subst P (sym x.is.rest) (subst L (sym x.is.held)
        (pages.lends b.locks.now tells (file_by history b) (file_by history now) (state b.reader).faults (state r).faults b.part (kept_by b) (kept s seat) i result p16 i32 told later.later ready.bound.clean f x.page (vec_capacity t.held) x.is.at))

    pub lends_keeps : KeepsBound tells history state b lent_now
    lends_keeps = kept_then tells history state b now lent_now keeps
        (replaced_keeps tells history state now t (page_id b.part i) x.page (record x.page { is_lent = true }) in_part x.is refl refl refl refl (λ e. e)
        (λ held. record {
          own = held.own;
          frame = held.frame;
          out = held.out;
          was_long = held.was_long;
          patched = held.patched;
          unlent = λ e. absurd (cc e);
          from_frame = λ e. let y = held.from_frame e in record { kept = y.kept; follows = y.follows; last = y.last; taken = y.taken };
          from_file = λ e. let y = held.from_file e in record { unkept = y.unkept; bare = y.bare; empty = y.empty; passes = y.passes };
        })
        (λ all. all))

-- the size of a patch that was joined
joined_size : (size : ℕ) (old : Option Coverage) (patch joined : Coverage) → IfSome old (λ p. p.page_size ≡ size) → patch.page_size ≡ size → JoinsPatch old patch joined → joined.page_size ≡ size
joined_size size None patch joined was is joins = ap (λ (p : Coverage). p.page_size) joins ∙ is
joined_size size (Some old) patch joined was is joins = joins.size ∙ was

-- what a patch covers is covered once it was joined
joined_all : (size : ℕ) (old : Option Coverage) (patch joined : Coverage) → JoinsPatch old patch joined → ((n : ℕ) → n < size → CoversByte old n) → (n : ℕ) → n < size → CoversByte (Some joined) n
joined_all size None patch joined joins all n lt = absurd (all n lt)
joined_all size (Some old) patch joined joins all n lt = joins.keeps n (all n lt)

-- a patch was joined to that of a page in hand
module _ {Q R : Type 0} (tells : Type 0) (history : R → History) (state : R → DeviceState) (b : Bound Q R) (t : Stripe) (i : ℕ) (patch : Coverage) (in_part : part_of_id (page_id b.part i) ≡ b.part) (size : patch.page_size ≡ b.stripe.shape.page_size) (x : NotesPage b.stripe t (page_id b.part i) patch) where
  pub notes : NotesPatch tells (shown history state b) (shown history state (record b { stripe = t })) i patch
  notes =
      let P : Stripe → Type 0 = λ z. NotesPatch tells (shown history state b) (shown history state (record b { stripe = z })) i patch in
      let L : List Held → Type 0 = λ hs. NotesPatch tells (shown history state b) (paged (file_by history b) (state b.reader).faults b.part (record (kept_by b) { held = hs; held_room = vec_capacity t.held })) i patch in
      subst P (sym x.is.rest) (subst L (sym x.is.held)
      (pages.notes b.locks.now tells (file_by history b) (state b.reader).faults b.part (kept_by b) i x.page patch x.joined (vec_capacity t.held) x.is.at x.joins))

  pub notes_keeps : IsTrue (is_lent (held_at b.stripe.held.items (page_id b.part i).0)) → KeepsBound tells history state b (record b { stripe = t })
  notes_keeps lent = replaced_keeps tells history state b t (page_id b.part i) x.page (record x.page { patch = Some x.joined }) in_part x.is refl refl refl refl x.changed
      (λ held. record {
        own = held.own;
        frame = held.frame;
        out = held.out;
        was_long = held.was_long;
        patched = joined_size b.stripe.shape.page_size x.page.patch patch x.joined held.patched size x.joins;
        unlent = λ e. absurd (let bad : true ≡ false = sym lent ∙ ap is_lent x.is.at ∙ e in cc bad);
        from_frame = λ e. let y = held.from_frame e in record { kept = y.kept; follows = y.follows; last = y.last; taken = y.taken };
        from_file = λ e. let y = held.from_file e in record { unkept = y.unkept; bare = y.bare; empty = y.empty; passes = λ c. y.passes (x.changed c) };
      })
      (joined_all b.stripe.shape.page_size x.page.patch patch x.joined x.joins)

-- a page was made anew
module _ {Q R : Type 0} (tells : Type 0) (history : R → History) (state : R → DeviceState) (b : Bound Q R) (s : Stripe) (seat : Sight) (i : ℕ) (ready : IsReady tells history state b) (in_part : part_of_id (page_id b.part i) ≡ b.part)
    (same : SameButPages b.stripe s) (m : MakesAnew b.locks.now (kept_by b) (kept s seat) (page_id b.part i)) where
  abbrev made_now : Bound Q R
  made_now = record b { stripe = s; seat = seat }

  pub makes : MakesPage tells (shown history state b) (shown history state made_now) i
  makes =
      pages.makes b.locks.now tells (file_by history b) (file_by history made_now) (state b.reader).faults b.part (kept_by b) (kept s seat) i ready.bound.clean
      (same_file tells history state b made_now same (λ _. refl)) m

  pub makes_keeps : KeepsBound tells history state b made_now
  makes_keeps = moved_keeps tells history state b s seat b.reader (page_id b.part i) in_part same (λ _. refl) (same_state (state b.reader)) m.sight
      (λ _. moves_any b.locks.now tells (file_by history b) (kept_by b) (kept s seat) (page_id b.part i) (m.moves (file_by history b)))

-- none of the pages in hand was lent, where none of the partition was
pub unlent : {Q R : Type 0} (tells : Type 0) (history : R → History) (state : R → DeviceState) (b : Bound Q R) → IsReady tells history state b → NoneLent (shown history state b) → AreUnlent b.stripe.held.items
unlent tells history state b ready = pages.none_was_lent b.locks.now (file_by history b) (state b.reader).faults b.part (kept_by b) ready.bound.holds ready.operates.alone

-- the pages in hand were given up
module _ {Q R : Type 0} (tells : Type 0) (history : R → History) (state : R → DeviceState) (b : Bound Q R) (s : Stripe) (seat : Sight) (ready : IsReady tells history state b)
    (same : SameButPages b.stripe s) (g : GivesUpHeld b.locks.now (kept_by b) (kept s seat)) (none : s.held.items ≡ []) (unlent_all : AreUnlent b.stripe.held.items) where
  abbrev given_now : Bound Q R
  given_now = record b { stripe = s; seat = seat }

  same_files : tells → (j : PageId) → file_by history given_now j ≡ file_by history b j
  same_files = same_file tells history state b given_now same (λ _. refl)

  pub gives_pages : GivesUpPages tells (shown history state b) (shown history state given_now)
  gives_pages = pages.gives_pages b.locks.now tells (file_by history b) (file_by history given_now) (state b.reader).faults b.part (kept_by b) (kept s seat) ready.bound.clean same_files g none

  pub gives_keeps : KeepsBound tells history state b given_now
  gives_keeps = keeps_by tells history state b given_now refl refl refl same (λ _. refl) (same_state (state b.reader)) g.sight
      (λ ready'. pages.after_given b.locks.now tells (file_by history b) (file_by history given_now) (state b.reader).faults b.part (kept_by b) (kept s seat) ready'.bound.clean same_files g none ready'.bound.holds unlent_all (state b.reader) ready'.bound.reads ready'.operates)
