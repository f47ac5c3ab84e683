-- A page that is read into an empty frame.
use Rattle.std.proofs.Common.{◌≡◌, ◌≢◌, ℕ, ◌<◌, ◌≤◌, Bool, true, false, List, [], ◌∷◌, ◌++◌, ◌⊎◌, ⊎_elim, inl, inr, length, Option, Some, None, Result, Ok, sym, refl, ap, subst, ◌∙◌, arith}
use Rattle.std.specs.Prelude.{IfSome, slice_get, zero, suc}
use Rattle.std.proofs.lemmas.Bool.{cases_eq}
use Rattle.std.proofs.lemmas.Option.{slice_get_within}
use Rattle.std.proofs.lemmas.List.{length-append}
use Rattle.pm_types.specs.declared.flag.Flag.TheVariants as flag
use Rattle.pm_types.specs.declared.page_id.PageId.{PageId}
use Rattle.pm_types.specs.declared.shape.Shape.{Shape}
use Rattle.pm_types.specs.declared.fault.PageFault.{PageFault}
use Rattle.pm_types.specs.Ids.{part_of_id, index_of_id}
use Rattle.pm_types.specs.declared.limits.TheConstants.{OP_PAGES}
use Rattle.pm_types.specs.Spans.{Coverage}
use Rattle.pm_region.specs.Lease.{Leased}
use Rattle.pm_pages.proofs.ReadablePages.{passes_read}
use Rattle.pm_locks.specs.Answers.{IsSameLease}
use Rattle.pm_locks.specs.declared.view.Out.{Out}
use Rattle.pm_locks.specs.Sight.{LockTable}
use Rattle.pm_locks.proofs.Pushing.{slice_get-pushed, slice_get-push, slice_get-front}
use Rattle.pm_disk.specs.Moments.{History}
use Rattle.pm_disk.specs.States.{DeviceState}
use Rattle.pm_stripe.specs.declared.bound.Bound.{Bound}
use Rattle.pm_stripe.specs.declared.held.Held.{Held}
use Rattle.pm_stripe.specs.Bounds.{IsBound}
use Rattle.pm_stripe.specs.ChangedPages.{is_changed}
use Rattle.pm_stripe.specs.FilePages.{FilePagesPass}
use Rattle.pm_stripe.specs.declared.held.Free.{Free}
use Rattle.pm_stripe.specs.Reads.{Passes, Reads, ReadsPage}
use Rattle.pm_stripe.specs.Fetches.{IsUnkept, ReadsFrame}
use Rattle.pm_stripe.specs.Kept.{Kept, held_at, place_of, page_at, out_of, bytes_by, page_bytes, known_by, is_known, IsOutWith, IsFreeFrame, IsHeldIn, IsFreeIn, IsInHand, Holds, HasFrames, IsAway, read_one, bare_count, AreOnce}
use Rattle.pm_stripe.proofs.Hands.{once_push, or_else, held_push, held_push_else, one_here, one_else, none_named, read_push}

-- a page that passes its check reads as what it says
pub passes_reads : (shape : Shape) (id : PageId) (bytes : List ℕ) → Passes shape id bytes → Reads id bytes
passes_reads shape id = passes_read shape.page_size shape.max_rows (part_of_id id) (index_of_id id)

-- an empty frame with other bytes
pub refilled_free : (locks : LockTable) (size n : ℕ) (page : Option (Option PageId)) (held : Option Out) (s : Free) (lease : Leased) → IsSameLease s.lease lease → length lease.bytes ≡ size → IsFreeFrame locks size n page held s → IsFreeFrame locks size n page held (record s { lease = lease })
refilled_free locks size n page held s lease same long x = record {
  frame = x.frame;
  out = record { out = x.out.out; at = x.out.at; holder = x.out.holder; owner = x.out.owner; tag_is = x.out.tag_is; flag_is = x.out.flag_is; same = record { number = same.number ∙ x.out.same.number; range = same.range ∙ x.out.same.range }; long = long };
  bare = x.bare;
}

module _ (locks : LockTable) (k : Kept) (holds : Holds locks k) (ready : HasFrames k) (rest : List Free) (s : Free) (list : k.free ≡ s ∷ rest) (lease : Leased) (same : IsSameLease s.lease lease) (long : length lease.bytes ≡ k.shape.page_size) where
  abbrev last : Free
  last = record s { lease = lease }

  first_at : slice_get k.free 0 ≡ Some s
  first_at = ap (λ fs. slice_get fs 0) list

  rest_at : (i : ℕ) (x : Free) → slice_get rest i ≡ Some x → slice_get k.free (suc i) ≡ Some x
  rest_at i x is = ap (λ fs. slice_get fs (suc i)) list ∙ is

  -- the frame of the first is none of the others
  rest_other : (i : ℕ) (x : Free) → slice_get rest i ≡ Some x → x.frame ≢ s.frame
  rest_other i x is e = let at : suc i ≡ 0 = holds.apart.free_once.once (suc i) 0 x s (rest_at i x is) first_at e in omega (arith, at)

  rest_once : AreOnce (λ (x : Free). x.frame) rest
  rest_once = record { once = λ i j x y p q e. let at : suc i ≡ suc j = holds.apart.free_once.once (suc i) (suc j) x y (rest_at i x p) (rest_at j y q) e in omega (arith, at) }

  first_or_later : (i : ℕ) (x : Free) → slice_get (s ∷ rest) i ≡ Some x → ((j : ℕ) × (slice_get rest j ≡ Some x)) ⊎ (s ≡ x)
  first_or_later zero x is = inr (cc is)
  first_or_later (suc i) x is = inl (i, is)

  free_cases : (i : ℕ) (x : Free) → slice_get k.free i ≡ Some x → ((j : ℕ) × (slice_get rest j ≡ Some x)) ⊎ (s ≡ x)
  free_cases i x is = first_or_later i x (ap (λ fs. slice_get fs i) (sym list) ∙ is)

  last_free : IsFreeIn locks k last
  last_free = refilled_free locks k.shape.page_size k.number (page_at k s.frame) (out_of k s.frame) s lease same long (holds.free 0 s first_at)

  -- back among the empty ones
  module _ (room' : ℕ) (room : OP_PAGES ≤ room') where
    abbrev k₁ : Kept
    k₁ = record k { free = rest ++ last ∷ []; free_room = room' }

    back_cases : (i : ℕ) (x : Free) → slice_get (rest ++ last ∷ []) i ≡ Some x → (j : ℕ) × (y : Free) × (slice_get k.free j ≡ Some y) × (y.frame ≡ x.frame) × IsFreeIn locks k x
    back_cases i x is = ⊎_elim
        (λ old. (suc i, x, rest_at i x old, refl, holds.free (suc i) x (rest_at i x old)))
        (λ new. (0, s, first_at, ap (λ (z : Free). z.frame) new.1, subst (IsFreeIn locks k) new.1 last_free))
        (slice_get-pushed rest last x i is)

    back_all : (f : ℕ) (i : ℕ) (x : Free) → slice_get k.free i ≡ Some x → x.frame ≡ f → (j : ℕ) × (y : Free) × (slice_get (rest ++ last ∷ []) j ≡ Some y) × (y.frame ≡ f)
    back_all f i x is e = ⊎_elim
        (λ old. (old.0, x, slice_get-front rest (last ∷ []) old.0 (slice_get_within rest old.0 x old.1) ∙ old.1, e))
        (λ was. (length rest, last, slice_get-push rest last, ap (λ (z : Free). z.frame) was ∙ e))
        (free_cases i x is)

    back_holds : Holds locks k₁
    back_holds = record {
      shaped = holds.shaped;
      frames = holds.frames;
      many = holds.many;
      worker = holds.worker;
      kept = holds.kept;
      stay = holds.stay;
      held = holds.held;
      free = λ i x is. (back_cases i x is).4;
      apart = record {
        names = holds.apart.names;
        held_once = holds.apart.held_once;
        free_once = once_push (λ (x : Free). x.frame) rest last rest_once rest_other;
        both = λ i j h x p q e. let b = back_cases j x q in holds.apart.both i b.0 h b.1 p b.2 (e ∙ sym b.3);
        all = λ f o is. ⊎_elim (λ p. inl p) (λ p. inr (back_all f p.0 p.1 p.2 p.3)) (holds.apart.all f o is);
      };
      held_room = holds.held_room;
      free_room = room;
    }

    -- nothing more is in hand
    pub not_read : (id : PageId) (tells : Type 0) (stored : Option (List ℕ)) (result : Result Bool PageFault) → (result ≡ Ok true → ⊥) → ReadsPage k.shape id tells stored result lease.bytes → ReadsFrame locks k k₁ id tells stored result
    not_read id tells stored result not reads = record {
      holds = back_holds;
      frames = record { few = ready.few; enough = omega (arith, ready.enough, ap length list, length-append rest (last ∷ [])) };
      keeps = record { known = λ j is. is; at_hand = λ file j is. refl; clean = λ t file e is. record { kept = is.kept; read = is.read }; told = λ t file j e is. refl };
      shape = refl;
      number = refl;
      places = refl;
      seat = refl;
      only = λ j ne. refl;
      bare = omega (arith, ap length list, length-append rest (last ∷ []));
      added = λ e. absurd (not e);
      not_added = λ _. refl;
      absent = reads.absent;
      bad = reads.bad;
    }

  -- the frame is that of a page in hand
  module _ (new : Held) (room' : ℕ) (room : OP_PAGES ≤ room') (free_room' : ℕ) (free_room : OP_PAGES ≤ free_room') (away : IsAway k new.page) (frame_is : new.frame ≡ s.frame) (is_read : new.is_read ≡ true) where
    abbrev k₂ : Kept
    k₂ = record k { held = k.held ++ new ∷ []; held_room = room'; free = rest; free_room = free_room' }

    pub bare_frame : page_at k new.frame ≡ Some None
    bare_frame = ap (page_at k) frame_is ∙ last_free.bare

    pub new_out : new.tag ≡ s.tag → new.lease ≡ lease → new.flag ≡ flag.Empty → IsOutWith (out_of k new.frame) k.shape.page_size k.number new.tag new.flag new.lease
    new_out tag_is lease_is empty =
        let x = last_free.out in record {
          out = x.out;
          at = ap (out_of k) frame_is ∙ x.at;
          holder = x.holder;
          owner = x.owner;
          tag_is = x.tag_is ∙ sym tag_is;
          flag_is = x.flag_is ∙ sym empty;
          same = subst (IsSameLease x.out.lease) (sym lease_is) x.same;
          long = ap (λ (l : Leased). length l.bytes) lease_is ∙ long;
        }

    pub new_frame : new.frame < length locks.ranges
    new_frame = subst (λ f. f < length locks.ranges) (sym frame_is) last_free.frame

    held_other : (i : ℕ) (h : Held) → slice_get k.held i ≡ Some h → h.frame ≢ new.frame
    held_other i h is e = holds.apart.both i 0 h s is first_at (e ∙ frame_is)

    read_all : (f : ℕ) (o : Out) → out_of k f ≡ Some o → IsInHand (k.held ++ new ∷ []) rest f
    read_all f o is = ⊎_elim
        (λ p. inl (p.0, p.1, slice_get-front k.held (new ∷ []) p.0 (slice_get_within k.held p.0 p.1 p.2) ∙ p.2, p.3))
        (λ p. ⊎_elim
        (λ old. inr (old.0, p.1, old.1, p.3))
        (λ was. inl (length k.held, new, slice_get-push k.held new, frame_is ∙ ap (λ (z : Free). z.frame) was ∙ p.3))
        (free_cases p.0 p.1 p.2))
        (holds.apart.all f o is)

    pub added_holds : IsHeldIn locks k new → Holds locks k₂
    added_holds new_held = record {
      shaped = holds.shaped;
      frames = holds.frames;
      many = holds.many;
      worker = holds.worker;
      kept = holds.kept;
      stay = holds.stay;
      held = λ i h is. ⊎_elim (holds.held i h) (λ last. subst (IsHeldIn locks k₂) last.1 new_held) (slice_get-pushed k.held new h i is);
      free = λ i x is. holds.free (suc i) x (rest_at i x is);
      apart = record {
        names = once_push (λ (h : Held). h.page.0) k.held new holds.apart.names (λ i h is. none_named k.held new.page.0 i h away.away is);
        held_once = once_push (λ (h : Held). h.frame) k.held new holds.apart.held_once held_other;
        free_once = rest_once;
        both = λ i j h x p q. ⊎_elim
            (λ old. holds.apart.both i (suc j) h x old (rest_at j x q))
            (λ last. λ e. rest_other j x q (sym e ∙ ap (λ (z : Held). z.frame) (sym last.1) ∙ frame_is))
            (slice_get-pushed k.held new h i p);
        all = read_all;
      };
      held_room = room;
      free_room = free_room;
    }

    known_push : (j : PageId) (o p : Option Held) → known_by o (place_of k j) k.seat.view.entries k.number ≡ true → known_by (or_else o p) (place_of k j) k.seat.view.entries k.number ≡ true
    known_push j (Some h) p is = refl
    known_push j None (Some h) is = refl
    known_push j None None is = is

    pub added_frames : HasFrames k₂
    added_frames = record {
      few = omega (arith, length-append k.held (new ∷ []), away.room);
      enough = omega (arith, ready.enough, ap length list, length-append k.held (new ∷ []));
    }

    pub added_bare : bare_count k₂ ≡ bare_count k
    added_bare = omega (arith, ap length list, read_push k.held new, ap read_one is_read)

    pub added_only : (j : PageId) → j.0 ≢ new.page.0 → is_known k₂ j ≡ is_known k j
    added_only j ne = ap (λ o. known_by o (place_of k j) k.seat.view.entries k.number) (held_push_else k.held new j.0 (λ e. ne (sym e)))

    pub added_known : (j : PageId) → is_known k j ≡ true → is_known k₂ j ≡ true
    added_known j is = ap (λ o. known_by o (place_of k j) k.seat.view.entries k.number) (held_push k.held new j.0) ∙ known_push j (held_at k.held j.0) (held_at (new ∷ []) j.0) is

  -- the page is in hand
  module _ (new : Held) (room' : ℕ) (room : OP_PAGES ≤ room') (free_room' : ℕ) (free_room : OP_PAGES ≤ free_room') (away : IsAway k new.page) (unkept : IsUnkept locks k new.page) (frame_is : new.frame ≡ s.frame) (tag_is : new.tag ≡ s.tag) (lease_is : new.lease ≡ lease)
      (was_is : new.was.value.bytes ≡ lease.bytes) (empty : new.flag ≡ flag.Empty) (is_read : new.is_read ≡ true) (unlent : new.is_lent ≡ false) (bare : new.patch ≡ None) (passes : Passes k.shape new.page lease.bytes) where
    new_held : IsHeldIn locks k new
    new_held = record {
      own = unkept.own;
      frame = new_frame new room' room free_room' free_room away frame_is is_read;
      out = new_out new room' room free_room' free_room away frame_is is_read tag_is lease_is empty;
      was_long = ap length was_is ∙ long;
      patched = subst (λ (o : Option Coverage). IfSome o (λ patch. patch.page_size ≡ k.shape.page_size)) (sym bare) tt;
      unlent = λ _. (ap (λ (l : Leased). l.bytes) lease_is ∙ sym was_is, bare);
      from_frame = λ e. absurd (let q : true ≡ false = sym is_read ∙ e in cc q);
      from_file = λ _. record { unkept = unkept.none; bare = bare_frame new room' room free_room' free_room away frame_is is_read; empty = empty; passes = λ _. subst (Passes k.shape new.page) (sym was_is) passes };
    }

    -- the new page alone isn't as it was, where it isn't what its file has
    new_bytes : (file : PageId → Option (List ℕ)) (j : PageId) (o : Option Held) → held_at k.held j.0 ≡ o → (known_by o (place_of k j) k.seat.view.entries k.number ≡ true) ⊎ (file new.page ≡ Some new.lease.bytes)
        → bytes_by (or_else o (held_at (new ∷ []) j.0)) (place_of k j) k.seat.view.entries k.number (file j) ≡ bytes_by o (place_of k j) k.seat.view.entries k.number (file j)
    new_bytes file j (Some h) is why = refl
    new_bytes file j None is why = ⊎_elim
        (λ same.
        let none : place_of k j ≡ None = ap (λ n. place_of k (record { 0 = n })) (sym same) ∙ unkept.none in
        let in_file : file new.page ≡ Some new.lease.bytes = ⊎_elim (λ known. absurd (let q : false ≡ true = ap (λ t. known_by None t k.seat.view.entries k.number) (sym none) ∙ known in cc q)) (λ e. e) why in
        ap (λ o. bytes_by o (place_of k j) k.seat.view.entries k.number (file j)) (one_here new j.0 same)
        ∙ sym in_file ∙ ap (λ n. file (record { 0 = n })) same
        ∙ ap (λ t. bytes_by None t k.seat.view.entries k.number (file j)) (sym none))
        (λ ne. ap (λ o. bytes_by o (place_of k j) k.seat.view.entries k.number (file j)) (one_else new j.0 ne))
        (cases_eq new.page.0 j.0)

    all_bytes : (file : PageId → Option (List ℕ)) (j : PageId) → (is_known k j ≡ true) ⊎ (file new.page ≡ Some new.lease.bytes) → page_bytes file (record k { held = k.held ++ new ∷ []; held_room = room'; free = rest; free_room = free_room' }) j ≡ page_bytes file k j
    all_bytes file j why = ap (λ o. bytes_by o (place_of k j) k.seat.view.entries k.number (file j)) (held_push k.held new j.0) ∙ new_bytes file j (held_at k.held j.0) refl why

    stored_bytes : (stored : Option (List ℕ)) → stored ≡ Some lease.bytes → stored ≡ Some new.lease.bytes
    stored_bytes stored e = e ∙ ap (λ (l : Leased). Some l.bytes) (sym lease_is)

    pub was_read : (tells : Type 0) (stored : Option (List ℕ)) → (tells → stored ≡ Some lease.bytes) → ReadsFrame locks k (record k { held = k.held ++ new ∷ []; held_room = room'; free = rest; free_room = free_room' }) new.page tells stored (Ok true)
    was_read tells stored told = record {
      holds = added_holds new room' room free_room' free_room away frame_is is_read new_held;
      frames = added_frames new room' room free_room' free_room away frame_is is_read;
      keeps = record {
        known = added_known new room' room free_room' free_room away frame_is is_read;
        at_hand = λ file j is. all_bytes file j (inl is);
        clean = λ t file e is. record {
          kept = is.kept;
          read = λ i h p. ⊎_elim
              (is.read i h)
              (λ last. λ _ _. subst (λ (z : Held). file z.page ≡ Some z.was.value.bytes) last.1 (e ∙ told t ∙ ap Some (sym was_is)))
              (slice_get-pushed k.held new h i p);
        };
        told = λ t file j e is. all_bytes file j (inr (e ∙ stored_bytes stored (told t)));
      };
      shape = refl;
      number = refl;
      places = refl;
      seat = refl;
      only = added_only new room' room free_room' free_room away frame_is is_read;
      bare = added_bare new room' room free_room' free_room away frame_is is_read;
      added = λ _. record { page = new; added = refl; page_is = refl; unlent = unlent; bare = bare; reads = inr (subst (λ (l : Leased). Reads new.page l.bytes) (sym lease_is) (passes_reads k.shape new.page lease.bytes passes)) };
      not_added = λ no. absurd (no refl);
      absent = λ e. absurd (cc e);
      bad = λ named e. absurd (cc e);
    }

-- the first empty frame is as long as a page
pub first_long : (locks : LockTable) (k : Kept) → Holds locks k → (rest : List Free) (s : Free) → k.free ≡ s ∷ rest → length s.lease.bytes ≡ k.shape.page_size
first_long locks k holds rest s list = (holds.free 0 s (ap (λ fs. slice_get fs 0) list)).out.long

-- there is one where fewer pages are in hand than one operation may ask for
pub some_free : (locks : LockTable) (k : Kept) → HasFrames k → length k.held < OP_PAGES → 0 < length k.free
some_free locks k ready few = omega (arith, ready.enough, few)

-- what was read from its file passes its check, until it is lent
module _ {Q R : Type 0} (tells : Type 0) (history : R → History) (state : R → DeviceState) where
  passes_in_hand : (b : Bound Q R) → IsBound tells history state b → (i : ℕ) (h : Held) → slice_get b.stripe.held.items i ≡ Some h → h.is_read ≡ true → h.is_lent ≡ false → Passes b.stripe.shape h.page h.lease.bytes
  passes_in_hand b bound i h at read unlent =
      let x = bound.holds.held i h at in
      let y = x.unlent unlent in
      subst (Passes b.stripe.shape h.page) (sym y.0) ((x.from_file read).passes (ap is_changed y.1))

  pub file_pages_pass : FilePagesPass Q R tells history state
  file_pages_pass = record { passes = passes_in_hand }
