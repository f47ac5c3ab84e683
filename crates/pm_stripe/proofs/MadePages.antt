-- A page is made anew.
use Rattle.std.proofs.Common.{◌≡◌, ◌≢◌, ℕ, ◌<◌, ◌≤◌, Bool, true, false, List, [], ◌∷◌, ◌++◌, ◌⊎◌, ⊎_elim, inl, inr, length, set, replicate, Option, Some, None, Result, sym, refl, ap, subst, ◌∙◌, arith, length-append}
use Rattle.std.specs.Prelude.{IfSome, slice_get, ◌||◌, nat_lt}
use Rattle.std.specs.Vec.{vec_capacity}
use Rattle.std.proofs.lemmas.List.{length-replicate}
use Rattle.pm_types.specs.declared.flag.Flag.TheVariants as flag
use Rattle.pm_types.specs.declared.page_id.PageId.{PageId}
use Rattle.pm_types.specs.declared.shape.Shape.{Shape}
use Rattle.pm_types.specs.declared.fault.PageFault.{PageFault}
use Rattle.pm_types.specs.declared.limits.TheConstants.{OP_PAGES}
use Rattle.pm_types.specs.Spans.{Coverage}
use Rattle.pm_region.specs.Lease.{Leased}
use Rattle.pm_pages.specs.Paged.{IsWhole, CoversByte}
use Rattle.pm_locks.specs.Answers.{IsSameLease}
use Rattle.pm_locks.specs.Sight.{Sight, LockTable}
use Rattle.pm_locks.proofs.Pushing.{slice_get-pushed}
use Rattle.pm_stripe.specs.declared.held.Held.{Held}
use Rattle.pm_stripe.specs.declared.held.Free.{Free}
use Rattle.pm_stripe.specs.declared.stripe.Stripe.{Stripe}
use Rattle.pm_stripe.specs.ChangedPages.{is_changed}
use Rattle.pm_stripe.specs.BaseLaws.{bases_then, bases_told}
use Rattle.pm_stripe.specs.Bases.{base_bytes, IsAllCovered, KeepsBases}
use Rattle.pm_stripe.specs.Fetches.{IsUnkept, Fetches, TakesHome}
use Rattle.pm_stripe.specs.Kept.{Kept, held_at, place_at, place_of, bytes_by, page_bytes, IsHeldIn, Holds, HasFrames, IsAway, AddsPage, AreClean}
use Rattle.pm_stripe.specs.Makes.{MayAddOne, IsMade, MakesAnew}
use Rattle.pm_stripe.specs.Moves.{IsNamedIn, ChangesOnePage}
use Rattle.pm_stripe.specs.ReplacedLaws.{found, found_else, long, moves_replaced}
use Rattle.pm_stripe.specs.Rewrites.{Replaces, ClearsPage}
use Rattle.pm_stripe.specs.ShownLaws.{written_bytes}
use Rattle.pm_stripe.specs.SightLaws.{sight_refl, sight_then}
use Rattle.pm_stripe.specs.Stripes.{kept, SameButPages}
use Rattle.pm_stripe.specs.Zeros.{zeroed}
use Rattle.std.proofs.lemmas.Bool.{cases_eq}
use Rattle.pm_stripe.proofs.BasePages.{base_hand, bases_sought}
use Rattle.pm_stripe.proofs.Fetched.{no_some, added_some}
use Rattle.pm_stripe.proofs.Hands.{held_push_else, held_push_here, found_at}
use Rattle.pm_stripe.proofs.ReadPages.{first_long, bare_frame, new_out, new_frame, added_holds, added_frames, added_bare, added_only}

-- what a stripe keeps after a page in hand was replaced
pub kept_replaced : (s t : Stripe) (seat : Sight) (id : PageId) (h h' : Held) → Replaces s t id h h'
    → kept t seat ≡ record (kept s seat) { held = set s.held.items (place_at s.held.items id.0) h'; held_room = vec_capacity t.held }
kept_replaced s t seat id h h' r =
    ap (λ (z : Stripe). kept z seat) r.rest ∙ (λ i. record (kept s seat) { held = r.held i; held_room = vec_capacity t.held })

-- all else of the stripe is as it was
pub same_replaced : (s t : Stripe) (id : PageId) (h h' : Held) → Replaces s t id h h' → SameButPages s t
same_replaced s t id h h' r = record {
  number = ap (λ (z : Stripe). z.number) r.rest;
  shape = ap (λ (z : Stripe). z.shape) r.rest;
  files = ap (λ (z : Stripe). z.files) r.rest;
  next = ap (λ (z : Stripe). z.next) r.rest;
  is_running = ap (λ (z : Stripe). z.is_running) r.rest;
  outbox = ap (λ (z : Stripe). z.outbox) r.rest;
}

pub same_then : (s t u : Stripe) → SameButPages s t → SameButPages t u → SameButPages s u
same_then s t u x y = record {
  number = y.number ∙ x.number;
  shape = y.shape ∙ x.shape;
  files = y.files ∙ x.files;
  next = y.next ∙ x.next;
  is_running = y.is_running ∙ x.is_running;
  outbox = y.outbox ∙ x.outbox;
}

pub same_cleared : (s t : Stripe) (id : PageId) → ClearsPage s t id → SameButPages s t
same_cleared s t id x = same_replaced s t id x.page (record x.page { lease = zeroed x.page.lease; is_lent = true; patch = Some x.patch }) x.is

-- each page in hand is one of those before, or the one that was added
pub named_push : (held : List Held) (new : Held) (all : List Held) → all ≡ held ++ new ∷ [] → (i : ℕ) (h : Held) → slice_get all i ≡ Some h → (h.page ≡ new.page) ⊎ IsNamedIn held h.page
named_push held new all list i h is = ⊎_elim
    (λ old. inr (record { place = i; page = h; at = old; is = refl }))
    (λ last. inl (ap (λ (z : Held). z.page) (sym last.1)))
    (slice_get-pushed held new h i (ap (λ hs. slice_get hs i) (sym list) ∙ is))

pub named_same : (held all : List Held) → all ≡ held → (i : ℕ) (h : Held) → slice_get all i ≡ Some h → IsNamedIn held h.page
named_same held all same i h is = record { place = i; page = h; at = ap (λ hs. slice_get hs i) (sym same) ∙ is; is = refl }

-- what a page that was sought leaves
pub moves_fetched : (locks : LockTable) (tells : Type 0) (file : PageId → Option (List ℕ)) (k k' : Kept) (id : PageId) (result : Result Bool PageFault) → Fetches locks k k' id tells (file id) result → ChangesOnePage locks tells file k k' id
moves_fetched locks tells file k k' id result f = record {
  holds = f.holds;
  frames = f.frames;
  bare = f.bare;
  shape = f.shape;
  number = f.number;
  staying = f.staying;
  bases = bases_sought locks (tells × AreClean file k) k.shape.page_size file k k' id f.holds f.held (λ t j. f.keeps.told t.0 file j refl t.1) (f.keeps.at_hand file) f.back;
  only = f.only;
  names = λ i h is. ⊎_elim
      (λ same. inr (named_same k.held k'.held same i h is))
      (λ p. ⊎_elim (λ e. inl (e ∙ p.1.page_is)) (λ n. inr n) (named_push k.held p.1.page k'.held p.1.added i h is))
      f.held;
  clean = λ t clean. f.keeps.clean t file refl clean;
  told = λ t clean j ne. f.keeps.told t file j refl clean;
  at_hand = λ j ne is. f.keeps.at_hand file j is;
}

-- what a page that was sought in the frame that keeps it leaves
pub moves_taken : (locks : LockTable) (file : PageId → Option (List ℕ)) (k k' : Kept) (id : PageId) (b : Bool) → TakesHome locks k k' id b → (k'.held ≡ k.held) ⊎ (IsAway k id × AddsPage k k' id) → ChangesOnePage locks (Unit {0}) file k k' id
moves_taken locks file k k' id b home held = let x = home.takes in record {
  holds = x.holds;
  frames = home.frames;
  bare = x.bare;
  shape = x.shape;
  number = x.number;
  staying = x.staying;
  bases = bases_sought locks (Unit {0} × AreClean file k) k.shape.page_size file k k' id x.holds held (λ t j. x.keeps.told file j t.1) (x.keeps.at_hand file) x.back;
  only = x.only;
  names = λ i h is. by_found b x.added x.lost i h is;
  clean = λ t. x.keeps.clean file;
  told = λ t clean j ne. x.keeps.told file j clean;
  at_hand = λ j ne is. x.keeps.at_hand file j is;
}
  where
    by_found : (b : Bool) → (b ≡ true → AddsPage k k' id) → (b ≡ false → (k'.held ≡ k.held) × (place_of k' id ≡ None)) → (i : ℕ) (h : Held) → slice_get k'.held i ≡ Some h → (h.page ≡ id) ⊎ IsNamedIn k.held h.page
    by_found true adds lost i h is = let a = adds refl in ⊎_elim (λ e. inl (e ∙ a.page_is)) (λ n. inr n) (named_push k.held a.page k'.held a.added i h is)
    by_found false adds lost i h is = inr (named_same k.held k'.held (lost refl).0 i h is)

pub moves_then : (locks : LockTable) (tells : Type 0) (file : PageId → Option (List ℕ)) (k k₁ k₂ : Kept) (id : PageId) → ChangesOnePage locks tells file k k₁ id → ChangesOnePage locks tells file k₁ k₂ id → ChangesOnePage locks tells file k k₂ id
moves_then locks tells file k k₁ k₂ id x y = record {
  holds = y.holds;
  frames = y.frames;
  bare = y.bare ∙ x.bare;
  shape = y.shape ∙ x.shape;
  number = y.number ∙ x.number;
  staying = λ j is. y.staying j (x.staying j is);
  bases = bases_then k.shape.page_size (tells × AreClean file k) file file file k k₁ k₂ x.bases
      (bases_told k.shape.page_size (tells × AreClean file k₁) (tells × AreClean file k) file file k₁ k₂ (λ t. (t.0, x.clean t.0 t.1))
      (subst (λ (s : Shape). KeepsBases s.page_size (tells × AreClean file k₁) file file k₁ k₂) x.shape y.bases));
  only = λ j ne. y.only j ne ∙ x.only j ne;
  names = λ i h is. ⊎_elim
      (λ e. inl e)
      (λ n. ⊎_elim (λ e. inl (sym n.is ∙ e)) (λ m. inr (record { place = m.place; page = m.page; at = m.at; is = m.is ∙ n.is })) (x.names n.place n.page n.at))
      (y.names i h is);
  clean = λ t clean. y.clean t (x.clean t clean);
  told = λ t clean j ne. y.told t (x.clean t clean) j ne ∙ x.told t clean j ne;
  at_hand = λ j ne is. y.at_hand j ne (x.only j ne ∙ is) ∙ x.at_hand j ne is;
}

-- what is left whatever the files are
pub moves_any : (locks : LockTable) (tells : Type 0) (file : PageId → Option (List ℕ)) (k k' : Kept) (id : PageId) → ChangesOnePage locks (Unit {0}) file k k' id → ChangesOnePage locks tells file k k' id
moves_any locks tells file k k' id m = record {
  holds = m.holds;
  frames = m.frames;
  bare = m.bare;
  shape = m.shape;
  number = m.number;
  staying = m.staying;
  bases = bases_told k.shape.page_size (Unit {0} × AreClean file k) (tells × AreClean file k) file file k k' (λ t. (tt, t.1)) m.bases;
  only = m.only;
  names = m.names;
  clean = λ t. m.clean tt;
  told = λ t. m.told tt;
  at_hand = m.at_hand;
}

-- the bytes of a lease of zeros
pub zero_bytes : (lease : Leased) → (zeroed lease).bytes ≡ replicate (length lease.bytes) 0
zero_bytes lease = written_bytes lease (replicate (length lease.bytes) 0) (length-replicate (length lease.bytes) 0)

whole_changed : (size : ℕ) (patch : Coverage) → IsWhole size patch → is_changed (Some patch) ≡ false → ⊥
whole_changed size patch whole e =
    let yes : is_changed (Some patch) ≡ true = ap (λ b. b || nat_lt 0 (length patch.spans)) whole.whole in
    let bad : true ≡ false = sym yes ∙ e in cc bad

-- the whole page is covered
pub whole_covers : (size : ℕ) (patch : Coverage) → IsWhole size patch → (n : ℕ) → n < size → CoversByte (Some patch) n
whole_covers size patch whole n lt = inl (whole.whole, omega (arith, lt, whole.size))

-- a page in hand was made anew
module _ (locks : LockTable) (k : Kept) (holds : Holds locks k) (frames : HasFrames k) (id : PageId) (h : Held) (patch : Coverage) (room' : ℕ) (at : held_at k.held id.0 ≡ Some h) (held : IsHeldIn locks k h) (whole : IsWhole k.shape.page_size patch) (room : OP_PAGES ≤ room') where
  abbrev h' : Held
  h' = record h { lease = zeroed h.lease; is_lent = true; patch = Some patch }

  as_long : length (zeroed h.lease).bytes ≡ k.shape.page_size
  as_long = ap length (zero_bytes h.lease) ∙ length-replicate (length h.lease.bytes) 0 ∙ held.out.long

  cleared : IsHeldIn locks k h'
  cleared = record {
    own = held.own;
    frame = held.frame;
    out = record { out = held.out.out; at = held.out.at; holder = held.out.holder; owner = held.out.owner; tag_is = held.out.tag_is; flag_is = held.out.flag_is; same = record { number = held.out.same.number; range = held.out.same.range }; long = as_long };
    was_long = held.was_long;
    patched = whole.size;
    unlent = λ e. absurd (cc e);
    from_frame = λ e. let y = held.from_frame e in record { kept = y.kept; follows = y.follows; last = y.last; taken = y.taken };
    from_file = λ e. let y = held.from_file e in record { unkept = y.unkept; bare = y.bare; empty = y.empty; passes = λ c. absurd (whole_changed k.shape.page_size patch whole c) };
  }

  pub made_in_hand : MakesAnew locks k (record k { held = set k.held (place_at k.held id.0) h'; held_room = room' }) id
  made_in_hand = record {
    moves = λ file. moves_replaced locks k id h h' room' at refl refl (Unit {0}) file room holds cleared frames refl refl (λ c. absurd (whole_changed k.shape.page_size patch whole c)) (λ _ n lt. whole_covers k.shape.page_size patch whole n lt);
    made = record { page = h'; patch = patch; at = found locks k id h h' room' at refl refl; lent = refl; patched = refl; whole = whole; zeros = zero_bytes h.lease ∙ ap (λ n. replicate n 0) held.out.long };
    hands = found_else locks k id h h' room' at refl refl;
    count = inl (long locks k id h h' room' at refl refl);
    sight = sight_refl locks k.seat.view;
  }

-- the same, of the page in hand that was found
pub clears : (locks : LockTable) (s t : Stripe) (seat : Sight) (id : PageId) → Holds locks (kept s seat) → HasFrames (kept s seat) → ClearsPage s t id → MakesAnew locks (kept s seat) (kept t seat) id
clears locks s t seat id holds frames x =
    let y = found_at s.held.items id.0 x.page x.is.at in
    let held : IsHeldIn locks (kept s seat) x.page = holds.held y.0 x.page y.1 in
    subst (λ k'. MakesAnew locks (kept s seat) k' id) (sym (kept_replaced s t seat id x.page (record x.page { lease = zeroed x.page.lease; is_lent = true; patch = Some x.patch }) x.is))
    (made_in_hand locks (kept s seat) holds frames id x.page x.patch (vec_capacity t.held) x.is.at held x.whole (subst (λ n. OP_PAGES ≤ n) (sym x.is.room) holds.held_room))

-- a page that was taken from its frame, and then made anew
pub taken_made : (locks : LockTable) (k k₁ k₂ : Kept) (id : PageId) → IsAway k id → TakesHome locks k k₁ id true → MakesAnew locks k₁ k₂ id → MakesAnew locks k k₂ id
taken_made locks k k₁ k₂ id away home m =
    let adds = home.takes.added refl in
    let size : k₁.shape.page_size ≡ k.shape.page_size = ap (λ (z : Shape). z.page_size) home.takes.shape in record {
      moves = λ file. moves_then locks (Unit {0}) file k k₁ k₂ id (moves_taken locks file k k₁ id true home (inr (away, adds))) (m.moves file);
      made = subst (IsMade k₂.held id.0) size m.made;
      hands = λ j ne. m.hands j ne ∙ ap (λ hs. held_at hs j) adds.added ∙ held_push_else k.held adds.page j (λ e. ne (sym e ∙ ap (λ (p : PageId). p.0) adds.page_is));
      count = ⊎_elim
          (λ same. inr (away.away, omega (arith, same, ap length adds.added, length-append k.held (adds.page ∷ []))))
          (λ p. absurd (no_some (held_at k₁.held id.0) p.0 (added_some k k₁ id away adds)))
          m.count;
      sight = sight_then locks k.seat.view k₁.seat.view k₂.seat.view home.takes.sight m.sight;
    }

-- a page that no frame keeps, and then made anew
pub lost_made : (locks : LockTable) (k k₁ k₂ : Kept) (id : PageId) → TakesHome locks k k₁ id false → MakesAnew locks k₁ k₂ id → MakesAnew locks k k₂ id
lost_made locks k k₁ k₂ id home m =
    let same = (home.takes.lost refl).0 in
    let size : k₁.shape.page_size ≡ k.shape.page_size = ap (λ (z : Shape). z.page_size) home.takes.shape in record {
      moves = λ file. moves_then locks (Unit {0}) file k k₁ k₂ id (moves_taken locks file k k₁ id false home (inl same)) (m.moves file);
      made = subst (IsMade k₂.held id.0) size m.made;
      hands = λ j ne. m.hands j ne ∙ ap (λ hs. held_at hs j) same;
      count = subst (λ (hs : List Held). MayAddOne hs k₂.held id.0) same m.count;
      sight = sight_then locks k.seat.view k₁.seat.view k₂.seat.view home.takes.sight m.sight;
    }

-- a page was made in an empty frame
module _ (locks : LockTable) (k : Kept) (holds : Holds locks k) (frames : HasFrames k) (rest : List Free) (s : Free) (list : k.free ≡ s ∷ rest) (new : Held) (room' : ℕ) (room : OP_PAGES ≤ room') (free_room' : ℕ) (free_room : OP_PAGES ≤ free_room') (away : IsAway k new.page) (unkept : IsUnkept locks k new.page)
    (frame_is : new.frame ≡ s.frame) (tag_is : new.tag ≡ s.tag) (lease_is : new.lease ≡ zeroed s.lease) (was_is : new.was.value.bytes ≡ new.lease.bytes) (empty : new.flag ≡ flag.Empty) (is_read : new.is_read ≡ true) (lent : new.is_lent ≡ true)
    (patch : Coverage) (patched : new.patch ≡ Some patch) (whole : IsWhole k.shape.page_size patch) where
  s_long : length s.lease.bytes ≡ k.shape.page_size
  s_long = first_long locks k holds rest s list

  z_long : length (zeroed s.lease).bytes ≡ k.shape.page_size
  z_long = ap length (zero_bytes s.lease) ∙ length-replicate (length s.lease.bytes) 0 ∙ s_long

  z_same : IsSameLease s.lease (zeroed s.lease)
  z_same = record { number = refl; range = refl }

  unchanged : is_changed new.patch ≡ false → ⊥
  unchanged c = whole_changed k.shape.page_size patch whole (ap is_changed (sym patched) ∙ c)

  abbrev k₂ : Kept
  k₂ = record k { held = k.held ++ new ∷ []; held_room = room'; free = rest; free_room = free_room' }

  new_held : IsHeldIn locks k new
  new_held = record {
    own = unkept.own;
    frame = new_frame locks k holds frames rest s list (zeroed s.lease) z_same z_long new room' room free_room' free_room away frame_is is_read;
    out = new_out locks k holds frames rest s list (zeroed s.lease) z_same z_long new room' room free_room' free_room away frame_is is_read tag_is lease_is empty;
    was_long = ap length was_is ∙ ap (λ (l : Leased). length l.bytes) lease_is ∙ z_long;
    patched = subst (λ (o : Option Coverage). IfSome o (λ p. p.page_size ≡ k.shape.page_size)) (sym patched) whole.size;
    unlent = λ e. absurd (let bad : true ≡ false = sym lent ∙ e in cc bad);
    from_frame = λ e. absurd (let bad : true ≡ false = sym is_read ∙ e in cc bad);
    from_file = λ _. record { unkept = unkept.none; bare = bare_frame locks k holds frames rest s list (zeroed s.lease) z_same z_long new room' room free_room' free_room away frame_is is_read; empty = empty; passes = λ c. absurd (unchanged c) };
  }

  bytes_else : (file : PageId → Option (List ℕ)) (j : PageId) → j.0 ≢ new.page.0 → page_bytes file k₂ j ≡ page_bytes file k j
  bytes_else file j ne = ap (λ o. bytes_by o (place_of k j) k.seat.view.entries k.number (file j)) (held_push_else k.held new j.0 (λ e. ne (sym e)))

  covers_all : IsAllCovered k.shape.page_size (Some new)
  covers_all n lt = subst (λ o. CoversByte o n) (sym patched) (whole_covers k.shape.page_size patch whole n lt)

  new_found : (j : PageId) → j.0 ≡ new.page.0 → held_at k₂.held j.0 ≡ Some new
  new_found j same = held_push_here k.held new j.0 (sym same) (ap (held_at k.held) same ∙ away.away)

  else_found : (j : PageId) → j.0 ≢ new.page.0 → held_at k₂.held j.0 ≡ held_at k.held j.0
  else_found j ne = held_push_else k.held new j.0 (λ e. ne (sym e))

  base_or : (file : PageId → Option (List ℕ)) (j : PageId) → IsAllCovered k.shape.page_size (held_at k₂.held j.0) ⊎ (base_bytes file k₂ j ≡ base_bytes file k j)
  base_or file j = ⊎_elim
      (λ same. inl (subst (IsAllCovered k.shape.page_size) (sym (new_found j same)) covers_all))
      (λ ne. inr (base_hand file file k k₂ j (bytes_else file j ne) (held_at k.held j.0) refl (else_found j ne)))
      (cases_eq j.0 new.page.0)

  made_bases : (T : Type 0) (file : PageId → Option (List ℕ)) → KeepsBases k.shape.page_size T file file k k₂
  made_bases T file = record {
    whole = λ j is. ⊎_elim
        (λ same. absurd (subst (IsAllCovered k.shape.page_size) (ap (held_at k.held) same ∙ away.away) is))
        (λ ne. subst (IsAllCovered k.shape.page_size) (sym (else_found j ne)) is)
        (cases_eq j.0 new.page.0);
    told = λ _. base_or file;
    stay = λ j is. (record { frame = is.frame; tag = is.tag; entry = is.entry; kept = is.kept; at = is.at; stay = is.stay }, base_or file j);
  }

  pub made_new : MakesAnew locks k k₂ new.page
  made_new = record {
    moves = λ file. record {
      holds = added_holds locks k holds frames rest s list (zeroed s.lease) z_same z_long new room' room free_room' free_room away frame_is is_read new_held;
      frames = added_frames locks k holds frames rest s list (zeroed s.lease) z_same z_long new room' room free_room' free_room away frame_is is_read;
      bare = added_bare locks k holds frames rest s list (zeroed s.lease) z_same z_long new room' room free_room' free_room away frame_is is_read;
      shape = refl;
      number = refl;
      staying = λ j is. record { frame = is.frame; tag = is.tag; entry = is.entry; kept = is.kept; at = is.at; stay = is.stay };
      bases = made_bases (Unit {0} × AreClean file k) file;
      only = added_only locks k holds frames rest s list (zeroed s.lease) z_same z_long new room' room free_room' free_room away frame_is is_read;
      names = λ i h is. named_push k.held new (k.held ++ new ∷ []) refl i h is;
      clean = λ t clean. record {
        kept = clean.kept;
        read = λ i h p. ⊎_elim (λ old. clean.read i h old) (λ last. λ r c. absurd (unchanged (ap (λ (z : Held). is_changed z.patch) last.1 ∙ c))) (slice_get-pushed k.held new h i p);
      };
      told = λ t clean j ne. bytes_else file j ne;
      at_hand = λ j ne is. bytes_else file j ne;
    };
    made = record {
      page = new;
      patch = patch;
      at = held_push_here k.held new new.page.0 refl away.away;
      lent = lent;
      patched = patched;
      whole = whole;
      zeros = ap (λ (l : Leased). l.bytes) lease_is ∙ zero_bytes s.lease ∙ ap (λ n. replicate n 0) s_long;
    };
    hands = λ j ne. held_push_else k.held new j (λ e. ne (sym e));
    count = inr (away.away, omega (arith, length-append k.held (new ∷ [])));
    sight = sight_refl locks k.seat.view;
  }
