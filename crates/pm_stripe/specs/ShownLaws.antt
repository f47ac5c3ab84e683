-- The laws of a worker's pages: what each call keeps holds over several, and what is written to a page that was
-- lent is the page then.
use Rattle.std.proofs.Common.{◌≡◌, ◌≢◌, ℕ, ◌-◌, ◌/◌, ◌%◌, ◌^◌, ◌<◌, ⊎_elim, inl, inr}
use Rattle.std.proofs.Common.{true, false, List, length, take, drop, ◌++◌, Option, Some, None, refl}
use Rattle.std.proofs.Common.{sym, ap, subst, ◌∙◌, arith, eq-eqb, ne_eqb}
use Rattle.std.specs.Prelude.{IsSome, IsTrue, slice_get, if◌then◌else◌}
use Rattle.std.specs.Vec.{vec_capacity}
use Rattle.std.proofs.lemmas.Bool.{cases_eq}
use Rattle.std.proofs.Math.Seq.{take-append_seam}
use Rattle.pm_types.specs.declared.limits.TheConstants.{OP_PAGES}
use Rattle.pm_types.specs.declared.page_id.PageId.{PageId}
use Rattle.pm_types.specs.declared.shape.Shape.{Shape}
use Rattle.pm_types.specs.Ids.{page_id, part_of_id}
use Rattle.pm_region.specs.Lease.{Leased, with_bytes}
use Rattle.pm_disk.specs.Moments.{History}
use Rattle.pm_disk.specs.States.{Access, DeviceState, IsLaterState}
use Rattle.pm_pages.specs.Paged.{WritesPage}
use Rattle.pm_locks.specs.Sight.{LockTable}
use Rattle.pm_stripe.specs.declared.held.Held.{Held}
use Rattle.pm_stripe.specs.declared.bound.Bound.{Bound}
use Rattle.pm_stripe.specs.BaseLaws.{bases_refl, bases_then, bases_file, bases_told}
use Rattle.pm_stripe.specs.Bases.{KeepsBases}
use Rattle.pm_stripe.specs.HandLaws.{place_there, place_some, held_is}
use Rattle.pm_stripe.specs.Kept.{Kept, held_at, place_at, place_of, bytes_by, page_bytes, known_by, is_known}
use Rattle.pm_stripe.specs.Kept.{IsPageOf, IsHeldIn, IsStaying, Holds, AreClean}
use Rattle.pm_stripe.specs.Moves.{ChangesOnePage, HasOperation}
use Rattle.pm_stripe.specs.Reads.{stored}
use Rattle.pm_stripe.specs.ReplacedLaws.{known_same, hand_same, bytes_here, bytes_else, long, moves_replaced}
use Rattle.pm_stripe.specs.Rewrites.{rewritten, held_with, bound_with}
use Rattle.pm_stripe.specs.Shown.{is_held, is_lent, patch_of, KeepsOthers, kept_by, file_by, shown}
use Rattle.pm_stripe.specs.Shown.{IsReady, KeepsBound}
use Rattle.pm_stripe.specs.Sights.{KeepsSight}
use Rattle.pm_stripe.specs.SightLaws.{sight_refl, sight_then}
use Rattle.pm_stripe.specs.Stripes.{SameButPages, MayReadOthers}

-- pages of one partition have different names
pub names_apart : (part i j : ℕ) → j ≢ i → (page_id part j).0 ≢ (page_id part i).0
names_apart part i j ne e = ne (omega (arith, e))

-- what is at hand doesn't rest on the files
pub any_file : (file file' : PageId → Option (List ℕ)) (k : Kept) (id : PageId) → is_known k id ≡ true
    → page_bytes file k id ≡ page_bytes file' k id
any_file file file' k id is = by_cases (held_at k.held id.0) (place_of k id) is
  where
    by_cases : (o : Option Held) (t : Option (ℕ × ℕ)) → known_by o t k.seat.view.entries k.number ≡ true
        → bytes_by o t k.seat.view.entries k.number (file id)
        ≡ bytes_by o t k.seat.view.entries k.number (file' id)
    by_cases (Some h) t known = refl
    by_cases None (Some t) known = refl
    by_cases None None known = absurd (let bad : false ≡ true = known in cc bad)

-- what is left where a call kept all in order
pub record IsInOrder (locks : LockTable) (tells : Type 0) (file file' : PageId → Option (List ℕ))
    (state : DeviceState) (part : ℕ) (k k' : Kept) : Type 0 where
  pub holds : Holds locks k'
  pub reads : MayReadOthers locks.workers state k'
  pub clean : tells → AreClean file' k'
  pub operates : HasOperation locks part k'
  pub others : KeepsOthers tells file file' part k k'
  pub bases : KeepsBases k.shape.page_size tells file file' k k'
  pub staying : (id : PageId) → IsStaying k id → IsStaying k' id

pub clean_file : (file file' : PageId → Option (List ℕ)) (k : Kept) → ((j : PageId) → file' j ≡ file j)
    → AreClean file k → AreClean file' k
clean_file file file' k same clean = record {
  kept = λ j f tag e p q c. same j ∙ clean.kept j f tag e p q c;
  read = λ i h is r c. same h.page ∙ clean.read i h is r c;
}

-- what isn't in such a frame may still be read
pub may_read : (workers : ℕ) (state state' : DeviceState) (k k' : Kept) → IsLaterState state state'
    → k'.shape ≡ k.shape → k'.number ≡ k.number → ((j : PageId) → IsStaying k j → IsStaying k' j)
    → MayReadOthers workers state k → MayReadOthers workers state' k'
may_read workers state state' k k' later shape number staying reads = record {
  usable = later.usable reads.usable;
  others = λ j own no.
      let own' = subst (λ (p : Shape × ℕ). IsPageOf workers p.0.partitions p.1 j) (λ i. (shape i, number i))
      own in
      staying j (reads.others j own' (sym (ap (λ (a : Access). a.reads j) later.access) ∙ no));
}

-- a page of another partition has another name
pub other_part : (part : ℕ) (j id : PageId) → part_of_id id ≡ part → part_of_id j ≢ part → j.0 ≢ id.0
other_part part j id in_part ne e = ne (ap (λ n. n / 2 ^ 32 % 2 ^ 16) e ∙ in_part)

-- a call on one page of the partition kept all in order
pub after_moved : (locks : LockTable) (tells : Type 0) (file file' : PageId → Option (List ℕ))
    (state state' : DeviceState) (part : ℕ) (k k' : Kept) (id : PageId)
    → (tells → (j : PageId) → file' j ≡ file j) → IsLaterState state state'
    → MayReadOthers locks.workers state k → (tells → AreClean file k) → HasOperation locks part k
    → part_of_id id ≡ part → ChangesOnePage locks tells file k k' id
    → IsInOrder locks tells file file' state' part k k'
after_moved locks tells file file' state state' part k k' id same later reads clean op in_part m = record {
  holds = m.holds;
  reads = may_read locks.workers state state' k k' later m.shape m.number m.staying reads;
  clean = λ t. clean_file file file' k' (same t) (m.clean t (clean t));
  operates = record {
    frames = m.frames;
    bare = m.bare ∙ op.bare;
    there = subst (λ (s : Shape). part < s.partitions) (sym m.shape) op.there;
    own = op.own ∙ sym m.number;
    alone = λ i h is. ⊎_elim
        (λ e. ap part_of_id e ∙ in_part)
        (λ n. ap part_of_id (sym n.is) ∙ op.alone n.place n.page n.at)
        (m.names i h is);
  };
  others = record {
    known = λ j ne. m.only j (other_part part j id in_part ne);
    pages = λ j ne. ⊎_elim
        (λ t. ap (bytes_by (held_at k'.held j.0) (place_of k' j) k'.seat.view.entries k'.number) (same t j)
        ∙ m.told t (clean t) j (other_part part j id in_part ne))
        (λ known. any_file file' file k' j (m.only j (other_part part j id in_part ne) ∙ known)
        ∙ m.at_hand j (other_part part j id in_part ne) known);
  };
  bases = bases_file k.shape.page_size tells file file' k k' same
      (bases_told k.shape.page_size (tells × AreClean file k) tells file file k k' (λ t. (t, clean t)) m.bases);
  staying = m.staying;
}

module _ {Q R : Type 0} (tells : Type 0) (history : R → History) (state : R → DeviceState) where
  -- the files are as they were
  pub same_file : (b c : Bound Q R) → SameButPages b.stripe c.stripe
      → (tells → (history c.reader).world ≡ (history b.reader).world)
      → tells → (j : PageId) → file_by history c j ≡ file_by history b j
  same_file b c same world t j =
      λ i. if same.files i then stored (world t i) (same.shape i).page_size j else None

  -- a call that leaves all in order keeps what calls keep
  pub keeps_by : (b c : Bound Q R) → c.locks ≡ b.locks → c.part ≡ b.part → c.is_ready ≡ b.is_ready
      → SameButPages b.stripe c.stripe → (tells → (history c.reader).world ≡ (history b.reader).world)
      → IsLaterState (state b.reader) (state c.reader) → KeepsSight b.locks.now b.seat.view c.seat.view
      → (IsReady tells history state b → IsInOrder b.locks.now tells (file_by history b) (file_by history c)
      (state c.reader) b.part (kept_by b) (kept_by c)) → KeepsBound tells history state b c
  keeps_by b c locks part is_ready same world later sight after = record {
    locks = locks;
    part = part;
    is_ready = is_ready;
    same = same;
    world = world;
    later = later;
    sight = sight;
    leaves = λ ready.
        let x = after ready in
        let table : c.locks.now ≡ b.locks.now = ap (λ z. z.now) locks in record {
          ready = record {
            is_ready = is_ready ∙ ready.is_ready;
            bound = record {
              holds = subst (λ (l : LockTable). Holds l (kept_by c)) (sym table) x.holds;
              reads = subst (λ (l : LockTable). MayReadOthers l.workers (state c.reader) (kept_by c))
                  (sym table) x.reads;
              clean = x.clean;
              few = omega (arith, x.operates.bare);
            };
            operates = subst (λ (p : LockTable × ℕ). HasOperation p.0 p.1 (kept_by c))
                (λ i. (sym table i, sym part i)) x.operates;
          };
          others = x.others;
          bases = x.bases;
          staying = x.staying;
        };
  }

  pub kept_refl : (b : Bound Q R) → KeepsBound tells history state b b
  kept_refl b = record {
    locks = refl;
    part = refl;
    is_ready = refl;
    same = record { number = refl; shape = refl; files = refl; next = refl; is_running = refl; outbox = refl };
    world = λ t. refl;
    later = record { later = omega arith; access = refl; usable = λ is. is };
    sight = sight_refl b.locks.now b.seat.view;
    leaves = λ ready. record {
      ready = ready;
      others = record { known = λ j ne. refl; pages = λ j ne told. refl };
      bases = bases_refl b.stripe.shape.page_size tells (file_by history b) (kept_by b);
      staying = λ id is. is;
    };
  }

  pub kept_then : (b c d : Bound Q R) → KeepsBound tells history state b c → KeepsBound tells history state c d
      → KeepsBound tells history state b d
  kept_then b c d x y = record {
    locks = y.locks ∙ x.locks;
    part = y.part ∙ x.part;
    is_ready = y.is_ready ∙ x.is_ready;
    same = record {
      number = y.same.number ∙ x.same.number;
      shape = y.same.shape ∙ x.same.shape;
      files = y.same.files ∙ x.same.files;
      next = y.same.next ∙ x.same.next;
      is_running = y.same.is_running ∙ x.same.is_running;
      outbox = y.same.outbox ∙ x.same.outbox;
    };
    world = λ t. y.world t ∙ x.world t;
    later = record {
      later = omega (arith, x.later.later, y.later.later);
      access = y.later.access ∙ x.later.access;
      usable = λ is. y.later.usable (x.later.usable is);
    };
    sight = sight_then b.locks.now b.seat.view c.seat.view d.seat.view x.sight
        (subst (λ (l : LockTable). KeepsSight l c.seat.view d.seat.view) (ap (λ z. z.now) x.locks) y.sight);
    leaves = λ ready.
        let p = x.leaves ready in
        let q = y.leaves p.ready in record {
          ready = q.ready;
          others = record {
            known = λ j ne. q.others.known j (λ e. ne (e ∙ x.part)) ∙ p.others.known j ne;
            pages = λ j ne told. q.others.pages j (λ e. ne (e ∙ x.part))
                (⊎_elim (λ t. inl t) (λ known. inr (p.others.known j ne ∙ known)) told)
                ∙ p.others.pages j ne told;
          };
          bases = bases_then b.stripe.shape.page_size tells (file_by history b) (file_by history c)
              (file_by history d) (kept_by b) (kept_by c) (kept_by d) p.bases
              (subst (λ (s : Shape). KeepsBases s.page_size tells (file_by history c) (file_by history d)
              (kept_by c) (kept_by d)) x.same.shape q.bases);
          staying = λ id is. q.staying id (p.staying id is);
        };
  }

-- the bytes of a lease that was written anew
pub written_bytes : (lease : Leased) (w : List ℕ) → length w ≡ length lease.bytes
    → (with_bytes lease w).bytes ≡ w
written_bytes lease w same = ap (λ n. take n (w ++ drop (length w) lease.bytes)) (sym same)
    ∙ take-append_seam w (drop (length w) lease.bytes)

pub lent_held : (o : Option Held) → IsTrue (is_lent o) → IsSome o
lent_held None lent = absurd (cc lent)
lent_held (Some h) lent = refl

-- a page that was lent is in hand, in its place
pub record IsLentAt (held : List Held) (id : ℕ) : Type 0 where
  pub page : Held
  pub found : held_at held id ≡ Some page
  pub at : slice_get held (place_at held id) ≡ Some page
  pub lent : page.is_lent ≡ true

pub lent_at : (held : List Held) (id : ℕ) → IsTrue (is_lent (held_at held id)) → IsLentAt held id
lent_at held id lent =
    let x = place_there held id (place_some held id (lent_held (held_at held id) lent)) in
    record { page = x.0; found = x.1; at = x.2; lent = ap is_lent (sym x.1) ∙ lent }

-- a page in hand with other bytes, which was lent
pub rewritten_held : (locks : LockTable) (k : Kept) (h : Held) (w : List ℕ) → h.is_lent ≡ true
    → length w ≡ length h.lease.bytes → IsHeldIn locks k h → IsHeldIn locks k (rewritten h w)
rewritten_held locks k h w lent same x = record {
  own = x.own;
  frame = x.frame;
  out = record {
    out = x.out.out;
    at = x.out.at;
    holder = x.out.holder;
    owner = x.out.owner;
    tag_is = x.out.tag_is;
    flag_is = x.out.flag_is;
    same = record { number = x.out.same.number; range = x.out.same.range };
    long = ap length (written_bytes h.lease w same) ∙ same ∙ x.out.long;
  };
  was_long = x.was_long;
  patched = x.patched;
  unlent = λ e. absurd (let bad : true ≡ false = sym lent ∙ e in cc bad);
  from_frame = λ e.
      let y = x.from_frame e in
      record { kept = y.kept; follows = y.follows; last = y.last; taken = y.taken };
  from_file = λ e.
      let y = x.from_file e in
      record { unkept = y.unkept; bare = y.bare; empty = y.empty; passes = y.passes };
}

module _ {Q R : Type 0} (tells : Type 0) (history : R → History) (state : R → DeviceState) (b : Bound Q R)
    (i : ℕ) (bytes : List ℕ) (ready : IsReady tells history state b)
    (same : length bytes ≡ b.stripe.shape.page_size)
    (x : IsLentAt b.stripe.held.items (page_id b.part i).0) where
  abbrev at_is : ℕ
  at_is = place_at b.stripe.held.items (page_id b.part i).0

  -- the pages where the one in hand at that place is named
  abbrev by_held : Option Held → Bound Q R
  by_held o = record b {
    stripe = record b.stripe {
      held = held_with b.stripe.held (place_at b.stripe.held.items (page_id b.part i).0) o bytes;
    };
  }

  old_held : IsHeldIn b.locks.now (kept_by b) x.page
  old_held = ready.bound.holds.held at_is x.page x.at

  as_long : length bytes ≡ length x.page.lease.bytes
  as_long = same ∙ sym old_held.out.long

  new_bytes : (rewritten x.page bytes).lease.bytes ≡ bytes
  new_bytes = written_bytes x.page.lease bytes as_long

  new_held : IsHeldIn b.locks.now (kept_by b) (rewritten x.page bytes)
  new_held = rewritten_held b.locks.now (kept_by b) x.page bytes x.lent as_long old_held

  -- what is the same of both pages is so of whatever page is sought
  same_hand : {X : Type 0} (f : Option Held → X) → f (Some (rewritten x.page bytes)) ≡ f (Some x.page) → (j : ℕ)
      → f (held_at (kept_by (by_held (Some x.page))).held j) ≡ f (held_at (kept_by b).held j)
  same_hand f e j = hand_same b.locks.now (kept_by b) (page_id b.part i) x.page (rewritten x.page bytes)
      (vec_capacity b.stripe.held) x.found refl refl f e j

  page_here : page_bytes (file_by history b) (kept_by (by_held (Some x.page))) (page_id b.part i) ≡ Some bytes
  page_here = bytes_here b.locks.now (kept_by b) (page_id b.part i) x.page (rewritten x.page bytes)
      (vec_capacity b.stripe.held) x.found refl refl (file_by history b) ∙ ap Some new_bytes

  page_else : (j : ℕ) → j ≢ i
      → page_bytes (file_by history b) (kept_by (by_held (Some x.page))) (page_id b.part j)
      ≡ page_bytes (file_by history b) (kept_by b) (page_id b.part j)
  page_else j ne = bytes_else b.locks.now (kept_by b) (page_id b.part i) x.page (rewritten x.page bytes)
      (vec_capacity b.stripe.held) x.found refl refl (file_by history b) (page_id b.part j)
      (names_apart b.part i j ne)

  writes_found : WritesPage (shown history state b) (shown history state (by_held (Some x.page))) i bytes
  writes_found = record {
    pages = λ j. elim (cases_eq j i) [
      | inl e ↦ simp (eq-eqb j i e) (ap (λ n. page_bytes (file_by history b)
          (kept_by (by_held (Some x.page))) (page_id b.part n)) e ∙ page_here)
      | inr ne ↦ simp (ne_eqb j i ne) (page_else j ne)
    ];
    known = λ j. known_same b.locks.now (kept_by b) (page_id b.part i) x.page (rewritten x.page bytes)
        (vec_capacity b.stripe.held) x.found refl refl (page_id b.part j);
    asked = λ j. same_hand is_held refl (page_id b.part j).0;
    lent = λ j. same_hand is_lent refl (page_id b.part j).0;
    patches = λ j. same_hand patch_of refl (page_id b.part j).0;
    spare = ap (λ n. OP_PAGES - n) (long b.locks.now (kept_by b) (page_id b.part i) x.page
        (rewritten x.page bytes) (vec_capacity b.stripe.held) x.found refl refl);
    same = record { page_size = refl; max_rows = refl; part = refl; faults = omega arith };
  }

  keeps_found : part_of_id (page_id b.part i) ≡ b.part
      → KeepsBound tells history state b (by_held (Some x.page))
  keeps_found in_part =
      let later : IsLaterState (state b.reader) (state b.reader) =
      record { later = omega arith; access = refl; usable = λ is. is } in
      keeps_by tells history state b (by_held (Some x.page)) refl refl refl
      (record { number = refl; shape = refl; files = refl; next = refl; is_running = refl; outbox = refl })
      (λ t. refl) later (sight_refl b.locks.now b.seat.view)
      (λ r. after_moved b.locks.now tells (file_by history b) (file_by history b) (state b.reader)
      (state b.reader) b.part (kept_by b) (kept_by (by_held (Some x.page))) (page_id b.part i) (λ t j. refl)
      later r.bound.reads r.bound.clean r.operates in_part
      (moves_replaced b.locks.now (kept_by b) (page_id b.part i) x.page (rewritten x.page bytes)
      (vec_capacity b.stripe.held) x.found refl refl tells (file_by history b) r.bound.holds.held_room
      r.bound.holds new_held r.operates.frames refl refl (λ e. e) (λ all. all)))

module _ {Q R : Type 0} (tells : Type 0) (history : R → History) (state : R → DeviceState) where
  -- a page that was lent is of the partition that is meant
  pub lent_part : (b : Bound Q R) (i : ℕ) → IsReady tells history state b
      → IsLentAt b.stripe.held.items (page_id b.part i).0 → part_of_id (page_id b.part i) ≡ b.part
  lent_part b i ready x =
      ap (λ n. n / 2 ^ 32 % 2 ^ 16) (sym (held_is b.stripe.held.items (page_id b.part i).0 x.page x.found))
      ∙ ready.operates.alone (place_at b.stripe.held.items (page_id b.part i).0) x.page x.at

  pub writes : (b : Bound Q R) (i : ℕ) (bytes : List ℕ) → IsReady tells history state b
      → IsTrue ((shown history state b).lent i) → length bytes ≡ (shown history state b).page_size
      → WritesPage (shown history state b) (shown history state (bound_with b i bytes)) i bytes
  writes b i bytes ready lent same =
      let x = lent_at b.stripe.held.items (page_id b.part i).0 lent in
      let P : Option Held → Type 0 = λ o. WritesPage (shown history state b)
      (shown history state (by_held tells history state b i bytes ready same x o)) i bytes in
      subst P (sym x.at) (writes_found tells history state b i bytes ready same x)

  pub kept_written : (b : Bound Q R) (i : ℕ) (bytes : List ℕ) → IsReady tells history state b
      → IsTrue ((shown history state b).lent i) → length bytes ≡ (shown history state b).page_size
      → KeepsBound tells history state b (bound_with b i bytes)
  kept_written b i bytes ready lent same =
      let x = lent_at b.stripe.held.items (page_id b.part i).0 lent in
      let P : Option Held → Type 0 = λ o.
      KeepsBound tells history state b (by_held tells history state b i bytes ready same x o) in
      subst P (sym x.at)
      (keeps_found tells history state b i bytes ready same x (lent_part b i ready x))
