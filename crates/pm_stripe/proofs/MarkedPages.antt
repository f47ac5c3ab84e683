-- Pages in hand that were lent are taken for changed as a whole.
use Rattle.std.proofs.Common.{◌≡◌, ◌≢◌, ℕ, zero, suc, ◌+◌, ◌<◌, ◌≤◌, true, false, List, [], ◌∷◌, ◌⊎◌, ⊎_elim, inl, inr, length, set, Option, Some, None, sym, refl, ap, subst, ◌∙◌, arith}
use Rattle.std.specs.Prelude.{IsTrue, slice_get, slice_index}
use Rattle.std.specs.Vec.{vec_capacity}
use Rattle.std.proofs.lemmas.Bool.{cases_eq}
use Rattle.std.proofs.lemmas.List.{get_or_past}
use Rattle.std.proofs.lemmas.Option.{slice_get_within}
use Rattle.pm_types.specs.declared.limits.TheConstants.{OP_PAGES}
use Rattle.pm_types.specs.declared.page_id.PageId.{PageId}
use Rattle.pm_types.specs.Spans.{Coverage}
use Rattle.pm_pages.specs.Paged.{IsWhole}
use Rattle.pm_region.specs.Lease.{Leased}
use Rattle.pm_locks.specs.Sight.{LockTable, Sight}
use Rattle.pm_stripe.specs.declared.held.Held.{Held}
use Rattle.pm_stripe.specs.declared.stripe.Stripe.{Stripe}
use Rattle.pm_stripe.specs.ChangedPages.{is_changed}
use Rattle.pm_stripe.specs.HandLaws.{set_here, set_else}
use Rattle.pm_stripe.specs.Kept.{Kept, held_at, place_at, place_of, bytes_by, page_bytes, IsHeldIn, Holds}
use Rattle.pm_stripe.specs.Marks.{IsMarked, IsMarkedAt, MarksPage, MarksPages}
use Rattle.pm_stripe.specs.Puts.{put_flag, unended_flag, IsCovered}
use Rattle.pm_stripe.specs.ReplacedLaws as laws
use Rattle.pm_stripe.specs.Stripes.{kept, SameButPages}
use Rattle.pm_stripe.proofs.Hands.{found_at, none_named}
use Rattle.pm_stripe.specs.HandLaws.{place_there, place_some}
use Rattle.pm_stripe.proofs.Fetched.{some_held}
use Rattle.pm_stripe.proofs.PlacedPages.{same_page}
use Rattle.pm_stripe.proofs.PutPages.{dirty_flag}

-- a page that is as it was is set in its place
pub set_same : (hs : List Held) (i : ℕ) (h : Held) → slice_get hs i ≡ Some h → hs ≡ set hs i h
set_same [] i h is = absurd (cc is)
set_same (x ∷ hs) zero h is = let e : x ≡ h = cc is in ap (λ z. z ∷ hs) e
set_same (x ∷ hs) (suc i) h is = ap (λ zs. x ∷ zs) (set_same hs i h is)

pub below_or : (n m : ℕ) → (n < m) ⊎ (m ≤ n)
below_or n zero = inr (omega arith)
below_or zero (suc m) = inl (omega arith)
below_or (suc n) (suc m) = ⊎_elim (λ lt. inl (omega (arith, lt))) (λ le. inr (omega (arith, le))) (below_or n m)

-- nothing is marked
pub marks_none : (locks : LockTable) (k : Kept) → Holds locks k → MarksPages locks 0 k k
marks_none locks k holds = record {
  holds = holds;
  long = refl;
  free = refl;
  shape = refl;
  number = refl;
  covered = λ i h is lt. absurd (omega (arith, lt));
  marked = λ i h is lt. absurd (omega (arith, lt));
  after = λ i le. refl;
  names = λ id none. none;
  known = λ id. refl;
  staying = λ id is. is;
  pages = λ file id. refl;
  clean = λ file is. is;
}

-- a page in hand is found by its name, in its place
module _ (locks : LockTable) (k : Kept) (holds : Holds locks k) (at : ℕ) (h : Held) (there : slice_get k.held at ≡ Some h) where
  pub found : held_at k.held h.page.0 ≡ Some h
  found = by_found (held_at k.held h.page.0) refl
    where
      by_found : (o : Option Held) → held_at k.held h.page.0 ≡ o → held_at k.held h.page.0 ≡ Some h
      by_found None is = absurd (none_named k.held h.page.0 at h is there refl)
      by_found (Some g) is =
          let x = found_at k.held h.page.0 g is in
          let same : x.0 ≡ at = holds.apart.names.once x.0 at g h x.1 there x.2 in
          let q : Some g ≡ Some h = sym x.1 ∙ ap (slice_get k.held) same ∙ there in
          let e : g ≡ h = cc q in is ∙ ap Some e

  pub place_is : place_at k.held h.page.0 ≡ at
  place_is =
      let x = place_there k.held h.page.0 (place_some k.held h.page.0 (some_held (held_at k.held h.page.0) h found)) in
      let q : Some x.0 ≡ Some h = sym x.1 ∙ found in
      let e : x.0 ≡ h = cc q in
      holds.apart.names.once (place_at k.held h.page.0) at x.0 h x.2 there (ap (λ (z : Held). z.page.0) e)

  -- what holds of the page that takes its place
  pub record IsLike (now : Held) : Type 0 where
    pub page : now.page ≡ h.page
    pub frame : now.frame ≡ h.frame
    pub tag : now.tag ≡ h.tag
    pub lease : now.lease ≡ h.lease
    pub was : now.was.value.bytes ≡ h.was.value.bytes
    pub read : now.is_read ≡ h.is_read
    pub unchanged : is_changed now.patch ≡ false → is_changed h.patch ≡ false
    pub flag : put_flag now ≡ unended_flag h
    pub held : IsHeldIn locks k now
    pub covered : IsCovered now

  whole_changed : (patch : Coverage) → IsTrue patch.whole → is_changed (Some patch) ≡ true
  whole_changed patch whole = simp whole refl

  like_same : h.is_lent ≡ false → IsLike h
  like_same unlent =
      let x = holds.held at h there in
      let same = (x.unlent unlent).0 in record {
        page = refl;
        frame = refl;
        tag = refl;
        lease = refl;
        was = refl;
        read = refl;
        unchanged = λ e. e;
        flag = (λ i. put_flag (record h { patch = (x.unlent unlent).1 i; is_lent = unlent i })) ∙ sym (λ i. unended_flag (record h { is_lent = unlent i }));
        held = x;
        covered = record { size = ap length same; bytes = λ n _. ap (λ bs. slice_index bs n) same };
      }

  like_whole : (patch : Coverage) → IsWhole k.shape.page_size patch → h.is_lent ≡ true → IsLike (record h { patch = Some patch })
  like_whole patch whole lent =
      let x = holds.held at h there in record {
        page = refl;
        frame = refl;
        tag = refl;
        lease = refl;
        was = refl;
        read = refl;
        unchanged = λ e. absurd (let bad : true ≡ false = sym (whole_changed patch whole.whole) ∙ e in cc bad);
        flag = dirty_flag (record h { patch = Some patch }) (whole_changed patch whole.whole) ∙ sym (λ i. unended_flag (record h { is_lent = lent i }));
        held = record {
          own = x.own;
          frame = x.frame;
          out = x.out;
          was_long = x.was_long;
          patched = whole.size;
          unlent = λ e. absurd (let bad : true ≡ false = sym lent ∙ e in cc bad);
          from_frame = λ e. let y = x.from_frame e in record { kept = y.kept; follows = y.follows; last = y.last; taken = y.taken };
          from_file = λ e. let y = x.from_file e in record { unkept = y.unkept; bare = y.bare; empty = y.empty; passes = λ c. absurd (let bad : true ≡ false = sym (whole_changed patch whole.whole) ∙ c in cc bad) };
        };
        covered = record {
          size = x.out.long ∙ sym x.was_long;
          bytes = λ n no. ⊎_elim
              (λ lt. absurd (no (inl (whole.whole, omega (arith, lt, whole.size)))))
              (λ le. get_or_past h.lease.bytes n 0 (omega (arith, le, x.out.long)) ∙ sym (get_or_past h.was.value.bytes n 0 (omega (arith, le, x.was_long))))
              (below_or n k.shape.page_size);
        };
      }

  pub like_marked : (now : Held) (patch : Coverage) → IsMarked k.shape.page_size h now patch → IsLike now
  like_marked now patch is = ⊎_elim
      (λ p. subst IsLike (sym p.1) (like_same p.0))
      (λ p. subst IsLike (sym p.1) (like_whole patch is.whole p.0))
      is.is

  -- the page in this place was marked
  module _ (now : Held) (like : IsLike now) (room' : ℕ) (room : OP_PAGES ≤ room') where
    abbrev kn : Kept
    kn = record k { held = set k.held (place_at k.held h.page.0) now; held_room = room' }

    bytes_same : (file : PageId → Option (List ℕ)) (j : PageId) → page_bytes file kn j ≡ page_bytes file k j
    bytes_same file j = elim (cases_eq j.0 h.page.0) [
      | inl same ↦ subst (λ (p : PageId). page_bytes file kn p ≡ page_bytes file k p) (sym (same_page j h.page same))
          (laws.bytes_here locks k h.page h now room' found like.page like.frame file ∙ ap (λ (l : Leased). Some l.bytes) like.lease
          ∙ sym (ap (λ o. bytes_by o (place_of k h.page) k.seat.view.entries k.number (file h.page)) found))
      | inr ne ↦ laws.bytes_else locks k h.page h now room' found like.page like.frame file j ne
    ]

    covered_now : (old : (i : ℕ) (g : Held) → slice_get k.held i ≡ Some g → i < at → IsCovered g) (i : ℕ) (g : Held) → slice_get kn.held i ≡ Some g → i < at + 1 → IsCovered g
    covered_now old i g is lt = elim (cases_eq i at) [
      | inl same ↦
          let here' : slice_get kn.held at ≡ Some now = ap (λ n. slice_get (set k.held n now) at) place_is ∙ set_here k.held at now (slice_get_within k.held at h there) in
          let q : Some now ≡ Some g = sym here' ∙ ap (slice_get kn.held) (sym same) ∙ is in
          let e : now ≡ g = cc q in subst IsCovered e like.covered
      | inr ne ↦
          let away' : slice_get kn.held i ≡ slice_get k.held i = ap (λ n. slice_get (set k.held n now) i) place_is ∙ set_else k.held at i now ne in
          old i g (sym away' ∙ is) (omega (arith, lt, ne))
    ]

    here : slice_get kn.held at ≡ Some now
    here = ap (λ n. slice_get (set k.held n now) at) place_is ∙ set_here k.held at now (slice_get_within k.held at h there)

    away : (i : ℕ) → i ≢ at → slice_get kn.held i ≡ slice_get k.held i
    away i ne = ap (λ n. slice_get (set k.held n now) i) place_is ∙ set_else k.held at i now ne

    names_now : (id : ℕ) → held_at k.held id ≡ None → held_at kn.held id ≡ None
    names_now id none = elim (cases_eq id h.page.0) [
      | inl same ↦ absurd (let bad : None ≡ Some h = sym none ∙ ap (held_at k.held) same ∙ found in cc bad)
      | inr ne ↦ laws.found_else locks k h.page h now room' found like.page like.frame id ne ∙ none
    ]

    marked_now : (start : Kept) → MarksPages locks at start k → (i : ℕ) (g : Held) → slice_get start.held i ≡ Some g → i < at + 1 → IsMarkedAt kn.held i g
    marked_now start x i g is lt = elim (cases_eq i at) [
      | inl same ↦
          let was : Some h ≡ Some g = sym there ∙ ap (slice_get k.held) (sym same) ∙ x.after i (omega (arith, same)) ∙ is in
          let e : h ≡ g = cc was in record {
            now = now;
            there = ap (slice_get kn.held) same ∙ here;
            page_is = like.page ∙ ap (λ (z : Held). z.page) e;
            frame_is = like.frame ∙ ap (λ (z : Held). z.frame) e;
            tag_is = like.tag ∙ ap (λ (z : Held). z.tag) e;
            lease_is = like.lease ∙ ap (λ (z : Held). z.lease) e;
            flag_is = like.flag ∙ ap unended_flag e;
          }
      | inr ne ↦
          let m = x.marked i g is (omega (arith, lt, ne)) in record {
            now = m.now;
            there = away i ne ∙ m.there;
            page_is = m.page_is;
            frame_is = m.frame_is;
            tag_is = m.tag_is;
            lease_is = m.lease_is;
            flag_is = m.flag_is;
          }
    ]

    pub marks_one : (start : Kept) → MarksPages locks at start k → MarksPages locks (at + 1) start kn
    marks_one start x = record {
      holds = laws.holds_replaced locks k h.page h now room' found like.page like.frame room holds like.held;
      long = laws.long locks k h.page h now room' found like.page like.frame ∙ x.long;
      free = x.free;
      shape = x.shape;
      number = x.number;
      covered = covered_now x.covered;
      marked = marked_now start x;
      after = λ i le. away i (λ e. omega (arith, e, le)) ∙ x.after i (omega (arith, le));
      names = λ id none. names_now id (x.names id none);
      known = λ j. laws.known_same locks k h.page h now room' found like.page like.frame j ∙ x.known j;
      staying = λ j is. let s = x.staying j is in record { frame = s.frame; tag = s.tag; entry = s.entry; kept = s.kept; at = s.at; stay = s.stay };
      pages = λ file j. bytes_same file j ∙ x.pages file j;
      clean = λ file is. laws.clean_replaced locks k h.page h now room' found like.page like.frame file like.was like.read like.unchanged (x.clean file is);
    }

-- the same of a stripe
pub marks_page : (locks : LockTable) (seat : Sight) (start : Kept) (s t : Stripe) (at : ℕ) → MarksPages locks at start (kept s seat) → MarksPage s t at → MarksPages locks (at + 1) start (kept t seat)
marks_page locks seat start s t at x m =
    let k = kept s seat in
    let like = like_marked locks k x.holds at m.page m.there m.now m.patch m.is in
    let one = marks_one locks k x.holds at m.page m.there m.now like (vec_capacity t.held) (subst (λ n. OP_PAGES ≤ n) (sym m.room) x.holds.held_room) start x in
    let is : kept t seat ≡ record k { held = set s.held.items (place_at s.held.items m.page.page.0) m.now; held_room = vec_capacity t.held } =
    ap (λ (z : Stripe). kept z seat) m.rest ∙ (λ i. record k { held = (m.held ∙ ap (λ n. set s.held.items n m.now) (sym (place_is locks k x.holds at m.page m.there))) i; held_room = vec_capacity t.held }) in
    subst (MarksPages locks (at + 1) start) (sym is) one

pub same_marked : (s t : Stripe) (at : ℕ) → MarksPage s t at → SameButPages s t
same_marked s t at m = record {
  number = ap (λ (z : Stripe). z.number) m.rest;
  shape = ap (λ (z : Stripe). z.shape) m.rest;
  files = ap (λ (z : Stripe). z.files) m.rest;
  next = ap (λ (z : Stripe). z.next) m.rest;
  is_running = ap (λ (z : Stripe). z.is_running) m.rest;
  outbox = ap (λ (z : Stripe). z.outbox) m.rest;
}
