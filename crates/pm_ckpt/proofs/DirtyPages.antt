-- The pages that are listed stand in Dirty frames, each once, as their owners keep them.
use Rattle.std.proofs.Common.{◌≡◌, ◌≢◌, ◌⊎◌, inl, inr, ℕ, zero, suc, ◌<◌, ◌≤◌, List, [], ◌∷◌, ◌++◌, append-nil, length, get_or, Bool, true, false, Option, Some, refl, sym, ◌∙◌, ap, subst, arith}
use Rattle.std.specs.Prelude.{◌==◌, ◌&&◌, ◌%◌, ◌/◌, ◌^◌, if◌then◌else◌, slice_get, All, Contains, IsTrue}
use Rattle.std.specs.FinMap as map
use Rattle.std.specs.Option.{option_and_then}
use Rattle.std.specs.List.Sorted.{IsPermutation}
use Rattle.std.proofs.lemmas.Bool.{cases_eq, eqb-true, eq-eqb}
use Rattle.std.proofs.lemmas.List.{length-map, get_or-map, map-append}
use Rattle.std.proofs.lemmas.List.Elements.{All-nil, All-cons, All-append, All-weaker, All-map, All-tail, Contains-append_left, Contains-append_right}
use Rattle.std.proofs.lemmas.List.Sorted.{All-permutation, Contains-permutation, IsPermutation-map}
use Rattle.std.proofs.lemmas.Option.{same_Some}
use Rattle.pm_types.specs.declared.flag.Flag.{Flag}
use Rattle.pm_types.specs.declared.flag.Flag.TheVariants as flag
use Rattle.pm_types.specs.declared.page_id.PageId.{PageId}
use Rattle.pm_types.specs.declared.shape.Shape.{Shape}
use Rattle.pm_types.specs.Ids.{part_of_id, index_of_id}
use Rattle.pm_records.specs.PageNames.{IsPageName}
use Rattle.pm_locks.specs.Sight.{Sight, LockTable, IsFrameOf}
use Rattle.pm_locks.specs.Views.{Has, known_at, entry_at, entry_or}
use Rattle.pm_locks.specs.Words.{AT_HOME}
use Rattle.pm_locks.specs.declared.view.Entry.{Entry}
use Rattle.pm_locks.specs.declared.view.View.{View}
use Rattle.pm_locks.proofs.Numbering.{whole_has}
use Rattle.pm_core.specs.PageSets.{AreOnce, has_page}
use Rattle.pm_core.proofs.Once.{once_push}
use Rattle.pm_stripe.specs.Kept.{IsKeptPage, IsPageOf, place_of, stays}
use Rattle.pm_stripe.specs.Sights.{IsSettledIn}
use Rattle.pm_stripe.proofs.LostPages.{spare_goes}
use Rattle.pm_stripe.specs.Stripes.{kept}
use Rattle.pm_stripe.specs.declared.stripe.Stripe.{Stripe}
use Rattle.pm_ckpt.specs.declared.frame_page.FramePage.{FramePage}
use Rattle.pm_ckpt.specs.Dirty.{is_dirty, placed, page_in, dirty_page, dirty_below, dirty_frames, dirty_pages, dirty_held, held_by, AreResting}
use Rattle.pm_ckpt.specs.Frames.{IsWholeSeat, IsFlagged, AreApart, AreInFrames, HaveLength, names_of, owner_of, frame_bytes}
use Rattle.pm_ckpt.specs.Writes.{IsHeld}
use Rattle.pm_ckpt.proofs.Flagging.{frames_held}
use Rattle.pm_ckpt.proofs.Once.{once_apart, none_among, not_at}
use Rattle.pm_ckpt.proofs.Orders.{once_same}

-- ---- flags

pub dirty_or : (f : Flag) → (f ≡ flag.Dirty) ⊎ (is_dirty f ≡ false)
dirty_or flag.Empty = inr refl
dirty_or flag.Clean = inr refl
dirty_or flag.Dirty = inl refl
dirty_or flag.Due = inr refl
dirty_or flag.Done = inr refl

-- what stays between two rounds is Dirty, in a frame of its worker's
pub staying_word : (v : View) (f n : ℕ) (e : Entry) → IsSettledIn v f → Has v n → entry_at v.entries n f ≡ Some e → IsTrue (stays e.flag) → ((known_at v f).flag ≡ flag.Dirty) × ((known_at v f).owner ≡ n)
staying_word v f n e k has at stay = elim (cases_eq n (known_at v f).owner) [
  | inr other ↦ absurd (spare_goes e.flag (k.others n e has other at) stay)
  | inl own ↦
      let same : k.last ≡ e = same_Some _ _ (sym k.at ∙ ap (λ m. entry_at v.entries m f) (sym own) ∙ at) in
      let flag_is : e.flag ≡ (known_at v f).flag = ap (λ (y : Entry). y.flag) (sym same) ∙ k.flag_is in
      (plain_dirty (known_at v f).flag k.not_due k.not_done (subst (λ g. IsTrue (stays g)) flag_is stay), sym own)
]
  where
    plain_dirty : (g : Flag) → g ≢ flag.Due → g ≢ flag.Done → IsTrue (stays g) → g ≡ flag.Dirty
    plain_dirty flag.Empty due done is = absurd (cc is)
    plain_dirty flag.Clean due done is = absurd (cc is)
    plain_dirty flag.Dirty due done is = refl
    plain_dirty flag.Due due done is = absurd (due refl)
    plain_dirty flag.Done due done is = absurd (done refl)

-- ---- lists

pub stripe_at : (stripes : List Stripe) (n : ℕ) → n < length stripes → (s : Stripe) × (slice_get stripes n ≡ Some s)
stripe_at [] n lt = absurd (omega (arith, lt))
stripe_at (s ∷ ss) zero lt = (s, refl)
stripe_at (s ∷ ss) (suc n) lt = stripe_at ss n (omega (arith, lt))

-- pages of one partition and index have one name
pub name_same : (a b : PageId) → IsPageName a → IsPageName b → part_of_id a ≡ part_of_id b → index_of_id a ≡ index_of_id b → a.0 ≡ b.0
name_same a b one other part index = omega (arith, one.flag, other.flag, part, index)

-- each page that is named once has its own bytes
pub held_own : (view : View) (xs : List FramePage) → AreOnce (names_of xs) → All (λ x. IsPageName x.page) xs → AreInFrames (held_by view xs) view xs
held_own view xs once names k d lt = at xs k d lt once names
  where
    at : (xs : List FramePage) (k : ℕ) (d : FramePage) → k < length xs → AreOnce (names_of xs) → All (λ x. IsPageName x.page) xs
        → held_by view xs (part_of_id (get_or xs k d).page) (index_of_id (get_or xs k d).page) ≡ Some (frame_bytes view (get_or xs k d).frame)
    at [] k d lt once names = absurd (omega (arith, lt))
    at (x ∷ xs) zero d lt once names =
        let part = part_of_id x.page in
        let index = index_of_id x.page in
        ap (λ (b : Bool). if b && (index == index) then Some (frame_bytes view x.frame) else held_by view xs part index) (eq-eqb part part refl)
        ∙ ap (λ (b : Bool). if b then Some (frame_bytes view x.frame) else held_by view xs part index) (eq-eqb index index refl)
    at (x ∷ xs) (suc k) d lt once names =
        let y = get_or xs k d in
        let low : k < length xs = omega (arith, lt) in
        let low_name : k < length (names_of xs) = omega (arith, low, length-map xs (λ (p : FramePage). p.page)) in
        let differ : (y.page.0 == x.page.0) ≡ false =
        ap (λ (p : PageId). p.0 == x.page.0) (sym (get_or-map (λ (p : FramePage). p.page) xs k d x.page low)) ∙ not_at x.page (names_of xs) k x.page low_name once.0 in
        by (part_of_id x.page == part_of_id y.page) (index_of_id x.page == index_of_id y.page) refl refl differ (at xs k d low once.1 (All-tail (λ (p : FramePage). IsPageName p.page) x xs names))
      where
        by : (a b : Bool) → (part_of_id x.page == part_of_id (get_or xs k d).page) ≡ a → (index_of_id x.page == index_of_id (get_or xs k d).page) ≡ b → ((get_or xs k d).page.0 == x.page.0) ≡ false
            → held_by view xs (part_of_id (get_or xs k d).page) (index_of_id (get_or xs k d).page) ≡ Some (frame_bytes view (get_or xs k d).frame)
            → (if a && b then Some (frame_bytes view x.frame) else held_by view xs (part_of_id (get_or xs k d).page) (index_of_id (get_or xs k d).page)) ≡ Some (frame_bytes view (get_or xs k d).frame)
        by true true p i differ rest =
            let y = get_or xs k d in
            let same : x.page.0 ≡ y.page.0 = name_same x.page y.page (names 0 x (omega (arith, lt))) (names (suc k) d lt) (eqb-true _ _ p) (eqb-true _ _ i) in
            let never : true ≡ false = sym (eq-eqb _ _ (sym same)) ∙ differ in
            absurd cc
        by true false p i differ rest = rest
        by false b p i differ rest = rest

-- ---- what is listed

module _ (locks : LockTable) (shape : Shape) (seat : Sight) (stripes : List Stripe) where
  -- a listed page's frame is Dirty, and its owner keeps the page there
  pub record IsListed (page : FramePage) : Type 0 where
    pub frame : IsFrameOf locks page.frame
    pub dirty : (known_at seat.view page.frame).flag ≡ flag.Dirty
    pub home : (known_at seat.view page.frame).holder ≡ AT_HOME
    pub tag : (known_at seat.view page.frame).tag ≡ page.tag
    pub has : Has seat.view (owner_of seat.view page.frame)
    pub stripe : Stripe
    pub at : slice_get stripes (owner_of seat.view page.frame) ≡ Some stripe
    pub entry : Entry
    pub put : entry_at seat.view.entries (owner_of seat.view page.frame) page.frame ≡ Some entry
    pub entry_flag : entry.flag ≡ flag.Dirty
    pub entry_tag : entry.tag ≡ page.tag
    pub place : place_of (kept stripe seat) page.page ≡ Some (page.frame, page.tag)

  module _ (resting : AreResting locks shape seat stripes) (whole : IsWholeSeat locks seat) where
    -- a Dirty frame's page is listed
    pub listed_here : (f : ℕ) → IsFrameOf locks f → (known_at seat.view f).flag ≡ flag.Dirty → (x : FramePage) × (x.frame ≡ f) × (dirty_page stripes f (known_at seat.view f) ≡ x ∷ []) × IsListed x
    listed_here f lt dirty =
        let w = known_at seat.view f in
        let k = resting.settled.each f lt in
        let below : w.owner < length stripes = omega (arith, k.worker, whole.of.staff, resting.count) in
        let s = stripe_at stripes w.owner below in
        let r = resting.each w.owner s.0 s.1 in
        let has : Has seat.view w.owner = whole_has seat.view w.owner whole.knows.whole (inl k.worker) in
        let entry_dirty : k.last.flag ≡ flag.Dirty = k.flag_is ∙ dirty in
        let stay = r.rests.holds.stay f k.last (ap (λ n. entry_at seat.view.entries n f) r.number ∙ k.at) (ap stays entry_dirty) in
        let named = s.0.places.agree.kept stay.0 f k.last.tag stay.1 in
        let x : FramePage = record { page = stay.0; frame = f; tag = w.tag } in (
          x,
          refl,
          ap (λ (b : Bool). if b then placed (page_in (slice_get stripes w.owner) f) f w.tag else []) (ap is_dirty dirty)
              ∙ ap (λ (o : Option Stripe). placed (page_in o f) f w.tag) s.1
              ∙ ap (λ (o : Option (Option PageId)). placed (option_and_then (λ page. page) o) f w.tag) named,
          record {
            frame = lt;
            dirty = dirty;
            home = k.home (whole.still f);
            tag = refl;
            has = has;
            stripe = s.0;
            at = s.1;
            entry = k.last;
            put = k.at;
            entry_flag = entry_dirty;
            entry_tag = k.tag_is;
            place = stay.1 ∙ ap (λ t. Some (f, t)) k.tag_is;
          },
        )

    -- another frame has none
    pub none_here : (f : ℕ) → is_dirty (known_at seat.view f).flag ≡ false → dirty_page stripes f (known_at seat.view f) ≡ []
    none_here f clean =
        let w = known_at seat.view f in
        ap (λ (b : Bool). if b then placed (page_in (slice_get stripes w.owner) f) f w.tag else []) clean

    -- ---- each once

    pub number_of : (x : FramePage) (l : IsListed x) → l.stripe.number ≡ owner_of seat.view x.frame
    number_of x l = (resting.each (owner_of seat.view x.frame) l.stripe l.at).number

    pub kept_of : (x : FramePage) (l : IsListed x) → IsKeptPage locks l.stripe.shape l.stripe.number (entry_at seat.view.entries l.stripe.number x.frame) x.page x.frame x.tag
    kept_of x l = (resting.each (owner_of seat.view x.frame) l.stripe l.at).rests.holds.kept x.page x.frame x.tag l.place

    same_stripe : (x y : FramePage) (l : IsListed x) (m : IsListed y) → owner_of seat.view x.frame ≡ owner_of seat.view y.frame → l.stripe ≡ m.stripe
    same_stripe x y l m owner = same_Some _ _ (sym l.at ∙ ap (slice_get stripes) owner ∙ m.at)

    -- two frames with one page are one
    pub same_page : (x y : FramePage) → IsListed x → IsListed y → x.page.0 ≡ y.page.0 → x.frame ≡ y.frame
    same_page x y l m same =
        let owner : owner_of seat.view x.frame ≡ owner_of seat.view y.frame =
        sym (number_of x l) ∙ sym (kept_of x l).own.worker ∙ ap (λ (n : ℕ). n / 2 ^ 32 % 2 ^ 16 % locks.workers) same ∙ (kept_of y m).own.worker ∙ number_of y m in
        let places : Some (x.frame, x.tag) ≡ Some (y.frame, y.tag) =
        sym l.place ∙ ap (λ (s : Stripe). place_of (kept s seat) x.page) (same_stripe x y l m owner) ∙ ap (λ n. map.get m.stripe.places.table.entries n) same ∙ m.place in
        ap (λ (p : ℕ × ℕ). p.0) (same_Some _ _ places)

    -- and a frame has one page
    pub same_frame : (x y : FramePage) → IsListed x → IsListed y → x.frame ≡ y.frame → x.page ≡ y.page
    same_frame x y l m same =
        let stripes_are = same_stripe x y l m (ap (owner_of seat.view) same) in
        let here = l.stripe.places.agree.kept x.page x.frame x.tag l.place in
        let there = m.stripe.places.agree.kept y.page y.frame y.tag m.place in
        same_Some _ _ (same_Some _ _ (sym here ∙ ap (λ (s : Stripe). slice_get s.places.pages.items x.frame) stripes_are ∙ ap (slice_get m.stripe.places.pages.items) same ∙ there))

    -- a listed page with the name of a page of a worker's is that page, in the frame that keeps it
    pub own_place : (n : ℕ) (s : Stripe) → slice_get stripes n ≡ Some s → (id : PageId) → IsPageOf locks.workers shape.partitions n id → (x : FramePage) → IsListed x → part_of_id x.page ≡ part_of_id id → index_of_id x.page ≡ index_of_id id
        → (owner_of seat.view x.frame ≡ n) × (place_of (kept s seat) id ≡ Some (x.frame, x.tag))
    own_place n s at id own x l part index =
        let page = kept_of x l in
        let number : owner_of seat.view x.frame ≡ n = sym (number_of x l) ∙ sym page.own.worker ∙ ap (λ m. m % locks.workers) part ∙ own.worker in
        let stripe : l.stripe ≡ s = same_Some _ _ (sym l.at ∙ ap (slice_get stripes) number ∙ at) in
        let name : x.page.0 ≡ id.0 = name_same x.page id page.own.name own.name part index in
        (number, ap (λ m. map.get s.places.table.entries m) (sym name) ∙ ap (λ (t : Stripe). place_of (kept t seat) x.page) (sym stripe) ∙ l.place)

    pub all_below : (n : ℕ) → n ≤ length locks.ranges → All (λ x. IsListed x × (x.frame < n)) (dirty_below stripes seat.view n)
    all_below zero le = All-nil (λ x. IsListed x × (x.frame < 0))
    all_below (suc f) le =
        let P : FramePage → Type 0 = λ x. IsListed x × (x.frame < suc f) in
        All-append P (dirty_below stripes seat.view f) (dirty_page stripes f (known_at seat.view f))
        (All-weaker (λ x. IsListed x × (x.frame < f)) P (λ x p. (p.0, omega (arith, p.1))) (dirty_below stripes seat.view f) (all_below f (omega (arith, le))))
        (elim (dirty_or (known_at seat.view f).flag) [
          | inl dirty ↦
              let x = listed_here f (omega (arith, le)) dirty in
              subst (All P) (sym x.2) (All-cons P x.0 [] (x.3, omega (arith, x.1)) (All-nil P))
          | inr clean ↦ subst (All P) (sym (none_here f clean)) (All-nil P)
        ])

    pub all_listed : All IsListed (dirty_frames locks stripes seat.view)
    all_listed k d lt = (all_below (length locks.ranges) (omega arith) k d lt).0

    once_below : (n : ℕ) → n ≤ length locks.ranges → AreOnce (names_of (dirty_below stripes seat.view n))
    once_below zero le = tt
    once_below (suc f) le =
        let before = dirty_below stripes seat.view f in
        let rest = once_below f (omega (arith, le)) in
        let joined = map-append (λ (p : FramePage). p.page) before (dirty_page stripes f (known_at seat.view f)) in
        subst AreOnce (sym joined) (elim (dirty_or (known_at seat.view f).flag) [
          | inl dirty ↦
              let x = listed_here f (omega (arith, le)) dirty in
              let new : has_page x.0.page (names_of before) ≡ false =
              none_among x.0.page (names_of before) (All-map (λ (p : PageId). p.0 ≢ x.0.page.0) (λ (p : FramePage). p.page) before
              (λ k d lt same.
              let earlier = all_below f (omega (arith, le)) k d lt in
              omega (arith, same_page (get_or before k d) x.0 earlier.0 x.3 same, earlier.1, x.1))) in
              subst (λ (ps : List FramePage). AreOnce (names_of before ++ names_of ps)) (sym x.2) (once_push x.0.page (names_of before) new rest)
          | inr clean ↦ subst (λ (ps : List FramePage). AreOnce (names_of before ++ names_of ps)) (sym (none_here f clean)) (subst AreOnce (sym (append-nil (names_of before))) rest)
        ])

    pub dirty_once : AreOnce (dirty_pages locks stripes seat.view)
    dirty_once = once_below (length locks.ranges) (omega arith)

    -- ---- their bytes

    pub held_frames : AreInFrames (dirty_held locks stripes seat.view) seat.view (dirty_frames locks stripes seat.view)
    held_frames =
        let pages = dirty_frames locks stripes seat.view in
        held_own seat.view pages dirty_once (λ k d lt. (kept_of (get_or pages k d) (all_listed k d lt)).own.name)

    pub sized_frames : HaveLength shape.page_size seat.view (dirty_frames locks stripes seat.view)
    sized_frames k d lt =
        let x = get_or (dirty_frames locks stripes seat.view) k d in
        let l = all_listed k d lt in
        let page = kept_of x l in
        let r = resting.each (owner_of seat.view x.frame) l.stripe l.at in
        ap (λ n. length (entry_or (entry_at seat.view.entries n x.frame)).bytes) (sym r.number)
        ∙ ap (λ o. length (entry_or o).bytes) page.at ∙ page.long ∙ ap (λ (s : Shape). s.page_size) r.shaped

    pub held_all : All (IsHeld shape.page_size (dirty_held locks stripes seat.view)) (dirty_pages locks stripes seat.view)
    held_all = frames_held shape.page_size (dirty_held locks stripes seat.view) seat.view (dirty_frames locks stripes seat.view) sized_frames held_frames

    -- ---- in another order

    module _ (pages : List FramePage) (same : IsPermutation (dirty_frames locks stripes seat.view) pages) where
      pub pages_listed : All IsListed pages
      pages_listed = All-permutation IsListed (dirty_frames locks stripes seat.view) pages same all_listed

      pub pages_once : AreOnce (names_of pages)
      pages_once = once_same (dirty_pages locks stripes seat.view) (names_of pages) (IsPermutation-map (λ (p : FramePage). p.page) (dirty_frames locks stripes seat.view) pages same) dirty_once

      pub pages_apart : AreApart pages
      pages_apart i j d low lt frame =
          let x = get_or pages i d in
          let y = get_or pages j d in
          let name = λ (p : FramePage). p.page in
          let page : x.page ≡ y.page = same_frame x y (pages_listed i d (omega (arith, low, lt))) (pages_listed j d lt) frame in
          let at_i : get_or (names_of pages) i d.page ≡ x.page = get_or-map name pages i d d.page (omega (arith, low, lt)) in
          let at_j : get_or (names_of pages) j d.page ≡ y.page = get_or-map name pages j d d.page lt in
          once_apart (names_of pages) i j d.page low (omega (arith, lt, length-map pages name)) pages_once (ap (λ (p : PageId). p.0) (at_i ∙ page ∙ sym at_j))

      pub pages_flagged : All (IsFlagged locks flag.Dirty seat.view) pages
      pages_flagged k d lt =
          let l = pages_listed k d lt in
          record { frame = l.frame; wanted = record { same = l.tag; flag = l.dirty }; home = l.home }

      pub pages_sized : HaveLength shape.page_size seat.view pages
      pages_sized = All-permutation (λ page. length (frame_bytes seat.view page.frame) ≡ shape.page_size) (dirty_frames locks stripes seat.view) pages same sized_frames

      pub pages_held : AreInFrames (dirty_held locks stripes seat.view) seat.view pages
      pages_held =
          let held = dirty_held locks stripes seat.view in
          All-permutation (λ page. held (part_of_id page.page) (index_of_id page.page) ≡ Some (frame_bytes seat.view page.frame)) (dirty_frames locks stripes seat.view) pages same held_frames

      -- a Dirty frame's page is among them
      pub is_among : (f : ℕ) → IsFrameOf locks f → (known_at seat.view f).flag ≡ flag.Dirty → (x : FramePage) × (x.frame ≡ f) × Contains pages x
      is_among f lt dirty =
          let x = listed_here f lt dirty in
          (x.0, x.1, Contains-permutation (dirty_frames locks stripes seat.view) pages x.0 same (among (length locks.ranges) lt))
        where
          among : (n : ℕ) → f < n → Contains (dirty_below stripes seat.view n) (listed_here f lt dirty).0
          among zero low = absurd (omega (arith, low))
          among (suc n) low =
              let x = listed_here f lt dirty in
              elim (cases_eq f n) [
                | inl here ↦ Contains-append_right (dirty_below stripes seat.view n) (dirty_page stripes n (known_at seat.view n)) x.0
                    (subst (λ (ps : List FramePage). Contains ps x.0) (sym (ap (λ m. dirty_page stripes m (known_at seat.view m)) (sym here) ∙ x.2)) (0, omega arith, refl))
                | inr other ↦ Contains-append_left (dirty_below stripes seat.view n) (dirty_page stripes n (known_at seat.view n)) x.0 (among n (omega (arith, low, other)))
              ]
