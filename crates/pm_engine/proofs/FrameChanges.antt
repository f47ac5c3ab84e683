-- What an operation handed over is what it changed of the pages in its worker's frames.
use Rattle.std.proofs.Common.{◌≡◌, ℕ, ◌<◌, Bool, true, false, List, [], ◌⊎◌, ⊎_elim, inl, inr, length, Option, None, Some, sym, refl, ap, subst, ◌∙◌, arith, cond}
use Rattle.std.specs.Prelude.{IsTrue, IfSome, slice_get, ◌&&◌, not}
use Rattle.std.proofs.lemmas.Bool.{false≢true}
use Rattle.std.proofs.lemmas.Grind.{same_number_lists}
use Rattle.std.proofs.lemmas.List.{get_or_past}
use Rattle.pm_types.specs.PageSizes.{IsPageSize}
use Rattle.pm_types.specs.Pages.{SameOutside}
use Rattle.pm_types.specs.Spans.{Coverage, Covers}
use Rattle.pm_types.specs.declared.flag.Flag.{Flag}
use Rattle.pm_types.specs.declared.flag.Flag.TheVariants as flag
use Rattle.pm_types.specs.declared.page_id.PageId.{PageId}
use Rattle.pm_types.specs.Ids.{page_id, index_of_id}
use Rattle.pm_pages.specs.Asked.{is_changed}
use Rattle.pm_pages.specs.Paged.{CoversByte}
use Rattle.pm_locks.specs.declared.view.Entry.{Entry}
use Rattle.pm_locks.specs.Sight.{LockTable}
use Rattle.pm_stripe.specs.declared.held.Held.{Held}
use Rattle.pm_stripe.specs.Bases.{base_by, base_bytes, IsAllCovered, KeepsBases}
use Rattle.pm_stripe.specs.ChangedPages.{ChangedPage, as_changed, is_logged}
use Rattle.pm_stripe.specs.Kept.{Kept, held_at, place_of, last_put, stays, stays_in, bytes_by, page_bytes, known_by, is_known, IsHeldIn, IsStaying, Holds}
use Rattle.pm_stripe.specs.Listings.{IsChangedPage}
use Rattle.pm_stripe.specs.Moves.{AreOfPart}
use Rattle.pm_stripe.specs.Puts.{AreToldCovered, IsPutAs, put_flag}
use Rattle.pm_stripe.proofs.BasePages.{staying_known}
use Rattle.pm_stripe.proofs.CoveredPages.{stays_before}
use Rattle.pm_stripe.proofs.Hands.{found_at}
use Rattle.pm_stripe.proofs.MarkedPages.{found, below_or}
use Rattle.pm_stripe.proofs.PlacedPages.{same_page}
use Rattle.pm_stripe.proofs.PutPages.{not_covered}
use Rattle.pm_stripe.specs.HandLaws.{held_is}
use Rattle.pm_engine.specs.FrameCommands.{IsChangedIn}

-- ---- one page

some_size : (size : ℕ) → IsPageSize size → 0 < size
some_size size is = elim is [ inl e ↦ omega (arith, e) | inr r ↦ elim r [ inl e ↦ omega (arith, e) | inr r2 ↦ elim r2 [ inl e ↦ omega (arith, e) | inr r3 ↦ elim r3 [ inl e ↦ omega (arith, e) | inr e ↦ omega (arith, e) ] ] ] ]

logged_stays : (f : Flag) → is_logged f ≡ true → IsTrue (stays f)
logged_stays flag.Empty is = absurd (false≢true is)
logged_stays flag.Clean is = absurd (false≢true is)
logged_stays flag.Dirty is = refl
logged_stays flag.Due is = absurd (false≢true is)
logged_stays flag.Done is = absurd (false≢true is)

-- a page that wasn't changed and was put back so that it stays had such a flag
unchanged_flag : (h : Held) → is_changed h.patch ≡ false → IsTrue (stays (put_flag h)) → IsTrue (stays h.flag)
unchanged_flag h off stay = by (is_changed h.patch) (h.is_lent && not (stays h.flag)) h.is_read off stay
  where
    by : (a b r : Bool) → a ≡ false → IsTrue (stays (cond a flag.Dirty (cond b flag.Empty (cond r flag.Clean h.flag)))) → IsTrue (stays h.flag)
    by true b r off stay = absurd (false≢true (sym off))
    by false true r off stay = absurd (false≢true stay)
    by false false true off stay = absurd (false≢true stay)
    by false false false off stay = stay

same_pair : (p q : ℕ × ℕ) → Some p ≡ Some q → p.0 ≡ q.0
same_pair p q e = ap (λ (o : Option (ℕ × ℕ)). elim o as (λ _. ℕ) [ None ↦ p.0 | Some r ↦ r.0 ]) e

same_entry : (a b : Entry) → Some a ≡ Some b → a ≡ b
same_entry a b e = cc

by_test : {X : Type 0} (b : Bool) → (b ≡ true → X) → (b ≡ false → X) → X
by_test true on off = on refl
by_test false on off = off refl

changed_flag : (h : Held) → is_changed h.patch ≡ true → put_flag h ≡ flag.Dirty
changed_flag h on = ap (λ b. cond b flag.Dirty (cond (h.is_lent && not (stays h.flag)) flag.Empty (cond h.is_read flag.Clean h.flag))) on

-- a page that isn't in hand and is at hand stays in its frame
pub known_staying : (k : Kept) (id : PageId) → held_at k.held id.0 ≡ None → is_known k id ≡ true → IsStaying k id
known_staying k id none known = by_place (place_of k id) refl
  where
    entries : known_by None (place_of k id) k.seat.view.entries k.number ≡ true
    entries = ap (λ (o : Option Held). known_by o (place_of k id) k.seat.view.entries k.number) (sym none) ∙ known

    by_entry : (p : ℕ × ℕ) → place_of k id ≡ Some p → IsTrue (stays_in (last_put k p.0)) → IsStaying k id
    by_entry p is stay = elim (last_put k p.0) as (λ e. last_put k p.0 ≡ e → IsTrue (stays_in e) → IsStaying k id) [
      | None ↦ λ at bad. absurd (false≢true bad)
      | Some e ↦ λ at good. record { frame = p.0; tag = p.1; entry = e; kept = is; at = at; stay = good }
    ] refl stay

    by_place : (o : Option (ℕ × ℕ)) → place_of k id ≡ o → IsStaying k id
    by_place None is = absurd (false≢true (ap (λ o. known_by None o k.seat.view.entries k.number) (sym is) ∙ entries))
    by_place (Some p) is = by_entry p is (ap (λ o. known_by None o k.seat.view.entries k.number) (sym is) ∙ entries)

-- a page in hand whose flag says so stays in its frame
pub held_stays : (locks : LockTable) (k : Kept) (h : Held) → Holds locks k → IsHeldIn locks k h → IsTrue (stays h.flag) → IsStaying k h.page
held_stays locks k h holds held stay = by_read h.is_read refl
  where
    by_read : (read : Bool) → h.is_read ≡ read → IsStaying k h.page
    by_read true r = absurd (false≢true (ap stays (sym (held.from_file r).empty) ∙ stay))
    by_read false r =
        let x = held.from_frame r in
        let y = holds.kept h.page h.frame h.tag x.kept in
        record { frame = h.frame; tag = h.tag; entry = y.entry; kept = x.kept; at = y.at; stay = stays_before y.entry.flag h.flag (x.follows y.entry y.at) stay }

-- ---- from the pages before an operation to those at its end

module _ (locks : LockTable) (tells : Type 0) (file file' : PageId → Option (List ℕ)) (part : ℕ) (k k' : Kept) (none : k.held ≡ []) (shape : k'.shape ≡ k.shape) (holds : Holds locks k) (holds' : Holds locks k')
    (bases : KeepsBases k.shape.page_size tells file file' k k') (alone : AreOfPart part k'.held) (covered : AreToldCovered tells k'.held)
    (file_long : (id : PageId) (bytes : List ℕ) → file id ≡ Some bytes → length bytes ≡ k.shape.page_size) where
  abbrev size : ℕ
  size = k.shape.page_size

  none_here : (id : PageId) → held_at k.held id.0 ≡ None
  none_here id = ap (λ hs. held_at hs id.0) none

  -- none was in hand: each page was as it is where it isn't in hand
  was_base : (id : PageId) → base_bytes file k id ≡ page_bytes file k id
  was_base id =
      ap (λ o. base_by o (place_of k id) k.seat.view.entries k.number (file id)) (none_here id)
      ∙ sym (ap (λ o. bytes_by o (place_of k id) k.seat.view.entries k.number (file id)) (none_here id))

  -- a page that was there had the page size
  was_long : (id : PageId) (bytes : List ℕ) → page_bytes file k id ≡ Some bytes → length bytes ≡ size
  was_long id bytes is = by_place (place_of k id) refl
    where
      placed : bytes_by None (place_of k id) k.seat.view.entries k.number (file id) ≡ Some bytes
      placed = sym (ap (λ o. bytes_by o (place_of k id) k.seat.view.entries k.number (file id)) (none_here id)) ∙ is

      by_place : (o : Option (ℕ × ℕ)) → place_of k id ≡ o → length bytes ≡ size
      by_place None at = file_long id bytes (ap (λ o. bytes_by None o k.seat.view.entries k.number (file id)) (sym at) ∙ placed)
      by_place (Some p) at =
          let x = holds.kept id p.0 p.1 at in
          let put = ap (λ o. bytes_by None o k.seat.view.entries k.number (file id)) (sym at) ∙ placed in
          let same : Some x.entry.bytes ≡ Some bytes = sym (ap (λ o. elim o as (λ _. Option (List ℕ)) [ None ↦ None | Some e ↦ Some e.bytes ]) x.at) ∙ put in
          let e : x.entry.bytes ≡ bytes = cc same in
          ap length (sym e) ∙ x.long

  -- of a page that isn't in hand at the end, and is told or stays
  away_same : (id : PageId) → held_at k'.held id.0 ≡ None → tells ⊎ IsTrue (is_known k' id) → page_bytes file' k' id ≡ page_bytes file k id
  away_same id away told =
      let same = either_base told in
      sym (ap (λ o. base_by o (place_of k' id) k'.seat.view.entries k'.number (file' id)) away ∙ sym (ap (λ o. bytes_by o (place_of k' id) k'.seat.view.entries k'.number (file' id)) away))
      ∙ same ∙ was_base id
    where
      not_all : IsAllCovered size (held_at k'.held id.0) → ⊥
      not_all all = subst (IsAllCovered size) away all

      either_base : tells ⊎ IsTrue (is_known k' id) → base_bytes file' k' id ≡ base_bytes file k id
      either_base (inl t) = ⊎_elim (λ all. absurd (not_all all)) (λ e. e) (bases.told t id)
      either_base (inr known) = ⊎_elim (λ all. absurd (not_all all)) (λ e. e) (bases.stay id (known_staying k' id away known)).1

  module _ (i : ℕ) (h : Held) (is : slice_get k'.held i ≡ Some h) where
    held : IsHeldIn locks k' h
    held = holds'.held i h is

    here : held_at k'.held h.page.0 ≡ Some h
    here = found locks k' holds' i h is

    pub name : h.page ≡ page_id part (index_of_id h.page)
    name = same_page h.page (page_id part (index_of_id h.page)) (omega (arith, alone i h is, held.own.name.flag))

    pub long : length h.lease.bytes ≡ size
    long = held.out.long ∙ ap (λ s. s.page_size) shape

    pub at_end : page_bytes file' k' h.page ≡ Some h.lease.bytes
    at_end = ap (λ o. bytes_by o (place_of k' h.page) k'.seat.view.entries k'.number (file' h.page)) here

    base : base_bytes file' k' h.page ≡ Some h.was.value.bytes
    base = ap (λ o. base_by o (place_of k' h.page) k'.seat.view.entries k'.number (file' h.page)) here

    -- it stayed in its frame before, where its flag says that it stays
    pub stayed : IsTrue (stays h.flag) → IsStaying k h.page
    stayed stay = (bases.stay h.page (held_stays locks k' h holds' held stay)).0

    -- it was so before, or is covered as a whole
    was_so : tells ⊎ IsTrue (stays h.flag) → IsAllCovered size (Some h) ⊎ (page_bytes file k h.page ≡ Some h.was.value.bytes)
    was_so told = ⊎_elim (λ all. inl (subst (IsAllCovered size) here all)) (λ e. inr (sym (was_base h.page) ∙ sym e ∙ base)) (either told)
      where
        either : tells ⊎ IsTrue (stays h.flag) → IsAllCovered size (held_at k'.held h.page.0) ⊎ (base_bytes file' k' h.page ≡ base_bytes file k h.page)
        either (inl t) = bases.told t h.page
        either (inr stay) = (bases.stay h.page (held_stays locks k' h holds' held stay)).1

    pub unchanged : is_changed h.patch ≡ false → tells ⊎ IsTrue (stays h.flag) → page_bytes file k h.page ≡ Some h.lease.bytes
    unchanged off told = elim (was_so told) [
      | inl all ↦ absurd (not_covered h.patch 0 off (all 0 (some_size size holds.shaped.page_size)))
      | inr was ↦
          let cover = covered i h is told in
          let same : h.lease.bytes ≡ h.was.value.bytes = same_number_lists h.lease.bytes h.was.value.bytes cover.size (λ n lt. cover.bytes n (not_covered h.patch n off)) in
          was ∙ ap Some (sym same)
    ]

    pub noted_change : (patch : Coverage) → h.patch ≡ Some patch → tells ⊎ IsTrue (stays h.flag) → (before : List ℕ) → page_bytes file k h.page ≡ Some before → SameOutside (Covers patch) before h.lease.bytes
    noted_change patch noted told before was =
        let before_long = was_long h.page before was in
        elim (was_so told) [
          | inl all ↦ record {
            size = long ∙ sym before_long;
            bytes = λ n away. elim (below_or n size) [
              | inl lt ↦ absurd (away (subst (λ o. CoversByte o n) noted (all n lt)))
              | inr le ↦ get_or_past h.lease.bytes n 0 (omega (arith, le, long)) ∙ sym (get_or_past before n 0 (omega (arith, le, before_long)))
            ];
          }
          | inr so ↦
              let same : before ≡ h.was.value.bytes = (let e : Some before ≡ Some h.was.value.bytes = sym was ∙ so in cc e) in
              let cover : SameOutside (CoversByte (Some patch)) h.was.value.bytes h.lease.bytes = subst (λ o. SameOutside (CoversByte o) h.was.value.bytes h.lease.bytes) noted (covered i h is told) in
              subst (λ (b : List ℕ). SameOutside (Covers patch) b h.lease.bytes) (sym same) (record { size = cover.size; bytes = cover.bytes })
        ]

    pub patch_size : (patch : Coverage) → h.patch ≡ Some patch → patch.page_size ≡ size
    patch_size patch noted = subst (λ o. IfSome o (λ (p : Coverage). p.page_size ≡ k'.shape.page_size)) noted held.patched ∙ ap (λ s. s.page_size) shape

  -- ---- and to those after it

  module _ (file2 : PageId → Option (List ℕ)) (k2 : Kept) (none2 : k2.held ≡ [])
      (pages2 : (id : PageId) → tells ⊎ IsTrue (is_known k2 id) → page_bytes file2 k2 id ≡ page_bytes file' k' id)
      (only2 : (id : PageId) → held_at k'.held id.0 ≡ None → is_known k2 id ≡ is_known k' id)
      (put2 : (i : ℕ) (h : Held) → slice_get k'.held i ≡ Some h → IsPutAs k2 h (put_flag h)) where
    -- a page that was changed stays in its frame
    changed_stays : (i : ℕ) (h : Held) → slice_get k'.held i ≡ Some h → is_changed h.patch ≡ true → IsStaying k2 h.page
    changed_stays i h is on =
        let put = put2 i h is in
        let dirty = changed_flag h on in
        record {
          frame = h.frame;
          tag = h.tag;
          entry = put.entry;
          kept = put.kept (λ empty. absurd (let bad : flag.Dirty ≡ flag.Empty = sym dirty ∙ empty in cc bad));
          at = put.at;
          stay = ap stays (put.flag_is ∙ dirty);
        }

    pub page_stays : (p : ChangedPage) → IsChangedPage k'.held p → IsStaying k2 p.page
    page_stays p x =
        let on : is_changed x.page.patch ≡ true = ap is_changed x.patched ∙ x.some in
        subst (IsStaying k2) (sym (ap (λ (c : ChangedPage). c.page) x.is)) (changed_stays x.place x.page x.at on)

    pub page_now : (p : ChangedPage) → IsChangedPage k'.held p → page_bytes file2 k2 p.page ≡ Some p.bytes
    page_now p x =
        let id : p.page ≡ x.page.page = ap (λ (c : ChangedPage). c.page) x.is in
        let bytes : p.bytes ≡ x.page.lease.bytes = ap (λ (c : ChangedPage). c.bytes) x.is in
        pages2 p.page (inr (staying_known k2 p.page (page_stays p x))) ∙ ap (page_bytes file' k') id ∙ at_end x.place x.page x.at ∙ ap Some (sym bytes)

    pub page_long : (p : ChangedPage) → IsChangedPage k'.held p → length p.bytes ≡ size
    page_long p x = ap (λ (c : ChangedPage). length c.bytes) x.is ∙ long x.place x.page x.at

    pub page_name : (p : ChangedPage) → IsChangedPage k'.held p → p.page ≡ page_id part (index_of_id p.page)
    page_name p x = subst (λ (id : PageId). id ≡ page_id part (index_of_id id)) (sym (ap (λ (c : ChangedPage). c.page) x.is)) (name x.place x.page x.at)

    pub page_logged : (p : ChangedPage) → IsChangedPage k'.held p → p.is_logged ≡ true → IsStaying k p.page
    page_logged p x logged =
        let flag_logged : is_logged x.page.flag ≡ true = sym (ap (λ (c : ChangedPage). c.is_logged) x.is) ∙ logged in
        subst (IsStaying k) (sym (ap (λ (c : ChangedPage). c.page) x.is)) (stayed x.place x.page x.at (logged_stays x.page.flag flag_logged))

    -- the changed page in hand with this name
    changed_in : (id : PageId) (i : ℕ) (h : Held) → slice_get k'.held i ≡ Some h → h.page ≡ id → is_changed h.patch ≡ true → IsChangedIn k'.held id
    changed_in id i h is same on = by_patch h.patch refl
      where
        by_patch : (o : Option Coverage) → h.patch ≡ o → IsChangedIn k'.held id
        by_patch None e = absurd (false≢true (ap is_changed (sym e) ∙ on))
        by_patch (Some patch) e = record {
          page = as_changed h patch;
          changed = record { place = i; page = h; patch = patch; at = is; patched = e; some = ap is_changed (sym e) ∙ on; is = refl };
          is = same;
        }

    -- an unchanged page in hand that stays afterwards had such a flag
    flag_before : (id : PageId) (i : ℕ) (h : Held) → slice_get k'.held i ≡ Some h → h.page ≡ id → is_changed h.patch ≡ false → IsStaying k2 id → IsTrue (stays h.flag)
    flag_before id i h is same off stay = unchanged_flag h off put_stays
      where
        put : IsPutAs k2 h (put_flag h)
        put = put2 i h is

        at_page : place_of k2 h.page ≡ Some (stay.frame, stay.tag)
        at_page = ap (place_of k2) same ∙ stay.kept

        put_stays : IsTrue (stays (put_flag h))
        put_stays = by (put_flag h) refl
          where
            by_kept : place_of k2 h.page ≡ Some (h.frame, h.tag) → IsTrue (stays (put_flag h))
            by_kept kept =
                let pair : Some (stay.frame, stay.tag) ≡ Some (h.frame, h.tag) = sym at_page ∙ kept in
                let frame : stay.frame ≡ h.frame = same_pair (stay.frame, stay.tag) (h.frame, h.tag) pair in
                let e : stay.entry ≡ put.entry = same_entry stay.entry put.entry (sym stay.at ∙ ap (last_put k2) frame ∙ put.at) in
                ap stays (sym put.flag_is) ∙ ap (λ entry. stays entry.flag) (sym e) ∙ stay.stay

            by : (f : Flag) → put_flag h ≡ f → IsTrue (stays (put_flag h))
            by flag.Empty e = absurd (let bad : None ≡ Some (stay.frame, stay.tag) = sym (put.gone e) ∙ at_page in cc bad)
            by flag.Clean e = by_kept (put.kept (λ empty. absurd (let bad : flag.Clean ≡ flag.Empty = sym e ∙ empty in cc bad)))
            by flag.Dirty e = ap stays e
            by flag.Due e = ap stays e
            by flag.Done e = ap stays e

    -- of the pages that stay each did before, or was changed
    pub staying_back : (id : PageId) → IsStaying k2 id → IsStaying k id ⊎ IsChangedIn k'.held id
    staying_back id stay = by_hand (held_at k'.held id.0) refl
      where
        by_hand : (o : Option Held) → held_at k'.held id.0 ≡ o → IsStaying k id ⊎ IsChangedIn k'.held id
        by_hand None away = inl (bases.stay id (known_staying k' id away (sym (only2 id away) ∙ staying_known k2 id stay))).0
        by_hand (Some h) at =
            let x = found_at k'.held id.0 h at in
            let same : h.page ≡ id = same_page h.page id (held_is k'.held id.0 h at) in
            by_test (is_changed h.patch) (λ on. inr (changed_in id x.0 h x.1 same on))
            (λ off. inl (subst (IsStaying k) same (stayed x.0 h x.1 (flag_before id x.0 h x.1 same off stay))))

    -- no other page changed
    pub others_same : (id : PageId) → (IsChangedIn k'.held id → ⊥) → tells ⊎ IsTrue (is_known k2 id) → page_bytes file2 k2 id ≡ page_bytes file k id
    others_same id un told = pages2 id told ∙ by_hand (held_at k'.held id.0) refl
      where
        by_hand : (o : Option Held) → held_at k'.held id.0 ≡ o → page_bytes file' k' id ≡ page_bytes file k id
        by_hand None away = away_same id away (⊎_elim (λ t. inl t) (λ known. inr (sym (only2 id away) ∙ known)) told)
        by_hand (Some h) at =
            let x = found_at k'.held id.0 h at in
            let same : h.page ≡ id = same_page h.page id (held_is k'.held id.0 h at) in
            by_test (is_changed h.patch) (λ on. absurd (un (changed_in id x.0 h x.1 same on)))
            (λ off.
            let flagged = ⊎_elim (λ t. inl t) (λ known. inr (flag_before id x.0 h x.1 same off (known_staying k2 id (ap (λ hs. held_at hs id.0) none2) known))) told in
            ap (page_bytes file' k') (sym same) ∙ at_end x.0 h x.1 ∙ sym (unchanged x.0 h x.1 off flagged) ∙ ap (page_bytes file k) same)
