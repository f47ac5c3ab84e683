-- Code over any pages notes what it changed: by that each page in hand is covered by its patch at an operation's end.
use Rattle.std.proofs.Common.{◌≡◌, ℕ, ◌<◌, ◌≤◌, Bool, true, false, [], ◌⊎◌, ⊎_elim, inl, inr, Some, None, sym, refl, ap, subst, ◌∙◌, arith}
use Rattle.std.specs.Prelude.{IsTrue, slice_get, slice_index}
use Rattle.std.proofs.lemmas.List.{get_or_past}
use Rattle.pm_types.specs.declared.flag.Flag.{Flag}
use Rattle.pm_types.specs.declared.flag.Flag.TheVariants as flag
use Rattle.pm_types.specs.declared.page_id.PageId.{PageId}
use Rattle.pm_types.specs.Ids.{page_id, index_of_id}
use Rattle.pm_disk.specs.Moments.{History}
use Rattle.pm_disk.specs.States.{DeviceState}
use Rattle.pm_pages.specs.Paged.{CoversByte}
use Rattle.pm_pages.specs.Rows.{bytes_of}
use Rattle.pm_locks.specs.Words.{IsReachedFrom, code_of}
use Rattle.pm_locks.specs.Sight.{LockTable}
use Rattle.pm_stripe.specs.declared.bound.Bound.{Bound}
use Rattle.pm_stripe.specs.declared.held.Held.{Held}
use Rattle.pm_stripe.specs.Bases.{base_by, base_bytes, IsAllCovered}
use Rattle.pm_stripe.specs.Covers.{NotesChanges}
use Rattle.pm_stripe.specs.Kept.{Kept, held_at, place_of, stays, bytes_by, page_bytes, is_known, IsHeldIn, IsStaying, Holds}
use Rattle.pm_stripe.specs.Puts.{IsCovered, AreToldCovered}
use Rattle.pm_stripe.specs.Shown.{patch_of, kept_by, file_by, shown, IsReady, KeepsBound}
use Rattle.pm_stripe.proofs.BasePages.{staying_known}
use Rattle.pm_stripe.proofs.MarkedPages.{found, below_or}
use Rattle.pm_stripe.proofs.PlacedPages.{same_page}

pub stays_before : (was after : Flag) → IsReachedFrom was after → IsTrue (stays after) → IsTrue (stays was)
stays_before was after reached stay = ⊎_elim (λ same. ap stays same ∙ stay) (λ p. far was p.0) reached
  where
    far : (was : Flag) → 2 ≤ code_of was → IsTrue (stays was)
    far flag.Empty le = absurd (omega (arith, le))
    far flag.Clean le = absurd (omega (arith, le))
    far flag.Dirty le = refl
    far flag.Due le = refl
    far flag.Done le = refl

-- a page in hand whose flag says so stays in its frame
held_stays : (locks : LockTable) (k : Kept) (h : Held) → Holds locks k → IsHeldIn locks k h → IsTrue (stays h.flag) → IsStaying k h.page
held_stays locks k h holds held stay = by_read h.is_read refl
  where
    by_read : (read : Bool) → h.is_read ≡ read → IsStaying k h.page
    by_read true r = absurd (let bad : false ≡ true = ap stays (sym (held.from_file r).empty) ∙ stay in cc bad)
    by_read false r =
        let x = held.from_frame r in
        let y = holds.kept h.page h.frame h.tag x.kept in
        record { frame = h.frame; tag = h.tag; entry = y.entry; kept = x.kept; at = y.at; stay = stays_before y.entry.flag h.flag (x.follows y.entry y.at) stay }

module _ {Q R : Type 0} (tells : Type 0) (history : R → History) (state : R → DeviceState) (b c : Bound Q R) (ready : IsReady tells history state b) (none : b.stripe.held.items ≡ []) (keeps : KeepsBound tells history state b c)
    (edits : NotesChanges tells (shown history state b) (shown history state c)) where
  abbrev k : Kept
  k = kept_by b

  abbrev k' : Kept
  k' = kept_by c

  holds' : Holds c.locks.now k'
  holds' = (keeps.leaves ready).ready.bound.holds

  module _ (i : ℕ) (h : Held) (is : slice_get c.stripe.held.items i ≡ Some h) where
    held : IsHeldIn c.locks.now k' h
    held = holds'.held i h is

    abbrev index : ℕ
    index = index_of_id h.page

    abbrev id : PageId
    id = page_id c.part index

    name : h.page.0 ≡ id.0
    name = omega (arith, (keeps.leaves ready).ready.operates.alone i h is, held.own.name.flag)

    here : held_at c.stripe.held.items id.0 ≡ Some h
    here = ap (held_at c.stripe.held.items) (sym name) ∙ found c.locks.now k' holds' i h is

    now : (shown history state c).pages index ≡ Some h.lease.bytes
    now = ap (λ o. bytes_by o (place_of k' id) k'.seat.view.entries k'.number (file_by history c id)) here

    base : base_bytes (file_by history c) k' id ≡ Some h.was.value.bytes
    base = ap (λ o. base_by o (place_of k' id) k'.seat.view.entries k'.number (file_by history c id)) here

    none_here : held_at b.stripe.held.items id.0 ≡ None
    none_here = ap (λ hs. held_at hs id.0) none

    -- the page was so when the operation began
    before : base_bytes (file_by history c) k' id ≡ base_bytes (file_by history b) k id → (shown history state b).pages index ≡ Some h.was.value.bytes
    before same =
        ap (λ p. page_bytes (file_by history b) k (page_id p index)) (sym keeps.part)
        ∙ ap (λ o. bytes_by o (place_of k id) k.seat.view.entries k.number (file_by history b id)) none_here
        ∙ sym (ap (λ o. base_by o (place_of k id) k.seat.view.entries k.number (file_by history b id)) none_here)
        ∙ sym same ∙ base

    past : (n : ℕ) → b.stripe.shape.page_size ≤ n → slice_index h.lease.bytes n ≡ slice_index h.was.value.bytes n
    past n le =
        let size : k'.shape.page_size ≡ b.stripe.shape.page_size = ap (λ s. s.page_size) keeps.same.shape in
        get_or_past h.lease.bytes n 0 (omega (arith, le, size, held.out.long)) ∙ sym (get_or_past h.was.value.bytes n 0 (omega (arith, le, size, held.was_long)))

    by_bytes : ((n : ℕ) → n < b.stripe.shape.page_size → (CoversByte h.patch n → ⊥) → slice_index h.lease.bytes n ≡ slice_index h.was.value.bytes n) → IsCovered h
    by_bytes each = record {
      size = held.out.long ∙ sym held.was_long;
      bytes = λ n not. ⊎_elim (λ lt. each n lt not) (past n) (below_or n b.stripe.shape.page_size);
    }

    all_covered : IsAllCovered b.stripe.shape.page_size (held_at c.stripe.held.items id.0) → IsCovered h
    all_covered all = by_bytes (λ n lt not. absurd (not (subst (IsAllCovered b.stripe.shape.page_size) here all n lt)))

    noted : tells ⊎ IsStaying k id → base_bytes (file_by history c) k' id ≡ base_bytes (file_by history b) k id → IsCovered h
    noted told same = by_bytes (λ n lt not.
        let known : tells ⊎ IsTrue (is_known k (page_id b.part index)) = ⊎_elim (λ t. inl t) (λ s. inr (ap (λ p. is_known k (page_id p index)) (sym keeps.part) ∙ staying_known k id s)) told in
        let covered = edits.covered index n lt known (λ covers. not (subst (λ o. CoversByte o n) (ap patch_of here) covers)) in
        ap (λ o. slice_index (bytes_of o) n) (sym now) ∙ covered ∙ ap (λ o. slice_index (bytes_of o) n) (before same))

    by_case : tells ⊎ IsTrue (stays h.flag) → IsCovered h
    by_case = ⊎_elim
        (λ t. ⊎_elim all_covered (noted (inl t)) ((keeps.leaves ready).bases.told t id))
        (λ stay.
        let eq : h.page ≡ id = same_page h.page id name in
        let x = (keeps.leaves ready).bases.stay id (subst (IsStaying k') eq (held_stays c.locks.now k' h holds' held stay)) in
        ⊎_elim all_covered (noted (inr x.0)) x.1)

  pub are_covered : AreToldCovered tells c.stripe.held.items
  are_covered i h is = by_case i h is
