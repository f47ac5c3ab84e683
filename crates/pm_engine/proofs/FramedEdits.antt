-- Calls on pages over page frames changed each page within its patch, where they noted each change.
use Rattle.std.proofs.Common.{◌≡◌, ◌⊎◌, ℕ, ◌+◌, ◌<◌, Bool, true, false, List, [], length, take, drop, Option, Some, None, refl, sym, ap, ◌∙◌, inl, inr, subst, arith}
use Rattle.std.specs.Prelude.{nat_le, if◌then◌else◌, IfSome, slice_get}
use Rattle.std.specs.Option.{option_map}
use Rattle.std.proofs.lemmas.Bool.{false≢true, cases_lt, leb-true}
use Rattle.std.proofs.lemmas.Grind.{same_number_lists}
use Rattle.std.proofs.lemmas.List.{get_or_past, length-take, length-drop}
use Rattle.pm_types.specs.declared.page_id.PageId.{PageId}
use Rattle.pm_types.specs.Ids.{page_id, part_of_id}
use Rattle.pm_types.specs.Pages.{SameOutside}
use Rattle.pm_types.specs.Spans.{Coverage, Covers, IsPatch}
use Rattle.pm_disk.specs.Files.{bytes_of}
use Rattle.pm_disk.specs.Moments.{History}
use Rattle.pm_disk.specs.States.{DeviceState}
use Rattle.pm_disk.specs.Worlds.{pages_in, page_at}
use Rattle.pm_pages.specs.Asked.{is_changed}
use Rattle.pm_pages.specs.KeptPages.{IsPageOf}
use Rattle.pm_pages.specs.Paged.{CoversByte}
use Rattle.pm_stripe.specs.declared.bound.Bound.{Bound}
use Rattle.pm_stripe.specs.declared.held.Held.{Held}
use Rattle.pm_stripe.specs.Bases.{base_by, base_bytes, IsAllCovered}
use Rattle.pm_stripe.specs.Covers.{NotesChanges}
use Rattle.pm_stripe.specs.Kept.{Kept, held_at, place_of, bytes_by, page_bytes, IsHeldIn, Holds}
use Rattle.pm_stripe.specs.Puts.{IsCovered}
use Rattle.pm_stripe.specs.Reads.{stored_at}
use Rattle.pm_stripe.specs.Shown.{patch_of, kept_by, file_by, shown, IsReady, KeepsBound}
use Rattle.pm_stripe.proofs.CoveredPages.{are_covered}
use Rattle.pm_stripe.proofs.Hands.{found_at}
use Rattle.pm_engine.specs.FramedEdits.{HavePatches}
use Rattle.pm_engine.specs.TrackedPages.{ChangesWithin, IsPatchOf}
use Rattle.pm_engine.proofs.EditedPages.{covers_nothing}

-- ---- each page is as long as a page

-- in its file
stored_sized : (file : Option (List ℕ)) (at size : ℕ) (bytes : List ℕ) → stored_at file at size ≡ Some bytes → length bytes ≡ size
stored_sized file at size bytes is = by (nat_le (at + size) (length (bytes_of file))) refl is
  where
    by : (b : Bool) → nat_le (at + size) (length (bytes_of file)) ≡ b → (let o : Option (List ℕ) = if b then Some (take size (drop at (bytes_of file))) else None in o) ≡ Some bytes → length bytes ≡ size
    by true le e =
        let same : take size (drop at (bytes_of file)) ≡ bytes = cc e in
        omega (arith, ap length same, length-take size (drop at (bytes_of file)), length-drop at (bytes_of file), leb-true (at + size) (length (bytes_of file)) le)
    by false gt e = absurd (cc e)

module _ {Q R : Type 0} (tells : Type 0) (history : R → History) (state : R → DeviceState) (b c : Bound Q R) (told : tells) (ready : IsReady tells history state b) (none : b.stripe.held.items ≡ []) (keeps : KeepsBound tells history state b c)
    (edits : NotesChanges tells (shown history state b) (shown history state c)) (fit : HavePatches c.stripe.held.items) where
  abbrev k : Kept
  k = kept_by b

  abbrev k' : Kept
  k' = kept_by c

  abbrev size : ℕ
  size = b.stripe.shape.page_size

  holds' : Holds c.locks.now k'
  holds' = (keeps.leaves ready).ready.bound.holds

  size_is : k'.shape.page_size ≡ size
  size_is = ap (λ s. s.page_size) keeps.same.shape

  some_size : 0 < size
  some_size = omega (arith, ready.bound.holds.shaped.page_size)

  -- before, no page was in hand
  was_sized : (id : PageId) (bytes : List ℕ) → page_bytes (file_by history b) k id ≡ Some bytes → length bytes ≡ size
  was_sized id bytes is = by (place_of k id) refl (sym (ap (λ hs. bytes_by (held_at hs id.0) (place_of k id) k.seat.view.entries k.number (file_by history b id)) none) ∙ is)
    where
      by_file : (files : Bool) → (let o : Option (List ℕ) = if files then stored_at (pages_in (history b.reader).world (part_of_id id)) (page_at id size) size else None in o) ≡ Some bytes → length bytes ≡ size
      by_file true e = stored_sized (pages_in (history b.reader).world (part_of_id id)) (page_at id size) size bytes e
      by_file false e = absurd (cc e)

      by : (o : Option (ℕ × ℕ)) → place_of k id ≡ o → bytes_by None o k.seat.view.entries k.number (file_by history b id) ≡ Some bytes → length bytes ≡ size
      by (Some at) e there =
          let kept = ready.bound.holds.kept id at.0 at.1 e in
          let same : Some kept.entry.bytes ≡ Some bytes = sym (ap (λ o. option_map (λ x. x.bytes) o) kept.at) ∙ there in
          let is_it : kept.entry.bytes ≡ bytes = cc same in
          omega (arith, ap length is_it, kept.long)
      by None e there = by_file b.stripe.files there

  module _ (index : ℕ) where
    abbrev id : PageId
    id = page_id c.part index

    -- the page as it was
    abbrev was : Option (List ℕ)
    was = page_bytes (file_by history b) k id

    was_seen : (shown history state b).pages index ≡ was
    was_seen = ap (λ p. page_bytes (file_by history b) k (page_id p index)) (sym keeps.part)

    base_was : base_bytes (file_by history b) k id ≡ was
    base_was =
        ap (λ hs. base_by (held_at hs id.0) (place_of k id) k.seat.view.entries k.number (file_by history b id)) none
        ∙ sym (ap (λ hs. bytes_by (held_at hs id.0) (place_of k id) k.seat.view.entries k.number (file_by history b id)) none)

    -- it isn't in hand
    module _ (away : held_at c.stripe.held.items id.0 ≡ None) where
      still : (shown history state c).pages index ≡ (shown history state b).pages index
      still =
          ap (λ o. bytes_by o (place_of k' id) k'.seat.view.entries k'.number (file_by history c id)) away
          ∙ sym (ap (λ o. base_by o (place_of k' id) k'.seat.view.entries k'.number (file_by history c id)) away)
          ∙ same ((keeps.leaves ready).bases.told told id) ∙ base_was ∙ sym was_seen
        where
          same : IsAllCovered size (held_at c.stripe.held.items id.0) ⊎ (base_bytes (file_by history c) k' id ≡ base_bytes (file_by history b) k id) → base_bytes (file_by history c) k' id ≡ base_bytes (file_by history b) k id
          same (inl all) = absurd (subst (IsAllCovered size) away all)
          same (inr is) = is

    -- it is
    module _ (h : Held) (here : held_at c.stripe.held.items id.0 ≡ Some h) where
      at : (i : ℕ) × (slice_get c.stripe.held.items i ≡ Some h) × (h.page.0 ≡ id.0)
      at = found_at c.stripe.held.items id.0 h here

      held : IsHeldIn c.locks.now k' h
      held = holds'.held at.0 h at.1

      now : (shown history state c).pages index ≡ Some h.lease.bytes
      now = ap (λ o. bytes_by o (place_of k' id) k'.seat.view.entries k'.number (file_by history c id)) here

      patch_here : (shown history state c).patch index ≡ h.patch
      patch_here = ap patch_of here

      long : length h.lease.bytes ≡ size
      long = held.out.long ∙ size_is

      covered : IsCovered h
      covered = are_covered tells history state b c ready none keeps edits at.0 h at.1 (inl told)

      base : base_bytes (file_by history c) k' id ≡ Some h.was.value.bytes
      base = ap (λ o. base_by o (place_of k' id) k'.seat.view.entries k'.number (file_by history c id)) here

      -- all its bytes are covered, or it came into hand as it was
      either : ((n : ℕ) → n < size → CoversByte h.patch n) ⊎ (was ≡ Some h.was.value.bytes)
      either = elim ((keeps.leaves ready).bases.told told id) [
        | inl all ↦ inl (subst (IsAllCovered size) here all)
        | inr same ↦ inr (sym base_was ∙ sym same ∙ base)
      ]

      pub held_unchanged : is_changed h.patch ≡ false → (shown history state c).pages index ≡ (shown history state b).pages index
      held_unchanged nothing = elim either [
        | inl all ↦ absurd (covers_nothing h.patch 0 nothing (all 0 some_size))
        | inr came ↦
            let same : h.lease.bytes ≡ h.was.value.bytes = same_number_lists h.lease.bytes h.was.value.bytes covered.size (λ n lt. covered.bytes n (covers_nothing h.patch n nothing)) in
            now ∙ ap Some same ∙ sym came ∙ sym was_seen
      ]

      pub held_there : IsPageOf size ((shown history state c).pages index)
      held_there = record { bytes = h.lease.bytes; is = now; sized = long }

      pub held_within : (patch : Coverage) → h.patch ≡ Some patch → IsPatchOf size patch ((shown history state b).pages index) ((shown history state c).pages index)
      held_within patch is = record {
        fits = subst (λ o. IfSome o IsPatch) is (fit at.0 h at.1);
        size_is = subst (λ o. IfSome o (λ p. p.page_size ≡ k'.shape.page_size)) is held.patched ∙ size_is;
        within = λ part before after before_is after_is.
            let same : Some h.lease.bytes ≡ Some after = sym now ∙ after_is in
            let after_same : h.lease.bytes ≡ after = cc same in
            let before_long : length before ≡ size = was_sized id before (sym was_seen ∙ before_is) in
            subst (SameOutside (Covers patch) before) after_same (elim either [
              | inl all ↦ record {
                size = long ∙ sym before_long;
                bytes = λ n away. elim (cases_lt n size) [
                  | inl lt ↦ absurd (away (subst (λ o. CoversByte o n) is (all n lt)))
                  | inr le ↦ get_or_past h.lease.bytes n 0 (omega (arith, le, long)) ∙ sym (get_or_past before n 0 (omega (arith, le, before_long)))
                ];
              }
              | inr came ↦
                  let first : Some before ≡ Some h.was.value.bytes = sym before_is ∙ was_seen ∙ came in
                  let before_same : h.was.value.bytes ≡ before = cc first in
                  subst (λ bs. SameOutside (Covers patch) bs h.lease.bytes) before_same (subst (λ o. SameOutside (CoversByte o) h.was.value.bytes h.lease.bytes) is covered)
            ]);
      }

    -- by whether it is in hand
    unchanged : is_changed ((shown history state c).patch index) ≡ false → (shown history state c).pages index ≡ (shown history state b).pages index
    unchanged = by (held_at c.stripe.held.items id.0) refl
      where
        by : (o : Option Held) → held_at c.stripe.held.items id.0 ≡ o → is_changed ((shown history state c).patch index) ≡ false → (shown history state c).pages index ≡ (shown history state b).pages index
        by None e nothing = still e
        by (Some h) e nothing = held_unchanged h e (sym (ap is_changed (patch_here h e)) ∙ nothing)

    there : is_changed ((shown history state c).patch index) ≡ true → IsPageOf size ((shown history state c).pages index)
    there = by (held_at c.stripe.held.items id.0) refl
      where
        by : (o : Option Held) → held_at c.stripe.held.items id.0 ≡ o → is_changed ((shown history state c).patch index) ≡ true → IsPageOf size ((shown history state c).pages index)
        by None e changed = absurd (false≢true (sym (ap (λ o. is_changed (patch_of o)) e) ∙ changed))
        by (Some h) e changed = held_there h e

    patched : (patch : Coverage) → (shown history state c).patch index ≡ Some patch → IsPatchOf size patch ((shown history state b).pages index) ((shown history state c).pages index)
    patched patch is = by (held_at c.stripe.held.items id.0) refl
      where
        by : (o : Option Held) → held_at c.stripe.held.items id.0 ≡ o → IsPatchOf size patch ((shown history state b).pages index) ((shown history state c).pages index)
        by None e = absurd (let bad : None ≡ Some patch = sym (ap patch_of e) ∙ is in cc bad)
        by (Some h) e = held_within h e patch (sym (patch_here h e) ∙ is)

  pub framed_within : ChangesWithin size (shown history state b).pages (shown history state c)
  framed_within = record {
    unchanged = unchanged;
    there = there;
    patched = patched;
  }
