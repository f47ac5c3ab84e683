-- Calls on pages in hand keep how pages were.
use Rattle.std.proofs.Common.{◌≡◌, ◌≢◌, ℕ, ◌<◌, true, List, [], ◌⊎◌, ⊎_elim, inl, inr, length, Option, Some, None, sym, refl, ap, subst, ◌∙◌, arith}
use Rattle.std.specs.Prelude.{slice_get}
use Rattle.std.proofs.lemmas.Bool.{cases_eq}
use Rattle.pm_types.specs.declared.page_id.PageId.{PageId}
use Rattle.pm_pages.specs.Paged.{CoversByte}
use Rattle.pm_locks.specs.Sight.{LockTable}
use Rattle.pm_locks.proofs.Pushing.{slice_get-push}
use Rattle.pm_stripe.specs.declared.held.Held.{Held}
use Rattle.pm_stripe.specs.Bases.{base_by, base_bytes, IsAllCovered, KeepsBases}
use Rattle.pm_stripe.specs.Kept.{Kept, held_at, place_of, bytes_by, page_bytes, known_by, is_known, stays_in, Holds, IsAway, AddsPage, IsStaying}
use Rattle.pm_stripe.proofs.Hands.{found_at, held_push_else, held_push_here}

-- what stays in a frame is at hand
pub staying_known : (k : Kept) (j : PageId) → IsStaying k j → is_known k j ≡ true
staying_known k j is = by_held (held_at k.held j.0)
  where
    by_held : (o : Option Held) → known_by o (place_of k j) k.seat.view.entries k.number ≡ true
    by_held (Some h) = refl
    by_held None = ap (λ t. known_by None t k.seat.view.entries k.number) is.kept ∙ ap stays_in is.at ∙ is.stay

module _ (file file' : PageId → Option (List ℕ)) (k k' : Kept) (j : PageId) (pages : page_bytes file' k' j ≡ page_bytes file k j) where
  as_base : (o : Option Held) → held_at k.held j.0 ≡ o → base_bytes file k j ≡ base_by o (place_of k j) k.seat.view.entries k.number (file j)
  as_base o = ap (λ o. base_by o (place_of k j) k.seat.view.entries k.number (file j))

  as_bytes : (o : Option Held) → held_at k.held j.0 ≡ o → page_bytes file k j ≡ bytes_by o (place_of k j) k.seat.view.entries k.number (file j)
  as_bytes o = ap (λ o. bytes_by o (place_of k j) k.seat.view.entries k.number (file j))

  now_base : (o : Option Held) → held_at k'.held j.0 ≡ o → base_bytes file' k' j ≡ base_by o (place_of k' j) k'.seat.view.entries k'.number (file' j)
  now_base o = ap (λ o. base_by o (place_of k' j) k'.seat.view.entries k'.number (file' j))

  now_bytes : (o : Option Held) → held_at k'.held j.0 ≡ o → page_bytes file' k' j ≡ bytes_by o (place_of k' j) k'.seat.view.entries k'.number (file' j)
  now_bytes o = ap (λ o. bytes_by o (place_of k' j) k'.seat.view.entries k'.number (file' j))

  -- a page that is in hand as it was, or that isn't
  pub base_hand : (o : Option Held) → held_at k.held j.0 ≡ o → held_at k'.held j.0 ≡ o → base_bytes file' k' j ≡ base_bytes file k j
  base_hand (Some h) was now = now_base (Some h) now ∙ sym (as_base (Some h) was)
  base_hand None was now = now_base None now ∙ sym (now_bytes None now) ∙ pages ∙ as_bytes None was ∙ sym (as_base None was)

  -- one that came into hand
  pub base_new : (h : Held) → held_at k.held j.0 ≡ None → held_at k'.held j.0 ≡ Some h → h.lease.bytes ≡ h.was.value.bytes → base_bytes file' k' j ≡ base_bytes file k j
  base_new h was now same = now_base (Some h) now ∙ ap Some (sym same) ∙ sym (now_bytes (Some h) now) ∙ pages ∙ as_bytes None was ∙ sym (as_base None was)

  -- and one that was given up
  pub base_gone : (h : Held) → held_at k.held j.0 ≡ Some h → held_at k'.held j.0 ≡ None → h.lease.bytes ≡ h.was.value.bytes → base_bytes file' k' j ≡ base_bytes file k j
  base_gone h was now same = now_base None now ∙ sym (now_bytes None now) ∙ pages ∙ as_bytes (Some h) was ∙ ap Some same ∙ sym (as_base (Some h) was)

-- a page was sought
module _ (locks : LockTable) (T : Type 0) (size : ℕ) (file : PageId → Option (List ℕ)) (k k' : Kept) (id : PageId) (holds' : Holds locks k') (held : (k'.held ≡ k.held) ⊎ (IsAway k id × AddsPage k k' id))
    (told : T → (j : PageId) → page_bytes file k' j ≡ page_bytes file k j) (at_hand : (j : PageId) → is_known k j ≡ true → page_bytes file k' j ≡ page_bytes file k j) (back : (j : PageId) → IsStaying k' j → IsStaying k j) where
  module _ (away : IsAway k id) (adds : AddsPage k k' id) where
    name : adds.page.page.0 ≡ id.0
    name = ap (λ (p : PageId). p.0) adds.page_is

    found : (j : PageId) → j.0 ≡ id.0 → held_at k'.held j.0 ≡ Some adds.page
    found j same = ap (λ hs. held_at hs j.0) adds.added ∙ held_push_here k.held adds.page j.0 (name ∙ sym same) (ap (held_at k.held) same ∙ away.away)

    else_held : (j : PageId) → j.0 ≢ id.0 → held_at k'.held j.0 ≡ held_at k.held j.0
    else_held j ne = ap (λ hs. held_at hs j.0) adds.added ∙ held_push_else k.held adds.page j.0 (λ e. ne (sym e ∙ name))

    as_read : adds.page.lease.bytes ≡ adds.page.was.value.bytes
    as_read = ((holds'.held (length k.held) adds.page (ap (λ hs. slice_get hs (length k.held)) adds.added ∙ slice_get-push k.held adds.page)).unlent adds.unlent).0

  base_any : (j : PageId) → page_bytes file k' j ≡ page_bytes file k j → base_bytes file k' j ≡ base_bytes file k j
  base_any j pages = ⊎_elim
      (λ same. base_hand file file k k' j pages (held_at k.held j.0) refl (ap (λ hs. held_at hs j.0) same))
      (λ p. ⊎_elim
      (λ same. base_new file file k k' j pages p.1.page (ap (held_at k.held) same ∙ p.0.away) (found p.0 p.1 j same) (as_read p.0 p.1))
      (λ ne. base_hand file file k k' j pages (held_at k.held j.0) refl (else_held p.0 p.1 j ne))
      (cases_eq j.0 id.0))
      held

  still_whole : (j : PageId) → IsAllCovered size (held_at k.held j.0) → IsAllCovered size (held_at k'.held j.0)
  still_whole j is = ⊎_elim
      (λ same. subst (IsAllCovered size) (sym (ap (λ hs. held_at hs j.0) same)) is)
      (λ p. ⊎_elim
      (λ same. absurd (subst (IsAllCovered size) (ap (held_at k.held) same ∙ p.0.away) is))
      (λ ne. subst (IsAllCovered size) (sym (else_held p.0 p.1 j ne)) is)
      (cases_eq j.0 id.0))
      held

  pub bases_sought : KeepsBases size T file file k k'
  bases_sought = record {
    whole = still_whole;
    told = λ t j. inr (base_any j (told t j));
    stay = λ j is. let s = back j is in (s, inr (base_any j (at_hand j (staying_known k j s))));
  }

-- pages that were not lent were given up
module _ (locks : LockTable) (T : Type 0) (file file' : PageId → Option (List ℕ)) (k k' : Kept) (holds : Holds locks k) (unlent : (i : ℕ) (h : Held) → slice_get k.held i ≡ Some h → (h.lease.bytes ≡ h.was.value.bytes) × (h.patch ≡ None)) (none : k'.held ≡ [])
    (pages : (j : PageId) → T ⊎ (is_known k' j ≡ true) → page_bytes file' k' j ≡ page_bytes file k j) (back : (j : PageId) → IsStaying k' j → IsStaying k j) where
  none_now : (j : PageId) → held_at k'.held j.0 ≡ None
  none_now j = ap (λ hs. held_at hs j.0) none

  base_given : (j : PageId) → page_bytes file' k' j ≡ page_bytes file k j → base_bytes file' k' j ≡ base_bytes file k j
  base_given j same = by_held (held_at k.held j.0) refl
    where
      by_held : (o : Option Held) → held_at k.held j.0 ≡ o → base_bytes file' k' j ≡ base_bytes file k j
      by_held None was = base_hand file file' k k' j same None was (none_now j)
      by_held (Some h) was = let x = found_at k.held j.0 h was in base_gone file file' k k' j same h was (none_now j) (unlent x.0 h x.1).0

  not_whole : (j : PageId) → IsAllCovered k.shape.page_size (held_at k.held j.0) → ⊥
  not_whole j is = by_held (held_at k.held j.0) refl is
    where
      by_held : (o : Option Held) → held_at k.held j.0 ≡ o → IsAllCovered k.shape.page_size o → ⊥
      by_held None was all = all
      by_held (Some h) was all =
          let x = found_at k.held j.0 h was in
          let some : 0 < k.shape.page_size = omega (arith, holds.shaped.page_size) in
          subst (λ o. CoversByte o 0) (unlent x.0 h x.1).1 (all 0 some)

  pub bases_given : KeepsBases k.shape.page_size T file file' k k'
  bases_given = record {
    whole = λ j is. absurd (not_whole j is);
    told = λ t j. inr (base_given j (pages j (inl t)));
    stay = λ j is. (back j is, inr (base_given j (pages j (inr (staying_known k' j is)))));
  }
