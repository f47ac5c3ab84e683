-- A page in hand is replaced by another of its name and its frame.
use Rattle.std.proofs.Common.{◌≡◌, ◌≢◌, ℕ, ◌<◌, ◌≤◌, ◌⊎◌, ⊎_elim, inl, inr, true, false, List}
use Rattle.std.proofs.Common.{length, set, Option, Some, refl, sym, ap, subst, ◌∙◌, arith}
use Rattle.std.specs.Prelude.{IsSome, slice_get}
use Rattle.std.proofs.lemmas.Bool.{cases_eq}
use Rattle.std.proofs.lemmas.List.{length-set}
use Rattle.pm_types.specs.declared.limits.TheConstants.{OP_PAGES}
use Rattle.pm_types.specs.declared.page_id.PageId.{PageId}
use Rattle.pm_locks.specs.declared.view.Out.{Out}
use Rattle.pm_locks.specs.Sight.{LockTable}
use Rattle.pm_stripe.specs.declared.held.Held.{Held}
use Rattle.pm_stripe.specs.ChangedPages.{is_changed}
use Rattle.pm_stripe.specs.HandLaws.{set_here, set_else, place_there, place_some, held_is, held_set_here}
use Rattle.pm_stripe.specs.HandLaws.{held_set_else, read_set}
use Rattle.pm_stripe.specs.Bases.{base_by, base_bytes, IsAllCovered}
use Rattle.pm_stripe.specs.Kept.{Kept, held_at, place_at, place_of, out_of, bytes_by, page_bytes, known_by}
use Rattle.pm_stripe.specs.Kept.{is_known, IsHeldIn, IsInHand, Holds, HasFrames, AreClean}
use Rattle.pm_stripe.specs.Moves.{ChangesOnePage}

some_is : (o : Option Held) (h : Held) → o ≡ Some h → IsSome o
some_is o h e = subst IsSome (sym e) refl

module _ (locks : LockTable) (k : Kept) (id : PageId) (h h' : Held) (room' : ℕ)
    (at : held_at k.held id.0 ≡ Some h) (page : h'.page ≡ h.page) (frame : h'.frame ≡ h.frame) where
  abbrev pub replaced : Kept
  replaced = record k { held = set k.held (place_at k.held id.0) h'; held_room = room' }

  abbrev here : ℕ
  here = place_at k.held id.0

  below : here < length k.held
  below = place_some k.held id.0 (some_is (held_at k.held id.0) h at)

  there : slice_get k.held here ≡ Some h
  there = let x = place_there k.held id.0 below in
      x.2 ∙ sym x.1 ∙ at

  old_name : h.page.0 ≡ id.0
  old_name = held_is k.held id.0 h at

  new_name : h'.page.0 ≡ id.0
  new_name = ap (λ (p : PageId). p.0) page ∙ old_name

  pub found : held_at replaced.held id.0 ≡ Some h'
  found = held_set_here k.held id.0 h h' at new_name

  pub found_else : (j : ℕ) → j ≢ id.0 → held_at replaced.held j ≡ held_at k.held j
  found_else j ne = held_set_else k.held id.0 j h' new_name ne

  pub long : length replaced.held ≡ length k.held
  long = length-set k.held here h'

  -- in its place stands the page that replaced the other
  now_there : (i : ℕ) (g : Held) → i ≡ here → slice_get replaced.held i ≡ Some g → h' ≡ g
  now_there i g same is =
      let q : Some h' ≡ Some g =
      sym (set_here k.held here h' below) ∙ ap (slice_get replaced.held) (sym same) ∙ is in cc q

  -- each page in hand is one that was, by its name and its frame
  was : (i : ℕ) (g : Held) → slice_get replaced.held i ≡ Some g
      → (x : Held) × (slice_get k.held i ≡ Some x) × (g.page ≡ x.page) × (g.frame ≡ x.frame)
  was i g is = elim (cases_eq i here) [
    | inl same ↦
        let e : h' ≡ g = now_there i g same is in (
          h,
          ap (slice_get k.held) same ∙ there,
          ap (λ (z : Held). z.page) (sym e) ∙ page,
          ap (λ (z : Held). z.frame) (sym e) ∙ frame,
        )
    | inr away ↦ (g, sym (set_else k.held here i h' away) ∙ is, refl, refl)
  ]

  -- and the other way round
  still : (i : ℕ) (x : Held) → slice_get k.held i ≡ Some x
      → (g : Held) × (slice_get replaced.held i ≡ Some g) × (g.frame ≡ x.frame)
  still i x is = elim (cases_eq i here) [
    | inl same ↦
        let q : Some h ≡ Some x = sym there ∙ ap (slice_get k.held) (sym same) ∙ is in
        let e : h ≡ x = cc q in (
          h',
          ap (slice_get replaced.held) same ∙ set_here k.held here h' below,
          frame ∙ ap (λ (z : Held). z.frame) e,
        )
    | inr away ↦ (x, set_else k.held here i h' away ∙ is, refl)
  ]

  cases : (i : ℕ) (g : Held) → slice_get replaced.held i ≡ Some g → (h' ≡ g) ⊎ (slice_get k.held i ≡ Some g)
  cases i g is = elim (cases_eq i here) [
    | inl same ↦ inl (now_there i g same is)
    | inr away ↦ inr (sym (set_else k.held here i h' away) ∙ is)
  ]

  all_out : Holds locks k → (f : ℕ) (o : Out) → out_of k f ≡ Some o → IsInHand replaced.held k.free f
  all_out holds f o is = ⊎_elim
      (λ p. let x = still p.0 p.1 p.2 in inl (p.0, x.0, x.1, x.2 ∙ p.3))
      (λ p. inr p)
      (holds.apart.all f o is)

  pub holds_replaced : OP_PAGES ≤ room' → Holds locks k → IsHeldIn locks k h' → Holds locks replaced
  holds_replaced room holds new = record {
    shaped = holds.shaped;
    frames = holds.frames;
    many = holds.many;
    worker = holds.worker;
    kept = holds.kept;
    stay = holds.stay;
    held = λ i g is. ⊎_elim (λ e. subst (IsHeldIn locks k) e new) (λ old. holds.held i g old) (cases i g is);
    free = holds.free;
    apart = record {
      names = record {
        once = λ i j x y p q e. let a = was i x p in let b = was j y q in
            holds.apart.names.once i j a.0 b.0 a.1 b.1
            (ap (λ (z : PageId). z.0) (sym a.2) ∙ e ∙ ap (λ (z : PageId). z.0) b.2);
      };
      held_once = record {
        once = λ i j x y p q e. let a = was i x p in let b = was j y q in
            holds.apart.held_once.once i j a.0 b.0 a.1 b.1 (sym a.3 ∙ e ∙ b.3);
      };
      free_once = holds.apart.free_once;
      both = λ i j x s p q e. let a = was i x p in holds.apart.both i j a.0 s a.1 q (sym a.3 ∙ e);
      all = all_out holds;
    };
    held_room = room;
    free_room = holds.free_room;
  }

  pub known_same : (j : PageId) → is_known replaced j ≡ is_known k j
  known_same j = elim (cases_eq j.0 id.0) [
    | inl same ↦
        ap (λ o. known_by o (place_of k j) k.seat.view.entries k.number)
        (ap (held_at replaced.held) same ∙ found)
        ∙ sym (ap (λ o. known_by o (place_of k j) k.seat.view.entries k.number)
        (ap (held_at k.held) same ∙ at))
    | inr ne ↦ ap (λ o. known_by o (place_of k j) k.seat.view.entries k.number) (found_else j.0 ne)
  ]

  -- what is the same of both pages is so of whatever page is sought
  pub hand_same : {X : Type 0} (f : Option Held → X) → f (Some h') ≡ f (Some h) → (j : ℕ)
      → f (held_at replaced.held j) ≡ f (held_at k.held j)
  hand_same f same j = elim (cases_eq j id.0) [
    | inl e ↦ ap f (ap (held_at replaced.held) e ∙ found) ∙ same ∙ sym (ap f (ap (held_at k.held) e ∙ at))
    | inr ne ↦ ap f (found_else j ne)
  ]

  pub bytes_here : (file : PageId → Option (List ℕ)) → page_bytes file replaced id ≡ Some h'.lease.bytes
  bytes_here file = ap (λ o. bytes_by o (place_of k id) k.seat.view.entries k.number (file id)) found

  pub bytes_else : (file : PageId → Option (List ℕ)) (j : PageId) → j.0 ≢ id.0
      → page_bytes file replaced j ≡ page_bytes file k j
  bytes_else file j ne =
      ap (λ o. bytes_by o (place_of k j) k.seat.view.entries k.number (file j)) (found_else j.0 ne)

  pub clean_replaced : (file : PageId → Option (List ℕ)) → h'.was.value.bytes ≡ h.was.value.bytes
      → h'.is_read ≡ h.is_read → (is_changed h'.patch ≡ false → is_changed h.patch ≡ false)
      → AreClean file k → AreClean file replaced
  clean_replaced file was_same read_same unchanged clean = record {
    kept = clean.kept;
    read = λ i g is r c. ⊎_elim
        (λ e.
        let r' : h.is_read ≡ true = sym read_same ∙ ap (λ (z : Held). z.is_read) e ∙ r in
        let c' : is_changed h.patch ≡ false = unchanged (ap (λ (z : Held). is_changed z.patch) e ∙ c) in
        ap file (ap (λ (z : Held). z.page) (sym e) ∙ page) ∙ clean.read here h there r' c'
        ∙ ap Some (sym was_same ∙ ap (λ (z : Held). z.was.value.bytes) e))
        (λ old. clean.read i g old r c)
        (cases i g is);
  }

  -- it came into hand with the same bytes
  base_same : (file : PageId → Option (List ℕ)) → h'.was.value.bytes ≡ h.was.value.bytes → (j : PageId)
      → base_bytes file replaced j ≡ base_bytes file k j
  base_same file was_same j =
      hand_same (λ o. base_by o (place_of k j) k.seat.view.entries k.number (file j)) (ap Some was_same) j.0

  covered_still : (j : PageId)
      → (IsAllCovered k.shape.page_size (Some h) → IsAllCovered k.shape.page_size (Some h'))
      → IsAllCovered k.shape.page_size (held_at k.held j.0)
      → IsAllCovered k.shape.page_size (held_at replaced.held j.0)
  covered_still j still_covered is = elim (cases_eq j.0 id.0) [
    | inl same ↦
        let was : IsAllCovered k.shape.page_size (Some h) =
        subst (IsAllCovered k.shape.page_size) (ap (held_at k.held) same ∙ at) is in
        subst (IsAllCovered k.shape.page_size) (sym (ap (held_at replaced.held) same ∙ found))
        (still_covered was)
    | inr ne ↦ subst (IsAllCovered k.shape.page_size) (sym (found_else j.0 ne)) is
  ]

  -- a page in hand was replaced
  pub moves_replaced : (tells : Type 0) (file : PageId → Option (List ℕ)) → OP_PAGES ≤ room' → Holds locks k
      → IsHeldIn locks k h' → HasFrames k → h'.was.value.bytes ≡ h.was.value.bytes → h'.is_read ≡ h.is_read
      → (is_changed h'.patch ≡ false → is_changed h.patch ≡ false)
      → (IsAllCovered k.shape.page_size (Some h) → IsAllCovered k.shape.page_size (Some h'))
      → ChangesOnePage locks tells file k replaced id
  moves_replaced tells file room holds new frames was_same read_same unchanged still_covered = record {
    holds = holds_replaced room holds new;
    frames = record { few = omega (arith, frames.few, long); enough = omega (arith, frames.enough, long) };
    bare = omega (arith, read_set k.held here h h' there read_same);
    shape = refl;
    number = refl;
    staying = λ j is. record {
      frame = is.frame;
      tag = is.tag;
      entry = is.entry;
      kept = is.kept;
      at = is.at;
      stay = is.stay;
    };
    bases = record {
      whole = λ j. covered_still j still_covered;
      told = λ t j. inr (base_same file was_same j);
      stay = λ j is. (
        record { frame = is.frame; tag = is.tag; entry = is.entry; kept = is.kept; at = is.at; stay = is.stay },
        inr (base_same file was_same j),
      );
    };
    only = λ j ne. known_same j;
    names = λ i g is. let x = was i g is in inr (record { place = i; page = x.0; at = x.1; is = sym x.2 });
    clean = λ t. clean_replaced file was_same read_same unchanged;
    told = λ t clean j ne. bytes_else file j ne;
    at_hand = λ j ne is. bytes_else file j ne;
  }
