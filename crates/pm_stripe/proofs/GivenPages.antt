-- Pages in hand that were not lent are given up.
use Rattle.std.proofs.Common.{◌≡◌, ◌≢◌, ℕ, ◌<◌, ◌≤◌, Bool, true, false, List, [], ◌∷◌, ◌++◌, ⊎_elim, inl, inr, length, cond, eqb, Option, Some, None, sym, refl, ap, subst, ◌∙◌, arith, append_assoc, append-nil, length-append}
use Rattle.std.specs.Prelude.{slice_get, slice_index}
use Rattle.std.proofs.lemmas.Bool.{cases_eq}
use Rattle.std.proofs.lemmas.Option.{slice_get_within}
use Rattle.pm_types.specs.declared.page_id.PageId.{PageId}
use Rattle.pm_types.specs.declared.limits.TheConstants.{OP_PAGES}
use Rattle.pm_locks.specs.declared.view.Out.{Out}
use Rattle.pm_locks.specs.Sight.{LockTable}
use Rattle.pm_locks.proofs.Pushing.{slice_get-pushed, slice_get-push, slice_get-front}
use Rattle.pm_stripe.specs.declared.held.Held.{Held}
use Rattle.pm_stripe.specs.declared.held.Free.{Free}
use Rattle.pm_stripe.specs.ChangedPages.{is_changed}
use Rattle.pm_stripe.specs.GivenUp.{AreUnlent, GivesUpHeld}
use Rattle.pm_stripe.specs.Puts.{put_flag, AreCovered, PutsLast}
use Rattle.pm_stripe.specs.Kept.{Kept, held_at, place_of, out_of, bytes_by, page_bytes, known_by, is_known, read_one, read_count, bare_count, IsHeldIn, IsFreeIn, IsInHand, Holds, AreClean}
use Rattle.pm_stripe.specs.SightLaws.{sight_refl, sight_then}
use Rattle.pm_stripe.proofs.PlacedPages.{same_page}
use Rattle.pm_stripe.proofs.Hands.{once_push, held_push_else, held_push_here, found_at, read_push}

-- a page that wasn't lent has the bytes that it had
pub are_covered : (locks : LockTable) (k : Kept) → Holds locks k → AreUnlent k.held → AreCovered k.held
are_covered locks k holds unlent i h is =
    let same = ((holds.held i h is).unlent (unlent i h is)).0 in
    record { size = ap length same; bytes = λ n _. ap (λ bs. slice_index bs n) same }

-- a page that wasn't lent is put back with the flag that it had
pub same_flag : (h : Held) → h.patch ≡ None → h.is_lent ≡ false → h.is_read ≡ false → h.flag ≡ put_flag h
same_flag h bare unlent unread = sym (λ i. put_flag (record h { patch = bare i; is_lent = unlent i; is_read = unread i }))

none_by : (h : Held) (b : Bool) (o p : Option Held) → (o ≡ None → p ≡ None) → cond b (Some h) o ≡ None → cond b (Some h) p ≡ None
none_by h true o p further e = absurd (cc e)
none_by h false o p further e = further e

-- a page that isn't found isn't found in front of the others
none_front : (hs rest : List Held) (id : ℕ) → held_at (hs ++ rest) id ≡ None → held_at hs id ≡ None
none_front [] rest id none = refl
none_front (h ∷ hs) rest id none = none_by h (eqb h.page.0 id) (held_at (hs ++ rest) id) (held_at hs id) (λ e. none_front hs rest id e) none

-- nothing is given up
pub gives_none : (locks : LockTable) (k : Kept) → Holds locks k → GivesUpHeld locks k k
gives_none locks k holds = record {
  holds = holds;
  rest = [];
  held = sym (append-nil k.held);
  bare = refl;
  sight = sight_refl locks k.seat.view;
  shape = refl;
  number = refl;
  staying = λ j is. is;
  back = λ j is. is;
  only = λ j none. refl;
  at_hand = λ file j is. refl;
  clean = λ file is. is;
  told = λ file j is. refl;
}

-- what is at hand after pages were given up was so before
pub known_before : (locks : LockTable) (k k' : Kept) → GivesUpHeld locks k k' → (j : PageId) → is_known k' j ≡ true → is_known k j ≡ true
known_before locks k k' gives j known = by_held (held_at k.held j.0) refl
  where
    by_held : (o : Option Held) → held_at k.held j.0 ≡ o → is_known k j ≡ true
    by_held (Some h) is = ap (λ o. known_by o (place_of k j) k.seat.view.entries k.number) is
    by_held None is = sym (gives.only j is) ∙ known

pub gives_then : (locks : LockTable) (k k₁ k₂ : Kept) → GivesUpHeld locks k k₁ → GivesUpHeld locks k₁ k₂ → GivesUpHeld locks k k₂
gives_then locks k k₁ k₂ x y = record {
  holds = y.holds;
  rest = y.rest ++ x.rest;
  held = x.held ∙ ap (λ hs. hs ++ x.rest) y.held ∙ append_assoc k₂.held y.rest x.rest;
  bare = y.bare ∙ x.bare;
  sight = sight_then locks k.seat.view k₁.seat.view k₂.seat.view x.sight y.sight;
  shape = y.shape ∙ x.shape;
  number = y.number ∙ x.number;
  staying = λ j is. y.staying j (x.staying j is);
  back = λ j is. x.back j (y.back j is);
  only = λ j none. y.only j (none_front k₁.held x.rest j.0 (ap (λ hs. held_at hs j.0) (sym x.held) ∙ none)) ∙ x.only j none;
  at_hand = λ file j is. y.at_hand file j is ∙ x.at_hand file j (known_before locks k₁ k₂ y j is);
  clean = λ file is. y.clean file (x.clean file is);
  told = λ file j is. y.told file j (x.clean file is) ∙ x.told file j is;
}

-- the pages that are left weren't lent either
pub still_unlent : (held rest all : List Held) → all ≡ held ++ rest → AreUnlent all → AreUnlent held
still_unlent held rest all list unlent i h is = unlent i h (ap (λ hs. slice_get hs i) list ∙ slice_get-front held rest i (slice_get_within held i h is) ∙ is)

module _ (locks : LockTable) (k : Kept) (holds : Holds locks k) (others : List Held) (h : Held) (list : k.held ≡ others ++ h ∷ []) (unlent : AreUnlent k.held) where
  last_at : slice_get k.held (length others) ≡ Some h
  last_at = ap (λ hs. slice_get hs (length others)) list ∙ slice_get-push others h

  pub last_unlent : h.is_lent ≡ false
  last_unlent = unlent (length others) h last_at

  pub last_is : IsHeldIn locks k h
  last_is = holds.held (length others) h last_at

  pub last_bare : h.patch ≡ None
  last_bare = (last_is.unlent last_unlent).1

  other_at : (i : ℕ) (g : Held) → slice_get others i ≡ Some g → slice_get k.held i ≡ Some g
  other_at i g is = ap (λ hs. slice_get hs i) list ∙ slice_get-front others (h ∷ []) i (slice_get_within others i g is) ∙ is

  other_frame : (i : ℕ) (g : Held) → slice_get others i ≡ Some g → g.frame ≢ h.frame
  other_frame i g is e = let at : i ≡ length others = holds.apart.held_once.once i (length others) g h (other_at i g is) last_at e in omega (arith, at, slice_get_within others i g is)

  other_name : (i : ℕ) (g : Held) → slice_get others i ≡ Some g → g.page.0 ≢ h.page.0
  other_name i g is e = let at : i ≡ length others = holds.apart.names.once i (length others) g h (other_at i g is) last_at e in omega (arith, at, slice_get_within others i g is)

  free_other : (i : ℕ) (s : Free) → slice_get k.free i ≡ Some s → s.frame ≢ h.frame
  free_other i s is e = holds.apart.both (length others) i h s last_at is (sym e)

  none_there : held_at others h.page.0 ≡ None
  none_there = by_found (held_at others h.page.0) refl
    where
      by_found : (o : Option Held) → held_at others h.page.0 ≡ o → held_at others h.page.0 ≡ None
      by_found None is = is
      by_found (Some g) is = let x = found_at others h.page.0 g is in absurd (other_name x.0 g x.1 x.2)

  last_found : held_at k.held h.page.0 ≡ Some h
  last_found = ap (λ hs. held_at hs h.page.0) list ∙ held_push_here others h h.page.0 refl none_there

  -- a page that isn't in hand has another name
  not_last : (j : PageId) → held_at k.held j.0 ≡ None → j.0 ≢ h.page.0
  not_last j none e = let bad : None ≡ Some h = sym none ∙ ap (held_at k.held) e ∙ last_found in cc bad

  held_else : (j : PageId) → j.0 ≢ h.page.0 → held_at others j.0 ≡ held_at k.held j.0
  held_else j ne = sym (ap (λ hs. held_at hs j.0) list ∙ held_push_else others h j.0 (λ e. ne (sym e)))

  -- a page of a frame was put back
  pub gives_put : (k' : Kept) → k'.held ≡ others → PutsLast locks k k' → h.is_read ≡ false → GivesUpHeld locks k k'
  gives_put k' left puts unread =
      let same : puts.last ≡ h =
      (let q : Some h ≡ Some puts.last = sym last_at ∙ ap (λ hs. slice_get hs (length others)) (puts.held ∙ ap (λ hs. hs ++ puts.last ∷ []) left) ∙ slice_get-push others puts.last in
      let e : h ≡ puts.last = cc q in sym e) in
      let covered = are_covered locks k holds unlent in record {
        holds = puts.holds;
        rest = h ∷ [];
        held = list ∙ ap (λ hs. hs ++ h ∷ []) (sym left);
        bare = omega (arith, ap read_count left, ap length puts.free, ap read_count list, read_push others h, ap read_one unread);
        sight = puts.left.sight;
        shape = puts.shape;
        number = puts.number;
        staying = puts.staying;
        back = puts.back (sym (subst (λ (z : Held). z.flag ≡ put_flag z) (sym same) (same_flag h last_bare last_unlent unread)));
        only = λ j none. puts.only j (λ e. not_last j none (e ∙ ap (λ (z : Held). z.page.0) same));
        at_hand = puts.at_hand;
        clean = λ file clean. puts.clean file clean covered;
        told = λ file j clean. puts.told file j clean covered;
      }

  -- the frame of a page that was read is among the empty ones
  module _ (read : h.is_read ≡ true) (room' : ℕ) (room : OP_PAGES ≤ room') (free_room' : ℕ) (free_room : OP_PAGES ≤ free_room') where
    abbrev new : Free
    new = record { frame = h.frame; tag = h.tag; lease = h.lease }

    abbrev kb : Kept
    kb = record k { held = others; held_room = room'; free = k.free ++ new ∷ []; free_room = free_room' }

    new_free : IsFreeIn locks k new
    new_free =
        let x = last_is.out in
        let y = last_is.from_file read in record {
          frame = last_is.frame;
          out = record { out = x.out; at = x.at; holder = x.holder; owner = x.owner; tag_is = x.tag_is; flag_is = x.flag_is ∙ y.empty; same = x.same; long = x.long };
          bare = y.bare;
        }

    all_out : (f : ℕ) (o : Out) → out_of k f ≡ Some o → IsInHand others (k.free ++ new ∷ []) f
    all_out f o is = ⊎_elim
        (λ p. ⊎_elim
        (λ old. inl (p.0, p.1, old, p.3))
        (λ last. inr (length k.free, new, slice_get-push k.free new, ap (λ (z : Held). z.frame) last.1 ∙ p.3))
        (slice_get-pushed others h p.1 p.0 (ap (λ hs. slice_get hs p.0) (sym list) ∙ p.2)))
        (λ p. inr (p.0, p.1, slice_get-front k.free (new ∷ []) p.0 (slice_get_within k.free p.0 p.1 p.2) ∙ p.2, p.3))
        (holds.apart.all f o is)

    bare_holds : Holds locks kb
    bare_holds = record {
      shaped = holds.shaped;
      frames = holds.frames;
      many = holds.many;
      worker = holds.worker;
      kept = holds.kept;
      stay = holds.stay;
      held = λ i g is. holds.held i g (other_at i g is);
      free = λ i s is. ⊎_elim (holds.free i s) (λ last. subst (IsFreeIn locks k) last.1 new_free) (slice_get-pushed k.free new s i is);
      apart = record {
        names = record { once = λ i j x y p q e. holds.apart.names.once i j x y (other_at i x p) (other_at j y q) e };
        held_once = record { once = λ i j x y p q e. holds.apart.held_once.once i j x y (other_at i x p) (other_at j y q) e };
        free_once = once_push (λ (s : Free). s.frame) k.free new holds.apart.free_once free_other;
        both = λ i j g s p q. ⊎_elim
            (λ old. holds.apart.both i j g s (other_at i g p) old)
            (λ last. λ e. other_frame i g p (e ∙ ap (λ (z : Free). z.frame) (sym last.1)))
            (slice_get-pushed k.free new s j q);
        all = all_out;
      };
      held_room = room;
      free_room = free_room;
    }

    known_else : (j : PageId) → j.0 ≢ h.page.0 → is_known kb j ≡ is_known k j
    known_else j ne = ap (λ o. known_by o (place_of k j) k.seat.view.entries k.number) (held_else j ne)

    bytes_else : (file : PageId → Option (List ℕ)) (j : PageId) → j.0 ≢ h.page.0 → page_bytes file kb j ≡ page_bytes file k j
    bytes_else file j ne = ap (λ o. bytes_by o (place_of k j) k.seat.view.entries k.number (file j)) (held_else j ne)

    unknown_here : is_known kb h.page ≡ false
    unknown_here = λ i. known_by (none_there i) ((last_is.from_file read).unkept i) k.seat.view.entries k.number

    -- the page is as its file has it
    told_here : (file : PageId → Option (List ℕ)) → AreClean file k → page_bytes file kb h.page ≡ page_bytes file k h.page
    told_here file clean =
        (λ i. bytes_by (none_there i) ((last_is.from_file read).unkept i) k.seat.view.entries k.number (file h.page))
        ∙ clean.read (length others) h last_at read (ap is_changed last_bare)
        ∙ ap Some (sym (last_is.unlent last_unlent).0)
        ∙ sym (ap (λ o. bytes_by o (place_of k h.page) k.seat.view.entries k.number (file h.page)) last_found)

    pub gives_bare : GivesUpHeld locks k kb
    gives_bare = record {
      holds = bare_holds;
      rest = h ∷ [];
      held = list;
      bare = omega (arith, ap read_count list, read_push others h, ap read_one read, length-append k.free (new ∷ []));
      sight = sight_refl locks k.seat.view;
      shape = refl;
      number = refl;
      staying = λ j is. record { frame = is.frame; tag = is.tag; entry = is.entry; kept = is.kept; at = is.at; stay = is.stay };
      back = λ j is. record { frame = is.frame; tag = is.tag; entry = is.entry; kept = is.kept; at = is.at; stay = is.stay };
      only = λ j none. known_else j (not_last j none);
      at_hand = λ file j is. elim (cases_eq j.0 h.page.0) [
        | inl same ↦ absurd (let bad : false ≡ true = sym unknown_here ∙ ap (is_known kb) (sym (same_page j h.page same)) ∙ is in cc bad)
        | inr ne ↦ bytes_else file j ne
      ];
      clean = λ file clean. record { kept = clean.kept; read = λ i g is. clean.read i g (other_at i g is) };
      told = λ file j clean. elim (cases_eq j.0 h.page.0) [
        | inl same ↦ subst (λ (p : PageId). page_bytes file kb p ≡ page_bytes file k p) (sym (same_page j h.page same)) (told_here file clean)
        | inr ne ↦ bytes_else file j ne
      ];
    }

-- there is room for one more empty frame
pub room_for_one : (k : Kept) (others : List Held) (h : Held) → k.held ≡ others ++ h ∷ [] → h.is_read ≡ true → bare_count k ≤ OP_PAGES → length k.free < OP_PAGES
room_for_one k others h list read few = omega (arith, ap read_count list, read_push others h, ap read_one read, few)

pub no_items : {X : Type 0} (xs : List X) → length xs ≡ 0 → xs ≡ []
no_items [] e = refl
no_items (x ∷ xs) e = absurd (omega (arith, e))
