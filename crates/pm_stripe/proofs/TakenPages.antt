-- A page that is taken from the frame that keeps it.
use Rattle.std.proofs.Common.{◌≡◌, ◌≢◌, ℕ, ◌≤◌, true, false, List, [], ◌∷◌, ◌++◌, ⊎_elim, inl, inr, length, Option, Some, None, sym, refl, ap, subst, ◌∙◌, arith}
use Rattle.std.specs.Prelude.{IfSome, IsTrue, slice_get}
use Rattle.std.specs.Option.{option_map}
use Rattle.std.proofs.lemmas.Bool.{cases_eq}
use Rattle.std.proofs.lemmas.Option.{slice_get_within}
use Rattle.pm_types.specs.declared.page_id.PageId.{PageId}
use Rattle.pm_types.specs.declared.limits.TheConstants.{OP_PAGES}
use Rattle.pm_types.specs.Spans.{Coverage}
use Rattle.pm_locks.specs.declared.view.Entry.{Entry}
use Rattle.pm_locks.specs.declared.view.Out.{Out}
use Rattle.pm_locks.specs.declared.view.Numbers.{Numbers}
use Rattle.pm_locks.specs.Words.{IsReachedFrom}
use Rattle.pm_locks.specs.Steps.{out_as}
use Rattle.pm_locks.specs.Views.{entry_at, out_at, is_among}
use Rattle.pm_locks.specs.Sight.{Sight, LockTable, IsSeatOf}
use Rattle.pm_locks.proofs.Facts.{out_at-here, out_at-else}
use Rattle.pm_locks.proofs.Pushing.{slice_get-pushed, slice_get-push, slice_get-front}
use Rattle.pm_stripe.specs.declared.held.Held.{Held}
use Rattle.pm_stripe.specs.declared.held.Free.{Free}
use Rattle.pm_stripe.specs.Takes.{HasPut, TakesFrame}
use Rattle.pm_stripe.specs.Reads.{Reads}
use Rattle.pm_stripe.specs.Kept.{Kept, held_at, place_of, last_put, page_at, out_of, stays, stays_in, bytes_by, page_bytes, known_by, is_known, IsKeptPage, IsHeldPage, IsFreeFrame, IsHeldIn, IsFreeIn, IsInHand, AreApart, Holds, IsAway, TakesPage, read_one}
use Rattle.pm_stripe.specs.Sights.{KeepsSight}
use Rattle.pm_stripe.proofs.Hands.{once_push, or_else, held_push, held_push_else, one_here, one_else, none_named, stays_or_clean, read_push}

-- what a frame keeps was last put there
pub has_put : (locks : LockTable) (k : Kept) (id : PageId) (f tag : ℕ) → Holds locks k → place_of k id ≡ Some (f, tag) → HasPut k.seat.view k.number f tag
has_put locks k id f tag holds at = let x = holds.kept id f tag at in record { has = holds.worker.has; entry = x.entry; at = x.at; tag_is = x.tag_is }

module _ (locks : LockTable) (k : Kept) (new : Held) (seat' : Sight) (room' : ℕ) (holds : Holds locks k) (away : IsAway k new.page) (at : place_of k new.page ≡ Some (new.frame, new.tag)) (seat_of : IsSeatOf locks seat')
    (took : TakesFrame k.seat.view seat'.view k.number new.frame new.tag new.lease new.flag) (was_is : new.was.value.bytes ≡ new.lease.bytes) (unread : new.is_read ≡ false) (unlent : new.is_lent ≡ false) (bare : new.patch ≡ None) (room : OP_PAGES ≤ room') (sight : KeepsSight locks k.seat.view seat'.view) where
  abbrev k' : Kept
  k' = record k { seat = seat'; held = k.held ++ new ∷ []; held_room = room' }

  puts : (g : ℕ) → last_put k' g ≡ last_put k g
  puts g = ap (λ es. entry_at es k.number g) took.entries

  out_else : (g : ℕ) → g ≢ new.frame → out_of k' g ≡ out_of k g
  out_else g ne = ap (λ os. out_at os g) took.outs ∙ out_at-else k.seat.view.outs new.frame (Some (out_as took.word new.lease)) g ne

  out_here : out_of k' new.frame ≡ Some (out_as took.word new.lease)
  out_here = ap (λ os. out_at os new.frame) took.outs ∙ out_at-here k.seat.view.outs new.frame (Some (out_as took.word new.lease))

  -- what is out isn't the frame that was taken
  other_frame : (g : ℕ) (o : Out) → out_of k g ≡ Some o → g ≢ new.frame
  other_frame g o is e = let bad : Some o ≡ None = sym is ∙ ap (out_of k) e ∙ took.was_in in cc bad

  held_other : (i : ℕ) (h : Held) → slice_get k.held i ≡ Some h → h.frame ≢ new.frame
  held_other i h is = let x = (holds.held i h is).out in other_frame h.frame x.out x.at

  free_other : (i : ℕ) (s : Free) → slice_get k.free i ≡ Some s → s.frame ≢ new.frame
  free_other i s is = let x = (holds.free i s is).out in other_frame s.frame x.out x.at

  held_still : (i : ℕ) (h : Held) → slice_get k.held i ≡ Some h → IsHeldIn locks k' h
  held_still i h is = subst (λ (p : Option Entry × Option Out). IsHeldPage locks k.shape k.number (place_of k h.page) (page_at k h.frame) p.0 p.1 h) (λ j. (sym (puts h.frame) j, sym (out_else h.frame (held_other i h is)) j)) (holds.held i h is)

  free_still : (i : ℕ) (s : Free) → slice_get k.free i ≡ Some s → IsFreeIn locks k' s
  free_still i s is = subst (λ (o : Option Out). IsFreeFrame locks k.shape.page_size k.number (page_at k s.frame) o s) (sym (out_else s.frame (free_other i s is))) (holds.free i s is)

  same_put : (d e : Entry) → last_put k new.frame ≡ Some d → last_put k' new.frame ≡ Some e → d ≡ e
  same_put d e a b = let q : Some d ≡ Some e = sym a ∙ sym (puts new.frame) ∙ b in cc q

  new_held : IsHeldIn locks k' new
  new_held =
      let x = holds.kept new.page new.frame new.tag at in
      let as_put = took.last x.entry x.at in
      let long : length new.lease.bytes ≡ k.shape.page_size = ap length as_put.bytes ∙ x.long in record {
        own = x.own;
        frame = x.frame;
        out = record { out = out_as took.word new.lease; at = out_here; holder = took.holder; owner = took.owner; tag_is = took.tag_is; flag_is = took.flag_is; same = record { number = refl; range = refl }; long = long };
        was_long = ap length was_is ∙ long;
        patched = subst (λ (o : Option Coverage). IfSome o (λ patch. patch.page_size ≡ k.shape.page_size)) (sym bare) tt;
        unlent = λ _. (sym was_is, bare);
        from_frame = λ _. record {
          kept = at;
          follows = λ e is. subst (λ (d : Entry). IsReachedFrom d.flag new.flag) (same_put x.entry e x.at is) as_put.flag;
          last = λ e is. was_is ∙ as_put.bytes ∙ ap (λ (d : Entry). d.bytes) (same_put x.entry e x.at is);
          taken = λ o is. was_is ∙ (let q : Some (out_as took.word new.lease) ≡ Some o = sym out_here ∙ is in let r : out_as took.word new.lease ≡ o = cc q in ap (λ (z : Out). z.lease.bytes) r);
        };
        from_file = λ e. absurd (let q : false ≡ true = sym unread ∙ e in cc q);
      }

  all_out : (f : ℕ) (o : Out) → out_of k' f ≡ Some o → IsInHand (k.held ++ new ∷ []) k.free f
  all_out f o is = ⊎_elim
      (λ same. inl (length k.held, new, slice_get-push k.held new, sym same))
      (λ ne. ⊎_elim
      (λ p. inl (p.0, p.1, slice_get-front k.held (new ∷ []) p.0 (slice_get_within k.held p.0 p.1 p.2) ∙ p.2, p.3))
      (λ p. inr p)
      (holds.apart.all f o (sym (out_else f ne) ∙ is)))
      (cases_eq f new.frame)

  taken_apart : AreApart (k.held ++ new ∷ []) k.free seat'.view.outs
  taken_apart = record {
    names = once_push (λ (h : Held). h.page.0) k.held new holds.apart.names (λ i h is. none_named k.held new.page.0 i h away.away is);
    held_once = once_push (λ (h : Held). h.frame) k.held new holds.apart.held_once held_other;
    free_once = holds.apart.free_once;
    both = λ i j h s p q. ⊎_elim
        (λ old. holds.apart.both i j h s old q)
        (λ last. λ e. free_other j s q (sym e ∙ ap (λ (z : Held). z.frame) (sym last.1)))
        (slice_get-pushed k.held new h i p);
    all = all_out;
  }

  taken_holds : Holds locks k'
  taken_holds = record {
    shaped = holds.shaped;
    frames = holds.frames;
    many = holds.many;
    worker = record { seat_of = seat_of; below = holds.worker.below; few = holds.worker.few; has = ap (λ (l : Numbers). is_among l k.number) took.numbers ∙ holds.worker.has };
    kept = λ id f tag is. subst (λ (p : Option Entry). IsKeptPage locks k.shape k.number p id f tag) (sym (puts f)) (holds.kept id f tag is);
    stay = λ f e is. holds.stay f e (sym (puts f) ∙ is);
    held = λ i h is. ⊎_elim (held_still i h) (λ last. subst (IsHeldIn locks k') last.1 new_held) (slice_get-pushed k.held new h i is);
    free = free_still;
    apart = taken_apart;
    held_room = room;
    free_room = holds.free_room;
  }

  new_bytes : (id : PageId) → new.page.0 ≡ id.0 → (file : Option (List ℕ)) → Some new.lease.bytes ≡ bytes_by None (place_of k id) k.seat.view.entries k.number file
  new_bytes id same file =
      let x = holds.kept new.page new.frame new.tag at in
      let as_put = took.last x.entry x.at in
      ap Some as_put.bytes ∙ sym (ap (option_map (λ (e : Entry). e.bytes)) x.at)
      ∙ ap (λ t. bytes_by None t k.seat.view.entries k.number file) (sym at ∙ ap (λ n. place_of k (record { 0 = n })) same)

  bytes_same : (file : PageId → Option (List ℕ)) (id : PageId) (o : Option Held) → held_at k.held id.0 ≡ o → bytes_by (or_else o (held_at (new ∷ []) id.0)) (place_of k id) seat'.view.entries k.number (file id) ≡ bytes_by o (place_of k id) k.seat.view.entries k.number (file id)
  bytes_same file id (Some h) is = refl
  bytes_same file id None is = ⊎_elim
      (λ same. ap (λ o. bytes_by o (place_of k id) seat'.view.entries k.number (file id)) (one_here new id.0 same) ∙ new_bytes id same (file id))
      (λ ne. ap (λ o. bytes_by o (place_of k id) seat'.view.entries k.number (file id)) (one_else new id.0 ne) ∙ ap (λ es. bytes_by None (place_of k id) es k.number (file id)) took.entries)
      (cases_eq new.page.0 id.0)

  all_same : (file : PageId → Option (List ℕ)) (id : PageId) → page_bytes file k' id ≡ page_bytes file k id
  all_same file id = ap (λ o. bytes_by o (place_of k id) seat'.view.entries k.number (file id)) (held_push k.held new id.0) ∙ bytes_same file id (held_at k.held id.0) refl

  known_by_push : (id : PageId) (o p : Option Held) → IsTrue (known_by o (place_of k id) k.seat.view.entries k.number) → IsTrue (known_by (or_else o p) (place_of k id) seat'.view.entries k.number)
  known_by_push id (Some h) p is = refl
  known_by_push id None (Some h) is = refl
  known_by_push id None None is = subst (λ es. IsTrue (known_by None (place_of k id) es k.number)) (sym took.entries) is

  known_is : is_known k new.page ≡ stays (holds.kept new.page new.frame new.tag at).entry.flag
  known_is = (λ i. known_by (away.away i) (at i) k.seat.view.entries k.number) ∙ ap stays_in (holds.kept new.page new.frame new.tag at).at

  pub taken_page : TakesPage locks k k' new.page true
  taken_page = record {
    holds = taken_holds;
    keeps = record {
      known = λ id is. subst (λ o. IsTrue (known_by o (place_of k id) seat'.view.entries k.number)) (sym (held_push k.held new id.0)) (known_by_push id (held_at k.held id.0) (held_at (new ∷ []) id.0) is);
      at_hand = λ file id _. all_same file id;
      clean = λ file is. record {
        kept = λ id f tag e p q. is.kept id f tag e p (sym (puts f) ∙ q);
        read = λ i h p. ⊎_elim (λ old. is.read i h old) (λ last. λ r. absurd (let q : false ≡ true = sym unread ∙ ap (λ (z : Held). z.is_read) last.1 ∙ r in cc q)) (slice_get-pushed k.held new h i p);
      };
      told = λ file id _. all_same file id;
    };
    shape = refl;
    number = refl;
    free = refl;
    staying = λ j is. record { frame = is.frame; tag = is.tag; entry = is.entry; kept = is.kept; at = puts is.frame ∙ is.at; stay = is.stay };
    back = λ j is. record { frame = is.frame; tag = is.tag; entry = is.entry; kept = is.kept; at = sym (puts is.frame) ∙ is.at; stay = is.stay };
    only = λ j ne. ap (λ o. known_by o (place_of k j) seat'.view.entries k.number) (held_push_else k.held new j.0 (λ e. ne (sym e)))
        ∙ ap (λ es. known_by (held_at k.held j.0) (place_of k j) es k.number) took.entries;
    bare = omega (arith, read_push k.held new, ap read_one unread);
    added = λ _. record {
      page = new;
      added = refl;
      page_is = refl;
      unlent = unlent;
      bare = bare;
      reads = let x = holds.kept new.page new.frame new.tag at in ⊎_elim
          (λ stay. inl (known_is ∙ stay))
          (λ clean. inr (subst (Reads new.page) (sym (took.last x.entry x.at).bytes) (x.reads clean)))
          (stays_or_clean x.entry.flag x.some);
    };
    lost = λ e. absurd (let q : true ≡ false = e in cc q);
    sight = sight;
  }
