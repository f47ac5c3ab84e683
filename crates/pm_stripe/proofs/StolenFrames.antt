-- A frame that is stolen, and one that can't be.
use Rattle.std.proofs.Common.{◌≡◌, ◌≢◌, ℕ, ◌≤◌, Bool, true, false, List, [], ◌∷◌, ◌++◌, ◌⊎◌, ⊎_elim, inl, inr, length, set, Option, Some, None, sym, refl, ap, subst, ◌∙◌, arith}
use Rattle.std.specs.Prelude.{IsTrue, slice_get}
use Rattle.std.specs.FinMap as fin
use Rattle.std.specs.Option.{option_map}
use Rattle.std.proofs.lemmas.Bool.{cases_eq, cases_lt}
use Rattle.std.proofs.lemmas.List.{length-set}
use Rattle.std.proofs.lemmas.Option.{slice_get_within}
use Rattle.pm_types.specs.declared.flag.Flag.{Flag}
use Rattle.pm_types.specs.declared.page_id.PageId.{PageId}
use Rattle.pm_types.specs.declared.limits.TheConstants.{OP_PAGES}
use Rattle.pm_region.specs.Lease.{Leased}
use Rattle.pm_locks.specs.Words.{LockWord, IsReachedFrom, IsSpare, CanBeStolen, code_of, stolen_as}
use Rattle.pm_locks.specs.Rule.{frame_range}
use Rattle.pm_locks.specs.declared.view.View.{View}
use Rattle.pm_locks.specs.declared.view.Entry.{Entry}
use Rattle.pm_locks.specs.declared.view.Out.{Out}
use Rattle.pm_locks.specs.declared.view.Numbers.{Numbers}
use Rattle.pm_locks.specs.Steps.{entry_as, out_as, IsMet}
use Rattle.pm_locks.specs.Answers.{GotStolen, MetTwo}
use Rattle.pm_locks.specs.Views.{entry_at, out_at, is_among, Has}
use Rattle.pm_locks.specs.Sight.{Sight, LockTable, IsSeatOf, IsFrameOf}
use Rattle.pm_locks.proofs.Facts.{out_at-here, out_at-else, entry_at-here, entry_at-other_frame}
use Rattle.pm_locks.proofs.Pushing.{slice_get-pushed, slice_get-push, slice_get-front}
use Rattle.pm_stripe.specs.declared.held.Held.{Held}
use Rattle.pm_stripe.specs.declared.held.Free.{Free}
use Rattle.pm_stripe.specs.declared.places.Places.{Places}
use Rattle.pm_stripe.specs.PlacedPages.{forgotten}
use Rattle.pm_stripe.specs.Takes.{OnlyMeets}
use Rattle.pm_stripe.specs.Steals.{StealsFrame}
use Rattle.pm_stripe.specs.Kept.{Kept, held_at, place_of, last_put, page_at, out_of, stays, stays_in, bytes_by, page_bytes, known_by, IsKeptPage, IsHeldPage, IsFreeFrame, IsHeldIn, IsFreeIn, IsInHand, AreApart, Holds, AreClean}
use Rattle.pm_stripe.specs.HandLaws.{set_else, set_here}
use Rattle.pm_stripe.proofs.PlacedPages.{get_removed, get_rest}
use Rattle.pm_stripe.proofs.Hands.{once_push}
use Rattle.pm_stripe.proofs.LostPages.{spare_goes, spare_clean}
use Rattle.pm_stripe.proofs.Tries.{met_only, two_only}

spare_before : (was now : Flag) → IsReachedFrom was now → IsSpare now → IsSpare was
spare_before was now r spare = ⊎_elim
    (λ same. subst IsSpare (sym same) spare)
    (λ p. absurd (⊎_elim (λ e. let z = ap code_of e in let a = p.0 in let b = p.1 in omega (arith, z)) (λ e. let z = ap code_of e in let a = p.0 in let b = p.1 in omega (arith, z)) spare))
    r

-- what the number last put into a stolen frame is Empty or Clean
stolen_spare : (v v' : View) (n f : ℕ) (lease : Leased) (tag : ℕ) → Has v n → GotStolen v v' n f lease tag → (e : Entry) → entry_at v.entries n f ≡ Some e → IsSpare e.flag
stolen_spare v v' n f lease tag has got e at =
    let dated = got.met.dated n e has at in
    ⊎_elim
    (λ current.
    let own = dated.owner current in
    let last = got.met.backed.last (subst (λ m. Has v m) own has) in
    let same : Some last.entry ≡ Some e = sym last.at ∙ ap (λ m. entry_at v.entries m f) (sym own) ∙ at in
    let is : last.entry ≡ e = cc same in
    spare_before e.flag got.word.flag (subst (λ (d : Entry). IsReachedFrom d.flag got.word.flag) is last.flag) got.free.spare)
    (λ ne. ⊎_elim (λ older. dated.older older) (λ newer. absurd (ne (omega (arith, newer, dated.at_most)))) (cases_lt e.tag got.word.tag))
    (cases_eq e.tag got.word.tag)

-- the lease is as long as a page
pub stolen_long : (locks : LockTable) (k : Kept) (v' : View) (f tag : ℕ) (lease : Leased) → Holds locks k → IsFrameOf locks f → GotStolen k.seat.view v' k.number f lease tag → length lease.bytes ≡ lease.range.len → length lease.bytes ≡ k.shape.page_size
stolen_long locks k v' f tag lease holds frame got long =
    long ∙ ap (λ r. r.len) got.range_is ∙ ap (λ rs. (frame_range rs f).len) holds.worker.seat_of.ranges ∙ holds.frames f frame

module _ (locks : LockTable) (k : Kept) (holds : Holds locks k) (f tag : ℕ) (lease : Leased) (seat' : Sight) (places' : Places) (room' : ℕ) (room : OP_PAGES ≤ room') (frame : IsFrameOf locks f) (seat_of : IsSeatOf locks seat')
    (got : GotStolen k.seat.view seat'.view k.number f lease tag) (long : length lease.bytes ≡ k.shape.page_size) (table : places'.table.entries ≡ forgotten k.places.table.entries (page_at k f)) (pages : places'.pages.items ≡ set k.places.pages.items f None) where
  abbrev new : Free
  new = record { frame = f; tag = tag; lease = lease }

  abbrev k' : Kept
  k' = record k { seat = seat'; places = places'; free = k.free ++ new ∷ []; free_room = room' }

  abbrev word : LockWord
  word = stolen_as k.number got.word

  outs_are : seat'.view.outs ≡ (f, Some (out_as word lease)) ∷ k.seat.view.outs
  outs_are = ap (λ (v : View). v.outs) got.view

  entries_are : seat'.view.entries ≡ entry_as f word lease.bytes ∷ k.seat.view.entries
  entries_are = ap (λ (v : View). v.entries) got.view

  was_in : out_of k f ≡ None
  was_in = got.met.inside got.free.home

  put_else : (g : ℕ) → g ≢ f → last_put k' g ≡ last_put k g
  put_else g ne = ap (λ es. entry_at es k.number g) entries_are ∙ entry_at-other_frame k.seat.view.entries (entry_as f word lease.bytes) k.number g ne

  put_here : last_put k' f ≡ Some (entry_as f word lease.bytes)
  put_here = ap (λ es. entry_at es k.number f) entries_are ∙ entry_at-here k.seat.view.entries (entry_as f word lease.bytes)

  out_else : (g : ℕ) → g ≢ f → out_of k' g ≡ out_of k g
  out_else g ne = ap (λ os. out_at os g) outs_are ∙ out_at-else k.seat.view.outs f (Some (out_as word lease)) g ne

  out_here : out_of k' f ≡ Some (out_as word lease)
  out_here = ap (λ os. out_at os f) outs_are ∙ out_at-here k.seat.view.outs f (Some (out_as word lease))

  other_frame : (g : ℕ) (o : Out) → out_of k g ≡ Some o → g ≢ f
  other_frame g o is e = let bad : Some o ≡ None = sym is ∙ ap (out_of k) e ∙ was_in in cc bad

  held_other : (i : ℕ) (h : Held) → slice_get k.held i ≡ Some h → h.frame ≢ f
  held_other i h is = let x = (holds.held i h is).out in other_frame h.frame x.out x.at

  free_other : (i : ℕ) (s : Free) → slice_get k.free i ≡ Some s → s.frame ≢ f
  free_other i s is = let x = (holds.free i s is).out in other_frame s.frame x.out x.at

  page_else : (g : ℕ) → g ≢ f → page_at k' g ≡ page_at k g
  page_else g ne = ap (λ ps. slice_get ps g) pages ∙ set_else k.places.pages.items f g None ne

  page_here : page_at k' f ≡ Some None
  page_here = ap (λ ps. slice_get ps f) pages ∙ set_here k.places.pages.items f None (omega (arith, frame, holds.many))

  -- the frame keeps no page any more
  not_here : (j : PageId) (g t : ℕ) → place_of k' j ≡ Some (g, t) → g ≢ f
  not_here j g t is e = let bad : Some None ≡ Some (Some j) = sym page_here ∙ ap (page_at k') (sym e) ∙ places'.agree.kept j g t is in cc bad

  same_place : (j : PageId) (o : Option (Option PageId)) → page_at k f ≡ o → ((p : PageId) → o ≡ Some (Some p) → j.0 ≢ p.0) → place_of k' j ≡ place_of k j
  same_place j None is other = ap (λ m. fin.get m j.0) (table ∙ ap (forgotten k.places.table.entries) is)
  same_place j (Some None) is other = ap (λ m. fin.get m j.0) (table ∙ ap (forgotten k.places.table.entries) is)
  same_place j (Some (Some p)) is other = ap (λ m. fin.get m j.0) (table ∙ ap (forgotten k.places.table.entries) is) ∙ get_rest k.places.table.entries p.0 j.0 (other p refl)

  -- a page that another frame keeps stays there
  left : (j : PageId) (g t : ℕ) → place_of k j ≡ Some (g, t) → g ≢ f → place_of k' j ≡ Some (g, t)
  left j g t is ne = same_place j (page_at k f) refl (λ p here same.
      let q : Some f ≡ Some g = sym (k.places.agree.named p f here) ∙ ap (λ n. option_map (λ (w : ℕ × ℕ). w.0) (place_of k (record { 0 = n }))) (sym same) ∙ ap (option_map (λ (w : ℕ × ℕ). w.0)) is in
      let e : f ≡ g = cc q in ne (sym e)) ∙ is

  none_left : (j : PageId) → place_of k j ≡ None → place_of k' j ≡ None
  none_left j is = same_place j (page_at k f) refl (λ p here same.
      let q : Some f ≡ None = sym (k.places.agree.named p f here) ∙ ap (λ n. option_map (λ (w : ℕ × ℕ). w.0) (place_of k (record { 0 = n }))) (sym same) ∙ ap (option_map (λ (w : ℕ × ℕ). w.0)) is in cc q) ∙ is

  gone_by : (j : PageId) (t : ℕ) (o : Option (ℕ × ℕ)) → place_of k j ≡ Some (f, t) → place_of k' j ≡ o → o ≡ None
  gone_by j t None was is = refl
  gone_by j t (Some p) was is =
      let ne = not_here j p.0 p.1 is in
      let here = k.places.agree.kept j f t was in
      let removed : place_of k' j ≡ None = ap (λ m. fin.get m j.0) (table ∙ ap (forgotten k.places.table.entries) here) ∙ get_removed k.places.table.entries j.0 in
      sym is ∙ removed

  gone : (j : PageId) (t : ℕ) → place_of k j ≡ Some (f, t) → place_of k' j ≡ None
  gone j t was = gone_by j t (place_of k' j) was refl

  -- and one that a frame keeps was kept before
  was_kept_by : (j : PageId) (g t : ℕ) (o : Option (ℕ × ℕ)) → place_of k j ≡ o → place_of k' j ≡ Some (g, t) → o ≡ Some (g, t)
  was_kept_by j g t None was is = sym (none_left j was) ∙ is
  was_kept_by j g t (Some p) was is = ⊎_elim
      (λ same. absurd (let bad : None ≡ Some (g, t) = sym (gone j p.1 (was ∙ (λ i. Some (same i, p.1)))) ∙ is in cc bad))
      (λ ne. sym (left j p.0 p.1 was ne) ∙ is)
      (cases_eq p.0 f)

  was_kept : (j : PageId) (g t : ℕ) → place_of k' j ≡ Some (g, t) → place_of k j ≡ Some (g, t)
  was_kept j g t is = was_kept_by j g t (place_of k j) refl is

  held_place : (i : ℕ) (h : Held) (is : slice_get k.held i ≡ Some h) (read : Bool) → h.is_read ≡ read → place_of k' h.page ≡ place_of k h.page
  held_place i h is true r = let x = (holds.held i h is).from_file r in none_left h.page x.unkept ∙ sym x.unkept
  held_place i h is false r = let x = (holds.held i h is).from_frame r in left h.page h.frame h.tag x.kept (held_other i h is) ∙ sym x.kept

  held_still : (i : ℕ) (h : Held) → slice_get k.held i ≡ Some h → IsHeldIn locks k' h
  held_still i h is =
      let ne = held_other i h is in
      subst (λ (p : Option (ℕ × ℕ) × Option (Option PageId) × Option Entry × Option Out). IsHeldPage locks k.shape k.number p.0 p.1 p.2 p.3 h)
      (λ j. (sym (held_place i h is h.is_read refl) j, sym (page_else h.frame ne) j, sym (put_else h.frame ne) j, sym (out_else h.frame ne) j)) (holds.held i h is)

  free_still : (i : ℕ) (s : Free) → slice_get k.free i ≡ Some s → IsFreeIn locks k' s
  free_still i s is =
      let ne = free_other i s is in
      subst (λ (p : Option (Option PageId) × Option Out). IsFreeFrame locks k.shape.page_size k.number p.0 p.1 s)
      (λ j. (sym (page_else s.frame ne) j, sym (out_else s.frame ne) j)) (holds.free i s is)

  new_free : IsFreeIn locks k' new
  new_free = record {
    frame = frame;
    out = record { out = out_as word lease; at = out_here; holder = refl; owner = refl; tag_is = sym got.next; flag_is = refl; same = record { number = refl; range = refl }; long = long };
    bare = page_here;
  }

  all_out : (g : ℕ) (o : Out) → out_of k' g ≡ Some o → IsInHand k.held (k.free ++ new ∷ []) g
  all_out g o is = ⊎_elim
      (λ same. inr (length k.free, new, slice_get-push k.free new, sym same))
      (λ ne. ⊎_elim
      (λ p. inl p)
      (λ p. inr (p.0, p.1, slice_get-front k.free (new ∷ []) p.0 (slice_get_within k.free p.0 p.1 p.2) ∙ p.2, p.3))
      (holds.apart.all g o (sym (out_else g ne) ∙ is)))
      (cases_eq g f)

  -- what stays is in another frame
  stay_frame : (g : ℕ) (e : Entry) → last_put k g ≡ Some e → IsTrue (stays e.flag) → g ≢ f
  stay_frame g e is stay same = spare_goes e.flag (stolen_spare k.seat.view seat'.view k.number f lease tag holds.worker.has got e (ap (last_put k) (sym same) ∙ is)) stay

  stolen_holds : Holds locks k'
  stolen_holds = record {
    shaped = holds.shaped;
    frames = holds.frames;
    many = ap length pages ∙ length-set k.places.pages.items f None ∙ holds.many;
    worker = record { seat_of = seat_of; below = holds.worker.below; few = holds.worker.few; has = ap (λ (l : Numbers). is_among l k.number) (ap (λ (v : View). v.numbers) got.view) ∙ holds.worker.has };
    kept = λ j g t is. subst (λ (p : Option Entry). IsKeptPage locks k.shape k.number p j g t) (sym (put_else g (not_here j g t is))) (holds.kept j g t (was_kept j g t is));
    stay = λ g e is stay. ⊎_elim
        (λ same. absurd (let q : Some (entry_as f word lease.bytes) ≡ Some e = sym put_here ∙ ap (last_put k') (sym same) ∙ is in let p : entry_as f word lease.bytes ≡ e = cc q in
        let bad : false ≡ true = ap (λ (d : Entry). stays d.flag) p ∙ stay in cc bad))
        (λ ne. let was = sym (put_else g ne) ∙ is in let x = holds.stay g e was stay in (x.0, left x.0 g e.tag x.1 ne))
        (cases_eq g f);
    held = held_still;
    free = λ i s is. ⊎_elim (free_still i s) (λ last. subst (IsFreeIn locks k') last.1 new_free) (slice_get-pushed k.free new s i is);
    apart = record {
      names = holds.apart.names;
      held_once = holds.apart.held_once;
      free_once = once_push (λ (s : Free). s.frame) k.free new holds.apart.free_once free_other;
      both = λ i j h s p q. ⊎_elim (holds.apart.both i j h s p) (λ last. λ e. held_other i h p (e ∙ ap (λ (z : Free). z.frame) (sym last.1))) (slice_get-pushed k.free new s j q);
      all = all_out;
    };
    held_room = holds.held_room;
    free_room = room;
  }

  stay_left : (j : PageId) (p : ℕ × ℕ) → place_of k j ≡ Some p → IsTrue (stays_in (last_put k p.0)) → p.0 ≢ f
  stay_left j p is stay = stay_left_by (last_put k p.0) refl stay
    where
      stay_left_by : (o : Option Entry) → last_put k p.0 ≡ o → IsTrue (stays_in o) → p.0 ≢ f
      stay_left_by None at stay = absurd (let q : false ≡ true = stay in cc q)
      stay_left_by (Some e) at stay = stay_frame p.0 e at stay

  known_still : (j : PageId) (o : Option Held) (t : Option (ℕ × ℕ)) → place_of k j ≡ t → IsTrue (known_by o t k.seat.view.entries k.number) → IsTrue (known_by o (place_of k' j) seat'.view.entries k.number)
  known_still j (Some h) t is known = refl
  known_still j None None is known = absurd (let q : false ≡ true = known in cc q)
  known_still j None (Some p) is known =
      let ne = stay_left j p is known in
      (λ i. known_by None (left j p.0 p.1 is ne i) seat'.view.entries k.number) ∙ ap stays_in (put_else p.0 ne) ∙ known

  known_bytes : (file : PageId → Option (List ℕ)) (j : PageId) (o : Option Held) (t : Option (ℕ × ℕ)) → place_of k j ≡ t → IsTrue (known_by o t k.seat.view.entries k.number) → bytes_by o (place_of k' j) seat'.view.entries k.number (file j) ≡ bytes_by o t k.seat.view.entries k.number (file j)
  known_bytes file j (Some h) t is known = refl
  known_bytes file j None None is known = absurd (let q : false ≡ true = known in cc q)
  known_bytes file j None (Some p) is known =
      let ne = stay_left j p is known in
      ap (λ t. bytes_by None t seat'.view.entries k.number (file j)) (left j p.0 p.1 is ne) ∙ ap (option_map (λ (e : Entry). e.bytes)) (put_else p.0 ne)

  told_bytes : (file : PageId → Option (List ℕ)) (j : PageId) → AreClean file k → (o : Option Held) (t : Option (ℕ × ℕ)) → place_of k j ≡ t → bytes_by o (place_of k' j) seat'.view.entries k.number (file j) ≡ bytes_by o t k.seat.view.entries k.number (file j)
  told_bytes file j clean (Some h) t is = refl
  told_bytes file j clean None None is = ap (λ t. bytes_by None t seat'.view.entries k.number (file j)) (none_left j is)
  told_bytes file j clean None (Some p) is = ⊎_elim
      (λ same.
      let x = holds.kept j p.0 p.1 is in
      let spare = stolen_spare k.seat.view seat'.view k.number f lease tag holds.worker.has got x.entry (ap (last_put k) (sym same) ∙ x.at) in
      ap (λ t. bytes_by None t seat'.view.entries k.number (file j)) (gone j p.1 (is ∙ (λ i. Some (same i, p.1))))
      ∙ clean.kept j p.0 p.1 x.entry is x.at (spare_clean x.entry.flag spare x.some) ∙ sym (ap (option_map (λ (e : Entry). e.bytes)) x.at))
      (λ ne. ap (λ t. bytes_by None t seat'.view.entries k.number (file j)) (left j p.0 p.1 is ne) ∙ ap (option_map (λ (e : Entry). e.bytes)) (put_else p.0 ne))
      (cases_eq p.0 f)

  known_before : (j : PageId) (o : Option Held) (t : Option (ℕ × ℕ)) → place_of k' j ≡ t → IsTrue (known_by o t seat'.view.entries k.number) → IsTrue (known_by o (place_of k j) k.seat.view.entries k.number)
  known_before j (Some h) t is known = refl
  known_before j None None is known = absurd (let q : false ≡ true = known in cc q)
  known_before j None (Some p) is known =
      ap (λ t. known_by None t k.seat.view.entries k.number) (was_kept j p.0 p.1 is) ∙ ap stays_in (sym (put_else p.0 (not_here j p.0 p.1 is))) ∙ known

  pub got_one : StealsFrame locks k k' f true
  got_one = record {
    holds = stolen_holds;
    keeps = record {
      known = λ j is. known_still j (held_at k.held j.0) (place_of k j) refl is;
      at_hand = λ file j is. known_bytes file j (held_at k.held j.0) (place_of k j) refl is;
      clean = λ file is. record {
        kept = λ j g t e p q. is.kept j g t e (was_kept j g t p) (sym (put_else g (not_here j g t p)) ∙ q);
        read = is.read;
      };
      told = λ file j is. told_bytes file j is (held_at k.held j.0) (place_of k j) refl;
    };
    shape = refl;
    number = refl;
    held = refl;
    staying = λ j is. let ne = stay_frame is.frame is.entry is.at is.stay in record { frame = is.frame; tag = is.tag; entry = is.entry; kept = left j is.frame is.tag is.kept ne; at = put_else is.frame ne ∙ is.at; stay = is.stay };
    unmoved = λ j g t e is at stay. let ne = stay_frame g e at stay in (left j g t is ne, put_else g ne ∙ at);
    back = λ j is. known_before j (held_at k.held j.0) (place_of k' j) refl is;
    added = λ _. record { frame = new; added = refl; is = refl };
    not_added = λ e. absurd (let q : true ≡ false = e in cc q);
  }

-- only words were met
pub only_one : (locks : LockTable) (k : Kept) (f : ℕ) (seat' : Sight) → Holds locks k → IsSeatOf locks seat' → OnlyMeets k.seat.view seat'.view → StealsFrame locks k (record k { seat = seat' }) f false
only_one locks k f seat' holds seat_of only =
    let k' : Kept = record k { seat = seat' } in
    let puts : (g : ℕ) → last_put k' g ≡ last_put k g = λ g. ap (λ es. entry_at es k.number g) only.entries in
    let outs : (g : ℕ) → out_of k' g ≡ out_of k g = λ g. ap (λ os. out_at os g) only.outs in
    let bytes : (file : PageId → Option (List ℕ)) (j : PageId) → page_bytes file k' j ≡ page_bytes file k j = λ file j. ap (λ es. bytes_by (held_at k.held j.0) (place_of k j) es k.number (file j)) only.entries in
    record {
      holds = record {
        shaped = holds.shaped;
        frames = holds.frames;
        many = holds.many;
        worker = record { seat_of = seat_of; below = holds.worker.below; few = holds.worker.few; has = ap (λ (l : Numbers). is_among l k.number) only.numbers ∙ holds.worker.has };
        kept = λ j g t is. subst (λ (p : Option Entry). IsKeptPage locks k.shape k.number p j g t) (sym (puts g)) (holds.kept j g t is);
        stay = λ g e is. holds.stay g e (sym (puts g) ∙ is);
        held = λ i h is. subst (λ (p : Option Entry × Option Out). IsHeldPage locks k.shape k.number (place_of k h.page) (page_at k h.frame) p.0 p.1 h) (λ j. (sym (puts h.frame) j, sym (outs h.frame) j)) (holds.held i h is);
        free = λ i s is. subst (λ (o : Option Out). IsFreeFrame locks k.shape.page_size k.number (page_at k s.frame) o s) (sym (outs s.frame)) (holds.free i s is);
        apart = subst (AreApart k.held k.free) (sym only.outs) holds.apart;
        held_room = holds.held_room;
        free_room = holds.free_room;
      };
      keeps = record {
        known = λ j is. ap (λ es. known_by (held_at k.held j.0) (place_of k j) es k.number) only.entries ∙ is;
        at_hand = λ file j is. bytes file j;
        clean = λ file is. record { kept = λ j g t e p q. is.kept j g t e p (sym (puts g) ∙ q); read = is.read };
        told = λ file j is. bytes file j;
      };
      shape = refl;
      number = refl;
      held = refl;
      staying = λ j is. record { frame = is.frame; tag = is.tag; entry = is.entry; kept = is.kept; at = puts is.frame ∙ is.at; stay = is.stay };
      unmoved = λ j g t e is at stay. (is, puts g ∙ at);
      back = λ j is. ap (λ es. known_by (held_at k.held j.0) (place_of k j) es k.number) (sym only.entries) ∙ is;
      added = λ e. absurd (let q : false ≡ true = e in cc q);
      not_added = λ _. refl;
    }

pub not_one : (locks : LockTable) (k : Kept) (f : ℕ) (seat' : Sight) (word : LockWord) → Holds locks k → IsSeatOf locks seat' → (IsMet k.seat.view seat'.view f word × ¬ CanBeStolen word) ⊎ MetTwo k.seat.view seat'.view f word → StealsFrame locks k (record k { seat = seat' }) f false
not_one locks k f seat' word holds seat_of met =
    only_one locks k f seat' holds seat_of (⊎_elim (λ a. (met_only k.seat.view seat'.view f word a.0).only) (λ b. (two_only k.seat.view seat'.view f word b).only) met)
