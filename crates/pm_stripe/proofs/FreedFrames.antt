-- An empty frame in hand is put back.
use Rattle.std.proofs.Common.{◌≡◌, ◌≢◌, ℕ, zero, suc, ◌+◌, ◌≤◌, false, true, List, [], ◌∷◌, ◌++◌, ⊎_elim, inl, inr, length, Option, Some, None, sym, refl, ap, subst, ◌∙◌, arith, append_assoc, append-nil}
use Rattle.std.specs.Prelude.{IsTrue, slice_get}
use Rattle.std.specs.FinMap as fin
use Rattle.std.specs.Option.{option_map}
use Rattle.std.proofs.lemmas.Bool.{cases_eq}
use Rattle.std.proofs.lemmas.Option.{slice_get_within}
use Rattle.pm_types.specs.declared.flag.Flag.TheVariants as flag
use Rattle.pm_types.specs.declared.page_id.PageId.{PageId}
use Rattle.pm_types.specs.declared.limits.TheConstants.{OP_PAGES}
use Rattle.pm_locks.specs.Words.{LockWord, put_as}
use Rattle.pm_locks.specs.declared.view.View.{View}
use Rattle.pm_locks.specs.declared.view.Entry.{Entry}
use Rattle.pm_locks.specs.declared.view.Out.{Out}
use Rattle.pm_locks.specs.declared.view.Numbers.{Numbers}
use Rattle.pm_locks.specs.Steps.{entry_as, put_back}
use Rattle.pm_locks.specs.Answers.{out_or, IsOwnOut, IsSameLease, MayPut}
use Rattle.pm_locks.specs.Answers as answers
use Rattle.pm_locks.specs.Views.{entry_at, out_at, is_among}
use Rattle.pm_locks.specs.Sight.{Sight, LockTable, IsSeatOf, KnowsAll}
use Rattle.pm_locks.proofs.Facts.{out_at-here, out_at-else, entry_at-here, entry_at-other_frame}
use Rattle.pm_locks.proofs.Pushing.{slice_get-pushed, slice_get-push, slice_get-front}
use Rattle.pm_stripe.specs.declared.held.Held.{Held}
use Rattle.pm_stripe.specs.declared.held.Free.{Free}
use Rattle.pm_stripe.specs.declared.places.Places.{Places}
use Rattle.pm_stripe.specs.Frees.{IsPutEmpty, FreesFrames}
use Rattle.pm_stripe.specs.Kept.{Kept, held_at, place_of, last_put, page_at, out_of, stays, bytes_by, known_by, IsKeptPage, IsHeldPage, IsFreeFrame, IsHeldIn, IsFreeIn, IsInHand, Holds, stays_in}
use Rattle.pm_stripe.specs.Sights.{KeepsSight}
use Rattle.pm_stripe.specs.SightLaws.{sight_refl, sight_then}
use Rattle.pm_stripe.proofs.DonePages.{behind}
use Rattle.pm_stripe.proofs.MetFrames.{at_append}
use Rattle.pm_stripe.proofs.SettledFrames.{put_sight}

may_empty : (o : Out) (bytes : List ℕ) → o.word.flag ≡ flag.Empty → MayPut o flag.Empty bytes
may_empty o bytes is = record {
  dirty = λ e. absurd (let bad : flag.Empty ≡ flag.Dirty = sym is ∙ e in cc bad);
  changed = λ p _. absurd (⊎_elim (λ e. let bad : flag.Empty ≡ flag.Due = sym is ∙ e in cc bad) (λ e. let bad : flag.Empty ≡ flag.Done = sym is ∙ e in cc bad) p);
  due = λ e. absurd (let bad : flag.Empty ≡ flag.Due = sym is ∙ e in cc bad);
  as_due = λ e. absurd (cc e);
  as_done = λ e. absurd (cc e);
}

-- nothing is put back
pub frees_none : (locks : LockTable) (k : Kept) → Holds locks k → FreesFrames locks k k
frees_none locks k holds = record {
  holds = holds;
  rest = [];
  free = sym (append-nil k.free);
  held = refl;
  shape = refl;
  number = refl;
  places = refl;
  sight = sight_refl locks k.seat.view;
  empty = λ i s is. absurd (cc is);
  put_else = λ f none. refl;
  puts = λ id f tag is. refl;
  known = λ id. refl;
  staying = λ id is. is;
  pages = λ file id. refl;
  clean = λ file is. is;
}

module _ (locks : LockTable) (k k₁ k₂ : Kept) (holds : Holds locks k) (x : FreesFrames locks k k₁) (y : FreesFrames locks k₁ k₂) where
  front_at : (i : ℕ) (s : Free) → slice_get k₁.free i ≡ Some s → slice_get k.free i ≡ Some s
  front_at i s is = ap (λ fs. slice_get fs i) x.free ∙ slice_get-front k₁.free x.rest i (slice_get_within k₁.free i s is) ∙ is

  later_at : (i : ℕ) (s : Free) → slice_get y.rest i ≡ Some s → slice_get k₁.free (length k₂.free + i) ≡ Some s
  later_at i s is = ap (λ fs. slice_get fs (length k₂.free + i)) y.free ∙ behind k₂.free y.rest i (length k₂.free + i) refl ∙ is

  earlier_at : (i : ℕ) (s : Free) → slice_get x.rest i ≡ Some s → slice_get k.free (length k₁.free + i) ≡ Some s
  earlier_at i s is = ap (λ fs. slice_get fs (length k₁.free + i)) x.free ∙ behind k₁.free x.rest i (length k₁.free + i) refl ∙ is

  -- those that were put back later are others
  others : (i : ℕ) (s : Free) → slice_get x.rest i ≡ Some s → (j : ℕ) (t : Free) → slice_get y.rest j ≡ Some t → t.frame ≢ s.frame
  others i s is j t at e =
      let was = later_at j t at in
      let same : length k₂.free + j ≡ length k₁.free + i = holds.apart.free_once.once (length k₂.free + j) (length k₁.free + i) t s (front_at (length k₂.free + j) t was) (earlier_at i s is) e in
      omega (arith, same, slice_get_within k₁.free (length k₂.free + j) t was)

  all_empty : (i : ℕ) (s : Free) → slice_get (y.rest ++ x.rest) i ≡ Some s → IsPutEmpty k₂ s
  all_empty i s is = ⊎_elim
      (λ late. y.empty i s late)
      (λ early.
      let d = x.empty early.0 s early.1 in
      record { entry = d.entry; at = y.put_else s.frame (others early.0 s early.1) ∙ d.at; flag_is = d.flag_is })
      (at_append y.rest x.rest i s is)

  all_else : (f : ℕ) → ((i : ℕ) (s : Free) → slice_get (y.rest ++ x.rest) i ≡ Some s → s.frame ≢ f) → last_put k₂ f ≡ last_put k f
  all_else f none =
      y.put_else f (λ i s is. none i s (slice_get-front y.rest x.rest i (slice_get_within y.rest i s is) ∙ is))
      ∙ x.put_else f (λ i s is. none (length y.rest + i) s (behind y.rest x.rest i (length y.rest + i) refl ∙ is))

pub frees_then : (locks : LockTable) (k k₁ k₂ : Kept) → Holds locks k → FreesFrames locks k k₁ → FreesFrames locks k₁ k₂ → FreesFrames locks k k₂
frees_then locks k k₁ k₂ holds x y = record {
  holds = y.holds;
  rest = y.rest ++ x.rest;
  free = x.free ∙ ap (λ fs. fs ++ x.rest) y.free ∙ append_assoc k₂.free y.rest x.rest;
  held = y.held ∙ x.held;
  shape = y.shape ∙ x.shape;
  number = y.number ∙ x.number;
  places = y.places ∙ x.places;
  sight = sight_then locks k.seat.view k₁.seat.view k₂.seat.view x.sight y.sight;
  empty = all_empty locks k k₁ k₂ holds x y;
  put_else = all_else locks k k₁ k₂ holds x y;
  puts = λ id f tag is. y.puts id f tag (ap (λ (p : Places). fin.get p.table.entries id.0) x.places ∙ is) ∙ x.puts id f tag is;
  known = λ id. y.known id ∙ x.known id;
  staying = λ id is. y.staying id (x.staying id is);
  pages = λ file id. y.pages file id ∙ x.pages file id;
  clean = λ file is. y.clean file (x.clean file is);
}

-- the last empty frame in hand
module _ (locks : LockTable) (k : Kept) (holds : Holds locks k) (others : List Free) (s : Free) (list : k.free ≡ others ++ s ∷ []) where
  last_at : slice_get k.free (length others) ≡ Some s
  last_at = ap (λ fs. slice_get fs (length others)) list ∙ slice_get-push others s

  pub last_free : IsFreeIn locks k s
  last_free = holds.free (length others) s last_at

  out_is : answers.out_of k.seat.view s.frame ≡ last_free.out.out
  out_is = ap out_or last_free.out.at

  pub is_own : IsOwnOut k.seat.view s.frame
  is_own = record {
    out = last_free.out.at ∙ ap Some (sym out_is);
    own = ap (λ (z : Out). z.word.holder) out_is ∙ last_free.out.holder ∙ sym last_free.out.owner ∙ sym (ap (λ (z : Out). z.word.owner) out_is);
  }

  pub is_same : IsSameLease (answers.out_of k.seat.view s.frame).lease s.lease
  is_same = subst (λ (o : Out). IsSameLease o.lease s.lease) (sym out_is) last_free.out.same

  pub may_put : MayPut (answers.out_of k.seat.view s.frame) flag.Empty s.lease.bytes
  may_put = subst (λ (o : Out). MayPut o flag.Empty s.lease.bytes) (sym out_is) (may_empty last_free.out.out s.lease.bytes last_free.out.flag_is)

  -- the seat knows what it knew once the frame is put back
  pub own_sight : (seat' : Sight) → seat'.view ≡ put_back k.seat.view s.frame (put_as flag.Empty (answers.out_of k.seat.view s.frame).word) s.lease.bytes → (KnowsAll locks k.seat.view → KnowsAll locks seat'.view) → KeepsSight locks k.seat.view seat'.view
  own_sight seat' put knows = put_sight locks k.seat.view seat'.view s.frame flag.Empty s.lease.bytes last_free.frame knows is_own.out (record { not_due = λ _ e. cc e; not_done = λ _ e. cc e }) put

  module _ (seat' : Sight) (room' : ℕ) (room : OP_PAGES ≤ room') (seat_of : IsSeatOf locks seat') (put : seat'.view ≡ put_back k.seat.view s.frame (put_as flag.Empty (answers.out_of k.seat.view s.frame).word) s.lease.bytes) (sight : KeepsSight locks k.seat.view seat'.view) where
    abbrev k' : Kept
    k' = record k { seat = seat'; free = others; free_room = room' }

    abbrev word : LockWord
    word = put_as flag.Empty (answers.out_of k.seat.view s.frame).word

    abbrev entry : Entry
    entry = entry_as s.frame word s.lease.bytes

    entries_are : seat'.view.entries ≡ entry ∷ k.seat.view.entries
    entries_are = ap (λ (v : View). v.entries) put

    outs_are : seat'.view.outs ≡ (s.frame, None) ∷ k.seat.view.outs
    outs_are = ap (λ (v : View). v.outs) put

    owner_is : word.owner ≡ k.number
    owner_is = ap (λ (z : Out). z.word.owner) out_is ∙ last_free.out.owner

    put_here : last_put k' s.frame ≡ Some entry
    put_here = ap (λ es. entry_at es k.number s.frame) entries_are ∙ ap (λ n. entry_at (entry ∷ k.seat.view.entries) n s.frame) (sym owner_is) ∙ entry_at-here k.seat.view.entries entry

    put_else : (g : ℕ) → g ≢ s.frame → last_put k' g ≡ last_put k g
    put_else g ne = ap (λ es. entry_at es k.number g) entries_are ∙ entry_at-other_frame k.seat.view.entries entry k.number g ne

    out_else : (g : ℕ) → g ≢ s.frame → out_of k' g ≡ out_of k g
    out_else g ne = ap (λ os. out_at os g) outs_are ∙ out_at-else k.seat.view.outs s.frame None g ne

    out_here : out_of k' s.frame ≡ None
    out_here = ap (λ os. out_at os s.frame) outs_are ∙ out_at-here k.seat.view.outs s.frame None

    other_at : (i : ℕ) (g : Free) → slice_get others i ≡ Some g → slice_get k.free i ≡ Some g
    other_at i g is = ap (λ fs. slice_get fs i) list ∙ slice_get-front others (s ∷ []) i (slice_get_within others i g is) ∙ is

    other_frame : (i : ℕ) (g : Free) → slice_get others i ≡ Some g → g.frame ≢ s.frame
    other_frame i g is e = let at : i ≡ length others = holds.apart.free_once.once i (length others) g s (other_at i g is) last_at e in omega (arith, at, slice_get_within others i g is)

    held_other : (i : ℕ) (h : Held) → slice_get k.held i ≡ Some h → h.frame ≢ s.frame
    held_other i h is e = holds.apart.both i (length others) h s is last_at e

    -- no page is in this frame
    not_here : (j : PageId) (g t : ℕ) → place_of k j ≡ Some (g, t) → g ≢ s.frame
    not_here j g t is e =
        let there : page_at k s.frame ≡ Some (Some j) = ap (page_at k) (sym e) ∙ k.places.agree.kept j g t is in
        let bad : Some (Some j) ≡ Some None = sym there ∙ last_free.bare in cc bad

    stay_new : (g : ℕ) (e : Entry) → last_put k' g ≡ Some e → IsTrue (stays e.flag) → (j : PageId) × (place_of k' j ≡ Some (g, e.tag))
    stay_new g e is stay = ⊎_elim
        (λ same.
        let q : Some entry ≡ Some e = sym put_here ∙ ap (last_put k') (sym same) ∙ is in
        let p : entry ≡ e = cc q in
        absurd (let bad : false ≡ true = ap (λ (d : Entry). stays d.flag) p ∙ stay in cc bad))
        (λ ne. holds.stay g e (sym (put_else g ne) ∙ is) stay)
        (cases_eq g s.frame)

    held_still : (i : ℕ) (h : Held) → slice_get k.held i ≡ Some h → IsHeldIn locks k' h
    held_still i h is =
        let ne = held_other i h is in
        subst (λ (p : Option Entry × Option Out). IsHeldPage locks k.shape k.number (place_of k h.page) (page_at k h.frame) p.0 p.1 h)
        (λ j. (sym (put_else h.frame ne) j, sym (out_else h.frame ne) j)) (holds.held i h is)

    free_still : (i : ℕ) (g : Free) → slice_get others i ≡ Some g → IsFreeIn locks k' g
    free_still i g is =
        subst (λ (p : Option Out). IsFreeFrame locks k.shape.page_size k.number (page_at k g.frame) p g)
        (sym (out_else g.frame (other_frame i g is))) (holds.free i (g) (other_at i g is))

    all_out : (g : ℕ) (o : Out) → out_of k' g ≡ Some o → IsInHand k.held others g
    all_out g o is =
        let ne : g ≢ s.frame = λ e. (let bad : None ≡ Some o = sym out_here ∙ ap (out_of k') (sym e) ∙ is in cc bad) in
        ⊎_elim
        (λ p. inl p)
        (λ p. ⊎_elim
        (λ old. inr (p.0, p.1, old, p.3))
        (λ last. absurd (ne (sym p.3 ∙ ap (λ (z : Free). z.frame) (sym last.1))))
        (slice_get-pushed others s p.1 p.0 (ap (λ fs. slice_get fs p.0) (sym list) ∙ p.2)))
        (holds.apart.all g o (sym (out_else g ne) ∙ is))

    free_holds : Holds locks k'
    free_holds = record {
      shaped = holds.shaped;
      frames = holds.frames;
      many = holds.many;
      worker = record { seat_of = seat_of; below = holds.worker.below; few = holds.worker.few; has = ap (λ (l : Numbers). is_among l k.number) (ap (λ (v : View). v.numbers) put) ∙ holds.worker.has };
      kept = λ j g t is. subst (λ (p : Option Entry). IsKeptPage locks k.shape k.number p j g t) (sym (put_else g (not_here j g t is))) (holds.kept j g t is);
      stay = stay_new;
      held = held_still;
      free = free_still;
      apart = record {
        names = holds.apart.names;
        held_once = holds.apart.held_once;
        free_once = record { once = λ i j x y p q e. holds.apart.free_once.once i j x y (other_at i x p) (other_at j y q) e };
        both = λ i j h g p q. holds.apart.both i j h g p (other_at j g q);
        all = all_out;
      };
      held_room = holds.held_room;
      free_room = room;
    }

    bytes_same : (file : PageId → Option (List ℕ)) (j : PageId) (o : Option Held) (t : Option (ℕ × ℕ)) → place_of k j ≡ t → bytes_by o t seat'.view.entries k.number (file j) ≡ bytes_by o t k.seat.view.entries k.number (file j)
    bytes_same file j (Some h) t is = refl
    bytes_same file j None None is = refl
    bytes_same file j None (Some p) is = ap (option_map (λ (e : Entry). e.bytes)) (put_else p.0 (not_here j p.0 p.1 is))

    known_same : (j : PageId) (o : Option Held) (t : Option (ℕ × ℕ)) → place_of k j ≡ t → known_by o t seat'.view.entries k.number ≡ known_by o t k.seat.view.entries k.number
    known_same j (Some h) t is = refl
    known_same j None None is = refl
    known_same j None (Some p) is = ap stays_in (put_else p.0 (not_here j p.0 p.1 is))

    empty_one : (i : ℕ) (t : Free) → slice_get (s ∷ []) i ≡ Some t → IsPutEmpty k' t
    empty_one zero t is = let e : s ≡ t = cc is in subst (IsPutEmpty k') e (record { entry = entry; at = put_here; flag_is = refl })
    empty_one (suc i) t is = absurd (cc is)

    pub frees_last : FreesFrames locks k k'
    frees_last = record {
      holds = free_holds;
      rest = s ∷ [];
      free = list;
      held = refl;
      shape = refl;
      number = refl;
      places = refl;
      sight = sight;
      empty = empty_one;
      put_else = λ g none. put_else g (λ e. none 0 s refl (sym e));
      puts = λ j g t is. put_else g (not_here j g t is);
      known = λ j. known_same j (held_at k.held j.0) (place_of k j) refl;
      staying = λ j is. record { frame = is.frame; tag = is.tag; entry = is.entry; kept = is.kept; at = put_else is.frame (not_here j is.frame is.tag is.kept) ∙ is.at; stay = is.stay };
      pages = λ file j. bytes_same file j (held_at k.held j.0) (place_of k j) refl;
      clean = λ file clean. record {
        kept = λ j g t e p q c. clean.kept j g t e p (sym (put_else g (not_here j g t p)) ∙ q) c;
        read = clean.read;
      };
    }
