-- A page in hand is put back.
use Rattle.std.proofs.Common.{◌≡◌, ◌≢◌, ℕ, ◌<◌, ◌≤◌, Bool, true, false, List, [], ◌∷◌, ◌++◌, ◌⊎◌, ⊎_elim, inl, inr, length, set, Option, Some, None, sym, refl, ap, subst, ◌∙◌, arith}
use Rattle.std.specs.Prelude.{IsTrue, slice_get, ◌&&◌, not, nat_lt, if◌then◌else◌}
use Rattle.std.proofs.lemmas.Bool.Decides.{nat_tests}
use Rattle.std.specs.Option.{option_map}
use Rattle.std.proofs.lemmas.Bool.{cases_eq}
use Rattle.std.proofs.lemmas.Grind.{same_number_lists}
use Rattle.std.proofs.lemmas.Option.{slice_get_within}
use Rattle.pm_types.specs.declared.flag.Flag.{Flag}
use Rattle.pm_types.specs.declared.flag.Flag.TheVariants as flag
use Rattle.pm_types.specs.declared.page_id.PageId.{PageId}
use Rattle.pm_types.specs.declared.limits.TheConstants.{OP_PAGES}
use Rattle.pm_types.specs.Spans.{Coverage}
use Rattle.pm_pages.specs.Paged.{CoversByte}
use Rattle.pm_locks.specs.Words.{LockWord, AT_HOME, IsReachedFrom, code_of, put_as}
use Rattle.pm_locks.specs.declared.view.View.{View}
use Rattle.pm_locks.specs.declared.view.Entry.{Entry}
use Rattle.pm_locks.specs.declared.view.Out.{Out}
use Rattle.pm_locks.specs.declared.view.Numbers.{Numbers}
use Rattle.pm_locks.specs.Steps.{entry_as, put_back}
use Rattle.pm_locks.specs.Answers.{out_or, IsOwnOut, IsSameLease, MayPut}
use Rattle.pm_locks.specs.Answers as answers
use Rattle.pm_locks.specs.Views.{entry_at, out_at, is_among}
use Rattle.pm_locks.specs.Sight.{Sight, LockTable, IsSeatOf, KnowsAll}
use Rattle.pm_locks.proofs.Facts.{out_at-here, out_at-else, entry_at-here, entry_at-other_frame}
use Rattle.pm_locks.proofs.Pushing.{slice_get-pushed, slice_get-push, slice_get-front}
use Rattle.pm_stripe.specs.declared.held.Held.{Held}
use Rattle.pm_stripe.specs.declared.held.Free.{Free}
use Rattle.pm_stripe.specs.declared.places.Places.{Places}
use Rattle.pm_stripe.specs.ChangedPages.{is_changed, has_bytes}
use Rattle.pm_stripe.specs.Reads.{Reads}
use Rattle.pm_stripe.specs.Sights.{KeepsSight}
use Rattle.pm_stripe.specs.Puts.{is_empty, put_flag, put_word, IsCovered, AreCovered, AreStayingCovered, IsPutAs, LeavesWords, PutsLast}
use Rattle.pm_stripe.specs.Kept.{Kept, held_at, place_of, last_put, page_at, out_of, stays, bytes_by, page_bytes, known_by, is_known, IsKeptPage, IsHeldPage, IsFreeFrame, IsHeldIn, IsFreeIn, IsKeptIn, IsInHand, Holds, AreClean, IsStaying, stays_in}
use Rattle.std.specs.FinMap as fin
use Rattle.std.proofs.lemmas.List.{length-set}
use Rattle.pm_stripe.specs.PlacedPages.{forgotten}
use Rattle.pm_stripe.specs.HandLaws.{set_else}
use Rattle.pm_stripe.proofs.SettledFrames.{IsPutPlain, put_sight}
use Rattle.pm_stripe.proofs.PlacedPages.{same_page, get_put, get_other, get_removed, get_rest}
use Rattle.pm_stripe.proofs.ReadPages.{passes_reads}
use Rattle.pm_stripe.proofs.Hands.{or_else, held_push, held_push_else, one_here, one_else, found_at}

some_bytes : (n : ℕ) → 0 < n → nat_lt 0 n ≡ false → ⊥
some_bytes n lt is = grind (arith, nat_tests)

pub empty_is : (f : Flag) → is_empty f ≡ true → f ≡ flag.Empty
empty_is flag.Empty is = refl
empty_is flag.Clean is = absurd (let bad : false ≡ true = is in cc bad)
empty_is flag.Dirty is = absurd (let bad : false ≡ true = is in cc bad)
empty_is flag.Due is = absurd (let bad : false ≡ true = is in cc bad)
empty_is flag.Done is = absurd (let bad : false ≡ true = is in cc bad)

pub some_is : (f : Flag) → is_empty f ≡ false → f ≢ flag.Empty
some_is f is e = let bad : true ≡ false = ap is_empty (sym e) ∙ is in cc bad

-- a page whose patch covers no byte has the bytes that it had
pub not_covered : (o : Option Coverage) (k : ℕ) → is_changed o ≡ false → CoversByte o k → ⊥
not_covered None k is covers = covers
not_covered (Some patch) k is covers = no_bytes patch.whole patch.spans k is covers
  where
    no_bytes : (whole : Bool) (spans : List _) (n : ℕ) → has_bytes (record { page_size = patch.page_size; whole = whole; spans = spans }) ≡ false → CoversByte (Some (record { page_size = patch.page_size; whole = whole; spans = spans })) n → ⊥
    no_bytes true spans n is covers = let bad : true ≡ false = is in cc bad
    no_bytes false [] n is covers = ⊎_elim (λ p. let bad : false ≡ true = p.0 in cc bad) (λ e. e) covers
    no_bytes false (s ∷ ss) n is covers = some_bytes (length (s ∷ ss)) (omega arith) is

covered_same : (h : Held) → is_changed h.patch ≡ false → IsCovered h → h.lease.bytes ≡ h.was.value.bytes
covered_same h is covered = same_number_lists h.lease.bytes h.was.value.bytes covered.size (λ k lt. covered.bytes k (not_covered h.patch k is))

may_dirty : (o : Out) (bytes : List ℕ) → MayPut o flag.Dirty bytes
may_dirty o bytes = record { dirty = λ _. refl; changed = λ _ _. refl; due = λ _. inl refl; as_due = λ e. absurd (cc e); as_done = λ e. absurd (cc e) }

gone_flags : (a b : Flag) → stays a ≡ false → a ≡ b → IsTrue (stays b) → ⊥
gone_flags a b goes e stay = let bad : false ≡ true = sym goes ∙ ap stays e ∙ stay in cc bad

-- a frame whose flag doesn't stay may be put as Empty or Clean
may_spare : (o : Out) (now : Flag) (bytes : List ℕ) → stays o.word.flag ≡ false → stays now ≡ false → MayPut o now bytes
may_spare o now bytes was is = record {
  dirty = λ e. absurd (gone_flags o.word.flag flag.Dirty was e refl);
  changed = λ p _. absurd (⊎_elim (λ e. gone_flags o.word.flag flag.Due was e refl) (λ e. gone_flags o.word.flag flag.Done was e refl) p);
  due = λ e. absurd (gone_flags o.word.flag flag.Due was e refl);
  as_due = λ e. absurd (gone_flags now flag.Due is e refl);
  as_done = λ e. absurd (gone_flags now flag.Done is e refl);
}

may_same : (o : Out) (bytes : List ℕ) → bytes ≡ o.lease.bytes → MayPut o o.word.flag bytes
may_same o bytes same = record { dirty = λ e. e; changed = λ _ no. absurd (no same); due = λ e. inr e; as_due = λ e. (e, same); as_done = λ e. (e, same) }

-- the four ways in which a page is put back
pub data Way (h : Held) : Flag → Type 0 where
  Changed : is_changed h.patch ≡ true → Way h flag.Dirty
  GivenUp : is_changed h.patch ≡ false → h.is_lent ≡ true → stays h.flag ≡ false → Way h flag.Empty
  Read : is_changed h.patch ≡ false → h.is_read ≡ true → (h.is_lent ≡ false) ⊎ (stays h.flag ≡ true) → Way h flag.Clean
  Same : is_changed h.patch ≡ false → h.is_read ≡ false → (h.is_lent ≡ false) ⊎ (stays h.flag ≡ true) → Way h h.flag

way_by : (h : Held) (changed lent stay read : Bool) → is_changed h.patch ≡ changed → h.is_lent ≡ lent → stays h.flag ≡ stay → h.is_read ≡ read
    → Way h (if changed then flag.Dirty else if lent && not stay then flag.Empty else if read then flag.Clean else h.flag)
way_by h true lent stay read c l s r = Changed c
way_by h false true false read c l s r = GivenUp c l s
way_by h false true true true c l s r = Read c r (inr s)
way_by h false true true false c l s r = Same c r (inr s)
way_by h false false stay true c l s r = Read c r (inl l)
way_by h false false stay false c l s r = Same c r (inl l)

pub way : (h : Held) → Way h (put_flag h)
way h = way_by h (is_changed h.patch) h.is_lent (stays h.flag) h.is_read refl refl refl refl

-- a page that was changed is put as Dirty
pub dirty_flag : (h : Held) → is_changed h.patch ≡ true → put_flag h ≡ flag.Dirty
dirty_flag h changed = ap (λ b. if b then flag.Dirty else if h.is_lent && not (stays h.flag) then flag.Empty else if h.is_read then flag.Clean else h.flag) changed

-- an entry whose flag is reached by Empty is Empty
pub empty_before : (was now : Flag) → IsReachedFrom was now → now ≡ flag.Empty → was ≡ flag.Empty
empty_before was now r e = ⊎_elim (λ same. same ∙ e) (λ p. absurd (let z = ap code_of e in let a = p.0 in let b = p.1 in omega (arith, z))) r

-- the last page in hand
module _ (locks : LockTable) (k : Kept) (holds : Holds locks k) (others : List Held) (h : Held) (list : k.held ≡ others ++ h ∷ []) where
  last_at : slice_get k.held (length others) ≡ Some h
  last_at = ap (λ hs. slice_get hs (length others)) list ∙ slice_get-push others h

  pub last_held : IsHeldIn locks k h
  last_held = holds.held (length others) h last_at

  out_is : answers.out_of k.seat.view h.frame ≡ last_held.out.out
  out_is = ap out_or last_held.out.at

  pub is_own : IsOwnOut k.seat.view h.frame
  is_own = record {
    out = last_held.out.at ∙ ap Some (sym out_is);
    own = ap (λ (z : Out). z.word.holder) out_is ∙ last_held.out.holder ∙ sym last_held.out.owner ∙ sym (ap (λ (z : Out). z.word.owner) out_is);
  }

  pub is_same : IsSameLease (answers.out_of k.seat.view h.frame).lease h.lease
  is_same = subst (λ (o : Out). IsSameLease o.lease h.lease) (sym out_is) last_held.out.same

  -- a page that was not written, or stays and is covered, has the bytes that it had
  unwritten : AreStayingCovered k.held → is_changed h.patch ≡ false → (h.is_lent ≡ false) ⊎ (stays h.flag ≡ true) → h.lease.bytes ≡ h.was.value.bytes
  unwritten covered unchanged = ⊎_elim (λ l. (last_held.unlent l).0) (λ s. covered_same h unchanged (covered (length others) h last_at s))

  may_by : AreStayingCovered k.held → (now : Flag) → Way h now → MayPut last_held.out.out now h.lease.bytes
  may_by covered now (Changed c) = may_dirty last_held.out.out h.lease.bytes
  may_by covered now (GivenUp c l s) = may_spare last_held.out.out flag.Empty h.lease.bytes (ap stays last_held.out.flag_is ∙ s) refl
  may_by covered now (Read c r l) = may_spare last_held.out.out flag.Clean h.lease.bytes (ap stays last_held.out.flag_is ∙ ap stays (last_held.from_file r).empty) refl
  may_by covered now (Same c r l) = subst (λ (w : Flag). MayPut last_held.out.out w h.lease.bytes) last_held.out.flag_is (may_same last_held.out.out h.lease.bytes (unwritten covered c l ∙ (last_held.from_frame r).taken last_held.out.out last_held.out.at))

  pub may_put : AreStayingCovered k.held → (now : Flag) → now ≡ put_flag h → MayPut (answers.out_of k.seat.view h.frame) now h.lease.bytes
  may_put covered now is = subst (λ (p : Out × Flag). MayPut p.0 p.1 h.lease.bytes) (λ i. (sym out_is i, sym is i)) (may_by covered (put_flag h) (way h))

  plain_by : (now : Flag) → Way h now → IsPutPlain h.flag now
  plain_by now (Changed c) = record { not_due = λ _ e. cc e; not_done = λ _ e. cc e }
  plain_by now (GivenUp c l s) = record { not_due = λ _ e. cc e; not_done = λ _ e. cc e }
  plain_by now (Read c r l) = record { not_due = λ _ e. cc e; not_done = λ _ e. cc e }
  plain_by now (Same c r l) = record { not_due = λ no. no; not_done = λ no. no }

  -- the seat knows what it knew once the page is put back
  pub own_sight : (now : Flag) → now ≡ put_flag h → (seat' : Sight) → seat'.view ≡ put_back k.seat.view h.frame (put_as now (answers.out_of k.seat.view h.frame).word) h.lease.bytes → (KnowsAll locks k.seat.view → KnowsAll locks seat'.view)
      → KeepsSight locks k.seat.view seat'.view
  own_sight now is seat' put knows = put_sight locks k.seat.view seat'.view h.frame now h.lease.bytes last_held.frame knows is_own.out
      (subst (λ (p : Flag × Flag). IsPutPlain p.0 p.1) (λ i. ((sym last_held.out.flag_is ∙ sym (ap (λ (z : Out). z.word.flag) out_is)) i, sym is i)) (plain_by (put_flag h) (way h))) put

  -- an entry whose flag is reached by Clean is Clean
  clean_before : (was now : Flag) → IsReachedFrom was now → now ≡ flag.Clean → was ≡ flag.Clean
  clean_before was now r e = ⊎_elim (λ same. same ∙ e) (λ p. absurd (let z = ap code_of e in let a = p.0 in let b = p.1 in omega (arith, z))) r

  -- what follows a frame that stays does
  stays_after : (was now : Flag) → IsReachedFrom was now → IsTrue (stays was) → IsTrue (stays now)
  stays_after was now r stay = ⊎_elim (λ same. subst (λ f. IsTrue (stays f)) same stay) (λ p. by_code now p.0 p.1) r
    where
      by_code : (f : Flag) → 2 ≤ code_of was → code_of was ≤ code_of f → IsTrue (stays f)
      by_code flag.Empty a b = absurd (omega (arith, a, b))
      by_code flag.Clean a b = absurd (omega (arith, a, b))
      by_code flag.Dirty a b = refl
      by_code flag.Due a b = refl
      by_code flag.Done a b = refl

  -- and so does what is put back of it
  stays_by : (now : Flag) → Way h now → h.is_read ≡ false → IsTrue (stays h.flag) → IsTrue (stays now)
  stays_by now (Changed c) r stay = refl
  stays_by now (GivenUp c l s) r stay = absurd (gone_flags h.flag h.flag s refl stay)
  stays_by now (Read c read l) r stay = absurd (let bad : true ≡ false = sym read ∙ r in cc bad)
  stays_by now (Same c read l) r stay = stay

  lent_or_stays : (f : Flag) → stays f ≡ false → (h.is_lent ≡ false) ⊎ (stays f ≡ true) → h.is_lent ≡ false
  lent_or_stays f goes = ⊎_elim (λ l. l) (λ s. absurd (let bad : false ≡ true = sym goes ∙ s in cc bad))

  -- what is put as Clean reads as what it says, and is as it was
  clean_by : (now : Flag) → Way h now → now ≡ flag.Clean → Reads h.page h.lease.bytes × (is_changed h.patch ≡ false) × (h.lease.bytes ≡ h.was.value.bytes) × ((h.is_read ≡ true) ⊎ ((h.is_read ≡ false) × (h.flag ≡ flag.Clean)))
  clean_by now (Changed c) e = absurd (cc e)
  clean_by now (GivenUp c l s) e = absurd (cc e)
  clean_by now (Read c r l) e =
      let x = last_held.from_file r in
      let same = (last_held.unlent (lent_or_stays h.flag (ap stays x.empty) l)).0 in
      (subst (Reads h.page) (sym same) (passes_reads k.shape h.page h.was.value.bytes (x.passes c)), c, same, inl r)
  clean_by now (Same c r l) e =
      let x = last_held.from_frame r in
      let y = holds.kept h.page h.frame h.tag x.kept in
      let same = (last_held.unlent (lent_or_stays h.flag (ap stays e) l)).0 in
      let is_clean = clean_before y.entry.flag h.flag (x.follows y.entry y.at) e in
      (subst (Reads h.page) (sym (same ∙ x.last y.entry y.at)) (y.reads is_clean), c, same, inr (r, e))

  -- what is put as Empty was lent, and not noted
  empty_by : (now : Flag) → Way h now → now ≡ flag.Empty → (is_changed h.patch ≡ false) × ((h.is_read ≡ true) ⊎ ((h.is_read ≡ false) × (h.flag ≡ flag.Clean)))
  empty_by now (Changed c) e = absurd (cc e)
  empty_by now (GivenUp c l s) e = (c, by_read h.is_read refl)
    where
      by_read : (read : Bool) → h.is_read ≡ read → (h.is_read ≡ true) ⊎ ((h.is_read ≡ false) × (h.flag ≡ flag.Clean))
      by_read true r = inl r
      by_read false r = inr (r, clean_or_empty h.flag refl)
        where
          clean_or_empty : (f : Flag) → h.flag ≡ f → f ≡ flag.Clean
          clean_or_empty flag.Empty is = let x = last_held.from_frame r in let y = holds.kept h.page h.frame h.tag x.kept in absurd (y.some (empty_before y.entry.flag h.flag (x.follows y.entry y.at) is))
          clean_or_empty flag.Clean is = refl
          clean_or_empty flag.Dirty is = absurd (gone_flags h.flag flag.Dirty s is refl)
          clean_or_empty flag.Due is = absurd (gone_flags h.flag flag.Due s is refl)
          clean_or_empty flag.Done is = absurd (gone_flags h.flag flag.Done s is refl)
  empty_by now (Read c r l) e = absurd (cc e)
  empty_by now (Same c r l) e =
      let x = last_held.from_frame r in
      let y = holds.kept h.page h.frame h.tag x.kept in absurd (y.some (empty_before y.entry.flag h.flag (x.follows y.entry y.at) e))

  -- an unchanged page is as its file has it, where what is Clean is so
  in_file : (file : PageId → Option (List ℕ)) → AreClean file k → is_changed h.patch ≡ false → (h.is_read ≡ true) ⊎ ((h.is_read ≡ false) × (h.flag ≡ flag.Clean)) → file h.page ≡ Some h.was.value.bytes
  in_file file clean unchanged = ⊎_elim
      (λ r. clean.read (length others) h last_at r unchanged)
      (λ p. let x = last_held.from_frame p.0 in let y = holds.kept h.page h.frame h.tag x.kept in
      clean.kept h.page h.frame h.tag y.entry x.kept y.at (clean_before y.entry.flag h.flag (x.follows y.entry y.at) p.1) ∙ ap Some (sym (x.last y.entry y.at)))

  module _ (now : Flag) (now_is : now ≡ put_flag h) (seat' : Sight) (places' : Places) (room' : ℕ) (room : OP_PAGES ≤ room') (seat_of : IsSeatOf locks seat')
      (put : seat'.view ≡ put_back k.seat.view h.frame (put_as now (answers.out_of k.seat.view h.frame).word) h.lease.bytes) (many : length places'.pages.items ≡ length k.places.pages.items)
      (rest : (j : PageId) → j.0 ≢ h.page.0 → place_of (record k { places = places' }) j ≡ place_of k j) (page_else : (g : ℕ) → g ≢ h.frame → page_at (record k { places = places' }) g ≡ page_at k g)
      (sight : KeepsSight locks k.seat.view seat'.view)
      (kept_or : ((place_of (record k { places = places' }) h.page ≡ Some (h.frame, h.tag)) × (now ≢ flag.Empty)) ⊎ ((place_of (record k { places = places' }) h.page ≡ None) × (now ≡ flag.Empty))) where
    abbrev k' : Kept
    k' = record k { seat = seat'; places = places'; held = others; held_room = room' }

    abbrev word : LockWord
    word = put_as now (answers.out_of k.seat.view h.frame).word

    abbrev entry : Entry
    entry = entry_as h.frame word h.lease.bytes

    entries_are : seat'.view.entries ≡ entry ∷ k.seat.view.entries
    entries_are = ap (λ (v : View). v.entries) put

    outs_are : seat'.view.outs ≡ (h.frame, None) ∷ k.seat.view.outs
    outs_are = ap (λ (v : View). v.outs) put

    owner_is : word.owner ≡ k.number
    owner_is = ap (λ (z : Out). z.word.owner) out_is ∙ last_held.out.owner

    tag_is : word.tag ≡ h.tag
    tag_is = ap (λ (z : Out). z.word.tag) out_is ∙ last_held.out.tag_is

    put_here : last_put k' h.frame ≡ Some entry
    put_here = ap (λ es. entry_at es k.number h.frame) entries_are ∙ ap (λ n. entry_at (entry ∷ k.seat.view.entries) n h.frame) (sym owner_is) ∙ entry_at-here k.seat.view.entries entry

    put_else : (g : ℕ) → g ≢ h.frame → last_put k' g ≡ last_put k g
    put_else g ne = ap (λ es. entry_at es k.number g) entries_are ∙ entry_at-other_frame k.seat.view.entries entry k.number g ne

    out_else : (g : ℕ) → g ≢ h.frame → out_of k' g ≡ out_of k g
    out_else g ne = ap (λ os. out_at os g) outs_are ∙ out_at-else k.seat.view.outs h.frame None g ne

    out_here : out_of k' h.frame ≡ None
    out_here = ap (λ os. out_at os h.frame) outs_are ∙ out_at-here k.seat.view.outs h.frame None

    other_at : (i : ℕ) (g : Held) → slice_get others i ≡ Some g → slice_get k.held i ≡ Some g
    other_at i g is = ap (λ hs. slice_get hs i) list ∙ slice_get-front others (h ∷ []) i (slice_get_within others i g is) ∙ is

    other_frame : (i : ℕ) (g : Held) → slice_get others i ≡ Some g → g.frame ≢ h.frame
    other_frame i g is e = let at : i ≡ length others = holds.apart.held_once.once i (length others) g h (other_at i g is) last_at e in omega (arith, at, slice_get_within others i g is)

    other_name : (i : ℕ) (g : Held) → slice_get others i ≡ Some g → g.page.0 ≢ h.page.0
    other_name i g is e = let at : i ≡ length others = holds.apart.names.once i (length others) g h (other_at i g is) last_at e in omega (arith, at, slice_get_within others i g is)

    free_other : (i : ℕ) (s : Free) → slice_get k.free i ≡ Some s → s.frame ≢ h.frame
    free_other i s is e = holds.apart.both (length others) i h s last_at is (sym e)

    -- another page isn't in this frame
    not_here : (j : PageId) (g t : ℕ) → place_of k j ≡ Some (g, t) → j.0 ≢ h.page.0 → g ≢ h.frame
    not_here j g t is ne e = by_read h.is_read refl
      where
        there : page_at k h.frame ≡ Some (Some j)
        there = ap (page_at k) (sym e) ∙ k.places.agree.kept j g t is

        by_read : (read : Bool) → h.is_read ≡ read → ⊥
        by_read true r = let bad : Some (Some j) ≡ Some None = sym there ∙ (last_held.from_file r).bare in cc bad
        by_read false r =
            let own = k.places.agree.kept h.page h.frame h.tag (last_held.from_frame r).kept in
            let same : Some (Some j) ≡ Some (Some h.page) = sym there ∙ own in
            let p : j ≡ h.page = cc same in ne (ap (λ (z : PageId). z.0) p)

    -- nor was this page in another one
    own_frame : (g t : ℕ) → place_of k h.page ≡ Some (g, t) → g ≡ h.frame
    own_frame g t is = by_read h.is_read refl
      where
        by_read : (read : Bool) → h.is_read ≡ read → g ≡ h.frame
        by_read true r = let bad : None ≡ Some (g, t) = sym (last_held.from_file r).unkept ∙ is in absurd (cc bad)
        by_read false r = let same : Some (g, t) ≡ Some (h.frame, h.tag) = sym is ∙ (last_held.from_frame r).kept in let p : ◌≡◌ {A = ℕ × ℕ} (g, t) (h.frame, h.tag) = cc same in ap (λ (z : ℕ × ℕ). z.0) p

    new_kept : now ≢ flag.Empty → IsKeptIn locks k' h.page h.frame h.tag
    new_kept some = record {
      own = last_held.own;
      frame = last_held.frame;
      entry = entry;
      at = put_here;
      tag_is = tag_is;
      long = last_held.out.long;
      some = some;
      reads = λ e. (clean_by (put_flag h) (way h) (sym now_is ∙ e)).0;
    }

    kept_new : (j : PageId) (g t : ℕ) → place_of k' j ≡ Some (g, t) → IsKeptIn locks k' j g t
    kept_new j g t is = ⊎_elim
        (λ same. let eq = same_page j h.page same in ⊎_elim
        (λ p.
        let q : Some (g, t) ≡ Some (h.frame, h.tag) = sym is ∙ ap (place_of k') eq ∙ p.0 in
        let r : ◌≡◌ {A = ℕ × ℕ} (g, t) (h.frame, h.tag) = cc q in
        subst (λ (z : PageId × ℕ × ℕ). IsKeptIn locks k' z.0 z.1 z.2) (λ i. (sym eq i, (sym r i).0, (sym r i).1)) (new_kept p.1))
        (λ p. absurd (let bad : None ≡ Some (g, t) = sym p.0 ∙ ap (place_of k') (sym eq) ∙ is in cc bad))
        kept_or)
        (λ ne.
        let was = sym (rest j ne) ∙ is in
        subst (λ (p : Option Entry). IsKeptPage locks k.shape k.number p j g t) (sym (put_else g (not_here j g t was ne))) (holds.kept j g t was))
        (cases_eq j.0 h.page.0)

    stay_new : (g : ℕ) (e : Entry) → last_put k' g ≡ Some e → IsTrue (stays e.flag) → (j : PageId) × (place_of k' j ≡ Some (g, e.tag))
    stay_new g e is stay = ⊎_elim
        (λ same.
        let q : Some entry ≡ Some e = sym put_here ∙ ap (last_put k') (sym same) ∙ is in
        let p : entry ≡ e = cc q in
        ⊎_elim
        (λ kept. (h.page, kept.0 ∙ (λ i. Some (sym same i, (sym tag_is ∙ ap (λ (d : Entry). d.tag) p) i))))
        (λ gone. absurd (let bad : false ≡ true = sym (ap stays gone.1) ∙ ap (λ (d : Entry). stays d.flag) p ∙ stay in cc bad))
        kept_or)
        (λ ne.
        let x = holds.stay g e (sym (put_else g ne) ∙ is) stay in
        (x.0, rest x.0 (λ same. ne (own_frame g e.tag (ap (place_of k) (sym (same_page x.0 h.page same)) ∙ x.1))) ∙ x.1))
        (cases_eq g h.frame)

    held_still : (i : ℕ) (g : Held) → slice_get others i ≡ Some g → IsHeldIn locks k' g
    held_still i g is =
        let ne = other_frame i g is in
        subst (λ (p : Option (ℕ × ℕ) × Option (Option PageId) × Option Entry × Option Out). IsHeldPage locks k.shape k.number p.0 p.1 p.2 p.3 g)
        (λ j. (sym (rest g.page (other_name i g is)) j, sym (page_else g.frame ne) j, sym (put_else g.frame ne) j, sym (out_else g.frame ne) j)) (holds.held i g (other_at i g is))

    free_still : (i : ℕ) (s : Free) → slice_get k.free i ≡ Some s → IsFreeIn locks k' s
    free_still i s is =
        let ne = free_other i s is in
        subst (λ (p : Option (Option PageId) × Option Out). IsFreeFrame locks k.shape.page_size k.number p.0 p.1 s)
        (λ j. (sym (page_else s.frame ne) j, sym (out_else s.frame ne) j)) (holds.free i s is)

    all_out : (g : ℕ) (o : Out) → out_of k' g ≡ Some o → IsInHand others k.free g
    all_out g o is =
        let ne : g ≢ h.frame = λ e. (let bad : None ≡ Some o = sym out_here ∙ ap (out_of k') (sym e) ∙ is in cc bad) in
        ⊎_elim
        (λ p. ⊎_elim
        (λ old. inl (p.0, p.1, old, p.3))
        (λ last. absurd (ne (sym p.3 ∙ ap (λ (z : Held). z.frame) (sym last.1))))
        (slice_get-pushed others h p.1 p.0 (ap (λ hs. slice_get hs p.0) (sym list) ∙ p.2)))
        (λ p. inr p)
        (holds.apart.all g o (sym (out_else g ne) ∙ is))

    put_holds : Holds locks k'
    put_holds = record {
      shaped = holds.shaped;
      frames = holds.frames;
      many = many ∙ holds.many;
      worker = record { seat_of = seat_of; below = holds.worker.below; few = holds.worker.few; has = ap (λ (l : Numbers). is_among l k.number) (ap (λ (v : View). v.numbers) put) ∙ holds.worker.has };
      kept = kept_new;
      stay = stay_new;
      held = held_still;
      free = free_still;
      apart = record {
        names = record { once = λ i j x y p q e. holds.apart.names.once i j x y (other_at i x p) (other_at j y q) e };
        held_once = record { once = λ i j x y p q e. holds.apart.held_once.once i j x y (other_at i x p) (other_at j y q) e };
        free_once = holds.apart.free_once;
        both = λ i j x y p q. holds.apart.both i j x y (other_at i x p) q;
        all = all_out;
      };
      held_room = room;
      free_room = holds.free_room;
    }

    -- a page that isn't the one that was put, in the frame that keeps it
    else_bytes : (file : PageId → Option (List ℕ)) (j : PageId) → j.0 ≢ h.page.0 → (t : Option (ℕ × ℕ)) → place_of k j ≡ t → bytes_by None (place_of k' j) seat'.view.entries k.number (file j) ≡ bytes_by None t k.seat.view.entries k.number (file j)
    else_bytes file j ne None is = ap (λ t. bytes_by None t seat'.view.entries k.number (file j)) (rest j ne ∙ is)
    else_bytes file j ne (Some p) is =
        ap (λ t. bytes_by None t seat'.view.entries k.number (file j)) (rest j ne ∙ is) ∙ ap (option_map (λ (e : Entry). e.bytes)) (put_else p.0 (not_here j p.0 p.1 is ne))

    -- the page that was put: its bytes are in its frame, or, where it was given up, in its file
    here_bytes : (file : PageId → Option (List ℕ)) → (now ≡ flag.Empty → file h.page ≡ Some h.lease.bytes) → bytes_by None (place_of k' h.page) seat'.view.entries k.number (file h.page) ≡ Some h.lease.bytes
    here_bytes file why = ⊎_elim
        (λ p. ap (λ t. bytes_by None t seat'.view.entries k.number (file h.page)) p.0 ∙ ap (option_map (λ (e : Entry). e.bytes)) put_here)
        (λ p. ap (λ t. bytes_by None t seat'.view.entries k.number (file h.page)) p.0 ∙ why p.1)
        kept_or

    bytes_same : (file : PageId → Option (List ℕ)) (j : PageId) (o : Option Held) → held_at others j.0 ≡ o → (j.0 ≡ h.page.0 → now ≡ flag.Empty → file h.page ≡ Some h.lease.bytes)
        → bytes_by o (place_of k' j) seat'.view.entries k.number (file j) ≡ bytes_by (or_else o (held_at (h ∷ []) j.0)) (place_of k j) k.seat.view.entries k.number (file j)
    bytes_same file j (Some g) is why = refl
    bytes_same file j None is why = ⊎_elim
        (λ same.
        ap (λ (q : PageId). bytes_by None (place_of k' q) seat'.view.entries k.number (file q)) (same_page j h.page same) ∙ here_bytes file (why same)
        ∙ sym (ap (λ o. bytes_by o (place_of k j) k.seat.view.entries k.number (file j)) (one_here h j.0 (sym same))))
        (λ ne. else_bytes file j ne (place_of k j) refl ∙ sym (ap (λ o. bytes_by o (place_of k j) k.seat.view.entries k.number (file j)) (one_else h j.0 (λ e. ne (sym e)))))
        (cases_eq j.0 h.page.0)

    all_same : (file : PageId → Option (List ℕ)) (j : PageId) → (j.0 ≡ h.page.0 → now ≡ flag.Empty → file h.page ≡ Some h.lease.bytes) → page_bytes file k' j ≡ page_bytes file k j
    all_same file j why = bytes_same file j (held_at others j.0) refl why ∙ sym (ap (λ o. bytes_by o (place_of k j) k.seat.view.entries k.number (file j)) (ap (λ hs. held_at hs j.0) list ∙ held_push others h j.0))

    none_there : held_at others h.page.0 ≡ None
    none_there = by_found (held_at others h.page.0) refl
      where
        by_found : (o : Option Held) → held_at others h.page.0 ≡ o → held_at others h.page.0 ≡ None
        by_found None is = is
        by_found (Some g) is = let x = found_at others h.page.0 g is in absurd (other_name x.0 g x.1 x.2)

    -- a page that was given up isn't at hand
    known_kept : (j : PageId) → IsTrue (is_known k' j) → j.0 ≡ h.page.0 → now ≡ flag.Empty → ⊥
    known_kept j is same e = ⊎_elim
        (λ p. p.1 e)
        (λ p.
        let unknown : is_known k' h.page ≡ false = (λ i. known_by (none_there i) (p.0 i) seat'.view.entries k.number) in
        let bad : false ≡ true = sym unknown ∙ ap (is_known k') (sym (same_page j h.page same)) ∙ is in cc bad)
        kept_or

    given_up : (file : PageId → Option (List ℕ)) → AreClean file k → AreCovered k.held → now ≡ flag.Empty → file h.page ≡ Some h.lease.bytes
    given_up file clean covered e =
        let x = empty_by (put_flag h) (way h) (sym now_is ∙ e) in
        in_file file clean x.0 x.1 ∙ ap Some (sym (covered_same h x.0 (covered (length others) h last_at)))

    clean_new : (file : PageId → Option (List ℕ)) → AreClean file k → AreClean file k'
    clean_new file clean = record {
      kept = λ j g t e p q c. ⊎_elim
          (λ same.
          let eq = same_page j h.page same in
          let there : place_of k' h.page ≡ Some (g, t) = ap (place_of k') (sym eq) ∙ p in
          let frame_is : g ≡ h.frame = ⊎_elim
          (λ x. let s : Some (g, t) ≡ Some (h.frame, h.tag) = sym there ∙ x.0 in let r : ◌≡◌ {A = ℕ × ℕ} (g, t) (h.frame, h.tag) = cc s in ap (λ (z : ℕ × ℕ). z.0) r)
          (λ x. absurd (let bad : None ≡ Some (g, t) = sym x.0 ∙ there in cc bad)) kept_or in
          let s : Some entry ≡ Some e = sym put_here ∙ ap (last_put k') (sym frame_is) ∙ q in
          let r : entry ≡ e = cc s in
          let x = clean_by (put_flag h) (way h) (sym now_is ∙ ap (λ (d : Entry). d.flag) r ∙ c) in
          ap file eq ∙ in_file file clean x.1 x.3 ∙ ap Some (sym x.2) ∙ ap (λ (d : Entry). Some d.bytes) r)
          (λ ne. let was = sym (rest j ne) ∙ p in clean.kept j g t e was (sym (put_else g (not_here j g t was ne)) ∙ q) c)
          (cases_eq j.0 h.page.0);
      read = λ i g p. clean.read i g (other_at i g p);
    }

    -- whether another page is at hand is as it was
    else_known : (j : PageId) → j.0 ≢ h.page.0 → (t : Option (ℕ × ℕ)) → place_of k j ≡ t → known_by None (place_of k' j) seat'.view.entries k.number ≡ known_by None t k.seat.view.entries k.number
    else_known j ne None is = ap (λ t. known_by None t seat'.view.entries k.number) (rest j ne ∙ is)
    else_known j ne (Some p) is =
        ap (λ t. known_by None t seat'.view.entries k.number) (rest j ne ∙ is) ∙ ap stays_in (put_else p.0 (not_here j p.0 p.1 is ne))

    known_same : (j : PageId) → j.0 ≢ h.page.0 → (o : Option Held) → known_by o (place_of k' j) seat'.view.entries k.number ≡ known_by o (place_of k j) k.seat.view.entries k.number
    known_same j ne (Some g) = refl
    known_same j ne None = else_known j ne (place_of k j) refl

    known_only : (j : PageId) → j.0 ≢ h.page.0 → is_known k' j ≡ is_known k j
    known_only j ne =
        known_same j ne (held_at others j.0)
        ∙ sym (ap (λ o. known_by o (place_of k j) k.seat.view.entries k.number) (ap (λ hs. held_at hs j.0) list ∙ held_push_else others h j.0 (λ e. ne (sym e))))

    -- what stays is put so that it stays
    stay_here : IsStaying k h.page → (read : Bool) → h.is_read ≡ read → IsStaying k' h.page
    stay_here is true r = absurd (let bad : None ≡ Some (is.frame, is.tag) = sym (last_held.from_file r).unkept ∙ is.kept in cc bad)
    stay_here is false r =
        let x = last_held.from_frame r in
        let y = holds.kept h.page h.frame h.tag x.kept in
        let at : last_put k h.frame ≡ Some is.entry = ap (last_put k) (sym (own_frame is.frame is.tag is.kept)) ∙ is.at in
        let stay : IsTrue (stays now) = subst (λ f. IsTrue (stays f)) (sym now_is) (stays_by (put_flag h) (way h) r (stays_after is.entry.flag h.flag (x.follows is.entry at) is.stay)) in
        ⊎_elim
        (λ p. record { frame = h.frame; tag = h.tag; entry = entry; kept = p.0; at = put_here; stay = stay })
        (λ p. absurd (let bad : false ≡ true = sym (ap stays p.1) ∙ stay in cc bad))
        kept_or

    still_stays : (j : PageId) → IsStaying k j → IsStaying k' j
    still_stays j is = ⊎_elim
        (λ same. let eq = same_page j h.page same in subst (IsStaying k') (sym eq) (stay_here (subst (IsStaying k) eq is) h.is_read refl))
        (λ ne. record { frame = is.frame; tag = is.tag; entry = is.entry; kept = rest j ne ∙ is.kept; at = put_else is.frame (not_here j is.frame is.tag is.kept ne) ∙ is.at; stay = is.stay })
        (cases_eq j.0 h.page.0)

    stays_before : (was after : Flag) → IsReachedFrom was after → IsTrue (stays after) → IsTrue (stays was)
    stays_before was after reached stay = ⊎_elim (λ same. ap stays same ∙ stay) (λ p. far was p.0) reached
      where
        far : (was : Flag) → 2 ≤ code_of was → IsTrue (stays was)
        far flag.Empty le = absurd (omega (arith, le))
        far flag.Clean le = absurd (omega (arith, le))
        far flag.Dirty le = refl
        far flag.Due le = refl
        far flag.Done le = refl

    -- what is put with the flag that it had stays where it stayed before
    back_here : put_flag h ≡ h.flag → IsStaying k' h.page → (read : Bool) → h.is_read ≡ read → IsStaying k h.page
    back_here same is read r = ⊎_elim
        (λ p.
        let q : Some (is.frame, is.tag) ≡ Some (h.frame, h.tag) = sym is.kept ∙ p.0 in
        let e : ◌≡◌ {A = ℕ × ℕ} (is.frame, is.tag) (h.frame, h.tag) = cc q in
        let there : Some entry ≡ Some is.entry = sym put_here ∙ ap (last_put k') (sym (ap (λ (z : ℕ × ℕ). z.0) e)) ∙ is.at in
        let d : entry ≡ is.entry = cc there in
        let stay : IsTrue (stays h.flag) = ap stays (sym (now_is ∙ same)) ∙ ap (λ (z : Entry). stays z.flag) d ∙ is.stay in
        by_read read r stay)
        (λ p. absurd (let bad : None ≡ Some (is.frame, is.tag) = sym p.0 ∙ is.kept in cc bad))
        kept_or
      where
        by_read : (read : Bool) → h.is_read ≡ read → IsTrue (stays h.flag) → IsStaying k h.page
        by_read true r stay = absurd (let bad : false ≡ true = ap stays (sym (last_held.from_file r).empty) ∙ stay in cc bad)
        by_read false r stay =
            let x = last_held.from_frame r in
            let y = holds.kept h.page h.frame h.tag x.kept in
            record { frame = h.frame; tag = h.tag; entry = y.entry; kept = x.kept; at = y.at; stay = stays_before y.entry.flag h.flag (x.follows y.entry y.at) stay }

    still_back : put_flag h ≡ h.flag → (j : PageId) → IsStaying k' j → IsStaying k j
    still_back same_flag j is = ⊎_elim
        (λ same. let eq = same_page j h.page same in subst (IsStaying k) (sym eq) (back_here same_flag (subst (IsStaying k') eq is) h.is_read refl))
        (λ ne.
        let was = sym (rest j ne) ∙ is.kept in
        record { frame = is.frame; tag = is.tag; entry = is.entry; kept = was; at = sym (put_else is.frame (not_here j is.frame is.tag was ne)) ∙ is.at; stay = is.stay })
        (cases_eq j.0 h.page.0)

    -- the page is put as its flag says
    put_so : IsPutAs k' h (put_flag h)
    put_so = record {
      entry = entry;
      at = put_here;
      flag_is = now_is;
      bytes_are = refl;
      kept = λ some. ⊎_elim (λ p. p.0) (λ p. absurd (some (sym now_is ∙ p.1))) kept_or;
      gone = λ e. ⊎_elim (λ p. absurd (p.1 (now_is ∙ e))) (λ p. p.0) kept_or;
    }

    left_word : word ≡ put_word k.number h (put_flag h)
    left_word = λ i. record { tag = tag_is i; owner = owner_is i; holder = AT_HOME; flag = now_is i }

    left : LeavesWords locks k k' put_flag (h ∷ [])
    left = record {
      words = ap (λ (v : View). v.words) put ∙ ap (λ w. (h.frame, w) ∷ k.seat.view.words) left_word;
      met = ap (λ (v : View). v.met) put;
      sight = sight;
    }

    pub puts_last : PutsLast locks k k'
    puts_last = record {
      holds = put_holds;
      last = h;
      held = list;
      free = refl;
      shape = refl;
      number = refl;
      left = left;
      put = put_so;
      put_else = put_else;
      place_else = rest;
      only = known_only;
      staying = still_stays;
      back = still_back;
      at_hand = λ file j is. all_same file j (λ same e. absurd (known_kept j is same e));
      clean = λ file clean covered. clean_new file clean;
      told = λ file j clean covered. all_same file j (λ _. given_up file clean covered);
    }

  -- the frame keeps no page any more
  module _ (places' : Places) (table : places'.table.entries ≡ forgotten k.places.table.entries (page_at k h.frame)) (pages : places'.pages.items ≡ set k.places.pages.items h.frame None) where
    forgot_rest : (read : Bool) → h.is_read ≡ read → (j : PageId) → j.0 ≢ h.page.0 → place_of (record k { places = places' }) j ≡ place_of k j
    forgot_rest true r j ne = ap (λ m. fin.get m j.0) (table ∙ ap (forgotten k.places.table.entries) (last_held.from_file r).bare)
    forgot_rest false r j ne =
        let own = k.places.agree.kept h.page h.frame h.tag (last_held.from_frame r).kept in
        ap (λ m. fin.get m j.0) (table ∙ ap (forgotten k.places.table.entries) own) ∙ get_rest k.places.table.entries h.page.0 j.0 ne

    forgot_gone : (read : Bool) → h.is_read ≡ read → place_of (record k { places = places' }) h.page ≡ None
    forgot_gone true r = ap (λ m. fin.get m h.page.0) (table ∙ ap (forgotten k.places.table.entries) (last_held.from_file r).bare) ∙ (last_held.from_file r).unkept
    forgot_gone false r =
        let own = k.places.agree.kept h.page h.frame h.tag (last_held.from_frame r).kept in
        ap (λ m. fin.get m h.page.0) (table ∙ ap (forgotten k.places.table.entries) own) ∙ get_removed k.places.table.entries h.page.0

    pub forgot : (now : Flag) → now ≡ put_flag h → (seat' : Sight) (room' : ℕ) → OP_PAGES ≤ room' → IsSeatOf locks seat' → seat'.view ≡ put_back k.seat.view h.frame (put_as now (answers.out_of k.seat.view h.frame).word) h.lease.bytes → KeepsSight locks k.seat.view seat'.view → now ≡ flag.Empty
        → PutsLast locks k (record k { seat = seat'; places = places'; held = others; held_room = room' })
    forgot now is seat' room' room seat_of put sight empty =
        puts_last now is seat' places' room' room seat_of put (ap length pages ∙ length-set k.places.pages.items h.frame None) (forgot_rest h.is_read refl)
        (λ g ne. ap (λ ps. slice_get ps g) pages ∙ set_else k.places.pages.items h.frame g None ne) sight (inr (forgot_gone h.is_read refl, empty))

  -- the frame keeps the page that was read from now on
  pub placed : (places' : Places) → places'.table.entries ≡ fin.insert k.places.table.entries h.page.0 (h.frame, h.tag) → places'.pages.items ≡ set k.places.pages.items h.frame (Some h.page)
      → (now : Flag) → now ≡ put_flag h → (seat' : Sight) (room' : ℕ) → OP_PAGES ≤ room' → IsSeatOf locks seat' → seat'.view ≡ put_back k.seat.view h.frame (put_as now (answers.out_of k.seat.view h.frame).word) h.lease.bytes → KeepsSight locks k.seat.view seat'.view → now ≢ flag.Empty
      → PutsLast locks k (record k { seat = seat'; places = places'; held = others; held_room = room' })
  placed places' table pages now is seat' room' room seat_of put sight some =
      puts_last now is seat' places' room' room seat_of put (ap length pages ∙ length-set k.places.pages.items h.frame (Some h.page))
      (λ j ne. ap (λ m. fin.get m j.0) table ∙ get_other k.places.table.entries h.page.0 (h.frame, h.tag) j.0 ne)
      (λ g ne. ap (λ ps. slice_get ps g) pages ∙ set_else k.places.pages.items h.frame g (Some h.page) ne)
      sight
      (inl (ap (λ m. fin.get m h.page.0) table ∙ get_put k.places.table.entries h.page.0 (h.frame, h.tag), some))

  -- the frame that keeps the page still does
  pub returned : (now : Flag) → now ≡ put_flag h → (seat' : Sight) (room' : ℕ) → OP_PAGES ≤ room' → IsSeatOf locks seat' → seat'.view ≡ put_back k.seat.view h.frame (put_as now (answers.out_of k.seat.view h.frame).word) h.lease.bytes → KeepsSight locks k.seat.view seat'.view → now ≢ flag.Empty → h.is_read ≡ false
      → PutsLast locks k (record k { seat = seat'; held = others; held_room = room' })
  returned now is seat' room' room seat_of put sight some r =
      puts_last now is seat' k.places room' room seat_of put refl (λ j ne. refl) (λ g ne. refl) sight (inl ((last_held.from_frame r).kept, some))
