-- How the frames of a log go on to rebuild the pages that were logged.
use Rattle.std.proofs.Common.{◌≡◌, ℕ, zero, suc, ◌+◌, ◌<◌, ◌≤◌, ◌^◌, Bool, true, false, List, [], ◌∷◌, ◌++◌, length, Option, Some, None, refl, sym, ap, ◌∙◌, inl, inr, subst, arith, append_assoc, append-nil}
use Rattle.std.specs.Prelude.{◌==◌, ◌&&◌, not, nat_lt, if◌then◌else◌, IsSome}
use Rattle.std.proofs.lemmas.Bool.{false≢true, eqb-true, and_parts, ne_eqb, eq-eqb}
use Rattle.std.proofs.lemmas.Bool.Decides.{eqb_tells, nat_tests}
use Rattle.pm_types.specs.declared.page_id.PageId.{PageId}
use Rattle.pm_types.specs.declared.shape.Shape.{Shape}
use Rattle.pm_types.specs.DeltaRanges.{IsDelta}
use Rattle.pm_types.specs.Ids.{page_id, part_of_id, index_of_id}
use Rattle.pm_types.specs.PageSizes.{IsPageSize}
use Rattle.pm_types.specs.Spans.{Coverage}
use Rattle.pm_frame.specs.Frames.{Frame}
use Rattle.pm_records.specs.FirstRecords.{is_restart}
use Rattle.pm_records.specs.Logs.{record_in, record_frame}
use Rattle.pm_records.specs.Records.{Record, Snapshot, Delta, Restart}
use Rattle.pm_pages.specs.Asked.{has_bytes, is_changed}
use Rattle.pm_pages.specs.Deltas.{delta_of}
use Rattle.pm_pages.specs.Paged.{Paged}
use Rattle.pm_pages.specs.Rows.{bytes_of}
use Rattle.pm_pages.proofs.WrittenRanges.{is_delta, gives_page}
use Rattle.pm_core.specs.BasePages.{Partitions, no_pages, with_page, rebuilt_by}
use Rattle.pm_core.specs.PageSets.{has_index}
use Rattle.pm_core.specs.States.{AllInGrammar}
use Rattle.pm_core.proofs.Replaying.{grammar_records}
use Rattle.pm_ckpt.specs.Writes.{named_of}
use Rattle.pm_records.proofs.Runs.{bool_cases, option_cases}
use Rattle.pm_redo.proofs.MoreFrames.{nothing_rebuilt, then_restarted}
use Rattle.pm_engine.specs.PageLogs.{page_record, frames_at, frames_below, names_at, names_below}
use Rattle.pm_pages.specs.KeptPages.{IsPageOf}
use Rattle.pm_engine.specs.TrackedPages.{TracksPages, SaysNoPage, ChangesWithin, ChangesPart}
use Rattle.pm_engine.proofs.ChangedFrames.{frames_none, frames_one, names_none, names_one, below_zero, names_zero, below_next, names_next, logged_still}
use Rattle.pm_engine.proofs.PageNames.{is_at, part_named, index_named, is_named, has_index-push}
use Rattle.pm_engine.proofs.RebuiltFrames.{rebuilt_next, no_restart, rebuilt_same, snapshot_rebuilds, snapshot_read, delta_rebuilds, some_range, delta_read}

-- ---- nothing is logged

-- no frame yet
pub tracks_none : (shape : Shape) (files pages : Partitions) → ((part index : ℕ) → part < shape.partitions → pages part index ≡ files part index) → TracksPages shape [] files pages []
tracks_none shape files pages same = record {
  rebuilt = no_pages;
  is = nothing_rebuilt shape;
  each = λ part index. refl;
  there = λ part index has. absurd (false≢true has);
  clean = λ part index lt none. same part index lt;
}

-- a RESTART voids the frames before it
pub tracks_restart : (shape : Shape) (frames : List Frame) (f : Frame) (told : Shape) (files pages : Partitions) → AllInGrammar frames → record_in f ≡ Some (Restart told)
    → ((part index : ℕ) → part < shape.partitions → pages part index ≡ files part index) → TracksPages shape (frames ++ f ∷ []) files pages []
tracks_restart shape frames f told files pages well is same =
    let records = some_of (grammar_records frames well) in
    record {
      rebuilt = no_pages;
      is = then_restarted shape frames records.0 f (Restart told) records.1 is refl;
      each = λ part index. refl;
      there = λ part index has. absurd (false≢true has);
      clean = λ part index lt none. same part index lt;
    }
  where
    some_of : {A : Type 0} {o : Option A} → IsSome o → (x : A) × (o ≡ Some x)
    some_of {A} {o} is = elim (option_cases o) [
      | inl none ↦ absurd (cc (ap (λ p. IsSome p) none, is))
      | inr some ↦ some
    ]

-- ---- the same pages, seen otherwise

pub tracks_same : (shape : Shape) (frames : List Frame) (files pages new : Partitions) (logged : List PageId) → ((part index : ℕ) → new part index ≡ pages part index) → TracksPages shape frames files pages logged → TracksPages shape frames files new logged
tracks_same shape frames files pages new logged same t = record {
  rebuilt = t.rebuilt;
  is = t.is;
  each = λ part index. t.each part index ∙ ap (λ o. let p : Option (List ℕ) = if has_index part index logged then o else None in p) (sym (same part index));
  there = λ part index has. (let is = t.there part index has in record { bytes = is.bytes; is = same part index ∙ is.is; sized = is.sized });
  clean = λ part index lt none. same part index ∙ t.clean part index lt none;
}

-- ---- a record that says nothing of a page

pub tracks_no_page : (shape : Shape) (frames : List Frame) (f : Frame) (r : Record) (files pages : Partitions) (logged : List PageId) → record_in f ≡ Some r → SaysNoPage r
    → TracksPages shape frames files pages logged → TracksPages shape (frames ++ f ∷ []) files pages logged
tracks_no_page shape frames f r files pages logged is says t = record {
  rebuilt = t.rebuilt;
  is = rebuilt_next shape frames t.rebuilt f r t.is is (no_restart r says) ∙ rebuilt_same shape r t.rebuilt says;
  each = t.each;
  there = t.there;
  clean = t.clean;
}

-- ---- a page's record

-- the page by its name
eqb_turned : (a b : ℕ) → (a == b) ≡ (b == a)
eqb_turned a b = elim (eqb_tells a b) [
  | inl same ↦ same.0 ∙ sym (eq-eqb b a (sym same.1))
  | inr other ↦ other.0 ∙ sym (ne_eqb b a (λ e. other.1 (sym e)))
]

with_page_is : (pages : Partitions) (page : PageId) (now : List ℕ) (p i : ℕ) → with_page pages page now p i ≡ (let o : Option (List ℕ) = if is_at page p i then Some now else pages p i in o)
with_page_is pages page now p i =
    ap (λ (b : Bool). let o : Option (List ℕ) = if b && i == index_of_id page then Some now else pages p i in o) (eqb_turned p (part_of_id page))
    ∙ ap (λ (b : Bool). let o : Option (List ℕ) = if part_of_id page == p && b then Some now else pages p i in o) (eqb_turned i (index_of_id page))

-- the names, with this one if it isn't there
abbrev pub named_more : ℕ → ℕ → List PageId → List PageId
named_more part index logged = if has_index part index logged then [] else page_id part index ∷ []

pub has_more : (part index : ℕ) (logged : List PageId) (p i : ℕ) → part < 2 ^ 16 → index < 2 ^ 32
    → has_index p i (logged ++ named_more part index logged) ≡ (if is_at (page_id part index) p i then true else has_index p i logged)
has_more part index logged p i small low = by (has_index part index logged) refl
  where
    here : (b : Bool) → is_at (page_id part index) p i ≡ b → has_index part index logged ≡ true → has_index p i logged ≡ (if b then true else has_index p i logged)
    here false e has = refl
    here true e has =
        let at = and_parts (part_of_id (page_id part index) == p) (index_of_id (page_id part index) == i) e in
        let p_is : p ≡ part = sym (eqb-true _ _ at.0) ∙ part_named part index small low in
        let i_is : i ≡ index = sym (eqb-true _ _ at.1) ∙ index_named part index low in
        ap (λ (q : ℕ × ℕ). has_index q.0 q.1 logged) (λ j. (p_is j, i_is j)) ∙ has

    by : (b : Bool) → has_index part index logged ≡ b → has_index p i (logged ++ (let ns : List PageId = if b then [] else page_id part index ∷ [] in ns)) ≡ (if is_at (page_id part index) p i then true else has_index p i logged)
    by true has = ap (has_index p i) (append-nil logged) ∙ here (is_at (page_id part index) p i) refl has
    by false none = has_index-push p i logged (page_id part index)

module _ (shape : Shape) (frames : List Frame) (files pages new : Partitions) (logged : List PageId) (part index : ℕ) (now : List ℕ) (small : part < 2 ^ 16) (low : index < 2 ^ 32) (sized : length now ≡ shape.page_size)
    (new_is : (p i : ℕ) → new p i ≡ with_page pages (page_id part index) now p i) (t : TracksPages shape frames files pages logged) where
  abbrev page : PageId
  page = page_id part index

  new_at : (p i : ℕ) (b : Bool) → is_at page p i ≡ b → new p i ≡ (let o : Option (List ℕ) = if b then Some now else pages p i in o)
  new_at p i b e = new_is p i ∙ with_page_is pages page now p i ∙ ap (λ (b : Bool). let o : Option (List ℕ) = if b then Some now else pages p i in o) e

  has_at : (p i : ℕ) (b : Bool) → is_at page p i ≡ b → has_index p i (logged ++ named_more part index logged) ≡ (if b then true else has_index p i logged)
  has_at p i b e = has_more part index logged p i small low ∙ ap (λ (b : Bool). if b then true else has_index p i logged) e

  -- the frame makes this page of it
  pub tracks_page : (f : Frame) (r : Record) → record_in f ≡ Some r → is_restart (Some r) ≡ false → rebuilt_by shape r t.rebuilt ≡ Some (with_page t.rebuilt page now)
      → TracksPages shape (frames ++ f ∷ []) files new (logged ++ named_more part index logged)
  tracks_page f r is plain made = record {
    rebuilt = with_page t.rebuilt page now;
    is = rebuilt_next shape frames t.rebuilt f r t.is is plain ∙ made;
    each = λ p i. with_page_is t.rebuilt page now p i ∙ each_at p i (is_at page p i) refl;
    there = λ p i has. there_at p i (is_at page p i) refl (sym (has_at p i (is_at page p i) refl) ∙ has);
    clean = λ p i lt none. clean_at p i (is_at page p i) refl lt (sym (has_at p i (is_at page p i) refl) ∙ none);
  }
    where
      pick : Bool → Option (List ℕ) → Option (List ℕ)
      pick b o = if b then o else None

      each_at : (p i : ℕ) (b : Bool) → is_at page p i ≡ b → (let o : Option (List ℕ) = if b then Some now else t.rebuilt p i in o) ≡ named_of new (logged ++ named_more part index logged) p i
      each_at p i true e =
          sym (new_at p i true e) ∙ ap (λ (h : Bool). let o : Option (List ℕ) = if h then new p i else None in o) (sym (has_at p i true e))
      each_at p i false e =
          t.each p i
          ∙ ap (λ (o : Option (List ℕ)). let q : Option (List ℕ) = if has_index p i logged then o else None in q) (sym (new_at p i false e))
          ∙ ap (λ (h : Bool). let o : Option (List ℕ) = if h then new p i else None in o) (sym (has_at p i false e))

      there_at : (p i : ℕ) (b : Bool) → is_at page p i ≡ b → (if b then true else has_index p i logged) ≡ true → IsPageOf shape.page_size (new p i)
      there_at p i true e has = record { bytes = now; is = new_at p i true e; sized = sized }
      there_at p i false e has = let is = t.there p i has in record { bytes = is.bytes; is = new_at p i false e ∙ is.is; sized = is.sized }

      clean_at : (p i : ℕ) (b : Bool) → is_at page p i ≡ b → p < shape.partitions → (if b then true else has_index p i logged) ≡ false → new p i ≡ files p i
      clean_at p i true e lt none = absurd (false≢true (sym none))
      clean_at p i false e lt none = new_at p i false e ∙ t.clean p i lt none

-- ---- the pages that an operation changed

module _ (shape : Shape) (frames : List Frame) (files old : Partitions) (logged : List PageId) (seen : Paged) (inside : seen.part < shape.partitions) (small : seen.part < 64) (size : IsPageSize shape.page_size)
    (changes : ChangesWithin shape.page_size (old seen.part) seen) (tracks : TracksPages shape frames files old logged) where
  -- the pages below an index are those after the operation
  abbrev mixed : ℕ → Partitions
  mixed n p i = if p == seen.part && nat_lt i n then seen.pages i else old p i

  abbrev TracksTo : ℕ → Type 0
  TracksTo n = TracksPages shape (frames ++ frames_below seen logged n) files (mixed n) (logged ++ names_below seen logged n)

  to_none : TracksTo 0
  to_none =
      let f = sym (ap (λ fs. frames ++ fs) (below_zero seen logged) ∙ append-nil frames) in
      let n = sym (ap (λ ns. logged ++ ns) (names_zero seen logged) ∙ append-nil logged) in
      subst (λ (q : List Frame × List PageId). TracksPages shape q.0 files (mixed 0) q.1) (λ j. (f j, n j))
      (tracks_same shape frames files old (mixed 0) logged (λ p i. at p i (p == seen.part)) tracks)
    where
      at : (p i : ℕ) (b : Bool) → (let o : Option (List ℕ) = if b && nat_lt i 0 then seen.pages i else old p i in o) ≡ old p i
      at p i true = grind (arith, nat_tests)
      at p i false = refl

  -- the page at the index
  mixed_next : (n p i : ℕ) → mixed (n + 1) p i ≡ (let o : Option (List ℕ) = if p == seen.part && i == n then seen.pages i else mixed n p i in o)
  mixed_next n p i = by (p == seen.part)
    where
      by : (b : Bool) → (let o : Option (List ℕ) = if b && nat_lt i (n + 1) then seen.pages i else old p i in o)
          ≡ (let o : Option (List ℕ) = if b && i == n then seen.pages i else (let q : Option (List ℕ) = if b && nat_lt i n then seen.pages i else old p i in q) in o)
      by false = refl
      by true = grind (arith, nat_tests)

  at_index : (n : ℕ) → mixed n seen.part n ≡ old seen.part n
  at_index n = by (seen.part == seen.part)
    where
      by : (b : Bool) → (let o : Option (List ℕ) = if b && nat_lt n n then seen.pages n else old seen.part n in o) ≡ old seen.part n
      by true = grind (arith, nat_tests)
      by false = refl

  -- a page that wasn't changed
  unchanged_next : (n : ℕ) → is_changed (seen.patch n) ≡ false → TracksTo n → TracksTo (n + 1)
  unchanged_next n none t =
      let f = sym (ap (λ fs. frames ++ fs) (below_next seen logged n (n + 1) refl ∙ ap (λ fs. frames_below seen logged n ++ fs) (frames_none (seen.patch n) _ _ _ none) ∙ append-nil (frames_below seen logged n))) in
      let ns = sym (ap (λ xs. logged ++ xs) (names_next seen logged n (n + 1) refl ∙ ap (λ xs. names_below seen logged n ++ xs) (names_none seen logged n none) ∙ append-nil (names_below seen logged n))) in
      subst (λ (q : List Frame × List PageId). TracksPages shape q.0 files (mixed (n + 1)) q.1) (λ j. (f j, ns j))
      (tracks_same shape (frames ++ frames_below seen logged n) files (mixed n) (mixed (n + 1)) (logged ++ names_below seen logged n) same t)
    where
      same : (p i : ℕ) → mixed (n + 1) p i ≡ mixed n p i
      same p i = mixed_next n p i ∙ by (p == seen.part && i == n) refl
        where
          by : (b : Bool) → (p == seen.part && i == n) ≡ b → (let o : Option (List ℕ) = if b then seen.pages i else mixed n p i in o) ≡ mixed n p i
          by false e = refl
          by true e =
              let at = and_parts (p == seen.part) (i == n) e in
              let p_is = eqb-true _ _ at.0 in
              let i_is = eqb-true _ _ at.1 in
              ap seen.pages i_is ∙ changes.unchanged n none ∙ sym (at_index n) ∙ ap (λ (q : ℕ × ℕ). mixed n q.0 q.1) (λ j. (sym p_is j, sym i_is j))

  -- a page that was
  module _ (n : ℕ) (low : n < 2 ^ 32) (changed : is_changed (seen.patch n) ≡ true) (t : TracksTo n) where
    abbrev id : PageId
    id = page_id seen.part n

    abbrev is_logged : Bool
    is_logged = has_index seen.part n logged

    abbrev now : List ℕ
    now = (changes.there n changed).bytes

    now_is : seen.pages n ≡ Some now
    now_is = (changes.there n changed).is

    sized_now : length now ≡ shape.page_size
    sized_now = (changes.there n changed).sized

    size_now : IsPageSize (length now)
    size_now = subst IsPageSize (sym sized_now) size

    named : part_of_id id ≡ seen.part
    named = part_named seen.part n (omega (arith, small)) low

    inside_id : part_of_id id < shape.partitions
    inside_id = omega (arith, inside, named)

    -- the pages with this one in place of what it was
    next_is : (p i : ℕ) → mixed (n + 1) p i ≡ with_page (mixed n) id now p i
    next_is p i =
        mixed_next n p i
        ∙ by (p == seen.part && i == n) refl
        ∙ ap (λ (q : ℕ × ℕ). let o : Option (List ℕ) = if p == q.0 && i == q.1 then Some now else mixed n p i in o) (λ j. (sym named j, sym (index_named seen.part n low) j))
      where
        by : (b : Bool) → (p == seen.part && i == n) ≡ b → (let o : Option (List ℕ) = if b then seen.pages i else mixed n p i in o) ≡ (let o : Option (List ℕ) = if b then Some now else mixed n p i in o)
        by false e = refl
        by true e = ap seen.pages (eqb-true _ _ (and_parts (p == seen.part) (i == n) e).1) ∙ now_is

    -- the frame of its record
    by_record : (r : Record) → frames_at seen logged n ≡ record_frame r ∷ [] → record_in (record_frame r) ≡ Some r → is_restart (Some r) ≡ false → rebuilt_by shape r t.rebuilt ≡ Some (with_page t.rebuilt id now) → TracksTo (n + 1)
    by_record r is read plain made =
        let one = tracks_page shape (frames ++ frames_below seen logged n) files (mixed n) (mixed (n + 1)) (logged ++ names_below seen logged n) seen.part n now (omega (arith, small)) low sized_now next_is t (record_frame r) r read plain made in
        let f : (frames ++ frames_below seen logged n) ++ record_frame r ∷ [] ≡ frames ++ frames_below seen logged (n + 1) =
        append_assoc frames (frames_below seen logged n) (record_frame r ∷ [])
        ∙ ap (λ fs. frames ++ fs) (ap (λ fs. frames_below seen logged n ++ fs) (sym is) ∙ sym (below_next seen logged n (n + 1) refl)) in
        let more : named_more seen.part n (logged ++ names_below seen logged n) ≡ names_at seen logged n =
        ap (λ (b : Bool). let ns : List PageId = if b then [] else page_id seen.part n ∷ [] in ns) (logged_still seen logged n (omega (arith, low))) ∙ sym (names_one seen logged n changed) in
        let ns : (logged ++ names_below seen logged n) ++ named_more seen.part n (logged ++ names_below seen logged n) ≡ logged ++ names_below seen logged (n + 1) =
        append_assoc logged (names_below seen logged n) _
        ∙ ap (λ xs. logged ++ xs) (ap (λ xs. names_below seen logged n ++ xs) more ∙ sym (names_next seen logged n (n + 1) refl)) in
        subst (λ (q : List Frame × List PageId). TracksPages shape q.0 files (mixed (n + 1)) q.1) (λ j. (f j, ns j)) one

    -- what the log rebuilt of it so far
    rebuilt_was : is_logged ≡ true → (was : List ℕ) × (old seen.part n ≡ Some was) × (t.rebuilt seen.part n ≡ Some was) × (length was ≡ shape.page_size)
    rebuilt_was has =
        let had : has_index seen.part n (logged ++ names_below seen logged n) ≡ true = logged_still seen logged n (omega (arith, low)) ∙ has in
        let is = tracks.there seen.part n has in (
          is.bytes,
          is.is,
          t.each seen.part n ∙ ap (λ (b : Bool). let o : Option (List ℕ) = if b then mixed n seen.part n else None in o) had ∙ at_index n ∙ is.is,
          is.sized,
        )

    frame_is : (cover : Coverage) (b : Bool) → seen.patch n ≡ Some cover → has_bytes cover ≡ true → (is_logged && not cover.whole) ≡ b
        → frames_at seen logged n ≡ record_frame (let r : Record = if b then Delta id (delta_of now cover.spans) else Snapshot id now in r) ∷ []
    frame_is cover b is has e =
        frames_one (seen.patch n) cover id (bytes_of (seen.pages n)) is_logged is has
        ∙ ap (λ bytes. record_frame (page_record id bytes cover is_logged) ∷ []) (ap bytes_of now_is)
        ∙ ap (λ (b : Bool). record_frame (let r : Record = if b then Delta id (delta_of now cover.spans) else Snapshot id now in r) ∷ []) e

    with_cover : (cover : Coverage) (b : Bool) → seen.patch n ≡ Some cover → has_bytes cover ≡ true → (is_logged && not cover.whole) ≡ b → TracksTo (n + 1)
    with_cover cover false is has e =
        by_record (Snapshot id now) (frame_is cover false is has e) (snapshot_read id now (is_named seen.part n small low) size_now) refl (snapshot_rebuilds shape t.rebuilt id now inside_id sized_now)
    with_cover cover true is has e =
        let both = and_parts is_logged (not cover.whole) e in
        let part_only : cover.whole ≡ false = turned cover.whole both.1 in
        let was = rebuilt_was both.0 in
        let patch = changes.patched n cover is in
        let some = some_range cover has part_only in
        let long : length was.0 ≡ length now = was.3 ∙ sym sized_now in
        let fits : cover.page_size ≡ length now = patch.size_is ∙ sym sized_now in
        let delta : List ℕ = delta_of now cover.spans in
        let outside = patch.within part_only was.0 now was.1 now_is in
        by_record (Delta id delta) (frame_is cover true is has e) (delta_read id now cover (is_named seen.part n small low) size_now patch.fits some fits) refl
        (delta_rebuilds shape t.rebuilt id delta was.0 now inside_id
        (ap (λ (q : ℕ × ℕ). t.rebuilt q.0 q.1) (λ j. (named j, index_named seen.part n low j)) ∙ was.2)
        (subst (λ m. IsDelta m delta) (sym long) (is_delta now cover patch.fits some fits))
        (gives_page now cover patch.fits part_only fits was.0 outside))
      where
        turned : (b : Bool) → not b ≡ true → b ≡ false
        turned false e = refl
        turned true e = absurd (false≢true e)

    changed_next : TracksTo (n + 1)
    changed_next = by (seen.patch n) refl changed
      where
        by : (o : Option Coverage) → seen.patch n ≡ o → is_changed o ≡ true → TracksTo (n + 1)
        by None e has = absurd (false≢true has)
        by (Some cover) e has = with_cover cover (is_logged && not cover.whole) e has refl

  tracks_to : (n : ℕ) → n ≤ 2 ^ 32 → TracksTo n
  tracks_to zero le = to_none
  tracks_to (suc n) le =
      let t = tracks_to n (omega (arith, le)) in
      let e : n + 1 ≡ suc n = omega arith in
      subst TracksTo e (elim (bool_cases (is_changed (seen.patch n))) [
        | inl changed ↦ changed_next n (omega (arith, le)) changed t
        | inr none ↦ unchanged_next n none t
      ])

  -- all of them
  pub tracks_operation : (count : ℕ) (new : Partitions) → count ≤ 2 ^ 32 → ((i : ℕ) → is_changed (seen.patch i) ≡ true → i < count) → ChangesPart seen.part old new seen.pages
      → TracksPages shape (frames ++ frames_below seen logged count) files new (logged ++ names_below seen logged count)
  tracks_operation count new few below is = tracks_same shape (frames ++ frames_below seen logged count) files (mixed count) new (logged ++ names_below seen logged count) same (tracks_to count few)
    where
      above : (i : ℕ) → count ≤ i → seen.pages i ≡ old seen.part i
      above i le = elim (bool_cases (is_changed (seen.patch i))) [
        | inl changed ↦ absurd (omega (arith, below i changed, le))
        | inr none ↦ changes.unchanged i none
      ]

      here : (i : ℕ) (b : Bool) → nat_lt i count ≡ b → seen.pages i ≡ (let o : Option (List ℕ) = if b then seen.pages i else old seen.part i in o)
      here i true e = refl
      here i false e = above i (grind (arith, nat_tests))

      same : (p i : ℕ) → new p i ≡ mixed count p i
      same p i = elim (eqb_tells p seen.part) [
        | inl it ↦
            ap (λ q. new q i) it.1 ∙ is.here i ∙ here i (nat_lt i count) refl
            ∙ ap (λ q. let o : Option (List ℕ) = if nat_lt i count then seen.pages i else old q i in o) (sym it.1)
            ∙ ap (λ (b : Bool). let o : Option (List ℕ) = if b && nat_lt i count then seen.pages i else old p i in o) (sym it.0)
        | inr other ↦ is.elsewhere p i other.1 ∙ ap (λ (b : Bool). let o : Option (List ℕ) = if b && nat_lt i count then seen.pages i else old p i in o) (sym other.0)
      ]
