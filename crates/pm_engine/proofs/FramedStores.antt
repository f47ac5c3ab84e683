-- The lines of a round, done over a worker's page frames, are steps of a store that runs.
use Rattle.std.proofs.Common.{◌≡◌, ◌≢◌, ◌⊎◌, inl, inr, ℕ, zero, suc, ◌+◌, ◌<◌, ◌≤◌, ◌^◌, Bool, true, false, List, [], ◌∷◌, ◌++◌, length, Option, None, Some, refl, sym, ap, ◌∙◌, subst, arith, append_assoc, append-nil}
use Rattle.std.specs.Prelude.{IsTrue, IsSome, ◌==◌, ◌&&◌, not, if◌then◌else◌, slice_get}
use Rattle.std.specs.Option.{is_some}
use Rattle.std.proofs.lemmas.Bool.{false≢true, cases_eq, eqb-true, and_parts}
use Rattle.pm_types.specs.declared.flag.Flag.{Flag}
use Rattle.pm_types.specs.declared.flag.Flag.TheVariants as flag
use Rattle.pm_types.specs.declared.page_id.PageId.{PageId}
use Rattle.pm_types.specs.declared.shape.Shape.{Shape}
use Rattle.pm_types.specs.Ids.{page_id, part_of_id, index_of_id}
use Rattle.pm_types.specs.Spans.{Coverage, IsPatch}
use Rattle.pm_disk.specs.Moments.{History}
use Rattle.pm_frame.specs.Frames.{Frame}
use Rattle.pm_records.specs.Logs.{record_frame}
use Rattle.pm_records.specs.Records.{Record, Logical, Snapshot, Delta, CpBegin, Restart, Seal, IsRecord, payload_of}
use Rattle.pm_records.proofs.Runs.{bool_cases}
use Rattle.pm_model.specs.declared.line.Line.{Line}
use Rattle.pm_model.specs.Eval.{Pairs, is_accepted, after}
use Rattle.pm_model.specs.Orders.{part_of_line}
use Rattle.pm_model.specs.ReplyLists.{ReplyList}
use Rattle.pm_pages.specs.Asked.{has_bytes, is_changed}
use Rattle.pm_pages.specs.Paged.{Paged}
use Rattle.pm_pages.specs.Rows.{bytes_of}
use Rattle.pm_locks.specs.Sight.{LockTable}
use Rattle.pm_locks.specs.Words.{IsReachedFrom, LockWord, code_of}
use Rattle.pm_locks.specs.Views.{known_at}
use Rattle.pm_core.specs.BasePages.{Partitions}
use Rattle.pm_core.specs.Held.{AllWellFormed, pairs_in}
use Rattle.pm_core.specs.PageSets.{has_index}
use Rattle.pm_segments.specs.Ends.{LogEnd}
use Rattle.pm_stripe.specs.declared.bound.Bound.{Bound}
use Rattle.pm_stripe.specs.declared.held.Held.{Held}
use Rattle.pm_stripe.specs.ChangedPages.{ChangedPage, as_changed, is_logged, frame_for}
use Rattle.pm_stripe.specs.Kept.{Kept, Holds, held_at, place_of, last_put, page_bytes, stays, IsStaying}
use Rattle.pm_stripe.specs.Listings.{GrowsByOperation, IsChangedPage, MayBeLogical, after_logical}
use Rattle.pm_stripe.specs.Shown.{kept_by, file_by, paged, patch_of}
use Rattle.pm_stripe.specs.Sights.{AreSettled}
use Rattle.pm_stripe.proofs.Hands.{found_at}
use Rattle.pm_stripe.proofs.PlacedPages.{same_page}
use Rattle.pm_engine.specs.FrameCommands.{frame_pages, noted_in, IsChangedIn, IsHandedOver, ChangesAsNoted, ChangesNothing, HandsOverChange}
use Rattle.pm_engine.specs.FrameLines.{EvaluatesLine}
use Rattle.pm_engine.specs.FrameRounds.{DoesNext, DoesLines}
use Rattle.pm_engine.specs.FramedStores.{HasStore, StepsStore}
use Rattle.pm_engine.specs.HandedPages.{OperatesOn, framed_pages}
use Rattle.pm_engine.specs.LineChains.{OperatesForLine, StepsLine}
use Rattle.pm_engine.specs.OutboxLogs.{SpellOperationRecords}
use Rattle.pm_engine.specs.PageLogs as log
use Rattle.pm_engine.specs.PageLogs.{NotedPages, AreNoted, frames_with, frames_at, frames_below, names_at, names_below, noted_frames, noted_names}
use Rattle.pm_engine.specs.Records.{record_of_line, IsPayloadOf, logical_frame}
use Rattle.pm_engine.specs.RunningSteps.{appended_to, ChangesStore, MakesPages, operation_frames, operation_names}
use Rattle.pm_engine.specs.RunningStores.{StoreState, map_of}
use Rattle.pm_engine.specs.TrackedPages.{ChangesWithin, ChangesPart, HaveFirstPages}
use Rattle.pm_engine.proofs.AcceptedLines.{logical_of}
use Rattle.pm_engine.proofs.AppendChains.{grown_all-append}
use Rattle.pm_engine.proofs.ChangedFrames.{below_zero, names_zero, below_next, names_next}
use Rattle.pm_engine.proofs.FirstPages.{first_accepted}
use Rattle.pm_engine.proofs.FrameChanges.{held_stays}
use Rattle.pm_engine.proofs.FrameSteps.{cut_there}
use Rattle.pm_engine.proofs.HandedPages.{changed_at, changed_page, noted, bytes_grow, frames_in_hand}
use Rattle.pm_engine.proofs.LoggedLines.{logs_line}
use Rattle.pm_engine.proofs.OperationFrames.{names_once}
use Rattle.pm_engine.proofs.PageNames.{is_at, own_name, part_named, index_named, has_index-append}

-- ---- flags

stays_from : (n : ℕ) (f : Flag) → 2 ≤ n → n ≤ code_of f → IsTrue (stays f)
stays_from n flag.Empty low le = absurd (omega (arith, low, le))
stays_from n flag.Clean low le = absurd (omega (arith, low, le))
stays_from n flag.Dirty low le = refl
stays_from n flag.Due low le = refl
stays_from n flag.Done low le = refl

reached_stays : (was now : Flag) → IsReachedFrom was now → IsTrue (stays was) → IsTrue (stays now)
reached_stays was now (inl same) stay = subst (λ (f : Flag). IsTrue (stays f)) same stay
reached_stays was now (inr le) stay = stays_from (code_of was) now le.0 le.1

dirty_flag : (f : Flag) → f ≢ flag.Due → f ≢ flag.Done → IsTrue (stays f) → is_logged f ≡ true
dirty_flag flag.Empty not_due not_done stay = absurd (false≢true stay)
dirty_flag flag.Clean not_due not_done stay = absurd (false≢true stay)
dirty_flag flag.Dirty not_due not_done stay = refl
dirty_flag flag.Due not_due not_done stay = absurd (not_due refl)
dirty_flag flag.Done not_due not_done stay = absurd (not_done refl)

logged_flag : (f : Flag) → is_logged f ≡ true → IsTrue (stays f)
logged_flag flag.Empty is = absurd (false≢true is)
logged_flag flag.Clean is = absurd (false≢true is)
logged_flag flag.Dirty is = refl
logged_flag flag.Due is = absurd (false≢true is)
logged_flag flag.Done is = absurd (false≢true is)

both_equal : (a b : Bool) → (a ≡ true → b ≡ true) → (b ≡ true → a ≡ true) → a ≡ b
both_equal true true one two = refl
both_equal true false one two = absurd (false≢true (one refl))
both_equal false true one two = absurd (false≢true (two refl))
both_equal false false one two = refl

no_place : (o : Option (ℕ × ℕ)) (p : ℕ × ℕ) → o ≡ None → o ≡ Some p → ⊥
no_place o p none some = let bad : None ≡ Some p = sym none ∙ some in cc bad

same_frame : (p q : ℕ × ℕ) → Some p ≡ Some q → p.0 ≡ q.0
same_frame p q e = ap (λ (o : Option (ℕ × ℕ)). elim o as (λ _. ℕ) [ None ↦ p.0 | Some r ↦ r.0 ]) e

-- ---- a page in hand, where no checkpoint has to write a frame

module _ (locks : LockTable) (k : Kept) (holds : Holds locks k) (settled : AreSettled locks k.seat.view) (i : ℕ) (h : Held) (is : slice_get k.held i ≡ Some h) where
  -- its flag is that of the word that the seat knows
  word_flag : h.flag ≡ (known_at k.seat.view h.frame).flag
  word_flag =
      let held = holds.held i h is in
      sym held.out.flag_is ∙ ap (λ (w : LockWord). w.flag) ((settled.each h.frame held.frame).out held.out.out held.out.at)

  pub staying_flag : IsStaying k h.page → IsTrue (stays h.flag)
  staying_flag stay = by_read h.is_read refl
    where
      by_read : (read : Bool) → h.is_read ≡ read → IsTrue (stays h.flag)
      by_read true r = absurd (no_place (place_of k h.page) (stay.frame, stay.tag) ((holds.held i h is).from_file r).unkept stay.kept)
      by_read false r =
          let x = (holds.held i h is).from_frame r in
          let same : stay.frame ≡ h.frame = same_frame (stay.frame, stay.tag) (h.frame, h.tag) (sym stay.kept ∙ x.kept) in
          reached_stays stay.entry.flag h.flag (x.follows stay.entry (ap (last_put k) (sym same) ∙ stay.at)) stay.stay

  -- it is Dirty exactly where its page stays
  pub dirty_stays : is_logged h.flag ≡ true → IsStaying k h.page
  dirty_stays on = held_stays locks k h holds (holds.held i h is) (logged_flag h.flag on)

  pub stays_dirty : IsStaying k h.page → is_logged h.flag ≡ true
  stays_dirty stay =
      let known = settled.each h.frame (holds.held i h is).frame in
      dirty_flag h.flag (λ e. known.not_due (sym word_flag ∙ e)) (λ e. known.not_done (sym word_flag ∙ e)) (staying_flag stay)

-- ---- patches without a byte are none

abbrev pub some_patch : Option Coverage → Option Coverage
some_patch None = None
some_patch (Some patch) = if has_bytes patch then Some patch else None

some_changed : (o : Option Coverage) → is_changed (some_patch o) ≡ is_changed o
some_changed None = refl
some_changed (Some patch) = by (has_bytes patch) refl
  where
    by : (b : Bool) → has_bytes patch ≡ b → is_changed (let o : Option Coverage = if b then Some patch else None in o) ≡ b
    by true e = e
    by false e = refl

some_is : (o : Option Coverage) (patch : Coverage) → some_patch o ≡ Some patch → (o ≡ Some patch) × (has_bytes patch ≡ true)
some_is None patch e = absurd (let bad : None ≡ Some patch = e in cc bad)
some_is (Some found) patch e = by (has_bytes found) refl e
  where
    by : (b : Bool) → has_bytes found ≡ b → (let o : Option Coverage = if b then Some found else None in o) ≡ Some patch → (Some found ≡ Some patch) × (has_bytes patch ≡ true)
    by true has is = (is, (let same : found ≡ patch = cc is in ap has_bytes (sym same) ∙ has))
    by false has is = absurd (let bad : None ≡ Some patch = is in cc bad)

some_frames : (o : Option Coverage) (page : PageId) (bytes : List ℕ) (logged : Bool) → frames_with (some_patch o) page bytes logged ≡ frames_with o page bytes logged
some_frames None page bytes logged = refl
some_frames (Some patch) page bytes logged = by (has_bytes patch) refl
  where
    by : (b : Bool) → has_bytes patch ≡ b → frames_with (let o : Option Coverage = if b then Some patch else None in o) page bytes logged ≡ frames_with (Some patch) page bytes logged
    by true e = refl
    by false e = ap (λ (b : Bool). let fs : List Frame = if b then record_frame (log.page_record page bytes patch logged) ∷ [] else [] in fs) (sym e)

-- ---- pages that are seen alike have the same frames and names

record SeenAlike (a b : Paged) (logged : List PageId) (n : ℕ) : Type 0 where
  frames : (i : ℕ) → i < n → frames_at a logged i ≡ frames_at b logged i
  names : (i : ℕ) → i < n → names_at a logged i ≡ names_at b logged i

alike : (a b : Paged) (logged : List PageId) (n : ℕ) → SeenAlike a b logged n → (frames_below a logged n ≡ frames_below b logged n) × (names_below a logged n ≡ names_below b logged n)
alike a b logged zero same = (below_zero a logged ∙ sym (below_zero b logged), names_zero a logged ∙ sym (names_zero b logged))
alike a b logged (suc n) same =
    let rest = alike a b logged n (record { frames = λ i lt. same.frames i (omega (arith, lt)); names = λ i lt. same.names i (omega (arith, lt)) }) in (
      below_next a logged n (suc n) (omega arith) ∙ (λ j. rest.0 j ++ same.frames n (omega arith) j) ∙ sym (below_next b logged n (suc n) (omega arith)),
      names_next a logged n (suc n) (omega arith) ∙ (λ j. rest.1 j ++ same.names n (omega arith) j) ∙ sym (names_next b logged n (suc n) (omega arith)),
    )

-- ---- which pages are named

module _ (seen : Paged) (logged : List PageId) (small : seen.part < 2 ^ 16) where
  pub record NamedPage (q i n : ℕ) : Type 0 where
    pub part : q ≡ seen.part
    pub below : i < n
    pub changed : is_changed (seen.patch i) ≡ true

  one_only : (q i n : ℕ) → n < 2 ^ 32 → has_index q i (names_at seen logged n) ≡ true → NamedPage q i (n + 1)
  one_only q i n low has = by (is_changed (seen.patch n)) refl (not (has_index seen.part n logged)) has
    where
      by : (a : Bool) → is_changed (seen.patch n) ≡ a → (b : Bool) → has_index q i (let ns : List PageId = if a && b then page_id seen.part n ∷ [] else [] in ns) ≡ true → NamedPage q i (n + 1)
      by false e b is = absurd (false≢true is)
      by true e false is = absurd (false≢true is)
      by true e true is = by_at (is_at (page_id seen.part n) q i) refl is
        where
          by_at : (c : Bool) → is_at (page_id seen.part n) q i ≡ c → (if c then true else false) ≡ true → NamedPage q i (n + 1)
          by_at false at bad = absurd (false≢true bad)
          by_at true at good =
              let both = and_parts (part_of_id (page_id seen.part n) == q) (index_of_id (page_id seen.part n) == i) at in
              let q_is : q ≡ seen.part = sym (eqb-true _ _ both.0) ∙ part_named seen.part n small low in
              let i_is : i ≡ n = sym (eqb-true _ _ both.1) ∙ index_named seen.part n low in
              record { part = q_is; below = omega (arith, i_is); changed = ap (λ j. is_changed (seen.patch j)) i_is ∙ e }

  either_true : (a b : Bool) → (if a then true else b) ≡ true → (a ≡ true) ⊎ (b ≡ true)
  either_true true b is = inl refl
  either_true false b is = inr is

  pub named_only : (q i n : ℕ) → n ≤ 2 ^ 32 → has_index q i (names_below seen logged n) ≡ true → NamedPage q i n
  named_only q i zero few has = absurd (false≢true (sym (ap (has_index q i) (names_zero seen logged)) ∙ has))
  named_only q i (suc n) few has =
      let joined = sym (ap (has_index q i) (names_next seen logged n (suc n) (omega arith)) ∙ has_index-append q i (names_below seen logged n) (names_at seen logged n)) ∙ has in
      elim (either_true (has_index q i (names_below seen logged n)) (has_index q i (names_at seen logged n)) joined) [
        | inl before ↦ (let x = named_only q i n (omega (arith, few)) before in record { part = x.part; below = omega (arith, x.below); changed = x.changed })
        | inr here ↦ (let x = one_only q i n (omega (arith, few)) here in record { part = x.part; below = omega (arith, x.below); changed = x.changed })
      ]

  pub named_all : (i n : ℕ) → n ≤ 2 ^ 32 → i < n → is_changed (seen.patch i) ≡ true → has_index seen.part i logged ≡ false → has_index seen.part i (names_below seen logged n) ≡ true
  named_all i zero few lt changed new = absurd (omega (arith, lt))
  named_all i (suc n) few lt changed new =
      ap (has_index seen.part i) (names_next seen logged n (suc n) (omega arith)) ∙ has_index-append seen.part i (names_below seen logged n) (names_at seen logged n)
      ∙ elim (cases_eq i n) [
        | inl last ↦ either_last (has_index seen.part i (names_below seen logged n)) (has_index seen.part i (names_at seen logged n)) (at_last last)
        | inr before ↦ ap (λ (b : Bool). if b then true else has_index seen.part i (names_at seen logged n)) (named_all i n (omega (arith, few)) (omega (arith, lt, before)) changed new)
      ]
    where
      either_last : (a b : Bool) → b ≡ true → (if a then true else b) ≡ true
      either_last true b is = refl
      either_last false b is = is

      at_last : i ≡ n → has_index seen.part i (names_at seen logged n) ≡ true
      at_last last =
          ap (λ j. has_index seen.part i (names_at seen logged j)) (sym last)
          ∙ ap (λ (q : Bool × Bool). has_index seen.part i (let ns : List PageId = if q.0 && not q.1 then page_id seen.part i ∷ [] else [] in ns)) {x = (is_changed (seen.patch i), has_index seen.part i logged)} {y = (true, false)} (λ j. (changed j, new j))
          ∙ ap (λ (b : Bool). if b then true else false) (own_name seen.part i small (omega (arith, lt, few)))

-- ---- one operation

logical_record : (rec : Record) → MayBeLogical (Some rec) → IsRecord rec × (frame_for rec ≡ logical_frame (payload_of rec))
logical_record (Logical op cache key value) may = (may, refl)
logical_record (Snapshot page bytes) may = absurd may
logical_record (Delta page ranges) may = absurd may
logical_record (CpBegin number replay) may = absurd may
logical_record (Restart shape) may = absurd may
logical_record Seal may = absurd may

module _ {Q R : Type 0} (tells : Type 0) (history : R → History) (t : tells) (store : StoreState) (b c : Bound Q R) (has : HasStore history store b) (number : ℕ) (rec : Option Record) (part : ℕ) (x : HandsOverChange tells history number rec part b c) where
  abbrev k : Kept
  k = x.before.kept

  abbrev size : ℕ
  size = b.stripe.shape.page_size

  settled_then : AreSettled b.locks.now k.seat.view
  settled_then = x.before.sight.settled has.settled

  there : part < b.stripe.shape.partitions
  there = subst (λ (s : Shape). part < s.partitions) x.before.shape x.before.operates.there

  few : b.stripe.shape.partitions ≤ 64
  few = omega (arith, x.before.holds.shaped.partitions_to, ap (λ (s : Shape). s.partitions) x.before.shape)

  -- ---- what was handed over, by what the worker kept

  grows : GrowsByOperation number rec k.held b.stripe.outbox c.stripe.outbox
  grows = subst (λ (hs : List Held). GrowsByOperation number rec hs b.stripe.outbox c.stripe.outbox) (sym x.before.held_are) x.grows

  changed : (page : ChangedPage) → IsChangedPage k.held page → IsHandedOver history part b c page
  changed page is = x.changed page (subst (λ (hs : List Held). IsChangedPage hs page) x.before.held_are is)

  staying : (id : PageId) → IsStaying (kept_by c) id → IsStaying (kept_by b) id ⊎ IsChangedIn k.held id
  staying id is = subst (λ (hs : List Held). IsStaying (kept_by b) id ⊎ IsChangedIn hs id) (sym x.before.held_are) (x.staying id is)

  as_noted : ChangesAsNoted size (frame_pages history b part) (frame_pages history c part) (noted_in k.held part)
  as_noted = subst (λ (hs : List Held). ChangesAsNoted size (frame_pages history b part) (frame_pages history c part) (noted_in hs part)) (sym x.before.held_are) (x.noted t)

  -- ---- it operates on the partition

  page_named : (i : ℕ) (h : Held) → slice_get k.held i ≡ Some h → h.page ≡ page_id part (index_of_id h.page)
  page_named i h is = same_page h.page (page_id part (index_of_id h.page)) (omega (arith, x.before.operates.alone i h is, (x.before.holds.held i h is).own.name.flag))

  dirty_logged : (i : ℕ) (h : Held) → slice_get k.held i ≡ Some h → is_logged h.flag ≡ has_index part (index_of_id h.page) store.logged
  dirty_logged i h is =
      let index = index_of_id h.page in
      let low : index < 2 ^ 32 = omega arith in
      let name = page_named i h is in
      both_equal (is_logged h.flag) (has_index part index store.logged)
      (λ on. (has.logged part index there low).1 (subst (IsStaying (kept_by b)) name (x.before.stayed h.page (dirty_stays b.locks.now k x.before.holds settled_then i h is on))))
      (λ named. stays_dirty b.locks.now k x.before.holds settled_then i h is (x.before.still h.page (subst (IsStaying (kept_by b)) (sym name) ((has.logged part index there low).0 named))))

  operates_on : OperatesOn part store.logged k
  operates_on = record { locks = b.locks.now; holds = x.before.holds; operates = x.before.operates; dirty = dirty_logged }

  abbrev base : NotedPages
  base = framed_pages x.before.files 0 part k (2 ^ 32)

  base_noted : AreNoted part base
  base_noted = noted x.before.files 0 part k store.logged operates_on

  -- ---- the pages as the operation left them, cut to those that a store may have

  abbrev pub made : NotedPages
  made = record {
    seen = record (paged x.before.files 0 part k) {
      pages = frame_pages history c part;
      patch = λ i. some_patch (patch_of (held_at k.held (page_id part i).0));
    };
    count = 2 ^ 32;
  }

  bytes_then : (i : ℕ) → i < 2 ^ 32 → frame_pages history c part i ≡ page_bytes x.before.files k (page_id part i)
  bytes_then i low =
      cut_there c.stripe.shape part i (page_bytes (file_by history c) (kept_by c) (page_id part i)) (subst (λ (s : Shape). part < s.partitions) (sym x.seat.shape) there) low
      ∙ x.before.pages t (page_id part i)

  seen_alike : SeenAlike made.seen base.seen store.logged (2 ^ 32)
  seen_alike = record {
    frames = λ i low.
        some_frames (patch_of (held_at k.held (page_id part i).0)) (page_id part i) (bytes_of (frame_pages history c part i)) (has_index part i store.logged)
        ∙ ap (λ o. frames_with (patch_of (held_at k.held (page_id part i).0)) (page_id part i) (bytes_of o) (has_index part i store.logged)) (bytes_then i low);
    names = λ i low. ap (λ (b : Bool). let ns : List PageId = if b && not (has_index part i store.logged) then page_id part i ∷ [] else [] in ns) (some_changed (patch_of (held_at k.held (page_id part i).0)));
  }

  frames_same : noted_frames made store.logged ≡ noted_frames base store.logged
  frames_same = (alike made.seen base.seen store.logged (2 ^ 32) seen_alike).0

  are_noted : AreNoted part made
  are_noted = record {
    number = refl;
    small = omega (arith, there, few);
    few = omega arith;
    below = λ index on. base_noted.below index (sym (some_changed (patch_of (held_at k.held (page_id part index).0))) ∙ on);
  }

  -- what was noted of a page in hand is a patch
  fits : (index : ℕ) (patch : Coverage) → noted_in k.held part index ≡ Some patch → has_bytes patch ≡ true → IsPatch patch
  fits index patch is some = by (held_at k.held (page_id part index).0) refl
    where
      by : (o : Option Held) → held_at k.held (page_id part index).0 ≡ o → IsPatch patch
      by None away = absurd (let bad : None ≡ Some patch = ap patch_of (sym away) ∙ is in cc bad)
      by (Some h) at =
          let f = found_at k.held (page_id part index).0 h at in
          let one : IsChangedPage k.held (as_changed h patch) = record { place = f.0; page = h; patch = patch; at = f.1; patched = ap patch_of (sym at) ∙ is; some = some; is = refl } in
          grows.hands.is.fit (as_changed h patch) (grows.hands.is.lists.all (as_changed h patch) one)

  within : ChangesWithin store.shape.page_size (store.pages part) made.seen
  within = subst (λ (q : Shape × Partitions). ChangesWithin q.0.page_size (q.1 part) made.seen) {x = (b.stripe.shape, frame_pages history b)} {y = (store.shape, store.pages)} (λ i. (sym has.shape i, sym has.pages i)) (record {
    unchanged = λ index off. as_noted.unchanged index (sym (some_changed (noted_in k.held part index)) ∙ off);
    there = λ index on. as_noted.there index (sym (some_changed (noted_in k.held part index)) ∙ on);
    patched = λ index patch is.
        let found = some_is (noted_in k.held part index) patch is in
        let one = as_noted.noted index patch found.0 in
        record { fits = fits index patch found.0 found.1; size_is = one.size_is; within = one.within };
  })

  changes : ChangesPart part store.pages (frame_pages history c) made.seen.pages
  changes = record {
    here = λ index. refl;
    elsewhere = λ other index ne. x.elsewhere t other index ne ∙ ap (λ (p : Partitions). p other index) (sym has.pages);
  }

  some_same : (o o' : Option (List ℕ)) → o ≡ o' → IsSome o → IsSome o'
  some_same o o' same some = ap is_some (sym same) ∙ some

  -- a page that was there is there still
  there_still : (index : ℕ) → IsSome (store.pages part index) → IsSome (frame_pages history c part index)
  there_still index some = elim (bool_cases (is_changed (noted_in k.held part index))) [
    | inl on ↦ ap is_some (as_noted.there index on).is
    | inr off ↦ some_same (store.pages part index) (frame_pages history c part index) (ap (λ (p : Partitions). p part index) has.pages ∙ sym (as_noted.unchanged index off)) some
  ]

  -- ---- the line

  module _ (line : Line) (part_is : part_of_line store.shape line ≡ part) (accepted : is_accepted store.shape line (map_of store) ≡ true)
      (map : pairs_in store.shape.partitions (frame_pages history c) ≡ after store.shape line (map_of store)) (well : AllWellFormed store.shape (frame_pages history c)) where
    first_here : IsSome (frame_pages history c part 0)
    first_here = subst (λ p. IsSome (frame_pages history c p 0)) part_is
        (first_accepted store.shape line store.pages (frame_pages history c) (subst (λ (s : Shape). 1 ≤ s.partitions) (sym has.shape) (omega (arith, there))) has.holds.well_formed well accepted map
        (subst (λ p. IsSome (store.pages p 0) → IsSome (frame_pages history c p 0)) (sym part_is) (there_still 0)))

    first_pages : HaveFirstPages store.shape (frame_pages history c)
    first_pages = λ q index below some. elim (cases_eq q part) [
      | inl same ↦ subst (λ p. IsSome (frame_pages history c p 0)) (sym same) first_here
      | inr ne ↦
          let was = has.holds.first_pages q index below (some_same (frame_pages history c q index) (store.pages q index) (changes.elsewhere q index ne) some) in
          some_same (store.pages q 0) (frame_pages history c q 0) (sym (changes.elsewhere q 0 ne)) was
    ]

    pub change : ChangesStore store part made (frame_pages history c)
    change = record {
      inside = subst (λ (s : Shape). part < s.partitions) (sym has.shape) there;
      names = are_noted;
      within = within;
      changes = changes;
      well_formed = well;
      first_pages = first_pages;
    }

    pub few_frames : length (noted_frames made store.logged) ≤ 32
    few_frames = omega (arith, ap length frames_same, frames_in_hand x.before.files 0 part (2 ^ 32) k store.logged operates_on)

    -- what was handed over are its record, if there is one, and the records of its pages
    pub hands_after : (old : List Frame) → SpellOperationRecords b.stripe.outbox old → SpellOperationRecords c.stripe.outbox (old ++ after_logical rec (noted_frames made store.logged))
    hands_after old were =
        subst (λ (fs : List Frame). SpellOperationRecords c.stripe.outbox (old ++ after_logical rec fs)) (sym frames_same)
        (bytes_grow x.before.files 0 part k store.logged operates_on (2 ^ 32) base_noted number rec b.stripe.outbox c.stripe.outbox old were grows)

    -- ---- the pages that are logged then

    abbrev names : List PageId
    names = noted_names made store.logged

    -- a page that was changed stays
    changed_stays : (i : ℕ) → is_changed (noted_in k.held part i) ≡ true → IsStaying (kept_by c) (page_id part i)
    changed_stays i on =
        let one = changed_page x.before.files 0 part k store.logged operates_on i on in
        let handed = changed one.page one.is_one in
        subst (IsStaying (kept_by c)) (handed.name ∙ ap (page_id part) one.at) handed.staying

    joined : (q i : ℕ) → has_index q i (operation_names store made) ≡ (if has_index q i store.logged then true else has_index q i names)
    joined q i = has_index-append q i store.logged names

    named_stays : (q i : ℕ) → q < b.stripe.shape.partitions → i < 2 ^ 32 → has_index q i (operation_names store made) ≡ true → IsStaying (kept_by c) (page_id q i)
    named_stays q i below low is = by (has_index q i store.logged) refl (sym (joined q i) ∙ is)
      where
        by : (a : Bool) → has_index q i store.logged ≡ a → (if a then true else has_index q i names) ≡ true → IsStaying (kept_by c) (page_id q i)
        by true was fine = x.still (page_id q i) ((has.logged q i below low).0 was)
        by false new fine =
            let one = named_only made.seen store.logged (omega (arith, are_noted.small)) q i (2 ^ 32) (omega arith) fine in
            subst (λ p. IsStaying (kept_by c) (page_id p i)) (sym one.part) (changed_stays i (sym (some_changed (noted_in k.held part i)) ∙ one.changed))

    stays_named : (q i : ℕ) → q < b.stripe.shape.partitions → i < 2 ^ 32 → IsStaying (kept_by c) (page_id q i) → has_index q i (operation_names store made) ≡ true
    stays_named q i below low stay = joined q i ∙ elim (staying (page_id q i) stay) [
      | inl was ↦ ap (λ (a : Bool). if a then true else has_index q i names) ((has.logged q i below low).1 was)
      | inr on ↦ by_new on
    ]
      where
        by_new : IsChangedIn k.held (page_id q i) → (if has_index q i store.logged then true else has_index q i names) ≡ true
        by_new on =
            let name = (changed on.page on.changed).name in
            let index = index_of_id on.page.page in
            let short : index < 2 ^ 32 = omega arith in
            let same : (page_id part index).0 ≡ (page_id q i).0 = ap (λ (p : PageId). p.0) (sym name ∙ on.is) in
            let q_is : q ≡ part = omega (arith, same, low, short) in
            let i_is : index ≡ i = omega (arith, same, low, short) in
            let seen_changed : is_changed (noted_in k.held part i) ≡ true = ap (λ j. is_changed (noted_in k.held part j)) (sym i_is ∙ ap (λ (p : ChangedPage). index_of_id p.page) on.changed.is) ∙ changed_at x.before.files 0 part k store.logged operates_on on.page on.changed in
            by_logged (has_index q i store.logged) refl q_is (some_changed (noted_in k.held part i) ∙ seen_changed)
          where
            by_logged : (a : Bool) → has_index q i store.logged ≡ a → q ≡ part → is_changed (made.seen.patch i) ≡ true → (if a then true else has_index q i names) ≡ true
            by_logged true was q_is on = refl
            by_logged false new q_is on =
                ap (λ p. has_index p i names) q_is
                ∙ named_all made.seen store.logged (omega (arith, are_noted.small)) i (2 ^ 32) (omega arith) low on (ap (λ p. has_index p i store.logged) (sym q_is) ∙ new)

    pub has_after : (frames : List Frame) → HasStore history (appended_to store frames (frame_pages history c) (operation_names store made)) c
    has_after frames = record {
      shape = has.shape ∙ sym x.seat.shape;
      pages = refl;
      logged = λ q i below low.
          let inside : q < b.stripe.shape.partitions = subst (λ (s : Shape). q < s.partitions) x.seat.shape below in
          (named_stays q i inside low, stays_named q i inside low);
      holds = record {
        well_formed = well;
        first_pages = first_pages;
        once = names_once made.seen store.logged (2 ^ 32) (omega (arith, are_noted.small)) (omega arith) has.holds.once;
      };
      settled = subst (λ l. AreSettled l.now c.seat.view) (sym x.seat.locks) (x.seat.sight.settled has.settled);
    }

    -- ---- it has a record

    module _ (given : Record) (is_given : rec ≡ Some given) (is_line : record_of_line line ≡ Some given) where
      logical : MayBeLogical (Some given)
      logical = subst (λ (o : Option Record). MayBeLogical o) is_given x.logical

      made_of : IsPayloadOf (record_of_line line) (payload_of given)
      made_of = subst (λ o. IsPayloadOf o (payload_of given)) (sym is_line) ((logical_record given logical).0, refl)

      abbrev pub frame : Frame
      frame = logical_frame (payload_of given)

      pub makes : MakesPages store part made frame (frame_pages history c)
      makes =
          let found = logical_of store.shape line (map_of store) (payload_of given) accepted made_of in
          let logs = logs_line store.shape line (map_of store) (payload_of given) accepted made_of in
          record {
            change = change;
            logical = found.logical;
            logical_is = found.is;
            no_page = found.no_page;
            kind = record { known_from = omega arith; known_to = omega arith; short = logs.short };
            map = logs.again ∙ ap (λ (pairs : Pairs). Some pairs) (sym map);
          }

      pub operates_line : OperatesForLine store line (operation_frames store made frame) (frame_pages history c) (operation_names store made)
      operates_line = record {
        part = part;
        noted = made;
        frame = frame;
        makes = makes;
        frames_are = refl;
        logged_are = refl;
        few = few_frames;
        map = map;
      }

      pub hands_frames : (old : List Frame) → SpellOperationRecords b.stripe.outbox old → SpellOperationRecords c.stripe.outbox (old ++ operation_frames store made frame)
      hands_frames old were =
          subst (λ (fs : List Frame). SpellOperationRecords c.stripe.outbox (old ++ fs)) {x = after_logical rec (noted_frames made store.logged)} {y = operation_frames store made frame}
          (ap (λ (o : Option Record). after_logical o (noted_frames made store.logged)) is_given ∙ ap (λ (f : Frame). f ∷ noted_frames made store.logged) (logical_record given logical).1)
          (hands_after old were)

-- ---- one line

-- nothing changed: the worker has the same store
pub nothing_has : {Q R : Type 0} (tells : Type 0) (history : R → History) (t : tells) (store : StoreState) (b c : Bound Q R) (frames : List Frame) → HasStore history store b → ChangesNothing tells history b c → HasStore history (appended_to store frames (frame_pages history c) store.logged) c
nothing_has tells history t store b c frames has none = record {
  shape = has.shape ∙ sym none.seat.shape;
  pages = refl;
  logged = λ q i below low.
      let inside : q < b.stripe.shape.partitions = subst (λ (s : Shape). q < s.partitions) none.seat.shape below in
      (λ is. none.still (page_id q i) ((has.logged q i inside low).0 is), λ stay. (has.logged q i inside low).1 (none.staying (page_id q i) stay));
  holds = record {
    well_formed = subst (λ (p : Partitions). AllWellFormed store.shape p) (has.pages ∙ sym (none.told t)) has.holds.well_formed;
    first_pages = subst (λ (p : Partitions). HaveFirstPages store.shape p) (has.pages ∙ sym (none.told t)) has.holds.first_pages;
    once = has.holds.once;
  };
  settled = subst (λ l. AreSettled l.now c.seat.view) (sym none.seat.locks) (none.seat.sight.settled has.settled);
}

-- a line was done
record StepsOne {Q R : Type 0} (history : R → History) (line : Line) (store : StoreState) (b c : Bound Q R) : Type 0 where
  frames : List Frame
  logged : List PageId
  step : StepsLine store line frames (frame_pages history c) logged
  has : HasStore history (appended_to store frames (frame_pages history c) logged) c
  hands : (old : List Frame) → SpellOperationRecords b.stripe.outbox old → SpellOperationRecords c.stripe.outbox (old ++ frames)

pub same_outbox : (out out' : List ℕ) (old : List Frame) → out' ≡ out → SpellOperationRecords out old → SpellOperationRecords out' (old ++ [])
same_outbox out out' old same were = subst (λ (q : List ℕ × List Frame). SpellOperationRecords q.0 q.1) {x = (out, old)} {y = (out', old ++ [])} (λ i. (sym same i, sym (append-nil old) i)) were

module _ {Q R : Type 0} (tells : Type 0) (history : R → History) (t : tells) where
  line_steps : (number : ℕ) (line : Line) (store : StoreState) (b c : Bound Q R) (was now : ReplyList) → HasStore history store b → DoesNext tells history number line b c was now → StepsOne history line store b c
  line_steps number line store b c was now has next = by next.accepted refl
    where
      well_then : AllWellFormed b.stripe.shape (frame_pages history b)
      well_then = subst (λ (q : Shape × Partitions). AllWellFormed q.0 q.1) {x = (store.shape, store.pages)} {y = (b.stripe.shape, frame_pages history b)} (λ i. (has.shape i, has.pages i)) has.holds.well_formed

      evaluates : EvaluatesLine store.shape line store.pages (frame_pages history c) was now next.accepted
      evaluates = subst (λ (q : Shape × Partitions). EvaluatesLine q.0 line q.1 (frame_pages history c) was now next.accepted) {x = (b.stripe.shape, frame_pages history b)} {y = (store.shape, store.pages)} (λ i. (sym has.shape i, sym has.pages i)) (next.evaluates t well_then)

      by : (a : Bool) → next.accepted ≡ a → StepsOne history line store b c
      by false off =
          let none = next.does.refused off in
          let pages_are : frame_pages history c ≡ store.pages = none.told t ∙ sym has.pages in
          record {
            frames = [];
            logged = store.logged;
            step = inl (record {
              frames_are = refl;
              pages_are = pages_are;
              logged_are = refl;
              map = sym evaluates.map ∙ ap (λ (p : Partitions). pairs_in store.shape.partitions p) pages_are;
            });
            has = nothing_has tells history t store b c [] has none;
            hands = λ old were. same_outbox b.stripe.outbox c.stripe.outbox old none.outbox were;
          }
      by true on =
          let h = next.does.hands on in
          let part = part_of_line b.stripe.shape line in
          let part_is : part_of_line store.shape line ≡ part = ap (λ (s : Shape). part_of_line s line) has.shape in
          let accepted : is_accepted store.shape line (map_of store) ≡ true = sym evaluates.accepted_is ∙ on in
          let noted = made tells history t store b c has number (Some h.rec) part h.change in
          let fs = operation_frames store noted (logical_frame (payload_of h.rec)) in
          record {
            frames = fs;
            logged = operation_names store noted;
            step = inr (operates_line tells history t store b c has number (Some h.rec) part h.change line part_is accepted evaluates.map evaluates.well_formed h.rec refl h.is);
            has = has_after tells history t store b c has number (Some h.rec) part h.change line part_is accepted evaluates.map evaluates.well_formed fs;
            hands = hands_frames tells history t store b c has number (Some h.rec) part h.change line part_is accepted evaluates.map evaluates.well_formed h.rec refl h.is;
          }

  -- ---- all of them

  pub lines_step : (lines : List Line) (number : ℕ) (store : StoreState) (b c : Bound Q R) (was now : ReplyList) → HasStore history store b → DoesLines tells history number lines b c was now → StepsStore history lines store b c
  lines_step [] number store b c was now has none = record {
    frames = [];
    logged = store.logged;
    steps = (refl, none.0.told t ∙ sym has.pages, refl);
    has = nothing_has tells history t store b c [] has none.0;
    hands = λ old were. same_outbox b.stripe.outbox c.stripe.outbox old none.0.outbox were;
  }
  lines_step (line ∷ lines) number store b c was now has (m, mid, next, rest) =
      let one = line_steps number line store b m was mid has next in
      let then_store = appended_to store one.frames (frame_pages history m) one.logged in
      let more = lines_step lines (number + 1) then_store m c mid now one.has rest in
      record {
        frames = one.frames ++ more.frames;
        logged = more.logged;
        steps = (one.frames, frame_pages history m, one.logged, more.frames, one.step, more.steps, refl);
        has = subst (λ (l : LogEnd). HasStore history (record store { pages = frame_pages history c; logged = more.logged; log = l }) c) (sym (grown_all-append store.log one.frames more.frames)) more.has;
        hands = λ old were. subst (λ (fs : List Frame). SpellOperationRecords c.stripe.outbox fs) (append_assoc old one.frames more.frames) (more.hands (old ++ one.frames) (one.hands old were));
      }
