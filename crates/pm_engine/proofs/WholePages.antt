-- Pages that a checkpoint leaves as they are, and those of an engine that applies its log again.
use Rattle.std.proofs.Common.{◌≡◌, ◌≢◌, inl, inr, ℕ, ◌+◌, ◌*◌, ◌^◌, ◌<◌, ◌≤◌, Bool, true, false, List, length, Option, Some, None, refl, sym, ap, ◌∙◌, subst, arith}
use Rattle.std.specs.Prelude.{if◌then◌else◌, IsSome, is_some}
use Rattle.std.specs.Option.{option_map, option_or}
use Rattle.std.proofs.lemmas.Bool.{cases_eq, cases_lt}
use Rattle.pm_types.specs.declared.shape.Shape.{Shape}
use Rattle.pm_types.specs.Ids.{page_id}
use Rattle.pm_disk.specs.Files.{File, Change, bytes_of, content}
use Rattle.pm_disk.specs.Files as files
use Rattle.pm_disk.specs.Worlds.{World, pages_in}
use Rattle.pm_locks.specs.declared.view.Entry.{Entry}
use Rattle.pm_model.specs.declared.line.Line.{Line}
use Rattle.pm_model.specs.Eval.{Pairs, is_accepted, after}
use Rattle.pm_model.specs.Orders.{part_of_line}
use Rattle.pm_records.proofs.Runs.{bool_cases, option_cases}
use Rattle.pm_pages.specs.Rows.{Partition}
use Rattle.pm_pages.specs.WellFormed.{IsWellFormed}
use Rattle.pm_core.specs.BasePages.{Partitions, counted, page_in_file, laid_over}
use Rattle.pm_core.specs.Held.{AllWellFormed, pairs_in}
use Rattle.pm_core.specs.PageLaws.{Grows}
use Rattle.pm_core.specs.PageSets.{has_index}
use Rattle.pm_core.specs.States.{State}
use Rattle.pm_core.proofs.Junk.{counted_same, pairs_same}
use Rattle.pm_core.proofs.Ranges.{page_within, page_there}
use Rattle.pm_stripe.specs.declared.held.Held.{Held}
use Rattle.pm_stripe.specs.Kept.{Kept, held_at, place_of, bytes_by, page_bytes}
use Rattle.pm_stripe.specs.Reads.{stored}
use Rattle.pm_stripe.specs.Stripes.{kept, file_in}
use Rattle.pm_ckpt.proofs.RestingStripes.{stored_is}
use Rattle.pm_engine.specs.FrameCheckpoints.{IsCheckpointed}
use Rattle.pm_engine.specs.EngineReplays.{HasWholePages, IsReplayingIn}
use Rattle.pm_engine.specs.Engines.{FrameRunning, running_in}
use Rattle.pm_engine.specs.FrameStores.{FrameStoreView, pages_in_frames, pages_in_files, IsDirtyPage, HasCleanPages}
use Rattle.pm_engine.specs.RunningStores.{StoreState}
use Rattle.pm_engine.specs.TrackedPages.{HaveFirstPages}
use Rattle.pm_engine.proofs.CheckpointedFrames.{cut_past}
use Rattle.pm_engine.proofs.FirstPages.{first_accepted}
use Rattle.pm_engine.proofs.FrameSteps.{cut_some, cut_there}
use Rattle.pm_engine.proofs.GrownStores.{first_grown}
use Rattle.pm_engine.proofs.PageNames.{part_named, index_named}
use Rattle.pm_engine.proofs.ReplayingCheckpoints.{files_settled, good_now, none_rebuilt}
use Rattle.pm_engine.proofs.TakenLines.{take_none}

some_same : (o o' : Option (List ℕ)) → o ≡ o' → IsSome o → IsSome o'
some_same o o' same some = ap is_some (sym same) ∙ some

none_some : (o : Option (List ℕ)) → o ≡ None → IsSome o → ⊥
none_some None is some = absurd cc
none_some (Some page) is some = absurd cc

-- ---- the pages of a file

-- a file without its first page has no page
pub none_in_file : (size : ℕ) (file : Option (List ℕ)) → page_in_file size file 0 ≡ None → (index : ℕ) → page_in_file size file index ≡ None
none_in_file size file none index = elim (option_cases (page_in_file size file index)) [
  | inl away ↦ away
  | inr there ↦
      let long = (page_within size index file there.0 there.1).0 in
      absurd (none_some (page_in_file size file 0) none (ap is_some (page_there size 0 file (omega (arith, long)))))
]

-- and one that has a page has its first one
first_in_file : (size : ℕ) (file : Option (List ℕ)) (index : ℕ) → IsSome (page_in_file size file index) → IsSome (page_in_file size file 0)
first_in_file size file index some = elim (option_cases (page_in_file size file 0)) [
  | inl none ↦ absurd (none_some (page_in_file size file index) (none_in_file size file none index) some)
  | inr there ↦ ap is_some there.1
]

short_file : (size : ℕ) (file : Option (List ℕ)) → length (bytes_of file) < 0 * size + size → page_in_file size file 0 ≡ None
short_file size file short = elim (option_cases (page_in_file size file 0)) [
  | inl away ↦ away
  | inr there ↦ absurd (omega (arith, short, (page_within size 0 file there.0 there.1).0))
]

-- ---- pages that stay, and those that a line changes

-- they are the same, and so are the files
pub whole_same : (old new : FrameStoreView) (w v : World) → new.shape ≡ old.shape → pages_in_frames new v ≡ pages_in_frames old w → v.pages ≡ w.pages → HasWholePages old w → HasWholePages new v
whole_same old new w v shape pages same whole = record {
  well_formed = subst (λ (q : Shape × Partitions). AllWellFormed q.0 q.1) {x = (old.shape, pages_in_frames old w)} {y = (new.shape, pages_in_frames new v)} (λ i. (sym shape i, sym pages i)) whole.well_formed;
  first_pages = subst (λ (q : Shape × Partitions). HaveFirstPages q.0 q.1) {x = (old.shape, pages_in_frames old w)} {y = (new.shape, pages_in_frames new v)} (λ i. (sym shape i, sym pages i)) whole.first_pages;
  none_unread = subst (λ (q : Shape × Partitions × (ℕ → File)). (part : ℕ) → part < q.0.partitions → q.1 part 0 ≡ None → page_in_file q.0.page_size (content (q.2 part)) 0 ≡ None)
      {x = (old.shape, pages_in_frames old w, w.pages)} {y = (new.shape, pages_in_frames new v, v.pages)} (λ i. (sym shape i, sym pages i, sym same i)) whole.none_unread;
}

-- An accepted line changed pages of its partition alone, where the first one is there still.
pub record ChangesOwnPart (line : Line) (shape : Shape) (old new : Partitions) : Type 0 where
  pub still : IsSome (old (part_of_line shape line) 0) → IsSome (new (part_of_line shape line) 0)
  pub elsewhere : (other index : ℕ) → other ≢ part_of_line shape line → new other index ≡ old other index

module _ (line : Line) (old new : FrameStoreView) (w v : World) (shape_is : new.shape ≡ old.shape) (same : v.pages ≡ w.pages) (changes : ChangesOwnPart line old.shape (pages_in_frames old w) (pages_in_frames new v)) (accepted : is_accepted old.shape line (pairs_in old.shape.partitions (pages_in_frames old w)) ≡ true)
    (map : pairs_in old.shape.partitions (pages_in_frames new v) ≡ after old.shape line (pairs_in old.shape.partitions (pages_in_frames old w))) (well : AllWellFormed old.shape (pages_in_frames new v)) (whole : HasWholePages old w) where
  abbrev was : Partitions
  was = pages_in_frames old w

  abbrev now : Partitions
  now = pages_in_frames new v

  own_first : 1 ≤ old.shape.partitions → IsSome (now (part_of_line old.shape line) 0)
  own_first some = first_accepted old.shape line was now some whole.well_formed well accepted map changes.still

  firsts : HaveFirstPages old.shape now
  firsts part index below some = elim (cases_eq part (part_of_line old.shape line)) [
    | inl own ↦ subst (λ p. IsSome (now p 0)) (sym own) (own_first (omega (arith, below)))
    | inr other ↦
        some_same (was part 0) (now part 0) (sym (changes.elsewhere part 0 other))
        (whole.first_pages part index below (some_same (now part index) (was part index) (changes.elsewhere part index other) some))
  ]

  was_none : (part : ℕ) → part < old.shape.partitions → now part 0 ≡ None → was part 0 ≡ None
  was_none part below none = elim (cases_eq part (part_of_line old.shape line)) [
    | inl own ↦ absurd (none_some (now part 0) none (subst (λ p. IsSome (now p 0)) (sym own) (own_first (omega (arith, below)))))
    | inr other ↦ sym (changes.elsewhere part 0 other) ∙ none
  ]

  pub whole_changed : HasWholePages new v
  whole_changed = record {
    well_formed = subst (λ (k : Shape). AllWellFormed k now) (sym shape_is) well;
    first_pages = subst (λ (k : Shape). HaveFirstPages k now) (sym shape_is) firsts;
    none_unread = subst (λ (q : Shape × (ℕ → File)). (part : ℕ) → part < q.0.partitions → now part 0 ≡ None → page_in_file q.0.page_size (content (q.1 part)) 0 ≡ None)
        {x = (old.shape, w.pages)} {y = (new.shape, v.pages)} (λ i. (sym shape_is i, sym same i)) (λ part below none. whole.none_unread part below (was_none part below none));
  }

-- ---- a checkpoint

-- a page that stays in its frame is there
module _ (store : FrameStoreView) (w : World) (part index : ℕ) where
  abbrev k : Kept
  k = kept store.stripe store.seat

  pub dirty_there : part < store.shape.partitions → index < 2 ^ 32 → IsDirtyPage store (page_id part index) → IsSome (pages_in_frames store w part index)
  dirty_there below low stays = ap is_some (cut_there store.shape part index (page_bytes (file_in store.stripe w) k (page_id part index)) below low) ∙ by (held_at k.held (page_id part index).0)
    where
      by : (o : Option Held) → IsSome (bytes_by o (place_of k (page_id part index)) k.seat.view.entries k.number (file_in store.stripe w (page_id part index)))
      by (Some h) = refl
      by None =
          ap (λ (p : Option (ℕ × ℕ)). is_some (bytes_by None p k.seat.view.entries k.number (file_in store.stripe w (page_id part index)))) stays.kept
          ∙ ap (λ (o : Option Entry). is_some (option_map (λ (e : Entry). e.bytes) o)) stays.at

module _ (old new : FrameStoreView) (w v : World) (tells : Type 0) (t : tells) (done : IsCheckpointed tells w v old new) (clean : HasCleanPages old w) (whole : HasWholePages old w) where
  abbrev before : Partitions
  before = pages_in_frames old w

  abbrev after_it : Partitions
  after_it = pages_in_frames new v

  -- a partition without a page has none afterwards
  module _ (part : ℕ) (below : part < old.shape.partitions) (none : before part 0 ≡ None) where
    none_dirty : (index : ℕ) → index < 2 ^ 32 → IsDirtyPage old (page_id part index) → ⊥
    none_dirty index low stays = none_some (before part 0) none (whole.first_pages part index below (dirty_there old w part index below low stays))

    none_after : (index : ℕ) → after_it part index ≡ None
    none_after index = elim (cases_lt index (2 ^ 32)) [
      | inl low ↦
          done.as_files t clean part index below low
          ∙ ap (λ (file : Option (List ℕ)). page_in_file old.shape.page_size file index) (done.alone t part below none_dirty)
          ∙ none_in_file old.shape.page_size (pages_in w part) (whole.none_unread part below none) index
      | inr past ↦ cut_past new.shape part index (page_bytes (file_in new.stripe v) (kept new.stripe new.seat) (page_id part index)) past
    ]

  grows : (part : ℕ) → part < old.shape.partitions → Grows (before part) (after_it part)
  grows part below = record {
    stays = λ index page there. done.pages t part index page there;
    comes = λ index away. elim (option_cases (before part 0)) [
      | inl none ↦ inl (none_after part below none index)
      | inr some ↦ inr (ap is_some some.1)
    ];
  }

  same : (part : ℕ) → part < old.shape.partitions → counted (after_it part) ≡ counted (before part)
  same part below = counted_same old.shape part (before part) (after_it part) (whole.well_formed part below) (grows part below)

  by_shape : (P : Shape → Type 0) → P old.shape → P new.shape
  by_shape P is = subst P (sym done.shape) is

  pub whole_checked : HasWholePages new v
  whole_checked = record {
    well_formed = by_shape (λ k. AllWellFormed k after_it) (λ part below. subst (λ (pages : Partition). IsWellFormed old.shape part pages) (sym (same part below)) (whole.well_formed part below));
    first_pages = by_shape (λ k. HaveFirstPages k after_it) (λ part index below some. first_grown (before part) (after_it part) index (grows part below) (whole.first_pages part index below) some);
    none_unread = by_shape (λ k. (part : ℕ) → part < k.partitions → after_it part 0 ≡ None → page_in_file k.page_size (pages_in v part) 0 ≡ None)
        (λ part below none. sym (done.as_files t clean part 0 below (omega arith)) ∙ none);
  }

  pub map_checked : pairs_in new.shape.partitions after_it ≡ pairs_in old.shape.partitions before
  map_checked = ap (λ (k : Shape). pairs_in k.partitions after_it) done.shape ∙ pairs_same old.shape.partitions before after_it same

-- ---- an engine that applies its log again

module _ (wanted : Shape) (told : List ℕ → ℕ) (pairs : Pairs) (engine : FrameRunning) (s : State) (w : World) (is : IsReplayingIn wanted told pairs engine s w) where
  abbrev store : StoreState
  store = running_in engine w is.logged

  module _ (part : ℕ) (below : part < engine.store.shape.partitions) (none : store.pages part 0 ≡ None) where
    unlogged : has_index part 0 is.logged ≡ false
    unlogged = elim (bool_cases (has_index part 0 is.logged)) [
      | inl on ↦ absurd (none_some (store.pages part 0) none (ap is_some (is.runs.tracks.there part 0 on).is))
      | inr off ↦ off
    ]

    not_in_files : s.files part 0 ≡ None
    not_in_files =
        let away : is.runs.files part 0 ≡ None = sym (is.runs.tracks.clean part 0 below unlogged) ∙ none in
        elim ((is.runs.grows part below).comes 0 away) [
          | inl still ↦ still
          | inr first ↦ absurd (none_some (is.runs.files part 0) away first)
        ]

    not_rebuilt : s.now.rebuilt part 0 ≡ None
    not_rebuilt = ap (λ (p : Partitions). p part 0) (none_rebuilt wanted told store pairs s w is.runs)

    unread : page_in_file engine.store.shape.page_size (pages_in w part) 0 ≡ None
    unread = elim ((good_now wanted told store pairs s w is.runs).pages_stand.absent part 0 not_rebuilt not_in_files) [
      | inl short ↦
          let file = w.pages part in
          let settled = files_settled wanted told store pairs s w is.runs part in
          let forced : files.at_change file 0 ≡ file.forced = ap (λ (cs : List Change). files.after cs file.forced) (take_none file.since) in
          let now : pages_in w part ≡ file.forced = ap (λ (cs : List Change). files.after cs file.forced) settled in
          short_file engine.store.shape.page_size (pages_in w part)
          (omega (arith, short 0 (omega arith), ap (λ (o : Option (List ℕ)). length (bytes_of o)) forced, ap (λ (o : Option (List ℕ)). length (bytes_of o)) now, ap (λ (k : Shape). 0 * k.page_size + k.page_size) is.runs.log.shape))
      | inr some ↦ absurd (none_some (laid_over s.now.rebuilt s.files part 0) ((λ i. option_or (not_rebuilt i) (not_in_files i))) some)
    ]

  pub running_whole : HasWholePages engine.store w
  running_whole = record { well_formed = is.runs.holds.well_formed; first_pages = is.runs.holds.first_pages; none_unread = unread }

-- ---- a store that has no page in a frame yet

module _ (store : FrameStoreView) (w : World) (few : store.shape.partitions ≤ 64) (shaped : store.stripe.shape ≡ store.shape) (pages : pages_in_frames store w ≡ pages_in_files store.shape store.stripe w) where
  -- where the files are read, its pages are theirs
  page_read : store.stripe.files ≡ true → (part index : ℕ) → part < store.shape.partitions → index < 2 ^ 32 → pages_in_frames store w part index ≡ page_in_file store.shape.page_size (pages_in w part) index
  page_read on part index below low =
      let id = page_id part index in
      ap (λ (p : Partitions). p part index) pages
      ∙ cut_there store.shape part index (file_in store.stripe w id) below low
      ∙ ap (λ (b : Bool). let o : Option (List ℕ) = if b then stored w store.stripe.shape.page_size id else None in o) on
      ∙ stored_is w store.stripe.shape.page_size id
      ∙ (λ i. page_in_file (shaped i).page_size (pages_in w (part_named part index (omega (arith, below, few)) low i)) (index_named part index low i))

  -- and else it has none
  none_read : store.stripe.files ≡ false → (part index : ℕ) → pages_in_frames store w part index ≡ None
  none_read off part index = elim (option_cases (pages_in_files store.shape store.stripe w part index)) [
    | inl none ↦ ap (λ (p : Partitions). p part index) pages ∙ none
    | inr some ↦
        let id = page_id part index in
        let there : file_in store.stripe w id ≡ Some some.0 = cut_some store.shape part index (file_in store.stripe w id) some.0 some.1 in
        let away : file_in store.stripe w id ≡ None = ap (λ (b : Bool). let o : Option (List ℕ) = if b then stored w store.stripe.shape.page_size id else None in o) off in
        absurd (none_some (file_in store.stripe w id) away (ap is_some there))
  ]

  first_read : (files : Bool) → store.stripe.files ≡ files → HaveFirstPages store.shape (pages_in_frames store w)
  first_read false off part index below some = absurd (none_some (pages_in_frames store w part index) (none_read off part index) some)
  first_read true on part index below some = elim (cases_lt index (2 ^ 32)) [
    | inl low ↦
        let size = store.shape.page_size in
        some_same (page_in_file size (pages_in w part) 0) (pages_in_frames store w part 0) (sym (page_read on part 0 below (omega arith)))
        (first_in_file size (pages_in w part) index (some_same (pages_in_frames store w part index) (page_in_file size (pages_in w part) index) (page_read on part index below low) some))
    | inr past ↦ absurd (none_some (pages_in_frames store w part index) (cut_past store.shape part index (page_bytes (file_in store.stripe w) (kept store.stripe store.seat) (page_id part index)) past) some)
  ]

  none_first : (files : Bool) → store.stripe.files ≡ files → (store.stripe.files ≡ false → (part : ℕ) → part < store.shape.partitions → page_in_file store.shape.page_size (pages_in w part) 0 ≡ None)
      → (part : ℕ) → part < store.shape.partitions → pages_in_frames store w part 0 ≡ None → page_in_file store.shape.page_size (pages_in w part) 0 ≡ None
  none_first false off unread part below none = unread off part below
  none_first true on unread part below none = sym (page_read on part 0 below (omega arith)) ∙ none

  -- the pages may be applied to, where they are well formed, and files that aren't read have none
  pub whole_in_files : AllWellFormed store.shape (pages_in_frames store w) → (store.stripe.files ≡ false → (part : ℕ) → part < store.shape.partitions → page_in_file store.shape.page_size (pages_in w part) 0 ≡ None) → HasWholePages store w
  whole_in_files well unread = record { well_formed = well; first_pages = first_read store.stripe.files refl; none_unread = none_first store.stripe.files refl unread }
