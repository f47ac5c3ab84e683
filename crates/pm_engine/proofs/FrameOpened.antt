-- A store over page frames that was opened: its pages are the base pages of a store that was restored.
use Rattle.std.proofs.Common.{◌≡◌, ◌⊎◌, inl, inr, ℕ, ◌+◌, ◌-◌, ◌*◌, ◌^◌, ◌≤◌, ◌<◌, Bool, true, false, List, [], ◌∷◌, ◌++◌, length, take, drop, Option, Some, None, Result, Ok, Err, refl, sym, ap, ◌∙◌, subst, arith, append-nil}
use Rattle.std.specs.Prelude.{◌||◌, ◌==◌, nat_lt, nat_le, slice_range, if◌then◌else◌, IsSome, is_some, IsErr, IsErrOf, IfErr}
use Rattle.std.proofs.lemmas.Bool.{false≢true, cases_lt, eqb-true, ltb-true}
use Rattle.pm_types.specs.declared.fault.OpenFault.{OpenFault}
use Rattle.pm_types.specs.declared.fault.OpenFault.TheVariants as opening
use Rattle.pm_types.specs.declared.fault.StoreFault.{StoreFault}
use Rattle.pm_types.specs.declared.fault.StoreFault.TheVariants.{Failed, Memory, BadPage, BadRecord}
use Rattle.pm_types.specs.declared.page_id.PageId.{PageId}
use Rattle.pm_types.specs.declared.place.Place.{Place}
use Rattle.pm_types.specs.declared.shape.Mark.{Mark}
use Rattle.pm_types.specs.declared.shape.Shape.{Shape}
use Rattle.pm_types.specs.Ids.{page_id}
use Rattle.pm_types.specs.Shapes.{IsShape}
use Rattle.pm_frame.specs.Frames.{Frame}
use Rattle.pm_config.specs.declared.config.Config.{Config}
use Rattle.pm_disk.specs.Files.{bytes_of, content, at_change}
use Rattle.pm_disk.specs.Worlds.{World, pages_in}
use Rattle.pm_disk.proofs.Files.{quiet_content, quiet_lasting}
use Rattle.pm_model.specs.Eval.{Pairs}
use Rattle.pm_records.specs.FirstRecords.{restart_frame}
use Rattle.pm_records.specs.LogFiles.{contents}
use Rattle.pm_records.specs.LogSteps.{Step, world_after}
use Rattle.pm_records.specs.Logs.{all_frames, after_frames, HasFrames}
use Rattle.pm_records.proofs.QuietLog.{steps_change}
use Rattle.pm_records.proofs.Runs.{few_go_on, option_cases}
use Rattle.pm_segments.specs.Appends.{append_steps}
use Rattle.pm_segments.specs.Ends.{LogEnd, EndsThere}
use Rattle.pm_segments.proofs.GrownLog.{run_stays}
use Rattle.pm_meta.specs.declared.slots.MetaSlot.TheVariants as slot
use Rattle.pm_pages.specs.Rows.{Partition, page_count}
use Rattle.pm_pages.specs.Rows as rows
use Rattle.pm_pages.specs.WellFormed.{IsWellFormed}
use Rattle.pm_marks.specs.InForce.{Checkpoint, NoStart, Started, Ended}
use Rattle.pm_core.specs.BasePages.{Partitions, no_pages, page_in_file, laid_over, counted}
use Rattle.pm_core.specs.Held.{AllWellFormed, pairs_in}
use Rattle.pm_core.specs.Machine.{states, worlds}
use Rattle.pm_core.specs.PageLaws.{Grows}
use Rattle.pm_core.specs.Replays.{all_replayed}
use Rattle.pm_core.specs.Rounds.{on_log}
use Rattle.pm_core.specs.Stands.{IsGood, IsViewOf, OnlyNoStart, PagesStand, Stands, page_low, page_high}
use Rattle.pm_core.specs.Starts.{appended}
use Rattle.pm_core.specs.States.{State, View, HavePairs}
use Rattle.pm_core.proofs.Junk.{pairs_same}
use Rattle.pm_core.proofs.LogCalls.{log_worlds}
use Rattle.pm_core.proofs.One.{one_run}
use Rattle.pm_core.proofs.Ranges.{page_within, page_there}
use Rattle.pm_redo.specs.Faults.{IsPlainFault}
use Rattle.pm_redo.specs.FoundMarks.{replay_at}
use Rattle.pm_redo.specs.Pictures.{files_in}
use Rattle.pm_redo.specs.Restoring.{IsBadRestore, LeavesStore, mark_of}
use Rattle.pm_stripe.specs.declared.stripe.Stripe.{Stripe}
use Rattle.pm_stripe.specs.Kept.{page_bytes}
use Rattle.pm_stripe.specs.Reads.{stored, stored_at}
use Rattle.pm_stripe.specs.Stripes.{kept, file_in}
use Rattle.pm_engine.specs.AppendRuns.{append_all_steps, grown_all}
use Rattle.pm_engine.specs.EngineReplays.{HasWholePages, IsReplayingIn}
use Rattle.pm_engine.specs.Engines.{FrameRunning, running_in, map_in}
use Rattle.pm_engine.specs.FrameOpenings.{AllowsRecords, HasBasePages, HasNoStrayPages, HasOpenCauseIn, IsBadOpeningIn, IsBadOpeningPage, IsStartedEngine, KeepsBasePagesBut, OpensOverAny, OpensRunningIn}
use Rattle.pm_engine.specs.FrameReplayLogs.{CanReplayIn, HasRecordsIn, HasNumbersIn, ReplaysOverAny}
use Rattle.pm_engine.specs.FrameStores.{FrameStoreView, IsFrameStore, pages_in_frames, pages_in_files}
use Rattle.pm_engine.specs.MetPages.{MeetsBadPage}
use Rattle.pm_engine.specs.OpenedStores.{BeginWithFirst, IsRestoredStore, opened_store}
use Rattle.pm_engine.specs.RunningStores.{number_of}
use Rattle.pm_engine.specs.Openings.{loaded_base, IsBadOver, IsRestoredHolding}
use Rattle.pm_engine.specs.Replays.{AreLasting, GrewAtEnd, IsBadReplay, IsRefusedReplay, LogLeadsTo}
use Rattle.pm_engine.specs.RunningLines.{KeepsLines}
use Rattle.pm_engine.specs.RunningStores.{StoreState, RunsOver, HasSegmentsFor, ended_with}
use Rattle.pm_engine.proofs.CheckpointedFrames.{cut_past}
use Rattle.pm_engine.proofs.FrameMaps.{count_short}
use Rattle.pm_engine.proofs.FrameSteps.{cut_there}
use Rattle.pm_engine.proofs.GrownStores.{unlogged}
use Rattle.pm_engine.proofs.GrownWorlds.{all_grew}
use Rattle.pm_engine.proofs.HeldReplays.{HoldsMap}
use Rattle.pm_engine.proofs.LoadedStores.{HasMark, loaded_counted}
use Rattle.pm_engine.proofs.MetBasePages.{kept_from_base, met_in_base}
use Rattle.pm_engine.proofs.OpenedStores.{good, not_rebuilt, well, opened_runs, file_begins}
use Rattle.pm_engine.proofs.RestoredOpenings.{bad_stands, base_same, refused_stands}
use Rattle.pm_engine.proofs.PageNames.{part_named, index_named}
use Rattle.pm_engine.proofs.ReplayingCheckpoints.{over_grown}
use Rattle.pm_engine.proofs.ReplayStarts.{keeps_from_first, segments, holds_map, records, run_here, to_end, lasts_then}
use Rattle.pm_engine.proofs.RisenLogs.{grown_rises}
use Rattle.pm_engine.proofs.RunningLogs.{state_follows}

-- ---- why a fault came

pub open_cause_in : (tells : Type 0) (shape : Shape) (checkpoint : Checkpoint) (old new : World) (fault : StoreFault) → ((id : PageId) → fault ≡ BadPage id → IsBadOpeningPage tells shape checkpoint old id)
    → ((at : Place) → fault ≡ BadRecord at → IsBadOpeningIn shape checkpoint old new at) → HasOpenCauseIn tells shape checkpoint old new (opening.Store fault)
open_cause_in tells shape checkpoint old new Failed page found = tt
open_cause_in tells shape checkpoint old new (Memory lack) page found = tt
open_cause_in tells shape checkpoint old new (BadPage id) page found = page id refl
open_cause_in tells shape checkpoint old new (BadRecord at) page found = found at refl

-- a restart's fault
pub restore_cause_in : {T : Type 0} (tells : Type 0) (shape : Shape) (checkpoint : Checkpoint) (old new : World) (result : Result T OpenFault) → ((at : Place) → IsErrOf result (opening.Store (BadRecord at)) → IsBadRestore checkpoint (contents old.log) at)
    → ((id : PageId) → IsErrOf result (opening.Store (BadPage id)) → ⊥) → IfErr result (LeavesStore old new) → IfErr result (HasOpenCauseIn tells shape checkpoint old new)
restore_cause_in tells shape checkpoint old new (Ok x) found page untouched = tt
restore_cause_in tells shape checkpoint old new (Err (opening.Shape field)) found page untouched = untouched
restore_cause_in tells shape checkpoint old new (Err (opening.Store Failed)) found page untouched = tt
restore_cause_in tells shape checkpoint old new (Err (opening.Store (Memory lack))) found page untouched = tt
restore_cause_in tells shape checkpoint old new (Err (opening.Store (BadPage id))) found page untouched = absurd (page id refl)
restore_cause_in tells shape checkpoint old new (Err (opening.Store (BadRecord at))) found page untouched = inl (found at refl)

-- a fault that is plain names nothing
pub no_plain_page : {T : Type 0} (result : Result T StoreFault) (id : PageId) → IfErr result IsPlainFault → IsErrOf result (BadPage id) → ⊥
no_plain_page {T} result id plain is = subst (λ (r : Result T StoreFault). IfErr r IsPlainFault) is plain

pub no_plain_record : {T : Type 0} (result : Result T StoreFault) (at : Place) → IfErr result IsPlainFault → IsErrOf result (BadRecord at) → ⊥
no_plain_record {T} result at plain is = subst (λ (r : Result T StoreFault). IfErr r IsPlainFault) is plain

-- the fault that is passed on is the one that came
pub fault_of : {S T : Type 0} (came : Result T StoreFault) (fault named : StoreFault) → came ≡ Err fault → IsErrOf {T = S} {E = StoreFault} (Err fault) named → IsErrOf came named
fault_of came fault named was is = let same : fault ≡ named = cc is in was ∙ ap (λ (f : StoreFault). Err f) same

-- it couldn't be opened by a fault that names nothing
pub opens_over_none : (tells : Type 0) (shape : Shape) (from end : Place) (frames : List Frame) (base : Partitions) (old new : World) (answer : Result FrameRunning StoreFault) → IsErr answer → ((id : PageId) → IsErrOf answer (BadPage id) → ⊥) → ((at : Place) → IsErrOf answer (BadRecord at) → ⊥)
    → OpensOverAny tells shape from end frames base old new answer
opens_over_none tells shape from end frames base old new (Ok engine) err page found = absurd cc
opens_over_none tells shape from end frames base old new (Err fault) err page found = record {
  pages = λ may_change all. tt;
  meets = λ may_change all id is. absurd (page id is);
  refuses = λ at is. absurd (found at is);
}

-- ---- the pages of a partition, of which those with an index of more than 32 bits are left out

either : (a b : Bool) → (a || b) ≡ true → (a ≡ true) ⊎ (b ≡ true)
either true b is = inl refl
either false b is = inr is

chosen : (b : Bool) (one other : Option (List ℕ)) → (b ≡ true → one ≡ other)
    → (let o : Option (List ℕ) = if b then one else None in o) ≡ (let o : Option (List ℕ) = if b then other else None in o)
chosen true one other same = same refl
chosen false one other same = refl

there_inside : (b : Bool) (o : Option (List ℕ)) (page : List ℕ) → (let p : Option (List ℕ) = if b then o else None in p) ≡ Some page → o ≡ Some page
there_inside true o page is = is
there_inside false o page is = absurd (let bad : None ≡ Some page = is in cc bad)

module _ (seen whole : Partition) (same : (index : ℕ) → index < 2 ^ 32 → seen index ≡ whole index) where
  first_same : seen 0 ≡ whole 0
  first_same = same 0 (omega arith)

  count_same : page_count seen ≡ page_count whole
  count_same = ap (λ o. rows.number_of o slot.Pages) first_same

  module _ (few : page_count whole ≤ 2 ^ 32) where
    here : (index : ℕ) → (index == 0 || nat_lt index (page_count whole)) ≡ true → seen index ≡ whole index
    here index is = elim (either (index == 0) (nat_lt index (page_count whole)) is) [
      | inl first ↦ subst (λ k. seen k ≡ whole k) (sym (eqb-true index 0 first)) first_same
      | inr lt ↦ same index (omega (arith, ltb-true index (page_count whole) lt, few))
    ]

    each_counted : (index : ℕ) → counted seen index ≡ counted whole index
    each_counted index =
        ap (λ n. let o : Option (List ℕ) = if index == 0 || nat_lt index n then seen index else None in o) count_same
        ∙ chosen (index == 0 || nat_lt index (page_count whole)) (seen index) (whole index) (here index)

    -- those that count are the same
    pub counted_seen : counted seen ≡ counted whole
    counted_seen = λ i index. each_counted index i

  module _ (past : (index : ℕ) → 2 ^ 32 ≤ index → seen index ≡ None) (begins : (index : ℕ) → IsSome (whole index) → IsSome (whole 0)) where
    some_low : (index : ℕ) (page : List ℕ) → seen index ≡ Some page → index < 2 ^ 32
    some_low index page is = elim (cases_lt index (2 ^ 32)) [
      | inl low ↦ low
      | inr le ↦ absurd (let bad : None ≡ Some page = sym (past index le) ∙ is in cc bad)
    ]

    first_there : (index : ℕ) (page : List ℕ) → whole index ≡ Some page → IsSome (seen 0)
    first_there index page is = subst (λ (o : Option (List ℕ)). IsSome o) (sym first_same) (begins index (ap is_some is))

    pub first_seen : (index : ℕ) → IsSome (seen index) → IsSome (seen 0)
    first_seen index some = elim (option_cases (seen index)) [
      | inl none ↦ absurd (false≢true (sym (ap is_some none) ∙ some))
      | inr page ↦ first_there index page.0 (sym (same index (some_low index page.0 page.1)) ∙ page.1)
    ]

    pub grows_seen : Grows seen whole
    grows_seen = record {
      stays = λ index page is. sym (same index (some_low index page is)) ∙ is;
      comes = λ index none. elim (option_cases (whole index)) [
        | inl still ↦ inl still
        | inr some ↦ inr (first_there index some.0 some.1)
      ];
    }

    pub grows_counted : page_count whole ≤ 2 ^ 32 → Grows (counted whole) seen
    grows_counted few = record {
      stays = λ index page is. there_inside (index == 0 || nat_lt index (page_count seen)) (seen index) page (each_counted few index ∙ is);
      comes = λ index none. elim (option_cases (seen index)) [
        | inl still ↦ inl still
        | inr some ↦ inr (begins index (ap is_some (sym (same index (some_low index some.0 some.1)) ∙ some.1)))
      ];
    }

-- ---- the pages of the partitions' files

stored_is : (size index : ℕ) (file : Option (List ℕ)) → stored_at file (index * size) size ≡ page_in_file size file index
stored_is size index file =
    let at = index * size in
    let len : size ≡ at + size - at = omega arith in
    ap (λ n. let o : Option (List ℕ) = if nat_le (at + size) (length (bytes_of file)) then Some (take n (drop at (bytes_of file))) else None in o) len

-- a page that is read is the base page, where there are pages exactly where there is a start marker
file_is : (shape : Shape) (mark : Option Mark) (stripe : Stripe) (w : World) → HasMark shape mark → stripe.files ≡ is_some mark → stripe.shape ≡ shape → (part index : ℕ) → part < 2 ^ 16 → index < 2 ^ 32 → file_in stripe w (page_id part index) ≡ loaded_base mark w part index
file_is shape None stripe w has files shaped part index small low =
    ap (λ (b : Bool). let o : Option (List ℕ) = if b then stored w stripe.shape.page_size (page_id part index) else None in o) files
file_is shape (Some mark) stripe w has files shaped part index small low =
    let size = stripe.shape.page_size in
    ap (λ (b : Bool). let o : Option (List ℕ) = if b then stored w size (page_id part index) else None in o) files
    ∙ (λ i. stored_at (pages_in w (part_named part index small low i)) (index_named part index low i * size) size)
    ∙ stored_is size index (pages_in w part) ∙ ap (λ (k : Shape). page_in_file k.page_size (pages_in w part) index) (shaped ∙ sym has.1)

-- the base pages of a partition begin with the first one
pub base_begins : (mark : Option Mark) (w : World) → BeginWithFirst (loaded_base mark w)
base_begins None w part index some = absurd (false≢true some)
base_begins (Some mark) w part index some = file_begins mark.shape.page_size (files_in w) part index some

-- where the first base page isn't there its file doesn't have it
first_unread : (shape : Shape) (mark : Option Mark) (w : World) (part : ℕ) → HasMark shape mark → HasNoStrayPages shape (ended_with mark) w → part < shape.partitions → loaded_base mark w part 0 ≡ None → page_in_file shape.page_size (files_in w part) 0 ≡ None
first_unread shape None w part has stray inside none = stray part inside
first_unread shape (Some mark) w part has stray inside none = ap (λ (k : Shape). page_in_file k.page_size (files_in w part) 0) (sym has.1) ∙ none

-- the same of the checkpoint that was found
pub stray_marked : (shape : Shape) (checkpoint : Checkpoint) (mark : Option Mark) (w : World) → mark ≡ mark_of checkpoint → HasNoStrayPages shape checkpoint w → HasNoStrayPages shape (ended_with mark) w
stray_marked shape NoStart mark w is stray = subst (λ (m : Option Mark). HasNoStrayPages shape (ended_with m) w) (sym is) stray
stray_marked shape (Started found) mark w is stray = subst (λ (m : Option Mark). HasNoStrayPages shape (ended_with m) w) (sym is) tt
stray_marked shape (Ended found) mark w is stray = subst (λ (m : Option Mark). HasNoStrayPages shape (ended_with m) w) (sym is) tt

-- the pages of page frames without a page
pub new_pages : (shape : Shape) (mark : Option Mark) (store : FrameStoreView) (w : World) → IsShape shape → HasMark shape mark → IsFrameStore store → store.is_open ≡ true → store.shape ≡ shape → store.stripe.files ≡ is_some mark
    → pages_in_frames store w ≡ pages_in_files shape store.stripe w → HasBasePages shape mark store w
new_pages shape mark store w sound has is is_open shape_is files pages part index inside low =
    ap (λ (p : Partitions). p part index) pages ∙ cut_there shape part index (file_in store.stripe w (page_id part index)) inside low
    ∙ file_is shape mark store.stripe w has files ((is.open_is is_open).shaped ∙ shape_is) part index (omega (arith, inside, sound.partitions_to)) low

-- ---- the state that has exactly the pages of the files

not_there : (size index : ℕ) (file : Option (List ℕ)) → page_in_file size file index ≡ None → length (bytes_of file) < page_high size index
not_there size index file none = elim (cases_lt (length (bytes_of file)) (page_high size index)) [
  | inl lt ↦ lt
  | inr le ↦ absurd (let bad : None ≡ Some (slice_range (bytes_of file) (index * size) (index * size + size)) = sym none ∙ page_there size index file le in cc bad)
]

module _ (wanted : Shape) (told : List ℕ → ℕ) (shape : Shape) (log : LogEnd) (mark : Option Mark) (s : State) (w : World) (restored : IsRestoredStore wanted told shape log mark s w) (segs : HasSegmentsFor log 1) (has : HasMark shape mark) where
  abbrev home : Partitions
  home = loaded_base mark w

  abbrev pub exact : State
  exact = record s { files = home }

  was_good : IsGood wanted s w.log w.pages s.now
  was_good = good wanted told shape log mark s w restored segs

  none_rebuilt : s.now.rebuilt ≡ no_pages
  none_rebuilt = not_rebuilt wanted told shape log mark s w restored segs

  base_counted : (part : ℕ) → part < shape.partitions → counted (home part) ≡ counted (s.files part)
  base_counted part inside = loaded_counted wanted told shape log mark s w restored segs has part inside

  old_stand : PagesStand shape.page_size s.files no_pages w.pages
  old_stand =
      subst (λ (q : Shape × Partitions). PagesStand q.0.page_size s.files q.1 w.pages) {x = (s.shape, s.now.rebuilt)} {y = (shape, no_pages)} (λ i. (restored.shaped i, none_rebuilt i)) was_good.pages_stand

  old_bare : (m : Option Mark) → s.now.checkpoint ≡ ended_with m → OnlyNoStart (ended_with m) (s.files ≡ no_pages)
  old_bare m is = subst (λ c. OnlyNoStart c (s.files ≡ no_pages)) is was_good.bare

  forced_is : (part : ℕ) → content (w.pages part) ≡ (w.pages part).forced
  forced_is part = quiet_content (w.pages part) (restored.quiet.pages part)

  at_rest : (part k : ℕ) → k ≤ length (w.pages part).since → k ≡ 0
  at_rest part k le = omega (arith, le, ap length (restored.quiet.pages part))

  short_still : (part size index k : ℕ) → k ≡ 0 → length (bytes_of (w.pages part).forced) < page_high size index → length (bytes_of (at_change (w.pages part) k)) < page_high size index
  short_still part size index k none short = subst (λ (n : ℕ). length (bytes_of (at_change (w.pages part) n)) < page_high size index) (sym none) short

  old_pairs : pairs_in shape.partitions s.files ≡ was_good.based
  old_pairs =
      subst (λ (q : Shape × Partitions). pairs_in q.0.partitions (laid_over q.1 s.files) ≡ was_good.based) {x = (s.shape, s.now.rebuilt)} {y = (shape, no_pages)} (λ i. (restored.shaped i, none_rebuilt i)) was_good.based_is.is

  base_stand : (m : Option Mark) → s.now.checkpoint ≡ ended_with m → HasMark shape m → PagesStand shape.page_size (loaded_base m w) no_pages w.pages
  base_stand None is fits = subst (λ (files : Partitions). PagesStand shape.page_size files no_pages w.pages) (old_bare None is) old_stand
  base_stand (Some m) is fits =
      subst (λ (k : Shape). PagesStand k.page_size (loaded_base (Some m) w) no_pages w.pages) fits.1 (record {
        kept = λ part index bytes none there.
            let size = m.shape.page_size in
            let is_home : page_in_file size (w.pages part).forced index ≡ Some bytes = ap (λ (file : Option (List ℕ)). page_in_file size file index) (sym (forced_is part)) ∙ there in
            (quiet_lasting (w.pages part) (page_low size index) (page_high size index) (restored.quiet.pages part) (page_within size index (w.pages part).forced bytes is_home).0, is_home);
        absent = λ part index none gone. inl (λ k le.
            let size = m.shape.page_size in
            let short : length (bytes_of (w.pages part).forced) < page_high size index = not_there size index (w.pages part).forced (ap (λ (file : Option (List ℕ)). page_in_file size file index) (sym (forced_is part)) ∙ gone) in
            short_still part size index k (at_rest part k le) short);
      })

  base_bare : (m : Option Mark) → s.now.checkpoint ≡ ended_with m → OnlyNoStart s.now.checkpoint (loaded_base m w ≡ no_pages)
  base_bare m is = subst (λ c. OnlyNoStart c (loaded_base m w ≡ no_pages)) (sym is) (by m)
    where
      by : (m : Option Mark) → OnlyNoStart (ended_with m) (loaded_base m w ≡ no_pages)
      by None = refl
      by (Some m) = tt

  base_pairs : HavePairs s.shape (laid_over s.now.rebuilt home) was_good.based
  base_pairs = subst (λ (q : Shape × Partitions). HavePairs q.0 (laid_over q.1 home) was_good.based) {x = (shape, no_pages)} {y = (s.shape, s.now.rebuilt)} (λ i. (sym restored.shaped i, sym none_rebuilt i)) (record {
    well_formed = λ part inside. subst (λ (p : Partition). IsWellFormed shape part p) (sym (base_counted part inside)) (well wanted told shape log mark s w restored segs part inside);
    is = pairs_same shape.partitions s.files home base_counted ∙ old_pairs;
  })

  good_exact : IsGood wanted exact w.log w.pages s.now
  good_exact = record {
    shaped = was_good.shaped;
    rebuilt_lasts = was_good.rebuilt_lasts;
    has_meta = λ part index some. absurd (false≢true (subst (λ (p : Partitions). IsSome (p part index)) none_rebuilt some));
    bare = base_bare mark restored.checkpoint;
    pages_stand = subst (λ (q : Shape × Partitions). PagesStand q.0.page_size home q.1 w.pages) {x = (shape, no_pages)} {y = (s.shape, s.now.rebuilt)} (λ i. (sym restored.shaped i, sym none_rebuilt i)) (base_stand mark restored.checkpoint has);
    calm = was_good.calm;
    based = was_good.based;
    based_is = base_pairs;
    frames = was_good.frames;
    replay = was_good.replay;
    holds = was_good.holds;
    begins = was_good.begins;
    restarts = was_good.restarts;
    empty_wanted = was_good.empty_wanted;
  }

  stands_exact : Stands wanted told exact w
  stands_exact =
      let st = restored.stands in
      record {
        log = st.log;
        ends = st.ends;
        marks = st.marks;
        reads = st.reads;
        quiet = st.quiet;
        good = λ view is. subst (λ (v : View). IsGood wanted exact w.log w.pages v) (sym (subst (λ (o : Option View). IsViewOf s.now o view) restored.alone is)) good_exact;
        well = st.well;
        newest = st.newest;
        newest_is = st.newest_is;
        said = st.said;
        since_first = st.since_first;
      }

  pub exact_store : IsRestoredStore wanted told shape log mark exact w
  exact_store = record {
    stands = stands_exact;
    shaped = restored.shaped;
    is_shape = restored.is_shape;
    checkpoint = restored.checkpoint;
    alone = restored.alone;
    ends = restored.ends;
    is_open = record {
      limits = restored.is_open.limits;
      ready = restored.is_open.ready;
      plain = restored.is_open.plain;
      room_to_seal = restored.is_open.room_to_seal;
      numbered = restored.is_open.numbered;
    };
    nothing_pending = restored.nothing_pending;
    quiet = restored.quiet;
    first_pages = base_begins mark w;
  }

pub exact_holding : (last highest : ℕ) (wanted : Shape) (told : List ℕ → ℕ) (shape : Shape) (pairs : Pairs) (log : LogEnd) (mark : Option Mark) (s : State) (w : World) (holding : IsRestoredHolding last highest wanted told shape pairs log mark s w) → HasMark shape mark
    → IsRestoredHolding last highest wanted told shape pairs log mark (record s { files = loaded_base mark w }) w
exact_holding last highest wanted told shape pairs log mark s w holding has = record {
  store = exact_store wanted told shape log mark s w holding.store (segments last highest wanted told shape pairs log mark s w holding) has;
  map = holding.map;
  keeps = holding.keeps;
  below = holding.below;
  room = holding.room;
  last_fits = holding.last_fits;
  number = holding.number;
  highest_fits = holding.highest_fits;
}

-- ---- once its RESTART is appended

module _ (config : Config) (mark : Option Mark) (log : LogEnd) (old mid : World) (engine : FrameRunning) (started : IsStartedEngine config mark log engine) (is : mid ≡ world_after (append_all_steps log (restart_frame config.shape ∷ [])) log.end old) where
  abbrev shape : Shape
  shape = config.shape

  abbrev steps : List Step
  steps = append_steps log (restart_frame shape)

  abbrev base : Partitions
  base = loaded_base mark old

  abbrev seen : Partitions
  seen = pages_in_frames engine.store mid

  one_is : mid ≡ world_after steps log.end old
  one_is = is ∙ ap (λ (steps : List Step). world_after steps log.end old) (append-nil steps)

  same_files : mid.pages ≡ old.pages
  same_files = ap (λ (w : World). w.pages) one_is ∙ (steps_change steps log.end old).pages

  seen_is : (part : ℕ) → part < shape.partitions → (index : ℕ) → index < 2 ^ 32 → seen part index ≡ base part index
  seen_is part inside index low = started.pages mid part index inside low ∙ ap (λ (pages : Partitions). pages part index) (base_same mark old mid same_files)

  seen_past : (part index : ℕ) → 2 ^ 32 ≤ index → seen part index ≡ None
  seen_past part index past = cut_past engine.store.shape part index (page_bytes (file_in engine.store.stripe mid) (kept engine.store.stripe engine.store.seat) (page_id part index)) past

  module _ (sound : IsShape shape) (well_formed : AllWellFormed shape base) where
    few : (part : ℕ) → part < shape.partitions → page_count (base part) ≤ 2 ^ 32
    few part inside = count_short shape part (counted (base part)) sound.max_rows_to (well_formed part inside)

    same_counted : (part : ℕ) → part < shape.partitions → counted (seen part) ≡ counted (base part)
    same_counted part inside = counted_seen (seen part) (base part) (seen_is part inside) (few part inside)

    -- the pages in frames are well formed, and their map is that of the base pages
    pub started_well : AllWellFormed engine.store.shape seen
    started_well = subst (λ (k : Shape). AllWellFormed k seen) (sym started.fresh.shape_is) (λ part inside. subst (λ (p : Partition). IsWellFormed shape part p) (sym (same_counted part inside)) (well_formed part inside))

    pub started_map : map_in engine mid ≡ pairs_in shape.partitions base
    started_map = ap (λ (k : Shape). pairs_in k.partitions seen) started.fresh.shape_is ∙ pairs_same shape.partitions base seen same_counted

    -- a checkpoint leaves them as they are
    pub started_whole : HasMark shape mark → HasNoStrayPages shape (ended_with mark) old → HasWholePages engine.store mid
    started_whole has stray =
        let inside : (part : ℕ) → part < engine.store.shape.partitions → part < shape.partitions = λ part lt. subst (λ (k : Shape). part < k.partitions) started.fresh.shape_is lt in
        record {
          well_formed = started_well;
          first_pages = λ part index lt some. first_seen (seen part) (base part) (seen_is part (inside part lt)) (seen_past part) (base_begins mark old part) index some;
          none_unread = λ part lt none.
              (λ i. page_in_file (started.fresh.shape_is i).page_size (content (same_files i part)) 0)
              ∙ first_unread shape mark old part has stray (inside part lt) (sym (seen_is part (inside part lt) 0 (omega arith)) ∙ none);
        }

    grows : (part : ℕ) → part < shape.partitions → Grows (counted (base part)) (seen part)
    grows part inside = grows_counted (seen part) (base part) (seen_is part inside) (seen_past part) (base_begins mark old part) (few part inside)

    within : (part : ℕ) → part < shape.partitions → Grows (seen part) (base part)
    within part inside = grows_seen (seen part) (base part) (seen_is part inside) (seen_past part) (base_begins mark old part)

  module _ (there : EndsThere log old) (from end : Place) (leads : LogLeadsTo from end log old) where
    pub restart_grew : GrewAtEnd log engine.log old mid
    restart_grew =
        let fs : List Frame = restart_frame shape ∷ [] in
        subst (λ (q : LogEnd × World). GrewAtEnd log q.0 old q.1) {x = (grown_all log fs, world_after (append_all_steps log fs) log.end old)} {y = (engine.log, mid)} (λ i. (sym started.log_is i, sym is i)) (all_grew log fs old there started.numbered)

    pub restart_run : HasFrames all_frames (contents mid.log) from leads.frames
    restart_run =
        run_stays (contents old.log) (contents mid.log) from leads.frames end.seg (λ seg le. restart_grew.begins seg (omega (arith, le, leads.behind))) (omega (arith, ap (λ (p : Place). p.seg) leads.to)) leads.run

    -- the frames that it had still lead to where it ended
    abbrev pub started_leads : LogLeadsTo from end engine.log mid
    started_leads = record { frames = leads.frames; run = restart_run; to = leads.to; behind = omega (arith, leads.behind, restart_grew.rises) }

    -- a record that can't be applied again to the pages in frames
    pub started_bad : IsShape shape → AllWellFormed shape base → (new : World) (at : Place) → IsBadReplay engine.store.shape (map_in engine mid) (contents mid.log) from end new at → IsBadOver shape base (contents old.log) from end new at
    started_bad sound well_formed new at bad =
        let all : List Frame = bad.before ++ bad.rest in
        let same : all ≡ leads.frames = one_run (contents mid.log) from all leads.frames bad.stand restart_run (bad.to ∙ sym leads.to) in
        subst (λ (q : Shape × Pairs). IsBadReplay q.0 q.1 (contents old.log) from end new at) {x = (engine.store.shape, map_in engine mid)} {y = (shape, pairs_in shape.partitions base)}
        (λ i. (started.fresh.shape_is i, started_map sound well_formed i))
        (bad_stands engine.store.shape (map_in engine mid) (contents mid.log) (contents old.log) from end new at bad (subst (HasFrames all_frames (contents old.log) from) (sym same) leads.run))

    -- ---- over any store's base pages

    seen_keeps : (may_change : ℕ → Bool) → KeepsBasePagesBut shape may_change base seen
    seen_keeps may_change part index bytes inside low there = inl (seen_is part inside index low ∙ there)

    refused_before : (new : World) (at : Place) → IsRefusedReplay (contents mid.log) from end new at → IsRefusedReplay (contents old.log) from end new at
    refused_before new at x =
        let all : List Frame = x.before ++ x.rest in
        let same : all ≡ leads.frames = one_run (contents mid.log) from all leads.frames x.stand restart_run (x.to ∙ sym leads.to) in
        refused_stands (contents mid.log) (contents old.log) from end new at x (subst (HasFrames all_frames (contents old.log) from) (sym same) leads.run)

    module _ (tells : Type 0) (now : FrameRunning) (new : World) (answer : Result (Unit {0}) StoreFault) (x : ReplaysOverAny {T = Unit {0}} tells from end leads.frames engine now mid new answer) where
      shaped : (may_change : ℕ → Bool) → AllowsRecords may_change shape leads.frames → AllowsRecords may_change engine.store.shape leads.frames
      shaped may_change all = subst (λ (k : Shape). AllowsRecords may_change k leads.frames) (sym started.fresh.shape_is) all

      -- all records were applied
      pub started_over_all : now.store.is_open ≡ true → OpensOverAny tells shape from end leads.frames base old new (Ok now)
      started_over_all on = record {
        pages = λ may_change all. kept_from_base shape may_change base seen (seen_keeps may_change) (pages_in_frames now.store new) ((x.meets may_change (shaped may_change all)).keeps on);
        meets = λ may_change all id is. absurd cc;
        refuses = λ at is. absurd cc;
      }

      -- a fault came
      pub started_over_fault : (fault : StoreFault) → answer ≡ Err fault → OpensOverAny tells shape from end leads.frames base old new (Err fault)
      started_over_fault fault was = record {
        pages = λ may_change all. tt;
        meets = λ may_change all id is.
            let its = (x.meets may_change (shaped may_change all)).meets id (fault_of answer fault (BadPage id) was is) in
            met_in_base shape may_change base seen (seen_keeps may_change) tells id (subst (λ (k : Shape). MeetsBadPage tells may_change k seen id) started.fresh.shape_is its);
        refuses = λ at is. refused_before new at (x.refuses at (fault_of answer fault (BadRecord at) was is));
      }

  -- ---- where it was sound

  module _ (last highest : ℕ) (wanted : Shape) (told : List ℕ → ℕ) (pairs : Pairs) (s : State) (holding : IsRestoredHolding last highest wanted told shape pairs log mark s old) (has : HasMark shape mark) where
    abbrev e : State
    e = record s { files = base }

    exactly : IsRestoredHolding last highest wanted told shape pairs log mark e old
    exactly = exact_holding last highest wanted told shape pairs log mark s old holding has

    segs : HasSegmentsFor log 1
    segs = segments last highest wanted told shape pairs log mark s old holding

    sound_shape : IsShape shape
    sound_shape = holding.store.is_shape

    abbrev t : State
    t = states (on_log steps) e old

    abbrev v : World
    v = worlds (on_log steps) e old

    v_is : v ≡ mid
    v_is = log_worlds steps e old ∙ ap (λ (p : Place). world_after steps p old) exactly.store.ends ∙ sym one_is

    base_well : AllWellFormed shape base
    base_well = well wanted told shape log mark e old exactly.store segs

    abbrev opened : StoreState
    opened = opened_store shape log mark e

    runs_seen : RunsOver wanted told (unlogged opened seen) e.map t v
    runs_seen =
        over_grown wanted told opened (λ part. counted (base part)) seen e.map t v (grows sound_shape base_well)
        (λ part inside. subst (λ (files : Partitions). Grows (seen part) (files part)) (sym (state_follows steps [] e old).files) (within sound_shape base_well part inside))
        (opened_runs wanted told shape log mark e old exactly.store segs)

    store_is : unlogged opened seen ≡ running_in engine mid []
    store_is = λ i. record { shape = sym started.fresh.shape_is i; pages = seen; logged = []; log = sym started.log_is i; mark = sym started.mark_is i }

    runs : RunsOver wanted told (running_in engine mid []) pairs t mid
    runs =
        subst (λ (q : StoreState × World). RunsOver wanted told q.0 pairs t q.1) {x = (unlogged opened seen, v)} {y = (running_in engine mid [], mid)} (λ i. (store_is i, v_is i))
        (subst (λ (p : Pairs). RunsOver wanted told (unlogged opened seen) p t v) exactly.map runs_seen)

    keeps : KeepsLines engine.store.shape 0 pairs [] t.first (appended t)
    keeps =
        subst (λ (q : Shape × Pairs). KeepsLines q.0 0 pairs [] q.1 (appended t)) {x = (shape, e.first)} {y = (engine.store.shape, t.first)} (λ i. (sym started.fresh.shape_is i, sym (state_follows steps [] e old).first i))
        (keeps_from_first last highest wanted told shape pairs log mark e old exactly)

    replaying : IsReplayingIn wanted told pairs engine t mid
    replaying = record {
      logged = [];
      names = record { once = tt; each = λ part index inside low. (λ named. absurd (false≢true named), λ stay. absurd (started.none_dirty (page_id part index) stay)) };
      runs = runs;
      keeps = keeps;
    }

    -- its records make its map
    module _ (there : EndsThere log old) (from end : Place) (from_is : from ≡ replay_at mark) (end_is : end ≡ log.end) where
      holds : HoldsMap last highest shape mark from end pairs old
      holds = holds_map last highest wanted told shape pairs log mark e old exactly has from end from_is end_is

      seg_is : end.seg ≡ log.end.seg
      seg_is = ap (λ (p : Place). p.seg) end_is

      abbrev has_led : LogLeadsTo from end log old
      has_led = record { frames = holds.frames; run = holds.run; to = holds.to; behind = omega (arith, seg_is) }

      abbrev ahead : HasRecordsIn pairs from end engine mid
      ahead = record {
        rest = holds.frames;
        run = restart_run there from end has_led;
        to = holds.to;
        goes_on = few_go_on from holds.frames (omega (arith, ap (λ (p : Place). p.seg) holds.to, holds.room, holds.last_fits));
        left = ap (λ (p : Pairs). all_replayed engine.store.shape holds.frames (Some p)) (started_map sound_shape base_well)
            ∙ ap (λ (k : Shape). all_replayed k holds.frames (Some (pairs_in shape.partitions base))) started.fresh.shape_is ∙ holds.makes;
        behind = omega (arith, seg_is, (restart_grew there from end has_led).rises);
      }

      numbers : HasNumbersIn last highest (length holds.frames) engine
      numbers = record {
        segments = omega (arith, seg_is, holds.room, grown_rises log (restart_frame shape), ap (λ (l : LogEnd). l.end.seg) started.log_is);
        last_fits = holds.last_fits;
        marks = omega (arith, holds.marks, ap number_of started.mark_is);
        highest_fits = holds.highest_fits;
      }

      lasting : AreLasting from holds.frames engine.store.shape pairs t mid
      lasting =
          let all : List Frame = records last highest wanted told shape pairs log mark e old exactly in
          let before : AreLasting from all shape pairs t mid = subst (λ (p : Place). AreLasting p all shape pairs t mid) (sym from_is) (lasts_then last highest wanted told shape pairs log mark e old exactly mid one_is) in
          let to : after_frames from all ≡ end = ap (λ (p : Place). after_frames p all) from_is ∙ to_end last highest wanted told shape pairs log mark e old exactly ∙ sym end_is in
          let run : HasFrames all_frames (contents old.log) from all = subst (λ (p : Place). HasFrames all_frames (contents old.log) p all) (sym from_is) (run_here last highest wanted told shape pairs log mark e old exactly) in
          let same : all ≡ holds.frames = one_run (contents old.log) from all holds.frames run holds.run (to ∙ sym holds.to) in
          subst (λ (q : List Frame × Shape). AreLasting from q.0 q.1 pairs t mid) {x = (all, shape)} {y = (holds.frames, engine.store.shape)} (λ i. (same i, sym started.fresh.shape_is i)) before

      -- it may be replayed
      pub can_replay_in : (state : State) × CanReplayIn last highest wanted told pairs from end engine state mid
      can_replay_in = (t, record { is = replaying; ahead = ahead; numbers = numbers; lasts = lasting })

-- once it is replayed it runs
pub opens_running_in : (last highest : ℕ) (wanted : Shape) (told : List ℕ → ℕ) (shape : Shape) (pairs : Pairs) (engine : FrameRunning) (w : World) → engine.store.shape ≡ shape → map_in engine w ≡ pairs → engine.log.end.seg ≤ last → number_of engine.ckpt.mark ≤ highest
    → (state : State) × IsReplayingIn wanted told pairs engine state w → OpensRunningIn last highest wanted told shape pairs engine w
opens_running_in last highest wanted told shape pairs engine w shape_is map segment number replays =
    let is = replays.1 in
    record {
      shape_is = shape_is;
      map = map;
      segment = segment;
      number = number;
      runs = record {
        state = replays.0;
        logged = is.logged;
        names = is.names;
        has = record {
          runs = subst (λ (p : Pairs). RunsOver wanted told (running_in engine w is.logged) p replays.0 w) (sym map) is.runs;
          lasting = omega arith;
          map = map;
          keeps = is.keeps;
        };
      };
    }
