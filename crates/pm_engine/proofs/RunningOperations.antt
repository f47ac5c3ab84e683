-- A store that runs appends records, and runs.
use Rattle.std.proofs.Common.{◌≡◌, ℕ, Bool, true, false, List, [], ◌∷◌, ◌++◌, length, Some, refl, sym, ap, ◌∙◌, subst, arith, append_assoc}
use Rattle.std.specs.Prelude.{if◌then◌else◌, IsSome, is_some}
use Rattle.pm_types.specs.declared.page_id.PageId.{PageId}
use Rattle.pm_types.specs.declared.shape.Shape.{Shape}
use Rattle.pm_types.specs.Shapes.{IsShape}
use Rattle.pm_frame.specs.Frames.{Frame}
use Rattle.pm_disk.specs.Worlds.{World}
use Rattle.pm_model.specs.Eval.{Pairs}
use Rattle.pm_records.specs.LogSteps.{Step, Append, frames_in}
use Rattle.pm_records.specs.Logs.{record_in, seal_frame, without_seals}
use Rattle.pm_records.proofs.Growing.{without_seals-append}
use Rattle.pm_records.proofs.Writing.{frames_in-append}
use Rattle.pm_segments.specs.Appends.{can_seal, enter_steps, append_steps, grown}
use Rattle.pm_segments.specs.Ends.{LogEnd, has_room}
use Rattle.pm_core.specs.BasePages.{Partitions, rebuilt_of}
use Rattle.pm_core.specs.Held.{pairs_in}
use Rattle.pm_core.specs.Machine.{CanAll, states, worlds}
use Rattle.pm_core.specs.PageLaws.{Grows}
use Rattle.pm_core.specs.PageSets.{AreOnce}
use Rattle.pm_core.specs.Replays.{all_replayed}
use Rattle.pm_core.specs.Rounds.{on_log}
use Rattle.pm_core.specs.States.{State, AllInGrammar}
use Rattle.pm_core.proofs.Replaying.{grammar_append, grammar_back, records_grammar}
use Rattle.pm_engine.specs.AppendRuns.{append_all_steps}
use Rattle.pm_engine.specs.PageLogs.{NotedPages, noted_frames}
use Rattle.pm_engine.specs.RunningStores.{StoreState, LogRuns, RunsOver, HoldsPages, HasSegmentsFor}
use Rattle.pm_engine.specs.RunningSteps.{appended_to, SayPages, SayPagesOver, ChangesStore, MakesPages, operation_frames, operation_names}
use Rattle.pm_engine.specs.TrackedPages.{TracksPages, ChangesWithin, ChangesPart}
use Rattle.pm_engine.proofs.OperationFrames.{AllPhysical, below_physical, physical_replays, physical_frames, physical_no_map, names_once}
use Rattle.pm_engine.proofs.RebuiltFrames.{records_there}
use Rattle.pm_engine.proofs.RunningAppends.{frames_run}
use Rattle.pm_engine.proofs.RunningLines.{ChangeNoMap}
use Rattle.pm_engine.proofs.RunningLogs.{state_follows, seal_is}
use Rattle.pm_engine.proofs.SealedFrames.{tracks_sealed}
use Rattle.pm_engine.proofs.TrackedFrames.{tracks_no_page, tracks_operation}

-- ---- SEALs

one_unsealed : (log : LogEnd) (f : Frame) → without_seals (frames_in (append_steps log f)) ≡ without_seals (f ∷ [])
one_unsealed log f = by (has_room log (length f.payload)) (can_seal log.end)
  where
    by : (room seals : Bool) → without_seals (frames_in ((if room then [] else (if seals then Append seal_frame ∷ [] else []) ++ enter_steps) ++ Append f ∷ [])) ≡ without_seals (f ∷ [])
    by true seals = refl
    by false true = refl
    by false false = refl

-- with the SEALs between them or without
all_unsealed : (log : LogEnd) (fs : List Frame) → without_seals (frames_in (append_all_steps log fs)) ≡ without_seals fs
all_unsealed log [] = refl
all_unsealed log (f ∷ fs) =
    let one = append_steps log f in
    let more = append_all_steps (grown log f) fs in
    ap without_seals (frames_in-append one more) ∙ without_seals-append (frames_in one) (frames_in more)
    ∙ ap (λ l. l ++ without_seals (frames_in more)) (one_unsealed log f) ∙ ap (λ l. without_seals (f ∷ []) ++ l) (all_unsealed (grown log f) fs)
    ∙ sym (without_seals-append (f ∷ []) fs)

one_grammar : (log : LogEnd) (f : Frame) → IsSome (record_in f) → AllInGrammar (frames_in (append_steps log f))
one_grammar log f some = by (has_room log (length f.payload)) (can_seal log.end)
  where
    by : (room seals : Bool) → AllInGrammar (frames_in ((if room then [] else (if seals then Append seal_frame ∷ [] else []) ++ enter_steps) ++ Append f ∷ []))
    by true seals = (some, tt)
    by false true = (ap is_some seal_is, (some, tt))
    by false false = (some, tt)

all_grammar : (log : LogEnd) (fs : List Frame) → AllInGrammar fs → AllInGrammar (frames_in (append_all_steps log fs))
all_grammar log [] well = tt
all_grammar log (f ∷ fs) well =
    let one = append_steps log f in
    let more = append_all_steps (grown log f) fs in
    subst AllInGrammar (sym (frames_in-append one more)) (grammar_append (frames_in one) (frames_in more) (one_grammar log f well.0) (all_grammar (grown log f) fs well.1))

pub rebuilt_grammar : (shape : Shape) (frames : List Frame) (pages : Partitions) → rebuilt_of shape frames ≡ Some pages → AllInGrammar frames
rebuilt_grammar shape frames pages is = let records = records_there shape frames pages is in records_grammar frames (ap is_some records.1)

front_grammar : (xs ys : List Frame) → AllInGrammar (xs ++ ys) → AllInGrammar xs
front_grammar [] ys well = tt
front_grammar (x ∷ xs) ys well = (well.0, front_grammar xs ys well.1)

-- ---- frames

module _ (wanted : Shape) (told : List ℕ → ℕ) (store : StoreState) (before after : Pairs) (s : State) (w : World) (runs : RunsOver wanted told store before s w) (fs : List Frame) (pages : Partitions) (logged : List PageId)
    (says : SayPagesOver store before after fs pages logged)
    (segments : HasSegmentsFor store.log (length fs)) where
  abbrev steps : List Step
  steps = append_all_steps store.log fs

  repaged : LogRuns wanted told (record store { pages = pages; logged = logged }) runs.frames before s w
  repaged = record {
    stands = runs.log.stands;
    shape = runs.log.shape;
    checkpoint = runs.log.checkpoint;
    alone = runs.log.alone;
    ends = runs.log.ends;
    is_open = runs.log.is_open;
    begun = runs.log.begun;
    lasting = runs.log.lasting;
    leads = runs.log.leads;
    all = runs.log.all;
    newest = runs.log.newest;
    quiet = runs.log.quiet;
  }

  both : CanAll told (on_log steps) s w × LogRuns wanted told (appended_to store fs pages logged) (runs.frames ++ frames_in steps) after (states (on_log steps) s w) (worlds (on_log steps) s w)
  both = frames_run wanted told fs (record store { pages = pages; logged = logged }) runs.frames before s w repaged says.kinds after says.map segments

  pub store_append_goes : CanAll told (on_log steps) s w
  store_append_goes = both.0

  tracks_there : TracksPages store.shape (runs.frames ++ frames_in steps) runs.files pages logged
  tracks_there =
      let t = says.rebuild runs.frames runs.files runs.tracks in
      let well = rebuilt_grammar store.shape (runs.frames ++ fs) t.rebuilt t.is in
      let well' = grammar_append runs.frames (frames_in steps) (front_grammar runs.frames fs well) (all_grammar store.log fs (grammar_back runs.frames fs well)) in
      let same : without_seals (runs.frames ++ fs) ≡ without_seals (runs.frames ++ frames_in steps) =
      without_seals-append runs.frames fs ∙ ap (λ l. without_seals runs.frames ++ l) (sym (all_unsealed store.log fs)) ∙ sym (without_seals-append runs.frames (frames_in steps)) in
      tracks_sealed store.shape (runs.frames ++ fs) (runs.frames ++ frames_in steps) runs.files pages logged well well' same t

  pub store_append_runs : RunsOver wanted told (appended_to store fs pages logged) after (states (on_log steps) s w) (worlds (on_log steps) s w)
  store_append_runs = record {
    is_shape = runs.is_shape;
    is_mark = runs.is_mark;
    frames = runs.frames ++ frames_in steps;
    log = both.1;
    files = runs.files;
    tracks = tracks_there;
    grows = λ part inside. subst (λ (p : Partitions). Grows (runs.files part) (p part)) (sym (state_follows steps [] s w).files) (runs.grows part inside);
    holds = says.holds;
  }

-- ---- an operation

module _ (store : StoreState) (is_shape : IsShape store.shape) (part : ℕ) (noted : NotedPages) (pages : Partitions) (change : ChangesStore store part noted pages) where
  abbrev changes : List Frame
  changes = noted_frames noted store.logged

  rebuilds : (older : List Frame) (files : Partitions) → TracksPages store.shape older files store.pages store.logged → TracksPages store.shape (older ++ changes) files pages (operation_names store noted)
  rebuilds older files tracks =
      let names = change.names in
      tracks_operation store.shape older files store.pages store.logged noted.seen (omega (arith, change.inside, names.number)) (omega (arith, names.number, names.small)) is_shape.page_size
      (subst (λ p. ChangesWithin store.shape.page_size (store.pages p) noted.seen) (sym names.number) change.within) tracks noted.count pages names.few names.below
      (subst (λ p. ChangesPart p store.pages pages noted.seen.pages) (sym names.number) change.changes)

  changes_grammar : (older : List Frame) (files : Partitions) → TracksPages store.shape older files store.pages store.logged → AllInGrammar changes
  changes_grammar older files tracks =
      let t = rebuilds older files tracks in
      grammar_back older changes (rebuilt_grammar store.shape (older ++ changes) t.rebuilt t.is)

  changes_physical : AllPhysical changes
  changes_physical = below_physical noted.seen store.logged noted.count

  holds_after : (fs : List Frame) → AreOnce store.logged → HoldsPages (appended_to store fs pages (operation_names store noted))
  holds_after fs once = record {
    well_formed = change.well_formed;
    first_pages = change.first_pages;
    once = names_once noted.seen store.logged noted.count (omega (arith, change.names.number, change.names.small)) change.names.few once;
  }

  -- the records of the pages alone
  pub replay_says : (older : List Frame) (files : Partitions) → TracksPages store.shape older files store.pages store.logged → AreOnce store.logged → (pairs : Pairs) → SayPagesOver store pairs pairs changes pages (operation_names store noted)
  replay_says older files tracks once pairs =
      let well = changes_grammar older files tracks in
      record {
        kinds = physical_frames changes changes_physical well;
        rebuild = rebuilds;
        map = physical_replays store.shape changes pairs changes_physical well;
        holds = holds_after changes once;
      }

  pub changes_no_map : (older : List Frame) (files : Partitions) → TracksPages store.shape older files store.pages store.logged → ChangeNoMap store.shape changes
  changes_no_map older files tracks = physical_no_map store.shape changes changes_physical (changes_grammar older files tracks)

-- with the logical record before them
module _ (store : StoreState) (is_shape : IsShape store.shape) (part : ℕ) (noted : NotedPages) (frame : Frame) (pages : Partitions) (made : MakesPages store part noted frame pages) where
  pub operation_says : (older : List Frame) (files : Partitions) → TracksPages store.shape older files store.pages store.logged → AreOnce store.logged → SayPages store (operation_frames store noted frame) pages (operation_names store noted)
  operation_says older files tracks once =
      let changes = noted_frames noted store.logged in
      let next = pairs_in store.shape.partitions pages in
      let says = replay_says store is_shape part noted pages made.change older files tracks once next in
      record {
        kinds = (made.kind, says.kinds);
        rebuild = λ older files tracks.
            subst (λ (l : List Frame). TracksPages store.shape l files pages (operation_names store noted)) (append_assoc older (frame ∷ []) changes)
            (says.rebuild (older ++ frame ∷ []) files (tracks_no_page store.shape older frame made.logical files store.pages store.logged made.logical_is made.no_page tracks));
        map = ap (all_replayed store.shape changes) made.map ∙ says.map;
        holds = record { well_formed = says.holds.well_formed; first_pages = says.holds.first_pages; once = says.holds.once };
      }
