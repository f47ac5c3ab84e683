-- A store that runs does lines one after the other.
use Rattle.std.proofs.Common.{◌≡◌, inl, inr, ℕ, ◌+◌, ◌*◌, ◌≤◌, List, [], ◌∷◌, ◌++◌, length, Option, None, refl, sym, ap, ◌∙◌, subst, arith, append_assoc, append-nil, length-append}
use Rattle.std.specs.Prelude.{Bool, if◌then◌else◌}
use Rattle.pm_types.specs.declared.page_id.PageId.{PageId}
use Rattle.pm_types.specs.declared.shape.Shape.{Shape}
use Rattle.pm_frame.specs.Frames.{Frame}
use Rattle.pm_disk.specs.Worlds.{World}
use Rattle.pm_model.specs.declared.line.Line.{Line}
use Rattle.pm_model.specs.Eval.{Pairs}
use Rattle.pm_core.specs.BasePages.{Partitions}
use Rattle.pm_core.specs.Held.{pairs_in}
use Rattle.pm_core.specs.Machine.{DiskStep, CanAll, states, worlds}
use Rattle.pm_core.specs.PageSets.{AreOnce}
use Rattle.pm_core.specs.Rounds.{on_log}
use Rattle.pm_core.specs.States.{State}
use Rattle.pm_core.proofs.Joins.{can-append}
use Rattle.pm_core.proofs.Making.{worlds_join}
use Rattle.pm_ckpt.proofs.Whole.{states_join}
use Rattle.pm_segments.specs.Ends.{LogEnd}
use Rattle.pm_engine.specs.AppendRuns.{grown_all, append_all_steps}
use Rattle.pm_engine.specs.LineChains.{StepsLine, StepsLines, NameTheSame, renamed}
use Rattle.pm_engine.specs.RunningLines.{HasRun}
use Rattle.pm_engine.specs.RunningSteps.{appended_to, operation_frames, operation_names}
use Rattle.pm_engine.specs.RunningStores.{StoreState, LogRuns, IsRunning, HasSegmentsFor, map_of}
use Rattle.pm_engine.specs.TrackedPages.{TracksPages}
use Rattle.pm_engine.proofs.AppendChains.{grown_all-append, append_all-append}
use Rattle.pm_engine.proofs.HasRunLines.{line_unchanged, line_done}
use Rattle.pm_engine.proofs.GrownLogs.{all_rises}
use Rattle.pm_engine.proofs.RunningAppends.{on_log-append}
use Rattle.pm_engine.proofs.RunningOperations.{operation_says, store_append_goes}

-- ---- the same names in another order

pub tracks_renamed : (shape : Shape) (frames : List Frame) (files pages : Partitions) (logged names : List PageId) → NameTheSame logged names → TracksPages shape frames files pages logged → TracksPages shape frames files pages names
tracks_renamed shape frames files pages logged names same t = record {
  rebuilt = t.rebuilt;
  is = t.is;
  each = λ part index. t.each part index ∙ ap (λ (b : Bool). let o : Option (List ℕ) = if b then pages part index else None in o) (sym (same part index));
  there = λ part index has. t.there part index (sym (same part index) ∙ has);
  clean = λ part index lt none. t.clean part index lt (sym (same part index) ∙ none);
}

pub log_renamed : (wanted : Shape) (told : List ℕ → ℕ) (store : StoreState) (names : List PageId) (frames : List Frame) (pairs : Pairs) (s : State) (w : World) → LogRuns wanted told store frames pairs s w → LogRuns wanted told (renamed store names) frames pairs s w
log_renamed wanted told store names frames pairs s w runs = record {
  stands = runs.stands;
  shape = runs.shape;
  checkpoint = runs.checkpoint;
  alone = runs.alone;
  ends = runs.ends;
  is_open = runs.is_open;
  begun = runs.begun;
  lasting = runs.lasting;
  leads = runs.leads;
  all = runs.all;
  newest = runs.newest;
  quiet = runs.quiet;
}

pub runs_renamed : (wanted : Shape) (told : List ℕ → ℕ) (store : StoreState) (s : State) (w : World) (names : List PageId) → IsRunning wanted told store s w → NameTheSame store.logged names → AreOnce names → IsRunning wanted told (renamed store names) s w
runs_renamed wanted told store s w names runs same once = record {
  is_shape = runs.is_shape;
  is_mark = runs.is_mark;
  frames = runs.frames;
  log = log_renamed wanted told store names runs.frames (map_of store) s w runs.log;
  files = runs.files;
  tracks = tracks_renamed store.shape runs.frames runs.files store.pages store.logged names same runs.tracks;
  grows = runs.grows;
  holds = record { well_formed = runs.holds.well_formed; first_pages = runs.holds.first_pages; once = once };
}

pub lines_renamed : (wanted : Shape) (told : List ℕ → ℕ) (from : ℕ) (start : Pairs) (lines : List Line) (store : StoreState) (s : State) (w : World) (names : List PageId) → HasRun wanted told from start lines store s w → NameTheSame store.logged names → AreOnce names
    → HasRun wanted told from start lines (renamed store names) s w
lines_renamed wanted told from start lines store s w names has same once = record { runs = runs_renamed wanted told store s w names has.runs same once; lasting = has.lasting; map = has.map; keeps = has.keeps }

-- ---- one line

-- a store that nothing was appended to
none_appended : (wanted : Shape) (told : List ℕ → ℕ) (from : ℕ) (start : Pairs) (lines : List Line) (store : StoreState) (s : State) (w : World) (frames : List Frame) (pages : Partitions) (logged : List PageId) → HasRun wanted told from start lines store s w
    → frames ≡ [] → pages ≡ store.pages → logged ≡ store.logged
    → HasRun wanted told from start lines (appended_to store frames pages logged) (states (on_log (append_all_steps store.log frames)) s w) (worlds (on_log (append_all_steps store.log frames)) s w)
none_appended wanted told from start lines store s w frames pages logged has no_frame same_pages same_names =
    subst (λ (q : List Frame × Partitions × List PageId). HasRun wanted told from start lines (appended_to store q.0 q.1 q.2) (states (on_log (append_all_steps store.log q.0)) s w) (worlds (on_log (append_all_steps store.log q.0)) s w))
    {x = ([], store.pages, store.logged)} {y = (frames, pages, logged)} (λ i. (sym no_frame i, sym same_pages i, sym same_names i))
    (lines_renamed wanted told from start lines store s w store.logged has (λ part index. refl) has.runs.holds.once)

module _ (wanted : Shape) (told : List ℕ → ℕ) (from : ℕ) (start : Pairs) (lines : List Line) (store : StoreState) (s : State) (w : World) (has : HasRun wanted told from start lines store s w) (line : Line) (frames : List Frame) (pages : Partitions) (logged : List PageId) where
  pub one_done : StepsLine store line frames pages logged → HasSegmentsFor store.log (length frames)
      → CanAll told (on_log (append_all_steps store.log frames)) s w
      × HasRun wanted told from start (lines ++ line ∷ []) (appended_to store frames pages logged) (states (on_log (append_all_steps store.log frames)) s w) (worlds (on_log (append_all_steps store.log frames)) s w)
  one_done step segments = elim step [
    | inl left ↦ (
      subst (λ (fs : List Frame). CanAll told (on_log (append_all_steps store.log fs)) s w) (sym left.frames_are) tt,
      none_appended wanted told from start (lines ++ line ∷ []) store s w frames pages logged (line_unchanged wanted told from start lines store s w has line left.map) left.frames_are left.pages_are left.logged_are,
    )
    | inr on ↦
        let fs = operation_frames store on.noted on.frame in
        let room : HasSegmentsFor store.log (length fs) = subst (λ (l : List Frame). HasSegmentsFor store.log (length l)) on.frames_are segments in
        let says = operation_says store has.runs.is_shape on.part on.noted on.frame pages on.makes has.runs.frames has.runs.files has.runs.tracks has.runs.holds.once in
        let done = line_done wanted told from start lines store s w has line on.part on.noted on.frame pages on.makes on.map room in
        let can = store_append_goes wanted told store (map_of store) (pairs_in store.shape.partitions pages) s w has.runs fs pages (operation_names store on.noted) says room in
        subst (λ (q : List Frame × List PageId). CanAll told (on_log (append_all_steps store.log q.0)) s w
        × HasRun wanted told from start (lines ++ line ∷ []) (appended_to store q.0 pages q.1) (states (on_log (append_all_steps store.log q.0)) s w) (worlds (on_log (append_all_steps store.log q.0)) s w))
        {x = (fs, operation_names store on.noted)} {y = (frames, logged)} (λ i. (sym on.frames_are i, sym on.logged_are i)) (can, done)
  ]

-- ---- all of them

-- what frames more append
appends_on : (store : StoreState) (one rest : List Frame) → on_log (append_all_steps store.log one) ++ on_log (append_all_steps (grown_all store.log one) rest) ≡ on_log (append_all_steps store.log (one ++ rest))
appends_on store one rest = sym (on_log-append (append_all_steps store.log one) (append_all_steps (grown_all store.log one) rest)) ∙ ap on_log (sym (append_all-append store.log one rest))

pub all_done : (wanted : Shape) (told : List ℕ → ℕ) (from : ℕ) (start : Pairs) (more lines : List Line) (store : StoreState) (s : State) (w : World) (frames : List Frame) (pages : Partitions) (logged : List PageId) → HasRun wanted told from start lines store s w
    → StepsLines store more frames pages logged → HasSegmentsFor store.log (length frames)
    → CanAll told (on_log (append_all_steps store.log frames)) s w
    × HasRun wanted told from start (lines ++ more) (appended_to store frames pages logged) (states (on_log (append_all_steps store.log frames)) s w) (worlds (on_log (append_all_steps store.log frames)) s w)
all_done wanted told from start [] lines store s w frames pages logged has none segments = (
  subst (λ (fs : List Frame). CanAll told (on_log (append_all_steps store.log fs)) s w) (sym none.0) tt,
  subst (λ (ls : List Line). HasRun wanted told from start ls (appended_to store frames pages logged) (states (on_log (append_all_steps store.log frames)) s w) (worlds (on_log (append_all_steps store.log frames)) s w)) (sym (append-nil lines))
      (none_appended wanted told from start lines store s w frames pages logged has none.0 none.1 none.2),
)
all_done wanted told from start (line ∷ more) lines store s w frames pages logged has (one, mid, names, rest, step, steps, all) segments =
    let counts : length frames ≡ length one + length rest = ap length all ∙ length-append one rest in
    let first = one_done wanted told from start lines store s w has line one mid names step (omega (arith, segments, counts)) in
    let logs = on_log (append_all_steps store.log one) in
    let next = appended_to store one mid names in
    let later = on_log (append_all_steps next.log rest) in
    let rises = all_rises store.log one in
    let then_all = all_done wanted told from start more (lines ++ line ∷ []) next (states logs s w) (worlds logs s w) rest pages logged first.1 steps (omega (arith, segments, counts, rises)) in
    let steps_are : logs ++ later ≡ on_log (append_all_steps store.log (one ++ rest)) = appends_on store one rest in
    let lines_are : (lines ++ line ∷ []) ++ more ≡ lines ++ line ∷ more = append_assoc lines (line ∷ []) more in
    let can = can-append told logs later s w first.0 then_all.0 in
    let there : HasRun wanted told from start ((lines ++ line ∷ []) ++ more) (appended_to next rest pages logged) (states (logs ++ later) s w) (worlds (logs ++ later) s w) =
    subst (λ (q : State × World). HasRun wanted told from start ((lines ++ line ∷ []) ++ more) (appended_to next rest pages logged) q.0 q.1) {x = (states later (states logs s w) (worlds logs s w), worlds later (states logs s w) (worlds logs s w))} {y = (states (logs ++ later) s w, worlds (logs ++ later) s w)}
    (λ i. (sym (states_join logs later s w) i, sym (worlds_join logs later s w) i)) then_all.1 in
    let joined : HasRun wanted told from start (lines ++ line ∷ more) (appended_to store (one ++ rest) pages logged) (states (on_log (append_all_steps store.log (one ++ rest))) s w) (worlds (on_log (append_all_steps store.log (one ++ rest))) s w) =
    subst (λ (q : List Line × LogEnd × List DiskStep). HasRun wanted told from start q.0 (record store { pages = pages; logged = logged; log = q.1 }) (states q.2 s w) (worlds q.2 s w))
    {x = ((lines ++ line ∷ []) ++ more, grown_all (grown_all store.log one) rest, logs ++ later)} {y = (lines ++ line ∷ more, grown_all store.log (one ++ rest), on_log (append_all_steps store.log (one ++ rest)))}
    (λ i. (lines_are i, sym (grown_all-append store.log one rest) i, steps_are i)) there in
    let both : CanAll told (on_log (append_all_steps store.log (one ++ rest))) s w
    × HasRun wanted told from start (lines ++ line ∷ more) (appended_to store (one ++ rest) pages logged) (states (on_log (append_all_steps store.log (one ++ rest))) s w) (worlds (on_log (append_all_steps store.log (one ++ rest))) s w) =
    (subst (λ (l : List DiskStep). CanAll told l s w) steps_are can, joined) in
    subst (λ (fs : List Frame). CanAll told (on_log (append_all_steps store.log fs)) s w
    × HasRun wanted told from start (lines ++ line ∷ more) (appended_to store fs pages logged) (states (on_log (append_all_steps store.log fs)) s w) (worlds (on_log (append_all_steps store.log fs)) s w)) (sym all) both

-- how many frames they are
one_few : (store : StoreState) (line : Line) (frames : List Frame) (pages : Partitions) (logged : List PageId) → StepsLine store line frames pages logged → length frames ≤ 33
one_few store line frames pages logged step = elim step [
  | inl left ↦ omega (arith, ap length left.frames_are)
  | inr on ↦ omega (arith, ap length on.frames_are, on.few)
]

pub all_few : (more : List Line) (store : StoreState) (frames : List Frame) (pages : Partitions) (logged : List PageId) → StepsLines store more frames pages logged → length frames ≤ 33 * length more
all_few [] store frames pages logged none = omega (arith, ap length none.0)
all_few (line ∷ more) store frames pages logged (one, mid, names, rest, step, steps, all) =
    omega (arith, ap length all, length-append one rest, one_few store line one mid names step, all_few more (appended_to store one mid names) rest pages logged steps)
