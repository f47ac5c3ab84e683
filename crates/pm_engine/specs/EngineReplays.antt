-- How an engine over page frames applies the records of its log again.
--
-- The records of the pages that one changes are appended; it itself isn't. Where what its operation may need is lacking
-- nothing is changed, and a checkpoint is made before it is tried again.
use Rattle.std.specs.Prelude.{◌≡◌, ◌≤◌, ◌<◌, ◌+◌, ℕ, Bool, true, false, List, [], Option, Some, None}
use Rattle.std.specs.Prelude.{Result, Ok, Err, IfOk, IsErrOf, OnOk}
use Rattle.pm_types.specs.declared.fault.PageFault.TheVariants.{BadPage}
use Rattle.pm_types.specs.declared.fault.StoreFault.{StoreFault}
use Rattle.pm_types.specs.declared.fault.StoreFault.TheVariants as fault
use Rattle.pm_types.specs.declared.limits.TheConstants.{OP_PAGES}
use Rattle.pm_types.specs.declared.page_id.PageId.{PageId}
use Rattle.pm_types.specs.declared.place.Place.{Place}
use Rattle.pm_types.specs.declared.shape.Shape.{Shape}
use Rattle.pm_types.specs.Faults.{store_fault_of}
use Rattle.pm_frame.specs.Frames.{Frame}
use Rattle.pm_disk.specs.Moments.{History, AllMoments}
use Rattle.pm_disk.specs.Worlds.{World, pages_in}
use Rattle.pm_model.specs.declared.line.Cmd.{Cmd}
use Rattle.pm_model.specs.declared.line.Line.TheVariants.{Good}
use Rattle.pm_model.specs.Eval.{Pairs}
use Rattle.pm_model.specs.ReplyLists.{ReplyList}
use Rattle.pm_records.specs.Records.{Record}
use Rattle.pm_segments.specs.Ends.{EndsThere}
use Rattle.pm_stripe.specs.declared.halt.Halt.{Halt}
use Rattle.pm_core.specs.BasePages.{page_in_file}
use Rattle.pm_core.specs.Calls.{ChangesDisk}
use Rattle.pm_core.specs.Held.{AllWellFormed}
use Rattle.pm_core.specs.Replays.{replayed}
use Rattle.pm_core.specs.Starts.{appended}
use Rattle.pm_core.specs.States.{State}
use Rattle.pm_engine.specs.declared.engine_replay.Applied.{Applied}
use Rattle.pm_engine.specs.declared.engine_replay.Applied.TheVariants as applied
use Rattle.pm_engine.specs.declared.frame_lines.Stop.{Stop}
use Rattle.pm_engine.specs.declared.frame_lines.Stop.TheVariants.{Halted, Faulted}
use Rattle.pm_engine.specs.Engines.{FrameRunning, running_in, map_in, NamesDirty, IsSameEngine}
use Rattle.pm_engine.specs.FrameLines.{EvaluatesLine}
use Rattle.pm_engine.specs.FrameReplays.{may_apply_more}
use Rattle.pm_engine.specs.FrameStores.{FrameStoreView, pages_in_frames, HasCleanPages}
use Rattle.pm_engine.specs.MetPages.{AllowsLine, AllowsRecord, KeepsOrMeets}
use Rattle.pm_engine.specs.RunningStores.{number_of}
use Rattle.pm_engine.specs.Replays.{CrashHoldsMap, AreLasting, GrewAtEnd, CanBeRefused}
use Rattle.pm_engine.specs.RunningLines.{KeepsLines}
use Rattle.pm_engine.specs.RunningStores.{RunsOver, HasSegmentsFor}
use Rattle.pm_engine.specs.TrackedPages.{HaveFirstPages}

-- The store's log runs, with this map as the newest one, and all that was appended since the store was opened changes
-- no map. The map of the pages may be behind. Its logged pages are those that stay in their frames.
pub record IsReplayingIn (wanted : Shape) (told : List ℕ → ℕ) (pairs : Pairs) (engine : FrameRunning) (s : State)
    (world : World) : Type 0 where
  pub logged : List PageId
  pub names : NamesDirty engine.store logged
  pub runs : RunsOver wanted told (running_in engine world logged) pairs s world
  pub keeps : KeepsLines engine.store.shape 0 pairs [] s.first (appended s)

-- The pages are such that a checkpoint leaves them as they are, whether the store is sound or not: each partition is
-- well formed, and one that has a page has its first one. Where it has none, its file has none that isn't read.
pub record HasWholePages (store : FrameStoreView) (world : World) : Type 0 where
  pub well_formed : AllWellFormed store.shape (pages_in_frames store world)
  pub first_pages : HaveFirstPages store.shape (pages_in_frames store world)
  pub none_unread : (part : ℕ) → part < store.shape.partitions → pages_in_frames store world part 0 ≡ None
      → page_in_file store.shape.page_size (pages_in world part) 0 ≡ None

-- in some state of the disk machine it is so, and the frames that were lasting still are
pub record ReplaysOnIn (wanted : Shape) (told : List ℕ → ℕ) (pairs : Pairs) (engine : FrameRunning) (s : State)
    (old new : World) : Type 0 where
  pub state : State
  pub is : IsReplayingIn wanted told pairs engine state new
  pub lasts : (from : Place) (left : List Frame) → AreLasting from left engine.store.shape pairs s old
      → AreLasting from left engine.store.shape pairs state new

-- What a call that applies the log again leaves of the engine, whatever became of the records. Its shape, region, locks
-- and order are as they were, and at each moment nothing but the disk changed. At `Ok` it is open, what is Clean is as
-- the files have it, and its log ends where its file does.
pub record KeepsEngineReady {T E : Type 0} (tells : Type 0) (before now : FrameRunning) (old new : History)
    (result : Result T E) : Type 0 where
  pub same : IsSameEngine before now
  pub order : now.order ≡ before.order
  pub is_open : OnOk result (now.store.is_open ≡ true)
  pub clean : tells → OnOk result (HasCleanPages now.store new.world)
  pub ends : tells → OnOk result (EndsThere now.log new.world)
  pub disk : tells → AllMoments old new (ChangesDisk old.world)

-- A record was applied again, or wasn't. While the engine is open it goes on with it, the log has grown at its end, and
-- pages that a checkpoint leaves as they are are so still. Whatever a crash leaves meanwhile of a sound store holds what
-- the store held.
pub record GoesOnInFrames (tells : Type 0) (before now : FrameRunning) (old new : History) : Type 0 where
  pub same : IsSameEngine before now
  pub ckpt : now.ckpt ≡ before.ckpt
  pub began : now.began ≡ before.began
  pub order : now.order ≡ before.order
  pub files : now.store.stripe.files ≡ before.store.stripe.files
  pub rises : now.store.is_open ≡ true → now.log.end.seg ≤ before.log.end.seg + OP_PAGES
  pub clean : tells → now.store.is_open ≡ true → HasCleanPages now.store new.world
  pub ends : tells → now.store.is_open ≡ true → EndsThere now.log new.world
  pub disk : tells → AllMoments old new (ChangesDisk old.world)
  pub grew : tells → HasSegmentsFor before.log OP_PAGES → now.store.is_open ≡ true
      → GrewAtEnd before.log now.log old.world new.world
  pub whole : tells → now.store.is_open ≡ true → HasWholePages before.store old.world
      → HasWholePages now.store new.world
  pub runs : tells → now.store.is_open ≡ true → (wanted : Shape) (told : List ℕ → ℕ) (pairs : Pairs) (s : State)
      → IsReplayingIn wanted told pairs before s old.world → HasSegmentsFor before.log OP_PAGES
      → ReplaysOnIn wanted told pairs now s old.world new.world
  pub crash : tells → (wanted : Shape) (told : List ℕ → ℕ) (pairs : Pairs) (s : State)
      → IsReplayingIn wanted told pairs before s old.world → HasSegmentsFor before.log OP_PAGES
      → AllMoments old new (CrashHoldsMap (before.log.end.seg + (OP_PAGES + 1)) (number_of before.ckpt.mark)
      wanted before.store.shape pairs)

-- A command was applied again by an engine. Where each partition is well formed it was evaluated, and no page is found
-- bad. One that wasn't accepted leaves the log and the disk as they were, and where something is lacking no page
-- changed.
pub record EvaluatesAgain (tells : Type 0) (cmd : Cmd) (before now : FrameRunning) (old new : World)
    (was replies : ReplyList) (answer : Result Bool Stop) : Type 0 where
  pub is_open : now.store.is_open ≡ may_apply_more answer
  pub evaluates : tells → AllWellFormed before.store.shape (pages_in_frames before.store old) → IfOk answer
      (EvaluatesLine before.store.shape (Good cmd) (pages_in_frames before.store old)
      (pages_in_frames now.store new) was replies)
  pub unlogged : (answer ≡ Ok true → ⊥) → now.log ≡ before.log
  pub refused : tells → (answer ≡ Ok true → ⊥) → new ≡ old
  pub halted : tells → (halt : Halt) → IsErrOf answer (Halted halt)
      → pages_in_frames now.store new ≡ pages_in_frames before.store old
  pub sound : tells → AllWellFormed before.store.shape (pages_in_frames before.store old) → (id : PageId)
      → IsErrOf answer (Faulted (BadPage id)) → ⊥
  pub meets : tells → (may_change : ℕ → Bool) → AllowsLine may_change before.store.shape (Good cmd)
      → KeepsOrMeets tells may_change before.store.shape (pages_in_frames before.store old)
      (pages_in_frames now.store new) (now.store.is_open ≡ true) (λ id. IsErrOf answer (Faulted (BadPage id)))

-- no page was found bad
abbrev pub NamesNoPage : {T : Type 0} → Result T StoreFault → Type 0
NamesNoPage result = (id : PageId) → IsErrOf result (fault.BadPage id) → ⊥

-- whether the pages are as the record says
abbrev pub is_done : Applied → Bool
is_done applied.Done = true
is_done applied.Bad = false
is_done (applied.Halted halt) = false

-- what became of a record, and the map that it leaves
abbrev pub AppliesAs : Applied → Shape → Option Record → Pairs → Pairs → Type 0
AppliesAs applied.Done shape found before now = replayed shape found before ≡ Some now
AppliesAs applied.Bad shape found before now = replayed shape found before ≡ None
AppliesAs (applied.Halted halt) shape found before now = now ≡ before

-- A record was applied again to pages each of whose partitions was well formed. What became of it, and the map that it
-- leaves, follow from the map that there was. Each partition is well formed still, and no page was found bad.
pub record AppliesToWellFormed (found : Option Record) (before now : FrameRunning) (old new : World)
    (result : Result Applied StoreFault) : Type 0 where
  pub applies : IfOk result (λ became. AppliesAs became before.store.shape found (map_in before old)
      (map_in now new))
  pub well_formed : OnOk result (AllWellFormed before.store.shape (pages_in_frames now.store new))
  pub no_page : NamesNoPage result

-- A record of the log was applied again by an engine, or wasn't. At `Ok` the engine is open. What became of the record
-- is said over well-formed pages; one that wasn't applied leaves the log and the disk as they were.
pub record AppliesRecord (tells : Type 0) (found : Option Record) (before now : FrameRunning) (old new : History)
    (result : Result Applied StoreFault) : Type 0 where
  pub goes_on : GoesOnInFrames tells before now old new
  pub is_open : OnOk result (now.store.is_open ≡ true)
  pub over_well_formed : tells → AllWellFormed before.store.shape (pages_in_frames before.store old.world)
      → AppliesToWellFormed found before now old.world new.world result
  -- of any store: which partition changes, which page is found bad, and which records may be refused
  pub meets : tells → (may_change : ℕ → Bool) → AllowsRecord may_change before.store.shape found
      → KeepsOrMeets tells may_change before.store.shape (pages_in_frames before.store old.world)
      (pages_in_frames now.store new.world) (now.store.is_open ≡ true) (λ id. IsErrOf result (fault.BadPage id))
  pub refuses : result ≡ Ok applied.Bad → CanBeRefused found
  pub unlogged : IfOk result (λ became. is_done became ≡ false → now.log ≡ before.log)
  pub refused : tells → IfOk result (λ became. is_done became ≡ false → new.world ≡ old.world)

-- what became of the record of a put, or of a remove, whose command wasn't accepted: a remove of an absent key is
-- applied by changing nothing
abbrev pub refused_as : Bool → Applied
refused_as true = applied.Bad
refused_as false = applied.Done

-- what became of it where its command was answered so
abbrev pub applied_as : Bool → Result Bool Stop → Result Applied StoreFault
applied_as is_put (Ok true) = Ok applied.Done
applied_as is_put (Ok false) = Ok (refused_as is_put)
applied_as is_put (Err (Halted halt)) = Ok (applied.Halted halt)
applied_as is_put (Err (Faulted fault)) = Err (store_fault_of fault)
