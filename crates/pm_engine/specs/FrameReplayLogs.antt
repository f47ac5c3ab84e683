-- How an engine over page frames applies the log of a store that is opened again, from its replay place on.
use Rattle.std.specs.Prelude.{◌≡◌, ◌≤◌, ◌<◌, ◌+◌, ◌*◌, ◌^◌, ℕ, Bool, true, false, List, length, Option, Some, None}
use Rattle.std.specs.Prelude.{Result, Ok, OnOk, IsErrOf, All}
use Rattle.pm_types.specs.declared.fault.StoreFault.{StoreFault}
use Rattle.pm_types.specs.declared.fault.StoreFault.TheVariants.{BadPage, BadRecord}
use Rattle.pm_types.specs.declared.limits.TheConstants.{OP_PAGES}
use Rattle.pm_types.specs.declared.page_id.PageId.{PageId}
use Rattle.pm_types.specs.declared.place.Place.{Place}
use Rattle.pm_types.specs.declared.shape.Shape.{Shape}
use Rattle.pm_frame.specs.declared.limits.TheConstants.{SEGMENT_END_MAX}
use Rattle.pm_frame.specs.Frames.{Frame}
use Rattle.pm_disk.specs.Moments.{History, AllMoments}
use Rattle.pm_disk.specs.Worlds.{World}
use Rattle.pm_model.specs.Eval.{Pairs}
use Rattle.pm_records.specs.LogFiles.{contents}
use Rattle.pm_records.specs.Logs.{all_frames, record_in, after_frames, is_over, HasFrames}
use Rattle.pm_records.specs.Records.{Record}
use Rattle.pm_segments.specs.Scans.{Scanned, frame_ahead, Advances, IsAhead}
use Rattle.pm_core.specs.Held.{AllWellFormed}
use Rattle.pm_core.specs.Replays.{replayed, all_replayed}
use Rattle.pm_core.specs.States.{State}
use Rattle.pm_ckpt.specs.Checkpoints.{KeepsLogFrom}
use Rattle.pm_engine.specs.EngineReplays.{HasWholePages, IsReplayingIn, KeepsEngineReady, NamesNoPage}
use Rattle.pm_engine.specs.FrameReplayCheckpoints.{ReplaysRecord}
use Rattle.pm_engine.specs.Engines.{FrameRunning, map_in}
use Rattle.pm_engine.specs.FrameStores.{pages_in_frames}
use Rattle.pm_engine.specs.MetPages.{AllowsRecord, KeepsOrMeets}
use Rattle.pm_engine.specs.RunningStores.{number_of}
use Rattle.pm_engine.specs.Replays.{AreLasting, CrashHoldsMap, IsBadReplay, IsRefusedReplay, LogLeadsTo}
use Rattle.pm_engine.specs.Replays.{CanBeRefused}

-- what a frame says, if one was found
abbrev pub record_found : Option Frame → Option Record
record_found None = None
record_found (Some frame) = record_in frame

-- The frame that stands next was applied again, or can't be, or none stands there, which leaves the disk as it was.
pub record AppliesNextIn (tells : Type 0) (scan later : Scanned) (before now : FrameRunning) (old new : History)
    (result : Result Bool StoreFault) : Type 0 where
  pub found : Option Frame
  pub stands : tells → OnOk result (found ≡ frame_ahead scan old.world)
  -- also where a fault came, what was found stands next
  pub is_next : tells → (frame : Frame) → found ≡ Some frame → frame_ahead scan old.world ≡ Some frame
  pub advances : OnOk result (Advances scan later found)
  pub there : result ≡ Ok true → (frame : Frame) × (found ≡ Some frame)
  pub still : tells → found ≡ None → OnOk result (new.world ≡ old.world)
  pub replays : ReplaysRecord tells scan.next (record_found found) before now old new result

-- From this place on frames stand that lead to the log's old end and make this map of the map of the engine's pages.
pub record HasRecordsIn (pairs : Pairs) (from end : Place) (engine : FrameRunning) (world : World) : Type 0 where
  pub rest : List Frame
  pub run : HasFrames all_frames (contents world.log) from rest
  pub to : after_frames from rest ≡ end
  pub goes_on : is_over from rest ≡ false
  pub left : all_replayed engine.store.shape rest (Some (map_in engine world)) ≡ Some pairs
  pub behind : end.seg ≤ engine.log.end.seg

-- There are numbers for the segments that so many records may take, their pages and a checkpoint before each, up to
-- the last one and two more, and for these checkpoints, up to the highest.
pub record HasNumbersIn (last highest records : ℕ) (engine : FrameRunning) : Type 0 where
  pub segments : engine.log.end.seg + (OP_PAGES + 1) * records ≤ last
  pub last_fits : last + 2 < 2 ^ 64
  pub marks : number_of engine.ckpt.mark + records ≤ highest
  pub highest_fits : highest < 2 ^ 64

-- The store is replaying, and lasting frames stand that make the newest map of the map of its pages.
pub record CanReplayIn (last highest : ℕ) (wanted : Shape) (told : List ℕ → ℕ) (pairs : Pairs) (from end : Place)
    (engine : FrameRunning) (s : State) (world : World) : Type 0 where
  pub is : IsReplayingIn wanted told pairs engine s world
  pub ahead : HasRecordsIn pairs from end engine world
  pub numbers : HasNumbersIn last highest (length ahead.rest) engine
  pub lasts : AreLasting from ahead.rest engine.store.shape pairs s world

-- in some state of the disk machine it is so, and the scan's log isn't over
pub record CanReplayOn (last highest : ℕ) (wanted : Shape) (told : List ℕ → ℕ) (pairs : Pairs) (scan : Scanned)
    (end : Place) (engine : FrameRunning) (world : World) : Type 0 where
  pub state : State
  pub can : CanReplayIn last highest wanted told pairs scan.next end engine state world
  pub over : scan.is_over ≡ false

-- The frame that stands next was applied to pages that may be applied to, and they are so still. From its segment on
-- the log lost nothing.
pub record AppliesFrameIn (scan later : Scanned) (before now : FrameRunning) (old new : World) : Type 0 where
  pub frame : Frame
  pub stands : frame_ahead scan old ≡ Some frame
  pub advances : Advances scan later (Some frame)
  pub makes : replayed before.store.shape (record_in frame) (map_in before old) ≡ Some (map_in now new)
  pub pages : HasWholePages now.store new
  pub log : KeepsLogFrom scan.next.seg before.log.end.seg old new
  pub goes_on : before.log.end.seg ≤ now.log.end.seg

-- At this place, where the scan goes on, a frame stands that can't be applied to the map of the pages, or none stands
-- there, which leaves the disk as it was. From its segment on the log lost nothing.
pub record IsBadNextIn (scan : Scanned) (before : FrameRunning) (old new : World) (at : Place) : Type 0 where
  pub there : at ≡ scan.next
  pub found : Option Frame
  pub stands : found ≡ frame_ahead scan old
  pub fails : replayed before.store.shape (record_found found) (map_in before old) ≡ None
  pub still : found ≡ None → new ≡ old
  pub log : KeepsLogFrom scan.next.seg before.log.end.seg old new

-- Of any store: which partition the frame that stands next changes, and which page is found bad. A record that is refused
-- stands there and can be, or none does. At `Ok` a frame was there, the scan goes on after it, and from its segment on
-- the log lost nothing.
pub record StepsOverAny {T : Type 0} (tells : Type 0) (scan later : Scanned) (before now : FrameRunning)
    (old new : World) (result : Result T StoreFault) : Type 0 where
  pub meets : (may_change : ℕ → Bool)
      → AllowsRecord may_change before.store.shape (record_found (frame_ahead scan old))
      → KeepsOrMeets tells may_change before.store.shape (pages_in_frames before.store old)
      (pages_in_frames now.store new) (now.store.is_open ≡ true) (λ id. IsErrOf result (BadPage id))
  pub refuses : (at : Place) → IsErrOf result (BadRecord at)
      → (at ≡ scan.next) × CanBeRefused (record_found (frame_ahead scan old)) × (frame_ahead scan old ≡ None → new ≡ old)
  pub log : (at : Place) → IsErrOf result (BadRecord at) → KeepsLogFrom scan.next.seg before.log.end.seg old new
  pub stands : OnOk result ((frame : Frame) × (frame_ahead scan old ≡ Some frame) × Advances scan later (Some frame))
  pub loses_none : OnOk result (KeepsLogFrom scan.next.seg before.log.end.seg old new)
  pub goes_on : OnOk result (before.log.end.seg ≤ now.log.end.seg)

-- The frame that stands next was applied again. At `Ok` the scan and the engine go on after it. Where it stood before
-- the log's old end, and a sound store could be replayed from there, it can be from the next one; no record is bad.
-- Whatever a crash leaves meanwhile holds what the store held. Of any store whose pages may be applied to, sound or not,
-- no page is bad, and a record is only where it can't be applied, or none stands there.
pub record StepsReplay {T : Type 0} (tells : Type 0) (scan later : Scanned) (before now : FrameRunning)
    (old new : History) (result : Result T StoreFault) : Type 0 where
  pub ready : KeepsEngineReady tells before now old new result
  pub passes : OnOk result ((frame : Frame) × Advances scan later (Some frame))
  pub bound : OnOk result (later.next.off ≤ SEGMENT_END_MAX)
  pub ahead : tells → OnOk result (IsAhead later new.world)
  pub applies : tells → HasWholePages before.store old.world
      → OnOk result (AppliesFrameIn scan later before now old.world new.world)
  pub any : tells → StepsOverAny tells scan later before now old.world new.world result
  pub no_page : tells → HasWholePages before.store old.world → NamesNoPage result
  pub bad : tells → HasWholePages before.store old.world → (at : Place) → IsErrOf result (BadRecord at)
      → IsBadNextIn scan before old.world new.world at
  pub runs : tells → (last highest : ℕ) (wanted : Shape) (told : List ℕ → ℕ) (pairs : Pairs) (end : Place)
      → (scan.next ≡ end → ⊥) → CanReplayOn last highest wanted told pairs scan end before old.world
      → OnOk result (CanReplayOn last highest wanted told pairs later end now new.world)
  pub no_bad : tells → (last highest : ℕ) (wanted : Shape) (told : List ℕ → ℕ) (pairs : Pairs) (end : Place)
      → (scan.next ≡ end → ⊥) → CanReplayOn last highest wanted told pairs scan end before old.world
      → (at : Place) → IsErrOf result (BadRecord at) → ⊥
  pub crash : tells → (last highest : ℕ) (wanted : Shape) (told : List ℕ → ℕ) (pairs : Pairs) (end : Place)
      → (scan.next ≡ end → ⊥) → CanReplayOn last highest wanted told pairs scan end before old.world
      → AllMoments old new (CrashHoldsMap (last + 1) highest wanted before.store.shape pairs)

-- All records of a sound store were applied: the store goes on replaying, the map of the pages is this one, the log
-- ends in a segment up to the last one, and the start marker in force has at most the highest number. No record is
-- bad. Whatever a crash leaves meanwhile holds what the store held, and goes at most one segment further.
pub record ReplaysAllIn {T : Type 0} (last highest : ℕ) (wanted : Shape) (told : List ℕ → ℕ) (pairs : Pairs)
    (before now : FrameRunning) (old new : History) (result : Result T StoreFault) : Type 0 where
  pub replays : OnOk result ((state : State) × IsReplayingIn wanted told pairs now state new.world)
  pub map : OnOk result (map_in now new.world ≡ pairs)
  pub segment : OnOk result (now.log.end.seg ≤ last)
  pub number : OnOk result (number_of now.ckpt.mark ≤ highest)
  pub no_bad : (at : Place) → IsErrOf result (BadRecord at) → ⊥
  pub no_page : (id : PageId) → IsErrOf result (BadPage id) → ⊥
  pub crash : AllMoments old new (CrashHoldsMap (last + 1) highest wanted before.store.shape pairs)

-- All records up to the log's old end were applied over well-formed pages, whether the store is sound or not: frames
-- that stood in the log lead there from the first place and make this map of the one that was, and the pages are well
-- formed.
pub record AppliesAllIn (from end : Place) (before now : FrameRunning) (old new : World) : Type 0 where
  pub frames : List Frame
  pub stand : HasFrames all_frames (contents old.log) from frames
  pub to : after_frames from frames ≡ end
  pub makes : all_replayed before.store.shape frames (Some (map_in before old)) ≡ Some (map_in now new)
  pub well_formed : AllWellFormed now.store.shape (pages_in_frames now.store new)

-- What is said of any store whose pages were well formed: at `Ok` the records were applied, no page is bad, and a
-- record is only where it can't be applied to the map of the ones before it, or none stands there.
pub record ReplaysWellFormed {T : Type 0} (from end : Place) (before now : FrameRunning) (old new : World)
    (result : Result T StoreFault) : Type 0 where
  pub applies : OnOk result (AppliesAllIn from end before now old new)
  pub no_page : (id : PageId) → IsErrOf result (BadPage id) → ⊥
  pub bad : (at : Place) → IsErrOf result (BadRecord at)
      → IsBadReplay before.store.shape (map_in before old) (contents old.log) from end new at

-- What is said of any store, where these frames stand from this place on, up to the log's old end: which partitions
-- change, and which page is found bad. A record that is refused stands among them and can be, or none stands there.
pub record ReplaysOverAny {T : Type 0} (tells : Type 0) (from end : Place) (frames : List Frame)
    (before now : FrameRunning) (old new : World) (result : Result T StoreFault) : Type 0 where
  pub meets : (may_change : ℕ → Bool)
      → All (λ frame. AllowsRecord may_change before.store.shape (record_in frame)) frames
      → KeepsOrMeets tells may_change before.store.shape (pages_in_frames before.store old)
      (pages_in_frames now.store new) (now.store.is_open ≡ true) (λ id. IsErrOf result (BadPage id))
  pub refuses : (at : Place) → IsErrOf result (BadRecord at) → IsRefusedReplay (contents old.log) from end new at

-- The records from where a scan goes on up to the log's old end were applied, or a fault ended it. What is said of a
-- sound store holds where it could be replayed from there, and what is said of any store where frames lead from there
-- to that end, and its pages may be applied to.
pub record ReplaysScan {T : Type 0} (tells : Type 0) (scan : Scanned) (end : Place) (before now : FrameRunning)
    (old new : History) (result : Result T StoreFault) : Type 0 where
  pub ready : KeepsEngineReady tells before now old new result
  pub sound : tells → (last highest : ℕ) (wanted : Shape) (told : List ℕ → ℕ) (pairs : Pairs)
      → CanReplayOn last highest wanted told pairs scan end before old.world
      → ReplaysAllIn last highest wanted told pairs before now old new result
  pub any : tells → scan.is_over ≡ false → LogLeadsTo scan.next end before.log old.world
      → HasWholePages before.store old.world → ReplaysWellFormed scan.next end before now old.world new.world result
  pub over_any : tells → scan.is_over ≡ false → (leads : LogLeadsTo scan.next end before.log old.world)
      → ReplaysOverAny tells scan.next end leads.frames before now old.world new.world result

-- The records from one place on up to the log's old end were applied, or a fault ended it. What is said of a sound store
-- holds where it could be replayed from there; what is said of any store holds where frames lead from there to that end,
-- and more of one whose pages are well formed, and have none that a checkpoint would bring to light.
pub record ReplaysLog {T : Type 0} (tells : Type 0) (from end : Place) (before now : FrameRunning) (old new : History)
    (result : Result T StoreFault) : Type 0 where
  pub ready : KeepsEngineReady tells before now old new result
  pub sound : tells → (last highest : ℕ) (wanted : Shape) (told : List ℕ → ℕ) (pairs : Pairs) (s : State)
      → CanReplayIn last highest wanted told pairs from end before s old.world
      → ReplaysAllIn last highest wanted told pairs before now old new result
  pub any : tells → LogLeadsTo from end before.log old.world → HasWholePages before.store old.world
      → ReplaysWellFormed from end before now old.world new.world result
  pub over_any : tells → (leads : LogLeadsTo from end before.log old.world)
      → ReplaysOverAny tells from end leads.frames before now old.world new.world result
