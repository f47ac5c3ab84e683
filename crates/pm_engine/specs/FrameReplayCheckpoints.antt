-- How an engine over page frames applies a record of its log again where a checkpoint may have to be made first.
--
-- It is made where what the record's operation may need is lacking. A restart applies the log from that record on then.
use Rattle.std.specs.Prelude.{◌≡◌, ◌≤◌, ◌<◌, ◌+◌, ◌^◌, ℕ, Bool, true, false, List, Option, Some}
use Rattle.std.specs.Prelude.{Result, Ok, Err, IfOk, OnOk, OnErr, IsErrOf}
use Rattle.pm_types.specs.declared.fault.StoreFault.{StoreFault}
use Rattle.pm_types.specs.declared.fault.StoreFault.TheVariants.{Memory, BadPage}
use Rattle.pm_types.specs.declared.fault.Lack.TheVariants.{Frames}
use Rattle.pm_types.specs.declared.limits.TheConstants.{OP_PAGES}
use Rattle.pm_types.specs.declared.page_id.PageId.{PageId}
use Rattle.pm_types.specs.declared.place.Place.{Place}
use Rattle.pm_types.specs.declared.shape.Shape.{Shape}
use Rattle.pm_frame.specs.Frames.{Frame}
use Rattle.pm_disk.specs.Moments.{History, AllMoments}
use Rattle.pm_disk.specs.Worlds.{World}
use Rattle.pm_model.specs.Eval.{Pairs}
use Rattle.pm_records.specs.Records.{Record}
use Rattle.pm_ckpt.specs.Checkpoints.{KeepsLogFrom}
use Rattle.pm_core.specs.Replays.{all_replayed}
use Rattle.pm_core.specs.States.{State}
use Rattle.pm_engine.specs.declared.engine_replay.Applied.{Applied}
use Rattle.pm_engine.specs.declared.engine_replay.Applied.TheVariants as applied
use Rattle.pm_engine.specs.EngineReplays.{HasWholePages, IsReplayingIn, KeepsEngineReady, NamesNoPage}
use Rattle.pm_engine.specs.Engines.{FrameRunning, map_in}
use Rattle.pm_engine.specs.FrameStores.{IsDirtyPage, pages_in_frames}
use Rattle.pm_engine.specs.MetPages.{AllowsRecord, KeepsPagesBut, KeepsOrMeets}
use Rattle.pm_engine.specs.RunningStores.{number_of}
use Rattle.pm_engine.specs.Replays.{CrashHoldsMap, AreLasting, Replays, CanBeRefused}
use Rattle.pm_engine.specs.RunningStores.{HasSegmentsFor}

-- In some state of the disk machine a store that had this world's pages before is replaying, with the same map, and
-- these frames from this place on are lasting and left to be applied.
pub record ReplaysFromIn (wanted : Shape) (told : List ℕ → ℕ) (pairs : Pairs) (from : Place) (left : List Frame)
    (before now : FrameRunning) (old new : World) : Type 0 where
  pub state : State
  pub is : IsReplayingIn wanted told pairs now state new
  pub lasts : AreLasting from left now.store.shape pairs state new
  pub map : map_in now new ≡ map_in before old

-- a checkpoint left the pages as they were, and the map of those that count
pub record KeepsWholePages (before now : FrameRunning) (old new : World) : Type 0 where
  pub pages : HasWholePages now.store new
  pub map : map_in now new ≡ map_in before old

-- A checkpoint was made, after which a restart applies the log from this place on. At `Ok` the engine goes on with it,
-- and of a sound store the frames from there on are as lasting as they were, over the same map. Whatever a crash
-- leaves meanwhile holds what the store held. Of any store the log loses nothing from that place's segment on, where
-- there is a number for a segment more.
pub record ChecksInFrames {T E : Type 0} (tells : Type 0) (from : Place) (before now : FrameRunning)
    (old new : History) (result : Result T E) : Type 0 where
  pub ready : KeepsEngineReady tells before now old new result
  pub closed : OnErr result (now.store.is_open ≡ false)
  pub rises : OnOk result (now.log.end.seg ≤ before.log.end.seg + 1)
  pub goes_on : HasSegmentsFor before.log 1 → OnOk result (before.log.end.seg ≤ now.log.end.seg)
  pub number : OnOk result (number_of now.ckpt.mark ≤ number_of before.ckpt.mark + 1)
  pub none_dirty : OnOk result ((id : PageId) → IsDirtyPage now.store id → ⊥)
  pub log : tells → HasSegmentsFor before.log 1
      → OnOk result (KeepsLogFrom from.seg before.log.end.seg old.world new.world)
  -- each page that was there is there with its bytes
  pub pages : tells → OnOk result ((may_change : ℕ → Bool) → KeepsPagesBut may_change
      (pages_in_frames before.store old.world) (pages_in_frames now.store new.world))
  pub whole : tells → HasWholePages before.store old.world
      → OnOk result (KeepsWholePages before now old.world new.world)
  pub runs : tells → (wanted : Shape) (told : List ℕ → ℕ) (pairs : Pairs) (s : State) (left : List Frame)
      → IsReplayingIn wanted told pairs before s old.world
      → AreLasting from left before.store.shape pairs s old.world
      → all_replayed before.store.shape left (Some (map_in before old.world)) ≡ Some pairs
      → HasSegmentsFor before.log 1 → number_of before.ckpt.mark + 1 < 2 ^ 64
      → OnOk result (ReplaysFromIn wanted told pairs from left before now old.world new.world)
  pub crash : tells → (wanted : Shape) (told : List ℕ → ℕ) (pairs : Pairs) (s : State) (left : List Frame)
      → IsReplayingIn wanted told pairs before s old.world
      → AreLasting from left before.store.shape pairs s old.world
      → all_replayed before.store.shape left (Some (map_in before old.world)) ≡ Some pairs
      → HasSegmentsFor before.log 1 → number_of before.ckpt.mark + 1 < 2 ^ 64
      → AllMoments old new (CrashHoldsMap (before.log.end.seg + 2) (number_of before.ckpt.mark + 1)
      wanted before.store.shape pairs)

-- In some state of the disk machine a store is replaying, and the frames from this place on that were left to be
-- applied are lasting still. A record could be applied to the map of its pages, or couldn't.
pub record ReplaysRecordFrom (wanted : Shape) (told : List ℕ → ℕ) (pairs : Pairs) (from : Place) (left : List Frame)
    (found : Option Record) (before now : FrameRunning) (old new : World) (can : Bool) : Type 0 where
  pub state : State
  pub is : IsReplayingIn wanted told pairs now state new
  pub lasts : AreLasting from left now.store.shape pairs state new
  pub applies : Replays can before.store.shape found (map_in before old) (map_in now new)

-- a record could be applied to the map of the pages, or couldn't, and the pages may be applied to still
pub record AppliesToWhole (found : Option Record) (before now : FrameRunning) (old new : World) (can : Bool)
    : Type 0 where
  pub applies : Replays can before.store.shape found (map_in before old) (map_in now new)
  pub pages : HasWholePages now.store new

-- The record that stands at this place was applied again, or couldn't be, after a checkpoint where one had to be made
-- first. At `Ok` the engine goes on with it, and the log lost nothing from that place's segment on. Whatever a crash
-- leaves meanwhile of a sound store holds what the store held. Of any store whose pages may be applied to, sound or
-- not, the pages are so still, and none is bad.
pub record ReplaysRecord (tells : Type 0) (from : Place) (found : Option Record) (before now : FrameRunning)
    (old new : History) (result : Result Bool StoreFault) : Type 0 where
  pub ready : KeepsEngineReady tells before now old new result
  pub rises : OnOk result (now.log.end.seg ≤ before.log.end.seg + (OP_PAGES + 1))
  pub number : OnOk result (number_of now.ckpt.mark ≤ number_of before.ckpt.mark + 1)
  pub goes_on : tells → HasSegmentsFor before.log (OP_PAGES + 1) → OnOk result (before.log.end.seg ≤ now.log.end.seg)
  pub log : tells → HasSegmentsFor before.log (OP_PAGES + 1)
      → OnOk result (KeepsLogFrom from.seg before.log.end.seg old.world new.world)
  pub whole : tells → HasWholePages before.store old.world
      → IfOk result (AppliesToWhole found before now old.world new.world)
  pub no_page : tells → HasWholePages before.store old.world → NamesNoPage result
  -- of any store: which partition changes, which page is found bad, and which records may be refused
  pub meets : tells → (may_change : ℕ → Bool) → AllowsRecord may_change before.store.shape found
      → KeepsOrMeets tells may_change before.store.shape (pages_in_frames before.store old.world)
      (pages_in_frames now.store new.world) (now.store.is_open ≡ true) (λ id. IsErrOf result (BadPage id))
  pub refuses : result ≡ Ok false → CanBeRefused found
  pub runs : tells → (wanted : Shape) (told : List ℕ → ℕ) (pairs : Pairs) (s : State) (left : List Frame)
      → IsReplayingIn wanted told pairs before s old.world
      → AreLasting from left before.store.shape pairs s old.world
      → all_replayed before.store.shape left (Some (map_in before old.world)) ≡ Some pairs
      → HasSegmentsFor before.log (OP_PAGES + 1) → number_of before.ckpt.mark + 1 < 2 ^ 64
      → IfOk result (ReplaysRecordFrom wanted told pairs from left found before now old.world new.world)
  pub crash : tells → (wanted : Shape) (told : List ℕ → ℕ) (pairs : Pairs) (s : State) (left : List Frame)
      → IsReplayingIn wanted told pairs before s old.world
      → AreLasting from left before.store.shape pairs s old.world
      → all_replayed before.store.shape left (Some (map_in before old.world)) ≡ Some pairs
      → HasSegmentsFor before.log (OP_PAGES + 1) → number_of before.ckpt.mark + 1 < 2 ^ 64
      → AllMoments old new (CrashHoldsMap (before.log.end.seg + (OP_PAGES + 2)) (number_of before.ckpt.mark + 1)
      wanted before.store.shape pairs)

-- whether a record could be applied, where it isn't tried once more
abbrev pub applied_once : Result Applied StoreFault → Result Bool StoreFault
applied_once (Ok applied.Done) = Ok true
applied_once (Ok applied.Bad) = Ok false
applied_once (Ok (applied.Halted halt)) = Err (Memory Frames)
applied_once (Err fault) = Err fault
