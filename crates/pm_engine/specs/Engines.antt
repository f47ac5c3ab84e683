-- What contracts see of an engine over page frames, and how its lines stand over the disk.
use Rattle.std.specs.Prelude.{◌≡◌, ◌≤◌, ◌<◌, ◌+◌, ◌-◌, ◌*◌, ◌^◌, ◌↔◌, ◌++◌, ℕ, List, [], length, All, Bool, true, false}
use Rattle.std.specs.Prelude.{Some, None}
use Rattle.pm_types.specs.declared.fault.PageFault.TheVariants.{BadPage}
use Rattle.pm_types.specs.declared.limits.TheConstants.{OP_PAGES, SEGMENT_BYTES_MAX}
use Rattle.pm_types.specs.declared.page_id.PageId.{PageId}
use Rattle.pm_types.specs.declared.shape.Shape.{Shape}
use Rattle.pm_types.specs.Ids.{page_id}
use Rattle.pm_disk.specs.Images.{NothingPending}
use Rattle.pm_disk.specs.Moments.{History, AllMoments}
use Rattle.pm_disk.specs.Worlds.{World}
use Rattle.pm_model.specs.declared.line.Line.{Line}
use Rattle.pm_model.specs.Eval.{Pairs, accepted}
use Rattle.pm_model.specs.ReplyLists.{ReplyList}
use Rattle.pm_segments.specs.Ends.{LogEnd, EndsThere}
use Rattle.pm_core.specs.Calls.{ChangesDisk}
use Rattle.pm_core.specs.Held.{AllWellFormed, pairs_in}
use Rattle.pm_core.specs.PageSets.{AreOnce, has_index}
use Rattle.pm_core.specs.States.{State}
use Rattle.pm_ckpt.specs.Marked.{Kept}
use Rattle.pm_engine.specs.declared.frame_lines.Stop.TheVariants.{Faulted}
use Rattle.pm_engine.specs.declared.frame_rounds.RoundEnd.{RoundEnd}
use Rattle.pm_engine.specs.declared.log_count.LogCount.{LogCount}
use Rattle.pm_engine.specs.FrameHosts.{may_go_on, ChangesNoWorld}
use Rattle.pm_engine.specs.FrameRounds.{EvaluatesLines, lines_from}
use Rattle.pm_engine.specs.FrameStores.{FrameStoreView, pages_in_frames, IsDirtyPage, HasCleanPages, shut}
use Rattle.pm_engine.specs.MetPages.{AllowsLine, KeepsPagesBut, MeetsBadPage}
use Rattle.pm_engine.specs.RunningStores.{number_of}
use Rattle.pm_engine.specs.RunningLines.{HasRun, CrashHoldsLines}
use Rattle.pm_engine.specs.RunningStores.{StoreState, IsMarkIn, HasSegmentsFor}

-- An engine over page frames: its pages, where its log ends, what is kept for checkpoints, and the numbers of the
-- lines whose records were handed to the log, whether they could be appended or not. `began` says from where the bytes
-- of its log are counted: what was found of them when it was opened, and how many its log had appended then; or none,
-- and how many it had at the last CP_BEGIN. It is open until a fault ends a round or a call on the disk fails.
pub record FrameRunning : Type 0 where
  pub store : FrameStoreView
  pub log : LogEnd
  pub ckpt : Kept
  pub began : LogCount
  pub order : List ℕ

-- Between two calls: it is of one shape. As long as it is open, its log is in a segment that a place may name, a
-- checkpoint of all its frames may be made, and all that its rounds handed over is in the log.
pub record IsEngine (engine : FrameRunning) : Type 0 where
  pub shape : engine.ckpt.shape ≡ engine.store.shape
  pub mark : IsMarkIn engine.ckpt.mark
  pub from_one : engine.store.is_open ≡ true → 1 ≤ engine.log.end.seg
  pub size_to : engine.store.is_open ≡ true → engine.log.segment_bytes ≤ SEGMENT_BYTES_MAX
  pub room : engine.store.is_open ≡ true → engine.ckpt.room ≡ Some (length engine.store.locks.ranges)
  pub sent : engine.store.is_open ≡ true → engine.store.stripe.outbox ≡ []

-- the store that it runs, where the partitions' files are those of this world and these of its pages are logged
abbrev pub running_in : FrameRunning → World → List PageId → StoreState
running_in engine world logged = record {
  shape = engine.store.shape;
  pages = pages_in_frames engine.store world;
  logged = logged;
  log = engine.log;
  mark = engine.ckpt.mark;
}

-- how many bytes of log are counted since the last CP_BEGIN, or since what was found when the store was opened
abbrev pub counted_in : FrameRunning → ℕ
counted_in engine = engine.began.found + (engine.log.total - engine.began.total)

-- the map of its pages
abbrev pub map_in : FrameRunning → World → Pairs
map_in engine world = pairs_in engine.store.shape.partitions (pages_in_frames engine.store world)

-- a call on the disk failed: the engine is open no more
abbrev pub closed_engine : FrameRunning → FrameRunning
closed_engine engine = record engine { store = shut engine.store }

-- these are the names of the pages that stay in their frames, each once
pub record NamesDirty (store : FrameStoreView) (names : List PageId) : Type 0 where
  pub once : AreOnce names
  pub each : (part index : ℕ) → part < store.shape.partitions → index < 2 ^ 32
      → (has_index part index names ≡ true) ↔ IsDirtyPage store (page_id part index)

-- In some state of the disk machine the engine's store, whose logged pages are those that stay in their frames, has
-- done these lines since it had this map.
pub record HasDoneLines (wanted : Shape) (told : List ℕ → ℕ) (from : ℕ) (start : Pairs) (lines : List Line)
    (engine : FrameRunning) (world : World) : Type 0 where
  pub state : State
  pub logged : List PageId
  pub names : NamesDirty engine.store logged
  pub has : HasRun wanted told from start lines (running_in engine world logged) state world

-- the same, and nothing is pending: all of the lines last
pub record HasLastingLinesIn (wanted : Shape) (told : List ℕ → ℕ) (from : ℕ) (start : Pairs) (lines : List Line)
    (engine : FrameRunning) (world : World) : Type 0 where
  pub done : HasDoneLines wanted told from start lines engine world
  pub quiet : NothingPending world

-- In some state of the disk machine the engine's store runs, and all its lines last: whatever a crash leaves now holds
-- its map.
pub record AllLastIn (wanted : Shape) (told : List ℕ → ℕ) (engine : FrameRunning) (world : World) : Type 0 where
  pub low : ℕ
  pub lasts : HasLastingLinesIn wanted told low (map_in engine world) [] engine world

-- what neither lines nor checkpoints change of an engine
pub record IsSameEngine (before now : FrameRunning) : Type 0 where
  pub shape : now.store.shape ≡ before.store.shape
  pub region : now.store.region ≡ before.store.region
  pub locks : now.store.locks ≡ before.store.locks

-- The lines of a round were done, and what they handed over is in the log. Where the files' content is told, and each
-- partition was well formed, they were evaluated one after the other, as the model of lines says, and the accepted
-- ones are in the order. Whatever lines the store had done, it has done these too, and a crash meanwhile leaves a
-- prefix of all. After a fault, which is said by `end.stop`, the engine is open no more, and its pages may be others;
-- the lines before the fault are in the log.
pub record DoesRoundLines (tells : Type 0) (old new : History) (first from : ℕ) (lines : List Line)
    (before now : FrameRunning) (was replies : ReplyList) (end : RoundEnd) : Type 0 where
  pub inside : from + end.done ≤ length lines
  pub all : end.stop ≡ None → from + end.done ≡ length lines
  -- there is room for the replies to the lines after them, and each line took room for one
  pub room : length lines ≤ from + end.done + replies.spare
  pub spare : was.spare ≤ end.done + replies.spare
  pub same : IsSameEngine before now
  pub ckpt : now.ckpt ≡ before.ckpt
  pub began : now.began ≡ before.began
  pub files : now.store.stripe.files ≡ before.store.stripe.files
  pub is_open : now.store.is_open ≡ may_go_on end.stop
  pub rises : now.log.end.seg ≤ before.log.end.seg + (OP_PAGES + 1) * end.done
  pub clean : tells → now.store.is_open ≡ true → HasCleanPages now.store new.world
  pub ends : tells → EndsThere now.log new.world
  pub evaluates : tells → now.store.is_open ≡ true
      → AllWellFormed before.store.shape (pages_in_frames before.store old.world)
      → EvaluatesLines before.store.shape (lines_from from end.done lines) (pages_in_frames before.store old.world)
      (pages_in_frames now.store new.world) was replies
  pub order : tells → AllWellFormed before.store.shape (pages_in_frames before.store old.world)
      → now.order ≡ before.order
      ++ accepted before.store.shape (first + from) (lines_from from end.done lines) (map_in before old.world)
  pub runs : tells → now.store.is_open ≡ true → (wanted : Shape) (told : List ℕ → ℕ) (low : ℕ) (start : Pairs)
      (done : List Line) → HasDoneLines wanted told low start done before old.world
      → HasSegmentsFor before.log ((OP_PAGES + 1) * length lines)
      → HasDoneLines wanted told low start (done ++ lines_from from end.done lines) now new.world
  pub crash : tells → (wanted : Shape) (told : List ℕ → ℕ) (low : ℕ) (start : Pairs) (done : List Line)
      → HasDoneLines wanted told low start done before old.world
      → HasSegmentsFor before.log ((OP_PAGES + 1) * length lines)
      → AllMoments old new (CrashHoldsLines (before.log.end.seg + ((OP_PAGES + 1) * length lines + 1))
      (number_of before.ckpt.mark) wanted before.store.shape start (done ++ lines_from from end.done lines))
  pub disk : tells → AllMoments old new (ChangesDisk old.world)
  -- where each partition was well formed no page is found bad
  pub sound : tells → AllWellFormed before.store.shape (pages_in_frames before.store old.world) → (id : PageId)
      → end.stop ≡ Some (Faulted (BadPage id)) → ⊥
  -- of any store: where the engine stays open, no partition changed but those of the lines that were done
  pub keeps : tells → now.store.is_open ≡ true → (may_change : ℕ → Bool)
      → All (AllowsLine may_change before.store.shape) (lines_from from end.done lines)
      → KeepsPagesBut may_change (pages_in_frames before.store old.world) (pages_in_frames now.store new.world)
  -- of any store: what couldn't be used is a page that one of these lines met
  pub meets : tells → (may_change : ℕ → Bool) → All (AllowsLine may_change before.store.shape) lines → (id : PageId)
      → end.stop ≡ Some (Faulted (BadPage id))
      → MeetsBadPage tells may_change before.store.shape (pages_in_frames before.store old.world) id

-- What the lines of a round handed over couldn't be appended whole, and the engine is open no more. Whatever a crash
-- leaves holds a prefix of the lines that were done before and of those that the round did. The order has the numbers
-- of all accepted ones of these, as where all was appended.
pub record LosesRoundLines (tells : Type 0) (old new : History) (first from : ℕ) (lines : List Line)
    (before now : FrameRunning) : Type 0 where
  pub tried : ℕ
  pub inside : from + tried ≤ length lines
  pub same : IsSameEngine before now
  pub ckpt : now.ckpt ≡ before.ckpt
  pub began : now.began ≡ before.began
  pub is_open : now.store.is_open ≡ false
  pub order : tells → AllWellFormed before.store.shape (pages_in_frames before.store old.world)
      → now.order ≡ before.order
      ++ accepted before.store.shape (first + from) (lines_from from tried lines) (map_in before old.world)
  pub crash : tells → (wanted : Shape) (told : List ℕ → ℕ) (low : ℕ) (start : Pairs) (done : List Line)
      → HasDoneLines wanted told low start done before old.world
      → HasSegmentsFor before.log ((OP_PAGES + 1) * length lines)
      → AllMoments old new (CrashHoldsLines (before.log.end.seg + ((OP_PAGES + 1) * length lines + 1))
      (number_of before.ckpt.mark) wanted before.store.shape start (done ++ lines_from from tried lines))
  pub disk : tells → AllMoments old new (ChangesDisk old.world)

-- Out of memory: the engine, the replies and the world are as they were.
pub record LeavesEngine (tells : Type 0) (old new : History) (before now : FrameRunning) (was said : ReplyList)
    : Type 0 where
  pub engine : now ≡ before
  pub replies : said ≡ was
  pub world : tells → ChangesNoWorld old new
