-- A store that runs over the disk machine: what it holds in memory, and how that stands over the disk.
--
-- Between two calls no checkpoint runs. The log's frames since the last CP_BEGIN or RESTART rebuild exactly the
-- logged pages, all other pages are as the partitions' files have them, and the map of the pages is the newest
-- map that the log leaves.
use Rattle.std.specs.Prelude.{◌≡◌, ◌<◌, ◌+◌, ◌^◌, ℕ, List, [], ◌∷◌, ◌++◌, Option, Some, None}
use Rattle.pm_types.specs.declared.page_id.PageId.{PageId}
use Rattle.pm_types.specs.declared.place.Place.{Place}
use Rattle.pm_types.specs.declared.shape.Mark.{Mark}
use Rattle.pm_types.specs.declared.shape.Shape.{Shape}
use Rattle.pm_types.specs.Shapes.{IsShape}
use Rattle.pm_frame.specs.Frames.{Frame}
use Rattle.pm_disk.specs.Worlds.{World}
use Rattle.pm_model.specs.Eval.{Pairs}
use Rattle.pm_records.specs.LogFiles.{HasLasting, IsQuietBut, IsRecordFrame}
use Rattle.pm_records.specs.Logs.{all_frames}
use Rattle.pm_segments.specs.Ends.{LogEnd, LogIsOpen}
use Rattle.pm_marks.specs.InForce.{Checkpoint, NoStart, Ended}
use Rattle.pm_marks.specs.Slots.{IsMark, IsMarkPlace}
use Rattle.pm_core.specs.BasePages.{Partitions}
use Rattle.pm_core.specs.Held.{AllWellFormed, pairs_in}
use Rattle.pm_core.specs.PageLaws.{Grows}
use Rattle.pm_core.specs.PageSets.{AreOnce}
use Rattle.pm_core.specs.Replays.{all_replayed}
use Rattle.pm_core.specs.Stands.{Stands}
use Rattle.pm_core.specs.States.{State}
use Rattle.pm_ckpt.specs.Checkpoints.{written_so, IsBegunLog}
use Rattle.pm_ckpt.specs.Marked.{from_after, next_mark, log_after}
use Rattle.pm_engine.specs.TrackedPages.{TracksPages, HaveFirstPages}

-- What a store that runs holds in memory.
pub record StoreState : Type 0 where
  pub shape : Shape
  pub pages : Partitions
  -- the names of the pages that the log has had whole since the last CP_BEGIN or RESTART
  pub logged : List PageId
  -- where the log ends
  pub log : LogEnd
  -- the start marker in force
  pub mark : Option Mark

-- the map of its pages
abbrev pub map_of : StoreState → Pairs
map_of store = pairs_in store.shape.partitions store.pages

-- the mark of its next checkpoint, after which a restart applies the log from this place on, or from just after
-- the CP_BEGIN
abbrev pub mark_at : StoreState → Option Place → Mark
mark_at store replay = next_mark store.shape store.mark store.log replay

-- the store after that checkpoint
abbrev pub checkpointed_at : StoreState → Option Place → StoreState
checkpointed_at store replay = record store {
  logged = [];
  log = log_after store.log (mark_at store replay);
  mark = Some (mark_at store replay);
}

-- the same, where the log is applied from just after the CP_BEGIN on
abbrev pub mark_after : StoreState → Mark
mark_after store = mark_at store None

abbrev pub checkpointed : StoreState → StoreState
checkpointed store = checkpointed_at store None

-- the checkpoint with this start marker: none yet, or one that is ended
abbrev pub ended_with : Option Mark → Checkpoint
ended_with None = NoStart
ended_with (Some mark) = Ended mark

-- a start marker, if there is one, says what a marker may
abbrev pub IsMarkIn : Option Mark → Type 0
IsMarkIn None = Unit {0}
IsMarkIn (Some mark) = IsMark mark

-- nothing is pending of the markers, nor of the log but of the segment in which it ends
pub record OnlyLastPending (log : LogEnd) (world : World) : Type 0 where
  pub segments : IsQuietBut world log.end.seg
  pub starts : world.starts.since ≡ []
  pub ends : world.ends.since ≡ []

-- The disk is as the state says, no checkpoint runs, and the store's log can go on. From the begin of the last
-- checkpoint, or the log's begin, these are all its frames, and the newest map is this one.
pub record LogRuns (wanted : Shape) (told : List ℕ → ℕ) (store : StoreState) (frames : List Frame)
    (pairs : Pairs) (s : State) (world : World) : Type 0 where
  pub stands : Stands wanted told s world
  pub shape : s.shape ≡ store.shape
  pub checkpoint : s.now.checkpoint ≡ ended_with store.mark
  pub alone : s.soon ≡ None
  pub ends : s.end ≡ store.log.end
  pub is_open : LogIsOpen store.log (written_so s)
  -- it has its RESTART
  pub begun : IsBegunLog s.at s.pending
  pub lasting : List Frame
  pub leads : HasLasting all_frames world.log s.low s.at (from_after store.mark) lasting
  pub all : lasting ++ s.pending ≡ frames
  pub newest : all_replayed s.shape s.pending (Some s.map) ≡ Some pairs
  pub quiet : OnlyLastPending store.log world

-- The pages are those of a store of this shape: each partition is well formed, one that has a page has its
-- first one, and each logged page is named once.
pub record HoldsPages (store : StoreState) : Type 0 where
  pub well_formed : AllWellFormed store.shape store.pages
  pub first_pages : HaveFirstPages store.shape store.pages
  pub once : AreOnce store.logged

-- The store's log runs, with this map as the newest one, and its frames rebuild exactly the logged pages.
--
-- `files` are the pages of the partitions' files that the store knows. A file may have others, which a page count doesn't
-- reach.
pub record RunsOver (wanted : Shape) (told : List ℕ → ℕ) (store : StoreState) (pairs : Pairs) (s : State)
    (world : World) : Type 0 where
  pub is_shape : IsShape store.shape
  pub is_mark : IsMarkIn store.mark
  pub frames : List Frame
  pub log : LogRuns wanted told store frames pairs s world
  pub files : Partitions
  pub tracks : TracksPages store.shape frames files store.pages store.logged
  pub grows : (part : ℕ) → part < store.shape.partitions → Grows (files part) (s.files part)
  pub holds : HoldsPages store

-- The store runs: the newest map is that of its pages.
abbrev pub IsRunning : Shape → (List ℕ → ℕ) → StoreState → State → World → Type 0
IsRunning wanted told store s world = RunsOver wanted told store (map_of store) s world

-- From this place on these frames are lasting. With those that were appended after them they make the newest
-- map of the map of the store's pages.
pub record MakesNewestFrom (from : Place) (store : StoreState) (pairs : Pairs) (s : State) (world : World)
    : Type 0 where
  pub fits : IsMarkPlace from
  pub frames : List Frame
  pub leads : HasLasting all_frames world.log s.low s.at from frames
  pub makes : all_replayed store.shape (frames ++ s.pending) (Some (map_of store)) ≡ Some pairs

-- The log makes the newest map of the map of the store's pages from the replay place on. Where that is just
-- after the next CP_BEGIN, the two are one.
abbrev pub MakesNewest : Option Place → StoreState → Pairs → State → World → Type 0
MakesNewest None store pairs s world = pairs ≡ map_of store
MakesNewest (Some from) store pairs s world = MakesNewestFrom from store pairs s world

-- there are numbers for so many segments more
abbrev pub HasSegmentsFor : LogEnd → ℕ → Type 0
HasSegmentsFor log count = log.end.seg + count + 1 < 2 ^ 64

-- each of these frames is one that a log takes, and no SEAL
abbrev pub AreRecordFrames : List Frame → Type 0
AreRecordFrames [] = Unit {0}
AreRecordFrames (frame ∷ frames) = IsRecordFrame frame × AreRecordFrames frames

-- the number of the checkpoint with the start marker in force, 0 where there is none
abbrev pub number_of : Option Mark → ℕ
number_of None = 0
number_of (Some mark) = mark.number
