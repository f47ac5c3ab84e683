-- What a store that runs appends to its log.
use Rattle.std.specs.Prelude.{◌≡◌, ◌<◌, ℕ, List, ◌∷◌, ◌++◌, Some}
use Rattle.pm_types.specs.declared.page_id.PageId.{PageId}
use Rattle.pm_frame.specs.Frames.{Frame}
use Rattle.pm_model.specs.Eval.{Pairs}
use Rattle.pm_records.specs.LogFiles.{IsRecordFrame}
use Rattle.pm_records.specs.Logs.{record_in}
use Rattle.pm_records.specs.Records.{Record}
use Rattle.pm_core.specs.BasePages.{Partitions}
use Rattle.pm_core.specs.Held.{AllWellFormed, pairs_in}
use Rattle.pm_core.specs.Replays.{replayed, all_replayed}
use Rattle.pm_engine.specs.AppendRuns.{grown_all}
use Rattle.pm_engine.specs.PageLogs.{NotedPages, AreNoted, noted_frames, noted_names}
use Rattle.pm_engine.specs.RunningStores.{StoreState, HoldsPages, AreRecordFrames, map_of}
use Rattle.pm_engine.specs.TrackedPages.{TracksPages, SaysNoPage, ChangesWithin, ChangesPart, HaveFirstPages}

-- the store with these pages, these of them logged, once these frames are appended
abbrev pub appended_to : StoreState → List Frame → Partitions → List PageId → StoreState
appended_to store frames pages logged =
    record store { pages = pages; logged = logged; log = grown_all store.log frames }

-- These frames say how the store's pages came to be these, of which these are logged: whatever frames rebuilt
-- the store's logged pages, with these after them rebuild the new ones. Of this map they make that one.
pub record SayPagesOver (store : StoreState) (before after : Pairs) (frames : List Frame) (pages : Partitions)
    (logged : List PageId) : Type 0 where
  pub kinds : AreRecordFrames frames
  pub rebuild : (older : List Frame) (files : Partitions)
      → TracksPages store.shape older files store.pages store.logged
      → TracksPages store.shape (older ++ frames) files pages logged
  pub map : all_replayed store.shape frames (Some before) ≡ Some after
  pub holds : HoldsPages (appended_to store frames pages logged)

-- the same, where they change the map as the pages did
abbrev pub SayPages : StoreState → List Frame → Partitions → List PageId → Type 0
SayPages store frames pages logged =
    SayPagesOver store (map_of store) (pairs_in store.shape.partitions pages) frames pages logged

-- An operation made these pages of the store's: it changed those of one partition, and noted each change.
pub record ChangesStore (store : StoreState) (part : ℕ) (noted : NotedPages) (pages : Partitions) : Type 0 where
  pub inside : part < store.shape.partitions
  pub names : AreNoted part noted
  pub within : ChangesWithin store.shape.page_size (store.pages part) noted.seen
  pub changes : ChangesPart part store.pages pages noted.seen.pages
  pub well_formed : AllWellFormed store.shape pages
  pub first_pages : HaveFirstPages store.shape pages

-- The same, and this frame is its logical record, which changes the map as it did.
pub record MakesPages (store : StoreState) (part : ℕ) (noted : NotedPages) (frame : Frame) (pages : Partitions)
    : Type 0 where
  pub change : ChangesStore store part noted pages
  pub logical : Record
  pub logical_is : record_in frame ≡ Some logical
  pub no_page : SaysNoPage logical
  pub kind : IsRecordFrame frame
  pub map : replayed store.shape (record_in frame) (map_of store)
      ≡ Some (pairs_in store.shape.partitions pages)

-- what an operation appends: its logical record, and the records of the pages that it changed
abbrev pub operation_frames : StoreState → NotedPages → Frame → List Frame
operation_frames store noted frame = frame ∷ noted_frames noted store.logged

-- the pages that are logged after it
abbrev pub operation_names : StoreState → NotedPages → List PageId
operation_names store noted = store.logged ++ noted_names noted store.logged
