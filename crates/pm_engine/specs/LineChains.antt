-- The lines that a store which runs does one after the other, by what each of them appends to its log.
use Rattle.std.specs.Prelude.{◌≡◌, ◌≤◌, ◌⊎◌, ℕ, List, [], ◌∷◌, ◌++◌, length}
use Rattle.pm_types.specs.declared.limits.TheConstants.{OP_PAGES}
use Rattle.pm_types.specs.declared.page_id.PageId.{PageId}
use Rattle.pm_frame.specs.Frames.{Frame}
use Rattle.pm_model.specs.declared.line.Line.{Line}
use Rattle.pm_model.specs.Eval.{after}
use Rattle.pm_core.specs.BasePages.{Partitions}
use Rattle.pm_core.specs.Held.{pairs_in}
use Rattle.pm_core.specs.PageSets.{has_index}
use Rattle.pm_engine.specs.PageLogs.{NotedPages, noted_frames}
use Rattle.pm_engine.specs.RunningSteps.{appended_to, MakesPages, operation_frames, operation_names}
use Rattle.pm_engine.specs.RunningStores.{StoreState, map_of}

-- A line changed nothing of the store, and appends nothing.
pub record LeavesStore (store : StoreState) (line : Line) (frames : List Frame) (pages : Partitions)
    (logged : List PageId) : Type 0 where
  pub frames_are : frames ≡ []
  pub pages_are : pages ≡ store.pages
  pub logged_are : logged ≡ store.logged
  pub map : after store.shape line (map_of store) ≡ map_of store

-- An operation did a line: it made these pages of the store's, and appends these frames, after which these pages
-- are logged.
pub record OperatesForLine (store : StoreState) (line : Line) (frames : List Frame) (pages : Partitions)
    (logged : List PageId) : Type 0 where
  pub part : ℕ
  pub noted : NotedPages
  pub frame : Frame
  pub makes : MakesPages store part noted frame pages
  pub frames_are : frames ≡ operation_frames store noted frame
  pub logged_are : logged ≡ operation_names store noted
  pub few : length (noted_frames noted store.logged) ≤ OP_PAGES
  pub map : pairs_in store.shape.partitions pages ≡ after store.shape line (map_of store)

-- from this store a line leads to these pages, of which these are logged, and appends these frames
abbrev pub StepsLine : StoreState → Line → List Frame → Partitions → List PageId → Type 0
StepsLine store line frames pages logged =
    LeavesStore store line frames pages logged ⊎ OperatesForLine store line frames pages logged

-- the same of lines, each from where the one before it led
abbrev pub StepsLines : StoreState → List Line → List Frame → Partitions → List PageId → Type 0
StepsLines store [] frames pages logged = (frames ≡ []) × (pages ≡ store.pages) × (logged ≡ store.logged)
StepsLines store (line ∷ lines) frames pages logged =
    (one : List Frame) × (mid : Partitions) × (names : List PageId) × (rest : List Frame)
    × StepsLine store line one mid names
    × StepsLines (appended_to store one mid names) lines rest pages logged
    × (frames ≡ one ++ rest)

-- the same pages are among these names as among those
abbrev pub NameTheSame : List PageId → List PageId → Type 0
NameTheSame names others = (part index : ℕ) → has_index part index others ≡ has_index part index names

-- the store whose logged pages are named in another order
abbrev pub renamed : StoreState → List PageId → StoreState
renamed store names = record store { logged = names }
