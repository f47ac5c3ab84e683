-- What every object of the outside reports about itself: how often a call failed, which calls may be made, and
-- how many folders were made.
use Rattle.std.specs.Prelude.{◌≡◌, ◌≤◌, ℕ, List, Bool, true, false, Option, Some, IsSome, Result, OnOk, OnErr}
use Rattle.pm_types.specs.declared.page_id.PageId.{PageId}
use Rattle.pm_types.specs.Counts.{HasRisen}

-- Which calls may be made on an object, and how many folders it has made: what only a call that binds a folder,
-- or lends the parts or takes them back, changes.
pub record Access : Type 0 where
  -- the bytes of the folder's name, none before one is bound
  pub folder : Option (List ℕ)
  -- whether its parts are lent to workers
  pub is_lent : Bool
  -- the pages that may be read
  pub reads : PageId → Bool
  -- the pages that may be written
  pub writes : PageId → Bool
  -- how many folders were made for stores: the count never falls
  pub made : ℕ

-- What an object reports about itself.
pub record DeviceState : Type 0 where
  -- how often a call failed: the count never falls, and stands still at 2^64 - 1
  pub faults : ℕ
  pub access : Access

-- A folder is bound, and no part is lent: calls may be made.
pub record IsUsable (state : DeviceState) : Type 0 where
  pub bound : IsSome state.access.folder
  pub whole : state.access.is_lent ≡ false

-- this page may be read
pub record MayRead (state : DeviceState) (page : PageId) : Type 0 where
  pub usable : IsUsable state
  pub allowed : state.access.reads page ≡ true

-- this page may be written
pub record MayWrite (state : DeviceState) (page : PageId) : Type 0 where
  pub usable : IsUsable state
  pub allowed : state.access.writes page ≡ true

-- each page may be read and written, once calls may be made
pub record MayUseAllPages (state : DeviceState) : Type 0 where
  pub reads : (page : PageId) → state.access.reads page ≡ true
  pub writes : (page : PageId) → state.access.writes page ≡ true

-- the count of faults has risen, or stands at its last value
abbrev pub Rose : DeviceState → DeviceState → Type 0
Rose before now = HasRisen before.faults now.faults

-- The count of faults doesn't fall, an `Err` comes only where it rose, and the same calls may be
-- made as before.
pub record HasCause {T E : Type 0} (before now : DeviceState) (result : Result T E) : Type 0 where
  pub later : before.faults ≤ now.faults
  pub failed : OnErr result (Rose before now)
  pub access : now.access ≡ before.access
  pub usable : IsUsable before → IsUsable now

-- A call that binds a folder: at `Ok` this one is bound, and at an `Err`, which comes only where
-- the count of faults rose, the one that was. Folders may have been made, also at an `Err`.
pub record Binds {T E : Type 0} (before now : DeviceState) (folder : List ℕ)
    (result : Result T E) : Type 0 where
  pub later : before.faults ≤ now.faults
  pub bound : OnOk result (now.access ≡ record before.access { folder = Some folder; made = now.access.made })
  pub failed : OnErr result (Rose before now)
  pub unchanged : OnErr result (now.access ≡ record before.access { made = now.access.made })
  pub made : before.access.made ≤ now.access.made

-- A call that binds a folder that is there: it makes none.
pub record BindsFound {T E : Type 0} (before now : DeviceState) (folder : List ℕ)
    (result : Result T E) : Type 0 where
  pub binds : Binds before now folder result
  pub none_made : now.access.made ≡ before.access.made

-- Of two states of an object, between which no folder was bound: the count of faults doesn't fall,
-- and the same calls may be made.
pub record IsLaterState (before now : DeviceState) : Type 0 where
  pub later : before.faults ≤ now.faults
  pub access : now.access ≡ before.access
  pub usable : IsUsable before → IsUsable now
