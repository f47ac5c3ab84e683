-- What each command promises.
use Rattle.std.specs.Prelude.{ℕ, List, Option, Some, None}
use Rattle.pm_disk.specs.Moments.{History}
use Rattle.pm_disk.specs.States.{DeviceState}
use Rattle.pm_disk.specs.Worlds.{World}
use Rattle.pm_tools.specs.DrawnLines.{drawn_lines}
use Rattle.pm_top.specs.declared.status.Status.{Status}
use Rattle.pm_top.specs.declared.words.CommandName.{CommandName}
use Rattle.pm_top.specs.declared.words.CommandName.TheVariants.{Run, Wal, Verify, Gen}
use Rattle.pm_top.specs.DrawnRuns.{GenCompletes, GenHolds, GenIsSafe}
use Rattle.pm_top.specs.LogListings.{WalCompletes, WalHolds}
use Rattle.pm_top.specs.Promises.{Completes, HoldsAtEachMoment, RefusalIs, RunHolds}
use Rattle.pm_top.specs.StoreChecks.{VerifyCompletes, VerifyHolds}

-- which lines are answered, with what, and what is left; what of the store is said; or that the words were
-- refused
abbrev pub CommandHolds : Option CommandName → History → History → Status → ℕ → List ℕ → Type 0
CommandHolds None old new status lines order = RefusalIs status old.world new.world lines order
CommandHolds (Some Run) old new status lines order = RunHolds old new status lines order
CommandHolds (Some Wal) old new status lines order = WalHolds old new status lines order
CommandHolds (Some Verify) old new status lines order = VerifyHolds old new status lines order
CommandHolds (Some (Gen seed count)) old new status lines order =
    GenHolds (drawn_lines seed 1 count) old new status lines order

-- Whatever a crash at any moment leaves is sound, and holds each line that was acknowledged, and no line that
-- the order lacks. `gen` acknowledges all its lines at once. `wal` and `verify` acknowledge none: their promises
-- say what they leave.
abbrev pub CommandIsSafe : Option CommandName → History → History → List ℕ → Type 0
CommandIsSafe None old new order = HoldsAtEachMoment old new order
CommandIsSafe (Some Run) old new order = HoldsAtEachMoment old new order
CommandIsSafe (Some Wal) old new order = Unit {0}
CommandIsSafe (Some Verify) old new order = Unit {0}
CommandIsSafe (Some (Gen seed count)) old new order = GenIsSafe (drawn_lines seed 1 count) old new order

-- what comes of it where no call fails
abbrev pub CommandCompletes : Option CommandName → Status → World → DeviceState → DeviceState → Type 0
CommandCompletes None status old before now = Unit {0}
CommandCompletes (Some Run) status old before now = Completes status old before now
CommandCompletes (Some Wal) status old before now = WalCompletes status old before now
CommandCompletes (Some Verify) status old before now = VerifyCompletes status old before now
CommandCompletes (Some (Gen seed count)) status old before now = GenCompletes status old before now
