-- What `wal` promises.
use Rattle.std.specs.Prelude.{◌≡◌, ◌⊎◌, ℕ, List, [], ◌++◌}
use Rattle.pm_types.specs.declared.place.Place.{Place}
use Rattle.pm_disk.specs.Moments.{History, AllMoments}
use Rattle.pm_disk.specs.States.{DeviceState, Rose}
use Rattle.pm_disk.specs.Worlds.{World}
use Rattle.pm_types.specs.declared.shape.Shape.{Shape}
use Rattle.pm_model.specs.Eval.{Pairs}
use Rattle.pm_marks.specs.InForce.{number_in}
use Rattle.pm_core.specs.Held.{in_force}
use Rattle.pm_core.specs.LogAlone.{image_of}
use Rattle.pm_engine.specs.Replays.{CrashHoldsMap}
use Rattle.pm_records.specs.LogFiles.{contents}
use Rattle.pm_tools.specs.Listings.{list_place, IsListed, IsSaid, ListsAll, ListsUpTo}
use Rattle.pm_top.specs.declared.status.Status.{Status}
use Rattle.pm_top.specs.declared.status.Status.TheVariants.{Done, Failed, Memory, Damaged}
use Rattle.pm_top.specs.Configurations.{wanted_in}
use Rattle.pm_top.specs.Crashes.{opened_to}
use Rattle.pm_top.specs.Promises.{IsStart, SaysPart, fault_record}

-- the log was listed up to the first frame that holds no record: its place was named, and nothing else happened
pub record IsCutShort (old now : World) : Type 0 where
  pub at : Place
  pub lines : List ℕ
  pub lists : ListsUpTo (contents old.log) (list_place old) at lines
  pub said : IsSaid (lines ++ fault_record at) old now

-- all that `wal` says: the lines of the log's records and the one at its end, or the lines of those before the
-- first frame that holds none, and the line that names it
abbrev pub IsWalText : World → List ℕ → Type 0
IsWalText world text =
    ListsAll (contents world.log) (list_place world) text
    ⊎ ((at : Place) × (lines : List ℕ) × ListsUpTo (contents world.log) (list_place world) at lines
    × (text ≡ lines ++ fault_record at))

-- nothing happened but that a prefix of that was said
pub record SaysOfWal (old now : World) : Type 0 where
  pub text : List ℕ
  pub is_text : IsWalText old text
  pub part : SaysPart text old now

-- What `wal` promises, by its status.
pub record WalHolds (old new : History) (status : Status) (lines : ℕ) (order : List ℕ) : Type 0 where
  -- at each moment nothing has happened but that a prefix of its text was said
  pub moments : AllMoments old new (SaysOfWal old.world)
  -- at each moment a crash leaves a sound store with the map that there was, where a run may begin over it
  pub crash : (shape : Shape) (pairs : Pairs) (start : IsStart (wanted_in old.world) old.world shape pairs)
      → AllMoments old new (CrashHoldsMap (opened_to start.sound) (number_in (in_force (image_of old.world)))
      (wanted_in old.world) shape pairs)
  -- all of it was said
  pub done : status ≡ Done → IsListed (list_place old.world) old.world new.world
  pub damaged : status ≡ Damaged → IsCutShort old.world new.world
  pub statuses : (status ≡ Done) ⊎ (status ≡ Damaged) ⊎ (status ≡ Failed) ⊎ (status ≡ Memory)
  -- no line of a script is answered
  pub none : lines ≡ 0
  pub order_is : order ≡ []

-- Where no call fails, a log each of whose frames holds a record is listed up to its end, and of another one the
-- first frame that holds none is named, unless memory runs out.
pub record WalCompletes (status : Status) (old : World) (before now : DeviceState) : Type 0 where
  pub whole : ((at : Place) (lines : List ℕ) → ListsUpTo (contents old.log) (list_place old) at lines → ⊥)
      → (Rose before now → ⊥) → (status ≡ Done) ⊎ (status ≡ Memory)
  pub bad : (at : Place) (lines : List ℕ) → ListsUpTo (contents old.log) (list_place old) at lines
      → (Rose before now → ⊥) → (status ≡ Damaged) ⊎ (status ≡ Memory)
