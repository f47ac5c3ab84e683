-- What a run over drawn lines promises: what a run over a script does, with one line of counts in place of the
-- replies. It reads no input.
use Rattle.std.specs.Prelude.{◌≡◌, ◌≢◌, ◌⊎◌, None, Some, ℕ, ◌≤◌, ◌<◌, List, [], ◌++◌, take, drop}
use Rattle.std.specs.Prelude.{length, codes, if◌then◌else◌}
use Rattle.std.specs.Bool.{nat_eq}
use Rattle.std.specs.List.{All, Contains, starts_with}
use Rattle.pm_types.specs.declared.limits.TheConstants.{BATCH_LINES_MAX}
use Rattle.pm_types.specs.declared.fault.Field.{Field}
use Rattle.pm_types.specs.declared.shape.Shape.{Shape}
use Rattle.pm_disk.specs.Images.{Image, LeavesAll, NothingPending}
use Rattle.pm_disk.specs.Moments.{History, AllMoments}
use Rattle.pm_disk.specs.States.{DeviceState, Rose}
use Rattle.pm_disk.specs.Worlds.{World}
use Rattle.pm_model.specs.declared.line.Line.{Line}
use Rattle.pm_model.specs.Eval.{Pairs, replies_to, after_all, accepted}
use Rattle.pm_model.specs.Orders.{HasTried, after_numbers}
use Rattle.pm_core.specs.LogAlone.{image_of}
use Rattle.pm_core.specs.Prefixes.{IsUpTo}
use Rattle.pm_core.specs.Sound.{Sound, IsTrueImage}
use Rattle.pm_engine.specs.RunningLines.{SameDisk}
use Rattle.pm_top.specs.declared.status.Status.{Status}
use Rattle.pm_top.specs.declared.status.Status.TheVariants.{Done, Misconfigured, Failed, Memory, Damaged, Long}
use Rattle.pm_top.specs.Configurations.{config_fault, wanted_in}
use Rattle.pm_top.specs.Crashes.{SoundUpTo}
use Rattle.pm_top.specs.Promises.{CanOpen, IsDamaged, IsMisconfigured, IsStart, last_after, number_after}
use Rattle.pm_top.specs.ReplyCounts.{counts_of, summary_line}

-- the line that a run over these lines says: how many there are, and how many replies of each kind they have
abbrev pub summary_of : List Line → Shape → Pairs → List ℕ
summary_of script shape pairs = summary_line (length script) (counts_of (replies_to shape script pairs))

-- all lines were run, and the summary was said
pub record DrawnIsDone (script : List Line) (old new : World) (shape : Shape) (pairs : Pairs) (lines : ℕ)
    (order : List ℕ) : Type 0 where
  pub said : new.said ≡ old.said ++ summary_of script shape pairs
  pub unread : new.input ≡ old.input
  pub all : lines ≡ length script
  pub order_is : HasTried shape 1 script pairs (length script) 0 order

-- The run ended before the summary was said whole, and this was said. So many lines had been run; the order has
-- the accepted ones among them, and among some lines of the next batch.
pub record DrawnIsCutShort (script : List Line) (old new : World) (shape : Shape) (pairs : Pairs) (lines : ℕ)
    (order tail : List ℕ) : Type 0 where
  pub said : new.said ≡ old.said ++ tail
  pub unread : new.input ≡ old.input
  pub none : lines ≡ 0
  pub many : ℕ
  pub within : many ≤ length script
  pub order_is : HasTried shape 1 script pairs many BATCH_LINES_MAX order
  -- nothing is said before all lines were run
  pub whole : 0 < length tail → many ≡ length script

-- a call failed: a prefix of the summary may have been said
pub record DrawnHasFailed (script : List Line) (old new : World) (shape : Shape) (pairs : Pairs) (lines : ℕ)
    (order : List ℕ) : Type 0 where
  pub count : ℕ
  pub cut : DrawnIsCutShort script old new shape pairs lines order (take count (summary_of script shape pairs))

-- what each status says of a run over these lines, over a store that it opens
abbrev pub DrawnOutcomeIs : List Line → Status → World → World → Shape → Pairs → ℕ → List ℕ → Type 0
DrawnOutcomeIs script Done old new shape pairs lines order = DrawnIsDone script old new shape pairs lines order
DrawnOutcomeIs script Failed old new shape pairs lines order =
    DrawnHasFailed script old new shape pairs lines order
DrawnOutcomeIs script Memory old new shape pairs lines order =
    DrawnIsCutShort script old new shape pairs lines order []
DrawnOutcomeIs script status old new shape pairs lines order = ⊥

-- the numbers of the accepted lines, once the summary's first byte stands among the bytes said since the start
abbrev pub summarized : List Line → World → Shape → Pairs → World → List ℕ
summarized script old shape pairs now =
    if starts_with nat_eq (drop (length old.said) now.said) (codes "l")
    then accepted shape 1 script pairs
    else []

-- What a crash left is sound, and holds the map of the start after the lines of a prefix of the order, which
-- has all accepted lines once the summary's first byte was said.
pub record DrawnHoldsAfter (wanted : Shape) (last number : ℕ) (script : List Line) (old : World) (shape : Shape)
    (pairs : Pairs) (order : List ℕ) (now : World) (image : Image) : Type 0 where
  pub count : ℕ
  pub has : All (Contains (take count order)) (summarized script old shape pairs now)
  pub holds : SoundUpTo wanted last number image shape
      (after_numbers shape (take count order) 1 script pairs)

-- so does whatever a crash leaves at this moment, as long as no sum is right by chance
abbrev pub CrashHoldsDrawn : Shape → ℕ → ℕ → List Line → World → Shape → Pairs → List ℕ → World → Type 0
CrashHoldsDrawn wanted last number script old shape pairs order now =
    (image : Image) → LeavesAll now image → IsTrueImage now image
    → DrawnHoldsAfter wanted last number script old shape pairs order now image

-- A run over these lines leaves a store that is sound and holds the map after them, and of which nothing is
-- pending. Its log ends in a segment up to this one, and the checkpoint in force has at most this number.
pub record DrawnIsLeft (wanted : Shape) (last number : ℕ) (script : List Line) (new : World) (shape : Shape)
    (pairs : Pairs) : Type 0 where
  pub sound : Sound wanted new shape (after_all shape script pairs)
  pub up_to : IsUpTo last number wanted (image_of new) shape (after_all shape script pairs) sound
  pub quiet : NothingPending new

-- What a run over these lines promises, by its status.
pub record GenHolds (script : List Line) (old new : History) (status : Status) (lines : ℕ)
    (order : List ℕ) : Type 0 where
  -- over a store that it opens: which lines are run, and what is said
  pub outcome : (shape : Shape) (pairs : Pairs) → CanOpen old.world shape pairs
      → DrawnOutcomeIs script status old.world new.world shape pairs lines order
  -- lines are run only where no field is refused
  pub configured : status ≡ Done → config_fault old.world ≡ None
  -- where a field is refused no file of the store is changed
  pub untouched : (field : Field) → config_fault old.world ≡ Some field
      → AllMoments old new (SameDisk old.world)
  -- a run that is done leaves a sound store for the next one
  pub leaves : status ≡ Done
      → (shape : Shape) (pairs : Pairs) (start : IsStart (wanted_in old.world) old.world shape pairs)
      → DrawnIsLeft (wanted_in old.world) (last_after start) (number_after start) script new.world shape pairs
  -- a field that is refused is named so, and a bad record or page too
  pub misconfigured : status ≡ Misconfigured → IsMisconfigured old.world new.world lines order
  pub damaged : status ≡ Damaged → IsDamaged script old.world new.world lines order
  -- drawn lines pass no limit
  pub within : status ≢ Long

-- At each moment a crash leaves a sound store, which holds all lines once the summary's first byte was said,
-- and whose numbers are at most those that a run may take.
abbrev pub GenIsSafe : List Line → History → History → List ℕ → Type 0
GenIsSafe script old new order =
    (shape : Shape) (pairs : Pairs) (start : IsStart (wanted_in old.world) old.world shape pairs)
    → AllMoments old new (CrashHoldsDrawn (wanted_in old.world) (last_after start) (number_after start)
    script old.world shape pairs order)

-- Where no call fails: a field of the configuration that is refused is named, and over a store that is opened
-- all lines are run and the summary is said, unless memory runs out.
pub record GenCompletes (status : Status) (old : World) (before now : DeviceState) : Type 0 where
  pub refused : (field : Field) → config_fault old ≡ Some field → (Rose before now → ⊥)
      → (status ≡ Misconfigured) ⊎ (status ≡ Memory)
  pub whole : (shape : Shape) (pairs : Pairs) → CanOpen old shape pairs
      → (Rose before now → ⊥) → (status ≡ Done) ⊎ (status ≡ Memory)
