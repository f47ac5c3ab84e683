-- What holds of a run whose accepted lines are logged in the script's order, as one worker logs them.
use Rattle.std.specs.Prelude.{◌≡◌, ℕ, ◌+◌, ◌-◌, ◌≤◌, List, [], ◌∷◌, take, drop, length, codes}
use Rattle.std.specs.Prelude.{slice_get, unwrap_or}
use Rattle.pm_types.specs.declared.limits.TheConstants.{BATCH_LINES_MAX}
use Rattle.pm_types.specs.declared.shape.Shape.{Shape}
use Rattle.pm_disk.specs.Images.{Image, LeavesAll}
use Rattle.pm_disk.specs.Worlds.{World}
use Rattle.pm_model.specs.declared.line.Line.{Line}
use Rattle.pm_model.specs.declared.line.Line.TheVariants.{Bad}
use Rattle.pm_model.specs.Eval.{Pairs, after, replies_to, accepted}
use Rattle.pm_core.specs.Sound.{IsTrueImage}
use Rattle.pm_top.specs.declared.run.Stop.{Stop}
use Rattle.pm_top.specs.declared.run.Stop.TheVariants as stop
use Rattle.pm_top.specs.declared.status.Status.{Status}
use Rattle.pm_top.specs.declared.status.Status.TheVariants.{Done, Usage, Misconfigured, Failed, Memory}
use Rattle.pm_top.specs.declared.status.Status.TheVariants.{Damaged, Long}
use Rattle.pm_top.specs.Crashes.{SoundUpTo, begun}
use Rattle.pm_top.specs.Limits.{AreWithin, IsWithinLimits, PassesLimit}
use Rattle.pm_top.specs.Promises.{HasAnswered, IsTail, replies_of}
use Rattle.pm_top.specs.Served.{script_of}

-- the order has the numbers of the accepted ones among the first lines
abbrev pub IsOrder : Shape → List ℕ → Pairs → ℕ → List ℕ → Type 0
IsOrder shape input pairs lines order = order ≡ accepted shape 1 (take lines (script_of input)) pairs

-- the order has the numbers of the accepted ones among the lines that were answered, and among some
-- next ones, all of one batch
pub record HasTried (shape : Shape) (input : List ℕ) (pairs : Pairs) (lines : ℕ) (order : List ℕ) : Type 0 where
  pub many : ℕ
  pub from : lines ≤ many
  pub to : many ≤ lines + BATCH_LINES_MAX
  pub within : many ≤ length (script_of input)
  pub order_is : IsOrder shape input pairs many order

-- the script was answered whole
pub record IsDone (old new : World) (shape : Shape) (pairs : Pairs) (lines : ℕ) (order : List ℕ) : Type 0 where
  pub answers : HasAnswered old new shape pairs lines []
  pub order_is : IsOrder shape old.input pairs lines order
  pub all : lines ≡ length (script_of old.input)
  pub read : new.input ≡ []
  pub limits : IsWithinLimits old.input

-- A call failed after the replies to the first lines. What was said after them belongs to the
-- replies to the lines of the next batch, and to none that wasn't done.
pub record HasFailed (old new : World) (shape : Shape) (pairs : Pairs) (lines : ℕ)
    (order : List ℕ) : Type 0 where
  pub tail : List ℕ
  pub answers : HasAnswered old new shape pairs lines tail
  pub tried : HasTried shape old.input pairs lines order
  pub prefix : IsTail (take (tried.many - lines) (drop lines (replies_of shape old.input pairs))) tail

-- memory ran out after the replies to the first lines
pub record HasNoMemory (old new : World) (shape : Shape) (pairs : Pairs) (lines : ℕ)
    (order : List ℕ) : Type 0 where
  pub answers : HasAnswered old new shape pairs lines []
  pub tried : HasTried shape old.input pairs lines order

-- all lines that are ended within both limits were answered, and this was said after their replies
pub record IsStopped (old new : World) (shape : Shape) (pairs : Pairs) (lines : ℕ) (order : List ℕ)
    (tail : List ℕ) : Type 0 where
  pub answers : HasAnswered old new shape pairs lines tail
  pub order_is : IsOrder shape old.input pairs lines order
  pub passes : PassesLimit old.input
  pub within : AreWithin old.input lines

-- what each status says of a run
abbrev pub OutcomeIs : Status → World → World → Shape → Pairs → ℕ → List ℕ → Type 0
OutcomeIs Done old new shape pairs lines order = IsDone old new shape pairs lines order
OutcomeIs Usage old new shape pairs lines order = ⊥
OutcomeIs Misconfigured old new shape pairs lines order = ⊥
OutcomeIs Failed old new shape pairs lines order = HasFailed old new shape pairs lines order
OutcomeIs Memory old new shape pairs lines order = HasNoMemory old new shape pairs lines order
OutcomeIs Damaged old new shape pairs lines order = ⊥
OutcomeIs Long old new shape pairs lines order = IsStopped old new shape pairs lines order (codes "fault long\n")

-- what is said of it before a limit is told
abbrev pub StopIs : Stop → World → World → Shape → Pairs → ℕ → List ℕ → Type 0
StopIs stop.Done old new shape pairs lines order = IsDone old new shape pairs lines order
StopIs stop.Limit old new shape pairs lines order = IsStopped old new shape pairs lines order []

-- the map after the lines with these numbers, one after the other
abbrev pub after_numbers : Shape → List ℕ → List Line → Pairs → Pairs
after_numbers shape [] script pairs = pairs
after_numbers shape (number ∷ numbers) script pairs =
    after_numbers shape numbers script (after shape (unwrap_or (slice_get script (number - 1)) Bad) pairs)

-- how many accepted lines have the first byte of their reply among the bytes said since the run began
abbrev pub acknowledged_count : World → Shape → Pairs → World → ℕ
acknowledged_count old shape pairs now =
    let script = script_of old.input in
    length (accepted shape 1
    (take (begun (replies_to shape script pairs) (drop (length old.said) now.said)) script) pairs)

-- What a crash left is sound, and holds the map of the start after the first of the lines in the
-- order, with each one that was acknowledged.
pub record HoldsAfter (wanted : Shape) (last number : ℕ) (old : World) (shape : Shape) (pairs : Pairs)
    (order : List ℕ) (now : World) (image : Image) : Type 0 where
  pub count : ℕ
  pub fits : count ≤ length order
  pub has : acknowledged_count old shape pairs now ≤ count
  pub holds : SoundUpTo wanted last number image shape
      (after_numbers shape (take count order) (script_of old.input) pairs)

-- whatever a crash at this moment leaves, as long as no sum is right by chance, keeps what was acknowledged
abbrev pub CrashHoldsAcknowledged : Shape → ℕ → ℕ → World → Shape → Pairs → List ℕ → World → Type 0
CrashHoldsAcknowledged wanted last number old shape pairs order now =
    (image : Image) → LeavesAll now image → IsTrueImage now image
    → HoldsAfter wanted last number old shape pairs order now image
