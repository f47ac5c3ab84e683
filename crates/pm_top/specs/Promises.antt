-- What a run promises.
use Rattle.std.specs.Prelude.{◌≡◌, ◌⊎◌, None, Some, true, false, ℕ, ◌+◌, ◌≤◌, ◌^◌, List, [], ◌++◌, take}
use Rattle.std.specs.Prelude.{drop, length, codes, decimal, Bool}
use Rattle.std.specs.List.{All}
use Rattle.pm_types.specs.declared.limits.TheConstants.{BATCH_LINES_MAX}
use Rattle.pm_types.specs.declared.fault.Field.{Field}
use Rattle.pm_types.specs.declared.page_id.PageId.{PageId}
use Rattle.pm_types.specs.declared.place.Place.{Place}
use Rattle.pm_types.specs.declared.shape.Shape.{Shape}
use Rattle.pm_disk.specs.Images.{NothingPending}
use Rattle.pm_disk.specs.Moments.{History, AllMoments}
use Rattle.pm_disk.specs.States.{DeviceState, Rose}
use Rattle.pm_disk.specs.Worlds.{World, with_said}
use Rattle.pm_model.specs.declared.reply.Reply.{Reply}
use Rattle.pm_model.specs.declared.line.Line.{Line}
use Rattle.pm_model.specs.Eval.{Pairs, replies_to, after_all}
use Rattle.pm_model.specs.Orders.{HasAccepted, HasTried}
use Rattle.pm_script.specs.Texts.{texts_of}
use Rattle.pm_frame.specs.Frames.{Frame}
use Rattle.pm_core.specs.BasePages.{Partitions}
use Rattle.pm_core.specs.Calls.{ChangesDisk}
use Rattle.pm_core.specs.Held.{in_force}
use Rattle.pm_core.specs.LogAlone.{image_of}
use Rattle.pm_core.specs.Prefixes.{IsUpTo}
use Rattle.pm_core.specs.Sound.{Sound}
use Rattle.pm_redo.specs.Restoring.{KeepsBase}
use Rattle.pm_engine.specs.Batches.{asked_last}
use Rattle.pm_engine.specs.FrameOpenings.{AllowsRecords, HasRecords, IsBadOpeningIn, IsBadOpeningPage}
use Rattle.pm_engine.specs.MetPages.{AllowsLine, MeetsBadPage}
use Rattle.pm_engine.specs.Openings.{restored_base}
use Rattle.pm_engine.specs.RunningLines.{SameDisk}
use Rattle.pm_tools.specs.declared.verifying.Counts.{Counts}
use Rattle.pm_tools.specs.Lines.{page_text}
use Rattle.pm_tools.specs.Verifying.{IsBadBasePage, IsBadRecord, IsVerified}
use Rattle.pm_top.specs.Configurations.{config_fault, fault_config, wanted_in}
use Rattle.pm_top.specs.declared.status.Status.{Status}
use Rattle.pm_top.specs.declared.status.Status.TheVariants.{Done, Usage, Misconfigured, Failed, Memory}
use Rattle.pm_top.specs.declared.status.Status.TheVariants.{Damaged, Long}
use Rattle.pm_top.specs.Crashes.{CrashHoldsAcknowledged, HasNumbers, opened_number, opened_to}
use Rattle.pm_top.specs.Limits.{IsWithinLimits, PassesLimit, AreWithin}
use Rattle.pm_top.specs.Served.{script_of}

-- the replies to the whole script, over the map of the start
abbrev pub replies_of : Shape → List ℕ → Pairs → List Reply
replies_of shape input pairs = replies_to shape (script_of input) pairs

-- the configuration is as it was
abbrev pub SameConfig : World → World → Type 0
SameConfig old new = new.config ≡ old.config

-- nothing happened but that a prefix of the bytes of a text were said
abbrev pub SaysPart : List ℕ → World → World → Type 0
SaysPart text old new = (n : ℕ) × (new ≡ with_said (take n text) old)

-- the replies to the first lines were said, and this after them
pub record HasAnswered (old new : World) (shape : Shape) (pairs : Pairs) (lines : ℕ)
    (tail : List ℕ) : Type 0 where
  pub within : lines ≤ length (script_of old.input)
  pub said : new.said ≡ old.said ++ texts_of (take lines (replies_of shape old.input pairs)) ++ tail

-- the numbers are an order of the accepted ones among the first lines, and of some among so many more
abbrev pub IsOrder : Shape → List ℕ → Pairs → ℕ → ℕ → List ℕ → Type 0
IsOrder shape input pairs lines more order = HasTried shape 1 (script_of input) pairs lines more order

-- the script was answered whole
pub record IsDone (old new : World) (shape : Shape) (pairs : Pairs) (lines : ℕ) (order : List ℕ) : Type 0 where
  pub answers : HasAnswered old new shape pairs lines []
  pub order_is : IsOrder shape old.input pairs lines 0 order
  pub all : lines ≡ length (script_of old.input)
  pub read : new.input ≡ []
  pub limits : IsWithinLimits old.input

-- a prefix of the bytes of these replies or of a fault line
abbrev pub IsTail : List Reply → List ℕ → Type 0
IsTail next tail = (n : ℕ) × ((tail ≡ take n (texts_of next)) ⊎ (tail ≡ take n (codes "fault long\n")))

-- A call failed after the replies to the first lines. What was said after them belongs to the
-- replies to some lines of the next batch, of which the order has the accepted ones, or to a fault
-- line.
pub record HasFailed (old new : World) (shape : Shape) (pairs : Pairs) (lines : ℕ)
    (order : List ℕ) : Type 0 where
  pub tail : List ℕ
  pub answers : HasAnswered old new shape pairs lines tail
  pub order_is : IsOrder shape old.input pairs lines BATCH_LINES_MAX order
  pub more : ℕ
  pub few : more ≤ BATCH_LINES_MAX
  pub done : HasAccepted shape 1 (script_of old.input) pairs (lines + more) order
  pub prefix : IsTail (take more (drop lines (replies_of shape old.input pairs))) tail

-- memory ran out after the replies to the first lines
pub record HasNoMemory (old new : World) (shape : Shape) (pairs : Pairs) (lines : ℕ)
    (order : List ℕ) : Type 0 where
  pub answers : HasAnswered old new shape pairs lines []
  pub order_is : IsOrder shape old.input pairs lines BATCH_LINES_MAX order

-- all lines that are ended within both limits were answered, and this was said after their replies
pub record IsStopped (old new : World) (shape : Shape) (pairs : Pairs) (lines : ℕ) (order : List ℕ)
    (tail : List ℕ) : Type 0 where
  pub answers : HasAnswered old new shape pairs lines tail
  pub order_is : IsOrder shape old.input pairs lines 0 order
  pub passes : PassesLimit old.input
  pub within : AreWithin old.input lines

-- A run may begin: the store is sound and holds this map, there are numbers for its segments and checkpoints,
-- and nothing is pending.
pub record IsStart (wanted : Shape) (world : World) (shape : Shape) (pairs : Pairs) : Type 0 where
  pub sound : Sound wanted world shape pairs
  pub numbers : HasNumbers wanted (image_of world) shape pairs sound
  pub quiet : NothingPending world

-- A run opens the store: no field of its configuration is refused, so that the store has the wanted shape or
-- none, and a run may begin over it.
pub record CanOpen (world : World) (shape : Shape) (pairs : Pairs) : Type 0 where
  pub configured : config_fault world ≡ None
  pub start : IsStart (wanted_in world) world shape pairs

-- the last segment that a run may begin, its opening counted
abbrev pub last_after : {wanted : Shape} {world : World} {shape : Shape} {pairs : Pairs}
    → IsStart wanted world shape pairs → ℕ
last_after {wanted} {world} {shape} {pairs} start = opened_to start.sound + 2 ^ 28

-- the highest number that a checkpoint of a run may have
abbrev pub number_after : {wanted : Shape} {world : World} {shape : Shape} {pairs : Pairs}
    → IsStart wanted world shape pairs → ℕ
number_after {wanted} {world} {shape} {pairs} start = opened_number start.sound + 2 ^ 23

-- what each status says of a `run` over a store that it opens
abbrev pub OutcomeIs : Status → World → World → Shape → Pairs → ℕ → List ℕ → Type 0
OutcomeIs Done old new shape pairs lines order = IsDone old new shape pairs lines order
OutcomeIs Failed old new shape pairs lines order = HasFailed old new shape pairs lines order
OutcomeIs Memory old new shape pairs lines order = HasNoMemory old new shape pairs lines order
OutcomeIs Long old new shape pairs lines order = IsStopped old new shape pairs lines order (codes "fault long\n")
OutcomeIs status old new shape pairs lines order = ⊥

-- A run leaves a store that is sound and holds the map after its script, and of which nothing is pending. Its
-- log ends in a segment up to this one, and the checkpoint in force has at most this number. Where the last line
-- of the script asks for a checkpoint, no record is left to be replayed.
pub record IsLeft (wanted : Shape) (last number : ℕ) (old new : World) (shape : Shape) (pairs : Pairs)
    : Type 0 where
  pub sound : Sound wanted new shape (after_all shape (script_of old.input) pairs)
  pub up_to : IsUpTo last number wanted (image_of new) shape (after_all shape (script_of old.input) pairs) sound
  pub quiet : NothingPending new
  pub replayed : asked_last false (script_of old.input) ≡ true → sound.holds.frames ≡ []

-- the line that names a record that is bad
abbrev pub fault_record : Place → List ℕ
fault_record at = codes "fault record " ++ decimal at.seg ++ codes ":" ++ decimal at.off ++ codes "\n"

-- the line that names a page that is bad
abbrev pub fault_page : PageId → List ℕ
fault_page page = codes "fault page " ++ page_text page ++ codes "\n"

-- a record or a page is bad, and this line names it
abbrev pub NamesBad : World → List ℕ → Type 0
NamesBad world text = ((at : Place) × IsBadRecord world at × (text ≡ fault_record at))
    ⊎ ((id : PageId) × IsBadBasePage world id × (text ≡ fault_page id))

-- all base pages are well formed, and each frame of the log holds a record
abbrev pub IsWhole : World → Type 0
IsWhole world = (counts : Counts) × IsVerified world counts

-- This page couldn't be used, and then all base pages and the log were checked. This line names the page or the record
-- that was found bad, with its cause, and only where none was, that page.
abbrev pub NamesMet : PageId → World → List ℕ → Type 0
NamesMet met left text = NamesBad left text ⊎ (IsWhole left × (text ≡ fault_page met))

-- One of these lines, over a store of this shape that had these pages at first, met this page, which fails its check,
-- isn't there, or names a wrong page or row. Only the partitions that these lines may change may have changed before.
abbrev pub IsMetByLine : Shape → Partitions → List Line → PageId → Type 0
IsMetByLine shape start lines met =
    (may_change : ℕ → Bool) → All (AllowsLine may_change shape) lines → MeetsBadPage (Unit {0}) may_change shape start met

-- The same of a store that was opened: of the base pages that it had once it was restored only those may have changed
-- before of partitions that the records from its replay place on, or these lines, may change.
pub record IsMetOver (wanted : Shape) (old : World) (lines : List Line) (met : PageId) : Type 0 where
  pub mid : World
  pub keeps : KeepsBase (in_force (image_of old)) old mid
  pub frames : List Frame
  pub records : HasRecords (in_force (image_of old)) old frames
  pub meets : (may_change : ℕ → Bool) → AllowsRecords may_change wanted frames → All (AllowsLine may_change wanted) lines
      → MeetsBadPage (Unit {0}) may_change wanted (restored_base (in_force (image_of old)) mid) met

-- one of these lines met a page that couldn't be used, and this line names what was found bad then, over the store as it
-- was left
abbrev pub NamesFound : Shape → World → List Line → World → List ℕ → Type 0
NamesFound wanted old lines left text = (met : PageId) × IsMetOver wanted old lines met × NamesMet met left text

-- Where this shape is wanted, the opening of a store found a bad record, when it had restored the store so, and this
-- line names it. Or the base pages aren't well formed, and a record met a page that couldn't be used: this line names
-- what was found bad then.
abbrev pub NamesBadFor : Shape → World → World → List ℕ → Type 0
NamesBadFor wanted old left text =
    ((at : Place) × IsBadOpeningIn wanted (in_force (image_of old)) old left at × (text ≡ fault_record at))
    ⊎ ((met : PageId) × IsBadOpeningPage (Unit {0}) wanted (in_force (image_of old)) old met × NamesMet met left text)

abbrev pub NamesBadOpening : World → World → List ℕ → Type 0
NamesBadOpening old left text = NamesBadFor (wanted_in old) old left text

-- The opening of the store found what is bad: nothing but the store's files was changed, and no line was answered.
pub record IsFoundOpening (old left : World) (text : List ℕ) (lines : ℕ) (order : List ℕ) : Type 0 where
  pub restored : ChangesDisk old left
  pub names : NamesBadOpening old left text
  pub none : lines ≡ 0
  pub order_is : order ≡ []

-- One of these lines, over an open store of this shape that had these pages at first, met a page that couldn't be used:
-- what was found bad then was named, and nothing was done after that.
pub record IsFoundByLine (shape : Shape) (start : Partitions) (lines : List Line) (new : World) : Type 0 where
  pub left : World
  pub text : List ℕ
  pub met : PageId
  pub meets : IsMetByLine shape start lines met
  pub names : NamesMet met left text
  pub says : new ≡ with_said text left

-- nothing was done but that this was said
pub record OnlySays (text : List ℕ) (old new : World) (lines : ℕ) (order : List ℕ) : Type 0 where
  pub now : new ≡ with_said text old
  pub none : lines ≡ 0
  pub order_is : order ≡ []

-- a field of the configuration is refused: it was named, and nothing was changed
pub record IsMisconfigured (old new : World) (lines : ℕ) (order : List ℕ) : Type 0 where
  pub field : Field
  pub refused : config_fault old ≡ Some field
  pub says : OnlySays (fault_config field) old new lines order

-- A record or a page is bad, so that the store isn't sound: it was found in the opening, or a line of this script met a
-- page that couldn't be used. What was found bad was named, and nothing was done after that.
pub record IsDamaged (script : List Line) (old new : World) (lines : ℕ) (order : List ℕ) : Type 0 where
  pub configured : config_fault old ≡ None
  pub unsound : (shape : Shape) (pairs : Pairs) → IsStart (wanted_in old) old shape pairs → ⊥
  pub left : World
  pub text : List ℕ
  pub bad : IsFoundOpening old left text lines order ⊎ NamesFound (wanted_in old) old script left text
  pub says : new ≡ with_said text left

-- what each status says where the words aren't a command: nothing was done but that this was said, or a prefix
-- of it, and where memory ran out nothing at all
abbrev pub RefusalIs : Status → World → World → ℕ → List ℕ → Type 0
RefusalIs Usage old new lines order = OnlySays (codes "fault usage\n") old new lines order
RefusalIs Failed old new lines order = (n : ℕ) × OnlySays (take n (codes "fault usage\n")) old new lines order
RefusalIs Memory old new lines order = (new ≡ old) × (lines ≡ 0) × (order ≡ [])
RefusalIs status old new lines order = ⊥

-- What a run promises, by its status.
pub record RunHolds (old new : History) (status : Status) (lines : ℕ) (order : List ℕ) : Type 0 where
  -- over a store that it opens: which lines are answered, and with what
  pub outcome : (shape : Shape) (pairs : Pairs) → CanOpen old.world shape pairs
      → OutcomeIs status old.world new.world shape pairs lines order
  -- a script is answered only where no field is refused
  pub configured : (status ≡ Done) ⊎ (status ≡ Long) → config_fault old.world ≡ None
  -- where a field is refused no file of the store is changed
  pub untouched : (field : Field) → config_fault old.world ≡ Some field
      → AllMoments old new (SameDisk old.world)
  -- a script that is done leaves a sound store for the next run
  pub leaves : status ≡ Done
      → (shape : Shape) (pairs : Pairs) (start : IsStart (wanted_in old.world) old.world shape pairs)
      → IsLeft (wanted_in old.world) (last_after start) (number_after start) old.world new.world shape pairs
  -- a field that is refused is named so, and a bad record or page too
  pub misconfigured : status ≡ Misconfigured → IsMisconfigured old.world new.world lines order
  pub damaged : status ≡ Damaged → IsDamaged (script_of old.world.input) old.world new.world lines order

-- At each moment a crash leaves a sound store, which holds what was acknowledged, and whose numbers are at most
-- those that a run may take.
abbrev pub HoldsAtEachMoment : History → History → List ℕ → Type 0
HoldsAtEachMoment old new order =
    (shape : Shape) (pairs : Pairs) (start : IsStart (wanted_in old.world) old.world shape pairs)
    → AllMoments old new (CrashHoldsAcknowledged (wanted_in old.world) (last_after start) (number_after start)
    old.world shape pairs order)

-- Where no call fails: a field of the configuration that is refused is named, and a script over a
-- store that is opened is answered whole, or the limit that it passes is reported, unless memory
-- runs out.
pub record Completes (status : Status) (old : World) (before now : DeviceState) : Type 0 where
  pub refused : (field : Field) → config_fault old ≡ Some field → (Rose before now → ⊥)
      → (status ≡ Misconfigured) ⊎ (status ≡ Memory)
  pub within : (shape : Shape) (pairs : Pairs) → CanOpen old shape pairs → IsWithinLimits old.input
      → (Rose before now → ⊥) → (status ≡ Done) ⊎ (status ≡ Memory)
  pub passes : (shape : Shape) (pairs : Pairs) → CanOpen old shape pairs → PassesLimit old.input
      → (Rose before now → ⊥) → (status ≡ Long) ⊎ (status ≡ Memory)
