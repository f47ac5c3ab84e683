-- What a worker does in a round for one line.
use Rattle.std.specs.Prelude.{◌≡◌, ℕ, Bool, true, false, [], ◌∷◌, Some, Result, Ok, Err, IfOk, IsErrOf}
use Rattle.pm_types.specs.declared.fault.PageFault.TheVariants.{Failed, BadPage}
use Rattle.pm_types.specs.declared.page_id.PageId.{PageId}
use Rattle.pm_types.specs.declared.shape.Shape.{Shape}
use Rattle.pm_types.specs.Counts.{HasRisen}
use Rattle.pm_disk.specs.Moments.{History}
use Rattle.pm_disk.specs.States.{DeviceState}
use Rattle.pm_records.specs.Records.{Record}
use Rattle.pm_model.specs.declared.line.Cmd.TheVariants.{Put, Get, Remove, Scan, Checkpoint}
use Rattle.pm_model.specs.declared.line.Line.{Line}
use Rattle.pm_model.specs.declared.line.Line.TheVariants.{Good, Bad, Long}
use Rattle.pm_model.specs.Batches.{HasCache}
use Rattle.pm_model.specs.Eval.{reply_to, after, is_accepted}
use Rattle.pm_model.specs.Orders.{part_of_line}
use Rattle.pm_model.specs.ReplyLists.{ReplyList, with_replies}
use Rattle.pm_part.specs.Commands.{AppendsReply}
use Rattle.pm_core.specs.BasePages.{Partitions}
use Rattle.pm_core.specs.Held.{AllWellFormed, pairs_in}
use Rattle.pm_stripe.specs.declared.bound.Bound.{Bound}
use Rattle.pm_stripe.specs.Begins.{IsOwnPart, IsLacking}
use Rattle.pm_stripe.specs.Bounds.{IsBound}
use Rattle.pm_engine.specs.declared.frame_lines.Stop.{Stop}
use Rattle.pm_engine.specs.declared.frame_lines.Stop.TheVariants.{Halted, Faulted}
use Rattle.pm_engine.specs.FrameCommands.{frame_pages, IsSameWorker, IsBetweenLines, ChangesNothing}
use Rattle.pm_engine.specs.FrameCommands.{HandsOverChange}
use Rattle.pm_engine.specs.MetPages.{AllowsLine, MeetsInRound}
use Rattle.pm_engine.specs.Records.{record_of_line}

-- a line of a key
abbrev pub HasKey : Line → Type 0
HasKey (Good (Put cache key value)) = Unit {0}
HasKey (Good (Get cache key)) = Unit {0}
HasKey (Good (Remove cache key)) = Unit {0}
HasKey (Good (Scan cache)) = ⊥
HasKey (Good Checkpoint) = ⊥
HasKey Bad = ⊥
HasKey Long = ⊥

-- whether a line asks for all pairs of a cache
abbrev pub is_scan : Line → Bool
is_scan (Good (Put cache key value)) = false
is_scan (Good (Get cache key)) = false
is_scan (Good (Remove cache key)) = false
is_scan (Good (Scan cache)) = true
is_scan (Good Checkpoint) = false
is_scan Bad = false
is_scan Long = false

-- A line was evaluated over the pages of a store, as the model of lines says: its reply was appended, the
-- map is the one after it, and each partition is well formed still.
pub record EvaluatesLine (shape : Shape) (line : Line) (old new : Partitions) (was now : ReplyList)
    (accepted : Bool) : Type 0 where
  pub replied : now ≡ with_replies (reply_to shape line (pairs_in shape.partitions old) ∷ []) was
  pub accepted_is : accepted ≡ is_accepted shape line (pairs_in shape.partitions old)
  pub map : pairs_in shape.partitions new ≡ after shape line (pairs_in shape.partitions old)
  pub well_formed : AllWellFormed shape new

-- a line that was done has one reply, and one that wasn't has none
abbrev pub RepliesIfDone : ReplyList → ReplyList → Result Bool Stop → Type 0
RepliesIfDone was now (Ok accepted) = AppendsReply was now
RepliesIfDone was now (Err stop) = now ≡ was

-- no page was found bad
abbrev pub FindsNoBadPage : Result Bool Stop → Type 0
FindsNoBadPage result = (id : PageId) → IsErrOf result (Faulted (BadPage id)) → ⊥

module _ {Q R : Type 0} where
  -- A line that a round may have: its cache is there, it is no scan, and if it has a key, the partition of
  -- the key is the worker's.
  pub record IsRoundLine (b : Bound Q R) (line : Line) : Type 0 where
    pub cache : HasCache line
    pub no_scan : is_scan line ≡ false
    pub own : HasKey line → IsOwnPart b (part_of_line b.stripe.shape line)

  -- An accepted line was done, as the operation with this number: it handed over its record and what it
  -- changed of the pages of its key's partition.
  pub record HandsOverLine (tells : Type 0) (history : R → History) (number : ℕ) (line : Line) (b c : Bound Q R)
      : Type 0 where
    pub rec : Record
    pub is : record_of_line line ≡ Some rec
    pub change : HandsOverChange tells history number (Some rec) (part_of_line b.stripe.shape line) b c

  -- A line was done. One that wasn't accepted changed nothing.
  pub record DoesLine (tells : Type 0) (history : R → History) (number : ℕ) (line : Line) (b c : Bound Q R)
      (accepted : Bool) : Type 0 where
    pub refused : accepted ≡ false → ChangesNothing tells history b c
    pub hands : accepted ≡ true → HandsOverLine tells history number line b c

  -- What the operation of a line may need is lacking. Nothing changed, and the line may be tried again.
  pub record HaltsLine (tells : Type 0) (history : R → History) (state : R → DeviceState) (b c : Bound Q R)
      : Type 0 where
    pub between : IsBetweenLines tells history state c
    pub nothing : ChangesNothing tells history b c

  -- A line was done, or what it may need is lacking, or a fault ended it. After a fault nothing was handed
  -- over, and the round is to be ended.
  abbrev pub LeavesLine : Type 0 → (R → History) → (R → DeviceState) → ℕ → Line → Bound Q R → Bound Q R
      → Result Bool Stop → Type 0
  LeavesLine tells history state number line b c (Ok accepted) =
      IsBetweenLines tells history state c × DoesLine tells history number line b c accepted
  LeavesLine tells history state number line b c (Err (Halted halt)) =
      HaltsLine tells history state b c × IsLacking b c (Err halt)
  LeavesLine tells history state number line b c (Err (Faulted fault)) = c.stripe.outbox ≡ b.stripe.outbox

  -- where the fault is that a call on the disk failed, the count of failed calls rose
  abbrev pub HasReaderCause : (R → DeviceState) → Bound Q R → Bound Q R → Result Bool Stop → Type 0
  HasReaderCause state b c result =
      IsErrOf result (Faulted Failed) → HasRisen (state b.reader).faults (state c.reader).faults

  -- A line was answered over a worker's page frames. Where the reader tells, and each partition of the
  -- store is well formed as this worker has it, it was evaluated as the model of lines says, and no page
  -- was found bad. Of any store, a page that couldn't be used is one that the line met.
  pub record AnswersInFrames (tells : Type 0) (history : R → History) (state : R → DeviceState) (number : ℕ)
      (line : Line) (b c : Bound Q R) (was now : ReplyList) (result : Result Bool Stop) : Type 0 where
    pub same : IsSameWorker tells history state b c
    pub bound : IsBound tells history state c
    pub leaves : LeavesLine tells history state number line b c result
    pub replied : RepliesIfDone was now result
    pub cause : HasReaderCause state b c result
    pub evaluates : tells → AllWellFormed b.stripe.shape (frame_pages history b) → IfOk result
        (EvaluatesLine b.stripe.shape line (frame_pages history b) (frame_pages history c) was now)
    pub sound : tells → AllWellFormed b.stripe.shape (frame_pages history b) → FindsNoBadPage result
    pub meets : tells → (may_change : ℕ → Bool) → AllowsLine may_change b.stripe.shape line
        → MeetsInRound tells may_change b.stripe.shape (frame_pages history b) result
