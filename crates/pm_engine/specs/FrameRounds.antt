-- What a worker does in a round for its lines, one after the other.
use Rattle.std.specs.Prelude.{◌≡◌, ◌≤◌, ℕ, ◌+◌, Bool, List, [], ◌∷◌, length, take, drop, All, Option, None, Some}
use Rattle.pm_types.specs.declared.fault.PageFault.TheVariants.{Failed, BadPage}
use Rattle.pm_types.specs.declared.page_id.PageId.{PageId}
use Rattle.pm_types.specs.declared.shape.Shape.{Shape}
use Rattle.pm_types.specs.Counts.{HasRisen}
use Rattle.pm_disk.specs.Moments.{History}
use Rattle.pm_disk.specs.States.{DeviceState}
use Rattle.pm_model.specs.declared.line.Line.{Line}
use Rattle.pm_model.specs.Eval.{replies_to, after_all}
use Rattle.pm_model.specs.ReplyLists.{ReplyList, with_replies}
use Rattle.pm_core.specs.BasePages.{Partitions}
use Rattle.pm_core.specs.Held.{AllWellFormed, pairs_in}
use Rattle.pm_stripe.specs.declared.bound.Bound.{Bound}
use Rattle.pm_stripe.specs.Bounds.{IsBound}
use Rattle.pm_engine.specs.declared.frame_lines.Stop.{Stop}
use Rattle.pm_engine.specs.declared.frame_lines.Stop.TheVariants.{Halted, Faulted}
use Rattle.pm_engine.specs.declared.frame_rounds.RoundEnd.{RoundEnd}
use Rattle.pm_engine.specs.FrameCommands.{frame_pages, IsSameWorker, IsBetweenLines, ChangesNothing}
use Rattle.pm_engine.specs.FrameLines.{EvaluatesLine, DoesLine}
use Rattle.pm_engine.specs.MetPages.{AllowsLine, MeetsBadPage}

-- so many of the lines, from this one on
abbrev pub lines_from : ℕ → ℕ → List Line → List Line
lines_from from count lines = take count (drop from lines)

-- Lines were evaluated over the pages of a store, one after the other: their replies were appended, the map
-- is the one after them, and each partition is well formed still.
pub record EvaluatesLines (shape : Shape) (lines : List Line) (old new : Partitions) (was now : ReplyList)
    : Type 0 where
  pub replied : now ≡ with_replies (replies_to shape lines (pairs_in shape.partitions old)) was
  pub map : pairs_in shape.partitions new ≡ after_all shape lines (pairs_in shape.partitions old)
  pub well_formed : AllWellFormed shape new

module _ {Q R : Type 0} where
  -- A line was done, as the operation with this number. Where the reader tells, and each partition is well
  -- formed, it was evaluated as the model of lines says.
  pub record DoesNext (tells : Type 0) (history : R → History) (number : ℕ) (line : Line) (b c : Bound Q R)
      (was now : ReplyList) : Type 0 where
    pub accepted : Bool
    pub does : DoesLine tells history number line b c accepted
    pub evaluates : tells → AllWellFormed b.stripe.shape (frame_pages history b)
        → EvaluatesLine b.stripe.shape line (frame_pages history b) (frame_pages history c) was now accepted

  -- These lines, of which the first has this number, were done one after the other, each from where the one
  -- before it left the worker and the replies.
  abbrev pub DoesLines : Type 0 → (R → History) → ℕ → List Line → Bound Q R → Bound Q R → ReplyList
      → ReplyList → Type 0
  DoesLines tells history number [] b c was now = ChangesNothing tells history b c × (now ≡ was)
  DoesLines tells history number (line ∷ lines) b c was now =
      (m : Bound Q R) × (mid : ReplyList) × DoesNext tells history number line b m was mid
      × DoesLines tells history (number + 1) lines m c mid now

  -- The lines of a round were done, up to where the worker stands at `c`, and it may go on.
  pub record HasDone (tells : Type 0) (history : R → History) (state : R → DeviceState) (number : ℕ)
      (lines : List Line) (b c : Bound Q R) (was now : ReplyList) : Type 0 where
    pub same : IsSameWorker tells history state b c
    pub between : IsBetweenLines tells history state c
    pub does : DoesLines tells history number lines b c was now
    pub evaluates : tells → AllWellFormed b.stripe.shape (frame_pages history b)
        → EvaluatesLines b.stripe.shape lines (frame_pages history b) (frame_pages history c) was now

  -- A fault ended the line after these: nothing was handed over for it, and it has no reply.
  pub record EndsAtFault (tells : Type 0) (history : R → History) (state : R → DeviceState) (number : ℕ)
      (lines : List Line) (b c : Bound Q R) (was now : ReplyList) : Type 0 where
    pub before : Bound Q R
    pub done : HasDone tells history state number lines b before was now
    pub same : IsSameWorker tells history state b c
    pub bound : IsBound tells history state c
    pub outbox : c.stripe.outbox ≡ before.stripe.outbox

  -- How the lines of a round ended: all were done, or something is lacking for the next one, or it met a
  -- fault.
  abbrev pub LeavesRound : Type 0 → (R → History) → (R → DeviceState) → ℕ → List Line → Bound Q R → Bound Q R
      → ReplyList → ReplyList → Option Stop → Type 0
  LeavesRound tells history state number lines b c was now None =
      HasDone tells history state number lines b c was now
  LeavesRound tells history state number lines b c was now (Some (Halted halt)) =
      HasDone tells history state number lines b c was now
  LeavesRound tells history state number lines b c was now (Some (Faulted fault)) =
      EndsAtFault tells history state number lines b c was now

  -- So many of these lines were done, from one of them on. The first of all has the number `first`. There is room for
  -- the replies to those after them still, and each that was done took room for one.
  pub record AnswersRound (tells : Type 0) (history : R → History) (state : R → DeviceState) (first from : ℕ)
      (lines : List Line) (b c : Bound Q R) (was now : ReplyList) (end : RoundEnd) : Type 0 where
    pub inside : from + end.done ≤ length lines
    pub all : end.stop ≡ None → from + end.done ≡ length lines
    pub room : length lines ≤ from + end.done + now.spare
    pub spare : was.spare ≤ end.done + now.spare
    pub leaves : LeavesRound tells history state (first + from) (lines_from from end.done lines) b c was now
        end.stop
    pub cause : end.stop ≡ Some (Faulted Failed) → HasRisen (state b.reader).faults (state c.reader).faults
    pub sound : tells → AllWellFormed b.stripe.shape (frame_pages history b) → (id : PageId)
        → end.stop ≡ Some (Faulted (BadPage id)) → ⊥
    -- what couldn't be used is a page that the next line met, after those that were done
    pub meets : tells → (may_change : ℕ → Bool) → All (AllowsLine may_change b.stripe.shape) lines → (id : PageId)
        → end.stop ≡ Some (Faulted (BadPage id))
        → MeetsBadPage tells may_change b.stripe.shape (frame_pages history b) id
