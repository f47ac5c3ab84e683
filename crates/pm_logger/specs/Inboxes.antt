-- What contracts see of the log writer's end of a worker's ring.
use Rattle.std.specs.Prelude.{◌≡◌, ◌≤◌, ◌⊎◌, ◌+◌, ℕ, List, [], ◌∷◌, ◌++◌, length, Bool, true, false}
use Rattle.std.specs.Prelude.{if◌then◌else◌, Result, Ok, Err}
use Rattle.rtrb.specs.Ring.{received, known_items, SameConsumer, IsPair}
use Rattle.pm_types.specs.declared.limits.TheConstants.{BATCH_LINES_MAX}
use Rattle.pm_logger.specs.Blocks.{joined}
use Rattle.pm_logger.specs.Fronts.{AppendsFront}
use Rattle.pm_records.specs.Operations.{BeginsWithNone, IsBad}
use Rattle.pm_logger.specs.Writers.{Writer}
use Rattle.pm_logger.specs.declared.log_end.LogEnd.{LogEnd}
use Rattle.pm_logger.specs.declared.inbox.Inbox.{Inbox}

-- the blocks that were taken out of the ring, each as its bytes, oldest first
abbrev pub taken : Inbox → List (List ℕ)
taken inbox = received inbox.consumer

-- the blocks that are known to be in the ring
abbrev pub waiting : Inbox → List (List ℕ)
waiting inbox = known_items inbox.consumer

-- the bytes that are kept: those that were taken, and not yet appended
abbrev pub kept : Inbox → List ℕ
kept inbox = inbox.kept.items

-- the two are the ends of one ring
abbrev pub IsEndOf : LogEnd → Inbox → Type 0
IsEndOf end inbox = IsPair end.producer inbox.consumer

-- These blocks were taken out of the ring.
pub record Takes (old new : Inbox) (came : List (List ℕ)) : Type 0 where
  pub ring : SameConsumer old.consumer new.consumer
  pub taken_are : taken new ≡ taken old ++ came

-- More blocks may be known to be in the ring; nothing else changed.
pub record Looks (old new : Inbox) : Type 0 where
  pub ring : SameConsumer old.consumer new.consumer
  pub taken_are : taken new ≡ taken old
  pub kept_is : kept new ≡ kept old

-- all blocks that were seen so far: those that were taken, and those that are known to be in the ring
abbrev pub seen : Inbox → List (List ℕ)
seen inbox = taken inbox ++ waiting inbox

-- The next block was taken, and its bytes are kept after the others.
pub record TakesBlock (old new : Inbox) : Type 0 where
  pub block : List ℕ
  pub takes : Takes old new (block ∷ [])
  pub was_next : waiting old ≡ block ∷ waiting new
  pub kept_is : kept new ≡ kept old ++ block

-- The same ring, of which nothing more was seen.
pub record KeepsSeen (old new : Inbox) : Type 0 where
  pub ring : SameConsumer old.consumer new.consumer
  pub seen_is : seen new ≡ seen old

-- Blocks were taken, the operations at the front of what was kept and of them were appended, and what is left
-- is kept.
pub record AppendsTaken (tells : Type 0) (before now : Writer) (done : Bool) (was inbox : Inbox) : Type 0 where
  pub came : List (List ℕ)
  pub takes : Takes was inbox came
  pub front : AppendsFront tells before now done (kept was ++ joined came) (kept inbox)

-- The same of bytes that were given beside the ring: they were kept, and appended as far as they are whole.
pub record AppendsGiven (tells : Type 0) (before now : Writer) (done : Bool) (was inbox : Inbox)
    (given : List ℕ) : Type 0 where
  pub ring : inbox.consumer ≡ was.consumer
  pub front : AppendsFront tells before now done (kept was ++ given) (kept inbox)

-- what was taken of a piece, where a call answers whether it took it
abbrev pub piece_taken : {E : Type 0} → Result Bool E → List ℕ → List ℕ
piece_taken (Ok took) piece = if took then piece else []
piece_taken (Err error) piece = []

-- No operation can be appended of what is kept: either no more lines can be noted, or none will ever stand
-- there.
abbrev pub IsHalted : Inbox → ℕ → Type 0
IsHalted inbox noted = IsBad (kept inbox) ⊎ (BATCH_LINES_MAX ≤ noted)

-- What a call answers that takes a block: one that was known to be in the ring was taken, or none, since no
-- operation can be appended.
abbrev pub AnswersTaken : Bool → Inbox → Inbox → ℕ → Type 0
AnswersTaken true old new noted = length (waiting new) + 1 ≡ length (waiting old)
AnswersTaken false old new noted = IsHalted new noted

-- All that is known to be in the ring was taken, and no whole operation is left, or none can be appended.
abbrev pub IsDrained : Inbox → ℕ → Type 0
IsDrained inbox noted = IsHalted inbox noted ⊎ ((waiting inbox ≡ []) × BeginsWithNone (kept inbox))
