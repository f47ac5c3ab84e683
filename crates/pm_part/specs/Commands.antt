-- The commands of a partition.
use Rattle.std.specs.Prelude.{◌≡◌, ℕ, ◌<◌, Bool, true, false, [], ◌∷◌, Result, OnOk, OnErr}
use Rattle.pm_types.specs.declared.limits.TheConstants.{CACHES}
use Rattle.pm_types.specs.declared.shape.Shape.{Shape}
use Rattle.pm_types.specs.declared.fault.PageFault.{PageFault}
use Rattle.pm_model.specs.declared.line.Cmd.{Cmd}
use Rattle.pm_model.specs.declared.line.Cmd.TheVariants.{Put, Get, Remove, Scan, Checkpoint}
use Rattle.pm_model.specs.declared.reply.Reply.{Reply}
use Rattle.pm_model.specs.declared.reply.Reply.TheVariants as reply
use Rattle.pm_model.specs.Partitions.{part_of}
use Rattle.pm_model.specs.ReplyLists.{ReplyList, with_replies}

-- the command is a put, get or removal of a key of this partition, in a store of this shape
abbrev pub IsPartCmd : Shape → ℕ → Cmd → Type 0
IsPartCmd shape part (Put cache key value) = (cache < CACHES) × (part_of key shape.partitions ≡ part)
IsPartCmd shape part (Get cache key) = (cache < CACHES) × (part_of key shape.partitions ≡ part)
IsPartCmd shape part (Remove cache key) = (cache < CACHES) × (part_of key shape.partitions ≡ part)
IsPartCmd shape part (Scan cache) = ⊥
IsPartCmd shape part Checkpoint = ⊥

-- whether a command that has this reply was accepted: a put that isn't refused, and a remove of a key
-- that was there
abbrev pub accepts : Cmd → Reply → Bool
accepts (Put cache key value) reply.Done = true
accepts (Put cache key value) found = false
accepts (Get cache key) found = false
accepts (Remove cache key) (reply.Was was) = was
accepts (Remove cache key) found = false
accepts (Scan cache) found = false
accepts Checkpoint found = false

-- one reply was appended, which says that the command wasn't accepted
pub record IsRefused (cmd : Cmd) (was now : ReplyList) : Type 0 where
  pub reply : Reply
  pub appended : now ≡ with_replies (reply ∷ []) was
  pub refused : accepts cmd reply ≡ false

-- one reply was appended
pub record AppendsReply (was now : ReplyList) : Type 0 where
  pub reply : Reply
  pub appended : now ≡ with_replies (reply ∷ []) was

-- a command has one reply, and none where it failed
pub record RepliesOnce {R : Type 0} (was now : ReplyList) (result : Result R PageFault) : Type 0 where
  pub appended : OnOk result (AppendsReply was now)
  pub kept : OnErr result (now ≡ was)
