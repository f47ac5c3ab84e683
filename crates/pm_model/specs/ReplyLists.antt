-- Lists of replies with room for more.
use Rattle.std.specs.Prelude.{ℕ, ◌-◌, List, [], ◌++◌, length}
use Rattle.pm_model.specs.declared.reply.Reply.{Reply}

-- replies, and for how many more there is room
pub record ReplyList : Type 0 where
  pub replies : List Reply
  pub spare : ℕ

-- no reply yet, and room for so many
abbrev pub no_replies : ℕ → ReplyList
no_replies room = record { replies = []; spare = room }

-- some replies more, in the room that there was
abbrev pub with_replies : List Reply → ReplyList → ReplyList
with_replies more list = record { replies = list.replies ++ more; spare = list.spare - length more }
