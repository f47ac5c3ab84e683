-- Replies that are appended, line after line.
use Rattle.std.proofs.Common.{◌≡◌, ◌-◌, List, [], ◌++◌, length, sym, arith, append_assoc, append-nil, length-append}
use Rattle.pm_model.specs.declared.reply.Reply.{Reply}
use Rattle.pm_model.specs.ReplyLists.{ReplyList, with_replies}

-- no replies more
pub with_none : (list : ReplyList) → list ≡ with_replies [] list
with_none list =
    let spare : list.spare ≡ list.spare - 0 = omega arith in
    λ i. record { replies = sym (append-nil list.replies) i; spare = spare i }

-- replies, and more replies after them
pub with_more : (xs ys : List Reply) (list : ReplyList) → with_replies ys (with_replies xs list) ≡ with_replies (xs ++ ys) list
with_more xs ys list =
    let spare : list.spare - length xs - length ys ≡ list.spare - length (xs ++ ys) = omega (arith, length-append xs ys) in
    λ i. record { replies = append_assoc list.replies xs ys i; spare = spare i }
