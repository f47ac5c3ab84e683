-- What the reply says of a command that wasn't accepted.
use Rattle.std.proofs.Common.{◌≡◌, ℕ, Bool, true, false, List, [], ◌∷◌, ◌++◌, sym, ap, ◌∙◌}
use Rattle.std.proofs.lemmas.Bool.{false≢true}
use Rattle.pm_model.specs.declared.line.Cmd.{Cmd}
use Rattle.pm_model.specs.declared.line.Cmd.TheVariants.{Put, Remove}
use Rattle.pm_model.specs.declared.reply.Reply.{Reply}
use Rattle.pm_model.specs.declared.reply.Reply.TheVariants.{Done, Was}
use Rattle.pm_model.specs.ReplyLists.{ReplyList, with_replies}
use Rattle.pm_part.specs.Commands.{accepts, IsRefused}

same_last : (before : List Reply) (a b : Reply) → before ++ a ∷ [] ≡ before ++ b ∷ [] → a ≡ b
same_last [] a b same = cc same
same_last (x ∷ before) a b same = same_last before a b (cc same)

-- this reply was appended, so it is the one that says that the command was refused
refused_by : (cmd : Cmd) (was now : ReplyList) (reply : Reply) → now ≡ with_replies (reply ∷ []) was → IsRefused cmd was now → accepts cmd reply ≡ false
refused_by cmd was now reply is refused =
    let same : reply ≡ refused.reply = same_last was.replies reply refused.reply (ap (λ (list : ReplyList). list.replies) (sym is ∙ refused.appended)) in
    ap (accepts cmd) same ∙ refused.refused

-- a put that is done isn't refused
pub put_done : (cache : ℕ) (key value : List ℕ) (was now : ReplyList) → now ≡ with_replies (Done ∷ []) was → IsRefused (Put cache key value) was now → ⊥
put_done cache key value was now is refused = false≢true (sym (refused_by (Put cache key value) was now Done is refused))

-- a removal that is refused is of a key that wasn't there
pub removal_refused : (cache : ℕ) (key : List ℕ) (there : Bool) (was now : ReplyList) → now ≡ with_replies (Was there ∷ []) was → IsRefused (Remove cache key) was now → there ≡ false
removal_refused cache key there was now is refused = refused_by (Remove cache key) was now (Was there) is refused
