-- The texts of replies, one reply after the other.
use Rattle.std.proofs.Common.{◌≡◌, ℕ, zero, suc, ◌+◌, List, [], ◌∷◌, ◌++◌, take, Some, sym, ◌∙◌, ap, add-one, append_assoc, append-nil}
use Rattle.std.specs.Prelude.{slice_get}
use Rattle.pm_model.specs.declared.reply.Reply.{Reply}
use Rattle.pm_script.specs.Texts.{text_of, texts_of}
use Rattle.pm_top.proofs.Orders.{take_none}

same_reply : (a b : Reply) → Some a ≡ Some b → a ≡ b
same_reply a b e = cc

next_text : (replies : List Reply) (i : ℕ) (reply : Reply) → slice_get replies i ≡ Some reply → texts_of (take (suc i) replies) ≡ texts_of (take i replies) ++ text_of reply
next_text [] i reply is = absurd cc
next_text (first ∷ rest) zero reply is =
    ap (λ rs. text_of first ++ texts_of rs) (take_none rest) ∙ append-nil (text_of first) ∙ ap text_of (same_reply first reply is)
next_text (first ∷ rest) (suc i) reply is =
    ap (λ t. text_of first ++ t) (next_text rest i reply is) ∙ sym (append_assoc (text_of first) (texts_of (take i rest)) (text_of reply))

-- one text more
pub texts_more : (replies : List Reply) (i : ℕ) (reply : Reply) → slice_get replies i ≡ Some reply → texts_of (take (i + 1) replies) ≡ texts_of (take i replies) ++ text_of reply
texts_more replies i reply is = ap (λ n. texts_of (take n replies)) (add-one i) ∙ next_text replies i reply is
