-- How replies are counted one after the other.
use Rattle.std.proofs.Common.{◌≡◌, ℕ, zero, suc, ◌+◌, ◌<◌, ◌≤◌, List, [], ◌∷◌, ◌++◌, length, take, Some, true, false, refl, ◌∙◌, ap, add-one, arith}
use Rattle.std.specs.Prelude.{slice_get}
use Rattle.pm_model.specs.declared.reply.Reply.{Reply}
use Rattle.pm_model.specs.declared.reply.Reply.TheVariants as reply
use Rattle.pm_model.specs.declared.reply.Reply.TheVariants.{Done, Found, Absent, Was, Full, BadLine, LongLine}
use Rattle.pm_top.specs.declared.counting.ReplyCounts.{ReplyCounts}
use Rattle.pm_top.specs.ReplyCounts.{counted_in, with_all, with_reply}

-- replies, and then others
pub with_all-append : (counts : ReplyCounts) (first others : List Reply) → with_all counts (first ++ others) ≡ with_all (with_all counts first) others
with_all-append counts [] others = refl
with_all-append counts (reply ∷ first) others = with_all-append (with_reply counts reply) first others

next_reply : (counts : ReplyCounts) (replies : List Reply) (i : ℕ) (reply : Reply) → slice_get replies i ≡ Some reply → with_all counts (take (suc i) replies) ≡ with_reply (with_all counts (take i replies)) reply
next_reply counts [] i reply is = absurd cc
next_reply counts (first ∷ []) zero reply is = ap (with_reply counts) (same_reply first reply is)
  where
    same_reply : (a b : Reply) → Some a ≡ Some b → a ≡ b
    same_reply a b e = cc
next_reply counts (first ∷ (second ∷ rest)) zero reply is = ap (with_reply counts) (same_reply first reply is)
  where
    same_reply : (a b : Reply) → Some a ≡ Some b → a ≡ b
    same_reply a b e = cc
next_reply counts (first ∷ rest) (suc i) reply is = next_reply (with_reply counts first) rest i reply is

-- one reply more
pub one_counted : (counts : ReplyCounts) (replies : List Reply) (i : ℕ) (reply : Reply) → slice_get replies i ≡ Some reply → with_all counts (take (i + 1) replies) ≡ with_reply (with_all counts (take i replies)) reply
one_counted counts replies i reply is = ap (λ n. with_all counts (take n replies)) (add-one i) ∙ next_reply counts replies i reply is

one_at_most : (counts : ReplyCounts) (reply : Reply) → counted_in (with_reply counts reply) ≤ counted_in counts + 1
one_at_most counts Done = omega arith
one_at_most counts (Found value) = omega arith
one_at_most counts Absent = omega arith
one_at_most counts (Was true) = omega arith
one_at_most counts (Was false) = omega arith
one_at_most counts Full = omega arith
one_at_most counts (reply.Pairs pairs) = omega arith
one_at_most counts BadLine = omega arith
one_at_most counts LongLine = omega arith

-- no more are counted than there are
pub counted_at_most : (counts : ReplyCounts) (replies : List Reply) → counted_in (with_all counts replies) ≤ counted_in counts + length replies
counted_at_most counts [] = omega arith
counted_at_most counts (reply ∷ replies) = omega (arith, one_at_most counts reply, counted_at_most (with_reply counts reply) replies)

-- the first ones, up to a number that is that of all where there are no more
pub take_few : (replies : List Reply) (i most : ℕ) → i ≤ most → (i < length replies → most ≤ i) → take i replies ≡ take most replies
take_few [] zero zero le far = refl
take_few [] zero (suc most) le far = refl
take_few [] (suc i) zero le far = absurd (omega (arith, le))
take_few [] (suc i) (suc most) le far = refl
take_few (reply ∷ replies) zero zero le far = refl
take_few (reply ∷ replies) zero (suc most) le far = absurd (omega (arith, far (omega arith)))
take_few (reply ∷ replies) (suc i) zero le far = absurd (omega (arith, le))
take_few (reply ∷ replies) (suc i) (suc most) le far = ap (λ others. reply ∷ others) (take_few replies i most (omega (arith, le)) (λ few. omega (arith, far (omega (arith, few)))))
