-- How blocks are taken out of a worker's ring.
use Rattle.std.proofs.Common.{◌≡◌, ℕ, Bool, true, List, [], ◌∷◌, ◌++◌, refl, sym, ap, ◌∙◌, subst, append-nil}
use Rattle.std.proofs.lemmas.List.{append_assoc}
use Rattle.rtrb.specs.Ring.{SameConsumer}
use Rattle.rtrb.specs.declared.consumer.Consumer.{Consumer}
use Rattle.pm_disk.specs.Moments.{IsHistory}
use Rattle.pm_segments.specs.Ends.{EndsThere}
use Rattle.pm_logger.specs.Blocks.{joined}
use Rattle.pm_logger.specs.Fronts.{AppendsFront}
use Rattle.pm_logger.specs.Inboxes.{taken, kept, Takes, TakesBlock, Looks, KeepsSeen, AppendsTaken, AppendsGiven}
use Rattle.pm_records.specs.Operations.{IsBad}
use Rattle.pm_logger.specs.Writers.{Writer}
use Rattle.pm_logger.specs.declared.inbox.Inbox.{Inbox}
use Rattle.pm_logger.proofs.Appending.{front_none, front_then}
use Rattle.pm_logger.proofs.Joining.{joined-append}

module _ {T A P : Type 0} where
  pub same_consumer : (a b : Consumer T A P) → b ≡ a → SameConsumer a b
  same_consumer a b e = (
    (ap (λ (c : Consumer T A P). c.end.words) e, ap (λ (c : Consumer T A P). c.end.slots) e, ap (λ (c : Consumer T A P). c.end.names) e, ap (λ (c : Consumer T A P). c.end.heap) e),
    ap (λ (c : Consumer T A P). c.capacity) e,
  )

  pub same_consumer_then : (a b c : Consumer T A P) → SameConsumer a b → SameConsumer b c → SameConsumer a c
  same_consumer_then a b c p q = ((q.0.0 ∙ p.0.0, q.0.1 ∙ p.0.1, q.0.2 ∙ p.0.2, q.0.3 ∙ p.0.3), q.1 ∙ p.1)

-- bytes after bad ones don't mend them
pub bad_more : (bytes more : List ℕ) → IsBad bytes → IsBad (bytes ++ more)
bad_more bytes more bad others o rest is e = bad (more ++ others) o rest is (sym (append_assoc bytes more others) ∙ e)

pub takes_none : (was inbox : Inbox) → inbox.consumer ≡ was.consumer → Takes was inbox []
takes_none was inbox e = record { ring = same_consumer was.consumer inbox.consumer e; taken_are = ap (λ (c : _). c.end.past) e ∙ sym (append-nil (taken was)) }

pub takes_then : (a b c : Inbox) (xs ys : List (List ℕ)) → Takes a b xs → Takes b c ys → Takes a c (xs ++ ys)
takes_then a b c xs ys p q = record {
  ring = same_consumer_then a.consumer b.consumer c.consumer p.ring q.ring;
  taken_are = q.taken_are ∙ ap (λ bs. bs ++ ys) p.taken_are ∙ append_assoc (taken a) xs ys;
}

pub joined_after : (bytes : List ℕ) (xs ys : List (List ℕ)) → (bytes ++ joined xs) ++ joined ys ≡ bytes ++ joined (xs ++ ys)
joined_after bytes xs ys = append_assoc bytes (joined xs) (joined ys) ∙ ap (λ b. bytes ++ b) (sym (joined-append xs ys))

pub seen_none : (inbox : Inbox) → KeepsSeen inbox inbox
seen_none inbox = record { ring = same_consumer inbox.consumer inbox.consumer refl; seen_is = refl }

pub seen_then : {a b c : Inbox} → KeepsSeen a b → KeepsSeen b c → KeepsSeen a c
seen_then {a} {b} {c} p q = record { ring = same_consumer_then a.consumer b.consumer c.consumer p.ring q.ring; seen_is = q.seen_is ∙ p.seen_is }

-- what is kept was appended as far as it is whole
pub kept_appended : {tells : Type 0} {before now : Writer} {done : Bool} {was inbox : Inbox} → inbox.consumer ≡ was.consumer → AppendsFront tells before now done (kept was) (kept inbox) → AppendsTaken tells before now done was inbox
kept_appended {tells} {before} {now} {done} {was} {inbox} e front = record {
  came = [];
  takes = takes_none was inbox e;
  front = subst (λ b. AppendsFront tells before now done b (kept inbox)) (sym (append-nil (kept was))) front;
}

pub taken_none : {tells : Type 0} (now : Writer) (inbox : Inbox) → (tells → IsHistory now.history) → (tells → EndsThere now.log now.history.world) → AppendsTaken tells now now true inbox inbox
taken_none now inbox sound ends = kept_appended refl (front_none now (kept inbox) sound ends)

pub taken_then : {tells : Type 0} {before between now : Writer} {done : Bool} {a b c : Inbox} → AppendsTaken tells before between true a b → AppendsTaken tells between now done b c → AppendsTaken tells before now done a c
taken_then {tells} {before} {between} {now} {done} {a} {b} {c} first second = record {
  came = first.came ++ second.came;
  takes = takes_then a b c first.came second.came first.takes second.takes;
  front = subst (λ bytes. AppendsFront tells before now done bytes (kept c)) (joined_after (kept a) first.came second.came) (front_then first.front (joined second.came) second.front);
}

-- a block was taken
pub taken_block : {tells : Type 0} (now : Writer) {was inbox : Inbox} → TakesBlock was inbox → (tells → IsHistory now.history) → (tells → EndsThere now.log now.history.world) → AppendsTaken tells now now true was inbox
taken_block {tells} now {was} {inbox} takes sound ends = record {
  came = takes.block ∷ [];
  takes = takes.takes;
  front = subst (λ bytes. AppendsFront tells now now true bytes (kept inbox)) (takes.kept_is ∙ ap (λ b. kept was ++ b) (sym (append-nil takes.block))) (front_none now (kept inbox) sound ends);
}

-- ---- bytes given beside the ring

-- what is kept was appended as far as it is whole
pub given_kept : {tells : Type 0} {before now : Writer} {done : Bool} {was inbox : Inbox} → inbox.consumer ≡ was.consumer → AppendsFront tells before now done (kept was) (kept inbox) → AppendsGiven tells before now done was inbox []
given_kept {tells} {before} {now} {done} {was} {inbox} e front = record { ring = e; front = subst (λ b. AppendsFront tells before now done b (kept inbox)) (sym (append-nil (kept was))) front }

pub given_none : {tells : Type 0} (now : Writer) (inbox : Inbox) → (tells → IsHistory now.history) → (tells → EndsThere now.log now.history.world) → AppendsGiven tells now now true inbox inbox []
given_none now inbox sound ends = given_kept refl (front_none now (kept inbox) sound ends)

-- and then more bytes were kept
pub given_piece : {tells : Type 0} {before now : Writer} {was inbox : Inbox} {left piece : List ℕ} → inbox.consumer ≡ was.consumer → kept inbox ≡ left ++ piece → (tells → IsHistory now.history) → (tells → EndsThere now.log now.history.world)
    → AppendsFront tells before now true (kept was) left → AppendsGiven tells before now true was inbox piece
given_piece {tells} {before} {now} {was} {inbox} {left} {piece} e kept_is sound ends front = record {
  ring = e;
  front = front_then front piece (subst (λ b. AppendsFront tells now now true b (kept inbox)) kept_is (front_none now (kept inbox) sound ends));
}

module _ {tells : Type 0} {before between now : Writer} {done : Bool} {a b c : Inbox} {given : List ℕ} (first : AppendsGiven tells before between true a b given) where
  pub given_then : (more : List ℕ) → AppendsGiven tells between now done b c more → AppendsGiven tells before now done a c (given ++ more)
  given_then more second = record {
    ring = second.ring ∙ first.ring;
    front = subst (λ bytes. AppendsFront tells before now done bytes (kept c)) (append_assoc (kept a) given more) (front_then first.front more second.front);
  }

  -- where no more was given
  pub given_end : AppendsGiven tells between now done b c [] → AppendsGiven tells before now done a c given
  given_end second = subst (λ bytes. AppendsGiven tells before now done a c bytes) (append-nil given) (given_then [] second)

-- ---- after a look into the ring

pub look_then : {tells : Type 0} {before now : Writer} {done : Bool} {a b c : Inbox} → Looks a b → AppendsTaken tells before now done b c → AppendsTaken tells before now done a c
look_then {tells} {before} {now} {done} {a} {b} {c} looks second = record {
  came = second.came;
  takes = record {
    ring = same_consumer_then a.consumer b.consumer c.consumer looks.ring second.takes.ring;
    taken_are = second.takes.taken_are ∙ ap (λ bs. bs ++ second.came) looks.taken_are;
  };
  front = subst (λ bytes. AppendsFront tells before now done (bytes ++ joined second.came) (kept c)) looks.kept_is second.front;
}
