-- How the rings are emptied, one after the other.
use Rattle.std.proofs.Common.{◌≡◌, inl, inr, ℕ, ◌+◌, ◌<◌, ◌≤◌, ◌≢◌, List, length, refl, sym, ap, ◌∙◌, subst, arith, Some, set, get_or, Bool, Result, Ok, Err}
use Rattle.std.specs.List.{slice_get}
use Rattle.std.specs.Prelude.{OnOk, IsTrue, is_ok}
use Rattle.std.proofs.lemmas.Bool.{cases_lt}
use Rattle.std.proofs.lemmas.List.{length-set}
use Rattle.std.proofs.lemmas.Option.{slice_get-get_or, slice_get_within}
use Rattle.rtrb.specs.Ring.{SameConsumer}
use Rattle.pm_logger.specs.Inboxes.{IsEndOf, IsHalted, IsDrained}
use Rattle.pm_logger.specs.Merges.{Entry, Merges, AppendsMerge}
use Rattle.pm_logger.specs.LogEnds.{pushed, SameEnd}
use Rattle.pm_logger.specs.Rings.{AreLinked, KeepsEnds, IsEmptied, AreEmptied, GivesTo}
use Rattle.pm_logger.specs.Writers.{Writer}
use Rattle.pm_logger.specs.declared.inbox.Inbox.{Inbox}
use Rattle.pm_logger.specs.declared.log_end.LogEnd.{LogEnd}
use Rattle.pm_logger.proofs.Merging.{get_set, some_same}
use Rattle.pm_logger.proofs.Taking.{same_consumer}

-- a call ended well
pub on_ok_true : {T E : Type 0} {P : Type 0} (result : Result T E) → OnOk result P → IsTrue (is_ok result) → P
on_ok_true (Ok x) p e = p
on_ok_true (Err x) p e = absurd cc

same_end_then : (a b c : LogEnd) → SameEnd a b → SameEnd b c → SameEnd a c
same_end_then a b c p q = ((q.0.0 ∙ p.0.0, q.0.1 ∙ p.0.1, q.0.2 ∙ p.0.2, q.0.3 ∙ p.0.3), q.1 ∙ p.1)

same_end : (a : LogEnd) → SameEnd a a
same_end a = ((refl, refl, refl, refl), refl)

-- two lists that were changed at one place
both_set : (P : LogEnd → Inbox → Type 0) (ends : List LogEnd) (inboxes : List Inbox) (worker w : ℕ) (end e : LogEnd) (inbox i : Inbox) → slice_get (set ends worker end) w ≡ Some e → slice_get (set inboxes worker inbox) w ≡ Some i
    → (w ≡ worker → P end inbox) → (w ≢ worker → slice_get ends w ≡ Some e → slice_get inboxes w ≡ Some i → P e i) → P e i
both_set P ends inboxes worker w end e inbox i at_e at_i here there = elim (get_set ends worker w end e at_e) [
  | inl p ↦ elim (get_set inboxes worker w inbox i at_i) [
    | inl q ↦ subst (λ (x : LogEnd × Inbox). P x.0 x.1) (λ k. (sym p.1 k, sym q.1 k)) (here p.0)
    | inr q ↦ absurd (q.0 p.0)
  ]
  | inr p ↦ elim (get_set inboxes worker w inbox i at_i) [
    | inl q ↦ absurd (p.0 q.0)
    | inr q ↦ there p.0 p.1 q.1
  ]
]

pub linked_set : (ends : List LogEnd) (inboxes : List Inbox) (worker : ℕ) (end : LogEnd) (inbox : Inbox) → AreLinked ends inboxes → IsEndOf end inbox → AreLinked (set ends worker end) (set inboxes worker inbox)
linked_set ends inboxes worker end inbox linked pair = record {
  many = length-set ends worker end ∙ linked.many ∙ sym (length-set inboxes worker inbox);
  each = λ w e i at_e at_i. both_set IsEndOf ends inboxes worker w end e inbox i at_e at_i (λ same. pair) (λ differs at_e' at_i'. linked.each w e i at_e' at_i');
}

pub ends_none : (ends : List LogEnd) → KeepsEnds ends ends
ends_none ends = record { many = refl; each = λ w a b e f. subst (λ x. SameEnd a x × (pushed x ≡ pushed a)) (some_same a b (sym e ∙ f)) (same_end a, refl) }

pub ends_set : (old ends : List LogEnd) (worker : ℕ) (was end : LogEnd) → KeepsEnds old ends → slice_get ends worker ≡ Some was → SameEnd was end × (pushed end ≡ pushed was) → KeepsEnds old (set ends worker end)
ends_set old ends worker was end keeps at same = record {
  many = length-set ends worker end ∙ keeps.many;
  each = λ w a b e f. elim (get_set ends worker w end b f) [
    | inl h ↦
        let first = keeps.each w a was e (ap (slice_get ends) h.0 ∙ at) in
        subst (λ x. SameEnd a x × (pushed x ≡ pushed a)) (sym h.1) (same_end_then a was end first.0 same.0, same.1 ∙ first.1)
    | inr h ↦ keeps.each w a b e h.1
  ];
}

halted_more : (inbox : Inbox) (n m : ℕ) → n ≤ m → IsHalted inbox n → IsHalted inbox m
halted_more inbox n m le (inl bad) = inl bad
halted_more inbox n m le (inr full) = inr (omega (arith, le, full))

drained_more : (inbox : Inbox) (n m : ℕ) → n ≤ m → IsDrained inbox n → IsDrained inbox m
drained_more inbox n m le (inl halted) = inl (halted_more inbox n m le halted)
drained_more inbox n m le (inr empty) = inr empty

pub emptied_none : (noted : ℕ) (ends : List LogEnd) (inboxes : List Inbox) → AreEmptied noted 0 ends inboxes
emptied_none noted ends inboxes w e i lt = absurd (omega (arith, lt))

pub emptied_set : (n m : ℕ) (ends : List LogEnd) (inboxes : List Inbox) (worker : ℕ) (end : LogEnd) (inbox : Inbox) → n ≤ m → AreEmptied n worker ends inboxes → IsEmptied m end inbox → AreEmptied m (worker + 1) (set ends worker end) (set inboxes worker inbox)
emptied_set n m ends inboxes worker end inbox le before now w e i lt at_e at_i =
    both_set (IsEmptied m) ends inboxes worker w end e inbox i at_e at_i (λ same. now) (λ differs at_e' at_i'.
    let lower : w < worker = below differs in
    let b = before w e i lower at_e' at_i' in
    (b.0, drained_more i n m le b.1))
  where
    below : w ≢ worker → w < worker
    below differs = elim (cases_lt w worker) [
      | inl less ↦ less
      | inr more ↦ absurd (differs (omega (arith, more, lt)))
    ]

-- the end of a ring that there is
pub end_at : (ends : List LogEnd) (inboxes : List Inbox) (worker : ℕ) (end : LogEnd) → AreLinked ends inboxes → worker < length inboxes → slice_get ends worker ≡ Some (get_or ends worker end)
end_at ends inboxes worker end linked lt = let lt' : worker < length ends = let m = linked.many in omega (arith, lt, m) in slice_get-get_or ends worker end lt'

-- all of them
pub emptied_all : (noted count : ℕ) (ends : List LogEnd) (inboxes : List Inbox) → length ends ≤ count → AreEmptied noted count ends inboxes → AreEmptied noted (length ends) ends inboxes
emptied_all noted count ends inboxes le emptied w e i lt = emptied w e i (omega (arith, lt, le))

-- ---- ends stay linked

pair_stays : (end : LogEnd) (was inbox : Inbox) → IsEndOf end was → SameConsumer was.consumer inbox.consumer → IsEndOf end inbox
pair_stays end was inbox pair same = (same.0.0 ∙ pair.0, same.0.1 ∙ pair.1, same.0.2 ∙ pair.2, same.0.3 ∙ pair.3)

linked_merges : (ends : List LogEnd) (was inboxes : List Inbox) (entries : List Entry) → Merges was inboxes entries → AreLinked ends was → AreLinked ends inboxes
linked_merges ends was inboxes entries merges linked = record {
  many = linked.many ∙ sym merges.many;
  each = λ w e i at_e at_i.
      let lt : w < length was = let l = slice_get_within inboxes w i at_i in let m = merges.many in omega (arith, l, m) in
      let there = slice_get-get_or was w i lt in
      pair_stays e (get_or was w i) i (linked.each w e (get_or was w i) at_e there) (merges.each w (get_or was w i) i there at_i).takes.ring;
}

pub linked_merge : {tells : Type 0} {before now : Writer} {done : Bool} {was inboxes : List Inbox} → AppendsMerge tells before now done was inboxes → (ends : List LogEnd) → AreLinked ends was → AreLinked ends inboxes
linked_merge {was} {inboxes} merge ends linked = linked_merges ends was inboxes merge.entries merge.merges linked

linked_one : (ends : List LogEnd) (was inboxes : List Inbox) (worker : ℕ) (from inbox : Inbox) → slice_get was worker ≡ Some from → inboxes ≡ set was worker inbox → inbox.consumer ≡ from.consumer → AreLinked ends was → AreLinked ends inboxes
linked_one ends was inboxes worker from inbox there is same linked = record {
  many = linked.many ∙ sym (ap length is ∙ length-set was worker inbox);
  each = λ w e i at_e at_i. elim (get_set was worker w inbox i (ap (λ is'. slice_get is' w) (sym is) ∙ at_i)) [
    | inl h ↦ subst (IsEndOf e) (sym h.1) (pair_stays e from inbox (linked.each w e from at_e (ap (slice_get was) h.0 ∙ there)) (same_consumer from.consumer inbox.consumer same))
    | inr h ↦ linked.each w e i at_e h.1
  ];
}

pub linked_given : {tells : Type 0} {before now : Writer} {done : Bool} {was inboxes : List Inbox} {worker : ℕ} {bytes : List ℕ} → GivesTo tells before now done was inboxes worker bytes → (ends : List LogEnd) → AreLinked ends was → AreLinked ends inboxes
linked_given {was} {inboxes} {worker} gives ends linked = linked_one ends was inboxes worker gives.from gives.inbox gives.there gives.others_stay gives.given.ring linked
