-- Bytes are operations and a rest in one way only, so that what was appended is what was handed over.
use Rattle.std.proofs.Common.{◌≡◌, ◌⊎◌, inl, inr, true, ℕ, ◌<◌, List, [], ◌∷◌, ◌++◌, length, take, drop, refl, sym, ap, ◌∙◌, arith, length-append, append-nil, take-append-drop, Result, Ok, Err}
use Rattle.std.specs.Prelude.{OnOk, is_ok}
use Rattle.std.specs.List.{slice_get}
use Rattle.std.proofs.lemmas.List.{append_assoc, append_cancel_left, drop_all, nil_from_length}
use Rattle.pm_types.specs.declared.limits.TheConstants.{BATCH_LINES_MAX}
use Rattle.pm_logger.specs.Blocks.{joined}
use Rattle.pm_logger.specs.Inboxes.{kept, taken, waiting}
use Rattle.pm_logger.specs.Merges.{HandsOver}
use Rattle.pm_records.specs.Operations.{Operation, IsOperation, AreOperations, operation_head, operation_bytes, operations_bytes, records_bytes, BeginsWithNone, IsBad, IsBeginning}
use Rattle.pm_logger.specs.Rings.{IsEmptied, KeepsBeginning, KeepsNothing, GivesTo}
use Rattle.pm_logger.specs.Writers.{Writer}
use Rattle.pm_logger.specs.declared.inbox.Inbox.{Inbox}
use Rattle.pm_logger.specs.declared.log_end.LogEnd.{LogEnd}
use Rattle.pm_logger.proofs.Joining.{joined-append}
use Rattle.pm_logger.proofs.Merging.{get_set, some_same}
use Rattle.pm_logger.proofs.OperationBytes.{operation_longer, parts, same_records}
use Rattle.pm_logger.proofs.RecordBytes.{same_front}

-- bytes begin with one operation at most
pub one_operation : (o p : Operation) (r s : List ℕ) → IsOperation o → IsOperation p → operation_bytes o ++ r ≡ operation_bytes p ++ s → (o ≡ p) × (r ≡ s)
unfolding operation_bytes
one_operation o p r s is_o is_p e =
    let len = length (records_bytes p.records) in
    let split : operation_bytes p ++ s ≡ operation_head p.line len ++ (records_bytes p.records ++ s) = append_assoc (operation_head p.line len) (records_bytes p.records) s in
    let q = parts p.line len (operation_bytes p ++ s) (operation_head p.line len) (records_bytes p.records ++ s) split refl is_p.numbered (omega (arith, is_p.short)) o r is_o (sym e) in
    let fronts = same_front (records_bytes o.records) r (records_bytes p.records) s q.1 q.2 in
    let records = same_records o.records p.records is_o.records_are is_p.records_are fronts.0 in
    (λ i. record { line = q.0 i; records = records i }, fronts.1)

-- operations and a rest that begins with none
pub one_split : (xs ys : List Operation) (left tail : List ℕ) → AreOperations xs → AreOperations ys → BeginsWithNone left → BeginsWithNone tail → operations_bytes xs ++ left ≡ operations_bytes ys ++ tail → (xs ≡ ys) × (left ≡ tail)
one_split [] [] left tail a b none_left none_tail e = (refl, e)
one_split [] (y ∷ ys) left tail a b none_left none_tail e = absurd (none_left y (operations_bytes ys ++ tail) b.0 (e ∙ append_assoc (operation_bytes y) (operations_bytes ys) tail))
one_split (x ∷ xs) [] left tail a b none_left none_tail e = absurd (none_tail x (operations_bytes xs ++ left) a.0 (sym e ∙ append_assoc (operation_bytes x) (operations_bytes xs) left))
one_split (x ∷ xs) (y ∷ ys) left tail a b none_left none_tail e =
    let one = one_operation x y (operations_bytes xs ++ left) (operations_bytes ys ++ tail) a.0 b.0 (sym (append_assoc (operation_bytes x) (operations_bytes xs) left) ∙ e ∙ append_assoc (operation_bytes y) (operations_bytes ys) tail) in
    let rest = one_split xs ys left tail a.1 b.1 none_left none_tail one.1 in
    (λ i. one.0 i ∷ rest.0 i, rest.1)

-- the begin of an operation begins with none
pub beginning_none : (tail : List ℕ) → IsBeginning tail → BeginsWithNone tail
beginning_none tail is p rest is_p e =
    let o = is.0 in
    let more = is.1 in
    let all : operation_bytes o ++ [] ≡ operation_bytes p ++ (rest ++ more) = append-nil (operation_bytes o) ∙ is.4 ∙ ap (λ b. b ++ more) e ∙ append_assoc (operation_bytes p) rest more in
    let one = one_operation o p [] (rest ++ more) is.2 is_p all in
    omega (arith, is.3, ap length one.1, length-append rest more)

nothing_none : BeginsWithNone []
nothing_none p rest is_p e = omega (arith, ap length e, length-append (operation_bytes p) rest, operation_longer p)

-- what bad bytes and others after them begin with
bad_none : (bytes more : List ℕ) → IsBad bytes → BeginsWithNone (bytes ++ more)
bad_none bytes more bad = bad more

-- what was handed over is these operations and the begin of one more
pub keeps_beginning : (from inbox : Inbox) (end : LogEnd) (appended : List Operation) (noted : ℕ) → HandsOver from inbox appended → IsEmptied noted end inbox → noted < BATCH_LINES_MAX → KeepsBeginning end from inbox
keeps_beginning from inbox end appended noted hands emptied room left os tail was os_are is e =
    let all : taken from ++ left ≡ taken from ++ (hands.came ++ waiting inbox) =
    sym was ∙ sym emptied.0 ∙ ap (λ t. t ++ waiting inbox) hands.takes.taken_are ∙ append_assoc (taken from) hands.came (waiting inbox) in
    let left_is : left ≡ hands.came ++ waiting inbox = append_cancel_left (taken from) left (hands.came ++ waiting inbox) all in
    let bytes : operations_bytes appended ++ (kept inbox ++ joined (waiting inbox)) ≡ operations_bytes os ++ tail =
    sym (append_assoc (operations_bytes appended) (kept inbox) (joined (waiting inbox))) ∙ ap (λ b. b ++ joined (waiting inbox)) (sym hands.bytes_are)
    ∙ append_assoc (kept from) (joined hands.came) (joined (waiting inbox)) ∙ ap (λ b. kept from ++ b) (sym (joined-append hands.came (waiting inbox)) ∙ ap joined (sym left_is)) ∙ e in
    elim emptied.1 [
      | inl halted ↦ elim halted [
        | inl bad ↦
            let same = (one_split appended os (kept inbox ++ joined (waiting inbox)) tail hands.operations_are os_are (bad (joined (waiting inbox))) (beginning_none tail is) bytes).1 in
            absurd (bad (joined (waiting inbox) ++ is.1) is.0 [] is.2 (sym (append_assoc (kept inbox) (joined (waiting inbox)) is.1) ∙ ap (λ b. b ++ is.1) same ∙ sym is.4 ∙ sym (append-nil (operation_bytes is.0))))
        | inr full ↦ absurd (omega (arith, room, full))
      ]
      | inr empty ↦
          let none : kept inbox ++ joined (waiting inbox) ≡ kept inbox = ap (λ ws. kept inbox ++ joined ws) empty.0 ∙ append-nil (kept inbox) in
          (one_split appended os (kept inbox) tail hands.operations_are os_are empty.1 (beginning_none tail is) (ap (λ b. operations_bytes appended ++ b) (sym none) ∙ bytes)).1
    ]

-- what was given and what was kept are operations together
pub keeps_nothing : (before bytes left : List ℕ) (at : ℕ) (appended os : List Operation) → AreOperations appended → AreOperations os → before ++ take at bytes ≡ operations_bytes appended ++ left → before ++ bytes ≡ operations_bytes os
    → IsBad left ⊎ ((at ≡ length bytes) × BeginsWithNone left) → left ≡ []
keeps_nothing before bytes left at appended os a b e f all =
    let whole : operations_bytes appended ++ (left ++ drop at bytes) ≡ operations_bytes os ++ [] =
    sym (append_assoc (operations_bytes appended) left (drop at bytes)) ∙ ap (λ x. x ++ drop at bytes) (sym e) ∙ append_assoc before (take at bytes) (drop at bytes)
    ∙ ap (λ x. before ++ x) (take-append-drop at bytes) ∙ f ∙ sym (append-nil (operations_bytes os)) in
    let empty : left ++ drop at bytes ≡ [] = elim all [
      | inl bad ↦ (one_split appended os (left ++ drop at bytes) [] a b (bad (drop at bytes)) nothing_none whole).1
      | inr end ↦
          let over : drop at bytes ≡ [] = drop_all at bytes (let same = end.0 in omega (arith, same)) in
          let same : left ++ drop at bytes ≡ left = ap (λ x. left ++ x) over ∙ append-nil left in
          same ∙ (one_split appended os left [] a b end.1 nothing_none (ap (λ x. operations_bytes appended ++ x) (sym same) ∙ whole)).1
    ] in
    nil_from_length left (omega (arith, ap length empty, length-append left (drop at bytes)))

pub gives_nothing : {tells : Type 0} {before now : Writer} {was inboxes : List Inbox} {worker : ℕ} {bytes : List ℕ} → GivesTo tells before now true was inboxes worker bytes → length now.lines < BATCH_LINES_MAX
    → KeepsNothing was inboxes worker bytes
gives_nothing {tells} {before} {now} {was} {inboxes} {worker} {bytes} gives room from inbox os at_from at_inbox os_are e =
    let from_is : gives.from ≡ from = some_same gives.from from (sym gives.there ∙ at_from) in
    let front = gives.given.front in
    let all : IsBad (kept gives.inbox) ⊎ ((gives.at ≡ length bytes) × BeginsWithNone (kept gives.inbox)) = elim (gives.all refl) [
      | inl halted ↦ elim halted [
        | inl bad ↦ inl bad
        | inr full ↦ absurd (omega (arith, room, full))
      ]
      | inr end ↦ inr end
    ] in
    let none = keeps_nothing (kept gives.from) bytes (kept gives.inbox) gives.at front.appended os front.operations_are os_are front.bytes_are (ap (λ i. kept i ++ bytes) from_is ∙ e) all in
    elim (get_set was worker worker gives.inbox inbox (ap (λ is. slice_get is worker) (sym gives.others_stay) ∙ at_inbox)) [
      | inl h ↦ ap kept h.1 ∙ none
      | inr h ↦ absurd (h.0 refl)
    ]

pub gives_nothing_ok : {tells : Type 0} {before now : Writer} {was inboxes : List Inbox} {worker : ℕ} {bytes : List ℕ} {T E : Type 0} (result : Result T E) → GivesTo tells before now (is_ok result) was inboxes worker bytes
    → OnOk result (length now.lines < BATCH_LINES_MAX → KeepsNothing was inboxes worker bytes)
gives_nothing_ok (Ok x) gives = gives_nothing gives
gives_nothing_ok (Err e) gives = tt
