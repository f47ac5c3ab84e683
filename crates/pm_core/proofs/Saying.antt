-- What the marker files say is the checkpoint in force.
use Rattle.std.proofs.Common.{◌≡◌, inl, inr, ℕ, ◌≤◌, true, Bool, List, Option, Some, None, refl, sym, ap, subst, ◌∙◌, arith}
use Rattle.std.specs.Prelude.{if◌then◌else◌}
use Rattle.std.proofs.lemmas.Bool.{false≢true}
use Rattle.pm_types.specs.declared.shape.Mark.{Mark}
use Rattle.pm_records.proofs.Runs.{bool_cases, option_cases}
use Rattle.pm_marks.specs.Slots.{slot_of, slot_bytes, bytes_in_slot, mark_at}
use Rattle.pm_marks.specs.InForce.{Checkpoint, NoStart, Started, Ended, start_in, has_slot, checkpoint_of, checkpoint_in, number_in}
use Rattle.pm_marks.proofs.SlotMarks.{mark_in-some, mark_in-bytes, same_bytes, bytes_same}
use Rattle.pm_core.specs.Stands.{IsInForce, AreUpTo, MarksSay}
use Rattle.pm_core.proofs.InForce.{IsStart, highest_of}

-- a valid start marker has its end marker exactly where that is valid and the same
pub ended_there : (starts ends : List ℕ) (mark : Mark) → mark_at (slot_of mark.number) starts ≡ Some mark → has_slot ends mark ≡ true → mark_at (slot_of mark.number) ends ≡ Some mark
ended_there starts ends mark e has =
    let slot = slot_of mark.number in
    mark_in-bytes slot (bytes_in_slot slot ends) mark (mark_in-some slot (bytes_in_slot slot starts) mark e).0 refl (bytes_same (bytes_in_slot slot ends) (slot_bytes mark) has)

pub ended_has : (ends : List ℕ) (mark : Mark) → mark_at (slot_of mark.number) ends ≡ Some mark → has_slot ends mark ≡ true
ended_has ends mark is =
    let slot = slot_of mark.number in
    same_bytes (bytes_in_slot slot ends) (slot_bytes mark) (mark_in-some slot (bytes_in_slot slot ends) mark is).2

start_is : (starts : List ℕ) → IsStart starts (start_in starts)
start_is starts = highest_of starts (mark_at 0 starts) (mark_at 1 starts) refl refl

none_by : (starts : List ℕ) (found : Option Mark) → IsStart starts found → ((slot : ℕ) → mark_at slot starts ≡ None) → found ≡ None
none_by starts None is none = refl
none_by starts (Some mark) is none = let no : None ≡ Some mark = sym (none (slot_of mark.number)) ∙ is.valid in absurd cc

some_by : (starts : List ℕ) (mark : Mark) (found : Option Mark) → IsStart starts found → IsInForce mark starts → found ≡ Some mark
some_by starts mark None none is = let no : None ≡ Some mark = sym (none (slot_of mark.number)) ∙ is.there in absurd cc
some_by starts mark (Some other) high is =
    let le = is.highest (slot_of other.number) other high.valid in
    let ge = high.highest (slot_of mark.number) mark is.there in
    let same : other.number ≡ mark.number = omega (arith, le, ge) in
    sym (sym is.there ∙ ap (λ n. mark_at (slot_of n) starts) (sym same) ∙ high.valid)

-- what they say is in force
pub say_in_force : (checkpoint : Checkpoint) (starts ends : List ℕ) → MarksSay checkpoint starts ends → checkpoint_in starts ends ≡ checkpoint
say_in_force NoStart starts ends say = ap (λ o. checkpoint_of o ends) (none_by starts (start_in starts) (start_is starts) say.0)
say_in_force (Started mark) starts ends say =
    ap (λ o. checkpoint_of o ends) (some_by starts mark (start_in starts) (start_is starts) say.0)
    ∙ elim (bool_cases (has_slot ends mark)) [
      | inl has ↦ absurd (say.2 (ended_there starts ends mark say.0.there has))
      | inr not_yet ↦ ap (λ (b : Bool). let c : Checkpoint = if b then Ended mark else Started mark in c) not_yet
    ]
say_in_force (Ended mark) starts ends say =
    ap (λ o. checkpoint_of o ends) (some_by starts mark (start_in starts) (start_is starts) say.0)
    ∙ ap (λ (b : Bool). let c : Checkpoint = if b then Ended mark else Started mark in c) (ended_has ends mark say.2)

-- and what is in force they say, where no end marker is of a later checkpoint
said_by : (starts ends : List ℕ) (found : Option Mark) → IsStart starts found
    → ((slot : ℕ) (mark : Mark) → mark_at slot ends ≡ Some mark → mark.number ≤ number_in (checkpoint_of found ends)) → MarksSay (checkpoint_of found ends) starts ends
said_by starts ends None none below = (
  none,
  λ slot. elim (option_cases (mark_at slot ends)) [
    | inl nothing ↦ nothing
    | inr some ↦ let le = below slot some.0 some.1 in let fits = (mark_in-some slot (bytes_in_slot slot ends) some.0 some.1).0 in absurd (omega (arith, le, fits.numbered))
  ],
)
said_by starts ends (Some mark) high below = elim (bool_cases (has_slot ends mark)) [
  | inl has ↦
      let is : checkpoint_of (Some mark) ends ≡ Ended mark = ap (λ (b : Bool). let c : Checkpoint = if b then Ended mark else Started mark in c) has in
      let up : AreUpTo mark.number ends = λ slot other there. let le = below slot other there in let n = ap number_in is in omega (arith, le, n) in
      subst (λ c. MarksSay c starts ends) (sym is) (record { there = high.valid; highest = high.highest }, up, ended_there starts ends mark high.valid has)
  | inr not_yet ↦
      let is : checkpoint_of (Some mark) ends ≡ Started mark = ap (λ (b : Bool). let c : Checkpoint = if b then Ended mark else Started mark in c) not_yet in
      let up : AreUpTo mark.number ends = λ slot other there. let le = below slot other there in let n = ap number_in is in omega (arith, le, n) in
      subst (λ c. MarksSay c starts ends) (sym is) (record { there = high.valid; highest = high.highest }, up, λ there. false≢true (sym not_yet ∙ ended_has ends mark there))
]

pub in_force_said : (starts ends : List ℕ) → ((slot : ℕ) (mark : Mark) → mark_at slot ends ≡ Some mark → mark.number ≤ number_in (checkpoint_in starts ends))
    → MarksSay (checkpoint_in starts ends) starts ends
in_force_said starts ends below = said_by starts ends (start_in starts) (start_is starts) below
