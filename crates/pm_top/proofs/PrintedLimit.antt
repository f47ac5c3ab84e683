-- A limit is told after the replies to the first lines.
use Rattle.std.proofs.Common.{◌≡◌, ◌⊎◌, inl, inr, ℕ, ◌+◌, List, [], ◌++◌, length, take, drop, refl, ap, sym, ◌∙◌, subst, append-nil, append_assoc, arith}
use Rattle.std.specs.Prelude.{codes}
use Rattle.std.proofs.lemmas.List.{drop_at, take_at, take-append-drop, length-take}
use Rattle.std.proofs.Math.Seq.{take-append-add}
use Rattle.pm_types.specs.declared.shape.Shape.{Shape}
use Rattle.pm_disk.specs.Worlds.{World, with_said}
use Rattle.pm_disk.specs.Moments.{History, IsHistory, AllMoments}
use Rattle.pm_disk.proofs.Chain.{weaker, joined, at_last}
use Rattle.pm_model.specs.declared.line.Line.{Line}
use Rattle.pm_model.specs.Eval.{Pairs, replies_to, after_all, accepted}
use Rattle.pm_model.proofs.Runs.{replies_to-append, length-replies_to, accepted-append}
use Rattle.pm_script.specs.Texts.{texts_of}
use Rattle.pm_top.specs.ScriptOrder.{CrashHoldsAcknowledged, acknowledged_count}
use Rattle.pm_top.specs.Crashes.{begun}
use Rattle.pm_top.specs.declared.status.Status.{Status}
use Rattle.pm_top.specs.declared.status.Status.TheVariants.{Failed, Long}
use Rattle.pm_top.specs.Promises.{HasAnswered, SaysPart, replies_of}
use Rattle.pm_top.specs.ScriptOrder.{HasFailed, IsStopped, OutcomeIs}
use Rattle.pm_top.specs.Served.{script_of}
use Rattle.pm_top.proofs.Orders.{begun-texts, begun_nothing, take_none, none_acknowledged, none_with_l}

-- more is said after the replies
more_said : (old mid new : World) (shape : Shape) (pairs : Pairs) (lines : ℕ) (tail : List ℕ) → HasAnswered old mid shape pairs lines [] → new.said ≡ mid.said ++ tail → HasAnswered old new shape pairs lines tail
more_said old mid new shape pairs lines tail answers is = record {
  within = answers.within;
  said = is ∙ ap (λ s. s ++ tail) (answers.said ∙ append-nil (old.said ++ texts_of (take lines (replies_of shape old.input pairs))));
}

pub told : (old mid new : World) (shape : Shape) (pairs : Pairs) (lines : ℕ) (order : List ℕ) → IsStopped old mid shape pairs lines order [] → new ≡ with_said (codes "fault long\n") mid
    → IsStopped old new shape pairs lines order (codes "fault long\n")
told old mid new shape pairs lines order stopped is = record {
  answers = more_said old mid new shape pairs lines (codes "fault long\n") stopped.answers (ap (λ (w : World). w.said) is);
  order_is = stopped.order_is;
  passes = stopped.passes;
  within = stopped.within;
}

pub told_part : (old mid new : World) (shape : Shape) (pairs : Pairs) (lines : ℕ) (order : List ℕ) → IsStopped old mid shape pairs lines order [] → SaysPart (codes "fault long\n") mid new
    → HasFailed old new shape pairs lines order
told_part old mid new shape pairs lines order stopped part = record {
  tail = take part.0 (codes "fault long\n");
  answers = more_said old mid new shape pairs lines (take part.0 (codes "fault long\n")) stopped.answers (ap (λ (w : World). w.said) part.1);
  prefix = (part.0, inr refl);
  tried = record { many = lines; from = omega arith; to = omega arith; within = stopped.answers.within; order_is = stopped.order_is };
}

-- the lines that are acknowledged, where something stands after the replies to the first ones
acknowledged_told : (shape : Shape) (first others : List Line) (pairs : Pairs) (tail : List ℕ)
    → accepted shape (1 + length first) (take (begun (replies_to shape others (after_all shape first pairs)) tail) others) (after_all shape first pairs) ≡ []
    → accepted shape 1 (take (begun (replies_to shape (first ++ others) pairs) (texts_of (replies_to shape first pairs) ++ tail)) (first ++ others)) pairs ≡ accepted shape 1 first pairs
acknowledged_told shape first others pairs tail none =
    let map = after_all shape first pairs in
    let many = begun (replies_to shape others map) tail in
    let count : begun (replies_to shape (first ++ others) pairs) (texts_of (replies_to shape first pairs) ++ tail) ≡ length first + many =
    ap (λ r. begun r (texts_of (replies_to shape first pairs) ++ tail)) (replies_to-append shape first others pairs)
    ∙ begun-texts (replies_to shape first pairs) (replies_to shape others map) tail
    ∙ ap (λ n. n + many) (length-replies_to shape first pairs) in
    ap (λ n. accepted shape 1 (take n (first ++ others)) pairs) count
    ∙ ap (λ ls. accepted shape 1 ls pairs) (take-append-add first others many)
    ∙ accepted-append shape 1 first (take many others) pairs
    ∙ ap (λ o. accepted shape 1 first pairs ++ o) none
    ∙ append-nil (accepted shape 1 first pairs)

module _ (old w : World) (shape : Shape) (pairs : Pairs) (lines : ℕ) (tail : List ℕ) (answers : HasAnswered old w shape pairs lines tail) where
  abbrev first : List Line
  first = take lines (script_of old.input)

  abbrev others : List Line
  others = drop lines (script_of old.input)

  parts : first ++ others ≡ script_of old.input
  parts = take-append-drop lines (script_of old.input)

  replies_are : take lines (replies_of shape old.input pairs) ≡ replies_to shape first pairs
  replies_are =
      let count : length (replies_to shape first pairs) ≡ lines = length-replies_to shape first pairs ∙ omega (arith, length-take lines (script_of old.input), answers.within) in
      ap (λ s. take lines (replies_to shape s pairs)) (sym parts)
      ∙ ap (take lines) (replies_to-append shape first others pairs)
      ∙ take_at (replies_to shape first pairs) (replies_to shape others (after_all shape first pairs)) lines count

  acknowledged_is : accepted shape (1 + length first) (take (begun (replies_to shape others (after_all shape first pairs)) tail) others) (after_all shape first pairs) ≡ []
      → acknowledged_count old shape pairs w ≡ length (accepted shape 1 first pairs)
  acknowledged_is none =
      let texts = texts_of (take lines (replies_of shape old.input pairs)) in
      let after_text : drop (length old.said) w.said ≡ texts_of (replies_to shape first pairs) ++ tail =
      ap (drop (length old.said)) (answers.said ∙ append_assoc old.said texts tail) ∙ drop_at old.said (texts ++ tail) (length old.said) refl
      ∙ ap (λ r. texts_of r ++ tail) replies_are in
      ap (λ b. length (accepted shape 1 (take (begun (replies_of shape old.input pairs) b) (script_of old.input)) pairs)) after_text
      ∙ ap (λ s. length (accepted shape 1 (take (begun (replies_to shape s pairs) (texts_of (replies_to shape first pairs) ++ tail)) s) pairs)) (sym parts)
      ∙ ap length (acknowledged_told shape first others pairs tail none)

-- what a crash leaves while a limit is told
told_keeps : (wanted : Shape) (last number : ℕ) (old mid : World) (shape : Shape) (pairs : Pairs) (lines : ℕ) (order : List ℕ) (w : World) → HasAnswered old mid shape pairs lines [] → SaysPart (codes "fault long\n") mid w
    → CrashHoldsAcknowledged wanted last number old shape pairs order mid → CrashHoldsAcknowledged wanted last number old shape pairs order w
told_keeps wanted last number old mid shape pairs lines order w answers part keeps =
    let tail = take part.0 (codes "fault long\n") in
    let now : World = with_said tail mid in
    let head = take lines (script_of old.input) in
    let more = drop lines (script_of old.input) in
    let map = after_all shape head pairs in
    let before = acknowledged_is old mid shape pairs lines [] answers
    (ap (λ n. accepted shape (1 + length head) (take n more) map) (begun_nothing (replies_to shape more map)) ∙ ap (λ ls. accepted shape (1 + length head) ls map) (take_none more)) in
    let after_text = acknowledged_is old now shape pairs lines tail (more_said old mid now shape pairs lines tail answers refl)
    (none_acknowledged shape (1 + length head) more map part.0 108 (codes "ong\n") none_with_l) in
    let same : acknowledged_count old shape pairs now ≡ acknowledged_count old shape pairs mid = after_text ∙ sym before in
    subst (λ v. CrashHoldsAcknowledged wanted last number old shape pairs order v) (sym part.1) (λ image leaves honest.
    let h = keeps image (record { log = leaves.log; pages = leaves.pages; starts = leaves.starts; ends = leaves.ends })
    (record { frames = honest.frames; starts = honest.starts; ends = honest.ends }) in
    record { count = h.count; fits = h.fits; has = omega (arith, h.has, same); holds = h.holds })

-- the moments of a run that tells a limit
pub limit_moments : (wanted : Shape) (last number : ℕ) (old mid new : History) (start : World) (shape : Shape) (pairs : Pairs) (lines : ℕ) (order : List ℕ) → IsHistory mid → IsStopped start mid.world shape pairs lines order []
    → AllMoments old mid (CrashHoldsAcknowledged wanted last number start shape pairs order) → AllMoments mid new (SaysPart (codes "fault long\n") mid.world) → AllMoments old new (CrashHoldsAcknowledged wanted last number start shape pairs order)
limit_moments wanted last number old mid new start shape pairs lines order sound stopped first second =
    let P : World → Type 0 = CrashHoldsAcknowledged wanted last number start shape pairs order in
    let here = at_last old mid P sound first in
    joined old mid new P first
    (weaker mid new (SaysPart (codes "fault long\n") mid.world) P (λ w part. told_keeps wanted last number start mid.world shape pairs lines order w stopped.answers part here) second)

-- a limit was told, or the call that tells it failed
pub ends_long : (status : Status) (start mid new : World) (shape : Shape) (pairs : Pairs) (lines : ℕ) (order : List ℕ) → IsStopped start mid shape pairs lines order [] → (status ≡ Long → new ≡ with_said (codes "fault long\n") mid)
    → (status ≡ Failed → SaysPart (codes "fault long\n") mid new) → (status ≡ Long) ⊎ (status ≡ Failed) → OutcomeIs status start new shape pairs lines order
ends_long status start mid new shape pairs lines order stopped long part cases = elim cases [
  | inl is ↦ subst (λ s. OutcomeIs s start new shape pairs lines order) (sym is) (told start mid new shape pairs lines order stopped (long is))
  | inr is ↦ subst (λ s. OutcomeIs s start new shape pairs lines order) (sym is) (told_part start mid new shape pairs lines order stopped (part is))
]
