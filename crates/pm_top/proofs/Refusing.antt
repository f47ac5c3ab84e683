-- Runs that answer no line, and what follows of a run whose first calls changed nothing.
use Rattle.std.proofs.Common.{◌≡◌, ◌⊎◌, inl, inr, ℕ, List, [], ◌++◌, take, Some, None, refl, sym, ap, ◌∙◌, subst, append-nil, arith}
use Rattle.pm_types.specs.declared.fault.Field.{Field}
use Rattle.pm_types.specs.declared.shape.Shape.{Shape}
use Rattle.pm_disk.specs.Worlds.{World, with_said}
use Rattle.pm_disk.specs.Moments.{History, AllMoments}
use Rattle.pm_disk.proofs.Chain.{joined, weaker}
use Rattle.pm_model.specs.declared.line.Line.{Line}
use Rattle.pm_model.specs.Eval.{Pairs, accepted}
use Rattle.pm_script.specs.Texts.{texts_of}
use Rattle.pm_core.specs.Calls.{ChangesDisk}
use Rattle.pm_redo.specs.Rebuilding.{IsSame}
use Rattle.pm_engine.specs.RunningLines.{SameDisk}
use Rattle.pm_top.specs.Configurations.{config_fault, fault_config, wanted_in}
use Rattle.pm_top.specs.declared.status.Status.{Status}
use Rattle.pm_top.specs.declared.status.Status.TheVariants.{Done, Misconfigured, Failed, Memory, Damaged, Long}
use Rattle.pm_top.specs.Promises.{CanOpen, HasAnswered, replies_of, IsDamaged, IsLeft, IsMisconfigured, IsStart, NamesBadOpening, OutcomeIs, RunHolds, SaysPart, last_after, number_after}
use Rattle.pm_top.specs.ScriptOrder as one
use Rattle.pm_top.specs.Served.{script_of}
use Rattle.pm_top.specs.Statuses.{code_of}
use Rattle.pm_top.specs.StoreChecks.{SaysLine}
use Rattle.pm_top.proofs.Ordered.{outcome_is}
use Rattle.pm_top.proofs.Orders.{take_none}

-- no line was answered
abbrev pub AnswersNone : Status → Type 0
AnswersNone status = (status ≡ Misconfigured) ⊎ (status ≡ Failed) ⊎ (status ≡ Memory)

none_is : (status : Status) (P : Status → Type 0) → AnswersNone status → P Misconfigured → P Failed → P Memory → P status
none_is status P cases a b c = elim cases [ inl is ↦ subst P (sym is) a | inr more ↦ elim more [ inl is ↦ subst P (sym is) b | inr is ↦ subst P (sym is) c ] ]

-- such a status is none of the others
isnt : (status other : Status) → AnswersNone status → status ≡ other → (code_of other ≡ 2 → ⊥) → (code_of other ≡ 3 → ⊥) → (code_of other ≡ 4 → ⊥) → ⊥
isnt status other cases is a b c = none_is status (λ s. s ≡ other → ⊥) cases (λ e. a (sym (ap code_of e))) (λ e. b (sym (ap code_of e))) (λ e. c (sym (ap code_of e))) is

-- ---- a run that ends before it answers a line

-- nothing was said
none_answered : (old new : World) (shape : Shape) (pairs : Pairs) → new.said ≡ old.said → HasAnswered old new shape pairs 0 []
none_answered old new shape pairs same =
    let replies = replies_of shape old.input pairs in
    record {
      within = omega arith;
      said = same ∙ sym (append-nil (old.said ++ texts_of (take 0 replies)) ∙ ap (λ rs. old.said ++ texts_of rs) (take_none replies) ∙ append-nil old.said);
    }

none_tried : (old : World) (shape : Shape) (pairs : Pairs) → one.HasTried shape old.input pairs 0 []
none_tried old shape pairs = record { many = 0; from = omega arith; to = omega arith; within = omega arith; order_is = ap (λ ls. accepted shape 1 ls pairs) (sym (take_none (script_of old.input))) }

-- a call failed, or memory ran out
pub none_done : (status : Status) (old new : World) (shape : Shape) (pairs : Pairs) (lines : ℕ) (order : List ℕ) → (status ≡ Failed) ⊎ (status ≡ Memory) → new.said ≡ old.said → lines ≡ 0 → order ≡ [] → OutcomeIs status old new shape pairs lines order
none_done status old new shape pairs lines order cases same none no_order =
    subst (λ (x : ℕ × List ℕ). OutcomeIs status old new shape pairs x.0 x.1) (λ i. (sym none i, sym no_order i))
    (outcome_is status old new shape pairs 0 [] (elim cases [
      | inl is ↦ subst (λ s. one.OutcomeIs s old new shape pairs 0 []) (sym is) (record { tail = []; answers = none_answered old new shape pairs same; tried = none_tried old shape pairs; prefix = (0, inl refl) })
      | inr is ↦ subst (λ s. one.OutcomeIs s old new shape pairs 0 []) (sym is) (record { answers = none_answered old new shape pairs same; tried = none_tried old shape pairs })
    ]))

-- what such a run promises
pub none_run : (old new : History) (status : Status) (lines : ℕ) (order : List ℕ) → AnswersNone status → (status ≡ Misconfigured → IsMisconfigured old.world new.world lines order)
    → ((shape : Shape) (pairs : Pairs) → CanOpen old.world shape pairs → OutcomeIs status old.world new.world shape pairs lines order)
    → ((field : Field) → config_fault old.world ≡ Some field → AllMoments old new (SameDisk old.world)) → RunHolds old new status lines order
none_run old new status lines order cases refused outcome untouched = record {
  outcome = outcome;
  configured = λ answered. absurd (elim answered [
    | inl is ↦ isnt status Done cases is (λ e. omega (arith, e)) (λ e. omega (arith, e)) (λ e. omega (arith, e))
    | inr is ↦ isnt status Long cases is (λ e. omega (arith, e)) (λ e. omega (arith, e)) (λ e. omega (arith, e))
  ]);
  untouched = untouched;
  leaves = λ is. absurd (isnt status Done cases is (λ e. omega (arith, e)) (λ e. omega (arith, e)) (λ e. omega (arith, e)));
  misconfigured = refused;
  damaged = λ is. absurd (isnt status Damaged cases is (λ e. omega (arith, e)) (λ e. omega (arith, e)) (λ e. omega (arith, e)));
}

-- a call failed, or memory ran out, before anything was said
pub idle_run : (old new : History) (status : Status) (lines : ℕ) (order : List ℕ) → (status ≡ Failed) ⊎ (status ≡ Memory) → new.world.said ≡ old.world.said → lines ≡ 0 → order ≡ []
    → ((field : Field) → config_fault old.world ≡ Some field → AllMoments old new (SameDisk old.world)) → RunHolds old new status lines order
idle_run old new status lines order cases same none no_order untouched =
    none_run old new status lines order (inr cases)
    (λ is. absurd (elim cases [
      | inl e ↦ (let clash : 2 ≡ 3 = ap code_of (sym is ∙ e) in omega (arith, clash))
      | inr e ↦ (let clash : 2 ≡ 4 = ap code_of (sym is ∙ e) in omega (arith, clash))
    ]))
    (λ shape pairs can. none_done status old.world new.world shape pairs lines order cases same none no_order) untouched

-- a fault is told, and nothing else happens
pub said_disk : (old new : History) (text : List ℕ) → AllMoments old new (SaysPart text old.world) → AllMoments old new (SameDisk old.world)
said_disk old new text all =
    weaker old new (SaysPart text old.world) (SameDisk old.world) (λ w part. subst (SameDisk old.world) (sym part.1) (record { log = refl; pages = refl; starts = refl; ends = refl })) all

pub same_disk : (old new : History) → AllMoments old new (IsSame old.world) → AllMoments old new (SameDisk old.world)
same_disk old new all =
    weaker old new (IsSame old.world) (SameDisk old.world) (λ w is. subst (SameDisk old.world) (sym is) (record { log = refl; pages = refl; starts = refl; ends = refl })) all

-- a field of the configuration is refused
pub field_refused_run : (old new : History) (status : Status) (lines : ℕ) (order : List ℕ) (field : Field) → config_fault old.world ≡ Some field → AnswersNone status → (status ≡ Misconfigured → new.world ≡ with_said (fault_config field) old.world)
    → AllMoments old new (SaysPart (fault_config field) old.world) → lines ≡ 0 → order ≡ [] → RunHolds old new status lines order
field_refused_run old new status lines order field is cases said all none no_order =
    none_run old new status lines order cases
    (λ told. record { field = field; refused = is; says = record { now = said told; none = none; order_is = no_order } })
    (λ shape pairs can. absurd (let both : Some field ≡ None = sym is ∙ can.configured in cc))
    (λ _ _. said_disk old new (fault_config field) all)

-- what was found in the opening was named
pub damaged_opening : (script : List Line) (old mid new : History) (lines : ℕ) (order : List ℕ) → config_fault old.world ≡ None → ((shape : Shape) (pairs : Pairs) → IsStart (wanted_in old.world) old.world shape pairs → ⊥) → ChangesDisk old.world mid.world
    → SaysLine (NamesBadOpening old.world mid.world) mid.world new.world → lines ≡ 0 → order ≡ [] → IsDamaged script old.world new.world lines order
damaged_opening script old mid new lines order alike unsound restored line none no_order = record {
  configured = alike;
  unsound = unsound;
  left = mid.world;
  text = line.0;
  bad = inl (record { restored = restored; names = line.1; none = none; order_is = no_order });
  says = line.2;
}

-- a record or a page is bad
pub damaged_run : (old mid new : History) (status : Status) (lines : ℕ) (order : List ℕ) → config_fault old.world ≡ None → ((shape : Shape) (pairs : Pairs) → IsStart (wanted_in old.world) old.world shape pairs → ⊥) → ChangesDisk old.world mid.world
    → (status ≡ Damaged) ⊎ (status ≡ Failed) ⊎ (status ≡ Memory) → (status ≡ Damaged → SaysLine (NamesBadOpening old.world mid.world) mid.world new.world) → lines ≡ 0 → order ≡ [] → RunHolds old new status lines order
damaged_run old mid new status lines order alike unsound restored cases named none no_order =
    let was : (P : Status → Type 0) → P Damaged → P Failed → P Memory → P status = λ P a b c.
    elim cases [ inl is ↦ subst P (sym is) a | inr more ↦ elim more [ inl is ↦ subst P (sym is) b | inr is ↦ subst P (sym is) c ] ] in
    record {
      outcome = λ shape pairs can. absurd (unsound shape pairs can.start);
      configured = λ answered. absurd (elim answered [
        | inl is ↦ was (λ s. s ≡ Done → ⊥) (λ e. (let clash : 5 ≡ 0 = ap code_of e in omega (arith, clash))) (λ e. (let clash : 3 ≡ 0 = ap code_of e in omega (arith, clash))) (λ e. (let clash : 4 ≡ 0 = ap code_of e in omega (arith, clash))) is
        | inr is ↦ was (λ s. s ≡ Long → ⊥) (λ e. (let clash : 5 ≡ 6 = ap code_of e in omega (arith, clash))) (λ e. (let clash : 3 ≡ 6 = ap code_of e in omega (arith, clash))) (λ e. (let clash : 4 ≡ 6 = ap code_of e in omega (arith, clash))) is
      ]);
      untouched = λ field differs. absurd (let both : Some field ≡ None = sym differs ∙ alike in cc);
      leaves = λ is shape pairs start. absurd (unsound shape pairs start);
      misconfigured = λ is. absurd (was (λ s. s ≡ Misconfigured → ⊥) (λ e. (let clash : 5 ≡ 2 = ap code_of e in omega (arith, clash))) (λ e. (let clash : 3 ≡ 2 = ap code_of e in omega (arith, clash))) (λ e. (let clash : 4 ≡ 2 = ap code_of e in omega (arith, clash))) is);
      damaged = λ is. damaged_opening (script_of old.world.input) old mid new lines order alike unsound restored (named is) none no_order;
    }

-- ---- calls that come after ones that changed nothing

pub run_from : (old mid new : History) (status : Status) (lines : ℕ) (order : List ℕ) → AllMoments old mid (IsSame old.world) → mid.world ≡ old.world → RunHolds mid new status lines order → RunHolds old new status lines order
run_from old mid new status lines order first same run = record {
  outcome = subst (λ (w : World). (shape : Shape) (pairs : Pairs) → CanOpen w shape pairs → OutcomeIs status w new.world shape pairs lines order) same run.outcome;
  configured = λ answered. subst (λ (w : World). config_fault w ≡ None) same (run.configured answered);
  untouched = λ field refused.
      joined old mid new (SameDisk old.world) (same_disk old mid first)
      (subst (λ (w : World). (f : Field) → config_fault w ≡ Some f → AllMoments mid new (SameDisk w)) same run.untouched field refused);
  leaves = subst (λ (w : World). status ≡ Done → (shape : Shape) (pairs : Pairs) (start : IsStart (wanted_in w) w shape pairs) → IsLeft (wanted_in w) (last_after start) (number_after start) w new.world shape pairs) same run.leaves;
  misconfigured = λ is. subst (λ (w : World). IsMisconfigured w new.world lines order) same (run.misconfigured is);
  damaged = λ is. subst (λ (w : World). IsDamaged (script_of w.input) w new.world lines order) same (run.damaged is);
}
