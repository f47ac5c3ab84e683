-- Runs over drawn lines that run none, and what follows of a run whose first calls changed nothing.
use Rattle.std.proofs.Common.{◌≡◌, ◌⊎◌, inl, inr, ℕ, ◌+◌, List, [], take, Some, None, refl, sym, ap, ◌∙◌, subst, append-nil, arith}
use Rattle.pm_types.specs.declared.fault.Field.{Field}
use Rattle.pm_types.specs.declared.shape.Shape.{Shape}
use Rattle.pm_disk.specs.Moments.{History, AllMoments}
use Rattle.pm_disk.specs.States.{DeviceState, Rose}
use Rattle.pm_disk.specs.Worlds.{World, with_said}
use Rattle.pm_disk.proofs.Chain.{joined, weaker}
use Rattle.pm_model.specs.declared.line.Line.{Line}
use Rattle.pm_model.specs.Eval.{Pairs, accepted}
use Rattle.pm_model.specs.Orders.{HasTried}
use Rattle.pm_model.proofs.OrderLaws.{script_tried}
use Rattle.pm_types.specs.declared.limits.TheConstants.{BATCH_LINES_MAX}
use Rattle.pm_core.specs.Calls.{ChangesDisk}
use Rattle.pm_redo.specs.Rebuilding.{IsSame}
use Rattle.pm_engine.specs.Replays.{CrashHoldsMap}
use Rattle.pm_engine.specs.RunningLines.{SameDisk}
use Rattle.pm_top.specs.Configurations.{config_fault, fault_config, wanted_in}
use Rattle.pm_top.specs.Crashes.{opened_number, opened_to}
use Rattle.pm_top.specs.DrawnRuns.{CrashHoldsDrawn, DrawnIsCutShort, DrawnIsLeft, DrawnOutcomeIs, GenCompletes, GenHolds, GenIsSafe, summary_of}
use Rattle.pm_top.specs.declared.status.Status.{Status}
use Rattle.pm_top.specs.declared.status.Status.TheVariants.{Done, Usage, Misconfigured, Failed, Memory, Damaged, Long}
use Rattle.pm_top.specs.Promises.{CanOpen, IsDamaged, IsMisconfigured, IsStart, NamesBadOpening, RunHolds, SaysPart, last_after, number_after}
use Rattle.pm_top.specs.StoreChecks.{SaysLine}
use Rattle.pm_top.proofs.AnsweredLines.{both}
use Rattle.pm_top.proofs.DrawnOutcomes.{idle_drawn, says_fault, says_none, three_arent, two_arent}
use Rattle.pm_top.proofs.Lasting.{keeps_said}
use Rattle.pm_top.proofs.Opened.{map_keeps, rest_keeps}
use Rattle.pm_top.proofs.Orders.{fault_line, take_none}
use Rattle.pm_top.proofs.Refusing.{AnswersNone, damaged_opening, damaged_run, field_refused_run, idle_run, same_disk}

-- ---- a run that ends before it runs a line

-- one over a script that says the same of it
none_run_drawn : (script : List Line) (old new : History) (status : Status) (lines : ℕ) (order : List ℕ) → RunHolds old new status lines order → (status ≡ Done → ⊥) → (status ≡ Long → ⊥)
    → (status ≡ Damaged → IsDamaged script old.world new.world lines order) → ((shape : Shape) (pairs : Pairs) → CanOpen old.world shape pairs → DrawnOutcomeIs script status old.world new.world shape pairs lines order) → GenHolds script old new status lines order
none_run_drawn script old new status lines order run isnt short damaged outcome = record {
  outcome = outcome;
  configured = λ is. absurd (isnt is);
  untouched = run.untouched;
  leaves = λ is. absurd (isnt is);
  misconfigured = run.misconfigured;
  damaged = damaged;
  within = short;
}

-- no line was run, and nothing was said
none_cut : (script : List Line) (old new : World) (shape : Shape) (pairs : Pairs) (lines : ℕ) (order : List ℕ) → new.said ≡ old.said → new.input ≡ old.input → lines ≡ 0 → order ≡ []
    → DrawnIsCutShort script old new shape pairs lines order []
none_cut script old new shape pairs lines order same unread none no_order = record {
  said = same ∙ sym (append-nil old.said);
  unread = unread;
  none = none;
  many = 0;
  within = omega arith;
  order_is = subst (λ (ns : List ℕ). HasTried shape 1 script pairs 0 BATCH_LINES_MAX ns) (ap (λ ls. accepted shape 1 ls pairs) (take_none script) ∙ sym no_order) (script_tried shape 1 script pairs 0 BATCH_LINES_MAX 0 (omega arith) (omega arith));
  whole = λ some. absurd (omega (arith, some));
}

-- a call failed, or memory ran out, before anything was said
pub idle_gen : (script : List Line) (old new : History) (status : Status) (lines : ℕ) (order : List ℕ) → (status ≡ Failed) ⊎ (status ≡ Memory) → new.world.said ≡ old.world.said → new.world.input ≡ old.world.input → lines ≡ 0 → order ≡ []
    → ((field : Field) → config_fault old.world ≡ Some field → AllMoments old new (SameDisk old.world)) → GenHolds script old new status lines order
idle_gen script old new status lines order cases same unread none no_order untouched =
    none_run_drawn script old new status lines order (idle_run old new status lines order cases same none no_order untouched)
    (two_arent status Done 0 cases refl (λ e. omega (arith, e)) (λ e. omega (arith, e))) (two_arent status Long 6 cases refl (λ e. omega (arith, e)) (λ e. omega (arith, e)))
    (λ is. absurd (two_arent status Damaged 5 cases refl (λ e. omega (arith, e)) (λ e. omega (arith, e)) is))
    (λ shape pairs can.
    let cut = none_cut script old.world new.world shape pairs lines order same unread none no_order in
    elim cases [
      | inl is ↦ subst (λ s. DrawnOutcomeIs script s old.world new.world shape pairs lines order) (sym is) (record { count = 0; cut = subst (DrawnIsCutShort script old.world new.world shape pairs lines order) (sym (take_none (summary_of script shape pairs))) cut })
      | inr is ↦ subst (λ s. DrawnOutcomeIs script s old.world new.world shape pairs lines order) (sym is) cut
    ])

-- a field of the configuration is refused
pub field_refused_gen : (script : List Line) (old new : History) (status : Status) (lines : ℕ) (order : List ℕ) (field : Field) → config_fault old.world ≡ Some field → AnswersNone status → (status ≡ Misconfigured → new.world ≡ with_said (fault_config field) old.world)
    → AllMoments old new (SaysPart (fault_config field) old.world) → lines ≡ 0 → order ≡ [] → GenHolds script old new status lines order
field_refused_gen script old new status lines order field is cases said all none no_order =
    none_run_drawn script old new status lines order (field_refused_run old new status lines order field is cases said all none no_order)
    (three_arent status Misconfigured Done 2 0 cases refl refl (λ e. omega (arith, e)) (λ e. omega (arith, e)) (λ e. omega (arith, e))) (three_arent status Misconfigured Long 2 6 cases refl refl (λ e. omega (arith, e)) (λ e. omega (arith, e)) (λ e. omega (arith, e)))
    (λ it. absurd (three_arent status Misconfigured Damaged 2 5 cases refl refl (λ e. omega (arith, e)) (λ e. omega (arith, e)) (λ e. omega (arith, e)) it))
    (λ shape pairs can. absurd (let both : Some field ≡ None = sym is ∙ can.configured in cc))

-- a record or a page is bad
pub damaged_gen : (script : List Line) (old mid new : History) (status : Status) (lines : ℕ) (order : List ℕ) → config_fault old.world ≡ None → ((shape : Shape) (pairs : Pairs) → IsStart (wanted_in old.world) old.world shape pairs → ⊥)
    → ChangesDisk old.world mid.world → (status ≡ Damaged) ⊎ (status ≡ Failed) ⊎ (status ≡ Memory) → (status ≡ Damaged → SaysLine (NamesBadOpening old.world mid.world) mid.world new.world) → lines ≡ 0 → order ≡ []
    → GenHolds script old new status lines order
damaged_gen script old mid new status lines order alike unsound restored cases named none no_order =
    none_run_drawn script old new status lines order (damaged_run old mid new status lines order alike unsound restored cases named none no_order)
    (three_arent status Damaged Done 5 0 cases refl refl (λ e. omega (arith, e)) (λ e. omega (arith, e)) (λ e. omega (arith, e))) (three_arent status Damaged Long 5 6 cases refl refl (λ e. omega (arith, e)) (λ e. omega (arith, e)) (λ e. omega (arith, e)))
    (λ is. damaged_opening script old mid new lines order alike unsound restored (named is) none no_order)
    (λ shape pairs can. absurd (unsound shape pairs can.start))

-- ---- calls that come after ones that changed nothing

pub gen_from : (script : List Line) (old mid new : History) (status : Status) (lines : ℕ) (order : List ℕ) → AllMoments old mid (IsSame old.world) → mid.world ≡ old.world → GenHolds script mid new status lines order → GenHolds script old new status lines order
gen_from script old mid new status lines order first same run = record {
  outcome = subst (λ (w : World). (shape : Shape) (pairs : Pairs) → CanOpen w shape pairs → DrawnOutcomeIs script status w new.world shape pairs lines order) same run.outcome;
  configured = λ is. ap config_fault (sym same) ∙ run.configured is;
  untouched = λ field refused.
      joined old mid new (SameDisk old.world) (same_disk old mid first)
      (subst (λ (w : World). (f : Field) → config_fault w ≡ Some f → AllMoments mid new (SameDisk w)) same run.untouched field refused);
  leaves = subst (λ (w : World). status ≡ Done → (shape : Shape) (pairs : Pairs) (start : IsStart (wanted_in w) w shape pairs) → DrawnIsLeft (wanted_in w) (last_after start) (number_after start) script new.world shape pairs) same run.leaves;
  misconfigured = λ is. subst (λ (w : World). IsMisconfigured w new.world lines order) same (run.misconfigured is);
  damaged = λ is. subst (λ (w : World). IsDamaged script w new.world lines order) same (run.damaged is);
  within = run.within;
}

-- ---- what a crash leaves before a store is opened, and meanwhile

pub kept_gen : (script : List Line) (old mid : History) (order : List ℕ) → AllMoments old mid (IsSame old.world) → GenIsSafe script old mid order
kept_gen script old mid order same shape pairs start =
    let wanted = wanted_in old.world in
    let last : ℕ = last_after start in
    let number : ℕ = number_after start in
    weaker old mid (IsSame old.world) (CrashHoldsDrawn wanted last number script old.world shape pairs order)
    (λ w is. subst (CrashHoldsDrawn wanted last number script old.world shape pairs order) (sym is)
    (idle_drawn wanted last number script old.world shape pairs old.world order (says_none old.world old.world refl) (rest_keeps wanted old.world shape pairs start))) same

-- a fault is told, and nothing else happens
pub refused_gen : (script : List Line) (old new : History) (order : List ℕ) (c : ℕ) (bytes : List ℕ) → AllMoments old new (SaysPart (fault_line c bytes) old.world) → GenIsSafe script old new order
refused_gen script old new order c bytes all shape pairs start =
    let wanted = wanted_in old.world in
    let last : ℕ = last_after start in
    let number : ℕ = number_after start in
    weaker old new (SaysPart (fault_line c bytes) old.world) (CrashHoldsDrawn wanted last number script old.world shape pairs order)
    (λ w part. subst (CrashHoldsDrawn wanted last number script old.world shape pairs order) (sym part.1)
    (idle_drawn wanted last number script old.world shape pairs (with_said (take part.0 (fault_line c bytes)) old.world) order (says_fault old.world part.0 c bytes)
    (keeps_said wanted last number shape pairs [] (take part.0 (fault_line c bytes)) old.world (rest_keeps wanted old.world shape pairs start)))) all

-- while the store is opened
pub opening_gen : (script : List Line) (wanted : Shape) (old mid : History) (shape : Shape) (pairs : Pairs) (start : IsStart wanted old.world shape pairs) (order : List ℕ) → AllMoments old mid (CrashHoldsMap (opened_to start.sound + 1 + 1) (opened_number start.sound + 1) wanted shape pairs)
    → AllMoments old mid (ChangesDisk old.world) → AllMoments old mid (CrashHoldsDrawn wanted (last_after start) (number_after start) script old.world shape pairs order)
opening_gen script wanted old mid shape pairs start order keeps only =
    let last : ℕ = last_after start in
    let number : ℕ = number_after start in
    let Q : World → Type 0 = CrashHoldsMap (opened_to start.sound + 1 + 1) (opened_number start.sound + 1) wanted shape pairs in
    weaker old mid (λ w. Q w × ChangesDisk old.world w) (CrashHoldsDrawn wanted last number script old.world shape pairs order)
    (λ w is. idle_drawn wanted last number script old.world shape pairs w order (says_none old.world w is.1.said)
    (map_keeps (opened_to start.sound + 1 + 1) (opened_number start.sound + 1) last number wanted shape pairs w (omega arith) (omega arith) is.0)) (both old mid Q (ChangesDisk old.world) keeps only)

-- the calls that come after ones that left the world as it was
pub gen_then : (script : List Line) (old mid new : History) (order : List ℕ) → GenIsSafe script old mid order → mid.world ≡ old.world → GenIsSafe script mid new order → GenIsSafe script old new order
gen_then script old mid new order first same second shape pairs start =
    joined old mid new (CrashHoldsDrawn (wanted_in old.world) (last_after start) (number_after start) script old.world shape pairs order) (first shape pairs start)
    (subst (λ (w : World). (s : IsStart (wanted_in w) w shape pairs) → AllMoments mid new (CrashHoldsDrawn (wanted_in w) (last_after s) (number_after s) script w shape pairs order)) same (second shape pairs) start)

pub gen_crash_from : (script : List Line) (old mid new : History) (order : List ℕ) → AllMoments old mid (IsSame old.world) → mid.world ≡ old.world → GenIsSafe script mid new order → GenIsSafe script old new order
gen_crash_from script old mid new order first same second = gen_then script old mid new order (kept_gen script old mid order first) same second

-- ---- where no call fails

whole_or_memory : (status : Status) (script : List Line) (old new : World) (shape : Shape) (pairs : Pairs) (lines : ℕ) (order : List ℕ) → DrawnOutcomeIs script status old new shape pairs lines order → (status ≡ Failed → ⊥) → (status ≡ Done) ⊎ (status ≡ Memory)
whole_or_memory Done script old new shape pairs lines order outcome sound = inl refl
whole_or_memory Misconfigured script old new shape pairs lines order outcome sound = absurd outcome
whole_or_memory Usage script old new shape pairs lines order outcome sound = absurd outcome
whole_or_memory Failed script old new shape pairs lines order outcome sound = absurd (sound refl)
whole_or_memory Memory script old new shape pairs lines order outcome sound = inr refl
whole_or_memory Damaged script old new shape pairs lines order outcome sound = absurd outcome
whole_or_memory Long script old new shape pairs lines order outcome sound = absurd outcome

-- where a field is refused, and with no failure, that is reported, or memory runs out
field_or_memory : (status : Status) (script : List Line) (old new : History) (lines : ℕ) (order : List ℕ) (field : Field) → GenHolds script old new status lines order → config_fault old.world ≡ Some field → (status ≡ Failed → ⊥) → (status ≡ Usage → ⊥)
    → (status ≡ Misconfigured) ⊎ (status ≡ Memory)
field_or_memory Done script old new lines order field run is sound known = absurd (let both : Some field ≡ None = sym is ∙ run.configured refl in cc)
field_or_memory Usage script old new lines order field run is sound known = absurd (known refl)
field_or_memory Misconfigured script old new lines order field run is sound known = inl refl
field_or_memory Failed script old new lines order field run is sound known = absurd (sound refl)
field_or_memory Memory script old new lines order field run is sound known = inr refl
field_or_memory Damaged script old new lines order field run is sound known = absurd (let both : Some field ≡ None = sym is ∙ (run.damaged refl).configured in cc)
field_or_memory Long script old new lines order field run is sound known = absurd (run.within refl)

pub gen_completes : (script : List Line) (old new : History) (status : Status) (lines : ℕ) (order : List ℕ) (before now : DeviceState) → GenHolds script old new status lines order → (status ≡ Usage → ⊥) → (status ≡ Failed → Rose before now)
    → GenCompletes status old.world before now
gen_completes script old new status lines order before now run known failed = record {
  refused = λ field is none. field_or_memory status script old new lines order field run is (λ e. none (failed e)) known;
  whole = λ shape pairs can none. whole_or_memory status script old.world new.world shape pairs lines order (run.outcome shape pairs can) (λ is. none (failed is));
}
