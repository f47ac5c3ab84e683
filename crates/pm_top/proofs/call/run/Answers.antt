use Rattle.std.proofs.Common.{ℕ, List, ◌≡◌, ◌+◌, ◌⊎◌, inl, inr, Some, None, ap, refl, sym, ◌∙◌, subst}
use Rattle.std.specs.Prelude.{codes, ◌++◌}
use Rattle.pm_types.specs.declared.fault.OpenFault.TheVariants as opening
use Rattle.pm_types.specs.declared.shape.Shape.{Shape}
use Rattle.pm_disk.specs.Moments.{AllMoments}
use Rattle.pm_disk.specs.Worlds.{World}
use Rattle.pm_disk.proofs.Chain.{at_last, joined}
use Rattle.pm_config.specs.Names.{name_of}
use Rattle.pm_model.specs.Eval.{Pairs}
use Rattle.pm_core.specs.Calls.{ChangesDisk}
use Rattle.pm_core.specs.Held.{in_force}
use Rattle.pm_core.specs.LogAlone.{image_of}
use Rattle.pm_redo.specs.Restoring.{ComparesShape}
use Rattle.pm_engine.specs.FrameStores.{pages_in_frames}
use Rattle.pm_engine.specs.FrameOpenings.{HasOpenCauseIn, OpensRunningIn}
use Rattle.pm_engine.specs.Openings.{IsPlainOpen}
use Rattle.pm_engine.specs.RunningLines.{says_nothing}
use Rattle.pm_top.specs.declared.status.Status.TheVariants.{Failed, Memory, Damaged}
use Rattle.pm_top.specs.Configurations.{config_fault, fault_config, shape_fault, wanted_in}
use Rattle.pm_top.specs.Crashes.{CrashHoldsAcknowledged, opened_number, opened_to}
use Rattle.pm_top.specs.Promises.{HoldsAtEachMoment, IsFoundByLine, IsLeft, IsStart, NamesBadFor, NamesBadOpening, NamesFound, fault_record, last_after, number_after}
use Rattle.pm_top.specs.Runs.{ScriptIsAnswered}
use Rattle.pm_top.specs.ScriptOrder as one
use Rattle.pm_top.specs.Served.{script_of}
use Rattle.pm_top.specs.StoreChecks.{SaysLine}
use Rattle.pm_top.proofs.FoundPages.{config_met}
use Rattle.pm_top.proofs.KeptConfigs.{config_disk, config_say, config_then}
use Rattle.pm_top.proofs.MetOpenings.{found_over, opening_told}
use Rattle.pm_top.proofs.Opened.{can_run, crash_then, opening_moments, refused_moments, same_console}
use Rattle.pm_top.proofs.Ordered.{moments_keep, outcome_is, outcome_order}
use Rattle.pm_top.proofs.Orders.{none_with_c}
use Rattle.pm_top.proofs.Refusing.{AnswersNone, damaged_run, field_refused_run, idle_run, run_from, same_disk}
use Rattle.pm_top.proofs.StartedStores.{can_begin, few_numbers}
use Rattle.pm_top.proofs.call.run.Goals as goal

pub answer_script-requires-clause-order : goal.answer_script-requires-clause-order
answer_script-requires-clause-order g c _ _ =
    c.in-Ok.ensures.fresh.0.order

pub answer_script-requires-clause-serving : goal.answer_script-requires-clause-serving
answer_script-requires-clause-serving g c _ _ =
    record { is_open = c.in-Ok.ensures.fresh.0.is_open; frames = c.in-Ok.ensures.fresh.0.frames }

pub answer_script-requires-clause-ready : goal.answer_script-requires-clause-ready
answer_script-requires-clause-ready g c _ _ t =
    c.in-Ok.ensures.fresh.1 t

pub returns-in-Ok-clause-run : goal.returns-in-Ok-clause-run
returns-in-Ok-clause-run g c t =
    let old = g.H.Device.history c.args.host.now in
    let mid = g.H.Device.history c.open_store.new.host in
    let wanted = c.args.config.now.shape in
    let asks = c.requires.asked t in
    let only = at_last old mid (ChangesDisk old.world) (g.H.Device.sound c.open_store.new.host t) (c.open_store.ensures.disk t) in
    let new = g.H.Device.history c.answer_script.new.host in
    let outcome = c.answer_script.result in
    let engine = c.in-Ok.engine in
    let same = same_console old.world mid.world only in
    let opens : (shape : Shape) (pairs : Pairs) (start : IsStart wanted old.world shape pairs) → OpensRunningIn (opened_to start.sound + 1) (opened_number start.sound + 1) wanted says_nothing shape pairs engine mid.world = λ shape pairs start.
    c.in-Ok.ensures.opened t says_nothing shape pairs (can_begin wanted old.world shape pairs start) (few_numbers wanted old.world shape pairs start) in
    let answered : (shape : Shape) (pairs : Pairs) (start : IsStart wanted old.world shape pairs) → ScriptIsAnswered wanted (last_after start) (number_after start) old.world shape pairs mid new outcome.status outcome.lines outcome.order.items = λ shape pairs start.
    let opened = opens shape pairs start in
    subst (λ (x : Shape × Pairs). ScriptIsAnswered wanted (last_after start) (number_after start) old.world x.0 x.1 mid new outcome.status outcome.lines outcome.order.items) (λ i. (opened.shape_is i, opened.map i))
    (c.answer_script.ensures.answered t wanted (last_after start) (number_after start) old.world same (can_run wanted old.world shape pairs start engine mid.world opened)) in
    let here : (shape : Shape) (pairs : Pairs) → IsStart (wanted_in old.world) old.world shape pairs → IsStart wanted old.world shape pairs = λ shape pairs start. subst (λ (s : Shape). IsStart s old.world shape pairs) asks.wanted_is start in
    let alike : config_fault old.world ≡ None = asks.fault_is ∙ (c.in-Ok.ensures.compared t).alike in
    record {
      outcome = λ shape pairs can.
          outcome_is outcome.status old.world new.world shape pairs outcome.lines outcome.order.items (answered shape pairs (here shape pairs can.start)).outcome;
      configured = λ _. alike;
      untouched = λ field differs. absurd (let both : Some field ≡ None = sym differs ∙ alike in cc);
      leaves = λ is.
          subst (λ (s : Shape). (shape : Shape) (pairs : Pairs) (start : IsStart s old.world shape pairs) → IsLeft s (last_after start) (number_after start) old.world new.world shape pairs) (sym asks.wanted_is)
          (λ shape pairs start. (answered shape pairs start).leaves is);
      misconfigured = λ is. absurd (c.answer_script.ensures.cause.configured is);
      damaged = λ is.
          let script = script_of old.world.input in
          let found : IsFoundByLine engine.store.shape (pages_in_frames engine.store mid.world) script new.world =
          subst (λ (i : List ℕ). IsFoundByLine engine.store.shape (pages_in_frames engine.store mid.world) (script_of i) new.world) only.input (c.answer_script.ensures.damaged t is) in
          let names = found_over wanted old.world mid.world engine script c.in-Ok.ensures.fresh.0.shape_is (c.in-Ok.ensures.base t).kept new.world found in
          record {
            configured = alike;
            unsound = λ shape pairs start. subst (λ s. one.OutcomeIs s old.world new.world shape pairs outcome.lines outcome.order.items) is (answered shape pairs (here shape pairs start)).outcome;
            left = found.left;
            text = found.text;
            bad = inr (subst (λ (s : Shape). NamesFound s old.world script found.left found.text) (sym asks.wanted_is) names);
            says = found.says;
          };
    }

pub returns-in-Ok-clause-crash : goal.returns-in-Ok-clause-crash
returns-in-Ok-clause-crash g c t =
    let old = g.H.Device.history c.args.host.now in
    let mid = g.H.Device.history c.open_store.new.host in
    let wanted = c.args.config.now.shape in
    let asks = c.requires.asked t in
    let only = at_last old mid (ChangesDisk old.world) (g.H.Device.sound c.open_store.new.host t) (c.open_store.ensures.disk t) in
    let new = g.H.Device.history c.answer_script.new.host in
    let outcome = c.answer_script.result in
    let engine = c.in-Ok.engine in
    let same = same_console old.world mid.world only in
    let opens : (shape : Shape) (pairs : Pairs) (start : IsStart wanted old.world shape pairs) → OpensRunningIn (opened_to start.sound + 1) (opened_number start.sound + 1) wanted says_nothing shape pairs engine mid.world = λ shape pairs start.
    c.in-Ok.ensures.opened t says_nothing shape pairs (can_begin wanted old.world shape pairs start) (few_numbers wanted old.world shape pairs start) in
    let order = outcome.order.items in
    let keeps : (shape : Shape) (pairs : Pairs) (start : IsStart wanted old.world shape pairs) → AllMoments old new (CrashHoldsAcknowledged wanted (last_after start) (number_after start) old.world shape pairs order) = λ shape pairs start.
    let last : ℕ = last_after start in
    let number : ℕ = number_after start in
    let K : World → Type 0 = CrashHoldsAcknowledged wanted last number old.world shape pairs order in
    let opened = opens shape pairs start in
    let answered : ScriptIsAnswered wanted last number old.world shape pairs mid new outcome.status outcome.lines order =
    subst (λ (x : Shape × Pairs). ScriptIsAnswered wanted last number old.world x.0 x.1 mid new outcome.status outcome.lines order) (λ i. (opened.shape_is i, opened.map i))
    (c.answer_script.ensures.answered t wanted last number old.world same (can_run wanted old.world shape pairs start engine mid.world opened)) in
    let its = outcome_order outcome.status old.world new.world shape pairs outcome.lines order answered.outcome in
    let second : AllMoments mid new K = moments_keep wanted last number old.world mid new shape pairs its.0 order its.1 answered.moments in
    joined old mid new K (opening_moments wanted old mid shape pairs start order (c.open_store.ensures.within t says_nothing shape pairs (can_begin wanted old.world shape pairs start) (few_numbers wanted old.world shape pairs start)) (c.open_store.ensures.disk t)) second
    in
    subst (λ (s : Shape). (shape : Shape) (pairs : Pairs) (start : IsStart s old.world shape pairs) → AllMoments old new (CrashHoldsAcknowledged s (last_after start) (number_after start) old.world shape pairs order)) (sym asks.wanted_is)
    keeps

pub returns-in-Ok-clause-config : goal.returns-in-Ok-clause-config
returns-in-Ok-clause-config g c t =
    let old = g.H.Device.history c.args.host.now in
    let mid = g.H.Device.history c.open_store.new.host in
    let wanted = c.args.config.now.shape in
    let asks = c.requires.asked t in
    let only = at_last old mid (ChangesDisk old.world) (g.H.Device.sound c.open_store.new.host t) (c.open_store.ensures.disk t) in
    let new = g.H.Device.history c.answer_script.new.host in
    let outcome = c.answer_script.result in
    let engine = c.in-Ok.engine in
    let same = same_console old.world mid.world only in
    config_then old mid new (g.H.Device.sound c.open_store.new.host t) (config_disk old mid (c.open_store.ensures.disk t)) (c.answer_script.ensures.config t)

pub returns-in-Err-Shape-clause-run : goal.returns-in-Err-Shape-clause-run
returns-in-Err-Shape-clause-run g c t =
    let old = g.H.Device.history c.args.host.now in
    let mid = g.H.Device.history c.open_store.new.host in
    let wanted = c.args.config.now.shape in
    let asks = c.requires.asked t in
    let only = at_last old mid (ChangesDisk old.world) (g.H.Device.sound c.open_store.new.host t) (c.open_store.ensures.disk t) in
    let printed = c.print_config_fault in
    let new = g.H.Device.history printed.new.host in
    let outcome = c.without.result in
    let field = c.in-Err-Shape.field in
    let differs : shape_fault wanted old.world ≡ Some field = subst (ComparesShape (shape_fault wanted old.world)) c.in-Err-Shape.field-0-is (c.in-Err-Shape.ensures.compared t).fault in
    let same : mid.world ≡ old.world = subst (HasOpenCauseIn g.H.Device.tells wanted (in_force (image_of old.world)) old.world mid.world) c.in-Err-Shape.field-0-is (c.in-Err-Shape.ensures.base t).bad in
    let is : config_fault mid.world ≡ Some field = ap config_fault same ∙ asks.fault_is ∙ differs in
    run_from old mid new outcome.status outcome.lines outcome.order.items ((c.in-Err-Shape.ensures.compared t).differing field differs) same
    (field_refused_run mid new outcome.status outcome.lines outcome.order.items field is (subst AnswersNone (sym c.without.ensures.status) printed.ensures.cases) (λ e. printed.ensures.misconfigured t (sym c.without.ensures.status ∙ e)) (printed.ensures.moments t) c.without.ensures.lines c.without.ensures.order)

pub returns-in-Err-Shape-clause-crash : goal.returns-in-Err-Shape-clause-crash
returns-in-Err-Shape-clause-crash g c t =
    let old = g.H.Device.history c.args.host.now in
    let mid = g.H.Device.history c.open_store.new.host in
    let wanted = c.args.config.now.shape in
    let asks = c.requires.asked t in
    let only = at_last old mid (ChangesDisk old.world) (g.H.Device.sound c.open_store.new.host t) (c.open_store.ensures.disk t) in
    let printed = c.print_config_fault in
    let new = g.H.Device.history printed.new.host in
    let outcome = c.without.result in
    let field = c.in-Err-Shape.field in
    let differs : shape_fault wanted old.world ≡ Some field = subst (ComparesShape (shape_fault wanted old.world)) c.in-Err-Shape.field-0-is (c.in-Err-Shape.ensures.compared t).fault in
    let same : mid.world ≡ old.world = subst (HasOpenCauseIn g.H.Device.tells wanted (in_force (image_of old.world)) old.world mid.world) c.in-Err-Shape.field-0-is (c.in-Err-Shape.ensures.base t).bad in
    let order = outcome.order.items in
    let keeps : HoldsAtEachMoment old mid order =
    subst (λ (s : Shape). (shape : Shape) (pairs : Pairs) (start : IsStart s old.world shape pairs) → AllMoments old mid (CrashHoldsAcknowledged s (last_after start) (number_after start) old.world shape pairs order)) (sym asks.wanted_is)
    (λ shape pairs start. opening_moments wanted old mid shape pairs start order (c.open_store.ensures.within t says_nothing shape pairs (can_begin wanted old.world shape pairs start) (few_numbers wanted old.world shape pairs start)) (c.open_store.ensures.disk t)) in
    crash_then old mid new order keeps same (refused_moments mid new order 99 (codes "onfig " ++ name_of field ++ codes "\n") none_with_c (printed.ensures.moments t))

pub returns-in-Err-Shape-clause-config : goal.returns-in-Err-Shape-clause-config
returns-in-Err-Shape-clause-config g c t =
    let old = g.H.Device.history c.args.host.now in
    let mid = g.H.Device.history c.open_store.new.host in
    let wanted = c.args.config.now.shape in
    let asks = c.requires.asked t in
    let only = at_last old mid (ChangesDisk old.world) (g.H.Device.sound c.open_store.new.host t) (c.open_store.ensures.disk t) in
    let printed = c.print_config_fault in
    let new = g.H.Device.history printed.new.host in
    let outcome = c.without.result in
    let field = c.in-Err-Shape.field in
    let differs : shape_fault wanted old.world ≡ Some field = subst (ComparesShape (shape_fault wanted old.world)) c.in-Err-Shape.field-0-is (c.in-Err-Shape.ensures.compared t).fault in
    let same : mid.world ≡ old.world = subst (HasOpenCauseIn g.H.Device.tells wanted (in_force (image_of old.world)) old.world mid.world) c.in-Err-Shape.field-0-is (c.in-Err-Shape.ensures.base t).bad in
    config_then old mid new (g.H.Device.sound c.open_store.new.host t) (config_disk old mid (c.open_store.ensures.disk t)) (config_say (fault_config field) mid new (printed.ensures.moments t))

pub returns-in-Err-Store-Failed-clause-run : goal.returns-in-Err-Store-Failed-clause-run
returns-in-Err-Store-Failed-clause-run g c t =
    let old = g.H.Device.history c.args.host.now in
    let mid = g.H.Device.history c.open_store.new.host in
    let wanted = c.args.config.now.shape in
    let asks = c.requires.asked t in
    let only = at_last old mid (ChangesDisk old.world) (g.H.Device.sound c.open_store.new.host t) (c.open_store.ensures.disk t) in
    let outcome = c.without-in-Err-Store-Failed.result in
    idle_run old mid outcome.status outcome.lines outcome.order.items (inl c.without-in-Err-Store-Failed.ensures.status) only.said c.without-in-Err-Store-Failed.ensures.lines c.without-in-Err-Store-Failed.ensures.order
    (λ field differs. same_disk old mid ((c.in-Err-Store-Failed.ensures.compared t).differing field (sym asks.fault_is ∙ differs)))

pub returns-in-Err-Store-Failed-clause-crash : goal.returns-in-Err-Store-Failed-clause-crash
returns-in-Err-Store-Failed-clause-crash g c t =
    let old = g.H.Device.history c.args.host.now in
    let mid = g.H.Device.history c.open_store.new.host in
    let wanted = c.args.config.now.shape in
    let asks = c.requires.asked t in
    let only = at_last old mid (ChangesDisk old.world) (g.H.Device.sound c.open_store.new.host t) (c.open_store.ensures.disk t) in
    let order = c.without-in-Err-Store-Failed.result.order.items in
    let keeps : HoldsAtEachMoment old mid order =
    subst (λ (s : Shape). (shape : Shape) (pairs : Pairs) (start : IsStart s old.world shape pairs) → AllMoments old mid (CrashHoldsAcknowledged s (last_after start) (number_after start) old.world shape pairs order)) (sym asks.wanted_is)
    (λ shape pairs start. opening_moments wanted old mid shape pairs start order (c.open_store.ensures.within t says_nothing shape pairs (can_begin wanted old.world shape pairs start) (few_numbers wanted old.world shape pairs start)) (c.open_store.ensures.disk t)) in
    keeps

pub returns-in-Err-Store-Failed-clause-config : goal.returns-in-Err-Store-Failed-clause-config
returns-in-Err-Store-Failed-clause-config g c t =
    let old = g.H.Device.history c.args.host.now in
    let mid = g.H.Device.history c.open_store.new.host in
    let wanted = c.args.config.now.shape in
    let asks = c.requires.asked t in
    let only = at_last old mid (ChangesDisk old.world) (g.H.Device.sound c.open_store.new.host t) (c.open_store.ensures.disk t) in
    config_disk old mid (c.open_store.ensures.disk t)

pub returns-in-Err-Store-Memory-clause-run : goal.returns-in-Err-Store-Memory-clause-run
returns-in-Err-Store-Memory-clause-run g c t =
    let old = g.H.Device.history c.args.host.now in
    let mid = g.H.Device.history c.open_store.new.host in
    let wanted = c.args.config.now.shape in
    let asks = c.requires.asked t in
    let only = at_last old mid (ChangesDisk old.world) (g.H.Device.sound c.open_store.new.host t) (c.open_store.ensures.disk t) in
    let outcome = c.lacking.result in
    idle_run old mid outcome.status outcome.lines outcome.order.items (inr c.lacking.ensures.status) only.said c.lacking.ensures.lines c.lacking.ensures.order
    (λ field differs. same_disk old mid ((c.in-Err-Store-Memory.ensures.compared t).differing field (sym asks.fault_is ∙ differs)))

pub returns-in-Err-Store-Memory-clause-crash : goal.returns-in-Err-Store-Memory-clause-crash
returns-in-Err-Store-Memory-clause-crash g c t =
    let old = g.H.Device.history c.args.host.now in
    let mid = g.H.Device.history c.open_store.new.host in
    let wanted = c.args.config.now.shape in
    let asks = c.requires.asked t in
    let only = at_last old mid (ChangesDisk old.world) (g.H.Device.sound c.open_store.new.host t) (c.open_store.ensures.disk t) in
    let order = c.lacking.result.order.items in
    let keeps : HoldsAtEachMoment old mid order =
    subst (λ (s : Shape). (shape : Shape) (pairs : Pairs) (start : IsStart s old.world shape pairs) → AllMoments old mid (CrashHoldsAcknowledged s (last_after start) (number_after start) old.world shape pairs order)) (sym asks.wanted_is)
    (λ shape pairs start. opening_moments wanted old mid shape pairs start order (c.open_store.ensures.within t says_nothing shape pairs (can_begin wanted old.world shape pairs start) (few_numbers wanted old.world shape pairs start)) (c.open_store.ensures.disk t)) in
    keeps

pub returns-in-Err-Store-Memory-clause-config : goal.returns-in-Err-Store-Memory-clause-config
returns-in-Err-Store-Memory-clause-config g c t =
    let old = g.H.Device.history c.args.host.now in
    let mid = g.H.Device.history c.open_store.new.host in
    let wanted = c.args.config.now.shape in
    let asks = c.requires.asked t in
    let only = at_last old mid (ChangesDisk old.world) (g.H.Device.sound c.open_store.new.host t) (c.open_store.ensures.disk t) in
    config_disk old mid (c.open_store.ensures.disk t)

pub returns-in-Err-Store-BadRecord-clause-run : goal.returns-in-Err-Store-BadRecord-clause-run
returns-in-Err-Store-BadRecord-clause-run g c t =
    let old = g.H.Device.history c.args.host.now in
    let mid = g.H.Device.history c.open_store.new.host in
    let wanted = c.args.config.now.shape in
    let asks = c.requires.asked t in
    let only = at_last old mid (ChangesDisk old.world) (g.H.Device.sound c.open_store.new.host t) (c.open_store.ensures.disk t) in
    let printed = c.print_record_fault in
    let new = g.H.Device.history printed.new.host in
    let outcome = c.without-in-Err-Store-BadRecord.result in
    let at = c.in-Err-Store-BadRecord.at in
    let err = c.in-Err-Store-BadRecord.field-0-is ∙ ap opening.Store c.in-Err-Store-BadRecord.field-0-0-is in
    let alike : shape_fault wanted old.world ≡ None = subst (ComparesShape (shape_fault wanted old.world)) err (c.in-Err-Store-BadRecord.ensures.compared t).fault in
    let unsound : (shape : Shape) (pairs : Pairs) → IsStart (wanted_in old.world) old.world shape pairs → ⊥ = λ shape pairs start.
    let here = subst (λ (s : Shape). IsStart s old.world shape pairs) asks.wanted_is start in
    subst IsPlainOpen err (c.in-Err-Store-BadRecord.ensures.refused t says_nothing shape pairs (can_begin wanted old.world shape pairs here) (few_numbers wanted old.world shape pairs here) alike) in
    let cause = subst (HasOpenCauseIn g.H.Device.tells wanted (in_force (image_of old.world)) old.world mid.world) err (c.in-Err-Store-BadRecord.ensures.base t).bad in
    let bad : NamesBadOpening old.world mid.world (fault_record at) =
    subst (λ (s : Shape). NamesBadFor s old.world mid.world (fault_record at)) (sym asks.wanted_is) (inl (at, cause, refl)) in
    damaged_run old mid new outcome.status outcome.lines outcome.order.items (asks.fault_is ∙ alike) unsound only
    (subst (λ s. (s ≡ Damaged) ⊎ (s ≡ Failed) ⊎ (s ≡ Memory)) (sym c.without-in-Err-Store-BadRecord.ensures.status) printed.ensures.cases) (λ e. (fault_record at, bad, printed.ensures.damaged t (sym c.without-in-Err-Store-BadRecord.ensures.status ∙ e))) c.without-in-Err-Store-BadRecord.ensures.lines c.without-in-Err-Store-BadRecord.ensures.order

pub returns-in-Err-Store-BadRecord-clause-crash : goal.returns-in-Err-Store-BadRecord-clause-crash
returns-in-Err-Store-BadRecord-clause-crash g c t shape pairs start =
    let old = g.H.Device.history c.args.host.now in
    let mid = g.H.Device.history c.open_store.new.host in
    let wanted = c.args.config.now.shape in
    let asks = c.requires.asked t in
    let only = at_last old mid (ChangesDisk old.world) (g.H.Device.sound c.open_store.new.host t) (c.open_store.ensures.disk t) in
    let printed = c.print_record_fault in
    let new = g.H.Device.history printed.new.host in
    let outcome = c.without-in-Err-Store-BadRecord.result in
    let at = c.in-Err-Store-BadRecord.at in
    let err = c.in-Err-Store-BadRecord.field-0-is ∙ ap opening.Store c.in-Err-Store-BadRecord.field-0-0-is in
    let alike : shape_fault wanted old.world ≡ None = subst (ComparesShape (shape_fault wanted old.world)) err (c.in-Err-Store-BadRecord.ensures.compared t).fault in
    let unsound : (shape : Shape) (pairs : Pairs) → IsStart (wanted_in old.world) old.world shape pairs → ⊥ = λ shape pairs start.
    let here = subst (λ (s : Shape). IsStart s old.world shape pairs) asks.wanted_is start in
    subst IsPlainOpen err (c.in-Err-Store-BadRecord.ensures.refused t says_nothing shape pairs (can_begin wanted old.world shape pairs here) (few_numbers wanted old.world shape pairs here) alike) in
    absurd (unsound shape pairs start)

pub returns-in-Err-Store-BadRecord-clause-config : goal.returns-in-Err-Store-BadRecord-clause-config
returns-in-Err-Store-BadRecord-clause-config g c t =
    let old = g.H.Device.history c.args.host.now in
    let mid = g.H.Device.history c.open_store.new.host in
    let wanted = c.args.config.now.shape in
    let asks = c.requires.asked t in
    let only = at_last old mid (ChangesDisk old.world) (g.H.Device.sound c.open_store.new.host t) (c.open_store.ensures.disk t) in
    let printed = c.print_record_fault in
    let new = g.H.Device.history printed.new.host in
    config_then old mid new (g.H.Device.sound c.open_store.new.host t) (config_disk old mid (c.open_store.ensures.disk t)) (config_say (fault_record c.in-Err-Store-BadRecord.at) mid new (printed.ensures.moments t))

pub returns-in-Err-Store-BadPage-clause-run : goal.returns-in-Err-Store-BadPage-clause-run
returns-in-Err-Store-BadPage-clause-run g c t =
    let old = g.H.Device.history c.args.host.now in
    let mid = g.H.Device.history c.open_store.new.host in
    let wanted = c.args.config.now.shape in
    let asks = c.requires.asked t in
    let only = at_last old mid (ChangesDisk old.world) (g.H.Device.sound c.open_store.new.host t) (c.open_store.ensures.disk t) in
    let printed = c.print_found_page in
    let new = g.H.Device.history printed.new.host in
    let outcome = c.without-in-Err-Store-BadPage.result in
    let page = c.in-Err-Store-BadPage.page in
    let err = c.in-Err-Store-BadPage.field-0-is ∙ ap opening.Store c.in-Err-Store-BadPage.field-0-0-is in
    let alike : shape_fault wanted old.world ≡ None = subst (ComparesShape (shape_fault wanted old.world)) err (c.in-Err-Store-BadPage.ensures.compared t).fault in
    let unsound : (shape : Shape) (pairs : Pairs) → IsStart (wanted_in old.world) old.world shape pairs → ⊥ = λ shape pairs start.
    let here = subst (λ (s : Shape). IsStart s old.world shape pairs) asks.wanted_is start in
    subst IsPlainOpen err (c.in-Err-Store-BadPage.ensures.refused t says_nothing shape pairs (can_begin wanted old.world shape pairs here) (few_numbers wanted old.world shape pairs here) alike) in
    let cause = subst (HasOpenCauseIn g.H.Device.tells wanted (in_force (image_of old.world)) old.world mid.world) err (c.in-Err-Store-BadPage.ensures.base t).bad in
    let named : printed.result ≡ Damaged → SaysLine (NamesBadOpening old.world mid.world) mid.world new.world = λ e.
    let line = printed.ensures.damaged t e in
    (line.0, subst (λ (s : Shape). NamesBadFor s old.world mid.world line.0) (sym asks.wanted_is) (inr (page, opening_told g.H.Device.tells t wanted (in_force (image_of old.world)) old.world page cause, line.1)), line.2) in
    damaged_run old mid new outcome.status outcome.lines outcome.order.items (asks.fault_is ∙ alike) unsound only
    (subst (λ s. (s ≡ Damaged) ⊎ (s ≡ Failed) ⊎ (s ≡ Memory)) (sym c.without-in-Err-Store-BadPage.ensures.status) printed.ensures.cases) (λ e. named (sym c.without-in-Err-Store-BadPage.ensures.status ∙ e)) c.without-in-Err-Store-BadPage.ensures.lines c.without-in-Err-Store-BadPage.ensures.order

pub returns-in-Err-Store-BadPage-clause-crash : goal.returns-in-Err-Store-BadPage-clause-crash
returns-in-Err-Store-BadPage-clause-crash g c t shape pairs start =
    let old = g.H.Device.history c.args.host.now in
    let mid = g.H.Device.history c.open_store.new.host in
    let wanted = c.args.config.now.shape in
    let asks = c.requires.asked t in
    let only = at_last old mid (ChangesDisk old.world) (g.H.Device.sound c.open_store.new.host t) (c.open_store.ensures.disk t) in
    let printed = c.print_found_page in
    let new = g.H.Device.history printed.new.host in
    let outcome = c.without-in-Err-Store-BadPage.result in
    let page = c.in-Err-Store-BadPage.page in
    let err = c.in-Err-Store-BadPage.field-0-is ∙ ap opening.Store c.in-Err-Store-BadPage.field-0-0-is in
    let alike : shape_fault wanted old.world ≡ None = subst (ComparesShape (shape_fault wanted old.world)) err (c.in-Err-Store-BadPage.ensures.compared t).fault in
    let unsound : (shape : Shape) (pairs : Pairs) → IsStart (wanted_in old.world) old.world shape pairs → ⊥ = λ shape pairs start.
    let here = subst (λ (s : Shape). IsStart s old.world shape pairs) asks.wanted_is start in
    subst IsPlainOpen err (c.in-Err-Store-BadPage.ensures.refused t says_nothing shape pairs (can_begin wanted old.world shape pairs here) (few_numbers wanted old.world shape pairs here) alike) in
    absurd (unsound shape pairs start)

pub returns-in-Err-Store-BadPage-clause-config : goal.returns-in-Err-Store-BadPage-clause-config
returns-in-Err-Store-BadPage-clause-config g c t =
    let old = g.H.Device.history c.args.host.now in
    let mid = g.H.Device.history c.open_store.new.host in
    let wanted = c.args.config.now.shape in
    let asks = c.requires.asked t in
    let only = at_last old mid (ChangesDisk old.world) (g.H.Device.sound c.open_store.new.host t) (c.open_store.ensures.disk t) in
    let printed = c.print_found_page in
    let new = g.H.Device.history printed.new.host in
    config_then old mid new (g.H.Device.sound c.open_store.new.host t) (config_disk old mid (c.open_store.ensures.disk t)) (config_met c.in-Err-Store-BadPage.page mid new (printed.ensures.moments t))
