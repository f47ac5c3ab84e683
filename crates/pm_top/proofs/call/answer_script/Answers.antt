use Rattle.std.proofs.Common.{◌≡◌, inl, inr, ℕ, List, Err, Ok, ap, sym, ◌∙◌, subst, arith}
use Rattle.std.specs.Prelude.{codes}
use Rattle.pm_disk.specs.Moments.{AllMoments}
use Rattle.pm_disk.specs.States.{IsLaterState}
use Rattle.pm_disk.specs.Worlds.{World}
use Rattle.pm_engine.specs.Engines.{FrameRunning, map_in}
use Rattle.pm_engine.specs.FrameStores.{pages_in_frames}
use Rattle.pm_top.specs.declared.status.Status.{Status}
use Rattle.pm_top.specs.FrameRests.{IsServing}
use Rattle.pm_top.specs.Promises.{IsFoundByLine, SameConfig}
use Rattle.pm_top.specs.RunCauses.{HasScriptCause}
use Rattle.pm_top.specs.Runs.{CanRun, IsServed, ScriptIsAnswered}
use Rattle.pm_top.specs.Served.{script_of}
use Rattle.pm_top.specs.Statuses.{code_of}
use Rattle.pm_top.proofs.AnsweredScripts.{script_done, script_limit, script_failed, script_memory}
use Rattle.pm_top.proofs.FoundPages.{config_met}
use Rattle.pm_top.proofs.KeptConfigs.{config_say, config_then}
use Rattle.pm_top.proofs.ScriptCauses.{ends_damaged, ends_done, ends_failed, ends_limit, ends_memory}
use Rattle.pm_top.proofs.call.answer_script.Goals.{in-Ok-Done, in-Ok-Limit, in-Err-Failed, in-Err-Memory, in-Err-BadPage}
use Rattle.pm_top.proofs.call.answer_script.Goals as goal

pub serve-run-requires-clause-serving : goal.serve-run-requires-clause-serving
serve-run-requires-clause-serving g c _ _ =
    subst (λ (e : FrameRunning). IsServing c.args.config.now e) (sym c.new-run.ensures.engine) c.requires.serving

pub returns-clause-answered : goal.returns-clause-answered
returns-clause-answered g c t wanted last number start same can =
    let engine = c.new-run.result.engine in
    let served = c.serve-run.result in
    let lines = served.0.lines in
    let order = served.0.engine.order in
    let old = g.H.Device.history c.args.host.now in
    let mid = g.H.Device.history c.serve-run.new.host in
    let shape = engine.store.shape in
    let pairs = map_in engine old.world in
    let can_here : CanRun wanted last number engine old.world = subst (λ (e : FrameRunning). CanRun wanted last number e old.world) (sym c.new-run.ensures.engine) can in
    let its : IsServed wanted last number start shape pairs old mid served.0 served.1 = c.serve-run.ensures.served t wanted last number start same can_here in
    let all : ScriptIsAnswered wanted last number start shape pairs old (g.H.Device.history c.match-served.host) c.match-served.status lines order = elim c.match-served.branch [
      | in-Ok-Done w ↦
          subst (λ s. ScriptIsAnswered wanted last number start shape pairs old (g.H.Device.history c.match-served.host) s lines order) (sym w.status-is) (subst (λ h. ScriptIsAnswered wanted last number start shape pairs old (g.H.Device.history h) Status.Done lines order) (sym w.host-is)
          (script_done wanted last number start shape pairs old mid served.0 (subst (λ r. IsServed wanted last number start shape pairs old mid served.0 r) (w.in-Ok-Done.is ∙ ap Ok (rw w.in-Ok-Done.is at w.in-Ok-Done.field-0-is)) its)))
      | in-Ok-Limit w ↦
          let told = w.print_limit_fault-status in
          let new = g.H.Device.history told.new.host in
          subst (λ s. ScriptIsAnswered wanted last number start shape pairs old (g.H.Device.history c.match-served.host) s lines order) (sym w.status-is) (subst (λ h. ScriptIsAnswered wanted last number start shape pairs old (g.H.Device.history h) told.result lines order) (sym w.host-is)
          (script_limit wanted last number start shape pairs old mid served.0 (subst (λ r. IsServed wanted last number start shape pairs old mid served.0 r) (w.in-Ok-Limit.is ∙ ap Ok (rw w.in-Ok-Limit.is at w.in-Ok-Limit.field-0-is)) its)
          new told.result (g.H.Device.sound c.serve-run.new.host t) (g.H.Device.sound told.new.host t) (told.ensures.long t) (told.ensures.moments t) told.ensures.cases))
      | in-Err-Failed w ↦
          subst (λ s. ScriptIsAnswered wanted last number start shape pairs old (g.H.Device.history c.match-served.host) s lines order) (sym w.status-is) (subst (λ h. ScriptIsAnswered wanted last number start shape pairs old (g.H.Device.history h) Status.Failed lines order) (sym w.host-is)
          (script_failed wanted last number start shape pairs old mid served.0 (subst (λ r. IsServed wanted last number start shape pairs old mid served.0 r) (w.in-Err-Failed.is ∙ ap Err (rw w.in-Err-Failed.is at w.in-Err-Failed.field-0-is)) its)))
      | in-Err-Memory w ↦
          subst (λ s. ScriptIsAnswered wanted last number start shape pairs old (g.H.Device.history c.match-served.host) s lines order) (sym w.status-is) (subst (λ h. ScriptIsAnswered wanted last number start shape pairs old (g.H.Device.history h) Status.Memory lines order) (sym w.host-is)
          (script_memory wanted last number start shape pairs old mid served.0 w.in-Err-Memory._lack (subst (λ r. IsServed wanted last number start shape pairs old mid served.0 r) (w.in-Err-Memory.is ∙ ap Err (rw w.in-Err-Memory.is at w.in-Err-Memory.field-0-is)) its)))
      | in-Err-BadPage w ↦ absurd (its.sound w.in-Err-BadPage.page (w.in-Err-BadPage.is ∙ ap Err (rw w.in-Err-BadPage.is at w.in-Err-BadPage.field-0-is)))
    ] in
    let new = g.H.Device.history c.match-served.host in
    subst (λ (e : FrameRunning). ScriptIsAnswered wanted last number start e.store.shape (map_in e old.world) old new c.match-served.status lines c.close-order.result.items) c.new-run.ensures.engine
    (subst (λ (o : List ℕ). ScriptIsAnswered wanted last number start shape pairs old new c.match-served.status lines o) (sym c.close-order.ensures) all)

pub returns-clause-damaged : goal.returns-clause-damaged
returns-clause-damaged g c t is =
    let engine = c.new-run.result.engine in
    let old = g.H.Device.history c.args.host.now in
    let mid = g.H.Device.history c.serve-run.new.host in
    let script = script_of old.world.input in
    let found : IsFoundByLine engine.store.shape (pages_in_frames engine.store old.world) script (g.H.Device.history c.match-served.host).world = elim c.match-served.branch [
      | in-Ok-Done w ↦ absurd (let clash : 5 ≡ 0 = ap code_of (sym is ∙ w.status-is) in omega (arith, clash))
      | in-Ok-Limit w ↦ absurd (elim w.print_limit_fault-status.ensures.cases [
        | inl long ↦ (let clash : 5 ≡ 6 = ap code_of (sym is ∙ w.status-is ∙ long) in omega (arith, clash))
        | inr failed ↦ (let clash : 5 ≡ 3 = ap code_of (sym is ∙ w.status-is ∙ failed) in omega (arith, clash))
      ])
      | in-Err-Failed w ↦ absurd (let clash : 5 ≡ 3 = ap code_of (sym is ∙ w.status-is) in omega (arith, clash))
      | in-Err-Memory w ↦ absurd (let clash : 5 ≡ 4 = ap code_of (sym is ∙ w.status-is) in omega (arith, clash))
      | in-Err-BadPage w ↦
          let told = w.print_found_page-status in
          let line = told.ensures.damaged t (sym w.status-is ∙ is) in
          let page = w.in-Err-BadPage.page in
          let it_meets = c.serve-run.ensures.meets t page (w.in-Err-BadPage.is ∙ ap Err (rw w.in-Err-BadPage.is at w.in-Err-BadPage.field-0-is)) in
          subst (λ h. IsFoundByLine engine.store.shape (pages_in_frames engine.store old.world) script (g.H.Device.history h).world) (sym w.host-is)
          (record { left = mid.world; text = line.0; met = page; meets = it_meets; names = line.1; says = line.2 })
    ] in
    subst (λ (e : FrameRunning). IsFoundByLine e.store.shape (pages_in_frames e.store old.world) script (g.H.Device.history c.match-served.host).world) c.new-run.ensures.engine found

pub returns-clause-config : goal.returns-clause-config
returns-clause-config g c t =
    let old = g.H.Device.history c.args.host.now in
    let mid = g.H.Device.history c.serve-run.new.host in
    let K : World → Type 0 = SameConfig old.world in
    let served : AllMoments old mid K = c.serve-run.ensures.config t in
    elim c.match-served.branch [
      | in-Ok-Done w ↦ subst (λ h. AllMoments old (g.H.Device.history h) K) (sym w.host-is) served
      | in-Ok-Limit w ↦
          let printed = w.print_limit_fault-status in
          let new = g.H.Device.history printed.new.host in
          subst (λ h. AllMoments old (g.H.Device.history h) K) (sym w.host-is)
          (config_then old mid new (g.H.Device.sound c.serve-run.new.host t) served (config_say (codes "fault long\n") mid new (printed.ensures.moments t)))
      | in-Err-Failed w ↦ subst (λ h. AllMoments old (g.H.Device.history h) K) (sym w.host-is) served
      | in-Err-Memory w ↦ subst (λ h. AllMoments old (g.H.Device.history h) K) (sym w.host-is) served
      | in-Err-BadPage w ↦
          let printed = w.print_found_page-status in
          let new = g.H.Device.history printed.new.host in
          subst (λ h. AllMoments old (g.H.Device.history h) K) (sym w.host-is)
          (config_then old mid new (g.H.Device.sound c.serve-run.new.host t) served (config_met w.in-Err-BadPage.page mid new (printed.ensures.moments t)))
    ]

pub returns-clause-cause : goal.returns-clause-cause
returns-clause-cause g c =
    let at = g.H.Device.state in
    let old = at c.args.host.now in
    let mid = at c.serve-run.new.host in
    let served : IsLaterState old mid = c.serve-run.ensures.cause.later in
    elim c.match-served.branch [
      | in-Ok-Done w ↦
          subst (λ s. HasScriptCause s old (at c.match-served.host)) (sym w.status-is)
          (subst (λ h. HasScriptCause Status.Done old (at h)) (sym w.host-is) (ends_done old mid served))
      | in-Ok-Limit w ↦
          let told = w.print_limit_fault-status in
          subst (λ s. HasScriptCause s old (at c.match-served.host)) (sym w.status-is)
          (subst (λ h. HasScriptCause told.result old (at h)) (sym w.host-is)
          (ends_limit told.result old mid (at told.new.host) served told.ensures.cases told.ensures.failed told.ensures.state))
      | in-Err-Failed w ↦
          subst (λ s. HasScriptCause s old (at c.match-served.host)) (sym w.status-is)
          (subst (λ h. HasScriptCause Status.Failed old (at h)) (sym w.host-is)
          (ends_failed old mid (c.serve-run.ensures.cause.failed (w.in-Err-Failed.is ∙ ap Err (rw w.in-Err-Failed.is at w.in-Err-Failed.field-0-is))) served))
      | in-Err-Memory w ↦
          subst (λ s. HasScriptCause s old (at c.match-served.host)) (sym w.status-is)
          (subst (λ h. HasScriptCause Status.Memory old (at h)) (sym w.host-is) (ends_memory old mid served))
      | in-Err-BadPage w ↦
          let told = w.print_found_page-status in
          subst (λ s. HasScriptCause s old (at c.match-served.host)) (sym w.status-is)
          (subst (λ h. HasScriptCause told.result old (at h)) (sym w.host-is)
          (ends_damaged told.result old mid (at told.new.host) served told.ensures.cases told.ensures.failed told.ensures.state))
    ]
