use Rattle.std.proofs.Common.{◌≡◌, ◌⊎◌, inl, inr, ℕ, List, Err, refl, ap, sym, ◌∙◌, subst, arith}
use Rattle.std.specs.Prelude.{OnOk, IfOk}
use Rattle.pm_disk.specs.Moments.{History, AllMoments}
use Rattle.pm_disk.specs.States.{IsLaterState}
use Rattle.pm_disk.specs.Worlds.{World}
use Rattle.pm_disk.proofs.Chain.{at_last}
use Rattle.pm_model.specs.Eval.{replies_to}
use Rattle.pm_core.specs.Calls.{ChangesDisk}
use Rattle.pm_engine.specs.Engines.{map_in}
use Rattle.pm_engine.specs.FrameStores.{pages_in_frames}
use Rattle.pm_tools.specs.DrawnLines.{drawn_lines}
use Rattle.pm_top.specs.declared.counting.ReplyCounts.{ReplyCounts}
use Rattle.pm_top.specs.declared.status.Status.{Status}
use Rattle.pm_top.specs.DrawnRuns.{CrashHoldsDrawn, DrawnIsLeft, DrawnOutcomeIs, summary_of}
use Rattle.pm_top.specs.DrawnSteps.{EndsDrawn}
use Rattle.pm_top.specs.Promises.{IsFoundByLine, SameConfig, SaysPart}
use Rattle.pm_top.specs.ReplyCounts.{counts_of, summary_line}
use Rattle.pm_top.specs.RunCauses.{HasScriptCause}
use Rattle.pm_top.specs.Statuses.{code_of}
use Rattle.pm_top.proofs.DrawnOutcomes.{ended_left, ended_moments, fault_outcome, page_short, summary_cause, summary_outcome, summary_short, three_arent, tried_moments}
use Rattle.pm_top.proofs.DrawnScripts.{length-drawn_lines}
use Rattle.pm_top.proofs.FoundPages.{config_met}
use Rattle.pm_top.proofs.KeptConfigs.{config_disk, config_say, config_then}
use Rattle.pm_top.proofs.ScriptCauses.{ends_damaged, ends_failed, ends_memory}
use Rattle.pm_top.proofs.generate.answer_drawn.Goals.{in-Ok, in-Err-Failed, in-Err-Memory, in-Err-BadPage}
use Rattle.pm_top.proofs.generate.answer_drawn.Goals as goal

pub returns-clause-outcome : goal.returns-clause-outcome
returns-clause-outcome g c t wanted last number start same can =
    let ran = c.run_drawn-engine in
    let old = g.H.Device.history c.args.host.now in
    let mid = g.H.Device.history ran.new.host in
    let engine = c.args.engine in
    let shape = engine.store.shape in
    let pairs = map_in engine old.world in
    let order = ran.result.0.order in
    let lines = c.lines_said.result in
    let script = drawn_lines c.args.seed 1 c.args.count in
    let tries = ran.ensures.tries in
    let only = at_last old mid (ChangesDisk old.world) (g.H.Device.sound ran.new.host t) (tries.keeps.disk t) in
    let said = only.said ∙ same.said in
    let unread = only.input ∙ same.input in
    let status = c.match-ran.status in
    let P : History → Type 0 = λ h. DrawnOutcomeIs script status start h.world shape pairs lines order in
    let ended : P (g.H.Device.history c.match-ran.host) = elim c.match-ran.branch [
      | in-Ok w ↦
          let told = w.print_summary-status in
          let new = g.H.Device.history told.new.host in
          let counts = w.in-Ok.counts in
          let counted : counts ≡ counts_of (replies_to shape script pairs) =
          subst (λ r. IfOk r (λ n. n ≡ counts_of (replies_to shape script pairs))) w.in-Ok.is (ran.ensures.counts t wanted last number can) in
          let ends = subst (λ r. OnOk r (EndsDrawn g.H.Device.tells old mid script engine ran.result.0)) w.in-Ok.is ran.ensures.ends in
          let text : summary_line c.args.count counts ≡ summary_of script shape pairs =
          ap (λ (x : ℕ × ReplyCounts). summary_line x.0 x.1) (λ i. (sym (length-drawn_lines c.args.seed 1 c.args.count) i, counted i)) in
          let part = at_last mid new (SaysPart (summary_line c.args.count counts) mid.world) (g.H.Device.sound told.new.host t) (told.ensures.moments t) in
          subst (λ h. P (g.H.Device.history h)) (sym w.host-is)
          (summary_outcome t wanted last number can start said unread lines ends new.world (summary_line c.args.count counts) text status
          (subst (λ (s : Status). (s ≡ Status.Done) ⊎ (s ≡ Status.Failed) ⊎ (s ≡ Status.Memory)) (sym w.status-is) told.ensures.cases)
          (λ e. told.ensures.done t (sym w.status-is ∙ e)) part (λ e. told.ensures.memory t (sym w.status-is ∙ e))
          (λ e. c.lines_said.ensures.done e ∙ sym (length-drawn_lines c.args.seed 1 c.args.count)) c.lines_said.ensures.none)
      | in-Err-Failed w ↦
          subst (λ h. P (g.H.Device.history h)) (sym w.host-is)
          (fault_outcome t wanted last number can start said unread lines tries status (inl w.status-is) (c.lines_said.ensures.none (λ d. (let clash : 3 ≡ 0 = ap code_of (sym w.status-is ∙ d) in omega (arith, clash)))))
      | in-Err-Memory w ↦
          subst (λ h. P (g.H.Device.history h)) (sym w.host-is)
          (fault_outcome t wanted last number can start said unread lines tries status (inr w.status-is) (c.lines_said.ensures.none (λ d. (let clash : 4 ≡ 0 = ap code_of (sym w.status-is ∙ d) in omega (arith, clash)))))
      | in-Err-BadPage w ↦
          absurd (ran.ensures.sound w.in-Err-BadPage.page (w.in-Err-BadPage.is ∙ ap Err (rw w.in-Err-BadPage.is at w.in-Err-BadPage.field-0-is)) t wanted last number can)
    ] in
    subst (λ (o : List ℕ). DrawnOutcomeIs script status start (g.H.Device.history c.match-ran.host).world shape pairs lines o) (sym c.close-order.ensures) ended

pub returns-clause-moments : goal.returns-clause-moments
returns-clause-moments g c t wanted last number start same can =
    let ran = c.run_drawn-engine in
    let old = g.H.Device.history c.args.host.now in
    let mid = g.H.Device.history ran.new.host in
    let engine = c.args.engine in
    let shape = engine.store.shape in
    let pairs = map_in engine old.world in
    let order = ran.result.0.order in
    let script = drawn_lines c.args.seed 1 c.args.count in
    let tries = ran.ensures.tries in
    let K : World → Type 0 = CrashHoldsDrawn wanted last number script start shape pairs order in
    let tried : AllMoments old mid K = tried_moments t wanted last number can start same tries in
    let all : AllMoments old (g.H.Device.history c.match-ran.host) K = elim c.match-ran.branch [
      | in-Ok w ↦
          let told = w.print_summary-status in
          let ends = subst (λ r. OnOk r (EndsDrawn g.H.Device.tells old mid script engine ran.result.0)) w.in-Ok.is ran.ensures.ends in
          subst (λ h. AllMoments old (g.H.Device.history h) K) (sym w.host-is)
          (ended_moments t wanted last number can ends start same (g.H.Device.history told.new.host) (summary_line c.args.count w.in-Ok.counts) tries (told.ensures.moments t))
      | in-Err-Failed w ↦ subst (λ h. AllMoments old (g.H.Device.history h) K) (sym w.host-is) tried
      | in-Err-Memory w ↦ subst (λ h. AllMoments old (g.H.Device.history h) K) (sym w.host-is) tried
      | in-Err-BadPage w ↦
          absurd (ran.ensures.sound w.in-Err-BadPage.page (w.in-Err-BadPage.is ∙ ap Err (rw w.in-Err-BadPage.is at w.in-Err-BadPage.field-0-is)) t wanted last number can)
    ] in
    subst (λ (o : List ℕ). AllMoments old (g.H.Device.history c.match-ran.host) (CrashHoldsDrawn wanted last number script start shape pairs o)) (sym c.close-order.ensures) all

pub returns-clause-leaves : goal.returns-clause-leaves
returns-clause-leaves g c t is wanted last number can =
    let ran = c.run_drawn-engine in
    let old = g.H.Device.history c.args.host.now in
    let mid = g.H.Device.history ran.new.host in
    let engine = c.args.engine in
    let shape = engine.store.shape in
    let pairs = map_in engine old.world in
    let script = drawn_lines c.args.seed 1 c.args.count in
    elim c.match-ran.branch [
      | in-Ok w ↦
          let told = w.print_summary-status in
          let text = summary_line c.args.count w.in-Ok.counts in
          let now = told.ensures.done t (sym w.status-is ∙ is) in
          let ends = subst (λ r. OnOk r (EndsDrawn g.H.Device.tells old mid script engine ran.result.0)) w.in-Ok.is ran.ensures.ends in
          subst (λ h. DrawnIsLeft wanted last number script (g.H.Device.history h).world shape pairs) (sym w.host-is)
          (subst (λ (x : World). DrawnIsLeft wanted last number script x shape pairs) (sym now) (ended_left t wanted last number can ends text))
      | in-Err-Failed w ↦ absurd (let clash : 0 ≡ 3 = ap code_of (sym is ∙ w.status-is) in omega (arith, clash))
      | in-Err-Memory w ↦ absurd (let clash : 0 ≡ 4 = ap code_of (sym is ∙ w.status-is) in omega (arith, clash))
      | in-Err-BadPage w ↦
          absurd (ran.ensures.sound w.in-Err-BadPage.page (w.in-Err-BadPage.is ∙ ap Err (rw w.in-Err-BadPage.is at w.in-Err-BadPage.field-0-is)) t wanted last number can)
    ]

pub returns-clause-config : goal.returns-clause-config
returns-clause-config g c t =
    let ran = c.run_drawn-engine in
    let old = g.H.Device.history c.args.host.now in
    let mid = g.H.Device.history ran.new.host in
    let K : World → Type 0 = SameConfig old.world in
    let kept : AllMoments old mid K = config_disk old mid (ran.ensures.tries.keeps.disk t) in
    elim c.match-ran.branch [
      | in-Ok w ↦
          let told = w.print_summary-status in
          subst (λ h. AllMoments old (g.H.Device.history h) K) (sym w.host-is)
          (config_then old mid (g.H.Device.history told.new.host) (g.H.Device.sound ran.new.host t) kept (config_say (summary_line c.args.count w.in-Ok.counts) mid (g.H.Device.history told.new.host) (told.ensures.moments t)))
      | in-Err-Failed w ↦ subst (λ h. AllMoments old (g.H.Device.history h) K) (sym w.host-is) kept
      | in-Err-Memory w ↦ subst (λ h. AllMoments old (g.H.Device.history h) K) (sym w.host-is) kept
      | in-Err-BadPage w ↦
          let told = w.print_found_page-status in
          subst (λ h. AllMoments old (g.H.Device.history h) K) (sym w.host-is)
          (config_then old mid (g.H.Device.history told.new.host) (g.H.Device.sound ran.new.host t) kept (config_met w.in-Err-BadPage.page mid (g.H.Device.history told.new.host) (told.ensures.moments t)))
    ]

pub returns-clause-damaged : goal.returns-clause-damaged
returns-clause-damaged g c t is =
    let engine = c.args.engine in
    let old = g.H.Device.history c.args.host.now in
    let mid = g.H.Device.history c.run_drawn-engine.new.host in
    let script = drawn_lines c.args.seed 1 c.args.count in
    elim c.match-ran.branch [
      | in-Ok w ↦
          absurd (three_arent c.match-ran.status Status.Done Status.Damaged 0 5 (subst (λ (s : Status). (s ≡ Status.Done) ⊎ (s ≡ Status.Failed) ⊎ (s ≡ Status.Memory)) (sym w.status-is) w.print_summary-status.ensures.cases)
          refl refl (λ e. omega (arith, e)) (λ e. omega (arith, e)) (λ e. omega (arith, e)) is)
      | in-Err-Failed w ↦ absurd (let clash : 5 ≡ 3 = ap code_of (sym is ∙ w.status-is) in omega (arith, clash))
      | in-Err-Memory w ↦ absurd (let clash : 5 ≡ 4 = ap code_of (sym is ∙ w.status-is) in omega (arith, clash))
      | in-Err-BadPage w ↦
          let told = w.print_found_page-status in
          let line = told.ensures.damaged t (sym w.status-is ∙ is) in
          let page = w.in-Err-BadPage.page in
          let it_meets = c.run_drawn-engine.ensures.meets t page (w.in-Err-BadPage.is ∙ ap Err (rw w.in-Err-BadPage.is at w.in-Err-BadPage.field-0-is)) in
          subst (λ h. IsFoundByLine engine.store.shape (pages_in_frames engine.store old.world) script (g.H.Device.history h).world) (sym w.host-is)
          (record {
            left = mid.world;
            text = line.0;
            met = page;
            meets = it_meets;
            names = line.1;
            says = line.2;
          })
    ]

pub returns-clause-short : goal.returns-clause-short
returns-clause-short g c is =
    elim c.match-ran.branch [
      | in-Ok w ↦ summary_short w.print_summary-status.result w.print_summary-status.ensures.cases (sym w.status-is ∙ is)
      | in-Err-Failed w ↦ (let clash : 6 ≡ 3 = ap code_of (sym is ∙ w.status-is) in omega (arith, clash))
      | in-Err-Memory w ↦ (let clash : 6 ≡ 4 = ap code_of (sym is ∙ w.status-is) in omega (arith, clash))
      | in-Err-BadPage w ↦ page_short w.print_found_page-status.result w.print_found_page-status.ensures.cases (sym w.status-is ∙ is)
    ]

pub returns-clause-cause : goal.returns-clause-cause
returns-clause-cause g c =
    let ran = c.run_drawn-engine in
    let at = g.H.Device.state in
    let old = at c.args.host.now in
    let mid = at ran.new.host in
    let later : IsLaterState old mid = ran.ensures.cause.later in
    let ended : HasScriptCause c.match-ran.status old (at c.match-ran.host) = elim c.match-ran.branch [
      | in-Ok w ↦
          let told = w.print_summary-status in
          subst (λ s. HasScriptCause s old (at c.match-ran.host)) (sym w.status-is)
          (subst (λ h. HasScriptCause told.result old (at h)) (sym w.host-is) (summary_cause told.result old mid (at told.new.host) later told.ensures.cases told.ensures.failed told.ensures.state))
      | in-Err-Failed w ↦
          subst (λ s. HasScriptCause s old (at c.match-ran.host)) (sym w.status-is)
          (subst (λ h. HasScriptCause Status.Failed old (at h)) (sym w.host-is) (ends_failed old mid (ran.ensures.cause.failed (w.in-Err-Failed.is ∙ ap Err (rw w.in-Err-Failed.is at w.in-Err-Failed.field-0-is))) later))
      | in-Err-Memory w ↦
          subst (λ s. HasScriptCause s old (at c.match-ran.host)) (sym w.status-is)
          (subst (λ h. HasScriptCause Status.Memory old (at h)) (sym w.host-is) (ends_memory old mid later))
      | in-Err-BadPage w ↦
          let told = w.print_found_page-status in
          subst (λ s. HasScriptCause s old (at c.match-ran.host)) (sym w.status-is)
          (subst (λ h. HasScriptCause told.result old (at h)) (sym w.host-is) (ends_damaged told.result old mid (at told.new.host) later told.ensures.cases told.ensures.failed told.ensures.state))
    ] in
    ended
