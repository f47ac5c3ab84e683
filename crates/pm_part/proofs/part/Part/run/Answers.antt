use Rattle.std.proofs.Common.{arith}
use Rattle.pm_pages.proofs.EditedPages.{looks_more}
use Rattle.std.proofs.Common.{◌≡◌, ℕ, rules, subst}
use Rattle.std.proofs.lemmas.Result.{on_ok_weaker}
use Rattle.pm_model.specs.declared.line.Cmd.{Cmd}
use Rattle.pm_model.specs.declared.line.Cmd.TheVariants.{Put, Get, Remove}
use Rattle.pm_part.specs.Puts.{IsPartFor}
use Rattle.pm_part.specs.Runs.{RunsCmd, KeepsPages}
use Rattle.pm_part.specs.Faults.{HasPartCause, IsFaultOf}
use Rattle.pm_part.proofs.part.Part.run.Goals as goal

pub returns-in-Put-clause-runs : goal.returns-in-Put-clause-runs
returns-in-Put-clause-runs g c = λ t is part.
    let a = g.P.Pages.seen c.args.pages.now in
    let b = g.P.Pages.seen c.run_put.new.pages in
    let shape = c.args.self.now.shape in
    let for : IsPartFor shape a shape.max_rows c.bytes.result.now = search rules in
    let cmd : Put c.in-Put.cache c.bytes.result.now c.bytes-in-Put.result.now ≡ c.args.cmd.now = search rules in
    on_ok_weaker c.run_put.result (λ both. (both.0, subst (λ (q : ℕ × Cmd). RunsCmd shape q.0 q.1 a.pages b.pages c.args.replies.now c.run_put.new.replies) {y = (c.args.self.now.part, c.args.cmd.now)} (λ k. (part k, cmd k)) both.1)) (c.run_put.ensures.puts t shape for)

pub returns-in-Put-clause-cause : goal.returns-in-Put-clause-cause
returns-in-Put-clause-cause g c =
    let T = g.P.Pages.tells in
    let a = g.P.Pages.seen c.args.pages.now in
    let b = g.P.Pages.seen c.run_put.new.pages in
    let cmd : Put c.in-Put.cache c.bytes.result.now c.bytes-in-Put.result.now ≡ c.args.cmd.now = search rules in
    subst (λ (q : Cmd). HasPartCause T a b (IsFaultOf T b q) c.run_put.result) cmd c.run_put.ensures.cause

pub returns-in-Get-clause-cause : goal.returns-in-Get-clause-cause
returns-in-Get-clause-cause g c =
    let T = g.P.Pages.tells in
    let a = g.P.Pages.seen c.args.pages.now in
    let b = g.P.Pages.seen c.run_get.new.pages in
    let cmd : Get c.in-Get.cache c.bytes-in-Get.result.now ≡ c.args.cmd.now = search rules in
    subst (λ (q : Cmd). HasPartCause T a b (IsFaultOf T b q) c.run_get.result) cmd c.run_get.ensures.cause

pub returns-in-Remove-clause-cause : goal.returns-in-Remove-clause-cause
returns-in-Remove-clause-cause g c =
    let T = g.P.Pages.tells in
    let a = g.P.Pages.seen c.args.pages.now in
    let b = g.P.Pages.seen c.run_remove.new.pages in
    let cmd : Remove c.in-Remove.cache c.bytes-in-Remove.result.now ≡ c.args.cmd.now = search rules in
    subst (λ (q : Cmd). HasPartCause T a b (IsFaultOf T b q) c.run_remove.result) cmd c.run_remove.ensures.cause

pub returns-in-Put-clause-keeps : goal.returns-in-Put-clause-keeps
returns-in-Put-clause-keeps g c =
    let T = g.P.Pages.tells in
    let a = g.P.Pages.seen c.args.pages.now in
    let b = g.P.Pages.seen c.run_put.new.pages in
    let cmd : Put c.in-Put.cache c.bytes.result.now c.bytes-in-Put.result.now ≡ c.args.cmd.now = search rules in
    subst (λ (q : Cmd). KeepsPages T q a b c.args.replies.now c.run_put.new.replies c.run_put.result) cmd (record { gets = λ get. absurd get; refused = c.run_put.ensures.refused })

pub returns-in-Get-clause-keeps : goal.returns-in-Get-clause-keeps
returns-in-Get-clause-keeps g c =
    let looks = c.run_get.ensures.looks in
    record {
      gets = λ get. looks;
      refused = on_ok_weaker c.run_get.result (λ changes refused. looks_more g.P.Pages.tells (g.P.Pages.seen c.args.pages.now) (g.P.Pages.seen c.run_get.new.pages) 10 32 (omega arith) looks) c.run_get.ensures.changes;
    }

pub returns-in-Remove-clause-keeps : goal.returns-in-Remove-clause-keeps
returns-in-Remove-clause-keeps g c =
    let T = g.P.Pages.tells in
    let a = g.P.Pages.seen c.args.pages.now in
    let b = g.P.Pages.seen c.run_remove.new.pages in
    let cmd : Remove c.in-Remove.cache c.bytes-in-Remove.result.now ≡ c.args.cmd.now = search rules in
    subst (λ (q : Cmd). KeepsPages T q a b c.args.replies.now c.run_remove.new.replies c.run_remove.result) cmd (record { gets = λ get. absurd get; refused = c.run_remove.ensures.refused })
