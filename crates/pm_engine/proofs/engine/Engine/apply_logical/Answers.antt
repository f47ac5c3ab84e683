-- The command of a logical record is applied again, and what became of the record follows from how it was answered.
use Rattle.std.proofs.Common.{Bool, Some, Result, Err, refl, sym, ap, ◌∙◌, subst}
use Rattle.std.specs.Prelude.{◌==◌, IfErr}
use Rattle.pm_types.specs.declared.fault.StoreFault.{StoreFault}
use Rattle.pm_types.specs.declared.fault.StoreFault.TheVariants.{Memory}
use Rattle.pm_types.specs.declared.fault.Lack.TheVariants.{Bytes}
use Rattle.pm_records.specs.declared.limits.TheConstants.{PUT}
use Rattle.pm_records.specs.Records.{Logical}
use Rattle.pm_engine.specs.declared.engine_replay.Applied.{Applied}
use Rattle.pm_engine.specs.declared.frame_lines.Stop.{Stop}
use Rattle.pm_engine.specs.Batches.{IsPlainFault}
use Rattle.pm_engine.specs.EngineReplays.{AppliesRecord, EvaluatesAgain}
use Rattle.pm_engine.specs.FrameStores.{pages_in_frames}
use Rattle.pm_engine.proofs.AppliedRecords.{applied_record, applied_fault, plain_keeps, plain_no_page}
use Rattle.pm_engine.proofs.MetPages.{kept_same}
use Rattle.pm_engine.proofs.ReappliedRecords.{goes_on_same}
use Rattle.pm_engine.proofs.Results.{if_ok_holds}
use Rattle.pm_engine.proofs.engine.Engine.apply_logical.Goals as goal

pub returns-clause-applies : goal.returns-clause-applies
returns-clause-applies g c =
    let tells = g.H.Device.tells in
    let found = Some (Logical c.args.op c.args.cache c.args.key.now c.args.value.now) in
    let ran = c.apply_command-engine in
    let old = g.H.Device.history c.args.host.now in
    let new = g.H.Device.history ran.new.host in
    let answer = c.in-Ok-answer.answer in
    let x = if_ok_holds ran.result.1 answer (EvaluatesAgain tells c.in-Ok.cmd c.args.self ran.result.0 old.world new.world c.prepare.new.replies ran.new.replies) c.in-Ok-answer.is ran.ensures.answers in
    subst (λ (r : Result Applied StoreFault). AppliesRecord tells found c.args.self ran.result.0 old new r) (sym c.applied_by.ensures)
    (applied_record tells c.in-Ok.cmd c.args.self ran.result.0 old new c.prepare.new.replies ran.new.replies answer x ran.ensures.goes_on (c.args.op == PUT) c.args.op c.args.cache c.args.key.now c.args.value.now refl c.in-Ok.ensures.command)

pub returns-in-Err-answer-clause-applies : goal.returns-in-Err-answer-clause-applies
returns-in-Err-answer-clause-applies g c =
    let tells = g.H.Device.tells in
    let found = Some (Logical c.args.op c.args.cache c.args.key.now c.args.value.now) in
    let ran = c.apply_command-engine in
    let old = g.H.Device.history c.args.host.now in
    let new = g.H.Device.history ran.new.host in
    let fault = c.in-Err-answer.fault in
    let plain : IsPlainFault fault = subst (λ (r : Result (Result Bool Stop) StoreFault). IfErr r IsPlainFault) c.in-Err-answer.is ran.ensures.cause.plain in
    applied_fault tells found c.args.self ran.result.0 old new fault ran.ensures.goes_on (plain_no_page {T = Applied} (Err fault) plain)
    (plain_keeps tells c.args.self ran.result.0 old.world new.world fault plain
    (λ lack memory. ran.ensures.unchanged lack (c.in-Err-answer.is ∙ ap (λ (f : StoreFault). Err f) memory))
    (λ failed. ran.ensures.closed (c.in-Err-answer.is ∙ ap (λ (f : StoreFault). Err f) failed)))

pub returns-in-Err-clause-applies : goal.returns-in-Err-clause-applies
returns-in-Err-clause-applies g c =
    let old = g.H.Device.history c.args.host.now in
    applied_fault g.H.Device.tells (Some (Logical c.args.op c.args.cache c.args.key.now c.args.value.now)) c.args.self c.args.self old old (Memory Bytes)
    (goes_on_same g.H.Device.tells c.args.self old (λ t. g.H.Device.sound c.args.host.now t) c.requires.end c.requires.clean) (λ id is. absurd cc)
    (λ t may_change on. kept_same may_change (pages_in_frames c.args.self.store old.world))
