-- The record is applied, or a checkpoint is made before it is.
use Rattle.std.proofs.Common.{Result, Ok, Err, refl, ap, ◌∙◌, subst}
use Rattle.pm_types.specs.declared.fault.StoreFault.{StoreFault}
use Rattle.pm_records.specs.Records.{record_of}
use Rattle.pm_engine.specs.declared.engine_replay.Applied.{Applied}
use Rattle.pm_engine.specs.declared.engine_replay.Applied.TheVariants as applied
use Rattle.pm_engine.specs.EngineReplays.{AppliesRecord}
use Rattle.pm_engine.proofs.ReplayedRecords.{record_once, record_halted}
use Rattle.pm_engine.proofs.engine.Engine.apply_at.Goals as goal

pub returns-in-Err-clause-replays : goal.returns-in-Err-clause-replays
returns-in-Err-clause-replays g c =
    let tells = g.H.Device.tells in
    let found = record_of c.args.kind c.args.payload.now in
    let ran = c.apply_record-engine in
    let h0 = g.H.Device.history c.args.host.now in
    let h1 = g.H.Device.history ran.new.host in
    record_once tells c.args.at found c.args.self ran.result.0 h0 h1 (Err c.in-Err.fault)
    (subst (λ (r : Result Applied StoreFault). AppliesRecord tells found c.args.self ran.result.0 h0 h1 r) c.in-Err.is ran.ensures.applies)

pub returns-in-Done-clause-replays : goal.returns-in-Done-clause-replays
returns-in-Done-clause-replays g c =
    let tells = g.H.Device.tells in
    let found = record_of c.args.kind c.args.payload.now in
    let ran = c.apply_record-engine in
    let h0 = g.H.Device.history c.args.host.now in
    let h1 = g.H.Device.history ran.new.host in
    record_once tells c.args.at found c.args.self ran.result.0 h0 h1 (Ok applied.Done)
    (subst (λ (r : Result Applied StoreFault). AppliesRecord tells found c.args.self ran.result.0 h0 h1 r) (c.in-Ok.is ∙ ap (λ (a : Applied). Ok a) c.in-Done.is) ran.ensures.applies)

pub returns-in-Bad-clause-replays : goal.returns-in-Bad-clause-replays
returns-in-Bad-clause-replays g c =
    let tells = g.H.Device.tells in
    let found = record_of c.args.kind c.args.payload.now in
    let ran = c.apply_record-engine in
    let h0 = g.H.Device.history c.args.host.now in
    let h1 = g.H.Device.history ran.new.host in
    record_once tells c.args.at found c.args.self ran.result.0 h0 h1 (Ok applied.Bad)
    (subst (λ (r : Result Applied StoreFault). AppliesRecord tells found c.args.self ran.result.0 h0 h1 r) (c.in-Ok.is ∙ ap (λ (a : Applied). Ok a) c.in-Bad.is) ran.ensures.applies)

pub returns-in-Halted-clause-replays : goal.returns-in-Halted-clause-replays
returns-in-Halted-clause-replays g c =
    let tells = g.H.Device.tells in
    let found = record_of c.args.kind c.args.payload.now in
    let ran = c.apply_record-engine in
    let h0 = g.H.Device.history c.args.host.now in
    let h1 = g.H.Device.history ran.new.host in
    let h2 = g.H.Device.history c.apply_after_checkpoint.new.host in
    let x = subst (λ (r : Result Applied StoreFault). AppliesRecord tells found c.args.self ran.result.0 h0 h1 r) (c.in-Ok.is ∙ ap (λ (a : Applied). Ok a) c.in-Halted.is) ran.ensures.applies in
    record_halted tells c.args.at found c.args.self ran.result.0 c.apply_after_checkpoint.result.0 h0 h1 h2 (λ t. g.H.Device.sound ran.new.host t) x.goes_on x.is_open (x.unlogged refl) (λ t. x.refused t refl) (λ t well. (x.over_well_formed t well).applies)
    c.apply_after_checkpoint.result.1 c.apply_after_checkpoint.ensures.replays (λ t may_change allows. (x.meets t may_change allows).keeps x.is_open)
