-- A record that changes no map leaves everything as it is.
use Rattle.std.proofs.Common.{◌≡◌, Option, None, refl, subst}
use Rattle.pm_records.specs.Records.{Restart, Seal, Snapshot, Delta, CpBegin, Record, record_of}
use Rattle.pm_core.specs.Replays.{replayed}
use Rattle.pm_engine.specs.declared.engine_replay.Applied.TheVariants as applied
use Rattle.pm_engine.specs.Engines.{map_in}
use Rattle.pm_engine.specs.Replays.{CanBeRefused}
use Rattle.pm_engine.proofs.AppliedRecords.{applied_nothing, applied_quiet}
use Rattle.pm_engine.proofs.ReappliedRecords.{goes_on_same}
use Rattle.pm_engine.proofs.engine.Engine.apply_record.Goals as goal

pub returns-in-Ok-Restart-clause-applies : goal.returns-in-Ok-Restart-clause-applies
returns-in-Ok-Restart-clause-applies g c =
    let old = g.H.Device.history c.args.host.now in
    applied_quiet g.H.Device.tells c.args.self old (record_of c.args.kind c.args.payload.now) (Restart c.in-Ok-Restart.field-0-0)
    (goes_on_same g.H.Device.tells c.args.self old (λ t. g.H.Device.sound c.args.host.now t) c.requires.end c.requires.clean) c.requires.open
    (rw c.in-Ok-Restart.field-0-is at c.in-Ok-Restart.ensures.exact) refl

pub returns-in-Ok-Seal-clause-applies : goal.returns-in-Ok-Seal-clause-applies
returns-in-Ok-Seal-clause-applies g c =
    let old = g.H.Device.history c.args.host.now in
    applied_quiet g.H.Device.tells c.args.self old (record_of c.args.kind c.args.payload.now) Seal
    (goes_on_same g.H.Device.tells c.args.self old (λ t. g.H.Device.sound c.args.host.now t) c.requires.end c.requires.clean) c.requires.open
    (rw c.in-Ok-Seal.field-0-is at c.in-Ok-Seal.ensures.exact) refl

pub returns-in-Ok-Snapshot-clause-applies : goal.returns-in-Ok-Snapshot-clause-applies
returns-in-Ok-Snapshot-clause-applies g c =
    let old = g.H.Device.history c.args.host.now in
    applied_quiet g.H.Device.tells c.args.self old (record_of c.args.kind c.args.payload.now) (Snapshot c.in-Ok-Snapshot.field-0-0 c.in-Ok-Snapshot.field-0-1.now)
    (goes_on_same g.H.Device.tells c.args.self old (λ t. g.H.Device.sound c.args.host.now t) c.requires.end c.requires.clean) c.requires.open
    (rw c.in-Ok-Snapshot.field-0-is at c.in-Ok-Snapshot.ensures.exact) refl

pub returns-in-Ok-Delta-clause-applies : goal.returns-in-Ok-Delta-clause-applies
returns-in-Ok-Delta-clause-applies g c =
    let old = g.H.Device.history c.args.host.now in
    applied_quiet g.H.Device.tells c.args.self old (record_of c.args.kind c.args.payload.now) (Delta c.in-Ok-Delta.field-0-0 c.in-Ok-Delta.field-0-1.now)
    (goes_on_same g.H.Device.tells c.args.self old (λ t. g.H.Device.sound c.args.host.now t) c.requires.end c.requires.clean) c.requires.open
    (rw c.in-Ok-Delta.field-0-is at c.in-Ok-Delta.ensures.exact) refl

pub returns-in-Ok-CpBegin-clause-applies : goal.returns-in-Ok-CpBegin-clause-applies
returns-in-Ok-CpBegin-clause-applies g c =
    let old = g.H.Device.history c.args.host.now in
    applied_quiet g.H.Device.tells c.args.self old (record_of c.args.kind c.args.payload.now) (CpBegin c.in-Ok-CpBegin.field-0-0 c.in-Ok-CpBegin.field-0-1)
    (goes_on_same g.H.Device.tells c.args.self old (λ t. g.H.Device.sound c.args.host.now t) c.requires.end c.requires.clean) c.requires.open
    (rw c.in-Ok-CpBegin.field-0-is at c.in-Ok-CpBegin.ensures.exact) refl

pub returns-in-Err-clause-applies : goal.returns-in-Err-clause-applies
returns-in-Err-clause-applies g c =
    let tells = g.H.Device.tells in
    let old = g.H.Device.history c.args.host.now in
    applied_nothing tells c.args.self old (record_of c.args.kind c.args.payload.now) applied.Bad
    (goes_on_same tells c.args.self old (λ t. g.H.Device.sound c.args.host.now t) c.requires.end c.requires.clean) c.requires.open
    (subst (λ (o : Option Record). replayed c.args.self.store.shape o (map_in c.args.self old.world) ≡ None) c.in-Err.ensures.exact refl)
    (λ is. subst CanBeRefused c.in-Err.ensures.exact tt)
