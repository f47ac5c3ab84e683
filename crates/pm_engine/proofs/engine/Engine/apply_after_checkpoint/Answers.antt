-- A checkpoint is made, and then the record is applied.
use Rattle.std.proofs.Common.{Bool, Result, Err, refl, sym, subst}
use Rattle.pm_types.specs.declared.fault.StoreFault.{StoreFault}
use Rattle.pm_records.specs.Records.{record_of}
use Rattle.pm_engine.specs.FrameReplayCheckpoints.{ReplaysRecord}
use Rattle.pm_engine.proofs.AppliedRecords.{plain_no_page}
use Rattle.pm_engine.proofs.ReplayedRecords.{record_after, record_unchecked}
use Rattle.pm_engine.proofs.engine.Engine.apply_after_checkpoint.Goals as goal

pub returns-in-Err-clause-replays : goal.returns-in-Err-clause-replays
returns-in-Err-clause-replays g c =
    let h0 = g.H.Device.history c.args.host.now in
    let h1 = g.H.Device.history c.checkpoint_from.new.host in
    record_unchecked g.H.Device.tells c.args.at (record_of c.args.kind c.args.payload.now) c.args.self c.checkpoint_from.new.self c.checkpoint_from.new.self h0 h1 h1 (λ t. g.H.Device.sound c.checkpoint_from.new.host t) c.in-Err.fault (Err c.in-Err.fault) refl
    (plain_no_page {T = Bool} (Err c.in-Err.fault) c.in-Err.ensures.cause.plain)
    c.in-Err.ensures.checks

pub returns-in-Ok-clause-replays : goal.returns-in-Ok-clause-replays
returns-in-Ok-clause-replays g c =
    let tells = g.H.Device.tells in
    let found = record_of c.args.kind c.args.payload.now in
    let ran = c.apply_record-engine in
    let h0 = g.H.Device.history c.args.host.now in
    let h1 = g.H.Device.history c.checkpoint_from.new.host in
    let h2 = g.H.Device.history ran.new.host in
    subst (λ (r : Result Bool StoreFault). ReplaysRecord tells c.args.at found c.args.self ran.result.0 h0 h2 r) (sym c.applied_once.ensures)
    (record_after tells c.args.at found c.args.self c.checkpoint_from.new.self ran.result.0 h0 h1 h2 (λ t. g.H.Device.sound c.checkpoint_from.new.host t) c.in-Ok.ensures.checks ran.result.1 ran.ensures.applies)
