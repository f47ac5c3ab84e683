use Rattle.std.proofs.Common.{◌+◌, ◌≡◌, Ok, sym, subst}
use Rattle.std.specs.Prelude.{IfErr, IfOk}
use Rattle.pm_types.specs.declared.fault.OpenFault.TheVariants as opening
use Rattle.pm_types.specs.declared.fault.StoreFault.TheVariants.{Failed}
use Rattle.pm_disk.proofs.Chain.{joined}
use Rattle.pm_records.specs.LogFiles.{contents}
use Rattle.pm_core.proofs.OnlyDisk.{then_disk}
use Rattle.pm_engine.specs.Engines.{FrameRunning}
use Rattle.pm_engine.specs.FrameOpenings.{IsFreshIn, IsReadyOver, OpensRestored, OpensRunningIn}
use Rattle.pm_engine.specs.LogCounts.{CountsAtLeast, log_bytes}
use Rattle.pm_engine.specs.Openings.{IsPlainOpen}
use Rattle.pm_engine.specs.Replays.{CrashHoldsMap}
use Rattle.pm_engine.proofs.SettledOpenings.{failed_over, further_moments, settled_counts, settled_disk, settled_fresh, settled_moments, settled_opens, settled_over, settled_ready}
use Rattle.pm_engine.proofs.frame_opening.open_restored.Goals as goal

pub returns-in-Err-clause-any : goal.returns-in-Err-clause-any
returns-in-Err-clause-any g c t =
    let config = c.args.config.now in
    let base = c.args.base in
    subst (λ r. OpensRestored g.H.Device.tells config.shape base.mark base.replay base.log_end base.log (g.H.Device.history c.args.host.now).world (g.H.Device.history c.open_replayed.new.host).world r) c.in-Err.is (c.open_replayed.ensures.any t)

pub returns-in-Err-clause-plain : goal.returns-in-Err-clause-plain
returns-in-Err-clause-plain g c t last highest wanted told pairs s holding =
    subst (λ r. IfErr r (λ fault. IsPlainOpen (opening.Store fault))) c.in-Err.is (c.open_replayed.ensures.plain t last highest wanted told pairs s holding)

pub returns-in-Err-clause-within : goal.returns-in-Err-clause-within
returns-in-Err-clause-within g c t last highest wanted told pairs s holding =
    further_moments last highest wanted c.args.config.now.shape pairs (g.H.Device.history c.args.host.now) (g.H.Device.history c.open_replayed.new.host) (c.open_replayed.ensures.within t last highest wanted told pairs s holding)

pub returns-in-Ok-settle-clause-fresh : goal.returns-in-Ok-settle-clause-fresh
returns-in-Ok-settle-clause-fresh g c =
    let tells = g.H.Device.tells in
    let config = c.args.config.now in
    let base = c.args.base in
    let old = g.H.Device.history c.args.host.now in
    let mid = g.H.Device.history c.open_replayed.new.host in
    let new = g.H.Device.history c.settle.new.host in
    let before = c.in-Ok.engine in
    let now = c.settle.new.self in
    let settles = c.settle.ensures.settles in
    let fresh : IsFreshIn config before = (subst (λ r. IfOk r (λ (e : FrameRunning). IsFreshIn config e × (tells → IsReadyOver e mid.world))) c.in-Ok.is c.open_replayed.ensures.fresh).0 in
    (settled_fresh tells mid new config before now c.settle.result settles c.in-Ok-settle.is fresh, λ t. settled_ready tells mid new config before now c.settle.result settles c.in-Ok-settle.is t)

pub returns-in-Ok-settle-clause-counted : goal.returns-in-Ok-settle-clause-counted
returns-in-Ok-settle-clause-counted g c t =
    let tells = g.H.Device.tells in
    let config = c.args.config.now in
    let base = c.args.base in
    let old = g.H.Device.history c.args.host.now in
    let mid = g.H.Device.history c.open_replayed.new.host in
    let new = g.H.Device.history c.settle.new.host in
    let before = c.in-Ok.engine in
    let now = c.settle.new.self in
    let settles = c.settle.ensures.settles in
    let found : CountsAtLeast before.began.found (log_bytes (contents old.world.log) base.replay base.log_end) = subst (λ r. IfOk r (λ (e : FrameRunning). CountsAtLeast e.began.found (log_bytes (contents old.world.log) base.replay base.log_end))) c.in-Ok.is (c.open_replayed.ensures.found t) in
    settled_counts tells mid new config before now c.settle.result settles c.in-Ok-settle.is (contents old.world.log) base.replay base.log_end found

pub returns-in-Ok-settle-clause-any : goal.returns-in-Ok-settle-clause-any
returns-in-Ok-settle-clause-any g c t =
    let tells = g.H.Device.tells in
    let config = c.args.config.now in
    let base = c.args.base in
    let old = g.H.Device.history c.args.host.now in
    let mid = g.H.Device.history c.open_replayed.new.host in
    let new = g.H.Device.history c.settle.new.host in
    let before = c.in-Ok.engine in
    let now = c.settle.new.self in
    let settles = c.settle.ensures.settles in
    let restored : OpensRestored tells config.shape base.mark base.replay base.log_end base.log old.world mid.world (Ok before) = subst (λ r. OpensRestored tells config.shape base.mark base.replay base.log_end base.log old.world mid.world r) c.in-Ok.is (c.open_replayed.ensures.any t) in
    settled_over tells mid new config before now c.settle.result settles c.in-Ok-settle.is config.shape base.mark base.replay base.log_end base.log old.world t restored

pub returns-in-Ok-settle-clause-opened : goal.returns-in-Ok-settle-clause-opened
returns-in-Ok-settle-clause-opened g c t last highest wanted told pairs s holding =
    let tells = g.H.Device.tells in
    let config = c.args.config.now in
    let base = c.args.base in
    let old = g.H.Device.history c.args.host.now in
    let mid = g.H.Device.history c.open_replayed.new.host in
    let new = g.H.Device.history c.settle.new.host in
    let before = c.in-Ok.engine in
    let now = c.settle.new.self in
    let settles = c.settle.ensures.settles in
    let opened : OpensRunningIn last highest wanted told config.shape pairs before mid.world = subst (λ r. IfOk r (λ (e : FrameRunning). OpensRunningIn last highest wanted told config.shape pairs e mid.world)) c.in-Ok.is (c.open_replayed.ensures.opened t last highest wanted told pairs s holding) in
    settled_opens tells mid new config before now c.settle.result settles c.in-Ok-settle.is last highest wanted told config.shape pairs opened holding.last_fits holding.highest_fits t

pub returns-in-Ok-settle-clause-within : goal.returns-in-Ok-settle-clause-within
returns-in-Ok-settle-clause-within g c t last highest wanted told pairs s holding =
    let tells = g.H.Device.tells in
    let config = c.args.config.now in
    let base = c.args.base in
    let old = g.H.Device.history c.args.host.now in
    let mid = g.H.Device.history c.open_replayed.new.host in
    let new = g.H.Device.history c.settle.new.host in
    let before = c.in-Ok.engine in
    let now = c.settle.new.self in
    let settles = c.settle.ensures.settles in
    let opened : OpensRunningIn last highest wanted told config.shape pairs before mid.world = subst (λ r. IfOk r (λ (e : FrameRunning). OpensRunningIn last highest wanted told config.shape pairs e mid.world)) c.in-Ok.is (c.open_replayed.ensures.opened t last highest wanted told pairs s holding) in
    joined old mid new (CrashHoldsMap (last + 1 + 1) (highest + 1) wanted config.shape pairs)
    (further_moments last highest wanted config.shape pairs old mid (c.open_replayed.ensures.within t last highest wanted told pairs s holding))
    (settled_moments tells mid new config before now c.settle.result settles last highest wanted told config.shape pairs opened holding.last_fits holding.highest_fits t)

pub returns-in-Ok-settle-clause-disk : goal.returns-in-Ok-settle-clause-disk
returns-in-Ok-settle-clause-disk g c t =
    let tells = g.H.Device.tells in
    let config = c.args.config.now in
    let base = c.args.base in
    let old = g.H.Device.history c.args.host.now in
    let mid = g.H.Device.history c.open_replayed.new.host in
    let new = g.H.Device.history c.settle.new.host in
    let before = c.in-Ok.engine in
    let now = c.settle.new.self in
    let settles = c.settle.ensures.settles in
    then_disk old mid new (g.H.Device.sound c.open_replayed.new.host t) (c.open_replayed.ensures.disk t) (settled_disk tells mid new config before now c.settle.result settles t)

pub returns-in-Err-settle-clause-within : goal.returns-in-Err-settle-clause-within
returns-in-Err-settle-clause-within g c t last highest wanted told pairs s holding =
    let tells = g.H.Device.tells in
    let config = c.args.config.now in
    let base = c.args.base in
    let old = g.H.Device.history c.args.host.now in
    let mid = g.H.Device.history c.open_replayed.new.host in
    let new = g.H.Device.history c.settle.new.host in
    let before = c.in-Ok.engine in
    let now = c.settle.new.self in
    let settles = c.settle.ensures.settles in
    let opened : OpensRunningIn last highest wanted told config.shape pairs before mid.world = subst (λ r. IfOk r (λ (e : FrameRunning). OpensRunningIn last highest wanted told config.shape pairs e mid.world)) c.in-Ok.is (c.open_replayed.ensures.opened t last highest wanted told pairs s holding) in
    joined old mid new (CrashHoldsMap (last + 1 + 1) (highest + 1) wanted config.shape pairs)
    (further_moments last highest wanted config.shape pairs old mid (c.open_replayed.ensures.within t last highest wanted told pairs s holding))
    (settled_moments tells mid new config before now c.settle.result settles last highest wanted told config.shape pairs opened holding.last_fits holding.highest_fits t)

pub returns-in-Err-settle-clause-disk : goal.returns-in-Err-settle-clause-disk
returns-in-Err-settle-clause-disk g c t =
    let tells = g.H.Device.tells in
    let config = c.args.config.now in
    let base = c.args.base in
    let old = g.H.Device.history c.args.host.now in
    let mid = g.H.Device.history c.open_replayed.new.host in
    let new = g.H.Device.history c.settle.new.host in
    let before = c.in-Ok.engine in
    let now = c.settle.new.self in
    let settles = c.settle.ensures.settles in
    then_disk old mid new (g.H.Device.sound c.open_replayed.new.host t) (c.open_replayed.ensures.disk t) (settled_disk tells mid new config before now c.settle.result settles t)

pub returns-in-Err-settle-clause-any : goal.returns-in-Err-settle-clause-any
returns-in-Err-settle-clause-any g c t =
    let tells = g.H.Device.tells in
    let config = c.args.config.now in
    let base = c.args.base in
    let old = g.H.Device.history c.args.host.now in
    let mid = g.H.Device.history c.open_replayed.new.host in
    let new = g.H.Device.history c.settle.new.host in
    let before = c.in-Ok.engine in
    let now = c.settle.new.self in
    let settles = c.settle.ensures.settles in
    failed_over tells config.shape base.mark base.replay base.log_end base.log old.world new.world c.in-Err-settle.fault (subst (λ r. IfErr r (λ fault. fault ≡ Failed)) c.in-Err-settle.is settles.plain)

pub returns-in-Err-settle-clause-plain : goal.returns-in-Err-settle-clause-plain
returns-in-Err-settle-clause-plain g c t last highest wanted told pairs s holding =
    let tells = g.H.Device.tells in
    let config = c.args.config.now in
    let base = c.args.base in
    let old = g.H.Device.history c.args.host.now in
    let mid = g.H.Device.history c.open_replayed.new.host in
    let new = g.H.Device.history c.settle.new.host in
    let before = c.in-Ok.engine in
    let now = c.settle.new.self in
    let settles = c.settle.ensures.settles in
    subst (λ f. IsPlainOpen (opening.Store f)) (sym (subst (λ r. IfErr r (λ fault. fault ≡ Failed)) c.in-Err-settle.is settles.plain)) tt
