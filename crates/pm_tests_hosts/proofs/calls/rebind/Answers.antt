-- A folder stays bound.
use Rattle.pm_tests_hosts.proofs.Rebinding.{usable_rebound}
use Rattle.pm_tests_hosts.proofs.calls.rebind.Goals as goal

pub returns : goal.returns
returns g c = usable_rebound (g.H.Device.state c.args.host.now) (g.H.Device.state c.bind.new.self) c.args.dir.now c.bind.result c.requires c.bind.ensures.binds
