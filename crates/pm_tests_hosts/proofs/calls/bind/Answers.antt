-- A folder is bound.
use Rattle.pm_tests_hosts.proofs.Rebinding.{usable_on_ok}
use Rattle.pm_tests_hosts.proofs.calls.bind.Goals as goal

pub returns : goal.returns
returns g c = usable_on_ok (g.H.Device.state c.args.host.now) (g.H.Device.state c.bind.new.self) _ c.bind.result c.requires c.bind.ensures.binds
