use Rattle.pm_top.proofs.Says.{said_moments}
use Rattle.pm_top.proofs.fault_lines.print_fault.Goals as goal

pub returns-in-Ok-clause-moments : goal.returns-in-Ok-clause-moments
returns-in-Ok-clause-moments g c t =
    said_moments (g.H.Device.history c.args.host.now) (g.H.Device.history c.print.new.self) c.print.result c.args.text.now (g.H.Device.sound c.args.host.now t) (c.print.ensures.says t)

pub returns-in-Err-clause-moments : goal.returns-in-Err-clause-moments
returns-in-Err-clause-moments g c t =
    said_moments (g.H.Device.history c.args.host.now) (g.H.Device.history c.print.new.self) c.print.result c.args.text.now (g.H.Device.sound c.args.host.now t) (c.print.ensures.says t)
