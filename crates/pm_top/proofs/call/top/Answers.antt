use Rattle.std.proofs.Common.{sym, subst}
use Rattle.std.specs.Prelude.{map, string_bytes}
use Rattle.pm_top.specs.Commands.{CommandCompletes}
use Rattle.pm_top.specs.Words.{command_in}
use Rattle.pm_top.specs.declared.status.Status.{Status}
use Rattle.pm_top.proofs.Commanded.{command_completes, is_no_command}
use Rattle.pm_top.proofs.call.top.Goals as goal

pub returns-clause-complete : goal.returns-clause-complete
returns-clause-complete g c t =
    let outcome = c.command-outcome.result in
    let old = g.H.Device.history c.args.host.now in
    let before = g.H.Device.state c.args.host.now in
    let now = g.H.Device.state c.command-outcome.new.host in
    let name = command_in (map string_bytes c.args.words.now) in
    subst (λ (s : Status). CommandCompletes name s old.world before now) (sym c.code.ensures.status)
    (command_completes name old (g.H.Device.history c.command-outcome.new.host) outcome.status outcome.lines outcome.order.items before now (c.command-outcome.ensures.holds t)
    (λ usage. is_no_command name (c.command-outcome.ensures.cause.usage usage)) c.command-outcome.ensures.cause.failed)
