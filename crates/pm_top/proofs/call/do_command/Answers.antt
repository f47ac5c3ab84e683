use Rattle.std.proofs.Common.{sym, subst}
use Rattle.std.specs.Prelude.{Some}
use Rattle.pm_top.specs.Commands.{CommandHolds, CommandIsSafe}
use Rattle.pm_top.specs.Words.{DrawsFew}
use Rattle.pm_top.specs.declared.words.CommandName.{CommandName}
use Rattle.pm_top.proofs.LogListing.{wal_config}
use Rattle.pm_top.proofs.StoreChecking.{check_config}
use Rattle.pm_top.proofs.call.do_command.Goals as goal

pub returns-in-Run-clause-holds : goal.returns-in-Run-clause-holds
returns-in-Run-clause-holds g c t =
    let done = c.run_configured.result in
    subst (λ (name : CommandName). CommandHolds (Some name) (g.H.Device.history c.args.host.now) (g.H.Device.history c.run_configured.new.host) done.status done.lines done.order.items) (sym c.in-Run.is)
    (c.run_configured.ensures.run t)

pub returns-in-Run-clause-crash : goal.returns-in-Run-clause-crash
returns-in-Run-clause-crash g c t =
    subst (λ (name : CommandName). CommandIsSafe (Some name) (g.H.Device.history c.args.host.now) (g.H.Device.history c.run_configured.new.host) c.run_configured.result.order.items) (sym c.in-Run.is)
    (c.run_configured.ensures.crash t)

pub returns-in-Wal-clause-holds : goal.returns-in-Wal-clause-holds
returns-in-Wal-clause-holds g c t =
    let done = c.list_log.result in
    subst (λ (name : CommandName). CommandHolds (Some name) (g.H.Device.history c.args.host.now) (g.H.Device.history c.list_log.new.host) done.status done.lines done.order.items) (sym c.in-Wal.is)
    (c.list_log.ensures.wal t)

pub returns-in-Wal-clause-crash : goal.returns-in-Wal-clause-crash
returns-in-Wal-clause-crash g c t =
    subst (λ (name : CommandName). CommandIsSafe (Some name) (g.H.Device.history c.args.host.now) (g.H.Device.history c.list_log.new.host) c.list_log.result.order.items) (sym c.in-Wal.is) tt

pub returns-in-Wal-clause-config : goal.returns-in-Wal-clause-config
returns-in-Wal-clause-config g c t =
    wal_config (g.H.Device.history c.args.host.now) (g.H.Device.history c.list_log.new.host) (c.list_log.ensures.wal t).moments

pub returns-in-Verify-clause-holds : goal.returns-in-Verify-clause-holds
returns-in-Verify-clause-holds g c t =
    let done = c.check_store.result in
    subst (λ (name : CommandName). CommandHolds (Some name) (g.H.Device.history c.args.host.now) (g.H.Device.history c.check_store.new.host) done.status done.lines done.order.items) (sym c.in-Verify.is)
    (c.check_store.ensures.holds t)

pub returns-in-Verify-clause-crash : goal.returns-in-Verify-clause-crash
returns-in-Verify-clause-crash g c t =
    subst (λ (name : CommandName). CommandIsSafe (Some name) (g.H.Device.history c.args.host.now) (g.H.Device.history c.check_store.new.host) c.check_store.result.order.items) (sym c.in-Verify.is) tt

pub returns-in-Verify-clause-config : goal.returns-in-Verify-clause-config
returns-in-Verify-clause-config g c t =
    check_config (g.H.Device.history c.args.host.now) (g.H.Device.history c.check_store.new.host) (c.check_store.ensures.holds t).moments

pub gen_configured-requires-clause-few : goal.gen_configured-requires-clause-few
gen_configured-requires-clause-few g c _ _ =
    subst DrawsFew c.in-Gen.is c.requires.few

pub returns-in-Gen-clause-holds : goal.returns-in-Gen-clause-holds
returns-in-Gen-clause-holds g c t =
    let done = c.gen_configured.result in
    subst (λ (name : CommandName). CommandHolds (Some name) (g.H.Device.history c.args.host.now) (g.H.Device.history c.gen_configured.new.host) done.status done.lines done.order.items) (sym c.in-Gen.is)
    (c.gen_configured.ensures.holds t)

pub returns-in-Gen-clause-crash : goal.returns-in-Gen-clause-crash
returns-in-Gen-clause-crash g c t =
    subst (λ (name : CommandName). CommandIsSafe (Some name) (g.H.Device.history c.args.host.now) (g.H.Device.history c.gen_configured.new.host) c.gen_configured.result.order.items) (sym c.in-Gen.is)
    (c.gen_configured.ensures.crash t)
