use Rattle.std.proofs.Common.{false, subst}
use Rattle.std.specs.Prelude.{is_ok}
use Rattle.std.proofs.lemmas.Result.{err_from_is_err_and}
use Rattle.pm_logger.specs.LogCalls.{MakesCalls, BreaksOff, DoesCalls, record_calls, force_calls}
use Rattle.pm_logger.specs.Writers.{writer}
use Rattle.pm_logger.proofs.Chains.{breaks_before, does_then}
use Rattle.pm_logger.proofs.append.append_operation.Goals as goal

pub returns-in_err-append_records-clause-appended : goal.returns-in_err-append_records-clause-appended
returns-in_err-append_records-clause-appended g c =
    let before = writer (g.L.Device.history c.args.dev.now) c.args.log.now c.args.tally.now in
    let between = writer (g.L.Device.history c.append_records.new.dev) c.append_records.new.log c.append_records.new.tally in
    let p = err_from_is_err_and c.from_residual.result c.from_residual.ensures.1 in
    rw p.1 (λ spelled is.
    let broke = c.in_err-append_records.ensures.appended spelled.records (c.parts_of-line.ensures.records spelled is) in
    breaks_before (force_calls c.args.tally.now.since)
    (subst (λ n. BreaksOff g.L.Device.tells before between (record_calls n false spelled.records)) (c.parts_of-line.ensures.line spelled is) broke))

pub returns-clause-appended : goal.returns-clause-appended
returns-clause-appended g c spelled is =
    let before = writer (g.L.Device.history c.args.dev.now) c.args.log.now c.args.tally.now in
    let between = writer (g.L.Device.history c.append_records.new.dev) c.append_records.new.log c.append_records.new.tally in
    let made = subst (λ n. MakesCalls g.L.Device.tells before between (record_calls n false spelled.records)) (c.parts_of-line.ensures.line spelled is)
    (c.in_ok-append_records.ensures.appended spelled.records (c.parts_of-line.ensures.records spelled is)) in
    let now = writer (g.L.Device.history c.count_operation.new.dev) c.count_operation.new.log c.count_operation.new.tally in
    let forced = subst (λ n. DoesCalls g.L.Device.tells between now (is_ok c.count_operation.result) (force_calls n)) c.append_records.ensures.since c.count_operation.ensures.forced in
    does_then now (force_calls c.args.tally.now.since) (is_ok c.count_operation.result) made forced
