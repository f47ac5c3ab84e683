use Rattle.std.proofs.Common.{◌≡◌, refl, length, Some}
use Rattle.std.specs.List.{slice_get}
use Rattle.std.proofs.lemmas.Option.{slice_get_read}
use Rattle.pm_logger.proofs.Linking.{stay_linked}
use Rattle.pm_tests_logs.proofs.log_writers.push_to.Goals as goal

pub returns-clause-linked : goal.returns-clause-linked
returns-clause-linked c =
    let ends = c.args.ends.now.items in
    let there : slice_get ends c.args.worker ≡ Some c.index_mut.result.now = slice_get_read ends (length ends) c.args.worker c.index_mut.result.now refl c.requires c.index_mut.ensures.value in
    stay_linked ends c.args.worker c.index_mut.result.now c.push_few.new.end there c.push_few.ensures
