use Rattle.std.specs.Prelude.{Some, None}
use Rattle.pm_engine.proofs.HandedPages.{records_are, bytes_grow}
use Rattle.pm_engine.proofs.handed_pages.an_operation_hands_over_its_frames.Goals as goal

pub returns-clause-done : goal.returns-clause-done
returns-clause-done c = λ file faults part count line store k logical operation is are hands. records_are file faults part k store.logged is count are line (Some logical) operation hands

pub returns-clause-replayed : goal.returns-clause-replayed
returns-clause-replayed c = λ file faults part count line store k operation is are hands. records_are file faults part k store.logged is count are line None operation hands

pub returns-clause-grows : goal.returns-clause-grows
returns-clause-grows c = λ file faults part count line logged k logical old new frames is are were grows. bytes_grow file faults part k logged is count are line logical old new frames were grows
