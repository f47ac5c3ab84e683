use Rattle.pm_core.proofs.Rebuilt.{page_rebuilt, only_behind_restart}
use Rattle.pm_core.proofs.laws.a_page_is_its_last_snapshot_with_its_deltas.Goals as goal

pub returns-clause-page : goal.returns-clause-page
returns-clause-page c = λ shape records pages part index inside is. page_rebuilt shape part index inside records pages is

pub returns-clause-restart : goal.returns-clause-restart
returns-clause-restart c = λ before records shape. only_behind_restart before records shape
