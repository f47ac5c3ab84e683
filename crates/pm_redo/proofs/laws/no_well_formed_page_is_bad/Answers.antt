use Rattle.pm_redo.proofs.LoadedPages.{no_bad_page}
use Rattle.pm_redo.proofs.laws.no_well_formed_page_is_bad.Goals as goal

pub returns : goal.returns
returns c = no_bad_page
