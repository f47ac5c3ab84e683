use Rattle.pm_engine.proofs.HandedPages.{noted, frames_are, names_are, frames_in_hand}
use Rattle.pm_engine.proofs.handed_pages.pages_in_hand_are_noted.Goals as goal

pub returns-clause-noted : goal.returns-clause-noted
returns-clause-noted c = λ file faults part logged k is. noted file faults part k logged is

pub returns-clause-frames : goal.returns-clause-frames
returns-clause-frames c = λ file faults part count logged k listed is are lists. frames_are file faults part k logged is count are listed lists

pub returns-clause-names : goal.returns-clause-names
returns-clause-names c = λ file faults part count logged k listed is are lists. names_are file faults part k logged is count are listed lists

pub returns-clause-few : goal.returns-clause-few
returns-clause-few c = λ file faults part count logged k is. frames_in_hand file faults part count k logged is
