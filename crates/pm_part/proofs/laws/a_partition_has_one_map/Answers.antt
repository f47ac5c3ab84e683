use Rattle.pm_pages.specs.Rows.{rows_of}
use Rattle.pm_part.proofs.OneMap.{each_row, no_other, one_map}
use Rattle.pm_part.proofs.laws.a_partition_has_one_map.Goals as goal

pub returns-clause-each : goal.returns-clause-each
returns-clause-each c = λ shape p is. each_row (rows_of p.part p.pages) is.well_formed.keys_once.once

pub returns-clause-none : goal.returns-clause-none
returns-clause-none c = λ shape p is. no_other (rows_of p.part p.pages)

pub returns-clause-one : goal.returns-clause-one
returns-clause-one c = λ shape p is others same. one_map (rows_of p.part p.pages) others is.well_formed.keys_once.once same
