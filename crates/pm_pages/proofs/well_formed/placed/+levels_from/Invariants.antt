use Rattle.pm_pages.proofs.well_formed.placed.+levels_from.Given as goal

abbrev pub decreases-levels_from : goal.decreases-levels_from
decreases-levels_from l = l.limit
