use Rattle.pm_part.proofs.relinking.+relink_at.Given as goal

abbrev pub decreases-relink_at : goal.decreases-relink_at
decreases-relink_at g l = l.levels
