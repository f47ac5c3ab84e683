use Rattle.std.proofs.Common.{sym, ◌∙◌, subst}
use Rattle.std.specs.Prelude.{IfOk}
use Rattle.pm_tools.specs.Verifying.{ArePagesSound}
use Rattle.pm_tools.proofs.verifying.verify_pages.Goals as goal

pub returns-in-Some-clause-sound : goal.returns-in-Some-clause-sound
returns-in-Some-clause-sound g c t base is =
    subst (λ o. IfOk c.verify_partitions.result (ArePagesSound o base)) (sym c.in-Some.is ∙ c.shape.ensures) (c.verify_partitions.ensures.sound t base is)
