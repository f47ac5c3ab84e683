-- A `&` to a shell shows nothing.
use denote.Param.Send.{IsSync}
use Rattle.pm_region.specs.contracts.memory.Shell as Shell

pub sync : IsSync Shell.the_row
sync = record { shared = λ h b o κ. tt }
