-- A round: steps of the log and steps of the pages, made side by side.
use Rattle.std.specs.Prelude.{ℕ, List, [], ◌∷◌}
use Rattle.pm_types.specs.declared.page_id.PageId.{PageId}
use Rattle.pm_disk.specs.Worlds.{World}
use Rattle.pm_records.specs.LogSteps.{Step}
use Rattle.pm_core.specs.Machine.{DiskStep, OnLog, WritePage, ForcePages}

-- A step that changes partitions' files alone.
pub data PageStep : Type 0 where
  Writes : (page : PageId) (gap bytes : List ℕ) → PageStep
  Forces : (part : ℕ) → PageStep

-- as a step of the machine
abbrev pub page_step : PageStep → DiskStep
page_step (Writes page gap bytes) = WritePage page gap bytes
page_step (Forces part) = ForcePages part

-- steps of the log as steps of the machine
abbrev pub on_log : List Step → List DiskStep
on_log [] = []
on_log (step ∷ steps) = OnLog step ∷ on_log steps

-- steps of the pages as steps of the machine
abbrev pub on_pages : List PageStep → List DiskStep
on_pages [] = []
on_pages (step ∷ steps) = page_step step ∷ on_pages steps

-- the world with the log of one and the partitions' files of another
abbrev pub joined : World → World → World → World
joined world logged paged = record world { log = logged.log; pages = paged.pages }
