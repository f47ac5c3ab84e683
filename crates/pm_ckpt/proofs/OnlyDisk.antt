-- The steps of a checkpoint say nothing.
use Rattle.std.proofs.Common.{List, [], ◌∷◌, ◌++◌}
use Rattle.pm_types.specs.declared.page_id.PageId.{PageId}
use Rattle.pm_types.specs.declared.place.Place.{Place}
use Rattle.pm_types.specs.declared.shape.Mark.{Mark}
use Rattle.pm_types.specs.declared.shape.Shape.{Shape}
use Rattle.pm_segments.specs.Ends.{LogEnd}
use Rattle.pm_core.specs.BasePages.{Partitions, no_pages}
use Rattle.pm_core.specs.Calls.{begin_steps, finish_steps}
use Rattle.pm_core.specs.Rounds.{on_log}
use Rattle.pm_core.specs.States.{State}
use Rattle.pm_core.proofs.OnlyDisk.{AllSilent, silent_join, silent_log, silent_begin, silent_finish}
use Rattle.pm_ckpt.specs.Checkpoints.{opening_steps}
use Rattle.pm_ckpt.specs.Marked.{begin_log}
use Rattle.pm_ckpt.specs.Writes.{Writing, write_steps}
use Rattle.pm_ckpt.proofs.Opening.{some_state}

-- a state whose log ends there
abbrev pub open_state : Shape → Place → State
open_state shape end = record (some_state shape) { end = end }

pub silent_opening : (log : LogEnd) (mark : Mark) → AllSilent (opening_steps log mark no_pages)
silent_opening log mark = silent_join (on_log (begin_log log mark)) (begin_steps mark no_pages) (silent_log (begin_log log mark)) (silent_begin mark no_pages)

silent_writes : (held : Partitions) (xs : List Writing) → AllSilent (write_steps held xs)
silent_writes held [] = tt
silent_writes held (x ∷ xs) = (tt, silent_writes held xs)

pub silent_ending : (held : Partitions) (xs : List Writing) (mark : Mark) (pages : List PageId) → AllSilent (write_steps held xs ++ finish_steps mark pages)
silent_ending held xs mark pages = silent_join (write_steps held xs) (finish_steps mark pages) (silent_writes held xs) (silent_finish mark pages)
