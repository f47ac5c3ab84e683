-- What was read of the markers.
use Rattle.std.specs.Prelude.{Option, Some, None}
use Rattle.pm_types.specs.declared.place.Place.{Place}
use Rattle.pm_types.specs.declared.shape.Mark.{Mark}
use Rattle.pm_marks.specs.declared.marks.Marks.{Marks}
use Rattle.pm_records.specs.Logs.{place}

-- from where a log is replayed that has this start marker
abbrev pub replay_at : Option Mark → Place
replay_at None = place 1 0
replay_at (Some mark) = mark.replay

abbrev pub replay_from : Marks → Place
replay_from marks = replay_at marks.start
