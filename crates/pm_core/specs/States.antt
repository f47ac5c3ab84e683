-- The state of the disk machine: what its steps have made of the log, the checkpoint and the map.
use Rattle.std.specs.Prelude.{◌≡◌, ℕ, List, [], ◌∷◌, Option, Some, IsSome}
use Rattle.pm_types.specs.declared.place.Place.{Place}
use Rattle.pm_types.specs.declared.shape.Shape.{Shape}
use Rattle.pm_frame.specs.Frames.{Frame}
use Rattle.pm_model.specs.Eval.{Pairs}
use Rattle.pm_records.specs.LogFiles.{Tail}
use Rattle.pm_records.specs.Logs.{record_in}
use Rattle.pm_records.specs.Records.{Restart}
use Rattle.pm_marks.specs.InForce.{Checkpoint}
use Rattle.pm_core.specs.BasePages.{Partitions, IsBegin}
use Rattle.pm_core.specs.Held.{AllWellFormed, pairs_in}

-- A checkpoint that may be in force, and the pages that the log rebuilds for it.
pub record View : Type 0 where
  pub checkpoint : Checkpoint
  pub rebuilt : Partitions

pub record State : Type 0 where
  -- the store's shape
  pub shape : Shape
  -- the lowest segment that is kept
  pub low : ℕ
  -- where the lasting log ends
  pub at : Place
  -- what was appended after it, and where the writer stands
  pub pending : List Frame
  pub end : Place
  pub tail : Tail
  -- the checkpoint in force, and the one whose marker is written and not forced
  pub now : View
  pub soon : Option View
  -- the pages of the partitions' files that count
  pub files : Partitions
  -- the map at the start, the lasting frames that were appended since, and the map that they leave
  pub first : Pairs
  pub order : List Frame
  pub map : Pairs

-- each of these frames is in its grammar
abbrev pub AllInGrammar : List Frame → Type 0
AllInGrammar [] = Unit {0}
AllInGrammar (frame ∷ frames) = IsSome (record_in frame) × AllInGrammar frames

-- the first of these frames, if there is one, is a RESTART with this shape
abbrev pub RestartIsFirst : Shape → List Frame → Type 0
RestartIsFirst shape [] = Unit {0}
RestartIsFirst shape (frame ∷ frames) = record_in frame ≡ Some (Restart shape)

-- the first of these frames holds the begin of this checkpoint
abbrev pub BeginIsFirst : ℕ → List Frame → Type 0
BeginIsFirst number [] = ⊥
BeginIsFirst number (frame ∷ frames) = IsBegin number frame

-- these pages are well formed, and their rows are this map
pub record HavePairs (shape : Shape) (pages : Partitions) (pairs : Pairs) : Type 0 where
  pub well_formed : AllWellFormed shape pages
  pub is : pairs_in shape.partitions pages ≡ pairs
