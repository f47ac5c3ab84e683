-- What a crash leaves of a run of the disk machine.
use Rattle.std.specs.Prelude.{◌≡◌, ◌≤◌, ℕ, List, length, take, Some}
use Rattle.pm_types.specs.declared.shape.Shape.{Shape}
use Rattle.pm_frame.specs.Frames.{Frame}
use Rattle.pm_disk.specs.Images.{Image}
use Rattle.pm_model.specs.Eval.{Pairs}
use Rattle.pm_records.specs.Logs.{after_frames}
use Rattle.pm_marks.specs.InForce.{number_in, replay_of}
use Rattle.pm_core.specs.Held.{in_force}
use Rattle.pm_core.specs.Replays.{all_replayed}
use Rattle.pm_core.specs.Sound.{SoundImage}
use Rattle.pm_core.specs.Stands.{soon_or}
use Rattle.pm_core.specs.States.{State}

-- What a crash left is sound, and holds the first map after a prefix of these frames, which has at
-- least so many of them.
pub record KeepsPrefix (wanted shape : Shape) (start : Pairs) (order : List Frame) (lasting : ℕ)
    (image : Image) : Type 0 where
  pub map : Pairs
  pub sound : SoundImage wanted image shape map
  pub count : ℕ
  pub has : lasting ≤ count
  pub fits : count ≤ length order
  pub is : all_replayed shape (take count order) (Some start) ≡ Some map

-- The log of what a crash left ends in a segment up to this one, and the checkpoint in force has at most this
-- number.
pub record IsUpTo (last number : ℕ) (wanted : Shape) (image : Image) (shape : Shape) (pairs : Pairs)
    (sound : SoundImage wanted image shape pairs) : Type 0 where
  pub segment : (after_frames (replay_of (in_force image)) sound.holds.frames).seg ≤ last
  pub checkpoint : number_in (in_force image) ≤ number

-- the number of the checkpoint whose marker was written last
abbrev pub last_number : State → ℕ
last_number s = number_in (soon_or s.soon s.now).checkpoint
