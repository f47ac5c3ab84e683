-- Where a run of the disk machine begins: a sound disk with nothing pending.
use Rattle.std.specs.Prelude.{◌≡◌, ◌<◌, ◌+◌, ◌^◌, ℕ, List, [], ◌++◌, None}
use Rattle.pm_types.specs.declared.shape.Shape.{Shape}
use Rattle.pm_frame.specs.Frames.{Frame}
use Rattle.pm_disk.specs.Images.{NothingPending}
use Rattle.pm_disk.specs.Worlds.{World}
use Rattle.pm_model.specs.Eval.{Pairs}
use Rattle.pm_records.specs.LogFiles.{Uncut}
use Rattle.pm_records.specs.Logs.{after_frames}
use Rattle.pm_marks.specs.InForce.{replay_of}
use Rattle.pm_core.specs.BasePages.{pages_of}
use Rattle.pm_core.specs.LogAlone.{image_of}
use Rattle.pm_core.specs.Held.{in_force}
use Rattle.pm_core.specs.Sound.{Sound}
use Rattle.pm_core.specs.States.{State}

-- the state of a sound disk: the tail isn't cut, nothing was appended, and the checkpoint is the one in force
abbrev pub start_state : (wanted : Shape) (world : World) (shape : Shape) (pairs : Pairs)
    → Sound wanted world shape pairs → State
start_state wanted world shape pairs sound = record {
  shape = shape;
  low = 0;
  at = after_frames (replay_of (in_force (image_of world))) sound.holds.frames;
  pending = [];
  end = after_frames (replay_of (in_force (image_of world))) sound.holds.frames;
  tail = Uncut;
  now = record { checkpoint = in_force (image_of world); rebuilt = sound.holds.rebuilt };
  soon = None;
  files = pages_of shape.page_size (λ part. (world.pages part).forced);
  first = pairs;
  order = [];
  map = pairs;
}

-- A run may begin: the disk is sound and nothing is pending, there is a next segment, and no reply was begun.
pub record CanBegin (wanted : Shape) (told : List ℕ → ℕ) (world : World) (shape : Shape)
    (pairs : Pairs) : Type 0 where
  pub sound : Sound wanted world shape pairs
  pub quiet : NothingPending world
  pub numbered : (start_state wanted world shape pairs sound).at.seg + 1 < 2 ^ 64
  pub silent : told world.said ≡ 0

-- all that was appended since the start
abbrev pub appended : State → List Frame
appended s = s.order ++ s.pending
