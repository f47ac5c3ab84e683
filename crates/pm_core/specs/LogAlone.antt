-- What a store holds that its log alone says: its shape and its map.
use Rattle.std.specs.Prelude.{◌≡◌, ◌<◌, ℕ, List, [], true, Some}
use Rattle.std.specs.FinMap.{empty}
use Rattle.pm_types.specs.declared.shape.Shape.{Shape}
use Rattle.pm_frame.specs.Frames.{Frame}
use Rattle.pm_disk.specs.Files.{bytes_of, content}
use Rattle.pm_disk.specs.Images.{Image, IsTrueOf}
use Rattle.pm_disk.specs.Worlds.{World}
use Rattle.pm_model.specs.Eval.{Pairs}
use Rattle.pm_records.specs.FirstRecords.{begins_well, log_shape}
use Rattle.pm_records.specs.Logs.{place, all_frames, after_frames, IsLogFrom}
use Rattle.pm_core.specs.Replays.{all_replayed}

-- what is there now of each file
abbrev pub image_of : World → Image
image_of world = record {
  log = λ seg. content (world.log seg);
  pages = λ part. content (world.pages part);
  starts = content world.starts;
  ends = content world.ends;
}

-- the bytes of each segment
abbrev pub log_in : Image → ℕ → List ℕ
log_in image seg = bytes_of (image.log seg)

-- These frames hold this shape and this map, in a store that takes the wanted shape where it is empty: the
-- first of them, if there is one, is a RESTART, each is in its grammar, and no put meets a full partition.
pub record IsHeld (wanted : Shape) (frames : List Frame) (shape : Shape) (pairs : Pairs) : Type 0 where
  pub begins : begins_well frames ≡ true
  pub told : shape ≡ log_shape wanted frames
  pub map : all_replayed shape frames (Some empty) ≡ Some pairs

-- The log can be replayed, and holds this shape and this map. What stands above its end isn't looked at.
pub record LogHolds (wanted : Shape) (image : Image) (shape : Shape) (pairs : Pairs) : Type 0 where
  pub frames : List Frame
  pub log : IsLogFrom all_frames (log_in image) (place 1 0) frames
  pub held : IsHeld wanted frames shape pairs

-- The store is sound, and holds this shape and this map: its log holds them, and no segment above the log's
-- last has bytes.
pub record Holds (wanted : Shape) (image : Image) (shape : Shape) (pairs : Pairs) : Type 0 where
  pub log : LogHolds wanted image shape pairs
  pub nothing_above : (seg : ℕ) → (after_frames (place 1 0) log.frames).seg < seg → log_in image seg ≡ []

-- the segment in which a store's log ends
abbrev pub last_segment : {wanted : Shape} {image : Image} {shape : Shape} {pairs : Pairs}
    → Holds wanted image shape pairs → ℕ
last_segment holds = (after_frames (place 1 0) holds.log.frames).seg

-- Chance made no frame: each that reads as one of its place in what a crash left stood there whole when its
-- segment was last forced, or after a change since.
abbrev pub HasTrueFrames : World → Image → Type 0
HasTrueFrames world image = (seg : ℕ) → IsTrueOf (all_frames.frame_at seg) (world.log seg) (image.log seg)
