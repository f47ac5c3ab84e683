-- How a store that was restored applies the records of its log again, from the replay place up to where the log
-- ended: what a crash leaves meanwhile, which of them last, and which can't be applied.
use Rattle.std.specs.Prelude.{◌≡◌, ◌⊎◌, ◌≤◌, ◌==◌, if◌then◌else◌, ℕ, List, ◌++◌}
use Rattle.std.specs.Prelude.{Bool, true, false, Option, Some, None}
use Rattle.pm_types.specs.declared.place.Place.{Place}
use Rattle.pm_types.specs.declared.shape.Shape.{Shape}
use Rattle.pm_frame.specs.Frames.{Frame}
use Rattle.pm_disk.specs.Images.{Image, LeavesAll}
use Rattle.pm_disk.specs.Worlds.{World}
use Rattle.pm_model.specs.declared.line.Cmd.TheVariants.{Put, Remove}
use Rattle.pm_model.specs.declared.line.Line.{Line}
use Rattle.pm_model.specs.declared.line.Line.TheVariants.{Good}
use Rattle.pm_model.specs.Eval.{Pairs}
use Rattle.pm_records.specs.LogFiles.{HasLasting, contents}
use Rattle.pm_records.specs.Logs.{all_frames, record_in, after_frames, is_over, HasFrames}
use Rattle.pm_records.specs.Records.{Record, Logical}
use Rattle.pm_records.specs.declared.limits.TheConstants.{PUT}
use Rattle.pm_segments.specs.Ends.{LogEnd}
use Rattle.pm_core.specs.Replays.{replayed, all_replayed}
use Rattle.pm_core.specs.Sound.{IsTrueImage}
use Rattle.pm_core.specs.States.{State}
use Rattle.pm_redo.specs.Restoring.{CrashHolds}
use Rattle.pm_engine.specs.RunningLines.{GoesUpTo}

-- Whatever a crash leaves, as long as no sum is right by chance, is sound and holds this map. It goes no
-- further than this segment and this checkpoint.
pub record CrashHoldsMap (last number : ℕ) (wanted shape : Shape) (pairs : Pairs) (world : World) : Type 0 where
  pub holds : CrashHolds wanted shape pairs world
  pub up_to : (image : Image) → LeavesAll world image → IsTrueImage world image
      → GoesUpTo last number wanted image

-- the line of a put or a remove
abbrev pub line_in : ℕ → ℕ → List ℕ → List ℕ → Line
line_in op cache key value = if op == PUT then Good (Put cache key value) else Good (Remove cache key)

-- From this place on these frames are lasting, which are left to be applied, and after them others that make no
-- other map of this one, with those that were appended since.
pub record AreLasting (from : Place) (left : List Frame) (shape : Shape) (pairs : Pairs) (s : State)
    (world : World) : Type 0 where
  pub later : List Frame
  pub leads : HasLasting all_frames world.log s.low s.at from (left ++ later)
  pub stays : all_replayed shape (later ++ s.pending) (Some pairs) ≡ Some pairs

-- Up to the log's end each segment begins with what it had, and the log ends no lower.
pub record GrewAtEnd (before now : LogEnd) (old new : World) : Type 0 where
  pub begins : (seg : ℕ) → seg ≤ before.end.seg
      → (more : List ℕ) × (contents new.log seg ≡ contents old.log seg ++ more)
  pub rises : before.end.seg ≤ now.end.seg

-- whether a record could be replayed, and the map that it leaves
abbrev pub Replays : Bool → Shape → Option Record → Pairs → Pairs → Type 0
Replays true shape found before now = replayed shape found before ≡ Some now
Replays false shape found before now = replayed shape found before ≡ None

-- frames stand from this place up to that one, which is in no later segment than the log's end
pub record LogLeadsTo (from end : Place) (log : LogEnd) (world : World) : Type 0 where
  pub frames : List Frame
  pub run : HasFrames all_frames (contents world.log) from frames
  pub to : after_frames from frames ≡ end
  pub behind : end.seg ≤ log.end.seg

-- no frame stands at this place, or the log was over before
abbrev pub EndsBefore : List Frame → Place → World → Place → Type 0
EndsBefore before from world at =
    is_over from before ≡ false → all_frames.frame_at at.seg at.off (contents world.log at.seg) ≡ None

-- a frame stands there that can't be applied to this map
abbrev pub IsBadAt : Shape → Pairs → World → Place → Type 0
IsBadAt shape map world at = (frame : Frame)
    × (all_frames.frame_at at.seg at.off (contents world.log at.seg) ≡ Some frame)
    × (replayed shape (record_in frame) map ≡ None)

-- a record that can't be applied is in no grammar, or is a put, which may meet a full partition
abbrev pub CanBeRefused : Option Record → Type 0
CanBeRefused None = Unit {0}
CanBeRefused (Some (Logical op cache key value)) = op ≡ PUT
CanBeRefused (Some other) = ⊥

-- such a record stands there
abbrev pub IsRefusedAt : World → Place → Type 0
IsRefusedAt world at = (frame : Frame)
    × (all_frames.frame_at at.seg at.off (contents world.log at.seg) ≡ Some frame)
    × CanBeRefused (record_in frame)

-- The frames that stood in these segments' bytes from the replay place up to the log's old end begin with some that
-- lead to this place, before that end. There a frame stands that is in no grammar, or is a put, or none stands there.
pub record IsRefusedReplay (log : ℕ → List ℕ) (from end : Place) (world : World) (at : Place) : Type 0 where
  pub before : List Frame
  pub rest : List Frame
  pub stand : HasFrames all_frames log from (before ++ rest)
  pub to : after_frames from (before ++ rest) ≡ end
  pub there : after_frames from before ≡ at
  pub not_end : at ≡ end → ⊥
  pub refused : IsRefusedAt world at ⊎ EndsBefore before from world at

-- The frames that stood in these segments' bytes from the replay place up to the log's old end begin with some that
-- lead to this place, before that end, and make a map of the one of the base pages. There a frame stands that is in
-- no grammar, or is a put that meets a full partition, or none stands there.
pub record IsBadReplay (shape : Shape) (base : Pairs) (log : ℕ → List ℕ) (from end : Place) (world : World)
    (at : Place) : Type 0 where
  pub before : List Frame
  pub rest : List Frame
  pub stand : HasFrames all_frames log from (before ++ rest)
  pub to : after_frames from (before ++ rest) ≡ end
  pub there : after_frames from before ≡ at
  pub not_end : at ≡ end → ⊥
  pub map : Pairs
  pub holds : all_replayed shape before (Some base) ≡ Some map
  pub bad : IsBadAt shape map world at ⊎ EndsBefore before from world at
