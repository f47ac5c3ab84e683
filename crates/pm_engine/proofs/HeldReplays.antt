-- A store that was restored and holds a map has records that make it, once its pages are loaded and its RESTART is
-- appended.
use Rattle.std.proofs.Common.{◌≡◌, ℕ, ◌+◌, ◌*◌, ◌≤◌, ◌<◌, ◌^◌, List, length, Option, Some, None, arith}
use Rattle.pm_types.specs.declared.limits.TheConstants.{OP_PAGES}
use Rattle.pm_types.specs.declared.place.Place.{Place}
use Rattle.pm_types.specs.declared.shape.Mark.{Mark}
use Rattle.pm_types.specs.declared.shape.Shape.{Shape}
use Rattle.pm_frame.specs.declared.limits.TheConstants.{FRAME_END_MAX}
use Rattle.pm_frame.specs.Frames.{Frame}
use Rattle.pm_disk.specs.Worlds.{World}
use Rattle.pm_model.specs.Eval.{Pairs}
use Rattle.pm_records.specs.LogFiles.{contents}
use Rattle.pm_records.specs.Logs.{all_frames, after_frames, HasFrames}
use Rattle.pm_core.specs.Held.{AllWellFormed, pairs_in}
use Rattle.pm_core.specs.Replays.{all_replayed}
use Rattle.pm_redo.specs.FoundMarks.{replay_at}
use Rattle.pm_engine.specs.RunningStores.{number_of}
use Rattle.pm_engine.specs.Openings.{loaded_base}
use Rattle.pm_engine.proofs.LoadedStores.{HasMark}

-- Sound or not, a store that was restored holds this map. Its partitions' base pages are well formed. From the
-- replay place on frames stand that lead to the log's end, and make the map of the base pages' rows. There are
-- numbers for the segments that their pages and a checkpoint before each may take, up to the last one, and for
-- these checkpoints, up to the highest.
pub record HoldsMap (last highest : ℕ) (shape : Shape) (mark : Option Mark) (from end : Place) (pairs : Pairs)
    (world : World) : Type 0 where
  pub well_formed : AllWellFormed shape (loaded_base mark world)
  pub frames : List Frame
  pub run : HasFrames all_frames (contents world.log) from frames
  pub to : after_frames from frames ≡ end
  pub makes : all_replayed shape frames (Some (pairs_in shape.partitions (loaded_base mark world))) ≡ Some pairs
  pub room : end.seg + (1 + (OP_PAGES + 1) * length frames) ≤ last
  pub last_fits : last + 2 < 2 ^ 64
  pub marks : number_of mark + length frames ≤ highest
  pub highest_fits : highest < 2 ^ 64

-- the replay place leaves room for a frame
pub mark_early : (shape : Shape) (mark : Option Mark) → HasMark shape mark → (replay_at mark).off ≤ FRAME_END_MAX
mark_early shape None has = omega arith
mark_early shape (Some mark) has = has.0.replay.within

-- and it is in a segment of a number that a segment has
pub mark_from : (shape : Shape) (mark : Option Mark) → HasMark shape mark → 1 ≤ (replay_at mark).seg
mark_from shape None has = omega arith
mark_from shape (Some mark) has = has.0.replay.numbered
