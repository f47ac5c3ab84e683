-- What a disk holds: the rows of its base pages, and the log from the replay place on applied to them.
use Rattle.std.specs.Prelude.{◌≡◌, ◌≤◌, ◌<◌, ℕ, List, map, length, true, Some}
use Rattle.std.specs.List.{flat_map, range_with_len}
use Rattle.std.specs.FinMap.{from_entries}
use Rattle.pm_types.specs.declared.shape.Shape.{Shape}
use Rattle.pm_frame.specs.Frames.{Frame}
use Rattle.pm_disk.specs.Files.{bytes_of}
use Rattle.pm_disk.specs.Images.{Image}
use Rattle.pm_model.specs.declared.cache_key.CacheKey.{CacheKey}
use Rattle.pm_model.specs.Eval.{Pairs, cache_key_cmp}
use Rattle.pm_records.specs.FirstRecords.{begins_well, log_shape}
use Rattle.pm_records.specs.Logs.{all_frames, IsLogFrom}
use Rattle.pm_pages.specs.Rows.{rows_of}
use Rattle.pm_pages.specs.RowMaps.{entry_of}
use Rattle.pm_pages.specs.WellFormed.{IsWellFormed}
use Rattle.pm_marks.specs.InForce.{Checkpoint, NoStart, Started, Ended, checkpoint_in, replay_of}
use Rattle.pm_core.specs.Replays.{all_replayed}
use Rattle.pm_core.specs.BasePages.{Partitions, RebuiltAre, base_of, counted}
use Rattle.pm_core.specs.LogAlone.{log_in}

-- the checkpoint in force
abbrev pub in_force : Image → Checkpoint
in_force image = checkpoint_in (bytes_of image.starts) (bytes_of image.ends)

-- the entries of the partitions' rows
abbrev pub entries_in : ℕ → Partitions → List (CacheKey × List ℕ)
entries_in partitions pages =
    flat_map (λ part. map entry_of (rows_of part (counted (pages part)))) (range_with_len 0 partitions)

-- the map of the partitions' rows
unfoldable pub pairs_in : ℕ → Partitions → Pairs
pairs_in partitions pages = from_entries {R = cache_key_cmp} (entries_in partitions pages)

-- the store's shape: the start marker's, else that of the log's first record, else the wanted one
abbrev pub store_shape : Shape → Checkpoint → List Frame → Shape
store_shape wanted NoStart frames = log_shape wanted frames
store_shape wanted (Started mark) frames = mark.shape
store_shape wanted (Ended mark) frames = mark.shape

-- without a start marker the log is empty or begins with a RESTART
abbrev pub BeginsWell : Checkpoint → List Frame → Type 0
BeginsWell NoStart frames = begins_well frames ≡ true
BeginsWell (Started mark) frames = Unit {0}
BeginsWell (Ended mark) frames = Unit {0}

-- each partition's pages that count are well formed
abbrev pub AllWellFormed : Shape → Partitions → Type 0
AllWellFormed shape pages = (part : ℕ) → part < shape.partitions
    → IsWellFormed shape part (counted (pages part))

-- With this checkpoint in force the disk holds this shape and this map, in a store that takes the
-- wanted shape where it is empty.
pub record HoldsWith (wanted : Shape) (checkpoint : Checkpoint) (image : Image) (shape : Shape)
    (pairs : Pairs) : Type 0 where
  -- the pages that the log rebuilds, and the frames from the replay place on
  pub rebuilt : Partitions
  pub frames : List Frame
  pub rebuilt_are : RebuiltAre checkpoint (log_in image) rebuilt
  pub log : IsLogFrom all_frames (log_in image) (replay_of checkpoint) frames
  pub reaches : (replay_of checkpoint).off ≤ length (log_in image (replay_of checkpoint).seg)
  pub begins : BeginsWell checkpoint frames
  pub told : shape ≡ store_shape wanted checkpoint frames
  pub well_formed : AllWellFormed shape (base_of checkpoint rebuilt image.pages)
  pub map : all_replayed shape frames
      (Some (pairs_in shape.partitions (base_of checkpoint rebuilt image.pages))) ≡ Some pairs

-- what a crash left holds this shape and this map
abbrev pub HeldImage : Shape → Image → Shape → Pairs → Type 0
HeldImage wanted image shape pairs = HoldsWith wanted (in_force image) image shape pairs
