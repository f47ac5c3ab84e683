-- When a disk is sound: it holds a map, and what later steps rely on.
use Rattle.std.specs.Prelude.{◌≡◌, ◌≤◌, ◌<◌, ℕ, List, [], Option, Some, None, IsSome}
use Rattle.pm_types.specs.declared.place.Place.{Place}
use Rattle.pm_types.specs.declared.shape.Mark.{Mark}
use Rattle.pm_types.specs.declared.shape.Shape.{Shape}
use Rattle.pm_frame.specs.Frames.{Frame}
use Rattle.pm_disk.specs.Files.{bytes_of}
use Rattle.pm_disk.specs.Images.{Image, IsTrueOf}
use Rattle.pm_disk.specs.Worlds.{World}
use Rattle.pm_model.specs.Eval.{Pairs}
use Rattle.pm_records.specs.Logs.{all_frames, after_frames, IsLogFrom}
use Rattle.pm_marks.specs.Slots.{mark_at}
use Rattle.pm_marks.specs.InForce.{Checkpoint, NoStart, Started, Ended, number_in, replay_of}
use Rattle.pm_core.specs.BasePages.{page_in_file, base_of, records_in}
use Rattle.pm_core.specs.LogAlone.{HasTrueFrames, image_of, log_in}
use Rattle.pm_core.specs.Held.{HoldsWith, in_force}

-- the log from the mark's begin place ends there, and every frame of it is in its grammar
pub record BeginsLog (mark : Mark) (log : ℕ → List ℕ) (end : Place) : Type 0 where
  pub frames : List Frame
  pub is_log : IsLogFrom all_frames log mark.begin frames
  pub same_end : after_frames mark.begin frames ≡ end
  pub in_grammar : IsSome (records_in frames)

-- with a start marker the log from its begin place ends where the log from its replay place does
abbrev pub BeginEnds : Checkpoint → (ℕ → List ℕ) → Place → Type 0
BeginEnds NoStart log end = Unit {0}
BeginEnds (Started mark) log end = BeginsLog mark log end
BeginEnds (Ended mark) log end = BeginsLog mark log end

-- without a start marker no partition file holds a whole page
abbrev pub AreBare : Checkpoint → ℕ → (ℕ → Option (List ℕ)) → Type 0
AreBare NoStart page_size files = (part index : ℕ) → page_in_file page_size (files part) index ≡ None
AreBare (Started mark) page_size files = Unit {0}
AreBare (Ended mark) page_size files = Unit {0}

-- With this checkpoint in force the disk is sound, and holds this shape and this map.
pub record SoundWith (wanted : Shape) (checkpoint : Checkpoint) (image : Image) (shape : Shape)
    (pairs : Pairs) : Type 0 where
  pub holds : HoldsWith wanted checkpoint image shape pairs
  -- no segment above the log's last has bytes
  pub nothing_above : (seg : ℕ) → (after_frames (replay_of checkpoint) holds.frames).seg < seg
      → log_in image seg ≡ []
  pub begin_ends : BeginEnds checkpoint (log_in image) (after_frames (replay_of checkpoint) holds.frames)
  -- each partition of which a page is rebuilt has a meta page
  pub has_meta : (part index : ℕ) → IsSome (holds.rebuilt part index)
      → IsSome (base_of checkpoint holds.rebuilt image.pages part 0)
  -- no end marker is of a later checkpoint
  pub ends_below : (slot : ℕ) (mark : Mark) → mark_at slot (bytes_of image.ends) ≡ Some mark
      → mark.number ≤ number_in checkpoint
  pub bare : AreBare checkpoint shape.page_size image.pages

-- what a crash left is sound, and holds this shape and this map
abbrev pub SoundImage : Shape → Image → Shape → Pairs → Type 0
SoundImage wanted image shape pairs = SoundWith wanted (in_force image) image shape pairs

-- the disk is sound, and holds this shape and this map
abbrev pub Sound : Shape → World → Shape → Pairs → Type 0
Sound wanted world shape pairs = SoundImage wanted (image_of world) shape pairs

-- chance made no frame, and no mark
pub record IsTrueImage (world : World) (image : Image) : Type 0 where
  pub frames : HasTrueFrames world image
  pub starts : IsTrueOf mark_at world.starts image.starts
  pub ends : IsTrueOf mark_at world.ends image.ends

-- no slot of a marker file is valid, and no partition file holds a whole page
pub record LogIsAlone (page_size : ℕ) (image : Image) : Type 0 where
  pub starts : (slot : ℕ) → mark_at slot (bytes_of image.starts) ≡ None
  pub ends : (slot : ℕ) → mark_at slot (bytes_of image.ends) ≡ None
  pub bare : AreBare NoStart page_size image.pages
