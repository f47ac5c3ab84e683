-- What the disk and the console hold at one moment.
use Rattle.std.specs.Prelude.{ℕ, ◌*◌, List, [], ◌++◌, drop, replicate, Option, ◌==◌, if◌then◌else◌}
use Rattle.pm_types.specs.Ids.{index_of_id}
use Rattle.pm_types.specs.declared.page_id.PageId.{PageId}
use Rattle.pm_disk.specs.Files.{File, Change, content, with_change, all_forced, absent, missing, gapped}
use Rattle.pm_disk.specs.declared.mark.TheConstants.{SLOT_LEN}
use Rattle.pm_disk.specs.declared.mark.MarkFile.{MarkFile}
use Rattle.pm_disk.specs.declared.mark.MarkFile.TheVariants as mark

-- The disk's files, the bytes said and the input that is left.
pub record World : Type 0 where
  -- the log's segments, by number
  pub log : ℕ → File
  -- the partitions' files, by partition
  pub pages : ℕ → File
  -- the file of checkpoints' start markers
  pub starts : File
  -- the file of checkpoints' end markers
  pub ends : File
  -- the bytes of the configuration, none where it is absent
  pub config : List ℕ
  -- the bytes said so far
  pub said : List ℕ
  -- what is left of the input
  pub input : List ℕ

-- the files with another one under this number
abbrev pub with_file : (ℕ → File) → ℕ → File → ℕ → File
with_file files at file n = if n == at then file else files n

-- what a read finds of a segment of the log
abbrev pub segment_in : World → ℕ → Option (List ℕ)
segment_in world seg = content (world.log seg)

-- a segment of the log was changed
abbrev pub log_changed : ℕ → Change → World → World
log_changed seg change world =
    record world { log = with_file world.log seg (with_change (world.log seg) change) }

-- a segment of the log was forced
abbrev pub log_forced : ℕ → World → World
log_forced seg world = record world { log = with_file world.log seg (all_forced (world.log seg)) }

-- what a read finds of a partition's file
abbrev pub pages_in : World → ℕ → Option (List ℕ)
pages_in world part = content (world.pages part)

-- where a page of this length stands in its partition's file
abbrev pub page_at : PageId → ℕ → ℕ
page_at page len = index_of_id page * len

-- a partition's file was changed
abbrev pub pages_changed : ℕ → Change → World → World
pages_changed part change world =
    record world { pages = with_file world.pages part (with_change (world.pages part) change) }

-- a partition's file was forced
abbrev pub pages_forced : ℕ → World → World
pages_forced part world = record world { pages = with_file world.pages part (all_forced (world.pages part)) }

-- the file of start markers was changed
abbrev pub starts_changed : Change → World → World
starts_changed change world = record world { starts = with_change world.starts change }

-- the file of start markers was forced
abbrev pub starts_forced : World → World
starts_forced world = record world { starts = all_forced world.starts }

-- the file of end markers was changed
abbrev pub ends_changed : Change → World → World
ends_changed change world = record world { ends = with_change world.ends change }

-- the file of end markers was forced
abbrev pub ends_forced : World → World
ends_forced world = record world { ends = all_forced world.ends }

-- a marker file
abbrev pub mark_file : World → MarkFile → File
mark_file world mark.Start = world.starts
mark_file world mark.End = world.ends

-- what a read finds of a marker file
abbrev pub marks_in : World → MarkFile → Option (List ℕ)
marks_in world file = content (mark_file world file)

-- a marker file was changed
abbrev pub marks_changed : MarkFile → Change → World → World
marks_changed mark.Start change world = starts_changed change world
marks_changed mark.End change world = ends_changed change world

-- a marker file was forced
abbrev pub marks_forced : MarkFile → World → World
marks_forced mark.Start world = starts_forced world
marks_forced mark.End world = ends_forced world

-- where a slot stands in its marker file
abbrev pub slot_at : ℕ → ℕ
slot_at slot = slot * SLOT_LEN

-- these bytes are written to a slot of a marker file that was so, with zeros in a gap before it
abbrev pub slot_change : Option (List ℕ) → ℕ → List ℕ → Change
slot_change file slot bytes = gapped file (slot_at slot) (replicate (missing (slot_at slot) file) 0) bytes

-- these bytes were said
abbrev pub with_said : List ℕ → World → World
with_said bytes world = record world { said = world.said ++ bytes }

-- so many bytes of the input were taken
abbrev pub with_taken : ℕ → World → World
with_taken n world = record world { input = drop n world.input }

-- a disk without a file, and a console on which nothing was said and that has no input
abbrev pub empty_world : World
empty_world = record {
  log = λ _. absent;
  pages = λ _. absent;
  starts = absent;
  ends = absent;
  config = [];
  said = [];
  input = [];
}

-- the segments of one world, the partitions' files of another, and all else of a third
abbrev pub joined : World → World → World → World
joined rest log pages = record rest { log = log.log; pages = pages.pages }
