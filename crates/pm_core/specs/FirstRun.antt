-- A run of the disk machine from a folder without files: its log has two segments, and a checkpoint of one
-- page, which begins in the second, lets the first be dropped.
use Rattle.std.specs.Prelude.{ℕ, ◌+◌, ◌-◌, List, [], ◌∷◌, ◌++◌, replicate}
use Rattle.pm_types.specs.declared.page_id.PageId.{PageId}
use Rattle.pm_types.specs.declared.shape.Mark.{Mark}
use Rattle.pm_types.specs.declared.shape.Shape.{Shape}
use Rattle.pm_types.specs.Ids.{page_id}
use Rattle.pm_frame.specs.Frames.{Frame}
use Rattle.pm_records.specs.Records.{Record, Snapshot, CpBegin, Restart, Seal, kind_of, payload_of}
use Rattle.pm_records.specs.Logs.{place}
use Rattle.pm_records.specs.LogSteps.{CutTail, Append, Force, NextSegment, DropSegment, ForceSegment}
use Rattle.pm_core.specs.BasePages.{Partitions, no_pages, with_page}
use Rattle.pm_disk.specs.declared.mark.MarkFile.TheVariants as mark_file
use Rattle.pm_core.specs.Machine.{DiskStep, OnLog, WriteFirst, WriteStart, ForceStart, WritePage, ForcePages}
use Rattle.pm_core.specs.Machine.{WriteEnd, ForceEnd, Say}

-- the first page of the first partition, where it has no other one: its name, its kind, and 1 for
-- its page count
abbrev pub first_page : ℕ → List ℕ
first_page size = 0 ∷ 0 ∷ 0 ∷ 0 ∷ 0 ∷ 0 ∷ 1 ∷ 0 ∷ 1 ∷
    (replicate 155 0 ++ (1 ∷ 0 ∷ 0 ∷ 0 ∷ replicate (size - 168) 0))

-- its name
abbrev pub first_id : PageId
first_id = page_id 0 0

-- no other page is rebuilt
abbrev pub first_rebuilt : Shape → Partitions
first_rebuilt shape = with_page no_pages first_id (first_page shape.page_size)

-- the frame of a record
abbrev pub frame_of : Record → Frame
frame_of found = record { kind = kind_of found; payload = payload_of found }

-- the log's frames: its RESTART and a SEAL, and in the second segment the page and the begin of the checkpoint
abbrev pub restart_frame : Shape → Frame
restart_frame shape = frame_of (Restart shape)

abbrev pub page_frame : Shape → Frame
page_frame shape = frame_of (Snapshot first_id (first_page shape.page_size))

abbrev pub begin_frame : Shape → Frame
begin_frame shape = frame_of (CpBegin 1 (place 2 (70 + shape.page_size)))

abbrev pub seal_frame : Frame
seal_frame = frame_of Seal

-- the checkpoint's mark
abbrev pub first_mark : Shape → Mark
first_mark shape = record {
  number = 1;
  begin = place 2 (29 + shape.page_size);
  replay = place 2 (70 + shape.page_size);
  from = place 2 0;
  shape = shape;
}

-- the log is opened, and its first segment is begun, sealed and forced, and left for the next one
abbrev pub log_begun : Shape → List DiskStep
log_begun shape =
    OnLog CutTail ∷ OnLog Force ∷ OnLog (Append (restart_frame shape)) ∷ OnLog (Append seal_frame) ∷ OnLog Force
    ∷ OnLog NextSegment ∷ OnLog Force ∷ []

-- the second one is begun and forced
abbrev pub log_goes_on : Shape → List DiskStep
log_goes_on shape = OnLog (Append (page_frame shape)) ∷ OnLog (Append (begin_frame shape)) ∷ OnLog Force ∷ []

-- the checkpoint begins, its page is written, and it ends
abbrev pub checkpoint_made : Shape → List DiskStep
checkpoint_made shape =
    WriteFirst mark_file.Start ∷ WriteStart (first_mark shape) (first_rebuilt shape) ∷ ForceStart
    ∷ WritePage first_id [] (first_page shape.page_size)
    ∷ ForcePages 0 ∷ WriteFirst mark_file.End ∷ WriteEnd (first_mark shape) ∷ ForceEnd ∷ []

-- the log's first segment is dropped, and a byte is said
abbrev pub log_dropped : List DiskStep
log_dropped = OnLog (DropSegment 1) ∷ OnLog (ForceSegment 1) ∷ Say (0 ∷ []) ∷ []

-- one after the other
abbrev pub first_run : Shape → List DiskStep
first_run shape = log_begun shape ++ (log_goes_on shape ++ (checkpoint_made shape ++ log_dropped))
