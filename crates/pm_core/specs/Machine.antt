-- The disk machine: its steps, and when each may be made. Each is one call on the host.
--
--   OnLog         a step of the log: cut, append, force, the next segment, drop
--   WriteFirst    zeros are written to the first slot of a marker file that ends before that slot does
--   WriteStart    a start marker is written to its slot
--   ForceStart    the file of start markers is forced
--   WritePage     a page of the running checkpoint is written to its partition's file
--   ForcePages    a partition's file is forced
--   WriteEnd      an end marker is written to its slot
--   ForceEnd      the file of end markers is forced
--   Say           bytes are said
use Rattle.std.specs.Prelude.{◌≡◌, ◌≢◌, ◌⊎◌, ◌<◌, ◌≤◌, ◌+◌, ◌^◌, ℕ, max, List, [], ◌∷◌, ◌++◌, length}
use Rattle.std.specs.Prelude.{Option, Some, None, IsSome, true, false}
use Rattle.pm_types.specs.declared.page_id.PageId.{PageId}
use Rattle.pm_types.specs.declared.shape.Mark.{Mark}
use Rattle.pm_types.specs.Ids.{part_of_id, index_of_id}
use Rattle.pm_frame.specs.Frames.{Frame, is_frame}
use Rattle.pm_disk.specs.Files.{File, bytes_of, changed, missing, gapped, content}
use Rattle.pm_disk.specs.Worlds.{World, page_at, pages_in, pages_changed, pages_forced, starts_forced}
use Rattle.pm_disk.specs.Worlds.{ends_forced, with_said}
use Rattle.pm_disk.specs.declared.mark.MarkFile.{MarkFile}
use Rattle.pm_disk.specs.declared.mark.MarkFile.TheVariants as mark_file
use Rattle.pm_model.specs.Eval.{Pairs}
use Rattle.pm_records.specs.LogFiles.{Uncut, AfterSeal, Cutting, Ready, HasLasting}
use Rattle.pm_records.specs.Logs.{place, all_frames, record_in, is_seal, is_last, after_frames}
use Rattle.pm_records.specs.Logs.{place_after, HasNoSeal}
use Rattle.pm_records.specs.LogSteps.{Step, CutTail, Append, Force, NextSegment, DropSegment}
use Rattle.pm_records.specs.LogSteps.{ForceSegment, next_begin, step_world, tail_forced}
use Rattle.pm_records.specs.Records.{Restart}
use Rattle.pm_marks.specs.Slots.{IsMark, slot_of, mark_at}
use Rattle.pm_marks.specs.InForce.{Checkpoint, Started, Ended, number_in}
use Rattle.pm_marks.specs.MarkWrites.{mark_change, mark_written, first_written, HasFirstSlot}
use Rattle.pm_core.specs.Replays.{all_replayed}
use Rattle.pm_core.specs.BasePages.{Partitions, no_pages, page_in_file, pages_of, laid_over, rebuilt_of}
use Rattle.pm_core.specs.States.{State, View, AllInGrammar, BeginIsFirst, HavePairs}
use Rattle.pm_core.specs.Stands.{soon_or}

pub data DiskStep : Type 0 where
  OnLog : (step : Step) → DiskStep
  WriteFirst : (file : MarkFile) → DiskStep
  -- with the pages that the log rebuilds for it
  WriteStart : (mark : Mark) (rebuilt : Partitions) → DiskStep
  ForceStart : DiskStep
  -- with the bytes that are written before it, where its file ends before it
  WritePage : (page : PageId) (gap bytes : List ℕ) → DiskStep
  ForcePages : (part : ℕ) → DiskStep
  WriteEnd : (mark : Mark) → DiskStep
  ForceEnd : DiskStep
  Say : (bytes : List ℕ) → DiskStep

-- the map after frames, or the one before where they can't be
abbrev pub map_or : Option Pairs → Pairs → Pairs
map_or None other = other
map_or (Some pairs) other = pairs

-- the state after a step of the log
abbrev pub log_state : Step → State → State
log_state CutTail s = record s { tail = Cutting }
log_state (Append frame) s = record s { pending = s.pending ++ frame ∷ []; end = place_after s.end frame }
log_state Force s = record s {
  at = after_frames s.at s.pending;
  pending = [];
  tail = tail_forced s.tail s.pending;
  order = s.order ++ s.pending;
  map = map_or (all_replayed s.shape s.pending (Some s.map)) s.map;
}
log_state NextSegment s = record s { tail = Cutting; end = next_begin s.end }
log_state (DropSegment seg) s = record s { low = max s.low (seg + 1) }
log_state (ForceSegment seg) s = s

-- the pages that are lasting in the partitions' files
abbrev pub forced_pages : State → World → Partitions
forced_pages s world = pages_of s.shape.page_size (λ part. (world.pages part).forced)

-- the state after a step
abbrev pub next_state : DiskStep → State → World → State
next_state (OnLog step) s world = log_state step s
next_state (WriteFirst file) s world = s
next_state (WriteStart mark rebuilt) s world =
    record s { soon = Some (record { checkpoint = Started mark; rebuilt = rebuilt }) }
next_state ForceStart s world = record s { now = soon_or s.soon s.now; soon = None }
next_state (WritePage page gap bytes) s world = s
next_state (ForcePages part) s world = s
next_state (WriteEnd mark) s world =
    record s {
      soon = Some (record { checkpoint = Ended mark; rebuilt = no_pages });
      files = forced_pages s world;
    }
next_state ForceEnd s world = record s { now = soon_or s.soon s.now; soon = None }
next_state (Say bytes) s world = s

-- the world after a step
abbrev pub next_world : DiskStep → State → World → World
next_world (OnLog step) s world = step_world step s.end world
next_world (WriteFirst file) s world = first_written file world
next_world (WriteStart mark rebuilt) s world = mark_written mark_file.Start mark world
next_world ForceStart s world = starts_forced world
next_world (WritePage page gap bytes) s world =
    pages_changed (part_of_id page)
    (gapped (pages_in world (part_of_id page)) (page_at page (length bytes)) gap bytes) world
next_world (ForcePages part) s world = pages_forced part world
next_world (WriteEnd mark) s world = mark_written mark_file.End mark world
next_world ForceEnd s world = ends_forced world
next_world (Say bytes) s world = with_said bytes world

-- A frame may be appended: the tail is cut and forced, the frame may stand at the log's end and is
-- in its grammar, a put isn't refused there, and an empty log gets a RESTART with the store's shape
-- first.
pub record CanAppend (frame : Frame) (s : State) : Type 0 where
  pub ready : s.tail ≡ Ready
  pub open_segment : HasNoSeal s.pending
  pub fits : is_frame s.end frame ≡ true
  pub inner : is_seal frame ≡ true → is_last s.end.seg ≡ false
  pub in_grammar : IsSome (record_in frame)
  pub not_full : IsSome (all_replayed s.shape (s.pending ++ frame ∷ []) (Some s.map))
  pub restart_first : s.at ≡ place 1 0 → s.pending ≡ [] → record_in frame ≡ Some (Restart s.shape)

-- A segment may be dropped: its checkpoint is ended, and it is below those of the begin and the replay place.
pub record CanDrop (seg : ℕ) (s : State) : Type 0 where
  pub mark : Mark
  pub ended : s.now.checkpoint ≡ Ended mark
  pub alone : s.soon ≡ None
  pub below_begin : seg < mark.begin.seg
  pub below_replay : seg < mark.replay.seg

-- when a step of the log may be made
abbrev pub CanLog : Step → State → Type 0
CanLog CutTail s = s.tail ≡ Uncut
CanLog (Append frame) s = CanAppend frame s
CanLog Force s = (s.tail ≡ Ready) ⊎ (s.tail ≡ Cutting)
CanLog NextSegment s = (s.tail ≡ AfterSeal) × (s.end.seg + 1 < 2 ^ 64)
CanLog (DropSegment seg) s = CanDrop seg s
CanLog (ForceSegment seg) s = seg < s.low

-- with the mark written, each other slot of its file reads as it does now
abbrev pub OthersStay : Mark → File → Type 0
OthersStay mark file = (slot : ℕ) → slot ≢ slot_of mark.number
    → mark_at slot (bytes_of (changed (mark_change (content file) mark) (content file)))
    ≡ mark_at slot (bytes_of (content file))

-- The next checkpoint's start marker may be written, once the first slot of its file is there: no checkpoint runs, the lasting log leads from
-- the from place over the begin place, where its CP_BEGIN stands, to its end, and with the marker
-- in force the disk would hold what it holds.
pub record CanStart (mark : Mark) (rebuilt : Partitions) (s : State) (world : World) : Type 0 where
  pub alone : s.soon ≡ None
  pub idle : (other : Mark) → s.now.checkpoint ≡ Started other → ⊥
  pub next : mark.number ≡ number_in s.now.checkpoint + 1
  pub fits : IsMark mark
  pub shaped : mark.shape ≡ s.shape
  -- up to the begin place, and from it on
  pub before : List Frame
  pub after : List Frame
  pub leads : HasLasting all_frames world.log s.low s.at mark.from (before ++ after)
  pub reaches : after_frames mark.from before ≡ mark.begin
  pub begins : BeginIsFirst mark.number after
  pub in_grammar : AllInGrammar after
  pub rebuilds : rebuilt_of mark.shape before ≡ Some rebuilt
  pub has_meta : (part index : ℕ) → IsSome (rebuilt part index) → IsSome (laid_over rebuilt s.files part 0)
  -- from the replay place on
  pub frames : List Frame
  pub replay : HasLasting all_frames world.log s.low s.at mark.replay frames
  pub based : Pairs
  pub based_is : HavePairs s.shape (laid_over rebuilt s.files) based
  pub same_map : all_replayed s.shape frames (Some based) ≡ Some s.map

-- A page may be written, any bytes: a checkpoint runs, its start marker is forced, and the log
-- rebuilds this page.
pub record CanWritePage (page : PageId) (gap bytes : List ℕ) (s : State) (world : World) : Type 0 where
  pub mark : Mark
  pub runs : s.now.checkpoint ≡ Started mark
  pub alone : s.soon ≡ None
  pub sized : length bytes ≡ s.shape.page_size
  pub reaches : length gap ≡ missing (page_at page (length bytes)) (pages_in world (part_of_id page))
  pub due : IsSome (s.now.rebuilt (part_of_id page) (index_of_id page))

-- The end marker may be written, once the first slot of its file is there: each page that the log rebuilds is
-- forced in its file.
pub record CanEnd (mark : Mark) (s : State) (world : World) : Type 0 where
  pub runs : s.now.checkpoint ≡ Started mark
  pub alone : s.soon ≡ None
  pub fits : IsMark mark
  pub quiet : (part index : ℕ) → IsSome (s.now.rebuilt part index) → (world.pages part).since ≡ []
  pub written : (part index : ℕ) (bytes : List ℕ) → s.now.rebuilt part index ≡ Some bytes
      → page_in_file s.shape.page_size (world.pages part).forced index ≡ Some bytes

-- a start marker, or an end marker, is written and not forced
pub record IsSoon (checkpoint : Mark → Checkpoint) (s : State) : Type 0 where
  pub mark : Mark
  pub view : View
  pub is : s.soon ≡ Some view
  pub says : view.checkpoint ≡ checkpoint mark

-- When a step may be made; a marker is written only where the first slot of its file is there, so that nothing
-- is filled up there. `told` is of how many appended records the replies speak that begin in these bytes
abbrev pub Can : (List ℕ → ℕ) → DiskStep → State → World → Type 0
Can told (OnLog step) s world = CanLog step s
Can told (WriteFirst file) s world = s.soon ≡ None
Can told (WriteStart mark rebuilt) s world = CanStart mark rebuilt s world × HasFirstSlot world.starts
Can told ForceStart s world = IsSoon Started s
Can told (WritePage page gap bytes) s world = CanWritePage page gap bytes s world
Can told (ForcePages part) s world = Unit {0}
Can told (WriteEnd mark) s world = CanEnd mark s world × HasFirstSlot world.ends
Can told ForceEnd s world = IsSoon Ended s
Can told (Say bytes) s world = told (world.said ++ bytes) ≤ length s.order

-- the state after steps, the first of them first
abbrev pub states : List DiskStep → State → World → State
states [] s world = s
states (step ∷ steps) s world = states steps (next_state step s world) (next_world step s world)

-- the world after steps
abbrev pub worlds : List DiskStep → State → World → World
worlds [] s world = world
worlds (step ∷ steps) s world = worlds steps (next_state step s world) (next_world step s world)

-- each step may be made after those before it
abbrev pub CanAll : (List ℕ → ℕ) → List DiskStep → State → World → Type 0
CanAll told [] s world = Unit {0}
CanAll told (step ∷ steps) s world = Can told step s world
    × CanAll told steps (next_state step s world) (next_world step s world)
