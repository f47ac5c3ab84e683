-- How the log rebuilds pages: its records from a mark's from place up to its begin place.
use Rattle.std.specs.Prelude.{ℕ, ◌≡◌, ◌⊎◌, ◌<◌, Bool, true, false, IsTrue, ◌↔◌, List, [], ◌∷◌, ◌++◌}
use Rattle.std.specs.Prelude.{Option, Some, None}
use Rattle.pm_types.specs.declared.place.Place.{Place}
use Rattle.pm_types.specs.declared.shape.Mark.{Mark}
use Rattle.pm_frame.specs.Frames.{Frame}
use Rattle.pm_disk.specs.Worlds.{World}
use Rattle.pm_records.specs.LogFiles.{contents}
use Rattle.pm_records.specs.Logs.{all_frames, record_in, next_place, after_frames, HasFrames}
use Rattle.pm_records.specs.Records.{Record, Logical, Snapshot, Delta, CpBegin, Restart, Seal}
use Rattle.pm_segments.specs.Read.{HasScanned}
use Rattle.pm_segments.specs.Scans.{Scanned, frame_ahead, Advances}
use Rattle.pm_marks.specs.InForce.{Checkpoint, NoStart, Started, Ended}
use Rattle.pm_core.specs.BasePages.{Partitions, IsBegin, Rebuilds, records_in, rebuilt_of}
use Rattle.pm_redo.specs.declared.log_pages.Taken.{Taken}
use Rattle.pm_redo.specs.declared.log_pages.Taken.TheVariants as taken
use Rattle.pm_redo.specs.declared.log_pages.RebuildStep.{RebuildStep}
use Rattle.pm_redo.specs.declared.log_pages.RebuildStep.TheVariants as rebuild_step
use Rattle.pm_redo.specs.PageMaps.{PageMap, kept_pages, TakesRecord}

-- no frame of these, which stand one after the other from the first place on, stands at the second place
abbrev pub Misses : Place → Place → List Frame → Type 0
Misses at begin [] = Unit {0}
Misses at begin (frame ∷ frames) = (at ≡ begin → ⊥) × Misses (next_place at frame) begin frames

-- the checkpoint's CP_BEGIN stands at the mark's begin place
pub record BeginStands (mark : Mark) (log : ℕ → List ℕ) : Type 0 where
  pub frame : Frame
  pub stands : all_frames.frame_at mark.begin.seg mark.begin.off (log mark.begin.seg) ≡ Some frame
  pub begins : IsBegin mark.number frame

-- The begin place isn't reached from the from place, or the checkpoint's CP_BEGIN doesn't stand there.
abbrev pub IsBadBegin : Mark → (ℕ → List ℕ) → Type 0
IsBadBegin mark log = (frames : List Frame) → HasFrames all_frames log mark.from frames
    → after_frames mark.from frames ≡ mark.begin → BeginStands mark log → ⊥

-- The record at this place, before the begin place, can't be: the frames before it rebuild pages, and
-- with it they rebuild none. Its payload is in no grammar, it is a snapshot that hasn't the size of a
-- page, or a delta that has no snapshot before it or ends past its page.
pub record IsBadFrame (mark : Mark) (log : ℕ → List ℕ) (at : Place) : Type 0 where
  pub before : List Frame
  pub frame : Frame
  pub run : HasFrames all_frames log mark.from (before ++ frame ∷ [])
  pub there : after_frames mark.from before ≡ at
  pub misses : Misses mark.from mark.begin (before ++ frame ∷ [])
  pub pages : Partitions
  pub fine : rebuilt_of mark.shape before ≡ Some pages
  pub bad : rebuilt_of mark.shape (before ++ frame ∷ []) ≡ None

-- The log rebuilds no pages, and this is the place of the first record that can't be, or the begin place.
pub record CanNotRebuild (mark : Mark) (log : ℕ → List ℕ) (at : Place) : Type 0 where
  pub none : (pages : Partitions) → Rebuilds mark log pages → ⊥
  pub place : IsBadFrame mark log at ⊎ ((at ≡ mark.begin) × IsBadBegin mark log)

-- the pages are those that the log rebuilds, or it rebuilds none and this is the place that is bad
abbrev pub RebuildsOr : Option Place → Mark → (ℕ → List ℕ) → PageMap → Type 0
RebuildsOr None mark log kept = Rebuilds mark log (kept_pages kept)
RebuildsOr (Some at) mark log kept = CanNotRebuild mark log at

-- ---- one frame

-- what a record that was taken is
abbrev pub taken_of : Record → Taken
taken_of (Logical op cache key value) = taken.Plain
taken_of (Snapshot page bytes) = taken.Plain
taken_of (Delta page ranges) = taken.Plain
taken_of (CpBegin number replay) = taken.Begin number
taken_of (Restart shape) = taken.Restart
taken_of Seal = taken.Plain

-- a record was taken, or it can't be
abbrev pub Takes : Taken → PageMap → PageMap → Record → Type 0
Takes taken.Plain old new found = (taken_of found ≡ taken.Plain) × TakesRecord true old new found
Takes (taken.Begin number) old new found =
    (taken_of found ≡ taken.Begin number) × TakesRecord true old new found
Takes taken.Restart old new found = (taken_of found ≡ taken.Restart) × TakesRecord true old new found
Takes taken.Refused old new found = TakesRecord false old new found

-- a frame's record was taken, or it is in no grammar
abbrev pub TakesRead : RebuildStep → PageMap → PageMap → Option Record → Type 0
TakesRead (rebuild_step.Frame kind) old new found =
    (one : Record) × (found ≡ Some one) × Takes kind old new one
TakesRead rebuild_step.Bad old new found = (found ≡ None) × (new ≡ old)
TakesRead rebuild_step.End old new found = ⊥

-- the frame that stands next was read, and its record was taken
pub record TakesFrame (kind : Taken) (scan later : Scanned) (old new : PageMap) (world : World)
    : Type 0 where
  pub frame : Frame
  pub found : Record
  pub ahead : frame_ahead scan world ≡ Some frame
  pub advances : Advances scan later (Some frame)
  pub read : record_in frame ≡ Some found
  pub takes : Takes kind old new found

-- the frame that stands next is in no grammar
pub record IsNoRecord (scan later : Scanned) (old new : PageMap) (world : World) : Type 0 where
  pub frame : Frame
  pub ahead : frame_ahead scan world ≡ Some frame
  pub advances : Advances scan later (Some frame)
  pub read : record_in frame ≡ None
  pub same : new ≡ old

-- no frame stands next
pub record IsAtEnd (scan later : Scanned) (old new : PageMap) (world : World) : Type 0 where
  pub ahead : frame_ahead scan world ≡ None
  pub advances : Advances scan later None
  pub same : new ≡ old

-- the next frame was taken, is in no grammar, or there is none
abbrev pub TakesNext : RebuildStep → Scanned → Scanned → PageMap → PageMap → World → Type 0
TakesNext (rebuild_step.Frame kind) scan later old new world = TakesFrame kind scan later old new world
TakesNext rebuild_step.Bad scan later old new world = IsNoRecord scan later old new world
TakesNext rebuild_step.End scan later old new world = IsAtEnd scan later old new world

-- the second place is after the first one, where a frame was taken
abbrev pub IsAfterPlace : RebuildStep → Place → Place → Type 0
IsAfterPlace (rebuild_step.Frame kind) at next =
    (at.seg < next.seg) ⊎ ((at.seg ≡ next.seg) × (at.off < next.off))
IsAfterPlace rebuild_step.Bad at next = Unit {0}
IsAfterPlace rebuild_step.End at next = Unit {0}

-- a scan gives the place from which it went on, and goes on after it
pub record IsFurther (step : RebuildStep) (scan later : Scanned) : Type 0 where
  pub place : later.place ≡ scan.next
  pub further : IsAfterPlace step scan.next later.next

-- ---- many frames

-- the first place whose record can't be, after one more
abbrev pub first_bad : Option Place → Place → Place
first_bad None at = at
first_bad (Some earlier) at = earlier

-- the same, where a RESTART voids the records before it
abbrev pub refused_after : Taken → Option Place → Place → Option Place
refused_after taken.Plain refused at = refused
refused_after (taken.Begin number) refused at = refused
refused_after taken.Restart refused at = None
refused_after taken.Refused refused at = Some (first_bad refused at)

-- the place that is bad once the begin place is reached, if one is
abbrev pub bad_at_begin : Bool → Option Place → Place → Option Place
bad_at_begin true refused begin = refused
bad_at_begin false refused begin = Some (first_bad refused begin)

-- the frames so far rebuild these pages, or none and this is the place of the first record that can't be
abbrev pub AreRebuiltOr : Option Place → Mark → (ℕ → List ℕ) → List Frame → PageMap → Type 0
AreRebuiltOr None mark log frames kept = rebuilt_of mark.shape frames ≡ Some (kept_pages kept)
AreRebuiltOr (Some at) mark log frames kept =
    (rebuilt_of mark.shape frames ≡ None) × IsBadFrame mark log at

-- A prefix of the frames was taken, each of them a record, and none stands at the begin place.
pub record TakesPrefix (mark : Mark) (world : World) (scan : Scanned) (kept : PageMap)
    (refused : Option Place) : Type 0 where
  pub frames : List Frame
  pub scanned : HasScanned (contents world.log) mark.from frames scan
  pub misses : Misses mark.from mark.begin frames
  pub records : List Record
  pub are : records_in frames ≡ Some records
  pub shaped : kept.shape ≡ mark.shape
  pub rebuilt : AreRebuiltOr refused mark (contents world.log) frames kept

-- whether the checkpoint's CP_BEGIN is what was read at its begin place
abbrev pub IsBeginRead : RebuildStep → Mark → World → Bool → Type 0
IsBeginRead (rebuild_step.Frame taken.Plain) mark world holds = holds ≡ false
IsBeginRead (rebuild_step.Frame (taken.Begin number)) mark world holds =
    IsTrue holds ↔ (number ≡ mark.number)
IsBeginRead (rebuild_step.Frame taken.Restart) mark world holds = holds ≡ false
IsBeginRead (rebuild_step.Frame taken.Refused) mark world holds = holds ≡ false
IsBeginRead rebuild_step.Bad mark world holds = holds ≡ false
IsBeginRead rebuild_step.End mark world holds = IsTrue holds ↔ BeginStands mark (contents world.log)

-- nothing happened
abbrev pub IsSame : World → World → Type 0
IsSame old now = now ≡ old

-- this checkpoint has no end marker, and the log doesn't rebuild its pages
abbrev pub CanNotRebuildFor : Checkpoint → (ℕ → List ℕ) → Place → Type 0
CanNotRebuildFor NoStart log at = ⊥
CanNotRebuildFor (Started mark) log at = CanNotRebuild mark log at
CanNotRebuildFor (Ended mark) log at = ⊥
