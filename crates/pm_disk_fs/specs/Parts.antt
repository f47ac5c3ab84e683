-- What a clause sees of the parts of the host over files.
use Rattle.std.specs.Prelude.{◌≡◌, ℕ, List, Option, None, IsTrue, false, not}
use Rattle.pm_types.specs.declared.page_id.PageId.{PageId}
use Rattle.pm_disk.specs.Lending.{is_among}
use Rattle.pm_disk.specs.States.{DeviceState}
use Rattle.pm_disk_fs.specs.Failures.{IsFailureOn}
use Rattle.pm_disk_fs.specs.Faults.{FaultsView}
use Rattle.pm_disk_fs.specs.declared.failure.SystemCall.{SystemCall}
use Rattle.pm_disk_fs.specs.declared.failure.Object.{Object}
use Rattle.pm_disk_fs.specs.declared.failure.Failure.{Failure}
use Rattle.pm_disk_fs.specs.OpenViews.{OpenView}
use Rattle.pm_disk_fs.specs.declared.writes.Writes.{Writes}

-- What the calls of the log part, or of the writer, have met so far, and what they keep back.
pub record PartView : Type 0 where
  pub faults : FaultsView
  -- the bytes of the folder's name
  pub folder : Option (List ℕ)
  -- the pages that it may write
  pub due : List PageId
  -- whether a change or a force of a file has failed, and what of the log isn't with the system yet
  pub writes : Writes
  -- the files that are open since they were changed, in the order of their last changes
  pub files : List OpenView

-- What the calls of a reader have met so far.
pub record ReaderView : Type 0 where
  pub faults : FaultsView
  -- the bytes of the folder's name
  pub folder : Option (List ℕ)
  -- the pages that it may not read
  pub due : List PageId

-- what a part reports about itself: it reads no page, and writes those that are due
abbrev pub state_of_part : PartView → DeviceState
state_of_part part = record {
  faults = part.faults.count;
  access = record {
    folder = part.folder;
    is_lent = false;
    reads = λ _. false;
    writes = is_among part.due;
    made = 0;
  };
}

-- what a reader reports about itself: it reads the pages that aren't due, and writes none
abbrev pub state_of_reader : ReaderView → DeviceState
state_of_reader reader = record {
  faults = reader.faults.count;
  access = record {
    folder = reader.folder;
    is_lent = false;
    reads = λ page. not (is_among reader.due page);
    writes = λ _. false;
    made = 0;
  };
}

-- A failure of a call that makes these calls of the system, on a part that was so.
abbrev pub IsPartFailure : PartView → (SystemCall → Object → Type 0) → Failure → Type 0
IsPartFailure part calls failure =
    IsFailureOn calls (part.folder ≡ None) (IsTrue part.writes.is_poisoned) failure

-- One on a reader that was so.
abbrev pub IsReaderFailure : ReaderView → (SystemCall → Object → Type 0) → Failure → Type 0
IsReaderFailure reader calls failure = IsFailureOn calls (reader.folder ≡ None) ⊥ failure
