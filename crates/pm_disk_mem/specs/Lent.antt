-- What contracts observe of the parts of a host in memory.
use Rattle.std.specs.Prelude.{◌≡◌, [], List, false, not, option_map, Result}
use Rattle.std.specs.String.{string_bytes}
use Rattle.std.specs.Arc.{arc_value}
use Rattle.pm_disk.specs.Worlds.{World}
use Rattle.pm_disk.specs.Moments.{History}
use Rattle.pm_disk.specs.States.{DeviceState}
use Rattle.pm_disk.specs.Lending.{is_among}
use Rattle.pm_types.specs.declared.page_id.PageId.{PageId}
use Rattle.pm_disk_mem.specs.Families.{SameTracks}
use Rattle.pm_disk_mem.specs.Hosts.{folder_of}
use Rattle.pm_disk_mem.specs.Plans.{IsStepCounted, CountsOn}
use Rattle.pm_disk_mem.specs.Steps.{files_world, history_after}
use Rattle.pm_disk_mem.specs.Events.{told_by}
use Rattle.pm_disk_mem.specs.declared.host.MemHost.{MemHost}
use Rattle.pm_disk_mem.specs.declared.part.MemPart.{MemPart}
use Rattle.pm_disk_mem.specs.declared.reader.MemReader.{MemReader}

-- what a part tells
abbrev pub history_of_part : MemPart → History
history_of_part part = told_by part.kept

-- the world that it has now
abbrev pub world_of_part : MemPart → World
world_of_part part = (history_of_part part).world

-- what it reports about itself: it reads no page, and writes those that are due
abbrev pub state_of_part : MemPart → DeviceState
state_of_part part = record {
  faults = part.failures.count;
  access = record {
    folder = option_map string_bytes part.folder;
    is_lent = false;
    reads = λ _. false;
    writes = is_among part.due.value.items;
    made = 0;
  };
}

-- A step of a call was counted, and left the folder and the pages that are due.
pub record KeepsPart {T E : Type 0} (old new : MemPart) (result : Result T E) : Type 0 where
  pub counted : IsStepCounted old.failures new.failures result
  pub folder : new.folder ≡ old.folder
  pub due : new.due ≡ old.due

-- the world of a reader, which nobody changes
abbrev pub world_of_reader : MemReader → World
world_of_reader reader = files_world (arc_value reader.files)

-- what a reader tells
abbrev pub history_of_reader : MemReader → History
history_of_reader reader = history_after (world_of_reader reader) []

-- what it reports about itself: it reads the pages that aren't due, and writes none
abbrev pub state_of_reader : MemReader → DeviceState
state_of_reader reader = record {
  faults = reader.failures.count;
  access = record {
    folder = option_map string_bytes reader.folder;
    is_lent = false;
    reads = λ page. not (is_among reader.due.value.items page);
    writes = λ _. false;
    made = 0;
  };
}

-- A reader that was lent just now: no call of it has failed, and it has the host's pages.
pub record IsReader (host : MemHost) (due : List PageId) (reader : MemReader) : Type 0 where
  pub counts : CountsOn host.failures reader.failures
  pub folder : option_map string_bytes reader.folder ≡ folder_of host
  pub due_is : reader.due.value.items ≡ due
  pub pages : SameTracks host.files.pages (arc_value reader.files).pages

-- The log part or the writer, which was lent just now: no call of it was made.
pub record IsPart (host : MemHost) (due : List PageId) (part : MemPart) : Type 0 where
  pub counts : CountsOn host.failures part.failures
  pub folder : option_map string_bytes part.folder ≡ folder_of host
  pub due_is : part.due.value.items ≡ due
  pub nothing : part.kept.steps.items ≡ []
