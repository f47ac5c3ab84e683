-- The files of a disk in memory, as a store.
use Rattle.std.specs.Prelude.{ℕ, List, Option}
use Rattle.pm_disk_mem.specs.Changes.{bytes_in}
use Rattle.pm_disk_mem.specs.Disks.{Store}
use Rattle.pm_disk_mem.specs.declared.parts.DiskParts.{DiskParts}

-- the store of these files and of this configuration
abbrev pub store_of : DiskParts → Option (List ℕ) → Store
store_of parts config =
    record {
      log = parts.log;
      pages = parts.pages;
      starts = bytes_in parts.starts;
      ends = bytes_in parts.ends;
      config = config;
    }
