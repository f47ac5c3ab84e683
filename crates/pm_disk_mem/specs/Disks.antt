-- A disk in memory: the files of a store by name, nothing of them pending.
use Rattle.std.specs.Prelude.{◌≡◌, ◌⊎◌, ℕ, List, [], ◌∷◌, map, Option, Some, None, Bool, true, false}
use Rattle.std.specs.Ordering.{nat_cmp}
use Rattle.std.specs.Map.{lookup}
use Rattle.std.specs.BTreeMap.{insert_entry, is_at}
use Rattle.pm_disk.specs.Files.{bytes_of}
use Rattle.pm_disk.specs.Worlds.{World}
use Rattle.pm_disk.specs.Images.{Image}
use Rattle.pm_disk.specs.Names.{IsNameOf}
use Rattle.pm_disk.specs.declared.mark.MarkFile.TheVariants as mark
use Rattle.pm_disk.specs.declared.names.StoreFile.{StoreFile}
use Rattle.pm_disk.specs.declared.names.StoreFile.TheVariants.{Config, Marks, Segment, Pages}
use Rattle.pm_disk_mem.specs.Tracks.{settled}

-- The bytes of a store's files. Those of a family stand by rising number.
pub record Store : Type 0 where
  -- the log's segments
  pub log : List (ℕ × List ℕ)
  -- the partitions' files
  pub pages : List (ℕ × List ℕ)
  -- the files of start and of end markers
  pub starts : Option (List ℕ)
  pub ends : Option (List ℕ)
  pub config : Option (List ℕ)

-- a store without a file
abbrev pub no_files : Store
no_files = record { log = []; pages = []; starts = None; ends = None; config = None }

-- these entries with their values seen so
abbrev pub seen : {K X Y : Type 0} → (X → Y) → List (K × X) → List (K × Y)
seen f entries = map (λ e. (e.0, f e.1)) entries

-- the bytes of the file of this number, none where it is absent
abbrev pub content_at : List (ℕ × List ℕ) → ℕ → Option (List ℕ)
content_at contents number = lookup (is_at (nat_cmp number)) contents

-- the contents with these bytes for the file of this number
abbrev pub with_content : List (ℕ × List ℕ) → ℕ → List ℕ → List (ℕ × List ℕ)
with_content contents number bytes = insert_entry nat_cmp contents number bytes

-- the contents with a file of which this was left
abbrev pub with_left : List (ℕ × List ℕ) → ℕ → Option (List ℕ) → List (ℕ × List ℕ)
with_left contents number None = contents
with_left contents number (Some bytes) = with_content contents number bytes

-- the store as an image of the disk
abbrev pub image_of : Store → Image
image_of store = record {
  log = content_at store.log;
  pages = content_at store.pages;
  starts = store.starts;
  ends = store.ends;
}

-- what a file of the store has, none where it is absent
abbrev pub file_in : Store → StoreFile → Option (List ℕ)
file_in store Config = store.config
file_in store (Marks mark.Start) = store.starts
file_in store (Marks mark.End) = store.ends
file_in store (Segment seg) = content_at store.log seg
file_in store (Pages part) = content_at store.pages part

-- the store with these bytes for a file
abbrev pub with_bytes : Store → StoreFile → List ℕ → Store
with_bytes store Config bytes = record store { config = Some bytes }
with_bytes store (Marks mark.Start) bytes = record store { starts = Some bytes }
with_bytes store (Marks mark.End) bytes = record store { ends = Some bytes }
with_bytes store (Segment seg) bytes = record store { log = with_content store.log seg bytes }
with_bytes store (Pages part) bytes = record store { pages = with_content store.pages part bytes }

-- The file of this name has these bytes now, where the name is one of the store's; else nothing has changed.
abbrev pub Puts : Bool → Store → Store → List ℕ → List ℕ → Type 0
Puts true old new name bytes = (file : StoreFile) × IsNameOf name file × (new ≡ with_bytes old file bytes)
Puts false old new name bytes = ((file : StoreFile) → IsNameOf name file → ⊥) × (new ≡ old)

-- What the file of this name has: none where it is absent or the name isn't one of the store's.
abbrev pub Finds : Store → List ℕ → Option (List ℕ) → Type 0
Finds store name found = ((file : StoreFile) × IsNameOf name file × (found ≡ file_in store file))
    ⊎ (((file : StoreFile) → IsNameOf name file → ⊥) × (found ≡ None))

-- the configuration of a host that was handed these bytes: where they are none, that of the disk
abbrev pub config_from : List ℕ → Option (List ℕ) → List ℕ
config_from [] stored = bytes_of stored
config_from (byte ∷ bytes) stored = byte ∷ bytes

-- the file of a configuration with these bytes: an empty one is absent
abbrev pub config_file : List ℕ → Option (List ℕ)
config_file [] = None
config_file (byte ∷ bytes) = Some (byte ∷ bytes)

-- the world of a disk on which nothing was said, with this input, where this configuration was handed in
abbrev pub world_from : Store → List ℕ → List ℕ → World
world_from store script config = record {
  log = λ seg. settled (content_at store.log seg);
  pages = λ part. settled (content_at store.pages part);
  starts = settled store.starts;
  ends = settled store.ends;
  config = config_from config store.config;
  said = [];
  input = script;
}
