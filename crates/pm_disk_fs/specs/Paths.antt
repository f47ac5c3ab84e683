-- The files in the store's folder.
use Rattle.std.specs.Prelude.{◌≡◌, ◌++◌, ℕ, List, codes, Option, Some}
use Rattle.pm_disk.specs.Names.{segment_name, partition_name}
use Rattle.pm_disk.specs.declared.mark.MarkFile.TheVariants as mark
use Rattle.pm_disk.specs.declared.names.StoreFile.{StoreFile}
use Rattle.pm_disk.specs.declared.names.StoreFile.TheVariants.{Config, Marks, Segment, Pages}

-- the name of a file
abbrev pub name_of : StoreFile → List ℕ
name_of Config = codes "config.json"
name_of (Marks mark.Start) = codes "cp.start"
name_of (Marks mark.End) = codes "cp.end"
name_of (Segment seg) = segment_name seg
name_of (Pages part) = partition_name part

-- This is the path of a file in the folder, which is bound.
pub record IsPathOf (folder : Option (List ℕ)) (name : StoreFile) (path : List ℕ) : Type 0 where
  pub dir : List ℕ
  pub bound : folder ≡ Some dir
  pub is : path ≡ dir ++ codes "/" ++ name_of name
