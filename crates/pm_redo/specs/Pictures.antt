-- What contracts see of the base pages of a store.
use Rattle.std.specs.Prelude.{◌≡◌, ℕ, Bool, true, false, List, Option, Some, None}
use Rattle.std.specs.Option.{option_map}
use Rattle.pm_types.specs.declared.shape.Shape.{Shape}
use Rattle.pm_disk.specs.Files.{content}
use Rattle.pm_disk.specs.Worlds.{World}
use Rattle.pm_marks.specs.InForce.{Checkpoint, NoStart, Started, Ended}
use Rattle.pm_core.specs.BasePages.{Partitions, no_pages, pages_of, RebuiltAre}
use Rattle.pm_redo.specs.PageMaps.{PageMap, kept_pages}

-- the pages that were rebuilt; without a start marker there is no map of them
abbrev pub rebuilt_in : Option PageMap → Partitions
rebuilt_in None = no_pages
rebuilt_in (Some kept) = kept_pages kept

-- the shape that a start marker says
abbrev pub marked_shape : Checkpoint → Option Shape
marked_shape NoStart = None
marked_shape (Started mark) = Some mark.shape
marked_shape (Ended mark) = Some mark.shape

-- the shape of the pages
abbrev pub shape_in : Option PageMap → Option Shape
shape_in pictures = option_map (λ kept. kept.shape) pictures

-- The pages have the shape of this checkpoint's start marker, if it has one, and are those that the
-- log rebuilds for it.
pub record ArePictures (pictures : Option PageMap) (checkpoint : Checkpoint) (log : ℕ → List ℕ) : Type 0 where
  pub shaped : shape_in pictures ≡ marked_shape checkpoint
  pub rebuilt : RebuiltAre checkpoint log (rebuilt_in pictures)

-- the partitions' files as they are
abbrev pub files_in : World → ℕ → Option (List ℕ)
files_in world part = content (world.pages part)

-- these pages are those of files of this page size
abbrev pub AreOfFiles : ℕ → Partitions → Type 0
AreOfFiles size pages = (files : ℕ → Option (List ℕ)) × (pages ≡ pages_of size files)

-- a page is there and was read, or there is none
abbrev pub ReadsPage : Option (List ℕ) → List ℕ → Bool → Type 0
ReadsPage page bytes true = page ≡ Some bytes
ReadsPage page bytes false = page ≡ None
