-- What a run's configuration asks for, and what is refused of it.
use Rattle.std.specs.Prelude.{◌≡◌, ℕ, List, ◌++◌, codes, Option, Some, None, Result, Ok, Err}
use Rattle.pm_types.specs.declared.fault.Field.{Field}
use Rattle.pm_types.specs.declared.shape.Shape.{Shape}
use Rattle.pm_disk.specs.Worlds.{World}
use Rattle.pm_config.specs.declared.config.Config.{Config}
use Rattle.pm_config.specs.declared.fault.ConfigFault.{ConfigFault}
use Rattle.pm_config.specs.declared.fault.ConfigFault.TheVariants.{Bad, Memory}
use Rattle.pm_config.specs.Configs.{config_of, default_config}
use Rattle.pm_config.specs.Names.{name_of}
use Rattle.pm_records.specs.LogFiles.{contents}
use Rattle.pm_core.specs.Held.{in_force}
use Rattle.pm_core.specs.LogAlone.{image_of}
use Rattle.pm_redo.specs.Differences.{difference_from}
use Rattle.pm_redo.specs.Restoring.{found_shape}

-- the shape that a configuration asks for; where it is refused, that of an empty one
abbrev pub shape_asked : Result Config ConfigFault → Shape
shape_asked (Ok config) = config.shape
shape_asked (Err fault) = default_config.shape

-- the shape that the folder's configuration asks for
unfoldable pub wanted_in : World → Shape
wanted_in world = shape_asked (config_of world.config)

-- the first field by which the shape that a store has differs from the wanted one; an empty store has none
abbrev pub shape_fault : Shape → World → Option Field
shape_fault wanted world = difference_from (found_shape (in_force (image_of world)) (contents world.log)) wanted

-- the field of a configuration that is refused: that of its text, or the first one by which the
-- store's shape differs
abbrev pub field_refused : Result Config ConfigFault → World → Option Field
field_refused (Ok config) world = shape_fault config.shape world
field_refused (Err (Bad field)) world = Some field
field_refused (Err Memory) world = None

-- the field of the folder's configuration that is refused
unfoldable pub config_fault : World → Option Field
config_fault world = field_refused (config_of world.config) world

-- the folder's configuration is read, and asks for this shape
pub record AsksFor (world : World) (wanted : Shape) : Type 0 where
  pub wanted_is : wanted_in world ≡ wanted
  pub fault_is : config_fault world ≡ shape_fault wanted world

-- the line that names a field that is refused
abbrev pub fault_config : Field → List ℕ
fault_config field = codes "fault config " ++ name_of field ++ codes "\n"
