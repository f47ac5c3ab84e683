-- A text's value as it is stored: an object has each name once. Private functions have it in their clauses.
use Rattle.std.specs.Prelude.{ℕ, List, length, Bool, true, ◌&&◌, ◌==◌, nat_lt, if◌then◌else◌, Option}
use Rattle.std.specs.Prelude.{Some, None, is_some, Result, Err}
use Rattle.std.specs.Str.{is_utf8}
use Rattle.serde_json.specs.Data.{Data, object, Members, no_members, member}
use Rattle.serde_json.specs.Read.{read}
use Rattle.serde_json.specs.Find.{get}
use Rattle.pm_types.specs.declared.fault.Field.TheVariants.{Text, Unknown}
use Rattle.pm_config.specs.declared.config.Config.{Config}
use Rattle.pm_config.specs.declared.fault.ConfigFault.{ConfigFault}
use Rattle.pm_config.specs.declared.fault.ConfigFault.TheVariants.{Bad}
use Rattle.pm_config.specs.declared.limits.TheConstants.{CONFIG_BYTES_MAX}
use Rattle.pm_config.specs.Names.{name_of, field_of}
use Rattle.pm_config.specs.Configs.{Values, config_by}

-- the value that a configuration's text is
unfoldable pub value_of : List ℕ → Option Data
value_of bytes =
    if nat_lt CONFIG_BYTES_MAX (length bytes) then None
    else (if length bytes == 0 then Some (object no_members)
    else (if is_utf8 bytes then read bytes else None))

-- each member has the name of a field
abbrev pub names_are_known : Members → Bool
names_are_known no_members = true
names_are_known (member name d ms) = is_some (field_of name) && names_are_known ms

-- the value of each field that an object has
abbrev pub values_in : Data → Values
values_in d field = get (name_of field) d

-- what an object says, once it is stored
abbrev pub config_stored : Option Members → Data → Result Config ConfigFault
config_stored None d = Err (Bad Text)
config_stored (Some found) d = if names_are_known found then config_by (values_in d) else Err (Bad Unknown)
