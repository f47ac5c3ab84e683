-- The object that a text is: its members in the text's order, and the value that a name has among them.
use Rattle.std.specs.Prelude.{ℕ, List, [], ◌∷◌, length, ◌==◌, nat_lt, if◌then◌else◌, Option, Some, None}
use Rattle.std.specs.Prelude.{option_map, option_and_then}
use Rattle.std.specs.Str.{bytes_eq, is_utf8}
use Rattle.json.specs.Json as json
use Rattle.json.specs.Lex.{tokens}
use Rattle.serde_json.specs.Data.{Data}
use Rattle.serde_json.specs.Read.{of_json, max_depth}
use Rattle.pm_config.specs.declared.limits.TheConstants.{CONFIG_BYTES_MAX}

-- one member: its name, and its value
abbrev pub Member : Type 0
Member = List ℕ × Data

-- the value that a text has by the grammar of JSON, where it nests at most 127 deep
abbrev pub json_of : List ℕ → Option json.Json
json_of text = option_and_then (λ p. json.if_last p.0 p.1) (json.value max_depth (tokens text))

-- the members, in the text's order; nothing where one has a number that is too large for a 64-bit float
abbrev pub members_in : json.Members → Option (List Member)
members_in json.no_members = Some []
members_in (json.member name value more) =
    option_and_then (λ d. option_map (λ (ms : List Member). (name, d) ∷ ms) (members_in more)) (of_json value)

-- the members of a value that is an object
abbrev pub members_of : json.Json → Option (List Member)
members_of json.null = None
members_of (json.boolean b) = None
members_of (json.number s) = None
members_of (json.string s) = None
members_of (json.array js) = None
members_of (json.object ms) = members_in ms

-- The members of the object that a configuration's text is. An empty text is the object without members.
-- Nothing where the text is too long, isn't UTF-8, isn't JSON, or isn't an object.
unfoldable pub object_of : List ℕ → Option (List Member)
object_of bytes =
    if nat_lt CONFIG_BYTES_MAX (length bytes) then None
    else (if length bytes == 0 then Some []
    else (if is_utf8 bytes then option_and_then members_of (json_of bytes) else None))

-- the later of two values, where there are two
abbrev pub later : Option Data → Option Data → Option Data
later None earlier = earlier
later (Some d) earlier = Some d

-- the value of the last member of this name
abbrev pub last_of : List ℕ → List Member → Option Data
last_of name [] = None
last_of name (m ∷ ms) = later (last_of name ms) (if bytes_eq name m.0 then Some m.1 else None)
