-- Of members with one name the last counts: what an object stores is what the text's order of members says.
use Rattle.std.proofs.Common.{◌≡◌, ℕ, Bool, true, false, ◌&&◌, List, [], ◌∷◌, Option, Some, None, option_map, option_and_then, is_some, cond, bytes_eq, true≢false, Err, String, Global, string_bytes, Ordering, Less, Equal, Greater, nat_cmp, is_eq, refl, sym, ap, ◌∙◌, subst}
use Rattle.std.proofs.lemmas.Map.Text.{is_eq-slice_cmp}
use Rattle.std.proofs.lemmas.Slice.Eq.{bytes_eq-Decides}
use Rattle.std.specs.Cmp.Lexicographic.{slice_cmp}
use Rattle.std.specs.Ordering.{match_ordering}
use Rattle.std.specs.List.{list_all}
use Rattle.json.specs.Json as json
use Rattle.std.specs.Map.{keys_of}
use Rattle.serde_json.specs.Data.{Num, Data, null, boolean, number, string, array, object, Items, Members, no_members, member, put}
use Rattle.serde_json.specs.Read.{number_of, of_json, of_items, of_members, read}
use Rattle.serde_json.specs.Find.{get, get_member, as_object}
use Rattle.serde_json.specs.View.{members_view}
use Rattle.serde_json.specs.declared.value.Value.{Value}
use Rattle.serde_json.proofs.Views.{get_member-put, get_member-put_other}
use Rattle.pm_types.specs.declared.fault.Field.{Field}
use Rattle.pm_types.specs.declared.fault.Field.TheVariants.{Text, Unknown}
use Rattle.pm_config.specs.declared.fault.ConfigFault.TheVariants.{Bad}
use Rattle.pm_config.specs.Names.{name_of, field_of}
use Rattle.pm_config.specs.Objects.{Member, json_of, members_in, members_of, object_of, later, last_of}
use Rattle.pm_config.specs.Configs.{Values, has_known_names, config_by, config_in, config_of}
use Rattle.pm_config.specs.Stored.{value_of, names_are_known, values_in, config_stored}
use Rattle.pm_config.proofs.TextValues.{value_of-chosen, chosen, chosen_for}

-- what is stored once these members went in, one after another
abbrev pub stored : List Member → Members → Members
stored [] found = found
stored (m ∷ ms) found = stored ms (put m.0 m.1 found)

-- ---- the members that are read are those that go in

stored-later : (name : List ℕ) (d : Data) (o : Option (List Member)) (found : Members)
    → option_map (λ ms. stored ms (put name d found)) o ≡ option_map (λ ms. stored ms found) (option_map (λ (ms : List Member). (name, d) ∷ ms) o)
stored-later name d None found = refl
stored-later name d (Some ms) found = refl

pub of_members-stored : (js : json.Members) (found : Members) → of_members js found ≡ option_map (λ ms. stored ms found) (members_in js)
of_members-stored json.no_members found = refl
of_members-stored (json.member name value more) found =
    let P : Option Data → Type 0 = λ o. option_and_then (λ d. of_members more (put name d found)) o ≡ option_map (λ ms. stored ms found) (option_and_then (λ d. option_map (λ (ms : List Member). (name, d) ∷ ms) (members_in more)) o) in
    elim (of_json value) as P [ None ↦ refl | Some d ↦ of_members-stored more (put name d found) ∙ stored-later name d (members_in more) found ]

-- ---- the value that is found under a name

bytes_eq-differ : (xs ys : List ℕ) → bytes_eq xs ys ≡ false → xs ≡ ys → ⊥
bytes_eq-differ xs ys e same = true≢false (sym ((bytes_eq-Decides xs ys).1 same) ∙ e)

found_at : (name key : List ℕ) (d : Data) (found : Members) (b : Bool) → bytes_eq name key ≡ b → get_member name (put key d found) ≡ later (cond b (Some d) None) (get_member name found)
found_at name key d found true e =
    let same : name ≡ key = (bytes_eq-Decides name key).0 e in
    subst (λ (k : List ℕ). get_member name (put k d found) ≡ Some d) same (get_member-put name d found)
found_at name key d found false e = get_member-put_other name key d found (bytes_eq-differ name key e)

later_of_three : (a b c : Option Data) → later a (later b c) ≡ later (later a b) c
later_of_three None b c = refl
later_of_three (Some d) b c = refl

pub get_member-stored : (name : List ℕ) (ms : List Member) (found : Members) → get_member name (stored ms found) ≡ later (last_of name ms) (get_member name found)
get_member-stored name [] found = refl
get_member-stored name (m ∷ ms) found =
    get_member-stored name ms (put m.0 m.1 found) ∙ ap (later (last_of name ms)) (found_at name m.0 m.1 found _ refl)
    ∙ later_of_three (last_of name ms) (cond (bytes_eq name m.0) (Some m.1) None) (get_member name found)

later_none : (a : Option Data) → later a None ≡ a
later_none None = refl
later_none (Some d) = refl

-- ---- the names that are stored

abbrev is_known : List ℕ → Bool
is_known name = is_some (field_of name)

and_twice : (a b : Bool) → (a && b) ≡ (a && (a && b))
and_twice true b = refl
and_twice false b = refl

and_swapped : (a b c : Bool) → (a && (b && c)) ≡ (b && (a && c))
and_swapped true b c = refl
and_swapped false true c = refl
and_swapped false false c = refl

and_moved : (a b c : Bool) → (a && (b && c)) ≡ ((b && a) && c)
and_moved true true c = refl
and_moved true false c = refl
and_moved false true c = refl
and_moved false false c = refl

and_last : (a : Bool) → (a && true) ≡ a
and_last true = refl
and_last false = refl

put-names_at : (o : Ordering) (k l : List ℕ) (d e : Data) (ms : Members) → slice_cmp nat_cmp k l ≡ o
    → names_are_known (put k d ms) ≡ (is_known k && names_are_known ms)
    → names_are_known (match_ordering o (member k d (member l e ms)) (member l d ms) (member l e (put k d ms))) ≡ (is_known k && (is_known l && names_are_known ms))
put-names_at Less k l d e ms is later = refl
put-names_at Equal k l d e ms is later =
    let same : k ≡ l = (bytes_eq-Decides k l).0 (sym (is_eq-slice_cmp k l) ∙ ap is_eq is) in
    subst (λ (x : List ℕ). (is_known l && names_are_known ms) ≡ (is_known x && (is_known l && names_are_known ms))) (sym same) (and_twice (is_known l) (names_are_known ms))
put-names_at Greater k l d e ms is later = ap (λ b. is_known l && b) later ∙ and_swapped (is_known l) (is_known k) (names_are_known ms)

put-names : (k : List ℕ) (d : Data) (ms : Members) → names_are_known (put k d ms) ≡ (is_known k && names_are_known ms)
put-names k d no_members = refl
put-names k d (member l e ms) = put-names_at _ k l d e ms refl (put-names k d ms)

stored-names : (ms : List Member) (found : Members) → names_are_known (stored ms found) ≡ (has_known_names ms && names_are_known found)
stored-names [] found = refl
stored-names (m ∷ ms) found =
    stored-names ms (put m.0 m.1 found) ∙ ap (λ b. has_known_names ms && b) (put-names m.0 m.1 found)
    ∙ and_moved (has_known_names ms) (is_known m.0) (names_are_known found)

-- ---- the object that is read is the text's

abbrev stored_all : Option (List Member) → Option Members
stored_all o = option_map (λ ms. stored ms no_members) o

object-read : (o : Option Members) → option_and_then as_object (option_map object o) ≡ o
object-read None = refl
object-read (Some ms) = refl

of_json-object : (j : json.Json) → option_and_then as_object (of_json j) ≡ stored_all (members_of j)
of_json-object json.null = refl
of_json-object (json.boolean b) = refl
of_json-object (json.number s) =
    let P : Option Num → Type 0 = λ o. option_and_then as_object (option_map number o) ≡ None in
    elim (number_of s) as P [ None ↦ refl | Some n ↦ refl ]
of_json-object (json.string s) = refl
of_json-object (json.array js) =
    let P : Option Items → Type 0 = λ o. option_and_then as_object (option_map array o) ≡ None in
    elim (of_items js) as P [ None ↦ refl | Some items ↦ refl ]
of_json-object (json.object ms) = object-read (of_members ms no_members) ∙ of_members-stored ms no_members

read-object : (bytes : List ℕ) → option_and_then as_object (read bytes) ≡ stored_all (option_and_then members_of (json_of bytes))
read-object bytes =
    let P : Option json.Json → Type 0 = λ o. option_and_then as_object (option_and_then of_json o) ≡ stored_all (option_and_then members_of o) in
    elim (json_of bytes) as P [ None ↦ refl | Some j ↦ of_json-object j ]

chosen-object : (long empty utf8 : Bool) (r : Option Data) (w : Option (List Member)) → option_and_then as_object r ≡ stored_all w
    → option_and_then as_object (chosen long empty utf8 (Some (object no_members)) r) ≡ stored_all (chosen long empty utf8 (Some []) w)
chosen-object true empty utf8 r w is = refl
chosen-object false true utf8 r w is = refl
chosen-object false false true r w is = is
chosen-object false false false r w is = refl

object_of-chosen : (bytes : List ℕ) → object_of bytes ≡ chosen_for bytes (Some []) (option_and_then members_of (json_of bytes))
unfolding object_of
object_of-chosen bytes = refl

value_of-object : (bytes : List ℕ) → option_and_then as_object (value_of bytes) ≡ stored_all (object_of bytes)
value_of-object bytes =
    ap (option_and_then as_object) (value_of-chosen bytes) ∙ chosen-object _ _ _ _ _ (read-object bytes) ∙ ap stored_all (sym (object_of-chosen bytes))

-- ---- what the stored object says is what the text says

get-object : (k : List ℕ) (d : Data) → get k d ≡ option_and_then (get_member k) (as_object d)
get-object k null = refl
get-object k (boolean b) = refl
get-object k (number n) = refl
get-object k (string s) = refl
get-object k (array ds) = refl
get-object k (object ms) = refl

config_in-stored : (o : Option (List Member)) (d : Data) → as_object d ≡ stored_all o → config_in o ≡ config_stored (as_object d) d
config_in-stored None d is = ap (λ s. config_stored s d) (sym is)
config_in-stored (Some ms) d is =
    let found : Members = stored ms no_members in
    let values : (field : Field) → last_of (name_of field) ms ≡ values_in d field = λ field.
    sym (get-object (name_of field) d ∙ ap (option_and_then (get_member (name_of field))) is ∙ get_member-stored (name_of field) ms no_members ∙ later_none (last_of (name_of field) ms)) in
    let names : has_known_names ms ≡ names_are_known found = sym (stored-names ms no_members ∙ and_last (has_known_names ms)) in
    ap (λ (v : Values). cond (has_known_names ms) (config_by v) (Err (Bad Unknown))) (λ i field. values field i)
    ∙ ap (λ b. cond b (config_by (values_in d)) (Err (Bad Unknown))) names
    ∙ ap (λ s. config_stored s d) (sym is)

pub config_of-stored : (bytes : List ℕ) (d : Data) → value_of bytes ≡ Some d → config_of bytes ≡ config_stored (as_object d) d
unfolding config_of
config_of-stored bytes d is = config_in-stored (object_of bytes) d (sym (ap (option_and_then as_object) is) ∙ value_of-object bytes)

none-stored : (o : Option (List Member)) → None ≡ stored_all o → config_in o ≡ Err (Bad Text)
none-stored None is = refl
none-stored (Some ms) is = absurd (cc)

pub config_of-none : (bytes : List ℕ) → value_of bytes ≡ None → config_of bytes ≡ Err (Bad Text)
unfolding config_of
config_of-none bytes is = none-stored (object_of bytes) (sym (ap (option_and_then as_object) is) ∙ value_of-object bytes)

pub keys-names : (es : List (String Global × Value)) → list_all (λ (k : String Global). is_known (string_bytes k)) (keys_of es) ≡ names_are_known (members_view es)
keys-names [] = refl
keys-names (e ∷ es) = ap (λ b. is_known (string_bytes e.0) && b) (keys-names es)

-- an object, once its names were tested
pub config_stored-tested : (d : Data) (es : List (String Global × Value)) (b : Bool) → Some (members_view es) ≡ as_object d
    → list_all (λ (k : String Global). is_some (field_of (string_bytes k))) (keys_of es) ≡ b
    → config_stored (as_object d) d ≡ cond b (config_by (values_in d)) (Err (Bad Unknown))
config_stored-tested d es b is tested =
    ap (λ s. config_stored s d) (sym is) ∙ ap (λ t. cond t (config_by (values_in d)) (Err (Bad Unknown))) (sym (keys-names es) ∙ tested)
