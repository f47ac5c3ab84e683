-- A text without fields says the defaults, and so does an empty one.
use Rattle.std.proofs.Common.{◌≡◌, ℕ, ◌<◌, List, [], ◌∷◌, Some, Ok, Err, length, refl, ap, ◌∙◌, arith}
use Rattle.std.proofs.lemmas.Bool.{lt-ltb}
use Rattle.pm_types.specs.declared.fault.Field.TheVariants.{Text}
use Rattle.pm_config.specs.declared.fault.ConfigFault.TheVariants.{Bad}
use Rattle.pm_config.specs.declared.limits.TheConstants.{CONFIG_BYTES_MAX}
use Rattle.pm_config.specs.Configs.{config_in, config_of, default_config}
use Rattle.pm_config.specs.Objects.{object_of}

no_fields-default : config_in (Some []) ≡ Ok default_config
no_fields-default = refl

empty-object : object_of [] ≡ Some []
unfolding object_of
empty-object = refl

empty-default : config_of [] ≡ Ok default_config
unfolding config_of
empty-default = ap config_in empty-object ∙ no_fields-default

pub empty_text-default : (bytes : List ℕ) → length bytes ≡ 0 → config_of bytes ≡ Ok default_config
empty_text-default [] e = empty-default
empty_text-default (x ∷ xs) e = absurd (omega arith)

-- A text that is too long is refused by its name.
pub long_text-refused : (bytes : List ℕ) → CONFIG_BYTES_MAX < length bytes → config_of bytes ≡ Err (Bad Text)
unfolding config_of object_of
long_text-refused bytes long =
    rw (lt-ltb CONFIG_BYTES_MAX (length bytes) long) refl
