-- What the configuration of a folder says, read from its first bytes.
use Rattle.std.proofs.Common.{◌≡◌, ◌⊎◌, inl, inr, ℕ, ◌+◌, ◌<◌, ◌≤◌, List, ◌++◌, length, take, Some, Ok, Err, ap, sym, ◌∙◌, arith}
use Rattle.std.proofs.lemmas.List.{take_at, take_all, length-take}
use Rattle.pm_types.specs.declared.fault.Field.{Field}
use Rattle.pm_disk.specs.Files.{ReadsFrom}
use Rattle.pm_disk.specs.Worlds.{World}
use Rattle.pm_config.specs.declared.config.Config.{Config}
use Rattle.pm_config.specs.declared.fault.ConfigFault.TheVariants.{Bad}
use Rattle.pm_config.specs.declared.limits.TheConstants.{CONFIG_BYTES_MAX}
use Rattle.pm_config.specs.Configs.{config_of}
use Rattle.pm_config.proofs.Defaults.{long_text-refused}
use Rattle.pm_top.specs.Configurations.{AsksFor, config_fault, field_refused, shape_asked, wanted_in}

le_or : (a b : ℕ) → (a ≤ b) ⊎ (b < a)
le_or a b = grind arith

-- as many bytes as fit a buffer were read
pub first_read : (most count : ℕ) (into rest config : List ℕ) → length into ≡ most → ReadsFrom (Some config) 0 count into → take count (take most (into ++ rest)) ≡ take most config
first_read most count into rest config long reads =
    let front : take count (take most (into ++ rest)) ≡ take count config = ap (take count) (take_at into rest most long) ∙ reads.front in
    elim (le_or most (length config)) [
      | inl all ↦ let count_is : count ≡ most = omega (arith, all, long, reads.many) in front ∙ ap (λ n. take n config) count_is
      | inr fewer ↦
          front ∙ take_all count config (omega (arith, fewer, long, reads.many)) ∙ sym (take_all most config (omega (arith, fewer)))
    ]

-- one byte more than a configuration may have says whether it is too long
pub first_says : (bytes : List ℕ) → config_of (take (CONFIG_BYTES_MAX + 1) bytes) ≡ config_of bytes
first_says bytes = elim (le_or (length bytes) CONFIG_BYTES_MAX) [
  | inl fits ↦ ap config_of (take_all (CONFIG_BYTES_MAX + 1) bytes (omega (arith, fits)))
  | inr long ↦ long_text-refused (take (CONFIG_BYTES_MAX + 1) bytes) (omega (arith, long, length-take (CONFIG_BYTES_MAX + 1) bytes)) ∙ sym (long_text-refused bytes long)
]

-- what a configuration that is read asks for
pub its_shape : (world : World) (config : Config) → config_of world.config ≡ Ok config → AsksFor world config.shape
unfolding wanted_in config_fault
its_shape world config is = record { wanted_is = ap shape_asked is; fault_is = ap (λ r. field_refused r world) is }

-- and the field of one that is refused
pub its_field : (world : World) (field : Field) → config_of world.config ≡ Err (Bad field) → config_fault world ≡ Some field
unfolding config_fault
its_field world field is = ap (λ r. field_refused r world) is
