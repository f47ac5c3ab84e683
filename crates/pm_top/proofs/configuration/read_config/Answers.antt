use Rattle.std.proofs.Common.{◌≡◌, ◌≢◌, Some, Ok, Err, ap, sym, ◌∙◌}
use Rattle.pm_config.specs.Configs.{config_of}
use Rattle.pm_config.specs.declared.fault.ConfigFault.TheVariants.{Bad, Memory}
use Rattle.pm_top.proofs.Configured.{first_says, its_field, its_shape}
use Rattle.pm_top.proofs.configuration.read_config.Goals as goal

pub returns-in-Ok-read_config_text-clause-asked : goal.returns-in-Ok-read_config_text-clause-asked
returns-in-Ok-read_config_text-clause-asked g c t =
    let world = (g.H.Device.history c.args.host.now).world in
    let known : c.read_config_text.result ≢ Err Memory = λ e. (let both : Ok c.in-Ok-read_config_text.config ≡ Err Memory = sym c.in-Ok-read_config_text.is ∙ e in cc) in
    its_shape world c.in-Ok-read_config_text.config
    (sym (sym c.in-Ok-read_config_text.is ∙ c.read_config_text.ensures.value known ∙ ap config_of (c.deref.ensures.value ∙ c.in-Ok.ensures.first t) ∙ first_says world.config))

pub returns-in-Err-Bad-clause-refused : goal.returns-in-Err-Bad-clause-refused
returns-in-Err-Bad-clause-refused g c t field is =
    let world = (g.H.Device.history c.args.host.now).world in
    let err : c.read_config_text.result ≡ Err (Bad c.in-Err-Bad.field) = c.in-Err-Bad.is ∙ ap Err c.in-Err-Bad.field-0-is in
    let known : c.read_config_text.result ≢ Err Memory = λ e. (let both = c.in-Err-Bad.field-0-is in cc) in
    let same : c.in-Err-Bad.field ≡ field = cc in
    its_field world c.in-Err-Bad.field (sym (sym err ∙ c.read_config_text.ensures.value known ∙ ap config_of (c.deref.ensures.value ∙ c.in-Ok.ensures.first t) ∙ first_says world.config)) ∙ ap Some same
