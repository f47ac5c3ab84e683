-- The value of the text, as it is stored, says what the text says.
use Rattle.std.proofs.Common.{◌≡◌, Err, sym, ◌∙◌, ap}
use Rattle.std.proofs.lemmas.Result.{err_from_is_err_and}
use Rattle.serde_json.specs.View.{view}
use Rattle.pm_config.specs.declared.fault.ConfigFault.TheVariants.{Memory}
use Rattle.pm_config.proofs.LastCounts.{config_of-stored, config_of-none}
use Rattle.pm_config.proofs.read.read_config_text.Goals as goal

pub returns-in_err-value-clause-value : goal.returns-in_err-value-clause-value
returns-in_err-value-clause-value c = λ other.
    let found = err_from_is_err_and c.from_residual.result c.from_residual.ensures.1 in
    let is : c.from_residual.result ≡ Err c.in_err-value.field-0.0 = cc in
    let fault : c.in_err-value.field-0.0 ≡ Memory → ⊥ = λ memory. other (is ∙ ap Err memory) in
    is ∙ ap Err (c.in_err-value.ensures.name fault) ∙ sym (config_of-none c.args.bytes.now (c.in_err-value.ensures.refused fault))

pub returns-clause-value : goal.returns-clause-value
returns-clause-value c = λ _. c.config_of_value.ensures.value ∙ sym (config_of-stored c.args.bytes.now (view c.in_ok-value.value) c.in_ok-value.ensures.value)
