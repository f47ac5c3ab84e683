-- What the names' test found decides between the fields and `unknown`.
use Rattle.std.proofs.Common.{◌≡◌, true, false, sym, ◌∙◌}
use Rattle.serde_json.specs.View.{view}
use Rattle.pm_config.proofs.LastCounts.{config_stored-tested}
use Rattle.pm_config.proofs.read.config_of_value.Goals as goal

pub returns-then-not-has_known_names-clause-value :
    goal.returns-then-not-has_known_names-clause-value
returns-then-not-has_known_names-clause-value c =
    let tested : c.has_known_names.result ≡ false = cc in
    sym (config_stored-tested (view c.args.value.now) c.in-Some.object.now.entries false c.in-Some.ensures (sym c.has_known_names.ensures ∙ tested))

pub returns-clause-value : goal.returns-clause-value
returns-clause-value c =
    let tested : c.has_known_names.result ≡ true = cc in
    c.config_in.ensures.value ∙ sym (config_stored-tested (view c.args.value.now) c.in-Some.object.now.entries true c.in-Some.ensures (sym c.has_known_names.ensures ∙ tested))
