-- The value by the case that the text is in.
use Rattle.std.proofs.Common.{◌<◌, length, arith}
use Rattle.std.proofs.lemmas.Grind.{common_steps}
use Rattle.serde_json.specs.View.{view}
use Rattle.pm_config.proofs.TextValues.{too_long_has_no_value, read_is_the_value, unread_has_no_value}
use Rattle.pm_config.proofs.object.read_value.Goals as goal

pub returns-then-bytes-gt-CONFIG_BYTES_MAX-clause-refused :
    goal.returns-then-bytes-gt-CONFIG_BYTES_MAX-clause-refused
returns-then-bytes-gt-CONFIG_BYTES_MAX-clause-refused c = λ _. too_long_has_no_value c.args.bytes.now c.if-bytes-gt-CONFIG_BYTES_MAX.true

pub returns-in-Ok-clause-value : goal.returns-in-Ok-clause-value
returns-in-Ok-clause-value c =
    let some : 0 < length c.args.bytes.now = grind (arith, common_steps) in
    read_is_the_value c.args.bytes.now (view c.in-Ok.value) c.if-bytes-gt-CONFIG_BYTES_MAX.false some c.in-Ok.ensures.ok.0 c.in-Ok.ensures.ok.1

pub returns-in-Err-clause-refused : goal.returns-in-Err-clause-refused
returns-in-Err-clause-refused c =
    let some : 0 < length c.args.bytes.now = grind (arith, common_steps) in
    λ other. unread_has_no_value c.args.bytes.now c.if-bytes-gt-CONFIG_BYTES_MAX.false some (c.in-Err.ensures.err (λ memory. other (c.fault_of.ensures.memory.1 memory)))
