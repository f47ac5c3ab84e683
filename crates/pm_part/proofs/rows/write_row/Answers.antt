use Rattle.std.proofs.Common.{◌∙◌}
use Rattle.pm_part.proofs.WrittenRows.{written}
use Rattle.pm_part.proofs.rows.write_row.Goals as goal

pub returns-clause-row : goal.returns-clause-row
returns-clause-row c =
    written c.args.into.now c.args.cache c.args.key.now c.args.value.now c.copy_from_slice.new.self c.copy_from_slice-2.new.self c.copy_from_slice-3.new.self c.requires.room (c.copy_from_slice.ensures.after ∙ c.to_le_bytes.ensures) c.copy_from_slice-2.ensures.after c.copy_from_slice-3.ensures.after c.requires.cache c.requires.key c.requires.value
