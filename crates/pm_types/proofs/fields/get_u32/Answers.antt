use Rattle.std.proofs.Common.{ap, ◌∙◌, w32}
use Rattle.std.specs.Int.{from_le_bytes}
use Rattle.pm_types.specs.Fields.{u32_at}
use Rattle.pm_types.proofs.fields.get_u32.Goals as goal

pub returns : goal.returns
unfolding u32_at
returns c = c.from_le_bytes.ensures ∙ ap (from_le_bytes w32) c.copy_from_slice.ensures.after
