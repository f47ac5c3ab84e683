use Rattle.std.proofs.Common.{ap, ◌∙◌, w16}
use Rattle.std.specs.Int.{from_le_bytes}
use Rattle.pm_types.specs.Fields.{u16_at}
use Rattle.pm_types.proofs.fields.get_u16.Goals as goal

pub returns : goal.returns
unfolding u16_at
returns c = c.from_le_bytes.ensures ∙ ap (from_le_bytes w16) c.copy_from_slice.ensures.after
