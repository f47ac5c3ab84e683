use Rattle.std.proofs.Common.{ap, ◌∙◌, w64}
use Rattle.std.specs.Int.{from_le_bytes}
use Rattle.pm_types.specs.Fields.{u64_at}
use Rattle.pm_types.proofs.fields.get_u64.Goals as goal

pub returns : goal.returns
unfolding u64_at
returns c = c.from_le_bytes.ensures ∙ ap (from_le_bytes w64) c.copy_from_slice.ensures.after
