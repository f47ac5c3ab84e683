use Rattle.std.proofs.Common.{ap, length, ◌∙◌}
use Rattle.pm_types.specs.Spans.{Coverage}
use Rattle.pm_types.proofs.patch.Patch.len.Goals as goal

pub returns-clause-number : goal.returns-clause-number
returns-clause-number c = c.self.invariant.0 ∙ ap (λ (p : Coverage). length p.spans) c.self.view_is
