use Rattle.std.proofs.Common.{◌+◌, ◌*◌, ◌∙◌, arith}
use Rattle.pm_types.specs.Spans.{IsInSpan, span_of}
use Rattle.pm_types.proofs.Unchanged.{u16_same}
use Rattle.pm_data.proofs.slots.put_slot.Goals as goal

pub returns-clause-slot : goal.returns-clause-slot
returns-clause-slot c =
    let at = 32 + 4 * c.args.item in
    let start = u16_same (IsInSpan (span_of (at + 2) 2)) _ _ at c.put_u16-2.ensures.outside (omega arith) (λ k ge lt h. omega (arith, h.0)) ∙ c.put_u16.ensures.value in
    λ j. record { start = start j; len = c.put_u16-2.ensures.value j }
