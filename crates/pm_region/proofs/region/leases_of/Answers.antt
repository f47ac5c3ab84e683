use Rattle.std.proofs.Common.{◌≡◌, arith, ◌∙◌}
use Rattle.pm_region.proofs.Cuts.{IsCut-more}
use Rattle.pm_region.specs.Memory.{zeros_at}
use Rattle.pm_region.proofs.region.leases_of.Goals as goal

pub cuts-preserved : goal.cuts-preserved
cuts-preserved c =
    let taken = c.take-room.ensures in let n = c.cuts.number in
    let made : c.new.result ≡ zeros_at n c.cuts.rest.origin c.args.size = c.new.ensures ∙ (λ i. zeros_at n (taken.origin.0 i) (taken.room.0 i)) in
    record {
      cut = rw (c.push_reserved.ensures.items, made, taken.rest.lies, taken.rest.long) (IsCut-more _ _ _ _ _ _ _ c.cuts.invariant.cut c.cuts-test.true taken.origin.1);
      room = omega (arith, c.push_reserved.ensures.capacity);
    }
