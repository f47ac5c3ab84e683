use Rattle.std.proofs.Common.{◌≡◌, ◌+◌, ap, sym, ◌∙◌, subst}
use Rattle.pm_types.specs.declared.place.Place.{Place}
use Rattle.pm_records.specs.LogSteps.{DoesSteps, world_after, end_after}
use Rattle.pm_records.proofs.Tracing.{moments_joined, moments_first, world_joined, broke_off}
use Rattle.pm_segments.specs.Appends.{seal_steps, enter_steps, roll_steps}
use Rattle.pm_segments.specs.Ends.{LogEnd}
use Rattle.pm_segments.proofs.Sealing.{sealed_end}
use Rattle.pm_segments.proofs.log.Log.roll.Goals as goal

pub returns-clause-steps : goal.returns-clause-steps
returns-clause-steps g c t =
    let old = g.L.Device.history c.args.dev.now in
    let mid = g.L.Device.history c.seal.new.dev in
    let new = g.L.Device.history c.enter_next.new.dev in
    let end = c.args.self.now.end in
    let inside = c.self.inside.end in
    let sealed = c.in_ok-sealed.sealed in
    let same : inside ≡ end = ap (λ (l : LogEnd). l.end) (c.self.view_is ∙ c.seal.ensures.unmoved) in
    let after_seal : record { seg = inside.seg; off = inside.off + sealed } ≡ end_after (seal_steps end) end =
    ap (λ (p : Place). let q : Place = record { seg = p.seg; off = p.off + sealed } in q) same
    ∙ ap (λ n. let q : Place = record { seg = end.seg; off = end.off + n } in q) c.in_ok-sealed.ensures.len
    ∙ sym (sealed_end end) in
    let entered = subst (λ p. DoesSteps mid new c.enter_next.result enter_steps p) after_seal (c.enter_next.ensures.steps t) in
    let first = c.in_ok-sealed.ensures.steps t in
    record {
      all = world_joined old.world mid.world new.world (seal_steps end) enter_steps end first.all ((c.in_ok-self-inside.ensures.steps t).all ∙ ap (λ p. world_after enter_steps p mid.world) after_seal);
      moments = moments_joined old mid new (seal_steps end) enter_steps end first.moments first.all entered.moments;
    }

pub returns-in_err-self-inside-clause-steps : goal.returns-in_err-self-inside-clause-steps
returns-in_err-self-inside-clause-steps g c t =
    let old = g.L.Device.history c.args.dev.now in
    let mid = g.L.Device.history c.seal.new.dev in
    let new = g.L.Device.history c.enter_next.new.dev in
    let end = c.args.self.now.end in
    let inside = c.self.inside.end in
    let sealed = c.in_ok-sealed.sealed in
    let same : inside ≡ end = ap (λ (l : LogEnd). l.end) (c.self.view_is ∙ c.seal.ensures.unmoved) in
    let after_seal : record { seg = inside.seg; off = inside.off + sealed } ≡ end_after (seal_steps end) end =
    ap (λ (p : Place). let q : Place = record { seg = p.seg; off = p.off + sealed } in q) same
    ∙ ap (λ n. let q : Place = record { seg = end.seg; off = end.off + n } in q) c.in_ok-sealed.ensures.len
    ∙ sym (sealed_end end) in
    let entered = subst (λ p. DoesSteps mid new c.enter_next.result enter_steps p) after_seal (c.enter_next.ensures.steps t) in
    let first = c.in_ok-sealed.ensures.steps t in
    broke_off old new c.from_residual-in_err-self-inside.result (roll_steps end) end c.from_residual-in_err-self-inside.ensures.0
    (moments_joined old mid new (seal_steps end) enter_steps end first.moments first.all entered.moments)

pub returns-in_err-sealed-clause-steps : goal.returns-in_err-sealed-clause-steps
returns-in_err-sealed-clause-steps g c t =
    let old = g.L.Device.history c.args.dev.now in
    let mid = g.L.Device.history c.seal.new.dev in
    let end = c.args.self.now.end in
    broke_off old mid c.from_residual.result (roll_steps end) end c.from_residual.ensures.0 (moments_first old mid (seal_steps end) enter_steps end (c.seal.ensures.steps t).moments)
