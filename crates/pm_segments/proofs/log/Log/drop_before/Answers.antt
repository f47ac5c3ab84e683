use Rattle.std.proofs.Common.{◌≡◌, ◌-◌, max, ◌∙◌, ap, subst}
use Rattle.pm_disk.specs.Moments.{AllMoments}
use Rattle.pm_records.specs.LogSteps.{DoesPrefix, world_after}
use Rattle.pm_records.proofs.Tracing.{broke_off}
use Rattle.pm_segments.specs.Drops.{drop_steps, drop_before_steps}
use Rattle.pm_segments.specs.Ends.{LogEnd}
use Rattle.pm_segments.proofs.log.Log.drop_before.Goals as goal

pub returns-in_err-drop_range-clause-steps : goal.returns-in_err-drop_range-clause-steps
returns-in_err-drop_range-clause-steps g c t =
    let old = g.H.Device.history c.args.host.now in
    let new = g.H.Device.history c.drop_range.new.host in
    let first = c.self.inside.first in
    let end = c.args.self.now.end in
    let is : first ≡ c.args.self.now.first = ap (λ (l : LogEnd). l.first) c.self.view_is in
    let to : c.max-to.result ≡ max first c.args.seg = c.max-to.ensures in
    let all = ap (λ n. drop_steps first (n - first) old.world) to ∙ ap (λ n. drop_steps n (max n c.args.seg - n) old.world) is in
    broke_off old new c.from_residual.result (drop_before_steps c.args.self.now c.args.seg old.world) end c.from_residual.ensures.0
    (subst (λ l. AllMoments old new (DoesPrefix l end old.world)) all (c.drop_range.ensures.steps t end).moments)

pub returns-clause-steps : goal.returns-clause-steps
returns-clause-steps g c t =
    let old = g.H.Device.history c.args.host.now in
    let new = g.H.Device.history c.drop_range.new.host in
    let first = c.self.inside.first in
    let end = c.args.self.now.end in
    let is : first ≡ c.args.self.now.first = ap (λ (l : LogEnd). l.first) c.self.view_is in
    let to : c.max-to.result ≡ max first c.args.seg = c.max-to.ensures in
    let all = ap (λ n. drop_steps first (n - first) old.world) to ∙ ap (λ n. drop_steps n (max n c.args.seg - n) old.world) is in
    record {
      all = (c.in_ok-drop_range.ensures.steps t end).all ∙ ap (λ l. world_after l end old.world) all;
      moments = subst (λ l. AllMoments old new (DoesPrefix l end old.world)) all (c.drop_range.ensures.steps t end).moments;
    }
