use Rattle.std.proofs.Common.{◌≡◌, List, ap, subst, ◌∙◌}
use Rattle.pm_types.specs.declared.limits.TheConstants.{PARTITIONS_MAX}
use Rattle.pm_types.specs.declared.page_id.PageId.{PageId}
use Rattle.pm_types.specs.declared.shape.Mark.{Mark}
use Rattle.pm_disk.specs.Moments.{AllMoments}
use Rattle.pm_core.specs.Calls.{MakesPrefix, end_steps, force_steps, finish_steps}
use Rattle.pm_core.specs.Machine.{states, worlds}
use Rattle.pm_core.specs.PageSets.{Running}
use Rattle.pm_core.proofs.Making.{end_moments, moments_first, moments_joined, world_joined, broke_off}
use Rattle.pm_core.proofs.checkpoint.Begun.finish.Goals as goal

pub returns-in_err-force_parts-clause-steps : goal.returns-in_err-force_parts-clause-steps
returns-in_err-force_parts-clause-steps g c t s =
    let old = g.H.Device.history c.args.host.now in
    let mid = g.H.Device.history c.force_parts.new.host in
    let same : c.self.inside.pages.items ≡ c.args.self.set.pages = ap (λ (r : Running). r.set.pages) c.self.view_is in
    let forced = moments_first old mid (force_steps 0 PARTITIONS_MAX c.self.inside.pages.items) (end_steps c.args.self.mark) s (c.force_parts.ensures.steps t s).moments in
    broke_off old mid c.from_residual.result (finish_steps c.args.self.mark c.args.self.set.pages) s c.from_residual.ensures.0
    (subst (λ (pages : List PageId). AllMoments old mid (MakesPrefix (finish_steps c.args.self.mark pages) s old.world)) same forced)

pub returns-in_err-write_end-clause-steps : goal.returns-in_err-write_end-clause-steps
returns-in_err-write_end-clause-steps g c t s =
    let old = g.H.Device.history c.args.host.now in
    let mid = g.H.Device.history c.force_parts.new.host in
    let new = g.H.Device.history c.write_end.new.host in
    let pages = c.self.inside.pages.items in
    let steps = force_steps 0 PARTITIONS_MAX pages in
    let mark = c.self.inside.mark in
    let same : pages ≡ c.args.self.set.pages = ap (λ (r : Running). r.set.pages) c.self.view_is in
    let same_mark : mark ≡ c.args.self.mark = ap (λ (r : Running). r.mark) c.self.view_is in
    let both = moments_joined old mid new steps (end_steps mark) s (c.force_parts.ensures.steps t s).moments (c.in_ok-force_parts.ensures.steps t s).all
    (end_moments mid new mark (states steps s old.world) (c.write_end.ensures.writes t).moments) in
    let named = subst (λ (pages : List PageId). AllMoments old new (MakesPrefix (finish_steps mark pages) s old.world)) same both in
    broke_off old new c.from_residual-in_err-write_end.result (finish_steps c.args.self.mark c.args.self.set.pages) s c.from_residual-in_err-write_end.ensures.0
    (subst (λ (m : Mark). AllMoments old new (MakesPrefix (finish_steps m c.args.self.set.pages) s old.world)) same_mark named)

pub returns-clause-steps : goal.returns-clause-steps
returns-clause-steps g c t s =
    let old = g.H.Device.history c.args.host.now in
    let mid = g.H.Device.history c.force_parts.new.host in
    let new = g.H.Device.history c.write_end.new.host in
    let pages = c.self.inside.pages.items in
    let steps = force_steps 0 PARTITIONS_MAX pages in
    let mark = c.self.inside.mark in
    let same : pages ≡ c.args.self.set.pages = ap (λ (r : Running). r.set.pages) c.self.view_is in
    let same_mark : mark ≡ c.args.self.mark = ap (λ (r : Running). r.mark) c.self.view_is in
    let first = (c.in_ok-force_parts.ensures.steps t s).all in
    let both = moments_joined old mid new steps (end_steps mark) s (c.force_parts.ensures.steps t s).moments first
    (end_moments mid new mark (states steps s old.world) (c.write_end.ensures.writes t).moments) in
    let done = world_joined old.world mid.world new.world steps (end_steps mark) s first (c.in_ok-write_end.ensures.writes t).forced in
    let named = subst (λ (pages : List PageId). AllMoments old new (MakesPrefix (finish_steps mark pages) s old.world)) same both in
    record {
      all = done ∙ ap (λ (pages : List PageId). worlds (finish_steps mark pages) s old.world) same ∙ ap (λ (m : Mark). worlds (finish_steps m c.args.self.set.pages) s old.world) same_mark;
      moments = subst (λ (m : Mark). AllMoments old new (MakesPrefix (finish_steps m c.args.self.set.pages) s old.world)) same_mark named;
    }
