use Rattle.std.proofs.Common.{sym, ◌∙◌, subst, ap}
use Rattle.pm_disk.specs.Moments.{AllMoments}
use Rattle.pm_core.specs.Calls.{MakesPrefix, force_steps}
use Rattle.pm_core.specs.Machine.{ForcePages, worlds}
use Rattle.pm_core.proofs.Making.{moments_one, broke_off, forces_one, forces_no, makes_none}
use Rattle.pm_core.proofs.forcing.force_part.Goals as goal

pub returns-in_err-force_pages-clause-steps : goal.returns-in_err-force_pages-clause-steps
returns-in_err-force_pages-clause-steps g c t s =
    let old = g.H.Device.history c.args.host.now in
    let new = g.H.Device.history c.force_pages.new.self in
    let pages = c.args.pages.now.items in
    let one = forces_one c.args.part pages (sym c.has_part.ensures ∙ c.if-has_part.true) in
    broke_off old new c.from_residual.result (force_steps c.args.part 1 pages) s c.from_residual.ensures.0
    (subst (λ steps. AllMoments old new (MakesPrefix steps s old.world)) (sym one)
    (moments_one old new c.force_pages.result (ForcePages c.args.part) s (g.H.Device.sound c.args.host.now t) (c.force_pages.ensures.does t)))

pub returns-in_ok-force_pages-clause-steps : goal.returns-in_ok-force_pages-clause-steps
returns-in_ok-force_pages-clause-steps g c t s =
    let old = g.H.Device.history c.args.host.now in
    let new = g.H.Device.history c.force_pages.new.self in
    let pages = c.args.pages.now.items in
    let one = forces_one c.args.part pages (sym c.has_part.ensures ∙ c.if-has_part.true) in
    record {
      all = (c.in_ok-force_pages.ensures.does t).ok ∙ ap (λ steps. worlds steps s old.world) (sym one);
      moments = subst (λ steps. AllMoments old new (MakesPrefix steps s old.world)) (sym one)
          (moments_one old new c.force_pages.result (ForcePages c.args.part) s (g.H.Device.sound c.args.host.now t) (c.force_pages.ensures.does t));
    }

pub returns-else-has_part-clause-steps : goal.returns-else-has_part-clause-steps
returns-else-has_part-clause-steps g c t s =
    let old = g.H.Device.history c.args.host.now in
    let none = forces_no c.args.part c.args.pages.now.items (sym c.has_part.ensures ∙ c.if-has_part.false) in
    record {
      all = ap (λ steps. worlds steps s old.world) (sym none);
      moments = makes_none old (force_steps c.args.part 1 c.args.pages.now.items) s (g.H.Device.sound c.args.host.now t);
    }
