use Rattle.std.proofs.Common.{subst, arith}
use Rattle.pm_stripe.specs.Shown.{kept_by}
use Rattle.pm_stripe.specs.Stripes.{kept}
use Rattle.pm_stripe.proofs.BoundCalls as calls
use Rattle.pm_stripe.specs.Makes.{MakesAnew}
use Rattle.pm_stripe.proofs.ShownPages as pages
use Rattle.pm_stripe.proofs.paging.BoundPages.fresh.Goals as goal

pub returns-clause-kept : goal.returns-clause-kept
returns-clause-kept g c =
    let b = c.args.self.now in
    let i = c.args.index in
    let in_part = pages.in_part b.part i (calls.part_small g.R.Device.tells g.R.Device.history g.R.Device.state b c.requires.ready) (omega arith) in
    let m = subst (MakesAnew b.locks.now (kept_by b) (kept c.make.new.self c.make.new.seat)) c.new-page.ensures c.make.ensures.makes in
    calls.makes_keeps g.R.Device.tells g.R.Device.history g.R.Device.state b c.make.new.self c.make.new.seat i c.requires.ready in_part c.make.ensures.same m

pub returns-clause-makes : goal.returns-clause-makes
returns-clause-makes g c =
    let b = c.args.self.now in
    let i = c.args.index in
    let in_part = pages.in_part b.part i (calls.part_small g.R.Device.tells g.R.Device.history g.R.Device.state b c.requires.ready) (omega arith) in
    let m = subst (MakesAnew b.locks.now (kept_by b) (kept c.make.new.self c.make.new.seat)) c.new-page.ensures c.make.ensures.makes in
    calls.makes g.R.Device.tells g.R.Device.history g.R.Device.state b c.make.new.self c.make.new.seat i c.requires.ready in_part c.make.ensures.same m
