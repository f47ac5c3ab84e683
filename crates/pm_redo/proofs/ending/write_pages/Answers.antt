use Rattle.std.proofs.Common.{List, [], drop, ◌+◌, subst, refl, sym, ◌∙◌, ap, arith}
use Rattle.std.proofs.lemmas.List.{drop_all}
use Rattle.pm_types.specs.declared.page_id.PageId.{PageId}
use Rattle.pm_core.specs.Prefixes.{last_number}
use Rattle.pm_core.specs.Starts.{appended}
use Rattle.pm_core.proofs.OnlyDisk.{none_disk, then_disk}
use Rattle.pm_core.proofs.Sets.{drop_next}
use Rattle.pm_redo.specs.Ending.{WritesPages}
use Rattle.pm_redo.proofs.EndingSteps.{written_none, pages_begun, pages_more}
use Rattle.pm_redo.proofs.ending.write_pages.Goals as goal

pub each-init : goal.each-init
each-init g c =
    let old = g.H.Device.history c.args.host.now in
    let kept = c.args.rebuilt.now in
    let pages = c.args.pages.now.items in
    record {
      state = record { later = omega arith; access = refl; usable = λ usable. usable };
      written = λ t told mark s unended.
          subst (λ (l : List PageId). WritesPages told kept pages l s old old) (sym c.deref-page-items.ensures.value) (written_none told kept pages s old (g.H.Device.sound c.args.host.now t));
      log = λ t. refl;
      disk = λ t. none_disk old (g.H.Device.sound c.args.host.now t);
    }

pub each-preserved : goal.each-preserved
each-preserved g c =
    let old = g.H.Device.history c.args.host.now in
    let mid = g.H.Device.history c.each.host in
    let new = g.H.Device.history c.write_one.new.host in
    let kept = c.args.rebuilt.now in
    let pages = c.args.pages.now.items in
    let items = c.deref-page-items.result.now in
    let i = c.each.page-index in
    let v = c.each.invariant in
    record {
      state = record {
        later = omega (arith, v.state.later, c.write_one.ensures.cause.later);
        access = c.write_one.ensures.cause.access ∙ v.state.access;
        usable = λ usable. c.write_one.ensures.cause.usable (v.state.usable usable);
      };
      written = λ t told mark s unended.
          pages_more told kept pages (drop i items) (drop (i + 1) items) _ s old mid new (v.written t told mark s unended) (drop_next items i c.each-test.true) (c.in_ok-write_one.ensures.written t told mark s unended);
      log = λ t. c.in_ok-write_one.ensures.log t ∙ v.log t;
      disk = λ t. then_disk old mid new (g.H.Device.sound c.each.host t) (v.disk t) (c.write_one.ensures.disk t);
    }

pub returns-in_err-write_one-clause-begun : goal.returns-in_err-write_one-clause-begun
returns-in_err-write_one-clause-begun g c t told mark s unended =
    let old = g.H.Device.history c.args.host.now in
    let mid = g.H.Device.history c.each.host in
    let new = g.H.Device.history c.write_one.new.host in
    pages_begun told c.args.rebuilt.now c.args.pages.now.items (drop c.each.page-index c.deref-page-items.result.now) [] (record { 0 = 0 }) s old mid new (c.each.invariant.written t told mark s unended) (c.write_one.ensures.begun t told mark s unended)

pub returns-clause-begun : goal.returns-clause-begun
returns-clause-begun g c t told mark s unended =
    let all = c.each.invariant.written t told mark s unended in
    record { steps = all.steps; can = all.can; moments = all.moments; added = ap appended all.still; number = ap last_number all.still }

pub returns-clause-written : goal.returns-clause-written
returns-clause-written g c t told mark s unended =
    let old = g.H.Device.history c.args.host.now in
    let now = g.H.Device.history c.each.host in
    let items = c.deref-page-items.result.now in
    subst (λ (l : List PageId). WritesPages told c.args.rebuilt.now c.args.pages.now.items l s old now) (drop_all c.each.page-index items c.each-test.false) (c.each.invariant.written t told mark s unended)

pub returns-in_err-write_one-clause-disk : goal.returns-in_err-write_one-clause-disk
returns-in_err-write_one-clause-disk g c t =
    then_disk (g.H.Device.history c.args.host.now) (g.H.Device.history c.each.host) (g.H.Device.history c.write_one.new.host) (g.H.Device.sound c.each.host t) (c.each.invariant.disk t) (c.write_one.ensures.disk t)
