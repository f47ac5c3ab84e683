use Rattle.std.proofs.Common.{◌≡◌, ◌+◌, List, [], ◌∷◌, ◌++◌, take, drop, get_or, refl, sym, ◌∙◌, ap, subst, arith}
use Rattle.std.proofs.lemmas.List.{take_more, take_all, take-append-drop}
use Rattle.pm_types.specs.declared.page_id.PageId.{PageId}
use Rattle.pm_ckpt.specs.Writes.{held_in, WritesPages}
use Rattle.pm_ckpt.proofs.Written.{WroteSome, wrote_none, wrote_more, wrote_to, wrote_all}
use Rattle.pm_ckpt.proofs.writing.write_pages.Goals as goal

pub each-init : goal.each-init
each-init g c =
    let old = g.H.Device.history c.args.host.now in
    record {
      state = record { later = omega arith; access = refl; usable = λ usable. usable };
      wrote = λ t. wrote_none old (held_in c.args.pages.now) (g.H.Device.sound c.args.host.now t);
    }

pub each-preserved : goal.each-preserved
each-preserved g c =
    let old = g.H.Device.history c.args.host.now in
    let mid = g.H.Device.history c.each.host in
    let new = g.H.Device.history c.write_one.new.host in
    let held = held_in c.args.pages.now in
    let v = c.each.invariant in
    let i = c.each.page-index in
    let none : PageId = record { 0 = 0 } in
    let order = c.args.order.now in
    record {
      state = record {
        later = omega (arith, v.state.later, c.write_one.ensures.cause.later);
        access = c.write_one.ensures.cause.access ∙ v.state.access;
        usable = λ usable. c.write_one.ensures.cause.usable (v.state.usable usable);
      };
      wrote = λ t. subst (WroteSome old new held) (sym (take_more order i none c.each-test.true))
          (wrote_more old mid new _ held (take i order) (get_or order i none) (v.wrote t) (c.in_ok-write_one.ensures.writes t) (g.H.Device.sound c.each.host t)
          (c.in_ok-write_one.ensures.writes t).does.ok);
    }

pub returns-in_err-write_one-clause-writes : goal.returns-in_err-write_one-clause-writes
returns-in_err-write_one-clause-writes g c t =
    let old = g.H.Device.history c.args.host.now in
    let mid = g.H.Device.history c.each.host in
    let new = g.H.Device.history c.write_one.new.host in
    let held = held_in c.args.pages.now in
    let v = c.each.invariant in
    let i = c.each.page-index in
    let none : PageId = record { 0 = 0 } in
    let order = c.args.order.now in
    let all : (take i order ++ get_or order i none ∷ []) ++ drop (i + 1) order ≡ order =
    ap (λ (ps : List PageId). ps ++ drop (i + 1) order) (sym (take_more order i none c.each-test.true)) ∙ take-append-drop (i + 1) order in
    subst (λ (ps : List PageId). WritesPages old new c.from_residual.result held ps) all
    (wrote_to old mid new c.write_one.result held (take i order) (get_or order i none) (v.wrote t) (c.write_one.ensures.writes t) (g.H.Device.sound c.each.host t)
    (drop (i + 1) order) c.from_residual.result c.from_residual.ensures.0)

pub returns-clause-writes : goal.returns-clause-writes
returns-clause-writes g c t =
    let old = g.H.Device.history c.args.host.now in
    let now = g.H.Device.history c.each.host in
    let held = held_in c.args.pages.now in
    let order = c.args.order.now in
    let whole : take c.each.page-index order ≡ order = take_all c.each.page-index order (omega arith) in
    wrote_all old now _ held order (subst (WroteSome old now held) whole (c.each.invariant.wrote t))
