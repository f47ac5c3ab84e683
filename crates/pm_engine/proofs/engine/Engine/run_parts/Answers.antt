use Rattle.std.proofs.Common.{◌+◌, ◌∙◌, refl, sym, subst, arith}
use Rattle.std.specs.List.{All}
use Rattle.std.specs.Prelude.{drop}
use Rattle.pm_model.specs.Batches.{HasCache}
use Rattle.pm_engine.specs.FrameBatches.{RunsPart}
use Rattle.pm_engine.proofs.FrameJoined.{parts_begin, parts_more, parts_stop, parts_end, rest_is}
use Rattle.pm_engine.proofs.FrameParts.{caches_rest}
use Rattle.pm_engine.proofs.engine.Engine.run_parts.Goals as goal

pub parts-init : goal.parts-init
parts-init g c = record {
  so_far = parts_begin g.H.Device.tells (g.H.Device.history c.args.host.now) c.args.first c.args.lines.now c.args.self c.args.replies.now (g.H.Device.sound c.args.host.now) c.requires.is_open
      c.requires.end c.requires.clean;
  state = record { later = omega arith; access = refl; usable = λ usable. usable };
}

pub run_next-next-requires-clause-caches : goal.run_next-next-requires-clause-caches
run_next-next-requires-clause-caches g c _ _ = subst (λ ls. All HasCache ls) (sym (rest_is c.args.lines.now c.parts.done)) (caches_rest c.args.lines.now c.parts.done c.requires.caches)

pub parts-preserved : goal.parts-preserved
parts-preserved g c =
    let ran = c.run_next-next in
    let tells = g.H.Device.tells in
    let old = g.H.Device.history c.args.host.now in
    let mid = g.H.Device.history c.parts.host in
    let new = g.H.Device.history ran.new.host in
    let i = c.parts.invariant in
    record {
      so_far = parts_more tells old mid new c.args.first c.args.lines.now c.parts.done c.args.self c.parts.engine ran.result.0 c.args.replies.now c.parts.replies ran.new.replies
          (g.H.Device.sound c.parts.host) i.so_far (c.args.first + c.parts.done) refl c.in-Ok.more
          (subst (λ r. RunsPart tells mid new (c.args.first + c.parts.done) (drop c.parts.done c.args.lines.now) c.parts.engine ran.result.0 c.parts.replies ran.new.replies r) c.in-Ok.is
          (subst (λ ls. RunsPart tells mid new (c.args.first + c.parts.done) ls c.parts.engine ran.result.0 c.parts.replies ran.new.replies ran.result.1) (rest_is c.args.lines.now c.parts.done) ran.ensures.runs));
      state = record {
        later = omega (arith, i.state.later, ran.ensures.cause.later.later);
        access = ran.ensures.cause.later.access ∙ i.state.access;
        usable = λ usable. ran.ensures.cause.later.usable (i.state.usable usable);
      };
    }

pub returns-in-Err-clause-runs : goal.returns-in-Err-clause-runs
returns-in-Err-clause-runs g c =
    let ran = c.run_next-next in
    let tells = g.H.Device.tells in
    let old = g.H.Device.history c.args.host.now in
    let mid = g.H.Device.history c.parts.host in
    let new = g.H.Device.history ran.new.host in
    parts_stop tells old mid new c.args.first c.args.lines.now c.parts.done c.args.self c.parts.engine ran.result.0 c.args.replies.now c.parts.replies ran.new.replies
    (g.H.Device.sound c.parts.host) c.parts.invariant.so_far (c.args.first + c.parts.done) refl c.in-Err.fault
    (subst (λ r. RunsPart tells mid new (c.args.first + c.parts.done) (drop c.parts.done c.args.lines.now) c.parts.engine ran.result.0 c.parts.replies ran.new.replies r) c.in-Err.is
    (subst (λ ls. RunsPart tells mid new (c.args.first + c.parts.done) ls c.parts.engine ran.result.0 c.parts.replies ran.new.replies ran.result.1) (rest_is c.args.lines.now c.parts.done) ran.ensures.runs))

pub returns-clause-runs : goal.returns-clause-runs
returns-clause-runs g c =
    parts_end g.H.Device.tells (g.H.Device.history c.args.host.now) (g.H.Device.history c.parts.host) c.args.first c.args.lines.now c.parts.done c.args.self c.parts.engine c.args.replies.now c.parts.replies
    c.parts.invariant.so_far (omega (arith, c.parts-test.false))
