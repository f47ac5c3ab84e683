use Rattle.std.proofs.Common.{rules, ◌≡◌, ◌+◌, List, [], ◌∷◌, ◌++◌, length, refl, sym, ap, ◌∙◌, subst, arith, length-append}
use Rattle.std.proofs.lemmas.List.Elements.{All-append}
use Rattle.std.specs.List.{All}
use Rattle.pm_model.specs.declared.line.Line.{Line}
use Rattle.pm_model.specs.Batches.{HasCache}
use Rattle.pm_script.specs.Reading.{rest_of}
use Rattle.pm_script.proofs.TakenInput.{takes_on}
use Rattle.pm_top.specs.Scripts.{GivesNextLine, CountsNextLine, LinesAreTaken, ContinuationIs, NextLineHasCache}
use Rattle.pm_top.proofs.TakenLines.{one_more_taken, batch_taken, one_has}
use Rattle.pm_top.proofs.LaterStates.{plain_later}
use Rattle.pm_top.proofs.batch.next_batch.Goals as goal

pub returns-in_err-line-clause-takes : goal.returns-in_err-line-clause-takes
returns-in_err-line-clause-takes g c t =
    takes_on (g.H.Device.history c.args.host.now) (g.H.Device.history c.lines.host) (g.H.Device.history c.next_line.new.host) (g.H.Device.sound c.lines.host t) (c.lines.invariant.takes t) (c.next_line.ensures.takes t)

pub returns-in_err-alone-in-Line-clause-takes : goal.returns-in_err-alone-in-Line-clause-takes
returns-in_err-alone-in-Line-clause-takes g c t =
    takes_on (g.H.Device.history c.args.host.now) (g.H.Device.history c.lines.host) (g.H.Device.history c.next_line.new.host) (g.H.Device.sound c.lines.host t) (c.lines.invariant.takes t) (c.next_line.ensures.takes t)

pub returns-then-is_alone-clause-takes : goal.returns-then-is_alone-clause-takes
returns-then-is_alone-clause-takes g c t =
    takes_on (g.H.Device.history c.args.host.now) (g.H.Device.history c.lines.host) (g.H.Device.history c.next_line.new.host) (g.H.Device.sound c.lines.host t) (c.lines.invariant.takes t) (c.next_line.ensures.takes t)

pub returns-in_err-push-in-Line-clause-takes : goal.returns-in_err-push-in-Line-clause-takes
returns-in_err-push-in-Line-clause-takes g c t =
    takes_on (g.H.Device.history c.args.host.now) (g.H.Device.history c.lines.host) (g.H.Device.history c.next_line.new.host) (g.H.Device.sound c.lines.host t) (c.lines.invariant.takes t) (c.next_line.ensures.takes t)

pub returns-then-not-takes_more-clause-takes : goal.returns-then-not-takes_more-clause-takes
returns-then-not-takes_more-clause-takes g c t =
    takes_on (g.H.Device.history c.args.host.now) (g.H.Device.history c.lines.host) (g.H.Device.history c.next_line.new.host) (g.H.Device.sound c.lines.host t) (c.lines.invariant.takes t) (c.next_line.ensures.takes t)

pub returns-in-End-clause-takes : goal.returns-in-End-clause-takes
returns-in-End-clause-takes g c t =
    takes_on (g.H.Device.history c.args.host.now) (g.H.Device.history c.lines.host) (g.H.Device.history c.next_line.new.host) (g.H.Device.sound c.lines.host t) (c.lines.invariant.takes t) (c.next_line.ensures.takes t)

pub returns-in-Over-clause-takes : goal.returns-in-Over-clause-takes
returns-in-Over-clause-takes g c t =
    takes_on (g.H.Device.history c.args.host.now) (g.H.Device.history c.lines.host) (g.H.Device.history c.next_line.new.host) (g.H.Device.sound c.lines.host t) (c.lines.invariant.takes t) (c.next_line.ensures.takes t)

pub returns-then-is_alone-clause-taken : goal.returns-then-is_alone-clause-taken
returns-then-is_alone-clause-taken g c t =
    let old = g.H.Device.history c.args.host.now in
    let before = g.H.Device.history c.lines.host in
    let now = g.H.Device.history c.next_line.new.host in
    let reads = subst (λ n. GivesNextLine c.lines.input c.next_line.new.input (rest_of c.lines.input before.world) (rest_of c.next_line.new.input now.world) n) c.in-Line.is (c.in_ok-line.ensures.reads t) in
    let more = one_more_taken c.args.input.now c.lines.input c.next_line.new.input (rest_of c.args.input.now old.world) (rest_of c.lines.input before.world) (rest_of c.next_line.new.input now.world) c.lines.lines.items c.in-Line.line (c.lines.invariant.taken t) reads in
    record {
      at = c.next_line.new.input;
      left = rest_of c.next_line.new.input now.world;
      taken = subst (λ alone. LinesAreTaken c.args.input.now c.next_line.new.input (rest_of c.args.input.now old.world) (rest_of c.next_line.new.input now.world) (c.lines.lines.items ++ alone)) (sym c.in_ok-alone-in-Line.ensures) more;
      continues = (refl, refl);
    }

pub returns-then-not-takes_more-clause-taken : goal.returns-then-not-takes_more-clause-taken
returns-then-not-takes_more-clause-taken g c t =
    let old = g.H.Device.history c.args.host.now in
    let before = g.H.Device.history c.lines.host in
    let now = g.H.Device.history c.next_line.new.host in
    let reads = subst (λ n. GivesNextLine c.lines.input c.next_line.new.input (rest_of c.lines.input before.world) (rest_of c.next_line.new.input now.world) n) c.in-Line.is (c.in_ok-line.ensures.reads t) in
    let more = one_more_taken c.args.input.now c.lines.input c.next_line.new.input (rest_of c.args.input.now old.world) (rest_of c.lines.input before.world) (rest_of c.next_line.new.input now.world) c.lines.lines.items c.in-Line.line (c.lines.invariant.taken t) reads in
    let here = rest_of c.next_line.new.input now.world in
    batch_taken c.args.input.now c.next_line.new.input c.next_line.new.input (rest_of c.args.input.now old.world) here here c.ended.result (c.lines.lines.items ++ c.in-Line.line ∷ []) (c.ended.ensures.lines ∙ c.in_ok-push-in-Line.ensures.items) c.ended.ensures.alone more
    (subst (λ b. ContinuationIs b c.next_line.new.input c.next_line.new.input here here) (sym c.ended.ensures.continuation) (refl, refl))

pub lines-preserved : goal.lines-preserved
lines-preserved g c =
    let v = c.lines.invariant in
    let pushed = c.in_ok-push-in-Line.ensures.items in
    let counts = subst (CountsNextLine c.lines.input c.next_line.new.input) c.in-Line.is c.in_ok-line.ensures.counts in
    let has = subst NextLineHasCache c.in-Line.is c.in_ok-line.ensures.numbered in
    let longer : length c.push.new.self.items ≡ length c.lines.lines.items + 1 = omega (arith, ap (λ (l : List Line). length l) pushed, length-append c.lines.lines.items (c.in-Line.line ∷ [])) in
    record {
      few = search rules;
      caches = subst (All HasCache) (sym pushed) (All-append HasCache c.lines.lines.items (c.in-Line.line ∷ []) v.caches (one_has c.in-Line.line has));
      count = omega (arith, v.count, counts.lines, longer);
      limit = λ few. counts.few_lines;
      state = plain_later _ _ _ c.next_line.result v.state c.next_line.ensures.cause;
      input_end = λ t. c.in_ok-line.ensures.input_end t;
      taken = λ t.
          let old = g.H.Device.history c.args.host.now in
          let before = g.H.Device.history c.lines.host in
          let now = g.H.Device.history c.next_line.new.host in
          let reads = subst (λ n. GivesNextLine c.lines.input c.next_line.new.input (rest_of c.lines.input before.world) (rest_of c.next_line.new.input now.world) n) c.in-Line.is (c.in_ok-line.ensures.reads t) in
          let more = one_more_taken c.args.input.now c.lines.input c.next_line.new.input (rest_of c.args.input.now old.world) (rest_of c.lines.input before.world) (rest_of c.next_line.new.input now.world) c.lines.lines.items c.in-Line.line (c.lines.invariant.taken t) reads in
          subst (LinesAreTaken c.args.input.now c.next_line.new.input (rest_of c.args.input.now old.world) (rest_of c.next_line.new.input now.world)) (sym pushed) more;
      takes = λ t. takes_on (g.H.Device.history c.args.host.now) (g.H.Device.history c.lines.host) (g.H.Device.history c.next_line.new.host) (g.H.Device.sound c.lines.host t) (v.takes t) (c.next_line.ensures.takes t);
    }

pub returns-in-End-clause-taken : goal.returns-in-End-clause-taken
returns-in-End-clause-taken g c t =
    let old = g.H.Device.history c.args.host.now in
    let before = g.H.Device.history c.lines.host in
    let now = g.H.Device.history c.next_line.new.host in
    let reads = subst (λ n. GivesNextLine c.lines.input c.next_line.new.input (rest_of c.lines.input before.world) (rest_of c.next_line.new.input now.world) n) c.in-End.is (c.in_ok-line.ensures.reads t) in
    let left = rest_of c.lines.input before.world in
    batch_taken c.args.input.now c.lines.input c.next_line.new.input (rest_of c.args.input.now old.world) left (rest_of c.next_line.new.input now.world) c.ended-in-End.result c.lines.lines.items c.ended-in-End.ensures.lines c.ended-in-End.ensures.alone (c.lines.invariant.taken t)
    (subst (λ b. ContinuationIs b c.lines.input c.next_line.new.input left (rest_of c.next_line.new.input now.world)) (sym c.ended-in-End.ensures.continuation) (reads.none, reads.now_none))

pub returns-in-Over-clause-taken : goal.returns-in-Over-clause-taken
returns-in-Over-clause-taken g c t =
    let old = g.H.Device.history c.args.host.now in
    let before = g.H.Device.history c.lines.host in
    let now = g.H.Device.history c.next_line.new.host in
    let reads = subst (λ n. GivesNextLine c.lines.input c.next_line.new.input (rest_of c.lines.input before.world) (rest_of c.next_line.new.input now.world) n) c.in-Over.is (c.in_ok-line.ensures.reads t) in
    let left = rest_of c.lines.input before.world in
    batch_taken c.args.input.now c.lines.input c.next_line.new.input (rest_of c.args.input.now old.world) left (rest_of c.next_line.new.input now.world) c.ended-in-Over.result c.lines.lines.items c.ended-in-Over.ensures.lines c.ended-in-Over.ensures.alone (c.lines.invariant.taken t)
    (subst (λ b. ContinuationIs b c.lines.input c.next_line.new.input left (rest_of c.next_line.new.input now.world)) (sym c.ended-in-Over.ensures.continuation) reads)
