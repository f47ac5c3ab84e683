use Rattle.std.proofs.Common.{◌≡◌, ◌∙◌, ◌+◌, ◌++◌, ◌∷◌, [], ℕ, List, length, sym, ap, subst, arith, length-append}
use Rattle.std.proofs.lemmas.List.Elements.{All-append}
use Rattle.std.specs.List.{All}
use Rattle.pm_model.specs.declared.line.Line.{Line}
use Rattle.pm_model.specs.Batches.{HasCache}
use Rattle.pm_top.proofs.DrawnScripts.{DrawnFirst, drawn_none, drawn_one}
use Rattle.pm_top.proofs.TakenLines.{one_has}
use Rattle.pm_top.proofs.drawing.draw_lines.Goals as goal

pub each-init : goal.each-init
each-init c = record {
  drawn = subst (λ (ls : List Line). DrawnFirst c.args.drawing.now c.args.first 0 ls c.args.drawing.now) (sym c.new-lines.ensures.items) (drawn_none c.args.drawing.now c.args.first);
  count = ap (λ (ls : List Line). length ls) c.new-lines.ensures.items;
  caches = subst (All HasCache) (sym c.new-lines.ensures.items) (λ k d few. absurd (omega (arith, few)));
}

pub each-preserved : goal.each-preserved
each-preserved c =
    let so_far = c.each.invariant in
    let pushed = c.in_ok-push.ensures.items in
    let count : length c.push.new.self.items ≡ length c.each.lines.items + 1 = omega (arith, ap (λ (l : List Line). length l) pushed, length-append c.each.lines.items (c.in_ok-line.line ∷ [])) in
    record {
      drawn = subst (λ (x : List Line × ℕ). DrawnFirst c.args.drawing.now c.args.first (c.each.i + 1) x.0 x.1)
          (λ i. ((ap (λ line. c.each.lines.items ++ line ∷ []) (sym c.in_ok-line.ensures.line) ∙ sym pushed) i, sym c.line.ensures.draws i))
          (drawn_one c.args.drawing.now c.args.first c.each.i c.each.lines.items c.each.drawing so_far.drawn);
      count = omega (arith, count, so_far.count);
      caches = subst (All HasCache) (sym pushed) (All-append HasCache c.each.lines.items (c.in_ok-line.line ∷ []) so_far.caches (one_has c.in_ok-line.line c.in_ok-line.ensures.cache));
    }

pub returns : goal.returns
returns c =
    let all : c.each.i ≡ c.args.count = omega (arith, c.each.auto.i-end, c.each-test.false) in
    record {
      drawn = subst (λ (n : ℕ). DrawnFirst c.args.drawing.now c.args.first n c.each.lines.items c.each.drawing) all c.each.invariant.drawn;
      count = c.each.invariant.count ∙ all;
      caches = c.each.invariant.caches;
    }
