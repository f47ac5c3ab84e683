use Rattle.std.proofs.Common.{◌≡◌, ◌%◌, length, sym, ap, subst, ◌∙◌, arith}
use Rattle.pm_policies.specs.Draws.{state_after_draw, IsOldestDrawn}
use Rattle.pm_policies.proofs.Draws.{state_after-one, state_after-more, drawn_first, drawn_more}
use Rattle.pm_policies.proofs.random_lru.oldest_drawn.Goals as goal

pub draws-init : goal.draws-init
draws-init c =
    let first = c.after_draw-state.ensures ∙ sym (state_after-one c.args.first) in
    record {
      oldest = subst (IsOldestDrawn c.args.stamps.now c.args.first 1) (sym c.frame_of-frame.ensures.frame) (drawn_first c.args.stamps.now c.args.first c.after_draw-state.result first);
      within = c.frame_of-frame.ensures.within;
      state = first;
    }

pub draws-preserved : goal.draws-preserved
draws-preserved c =
    let so_far = c.draws.invariant in let older = c.older-frame.ensures in
    let now = c.after_draw-drawn.ensures ∙ ap state_after_draw so_far.state ∙ sym (state_after-more c.draws.counter c.args.first) in
    record {
      oldest = drawn_more c.args.stamps.now c.args.first c.draws.counter c.draws.frame c.frame_of-other.result c.older-frame.result so_far.oldest
          (c.frame_of-other.ensures.frame ∙ ap (λ s. s % length c.args.stamps.now) now) older.one older.first older.second;
      within = older.within;
      state = now;
    }

pub returns-clause-oldest : goal.returns-clause-oldest
returns-clause-oldest c =
    let all : c.draws.counter ≡ 5 = omega arith in
    subst (λ k. IsOldestDrawn c.args.stamps.now c.args.first k c.draws.frame) all c.draws.invariant.oldest
