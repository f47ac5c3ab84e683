use Rattle.std.proofs.Common.{◌≤◌, ◌<◌, length, ◌∙◌, subst, arith}
use Rattle.pm_ptable.proofs.Gaps.{IsClosing-moves, IsClosing-stays, map_of-moves, filled-moves}
use Rattle.pm_ptable.specs.Slots.{home_of}
use Rattle.pm_ptable.proofs.slots.close_gap.Goals as goal
use Rattle.pm_ptable.proofs.slots.close_gap.Goals.{then-home-gap, else-home-gap}

pub closes-preserved : goal.closes-preserved
closes-preserved c =
    let kept = c.closes.invariant in let entry = c.in-Some.entry in let gap = c.closes.gap in let at = c.closes.at in let home = c.home.ensures.home in
    elim c.if-home-gap.branch [
      | then-home-gap w ↦
          let near : home_of c.args.homes entry.page ≤ gap = subst (λ h. h ≤ gap) home w.if-home-gap.true in
          let within : at < length c.closes.slots = omega arith in
          rw (w.slots-is, w.gap-is) (record {
            closing = IsClosing-moves c.args.homes c.closes.slots gap at entry kept.closing within c.in-Some.is near;
            entries = map_of-moves c.args.homes c.closes.slots gap at entry kept.closing within c.in-Some.is near ∙ kept.entries;
            filled = filled-moves c.args.homes c.closes.slots gap at entry kept.closing within c.in-Some.is near ∙ kept.filled;
          })
      | else-home-gap w ↦
          rw (w.slots-is, w.gap-is) (record {
            closing = IsClosing-stays c.args.homes c.closes.slots gap at entry kept.closing c.in-Some.is (subst (λ h. gap < h) home w.if-home-gap.false);
            entries = kept.entries;
            filled = kept.filled;
          })
    ]
