use Rattle.std.proofs.Common.{ap, ◌∙◌, sym}
use Rattle.pm_locks.specs.declared.view.View.{View}
use Rattle.pm_locks.specs.Rule.{known_range}
use Rattle.pm_locks.specs.Words.{held_by}
use Rattle.pm_locks.specs.Steps.{taken_out}
use Rattle.pm_locks.proofs.Told.{backed_before}
use Rattle.pm_locks.proofs.locks.Locks.flush_take.Goals as goal

pub returns-in-Ok-clause-answer : goal.returns-in-Ok-clause-answer
returns-in-Ok-clause-answer c =
    let w = c.look-seen.result in let met = c.look-seen.ensures.met.view in let y = c.in-Ok.lease in record {
      word = w;
      wanted = c.is_wanted.ensures.0 c.if-not-is_wanted.false;
      home = sym c.holder.ensures ∙ c.if-holder.false;
      here = c.in-Ok.ensures.lease.0;
      range_is = c.in-Ok.ensures.range ∙ ap (λ (u : View). known_range u c.args.f) met;
      met = c.look-seen.ensures.met.told;
      backed = backed_before c.args.seat.now.view c.look-seen.new.seat.view c.args.f w met y.bytes c.in-Ok.ensures.lease.1;
      view = c.in-Ok.ensures.taken ∙ ap (λ z. taken_out z c.args.f w (held_by 8 w) y) met;
    }
