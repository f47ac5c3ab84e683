use Rattle.std.proofs.Common.{ap, ◌∙◌, sym}
use Rattle.pm_locks.specs.declared.view.View.{View}
use Rattle.pm_locks.specs.Rule.{known_range}
use Rattle.pm_locks.specs.Words.{held_by}
use Rattle.pm_locks.specs.Steps.{taken_out}
use Rattle.pm_locks.proofs.Told.{mine_before, backed_before, follows}
use Rattle.pm_locks.proofs.locks.Locks.own_take.Goals as goal

pub returns-in-Ok-clause-answer : goal.returns-in-Ok-clause-answer
returns-in-Ok-clause-answer c =
    let v = c.args.seat.now.view in let w = c.look-seen.result in let met = c.look-seen.ensures.met.view in record {
      word = w;
      mine = mine_before v c.look-seen.new.seat.view c.args.f w met c.args.tag (c.owns.ensures.0 c.if-not-owns.false);
      home = sym c.holder.ensures ∙ c.if-holder.false;
      flag = c.flag.ensures;
      here = c.in-Ok.ensures.lease.0;
      range_is = c.in-Ok.ensures.range ∙ ap (λ (u : View). known_range u c.args.f) met;
      met = c.look-seen.ensures.met.told;
      backed = backed_before v c.look-seen.new.seat.view c.args.f w met c.in-Ok.lease.bytes c.in-Ok.ensures.lease.1;
      view = c.in-Ok.ensures.taken ∙ ap (λ h. taken_out c.look-seen.new.seat.view c.args.f w (held_by h w) c.in-Ok.lease) c.owner.ensures ∙ ap (λ z. taken_out z c.args.f w (held_by w.owner w) c.in-Ok.lease) met;
    }

pub returns-in-Ok-clause-last : goal.returns-in-Ok-clause-last
returns-in-Ok-clause-last c = λ n e has at tag.
    let v = c.args.seat.now.view in let w = c.look-seen.result in let met = c.look-seen.ensures.met.view in
    let owned = c.owns.ensures.0 c.if-not-owns.false in
    let mine = mine_before v c.look-seen.new.seat.view c.args.f w met c.args.tag owned in
    let backed = backed_before v c.look-seen.new.seat.view c.args.f w met c.in-Ok.lease.bytes c.in-Ok.ensures.lease.1 in
    follows v c.args.f w c.in-Ok.lease c.flag.result (backed.last mine.owner) c.flag.ensures n e has at (tag ∙ sym owned.same)
