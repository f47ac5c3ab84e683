use Rattle.std.proofs.Common.{List, ℕ, sym, ap, subst, drop, ◌∙◌}
use Rattle.std.specs.Prelude.{is_ok}
use Rattle.pm_logger.specs.Fronts.{AppendsFront}
use Rattle.pm_logger.specs.Inboxes.{kept}
use Rattle.pm_logger.specs.Writers.{writer}
use Rattle.pm_logger.proofs.Appending.{front_none}
use Rattle.pm_logger.proofs.inbox.Inbox.append_kept.Goals as goal

pub returns-then-self-clause-appended : goal.returns-then-self-clause-appended
returns-then-self-clause-appended g c =
    front_none (writer (g.L.Device.history c.args.dev.now) c.args.log.now c.args.tally.now) (kept c.args.self.now) (g.L.Device.sound c.args.dev.now) c.requires.end

pub returns-clause-appended : goal.returns-clause-appended
returns-clause-appended g c =
    let before = writer (g.L.Device.history c.args.dev.now) c.args.log.now c.args.tally.now in
    let now = writer (g.L.Device.history c.append_front-appended.new.dev) c.append_front-appended.new.log c.append_front-appended.new.tally in
    let at = c.append_front-appended.new.at in
    subst (λ (p : List ℕ × List ℕ). AppendsFront g.L.Device.tells before now (is_ok c.append_front-appended.result) p.0 p.1)
    (λ i. (c.deref.ensures.value i, (ap (drop at) c.deref.ensures.value ∙ sym c.drop_front.ensures.left) i)) c.append_front-appended.ensures.appended
