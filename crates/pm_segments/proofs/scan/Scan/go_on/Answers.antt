use Rattle.std.proofs.Common.{◌≡◌, inl, inr, ap, sym, ◌∙◌, subst}
use Rattle.pm_frame.specs.Frames.{frame_at}
use Rattle.pm_disk.specs.Worlds.{World}
use Rattle.pm_types.specs.declared.place.Place.{Place}
use Rattle.pm_segments.specs.Scans.{Scanned, IsAhead, Advances, bytes_after}
use Rattle.pm_segments.proofs.Ahead.{sees, ahead_after}
use Rattle.pm_segments.proofs.PastSeal.{past_seal_found, past_seal_ahead, past_seal_advances}
use Rattle.pm_segments.proofs.scan.Scan.go_on.Goals as goal

pub returns-clause-found : goal.returns-clause-found
returns-clause-found g c t =
    let filled = c.fill.new.self in
    let world = (g.L.Device.history c.fill.new.dev).world in
    let is_ahead = c.in_ok-fill.ensures.ahead t in
    let same_world : world ≡ (g.L.Device.history c.args.dev.now).world = (c.in_ok-fill.ensures.does t).ok in
    ap (λ (s : Scanned). s.found) c.pass_seal.ensures.passed
    ∙ past_seal_found c.step.new.self
    ∙ c.step.ensures.found
    ∙ sees filled.next filled.ahead (bytes_after filled.next world) is_ahead.front (elim c.in_ok-fill.ensures.sees [ inl long ↦ inl long | inr whole ↦ inr (is_ahead.whole whole) ])
    ∙ ap (λ (w : World). frame_at filled.next (bytes_after filled.next w)) same_world
    ∙ ap (λ (p : Place). frame_at p (bytes_after p (g.L.Device.history c.args.dev.now).world)) c.fill.ensures.stays.next

pub returns-clause-ahead : goal.returns-clause-ahead
returns-clause-ahead g c t =
    let world = (g.L.Device.history c.fill.new.dev).world in
    let stepped = ahead_after c.fill.new.self c.step.new.self world c.step.new.self.found (c.in_ok-fill.ensures.ahead t) c.step.ensures.found c.step.ensures.steps c.step.ensures.ahead in
    subst (λ s. IsAhead s world) (sym c.pass_seal.ensures.passed) (past_seal_ahead c.step.new.self world stepped)

pub returns-clause-advances : goal.returns-clause-advances
returns-clause-advances g c =
    let going = c.step.ensures.is_over ∙ c.fill.ensures.stays.is_over ∙ c.requires.going in
    subst (λ (s : Scanned). Advances c.args.self.now s s.found) (sym c.pass_seal.ensures.passed)
    (past_seal_advances c.args.self.now c.fill.new.self c.step.new.self c.fill.ensures.stays.next going c.step.ensures.steps c.requires.going)
