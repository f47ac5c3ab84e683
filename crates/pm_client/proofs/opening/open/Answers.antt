use Rattle.std.proofs.Common.{◌≡◌, subst, IfOk, inl, inr}
use Rattle.pm_disk.specs.Worlds.{World}
use Rattle.pm_core.specs.Starts.{CanBegin}
use Rattle.pm_engine.specs.FrameOpenings.{OpensRunningIn}
use Rattle.pm_engine.specs.Openings.{HasFewNumbers, opened_last, opened_number}
use Rattle.pm_client.proofs.opening.open.Goals as goal

-- binding the folder changes no file
pub returns-clause-opened : goal.returns-clause-opened
returns-clause-opened g c t told shape pairs =
    let wanted = c.args.config.now.shape in
    let opened = c.open_store in
    let new = (g.H.Device.history opened.new.host).world in
    let same : (g.H.Device.history c.bind.new.self).world ≡ (g.H.Device.history c.args.host.now).world = elim (c.bind.ensures.does t).either [ inl is ↦ is | inr is ↦ is ] in
    subst (λ (w : World). (can : CanBegin wanted told w shape pairs) → HasFewNumbers can → IfOk opened.result (λ engine. OpensRunningIn (opened_last can) (opened_number can) wanted told shape pairs engine new)) same (opened.ensures.opened t told shape pairs)
