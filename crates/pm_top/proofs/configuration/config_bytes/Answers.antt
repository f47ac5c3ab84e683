use Rattle.std.proofs.Common.{rules, ◌≡◌, ◌∙◌, length, ℕ, take, ap, arith}
use Rattle.pm_top.proofs.Configured.{first_read}
use Rattle.pm_top.proofs.Opened.{same_moments}
use Rattle.pm_top.proofs.configuration.config_bytes.Goals as goal

pub returns-in-Ok-clause-first : goal.returns-in-Ok-clause-first
returns-in-Ok-clause-first g c t =
    let config = (g.H.Device.history c.args.host.now).world.config in
    let size : c.in_ok-bytes.bytes.len ≡ 65537 = search rules in
    let long : length c.read_config.new.into ≡ c.in_ok-bytes.bytes.len = omega (arith, c.read_config.auto.into, c.deref_mut.ensures.len) in
    c.truncate.ensures.items ∙ first_read c.in_ok-bytes.bytes.len c.in-Ok.count c.read_config.new.into _ config long (c.in-Ok.ensures.reads t) ∙ ap (λ (n : ℕ). take n config) size

pub returns-in-Ok-clause-same : goal.returns-in-Ok-clause-same
returns-in-Ok-clause-same g c t =
    same_moments (g.H.Device.history c.args.host.now) (g.H.Device.history c.read_config.new.self) c.read_config.result (g.H.Device.sound c.args.host.now t) (c.read_config.ensures.does t)

pub returns-in-Err-clause-same : goal.returns-in-Err-clause-same
returns-in-Err-clause-same g c t =
    same_moments (g.H.Device.history c.args.host.now) (g.H.Device.history c.read_config.new.self) c.read_config.result (g.H.Device.sound c.args.host.now t) (c.read_config.ensures.does t)
