use Rattle.std.proofs.Common.{◌≡◌, inl, inr, Some, Err, ap, sym, ◌∙◌, subst}
use Rattle.std.specs.Prelude.{codes, ◌++◌}
use Rattle.pm_disk.specs.Worlds.{World}
use Rattle.pm_disk.proofs.Chain.{at_last}
use Rattle.pm_config.specs.Names.{name_of}
use Rattle.pm_redo.specs.Rebuilding.{IsSame}
use Rattle.pm_tools.specs.DrawnLines.{drawn_lines}
use Rattle.pm_top.specs.Configurations.{AsksFor, config_fault, fault_config}
use Rattle.pm_top.proofs.KeptConfigs.{config_same, config_say, config_then}
use Rattle.pm_top.proofs.DrawnRefusing.{field_refused_gen, gen_crash_from, gen_from, idle_gen, kept_gen, refused_gen}
use Rattle.pm_top.proofs.Refusing.{AnswersNone, same_disk}
use Rattle.pm_top.proofs.generate.gen_configured.Goals as goal

pub generate-requires-clause-asked : goal.generate-requires-clause-asked
generate-requires-clause-asked g c _ _ t =
    let old = g.H.Device.history c.args.host.now in
    let mid = g.H.Device.history c.read_config.new.host in
    let first = c.read_config.ensures.same t in
    let same : mid.world ≡ old.world = at_last old mid (IsSame old.world) (g.H.Device.sound c.read_config.new.host t) first in
    subst (λ w. AsksFor w c.in-Ok.config.shape) (sym same) (c.in-Ok.ensures.asked t)

pub returns-in-Ok-clause-holds : goal.returns-in-Ok-clause-holds
returns-in-Ok-clause-holds g c t =
    let old = g.H.Device.history c.args.host.now in
    let mid = g.H.Device.history c.read_config.new.host in
    let first = c.read_config.ensures.same t in
    let same : mid.world ≡ old.world = at_last old mid (IsSame old.world) (g.H.Device.sound c.read_config.new.host t) first in
    let outcome = c.generate.result in
    gen_from (drawn_lines c.args.seed 1 c.args.count) old mid (g.H.Device.history c.generate.new.host) outcome.status outcome.lines outcome.order.items first same (c.generate.ensures.holds t)

pub returns-in-Ok-clause-crash : goal.returns-in-Ok-clause-crash
returns-in-Ok-clause-crash g c t =
    let old = g.H.Device.history c.args.host.now in
    let mid = g.H.Device.history c.read_config.new.host in
    let first = c.read_config.ensures.same t in
    let same : mid.world ≡ old.world = at_last old mid (IsSame old.world) (g.H.Device.sound c.read_config.new.host t) first in
    gen_crash_from (drawn_lines c.args.seed 1 c.args.count) old mid (g.H.Device.history c.generate.new.host) c.generate.result.order.items first same (c.generate.ensures.crash t)

pub returns-in-Ok-clause-config : goal.returns-in-Ok-clause-config
returns-in-Ok-clause-config g c t =
    let old = g.H.Device.history c.args.host.now in
    let mid = g.H.Device.history c.read_config.new.host in
    let first = c.read_config.ensures.same t in
    let same : mid.world ≡ old.world = at_last old mid (IsSame old.world) (g.H.Device.sound c.read_config.new.host t) first in
    config_then old mid (g.H.Device.history c.generate.new.host) (g.H.Device.sound c.read_config.new.host t) (config_same old mid first) (c.generate.ensures.config t)

pub returns-in-Err-Failed-clause-holds : goal.returns-in-Err-Failed-clause-holds
returns-in-Err-Failed-clause-holds g c t =
    let old = g.H.Device.history c.args.host.now in
    let mid = g.H.Device.history c.read_config.new.host in
    let first = c.read_config.ensures.same t in
    let same : mid.world ≡ old.world = at_last old mid (IsSame old.world) (g.H.Device.sound c.read_config.new.host t) first in
    let outcome = c.without.result in
    idle_gen (drawn_lines c.args.seed 1 c.args.count) old mid outcome.status outcome.lines outcome.order.items (inl c.without.ensures.status) (ap (λ (w : World). w.said) same) (ap (λ (w : World). w.input) same) c.without.ensures.lines c.without.ensures.order (λ _ _. same_disk old mid first)

pub returns-in-Err-Failed-clause-crash : goal.returns-in-Err-Failed-clause-crash
returns-in-Err-Failed-clause-crash g c t =
    let old = g.H.Device.history c.args.host.now in
    let mid = g.H.Device.history c.read_config.new.host in
    let first = c.read_config.ensures.same t in
    let same : mid.world ≡ old.world = at_last old mid (IsSame old.world) (g.H.Device.sound c.read_config.new.host t) first in
    kept_gen (drawn_lines c.args.seed 1 c.args.count) old mid c.without.result.order.items first

pub returns-in-Err-Failed-clause-config : goal.returns-in-Err-Failed-clause-config
returns-in-Err-Failed-clause-config g c t =
    let old = g.H.Device.history c.args.host.now in
    let mid = g.H.Device.history c.read_config.new.host in
    let first = c.read_config.ensures.same t in
    let same : mid.world ≡ old.world = at_last old mid (IsSame old.world) (g.H.Device.sound c.read_config.new.host t) first in
    config_same old mid first

pub returns-in-Err-Memory-clause-holds : goal.returns-in-Err-Memory-clause-holds
returns-in-Err-Memory-clause-holds g c t =
    let old = g.H.Device.history c.args.host.now in
    let mid = g.H.Device.history c.read_config.new.host in
    let first = c.read_config.ensures.same t in
    let same : mid.world ≡ old.world = at_last old mid (IsSame old.world) (g.H.Device.sound c.read_config.new.host t) first in
    let outcome = c.without-in-Err-Memory.result in
    idle_gen (drawn_lines c.args.seed 1 c.args.count) old mid outcome.status outcome.lines outcome.order.items (inr c.without-in-Err-Memory.ensures.status) (ap (λ (w : World). w.said) same) (ap (λ (w : World). w.input) same) c.without-in-Err-Memory.ensures.lines c.without-in-Err-Memory.ensures.order (λ _ _. same_disk old mid first)

pub returns-in-Err-Memory-clause-crash : goal.returns-in-Err-Memory-clause-crash
returns-in-Err-Memory-clause-crash g c t =
    let old = g.H.Device.history c.args.host.now in
    let mid = g.H.Device.history c.read_config.new.host in
    let first = c.read_config.ensures.same t in
    let same : mid.world ≡ old.world = at_last old mid (IsSame old.world) (g.H.Device.sound c.read_config.new.host t) first in
    kept_gen (drawn_lines c.args.seed 1 c.args.count) old mid c.without-in-Err-Memory.result.order.items first

pub returns-in-Err-Memory-clause-config : goal.returns-in-Err-Memory-clause-config
returns-in-Err-Memory-clause-config g c t =
    let old = g.H.Device.history c.args.host.now in
    let mid = g.H.Device.history c.read_config.new.host in
    let first = c.read_config.ensures.same t in
    let same : mid.world ≡ old.world = at_last old mid (IsSame old.world) (g.H.Device.sound c.read_config.new.host t) first in
    config_same old mid first

pub returns-in-Err-Refused-clause-holds : goal.returns-in-Err-Refused-clause-holds
returns-in-Err-Refused-clause-holds g c t =
    let old = g.H.Device.history c.args.host.now in
    let mid = g.H.Device.history c.read_config.new.host in
    let first = c.read_config.ensures.same t in
    let same : mid.world ≡ old.world = at_last old mid (IsSame old.world) (g.H.Device.sound c.read_config.new.host t) first in
    let printed = c.print_config_fault in
    let new = g.H.Device.history printed.new.host in
    let outcome = c.without-in-Err-Refused.result in
    let is : config_fault mid.world ≡ Some c.in-Err-Refused.field = ap config_fault same ∙ c.in-Err-Refused.ensures.refused t c.in-Err-Refused.field (ap Err c.in-Err-Refused.field-0-is) in
    gen_from (drawn_lines c.args.seed 1 c.args.count) old mid new outcome.status outcome.lines outcome.order.items first same
    (field_refused_gen (drawn_lines c.args.seed 1 c.args.count) mid new outcome.status outcome.lines outcome.order.items c.in-Err-Refused.field is (subst AnswersNone (sym c.without-in-Err-Refused.ensures.status) printed.ensures.cases) (λ e. printed.ensures.misconfigured t (sym c.without-in-Err-Refused.ensures.status ∙ e)) (printed.ensures.moments t) c.without-in-Err-Refused.ensures.lines c.without-in-Err-Refused.ensures.order)

pub returns-in-Err-Refused-clause-crash : goal.returns-in-Err-Refused-clause-crash
returns-in-Err-Refused-clause-crash g c t =
    let old = g.H.Device.history c.args.host.now in
    let mid = g.H.Device.history c.read_config.new.host in
    let first = c.read_config.ensures.same t in
    let same : mid.world ≡ old.world = at_last old mid (IsSame old.world) (g.H.Device.sound c.read_config.new.host t) first in
    let printed = c.print_config_fault in
    let new = g.H.Device.history printed.new.host in
    let outcome = c.without-in-Err-Refused.result in
    gen_crash_from (drawn_lines c.args.seed 1 c.args.count) old mid new outcome.order.items first same (refused_gen (drawn_lines c.args.seed 1 c.args.count) mid new outcome.order.items 99 (codes "onfig " ++ name_of c.in-Err-Refused.field ++ codes "\n") (printed.ensures.moments t))

pub returns-in-Err-Refused-clause-config : goal.returns-in-Err-Refused-clause-config
returns-in-Err-Refused-clause-config g c t =
    let old = g.H.Device.history c.args.host.now in
    let mid = g.H.Device.history c.read_config.new.host in
    let first = c.read_config.ensures.same t in
    let same : mid.world ≡ old.world = at_last old mid (IsSame old.world) (g.H.Device.sound c.read_config.new.host t) first in
    let printed = c.print_config_fault in
    let new = g.H.Device.history printed.new.host in
    let outcome = c.without-in-Err-Refused.result in
    config_then old mid new (g.H.Device.sound c.read_config.new.host t) (config_same old mid first) (config_say (fault_config c.in-Err-Refused.field) mid new (printed.ensures.moments t))
