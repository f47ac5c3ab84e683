use Rattle.std.proofs.Common.{◌≡◌, ◌∙◌, ap, subst, sym, inl, Option}
use Rattle.std.specs.Prelude.{codes, map, string_bytes, IfSome, None, Some}
use Rattle.std.specs.Option.{option_map}
use Rattle.pm_disk.proofs.Chain.{at_last}
use Rattle.pm_redo.specs.Rebuilding.{IsSame}
use Rattle.pm_top.specs.Commands.{CommandHolds, CommandIsSafe}
use Rattle.pm_top.specs.Promises.{RefusalIs, SaysPart}
use Rattle.pm_top.specs.declared.words.CommandName.{CommandName}
use Rattle.pm_top.specs.declared.words.Command.{Command}
use Rattle.pm_top.specs.Words.{command_in, folder_in, DrawsFew}
use Rattle.pm_top.proofs.Commanded.{holds_from, holds_unbound, holds_untouched, safe_from, safe_unbound, safe_untouched}
use Rattle.pm_top.proofs.BoundFolders.{folder_bound, folder_refused, folder_unbound, folder_untouched}
use Rattle.pm_top.proofs.KeptConfigs.{config_bind, config_none, config_say, config_then}
use Rattle.pm_top.proofs.Opened.{refused_moments, refusal, same_moments}
use Rattle.pm_top.proofs.Orders.{none_with_u}
use Rattle.pm_top.proofs.call.command.Goals as goal

-- ---- there is no memory to read the words

pub returns-in_default-clause-holds : goal.returns-in_default-clause-holds
returns-in_default-clause-holds g c t =
    let told = c.without in
    holds_untouched (command_in (map string_bytes c.args.words.now)) (g.H.Device.history c.args.host.now)
    told.result.status told.result.lines told.result.order.items (g.H.Device.sound c.args.host.now t)
    told.ensures.status told.ensures.lines told.ensures.order

pub returns-in_default-clause-crash : goal.returns-in_default-clause-crash
returns-in_default-clause-crash g c t =
    safe_untouched (command_in (map string_bytes c.args.words.now)) (g.H.Device.history c.args.host.now)
    c.without.result.order.items (g.H.Device.sound c.args.host.now t)

pub returns-in_default-clause-folder : goal.returns-in_default-clause-folder
returns-in_default-clause-folder g c =
    folder_untouched (map string_bytes c.args.words.now) c.without.result.status (g.H.Device.state c.args.host.now)
    c.without.ensures.status

pub returns-in_default-clause-config : goal.returns-in_default-clause-config
returns-in_default-clause-config g c t =
    config_none (g.H.Device.history c.args.host.now) (g.H.Device.sound c.args.host.now t)

-- ---- the words aren't a command

pub returns-in_default-found-clause-crash : goal.returns-in_default-found-clause-crash
returns-in_default-found-clause-crash g c t =
    let old = g.H.Device.history c.args.host.now in
    let new = g.H.Device.history c.print_usage_fault.new.host in
    let order = c.without-in_default-found.result.order.items in
    let none : None ≡ command_in (map string_bytes c.args.words.now) =
    sym (ap (option_map (λ (asked : Command). asked.name)) c.in_default-found.is) ∙ c.in-Ok.ensures.name in
    subst (λ (name : Option CommandName). CommandIsSafe name old new order) none
    (refused_moments old new order 117 (codes "sage\n") none_with_u (c.print_usage_fault.ensures.moments t))

pub returns-in_default-found-clause-holds : goal.returns-in_default-found-clause-holds
returns-in_default-found-clause-holds g c t =
    let old = g.H.Device.history c.args.host.now in
    let new = g.H.Device.history c.print_usage_fault.new.host in
    let told = c.without-in_default-found in
    let done = told.result in
    let part = at_last old new (SaysPart (codes "fault usage\n") old.world)
    (g.H.Device.sound c.print_usage_fault.new.host t) (c.print_usage_fault.ensures.moments t) in
    let none : None ≡ command_in (map string_bytes c.args.words.now) =
    sym (ap (option_map (λ (asked : Command). asked.name)) c.in_default-found.is) ∙ c.in-Ok.ensures.name in
    subst (λ (name : Option CommandName). CommandHolds name old new done.status done.lines done.order.items) none
    (subst (λ s. RefusalIs s old.world new.world done.lines done.order.items) (sym told.ensures.status)
    (refusal c.print_usage_fault.result old.world new.world done.lines done.order.items
    c.print_usage_fault.ensures.cases (c.print_usage_fault.ensures.usage t) part told.ensures.lines told.ensures.order))

pub returns-in_default-found-clause-folder : goal.returns-in_default-found-clause-folder
returns-in_default-found-clause-folder g c =
    folder_refused (map string_bytes c.args.words.now) c.without-in_default-found.result.status
    (g.H.Device.state c.args.host.now) (g.H.Device.state c.print_usage_fault.new.host)
    (sym (ap (option_map (λ (asked : Command). asked.name)) c.in_default-found.is) ∙ c.in-Ok.ensures.name)
    c.print_usage_fault.ensures.state.access

pub returns-in_default-found-clause-config : goal.returns-in_default-found-clause-config
returns-in_default-found-clause-config g c t =
    config_say (codes "fault usage\n") (g.H.Device.history c.args.host.now)
    (g.H.Device.history c.print_usage_fault.new.host) (c.print_usage_fault.ensures.moments t)

-- ---- they are one

pub do_command-requires-clause-few : goal.do_command-requires-clause-few
do_command-requires-clause-few g c _ _ =
    subst (λ (o : Option Command). IfSome o (λ asked. DrawsFew asked.name)) c.in-Some.is c.in-Ok.ensures.few

pub returns-in-Ok-bind_folder-clause-holds : goal.returns-in-Ok-bind_folder-clause-holds
returns-in-Ok-bind_folder-clause-holds g c t =
    let old = g.H.Device.history c.args.host.now in
    let mid = g.H.Device.history c.bind_folder.new.host in
    let new = g.H.Device.history c.do_command.new.host in
    let done = c.do_command.result in
    let named : Some c.in-Some.asked.name ≡ command_in (map string_bytes c.args.words.now) =
    sym (ap (option_map (λ (asked : Command). asked.name)) c.in-Some.is) ∙ c.in-Ok.ensures.name in
    subst (λ (name : Option CommandName). CommandHolds name old new done.status done.lines done.order.items) named
    (holds_from c.in-Some.asked.name old mid new done.status done.lines done.order.items
    (same_moments old mid c.bind_folder.result (g.H.Device.sound c.args.host.now t) (c.bind_folder.ensures.does t))
    (c.in-Ok-bind_folder.ensures.does t).ok (c.do_command.ensures.holds t))

pub returns-in-Ok-bind_folder-clause-crash : goal.returns-in-Ok-bind_folder-clause-crash
returns-in-Ok-bind_folder-clause-crash g c t =
    let old = g.H.Device.history c.args.host.now in
    let mid = g.H.Device.history c.bind_folder.new.host in
    let new = g.H.Device.history c.do_command.new.host in
    let order = c.do_command.result.order.items in
    let named : Some c.in-Some.asked.name ≡ command_in (map string_bytes c.args.words.now) =
    sym (ap (option_map (λ (asked : Command). asked.name)) c.in-Some.is) ∙ c.in-Ok.ensures.name in
    subst (λ (name : Option CommandName). CommandIsSafe name old new order) named
    (safe_from c.in-Some.asked.name old mid new order
    (same_moments old mid c.bind_folder.result (g.H.Device.sound c.args.host.now t) (c.bind_folder.ensures.does t))
    (c.in-Ok-bind_folder.ensures.does t).ok (c.do_command.ensures.crash t))

pub returns-in-Ok-bind_folder-clause-folder : goal.returns-in-Ok-bind_folder-clause-folder
returns-in-Ok-bind_folder-clause-folder g c =
    let words = map string_bytes c.args.words.now in
    let named : Some c.in-Some.asked.name ≡ command_in words =
    sym (ap (option_map (λ (asked : Command). asked.name)) c.in-Some.is) ∙ c.in-Ok.ensures.name in
    folder_bound words c.do_command.result.status (g.H.Device.state c.args.host.now)
    (g.H.Device.state c.bind_folder.new.host) (g.H.Device.state c.do_command.new.host) c.in-Some.asked.name
    c.in-Some.asked.folder.now named
    (subst (λ (o : Option Command). IfSome o (λ asked. asked.folder.now ≡ folder_in words)) c.in-Some.is c.in-Ok.ensures.folder)
    c.in-Ok-bind_folder.ensures.binds c.bind_folder.ensures.none_made c.do_command.ensures.cause.state.access

pub returns-in-Ok-bind_folder-clause-config : goal.returns-in-Ok-bind_folder-clause-config
returns-in-Ok-bind_folder-clause-config g c t =
    let old = g.H.Device.history c.args.host.now in
    let mid = g.H.Device.history c.bind_folder.new.host in
    config_then old mid (g.H.Device.history c.do_command.new.host) (g.H.Device.sound c.bind_folder.new.host t)
    (config_bind old mid c.bind_folder.result (g.H.Device.sound c.args.host.now t) (c.bind_folder.ensures.does t))
    (c.do_command.ensures.config t)

-- ---- and the folder can't be bound

pub returns-in-Err-clause-holds : goal.returns-in-Err-clause-holds
returns-in-Err-clause-holds g c t =
    let old = g.H.Device.history c.args.host.now in
    let mid = g.H.Device.history c.bind_folder.new.host in
    let told = c.without-in-Err in
    let done = told.result in
    let kept = same_moments old mid c.bind_folder.result (g.H.Device.sound c.args.host.now t) (c.bind_folder.ensures.does t) in
    let same : mid.world ≡ old.world = at_last old mid (IsSame old.world) (g.H.Device.sound c.bind_folder.new.host t) kept in
    let named : Some c.in-Some.asked.name ≡ command_in (map string_bytes c.args.words.now) =
    sym (ap (option_map (λ (asked : Command). asked.name)) c.in-Some.is) ∙ c.in-Ok.ensures.name in
    subst (λ (name : Option CommandName). CommandHolds name old mid done.status done.lines done.order.items) named
    (holds_unbound c.in-Some.asked.name old mid done.status done.lines done.order.items kept same
    (inl told.ensures.status) told.ensures.lines told.ensures.order)

pub returns-in-Err-clause-crash : goal.returns-in-Err-clause-crash
returns-in-Err-clause-crash g c t =
    let old = g.H.Device.history c.args.host.now in
    let mid = g.H.Device.history c.bind_folder.new.host in
    let order = c.without-in-Err.result.order.items in
    let named : Some c.in-Some.asked.name ≡ command_in (map string_bytes c.args.words.now) =
    sym (ap (option_map (λ (asked : Command). asked.name)) c.in-Some.is) ∙ c.in-Ok.ensures.name in
    subst (λ (name : Option CommandName). CommandIsSafe name old mid order) named
    (safe_unbound c.in-Some.asked.name old mid order
    (same_moments old mid c.bind_folder.result (g.H.Device.sound c.args.host.now t) (c.bind_folder.ensures.does t)))

pub returns-in-Err-clause-folder : goal.returns-in-Err-clause-folder
returns-in-Err-clause-folder g c =
    let words = map string_bytes c.args.words.now in
    let named : Some c.in-Some.asked.name ≡ command_in words =
    sym (ap (option_map (λ (asked : Command). asked.name)) c.in-Some.is) ∙ c.in-Ok.ensures.name in
    folder_unbound words c.without-in-Err.result.status (g.H.Device.state c.args.host.now)
    (g.H.Device.state c.bind_folder.new.host) c.in-Some.asked.name named c.in-Err.ensures.binds
    c.bind_folder.ensures.none_made c.without-in-Err.ensures.status

pub returns-in-Err-clause-config : goal.returns-in-Err-clause-config
returns-in-Err-clause-config g c t =
    config_bind (g.H.Device.history c.args.host.now) (g.H.Device.history c.bind_folder.new.host) c.bind_folder.result
    (g.H.Device.sound c.args.host.now t) (c.bind_folder.ensures.does t)
