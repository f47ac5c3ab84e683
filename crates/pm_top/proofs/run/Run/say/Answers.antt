use Rattle.std.proofs.Common.{rules, ◌≡◌, List, ℕ, ap, ◌∙◌, subst}
use Rattle.pm_types.specs.declared.fault.StoreFault.{StoreFault}
use Rattle.pm_types.specs.declared.fault.StoreFault.TheVariants.{Memory}
use Rattle.pm_types.specs.declared.fault.Lack.TheVariants.{Bytes}
use Rattle.pm_disk.specs.Moments.{Says}
use Rattle.pm_disk.specs.Worlds.{with_said}
use Rattle.pm_script.specs.Texts.{texts_of}
use Rattle.pm_top.proofs.Says.{unsaid_yet}
use Rattle.pm_top.proofs.run.Run.say.Goals as goal

pub returns-in_err-write_replies-clause-says : goal.returns-in_err-write_replies-clause-says
returns-in_err-write_replies-clause-says g c t =
    let it = unsaid_yet {T = Unit {0}} {E = StoreFault} (g.H.Device.history c.args.host.now) (Memory Bytes) (texts_of c.args.replies.now.replies) in
    record { time = it.time; ok = search rules; part = it.part }

pub returns-in_err-print_replies-clause-says : goal.returns-in_err-print_replies-clause-says
returns-in_err-print_replies-clause-says g c t =
    let old = g.H.Device.history c.args.host.now in
    let new = g.H.Device.history c.print_replies.new.host in
    let text : c.deref.result.now ≡ texts_of c.args.replies.now.replies = c.deref.ensures.value ∙ c.in_ok-write_replies.ensures in
    let call = subst (λ (bytes : List ℕ). Says old new c.print_replies.result bytes) text (c.print_replies.ensures.says t) in
    record { time = call.time; ok = search rules; part = call.part }

pub returns-clause-says : goal.returns-clause-says
returns-clause-says g c t =
    let old = g.H.Device.history c.args.host.now in
    let new = g.H.Device.history c.print_replies.new.host in
    let text : c.deref.result.now ≡ texts_of c.args.replies.now.replies = c.deref.ensures.value ∙ c.in_ok-write_replies.ensures in
    let call = subst (λ (bytes : List ℕ). Says old new c.print_replies.result bytes) text (c.print_replies.ensures.says t) in
    record { time = call.time; ok = (c.in_ok-print_replies.ensures.says t).ok ∙ ap (λ (bytes : List ℕ). with_said bytes old.world) text; part = call.part }
