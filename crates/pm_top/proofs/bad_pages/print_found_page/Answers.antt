use Rattle.std.proofs.Common.{◌≡◌, inl, inr, Err, refl, ap, subst, ◌∙◌}
use Rattle.std.specs.Prelude.{IfOk}
use Rattle.pm_disk.proofs.Chain.{at_last}
use Rattle.pm_redo.specs.Rebuilding.{IsSame}
use Rattle.pm_tools.specs.Verifying.{IsVerified}
use Rattle.pm_top.specs.Promises.{NamesMet, fault_page, fault_record}
use Rattle.pm_top.proofs.FoundPages.{met_named, met_same, met_says}
use Rattle.pm_top.proofs.bad_pages.print_found_page.Goals as goal

pub returns-in-Ok-clause-damaged : goal.returns-in-Ok-clause-damaged
returns-in-Ok-clause-damaged g c t is =
    let old = g.H.Device.history c.args.host.now in
    let checked = c.verify-checked in
    let mid = g.H.Device.history checked.new.host in
    let printed = c.print_page_fault in
    let new = g.H.Device.history printed.new.host in
    let first = checked.ensures.same t in
    let same : mid.world ≡ old.world = at_last old mid (IsSame old.world) (g.H.Device.sound checked.new.host t) first in
    let text = fault_page c.args.met in
    let names : NamesMet c.args.met old.world text = inr ((c.in-Ok.field-0, subst (λ r. IfOk r (IsVerified old.world)) c.in-Ok.is (checked.ensures.verified t)), refl) in
    met_named c.args.met old.world mid.world new.world text names same (printed.ensures.damaged t is)

pub returns-in-Ok-clause-moments : goal.returns-in-Ok-clause-moments
returns-in-Ok-clause-moments g c t =
    let old = g.H.Device.history c.args.host.now in
    let checked = c.verify-checked in
    let mid = g.H.Device.history checked.new.host in
    let printed = c.print_page_fault in
    let new = g.H.Device.history printed.new.host in
    let first = checked.ensures.same t in
    let same : mid.world ≡ old.world = at_last old mid (IsSame old.world) (g.H.Device.sound checked.new.host t) first in
    let text = fault_page c.args.met in
    let names : NamesMet c.args.met old.world text = inr ((c.in-Ok.field-0, subst (λ r. IfOk r (IsVerified old.world)) c.in-Ok.is (checked.ensures.verified t)), refl) in
    met_says c.args.met old mid new text names first same (printed.ensures.moments t)

pub returns-in-Err-BadRecord-clause-damaged : goal.returns-in-Err-BadRecord-clause-damaged
returns-in-Err-BadRecord-clause-damaged g c t is =
    let old = g.H.Device.history c.args.host.now in
    let checked = c.verify-checked in
    let mid = g.H.Device.history checked.new.host in
    let printed = c.print_record_fault in
    let new = g.H.Device.history printed.new.host in
    let first = checked.ensures.same t in
    let same : mid.world ≡ old.world = at_last old mid (IsSame old.world) (g.H.Device.sound checked.new.host t) first in
    let text = fault_record c.in-Err-BadRecord.at in
    let names : NamesMet c.args.met old.world text = inl (inl (c.in-Err-BadRecord.at, checked.ensures.bad_record t c.in-Err-BadRecord.at (c.in-Err-BadRecord.is ∙ ap Err (rw c.in-Err-BadRecord.is at c.in-Err-BadRecord.field-0-is)), refl)) in
    met_named c.args.met old.world mid.world new.world text names same (printed.ensures.damaged t is)

pub returns-in-Err-BadRecord-clause-moments : goal.returns-in-Err-BadRecord-clause-moments
returns-in-Err-BadRecord-clause-moments g c t =
    let old = g.H.Device.history c.args.host.now in
    let checked = c.verify-checked in
    let mid = g.H.Device.history checked.new.host in
    let printed = c.print_record_fault in
    let new = g.H.Device.history printed.new.host in
    let first = checked.ensures.same t in
    let same : mid.world ≡ old.world = at_last old mid (IsSame old.world) (g.H.Device.sound checked.new.host t) first in
    let text = fault_record c.in-Err-BadRecord.at in
    let names : NamesMet c.args.met old.world text = inl (inl (c.in-Err-BadRecord.at, checked.ensures.bad_record t c.in-Err-BadRecord.at (c.in-Err-BadRecord.is ∙ ap Err (rw c.in-Err-BadRecord.is at c.in-Err-BadRecord.field-0-is)), refl)) in
    met_says c.args.met old mid new text names first same (printed.ensures.moments t)

pub returns-in-Err-BadPage-clause-damaged : goal.returns-in-Err-BadPage-clause-damaged
returns-in-Err-BadPage-clause-damaged g c t is =
    let old = g.H.Device.history c.args.host.now in
    let checked = c.verify-checked in
    let mid = g.H.Device.history checked.new.host in
    let printed = c.print_page_fault-in-Err-BadPage in
    let new = g.H.Device.history printed.new.host in
    let first = checked.ensures.same t in
    let same : mid.world ≡ old.world = at_last old mid (IsSame old.world) (g.H.Device.sound checked.new.host t) first in
    let text = fault_page c.in-Err-BadPage.first in
    let names : NamesMet c.args.met old.world text = inl (inr (c.in-Err-BadPage.first, checked.ensures.bad_page t c.in-Err-BadPage.first (c.in-Err-BadPage.is ∙ ap Err (rw c.in-Err-BadPage.is at c.in-Err-BadPage.field-0-is)), refl)) in
    met_named c.args.met old.world mid.world new.world text names same (printed.ensures.damaged t is)

pub returns-in-Err-BadPage-clause-moments : goal.returns-in-Err-BadPage-clause-moments
returns-in-Err-BadPage-clause-moments g c t =
    let old = g.H.Device.history c.args.host.now in
    let checked = c.verify-checked in
    let mid = g.H.Device.history checked.new.host in
    let printed = c.print_page_fault-in-Err-BadPage in
    let new = g.H.Device.history printed.new.host in
    let first = checked.ensures.same t in
    let same : mid.world ≡ old.world = at_last old mid (IsSame old.world) (g.H.Device.sound checked.new.host t) first in
    let text = fault_page c.in-Err-BadPage.first in
    let names : NamesMet c.args.met old.world text = inl (inr (c.in-Err-BadPage.first, checked.ensures.bad_page t c.in-Err-BadPage.first (c.in-Err-BadPage.is ∙ ap Err (rw c.in-Err-BadPage.is at c.in-Err-BadPage.field-0-is)), refl)) in
    met_says c.args.met old mid new text names first same (printed.ensures.moments t)

pub returns-in-Err-Failed-clause-moments : goal.returns-in-Err-Failed-clause-moments
returns-in-Err-Failed-clause-moments g c t =
    met_same c.args.met (g.H.Device.history c.args.host.now) (g.H.Device.history c.verify-checked.new.host) (c.verify-checked.ensures.same t)

pub returns-in-Err-Memory-clause-moments : goal.returns-in-Err-Memory-clause-moments
returns-in-Err-Memory-clause-moments g c t =
    met_same c.args.met (g.H.Device.history c.args.host.now) (g.H.Device.history c.verify-checked.new.host) (c.verify-checked.ensures.same t)
