use Rattle.std.proofs.Common.{◌≡◌, ◌⊎◌, inl, inr, Err, ap, refl, sym, ◌∙◌, subst}
use Rattle.pm_disk.proofs.Chain.{at_last}
use Rattle.pm_redo.specs.Rebuilding.{IsSame}
use Rattle.pm_top.specs.Promises.{fault_page, fault_record}
use Rattle.pm_top.specs.StoreChecks.{counts_line}
use Rattle.pm_top.specs.declared.status.Status.TheVariants.{Done, Failed, Memory, Damaged}
use Rattle.pm_top.proofs.StoreChecking.{check_bad, check_done, check_ends}
use Rattle.pm_top.proofs.call.check_store.Goals as goal

pub returns-in-Ok-clause-holds : goal.returns-in-Ok-clause-holds
returns-in-Ok-clause-holds g c t =
    let old = g.H.Device.history c.args.host.now in
    let mid = g.H.Device.history c.verify.new.host in
    let printed = c.print_counts-status in
    let new = g.H.Device.history printed.new.host in
    let told = c.without in
    let counts = c.in-Ok.counts in
    let first = c.verify.ensures.same t in
    let same : mid.world ≡ old.world = at_last old mid (IsSame old.world) (g.H.Device.sound c.verify.new.host t) first in
    check_done old mid new told.result.status told.result.lines told.result.order.items (counts_line counts) (counts, c.in-Ok.ensures.verified t, refl) first same (printed.ensures.moments t)
    (subst (λ s. (s ≡ Done) ⊎ (s ≡ Failed) ⊎ (s ≡ Memory)) (sym told.ensures.status) printed.ensures.cases) (λ is. printed.ensures.done t (sym told.ensures.status ∙ is)) told.ensures.lines told.ensures.order

pub returns-in-Err-Failed-clause-holds : goal.returns-in-Err-Failed-clause-holds
returns-in-Err-Failed-clause-holds g c t =
    let told = c.without-in-Err-Failed in
    check_ends (g.H.Device.history c.args.host.now) (g.H.Device.history c.verify.new.host) told.result.status told.result.lines told.result.order.items (c.verify.ensures.same t) (inl told.ensures.status) told.ensures.lines told.ensures.order

pub returns-in-Err-Memory-clause-holds : goal.returns-in-Err-Memory-clause-holds
returns-in-Err-Memory-clause-holds g c t =
    let told = c.without-in-Err-Memory in
    check_ends (g.H.Device.history c.args.host.now) (g.H.Device.history c.verify.new.host) told.result.status told.result.lines told.result.order.items (c.verify.ensures.same t) (inr told.ensures.status) told.ensures.lines told.ensures.order

pub returns-in-Err-BadRecord-clause-holds : goal.returns-in-Err-BadRecord-clause-holds
returns-in-Err-BadRecord-clause-holds g c t =
    let old = g.H.Device.history c.args.host.now in
    let mid = g.H.Device.history c.verify.new.host in
    let printed = c.print_record_fault-status in
    let new = g.H.Device.history printed.new.host in
    let told = c.without-in-Err-BadRecord in
    let at = c.in-Err-BadRecord.place in
    let first = c.verify.ensures.same t in
    let same : mid.world ≡ old.world = at_last old mid (IsSame old.world) (g.H.Device.sound c.verify.new.host t) first in
    check_bad old mid new told.result.status told.result.lines told.result.order.items (fault_record at) (inl (at, c.in-Err-BadRecord.ensures.bad_record t at (ap Err c.in-Err-BadRecord.field-0-is), refl)) first same (printed.ensures.moments t)
    (subst (λ s. (s ≡ Damaged) ⊎ (s ≡ Failed) ⊎ (s ≡ Memory)) (sym told.ensures.status) printed.ensures.cases) (λ is. printed.ensures.damaged t (sym told.ensures.status ∙ is)) told.ensures.lines told.ensures.order

pub returns-in-Err-BadPage-clause-holds : goal.returns-in-Err-BadPage-clause-holds
returns-in-Err-BadPage-clause-holds g c t =
    let old = g.H.Device.history c.args.host.now in
    let mid = g.H.Device.history c.verify.new.host in
    let printed = c.print_page_fault-status in
    let new = g.H.Device.history printed.new.host in
    let told = c.without-in-Err-BadPage in
    let page = c.in-Err-BadPage.page in
    let first = c.verify.ensures.same t in
    let same : mid.world ≡ old.world = at_last old mid (IsSame old.world) (g.H.Device.sound c.verify.new.host t) first in
    check_bad old mid new told.result.status told.result.lines told.result.order.items (fault_page page) (inr (page, c.in-Err-BadPage.ensures.bad_page t page (ap Err c.in-Err-BadPage.field-0-is), refl)) first same (printed.ensures.moments t)
    (subst (λ s. (s ≡ Damaged) ⊎ (s ≡ Failed) ⊎ (s ≡ Memory)) (sym told.ensures.status) printed.ensures.cases) (λ is. printed.ensures.damaged t (sym told.ensures.status ∙ is)) told.ensures.lines told.ensures.order
