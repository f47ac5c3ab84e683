use Rattle.std.proofs.Common.{◌≡◌, ◌⊎◌, inl, inr, Err, ap, sym, ◌∙◌, subst}
use Rattle.pm_top.specs.declared.status.Status.TheVariants.{Failed, Memory, Damaged}
use Rattle.pm_top.proofs.LogListing.{wal_cut, wal_done, wal_ends, wal_moments}
use Rattle.pm_top.proofs.call.list_log.Goals as goal

pub returns-in-Ok-clause-wal : goal.returns-in-Ok-clause-wal
returns-in-Ok-clause-wal g c t =
    let outcome = c.without.result in
    wal_done (g.H.Device.history c.args.host.now) (g.H.Device.history c.wal.new.host) outcome.status outcome.lines outcome.order.items (c.wal.ensures.moments t) (c.in-Ok.ensures.listed t) c.without.ensures.status c.without.ensures.lines c.without.ensures.order

pub returns-in-Err-Failed-clause-wal : goal.returns-in-Err-Failed-clause-wal
returns-in-Err-Failed-clause-wal g c t =
    let old = g.H.Device.history c.args.host.now in
    let new = g.H.Device.history c.wal.new.host in
    let told = c.without-in-Err-Failed in
    wal_ends old new told.result.status told.result.lines told.result.order.items (wal_moments old new (c.wal.ensures.moments t)) (inl told.ensures.status) told.ensures.lines told.ensures.order

pub returns-in-Err-Memory-clause-wal : goal.returns-in-Err-Memory-clause-wal
returns-in-Err-Memory-clause-wal g c t =
    let old = g.H.Device.history c.args.host.now in
    let new = g.H.Device.history c.wal.new.host in
    let told = c.without-in-Err-Memory in
    wal_ends old new told.result.status told.result.lines told.result.order.items (wal_moments old new (c.wal.ensures.moments t)) (inr told.ensures.status) told.ensures.lines told.ensures.order

pub returns-in-Err-BadRecord-clause-wal : goal.returns-in-Err-BadRecord-clause-wal
returns-in-Err-BadRecord-clause-wal g c t =
    let old = g.H.Device.history c.args.host.now in
    let mid = g.H.Device.history c.wal.new.host in
    let printed = c.print_record_fault-status in
    let new = g.H.Device.history printed.new.host in
    let told = c.without-in-Err-BadRecord in
    let at = c.in-Err-BadRecord.at in
    wal_cut old mid new told.result.status told.result.lines told.result.order.items at (c.wal.ensures.moments t) (c.in-Err-BadRecord.ensures.bad t at (ap Err c.in-Err-BadRecord.field-0-is))
    (subst (λ s. (s ≡ Damaged) ⊎ (s ≡ Failed) ⊎ (s ≡ Memory)) (sym told.ensures.status) printed.ensures.cases) (λ is. printed.ensures.damaged t (sym told.ensures.status ∙ is)) (printed.ensures.moments t) told.ensures.lines told.ensures.order
