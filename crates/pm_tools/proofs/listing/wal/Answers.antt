use Rattle.std.proofs.Common.{subst}
use Rattle.pm_disk.proofs.Chain.{started, does, joined, weaker}
use Rattle.pm_tools.specs.Listings.{list_place, SaysOfLog}
use Rattle.pm_tools.proofs.Listed.{nothing_yet}
use Rattle.pm_tools.proofs.listing.wal.Goals as goal

pub returns-in_err-from-clause-moments : goal.returns-in_err-from-clause-moments
returns-in_err-from-clause-moments g c t =
    let old = g.H.Device.history c.args.host.now in
    let from = list_place old.world in
    let P = SaysOfLog from old.world in
    let here = nothing_yet from old.world in
    does old old (g.H.Device.history c.list_place.new.host) c.list_place.result old.world P (started old P (g.H.Device.sound c.args.host.now t) here) (c.list_place.ensures.does t) here here

pub returns-then-from-gt-SEGMENT_END_MAX-clause-moments : goal.returns-then-from-gt-SEGMENT_END_MAX-clause-moments
returns-then-from-gt-SEGMENT_END_MAX-clause-moments g c t =
    let old = g.H.Device.history c.args.host.now in
    let mid = g.H.Device.history c.list_place.new.host in
    let now = g.H.Device.history c.say_end.new.host in
    let from = list_place old.world in
    let P = SaysOfLog from old.world in
    let here = nothing_yet from old.world in
    let first = does old old mid c.list_place.result old.world P (started old P (g.H.Device.sound c.args.host.now t) here) (c.list_place.ensures.does t) here here in
    joined old mid now P first (weaker mid now (SaysOfLog c.in_ok-from.from mid.world) P
    (λ w part. subst (λ p. SaysOfLog p old.world w) (c.in_ok-from.ensures.place t) (subst (λ x. SaysOfLog c.in_ok-from.from x w) (c.in_ok-from.ensures.does t).ok part))
    (c.say_end.ensures.moments t))

pub returns-clause-moments : goal.returns-clause-moments
returns-clause-moments g c t =
    let old = g.H.Device.history c.args.host.now in
    let mid = g.H.Device.history c.list_place.new.host in
    let now = g.H.Device.history c.list_from.new.host in
    let from = list_place old.world in
    let P = SaysOfLog from old.world in
    let here = nothing_yet from old.world in
    let first = does old old mid c.list_place.result old.world P (started old P (g.H.Device.sound c.args.host.now t) here) (c.list_place.ensures.does t) here here in
    joined old mid now P first (weaker mid now (SaysOfLog c.in_ok-from.from mid.world) P
    (λ w part. subst (λ p. SaysOfLog p old.world w) (c.in_ok-from.ensures.place t) (subst (λ x. SaysOfLog c.in_ok-from.from x w) (c.in_ok-from.ensures.does t).ok part))
    (c.list_from.ensures.moments t))
