use Rattle.std.proofs.Common.{◌++◌, List, ℕ, subst}
use Rattle.std.proofs.lemmas.Result.{on_ok_weaker}
use Rattle.pm_disk.proofs.Chain.{weaker}
use Rattle.pm_tools.specs.Lines.{end_line}
use Rattle.pm_tools.specs.Listings.{SaysOfLog, SaysPrefix, IsSaid}
use Rattle.pm_tools.proofs.Listed.{lists_end, end_alone}
use Rattle.pm_tools.proofs.listing.say_end.Goals as goal

pub returns-clause-listed : goal.returns-clause-listed
returns-clause-listed g c t =
    let old = g.H.Device.history c.args.host.now in
    let now = g.H.Device.history c.finish.new.host in
    let from = c.args.from in
    on_ok_weaker c.finish.result
    (λ said. record { text = end_line from; lists = lists_end from old.world c.requires.past; said = subst (λ (l : List ℕ). IsSaid (l ++ end_line from) old.world now.world) c.new-lines.ensures.items said })
    (c.finish.ensures.said t)

pub returns-clause-moments : goal.returns-clause-moments
returns-clause-moments g c t =
    let old = g.H.Device.history c.args.host.now in
    let from = c.args.from in
    weaker old (g.H.Device.history c.finish.new.host) (SaysPrefix (c.new-lines.result.items ++ end_line from) old.world) (SaysOfLog from old.world)
    (λ w part. end_alone from old.world w c.requires.past (subst (λ (l : List ℕ). SaysPrefix (l ++ end_line from) old.world w) c.new-lines.ensures.items part))
    (c.finish.ensures.moments t)
