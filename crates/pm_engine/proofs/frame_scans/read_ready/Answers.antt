-- Reading the pairs of a partition over a worker's page frames leaves what it leaves over any pages.
use Rattle.std.proofs.Common.{◌≡◌, ◌<◌, ◌≤◌, sym, subst, ap, ◌∙◌, arith}
use Rattle.std.specs.Prelude.{◌^◌}
use Rattle.std.proofs.lemmas.Result.{on_ok_weaker}
use Rattle.pm_types.specs.declared.limits.TheConstants.{ROWS_MAX}
use Rattle.pm_model.specs.declared.line.Cmd.TheVariants.{Scan}
use Rattle.pm_pages.specs.Paged.{Paged, AllReadable}
use Rattle.pm_part.specs.Runs.{IsPartitionOf}
use Rattle.pm_stripe.specs.Shown.{shown}
use Rattle.pm_stripe.specs.ShownLaws.{kept_then}
use Rattle.pm_engine.specs.MetPages.{IsMetBy}
use Rattle.pm_engine.proofs.FrameReads.{part_readable}
use Rattle.pm_engine.proofs.FrameRuns.{partition_seen}
use Rattle.pm_engine.proofs.FrameScans.{none_asked, given_readable, looked_up, pairs_seen}
use Rattle.pm_engine.proofs.FrameSteps.{seen_same, seen_then}
use Rattle.pm_engine.proofs.frame_scans.read_ready.Goals as goal

pub pairs-read-requires-clause-readable : goal.pairs-read-requires-clause-readable
pairs-read-requires-clause-readable g c =
    let tells = g.R.Device.tells in
    let history = g.R.Device.history in
    let state = g.R.Device.state in
    let b = c.args.bound.now in
    let n = c.at.new.self in
    let part = c.args.part.now.part in
    let same = c.at.ensures.same in
    let at : n.part ≡ part = c.at.ensures.part ∙ c.number.ensures in
    let small : part < 2 ^ 16 = omega (arith, c.requires.part.own.there, c.requires.begins.bound.holds.shaped.partitions_to) in
    subst (λ (p : Paged). AllReadable p) (sym (seen_same tells history state part b n same at)) (part_readable history state b part c.requires.begins.bound.holds small c.requires.readable)

pub returns-clause-looks : goal.returns-clause-looks
returns-clause-looks g c =
    let tells = g.R.Device.tells in
    let history = g.R.Device.history in
    let state = g.R.Device.state in
    let b = c.args.bound.now in
    let n = c.at.new.self in
    let m = c.pairs-read.new.pages in
    let e = c.let_go.new.self in
    let part = c.args.part.now.part in
    let same = c.at.ensures.same in
    let at : n.part ≡ part = c.at.ensures.part ∙ c.number.ensures in
    let keeps = kept_then tells history state n m e c.pairs-read.ensures.kept c.let_go.ensures.kept in
    let here = given_readable tells (shown history state m) (shown history state e) c.let_go.ensures.gives_up c.pairs-read.ensures.readable in
    looked_up tells history state part b n e same at keeps c.requires.begins c.requires.part.own (c.at.ensures.ready c.requires.begins) (none_asked e.stripe.held.items c.let_go.ensures.gives_up.spare)
    (subst (λ (p : Paged). AllReadable p) (seen_then tells history state part b n e same at keeps) here) c.requires.readable

pub returns-clause-failed : goal.returns-clause-failed
returns-clause-failed g c = λ is.
    let state = g.R.Device.state in
    let risen = c.pairs-read.ensures.cause.failed is in
    omega (arith, risen, c.let_go.ensures.gives_up.same.faults, ap (λ r. (state r).faults) c.at.ensures.same.reader)

pub returns-clause-pairs : goal.returns-clause-pairs
returns-clause-pairs g c = λ t well.
    let tells = g.R.Device.tells in
    let history = g.R.Device.history in
    let state = g.R.Device.state in
    let b = c.args.bound.now in
    let n = c.at.new.self in
    let part = c.args.part.now.part in
    let shape = c.args.part.now.shape in
    let same = c.at.ensures.same in
    let at : n.part ≡ part = c.at.ensures.part ∙ c.number.ensures in
    let small : part < 2 ^ 16 = omega (arith, c.requires.part.own.there, c.requires.begins.bound.holds.shaped.partitions_to) in
    let rows : b.stripe.shape.max_rows ≤ ROWS_MAX = c.requires.begins.bound.holds.shaped.max_rows_to in
    let partition = partition_seen tells history state shape part b c.requires.part.shape c.requires.part.own.there rows small well in
    let seen = subst (λ (p : Paged). IsPartitionOf shape p) (sym (seen_same tells history state part b n same at)) partition in
    on_ok_weaker c.pairs-read.result (λ read. pairs_seen tells history state shape part c.args.cache b n same at c.args.into.now c.pairs-read.new.into c.requires.part.shape c.requires.part.own.there rows well read) (c.pairs-read.ensures.pairs t shape seen)

pub returns-clause-sound : goal.returns-clause-sound
returns-clause-sound g c = λ t well.
    let tells = g.R.Device.tells in
    let history = g.R.Device.history in
    let state = g.R.Device.state in
    let b = c.args.bound.now in
    let n = c.at.new.self in
    let part = c.args.part.now.part in
    let shape = c.args.part.now.shape in
    let same = c.at.ensures.same in
    let at : n.part ≡ part = c.at.ensures.part ∙ c.number.ensures in
    let small : part < 2 ^ 16 = omega (arith, c.requires.part.own.there, c.requires.begins.bound.holds.shaped.partitions_to) in
    let rows : b.stripe.shape.max_rows ≤ ROWS_MAX = c.requires.begins.bound.holds.shaped.max_rows_to in
    let partition = partition_seen tells history state shape part b c.requires.part.shape c.requires.part.own.there rows small well in
    c.pairs-read.ensures.sound t shape (subst (λ (p : Paged). IsPartitionOf shape p) (sym (seen_same tells history state part b n same at)) partition)

pub returns-clause-met : goal.returns-clause-met
returns-clause-met g c = λ id is.
    let tells = g.R.Device.tells in
    let history = g.R.Device.history in
    let state = g.R.Device.state in
    let b = c.args.bound.now in
    let n = c.at.new.self in
    let part = c.args.part.now.part in
    let at : n.part ≡ part = c.at.ensures.part ∙ c.number.ensures in
    subst (λ (p : Paged). IsMetBy tells (Scan c.args.cache) p p id) (seen_same tells history state part b n c.at.ensures.same at) (c.pairs-read.ensures.cause.bad id is)
