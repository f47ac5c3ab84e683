-- The pages of a partition are made ready, and its pairs are read.
use Rattle.std.proofs.Common.{◌≡◌, sym, subst, ap, ◌∙◌, ◌++◌}
use Rattle.std.specs.Prelude.{Err, IsErrOf}
use Rattle.pm_types.specs.declared.fault.PageFault.TheVariants.{Failed as PageFailed, BadPage as PageBad}
use Rattle.pm_types.specs.declared.shape.Shape.{Shape}
use Rattle.pm_types.specs.Counts.{HasRisen}
use Rattle.pm_model.specs.Eval.{pairs_of}
use Rattle.pm_core.specs.BasePages.{Partitions}
use Rattle.pm_stripe.specs.declared.halt.Halt.{Halt}
use Rattle.pm_stripe.specs.Begins.{IsLacking}
use Rattle.pm_engine.specs.declared.frame_scans.ScanStop.{ScanStop}
use Rattle.pm_engine.specs.declared.frame_scans.ScanStop.TheVariants.{Halted, Faulted}
use Rattle.pm_engine.specs.FrameCommands.{frame_pages, HasWellFormed}
use Rattle.pm_engine.specs.MetPages.{MeetsBadPage}
use Rattle.pm_engine.specs.PagedStores.{part_map}
use Rattle.pm_engine.proofs.FrameScans.{looks_ready, looks_then, part_still}
use Rattle.pm_engine.proofs.MetCommands.{met_scan}
use Rattle.pm_engine.proofs.frame_scans.pairs_in_frames.Goals as goal

same_halt : (halt other : Halt) → IsErrOf {T = Unit {0}} (Err (Halted halt)) (Halted other) → halt ≡ other
same_halt halt other is = cc

stop_is : (stop other : ScanStop) → IsErrOf {T = Unit {0}} (Err stop) other → stop ≡ other
stop_is stop other is = cc

pub read_ready-requires-clause-readable : goal.read_ready-requires-clause-readable
read_ready-requires-clause-readable g c = (looks_ready g.R.Device.tells g.R.Device.history g.R.Device.state c.args.bound.now c.ready.new.self c.requires.between c.in-Ok.ensures.makes).between.readable

pub read_ready-requires-clause-part : goal.read_ready-requires-clause-part
read_ready-requires-clause-part g c = part_still g.R.Device.tells g.R.Device.history g.R.Device.state c.args.bound.now c.ready.new.self (looks_ready g.R.Device.tells g.R.Device.history g.R.Device.state c.args.bound.now c.ready.new.self c.requires.between c.in-Ok.ensures.makes) c.args.part.now c.requires.part

pub returns-in-Err-clause-looks : goal.returns-in-Err-clause-looks
returns-in-Err-clause-looks g c = looks_ready g.R.Device.tells g.R.Device.history g.R.Device.state c.args.bound.now c.ready.new.self c.requires.between c.in-Err.ensures.makes

pub returns-in-Ok-read_ready-clause-looks : goal.returns-in-Ok-read_ready-clause-looks
returns-in-Ok-read_ready-clause-looks g c =
    let tells = g.R.Device.tells in
    let history = g.R.Device.history in
    let state = g.R.Device.state in
    let b = c.args.bound.now in
    let m = c.ready.new.self in
    let first = looks_ready tells history state b m c.requires.between c.in-Ok.ensures.makes in
    looks_then tells history state b m c.read_ready.new.bound first c.in-Ok-read_ready.ensures.looks

pub returns-in-Err-read_ready-clause-looks : goal.returns-in-Err-read_ready-clause-looks
returns-in-Err-read_ready-clause-looks g c =
    let tells = g.R.Device.tells in
    let history = g.R.Device.history in
    let state = g.R.Device.state in
    let b = c.args.bound.now in
    let m = c.ready.new.self in
    let first = looks_ready tells history state b m c.requires.between c.in-Ok.ensures.makes in
    looks_then tells history state b m c.read_ready.new.bound first c.in-Err-read_ready.ensures.looks

pub returns-in-Err-read_ready-clause-cause : goal.returns-in-Err-read_ready-clause-cause
returns-in-Err-read_ready-clause-cause g c =
    let tells = g.R.Device.tells in
    let history = g.R.Device.history in
    let state = g.R.Device.state in
    let b = c.args.bound.now in
    let m = c.ready.new.self in
    let first = looks_ready tells history state b m c.requires.between c.in-Ok.ensures.makes in
    λ is.
    let fault = c.stop_of.ensures.failed (stop_is c.stop_of.result (Faulted PageFailed) is) in
    subst (λ r. HasRisen (state r).faults (state c.read_ready.new.bound.reader).faults) c.in-Ok.ensures.makes.reader (c.in-Err-read_ready.ensures.failed (ap Err fault))

pub returns-in-Err-read_ready-clause-lacking : goal.returns-in-Err-read_ready-clause-lacking
returns-in-Err-read_ready-clause-lacking g c =
    let tells = g.R.Device.tells in
    let history = g.R.Device.history in
    let state = g.R.Device.state in
    let b = c.args.bound.now in
    let m = c.ready.new.self in
    let first = looks_ready tells history state b m c.requires.between c.in-Ok.ensures.makes in
    λ halt is. absurd (c.stop_of.ensures.not_halted halt (stop_is c.stop_of.result (Halted halt) is))

pub returns-in-Ok-read_ready-clause-pairs : goal.returns-in-Ok-read_ready-clause-pairs
returns-in-Ok-read_ready-clause-pairs g c =
    let tells = g.R.Device.tells in
    let history = g.R.Device.history in
    let state = g.R.Device.state in
    let b = c.args.bound.now in
    let m = c.ready.new.self in
    let first = looks_ready tells history state b m c.requires.between c.in-Ok.ensures.makes in
    λ t well.
    let part = c.args.part.now in
    let there = subst (λ (pages : Partitions). HasWellFormed part.shape pages part.part) (sym (first.nothing.told t)) well in
    c.in-Ok-read_ready.ensures.pairs t there ∙ ap (λ (pages : Partitions). c.args.into.now ++ pairs_of c.args.cache (part_map pages part.part)) (first.nothing.told t)

pub returns-in-Err-read_ready-clause-sound : goal.returns-in-Err-read_ready-clause-sound
returns-in-Err-read_ready-clause-sound g c =
    let tells = g.R.Device.tells in
    let history = g.R.Device.history in
    let state = g.R.Device.state in
    let b = c.args.bound.now in
    let m = c.ready.new.self in
    let first = looks_ready tells history state b m c.requires.between c.in-Ok.ensures.makes in
    λ t well id is.
    let part = c.args.part.now in
    let there = subst (λ (pages : Partitions). HasWellFormed part.shape pages part.part) (sym (first.nothing.told t)) well in
    c.in-Err-read_ready.ensures.sound t there id (ap Err (c.stop_of.ensures.bad id (stop_is c.stop_of.result (Faulted (PageBad id)) is)))

pub returns-in-Err-clause-lacking : goal.returns-in-Err-clause-lacking
returns-in-Err-clause-lacking g c =
    let tells = g.R.Device.tells in
    let history = g.R.Device.history in
    let state = g.R.Device.state in
    let b = c.args.bound.now in
    let m = c.ready.new.self in
    λ halt is. subst (λ h. IsLacking b m (Err h)) (same_halt c.in-Err.halt halt is) c.in-Err.ensures.lacking

pub returns-in-Err-read_ready-clause-meets : goal.returns-in-Err-read_ready-clause-meets
returns-in-Err-read_ready-clause-meets g c =
    let tells = g.R.Device.tells in
    let history = g.R.Device.history in
    let state = g.R.Device.state in
    let b = c.args.bound.now in
    let m = c.ready.new.self in
    let first = looks_ready tells history state b m c.requires.between c.in-Ok.ensures.makes in
    λ t changed id is.
    let part = c.args.part.now in
    let met = c.in-Err-read_ready.ensures.met id (ap Err (c.stop_of.ensures.bad id (stop_is c.stop_of.result (Faulted (PageBad id)) is))) in
    subst (λ (s : Shape). MeetsBadPage tells changed s (frame_pages history b) id) (sym c.requires.part.shape)
    (met_scan tells history state changed part.part b m t first.nothing c.requires.part.own.there c.args.cache id met)
