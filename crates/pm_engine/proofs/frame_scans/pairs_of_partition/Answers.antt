-- The pairs of one partition of the store.
use Rattle.std.proofs.Common.{◌<◌, ℕ, List, sym, subst, ap, ◌∙◌, ◌++◌}
use Rattle.pm_types.specs.declared.fault.PageFault.TheVariants.{Failed, BadPage}
use Rattle.pm_types.specs.declared.shape.Shape.{Shape}
use Rattle.pm_types.specs.Shapes.{IsShape}
use Rattle.pm_model.specs.Eval.{pairs_of}
use Rattle.pm_engine.specs.declared.frame_scans.ScanStop.TheVariants.{Faulted}
use Rattle.pm_engine.specs.FrameCommands.{frame_pages, HasWellFormed}
use Rattle.pm_engine.specs.MetPages.{MeetsBadPage}
use Rattle.pm_engine.specs.PagedStores.{part_map}
use Rattle.pm_engine.proofs.FrameScans.{part_of_all, same_stop}
use Rattle.pm_engine.proofs.frame_scans.pairs_of_partition.Goals as goal

pub new-requires-2-clause-shape : goal.new-requires-2-clause-shape
new-requires-2-clause-shape g c = subst IsShape (sym c.requires.shape) c.requires.between.bound.holds.shaped

pub pairs_in_frames-requires-clause-part : goal.pairs_in_frames-requires-clause-part
pairs_in_frames-requires-clause-part g c =
    let b = c.args.bound.now in
    let below : c.new-2.result.part < b.stripe.shape.partitions = subst (λ (p : ℕ × Shape). p.0 < p.1.partitions) (λ i. (sym c.new-2.ensures.part i, c.requires.shape i)) c.requires.part in
    part_of_all g.R.Device.tells g.R.Device.history g.R.Device.state b c.new-2.result (c.new-2.ensures.shape ∙ c.requires.shape) below c.requires.own

pub returns-in-Ok-clause-pairs : goal.returns-in-Ok-clause-pairs
returns-in-Ok-clause-pairs g c = λ t well.
    let history = g.R.Device.history in
    let b = c.args.bound.now in
    let there = subst (λ (p : Shape × ℕ). HasWellFormed p.0 (frame_pages history b) p.1) (λ i. (sym c.new-2.ensures.shape i, sym c.new-2.ensures.part i)) well in
    c.list.view_is ∙ c.in-Ok.ensures.pairs t there ∙ ap (λ (part : ℕ). c.new.result.items ++ pairs_of c.args.cache (part_map (frame_pages history b) part)) c.new-2.ensures.part
    ∙ ap (λ (items : List (List ℕ × List ℕ)). items ++ pairs_of c.args.cache (part_map (frame_pages history b) c.args.part)) c.new.ensures.items

pub returns-in-Err-clause-cause : goal.returns-in-Err-clause-cause
returns-in-Err-clause-cause g c = λ is. c.in-Err.ensures.cause (same_stop c.in-Err.stop (Faulted Failed) is)

pub returns-in-Err-clause-sound : goal.returns-in-Err-clause-sound
returns-in-Err-clause-sound g c = λ t well id is.
    let history = g.R.Device.history in
    let b = c.args.bound.now in
    let there = subst (λ (p : Shape × ℕ). HasWellFormed p.0 (frame_pages history b) p.1) (λ i. (sym c.new-2.ensures.shape i, sym c.new-2.ensures.part i)) well in
    c.in-Err.ensures.sound t there id (same_stop c.in-Err.stop (Faulted (BadPage id)) is)

pub returns-in-Err-clause-meets : goal.returns-in-Err-clause-meets
returns-in-Err-clause-meets g c = λ t changed id is.
    let pages = frame_pages g.R.Device.history c.args.bound.now in
    subst (λ (s : Shape). MeetsBadPage g.R.Device.tells changed s pages id) c.new-2.ensures.shape
    (c.in-Err.ensures.meets t changed id (same_stop c.in-Err.stop (Faulted (BadPage id)) is))
