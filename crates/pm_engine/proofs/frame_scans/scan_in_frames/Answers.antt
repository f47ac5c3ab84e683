-- The pairs of the partitions are joined.
use Rattle.std.proofs.Common.{◌≤◌, ℕ, List, ◌∷◌, [], sym, subst, ap, ◌∙◌}
use Rattle.std.specs.Prelude.{All}
use Rattle.std.specs.List.{range_with_len}
use Rattle.pm_types.specs.declared.fault.PageFault.TheVariants.{Failed, BadPage}
use Rattle.pm_types.specs.declared.shape.Shape.{Shape}
use Rattle.pm_model.specs.declared.reply.Reply.TheVariants as reply
use Rattle.pm_model.specs.ReplyLists.{with_replies}
use Rattle.pm_engine.specs.declared.frame_scans.ScanStop.TheVariants.{Faulted}
use Rattle.pm_engine.specs.FrameCommands.{frame_pages}
use Rattle.pm_engine.specs.Merges.{HasRisingKeys, JoinsByKey}
use Rattle.pm_engine.proofs.FrameScans.{same_stop}
use Rattle.pm_engine.proofs.PartAnswers.{each_rising, rising_each, joined_pairs}
use Rattle.pm_engine.proofs.frame_scans.scan_in_frames.Goals as goal

pub returns-in-Ok-join_by_key-clause-evaluates : goal.returns-in-Ok-join_by_key-clause-evaluates
returns-in-Ok-join_by_key-clause-evaluates g c = λ t all.
    let pages = frame_pages g.R.Device.history c.args.bound.now in
    let shape = c.args.shape in
    let cache = c.args.cache in
    let lists = c.in-Ok.lists.items in
    let pairs = c.in-Ok-join_by_key.pairs.items in
    let read = c.in-Ok.ensures.pairs t all in
    let rising = rising_each lists (subst (All HasRisingKeys) (sym read) (each_rising cache pages (range_with_len 0 shape.partitions))) in
    let joins = subst (λ ls. JoinsByKey ls pairs) read (c.in-Ok-join_by_key.ensures rising) in
    let some = subst (λ (s : Shape). 1 ≤ s.partitions) (sym c.requires.shape) c.requires.between.bound.holds.shaped.partitions_from in
    c.push.ensures ∙ ap (λ (ps : List (List ℕ × List ℕ)). with_replies (reply.Pairs ps ∷ []) c.args.replies.now) (joined_pairs shape pages cache pairs some all joins)

pub returns-in-Err-clause-cause : goal.returns-in-Err-clause-cause
returns-in-Err-clause-cause g c = λ is. c.in-Err.ensures.cause (same_stop c.in-Err.stop (Faulted Failed) is)

pub returns-in-Err-clause-sound : goal.returns-in-Err-clause-sound
returns-in-Err-clause-sound g c = λ t all id is. c.in-Err.ensures.sound t all id (same_stop c.in-Err.stop (Faulted (BadPage id)) is)

pub returns-in-Err-clause-meets : goal.returns-in-Err-clause-meets
returns-in-Err-clause-meets g c = λ t changed id is. c.in-Err.ensures.meets t changed id (same_stop c.in-Err.stop (Faulted (BadPage id)) is)
