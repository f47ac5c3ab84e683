-- A store whose log ends at the replay place of the checkpoint in force has no record to replay.
use Rattle.std.proofs.Common.{◌≡◌, ℕ, ◌≤◌, List, [], ◌∷◌, length, Option, Some, None, refl, sym, ap, ◌∙◌, subst, arith}
use Rattle.pm_types.specs.declared.place.Place.{Place}
use Rattle.pm_types.specs.declared.shape.Shape.{Shape}
use Rattle.pm_frame.specs.Frames.{Frame}
use Rattle.pm_disk.specs.Files.{bytes_of, content}
use Rattle.pm_disk.specs.Worlds.{World}
use Rattle.pm_model.specs.Eval.{Pairs}
use Rattle.pm_records.specs.LogFiles.{EndIs, Tail, TailIs, contents}
use Rattle.pm_records.specs.Logs.{all_frames, HasFrames}
use Rattle.pm_records.proofs.FrameGrammar.{frame_laws}
use Rattle.pm_records.proofs.Runs.{none_past}
use Rattle.pm_marks.specs.InForce.{Ended, replay_of}
use Rattle.pm_core.specs.Held.{in_force}
use Rattle.pm_core.specs.LogAlone.{image_of, log_in}
use Rattle.pm_core.specs.Sound.{Sound}
use Rattle.pm_core.specs.Stands.{soon_or}
use Rattle.pm_core.specs.States.{View}
use Rattle.pm_core.proofs.Saying.{say_in_force}
use Rattle.pm_engine.specs.FrameBatches.{EndsAtReplayIn}
use Rattle.pm_engine.specs.Engines.{FrameRunning, AllLastIn}
use Rattle.pm_engine.specs.RunningLines.{says_nothing}
use Rattle.pm_engine.specs.RunningStores.{ended_with}

-- no frame stands past the end of its segment
no_more : (log : ℕ → List ℕ) (p : Place) (frames : List Frame) → HasFrames all_frames log p frames → length (log p.seg) ≤ p.off → frames ≡ []
no_more log p [] run short = refl
no_more log p (f ∷ fs) run short = let none : None ≡ Some f = sym (none_past all_frames frame_laws p.seg p.off (log p.seg) short) ∙ run.0 in absurd cc

pub nothing_replayed : (wanted : Shape) (engine : FrameRunning) (world : World) (shape : Shape) (pairs : Pairs) → AllLastIn wanted says_nothing engine world → (sound : Sound wanted world shape pairs) → EndsAtReplayIn engine → sound.holds.frames ≡ []
nothing_replayed wanted engine world shape pairs lasts sound ends =
    let s = lasts.lasts.done.state in
    let runs = lasts.lasts.done.has.runs.log in
    let stands = runs.stands in
    let image = image_of world in
    let checkpoint : in_force image ≡ Ended ends.mark =
    say_in_force (soon_or s.soon s.now).checkpoint (bytes_of (content world.starts)) (bytes_of (content world.ends)) stands.reads
    ∙ ap (λ (o : Option View). (soon_or o s.now).checkpoint) runs.alone ∙ runs.checkpoint ∙ ap ended_with ends.is in
    let replay : replay_of (in_force image) ≡ s.end = ap replay_of checkpoint ∙ sym ends.ends ∙ sym runs.ends in
    let at_end = subst (λ (t : Tail). EndIs t s.end s.at s.pending) runs.is_open.ready stands.ends in
    let file = subst (λ (t : Tail). TailIs all_frames world.log s.at s.pending t) runs.is_open.ready stands.log.tail_is in
    no_more (log_in image) (replay_of (in_force image)) sound.holds.frames sound.holds.log.run
    (subst (λ (p : Place). length (contents world.log p.seg) ≤ p.off) (sym (replay ∙ at_end)) (omega (arith, file.exact)))
