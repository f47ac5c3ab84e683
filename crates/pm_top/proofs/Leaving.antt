-- What a run that is done leaves: a store that is sound, with nothing pending.
use Rattle.std.proofs.Common.{◌≡◌, ℕ, List, [], false, sym, ap, ◌∙◌, subst, append-nil}
use Rattle.pm_types.specs.declared.shape.Shape.{Shape}
use Rattle.pm_disk.specs.Worlds.{World}
use Rattle.pm_model.specs.declared.line.Line.{Line}
use Rattle.pm_model.specs.Eval.{Pairs, after_all}
use Rattle.pm_core.specs.LogAlone.{image_of}
use Rattle.pm_engine.specs.Batches.{asked_last}
use Rattle.pm_engine.specs.Engines.{AllLastIn, map_in}
use Rattle.pm_engine.specs.RunningLines.{says_nothing}
use Rattle.pm_top.specs.declared.run.Run.{Run}
use Rattle.pm_top.specs.Crashes.{SoundUpTo}
use Rattle.pm_top.specs.FrameRests.{FrameAtRest}
use Rattle.pm_top.specs.Promises.{IsLeft}
use Rattle.pm_top.specs.Runs.{Progress, StaysWithin}
use Rattle.pm_top.specs.Served.{script_of}
use Rattle.pm_top.proofs.AnsweredLines.{rest_crash}
use Rattle.pm_top.proofs.Lasting.{held_by, only_map}
use Rattle.pm_top.proofs.QuietStores.{world_leaves, world_is_true}
use Rattle.pm_top.proofs.ReplayedStores.{nothing_replayed}

-- a script that is done leaves its store so
pub leaves_store : (wanted : Shape) (last number lines : ℕ) {start : World} {shape : Shape} {pairs : Pairs} (run : Run) (world : World) → Progress start world [] shape pairs run → StaysWithin last number lines run.engine → FrameAtRest wanted run.engine world
    → AllLastIn wanted says_nothing run.engine world → IsLeft wanted last number start world shape pairs
leaves_store wanted last number lines {start = start} {shape = shape} {pairs = pairs} run world progress within rest lasts =
    let image = image_of world in
    let held = held_by (rest_crash wanted last number lines run.engine world within rest image (world_leaves world lasts.lasts.quiet) (world_is_true world)) in
    let here : SoundUpTo wanted last number image run.engine.store.shape (map_in run.engine world) = only_map wanted last number run.engine.store.shape (map_in run.engine world) image held in
    let whole : progress.done ≡ script_of start.input = sym (append-nil progress.done) ∙ sym progress.script in
    let map : map_in run.engine world ≡ after_all shape (script_of start.input) pairs = progress.map ∙ ap (λ (ls : List Line). after_all shape ls pairs) whole in
    let sound : SoundUpTo wanted last number image shape (after_all shape (script_of start.input) pairs) = subst (λ (x : Shape × Pairs). SoundUpTo wanted last number image x.0 x.1) (λ i. (progress.shape_is i, map i)) here in
    record {
      sound = sound.0;
      up_to = sound.1;
      quiet = lasts.lasts.quiet;
      replayed = λ asked. nothing_replayed wanted run.engine world shape (after_all shape (script_of start.input) pairs) lasts sound.0 (progress.replay (ap (asked_last false) whole ∙ asked));
    }
