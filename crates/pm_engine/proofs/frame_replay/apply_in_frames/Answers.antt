-- A command that is applied again over a worker's page frames: its pages are made ready, and then it is run.
use Rattle.std.proofs.Common.{◌≡◌, ◌<◌, ℕ, List, Bool, None, sym, refl, subst, ap, ◌∙◌}
use Rattle.std.specs.Prelude.{Err, IsErrOf}
use Rattle.pm_types.specs.declared.fault.PageFault.{PageFault}
use Rattle.pm_types.specs.declared.fault.PageFault.TheVariants.{Failed, BadPage}
use Rattle.pm_types.specs.declared.shape.Shape.{Shape}
use Rattle.pm_types.specs.Counts.{HasRisen}
use Rattle.pm_model.specs.declared.line.Cmd.{Cmd}
use Rattle.pm_model.specs.declared.line.Cmd.TheVariants.{Put, Get, Remove, Scan, Checkpoint}
use Rattle.pm_model.specs.declared.line.Line.TheVariants.{Good}
use Rattle.pm_model.specs.Eval.{reply_to}
use Rattle.pm_model.specs.Orders.{part_of_line}
use Rattle.pm_core.specs.BasePages.{Partitions}
use Rattle.pm_engine.specs.declared.frame_lines.Stop.TheVariants.{Faulted}
use Rattle.pm_engine.specs.FrameCommands.{frame_pages, HasWellFormed, RunsLineOn, HandsOverChange}
use Rattle.pm_engine.specs.FrameLines.{HasKey}
use Rattle.pm_engine.specs.Records.{IsKeyOf}
use Rattle.pm_engine.specs.PagedStores.{part_map}
use Rattle.pm_engine.proofs.AppliedCommands.{accepted_changes}
use Rattle.pm_engine.proofs.FrameAnswers.{ready_same, ready_between, ready_nothing, worker_same_then, nothing_then, hands_then, evaluates_line}
use Rattle.pm_engine.proofs.MetCommands.{met_command}
use Rattle.pm_engine.proofs.PartAnswers.{cmd_of_key, reply_accepts}
use Rattle.pm_engine.proofs.frame_replay.apply_in_frames.Goals as goal

pub run_in_frames-requires-clause-readable : goal.run_in_frames-requires-clause-readable
run_in_frames-requires-clause-readable g c = (ready_between g.R.Device.tells g.R.Device.history g.R.Device.state c.args.bound.now c.ready.new.self c.requires.between c.in-Ok.ensures.makes).readable

pub returns-in-Err : goal.returns-in-Err
returns-in-Err g c =
    let tells = g.R.Device.tells in
    let history = g.R.Device.history in
    let state = g.R.Device.state in
    let b = c.args.bound.now in
    let m = c.ready.new.self in
    let made = c.in-Err.ensures.makes in
    record {
      same = ready_same tells history state b m c.requires.between made;
      bound = made.bound;
      leaves = (record { between = ready_between tells history state b m c.requires.between made; nothing = ready_nothing tells history state b m c.requires.between made }, c.in-Err.ensures.lacking);
      replied = refl;
      cause = λ e. absurd cc;
      evaluates = λ t all. tt;
      sound = λ t all id e. absurd cc;
      meets = λ t changed allows id e. absurd cc;
    }

key_has : (key : List ℕ) (cmd : Cmd) → IsKeyOf key cmd → HasKey (Good cmd)
key_has key (Put cache at value) is = tt
key_has key (Get cache at) is = tt
key_has key (Remove cache at) is = tt
key_has key (Scan cache) is = is
key_has key Checkpoint is = is

pub returns-in-Ok-run_in_frames : goal.returns-in-Ok-run_in_frames
returns-in-Ok-run_in_frames g c =
    let tells = g.R.Device.tells in
    let history = g.R.Device.history in
    let state = g.R.Device.state in
    let b = c.args.bound.now in
    let m = c.ready.new.self in
    let e = c.run_in_frames.new.bound in
    let made = c.in-Ok.ensures.makes in
    let first = ready_nothing tells history state b m c.requires.between made in
    let cmd = c.args.cmd.now in
    let line = Good cmd in
    let shape = b.stripe.shape in
    let part = part_of_line shape line in
    let of_part = cmd_of_key c.args.shape c.args.key.now c.part_of.result cmd c.requires.line.cache c.requires.key c.part_of.ensures.part in
    let shape_is : c.new-part.result.shape ≡ shape = c.new-part.ensures.shape ∙ c.requires.shape in
    let part_is : c.new-part.result.part ≡ part = c.new-part.ensures.part ∙ sym of_part.line_is ∙ ap (λ s. part_of_line s line) c.requires.shape in
    let below = (c.requires.line.own (key_has c.args.key.now cmd c.requires.key)).there in
    let ran = c.in-Ok-run_in_frames.ensures in
    let accepted = c.in-Ok-run_in_frames.accepted in
    let was = c.args.replies.now in
    let now = c.run_in_frames.new.replies in
    let none = ran.leaves.between.none_held in
    record {
      same = worker_same_then tells history state b m e (ready_same tells history state b m c.requires.between made) ran.leaves.same;
      bound = ran.leaves.bound;
      leaves = (
        ran.leaves.between,
        record {
          refused = λ off. nothing_then tells history state b m e none first (ran.does.refused off);
          changes = λ on. accepted_changes cmd ran.replied.appended.reply (sym (ran.does.said ran.replied.appended.reply ran.replied.appended.appended) ∙ on);
          hands = λ on. subst (λ p. HandsOverChange tells history 0 None p b e) part_is
              (hands_then tells history state b m e none first 0 None c.new-part.result.part (ran.does.hands on));
        },
      );
      replied = ran.replied.appended;
      cause = λ is. absurd cc;
      evaluates = λ t all.
          let well = subst (λ (q : Shape × ℕ × Partitions). HasWellFormed q.0 q.2 q.1) (λ i. (sym shape_is i, sym part_is i, sym (first.told t) i)) (all part below) in
          let runs = subst (λ (q : Shape × ℕ × Partitions). RunsLineOn q.0 q.1 line q.2 (frame_pages history e) was now) (λ i. (shape_is i, part_is i, first.told t i)) (ran.runs t well) in
          let pairs = part_map (frame_pages history b) part in
          evaluates_line shape part line (frame_pages history b) (frame_pages history e) was now accepted below refl of_part.free all runs (ran.does.said (reply_to shape line pairs) runs.replied ∙ reply_accepts shape cmd pairs);
      sound = λ t all id is. absurd cc;
      meets = λ t changed allows id is. absurd cc;
    }

same_fault : (fault other : PageFault) → IsErrOf {T = Bool} (Err (Faulted fault)) (Faulted other) → fault ≡ other
same_fault fault other is = cc

pub returns-in-Err-run_in_frames : goal.returns-in-Err-run_in_frames
returns-in-Err-run_in_frames g c =
    let tells = g.R.Device.tells in
    let history = g.R.Device.history in
    let state = g.R.Device.state in
    let b = c.args.bound.now in
    let m = c.ready.new.self in
    let e = c.run_in_frames.new.bound in
    let made = c.in-Ok.ensures.makes in
    let first = ready_nothing tells history state b m c.requires.between made in
    let cmd = c.args.cmd.now in
    let line = Good cmd in
    let shape = b.stripe.shape in
    let part = part_of_line shape line in
    let of_part = cmd_of_key c.args.shape c.args.key.now c.part_of.result cmd c.requires.line.cache c.requires.key c.part_of.ensures.part in
    let shape_is : c.new-part.result.shape ≡ shape = c.new-part.ensures.shape ∙ c.requires.shape in
    let part_is : c.new-part.result.part ≡ part = c.new-part.ensures.part ∙ sym of_part.line_is ∙ ap (λ s. part_of_line s line) c.requires.shape in
    let below = (c.requires.line.own (key_has c.args.key.now cmd c.requires.key)).there in
    let ran = c.in-Err-run_in_frames.ensures in
    let fault = c.in-Err-run_in_frames.fault in
    record {
      same = worker_same_then tells history state b m e (ready_same tells history state b m c.requires.between made) ran.leaves.same;
      bound = ran.leaves.bound;
      leaves = ran.leaves.unlogged ∙ first.outbox;
      replied = ran.replied.kept;
      cause = λ is. subst (λ r. HasRisen (state r).faults (state e.reader).faults) made.reader (ran.cause.failed (ap Err (same_fault fault Failed is)));
      evaluates = λ t all. tt;
      sound = λ t all id is.
          let well = subst (λ (q : Shape × ℕ × Partitions). HasWellFormed q.0 q.2 q.1) (λ i. (sym shape_is i, sym part_is i, sym (first.told t) i)) (all part below) in
          ran.sound t well id (ap Err (same_fault fault (BadPage id) is));
      meets = λ t changed allows id is.
          let q = c.new-part.result.part in
          let inside = subst (λ (n : ℕ). n < shape.partitions) (sym part_is) below in
          met_command tells history state changed q b m t first inside cmd e id ran.leaves.same part_is (key_has c.args.key.now cmd c.requires.key) allows (ran.looks t) (ran.cause.bad id (ap Err (same_fault fault (BadPage id) is)));
    }
