-- A command over a worker's page frames leaves what it leaves over any pages.
use Rattle.std.proofs.Common.{◌≡◌, ◌<◌, ◌≤◌, Bool, Option, None, inl, sym, subst, ap, ◌∙◌, arith}
use Rattle.std.specs.Prelude.{◌^◌, if◌then◌else◌}
use Rattle.std.specs.Option.{option_copied}
use Rattle.pm_types.specs.declared.limits.TheConstants.{OP_PAGES, ROWS_MAX}
use Rattle.pm_types.specs.declared.fault.PageFault.TheVariants.{BadPage}
use Rattle.pm_types.specs.Ids.{page_id}
use Rattle.pm_records.specs.Records.{Record}
use Rattle.pm_model.specs.ReplyLists.{ReplyList}
use Rattle.pm_pages.specs.Paged.{Paged, AllReadable}
use Rattle.pm_part.specs.Commands.{IsRefused}
use Rattle.pm_part.specs.Runs.{IsPartitionOf, RunsCmd}
use Rattle.pm_stripe.specs.Listings.{GrowsByOperation, given_record}
use Rattle.pm_stripe.specs.Shown.{shown}
use Rattle.pm_engine.specs.FrameCommands.{part_seen}
use Rattle.pm_engine.proofs.FrameReads.{part_readable}
use Rattle.pm_engine.proofs.FrameRuns.{as_err, moved_cause, nothing_handed, none_noted, partition_seen, runs_line}
use Rattle.pm_engine.proofs.FrameSteps.{seen_same, seen_then, has_called, same_worker, between_lines, nothing_changed, hands_over}
use Rattle.pm_engine.proofs.frame_commands.run_in_frames.Goals as goal

pub run-requires-clause-readable : goal.run-requires-clause-readable
run-requires-clause-readable g c =
    let tells = g.R.Device.tells in
    let history = g.R.Device.history in
    let state = g.R.Device.state in
    let b = c.args.bound.now in
    let n = c.at.new.self in
    let part = c.args.part.now.part in
    let same = c.at.ensures.same in
    let at : n.part ≡ part = c.at.ensures.part ∙ c.number.ensures in
    let small : part < 2 ^ 16 = omega (arith, c.requires.part.own.there, c.requires.begins.bound.holds.shaped.partitions_to) in
    subst (λ (p : Paged). AllReadable p) (sym (seen_same tells history state part b n same at)) (part_readable history state b part c.requires.begins.bound.holds small c.requires.readable)

pub returns-in-Err-clause-cause : goal.returns-in-Err-clause-cause
returns-in-Err-clause-cause g c =
    let tells = g.R.Device.tells in
    let history = g.R.Device.history in
    let state = g.R.Device.state in
    let b = c.args.bound.now in
    let n = c.at.new.self in
    let m = c.run.new.pages in
    let part = c.args.part.now.part in
    let same = c.at.ensures.same in
    let at : n.part ≡ part = c.at.ensures.part ∙ c.number.ensures in
    moved_cause tells (shown history state n) (part_seen history state b part) (shown history state m) (part_seen history state m part) c.args.cmd.now c.in-Err.fault (seen_same tells history state part b n same at)
    (seen_then tells history state part b n m same at c.in-Err.ensures.kept) c.in-Err.ensures.cause

pub returns-in-Err-clause-sound : goal.returns-in-Err-clause-sound
returns-in-Err-clause-sound g c = λ t well id is.
    let tells = g.R.Device.tells in
    let history = g.R.Device.history in
    let state = g.R.Device.state in
    let b = c.args.bound.now in
    let n = c.at.new.self in
    let part = c.args.part.now.part in
    let shape = c.args.part.now.shape in
    let same = c.at.ensures.same in
    let at : n.part ≡ part = c.at.ensures.part ∙ c.number.ensures in
    let small : part < 2 ^ 16 = omega (arith, c.requires.part.own.there, c.requires.begins.bound.holds.shaped.partitions_to) in
    let rows : b.stripe.shape.max_rows ≤ ROWS_MAX = c.requires.begins.bound.holds.shaped.max_rows_to in
    let partition = partition_seen tells history state shape part b c.requires.part.shape c.requires.part.own.there rows small well in
    c.in-Err.ensures.sound t (subst (λ (p : Paged). IsPartitionOf shape p) (sym (seen_same tells history state part b n same at)) partition) id (as_err c.in-Err.fault (BadPage id) is)

pub end_operation-requires-clause-covered : goal.end_operation-requires-clause-covered
end_operation-requires-clause-covered g c =
    let tells = g.R.Device.tells in
    let history = g.R.Device.history in
    let state = g.R.Device.state in
    let b = c.args.bound.now in
    let n = c.at.new.self in
    let m = c.run.new.pages in
    let part = c.args.part.now.part in
    let same = c.at.ensures.same in
    let at : n.part ≡ part = c.at.ensures.part ∙ c.number.ensures in
    let keeps = c.in-Ok.ensures.kept in
    let called = has_called tells history state part b n m same at keeps c.requires.begins c.requires.part.own (c.at.ensures.ready c.requires.begins) (record { covered = c.in-Ok.ensures.changes.covered }) in
    called.covered

pub returns-in-Ok-clause-leaves : goal.returns-in-Ok-clause-leaves
returns-in-Ok-clause-leaves g c =
    let tells = g.R.Device.tells in
    let history = g.R.Device.history in
    let state = g.R.Device.state in
    let b = c.args.bound.now in
    let n = c.at.new.self in
    let m = c.run.new.pages in
    let part = c.args.part.now.part in
    let same = c.at.ensures.same in
    let at : n.part ≡ part = c.at.ensures.part ∙ c.number.ensures in
    let keeps = c.in-Ok.ensures.kept in
    let called = has_called tells history state part b n m same at keeps c.requires.begins c.requires.part.own (c.at.ensures.ready c.requires.begins) (record { covered = c.in-Ok.ensures.changes.covered }) in
    let e = c.end_operation.new.bound in
    let ends = c.end_operation.ensures.ends in
    let here = subst (λ (p : Paged). AllReadable p) (seen_then tells history state part b n m same at keeps) c.in-Ok.ensures.readable in
    record {
      same = same_worker tells history state part b m e called ends;
      bound = ends.bound;
      between = between_lines tells history state part b m e called ends here c.requires.readable;
      unlogged = tt;
    }

pub returns-in-Ok-clause-does : goal.returns-in-Ok-clause-does
returns-in-Ok-clause-does g c =
    let tells = g.R.Device.tells in
    let history = g.R.Device.history in
    let state = g.R.Device.state in
    let b = c.args.bound.now in
    let n = c.at.new.self in
    let m = c.run.new.pages in
    let part = c.args.part.now.part in
    let same = c.at.ensures.same in
    let at : n.part ≡ part = c.at.ensures.part ∙ c.number.ensures in
    let keeps = c.in-Ok.ensures.kept in
    let called = has_called tells history state part b n m same at keeps c.requires.begins c.requires.part.own (c.at.ensures.ready c.requires.begins) (record { covered = c.in-Ok.ensures.changes.covered }) in
    let e = c.end_operation.new.bound in
    let ends = c.end_operation.ensures.ends in
    let held = m.stripe.held.items in
    let given : Option Record = given_record (option_copied c.args.rec) in
    let grows = c.end_operation.ensures.grows in
    let accepted = c.was_accepted-accepted.result in
    let was = c.args.replies.now in
    let says = c.was_accepted-accepted.ensures was.replies in
    let replied = c.in-Ok.ensures.replied.appended in
    record {
      said = λ reply is. says reply (ap (λ (list : ReplyList). list.replies) is);
      refused = λ off.
          let refusal : IsRefused c.args.cmd.now was c.run.new.replies = record { reply = replied.reply; appended = replied.appended; refused = sym (says replied.reply (ap (λ (list : ReplyList). list.replies) replied.appended)) ∙ off } in
          let looks = c.in-Ok.ensures.keeps.refused refusal in
          let none_held = ap (λ s. s.held.items) same.stripe ∙ c.requires.begins.none_held in
          let none = none_noted tells history state part b n m OP_PAGES called at none_held looks in
          let nothing : GrowsByOperation c.args.line None held m.stripe.outbox e.stripe.outbox = subst (λ (q : Bool). GrowsByOperation c.args.line (let o : Option Record = if q then given else None in o) held m.stripe.outbox e.stripe.outbox) off grows in
          nothing_changed tells history state part b m e called ends (λ id x. none x.page x.changed) (nothing_handed c.args.line held m.stripe.outbox e.stripe.outbox none nothing ∙ called.outbox);
      hands = λ on.
          hands_over tells history state part b m e called ends c.args.line given c.requires.logical
          (subst (λ (q : Bool). GrowsByOperation c.args.line (let o : Option Record = if q then given else None in o) held m.stripe.outbox e.stripe.outbox) on grows);
    }

pub returns-in-Ok-clause-runs : goal.returns-in-Ok-clause-runs
returns-in-Ok-clause-runs g c = λ t well.
    let tells = g.R.Device.tells in
    let history = g.R.Device.history in
    let state = g.R.Device.state in
    let b = c.args.bound.now in
    let n = c.at.new.self in
    let m = c.run.new.pages in
    let part = c.args.part.now.part in
    let shape = c.args.part.now.shape in
    let same = c.at.ensures.same in
    let at : n.part ≡ part = c.at.ensures.part ∙ c.number.ensures in
    let small : part < 2 ^ 16 = omega (arith, c.requires.part.own.there, c.requires.begins.bound.holds.shaped.partitions_to) in
    let rows : b.stripe.shape.max_rows ≤ ROWS_MAX = c.requires.begins.bound.holds.shaped.max_rows_to in
    let keeps = c.in-Ok.ensures.kept in
    let called = has_called tells history state part b n m same at keeps c.requires.begins c.requires.part.own (c.at.ensures.ready c.requires.begins) (record { covered = c.in-Ok.ensures.changes.covered }) in
    let e = c.end_operation.new.bound in
    let ends = c.end_operation.ensures.ends in
    let before = seen_same tells history state part b n same at in
    let later = seen_then tells history state part b n m same at keeps in
    let partition = partition_seen tells history state shape part b c.requires.part.shape c.requires.part.own.there rows small well in
    let ran = c.in-Ok.ensures.runs t (subst (λ (p : Paged). IsPartitionOf shape p) (sym before) partition) at in
    runs_line tells history state shape part c.args.cmd.now b m e c.args.replies.now c.run.new.replies t c.requires.part.shape c.requires.part.own.there rows called ends well
    (subst (λ (p : Paged). IsPartitionOf shape p) later ran.0)
    (subst (λ (p : Paged × Paged). RunsCmd shape part c.args.cmd.now p.0.pages p.1.pages c.args.replies.now c.run.new.replies) (λ i. (before i, later i)) ran.1)

pub returns-in-Err-clause-looks : goal.returns-in-Err-clause-looks
returns-in-Err-clause-looks g c = λ t get index.
    let tells = g.R.Device.tells in
    let history = g.R.Device.history in
    let state = g.R.Device.state in
    let b = c.args.bound.now in
    let n = c.at.new.self in
    let m = c.run.new.pages in
    let part = c.args.part.now.part in
    let same = c.at.ensures.same in
    let at : n.part ≡ part = c.at.ensures.part ∙ c.number.ensures in
    let before = seen_same tells history state part b n same at in
    let later = seen_then tells history state part b n m same at c.in-Err.ensures.kept in
    subst (λ (p : Paged × Paged). p.1.pages index ≡ p.0.pages index) (λ i. (before i, later i)) ((c.in-Err.ensures.keeps.gets get).pages index (inl t))

pub returns-in-Ok-clause-looks : goal.returns-in-Ok-clause-looks
returns-in-Ok-clause-looks g c = λ t get index.
    let tells = g.R.Device.tells in
    let history = g.R.Device.history in
    let state = g.R.Device.state in
    let b = c.args.bound.now in
    let n = c.at.new.self in
    let m = c.run.new.pages in
    let part = c.args.part.now.part in
    let same = c.at.ensures.same in
    let at : n.part ≡ part = c.at.ensures.part ∙ c.number.ensures in
    let before = seen_same tells history state part b n same at in
    let later = seen_then tells history state part b n m same at c.in-Ok.ensures.kept in
    c.end_operation.ensures.ends.pages (page_id part index) (inl t)
    ∙ subst (λ (p : Paged × Paged). p.1.pages index ≡ p.0.pages index) (λ i. (before i, later i)) ((c.in-Ok.ensures.keeps.gets get).pages index (inl t))
