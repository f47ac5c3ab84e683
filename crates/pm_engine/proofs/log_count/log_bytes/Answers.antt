use Rattle.std.proofs.Common.{◌∙◌, length, inr, ap, arith}
use Rattle.pm_disk.specs.Worlds.{World}
use Rattle.pm_disk.proofs.Chain.{does}
use Rattle.pm_records.specs.LogFiles.{contents}
use Rattle.pm_redo.specs.Rebuilding.{IsSame}
use Rattle.pm_engine.proofs.LogCounts.{counted_more}
use Rattle.pm_engine.proofs.log_count.log_bytes.Goals as goal

pub segments-preserved : goal.segments-preserved
segments-preserved g c =
    let old = g.H.Device.history c.args.host.now in
    let before = g.H.Device.history c.segments.host in
    let now = g.H.Device.history c.segment_len.new.host in
    let v = c.segments.invariant in
    record {
      state = record {
        later = omega (arith, v.state.later, c.segment_len.ensures.cause.later);
        access = c.segment_len.ensures.cause.access ∙ v.state.access;
        usable = λ usable. c.segment_len.ensures.cause.usable (v.state.usable usable);
      };
      from = omega (arith, v.from);
      to = inr (omega (arith, c.segments-test.true));
      same = λ t. does old before now c.segment_len.result before.world (IsSame old.world) (v.same t) (c.segment_len.ensures.does t) (v.world t) (v.world t);
      world = λ t. (c.in_ok-len.ensures.does t).ok ∙ v.world t;
      counted = λ t.
          counted_more (contents old.world.log) c.args.from.seg c.segments.seg c.segments.bytes c.in_ok-len.len c.saturating_add-bytes.result v.from
          (c.in_ok-len.ensures.len t ∙ ap (λ (w : World). length (contents w.log c.segments.seg)) (v.world t)) c.saturating_add-bytes.ensures (v.counted t);
    }
