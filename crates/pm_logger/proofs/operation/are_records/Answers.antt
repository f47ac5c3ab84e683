use Rattle.std.proofs.Common.{◌≡◌, ◌<◌, ◌++◌, List, ℕ, ap, rules, arith, length, length-append}
use Rattle.pm_records.specs.Operations.{frame_of, record_bytes}
use Rattle.pm_frame.specs.Frames.{Frame}
use Rattle.pm_logger.proofs.RecordBytes.{not_records, records_after, record_longer}
use Rattle.pm_logger.proofs.operation.are_records.Goals as goal

shorter : (f : Frame) (bytes rest : List ℕ) → bytes ≡ record_bytes f ++ rest → length rest < length bytes
shorter f bytes rest e = omega (arith, ap length e, length-append (record_bytes f) rest, record_longer f)

pub returns-in_default : goal.returns-in_default
returns-in_default c = (λ h. absurd cc, λ all. absurd (not_records c.each.rest.now (search rules) c.in_default.ensures.none (c.each.invariant.1 all)))

pub each-smaller : goal.each-smaller
each-smaller c = shorter (frame_of c.in-Some.first.kind c.in-Some.first.payload.now) c.each.rest.now c.in-Some.first.rest.now c.in-Some.ensures.spelled

pub each-preserved : goal.each-preserved
each-preserved c =
    let after = records_after (frame_of c.in-Some.first.kind c.in-Some.first.payload.now) c.each.rest.now c.in-Some.first.rest.now c.in-Some.ensures.logged c.in-Some.ensures.spelled in
    (λ h. c.each.invariant.0 (after.0 h), λ h. after.1 (c.each.invariant.1 h))
