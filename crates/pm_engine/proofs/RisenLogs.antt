-- How far a log goes on by a frame.
use Rattle.std.proofs.Common.{◌≡◌, ℕ, ◌+◌, ◌<◌, ◌≤◌, length, Bool, true, false, ap, arith}
use Rattle.std.specs.Prelude.{◌^◌, if◌then◌else◌}
use Rattle.std.proofs.lemmas.Bool.Decides.{nat_tests}
use Rattle.pm_frame.specs.Frames.{Frame}
use Rattle.pm_records.specs.Logs.{is_last}
use Rattle.pm_records.specs.LogSteps.{next_segment}
use Rattle.pm_segments.specs.Appends.{grown}
use Rattle.pm_segments.specs.Ends.{LogEnd, has_room, moved}
use Rattle.pm_segments.specs.Appends.{rolled}

next_le : (seg : ℕ) → next_segment seg ≤ seg + 1
next_le seg = by (is_last seg)
  where
    by : (b : Bool) → (if b then 1 else seg + 1) ≤ seg + 1
    by true = omega arith
    by false = omega arith

-- it ends in the same segment or in the next one
pub grown_rises : (log : LogEnd) (frame : Frame) → (grown log frame).end.seg ≤ log.end.seg + 1
grown_rises log frame = by (has_room log (length frame.payload))
  where
    by : (b : Bool) → (moved (if b then log else rolled log) frame).end.seg ≤ log.end.seg + 1
    by true = omega arith
    by false = next_le log.end.seg

-- and where there is a number for a segment more, in none before
pub grown_goes_on : (log : LogEnd) (frame : Frame) → log.end.seg + 1 < 2 ^ 64 → log.end.seg ≤ (grown log frame).end.seg
grown_goes_on log frame numbered = by (has_room log (length frame.payload))
  where
    not_last : is_last log.end.seg ≡ false
    not_last = grind (arith, nat_tests, numbered)

    next_is : next_segment log.end.seg ≡ log.end.seg + 1
    next_is = ap (λ (b : Bool). if b then 1 else log.end.seg + 1) not_last

    by : (b : Bool) → log.end.seg ≤ (moved (if b then log else rolled log) frame).end.seg
    by true = omega arith
    by false = omega (arith, next_is)
