use Rattle.std.proofs.Common.{◌≡◌, ◌/◌, ◌^◌}
use Rattle.pm_disk.proofs.Digits.{begun}
use Rattle.pm_disk.proofs.names.segment_name.Given as goal

abbrev pub invariant-loop-i : goal.invariant-loop-i
invariant-loop-i l = (l.name ≡ begun l.i l.seg) × (l.rest ≡ l.seg / 16 ^ l.i)
