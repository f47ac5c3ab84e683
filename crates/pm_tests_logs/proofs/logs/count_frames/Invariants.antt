use Rattle.pm_disk.specs.States.{IsUsable}
use Rattle.pm_disk_mem.specs.Hosts.{state_of, world_of}
use Rattle.pm_segments.specs.Scans.{IsAhead}
use Rattle.pm_tests_logs.proofs.logs.count_frames.Given as goal

abbrev pub invariant-frames : goal.invariant-frames
invariant-frames l = record { ahead : IsAhead l.scan (world_of l.host); usable : IsUsable (state_of l.host) }
