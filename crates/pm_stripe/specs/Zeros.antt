-- A lease whose bytes are zeros.
use Rattle.std.specs.Prelude.{length, replicate}
use Rattle.pm_region.specs.Lease.{Leased, with_bytes}

abbrev pub zeroed : Leased → Leased
zeroed lease = with_bytes lease (replicate (length lease.bytes) 0)
