-- What a lease lends.
use Rattle.std.specs.Prelude.{ℕ, List}
use Rattle.std.specs.Borrow.{Lends, MutBor, Fml, Array, u8}
use Rattle.pm_region.specs.Lease.{Leased, with_bytes}
use Rattle.pm_region.specs.contracts.lease.Lease.{the_row}

-- the lease ends with what was last written to the lent bytes
abbrev pub LendsBytes : MutBor Leased → MutBor (List ℕ) → Fml
LendsBytes lease bytes = Lends the_row (Array u8 0) lease bytes (with_bytes lease.now)
