use Rattle.std.specs.Io.KnownBytes.{Keeps}
use Rattle.pm_disk_fs.proofs.reading.read_some.Given as goal

abbrev pub invariant-loop : goal.invariant-loop
invariant-loop g l = Keeps (g.F.Read.remaining l.initial.from) (g.F.Read.remaining l.from)
