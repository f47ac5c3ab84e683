use Rattle.std.proofs.Common.{◌≡◌, ◌<◌, ◌↔◌, IsTrue}
use Rattle.pm_types.specs.Fields.{AreZero}
use Rattle.pm_types.proofs.fields.are_zero.Given as goal

abbrev pub invariant-each : goal.invariant-each
invariant-each l = record {
  zero : IsTrue l.zero ↔ AreZero l.page l.from l.at;
  turned : l.end < l.from → l.at ≡ l.from;
}
