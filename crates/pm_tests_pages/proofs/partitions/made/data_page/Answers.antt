use Rattle.std.proofs.Common.{refl, arith}
use Rattle.pm_types.specs.Fields.{u16_at}
use Rattle.pm_tests_pages.proofs.partitions.made.data_page.Goals as goal

pub insert-requires-clause-row : goal.insert-requires-clause-row
unfolding u16_at
insert-requires-clause-row g c = record {
  cache = omega arith;
  some_key = omega arith;
  short_key = omega arith;
  short_value = omega arith;
  exact = refl;
}
