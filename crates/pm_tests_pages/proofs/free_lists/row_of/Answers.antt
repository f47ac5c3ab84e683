use Rattle.std.proofs.Common.{refl, arith}
use Rattle.pm_types.specs.Fields.{u16_at}
use Rattle.pm_tests_pages.proofs.free_lists.row_of.Goals as goal

pub returns : goal.returns
unfolding u16_at
returns c = record {
  cache = omega arith;
  some_key = omega arith;
  short_key = omega arith;
  short_value = omega arith;
  exact = refl;
}
