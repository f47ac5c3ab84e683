use Rattle.std.proofs.Common.{rules, refl, arith}
use Rattle.pm_tests_logs.proofs.pages.table.TablePagesPages.view.Goals as goal

pub returns : goal.returns
returns c = (
  (
    refl,
    (λ _. tt),
    (
      record { plain = search rules; later = omega arith; ready = search rules },
      search rules,
      search rules,
      search rules,
      search rules,
      search rules,
    ),
  ),
  record { page = search rules; none = search rules; rests = tt },
)
