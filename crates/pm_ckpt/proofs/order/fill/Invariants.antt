use Rattle.std.proofs.Common.{◌≡◌, ◌+◌, take}
use Rattle.pm_ckpt.proofs.order.fill.Given as goal

abbrev pub invariant-each : goal.invariant-each
invariant-each l = record {
  pages : l.set.pages ≡ take l.page-index l.pages;
  room : l.page-index + l.set.spare ≡ l.fn.set.spare;
}
