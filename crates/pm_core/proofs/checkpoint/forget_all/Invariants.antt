use Rattle.std.proofs.Common.{◌≡◌, drop}
use Rattle.std.specs.Prelude.{reverse}
use Rattle.std.specs.Vec.{vec_capacity}
use Rattle.pm_core.specs.PageSets.{AreOnce, left_after}
use Rattle.pm_core.proofs.checkpoint.forget_all.Given as goal

abbrev pub invariant-each : goal.invariant-each
invariant-each l = record {
  left : left_after (drop l.page-index l.pages) (reverse l.left.items) ≡ left_after l.pages (reverse l.fn.left.items);
  once : AreOnce (reverse l.left.items);
  capacity : vec_capacity l.left ≡ vec_capacity l.fn.left;
}
