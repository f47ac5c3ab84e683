use Rattle.std.proofs.Common.{◌≡◌, take}
use Rattle.std.specs.Vec.{vec_capacity}
use Rattle.pm_ckpt.specs.Frames.{names_of}
use Rattle.pm_ckpt.proofs.order.name.Given as goal

abbrev pub invariant-each : goal.invariant-each
invariant-each l = record {
  items : l.order.items ≡ names_of (take l.page-index l.pages);
  capacity : vec_capacity l.order ≡ vec_capacity l.fn.order;
}
