use Rattle.std.proofs.Common.{take}
use Rattle.pm_ckpt.specs.Frames.{IsWholeSeat, CleansFrames}
use Rattle.pm_ckpt.proofs.cleaning.make_clean.Given as goal

abbrev pub invariant-each : goal.invariant-each
invariant-each l = record {
  seat : IsWholeSeat l.locks l.seat;
  clean : CleansFrames (take l.page-index l.pages) l.fn.seat.view l.seat.view;
}
