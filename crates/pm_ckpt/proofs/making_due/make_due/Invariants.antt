use Rattle.std.proofs.Common.{take}
use Rattle.pm_types.specs.declared.flag.Flag.TheVariants as flag
use Rattle.pm_ckpt.specs.Frames.{IsWholeSeat, SetsFlags}
use Rattle.pm_ckpt.proofs.making_due.make_due.Given as goal

abbrev pub invariant-each : goal.invariant-each
invariant-each l = record {
  seat : IsWholeSeat l.locks l.seat;
  due : SetsFlags flag.Due (take l.page-index l.pages) l.fn.seat.view l.seat.view;
}
