use Rattle.std.proofs.Common.{take}
use Rattle.pm_types.specs.declared.flag.Flag.TheVariants as flag
use Rattle.pm_disk.specs.States.{IsLaterState}
use Rattle.pm_core.specs.BasePages.{Partitions}
use Rattle.pm_ckpt.specs.Frames.{IsWholeSeat, SetsFlags, AreInFrames, names_of}
use Rattle.pm_ckpt.proofs.Written.{WroteSome}
use Rattle.pm_ckpt.proofs.writing_frames.write_frames.Given as goal

abbrev pub invariant-each : goal.invariant-each
invariant-each g l =
    let old = g.H.Device.history l.fn.host in
    let now = g.H.Device.history l.host in
    record {
      state : IsLaterState (g.H.Device.state l.fn.host) (g.H.Device.state l.host);
      seat : IsWholeSeat l.locks l.seat;
      done : SetsFlags flag.Done (take l.page-index l.pages) l.fn.seat.view l.seat.view;
      wrote : g.H.Device.tells → (held : Partitions) → AreInFrames held l.fn.seat.view l.pages → WroteSome old now held (names_of (take l.page-index l.pages));
    }
