use Rattle.std.proofs.Common.{take}
use Rattle.pm_disk.specs.States.{IsLaterState}
use Rattle.pm_ckpt.specs.Writes.{held_in}
use Rattle.pm_ckpt.proofs.Written.{WroteSome}
use Rattle.pm_ckpt.proofs.writing.write_pages.Given as goal

abbrev pub invariant-each : goal.invariant-each
invariant-each g l =
    let old = g.H.Device.history l.fn.host in
    let now = g.H.Device.history l.host in
    record {
      state : IsLaterState (g.H.Device.state l.fn.host) (g.H.Device.state l.host);
      wrote : g.H.Device.tells → WroteSome old now (held_in l.pages) (take l.page-index l.order);
    }
