use Rattle.std.proofs.Common.{sym, ap}
use Rattle.pm_disk.specs.Worlds.{World}
use Rattle.std.proofs.lemmas.Result.{on_ok_weaker}
use Rattle.pm_core.proofs.OnlyDisk.{none_disk, page_disk}
use Rattle.pm_redo.proofs.EndingSteps.{no_steps, nothing_written, page_begun, page_written}
use Rattle.pm_redo.proofs.ending.write_one.Goals as goal

pub returns-in-Some-clause-begun : goal.returns-in-Some-clause-begun
returns-in-Some-clause-begun g c t told mark s unended =
    let old = g.H.Device.history c.args.host.now in
    let new = g.H.Device.history c.write_page.new.self in
    page_begun told mark c.args.rebuilt.now c.args.page s old new (g.H.Device.sound c.args.host.now t) unended c.write_page.result c.in-Some.bytes.now (sym c.in-Some.ensures.page) c.in-Some.ensures.sized (c.write_page.ensures.writes t)

pub returns-in-Some-clause-written : goal.returns-in-Some-clause-written
returns-in-Some-clause-written g c t told mark s unended =
    let old = g.H.Device.history c.args.host.now in
    let new = g.H.Device.history c.write_page.new.self in
    let writes = c.write_page.ensures.writes t in
    on_ok_weaker c.write_page.result
    (page_written told mark c.args.rebuilt.now c.args.page s old new (g.H.Device.sound c.args.host.now t) unended c.write_page.result c.in-Some.bytes.now (sym c.in-Some.ensures.page) c.in-Some.ensures.sized writes)
    writes.does.ok

pub returns-in-None-clause-written : goal.returns-in-None-clause-written
returns-in-None-clause-written g c t told mark s unended =
    let old = g.H.Device.history c.args.host.now in
    nothing_written told mark c.args.rebuilt.now c.args.page s old old (g.H.Device.sound c.args.host.now t) unended (sym c.in-None.ensures.page)

pub returns-in-None-clause-begun : goal.returns-in-None-clause-begun
returns-in-None-clause-begun g c t told mark s unended =
    let old = g.H.Device.history c.args.host.now in
    no_steps told mark c.args.rebuilt.now c.args.page s old old (g.H.Device.sound c.args.host.now t) unended

pub returns-in-Some-clause-log : goal.returns-in-Some-clause-log
returns-in-Some-clause-log g c t = on_ok_weaker c.write_page.result (λ is. ap (λ (w : World). w.log) is) (c.write_page.ensures.writes t).does.ok

pub returns-in-Some-clause-disk : goal.returns-in-Some-clause-disk
returns-in-Some-clause-disk g c t =
    page_disk (g.H.Device.history c.args.host.now) (g.H.Device.history c.write_page.new.self) c.write_page.result c.args.page c.in-Some.bytes.now (g.H.Device.sound c.args.host.now t) (c.write_page.ensures.writes t)

pub returns-in-None-clause-disk : goal.returns-in-None-clause-disk
returns-in-None-clause-disk g c t = none_disk (g.H.Device.history c.args.host.now) (g.H.Device.sound c.args.host.now t)
