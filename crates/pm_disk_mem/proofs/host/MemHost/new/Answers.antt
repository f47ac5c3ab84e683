-- Before the first step the world is that of the disk.
use Rattle.std.proofs.Common.{sym, subst}
use Rattle.pm_disk_mem.specs.Held.{Begins}
use Rattle.pm_disk_mem.specs.declared.files.Files.{Files}
use Rattle.pm_disk_mem.proofs.Recording.{begun}
use Rattle.pm_disk_mem.proofs.host.MemHost.new.Goals as goal

pub returns-clause-world : goal.returns-clause-world
returns-clause-world c =
    begun c.of.result.value c.in_ok-chosen.field-0.items c.in_ok-new.field-0.script.items c.new-3.result.items c.into_parts-parts.result.0 c.into_parts-parts.result.1 c.args.disk c.args.script.now c.args.config.now
    (subst (λ (f : Files). Begins f c.into_parts-parts.result.0) (sym c.of.ensures) c.in_ok-files.ensures) c.into_parts-parts.ensures c.in_ok-new.ensures.input c.in_ok-chosen.ensures c.new-3.ensures.items
