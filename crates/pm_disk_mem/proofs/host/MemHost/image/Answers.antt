-- What is left of the files is left of the disk.
use Rattle.std.proofs.Common.{sym, ◌∙◌, ap, subst}
use Rattle.pm_disk.specs.Images.{LeavesAll}
use Rattle.pm_disk_mem.specs.Changes.{bytes_in}
use Rattle.pm_disk_mem.specs.Disks.{Store, image_of, config_file}
use Rattle.pm_disk_mem.specs.Picks.{IsPicked}
use Rattle.pm_disk_mem.specs.Hosts.{world_of, first_world, events_of}
use Rattle.pm_disk_mem.proofs.Recording.{config-after}
use Rattle.pm_disk_mem.proofs.Whole.{picked_world, leaves_all}
use Rattle.pm_disk_mem.proofs.host.MemHost.image.Goals as goal

pub returns-clause-picked : goal.returns-clause-picked
returns-clause-picked c =
    let now = c.args.self.now in
    let parts = c.in_ok-parts.parts in
    let config = bytes_in c.in_ok-config.config in
    subst (λ (store : Store). IsPicked c.args.pick (world_of now) store) (sym c.from_parts.ensures)
    (picked_world now.files now.console (world_of now) now.stands c.args.pick parts config c.in_ok-parts.ensures.picked
    (c.in_ok-config.ensures ∙ ap config_file (c.deref.ensures.value ∙ sym (config-after (events_of now) (first_world now)))))

pub returns-clause-leaves : goal.returns-clause-leaves
returns-clause-leaves c =
    let now = c.args.self.now in
    subst (λ (store : Store). LeavesAll (world_of now) (image_of store)) (sym c.from_parts.ensures)
    (leaves_all now.files now.console (world_of now) now.stands c.in_ok-parts.parts (bytes_in c.in_ok-config.config) c.in_ok-parts.ensures.leaves)
