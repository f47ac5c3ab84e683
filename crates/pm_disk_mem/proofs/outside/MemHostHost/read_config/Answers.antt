-- No step changes the configuration.
use Rattle.std.proofs.Common.{List, ℕ, Some, sym, ◌∙◌, subst, arith}
use Rattle.pm_disk.specs.Files.{ReadsFrom}
use Rattle.pm_disk_mem.specs.Hosts.{first_world, events_of}
use Rattle.pm_disk_mem.proofs.Recording.{config-after}
use Rattle.pm_disk_mem.proofs.outside.MemHostHost.read_config.Goals as goal

pub returns-clause-reads : goal.returns-clause-reads
returns-clause-reads c =
    let now = c.args.self.now in
    subst (λ (config : List ℕ). ReadsFrom (Some config) 0 c.copy_front.result c.copy_front.new.into) (c.deref.ensures.value ∙ sym (config-after (events_of now) (first_world now)))
    (record { many = omega (arith, c.copy_front.ensures.many); front = c.copy_front.ensures.front })
