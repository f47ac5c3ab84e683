-- A partition's name is text.
use Rattle.std.proofs.Common.{rules, sym, subst}
use Rattle.std.specs.Str.{IsUtf8}
use Rattle.pm_disk_fs.proofs.Names.{partition_is_text}
use Rattle.pm_disk_fs.proofs.paths.push_partition.Goals as goal

pub unwrap-requires : goal.unwrap-requires
unwrap-requires c =
    let text : IsUtf8 c.partition_name-name.result = subst IsUtf8 (sym c.partition_name-name.ensures) (partition_is_text c.args.part c.requires) in
    search (rules, text)
