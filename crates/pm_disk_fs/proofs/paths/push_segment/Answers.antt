-- A segment's name is text.
use Rattle.std.proofs.Common.{rules, sym, subst}
use Rattle.std.specs.Str.{IsUtf8}
use Rattle.pm_disk_fs.proofs.Names.{name_is_text}
use Rattle.pm_disk_fs.proofs.paths.push_segment.Goals as goal

pub unwrap-requires : goal.unwrap-requires
unwrap-requires c =
    let text : IsUtf8 c.segment_name-name.result = subst IsUtf8 (sym c.segment_name-name.ensures) (name_is_text c.args.seg) in
    search (rules, text)
