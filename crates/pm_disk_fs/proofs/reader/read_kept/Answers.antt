-- What was read is of the file that was opened at the path of this name, and that is kept.
use Rattle.std.proofs.Common.{◌≡◌, subst}
use Rattle.std.specs.Prelude.{IfSome, option_map}
use Rattle.std.specs.String.{string_bytes}
use Rattle.pm_disk_fs.specs.Calls.{to_read}
use Rattle.pm_disk_fs.proofs.StillOpened.{opened_kept, made_found, range_at, none_at}
use Rattle.pm_disk_fs.proofs.reader.read_kept.Goals as goal

pub returns-in_default-clause-reads : goal.returns-in_default-clause-reads
returns-in_default-clause-reads g c =
    none_at g.R.PathCalls.opened g.R.PathCalls.missing g.R.File.ReadCalls.gave (λ path file. g.R.PathCalls.opened to_read path file.file) (option_map string_bytes c.args.folder.now.dir) c.args.name c.args.at c.in_ok-file.field-0 c.whole_or_zeros.result c.args.into.now c.whole_or_zeros.new.into c.in_default.is c.in_ok-file.ensures.opened c.whole_or_zeros.ensures.whole c.whole_or_zeros.ensures.fewer

pub returns-clause-reads : goal.returns-clause-reads
returns-clause-reads g c =
    let folder = option_map string_bytes c.args.folder.now.dir in
    let file = c.in-Some.file in
    range_at g.R.PathCalls.opened g.R.PathCalls.missing g.R.File.ReadCalls.gave folder c.args.name c.args.at file.file c.in_ok-is_whole.is_whole c.read_whole.new.into
    (made_found g.R.PathCalls.opened g.R.PathCalls.missing folder c.args.name c.in_ok-file.field-0 file c.in-Some.is c.in_ok-file.ensures.opened) c.in_ok-is_whole.ensures.reads

pub returns-clause-left : goal.returns-clause-left
returns-clause-left g c =
    let folder = option_map string_bytes c.args.folder.now.dir in
    let file = c.in-Some.file in
    opened_kept g.R.PathCalls.opened folder c.take_to_read.new.files.files.items c.keep.new.self.files.items c.args.name file c.take_to_read.ensures.left
    (subst (λ o. IfSome o (λ f. f.name ≡ c.args.name)) c.in-Some.is c.in_ok-file.ensures.named)
    (made_found g.R.PathCalls.opened g.R.PathCalls.missing folder c.args.name c.in_ok-file.field-0 file c.in-Some.is c.in_ok-file.ensures.opened) c.keep.ensures
