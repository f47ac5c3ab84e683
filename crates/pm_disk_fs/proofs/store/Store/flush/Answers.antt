-- What is buffered is written by a call of its own.
use Rattle.std.proofs.Common.{◌<◌, length, subst}
use Rattle.std.specs.Prelude.{option_map}
use Rattle.std.specs.String.{string_bytes}
use Rattle.pm_disk.specs.declared.names.StoreFile.TheVariants.{Segment}
use Rattle.pm_disk_fs.specs.Calls.{WasThere}
use Rattle.pm_disk_fs.specs.WriteBuffer.{Stretch}
use Rattle.pm_disk_fs.proofs.store.Store.flush.Goals as goal

pub returns-clause-names : goal.returns-clause-names
returns-clause-names g c = λ last.
    let put = c.in_ok-put_buffered.ensures.names last in
    (put.0, subst (λ (b : Stretch). 0 < length b.bytes → WasThere g.R.PathCalls.opened (option_map string_bytes c.args.folder.now.dir) c.args.self.now.open.files.items (Segment b.seg)) c.begin.ensures.buffered put.1)
