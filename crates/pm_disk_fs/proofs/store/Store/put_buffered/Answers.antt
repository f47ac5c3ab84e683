-- The file that was written stands after the others.
use Rattle.std.proofs.Common.{◌∙◌, ap, sym, subst}
use Rattle.pm_disk.specs.declared.names.StoreFile.TheVariants.{Segment}
use Rattle.pm_disk_fs.specs.Positions.{IsStretchWritten}
use Rattle.pm_disk_fs.specs.declared.writes.Writes.{Writes}
use Rattle.pm_disk_fs.proofs.TakingOut.{written_last}
use Rattle.pm_disk_fs.specs.OpenFiles.{OthersStayOpen}
use Rattle.pm_disk_fs.proofs.StayingOpen.{others_of_kept}
use Rattle.pm_disk_fs.proofs.Openings.{was_there}
use Rattle.pm_disk_fs.specs.Calls.{WasThere}
use Rattle.std.specs.Prelude.{option_map}
use Rattle.std.specs.String.{string_bytes}
use Rattle.pm_disk_fs.proofs.store.Store.put_buffered.Goals as goal

pub returns-clause-wrote : goal.returns-clause-wrote
returns-clause-wrote g c = λ some.
    subst (λ (writes : Writes). IsStretchWritten g.R.File.Write.contents c.keep.new.self.files.items writes.buffer) c.in_ok-file.ensures.writes
    (written_last g.R.File.Write.contents c.keep.new.self.files.items c.take.new.self.open.files.items c.write_to.new.file c.in_ok-file.file.name _ _ _ c.keep.ensures c.in_ok-write_to.ensures.wrote
    (c.in_ok-file.ensures.name ∙ ap Segment (c.seg.ensures ∙ ap (λ (writes : Writes). writes.buffer.seg) (sym c.in_ok-file.ensures.writes))))

pub returns-clause-others : goal.returns-clause-others
returns-clause-others g c =
    others_of_kept c.args.self.now.open.files.items c.take.new.self.open.files.items c.keep.new.self.files.items (Segment c.args.self.now.writes.buffer.seg) c.write_to.new.file
    (subst (λ n. OthersStayOpen c.args.self.now.open.files.items c.take.new.self.open.files.items (Segment n)) c.seg.ensures c.in_ok-file.ensures.others) c.keep.ensures

pub returns-clause-names : goal.returns-clause-names
returns-clause-names g c = λ last. (
  c.in_ok-file.ensures.names last,
  λ some.
      subst (λ n. WasThere g.R.PathCalls.opened (option_map string_bytes c.args.folder.now.dir) c.args.self.now.open.files.items (Segment n)) c.seg.ensures
      (was_there g.R.PathCalls.opened _ c.args.self.now.open.files.items c.take.new.self.open.files.items (Segment c.seg.result) c.take.new.self.names_last c.in_ok-file.file c.in_ok-file.ensures.from last),
)
