-- All changes are lasting.
use Rattle.std.proofs.Common.{map, sym, ◌∙◌, ap}
use Rattle.std.proofs.lemmas.List.{length-map}
use Rattle.pm_disk.specs.Files.{all_forced}
use Rattle.pm_disk_mem.specs.Changes.{bytes_in, change_of}
use Rattle.pm_disk_mem.specs.Tracks.{Track, track_of}
use Rattle.pm_disk_mem.proofs.Holding.{track_of-force}
use Rattle.pm_disk_mem.proofs.file.MemFile.force.Goals as goal

pub returns : goal.returns
returns c =
    let was = c.self.inside in
    let start = bytes_in was.start in
    let changes = map change_of was.changes.items in
    ap (λ n. track_of start changes n) (c.len-self-inside.ensures ∙ was.changes.ok.0 ∙ sym (length-map was.changes.items change_of))
    ∙ track_of-force start changes was.lasting
    ∙ ap (λ (t : Track). record t { file = all_forced t.file }) c.self.view_is
