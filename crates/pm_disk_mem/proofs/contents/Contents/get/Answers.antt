-- The file is looked up among the entries, which are seen with their bytes.
use Rattle.std.proofs.Common.{ℕ, List, Some, None, ◌∙◌, ap}
use Rattle.pm_disk_mem.proofs.Maps.{found_content}
use Rattle.pm_disk_mem.proofs.contents.Contents.get.Goals as goal

pub returns-in-Some : goal.returns-in-Some
returns-in-Some c = ap (λ (l : List ℕ). Some l) c.as_slice.ensures.value ∙ found_content c.self.inside.files.entries c.args.self.now c.args.number (Some c.in-Some.bytes.now) c.in-Some.ensures.value c.self.view_is

pub returns-in-None : goal.returns-in-None
returns-in-None c = found_content c.self.inside.files.entries c.args.self.now c.args.number None c.in-None.ensures.value c.self.view_is
