-- What is held is the file's content.
use Rattle.std.proofs.Common.{List, ℕ, length, Option, ◌∙◌, ap}
use Rattle.std.specs.Prelude.{option_map}
use Rattle.pm_disk_mem.proofs.Holding.{held_is}
use Rattle.pm_disk_mem.proofs.file.MemFile.len.Goals as goal

pub returns : goal.returns
returns c = c.length_of.ensures ∙ ap (λ (held : Option (List ℕ)). option_map length held) (held_is _ _ _ _ _ c.self.invariant c.self.view_is)
