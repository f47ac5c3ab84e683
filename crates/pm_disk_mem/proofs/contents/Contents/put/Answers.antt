-- The entries are seen with their bytes.
use Rattle.std.proofs.Common.{ℕ, List, Vec, ◌∙◌, ap}
use Rattle.std.specs.declared.alloc.Global.{Global}
use Rattle.std.specs.Ordering.{nat_cmp}
use Rattle.pm_disk_mem.specs.Disks.{seen, with_content}
use Rattle.pm_disk_mem.proofs.Maps.{seen-insert_entry}
use Rattle.pm_disk_mem.proofs.contents.Contents.put.Goals as goal

abbrev bytes : Vec ℕ Global → List ℕ
bytes v = v.items

pub returns-clause-put : goal.returns-clause-put
returns-clause-put c =
    let was = c.self.inside.files.entries in
    ap (λ (es : List (ℕ × Vec ℕ Global)). seen bytes es) c.in_ok-insert.ensures.entries
    ∙ seen-insert_entry bytes nat_cmp was c.args.number c.args.bytes
    ∙ ap (λ (l : List (ℕ × List ℕ)). with_content l c.args.number c.args.bytes.items) c.self.view_is
