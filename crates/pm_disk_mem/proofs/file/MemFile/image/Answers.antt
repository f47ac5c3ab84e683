-- Each pending change could be made, so what is left may be left.
use Rattle.std.proofs.Common.{◌≡◌, List, ℕ, Option, Vec, sym, subst}
use Rattle.std.specs.declared.alloc.Global.{Global}
use Rattle.std.proofs.lemmas.Result.{IfOk-weaker}
use Rattle.pm_disk.specs.Images.{Leaves}
use Rattle.pm_disk_mem.specs.Changes.{bytes_in}
use Rattle.pm_disk_mem.specs.Picks.{left_by}
use Rattle.pm_disk_mem.proofs.Leaving.{leaves_left}
use Rattle.pm_disk_mem.proofs.file.MemFile.image.Goals as goal

pub returns-clause-leaves : goal.returns-clause-leaves
returns-clause-leaves c =
    let file = c.args.self.now.file in
    IfOk-weaker c.left.result
    (λ (left : Option (Vec ℕ Global)). bytes_in left ≡ left_by c.args.pick file)
    (λ (left : Option (Vec ℕ Global)). Leaves file (bytes_in left))
    (λ left is. subst (λ (o : Option (List ℕ)). Leaves file o) (sym is) (leaves_left c.args.pick file c.left.ensures.could))
    c.left.ensures.left
