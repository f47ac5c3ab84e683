use Rattle.std.proofs.Common.{List, map, sym, ap, ◌∙◌, subst}
use Rattle.pm_flush.specs.declared.copies.PageCopy.{PageCopy}
use Rattle.pm_flush.specs.Copies.{Copies, copied, copy_of, AreOnce}
use Rattle.pm_flush.proofs.Copying.{once_added, copy_added}
use Rattle.pm_flush.proofs.copies.CopyList.add.Goals as goal

pub invariant_of-self : goal.invariant_of-self
invariant_of-self c =
    let value : PageCopy = record { page = c.args.page; bytes = c.args.copy } in
    let none = ap (λ (k : Copies). copy_of k.pages c.args.page) c.self.view_is ∙ c.requires.new in
    subst (λ (ds : List PageCopy). AreOnce (map copied ds)) (sym c.push_reserved.ensures.items) (once_added c.self.inside.pages.items value c.self.invariant none)

pub returns : goal.returns
returns c =
    let value : PageCopy = record { page = c.args.page; bytes = c.args.copy } in
    copy_added c.args.self.now _ c.self.inside.pages.items value (ap (λ (k : Copies). k.pages) (sym c.self.view_is)) (ap (map copied) c.push_reserved.ensures.items)
    (c.push_reserved.ensures.capacity ∙ ap (λ (k : Copies). k.room) c.self.view_is) c.requires.new
