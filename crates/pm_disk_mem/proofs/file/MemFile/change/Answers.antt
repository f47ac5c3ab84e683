-- The changes get one more, and what is held is changed by it.
use Rattle.std.proofs.Common.{◌≡◌, ◌∷◌, [], ◌++◌, List, ℕ, Option, map, sym, ◌∙◌, ap, subst}
use Rattle.pm_disk.specs.Files.{Change}
use Rattle.pm_disk_mem.specs.Changes.{bytes_in, change_of, CanChange}
use Rattle.pm_disk_mem.specs.Tracks.{Holds}
use Rattle.pm_disk_mem.proofs.Holding.{held_is, holds_change, map_push}
use Rattle.pm_disk_mem.proofs.file.MemFile.change.Goals as goal

pub invariant_of-self-2 : goal.invariant_of-self-2
invariant_of-self-2 c =
    let was = c.self.inside in
    let change = change_of c.args.change in
    let changes = map change_of was.changes.items in
    let pushed : map change_of c.push_reserved.new.self.items ≡ changes ++ change ∷ [] = map_push was.changes.items c.push_reserved.new.self.items c.args.change (c.push_reserved.ensures.items ∙ ap (λ l. l ++ c.args.change ∷ []) c.reserve.ensures.items) in
    let can = subst (λ (held : Option (List ℕ)). CanChange change held) (sym (held_is _ _ _ _ _ c.self.invariant c.self.view_is)) c.requires in
    subst (λ (cs : List Change). Holds (bytes_in c.apply_change.new.held) (bytes_in was.start) cs was.lasting) (sym pushed)
    (holds_change (bytes_in was.held) (bytes_in c.apply_change.new.held) (bytes_in was.start) changes change was.lasting c.self.invariant can c.in_ok-apply_change.ensures.changed)
