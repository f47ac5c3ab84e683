-- One more is copied.
use Rattle.std.proofs.Common.{[], ◌∷◌, ◌++◌, List, map, take, get_or, sym, ◌∙◌, ap}
use Rattle.std.proofs.lemmas.List.{map-append, take_more}
use Rattle.pm_disk.specs.Files.{Change}
use Rattle.pm_disk_mem.specs.Changes.{change_of}
use Rattle.pm_disk_mem.proofs.bytes.copied_changes.Goals as goal

pub loop-change-preserved : goal.loop-change-preserved
loop-change-preserved c =
    let i = c.loop-change.change-index in
    let all = c.args.changes.now in
    let item = c.change-item.result in
    ap (map change_of) c.in_ok-push.ensures.items
    ∙ map-append change_of c.loop-change.copy.items (c.in_ok-copy.field-0 ∷ [])
    ∙ ap (λ (l : List Change). l ++ change_of c.in_ok-copy.field-0 ∷ []) c.loop-change.invariant
    ∙ ap (λ (x : Change). map change_of (take i all) ++ x ∷ []) (c.in_ok-copy.ensures ∙ ap change_of c.change-item.is)
    ∙ sym (map-append change_of (take i all) (get_or all i item ∷ []))
    ∙ sym (ap (map change_of) (take_more all i item c.loop-change-test.true))
