-- One more reader.
use Rattle.std.proofs.Common.{◌+◌, List, [], ◌∷◌, sym, ap, ◌∙◌, subst}
use Rattle.std.specs.List.{All}
use Rattle.std.proofs.lemmas.List.Elements.{All-nil, All-cons, All-append}
use Rattle.pm_disk_mem.specs.Lent.{IsReader}
use Rattle.pm_disk_mem.specs.declared.reader.MemReader.{MemReader}
use Rattle.pm_disk_mem.proofs.host.MemHost.readers.Goals as goal

pub loop-preserved : goal.loop-preserved
loop-preserved c =
    let P : MemReader → Type 0 = λ reader. IsReader c.args.self.now c.args.due.now.items reader in
    record {
      many = c.in_ok-push.ensures.len ∙ ap (λ n. n + 1) c.loop.invariant.many;
      each = subst (λ (l : List MemReader). All P l) (sym c.in_ok-push.ensures.items)
          (All-append P c.loop.readers.items (c.in_ok-reader.field-0 ∷ []) c.loop.invariant.each (All-cons P c.in_ok-reader.field-0 [] c.in_ok-reader.ensures (All-nil P)));
    }
