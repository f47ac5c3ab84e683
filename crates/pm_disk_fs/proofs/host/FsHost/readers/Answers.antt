-- One more reader.
use Rattle.std.proofs.Common.{◌≡◌, ◌+◌, List, [], ◌∷◌, sym, ap, ◌∙◌, subst}
use Rattle.std.specs.List.{All}
use Rattle.std.proofs.lemmas.List.Elements.{All-nil, All-cons, All-append}
use Rattle.pm_disk.specs.Lending.{reader_lent}
use Rattle.pm_disk_fs.specs.Host.{state_of}
use Rattle.pm_disk_fs.specs.Parts.{ReaderView, state_of_reader}
use Rattle.pm_disk_fs.proofs.host.FsHost.readers.Goals as goal

pub loop-preserved : goal.loop-preserved
loop-preserved g c =
    let P : ReaderView → Type 0 = λ reader. state_of_reader reader ≡ reader_lent c.args.due.now.items (state_of c.args.self.now) in
    record {
      many = c.in_ok-push.ensures.len ∙ ap (λ n. n + 1) c.loop.invariant.many;
      each = subst (λ (l : List ReaderView). All P l) (sym c.in_ok-push.ensures.items)
          (All-append P c.loop.readers.items (c.in_ok-reader.field-0 ∷ []) c.loop.invariant.each (All-cons P c.in_ok-reader.field-0 [] c.in_ok-reader.ensures (All-nil P)));
    }
