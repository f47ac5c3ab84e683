use Rattle.std.proofs.Common.{rules, refl, sym, subst, ◌∙◌, ◌≡◌, ◌≢◌, ℕ, List, inl, inr, ⊎_elim}
use Rattle.std.specs.Prelude.{◌⊎◌, Option, None, Some, IsSome, IsSomeAnd, IsTrue}
use Rattle.std.proofs.lemmas.Bool.{ne_eqb}
use Rattle.pm_types.specs.Spans.{Coverage}
use Rattle.pm_pages.specs.PageLists.{ReadsAt}
use Rattle.pm_pages.specs.Paged.{Paged, AsksPage, WritesPage, NotesPatch, with_page}
use Rattle.pm_tests_logs.proofs.pages.edits.set_byte.Goals as goal

some_is : (o : Option (List ℕ)) → IsSome o → (bytes : List ℕ) × (o ≡ Some bytes)
some_is None there = absurd (cc there)
some_is (Some bytes) there = (bytes, refl)

-- a page that is at hand after the edit, and isn't the one that was edited, was at hand before, or reads
reads_else : (T : Type 0) (a b c d : Paged) (i : ℕ) (bytes : List ℕ) (patch : Coverage) → AsksPage T a b i → WritesPage b c i bytes → NotesPatch T c d i patch → (j : ℕ) → j ≢ i → IsTrue (d.known j) → IsTrue (a.known j) ⊎ IsSomeAnd (d.pages j) (ReadsAt j)
reads_else T a b c d i bytes patch asks writes notes j ne known =
    let known_c : IsTrue (c.known j) = sym (notes.known j) ∙ known in
    let else_same : with_page b.pages i bytes j ≡ b.pages j = simp (ne_eqb j i ne) refl in
    ⊎_elim
    (λ was. inl was)
    (λ reads. inr (subst (λ o. IsSomeAnd o (ReadsAt j)) (sym (notes.pages j (inr known_c) ∙ writes.pages j ∙ else_same)) reads))
    (asks.reads j (sym (writes.known j) ∙ known_c))

pub returns-clause-ok : goal.returns-clause-ok
returns-clause-ok g c =
    let T = g.P.Pages.tells in
    let a = g.P.Pages.seen c.args.pages.now in
    let b = g.P.Pages.seen c.look_and_change.new.pages in
    let p = g.P.Pages.seen c.put_byte.new.pages in
    let n = g.P.Pages.seen c.note_byte.new.pages in
    let asked = c.in_ok-look_and_change.ensures in
    let page = some_is (b.pages c.args.index) asked.ok.there in
    let writes = c.put_byte.ensures.writes page.0 page.1 in
    let notes = c.note_byte.ensures.notes in
    record {
      here = search rules;
      lends = search rules;
      others = search rules;
      known = search rules;
      reads = reads_else T a b p n c.args.index _ notes.0 asked.asks writes notes.2;
      lent = search rules;
      covers = search rules;
      room = search rules;
      same = search rules;
    }
