-- A meta page that was made.
use Rattle.std.proofs.Common.{◌≢◌, ℕ, List, sym, subst, ◌∙◌, inl, inr}
use Rattle.std.specs.Prelude.{IfSome, IsTrue}
use Rattle.std.proofs.lemmas.Bool.{cases_eq, eq-eqb, ne_eqb}
use Rattle.pm_meta.specs.MetaPages.{IsMetaPage}
use Rattle.pm_pages.specs.PageLists.{ReadsAt}
use Rattle.pm_pages.specs.Paged.{Paged, AllReadable, WritesPage}

-- every page reads as what it says once the first one is a meta page
pub readable_meta : (a b : Paged) (page : List ℕ) → ((j : ℕ) → j ≢ 0 → IsTrue (a.known j) → IfSome (a.pages j) (ReadsAt j)) → WritesPage a b 0 page → IsMetaPage page → AllReadable b
readable_meta a b page others writes is = record {
  each = λ j known. subst (λ o. IfSome o (ReadsAt j)) (sym (writes.pages j)) (elim (cases_eq j 0) [
    | inl e ↦ simp (eq-eqb j 0 e) (subst (λ n. ReadsAt n page) (sym e) is)
    | inr ne ↦ simp (ne_eqb j 0 ne) (others j ne (sym (writes.known j) ∙ known))
  ]);
}
