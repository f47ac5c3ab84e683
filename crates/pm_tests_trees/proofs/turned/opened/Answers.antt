use Rattle.std.proofs.Common.{◌≡◌, ℕ, zero, suc, List, length, get_or, refl, sym, ap, ◌∙◌, subst, arith}
use Rattle.std.proofs.lemmas.List.{get_or_default}
use Rattle.std.specs.Prelude.{All, Option, None, Some, IfSome, IsSome, IsSomeAnd}
use Rattle.pm_types.specs.Ids.{page_id}
use Rattle.pm_types.specs.declared.page.Page.{Page}
use Rattle.pm_types.specs.declared.shape.Shape.{Shape}
use Rattle.pm_pages.specs.Rows.{page_count}
use Rattle.pm_pages.specs.Passes.{Passes}
use Rattle.pm_pages.specs.PageLists.{pages_in, IsReadable, ReadsAt, AreReadable}
use Rattle.pm_pages.specs.PlainRooms.{IsOfSize}
use Rattle.pm_pages.specs.Plain.{Shown, paged}
use Rattle.pm_pages.specs.Paged.{AllReadable}
use Rattle.pm_pages.specs.WellFormed.{AllPass}
use Rattle.pm_pages.proofs.PageReads.{page_read}
use Rattle.pm_pages.proofs.PlainSteps.{there_below}
use Rattle.pm_tests_trees.proofs.turned.opened.Goals as goal

-- pages that pass are of the store's page size
sized : (shape : Shape) (part : ℕ) (pages : List Page) → AllPass shape part (pages_in pages) → page_count (pages_in pages) ≡ length pages → All (IsOfSize shape.page_size) pages
sized shape part pages pass all k d lt =
    let found = page_read pages k (get_or pages k d) lt (get_or_default pages k d (get_or pages k d) lt) in
    let passes = subst (λ o. IsSomeAnd o (Passes shape.page_size shape.max_rows (page_id part k))) found (pass.each k (omega (arith, lt, all))) in
    passes.size

-- and read as what they say
read_in : (pages : List Page) → AreReadable (pages_in pages) → page_count (pages_in pages) ≡ length pages → (i : ℕ) → IfSome (pages_in pages i) (ReadsAt i)
read_in pages readable all zero = readable.meta
read_in pages readable all (suc i) = by_page (pages_in pages (suc i)) refl
  where
    by_page : (o : Option (List ℕ)) → pages_in pages (suc i) ≡ o → IfSome o (ReadsAt (suc i))
    by_page None e = tt
    by_page (Some page) e = subst (λ o. IsSomeAnd o IsReadable) e (readable.each (suc i) (omega (arith, all, there_below pages (suc i) (subst IsSome (sym e) refl))))

-- the same of a list that was seen of them
sized_seen : (shape : Shape) (part : ℕ) (pages seen : List Page) → seen ≡ pages → AllPass shape part (pages_in seen) → page_count (pages_in pages) ≡ length pages → All (IsOfSize shape.page_size) pages
sized_seen shape part pages seen same pass all = sized shape part pages (subst (λ (t : List Page). AllPass shape part (pages_in t)) same pass) all

counted : (pages seen : List Page) (n m : ℕ) → seen ≡ pages → n ≡ page_count (pages_in seen) → n ≡ m → length seen ≡ m → page_count (pages_in pages) ≡ length pages
counted pages seen n m same count equal len = ap (λ (t : List Page). page_count (pages_in t)) (sym same) ∙ sym count ∙ equal ∙ sym len ∙ ap length same

pub of-requires-clause-sized : goal.of-requires-clause-sized
of-requires-clause-sized c =
    sized_seen _ _ c.args.pages.items c.deref.result.now c.deref.ensures.value (c.all_pass.ensures.pass.0 c.if-not-all_pass.false)
    (counted c.args.pages.items c.deref-2.result.now c.page_count.result c.len.result c.deref-2.ensures.value c.page_count.ensures c.if-page_count-len.false (c.deref-2.ensures.len ∙ sym c.len.ensures))

pub returns-clause-readable : goal.returns-clause-readable
returns-clause-readable c =
    let all = counted c.args.pages.items c.deref-2.result.now c.page_count.result c.len.result c.deref-2.ensures.value c.page_count.ensures c.if-page_count-len.false (c.deref-2.ensures.len ∙ sym c.len.ensures) in
    let readable = subst (λ (t : List Page). AreReadable (pages_in t)) c.deref.ensures.value (c.all_pass.ensures.readable c.if-not-all_pass.false) in
    subst (λ (s : Shown). AllReadable (paged s)) (sym c.in_ok-made.ensures.shows) (record { each = λ i known. read_in c.args.pages.items readable all i })
