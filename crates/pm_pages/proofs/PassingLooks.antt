-- Pages that pass their checks: they are there, none of them is bad, and looks keep them so.
use Rattle.std.proofs.Common.{◌≡◌, ℕ, zero, suc, ◌<◌, List, refl, sym, ap, subst, ◌∙◌, inl}
use Rattle.std.specs.Prelude.{Option, None, Some, IsSome, IfSome, IsSomeAnd, Result, Err, IsErrOf}
use Rattle.pm_types.specs.Ids.{page_id}
use Rattle.pm_types.specs.declared.page_id.PageId.{PageId}
use Rattle.pm_types.specs.declared.fault.PageFault.{PageFault}
use Rattle.pm_types.specs.declared.fault.PageFault.TheVariants.{BadPage}
use Rattle.pm_pages.specs.Rows.{Partition, page_count}
use Rattle.pm_pages.specs.Passes.{Passes, PassesAsMeta}
use Rattle.pm_pages.specs.Paged.{Paged, PassesIn, IsBadPage}
use Rattle.pm_pages.specs.Edits.{LooksAtPages}
use Rattle.pm_pages.specs.WellFormed.{AllPass}
use Rattle.pm_pages.specs.SoundPages.{PassesAll}
use Rattle.pm_pages.proofs.ToldPages.{pages_told}

-- the first page, if it is there, and each page below the page count
pub meta_passes : (a : Paged) → PassesAll a → (page : List ℕ) → a.pages 0 ≡ Some page → PassesIn a 0 page
meta_passes a all page is =
    let passes : PassesAsMeta all.shape.page_size all.shape.max_rows (page_id a.part 0) page = subst (λ o. IfSome o (PassesAsMeta all.shape.page_size all.shape.max_rows (page_id a.part 0))) is all.pass.meta in
    subst (λ (q : ℕ × ℕ). PassesAsMeta q.0 q.1 (page_id a.part 0) page) {x = (all.shape.page_size, all.shape.max_rows)} {y = (a.page_size, a.max_rows)} (λ k. (all.page_size k, all.max_rows k)) passes

pub page_passes : (a : Paged) (i : ℕ) (page : List ℕ) → PassesAll a → i < page_count a.pages → a.pages i ≡ Some page → PassesIn a i page
page_passes a zero page all lt is = meta_passes a all page is
page_passes a (suc i) page all lt is =
    let passes : Passes all.shape.page_size all.shape.max_rows (page_id a.part (suc i)) page = subst (λ o. IsSomeAnd o (Passes all.shape.page_size all.shape.max_rows (page_id a.part (suc i)))) is (all.pass.each (suc i) lt) in
    subst (λ (q : ℕ × ℕ). Passes q.0 q.1 (page_id a.part (suc i)) page) {x = (all.shape.page_size, all.shape.max_rows)} {y = (a.page_size, a.max_rows)} (λ k. (all.page_size k, all.max_rows k)) passes

-- a page that is there
found : (o : Option (List ℕ)) (P : List ℕ → Type 0) → IsSomeAnd o P → (page : List ℕ) × (o ≡ Some page)
found None P h = absurd h
found (Some page) P h = (page, refl)

pub page_there : (a : Paged) (i : ℕ) → PassesAll a → i < page_count a.pages → (page : List ℕ) × (a.pages i ≡ Some page)
page_there a i all lt = found (a.pages i) (Passes all.shape.page_size all.shape.max_rows (page_id a.part i)) (all.pass.each i lt)

-- pages that were only looked at pass still
pub passes_looked : (T : Type 0) (a b : Paged) (m : ℕ) → T → LooksAtPages T a b m → PassesAll a → PassesAll b
passes_looked T a b m t looks all = record {
  shape = all.shape;
  page_size = all.page_size ∙ sym looks.same.page_size;
  max_rows = all.max_rows ∙ sym looks.same.max_rows;
  pass = subst (λ (q : ℕ × Partition). AllPass all.shape q.0 q.1) {x = (a.part, a.pages)} {y = (b.part, b.pages)} (λ k. (sym looks.same.part k, sym (pages_told T a b m t looks) k)) all.pass;
}

-- a page below the page count isn't bad, and neither is the first
pub not_bad : (T : Type 0) (a : Paged) (i : ℕ) (id : PageId) → T → PassesAll a → i < page_count a.pages → IsBadPage T a i id → ⊥
not_bad T a i id t all lt bad =
    let page = page_there a i all lt in
    let wrong : PassesIn a i page.0 → ⊥ = subst (λ o. IfSome o (λ bytes. PassesIn a i bytes → ⊥)) page.1 (bad.told t) in
    wrong (page_passes a i page.0 all lt page.1)

some_page : (o : Option (List ℕ)) → IsSome o → (page : List ℕ) × (o ≡ Some page)
some_page None h = absurd (cc h)
some_page (Some page) h = (page, refl)

pub meta_not_bad : (T : Type 0) (a : Paged) (id : PageId) → T → PassesAll a → IsBadPage T a 0 id → ⊥
meta_not_bad T a id t all bad =
    let page = some_page (a.pages 0) (bad.first refl (inl t)) in
    let wrong : PassesIn a 0 page.0 → ⊥ = subst (λ o. IfSome o (λ bytes. PassesIn a 0 bytes → ⊥)) page.1 (bad.told t) in
    wrong (meta_passes a all page.0 page.1)

-- an error that is passed on
pub bad_passed : {R S : Type 0} (r : Result R PageFault) (s : Result S PageFault) (f e : PageFault) → r ≡ Err f → s ≡ Err e → e ≡ f → (id : PageId) → IsErrOf s (BadPage id) → IsErrOf r (BadPage id)
bad_passed r s f e is_r is_s same id h = (let h2 : e ≡ BadPage id = cc (sym is_s ∙ h) in is_r ∙ ap (λ (x : PageFault). Err x) (sym same ∙ h2))
