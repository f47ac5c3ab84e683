-- In a job each page is named once.
use Rattle.std.proofs.Common.{◌≡◌, ◌≢◌, ℕ, ◌<◌, List, length, get_or, sym, ap, ◌∙◌, subst, ⊎_elim}
use Rattle.std.specs.Prelude.{All, AllPairs, Contains}
use Rattle.std.proofs.lemmas.List.{get_or_default, get_or-map, length-map}
use Rattle.std.proofs.lemmas.List.Elements.{All-contains, Contains-get_or}
use Rattle.std.proofs.lemmas.Bool.{cases_order}
use Rattle.pm_types.specs.declared.page_id.PageId.{PageId}
use Rattle.pm_flush.specs.declared.due_page.DuePage.{DuePage}
use Rattle.pm_flush.specs.Jobs.{pages_of}

abbrev pub IsOnce : List DuePage → Type 0
IsOnce job = AllPairs (λ one other. one.page ≢ other.page) job

-- what stands behind another entry names another page
apart : (job : List DuePage) (a b : DuePage) (k l : ℕ) → IsOnce job → k < l → l < length job → get_or job k a ≡ a → get_or job l b ≡ b → a.page ≢ b.page
apart job a b k l once lt within at at' e =
    once k l a lt within (ap (λ (d : DuePage). d.page) at ∙ e ∙ ap (λ (d : DuePage). d.page) (sym (get_or_default job l a b within ∙ at')))

pub same_due : (job : List DuePage) (a b : DuePage) → IsOnce job → Contains job a → Contains job b → a.page ≡ b.page → a ≡ b
same_due job a b once x y e =
    ⊎_elim
    (λ same. sym x.2 ∙ get_or_default job x.0 a b x.1 ∙ ap (λ k. get_or job k b) same ∙ y.2)
    (λ differ. ⊎_elim
    (λ lt. absurd (apart job a b x.0 y.0 once lt y.1 x.2 y.2 e))
    (λ gt. absurd (apart job b a y.0 x.0 once gt x.1 y.2 x.2 (sym e))) differ)
    (cases_order x.0 y.0)

-- a page of these is the page of one of them
pub named_by : (ds : List DuePage) (page : PageId) → Contains (pages_of ds) page → (d : DuePage) × Contains ds d × (d.page ≡ page)
named_by ds page h =
    let none : DuePage = record { page = page; frame = 0; tag = 0 } in
    let lt : h.0 < length ds = subst (λ n. h.0 < n) (length-map ds (λ (d : DuePage). d.page)) h.1 in
    (get_or ds h.0 none, Contains-get_or ds h.0 none lt, sym (get_or-map (λ (d : DuePage). d.page) ds h.0 none page lt) ∙ h.2)

-- what holds of those of a job that are among some, holds of an entry of the job whose page is a page of these
pub by_page : (P : DuePage → Type 0) (job ds : List DuePage) (due : DuePage) → IsOnce job → All (Contains job) ds → All P ds → Contains job due → Contains (pages_of ds) due.page → P due
by_page P job ds due once among all named page =
    let x = named_by ds due.page page in
    subst P (same_due job x.0 due once (All-contains (Contains job) ds x.0 among x.1) named x.2) (All-contains P ds x.0 all x.1)

-- the pages of entries are among the pages of them all
pub page_in : (ds : List DuePage) (d : DuePage) → Contains ds d → Contains (pages_of ds) d.page
page_in ds d h = (
  h.0,
  subst (λ n. h.0 < n) (sym (length-map ds (λ (e : DuePage). e.page))) h.1,
  get_or-map (λ (e : DuePage). e.page) ds h.0 d d.page h.1 ∙ ap (λ (e : DuePage). e.page) h.2,
)
