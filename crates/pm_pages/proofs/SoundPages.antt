-- Pages of which each is there, and at hand or passes its check, and calls that keep them so.
use Rattle.std.proofs.Common.{◌≡◌, ℕ, zero, suc, ◌-◌, ◌<◌, ◌≤◌, ◌⊎◌, true, false, List, refl, sym, ap, subst, ◌∙◌, inl, inr, arith}
use Rattle.std.specs.Prelude.{Bool, Option, None, Some, IsSome, IfSome, IsSomeAnd, IsTrue, Result, Err}
use Rattle.pm_types.specs.declared.page_id.PageId.{PageId}
use Rattle.pm_types.specs.declared.fault.PageFault.{PageFault}
use Rattle.pm_types.specs.declared.fault.PageFault.TheVariants.{BadPage}
use Rattle.pm_pages.specs.Rows.{Partition, page_count}
use Rattle.pm_pages.specs.Passes.{PassesAt}
use Rattle.pm_pages.specs.PageLists.{IsReadable, ReadsAt}
use Rattle.pm_pages.specs.Paged.{Paged, AllReadable, PassesIn, IsThere, IsBadPage, IsAfterGap}
use Rattle.pm_pages.specs.Edits.{LooksAtPages, EditsPages}
use Rattle.pm_pages.proofs.ReadablePages.{passes_read}
use Rattle.pm_pages.proofs.EditedPages.{edits_looked}
use Rattle.pm_pages.specs.SoundPages.{PassesAll, NoBadPage, IsSound}
use Rattle.pm_pages.proofs.ToldPages.{pages_told}
use Rattle.pm_pages.proofs.PassingLooks.{page_passes, page_there}

-- each page but the first reads as what it says
pub sound_reads : (p : Paged) → IsSound p → AllReadable p → (j : ℕ) → 1 ≤ j → j < page_count p.pages → (bytes : List ℕ) × (p.pages j ≡ Some bytes) × IsReadable bytes
sound_reads p sound readable zero some lt = absurd (omega (arith, some))
sound_reads p sound readable (suc i) some lt = by (p.pages (suc i)) refl (sound.each (suc i) lt)
  where
    by : (o : Option (List ℕ)) → p.pages (suc i) ≡ o → IsSomeAnd o (λ page. IsTrue (p.known (suc i)) ⊎ PassesIn p (suc i) page) → (bytes : List ℕ) × (p.pages (suc i) ≡ Some bytes) × IsReadable bytes
    by None e h = absurd h
    by (Some page) e h = (page, e, elim h [ inl known ↦ subst (λ o. IfSome o (ReadsAt (suc i))) e (readable.each (suc i) known) | inr passes ↦ passes_read p.page_size p.max_rows p.part (suc i) page passes ])

pub reads_now : (p : Paged) → IsSound p → AllReadable p → (j : ℕ) (bytes : List ℕ) → 1 ≤ j → j < page_count p.pages → p.pages j ≡ Some bytes → IsReadable bytes
reads_now p sound readable j bytes some lt is =
    let x = sound_reads p sound readable j some lt in
    let e : x.0 ≡ bytes = cc (x.1, is) in
    subst IsReadable e x.2

-- pages that were changed are at hand, and so is each page that the partition has besides
pub sound_grown : (T : Type 0) (a c : Paged) (touched : ℕ → Type 0) (m : ℕ) → T → EditsPages T a c touched m → ((j : ℕ) → touched j → IsTrue (c.known j) × IsThere c j) → ((j : ℕ) → j < page_count c.pages → (j < page_count a.pages) ⊎ touched j) → IsSound a → IsSound c
sound_grown T a c touched m t edits held counts sound = record { each = λ i lt. elim (counts i lt) [ inl old ↦ by i old (c.pages i) refl (c.known i) refl | inr new ↦ here i (held i new) (c.pages i) refl ] }
  where
    here : (i : ℕ) → IsTrue (c.known i) × IsThere c i → (o : Option (List ℕ)) → c.pages i ≡ o → IsSomeAnd (c.pages i) (λ page. IsTrue (c.known i) ⊎ PassesIn c i page)
    here i h None e = absurd (let z = subst IsSome e h.1 in cc z)
    here i h (Some page) e = subst (λ o. IsSomeAnd o (λ q. IsTrue (c.known i) ⊎ PassesIn c i q)) (sym e) (inl h.0)

    passes_same : (i : ℕ) (page : List ℕ) → PassesIn a i page → PassesIn c i page
    passes_same i page h = subst (λ (q : ℕ × ℕ × ℕ). PassesAt q.0 q.1 q.2 i page) {x = (a.page_size, a.max_rows, a.part)} {y = (c.page_size, c.max_rows, c.part)} (λ z. (sym edits.same.page_size z, sym edits.same.max_rows z, sym edits.same.part z)) h

    by : (i : ℕ) → i < page_count a.pages → (o : Option (List ℕ)) → c.pages i ≡ o → (k : Bool) → c.known i ≡ k → IsSomeAnd (c.pages i) (λ page. IsTrue (c.known i) ⊎ PassesIn c i page)
    by i lt (Some page) e true k = subst (λ o. IsSomeAnd o (λ q. IsTrue (c.known i) ⊎ PassesIn c i q)) (sym e) (inl k)
    by i lt (Some page) e false k =
        let out : touched i → ⊥ = λ h. (let z : true ≡ false = sym (held i h).0 ∙ k in absurd (cc z)) in
        let same : c.pages i ≡ a.pages i = edits.others i (inl t) out in
        let h = subst (λ o. IsSomeAnd o (λ q. IsTrue (a.known i) ⊎ PassesIn a i q)) (sym same ∙ e) (sound.each i lt) in
        subst (λ o. IsSomeAnd o (λ q. IsTrue (c.known i) ⊎ PassesIn c i q)) (sym e) (inr (elim h [ inl known ↦ absurd (let z : true ≡ false = sym (edits.known i known) ∙ k in cc z) | inr passes ↦ passes_same i page passes ]))
    by i lt None e b k =
        let out : touched i → ⊥ = λ h. (let z = subst IsSome e (held i h).1 in absurd (cc z)) in
        let same : c.pages i ≡ a.pages i = edits.others i (inl t) out in
        absurd (subst (λ o. IsSomeAnd o (λ q. IsTrue (a.known i) ⊎ PassesIn a i q)) (sym same ∙ e) (sound.each i lt))

pub sound_edited : (T : Type 0) (a c : Paged) (touched : ℕ → Type 0) (m : ℕ) → T → EditsPages T a c touched m → ((j : ℕ) → touched j → IsTrue (c.known j) × IsThere c j) → page_count c.pages ≡ page_count a.pages → IsSound a → IsSound c
sound_edited T a c touched m t edits held counts sound = sound_grown T a c touched m t edits held (λ j lt. inl (omega (arith, lt, counts))) sound

pub sound_looked : (T : Type 0) (a b : Paged) (m : ℕ) → T → LooksAtPages T a b m → IsSound a → IsSound b
sound_looked T a b m t looks sound = sound_edited T a b (λ j. ⊥) m t (edits_looked T a b (λ j. ⊥) m looks) (λ j h. absurd h) (ap (λ (q : Partition). page_count q) (pages_told T a b m t looks)) sound

-- pages that all pass
pub sound_all : (a : Paged) → PassesAll a → IsSound a
sound_all a all = record { each = λ i lt. (let page = page_there a i all lt in subst (λ o. IsSomeAnd o (λ q. IsTrue (a.known i) ⊎ PassesIn a i q)) (sym page.1) (inr (page_passes a i page.0 all lt page.1))) }

-- none is bad, and none stands after one that isn't there
pub sound_not_bad : (T : Type 0) (p : Paged) (i : ℕ) (id : PageId) → T → IsSound p → i < page_count p.pages → IsBadPage T p i id → ⊥
sound_not_bad T p i id t sound lt bad = by (p.pages i) refl (sound.each i lt)
  where
    by : (o : Option (List ℕ)) → p.pages i ≡ o → IsSomeAnd o (λ page. IsTrue (p.known i) ⊎ PassesIn p i page) → ⊥
    by None e h = h
    by (Some page) e h = elim h [
      | inl known ↦ (let z = sym e ∙ bad.known known in absurd (cc z))
      | inr passes ↦ (let wrong : PassesIn p i page → ⊥ = subst (λ o. IfSome o (λ bytes. PassesIn p i bytes → ⊥)) e (bad.told t) in wrong passes)
    ]

pub sound_no_gap_upto : (T : Type 0) (p : Paged) (i : ℕ) (id : PageId) → T → IsSound p → i ≤ page_count p.pages → IsAfterGap T p i id → ⊥
sound_no_gap_upto T p i id t sound le gap =
    subst (λ o. IsSomeAnd o (λ page. IsTrue (p.known (i - 1)) ⊎ PassesIn p (i - 1) page)) (gap.absent (inl t)) (sound.each (i - 1) (omega (arith, le, gap.later)))

pub sound_no_gap : (T : Type 0) (p : Paged) (i : ℕ) (id : PageId) → T → IsSound p → i < page_count p.pages → IsAfterGap T p i id → ⊥
sound_no_gap T p i id t sound lt gap = sound_no_gap_upto T p i id t sound (omega (arith, lt)) gap

-- an error that is passed on is one of the call before
pub no_bad_passed : {R S : Type 0} (r : Result R PageFault) (s : Result S PageFault) (f e : PageFault) → r ≡ Err f → s ≡ Err e → e ≡ f → NoBadPage r → NoBadPage s
no_bad_passed r s f e is_r is_s same none = λ id h. (let h2 : e ≡ BadPage id = cc (sym is_s ∙ h) in none id (is_r ∙ ap (λ (x : PageFault). Err x) (sym same ∙ h2)))
