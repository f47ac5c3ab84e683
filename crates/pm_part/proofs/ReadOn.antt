-- Pages that are read one after the other.
use Rattle.std.proofs.Common.{◌≡◌, ℕ, refl, sym, subst, ◌∙◌, inl, inr, arith}
use Rattle.std.specs.Prelude.{IfSome}
use Rattle.pm_types.specs.declared.fault.PageFault.{PageFault}
use Rattle.pm_types.specs.declared.fault.PageFault.TheVariants as page
use Rattle.pm_types.specs.declared.fault.StoreFault.TheVariants as store
use Rattle.pm_types.specs.Faults.{store_fault_of}
use Rattle.pm_pages.specs.PageLists.{ReadsAt}
use Rattle.pm_pages.specs.Paged.{Paged, AllReadable, NoneLent, LendsNone, AsksPage, GivesUpPages}
use Rattle.pm_pages.specs.Edits.{LooksAtPages}
use Rattle.pm_pages.proofs.EditedPages.{same_then}
use Rattle.pm_part.specs.Reads.{ReadsPages}

pub reads_given_up : (T : Type 0) (a b : Paged) → GivesUpPages T a b → ReadsPages T a b
reads_given_up T a b gives = record { pages = λ t j. gives.pages j (inl t); none_lent = gives.none_lent; same = gives.same }

pub reads_asked : (T : Type 0) (a b : Paged) (i : ℕ) → NoneLent a → AsksPage T a b i → LendsNone a b → ReadsPages T a b
reads_asked T a b i none asks lends = record { pages = λ t j. asks.pages j (inl t); none_lent = λ j h. none j (lends j h); same = asks.same }

pub reads_looked : (T : Type 0) (a b : Paged) (m : ℕ) → NoneLent a → LooksAtPages T a b m → ReadsPages T a b
reads_looked T a b m none looks = record { pages = λ t j. looks.pages j (inl t); none_lent = λ j h. none j (looks.none_lent j h); same = looks.same }

pub reads_then : (T : Type 0) (a b c : Paged) → ReadsPages T a b → ReadsPages T b c → ReadsPages T a c
reads_then T a b c x y = record { pages = λ t j. y.pages t j ∙ x.pages t j; none_lent = y.none_lent; same = same_then a b c x.same y.same }

pub reads_none : (T : Type 0) (a : Paged) → NoneLent a → ReadsPages T a a
reads_none T a none = record { pages = λ t j. refl; none_lent = none; same = record { page_size = refl; max_rows = refl; part = refl; faults = omega arith } }

pub readable_given_up : (T : Type 0) (a b : Paged) → AllReadable a → GivesUpPages T a b → AllReadable b
readable_given_up T a b readable gives = record {
  each = λ j known. subst (λ o. IfSome o (ReadsAt j)) (sym (gives.pages j (inr known))) (readable.each j (gives.known j known));
}

-- the store's fault is that of a disk call where the page's is
pub failed_of : (fault : PageFault) → store_fault_of fault ≡ store.Failed → fault ≡ page.Failed
failed_of page.Failed e = refl
failed_of (page.BadPage id) e = absurd (cc e)
