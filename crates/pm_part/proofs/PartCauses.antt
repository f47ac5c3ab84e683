-- Why a call on a partition failed, after other calls.
use Rattle.std.proofs.Common.{◌≡◌, ℕ, ◌+◌, ◌⊎◌, List, refl, sym, subst, ◌∙◌, inl, inr, arith}
use Rattle.std.specs.Prelude.{Result, Err, IsTrue}
use Rattle.pm_types.specs.declared.page_id.PageId.{PageId}
use Rattle.pm_types.specs.declared.fault.PageFault.{PageFault}
use Rattle.pm_types.specs.declared.fault.PageFault.TheVariants.{BadPage}
use Rattle.pm_pages.specs.Paged.{Paged, IsBadPage, HasPageCause}
use Rattle.pm_pages.specs.Edits.{LooksAtPages, EditsPages, HasDiskCause}
use Rattle.pm_pages.proofs.EditedPages.{edits_looked, edits_then, edits_more, looks_at_none}
use Rattle.pm_tree.specs.Roots.{HasTreePutCause}
use Rattle.pm_tree_del.specs.Causes.{HasRemoveCause}
use Rattle.pm_free.specs.Causes.{HasChainCause}
use Rattle.pm_free.proofs.ChainCauses.{err_passed}
use Rattle.pm_part.specs.Entries.{HasEntry}
use Rattle.pm_part.specs.Ways.{HasWayCause}
use Rattle.pm_part.specs.Faults.{IsFaultAfter, HasPartCause, IsFaultOfGet, IsFaultOfRelink, IsFaultOfPut, IsFaultOfRemove}

-- the fault is there from the first moment on
pub fault_now : (T : Type 0) (a : Paged) (F : Paged → PageId → Type 0) (id : PageId) → F a id → IsFaultAfter T a F id
fault_now T a F id fault = record { between = a; most = 0; edits = edits_looked T a a (λ j. IsTrue (a.asked j)) 0 (looks_at_none T a); is = fault }

pub cause_passed : {R S : Type 0} (T : Type 0) (a d : Paged) (F : Paged → PageId → Type 0) (r : Result R PageFault) (s : Result S PageFault) (f e : PageFault) → r ≡ Err f → s ≡ Err e → e ≡ f → HasPartCause T a d F r → HasPartCause T a d F s
cause_passed T a d F r s f e is_r is_s same cause = record {
  failed = λ h. cause.failed (err_passed r s f e is_r is_s same _ h);
  bad = λ id h. cause.bad id (err_passed r s f e is_r is_s same (BadPage id) h);
}

-- a fault that is another one too
pub cause_weaker : {R : Type 0} (T : Type 0) (a d : Paged) (F G : Paged → PageId → Type 0) (r : Result R PageFault) → ((moment : Paged) (id : PageId) → F moment id → G moment id) → HasPartCause T a d F r → HasPartCause T a d G r
cause_weaker T a d F G r weaker cause = record {
  failed = cause.failed;
  bad = λ id h. (let f = cause.bad id h in record { between = f.between; most = f.most; edits = f.edits; is = weaker f.between id f.is });
}

-- after changes of pages that were asked for
pub cause_after : {R : Type 0} (T : Type 0) (a b d : Paged) (m : ℕ) (F : Paged → PageId → Type 0) (r : Result R PageFault) → EditsPages T a b (λ j. IsTrue (b.asked j)) m → HasPartCause T b d F r → HasPartCause T a d F r
cause_after T a b d m F r edits cause = record {
  failed = λ h. omega (arith, cause.failed h, edits.same.faults);
  bad = λ id h. (let f = cause.bad id h in record {
    between = f.between;
    most = m + f.most;
    edits = edits_more T a f.between (λ j. IsTrue (b.asked j) ⊎ IsTrue (f.between.asked j)) (λ j. IsTrue (f.between.asked j)) (m + f.most) (m + f.most) (λ j z. elim z [ inl e ↦ f.edits.asked j e | inr e ↦ e ]) (omega arith)
        (edits_then T a b f.between (λ j. IsTrue (b.asked j)) (λ j. IsTrue (f.between.asked j)) m f.most edits f.edits);
    is = f.is;
  });
}

pub cause_looked : {R : Type 0} (T : Type 0) (a b d : Paged) (m : ℕ) (F : Paged → PageId → Type 0) (r : Result R PageFault) → LooksAtPages T a b m → HasPartCause T b d F r → HasPartCause T a d F r
cause_looked T a b d m F r looks cause = cause_after T a b d m F r (edits_looked T a b (λ j. IsTrue (b.asked j)) m looks) cause

pub cause_disk : {R : Type 0} (T : Type 0) (a d : Paged) (F : Paged → PageId → Type 0) (r : Result R PageFault) → HasDiskCause a d.faults r → HasPartCause T a d F r
cause_disk T a d F r disk = record { failed = disk.failed; bad = λ id h. absurd (disk.not_bad id h) }

-- a page was bad
pub cause_page : {R : Type 0} (T : Type 0) (a d : Paged) (F : Paged → PageId → Type 0) (i : ℕ) (r : Result R PageFault) → ((id : PageId) → IsBadPage T a i id → F a id) → HasPageCause T a d.faults i r → HasPartCause T a d F r
cause_page T a d F i r fault cause = record { failed = cause.failed; bad = λ id h. fault_now T a F id (fault id (cause.bad id h)) }

-- an error that names a page
pub cause_named : {R : Type 0} (T : Type 0) (a d : Paged) (F : Paged → PageId → Type 0) (id : PageId) (r : Result R PageFault) → r ≡ Err (BadPage id) → F a id → HasPartCause T a d F r
cause_named T a d F id r is fault = record {
  failed = λ h. absurd (cc (is, h));
  bad = λ other h. (let same : id ≡ other = cc (sym is ∙ h) in fault_now T a F other (subst (F a) same fault));
}

-- something is wrong on the way of a key
pub cause_way : {R : Type 0} (T : Type 0) (a d : Paged) (cache : ℕ) (key : List ℕ) (r : Result R PageFault) → HasWayCause T a d cache key r → HasPartCause T a d (IsFaultOfGet T d cache key) r
cause_way T a d cache key r cause = record { failed = cause.failed; bad = λ id h. fault_now T a (IsFaultOfGet T d cache key) id (inl (cause.bad id h)) }

-- what a get meets, a put and a removal do
pub cause_get_put : {R : Type 0} (T : Type 0) (a d : Paged) (cache : ℕ) (key : List ℕ) (r : Result R PageFault) → HasPartCause T a d (IsFaultOfGet T d cache key) r → HasPartCause T a d (IsFaultOfPut T d cache key) r
cause_get_put T a d cache key r cause = cause_weaker T a d (IsFaultOfGet T d cache key) (IsFaultOfPut T d cache key) r (λ moment id f. inl f) cause

pub cause_get_remove : {R : Type 0} (T : Type 0) (a d : Paged) (cache : ℕ) (key : List ℕ) (r : Result R PageFault) → HasPartCause T a d (IsFaultOfGet T d cache key) r → HasPartCause T a d (IsFaultOfRemove T d cache key) r
cause_get_remove T a d cache key r cause = cause_weaker T a d (IsFaultOfGet T d cache key) (IsFaultOfRemove T d cache key) r (λ moment id f. inl f) cause

-- the meta page was bad
pub cause_meta_put : {R : Type 0} (T : Type 0) (a d : Paged) (cache : ℕ) (key : List ℕ) (r : Result R PageFault) → HasPageCause T a d.faults 0 r → HasPartCause T a d (IsFaultOfPut T d cache key) r
cause_meta_put T a d cache key r cause = cause_page T a d (IsFaultOfPut T d cache key) 0 r (λ id bad. inl (inl (inl (record { at = 0; on_way = inl refl; bad = bad })))) cause

pub cause_chain_put : {R : Type 0} (T : Type 0) (a d : Paged) (cache : ℕ) (key : List ℕ) (r : Result R PageFault) → HasChainCause T a d r → HasPartCause T a d (IsFaultOfPut T d cache key) r
cause_chain_put T a d cache key r cause = record { failed = cause.failed; bad = λ id h. fault_now T a (IsFaultOfPut T d cache key) id (inr (inr (inl (cause.bad id h)))) }

pub cause_chain_remove : {R : Type 0} (T : Type 0) (a d : Paged) (cache : ℕ) (key : List ℕ) (r : Result R PageFault) → HasChainCause T a d r → HasPartCause T a d (IsFaultOfRemove T d cache key) r
cause_chain_remove T a d cache key r cause = record { failed = cause.failed; bad = λ id h. fault_now T a (IsFaultOfRemove T d cache key) id (inr (inl (cause.bad id h))) }

pub cause_put : {R : Type 0} (T : Type 0) (a d : Paged) (cache : ℕ) (key : List ℕ) (r : Result R PageFault) → HasTreePutCause T a d cache r → HasPartCause T a d (IsFaultOfPut T d cache key) r
cause_put T a d cache key r cause = record {
  failed = cause.failed;
  bad = λ id h. fault_now T a (IsFaultOfPut T d cache key) id (inr (inr (inr (cause.bad id h))));
}

pub cause_remove : {R : Type 0} (T : Type 0) (a d : Paged) (cache : ℕ) (key : List ℕ) (r : Result R PageFault) → HasRemoveCause T a d cache r → HasPartCause T a d (IsFaultOfRemove T d cache key) r
cause_remove T a d cache key r cause = record { failed = cause.failed; bad = λ id h. fault_now T a (IsFaultOfRemove T d cache key) id (inr (inr (cause.bad id h))) }

-- a link was to be set, before which other pages changed, of a key that was there
pub cause_relinked : {R : Type 0} (T : Type 0) (a b d : Paged) (m cache : ℕ) (key : List ℕ) (r : Result R PageFault) → EditsPages T a b (λ j. IsTrue (b.asked j)) m → HasEntry a cache key → HasPartCause T b d (IsFaultOfRelink T d cache key) r → HasPartCause T a d (IsFaultOfPut T d cache key) r
cause_relinked T a b d m cache key r edits had cause = record {
  failed = λ h. omega (arith, cause.failed h, edits.same.faults);
  bad = λ id h. (let f = (cause_after T a b d m (IsFaultOfRelink T d cache key) r edits cause).bad id h in elim f.is [
    | inl way ↦ record { between = f.between; most = f.most; edits = f.edits; is = inl (inl way) }
    | inr lacks ↦ fault_now T a (IsFaultOfPut T d cache key) id (inr (inl (record { had = had; lacks = lacks })))
  ]);
}
