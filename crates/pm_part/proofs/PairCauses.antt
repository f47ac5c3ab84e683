-- Why the pairs of a cache can't be read: causes that are passed on, after pages that were read before.
use Rattle.std.proofs.Common.{◌≡◌, ℕ, ◌<◌, ◌⊎◌, List, refl, sym, ap, subst, ◌∙◌, inl, inr, arith}
use Rattle.std.specs.Prelude.{Result, Err, IsErrOf}
use Rattle.pm_types.specs.declared.page_id.PageId.{PageId}
use Rattle.pm_types.specs.declared.place.Place.{Place}
use Rattle.pm_types.specs.declared.page_id.Link.{Link}
use Rattle.pm_types.specs.declared.fault.PageFault.{PageFault}
use Rattle.pm_types.specs.declared.fault.PageFault.TheVariants as page
use Rattle.pm_types.specs.declared.fault.StoreFault.{StoreFault}
use Rattle.pm_types.specs.declared.fault.StoreFault.TheVariants as store
use Rattle.pm_types.specs.Faults.{store_fault_of}
use Rattle.pm_types.specs.Ids.{page_id}
use Rattle.pm_pages.specs.Paged.{Paged, NoneLent, HasPageCause}
use Rattle.pm_pages.specs.Edits.{HasDiskCause}
use Rattle.pm_part.specs.Reads.{ReadsPages}
use Rattle.pm_part.specs.PairFaults.{WasBad, WasBadAt, IsPairsFault, HasReadCause, HasPageReadCause, HasPairsCause}
use Rattle.pm_part.specs.declared.spots.Spot.{Spot}
use Rattle.pm_part.specs.Spots.{LeadsTo}
use Rattle.pm_part.specs.PairReads.{ReadPair, HadPair}
use Rattle.pm_part.proofs.ReadOn.{failed_of, reads_none, reads_then}

store_err : {R S : Type 0} (r : Result R StoreFault) (s : Result S StoreFault) (f e : StoreFault) → r ≡ Err f → s ≡ Err e → e ≡ f → (x : StoreFault) → IsErrOf s x → IsErrOf r x
store_err r s f e is_r is_s same x h = (let h2 : e ≡ x = cc (sym is_s ∙ h) in is_r ∙ ap (λ (y : StoreFault). Err y) (sym same ∙ h2))

page_err : {R S : Type 0} (r : Result R PageFault) (s : Result S PageFault) (f e : PageFault) → r ≡ Err f → s ≡ Err e → e ≡ f → (x : PageFault) → IsErrOf s x → IsErrOf r x
page_err r s f e is_r is_s same x h = (let h2 : e ≡ x = cc (sym is_s ∙ h) in is_r ∙ ap (λ (y : PageFault). Err y) (sym same ∙ h2))

bad_of : (fault : PageFault) (id : PageId) → store_fault_of fault ≡ store.BadPage id → fault ≡ page.BadPage id
bad_of page.Failed id e = absurd (cc e)
bad_of (page.BadPage other) id e = (let same : other ≡ id = cc e in ap (λ i. page.BadPage i) same)

no_record_of : (fault : PageFault) (place : Place) → store_fault_of fault ≡ store.BadRecord place → ⊥
no_record_of page.Failed place e = absurd (cc e)
no_record_of (page.BadPage id) place e = absurd (cc e)

-- A fault that is passed on, after pages that were read before. What the fault is there, it is here.
abbrev pub Weaker : Type 0 → Paged → (Paged → PageId → Type 0) → (Paged → PageId → Type 0) → Type 0
Weaker T a F G = (start : Paged) → ReadsPages T start a → (id : PageId) → F start id → G start id

pub cause_on : {R S : Type 0} (T : Type 0) (a b d : Paged) (F G : Paged → PageId → Type 0) (r : Result R StoreFault) (s : Result S StoreFault) (f e : StoreFault) → r ≡ Err f → s ≡ Err e → e ≡ f → ReadsPages T a b → Weaker T a F G → HasReadCause T b d F r → HasReadCause T a d G s
cause_on T a b d F G r s f e is_r is_s same reads weaker cause = record {
  failed = λ h. omega (arith, cause.failed (store_err r s f e is_r is_s same store.Failed h), reads.same.faults);
  bad = λ start since id h.
      let since' = reads_then T start a b since reads in
      weaker start since id (cause.bad start since' id (store_err r s f e is_r is_s same (store.BadPage id) h));
  no_record = λ place h. cause.no_record place (store_err r s f e is_r is_s same (store.BadRecord place) h);
}

pub page_cause_on : {R S : Type 0} (T : Type 0) (a b d : Paged) (F G : Paged → PageId → Type 0) (r : Result R PageFault) (s : Result S PageFault) (f e : PageFault) → r ≡ Err f → s ≡ Err e → e ≡ f → ReadsPages T a b → Weaker T a F G → HasPageReadCause T b d F r → HasPageReadCause T a d G s
page_cause_on T a b d F G r s f e is_r is_s same reads weaker cause = record {
  failed = λ h. omega (arith, cause.failed (page_err r s f e is_r is_s same page.Failed h), reads.same.faults);
  bad = λ start since id h.
      let since' = reads_then T start a b since reads in
      weaker start since id (cause.bad start since' id (page_err r s f e is_r is_s same (page.BadPage id) h));
}

-- a page's fault, as the store reports it
pub store_cause_on : {R S : Type 0} (T : Type 0) (a b d : Paged) (F G : Paged → PageId → Type 0) (r : Result R PageFault) (s : Result S StoreFault) (f : PageFault) (e : StoreFault) → r ≡ Err f → s ≡ Err e → e ≡ store_fault_of f → ReadsPages T a b → Weaker T a F G → HasPageReadCause T b d F r → HasReadCause T a d G s
store_cause_on T a b d F G r s f e is_r is_s same reads weaker cause =
    let is : (x : StoreFault) → IsErrOf s x → store_fault_of f ≡ x = λ x h. (let h2 : e ≡ x = cc (sym is_s ∙ h) in sym same ∙ h2) in
    record {
      failed = λ h. omega (arith, cause.failed (is_r ∙ ap (λ (y : PageFault). Err y) (failed_of f (is store.Failed h))), reads.same.faults);
      bad = λ start since id h.
          let since' = reads_then T start a b since reads in
          weaker start since id (cause.bad start since' id (is_r ∙ ap (λ (y : PageFault). Err y) (bad_of f id (is (store.BadPage id) h))));
      no_record = λ place h. no_record_of f place (is (store.BadRecord place) h);
    }

-- the result of a call, passed on as it is
pub cause_same : {R : Type 0} (T : Type 0) (a b d : Paged) (F G : Paged → PageId → Type 0) (r : Result R StoreFault) → ReadsPages T a b → Weaker T a F G → HasReadCause T b d F r → HasReadCause T a d G r
cause_same T a b d F G r reads weaker cause = record {
  failed = λ h. omega (arith, cause.failed h, reads.same.faults);
  bad = λ start since id h. weaker start since id (cause.bad start (reads_then T start a b since reads) id h);
  no_record = cause.no_record;
}

-- an error that names a page
pub cause_named : {R : Type 0} (T : Type 0) (a d : Paged) (G : Paged → PageId → Type 0) (id : PageId) (s : Result R StoreFault) → s ≡ Err (store.BadPage id) → ((start : Paged) → ReadsPages T start a → G start id) → HasReadCause T a d G s
cause_named T a d G id s is fault = record {
  failed = λ h. absurd (cc (is, h));
  bad = λ start since other h. (let same : id ≡ other = cc (sym is ∙ h) in subst (G start) same (fault start since));
  no_record = λ place h. absurd (cc (is, h));
}

pub page_cause_named : {R : Type 0} (T : Type 0) (a d : Paged) (G : Paged → PageId → Type 0) (id : PageId) (s : Result R PageFault) → s ≡ Err (page.BadPage id) → ((start : Paged) → ReadsPages T start a → G start id) → HasPageReadCause T a d G s
page_cause_named T a d G id s is fault = record {
  failed = λ h. absurd (cc (is, h));
  bad = λ start since other h. (let same : id ≡ other = cc (sym is ∙ h) in subst (G start) same (fault start since));
}

-- a bad page below the page count
pub bad_below : (T : Type 0) (start : Paged) (count i : ℕ) (id : PageId) → i < count → WasBadAt T start i id → WasBad T start count id
bad_below T start count i id below is = record { i = i; below = inr below; is = is }

-- the value of a row that a link names
pub had_pair : (T : Type 0) (start a : Paged) (part count cache : ℕ) (at_link : Link) (key : List ℕ) (spot : Spot) (pair : List ℕ × List ℕ) → ReadsPages T start a → part ≡ a.part → LeadsTo at_link part count spot → ReadPair T start spot cache key pair → HadPair T start count cache at_link key pair
had_pair T start a part count cache at_link key spot pair since part_is leads is = record { spot = spot; leads = subst (λ n. LeadsTo at_link n count spot) (part_is ∙ since.same.part) leads; is = is }

-- the meta page was bad
pub bad_meta : {R : Type 0} (T : Type 0) (b d : Paged) (r : Result R PageFault) → NoneLent b → HasPageCause T b d.faults 0 r → HasPageReadCause T b d (λ start. WasBad T start 0) r
bad_meta T b d r none cause = record { failed = cause.failed; bad = λ start since id h. record { i = 0; below = inl refl; is = record { moment = b; reads = since; bad = cause.bad id h } } }

-- no page was bad
pub disk_only : {R : Type 0} (T : Type 0) (b d : Paged) (F : Paged → PageId → Type 0) (r : Result R PageFault) → HasDiskCause b d.faults r → HasPageReadCause T b d F r
disk_only T b d F r cause = record { failed = cause.failed; bad = λ start since id h. absurd (cause.not_bad id h) }

-- as seen from the first moment
pub pairs_cause : {R : Type 0} (T : Type 0) (a d : Paged) (cache : ℕ) (r : Result R StoreFault) → NoneLent a → HasReadCause T a d (λ start id. WasBad T start 0 id ⊎ IsPairsFault T start cache id) r → HasPairsCause T a d cache r
pairs_cause T a d cache r none cause = record { failed = cause.failed; bad = λ id h. cause.bad a (reads_none T a none) id h; no_record = cause.no_record }

-- the name of a page, as the part says that it has at a later moment
pub named_at : (T : Type 0) (start a b : Paged) (part at : ℕ) (id : PageId) → ReadsPages T start a → ReadsPages T a b → part ≡ b.part → id ≡ page_id part at → id ≡ page_id start.part at
named_at T start a b part at id since reads part_is id_is = id_is ∙ ap (λ n. page_id n at) (part_is ∙ reads.same.part ∙ since.same.part)
