-- Why a call on chains failed, after other calls.
use Rattle.std.proofs.Common.{◌≡◌, ◌≢◌, ℕ, ◌+◌, ◌<◌, ◌≤◌, ◌⊎◌, sym, ap, ◌∙◌, inl, inr, arith}
use Rattle.std.specs.Prelude.{Result, Err, IsErrOf, IsTrue}
use Rattle.pm_types.specs.Ids.{page_id}
use Rattle.pm_types.specs.declared.page_id.PageId.{PageId}
use Rattle.pm_types.specs.declared.fault.PageFault.{PageFault}
use Rattle.pm_types.specs.declared.fault.PageFault.TheVariants.{BadPage}
use Rattle.pm_meta.specs.declared.slots.MetaSlot.TheVariants.{Bucket, Pages}
use Rattle.pm_pages.specs.Paged.{Paged, HasPageCause}
use Rattle.pm_pages.specs.Edits.{LooksAtPages, EditsPages, IsNumberIn, HasDiskCause}
use Rattle.pm_pages.proofs.EditedPages.{edits_looked, edits_then, edits_more, looks_at_none, looks_then}
use Rattle.pm_pages.proofs.TakenPages.{number_looked, number_of}
use Rattle.pm_free.specs.declared.seats.Seat.{Seat}
use Rattle.pm_free.specs.DataEdits.{IsDataAt}
use Rattle.pm_free.specs.Seats.{IsSeatIn, IsNoDataIn}
use Rattle.pm_free.specs.Causes.{Names, IsHeadOf, IsChainFault, IsChainFaultAfter, HasChainCause}
use Rattle.pm_free.proofs.Changed.{in_other}

-- the error of a call that another one passes on
pub err_passed : {R S : Type 0} (r : Result R PageFault) (s : Result S PageFault) (f e : PageFault) → r ≡ Err f → s ≡ Err e → e ≡ f → (x : PageFault) → IsErrOf s x → IsErrOf r x
err_passed r s f e is_r is_s same x h = (let h2 : e ≡ x = cc (sym is_s ∙ h) in is_r ∙ ap (λ (x : PageFault). Err x) (sym same ∙ h2))

pub cause_passed : {R S : Type 0} (T : Type 0) (a c : Paged) (r : Result R PageFault) (s : Result S PageFault) (f e : PageFault) → r ≡ Err f → s ≡ Err e → e ≡ f → HasChainCause T a c r → HasChainCause T a c s
cause_passed T a c r s f e is_r is_s same cause = record {
  failed = λ h. cause.failed (err_passed r s f e is_r is_s same _ h);
  bad = λ id h. cause.bad id (err_passed r s f e is_r is_s same (BadPage id) h);
}

-- after changes of pages that were asked for
pub cause_after : {R : Type 0} (T : Type 0) (a b c : Paged) (m : ℕ) (r : Result R PageFault) → EditsPages T a b (λ j. IsTrue (b.asked j)) m → HasChainCause T b c r → HasChainCause T a c r
cause_after T a b c m r edits cause = record {
  failed = λ h. omega (arith, cause.failed h, edits.same.faults);
  bad = λ id h. (let after = cause.bad id h in record {
    between = after.between;
    most = m + after.most;
    edits = edits_more T a after.between (λ j. IsTrue (b.asked j) ⊎ IsTrue (after.between.asked j)) (λ j. IsTrue (after.between.asked j)) (m + after.most) (m + after.most)
        (λ j z. elim z [ inl e ↦ after.edits.asked j e | inr e ↦ e ]) (omega arith)
        (edits_then T a b after.between (λ j. IsTrue (b.asked j)) (λ j. IsTrue (after.between.asked j)) m after.most edits after.edits);
    fault = after.fault;
  });
}

pub cause_looked : {R : Type 0} (T : Type 0) (a b c : Paged) (m : ℕ) (r : Result R PageFault) → LooksAtPages T a b m → HasChainCause T b c r → HasChainCause T a c r
cause_looked T a b c m r looks cause = cause_after T a b c m r (edits_looked T a b (λ j. IsTrue (b.asked j)) m looks) cause

pub cause_disk : {R : Type 0} (T : Type 0) (a c : Paged) (r : Result R PageFault) → HasDiskCause a c.faults r → HasChainCause T a c r
cause_disk T a c r disk = record { failed = disk.failed; bad = λ id h. absurd (disk.not_bad id h) }

-- the fault is there now
pub fault_now : (T : Type 0) (a : Paged) (id : PageId) → IsChainFault T a id → IsChainFaultAfter T a id
fault_now T a id fault = record { between = a; most = 0; edits = edits_looked T a a (λ j. IsTrue (a.asked j)) 0 (looks_at_none T a); fault = fault }

-- the fault is there after looks
pub fault_looked : (T : Type 0) (a b : Paged) (m : ℕ) (id : PageId) → LooksAtPages T a b m → IsChainFault T b id → IsChainFaultAfter T a id
fault_looked T a b m id looks fault = record { between = b; most = m; edits = edits_looked T a b (λ j. IsTrue (b.asked j)) m looks; fault = fault }

-- what a page names it names after looks
pub names_looked : (T : Type 0) (a b : Paged) (m from at : ℕ) → LooksAtPages T a b m → Names a from at → Names b from at
names_looked T a b m from at looks names = elim names [
  | inl head ↦ inl (head.0, head.1, record { few = head.2.few; is = number_looked T a b m (Bucket head.1) at looks head.2.is })
  | inr beside ↦ inr (record { page = beside.page; is = in_other T a b (λ j. ⊥) m from beside.page (edits_looked T a b (λ j. ⊥) m looks) (λ h. h) beside.is; names = beside.names })
]

-- a page that is named is bad
pub named_bad : {R : Type 0} (T : Type 0) (a b c : Paged) (m from at : ℕ) (r : Result R PageFault) → LooksAtPages T a b m → Names a from at → HasPageCause T b c.faults at r → HasChainCause T a c r
named_bad T a b c m from at r looks names cause = record {
  failed = λ h. omega (arith, cause.failed h, looks.same.faults);
  bad = λ id h. fault_looked T a b m id looks (inr (inl (record { from = from; at = at; names = names_looked T a b m from at looks names; bad = cause.bad id h })));
}

-- a page that is named is no data page
pub named_other : {R : Type 0} (T : Type 0) (a b c : Paged) (m n from at count part : ℕ) (r : Result R PageFault) → LooksAtPages T a b m → LooksAtPages T b c n → Names a from at → IsNumberIn b Pages count → IsNoDataIn c count at → part ≡ c.part → r ≡ Err (BadPage (page_id part from)) → HasChainCause T a c r
named_other T a b c m n from at count part r x y names number wrong part_is is =
    let looks = looks_then T a b c m n x y in
    record {
      failed = λ h. (let no = sym is ∙ h in absurd (cc no));
      bad = λ id h. (let same : page_id part from ≡ id = cc (sym is ∙ h) in fault_looked T a c (m + n) id looks (inl (record {
        from = from;
        at = at;
        name = sym same ∙ ap (λ k. page_id k from) part_is;
        names = names_looked T a c (m + n) from at looks names;
        count = count;
        count_is = number_looked T b c n Pages count y number;
        wrong = wrong;
      })));
    }

-- a page that was found
pub found_data : (T : Type 0) (b c : Paged) (n at count : ℕ) (seat : Seat) → 1 ≤ at → LooksAtPages T b c n → IsNumberIn b Pages count → at < count → IsSeatIn c at seat → IsDataAt c at
found_data T b c n at count seat some looks number lt is = record {
  some = some;
  below = λ k there. (let same = number_looked T b c n Pages count looks number in omega (arith, lt, number_of c Pages count there.meta same there.in_hand.page, there.is));
  page = is.page;
  is = is.is;
}

-- the first page of a bucket is of another bucket
pub wrong_head : {R : Type 0} (T : Type 0) (a c : Paged) (m bucket at part : ℕ) (seat : Seat) (r : Result R PageFault) → LooksAtPages T a c m → IsHeadOf a bucket at → IsSeatIn c at seat → seat.bucket ≢ bucket → part ≡ c.part → r ≡ Err (BadPage (page_id part 0)) → HasChainCause T a c r
wrong_head T a c m bucket at part seat r looks head seat_is other part_is is = record {
  failed = λ h. (let no = sym is ∙ h in absurd (cc no));
  bad = λ id h. (let same : page_id part 0 ≡ id = cc (sym is ∙ h) in fault_looked T a c m id looks (inr (inr (inl (record {
    name = sym same ∙ ap (λ k. page_id k 0) part_is;
    bucket = bucket;
    at = at;
    head = record { few = head.few; is = number_looked T a c m (Bucket bucket) at looks head.is };
    page = seat_is.page;
    is = seat_is.is;
    other = λ e. other (seat_is.says.room ∙ e);
  })))));
}
