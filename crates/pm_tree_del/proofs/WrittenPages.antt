-- Pages that were copied, mended as copies, and written back.
use Rattle.std.proofs.Common.{◌≡◌, ◌≢◌, ℕ, ◌+◌, ◌-◌, ◌≤◌, ◌⊎◌, List, refl, sym, ap, subst, ◌∙◌, inl, inr, arith}
use Rattle.std.specs.Prelude.{Bool, None, Some, IsTrue, IfOk, OnOk, Result, Ok, Err}
use Rattle.std.proofs.lemmas.Bool.{cases_eq}
use Rattle.pm_types.specs.Ids.{page_id}
use Rattle.pm_types.specs.Spans.{Coverage}
use Rattle.pm_types.specs.declared.page_id.PageId.{PageId}
use Rattle.pm_types.specs.declared.fault.PageFault.{PageFault}
use Rattle.pm_types.specs.declared.fault.PageFault.TheVariants.{Failed, BadPage}
use Rattle.pm_meta.specs.declared.slots.MetaSlot.TheVariants.{Pages}
use Rattle.pm_meta.specs.MetaPages.{IsStoredReuse}
use Rattle.pm_btpage.specs.IndexPages.{IsIndexPage}
use Rattle.pm_types.specs.Pages.{IsNoted}
use Rattle.pm_pages.specs.Paged.{Paged, IsTold, IsInHand, IsAfterGap, HasRoomFor, HasPageCause, HasGapCause}
use Rattle.pm_pages.specs.Edits.{LooksAtPages, EditsPages, HasMeta, HasDiskCause}
use Rattle.pm_pages.specs.SparePages.{IsMetaOr, GivesPage}
use Rattle.pm_pages.proofs.EditedPages.{edits_then, edits_more, edits_looked, told_still, looks_then}
use Rattle.pm_pages.proofs.TakenPages.{bad_before, number_looked}
use Rattle.pm_tree.proofs.Descents.{in_hand_looked}
use Rattle.pm_tree_del.specs.declared.pairs.Pair.{Pair}
use Rattle.pm_tree_del.specs.declared.mends.Mend.{Mend}
use Rattle.pm_tree_del.specs.declared.mends.Mend.TheVariants.{Merged, Shared, Wrong}
use Rattle.pm_tree_del.specs.Pairs.{IsPairOf, IsPairIn, MayMend, CanMend}
use Rattle.pm_tree_del.specs.Copies.{IsCopyOf, TakesBytes}
use Rattle.pm_tree_del.specs.Given.{IsGiven}
use Rattle.pm_tree_del.specs.Mending.{IsOfFamily, MergesPages, SharesPages, IsWritten, IsFamily, MendsCopies, MendsPair, MendsChild, IsWrongFor, HasMendCause}

-- a page that another's change leaves as it was takes its bytes still
pub takes_after : (T : Type 0) (a b : Paged) (k i : ℕ) (bytes : List ℕ) (patch : Coverage) → i ≢ k → EditsPages T a b (λ j. j ≡ k) 0 → TakesBytes a i bytes patch → TakesBytes b i bytes patch
takes_after T a b k i bytes patch ne edits takes = record {
  some = takes.some;
  was = takes.was;
  in_hand = record { known = edits.known i takes.in_hand.known; asked = edits.asked i takes.in_hand.asked; page = edits.others i (inr takes.in_hand.known) ne ∙ takes.in_hand.page };
  well_made = takes.well_made;
  size = takes.size ∙ sym edits.same.page_size;
  patch_size = takes.patch_size ∙ sym edits.same.page_size;
  outside = takes.outside;
}

pub shares_pages : (T : Type 0) (a b c d : Paged) (at : ℕ) (pair : Pair) (parent left right : List ℕ) (p1 p2 p3 : Coverage) → CanMend a at pair → TakesBytes a pair.left left p1 → TakesBytes a pair.right right p2 → TakesBytes a at parent p3
    → EditsPages T a b (λ j. j ≡ pair.left) 0 → b.pages pair.left ≡ Some left → EditsPages T b c (λ j. j ≡ pair.right) 0 → c.pages pair.right ≡ Some right → EditsPages T c d (λ j. j ≡ at) 0 → d.pages at ≡ Some parent → SharesPages T a d at pair parent left right 0
shares_pages T a b c d at pair parent left right p1 p2 p3 can t1 t2 t3 e1 w1 e2 w2 e3 w3 = record {
  edits = edits_more T a d (λ j. ((j ≡ pair.left) ⊎ (j ≡ pair.right)) ⊎ (j ≡ at)) (IsOfFamily at pair) (0 + 0 + 0) 0 (λ j h. elim h [ inl x ↦ elim x [ inl z ↦ inl z | inr z ↦ inr (inl z) ] | inr z ↦ inr (inr z) ]) (omega arith)
      (edits_then T a c d (λ j. (j ≡ pair.left) ⊎ (j ≡ pair.right)) (λ j. j ≡ at) (0 + 0) 0 (edits_then T a b c (λ j. j ≡ pair.left) (λ j. j ≡ pair.right) 0 0 e1 e2) e3);
  parent_now = w3;
  left_now = e3.others pair.left (inr (e2.known pair.left (e1.known pair.left t1.in_hand.known))) can.may.left_other ∙ e2.others pair.left (inr (e1.known pair.left t1.in_hand.known)) can.may.two ∙ w1;
  right_now = e3.others pair.right (inr (e2.known pair.right (e1.known pair.right t2.in_hand.known))) can.may.right_other ∙ w2;
}

-- the page was given back, of which the budget had room
pub gives_again : (T : Type 0) (c d : Paged) (i : ℕ) → IsTrue (c.asked i) → GivesPage T c d i → (IsTrue (c.asked i) → c.spare ≤ d.spare) → EditsPages T c d (IsMetaOr i) 0
gives_again T c d i asked gives again =
    let x = gives.edits in
    record { others = x.others; known = x.known; asked = x.asked; lent = x.lent; covers = x.covers; covered = x.covered; spare = omega (arith, again asked); same = x.same }

-- it was given back after other pages were changed
pub given_after : (T : Type 0) (a c d : Paged) (touched : ℕ → Type 0) (m i : ℕ) → HasMeta a → EditsPages T a c touched m → (touched 0 → ⊥) → GivesPage T c d i → IsGiven a d i
given_after T a c d touched m i meta edits out gives = record {
  page = gives.page;
  here = gives.here;
  size = gives.size ∙ edits.same.page_size;
  stored = subst (λ n. IsStoredReuse (page_id n i) gives.page) edits.same.part gives.stored;
  meta = gives.meta;
  numbers = record {
    was = gives.numbers.was;
    now = gives.numbers.now;
    before = sym (edits.others 0 (inr meta.known) out) ∙ gives.numbers.before;
    after = gives.numbers.after;
    change = gives.numbers.change;
  };
}

pub merges_pages : (T : Type 0) (a b c d : Paged) (at : ℕ) (pair : Pair) (parent left : List ℕ) (p1 p3 : Coverage) → HasMeta a → CanMend a at pair → IsTrue (a.asked pair.right) → TakesBytes a pair.left left p1 → TakesBytes a at parent p3
    → EditsPages T a b (λ j. j ≡ pair.left) 0 → b.pages pair.left ≡ Some left → EditsPages T b c (λ j. j ≡ at) 0 → c.pages at ≡ Some parent → GivesPage T c d pair.right → (IsTrue (c.asked pair.right) → c.spare ≤ d.spare) → MergesPages T a d at pair parent left 0
merges_pages T a b c d at pair parent left p1 p3 meta can asked t1 t3 e1 w1 e2 w2 gives again =
    let asked_c : IsTrue (c.asked pair.right) = e2.asked pair.right (e1.asked pair.right asked) in
    let e3 = gives_again T c d pair.right asked_c gives again in
    let e12 = edits_then T a b c (λ j. j ≡ pair.left) (λ j. j ≡ at) 0 0 e1 e2 in
    record {
      edits = edits_more T a d (λ j. ((j ≡ pair.left) ⊎ (j ≡ at)) ⊎ IsMetaOr pair.right j) (λ j. (j ≡ 0) ⊎ IsOfFamily at pair j) (0 + 0 + 0) 0
          (λ j h. elim h [ inl x ↦ elim x [ inl z ↦ inr (inl z) | inr z ↦ inr (inr (inr z)) ] | inr x ↦ elim x [ inl z ↦ inl z | inr z ↦ inr (inr (inl z)) ] ]) (omega arith)
          (edits_then T a c d (λ j. (j ≡ pair.left) ⊎ (j ≡ at)) (IsMetaOr pair.right) (0 + 0) 0 e12 e3);
      parent_now = e3.others at (inr (e2.known at (e1.known at t3.in_hand.known))) (λ h. elim h [ inl z ↦ omega (arith, z, t3.some) | inr z ↦ can.may.right_other (sym z) ]) ∙ w2;
      left_now = e3.others pair.left (inr (e2.known pair.left (e1.known pair.left t1.in_hand.known))) (λ h. elim h [ inl z ↦ omega (arith, z, t1.some) | inr z ↦ can.may.two z ])
          ∙ e2.others pair.left (inr (e1.known pair.left t1.in_hand.known)) can.may.left_other ∙ w1;
      gives = given_after T a c d (λ j. (j ≡ pair.left) ⊎ (j ≡ at)) (0 + 0) pair.right meta e12 (λ h. elim h [ inl z ↦ omega (arith, z, t1.some) | inr z ↦ omega (arith, z, t3.some) ]) gives;
    }

-- a page was written and passed on an error of the disk
pub disk_after : {R S : Type 0} (a b d : Paged) (r : Result R PageFault) (s : Result S PageFault) (f e : PageFault) → r ≡ Err f → s ≡ Err e → e ≡ f → a.faults ≤ b.faults → HasDiskCause b d.faults r → HasDiskCause a d.faults s
disk_after a b d r s f e is_r is_s same le cause = record {
  failed = λ h. (let h2 : e ≡ Failed = cc (sym is_s ∙ h) in omega (arith, le, cause.failed (is_r ∙ ap (λ (x : PageFault). Err x) (sym same ∙ h2))));
  not_bad = λ id h. (let h2 : e ≡ BadPage id = cc (sym is_s ∙ h) in cause.not_bad id (is_r ∙ ap (λ (x : PageFault). Err x) (sym same ∙ h2)));
}

pub disk_later : {R : Type 0} (a b d : Paged) (r : Result R PageFault) → a.faults ≤ b.faults → HasDiskCause b d.faults r → HasDiskCause a d.faults r
disk_later a b d r le cause = record { failed = λ h. omega (arith, le, cause.failed h); not_bad = cause.not_bad }

-- the page before one that is given back isn't there, and wasn't before others were written that are there
pub gap_after : {R : Type 0} (T : Type 0) (a b c d : Paged) (at left i : ℕ) (page bytes : List ℕ) (r : Result R PageFault) → EditsPages T a b (λ j. j ≡ left) 0 → EditsPages T b c (λ j. j ≡ at) 0 → IsTrue (a.known left) → IsTrue (a.known at) → b.pages left ≡ Some bytes → c.pages at ≡ Some page → left ≢ at → HasGapCause T c d.faults i r → HasGapCause T a d.faults i r
gap_after T a b c d at left i page bytes r e1 e2 known_left known_at w1 w2 ne cause = record {
  failed = λ h. omega (arith, e1.same.faults, e2.same.faults, cause.failed h);
  bad = λ id h.
      let gap = cause.bad id h in
      let there : (j : ℕ) → IsTold T a j → c.pages j ≡ None → a.pages j ≡ None = λ j told none. elim (cases_eq j at) [
        | inl z ↦ absurd (let q = sym (ap c.pages z ∙ w2) ∙ none in cc q)
        | inr nat ↦ elim (cases_eq j left) [
          | inl z ↦ absurd (let q = sym (e2.others j (told_still T a b j (e1.known j) told) nat ∙ ap b.pages z ∙ w1) ∙ none in cc q)
          | inr nleft ↦ sym (e1.others j told nleft) ∙ sym (e2.others j (told_still T a b j (e1.known j) told) nat) ∙ none
        ]
      ] in
      record {
        later = gap.later;
        name = gap.name ∙ ap (λ n. page_id n (i - 1)) (e2.same.part ∙ e1.same.part);
        absent = λ told. there (i - 1) told (gap.absent (told_still T b c (i - 1) (e2.known (i - 1)) (told_still T a b (i - 1) (e1.known (i - 1)) told)));
      };
}

-- the pair of a page of which these are the bytes
pub pair_of_copy : (a : Paged) (at : ℕ) (pair : Pair) (parent : List ℕ) (can : CanMend a at pair) → IsCopyOf a at parent → IsPairOf parent can.i pair
pair_of_copy a at pair parent can copy = (let e : can.page ≡ parent = cc (can.in_hand.page, copy.in_hand.page) in subst (λ (q : List ℕ). IsPairOf q can.i pair) e can.is)

-- a copy that was changed can be written back
pub takes_copy : (p : Paged) (i : ℕ) (bytes bytes' : List ℕ) (before patch : Coverage) → 1 ≤ i → IsCopyOf p i bytes → IsIndexPage bytes' → before.page_size ≡ p.page_size → IsNoted before patch bytes bytes' → TakesBytes p i bytes' patch
takes_copy p i bytes bytes' before patch some copy page size noted = record {
  some = some;
  was = bytes;
  in_hand = copy.in_hand;
  well_made = page;
  size = noted.outside.size ∙ copy.size;
  patch_size = noted.size ∙ size;
  outside = noted.outside;
}

-- the pages at hand, after others were looked at
pub copy_looked : (T : Type 0) (a b : Paged) (m i : ℕ) (bytes : List ℕ) → LooksAtPages T a b m → IsCopyOf a i bytes → IsCopyOf b i bytes
copy_looked T a b m i bytes looks copy = record { in_hand = in_hand_looked T a b m i bytes looks copy.in_hand; size = copy.size ∙ sym looks.same.page_size; readable = copy.readable }

pub can_looked : (T : Type 0) (a b : Paged) (m at : ℕ) (pair : Pair) → LooksAtPages T a b m → CanMend a at pair → CanMend b at pair
can_looked T a b m at pair looks can = record {
  some = can.some;
  page = can.page;
  in_hand = in_hand_looked T a b m at can.page looks can.in_hand;
  i = can.i;
  is = can.is;
  count = can.count;
  number = number_looked T a b m Pages can.count looks can.number;
  child = can.child;
  asked = looks.asked can.child can.asked;
  may = can.may;
}

-- pages were looked at before
given_looked : (T : Type 0) (a b c : Paged) (m i : ℕ) → HasMeta a → LooksAtPages T a b m → IsGiven b c i → IsGiven a c i
given_looked T a b c m i meta looks given = record {
  page = given.page;
  here = given.here;
  size = given.size ∙ looks.same.page_size;
  stored = subst (λ n. IsStoredReuse (page_id n i) given.page) looks.same.part given.stored;
  meta = given.meta;
  numbers = record {
    was = given.numbers.was;
    now = given.numbers.now;
    before = sym (looks.pages 0 (inr meta.known)) ∙ given.numbers.before;
    after = given.numbers.after;
    change = given.numbers.change;
  };
}

edits_before : (T : Type 0) (a b c : Paged) (X : ℕ → Type 0) (m n : ℕ) → LooksAtPages T a b m → EditsPages T b c X n → EditsPages T a c X (m + n)
edits_before T a b c X m n looks edits = edits_more T a c (λ j. X j ⊎ X j) X (m + n) (m + n) (λ j h. elim h [ inl x ↦ x | inr x ↦ x ]) (omega arith) (edits_then T a b c X X m n (edits_looked T a b X m looks) edits)

written_looked : (T : Type 0) (a b c : Paged) (m at : ℕ) (pair : Pair) (parent left right : List ℕ) (mend : Mend) (few : Bool) → HasMeta a → LooksAtPages T a b m → IsWritten T b c at pair parent left right 0 mend few → IsWritten T a c at pair parent left right (m + 0) mend few
written_looked T a b c m at pair parent left right Merged few meta looks w = (
  record { edits = edits_before T a b c (λ j. (j ≡ 0) ⊎ IsOfFamily at pair j) m 0 looks w.0.edits; parent_now = w.0.parent_now; left_now = w.0.left_now; gives = given_looked T a b c m pair.right meta looks w.0.gives },
  w.1,
)
written_looked T a b c m at pair parent left right Shared few meta looks w = (
  record { edits = edits_before T a b c (IsOfFamily at pair) m 0 looks w.0.edits; parent_now = w.0.parent_now; left_now = w.0.left_now; right_now = w.0.right_now },
  w.1,
)
written_looked T a b c m at pair parent left right Wrong few meta looks w = w

-- what was asked for stays so
written_asked : (T : Type 0) (b c : Paged) (at : ℕ) (pair : Pair) (parent left right : List ℕ) (m : ℕ) (mend : Mend) (few : Bool) → IsWritten T b c at pair parent left right m mend few → (j : ℕ) → IsTrue (b.asked j) → IsTrue (c.asked j)
written_asked T b c at pair parent left right m Merged few w j asked = w.0.edits.asked j asked
written_asked T b c at pair parent left right m Shared few w j asked = w.0.edits.asked j asked
written_asked T b c at pair parent left right m Wrong few w j asked = absurd w

written_known : (T : Type 0) (b c : Paged) (at : ℕ) (pair : Pair) (parent left right : List ℕ) (m : ℕ) (mend : Mend) (few : Bool) → IsWritten T b c at pair parent left right m mend few → (j : ℕ) → IsTrue (b.known j) → IsTrue (c.known j)
written_known T b c at pair parent left right m Merged few w j known = w.0.edits.known j known
written_known T b c at pair parent left right m Shared few w j known = w.0.edits.known j known
written_known T b c at pair parent left right m Wrong few w j known = absurd w

family_known : (p : Paged) (at : ℕ) (pair : Pair) (parent left right : List ℕ) → IsFamily p at pair parent left right → (j : ℕ) → IsOfFamily at pair j → IsTrue (p.known j)
family_known p at pair parent left right family j h = elim h [
  | inl e ↦ subst (λ n. IsTrue (p.known n)) (sym e) family.left_is.in_hand.known
  | inr z ↦ elim z [ inl e ↦ subst (λ n. IsTrue (p.known n)) (sym e) family.right_is.in_hand.known | inr e ↦ subst (λ n. IsTrue (p.known n)) (sym e) family.parent_is.in_hand.known ]
]

family_asked : (p : Paged) (at : ℕ) (pair : Pair) (parent left right : List ℕ) → IsFamily p at pair parent left right → (j : ℕ) → IsOfFamily at pair j → IsTrue (p.asked j)
family_asked p at pair parent left right family j h = elim h [
  | inl e ↦ subst (λ n. IsTrue (p.asked n)) (sym e) family.left_is.in_hand.asked
  | inr z ↦ elim z [ inl e ↦ subst (λ n. IsTrue (p.asked n)) (sym e) family.right_is.in_hand.asked | inr e ↦ subst (λ n. IsTrue (p.asked n)) (sym e) family.parent_is.in_hand.asked ]
]

-- the three pages were copied one after the other
module _ (T : Type 0) (a b c d : Paged) (at : ℕ) (pair : Pair) (parent left right : List ℕ) (can : CanMend a at pair)
    (at_again : IsTrue (a.asked at) → LooksAtPages T a b 0) (left_looks : LooksAtPages T b c 1) (left_again : IsTrue (b.asked pair.left) → LooksAtPages T b c 0)
    (right_looks : LooksAtPages T c d 1) (right_again : IsTrue (c.asked pair.right) → LooksAtPages T c d 0) where
  first_looks : LooksAtPages T a b 0
  first_looks = at_again can.in_hand.asked

  pub all_looks : LooksAtPages T a d 1
  all_looks = elim can.may.one_is [
    | inl e ↦ (let asked : IsTrue (b.asked pair.left) = first_looks.asked pair.left (subst (λ n. IsTrue (a.asked n)) (sym e) can.asked) in looks_then T a c d 0 1 (looks_then T a b c 0 0 first_looks (left_again asked)) right_looks)
    | inr e ↦ (let asked : IsTrue (c.asked pair.right) = left_looks.asked pair.right (first_looks.asked pair.right (subst (λ n. IsTrue (a.asked n)) (sym e) can.asked)) in looks_then T a c d 1 0 (looks_then T a b c 0 1 first_looks left_looks) (right_again asked))
  ]

  pub copies_family : IsCopyOf b at parent → IsCopyOf c pair.left left → IsCopyOf d pair.right right → IsFamily d at pair parent left right
  copies_family p l r = record { parent_is = copy_looked T c d 1 at parent right_looks (copy_looked T b c 1 at parent left_looks p); left_is = copy_looked T c d 1 pair.left left right_looks l; right_is = r }

  pub pair_mended : (e : Paged) (few : Bool) → HasMeta a → IsFamily d at pair parent left right → MendsCopies T d e at pair parent left right 0 few → MendsPair T a e at pair few
  pair_mended e few meta family mends =
      let looks = all_looks in
      record {
        parent = parent;
        left = left;
        right = right;
        parent_is = λ told. sym (looks.pages at told) ∙ family.parent_is.in_hand.page;
        left_is = λ told. sym (looks.pages pair.left told) ∙ family.left_is.in_hand.page;
        right_is = λ told. sym (looks.pages pair.right told) ∙ family.right_is.in_hand.page;
        parent_size = family.parent_is.size ∙ looks.same.page_size;
        left_size = family.left_is.size ∙ looks.same.page_size;
        right_size = family.right_is.size ∙ looks.same.page_size;
        left_reads = family.left_is.readable;
        right_reads = family.right_is.readable;
        asked = λ j h. written_asked T d e at pair mends.parent' mends.left' mends.right' 0 mends.mend few mends.written j (family_asked d at pair parent left right family j h);
        known = λ j h. written_known T d e at pair mends.parent' mends.left' mends.right' 0 mends.mend few mends.written j (family_known d at pair parent left right family j h);
        mends = record {
          parent' = mends.parent';
          left' = mends.left';
          right' = mends.right';
          mend = mends.mend;
          is = mends.is;
          sizes = mends.sizes;
          written = written_looked T a d e 1 at pair mends.parent' mends.left' mends.right' mends.mend few meta looks mends.written;
        };
      }

-- room for the page that is copied last
pub room_last : (T : Type 0) (a b c : Paged) (at : ℕ) (pair : Pair) → CanMend a at pair → 1 ≤ a.spare → LooksAtPages T a b 0 → LooksAtPages T b c 1 → (IsTrue (b.asked pair.left) → LooksAtPages T b c 0) → HasRoomFor c pair.right
room_last T a b c at pair can room first looks again = elim can.may.one_is [
  | inl e ↦ (let l = again (first.asked pair.left (subst (λ n. IsTrue (a.asked n)) (sym e) can.asked)) in inr (omega (arith, room, first.spare, l.spare)))
  | inr e ↦ inl (looks.asked pair.right (first.asked pair.right (subst (λ n. IsTrue (a.asked n)) (sym e) can.asked)))
]

-- causes
gap_looked : (T : Type 0) (a b : Paged) (m i : ℕ) (id : PageId) → LooksAtPages T a b m → IsAfterGap T b i id → IsAfterGap T a i id
gap_looked T a b m i id looks gap = record {
  later = gap.later;
  name = gap.name ∙ ap (λ n. page_id n (i - 1)) looks.same.part;
  absent = λ told. sym (looks.pages (i - 1) told) ∙ gap.absent (told_still T a b (i - 1) (looks.known (i - 1)) told);
}

pub mend_cause_looked : {R : Type 0} (T : Type 0) (a b c : Paged) (m : ℕ) (r : Result R PageFault) → LooksAtPages T a b m → HasMendCause T b c r → HasMendCause T a c r
mend_cause_looked T a b c m r looks cause = record {
  failed = λ h. omega (arith, looks.same.faults, cause.failed h);
  bad = λ id h. elim (cause.bad id h) [
    | inl bad ↦ inl (bad.0, bad_before T a b m bad.0 id looks bad.1)
    | inr r2 ↦ elim r2 [
      | inl gap ↦ inr (inl (gap.0, gap_looked T a b m gap.0 id looks gap.1))
      | inr np ↦ inr (inr (record { at = np.at; name = np.name; page = np.page; in_hand = np.in_hand; i = np.i; child = np.child; wrong = np.wrong; same = λ j told. np.same j (told_still T a b j (looks.known j) told) ∙ looks.pages j told }))
    ]
  ];
}

pub mend_cause_page : {R : Type 0} (T : Type 0) (a d : Paged) (i : ℕ) (r : Result R PageFault) → HasPageCause T a d.faults i r → HasMendCause T a d r
mend_cause_page T a d i r cause = record { failed = cause.failed; bad = λ id h. inl (i, cause.bad id h) }

pub mend_cause_gap : {R : Type 0} (T : Type 0) (a d : Paged) (i : ℕ) (r : Result R PageFault) → HasGapCause T a d.faults i r → HasMendCause T a d r
mend_cause_gap T a d i r cause = record { failed = cause.failed; bad = λ id h. inr (inl (i, cause.bad id h)) }

pub mend_cause_disk : {R : Type 0} (T : Type 0) (a d : Paged) (r : Result R PageFault) → HasDiskCause a d.faults r → HasMendCause T a d r
mend_cause_disk T a d r cause = record { failed = cause.failed; bad = λ id h. absurd (cause.not_bad id h) }

pub mend_cause_passed : {R S : Type 0} (T : Type 0) (a d : Paged) (r : Result R PageFault) (s : Result S PageFault) (f e : PageFault) → r ≡ Err f → s ≡ Err e → e ≡ f → HasMendCause T a d r → HasMendCause T a d s
mend_cause_passed T a d r s f e is_r is_s same cause = record {
  failed = λ h. (let h2 : e ≡ Failed = cc (sym is_s ∙ h) in cause.failed (is_r ∙ ap (λ (x : PageFault). Err x) (sym same ∙ h2)));
  bad = λ id h. (let h2 : e ≡ BadPage id = cc (sym is_s ∙ h) in cause.bad id (is_r ∙ ap (λ (x : PageFault). Err x) (sym same ∙ h2)));
}

-- a page that is wrong below which a child was to be mended
pub no_pair_cause : {R : Type 0} (T : Type 0) (a : Paged) (at i child : ℕ) (page : List ℕ) (id : PageId) (r : Result R PageFault) → r ≡ Err (BadPage id) → id ≡ page_id a.part at → IsInHand a at page → IsWrongFor a at page i child → HasMendCause T a a r
no_pair_cause T a at i child page id r is name in_hand wrong = record {
  failed = λ h. absurd (let e = sym is ∙ h in cc e);
  bad = λ other h. (let e : id ≡ other = cc (sym is ∙ h) in inr (inr (record { at = at; name = sym e ∙ name; page = page; in_hand = in_hand; i = i; child = child; wrong = wrong; same = λ j told. refl })));
}

written_looked_more : (T : Type 0) (a b c : Paged) (at : ℕ) (pair : Pair) (parent left right : List ℕ) (mend : Mend) (few : Bool) → HasMeta a → LooksAtPages T a b 0 → IsWritten T b c at pair parent left right 1 mend few → IsWritten T a c at pair parent left right 1 mend few
written_looked_more T a b c at pair parent left right Merged few meta looks w = (
  record { edits = edits_before T a b c (λ j. (j ≡ 0) ⊎ IsOfFamily at pair j) 0 1 looks w.0.edits; parent_now = w.0.parent_now; left_now = w.0.left_now; gives = given_looked T a b c 0 pair.right meta looks w.0.gives },
  w.1,
)
written_looked_more T a b c at pair parent left right Shared few meta looks w = (
  record { edits = edits_before T a b c (IsOfFamily at pair) 0 1 looks w.0.edits; parent_now = w.0.parent_now; left_now = w.0.left_now; right_now = w.0.right_now },
  w.1,
)
written_looked_more T a b c at pair parent left right Wrong few meta looks w = w

-- a pair was mended after the page above was looked at
pub child_mended : (T : Type 0) (a b e : Paged) (count at i child : ℕ) (pair : Pair) (r : Result Bool PageFault) → HasMeta a → LooksAtPages T a b 0 → IsTrue (a.known at) → IsPairIn b at i (Some pair) → OnOk r (MayMend pair count at child) → IfOk r (MendsPair T b e at pair) → IfOk r (MendsChild T a e count at i child)
child_mended T a b e count at i child pair (Err f) meta looks known is may mends = tt
child_mended T a b e count at i child pair (Ok few) meta looks known is may mends = record {
  pair = pair;
  may = may;
  page = is.page;
  page_is = sym (looks.pages at (inr known)) ∙ is.in_hand.page;
  pair_of = is.is;
  mends = record {
    parent = mends.parent;
    left = mends.left;
    right = mends.right;
    parent_is = λ told. sym (looks.pages at told) ∙ mends.parent_is (told_still T a b at (looks.known at) told);
    left_is = λ told. sym (looks.pages pair.left told) ∙ mends.left_is (told_still T a b pair.left (looks.known pair.left) told);
    right_is = λ told. sym (looks.pages pair.right told) ∙ mends.right_is (told_still T a b pair.right (looks.known pair.right) told);
    parent_size = mends.parent_size ∙ looks.same.page_size;
    left_size = mends.left_size ∙ looks.same.page_size;
    right_size = mends.right_size ∙ looks.same.page_size;
    left_reads = mends.left_reads;
    right_reads = mends.right_reads;
    asked = mends.asked;
    known = mends.known;
    mends = record {
      parent' = mends.mends.parent';
      left' = mends.mends.left';
      right' = mends.mends.right';
      mend = mends.mends.mend;
      is = mends.mends.is;
      sizes = mends.mends.sizes;
      written = written_looked_more T a b e at pair mends.mends.parent' mends.mends.left' mends.mends.right' mends.mends.mend few meta looks mends.mends.written;
    };
  };
}
