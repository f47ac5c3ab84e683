-- The calls of a removal, one after the other.
use Rattle.std.proofs.Common.{◌≡◌, ℕ, zero, suc, ◌+◌, ◌-◌, ◌<◌, ◌≤◌, ◌⊎◌, List, length, refl, sym, ap, subst, ◌∙◌, inl, inr, arith}
use Rattle.std.specs.Prelude.{Bool, None, Some, IsSome, IsTrue, Result, Err}
use Rattle.pm_types.specs.declared.page_id.PageId.{PageId}
use Rattle.pm_types.specs.declared.fault.PageFault.{PageFault}
use Rattle.pm_types.specs.declared.fault.PageFault.TheVariants.{Failed, BadPage}
use Rattle.pm_btpage.specs.declared.layout.TheConstants.{INNER_KIND}
use Rattle.pm_btpage.specs.IndexPages.{items_of}
use Rattle.pm_meta.specs.declared.slots.MetaSlot.TheVariants.{Pages}
use Rattle.pm_pages.specs.Rows.{Partition, number_of, page_count, kind_of}
use Rattle.pm_pages.specs.Chains.{times}
use Rattle.pm_pages.specs.Paged.{Paged, AllReadable, IsThere, IsInHand, HasPageCause}
use Rattle.pm_pages.specs.Edits.{LooksAtPages, EditsPages, HasMeta, IsNumberIn, HasDiskCause}
use Rattle.pm_pages.proofs.EditedPages.{edits_then, edits_more, edits_looked, looks_at_none}
use Rattle.pm_pages.proofs.TakenPages.{meta_looked, number_looked}
use Rattle.pm_tree.specs.Maps.{get_in}
use Rattle.pm_tree.specs.Nodes.{nodes_in, nodes_under, IsTreeIn}
use Rattle.pm_tree.specs.Puts.{half_of}
use Rattle.pm_tree.specs.Places.{IsPlaceIn}
use Rattle.pm_tree.specs.declared.places.Place.TheVariants.{Below}
use Rattle.pm_tree.specs.Places.{HasGap}
use Rattle.pm_tree.proofs.MapLists.{get_between}
use Rattle.pm_tree.proofs.Divided.{number_is, number_now, number_stays, meta_stays}
use Rattle.pm_pages.proofs.ToldPages.{pages_told, number_told}
use Rattle.pm_tree.proofs.Told.{below_count, page_is}
use Rattle.pm_tree_del.specs.declared.remove.Removal.{Removal}
use Rattle.pm_tree_del.specs.declared.remove.Removal.TheVariants.{Absent, Kept, Small}
use Rattle.pm_tree_del.specs.declared.mends.Mend.{Mend}
use Rattle.pm_tree_del.specs.declared.mends.Mend.TheVariants.{Merged, Shared, Wrong}
use Rattle.pm_tree_del.specs.declared.pairs.Pair.{Pair}
use Rattle.pm_tree_del.specs.Pairs.{MayMend}
use Rattle.pm_tree_del.specs.Mending.{IsOfFamily, IsWritten, MendsChild, HasMendCause}
use Rattle.pm_tree_del.specs.Causes.{KeepsNumbers, RemovesPages, IsRemoveFaultAfter, HasRemoveCause, as_removal, Lifts}
use Rattle.pm_tree_del.specs.Removes.{RemovesIn, RemovesAs, RemovesFor}
use Rattle.pm_pages.specs.SoundPages.{IsSound}
use Rattle.pm_tree.specs.Sound.{HasTree}
use Rattle.pm_tree_del.specs.Sound.{CanBeMended}
use Rattle.pm_tree_del.proofs.RemovedTrees.{child_tree, child_once, get_here, kept_up, can_be_mended, mended_as}
use Rattle.pm_pages.proofs.SoundPages.{sound_edited, sound_looked}
use Rattle.pm_tree_del.specs.Stored.{AreNearlyStored}
use Rattle.pm_tree_del.proofs.NearlyStored.{nearly_looked}
use Rattle.pm_tree_del.proofs.NearlyMended.{mended_nearly}

-- a page that is at hand
there_at : (p : Paged) (j i : ℕ) → j ≡ i → IsTrue (p.known i) → IsThere p i → IsTrue (p.known j) × IsThere p j
there_at p j i e known there = (subst (λ n. IsTrue (p.known n)) (sym e) known, subst (λ n. IsThere p n) (sym e) there)

held_at : (p : Paged) (j i : ℕ) (bytes : List ℕ) → j ≡ i → IsTrue (p.known i) → p.pages i ≡ Some bytes → IsTrue (p.known j) × IsThere p j
held_at p j i bytes e known is = there_at p j i e known (subst IsSome (sym is) refl)

-- numbers of the meta page that are kept
keeps_then : (a b c : Paged) → KeepsNumbers a b → KeepsNumbers b c → KeepsNumbers a c
keeps_then a b c x y = record { others = λ slot is_slot ne n is. y.others slot is_slot ne n (x.others slot is_slot ne n is) }

keeps_edited : (T : Type 0) (a b : Paged) (touched : ℕ → Type 0) (m : ℕ) → EditsPages T a b touched m → (touched 0 → ⊥) → KeepsNumbers a b
keeps_edited T a b touched m edits out = record { others = λ slot is_slot ne n is. number_stays T a b touched m slot n edits out is }

-- what was changed, one after the other
pub changes_then : (T : Type 0) (a b c : Paged) (m n k : ℕ) → m + n ≤ k → RemovesPages T a b m → RemovesPages T b c n → RemovesPages T a c k
changes_then T a b c m n k le x y = record {
  edits = edits_more T a c (λ j. IsTrue (b.asked j) ⊎ IsTrue (c.asked j)) (λ j. IsTrue (c.asked j)) (m + n) k (λ j h. elim h [ inl z ↦ y.edits.asked j z | inr z ↦ z ]) le
      (edits_then T a b c (λ j. IsTrue (b.asked j)) (λ j. IsTrue (c.asked j)) m n x.edits y.edits);
  meta = y.meta;
  numbers = keeps_then a b c x.numbers y.numbers;
  sound = λ t h. y.sound t (x.sound t h);
  passes = λ t near. y.passes t (x.passes t near);
}

pub changes_looked : (T : Type 0) (a b : Paged) (m : ℕ) → HasMeta a → LooksAtPages T a b m → RemovesPages T a b m
changes_looked T a b m meta looks = record {
  edits = edits_looked T a b (λ j. IsTrue (b.asked j)) m looks;
  meta = meta_looked T a b m looks meta;
  numbers = record { others = λ slot is_slot ne n is. number_looked T a b m slot n looks is };
  sound = λ t h. sound_looked T a b m t looks h;
  passes = λ t near. nearly_looked T a b m t looks near;
}

pub changes_more : (T : Type 0) (a b : Paged) (m n : ℕ) → m ≤ n → RemovesPages T a b m → RemovesPages T a b n
changes_more T a b m n le x = record { edits = edits_more T a b (λ j. IsTrue (b.asked j)) (λ j. IsTrue (b.asked j)) m n (λ j h. h) le x.edits; meta = x.meta; numbers = x.numbers; sound = x.sound; passes = x.passes }

-- one page was changed, which was asked for
pub changes_one : (T : Type 0) (a c : Paged) (at : ℕ) (now : List ℕ) → 1 ≤ at → HasMeta a → IsTrue (a.asked at) → IsTrue (a.known at) → c.pages at ≡ Some now → EditsPages T a c (λ j. j ≡ at) 0 → (T → AreNearlyStored a → AreNearlyStored c) → RemovesPages T a c 0
changes_one T a c at now some meta asked known here edits pass =
    let out : 0 ≡ at → ⊥ = λ e. omega (arith, e, some) in
    record {
      edits = edits_more T a c (λ j. j ≡ at) (λ j. IsTrue (c.asked j)) 0 0 (λ j e. subst (λ n. IsTrue (c.asked n)) (sym e) (edits.asked at asked)) (omega arith) edits;
      meta = meta_stays T a c (λ j. j ≡ at) 0 edits out meta;
      numbers = keeps_edited T a c (λ j. j ≡ at) 0 edits out;
      sound = λ t h. sound_edited T a c (λ j. j ≡ at) 0 t edits (λ j e. held_at c j at now e (edits.known at known) here) (ap (λ o. number_of o Pages) (edits.others 0 (inl t) out)) h;
      passes = pass;
    }

-- a child was mended
pub changes_mended : (T : Type 0) (b c : Paged) (count at i child : ℕ) (few : Bool) → 1 ≤ at → HasMeta b → IsNumberIn b Pages count → MendsChild T b c count at i child few → RemovesPages T b c 1
changes_mended T b c count at i child few some meta number mended = by mended.mends.mends.mend mended.mends.mends.written
  where
    pair : Pair
    pair = mended.pair

    may : MayMend mended.pair count at child
    may = mended.may

    out : IsOfFamily at mended.pair 0 → ⊥
    out h = elim h [ inl e ↦ omega (arith, e, mended.may.left_some) | inr z ↦ elim z [ inl e ↦ omega (arith, e, mended.may.right_some) | inr e ↦ omega (arith, e, some) ] ]

    family_held : (parent left right : List ℕ) → c.pages at ≡ Some parent → c.pages mended.pair.left ≡ Some left → c.pages mended.pair.right ≡ Some right → (j : ℕ) → IsOfFamily at mended.pair j → IsTrue (c.known j) × IsThere c j
    family_held parent left right p l r j h = elim h [
      | inl e ↦ held_at c j mended.pair.left left e (mended.mends.known mended.pair.left (inl refl)) l
      | inr z ↦ elim z [ inl e ↦ held_at c j mended.pair.right right e (mended.mends.known mended.pair.right (inr (inl refl))) r | inr e ↦ held_at c j at parent e (mended.mends.known at (inr (inr refl))) p ]
    ]

    by : (mend : Mend) → IsWritten T b c at mended.pair mended.mends.mends.parent' mended.mends.mends.left' mended.mends.mends.right' 1 mend few → RemovesPages T b c 1
    by Merged w =
        let n = w.0.gives.numbers in
        record {
          edits = edits_more T b c (λ j. (j ≡ 0) ⊎ IsOfFamily at mended.pair j) (λ j. IsTrue (c.asked j)) 1 1 (λ j h. elim h [ inl e ↦ subst (λ k. IsTrue (c.asked k)) (sym e) w.0.gives.meta.asked | inr z ↦ mended.mends.asked j z ]) (omega arith) w.0.edits;
          meta = w.0.gives.meta;
          numbers = record { others = λ slot is_slot ne k is. number_now c slot k n.now w.0.gives.meta n.after (number_is b slot k n.was is n.before ∙ sym (n.change.1.others slot is_slot ne)) };
          sound = λ t h. sound_edited T b c (λ j. (j ≡ 0) ⊎ IsOfFamily at mended.pair j) 1 t w.0.edits
              (λ j h2. elim h2 [ inl e ↦ there_at c j 0 e w.0.gives.meta.known w.0.gives.meta.there | inr z ↦ family_held mended.mends.mends.parent' mended.mends.mends.left' w.0.gives.page w.0.parent_now w.0.left_now w.0.gives.here j z ])
              (ap (λ o. number_of o Pages) n.after ∙ n.change.1.others Pages tt (λ e. cc e) ∙ sym (ap (λ o. number_of o Pages) n.before)) h;
          passes = λ t near. mended_nearly T b c count at i child few t some number mended near;
        }
    by Shared w = record {
      edits = edits_more T b c (IsOfFamily at mended.pair) (λ j. IsTrue (c.asked j)) 1 1 mended.mends.asked (omega arith) w.0.edits;
      meta = meta_stays T b c (IsOfFamily at mended.pair) 1 w.0.edits out meta;
      numbers = keeps_edited T b c (IsOfFamily at mended.pair) 1 w.0.edits out;
      sound = λ t h. sound_edited T b c (IsOfFamily at mended.pair) 1 t w.0.edits (family_held mended.mends.mends.parent' mended.mends.mends.left' mended.mends.mends.right' w.0.parent_now w.0.left_now w.0.right_now) (ap (λ o. number_of o Pages) (w.0.edits.others 0 (inl t) out)) h;
      passes = λ t near. mended_nearly T b c count at i child few t some number mended near;
    }
    by Wrong w = absurd w

-- causes
pub remove_cause_page : {R : Type 0} (T : Type 0) (a d : Paged) (cache i : ℕ) (r : Result R PageFault) → HasPageCause T a d.faults i r → HasRemoveCause T a d cache r
remove_cause_page T a d cache i r cause = record {
  failed = cause.failed;
  bad = λ id e. record { between = a; most = 0; edits = edits_looked T a a (λ j. IsTrue (a.asked j)) 0 (looks_at_none T a); fault = inl (i, cause.bad id e) };
}

pub remove_cause_disk : {R : Type 0} (T : Type 0) (a d : Paged) (cache : ℕ) (r : Result R PageFault) → HasDiskCause a d.faults r → HasRemoveCause T a d cache r
remove_cause_disk T a d cache r cause = record { failed = cause.failed; bad = λ id e. absurd (cause.not_bad id e) }

pub remove_cause_mend : {R : Type 0} (T : Type 0) (a d : Paged) (cache : ℕ) (r : Result R PageFault) → HasMendCause T a d r → HasRemoveCause T a d cache r
remove_cause_mend T a d cache r cause = record {
  failed = cause.failed;
  bad = λ id e. record {
    between = a;
    most = 0;
    edits = edits_looked T a a (λ j. IsTrue (a.asked j)) 0 (looks_at_none T a);
    fault = elim (cause.bad id e) [ inl bad ↦ inl bad | inr r2 ↦ elim r2 [ inl gap ↦ inr (inl gap) | inr np ↦ inr (inr (inl np)) ] ];
  };
}

pub fault_after : (T : Type 0) (a b d : Paged) (cache : ℕ) (id : PageId) (m : ℕ) → EditsPages T a b (λ j. IsTrue (b.asked j)) m → IsRemoveFaultAfter T b d cache id → IsRemoveFaultAfter T a d cache id
fault_after T a b d cache id m edits f = record {
  between = f.between;
  most = m + f.most;
  edits = edits_more T a f.between (λ j. IsTrue (b.asked j) ⊎ IsTrue (f.between.asked j)) (λ j. IsTrue (f.between.asked j)) (m + f.most) (m + f.most) (λ j h. elim h [ inl z ↦ f.edits.asked j z | inr z ↦ z ]) (omega arith)
      (edits_then T a b f.between (λ j. IsTrue (b.asked j)) (λ j. IsTrue (f.between.asked j)) m f.most edits f.edits);
  fault = f.fault;
}

pub remove_cause_after : {R : Type 0} (T : Type 0) (a b d : Paged) (m cache : ℕ) (r : Result R PageFault) → EditsPages T a b (λ j. IsTrue (b.asked j)) m → HasRemoveCause T b d cache r → HasRemoveCause T a d cache r
remove_cause_after T a b d m cache r edits cause = record {
  failed = λ e. omega (arith, cause.failed e, edits.same.faults);
  bad = λ id e. fault_after T a b d cache id m edits (cause.bad id e);
}

pub remove_cause_passed : {R S : Type 0} (T : Type 0) (a d : Paged) (cache : ℕ) (r : Result R PageFault) (s : Result S PageFault) (f e : PageFault) → r ≡ Err f → s ≡ Err e → e ≡ f → HasRemoveCause T a d cache r → HasRemoveCause T a d cache s
remove_cause_passed T a d cache r s f e is_r is_s same cause = record {
  failed = λ h. (let h2 : e ≡ Failed = cc (sym is_s ∙ h) in cause.failed (is_r ∙ ap (λ (x : PageFault). Err x) (sym same ∙ h2)));
  bad = λ id h. (let h2 : e ≡ BadPage id = cc (sym is_s ∙ h) in cause.bad id (is_r ∙ ap (λ (x : PageFault). Err x) (sym same ∙ h2)));
}

-- a removal is that of the tree before pages were looked at
pub removes_looked : (T : Type 0) (a b d : Paged) (m limit at : ℕ) (key : List ℕ) (removal : Removal) → T → LooksAtPages T a b m → RemovesFor b.pages d.pages (half_of b.page_size) limit at key removal → RemovesFor a.pages d.pages (half_of a.page_size) limit at key removal
removes_looked T a b d m limit at key removal t looks removes =
    subst (λ (q : Partition × ℕ). RemovesFor q.0 d.pages (half_of q.1) limit at key removal) {x = (b.pages, b.page_size)} {y = (a.pages, a.page_size)} (λ z. (pages_told T a b m t looks z, looks.same.page_size z)) removes

-- the key isn't in a leaf
pub absent_removes : (T : Type 0) (a : Paged) (at i : ℕ) (key : List ℕ) (half limit : ℕ) → HasMeta a → ((n : ℕ) → IsNumberIn a Pages n → at < n) → (page : List ℕ) → IsInHand a at page → length page ≡ a.page_size → HasGap page key i → RemovesFor a.pages a.pages half limit at key Absent
absent_removes T a at i key half limit meta below page in_hand size gap = record { each = step }
  where
    at_in : at < page_count a.pages
    at_in = below_count a at meta below

    step : (levels : ℕ) → levels < limit → (least : ℕ) → least ≤ half → IsTreeIn (nodes_in a.pages) levels least at → ((j : ℕ) → times j (nodes_under (nodes_in a.pages) levels at) ≤ 1) → RemovesAs a.pages a.pages levels least at key Absent
    step zero lt least le tree once = (ap (λ (q : List ℕ). get_in (items_of q) key) (page_is a at page at_in in_hand.page) ∙ get_between (items_of page) key i gap.between, λ j. refl)
    step (suc h) lt least le tree once = absurd (let k = ap kind_of (page_is a at page at_in in_hand.page) ∙ gap.kind in omega (arith, k, tree.0.kind_is))

-- The step up: a removal from the tree of a child, and what became of the page above.
module _ (T : Type 0) (a b c : Paged) (count at i child limit : ℕ) (key : List ℕ) (m : ℕ) (t : T) (meta : HasMeta a) (readable_a : AllReadable a) (place : IsPlaceIn a at key (Below i child)) (number : IsNumberIn a Pages count) (at_lt : at < count) (some : 1 ≤ limit)
    (changes : RemovesPages T a b m) (readable : AllReadable b) where
  below : (n : ℕ) → IsNumberIn a Pages n → at < n
  below n is = omega (arith, at_lt, number_told a Pages count number, number_told a Pages n is)

  number_b : IsNumberIn b Pages count
  number_b = changes.numbers.others Pages tt (λ e. cc e) count number

  inner_here : (nodes_in a.pages at).kind ≡ INNER_KIND
  inner_here = ap kind_of (page_is a at place.page (below_count a at meta below) place.in_hand.page) ∙ place.is.kind

  abbrev half : ℕ
  half = half_of a.page_size

  by_height : (lifted : Removal) → ((h : ℕ) → suc h < limit → (least : ℕ) → least ≤ half_of a.page_size → IsTreeIn (nodes_in a.pages) (suc h) least at → ((j : ℕ) → times j (nodes_under (nodes_in a.pages) (suc h) at) ≤ 1) → RemovesAs a.pages c.pages (suc h) least at key lifted) → RemovesFor a.pages c.pages (half_of a.page_size) limit at key lifted
  by_height lifted f = record { each = step }
    where
      step : (levels : ℕ) → levels < limit → (least : ℕ) → least ≤ half_of a.page_size → IsTreeIn (nodes_in a.pages) levels least at → ((j : ℕ) → times j (nodes_under (nodes_in a.pages) levels at) ≤ 1) → RemovesAs a.pages c.pages levels least at key lifted
      step zero few least le tree once = absurd (omega (arith, inner_here, tree.kind_is))
      step (suc h) few least le tree once = f h few least le tree once

  -- of the child's tree
  module _ (removal : Removal) (removes : RemovesFor a.pages b.pages (half_of a.page_size) (limit - 1) child key removal) (h : ℕ) (few : suc h < limit) (least : ℕ) (tree : IsTreeIn (nodes_in a.pages) (suc h) least at) (once : (j : ℕ) → times j (nodes_under (nodes_in a.pages) (suc h) at) ≤ 1) where
    of_child : RemovesAs a.pages b.pages h (half_of a.page_size) child key removal
    of_child = removes.each h (omega (arith, few)) (half_of a.page_size) (omega arith)
        (child_tree T a b at i child key (half_of a.page_size) h least t meta readable_a place below refl tree once)
        (child_once T a b at i child key (half_of a.page_size) h least t meta readable_a place below refl tree once)

  -- the child can be mended once it has an item less
  height_is : (tree : HasTree a limit at) → (h : ℕ) × (tree.height ≡ suc h)
  height_is tree = by tree.height tree.tree
    where
      by : (n : ℕ) → IsTreeIn (nodes_in a.pages) n tree.least at → (h : ℕ) × (n ≡ suc h)
      by zero x = absurd (omega (arith, inner_here, x.kind_is))
      by (suc h) x = (h, refl)

  module _ (tree : HasTree a limit at) where
    tree_0 : IsTreeIn (nodes_in a.pages) (suc (height_is tree).0) tree.least at
    tree_0 = subst (λ n. IsTreeIn (nodes_in a.pages) n tree.least at) (height_is tree).1 tree.tree

    once_0 : (j : ℕ) → times j (nodes_under (nodes_in a.pages) (suc (height_is tree).0) at) ≤ 1
    once_0 j = subst (λ n. times j (nodes_under (nodes_in a.pages) n at) ≤ 1) (height_is tree).1 (tree.once j)

    few_0 : suc (height_is tree).0 < limit
    few_0 = omega (arith, tree.few, (height_is tree).1)

    pub mendable_small : (was : ℕ) → RemovesFor a.pages b.pages (half_of a.page_size) (limit - 1) child key (Small was) → IsSound b → CanBeMended b count at i child
    mendable_small was removes sound =
        let x = of_child (Small was) removes (height_is tree).0 few_0 tree.least tree_0 once_0 in
        can_be_mended T a b at i child key (half_of a.page_size) (height_is tree).0 tree.least t meta readable_a place below refl tree_0 once_0 count x.1 readable changes.meta number_b at_lt changes.edits.same.page_size sound tree.some

  pub mendable_if : (tree : HasTree a limit at) (removal : Removal) → RemovesFor a.pages b.pages (half_of a.page_size) (limit - 1) child key removal → IsSound b → (was : ℕ) → removal ≡ Small was → CanBeMended b count at i child
  mendable_if tree removal removes sound was is = mendable_small tree was (subst (RemovesFor a.pages b.pages (half_of a.page_size) (limit - 1) child key) is removes) sound

  absent_step : RemovesFor a.pages b.pages (half_of a.page_size) (limit - 1) child key Absent → ((j : ℕ) → c.pages j ≡ b.pages j) → RemovesFor a.pages c.pages (half_of a.page_size) limit at key Absent
  absent_step removes same = by_height Absent (λ h few least le tree once. (let x = of_child Absent removes h few least tree once in
      (get_here T a b at i child key (half_of a.page_size) h least t meta readable_a place below refl tree once None x.0, λ j. same j ∙ x.1 j)))

  kept_step : (was : ℕ) → RemovesFor a.pages b.pages (half_of a.page_size) (limit - 1) child key (Kept was) → ((j : ℕ) → c.pages j ≡ b.pages j) → RemovesFor a.pages c.pages (half_of a.page_size) limit at key (Kept was)
  kept_step was removes same = by_height (Kept was) (λ h few least le tree once. (let x = of_child (Kept was) removes h few least tree once in (
    get_here T a b at i child key (half_of a.page_size) h least t meta readable_a place below refl tree once (Some was) x.0,
    subst (λ (q : Partition). RemovesIn a.pages q (suc h) least at key) (λ z j. sym (same j) z) (kept_up T a b at i child key (half_of a.page_size) h least t meta readable_a place below refl tree once x.1),
  )))

  mended_step : (was : ℕ) (f : Bool) → RemovesFor a.pages b.pages (half_of a.page_size) (limit - 1) child key (Small was) → MendsChild T b c count at i child f → RemovesFor a.pages c.pages (half_of a.page_size) limit at key (as_removal was f)
  mended_step was f removes mended = by_height (as_removal was f) (λ h few least le tree once. (let x = of_child (Small was) removes h few least tree once in
      mended_as T a b at i child key (half_of a.page_size) h least t meta readable_a place below refl tree once count x.1 readable changes.meta number_b at_lt changes.edits.same.page_size c f mended f refl was
      (get_here T a b at i child key (half_of a.page_size) h least t meta readable_a place below refl tree once (Some was) x.0) le))

  pub lift_step : (removal lifted : Removal) → RemovesFor a.pages b.pages (half_of a.page_size) (limit - 1) child key removal → Lifts T b c count at i child removal lifted → RemovesFor a.pages c.pages (half_of a.page_size) limit at key lifted
  lift_step Absent lifted removes lifts = subst (RemovesFor a.pages c.pages (half_of a.page_size) limit at key) (sym lifts.0) (absent_step removes lifts.1)
  lift_step (Kept was) lifted removes lifts = subst (RemovesFor a.pages c.pages (half_of a.page_size) limit at key) (sym lifts.0) (kept_step was removes lifts.1)
  lift_step (Small was) lifted removes lifts = subst (RemovesFor a.pages c.pages (half_of a.page_size) limit at key) (sym lifts.1) (mended_step was lifts.0 removes lifts.2)
