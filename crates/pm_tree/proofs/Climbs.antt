-- The calls of a put, one after the other.
use Rattle.std.proofs.Common.{◌≡◌, ℕ, zero, suc, ◌+◌, ◌-◌, ◌<◌, ◌≤◌, ◌⊎◌, false, List, [], ◌∷◌, length, refl, sym, ap, subst, ◌∙◌, inl, inr, arith}
use Rattle.std.specs.Prelude.{Option, None, IsTrue, Result, Err}
use Rattle.pm_types.specs.Ids.{page_id}
use Rattle.pm_types.specs.declared.page_id.PageId.{PageId}
use Rattle.pm_types.specs.declared.fault.PageFault.{PageFault}
use Rattle.pm_types.specs.declared.fault.PageFault.TheVariants.{Failed, BadPage}
use Rattle.pm_btpage.specs.declared.layout.TheConstants.{INNER_KIND}
use Rattle.pm_btpage.specs.IndexPages.{index_of, with_items, with_item}
use Rattle.pm_meta.specs.declared.slots.MetaSlot.TheVariants.{Pages}
use Rattle.pm_pages.specs.Rows.{Partition}
use Rattle.pm_pages.specs.Chains.{times}
use Rattle.pm_pages.specs.Trees.{index_in}
use Rattle.pm_pages.specs.Paged.{Paged, AllReadable, IsThere, IsInHand, HasPageCause}
use Rattle.pm_pages.specs.Edits.{LooksAtPages, EditsPages, HasMeta, IsNumberIn, HasDiskCause}
use Rattle.pm_pages.specs.SparePages.{HasTakeCause}
use Rattle.pm_pages.proofs.EditedPages.{edits_then, edits_more, edits_looked, looks_at_none}
use Rattle.pm_pages.proofs.TakenPages.{meta_looked}
use Rattle.pm_tree.specs.declared.put.Put.{Put}
use Rattle.pm_tree.specs.declared.put.Part.{Part}
use Rattle.pm_tree.specs.declared.put.Put.TheVariants.{Kept, Split}
use Rattle.pm_tree.specs.Steps.{IsPath, NamesNoNode}
use Rattle.pm_tree.specs.Nodes.{nodes_in, nodes_under, IsTreeIn}
use Rattle.pm_tree.specs.Puts.{IsSpare, PutsIn, PutsAs, PutsFor, HasLevels, half_of}
use Rattle.pm_tree.specs.Edits.{IsNode}
use Rattle.pm_tree.specs.Places.{IsPlaceIn, IsPlace}
use Rattle.pm_tree.specs.declared.places.Place.{Place}
use Rattle.pm_tree.specs.declared.places.Place.TheVariants.{Full, Below, Other}
use Rattle.pm_tree.specs.Divisions.{KeepsNumbers, PutsPages, IsFullLeaf}
use Rattle.pm_tree.specs.Grown.{IsParent, IsParentAt, child_item, Grows, Forks, TakesChild}
use Rattle.pm_tree.specs.PutCauses.{IsPutFaultAfter, HasPutCause, Lifts}
use Rattle.pm_pages.specs.SpareChains.{MovesSpare}
use Rattle.pm_pages.proofs.SpareRoom.{can_take_less, can_take_looked}
use Rattle.pm_tree.proofs.LeafChanges.{held_node, changes_one}
use Rattle.pm_tree.proofs.Divided.{numbers_looked, numbers_then, added_looked}
use Rattle.pm_btpage.specs.Stored.{IsLink}
use Rattle.pm_tree.proofs.LeafSteps.{puts_pages}
use Rattle.pm_pages.specs.StoredPages.{IsStored}
use Rattle.pm_tree.specs.StoredPuts.{KeepsPage}
use Rattle.pm_pages.proofs.StoredMeta.{keeps_looked}
use Rattle.pm_tree.proofs.StoredNodes.{insert_stored, child_word, stored_two, forks_stored}
use Rattle.pm_pages.proofs.StoredPages.{stored_looked}
use Rattle.pm_tree.proofs.Told.{below_count, count_there, is_inner}
use Rattle.pm_pages.proofs.ToldPages.{pages_told, number_told}
use Rattle.pm_tree.proofs.ForkSteps.{inner_says}
use Rattle.pm_tree.proofs.Ascents.{child_tree, child_once, get_here, kept_up, grown_up, forked_up}

-- what was changed, one after the other
pub changes_then : {X Y G : Type 0} → (T : Type 0) (a b c : Paged) (m n k : ℕ) → m + n ≤ k → (G → X) → (G → Y) → PutsPages T a b m X → PutsPages T b c n Y → PutsPages T a c k G
changes_then T a b c m n k le gx gy x y = record {
  edits = edits_more T a c (λ j. IsTrue (b.asked j) ⊎ IsTrue (c.asked j)) (λ j. IsTrue (c.asked j)) (m + n) k (λ j h. elim h [ inl z ↦ y.edits.asked j z | inr z ↦ z ]) le
      (edits_then T a b c (λ j. IsTrue (b.asked j)) (λ j. IsTrue (c.asked j)) m n x.edits y.edits);
  meta = y.meta;
  numbers = numbers_then a b c x.numbers y.numbers;
  takes = λ t limit left can. y.takes t limit left (x.takes t limit (n + left) (can_take_less limit a (k + left) (m + (n + left)) (omega (arith, le)) can));
  passes = λ t g limit small can stored.
      y.passes t (gy g) limit (omega (arith, small, x.edits.same.max_rows)) (x.takes t limit n (can_take_less limit a k (m + n) le can)) (x.passes t (gx g) limit small (can_take_less limit a k m (omega (arith, le)) can) stored);
}

pub changes_looked : {G : Type 0} → (T : Type 0) (a b : Paged) (m : ℕ) → HasMeta a → LooksAtPages T a b m → PutsPages T a b m G
changes_looked T a b m meta looks = record { edits = edits_looked T a b (λ j. IsTrue (b.asked j)) m looks; meta = meta_looked T a b m looks meta; numbers = numbers_looked T a b m looks; takes = λ t limit left can. can_take_looked T a b m t looks limit left (can_take_less limit a (m + left) left (omega arith) can); passes = λ t g limit small can stored. stored_looked T a b m t looks stored }

pub changes_more : {G : Type 0} → (T : Type 0) (a b : Paged) (m n : ℕ) → m ≤ n → PutsPages T a b m G → PutsPages T a b n G
changes_more T a b m n le x = record { edits = edits_more T a b (λ j. IsTrue (b.asked j)) (λ j. IsTrue (b.asked j)) m n (λ j h. h) le x.edits; meta = x.meta; numbers = x.numbers; takes = λ t limit left can. x.takes t limit left (can_take_less limit a (n + left) (m + left) (omega (arith, le)) can); passes = λ t g limit small can stored. x.passes t g limit small (can_take_less limit a n m le can) stored }

-- pages were looked at before
pub looked_then : {G : Type 0} → (T : Type 0) (a b c : Paged) (m n k : ℕ) → m + n ≤ k → HasMeta a → LooksAtPages T a b m → PutsPages T b c n G → PutsPages T a c k G
looked_then {G} T a b c m n k le meta looks x = changes_then {X = G} {Y = G} {G = G} T a b c m n k le (λ g. g) (λ g. g) (changes_looked {G = G} T a b m meta looks) x

pub link_then : (T : Type 0) (a b c : Paged) (m n k word : ℕ) → m + n ≤ k → HasMeta a → LooksAtPages T a b m → PutsPages T b c n (IsLink b.part word) → PutsPages T a c k (IsLink a.part word)
link_then T a b c m n k word le meta looks x = looked_then T a b c m n k le meta looks (subst (λ i. PutsPages T b c n (IsLink i word)) looks.same.part x)

-- causes
pub put_cause_take : {R : Type 0} (T : Type 0) (a d : Paged) (cache : ℕ) (r : Result R PageFault) → HasTakeCause T a d r → HasPutCause T a d cache r
put_cause_take T a d cache r cause = record {
  failed = cause.failed;
  bad = λ id e. record {
    between = a;
    most = 0;
    edits = edits_looked T a a (λ j. IsTrue (a.asked j)) 0 (looks_at_none T a);
    fault = elim (cause.bad id e) [
      | inl names ↦ inr (inr (inl names))
      | inr r2 ↦ elim r2 [ inl bad ↦ inl (bad.index, bad.bad) | inr gap ↦ inr (inl gap) ]
    ];
  };
}

pub put_cause_page : {R : Type 0} (T : Type 0) (a d : Paged) (cache i : ℕ) (r : Result R PageFault) → HasPageCause T a d.faults i r → HasPutCause T a d cache r
put_cause_page T a d cache i r cause = record {
  failed = cause.failed;
  bad = λ id e. record { between = a; most = 0; edits = edits_looked T a a (λ j. IsTrue (a.asked j)) 0 (looks_at_none T a); fault = inl (i, cause.bad id e) };
}

pub put_cause_disk : {R : Type 0} (T : Type 0) (a d : Paged) (cache : ℕ) (r : Result R PageFault) → HasDiskCause a d.faults r → HasPutCause T a d cache r
put_cause_disk T a d cache r cause = record { failed = cause.failed; bad = λ id e. absurd (cause.not_bad id e) }

pub fault_after : (T : Type 0) (a b d : Paged) (cache : ℕ) (id : PageId) (m : ℕ) → EditsPages T a b (λ j. IsTrue (b.asked j)) m → IsPutFaultAfter T b d cache id → IsPutFaultAfter T a d cache id
fault_after T a b d cache id m edits f = record {
  between = f.between;
  most = m + f.most;
  edits = edits_more T a f.between (λ j. IsTrue (b.asked j) ⊎ IsTrue (f.between.asked j)) (λ j. IsTrue (f.between.asked j)) (m + f.most) (m + f.most) (λ j h. elim h [ inl z ↦ f.edits.asked j z | inr z ↦ z ]) (omega arith)
      (edits_then T a b f.between (λ j. IsTrue (b.asked j)) (λ j. IsTrue (f.between.asked j)) m f.most edits f.edits);
  fault = f.fault;
}

pub put_cause_after : {R : Type 0} (T : Type 0) (a b d : Paged) (m cache : ℕ) (r : Result R PageFault) → EditsPages T a b (λ j. IsTrue (b.asked j)) m → HasPutCause T b d cache r → HasPutCause T a d cache r
put_cause_after T a b d m cache r edits cause = record {
  failed = λ e. omega (arith, cause.failed e, edits.same.faults);
  bad = λ id e. (let f = cause.bad id e in record {
    between = f.between;
    most = m + f.most;
    edits = edits_more T a f.between (λ j. IsTrue (b.asked j) ⊎ IsTrue (f.between.asked j)) (λ j. IsTrue (f.between.asked j)) (m + f.most) (m + f.most) (λ j h. elim h [ inl z ↦ f.edits.asked j z | inr z ↦ z ]) (omega arith)
        (edits_then T a b f.between (λ j. IsTrue (b.asked j)) (λ j. IsTrue (f.between.asked j)) m f.most edits f.edits);
    fault = f.fault;
  });
}

pub put_cause_passed : {R S : Type 0} (T : Type 0) (a d : Paged) (cache : ℕ) (r : Result R PageFault) (s : Result S PageFault) (f e : PageFault) → r ≡ Err f → s ≡ Err e → e ≡ f → HasPutCause T a d cache r → HasPutCause T a d cache s
put_cause_passed T a d cache r s f e is_r is_s same cause = record {
  failed = λ h. (let h2 : e ≡ Failed = cc (sym is_s ∙ h) in cause.failed (is_r ∙ ap (λ (x : PageFault). Err x) (sym same ∙ h2)));
  bad = λ id h. (let h2 : e ≡ BadPage id = cc (sym is_s ∙ h) in cause.bad id (is_r ∙ ap (λ (x : PageFault). Err x) (sym same ∙ h2)));
}

-- a put is that of the tree before pages were looked at
pub puts_looked : (T : Type 0) (a b d : Paged) (m limit at : ℕ) (key : List ℕ) (word : ℕ) (put : Put) → T → LooksAtPages T a b m → PutsFor b.pages d.pages (half_of b.page_size) limit at key word put → PutsFor a.pages d.pages (half_of a.page_size) limit at key word put
puts_looked T a b d m limit at key word put t looks puts =
    subst (λ (q : Partition × ℕ). PutsFor q.0 d.pages (half_of q.1) limit at key word put) {x = (b.pages, b.page_size)} {y = (a.pages, a.page_size)} (λ z. (pages_told T a b m t looks z, looks.same.page_size z)) puts

-- where the key stands
pub at_place : (p : Paged) (count at : ℕ) (key : List ℕ) (place : Place) → (place ≡ Other → ⊥) → IsPlace p count at key place → (at < count) × IsPlaceIn p at key place
at_place p count at key place some is = elim is [ inl beside ↦ absurd (some beside.other) | inr r ↦ r ]

pub below_count_of : (p : Paged) (count at : ℕ) → IsNumberIn p Pages count → at < count → (n : ℕ) → IsNumberIn p Pages n → at < n
below_count_of p count at number lt n is = omega (arith, lt, number_told p Pages count number, number_told p Pages n is)

pub full_leaf : (p : Paged) (at : ℕ) (key : List ℕ) (i : ℕ) → ((n : ℕ) → IsNumberIn p Pages n → at < n) → IsPlaceIn p at key (Full i) → IsFullLeaf p at key i
full_leaf p at key i below place = record { some = place.some; below = below; page = place.page; in_hand = place.in_hand; size = place.size; gap = place.is.0; full = place.is.1 }

pub path_below : (p : Paged) (cache n from at child i : ℕ) (key : List ℕ) → IsPath p cache n from at → IsPlaceIn p at key (Below i child) → IsPath p cache (n + 1) at child
path_below p cache n from at child i key path place =
    let e : suc n ≡ n + 1 = omega arith in
    subst (λ m. IsPath p cache m at child) e (record { page = place.page; in_hand = place.in_hand; kind = place.is.kind; number = i; in_range = place.is.for_key.in_range; is = place.is.is }, from, path)

-- the page count is above a page, still
pub below_after : (a b : Paged) (at : ℕ) → HasMeta a → KeepsNumbers a b → ((n : ℕ) → IsNumberIn a Pages n → at < n) → (n : ℕ) → IsNumberIn b Pages n → at < n
below_after a b at meta keeps below n is =
    let old = count_there a meta in
    let new = keeps.count old.0 old.1 in
    let same : n ≡ new.0 = sym (number_told b Pages n is) ∙ number_told b Pages new.0 new.1 in
    omega (arith, below old.0 old.1, new.2, same)

-- The step up: a put into the child, and what became of the page above.
module _ {G : Type 0} (T : Type 0) (a b c : Paged) (at i child limit m : ℕ) (key : List ℕ) (word : ℕ) (t : T) (meta : HasMeta a) (place : IsPlaceIn a at key (Below i child)) (below : (n : ℕ) → IsNumberIn a Pages n → at < n) (some : 1 ≤ limit)
    (changes : PutsPages T a b m G) (readable : AllReadable b) where
  below_b : (n : ℕ) → IsNumberIn b Pages n → at < n
  below_b = below_after a b at meta changes.numbers below

  inner_here : (nodes_in a.pages at).kind ≡ INNER_KIND
  inner_here = is_inner a at (index_of place.page) (below_count a at meta below) (record { page = place.page; in_hand = place.in_hand; well_made = place.is.well_made; size = place.size; is = refl }) (inner_says place.page place.is.kind)

  by_height : (put' : Put) → ((h : ℕ) → suc h < limit → (least : ℕ) → IsTreeIn (nodes_in a.pages) (suc h) least at → ((j : ℕ) → times j (nodes_under (nodes_in a.pages) (suc h) at) ≤ 1) → PutsAs a.pages c.pages (half_of a.page_size) (suc h) least at key word put') → PutsFor a.pages c.pages (half_of a.page_size) limit at key word put'
  by_height put' f = record { each = step }
    where
      step : (levels : ℕ) → levels < limit → (least : ℕ) → IsTreeIn (nodes_in a.pages) levels least at → ((j : ℕ) → times j (nodes_under (nodes_in a.pages) levels at) ≤ 1) → PutsAs a.pages c.pages (half_of a.page_size) levels least at key word put'
      step zero few least tree once = absurd (omega (arith, inner_here, tree.kind_is))
      step (suc h) few least tree once = f h few least tree once

  kept_step : (was : Option ℕ) → PutsFor a.pages b.pages (half_of a.page_size) (limit - 1) child key word (Kept was) → ((j : ℕ) → c.pages j ≡ b.pages j) → PutsFor a.pages c.pages (half_of a.page_size) limit at key word (Kept was)
  kept_step was puts same = by_height (Kept was) (λ h few least tree once.
      let up = puts.each h (omega (arith, few)) (half_of a.page_size) (child_tree T a b at i child key word (half_of a.page_size) h least t meta place below refl tree once) (child_once T a b at i child key word (half_of a.page_size) h least t meta place below refl tree once) in (
        get_here T a b at i child key word (half_of a.page_size) h least t meta place below refl tree once was up.0,
        subst (λ (q : Partition). PutsIn a.pages q (suc h) least at key word []) (λ z j. sym (same j) z) (kept_up T a b at i child key word (half_of a.page_size) h least t meta place below refl tree once up.1),
      ))

  grown_step : (part : Part) (w : Option ℕ) → PutsFor a.pages b.pages (half_of a.page_size) (limit - 1) child key word (Split part) → w ≡ None → Grows T b c at i part → PutsFor a.pages c.pages (half_of a.page_size) limit at key word (Kept w)
  grown_step part w puts none grows = by_height (Kept w) (λ h few least tree once.
      let half = half_of a.page_size in
      let up = puts.each h (omega (arith, few)) half (child_tree T a b at i child key word half h least t meta place below refl tree once) (child_once T a b at i child key word half h least t meta place below refl tree once) in (
        none ∙ get_here T a b at i child key word half h least t meta place below refl tree once None (sym up.0),
        grown_up T a b at i child key word half h least t meta place below refl tree once part up.2 readable changes.numbers changes.meta below_b changes.edits.same.page_size grows.says grows.before grows.between grows.index c grows.inner grows.after grows.edits,
      ))

  forked_step : (part forked : Part) → PutsFor a.pages b.pages (half_of a.page_size) (limit - 1) child key word (Split part) → Forks T b c at i part forked → PutsFor a.pages c.pages (half_of a.page_size) limit at key word (Split forked)
  forked_step part forked puts forks = by_height (Split forked) (λ h few least tree once.
      let half = half_of a.page_size in
      let up = puts.each h (omega (arith, few)) half (child_tree T a b at i child key word half h least t meta place below refl tree once) (child_once T a b at i child key word half h least t meta place below refl tree once) in (
        sym (get_here T a b at i child key word half h least t meta place below refl tree once None (sym up.0)),
        omega (arith, forks.levels, up.1),
        forked_up T a b at i child key word half h least t meta place below refl tree once part up.2 readable changes.numbers changes.meta below_b changes.edits.same.page_size forks.says forks.before forks.between forks.index c forked forks.inner
            forks.low forks.middle forks.high forks.whole forks.left_is forks.right_is forks.from forks.full forks.full_right forks.below forks.edits forks.meta forks.numbers (forks.spare t) (forks.moves t),
      ))

  takes_step : (part : Part) (put : Put) → PutsFor a.pages b.pages (half_of a.page_size) (limit - 1) child key word (Split part) → TakesChild T b c at i part put → PutsFor a.pages c.pages (half_of a.page_size) limit at key word put
  takes_step part (Kept w) puts takes = grown_step part w puts takes.0 takes.1
  takes_step part (Split forked) puts takes = forked_step part forked puts takes

  pub lift_step : (put lifted : Put) → PutsFor a.pages b.pages (half_of a.page_size) (limit - 1) child key word put → Lifts T b c at i put lifted → PutsFor a.pages c.pages (half_of a.page_size) limit at key word lifted
  lift_step (Kept was) lifted puts lifts = subst (PutsFor a.pages c.pages (half_of a.page_size) limit at key word) (sym lifts.0) (kept_step was puts lifts.1)
  lift_step (Split part) lifted puts lifts = takes_step part lifted puts lifts

-- pages that pass still, after pages were looked at, and after a page above the one that kept its place
pub page_after : (a b c : Paged) (X G : Type 0) (put : Put) → (G → X) → (IsStored a → IsStored b) → KeepsPage b c X put → KeepsPage a c G put
page_after a b c X G put gx before keeps = record { kept = keeps.kept; passes = λ g stored. keeps.passes (gx g) (before stored) }

pub page_then : (a b c d : Paged) (X G : Type 0) (put lifted : Put) → (G → X) → (IsStored a → IsStored b) → KeepsPage b c X put → KeepsPage c d (Unit {0}) lifted → KeepsPage a d G lifted
page_then a b c d X G put lifted gx before below keeps = record { kept = keeps.kept; passes = λ g stored. keeps.passes tt (below.passes (gx g) (before stored)) }

-- levels are one more above
pub levels_more : (limit : ℕ) (put : Put) (more : ℕ) → limit ≤ more → HasLevels limit put → HasLevels more put
levels_more limit (Kept was) more le h = tt
levels_more limit (Split part) more le h = (omega (arith, le, h.0), h.1)

-- a page that was found to take a child
pub parent_of : (p : Paged) (at : ℕ) (key : List ℕ) (i : ℕ) (page : List ℕ) → 1 ≤ at → ((n : ℕ) → IsNumberIn p Pages n → at < n) → IsInHand p at page → length page ≡ p.page_size → IsParent page key i → IsParentAt p at key i
parent_of p at key i page some below in_hand size parent = record { some = some; below = below; page = page; in_hand = in_hand; size = size; parent = parent }

-- changes of an inner page
pub changes_grown : (T : Type 0) (a c : Paged) (at i : ℕ) (part : Part) → 1 ≤ at → HasMeta a → ((n : ℕ) → IsNumberIn a Pages n → at < n) → 1 ≤ part.right → Grows T a c at i part → PutsPages T a c 1 (Unit {0})
changes_grown T a c at i part some meta below right grows =
    changes_more T a c 0 1 (omega arith) (changes_one T a c at grows.says _ some meta below grows.before grows.after grows.edits (λ small g stored. insert_stored a.part at i grows.says (child_item a.part part) (child_word a.part grows.says.leaf part small right grows.inner grows.index) stored))

pub changes_forked : (T : Type 0) (a c : Paged) (at i : ℕ) (part forked : Part) → 1 ≤ at → HasMeta a → ((n : ℕ) → IsNumberIn a Pages n → at < n) → 1 ≤ part.right → Forks T a c at i part forked → PutsPages T a c 1 (Unit {0})
changes_forked T a c at i part forked some meta below right forks =
    puts_pages T a c (λ j. (j ≡ 0) ⊎ (j ≡ forked.right) ⊎ (j ≡ at)) 1 1 (forked.right ∷ []) (omega arith) forks.edits
    (λ j h. elim h [
      | inl e ↦ subst (λ n. IsTrue (c.asked n)) (sym e) forks.meta.asked
      | inr h2 ↦ elim h2 [ inl e ↦ subst (λ n. IsTrue (c.asked n)) (sym e) forks.right_is.in_hand.asked | inr e ↦ subst (λ n. IsTrue (c.asked n)) (sym e) forks.left_is.in_hand.asked ]
    ]) forks.meta forks.numbers
    (λ j h. elim h [
      | inl e ↦ subst (λ n. IsTrue (c.known n) × IsThere c n) (sym e) (forks.meta.known, forks.meta.there)
      | inr h2 ↦ elim h2 [
        | inl e ↦ subst (λ n. IsTrue (c.known n) × IsThere c n) (sym e) (held_node c forked.right _ forks.right_is)
        | inr e ↦ subst (λ n. IsTrue (c.known n) × IsThere c n) (sym e) (held_node c at _ forks.left_is)
      ]
    ])
    (λ t j lt. elim (forks.added t j lt) [ inl old ↦ inl old | inr e ↦ inr (inr (inl e)) ]) forks.moves (omega arith)
    (λ t g limit small can stored. stored_two T a c at forked.right 1 limit forks.says _ _ t some (below_count a at meta below) forks.some forks.before forks.left_is forks.right_is forks.edits (forks.meta_passes t) (forks.added t) (forks_stored T a c at i part forked stored.part right forks) small can stored)

-- an inner page took a child after it was looked at
pub grows_looked : (T : Type 0) (a b c : Paged) (at i : ℕ) (part : Part) → IsTrue (a.known at) → IsTrue (a.asked at) → LooksAtPages T a b 0 → Grows T b c at i part → Grows T a c at i part
grows_looked T a b c at i part known asked looks g = record {
  says = g.says;
  before = record { page = g.before.page; in_hand = record { known = known; asked = asked; page = sym (looks.pages at (inr known)) ∙ g.before.in_hand.page }; well_made = g.before.well_made; size = g.before.size ∙ looks.same.page_size; is = g.before.is };
  inner = g.inner;
  between = g.between;
  index = ap (λ n. index_in (child_item n part).word) (sym looks.same.part) ∙ g.index;
  after = subst (λ n. IsNode c at (with_items g.says (with_item g.says.items i (child_item n part)))) looks.same.part g.after;
  edits = edits_more T a c (λ j. ⊥ ⊎ (j ≡ at)) (λ j. j ≡ at) (0 + 0) 0 (λ j h. elim h [ inl never ↦ absurd never | inr e ↦ e ]) (omega arith) (edits_then T a b c (λ j. ⊥) (λ j. j ≡ at) 0 0 (edits_looked T a b (λ j. ⊥) 0 looks) g.edits);
}

pub forks_looked : (T : Type 0) (a b c : Paged) (at i : ℕ) (part forked : Part) → IsTrue (a.known at) → IsTrue (a.asked at) → LooksAtPages T a b 0 → Forks T b c at i part forked → Forks T a c at i part forked
forks_looked T a b c at i part forked known asked looks g = record {
  says = g.says;
  before = record { page = g.before.page; in_hand = record { known = known; asked = asked; page = sym (looks.pages at (inr known)) ∙ g.before.in_hand.page }; well_made = g.before.well_made; size = g.before.size ∙ looks.same.page_size; is = g.before.is };
  inner = g.inner;
  between = g.between;
  index = ap (λ n. index_in (child_item n part).word) (sym looks.same.part) ∙ g.index;
  low = g.low;
  middle = g.middle;
  high = g.high;
  whole = ap (λ n. with_item g.says.items i (child_item n part)) (sym looks.same.part) ∙ g.whole;
  left_is = g.left_is;
  right_is = subst (λ n. IsNode c forked.right (record { id = page_id n forked.right; leaf = false; link = g.middle.word; items = g.high })) looks.same.part g.right_is;
  from = g.from;
  levels = g.levels;
  full = subst (λ n. half_of n ≤ length g.low) looks.same.page_size g.full;
  full_right = subst (λ n. half_of n ≤ length g.high) looks.same.page_size g.full_right;
  some = g.some;
  below = g.below;
  other = g.other;
  edits = edits_more T a c (λ j. ⊥ ⊎ ((j ≡ 0) ⊎ (j ≡ forked.right) ⊎ (j ≡ at))) (λ j. (j ≡ 0) ⊎ (j ≡ forked.right) ⊎ (j ≡ at)) (0 + 1) 1 (λ j h. elim h [ inl never ↦ absurd never | inr e ↦ e ]) (omega arith)
      (edits_then T a b c (λ j. ⊥) (λ j. (j ≡ 0) ⊎ (j ≡ forked.right) ⊎ (j ≡ at)) 0 1 (edits_looked T a b (λ j. ⊥) 0 looks) g.edits);
  meta = g.meta;
  numbers = numbers_then a b c (numbers_looked T a b 0 looks) g.numbers;
  spare = λ t. subst (λ (q : Partition). IsSpare (nodes_in q forked.right)) (pages_told T a b 0 t looks) (g.spare t);
  added = λ t j lt. added_looked T a b 0 forked.right t looks j (g.added t j lt);
  moves = λ t. subst (λ (q : Partition). MovesSpare q c.pages (forked.right ∷ []) []) (pages_told T a b 0 t looks) (g.moves t);
  meta_passes = λ t. keeps_looked T a b c 0 t looks (g.meta_passes t);
}

pub takes_looked : (T : Type 0) (a b c : Paged) (at i : ℕ) (part : Part) (put : Put) → IsTrue (a.known at) → IsTrue (a.asked at) → LooksAtPages T a b 0 → TakesChild T b c at i part put → TakesChild T a c at i part put
takes_looked T a b c at i part (Kept w) known asked looks takes = (takes.0, grows_looked T a b c at i part known asked looks takes.1)
takes_looked T a b c at i part (Split forked) known asked looks takes = forks_looked T a b c at i part forked known asked looks takes

-- a page on the way names no page of a tree
pub names_no_place : (p : Paged) (cache levels from at count : ℕ) (key : List ℕ) (id : PageId) → id ≡ page_id p.part from → IsPath p cache levels from at → IsNumberIn p Pages count → IsPlace p count at key Other → NamesNoNode p cache id
names_no_place p cache levels from at count key id name path number look = record {
  levels = levels;
  from = from;
  at = at;
  name = name;
  path = path;
  wrong = elim look [
    | inl beside ↦ elim beside.where_at [ inl e ↦ inl e | inr le ↦ inr (inl (count, number, le)) ]
    | inr r ↦ inr (inr (record { page = r.1.page; in_hand = r.1.in_hand; kind = r.1.is }))
  ];
}
