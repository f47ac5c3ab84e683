-- A new leaf stands after the one that was divided.
use Rattle.std.proofs.Common.{◌≡◌, ◌≢◌, ℕ, ◌+◌, ◌≤◌, ◌⊎◌, true, List, [], ◌∷◌, take, drop, sym, ap, subst, ◌∙◌, inl, inr, arith}
use Rattle.std.specs.Prelude.{None, Result, Err}
use Rattle.pm_types.specs.declared.fault.PageFault.{PageFault}
use Rattle.pm_types.specs.declared.fault.PageFault.TheVariants.{Failed, BadPage}
use Rattle.pm_pages.specs.SparePages.{HasTakeCause}
use Rattle.pm_types.specs.Ids.{page_id}
use Rattle.pm_btpage.specs.IndexPages.{IndexPage, items_of, index_of, with_items, with_link, empty_leaf}
use Rattle.pm_meta.specs.declared.slots.MetaSlot.TheVariants.{Pages}
use Rattle.pm_pages.specs.Paged.{Paged}
use Rattle.pm_pages.specs.Edits.{LooksAtPages, EditsPages, HasDiskCause}
use Rattle.pm_pages.proofs.EditedPages.{edits_then, edits_more}
use Rattle.pm_tree.specs.Edits.{IsNode, TakesEdit, EditsNodeAt}
use Rattle.pm_tree.specs.declared.edits.Edit.TheVariants.{Next}
use Rattle.pm_tree.specs.Divisions.{CanDivide, Divides, LinksLeaves, PartsLeaf}
use Rattle.pm_tree.proofs.NodeEdits.{node_stays}
use Rattle.pm_pages.proofs.SpareMoves.{moves_on}
use Rattle.pm_pages.proofs.SpareSteps.{moves_pages}
use Rattle.pm_tree.proofs.NodeKinds.{node_kind}
use Rattle.pm_pages.proofs.StoredMeta.{keeps_on}
use Rattle.pm_tree.proofs.Divided.{node_edited, meta_stays, numbers_then, numbers_stay, number_back, count_of}

-- a change that the other page's leaves possible
pub takes_still : (T : Type 0) (a b : Paged) (at right next : ℕ) → right ≢ at → EditsPages T a b (λ j. j ≡ right) 0 → TakesEdit a at [] (Next next) → TakesEdit b at [] (Next next)
takes_still T a b at right next other edits takes = record {
  some = takes.some;
  page = takes.page;
  in_hand = record { known = edits.known at takes.in_hand.known; asked = edits.asked at takes.in_hand.asked; page = edits.others at (inr takes.in_hand.known) (λ e. other (sym e)) ∙ takes.in_hand.page };
  well_made = takes.well_made;
  size = takes.size ∙ sym edits.same.page_size;
  fits = takes.fits;
}

pub links_leaves : (T : Type 0) (a b c : Paged) (at right next : ℕ) → right ≢ at → EditsPages T a b (λ j. j ≡ right) 0 → EditsNodeAt a b right [] (Next next) → EditsPages T b c (λ j. j ≡ at) 0 → EditsNodeAt b c at [] (Next right) → LinksLeaves T a c at right next
links_leaves T a b c at right next other edits_b one edits_c two = record {
  edits = edits_then T a b c (λ j. j ≡ right) (λ j. j ≡ at) 0 0 edits_b edits_c;
  right_is = λ says node. node_stays T b c (λ j. j ≡ at) 0 right (with_link says next) edits_c other (node_edited T a b right 0 [] (Next next) says edits_b node one);
  left_is = λ says node. node_edited T b c at 0 [] (Next right) says edits_c (node_stays T a b (λ j. j ≡ right) 0 at says edits_b (λ e. other (sym e)) node) two;
}

-- a page that says so is a leaf
pub takes_next : (p : Paged) (i : ℕ) (says : IndexPage) (next : ℕ) → 1 ≤ i → IsNode p i says → says.leaf ≡ true → TakesEdit p i [] (Next next)
takes_next p i says next some node leaf = record { some = some; page = node.page; in_hand = node.in_hand; well_made = node.well_made; size = node.size; fits = ap (λ (s : IndexPage). s.leaf) node.is ∙ leaf }

pub parts_leaf : (T : Type 0) (a b c d : Paged) (at right next cut : ℕ) (page : List ℕ) → CanDivide a at page None cut cut → LooksAtPages T a b 0 → next ≡ (index_of page).link → Divides T a c at page None cut cut right → LinksLeaves T c d at right next → PartsLeaf T a d at page cut right
parts_leaf T a b c d at right next cut page can looks next_is divides links =
    let zero_out : (0 ≡ right) ⊎ (0 ≡ at) → ⊥ = λ h. elim h [ inl e ↦ omega (arith, e, divides.some) | inr e ↦ omega (arith, e, can.some) ] in
    record {
      some = divides.some;
      below = λ n is. divides.below n (number_back T c d (λ j. (j ≡ right) ⊎ (j ≡ at)) 0 Pages n links.edits zero_out divides.meta is);
      other = divides.other;
      edits = edits_more T a d (λ j. ((j ≡ 0) ⊎ (j ≡ right) ⊎ (j ≡ at)) ⊎ ((j ≡ right) ⊎ (j ≡ at))) (λ j. (j ≡ 0) ⊎ (j ≡ right) ⊎ (j ≡ at)) (1 + 0) 1 (λ j h. elim h [ inl x ↦ x | inr x ↦ inr x ]) (omega arith)
          (edits_then T a c d (λ j. (j ≡ 0) ⊎ (j ≡ right) ⊎ (j ≡ at)) (λ j. (j ≡ right) ⊎ (j ≡ at)) 1 0 divides.edits links.edits);
      left_is = links.left_is (with_items (index_of page) (take cut (items_of page))) divides.left_is;
      right_is = subst (λ n. IsNode d right (with_link (with_items (empty_leaf (page_id a.part right)) (drop cut (items_of page))) n)) next_is (links.right_is (with_items (empty_leaf (page_id a.part right)) (drop cut (items_of page))) divides.right_is);
      meta = meta_stays T c d (λ j. (j ≡ right) ⊎ (j ≡ at)) 0 links.edits zero_out divides.meta;
      numbers = numbers_then a c d divides.numbers (numbers_stay T c d (λ j. (j ≡ right) ⊎ (j ≡ at)) 0 links.edits zero_out);
      spare = divides.spare;
      added = λ t j lt. divides.added t j (omega (arith, lt, count_of T c d (λ j. (j ≡ right) ⊎ (j ≡ at)) 0 t links.edits zero_out));
      moves = λ t.
          let left = with_items (index_of page) (take cut (items_of page)) in
          let tail = with_items (empty_leaf (page_id a.part right)) (drop cut (items_of page)) in
          moves_on a.pages c.pages d.pages (right ∷ []) [] (divides.moves t)
          (moves_pages T c d right at 0 t divides.some can.some links.edits (node_kind c right tail divides.right_is) (node_kind d right (with_link tail next) (links.right_is tail divides.right_is))
          (node_kind c at left divides.left_is) (node_kind d at (with_link left right) (links.left_is left divides.left_is)));
      meta_passes = λ t. keeps_on T a c d (λ j. (j ≡ right) ⊎ (j ≡ at)) 0 t links.edits zero_out (divides.meta_passes t);
    }

-- an error that is passed on has the cause that it had
pub cause_passed : {R S : Type 0} (T : Type 0) (a d : Paged) (r : Result R PageFault) (s : Result S PageFault) (f e : PageFault) → r ≡ Err f → s ≡ Err e → e ≡ f → HasTakeCause T a d r → HasTakeCause T a d s
cause_passed T a d r s f e is_r is_s same cause = record {
  failed = λ h. (let h2 : e ≡ Failed = cc (sym is_s ∙ h) in let h' : r ≡ Err Failed = is_r ∙ ap (λ (x : PageFault). Err x) (sym same ∙ h2) in cause.failed h');
  bad = λ id h. (let h2 : e ≡ BadPage id = cc (sym is_s ∙ h) in let h' : r ≡ Err (BadPage id) = is_r ∙ ap (λ (x : PageFault). Err x) (sym same ∙ h2) in cause.bad id h');
}

-- an error of a call on the disk that is passed on has a cause
pub disk_passed : {R S : Type 0} (T : Type 0) (a b d : Paged) (r : Result R PageFault) (s : Result S PageFault) (f e : PageFault) → r ≡ Err f → s ≡ Err e → e ≡ f → a.faults ≤ b.faults → HasDiskCause b d.faults r → HasTakeCause T a d s
disk_passed T a b d r s f e is_r is_s same le cause = cause_passed T a d r s f e is_r is_s same (record { failed = λ h. omega (arith, le, cause.failed h); bad = λ id h. absurd (cause.not_bad id h) })
