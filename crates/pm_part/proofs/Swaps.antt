-- A row that takes the place of another one on its page.
use Rattle.std.proofs.Common.{◌≡◌, ℕ, ◌+◌, ◌≤◌, ◌⊎◌, List, [], length, refl, sym, subst, ◌∙◌, inl, inr, arith}
use Rattle.std.specs.Prelude.{IsTrue, IsSome, Some, Result, Ok, Err, IfOk, OnOk}
use Rattle.pm_data.specs.Rows.{IsRow}
use Rattle.pm_data.specs.DataPages.{HasRoomFor}
use Rattle.pm_pages.specs.Rows.{Partition}
use Rattle.pm_pages.specs.Paged.{Paged}
use Rattle.pm_pages.specs.Edits.{LooksAtPages, EditsPages, HasMeta}
use Rattle.pm_pages.proofs.EditedPages.{edits_then, edits_more, edits_looked}
use Rattle.pm_free.specs.declared.edits.Edit.TheVariants.{Insert, Remove}
use Rattle.pm_free.specs.DataEdits.{TakesEdit, EditsDataAt}
use Rattle.pm_free.specs.Changes.{ChangesData}
use Rattle.pm_free.specs.Placed.{HasItemAt, ChangesRows}
use Rattle.pm_free.proofs.Changed.{edits_page, changes_then}
use Rattle.pm_free.proofs.PlacedPages.{item_removed}
use Rattle.pm_pages.specs.SparePages.{MetaBecomes}
use Rattle.pm_tree.specs.Divisions.{PutsPages}
use Rattle.pm_tree.specs.Roots.{PutsRootPages}
use Rattle.pm_meta.specs.declared.slots.MetaSlot.TheVariants.{Pages}
use Rattle.pm_free.proofs.Changed.{number_there}
use Rattle.pm_tree_del.specs.Roots.{RemovesRootPages}
use Rattle.pm_part.specs.Changes.{ChangesPages, IsWayIn}
use Rattle.pm_part.specs.declared.overwriting.Way.TheVariants.{SamePage}

-- the page from which the item's row was taken out takes the row
pub takes_insert : (T : Type 0) (a b d : Paged) (at item n : ℕ) (row : List ℕ) → HasMeta a → HasItemAt a at item → LooksAtPages T a b 0 → EditsPages T b d (λ j. j ≡ at) 0 → EditsDataAt b d at [] (Remove item) n → IsWayIn a at item (length row) SamePage → IsRow row → TakesEdit d at row Insert
takes_insert T a b d at item n row meta has looks edits takes way is_row =
    let x = item_removed T a b d 0 at item n meta has.is looks edits takes in
    let is = x.stay at has.is in
    let same : takes.now ≡ is.page = cc (takes.after, is.is.in_hand.page) in
    let before : a.pages at ≡ Some takes.was = sym (looks.pages at (inr has.is.is.in_hand.known)) ∙ takes.before in
    record { some = is.some; page = is.page; is = is.is; fits = (is_row, subst (λ p. HasRoomFor p (length row)) same (way takes.was before takes.now takes.edits)) }

-- the row is out, and another one in
pub swapped : (T : Type 0) (a b d e : Paged) (at item n m : ℕ) (row : List ℕ) → HasMeta a → HasItemAt a at item → LooksAtPages T a b 0 → EditsPages T b d (λ j. j ≡ at) 0 → EditsDataAt b d at [] (Remove item) n → EditsPages T d e (λ j. j ≡ at) 0 → EditsDataAt d e at row Insert m → ChangesData T a e 0 (λ old new. Unit {0})
swapped T a b d e at item n m row meta has looks edits takes edits' takes' =
    let x = item_removed T a b d 0 at item n meta has.is looks edits takes in
    changes_then T a d e 0 0 (λ old new. Unit {0}) _ (λ old new. Unit {0}) (λ p q r h k. tt) x (edits_page T d e at row Insert m x.meta (x.stay at has.is) edits' takes')

-- changes of pages, one after the other
pub pages_then : (T : Type 0) (a b c : Paged) (m n k : ℕ) → m + n ≤ k → ChangesPages T a b m → ChangesPages T b c n → ChangesPages T a c k
pages_then T a b c m n k le x y = record {
  edits = edits_more T a c (λ j. IsTrue (b.asked j) ⊎ IsTrue (c.asked j)) (λ j. IsTrue (c.asked j)) (m + n) k (λ j h. elim h [ inl z ↦ y.edits.asked j z | inr z ↦ z ]) le
      (edits_then T a b c (λ j. IsTrue (b.asked j)) (λ j. IsTrue (c.asked j)) m n x.edits y.edits);
  meta = y.meta;
}

pub pages_looked : (T : Type 0) (a b : Paged) (m : ℕ) → HasMeta b → LooksAtPages T a b m → ChangesPages T a b m
pages_looked T a b m meta looks = record { edits = edits_looked T a b (λ j. IsTrue (b.asked j)) m looks; meta = meta }

pub pages_rows : (T : Type 0) (a b : Paged) (m : ℕ) {more : ℕ} (R : Partition → Partition → Type 0) → ChangesRows T a b m more R → ChangesPages T a b m
pages_rows T a b m R rows = record { edits = rows.edits; meta = rows.meta }

-- a data page that is at hand was changed
pub pages_over : (T : Type 0) (a b : Paged) (at item : ℕ) → HasMeta a → HasItemAt a at item → EditsPages T a b (λ j. j ≡ at) 0 → ChangesPages T a b 0
pages_over T a b at item meta has edits =
    let away : 0 ≡ at → ⊥ = λ e. omega (arith, e, has.is.some) in
    record {
      edits = edits_more T a b (λ j. j ≡ at) (λ j. IsTrue (b.asked j)) 0 0 (λ j e. subst (λ i. IsTrue (b.asked i)) (sym e) (edits.asked at has.is.is.in_hand.asked)) (omega arith) edits;
      meta = record { known = edits.known 0 meta.known; asked = edits.asked 0 meta.asked; there = subst IsSome (sym (edits.others 0 (inr meta.known) away)) meta.there };
    }

-- the meta page was changed
pub pages_meta : (T : Type 0) (a b : Paged) (m : ℕ) → HasMeta b → EditsPages T a b (λ j. j ≡ 0) m → ChangesPages T a b m
pages_meta T a b m meta edits = record { edits = edits_more T a b (λ j. j ≡ 0) (λ j. IsTrue (b.asked j)) m m (λ j e. subst (λ i. IsTrue (b.asked i)) (sym e) meta.asked) (omega arith) edits; meta = meta }

pub pages_more : (T : Type 0) (a b : Paged) (m n : ℕ) → m ≤ n → ChangesPages T a b m → ChangesPages T a b n
pages_more T a b m n le x = record { edits = edits_more T a b (λ j. IsTrue (b.asked j)) (λ j. IsTrue (b.asked j)) m n (λ j h. h) le x.edits; meta = x.meta }

pub pages_put : {G : Type 0} → (T : Type 0) (a b : Paged) (cache m : ℕ) → PutsRootPages T a b cache m G → ChangesPages T a b m
pages_put T a b cache m x = record { edits = x.edits; meta = x.meta }

pub pages_relinked : {G : Type 0} → (T : Type 0) (a b : Paged) (m : ℕ) → PutsPages T a b m G → ChangesPages T a b m
pages_relinked T a b m x = record { edits = x.edits; meta = x.meta }

-- the meta page is there still once a number of it was set
pub meta_edited : (T : Type 0) (a b : Paged) (m : ℕ) {became : List ℕ → List ℕ → Type 0} → HasMeta a → EditsPages T a b (λ j. j ≡ 0) m → MetaBecomes a b became → HasMeta b
meta_edited T a b m meta edits sets = record { known = edits.known 0 meta.known; asked = edits.asked 0 meta.asked; there = subst IsSome (sym sets.after) refl }

pub edits_look : (T : Type 0) (a b : Paged) (m n : ℕ) → m ≤ n → LooksAtPages T a b m → EditsPages T a b (λ j. IsTrue (b.asked j)) n
edits_look T a b m n le looks = edits_more T a b (λ j. IsTrue (b.asked j)) (λ j. IsTrue (b.asked j)) m n (λ j h. h) le (edits_looked T a b (λ j. IsTrue (b.asked j)) m looks)

-- changes after looks
pub edits_after_look : (T : Type 0) (a b c : Paged) (m n k : ℕ) → m + n ≤ k → LooksAtPages T a b m → EditsPages T b c (λ j. IsTrue (c.asked j)) n → EditsPages T a c (λ j. IsTrue (c.asked j)) k
edits_after_look T a b c m n k le looks edits =
    edits_more T a c (λ j. IsTrue (b.asked j) ⊎ IsTrue (c.asked j)) (λ j. IsTrue (c.asked j)) (m + n) k (λ j h. elim h [ inl z ↦ edits.asked j z | inr z ↦ z ]) le
    (edits_then T a b c (λ j. IsTrue (b.asked j)) (λ j. IsTrue (c.asked j)) m n (edits_looked T a b (λ j. IsTrue (b.asked j)) m looks) edits)

pub pages_after_look : (T : Type 0) (a b c : Paged) (m n k : ℕ) → m + n ≤ k → LooksAtPages T a b m → ChangesPages T b c n → EditsPages T a c (λ j. IsTrue (c.asked j)) k
pages_after_look T a b c m n k le looks x = edits_after_look T a b c m n k le looks x.edits

pub pages_removed : (T : Type 0) (a b : Paged) (cache m : ℕ) → HasMeta a → RemovesRootPages T a b cache m → ChangesPages T a b m
pages_removed T a b cache m meta x =
    let n = number_there a Pages meta in
    let is = x.numbers.others Pages tt (λ e. absurd (cc e)) (λ e. absurd (cc e)) n.0 n.1 in
    record { edits = x.edits; meta = record { known = is.in_hand.known; asked = is.in_hand.asked; there = subst IsSome (sym is.in_hand.page) refl } }

-- two facts on a value, if there is one
pub if_ok_both : {A E : Type 0} (r : Result A E) (P : A → Type 0) (Q : Type 0) → IfOk r P → OnOk r Q → IfOk r (λ x. P x × Q)
if_ok_both (Ok x) P Q h k = (h, k)
if_ok_both (Err e) P Q h k = h
