-- Changes of data pages and of heads of buckets, one after the other.
use Rattle.std.proofs.Common.{◌≡◌, ℕ, ◌+◌, ◌<◌, ◌≤◌, ◌⊎◌, List, length, refl, sym, ap, subst, ◌∙◌, inl, inr, arith}
use Rattle.std.specs.Prelude.{IsSome, IfSome, IsTrue}
use Rattle.std.proofs.lemmas.Bool.{cases_eq}
use Rattle.pm_meta.specs.declared.slots.MetaSlot.{MetaSlot}
use Rattle.pm_meta.specs.declared.slots.MetaSlot.TheVariants.{Bucket, Pages}
use Rattle.pm_meta.specs.MetaPages.{field_of, IsMetaPage}
use Rattle.pm_data.specs.DataPages.{IsDataPage}
use Rattle.pm_pages.specs.Rows.{Partition, number_in, number_of, page_count}
use Rattle.pm_pages.specs.Paged.{Paged, IsThere, AllReadable}
use Rattle.pm_pages.specs.Edits.{LooksAtPages, EditsPages, HasMeta, IsNumberIn}
use Rattle.pm_pages.specs.SparePages.{SetsNumber, MetaBecomes}
use Rattle.pm_pages.proofs.EditedPages.{edits_looked, edits_then, edits_more, some_bytes}
use Rattle.pm_pages.proofs.TakenPages.{meta_looked}
use Rattle.pm_pages.proofs.SpareSteps.{number_by}
use Rattle.pm_pages.proofs.SoundPages.{sound_edited, sound_looked}
use Rattle.pm_free.specs.declared.edits.Edit.{Edit}
use Rattle.pm_free.specs.DataEdits.{IsDataIn, IsDataAt, EditsDataAt}
use Rattle.pm_free.specs.Changes.{ChangesData, EditsPartition, SetsHead}

-- what the pages say of the partition's numbers
pub number_told : (p : Paged) (slot : MetaSlot) (n : ℕ) → IsNumberIn p slot n → number_in p.pages slot ≡ n
number_told p slot n is = ap (λ o. number_of o slot) is.in_hand.page ∙ sym is.is

-- the meta page has each number
pub number_there : (p : Paged) (slot : MetaSlot) → HasMeta p → (n : ℕ) × IsNumberIn p slot n
number_there p slot meta = (let m = some_bytes (p.pages 0) meta.there in (field_of m.0 slot, record { meta = m.0; in_hand = record { known = meta.known; asked = meta.asked; page = m.1 }; is = refl }))

-- a look changes nothing where the store reports its pages
pub pages_told : (T : Type 0) (a b : Paged) (m : ℕ) → T → LooksAtPages T a b m → b.pages ≡ a.pages
pages_told T a b m t looks = λ k j. looks.pages j (inl t) k

number_back : (a b : Paged) (slot : MetaSlot) (n : ℕ) → HasMeta a → b.pages 0 ≡ a.pages 0 → IsNumberIn b slot n → IsNumberIn a slot n
number_back a b slot n meta same is = record { meta = is.meta; in_hand = record { known = meta.known; asked = meta.asked; page = sym same ∙ is.in_hand.page }; is = is.is }

-- the page count didn't fall
abbrev pub Rises : Paged → Paged → Type 0
Rises a b = (n : ℕ) → IsNumberIn b Pages n → (k : ℕ) × IsNumberIn a Pages k × (k ≤ n)

same_rises : (a b : Paged) → HasMeta a → b.pages 0 ≡ a.pages 0 → Rises a b
same_rises a b meta same n is = (n, number_back a b Pages n meta same is, omega arith)

pub in_other : (T : Type 0) (a b : Paged) (touched : ℕ → Type 0) (m j : ℕ) (page : List ℕ) → EditsPages T a b touched m → (touched j → ⊥) → IsDataIn a j page → IsDataIn b j page
in_other T a b touched m j page edits out is = record {
  in_hand = record { known = edits.known j is.in_hand.known; asked = edits.asked j is.in_hand.asked; page = edits.others j (inr is.in_hand.known) out ∙ is.in_hand.page };
  well_made = is.well_made;
  size = is.size ∙ sym edits.same.page_size;
}

-- a data page that wasn't touched
pub data_other : (T : Type 0) (a b : Paged) (touched : ℕ → Type 0) (m j : ℕ) → EditsPages T a b touched m → (touched j → ⊥) → Rises a b → IsDataAt a j → IsDataAt b j
data_other T a b touched m j edits out rises is = record {
  some = is.some;
  below = λ n number. (let k = rises n number in omega (arith, is.below k.0 k.1, k.2));
  page = is.page;
  is = in_other T a b touched m j is.page edits out is.is;
}

pub data_looked : (T : Type 0) (a b : Paged) (m j : ℕ) → HasMeta a → LooksAtPages T a b m → IsDataAt a j → IsDataAt b j
data_looked T a b m j meta looks is = data_other T a b (λ i. ⊥) m j (edits_looked T a b (λ i. ⊥) m looks) (λ h. h) (same_rises a b meta (looks.pages 0 (inr meta.known))) is

pub changes_looked : (T : Type 0) (a b : Paged) (m : ℕ) → HasMeta a → LooksAtPages T a b m → ChangesData T a b m (λ old new. new ≡ old)
changes_looked T a b m meta looks = record {
  edits = edits_looked T a b (λ j. IsTrue (b.asked j)) m looks;
  meta = meta_looked T a b m looks meta;
  stay = λ j is. data_looked T a b m j meta looks is;
  sound = λ t is. sound_looked T a b m t looks is;
  told = λ t. pages_told T a b m t looks;
}

-- changes one after the other
pub changes_then : (T : Type 0) (a b c : Paged) (m n : ℕ) (R S Q : Partition → Partition → Type 0) → ((x y z : Partition) → R x y → S y z → Q x z) → ChangesData T a b m R → ChangesData T b c n S → ChangesData T a c (m + n) Q
changes_then T a b c m n R S Q both x y = record {
  edits = edits_more T a c (λ j. IsTrue (b.asked j) ⊎ IsTrue (c.asked j)) (λ j. IsTrue (c.asked j)) (m + n) (m + n) (λ j h. elim h [ inl e ↦ y.edits.asked j e | inr e ↦ e ]) (omega arith)
      (edits_then T a b c (λ j. IsTrue (b.asked j)) (λ j. IsTrue (c.asked j)) m n x.edits y.edits);
  meta = y.meta;
  stay = λ j is. y.stay j (x.stay j is);
  sound = λ t is. y.sound t (x.sound t is);
  told = λ t. both a.pages b.pages c.pages (x.told t) (y.told t);
}

pub changes_as : (T : Type 0) (a b : Paged) (m n : ℕ) (R Q : Partition → Partition → Type 0) → m ≤ n → ((x y : Partition) → R x y → Q x y) → ChangesData T a b m R → ChangesData T a b n Q
changes_as T a b m n R Q le weaker x = record {
  edits = edits_more T a b (λ j. IsTrue (b.asked j)) (λ j. IsTrue (b.asked j)) m n (λ j h. h) le x.edits;
  meta = x.meta;
  stay = x.stay;
  sound = x.sound;
  told = λ t. weaker a.pages b.pages (x.told t);
}

-- a page is below the page count
pub below_count : (p : Paged) (i : ℕ) → HasMeta p → IsDataAt p i → i < page_count p.pages
below_count p i meta is = (let n = number_there p Pages meta in omega (arith, is.below n.0 n.1, number_told p Pages n.0 n.1))

-- a data page took a change
pub edits_page : (T : Type 0) (a b : Paged) (at : ℕ) (row : List ℕ) (edit : Edit) (item : ℕ) → HasMeta a → IsDataAt a at → EditsPages T a b (λ j. j ≡ at) 0 → EditsDataAt a b at row edit item → ChangesData T a b 0 (EditsPartition at row edit)
edits_page T a b at row edit item meta is edits takes =
    let away : at ≡ 0 → ⊥ = λ e. omega (arith, e, is.some) in
    let meta_same : b.pages 0 ≡ a.pages 0 = edits.others 0 (inr meta.known) (λ e. away (sym e)) in
    let same : takes.was ≡ is.page = cc (takes.before, is.is.in_hand.page) in
    record {
      edits = edits_more T a b (λ j. j ≡ at) (λ j. IsTrue (b.asked j)) 0 0 (λ j e. subst (λ i. IsTrue (b.asked i)) (sym e) (edits.asked at is.is.in_hand.asked)) (omega arith) edits;
      meta = record { known = edits.known 0 meta.known; asked = edits.asked 0 meta.asked; there = subst IsSome (sym meta_same) meta.there };
      stay = λ j was. elim (cases_eq j at) [
        | inl e ↦ subst (IsDataAt b) (sym e) (record {
          some = is.some;
          below = λ n number. is.below n (number_back a b Pages n meta meta_same number);
          page = takes.now;
          is = record {
            in_hand = record { known = edits.known at is.is.in_hand.known; asked = edits.asked at is.is.in_hand.asked; page = takes.after };
            well_made = takes.edits.well_made;
            size = takes.edits.size ∙ ap (λ (p : List ℕ). length p) same ∙ is.is.size ∙ sym edits.same.page_size;
          };
        })
        | inr ne ↦ data_other T a b (λ i. i ≡ at) 0 j edits ne (same_rises a b meta meta_same) was
      ];
      sound = λ t sound. sound_edited T a b (λ j. j ≡ at) 0 t edits
          (λ j e. subst (λ i. IsTrue (b.known i) × IsThere b i) (sym e) (edits.known at is.is.in_hand.known, subst IsSome (sym takes.after) refl))
          (ap (λ o. number_of o Pages) meta_same) sound;
      told = λ t. record {
        some = away;
        below = below_count a at meta is;
        was = takes.was;
        now = takes.now;
        before = takes.before;
        after = takes.after;
        others = λ j ne. edits.others j (inl t) ne;
        well_made = subst (λ (p : List ℕ). IsDataPage p) (sym same) is.is.well_made;
        edits = takes.edits;
      };
    }

-- a bucket got another first page
pub sets_head : (T : Type 0) (a b : Paged) (bucket index : ℕ) → HasMeta a → AllReadable a → AllReadable b → EditsPages T a b (λ j. j ≡ 0) 0 → MetaBecomes a b (λ was now. SetsNumber was now (Bucket bucket) index) → ChangesData T a b 0 (SetsHead bucket index)
sets_head T a b bucket index meta readable readable' edits sets =
    let meta' : HasMeta b = record { known = edits.known 0 meta.known; asked = edits.asked 0 meta.asked; there = subst IsSome (sym sets.after) refl } in
    record {
      edits = edits_more T a b (λ j. j ≡ 0) (λ j. IsTrue (b.asked j)) 0 0 (λ j e. subst (λ i. IsTrue (b.asked i)) (sym e) (edits.asked 0 meta.asked)) (omega arith) edits;
      meta = meta';
      stay = λ j is. data_other T a b (λ i. i ≡ 0) 0 j edits (λ e. omega (arith, e, is.some)) (λ n number.
          (let same : number.meta ≡ sets.now = cc (number.in_hand.page, sets.after) in
          let pages : field_of number.meta Pages ≡ field_of sets.was Pages = ap (λ (m : List ℕ). field_of m Pages) same ∙ sets.change.others Pages tt (λ e. cc e) in
          (field_of sets.was Pages, record { meta = sets.was; in_hand = record { known = meta.known; asked = meta.asked; page = sets.before }; is = refl }, omega (arith, number.is, pages)))) is;
      sound = λ t sound. sound_edited T a b (λ j. j ≡ 0) 0 t edits
          (λ j e. subst (λ i. IsTrue (b.known i) × IsThere b i) (sym e) (meta'.known, meta'.there))
          (number_by b.pages Pages sets.now sets.after ∙ sets.change.others Pages tt (λ e. cc e) ∙ sym (number_by a.pages Pages sets.was sets.before)) sound;
      told = λ t. record {
        was = sets.was;
        now = sets.now;
        before = sets.before;
        after = sets.after;
        others = λ j ne. edits.others j (inl t) ne;
        well_made = subst (λ o. IfSome o IsMetaPage) sets.before (readable.each 0 meta.known);
        well_made_now = subst (λ o. IfSome o IsMetaPage) sets.after (readable'.each 0 meta'.known);
        sets = sets.change;
      };
    }

pub meta_is : (T : Type 0) (a b : Paged) (m : ℕ) → HasMeta a → LooksAtPages T a b m → HasMeta b
meta_is T a b m meta looks = meta_looked T a b m looks meta

-- more is known of what changed, where the store reports its pages
pub changes_told : (T : Type 0) (a b : Paged) (m : ℕ) (R Q : Partition → Partition → Type 0) → ChangesData T a b m R → (T → Q a.pages b.pages) → ChangesData T a b m Q
changes_told T a b m R Q x told = record { edits = x.edits; meta = x.meta; stay = x.stay; sound = x.sound; told = told }
