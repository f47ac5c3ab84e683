-- Changes of rows, one after the other.
use Rattle.std.proofs.Common.{◌≡◌, ℕ, ◌+◌, ◌<◌, ◌≤◌, ◌⊎◌, List, [], refl, sym, ap, subst, ◌∙◌, inl, inr, arith}
use Rattle.std.specs.Prelude.{Some, IsSome, IsTrue}
use Rattle.std.proofs.lemmas.Bool.{cases_eq}
use Rattle.pm_types.specs.declared.page_id.Link.{Link}
use Rattle.pm_types.specs.Ids.{page_id, link}
use Rattle.pm_data.specs.DataPages.{DataPage, rows_of, free_item}
use Rattle.pm_data.proofs.RowsByItem.{length-rows_of}
use Rattle.pm_pages.specs.Passes.{Passes}
use Rattle.pm_pages.specs.Rows.{Partition, page_count}
use Rattle.pm_pages.specs.Chains.{bucket_of}
use Rattle.pm_pages.specs.Paged.{Paged, IsThere}
use Rattle.pm_pages.specs.Edits.{LooksAtPages, EditsPages, HasMeta}
use Rattle.pm_pages.specs.StoredPages.{IsStored, IsStoredPage, KeepsStored}
use Rattle.pm_pages.specs.SpareChains.{MovesSpare}
use Rattle.pm_pages.proofs.EditedPages.{edits_looked, edits_then, edits_more}
use Rattle.pm_pages.proofs.TakenPages.{meta_looked}
use Rattle.pm_pages.proofs.SoundPages.{sound_looked, sound_edited}
use Rattle.pm_pages.proofs.SpareRoom.{can_take_less, can_take_looked}
use Rattle.pm_pages.proofs.PassingPages.{there_still}
use Rattle.pm_pages.proofs.PassingLooks.{page_passes}
use Rattle.pm_pages.proofs.StoredPages.{meta_there, all_stored, stored_looked}
use Rattle.pm_pages.proofs.ToldPages.{pages_told}
use Rattle.pm_free.specs.declared.edits.Edit.TheVariants.{Insert, Remove}
use Rattle.pm_free.specs.declared.seats.Seat.{Seat}
use Rattle.pm_free.specs.Seats.{IsSeatIn}
use Rattle.pm_free.specs.Chained.{SettlesPage}
use Rattle.pm_free.specs.Changes.{ChangesData, EditsPartition}
use Rattle.pm_free.specs.Placed.{ChangesRows, HasItemAt, PlacesRow, TakesRow}
use Rattle.pm_free.specs.Sound.{KeepsSound}
use Rattle.pm_free.proofs.SpareRows.{leaves_spare}
use Rattle.pm_free.proofs.Changed.{below_count, changes_then}
use Rattle.pm_free.proofs.Views.{data_home}
use Rattle.pm_free.proofs.Passing.{passes_at, at_passes, data_stored}
use Rattle.pm_part.specs.declared.spots.Spot.{Spot}
use Rattle.pm_part.specs.Changes.{WritesOver}
use Rattle.pm_part.specs.Puts.{OverwritesRow}
use Rattle.pm_part.proofs.FreedRoom.{is_live}
use Rattle.pm_part.proofs.Swaps.{pages_over}
use Rattle.pm_part.proofs.OverwrittenRows.{first_stays, count_stays, well_made, overwritten, overwritten_moves}
use Rattle.pm_part.proofs.SwappedRows.{swapped_rows, swapped_moves, moved_rows}

pub rows_both : (T : Type 0) (a b c : Paged) (m n k more more' all : ℕ) (R S Q : Partition → Partition → Type 0) → m + n ≤ k → more + more' ≤ all → (R a.pages b.pages → S b.pages c.pages → Q a.pages c.pages) → ChangesRows T a b m more R → ChangesRows T b c n more' S → ChangesRows T a c k all Q
rows_both T a b c m n k more more' all R S Q le few both x y = record {
  edits = edits_more T a c (λ j. IsTrue (b.asked j) ⊎ IsTrue (c.asked j)) (λ j. IsTrue (c.asked j)) (m + n) k (λ j h. elim h [ inl z ↦ y.edits.asked j z | inr z ↦ z ]) le
      (edits_then T a b c (λ j. IsTrue (b.asked j)) (λ j. IsTrue (c.asked j)) m n x.edits y.edits);
  meta = y.meta;
  sound = λ t is. y.sound t (x.sound t is);
  takes = λ t limit left can. y.takes t limit left (x.takes t limit (more' + left) (can_take_less limit a (all + left) (more + (more' + left)) (omega (arith, few)) can));
  told = λ t. both (x.told t) (y.told t);
}

pub rows_looked : (T : Type 0) (a b : Paged) (m : ℕ) → HasMeta a → LooksAtPages T a b m → ChangesRows T a b m 0 (λ old new. new ≡ old)
rows_looked T a b m meta looks = record {
  edits = edits_looked T a b (λ j. IsTrue (b.asked j)) m looks;
  meta = meta_looked T a b m looks meta;
  sound = λ t is. sound_looked T a b m t looks is;
  takes = λ t limit left can. can_take_looked T a b m t looks limit left (can_take_less limit a (0 + left) left (omega arith) can);
  told = λ t. pages_told T a b m t looks;
}

-- a row took the place of another one, and before that pages were looked at
pub rows_overwritten : (T : Type 0) (a b c : Paged) (n k more all : ℕ) (spot : Spot) (row : List ℕ) (at_link : Link) → n ≤ k → more ≤ all → HasMeta a → LooksAtPages T a b 0
    → ChangesRows T b c n more (λ old new. OverwritesRow b.part old new spot row at_link) → ChangesRows T a c k all (λ old new. OverwritesRow a.part old new spot row at_link)
rows_overwritten T a b c n k more all spot row at_link le few meta looks x =
    rows_both T a b c 0 n k 0 more all (λ old new. new ≡ old) (λ old new. OverwritesRow b.part old new spot row at_link) (λ old new. OverwritesRow a.part old new spot row at_link) (omega (arith, le)) (omega (arith, few))
    (λ same rows. subst (λ (q : ℕ × Partition). OverwritesRow q.0 q.1 c.pages spot row at_link) {x = (b.part, b.pages)} {y = (a.part, a.pages)} (λ i. (looks.same.part i, same i)) rows)
    (rows_looked T a b 0 meta looks) x

-- a row was written over one that has as many bytes
module _ (T : Type 0) (a b : Paged) (spot : Spot) (row : List ℕ) (meta : HasMeta a) (has : HasItemAt a spot.at spot.item) (changes : EditsPages T a b (λ j. j ≡ spot.at) 0) (over : WritesOver a b spot.at spot.item row) where
  over_sound : KeepsSound T a b
  over_sound t is = sound_edited T a b (λ j. j ≡ spot.at) 0 t changes
      (λ j e. subst (λ i. IsTrue (b.known i) × IsThere b i) (sym e) (changes.known spot.at has.is.is.in_hand.known, subst IsSome (sym over.after) refl))
      (count_stays T a b spot row t meta has changes over) is

  pub rows_over : ChangesRows T a b 0 0 (λ old new. OverwritesRow a.part old new spot row (link (page_id a.part spot.at) spot.item))
  rows_over =
      let pages = pages_over T a b spot.at spot.item meta has changes in
      record {
        edits = pages.edits;
        meta = pages.meta;
        sound = over_sound;
        takes = leaves_spare T a b 0 (λ old new. MovesSpare old new [] []) (λ old new moves. ([], [], moves, omega arith)) over_sound (λ t. overwritten_moves T a b spot row t meta has changes over);
        told = λ t. overwritten T a b spot row t meta has changes over;
      }

  pub over_stored : T → IsStored a → IsStored b
  over_stored t stored =
      let at = spot.at in
      let lt : at < page_count a.pages = below_count a at meta has.is in
      let page : Passes a.page_size a.max_rows (page_id a.part at) over.was = at_passes a.page_size a.max_rows a.part at over.was has.is.some (page_passes a at over.was stored.all lt over.before) in
      let was = data_stored a.page_size a.max_rows (page_id a.part at) over.was (well_made T a b spot row t meta has changes over).head.kind page in
      let count = count_stays T a b spot row t meta has changes over in
      let here : IsStoredPage b at = (
        over.now,
        over.after,
        passes_at b.page_size b.max_rows b.part at over.now has.is.some (record {
          size = over.size ∙ page.size ∙ sym changes.same.page_size;
          kind = inr (inr (inl (record {
            own = ap (λ (d : DataPage). d.id) over.adds.says ∙ was.own ∙ ap (λ n. page_id n at) (sym changes.same.part);
            some = omega (arith, length-rows_of over.now, is_live (rows_of over.now) spot.item row over.adds.here);
            well_made = over.adds.well_made;
          })));
        }),
      ) in
      all_stored T a b (λ j. j ≡ at) 0 t changes (λ j. cases_eq j at)
      (there_still a b changes.same 0 (first_stays T a b spot row t meta has changes over) (meta_there a stored.all (omega (arith, lt))))
      (λ part j some few e. subst (IsStoredPage b) (sym e) here) (λ j below. inl (omega (arith, below, count))) stored

-- a row was taken out of a page and another one put in, and the page then stood in the chain for its room
pub rows_swapped : (T : Type 0) (b d e f : Paged) (spot : Spot) (n : ℕ) (row : List ℕ) (has : HasItemAt b spot.at spot.item) → ChangesData T b d 0 (EditsPartition spot.at [] (Remove spot.item)) → ChangesData T d e 0 (EditsPartition spot.at row Insert)
    → (was : List ℕ) → d.pages spot.at ≡ Some was → n ≡ free_item (rows_of was) → (seat : Seat) → IsSeatIn b spot.at seat → ChangesData T e f 3 (λ old new. SettlesPage old new spot.at seat.bucket)
    → ChangesRows T b f 3 0 (λ old new. OverwritesRow b.part old new spot row (link (page_id b.part spot.at) n))
rows_swapped T b d e f spot n row has out put was there n_is seat is settles =
    let at = spot.at in
    let x = changes_then T b d e 0 0 _ _ (λ old new. Unit {0}) (λ p q r h k. tt) out put in
    let y = changes_then T b e f 0 3 _ _ (λ old new. Unit {0}) (λ p q r h k. tt) x settles in
    let same : is.page ≡ has.is.page = cc (is.is.in_hand.page, has.is.is.in_hand.page) in
    let bucket_is = is.says.room ∙ ap bucket_of same ∙ sym (data_home has.is.page has.is.is.well_made) in
    record {
      edits = edits_more T b f (λ j. IsTrue (f.asked j)) (λ j. IsTrue (f.asked j)) (0 + 3) 3 (λ j h. h) (omega arith) y.edits;
      meta = settles.meta;
      sound = y.sound;
      takes = leaves_spare T b f 0 (λ old new. MovesSpare old new [] []) (λ old new moves. ([], [], moves, omega arith)) y.sound (λ t. swapped_moves b.pages d.pages e.pages f.pages spot seat.bucket row has.is.page (out.told t) (put.told t) (settles.told t) has.is.is.in_hand.page bucket_is);
      told = λ t.
          (let put_t = put.told t in
          let was_is : was ≡ put_t.was = cc (there, put_t.before) in
          swapped_rows b.part b.pages d.pages e.pages f.pages spot n seat.bucket row has.row has.is.page (out.told t) put_t (settles.told t) has.is.is.in_hand.page bucket_is has.live (n_is ∙ ap (λ p. free_item (rows_of p)) was_is));
    }

-- a row was taken out and another one placed
pub rows_moved : (T : Type 0) (b d e : Paged) (spot : Spot) (row : List ℕ) (old new : Link) → old ≡ link (page_id b.part spot.at) spot.item → ChangesRows T b d 3 0 (λ x y. TakesRow b.part x y old) → ChangesRows T d e 4 1 (λ x y. PlacesRow d.page_size d.part x y row new) → ChangesRows T b e 7 1 (λ x y. OverwritesRow b.part x y spot row new)
rows_moved T b d e spot row old new old_is takes places =
    rows_both T b d e 3 4 7 0 1 1 _ _ _ (omega arith) (omega arith)
    (λ taken placed. moved_rows d.page_size b.part b.pages d.pages e.pages spot row old new old_is taken (subst (λ (n : ℕ). PlacesRow d.page_size n d.pages e.pages row new) takes.edits.same.part placed)) takes places

-- pages pass their checks still, after pages were looked at
pub keeps_looked : (T : Type 0) (a b c : Paged) (m n : ℕ) → T → LooksAtPages T a b m → KeepsStored b c n → KeepsStored a c n
keeps_looked T a b c m n t looks keeps limit small can stored = keeps limit (omega (arith, small, looks.same.max_rows)) (can_take_looked T a b m t looks limit n can) (stored_looked T a b m t looks stored)

-- pages pass their checks still, where a row was taken out and another one placed
pub keeps_moved : (T : Type 0) (b d e : Paged) (m : ℕ) (R : Partition → Partition → Type 0) → T → ChangesRows T b d m 0 R → (IsStored b → IsStored d) → KeepsStored d e 1 → KeepsStored b e 1
keeps_moved T b d e m R t takes stays keeps limit small can stored = keeps limit (omega (arith, small, takes.edits.same.max_rows)) (takes.takes t limit 1 (can_take_less limit b 1 (0 + 1) (omega arith) can)) (stays stored)
