-- Rows that were read, and links that name none.
use Rattle.std.proofs.Common.{◌≡◌, ℕ, ◌+◌, ◌*◌, ◌%◌, ◌<◌, ◌≤◌, List, [], ◌∷◌, Option, Some, None, length, refl, sym, ap, subst, ◌∙◌, inl, inr, arith}
use Rattle.std.specs.Prelude.{◌^◌, Result, Err, IfSome, IsSome, IsTrue, is_some}
use Rattle.pm_types.specs.declared.page_id.PageId.{PageId}
use Rattle.pm_types.specs.declared.page_id.Link.{Link}
use Rattle.pm_types.specs.declared.fault.PageFault.{PageFault}
use Rattle.pm_types.specs.declared.fault.PageFault.TheVariants.{BadPage}
use Rattle.pm_types.specs.Ids.{page_id, link, page_of_link, item_of_link, index_of_id}
use Rattle.pm_data.specs.Rows.{row_value}
use Rattle.pm_model.specs.declared.reply.Reply.TheVariants.{Found}
use Rattle.pm_model.specs.ReplyLists.{ReplyList, with_replies}
use Rattle.pm_meta.specs.declared.slots.MetaSlot.TheVariants.{Pages}
use Rattle.pm_pages.specs.Paged.{Paged, AsksPage, IsInHand, IsBadPage, HasPageCause}
use Rattle.pm_pages.specs.Edits.{LooksAtPages, HasMeta, IsNumberIn}
use Rattle.pm_pages.proofs.TakenPages.{meta_looked}
use Rattle.pm_tree.specs.Indexes.{as_link}
use Rattle.pm_free.specs.declared.edits.Edit.TheVariants.{Remove}
use Rattle.pm_free.specs.DataEdits.{TakesEdit}
use Rattle.pm_free.specs.Placed.{HasItemAt, HasRowAt}
use Rattle.pm_part.specs.declared.entries.Entry.{Entry}
use Rattle.pm_part.specs.declared.spots.Spot.{Spot}
use Rattle.pm_part.specs.Entries.{IsEntryIn}
use Rattle.pm_part.specs.Spots.{IsRowOn, LeadsTo, HasRowIn, HasNoRowIn, NamesNoRow, PushesValue}
use Rattle.pm_part.specs.Faults.{HasPartCause, IsFaultOfGet}
use Rattle.pm_part.proofs.KeyWays.{way_looked, place_looked}
use Rattle.pm_part.proofs.PartCauses.{cause_looked, cause_page, cause_named}

pub some_of : {A : Type 0} (o : Option A) (P : A → Type 0) → IfSome o P → IsTrue (is_some o) → (x : A) × P x
some_of None P h some = absurd (cc some)
some_of (Some x) P h some = (x, h)

-- the page count is as it was where the meta page is
pub below_same : (a b : Paged) (at : ℕ) → HasMeta a → b.pages 0 ≡ a.pages 0 → ((n : ℕ) → IsNumberIn a Pages n → at < n) → (n : ℕ) → IsNumberIn b Pages n → at < n
below_same a b at meta same below n is = below n (record { meta = is.meta; in_hand = record { known = meta.known; asked = meta.asked; page = sym same ∙ is.in_hand.page }; is = is.is })

pub has_row_in : (T : Type 0) (a b : Paged) (spot : Spot) (cache : ℕ) (key page row : List ℕ) → HasMeta a → 1 ≤ spot.at → ((n : ℕ) → IsNumberIn a Pages n → spot.at < n) → AsksPage T a b spot.at → IsInHand b spot.at page → length page ≡ a.page_size → IsRowOn page spot.item cache key row → HasRowIn b spot cache key
has_row_in T a b spot cache key page row meta some below asks in_hand size is = record {
  some = some;
  below = below_same a b spot.at meta (asks.pages 0 (inr meta.known)) below;
  page = page;
  in_hand = in_hand;
  size = size ∙ sym asks.same.page_size;
  row = row;
  is = is;
}

-- an entry is there still after looks
pub entry_looked : (T : Type 0) (a b : Paged) (m cache : ℕ) (key : List ℕ) (entry : Entry) → LooksAtPages T a b m → IsEntryIn a cache key entry → IsEntryIn b cache key entry
entry_looked T a b m cache key entry looks is = record {
  meta = meta_looked T a b m looks is.meta;
  reached = record { levels = is.reached.levels; from = is.reached.from; way = way_looked T a b m cache key is.reached.levels is.reached.from entry.leaf looks is.reached.way };
  below = below_same a b entry.leaf is.meta (looks.pages 0 (inr is.meta.known)) is.below;
  place = place_looked T a b m entry.leaf key _ looks is.place;
}

-- the link of an entry names no row
pub wrong_link : {R : Type 0} (T : Type 0) (a d : Paged) (m cache : ℕ) (key : List ℕ) (entry : Entry) (part : ℕ) (id : PageId) (r : Result R PageFault) → LooksAtPages T a d m → IsEntryIn a cache key entry → NamesNoRow d (as_link entry.word) cache key → part ≡ d.part → id ≡ page_id part entry.leaf → r ≡ Err (BadPage id) → HasPartCause T a d (IsFaultOfGet T d cache key) r
wrong_link T a d m cache key entry part id r looks is wrong part_is id_is err =
    cause_named T a d (IsFaultOfGet T d cache key) id r err (inr (inr (record {
      entry = entry;
      name = id_is ∙ ap (λ n. page_id n entry.leaf) part_is;
      is = entry_looked T a d m cache key entry looks is;
      wrong = wrong;
    })))

-- the page that the link of an entry names is bad
pub bad_row_page : {R : Type 0} (T : Type 0) (a b d : Paged) (m n cache count : ℕ) (key : List ℕ) (entry : Entry) (spot : Spot) (r : Result R PageFault) → LooksAtPages T a b m → LooksAtPages T b d n → IsEntryIn a cache key entry → LeadsTo (as_link entry.word) b.part count spot → HasPageCause T b d.faults spot.at r → HasPartCause T a d (IsFaultOfGet T d cache key) r
bad_row_page T a b d m n cache count key entry spot r before looks is leads cause =
    cause_looked T a b d m (IsFaultOfGet T d cache key) r before (cause_page T b d (IsFaultOfGet T d cache key) spot.at r (λ id bad. inr (inl (record {
      entry = entry;
      is = entry_looked T b d n cache key entry looks (entry_looked T a b m cache key entry before is);
      bad = subst (λ i. IsBadPage T b i id) (sym leads.index) bad;
    }))) cause)

-- an item that a link names is no row
pub names_no_row : (p : Paged) (entry : Entry) (spot : Spot) (cache count : ℕ) (key : List ℕ) → LeadsTo (as_link entry.word) p.part count spot → HasNoRowIn p spot.at spot.item cache key → NamesNoRow p (as_link entry.word) cache key
names_no_row p entry spot cache count key leads none =
    inr (subst (λ (q : ℕ × ℕ). HasNoRowIn p q.0 q.1 cache key) {x = (spot.at, spot.item)} {y = (index_of_id (page_of_link (as_link entry.word)), item_of_link (as_link entry.word))} (λ k. (sym leads.index k, sym leads.item k)) none)

-- the row is that of an item of a data page
pub item_of : (p : Paged) (spot : Spot) (cache : ℕ) (key : List ℕ) → HasRowIn p spot cache key → HasItemAt p spot.at spot.item
item_of p spot cache key has = record {
  is = record { some = has.some; below = has.below; page = has.page; is = record { in_hand = has.in_hand; well_made = has.is.well_made; size = has.size } };
  row = has.row;
  live = has.is.live;
}

-- the value of a row that was read was appended
pub pushes : (T : Type 0) (a b : Paged) (spot : Spot) (cache : ℕ) (key page row : List ℕ) (was now : ReplyList) → HasMeta a → 1 ≤ spot.at → ((n : ℕ) → IsNumberIn a Pages n → spot.at < n) → AsksPage T a b spot.at → IsInHand b spot.at page → length page ≡ a.page_size → IsRowOn page spot.item cache key row
    → now ≡ with_replies (Found (row_value row) ∷ []) was → PushesValue b spot cache key was now
unfolding has_row_in
pushes T a b spot cache key page row was now meta some below asks in_hand size is pushed = record { has = has_row_in T a b spot cache key page row meta some below asks in_hand size is; pushed = pushed }

-- an item is there still after a page was asked for
pub item_asked : (T : Type 0) (a b : Paged) (i item : ℕ) → HasMeta a → HasItemAt a i item → AsksPage T a b i → HasItemAt b i item
item_asked T a b i item meta has asks = record {
  is = record {
    some = has.is.some;
    below = below_same a b i meta (asks.pages 0 (inr meta.known)) has.is.below;
    page = has.is.page;
    is = record {
      in_hand = record { known = asks.known i has.is.is.in_hand.known; asked = asks.room.others i has.is.is.in_hand.asked; page = asks.pages i (inr has.is.is.in_hand.known) ∙ has.is.is.in_hand.page };
      well_made = has.is.is.well_made;
      size = has.is.is.size ∙ sym asks.same.page_size;
    };
  };
  row = has.row;
  live = has.live;
}

pub item_looked : (T : Type 0) (a b : Paged) (m i item : ℕ) → HasMeta a → HasItemAt a i item → LooksAtPages T a b m → HasItemAt b i item
item_looked T a b m i item meta has looks = record {
  is = record {
    some = has.is.some;
    below = below_same a b i meta (looks.pages 0 (inr meta.known)) has.is.below;
    page = has.is.page;
    is = record {
      in_hand = record { known = looks.known i has.is.is.in_hand.known; asked = looks.asked i has.is.is.in_hand.asked; page = looks.pages i (inr has.is.is.in_hand.known) ∙ has.is.is.in_hand.page };
      well_made = has.is.is.well_made;
      size = has.is.is.size ∙ sym looks.same.page_size;
    };
  };
  row = has.row;
  live = has.live;
}

pub takes_remove : (p : Paged) (i item : ℕ) → HasItemAt p i item → TakesEdit p i [] (Remove item)
takes_remove p i item has = record { some = has.is.some; page = has.is.page; is = has.is.is; fits = subst IsSome (sym has.live) refl }

-- an item is named by its link
pub row_at_link : (p : Paged) (at item : ℕ) (at_link : Link) → at_link ≡ link (page_id p.part at) item → p.part < 2 ^ 16 → at < 2 ^ 32 → item < 2 ^ 8 → HasItemAt p at item → HasRowAt p at_link
row_at_link p at item at_link is part_fits at_fits item_fits has =
    let word : at_link.0 ≡ item * 2 ^ 56 + (2 ^ 48 + p.part * 2 ^ 32 + at) % 2 ^ 56 = ap (λ (l : Link). l.0) is in
    let page : at_link.0 % 2 ^ 56 ≡ 2 ^ 48 + p.part * 2 ^ 32 + at = omega (arith, word, part_fits, at_fits, item_fits) in
    let index : index_of_id (page_of_link at_link) ≡ at = omega (arith, page, part_fits, at_fits) in
    let number : item_of_link at_link ≡ item = omega (arith, word, part_fits, at_fits, item_fits) in
    record {
      name = (λ k. record { 0 = page k }) ∙ ap (page_id p.part) (sym index);
      item = subst (λ (q : ℕ × ℕ). HasItemAt p q.0 q.1) {x = (at, item)} {y = (index_of_id (page_of_link at_link), item_of_link at_link)} (λ k. (sym index k, sym number k)) has;
    }

-- the row of a key is there still after looks
pub row_looked : (T : Type 0) (a b : Paged) (m : ℕ) (spot : Spot) (cache : ℕ) (key : List ℕ) → HasMeta a → LooksAtPages T a b m → HasRowIn a spot cache key → HasRowIn b spot cache key
row_looked T a b m spot cache key meta looks has = record {
  some = has.some;
  below = below_same a b spot.at meta (looks.pages 0 (inr meta.known)) has.below;
  page = has.page;
  in_hand = record { known = looks.known spot.at has.in_hand.known; asked = looks.asked spot.at has.in_hand.asked; page = looks.pages spot.at (inr has.in_hand.known) ∙ has.in_hand.page };
  size = has.size ∙ sym looks.same.page_size;
  row = has.row;
  is = has.is;
}
