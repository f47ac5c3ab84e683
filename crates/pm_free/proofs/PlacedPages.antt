-- The steps of placing a row and of taking one out, over pages that are asked for one at a time.
use Rattle.std.proofs.Common.{◌≡◌, ◌≢◌, ℕ, ◌+◌, ◌-◌, ◌*◌, ◌%◌, ◌^◌, ◌<◌, ◌≤◌, ◌⊎◌, List, [], ◌∷◌, length, refl, sym, ap, subst, ◌∙◌, inl, inr, arith}
use Rattle.std.specs.Prelude.{Option, Some, IsSome, IsTrue, Result, Ok, Err, OnOk, IsErrOf}
use Rattle.std.proofs.Math.Nat.{div-mul-le_self}
use Rattle.pm_types.specs.Ids.{page_id, link, page_of_link, item_of_link, index_of_id}
use Rattle.pm_types.specs.declared.page_id.PageId.{PageId}
use Rattle.pm_types.specs.declared.page_id.Link.{Link}
use Rattle.pm_types.specs.declared.fault.PageFault.{PageFault}
use Rattle.pm_types.specs.declared.fault.PageFault.TheVariants.{BadPage}
use Rattle.pm_data.specs.Rows.{IsRow}
use Rattle.pm_data.specs.DataPages.{DataPage, data_of, rows_of, row_at, room_of, room_beside, with_rows, empty_page, free_item, HasRoomFor, IsDataPage}
use Rattle.pm_data.proofs.RowsByItem.{room_is}
use Rattle.pm_meta.specs.declared.layout.TheConstants.{BUCKETS}
use Rattle.pm_meta.specs.declared.slots.MetaSlot.TheVariants.{Bucket, Pages}
use Rattle.pm_meta.specs.MetaPages.{field_of}
use Rattle.pm_pages.specs.Rows.{Partition, bytes_of, page_at, page_count, number_in}
use Rattle.pm_pages.specs.Chains.{bucket_of}
use Rattle.pm_pages.specs.Paged.{Paged, IsThere, AllReadable, HasGapCause}
use Rattle.pm_pages.specs.Edits.{LooksAtPages, EditsPages, HasMeta}
use Rattle.pm_pages.specs.SparePages.{TakesPage, GivesPage, IsMetaOr, HasTakeCause}
use Rattle.pm_pages.proofs.EditedPages.{edits_looked, edits_then, edits_more, some_bytes}
use Rattle.pm_pages.proofs.PageReads.{page_at-below}
use Rattle.pm_free.specs.declared.edits.Edit.TheVariants.{Insert, Remove}
use Rattle.pm_free.specs.declared.buckets.Head.{Head}
use Rattle.pm_free.specs.declared.seats.Seat.{Seat}
use Rattle.pm_free.specs.DataEdits.{IsDataIn, IsDataAt, TakesEdit, EditsDataAt, IsEmptyIn, item_in, edited}
use Rattle.pm_free.specs.Buckets.{HasEnough, IsHeadFor, IsHeadIn, HasNoHeadFor}
use Rattle.pm_free.specs.Seats.{IsSeatIn}
use Rattle.pm_free.specs.Chained.{home_of, homes_in, MovesPage, SettlesPage}
use Rattle.pm_free.specs.Changes.{ChangesData, EditsPartition}
use Rattle.pm_free.specs.Causes.{HasChainCause}
use Rattle.pm_free.specs.Placed.{HasNoneBelow, PlacesRow, TakesRow, DropsPage, ChangesRows, IsFilledIn, HasRowAt, HasItemAt}
use Rattle.pm_free.proofs.Changed.{number_told, pages_told, below_count, edits_page, changes_told, changes_then, changes_looked, data_looked, meta_is}
use Rattle.pm_free.proofs.ChainCauses.{fault_looked, fault_now}
use Rattle.pm_free.proofs.Views.{data_home}
use Rattle.pm_free.proofs.NewPages.{Filled, filled, placed_new, drops_page}
use Rattle.pm_free.specs.Sound.{KeepsSound}
use Rattle.pm_free.proofs.SpareRows.{TakesFew, places_few, drops_few, leaves_spare}
use Rattle.pm_pages.specs.SoundPages.{IsSound}
use Rattle.pm_pages.proofs.SoundPages.{sound_edited, sound_grown, sound_looked}
use Rattle.pm_pages.proofs.SpareRoom.{can_take_looked}
use Rattle.pm_pages.proofs.SpareSteps.{number_by}
use Rattle.std.proofs.lemmas.Bool.{cases_lt}
use Rattle.pm_free.proofs.PlacedRows.{placed_on, taken_kept, taken_dropped}

-- a page of a bucket has room for a row for which the bucket's pages have
pub head_fits : (page : List ℕ) (bucket len : ℕ) → bucket_of page ≡ bucket → HasEnough (length page) len bucket → HasRoomFor page len
head_fits page bucket len is enough =
    let back : bucket_of page * length page ≤ room_of page * 16 = div-mul-le_self (room_of page * 16) (length page) in
    let back' : bucket * length page ≤ room_of page * 16 = subst (λ n. n * length page ≤ room_of page * 16) is back in
    omega (arith, back', enough)

pub head_takes : (a b : Paged) (head : Head) (row : List ℕ) → b.page_size ≡ a.page_size → IsRow row → IsHeadFor a (length row) head → IsHeadIn b head.at head.bucket → TakesEdit b head.at row Insert
head_takes a b head row size is_row for_row is = record {
  some = is.some;
  page = is.page;
  is = is.is;
  fits = (is_row, head_fits is.page head.bucket (length row) is.room (subst (λ n. HasEnough n (length row) head.bucket) (sym (is.is.size ∙ size)) for_row.enough));
}

pub head_data : (p : Paged) (i bucket : ℕ) → IsHeadIn p i bucket → IsDataAt p i
head_data p i bucket is = record { some = is.some; below = is.below; page = is.page; is = is.is }

-- an empty page has room for every row
pub empty_fits : (page : List ℕ) (id : PageId) (row : List ℕ) → IsDataPage page → data_of page ≡ empty_page id → IsRow row → HasRoomFor page (length row)
empty_fits page id row is says is_row =
    let rows : rows_of page ≡ [] = ap (λ (d : DataPage). d.rows) says in
    let room : room_of page ≡ length page - 32 = room_is page is.rows ∙ ap (room_beside (length page)) rows ∙ omega arith in
    let long : 1024 ≤ length page = elim is.size [ inl e ↦ omega (arith, e) | inr r ↦ elim r [ inl e ↦ omega (arith, e) | inr r2 ↦ elim r2 [ inl e ↦ omega (arith, e) | inr r3 ↦ elim r3 [ inl e ↦ omega (arith, e) | inr e ↦ omega (arith, e) ] ] ] ] in
    omega (arith, room, long, is_row.exact, is_row.short_key, is_row.short_value)

pub empty_takes : (p : Paged) (i : ℕ) (id : PageId) (row : List ℕ) → 1 ≤ i → IsEmptyIn p i id → IsRow row → TakesEdit p i row Insert
empty_takes p i id row some empty is_row = record { some = some; page = empty.page; is = empty.is; fits = (is_row, empty_fits empty.page id row empty.is.well_made empty.says is_row) }

-- the page with its row
pub fills_page : (T : Type 0) (a b d : Paged) (i item : ℕ) (row : List ℕ) → EditsPages T a b (λ j. j ≡ i) 0 → EditsPages T b d (λ j. j ≡ i) 0 → IsEmptyIn b i (page_id a.part i) → EditsDataAt b d i row Insert item → IsFilledIn d i row item
fills_page T a b d i item row first edits empty takes =
    let same : takes.was ≡ empty.page = cc (takes.before, empty.is.in_hand.page) in
    let says : data_of takes.was ≡ empty_page (page_id a.part i) = ap data_of same ∙ empty.says in
    record {
      page = takes.now;
      is = record {
        in_hand = record { known = edits.known i empty.is.in_hand.known; asked = edits.asked i empty.is.in_hand.asked; page = takes.after };
        well_made = takes.edits.well_made;
        size = takes.edits.size ∙ ap (λ (p : List ℕ). length p) same ∙ empty.is.size ∙ sym edits.same.page_size;
      };
      first = takes.item_is ∙ ap (λ (d : DataPage). item_in d Insert) says;
      says = takes.edits.says ∙ ap (λ (s : DataPage). edited s row Insert) says ∙ ap (λ p. with_rows (empty_page (page_id p i)) (Some row ∷ [])) (sym (edits.same.part ∙ first.same.part));
    }

pub edits_twice : (T : Type 0) (a b d : Paged) (i : ℕ) → EditsPages T a b (λ j. j ≡ i) 0 → EditsPages T b d (λ j. j ≡ i) 0 → EditsPages T a d (λ j. j ≡ i) 0
edits_twice T a b d i x y = edits_more T a d (λ j. (j ≡ i) ⊎ (j ≡ i)) (λ j. j ≡ i) 0 0 (λ j h. elim h [ inl e ↦ e | inr e ↦ e ]) (omega arith) (edits_then T a b d (λ j. j ≡ i) (λ j. j ≡ i) 0 0 x y)

-- a page that was taken and filled is a data page at hand
pub filled_data : (T : Type 0) (a b d : Paged) (n i item : ℕ) (row : List ℕ) → TakesPage T a b n i → EditsPages T b d (λ j. j ≡ i) 0 → IsFilledIn d i row item → IsDataAt d i
filled_data T a b d n i item row takes edits fills =
    let same : d.pages 0 ≡ b.pages 0 = edits.others 0 (inr takes.meta.known) (λ e. omega (arith, e, takes.some)) in
    record {
      some = takes.some;
      below = λ k number.
          (let meta : number.meta ≡ takes.numbers.now = cc (number.in_hand.page, same, takes.numbers.after) in
          let count : field_of number.meta Pages ≡ field_of takes.numbers.now Pages = ap (λ (m : List ℕ). field_of m Pages) meta in
          elim takes.numbers.change [
            | inl r ↦ omega (arith, r.below, r.sets.others Pages tt (λ e. cc e), number.is, count)
            | inr x ↦ omega (arith, x.sets.here, number.is, count)
          ]);
      page = fills.page;
      is = fills.is;
    }

pub filled_meta : (T : Type 0) (a b d : Paged) (n i : ℕ) → TakesPage T a b n i → EditsPages T b d (λ j. j ≡ i) 0 → HasMeta d
filled_meta T a b d n i takes edits = record {
  known = edits.known 0 takes.meta.known;
  asked = edits.asked 0 takes.meta.asked;
  there = subst IsSome (sym (edits.others 0 (inr takes.meta.known) (λ e. omega (arith, e, takes.some)))) takes.meta.there;
}

-- pages were asked for that were changed
pub taken_edits : (T : Type 0) (a b d : Paged) (n i : ℕ) → TakesPage T a b n i → EditsPages T b d (λ j. j ≡ i) 0 → EditsPages T a d (λ j. IsTrue (d.asked j)) n
taken_edits T a b d n i takes edits =
    edits_more T a d (λ j. IsMetaOr i j ⊎ (j ≡ i)) (λ j. IsTrue (d.asked j)) (n + 0) n
    (λ j h. elim h [
      | inl z ↦ elim z [ inl e ↦ subst (λ k. IsTrue (d.asked k)) (sym e) (edits.asked 0 takes.meta.asked) | inr e ↦ subst (λ k. IsTrue (d.asked k)) (sym e) (edits.asked i takes.lent.asked) ]
      | inr e ↦ subst (λ k. IsTrue (d.asked k)) (sym e) (edits.asked i takes.lent.asked)
    ]) (omega arith)
    (edits_then T a b d (IsMetaOr i) (λ j. j ≡ i) n 0 takes.edits edits)

-- no page could be taken
pub cause_take : {R : Type 0} (T : Type 0) (a b : Paged) (r : Result R PageFault) → ((id : PageId) → IsErrOf r (BadPage id) → LooksAtPages T a b 1) → HasTakeCause T a b r → HasChainCause T a b r
cause_take T a b r looks cause = record {
  failed = cause.failed;
  bad = λ id h. elim (cause.bad id h) [
    | inl names ↦ fault_looked T a b 1 id (looks id h) (inr (inr (inr (inl names))))
    | inr z ↦ elim z [
      | inl bad ↦ fault_now T a id (inr (inr (inr (inr (inl bad)))))
      | inr gap ↦ fault_now T a id (inr (inr (inr (inr (inr (inl gap))))))
    ]
  ];
}

-- no page could be given back
pub cause_give : {R : Type 0} (T : Type 0) (a b : Paged) (i : ℕ) (r : Result R PageFault) → HasGapCause T a b.faults i r → HasChainCause T a b r
cause_give T a b i r cause = record { failed = cause.failed; bad = λ id h. fault_now T a id (inr (inr (inr (inr (inr (inr (i, cause.bad id h))))))) }

-- what is known of the first page of a bucket, in a partition that is as it was
pub record HeadFacts (size at bucket len : ℕ) (old new : Partition) : Type 0 where
  pub same : new ≡ old
  pub home : homes_in old at ≡ bucket
  pub head : number_in old (Bucket bucket) ≡ at
  pub lowest : HasNoneBelow size old len bucket

pub head_facts : (T : Type 0) (a b : Paged) (m : ℕ) (len : ℕ) (head : Head) → T → HasMeta b → LooksAtPages T a b m → IsHeadFor a len head → IsHeadIn b head.at head.bucket → HeadFacts a.page_size head.at head.bucket len a.pages b.pages
head_facts T a b m len head t meta looks for_row is =
    let same = pages_told T a b m t looks in
    let below = below_count b head.at meta (head_data b head.at head.bucket is) in
    let page : page_at b.pages head.at ≡ is.page = page_at-below b.pages head.at below ∙ ap bytes_of is.is.in_hand.page in
    record {
      same = same;
      home = ap (λ (p : Partition). homes_in p head.at) (sym same) ∙ ap home_of page ∙ data_home is.page is.is.well_made ∙ is.room;
      head = number_told a (Bucket head.bucket) head.at for_row.is;
      lowest = λ bucket lt enough. number_told a (Bucket bucket) 0 (for_row.lowest bucket lt enough);
    }

-- a row was put into a page, as this item
pub record InsertsRow (at : ℕ) (row : List ℕ) (item : ℕ) (old new : Partition) : Type 0 where
  pub edits : EditsPartition at row Insert old new
  pub item_is : item ≡ free_item (rows_of edits.was)

pub inserts_row : (T : Type 0) (a b : Paged) (at item : ℕ) (row : List ℕ) → HasMeta a → IsDataAt a at → EditsPages T a b (λ j. j ≡ at) 0 → EditsDataAt a b at row Insert item → ChangesData T a b 0 (InsertsRow at row item)
inserts_row T a b at item row meta is edits takes =
    let x = edits_page T a b at row Insert item meta is edits takes in
    changes_told T a b 0 (EditsPartition at row Insert) (InsertsRow at row item) x (λ t. record {
      edits = x.told t;
      item_is = takes.item_is ∙ ap (λ (p : List ℕ). free_item (rows_of p)) (same_bytes (a.pages at) takes.was (x.told t).was takes.before (x.told t).before);
    })
  where
    same_bytes : (o : Option (List ℕ)) (p q : List ℕ) → o ≡ Some p → o ≡ Some q → p ≡ q
    same_bytes o p q e f = cc (e, f)

pub places_on : (size part at bucket item : ℕ) (row : List ℕ) → bucket < BUCKETS → HasEnough size (length row) bucket → (x y z : Partition) → (w : Partition) × HeadFacts size at bucket (length row) x w × InsertsRow at row item w y → SettlesPage y z at bucket → PlacesRow size part x z row (link (page_id part at) item)
places_on size part at bucket item row few enough x y z first settles =
    let w = first.0 in
    let facts = first.1 in
    let inserts : InsertsRow at row item x y = subst (λ (p : Partition). InsertsRow at row item p y) facts.same first.2 in
    placed_on size part at bucket item row x y z inserts.edits inserts.item_is settles facts.home few enough facts.head facts.lowest

-- of changes of data pages as of rows
pub changes_rows : (T : Type 0) (a b : Paged) (m n more : ℕ) (R Q : Partition → Partition → Type 0) → m ≤ n → TakesFew more Q → ((x y : Partition) → R x y → Q x y) → ChangesData T a b m R → ChangesRows T a b n more Q
changes_rows T a b m n more R Q le few weaker x = record {
  edits = edits_more T a b (λ j. IsTrue (b.asked j)) (λ j. IsTrue (b.asked j)) m n (λ j h. h) le x.edits;
  meta = x.meta;
  sound = x.sound;
  takes = leaves_spare T a b more Q few x.sound (λ t. weaker a.pages b.pages (x.told t));
  told = λ t. weaker a.pages b.pages (x.told t);
}

pub rows_looked : (T : Type 0) (a b c : Paged) (n more : ℕ) (R Q : Partition → Partition → Type 0) → ((x y z : Partition) → y ≡ x → R y z → Q x z) → LooksAtPages T a b 0 → ChangesRows T b c n more R → ChangesRows T a c n more Q
rows_looked T a b c n more R Q both looks x = record {
  edits = edits_more T a c (λ j. IsTrue (c.asked j) ⊎ IsTrue (c.asked j)) (λ j. IsTrue (c.asked j)) (0 + n) n (λ j h. elim h [ inl e ↦ e | inr e ↦ e ]) (omega arith)
      (edits_then T a b c (λ j. IsTrue (c.asked j)) (λ j. IsTrue (c.asked j)) 0 n (edits_looked T a b (λ j. IsTrue (c.asked j)) 0 looks) x.edits);
  meta = x.meta;
  sound = λ t is. x.sound t (sound_looked T a b 0 t looks is);
  takes = λ t limit left can. x.takes t limit left (can_take_looked T a b 0 t looks limit (more + left) can);
  told = λ t. both a.pages b.pages c.pages (pages_told T a b 0 t looks) (x.told t);
}

-- a link is that of its page and its item
pub link_is : (p : Paged) (at_link : Link) → HasRowAt p at_link → link (page_id p.part (index_of_id (page_of_link at_link))) (item_of_link at_link) ≡ at_link
link_is p at_link has =
    let n : item_of_link at_link * 2 ^ 56 + (page_of_link at_link).0 % 2 ^ 56 ≡ at_link.0 = omega arith in
    ap (λ (i : PageId). link i (item_of_link at_link)) (sym has.name) ∙ ap (λ k. record { 0 = k }) n

-- what is known of a page of which a row is taken out, in a partition that is as it was
pub record ItemFacts (at bucket item : ℕ) (row : List ℕ) (old new : Partition) : Type 0 where
  pub same : new ≡ old
  pub home : homes_in old at ≡ bucket
  pub page : List ℕ
  pub is : old at ≡ Some page
  pub live : row_at (rows_of page) item ≡ Some row

pub item_facts : (T : Type 0) (a b : Paged) (m at item : ℕ) (seat : Seat) → T → HasMeta a → (has : HasItemAt a at item) → LooksAtPages T a b m → IsSeatIn b at seat → ItemFacts at seat.bucket item has.row a.pages b.pages
item_facts T a b m at item seat t meta has looks seat_is =
    let below = below_count a at meta has.is in
    let page : page_at a.pages at ≡ seat_is.page = page_at-below a.pages at below ∙ ap bytes_of (sym (looks.pages at (inl t)) ∙ seat_is.is.in_hand.page) in
    record {
      same = pages_told T a b m t looks;
      home = ap home_of page ∙ data_home seat_is.page seat_is.is.well_made ∙ sym seat_is.says.room;
      page = has.is.page;
      is = has.is.is.in_hand.page;
      live = has.live;
    }

-- a row was taken out of a page that is left with these rows
pub record RemovesRow (at item : ℕ) (Left : List (Option (List ℕ)) → Type 0) (old new : Partition) : Type 0 where
  pub edits : EditsPartition at [] (Remove item) old new
  pub left : Left (rows_of edits.now)

same_bytes : (o : Option (List ℕ)) (p q : List ℕ) → o ≡ Some p → o ≡ Some q → p ≡ q
same_bytes o p q e f = cc (e, f)

live_was : (at bucket item : ℕ) (row : List ℕ) (x w y : Partition) → ItemFacts at bucket item row x w → (e : EditsPartition at [] (Remove item) x y) → row_at (rows_of e.was) item ≡ Some row
live_was at bucket item row x w y facts e = ap (λ (p : List ℕ). row_at (rows_of p) item) (same_bytes (x at) e.was facts.page e.before facts.is) ∙ facts.live

pub takes_kept : (part at bucket item : ℕ) (row : List ℕ) → (x y z : Partition) → (w : Partition) × ItemFacts at bucket item row x w × RemovesRow at item (λ rows. rows ≢ []) w y → SettlesPage y z at bucket → TakesRow part x z (link (page_id part at) item)
takes_kept part at bucket item row x y z first settles =
    let w = first.0 in
    let facts = first.1 in
    let removes : RemovesRow at item (λ rows. rows ≢ []) x y = subst (λ (p : Partition). RemovesRow at item (λ rows. rows ≢ []) p y) facts.same first.2 in
    taken_kept part at bucket item row x y z removes.edits (live_was at bucket item row x w y facts removes.edits) removes.left settles facts.home

pub takes_dropped : (part at bucket item : ℕ) (row : List ℕ) → (x y z : Partition) → (w : Partition) × ItemFacts at bucket item row x w × RemovesRow at item (λ rows. rows ≡ []) w y → DropsPage y z at bucket → TakesRow part x z (link (page_id part at) item)
takes_dropped part at bucket item row x y z first drops =
    let w = first.0 in
    let facts = first.1 in
    let removes : RemovesRow at item (λ rows. rows ≡ []) x y = subst (λ (p : Partition). RemovesRow at item (λ rows. rows ≡ []) p y) facts.same first.2 in
    taken_dropped part at bucket item row x y z removes.edits (live_was at bucket item row x w y facts removes.edits) removes.left drops facts.home

-- what the page has then, as it was read
pub removes_row : (T : Type 0) (a b c : Paged) (at item n : ℕ) (Left : List (Option (List ℕ)) → Type 0) → HasMeta a → IsDataAt a at → EditsPages T a b (λ j. j ≡ at) 0 → EditsDataAt a b at [] (Remove item) n → LooksAtPages T b c 0 → ((page : List ℕ) → IsDataIn b at page → Left (rows_of page)) → ChangesData T a c 0 (RemovesRow at item Left)
removes_row T a b c at item n Left meta is edits takes looks left =
    let x = edits_page T a b at [] (Remove item) n meta is edits takes in
    let there = x.stay at is in
    let y = changes_told T a b 0 (EditsPartition at [] (Remove item)) (RemovesRow at item Left) x (λ t. record {
      edits = x.told t;
      left = subst (λ (p : List ℕ). Left (rows_of p)) (same_bytes (b.pages at) there.page (x.told t).now there.is.in_hand.page (x.told t).after) (left there.page there.is);
    }) in
    changes_then T a b c 0 0 (RemovesRow at item Left) (λ old new. new ≡ old) (RemovesRow at item Left) (λ p q r h e. subst (RemovesRow at item Left p) (sym e) h) y (changes_looked T b c 0 x.meta looks)

-- a page that was given back is sound
given_sound : (T : Type 0) (b c : Paged) (at : ℕ) → T → IsTrue (b.known at) → GivesPage T b c at → IsSound b → IsSound c
given_sound T b c at t known gives sound =
    sound_edited T b c (IsMetaOr at) 1 t gives.edits
    (λ j h. elim h [
      | inl e ↦ subst (λ i. IsTrue (c.known i) × IsThere c i) (sym e) (gives.meta.known, gives.meta.there)
      | inr e ↦ subst (λ i. IsTrue (c.known i) × IsThere c i) (sym e) (gives.edits.known at known, subst IsSome (sym gives.here) refl)
    ])
    (number_by c.pages Pages gives.numbers.now gives.numbers.after ∙ gives.numbers.change.1.others Pages tt (λ e. cc e) ∙ sym (number_by b.pages Pages gives.numbers.was gives.numbers.before)) sound

-- a page was taken out of its chain and given back
pub drops_rows : (T : Type 0) (a b c : Paged) (at bucket : ℕ) → AllReadable b → AllReadable c → IsDataAt a at → bucket < BUCKETS → ChangesData T a b 2 (λ old new. MovesPage old new at bucket BUCKETS) → GivesPage T b c at → (IsTrue (b.asked at) → b.spare ≤ c.spare) → ChangesRows T a c 2 0 (λ old new. DropsPage old new at bucket)
drops_rows T a b c at bucket readable readable' is few x gives again =
    let there = x.stay at is in
    let asked_c : IsTrue (c.asked at) = gives.edits.asked at there.is.in_hand.asked in
    let e = edits_more T a c (λ j. IsTrue (b.asked j) ⊎ IsMetaOr at j) (λ j. IsTrue (c.asked j)) (2 + 1) 3
    (λ j h. elim h [ inl k ↦ gives.edits.asked j k | inr m ↦ elim m [ inl z ↦ subst (λ k. IsTrue (c.asked k)) (sym z) gives.meta.asked | inr z ↦ subst (λ k. IsTrue (c.asked k)) (sym z) asked_c ] ]) (omega arith)
    (edits_then T a b c (λ j. IsTrue (b.asked j)) (IsMetaOr at) 2 1 x.edits gives.edits) in
    let told : T → DropsPage a.pages c.pages at bucket = λ t. drops_page T a b c at bucket t x.meta readable readable' there few (x.told t) gives in
    let sound : KeepsSound T a c = λ t is. given_sound T b c at t there.is.in_hand.known gives (x.sound t is) in
    record {
      edits = record {
        others = e.others;
        known = e.known;
        asked = e.asked;
        lent = e.lent;
        covers = e.covers;
        covered = e.covered;
        spare = omega (arith, x.edits.spare, again there.is.in_hand.asked);
        same = e.same;
      };
      meta = gives.meta;
      takes = leaves_spare T a c 0 (λ old new. DropsPage old new at bucket) (drops_few at bucket) sound told;
      sound = sound;
      told = told;
    }

-- changes of data pages, and then of rows
pub rows_then : (T : Type 0) (a b c : Paged) (m n more : ℕ) (R S Q : Partition → Partition → Type 0) → TakesFew more Q → ((x y z : Partition) → R x y → S y z → Q x z) → ChangesData T a b m R → ChangesRows T b c n more S → ChangesRows T a c (m + n) more Q
rows_then T a b c m n more R S Q few both x y = record {
  edits = edits_more T a c (λ j. IsTrue (b.asked j) ⊎ IsTrue (c.asked j)) (λ j. IsTrue (c.asked j)) (m + n) (m + n) (λ j h. elim h [ inl e ↦ y.edits.asked j e | inr e ↦ e ]) (omega arith)
      (edits_then T a b c (λ j. IsTrue (b.asked j)) (λ j. IsTrue (c.asked j)) m n x.edits y.edits);
  meta = y.meta;
  sound = λ t is. y.sound t (x.sound t is);
  takes = leaves_spare T a c more Q few (λ t is. y.sound t (x.sound t is)) (λ t. both a.pages b.pages c.pages (x.told t) (y.told t));
  told = λ t. both a.pages b.pages c.pages (x.told t) (y.told t);
}

-- fewer pages were asked for than so many
pub rows_more_room : (T : Type 0) (a b : Paged) (m n more : ℕ) (R : Partition → Partition → Type 0) → m ≤ n → ChangesRows T a b m more R → ChangesRows T a b n more R
rows_more_room T a b m n more R le x = record { edits = edits_more T a b (λ j. IsTrue (b.asked j)) (λ j. IsTrue (b.asked j)) m n (λ j h. h) le x.edits; meta = x.meta; sound = x.sound; takes = x.takes; told = x.told }

pub places_same : (a b : Paged) (row : List ℕ) (at_link : Link) → b.page_size ≡ a.page_size → b.part ≡ a.part → (x y z : Partition) → y ≡ x → PlacesRow b.page_size b.part y z row at_link → PlacesRow a.page_size a.part x z row at_link
places_same a b row at_link size part x y z same places = subst (λ (q : ℕ × ℕ × Partition). PlacesRow q.0 q.1 q.2 z row at_link) {x = (b.page_size, b.part, y)} {y = (a.page_size, a.part, x)} (λ k. (size k, part k, same k)) places

-- a page that was taken and filled, and the meta page
pub filled_edits : (T : Type 0) (a b d : Paged) (n at : ℕ) → TakesPage T a b n at → EditsPages T b d (λ j. j ≡ at) 0 → EditsPages T a d (IsMetaOr at) n
filled_edits T a b d n at takes edits = edits_more T a d (λ j. IsMetaOr at j ⊎ (j ≡ at)) (IsMetaOr at) (n + 0) n (λ j h. elim h [ inl z ↦ z | inr e ↦ inr e ]) (omega arith) (edits_then T a b d (IsMetaOr at) (λ j. j ≡ at) n 0 takes.edits edits)

pub filled_added : (x w at : ℕ) → (w ≡ x) ⊎ ((w ≡ x + 1) × (at ≡ x)) → (j : ℕ) → j < w → (j < x) ⊎ IsMetaOr at j
filled_added x w at count j lt = elim count [
  | inl e ↦ inl (omega (arith, lt, e))
  | inr p ↦ elim (cases_lt j x) [ inl less ↦ inl less | inr le ↦ inr (inr (omega (arith, lt, le, p.0, p.1))) ]
]

pub filled_sound : (T : Type 0) (a b d : Paged) (n at item : ℕ) (row : List ℕ) → T → TakesPage T a b n at → EditsPages T b d (λ j. j ≡ at) 0 → IsFilledIn d at row item
    → (page_count d.pages ≡ page_count a.pages) ⊎ ((page_count d.pages ≡ page_count a.pages + 1) × (at ≡ page_count a.pages)) → IsSound a → IsSound d
filled_sound T a b d n at item row t takes edits fills count sound =
    let meta = filled_meta T a b d n at takes edits in
    sound_grown T a d (IsMetaOr at) n t (filled_edits T a b d n at takes edits)
    (λ j h. elim h [
      | inl e ↦ subst (λ i. IsTrue (d.known i) × IsThere d i) (sym e) (meta.known, meta.there)
      | inr e ↦ subst (λ i. IsTrue (d.known i) × IsThere d i) (sym e) (fills.is.in_hand.known, subst IsSome (sym fills.is.in_hand.page) refl)
    ])
    (filled_added (page_count a.pages) (page_count d.pages) at count) sound

-- what was asked for and changed until a new page had its row
pub new_edits : (T : Type 0) (a b d e : Paged) (n at : ℕ) → TakesPage T a b n at → EditsPages T b d (λ j. j ≡ at) 0 → LooksAtPages T d e 0 → EditsPages T a e (λ j. IsTrue (e.asked j)) n
new_edits T a b d e n at takes edits looks =
    edits_more T a e (λ j. IsTrue (d.asked j) ⊎ IsTrue (e.asked j)) (λ j. IsTrue (e.asked j)) (n + 0) n (λ j h. elim h [ inl k ↦ looks.asked j k | inr k ↦ k ]) (omega arith)
    (edits_then T a d e (λ j. IsTrue (d.asked j)) (λ j. IsTrue (e.asked j)) n 0 (taken_edits T a b d n at takes edits) (edits_looked T d e (λ j. IsTrue (e.asked j)) 0 looks))

-- a new page was made for a row
pub places_new : (T : Type 0) (a b d e f : Paged) (at item : ℕ) (row : List ℕ) (seat : Seat) → HasMeta a → AllReadable a → AllReadable d → TakesPage T a b 1 at → EditsPages T b d (λ j. j ≡ at) 0 → IsFilledIn d at row item → LooksAtPages T d e 0 → IsSeatIn e at seat → HasNoHeadFor a (length row)
    → ChangesData T e f 1 (λ old new. MovesPage old new at BUCKETS seat.bucket) → ChangesRows T a f 4 1 (λ old new. PlacesRow a.page_size a.part old new row (link (page_id a.part at) item))
places_new T a b d e f at item row seat meta readable readable' takes edits fills looks seat_is none links = record {
  edits = edits_more T a f (λ j. IsTrue (e.asked j) ⊎ IsTrue (f.asked j)) (λ j. IsTrue (f.asked j)) (1 + 1) 4 (λ j h. elim h [ inl k ↦ links.edits.asked j k | inr k ↦ k ]) (omega arith)
      (edits_then T a e f (λ j. IsTrue (e.asked j)) (λ j. IsTrue (f.asked j)) 1 1 (new_edits T a b d e 1 at takes edits looks) links.edits);
  meta = links.meta;
  takes = leaves_spare T a f 1 (λ old new. PlacesRow a.page_size a.part old new row (link (page_id a.part at) item)) (places_few a.page_size a.part row (link (page_id a.part at) item)) keeps_sound places;
  sound = keeps_sound;
  told = places;
}
  where
    there : T → Filled a.part at row a.pages d.pages
    there t = filled T a b d 1 at item row t meta readable readable' takes edits fills

    keeps_sound : KeepsSound T a f
    keeps_sound t is = links.sound t (sound_looked T d e 0 t looks (filled_sound T a b d 1 at item row t takes edits fills (there t).count is))

    places : T → PlacesRow a.page_size a.part a.pages f.pages row (link (page_id a.part at) item)
    places t =
        let same = pages_told T d e 0 t looks in
        let is = there t in
        let moves : MovesPage d.pages f.pages at BUCKETS seat.bucket = subst (λ (p : Partition). MovesPage p f.pages at BUCKETS seat.bucket) same (links.told t) in
        let home : homes_in d.pages at ≡ seat.bucket = ap home_of is.is ∙ data_home is.page is.well_made ∙ ap bucket_of (same_bytes (d.pages at) is.page seat_is.page (is.there) (sym (looks.pages at (inl t)) ∙ seat_is.is.in_hand.page)) ∙ sym seat_is.says.room in
        subst (λ i. PlacesRow a.page_size a.part a.pages f.pages row (link (page_id a.part at) i)) (sym fills.first)
        (placed_new a.part at row a.pages d.pages is a.page_size seat.bucket f.pages moves home (λ bucket few enough. number_told a (Bucket bucket) 0 (none bucket few enough)))

-- two facts on a value, if there is one
pub both_ok : {A E : Type 0} (r : Result A E) (P Q : Type 0) → OnOk r P → OnOk r Q → OnOk r (P × Q)
both_ok (Ok x) P Q p q = (p, q)
both_ok (Err e) P Q p q = p

-- the row of an item was taken out after a look
pub item_removed : (T : Type 0) (a b d : Paged) (m at item n : ℕ) → HasMeta a → IsDataAt a at → LooksAtPages T a b m → EditsPages T b d (λ j. j ≡ at) 0 → EditsDataAt b d at [] (Remove item) n → ChangesData T a d (m + 0) (λ old new. Unit {0})
item_removed T a b d m at item n meta is looks edits takes =
    changes_then T a b d m 0 (λ old new. new ≡ old) (EditsPartition at [] (Remove item)) (λ old new. Unit {0}) (λ x y z r s. tt) (changes_looked T a b m meta looks)
    (edits_page T b d at [] (Remove item) n (meta_is T a b m meta looks) (data_looked T a b m at meta looks is) edits takes)

-- a row of a page that was looked at has a link
pub has_row : (T : Type 0) (a b : Paged) (m at item : ℕ) (page : List ℕ) (at_link : Link) → HasMeta a → IsDataAt a at → LooksAtPages T a b m → IsDataIn b at page → IsSome (row_at (rows_of page) item) → item ≡ item_of_link at_link → at ≡ index_of_id (page_of_link at_link) → page_of_link at_link ≡ page_id a.part at → HasRowAt b at_link
has_row T a b m at item page at_link meta is looks there live item_is at_is name =
    let d = data_looked T a b m at meta looks is in
    let row = some_bytes (row_at (rows_of page) item) live in
    let has : HasItemAt b at item = record { is = record { some = d.some; below = d.below; page = page; is = there }; row = row.0; live = row.1 } in
    record {
      name = name ∙ (λ k. page_id (sym looks.same.part k) (at_is k));
      item = subst (λ (p : ℕ × ℕ). HasItemAt b p.0 p.1) {x = (at, item)} {y = (index_of_id (page_of_link at_link), item_of_link at_link)} (λ k. (at_is k, item_is k)) has;
    }
