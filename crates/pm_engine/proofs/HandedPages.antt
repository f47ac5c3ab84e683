-- The records of the pages in hand that an operation changed, by rising name, are the frames of their partition's
-- changed pages, by rising index.
use Rattle.std.proofs.Common.{◌≡◌, ◌≢◌, ◌⊎◌, ℕ, zero, suc, ◌+◌, ◌-◌, ◌*◌, ◌/◌, ◌%◌, ◌^◌, ◌<◌, ◌≤◌, Bool, true, false, List, [], ◌∷◌, ◌++◌, length, map, Option, Some, None, refl, sym, ap, ◌∙◌, inl, inr, subst, arith, append_assoc, append-nil}
use Rattle.std.specs.Prelude.{if◌then◌else◌, slice_get}
use Rattle.std.specs.List.{Contains, slice_index_or}
use Rattle.std.proofs.lemmas.Bool.{false≢true, ne_eqb}
use Rattle.pm_types.specs.declared.page_id.PageId.{PageId}
use Rattle.pm_types.specs.Ids.{page_id, index_of_id}
use Rattle.pm_types.specs.Spans.{Coverage}
use Rattle.pm_frame.specs.Frames.{Frame}
use Rattle.pm_records.specs.Logs.{record_frame}
use Rattle.pm_records.specs.Operations.{Operation, IsOperation, AreOperations, operation_bytes, operations_bytes}
use Rattle.pm_records.specs.Records.{Record}
use Rattle.pm_records.proofs.Runs.{bool_cases}
use Rattle.pm_pages.specs.Asked.{has_bytes, is_changed}
use Rattle.pm_pages.specs.Paged.{Paged}
use Rattle.pm_pages.specs.Rows.{bytes_of}
use Rattle.pm_core.specs.PageSets.{has_index}
use Rattle.pm_stripe.specs.declared.held.Held.{Held}
use Rattle.pm_stripe.specs.ChangedPages.{ChangedPage, page_record, frame_for, as_changed}
use Rattle.pm_stripe.specs.Kept.{Kept, held_at, place_of, bytes_by}
use Rattle.pm_stripe.specs.Listings.{RiseByName, IsChangedPage, ListsChanged, IsOperationOf, GrowsByOperation, after_logical, handed_bytes_by}
use Rattle.pm_stripe.specs.Shown.{paged, patch_of}
use Rattle.pm_stripe.proofs.Hands.{found_at}
use Rattle.pm_stripe.proofs.MarkedPages.{found}
use Rattle.pm_stripe.proofs.PlacedPages.{same_page}
use Rattle.pm_engine.specs.HandedPages.{OperatesOn, framed_pages, first_names}
use Rattle.pm_engine.specs.OutboxLogs.{SpellOperationRecords, records_of}
use Rattle.pm_engine.specs.PageLogs.{AreNoted, frames_at, frames_below, names_at, names_below, noted_frames, noted_names}
use Rattle.pm_engine.specs.PageLogs as log
use Rattle.pm_engine.proofs.ChangedFrames.{NoneBetween, changed_count, count_one, frames_few, frames_one, names_one, below_zero, names_zero, below_next, names_next, below_same, names_same}

-- ---- lists

pub contains_here : (x : ChangedPage) (xs : List ChangedPage) → Contains (x ∷ xs) x
contains_here x xs = (0, omega arith, refl)

pub contains_later : (x y : ChangedPage) (xs : List ChangedPage) → Contains xs y → Contains (x ∷ xs) y
contains_later x y xs has = (suc has.0, omega (arith, has.1), has.2)

contains_none : (y : ChangedPage) → Contains [] y → ⊥
contains_none y has = omega (arith, has.1)

contains_cases : (x y : ChangedPage) (xs : List ChangedPage) → Contains (x ∷ xs) y → (y ≡ x) ⊎ Contains xs y
contains_cases x y xs has = by has.0 has.1 has.2
  where
    by : (n : ℕ) → n < length (x ∷ xs) → slice_index_or (x ∷ xs) n y ≡ y → (y ≡ x) ⊎ Contains xs y
    by zero lt is = inl (sym is)
    by (suc n) lt is = inr (n, omega (arith, lt), is)

-- names rise from that of the first page on
rises_above : (low : ℕ) (ps : List ChangedPage) (q : ChangedPage) → RiseByName low ps → Contains ps q → low ≤ q.page.0
rises_above low [] q rise has = absurd (contains_none q has)
rises_above low (p ∷ ps) q rise has = elim (contains_cases p q ps has) [
  | inl same ↦ omega (arith, rise.0, ap (λ (r : ChangedPage). r.page.0) same)
  | inr later ↦ omega (arith, rise.0, rises_above (p.page.0 + 1) ps q rise.1 later)
]

-- ---- names

-- a name says its index
name_is : (n part : ℕ) → n / 2 ^ 48 ≡ 1 → n / 2 ^ 32 % 2 ^ 16 ≡ part → n ≡ 2 ^ 48 + part * 2 ^ 32 + n % 2 ^ 32
name_is n part flag is = omega (arith, flag, is)

same_index : (part i j : ℕ) → 2 ^ 48 + part * 2 ^ 32 + i ≡ 2 ^ 48 + part * 2 ^ 32 + j → i ≡ j
same_index part i j e = omega (arith, e)

module _ (file : PageId → Option (List ℕ)) (faults part : ℕ) (k : Kept) (logged : List PageId) (is : OperatesOn part logged k) where
  abbrev seen : Paged
  seen = paged file faults part k

  named : (i : ℕ) (h : Held) → slice_get k.held i ≡ Some h → h.page.0 ≡ 2 ^ 48 + part * 2 ^ 32 + index_of_id h.page
  named i h at = name_is h.page.0 part (is.holds.held i h at).own.name.flag (is.operates.alone i h at)

  page_is : (i : ℕ) (h : Held) → slice_get k.held i ≡ Some h → h.page ≡ page_id part (index_of_id h.page)
  page_is i h at = same_page h.page (page_id part (index_of_id h.page)) (named i h at)

  -- a page in hand is found by its name
  found_here : (i : ℕ) (h : Held) → slice_get k.held i ≡ Some h → held_at k.held (page_id part (index_of_id h.page)).0 ≡ Some h
  found_here i h at = ap (λ (p : PageId). held_at k.held p.0) (sym (page_is i h at)) ∙ found is.locks k is.holds i h at

  -- what is seen of a page in hand that was changed
  module _ (p : ChangedPage) (one : IsChangedPage k.held p) where
    abbrev index : ℕ
    index = index_of_id one.page.page

    index_is : index_of_id p.page ≡ index
    index_is = ap (λ (q : ChangedPage). index_of_id q.page) one.is

    name_at : p.page.0 ≡ 2 ^ 48 + part * 2 ^ 32 + index
    name_at = ap (λ (q : ChangedPage). q.page.0) one.is ∙ named one.place one.page one.at

    page_at : page_id part index ≡ p.page
    page_at = sym (ap (λ (q : ChangedPage). q.page) one.is ∙ page_is one.place one.page one.at)

    patch_at : seen.patch index ≡ Some one.patch
    patch_at = ap patch_of (found_here one.place one.page one.at) ∙ one.patched

    bytes_at : bytes_of (seen.pages index) ≡ p.bytes
    bytes_at =
        ap (λ (o : Option Held). bytes_of (bytes_by o (place_of k (page_id part index)) k.seat.view.entries k.number (file (page_id part index)))) (found_here one.place one.page one.at)
        ∙ sym (ap (λ (q : ChangedPage). q.bytes) one.is)

    logged_at : has_index part index logged ≡ p.is_logged
    logged_at = sym (ap (λ (q : ChangedPage). q.is_logged) one.is ∙ is.dirty one.place one.page one.at)

    covers_at : one.patch ≡ p.patch
    covers_at = sym (ap (λ (q : ChangedPage). q.patch) one.is)

    pub changed_at : is_changed (seen.patch index) ≡ true
    changed_at = ap is_changed patch_at ∙ one.some

    frame_at : frames_at seen logged index ≡ frame_for (page_record p) ∷ []
    frame_at =
        frames_one (seen.patch index) one.patch (page_id part index) (bytes_of (seen.pages index)) (has_index part index logged) patch_at one.some
        ∙ (λ i. record_frame (log.page_record (page_at i) (bytes_at i) (covers_at i) (logged_at i)) ∷ [])

    name_first : (ps : List ChangedPage) → first_names (p ∷ ps) ≡ names_at seen logged index ++ first_names ps
    name_first ps =
        by p.is_logged
        ∙ sym (ap (λ ns. ns ++ first_names ps) (names_one seen logged index changed_at ∙ (λ i. let ns : List PageId = if logged_at i then [] else page_at i ∷ [] in ns)))
      where
        by : (b : Bool) → (let ns : List PageId = if b then first_names ps else p.page ∷ first_names ps in ns) ≡ (let ns : List PageId = if b then [] else p.page ∷ [] in ns) ++ first_names ps
        by true = refl
        by false = refl

  -- a page that is seen as changed is one of them
  pub record ChangedAt (index : ℕ) : Type 0 where
    pub page : ChangedPage
    pub is_one : IsChangedPage k.held page
    pub at : index_of_id page.page ≡ index

  pub changed_page : (index : ℕ) → is_changed (seen.patch index) ≡ true → ChangedAt index
  changed_page index changed = by (held_at k.held (page_id part index).0) refl changed
    where
      some_patch : (h : Held) (o : Option Coverage) → h.patch ≡ o → is_changed o ≡ true → (patch : Coverage) × (h.patch ≡ Some patch) × (has_bytes patch ≡ true)
      some_patch h None e has = absurd (false≢true has)
      some_patch h (Some patch) e has = (patch, e, has)

      by : (o : Option Held) → held_at k.held (page_id part index).0 ≡ o → is_changed (patch_of o) ≡ true → ChangedAt index
      by None e has = absurd (false≢true has)
      by (Some h) e has =
          let f = found_at k.held (page_id part index).0 h e in
          let cover = some_patch h h.patch refl has in
          record {
            page = as_changed h cover.0;
            is_one = record { place = f.0; page = h; patch = cover.0; at = f.1; patched = cover.1; some = cover.2; is = refl };
            at = same_index part (index_of_id h.page) index (sym (named f.0 h f.1) ∙ f.2);
          }

  -- each has a lower index than 2^32
  pub noted : AreNoted part (framed_pages file faults part k (2 ^ 32))
  noted = record {
    number = refl;
    small = omega (arith, is.operates.there, is.holds.shaped.partitions_to);
    few = omega arith;
    below = λ index changed. (let one = changed_page index changed in omega (arith, one.at));
  }

  -- ---- the pages from an index on

  record ListsFrom (from : ℕ) (ps : List ChangedPage) : Type 0 where
    rise : RiseByName (2 ^ 48 + part * 2 ^ 32 + from) ps
    all : (p : ChangedPage) → IsChangedPage k.held p → from ≤ index_of_id p.page → Contains ps p
    only : (p : ChangedPage) → Contains ps p → IsChangedPage k.held p

  lists_all : (ps : List ChangedPage) → ListsChanged k.held ps → ListsFrom 0 ps
  lists_all ps lists = record {
    rise = rise_from ps lists.rise lists.only;
    all = λ p one from. lists.all p one;
    only = lists.only;
  }
    where
      rise_from : (qs : List ChangedPage) → RiseByName 0 qs → ((p : ChangedPage) → Contains qs p → IsChangedPage k.held p) → RiseByName (2 ^ 48 + part * 2 ^ 32 + 0) qs
      rise_from [] rise only = tt
      rise_from (q ∷ qs) rise only = (omega (arith, name_at q (only q (contains_here q qs))), rise.1)

  module _ (count : ℕ) (are : AreNoted part (framed_pages file faults part k count)) where
    -- none was changed up to the next of them
    none_between : (from to : ℕ) (ps : List ChangedPage) → ListsFrom from ps → ((p : ChangedPage) → Contains ps p → to ≤ index_of_id p.page) → NoneBetween seen from to
    none_between from to ps lists above i low high = elim (bool_cases (is_changed (seen.patch i))) [
      | inl changed ↦
          let one = changed_page i changed in
          absurd (omega (arith, above one.page (lists.all one.page one.is_one (omega (arith, low, one.at))), one.at, high))
      | inr none ↦ none
    ]

    walk : (ps : List ChangedPage) (from : ℕ) → from ≤ count → ListsFrom from ps
        → (frames_below seen logged count ≡ frames_below seen logged from ++ map (λ (p : ChangedPage). frame_for (page_record p)) ps)
        × (names_below seen logged count ≡ names_below seen logged from ++ first_names ps)
    walk [] from le lists =
        let none = none_between from count [] lists (λ p has. absurd (contains_none p has)) in (
          below_same seen logged from (count - from) count (omega (arith, le)) none ∙ sym (append-nil (frames_below seen logged from)),
          names_same seen logged from (count - from) count (omega (arith, le)) none ∙ sym (append-nil (names_below seen logged from)),
        )
    walk (p ∷ ps) from le lists =
        let one = lists.only p (contains_here p ps) in
        let at = index_of_id one.page.page in
        let at_is : index_of_id p.page ≡ at = index_is p one in
        let name : p.page.0 ≡ 2 ^ 48 + part * 2 ^ 32 + at = name_at p one in
        let low : from ≤ at = omega (arith, lists.rise.0, name) in
        let high : at < count = are.below at (changed_at p one) in
        let above : (q : ChangedPage) → Contains (p ∷ ps) q → at ≤ index_of_id q.page = (λ q has.
        omega (arith, rises_above p.page.0 (p ∷ ps) q (omega arith, lists.rise.1) has, name, name_at q (lists.only q has), index_is q (lists.only q has))) in
        let none : NoneBetween seen from at = none_between from at (p ∷ ps) lists above in
        let next : ListsFrom (at + 1) ps = record {
          rise = subst (λ n. RiseByName n ps) (let e : p.page.0 + 1 ≡ 2 ^ 48 + part * 2 ^ 32 + (at + 1) = omega (arith, name) in e) lists.rise.1;
          all = λ q is_one after. elim (contains_cases p q ps (lists.all q is_one (omega (arith, after, low)))) [
            | inl same ↦ absurd (omega (arith, ap (λ (r : ChangedPage). index_of_id r.page) same, at_is, after))
            | inr later ↦ later
          ];
          only = λ q has. lists.only q (contains_later p q ps has);
        } in
        let rest = walk ps (at + 1) (omega (arith, high)) next in (
          rest.0
              ∙ ap (λ (fs : List Frame). fs ++ map (λ (q : ChangedPage). frame_for (page_record q)) ps)
              (below_next seen logged at (at + 1) refl ∙ (λ i. below_same seen logged from (at - from) at (omega (arith, low)) none i ++ frame_at p one i))
              ∙ append_assoc (frames_below seen logged from) (frame_for (page_record p) ∷ []) (map (λ (q : ChangedPage). frame_for (page_record q)) ps),
          rest.1
              ∙ ap (λ (ns : List PageId). ns ++ first_names ps)
              (names_next seen logged at (at + 1) refl ∙ ap (λ (ns : List PageId). ns ++ names_at seen logged at) (names_same seen logged from (at - from) at (omega (arith, low)) none))
              ∙ append_assoc (names_below seen logged from) (names_at seen logged at) (first_names ps)
              ∙ ap (λ (ns : List PageId). names_below seen logged from ++ ns) (sym (name_first p one ps)),
        )

    pub frames_are : (listed : List ChangedPage) → ListsChanged k.held listed → map (λ (p : ChangedPage). frame_for (page_record p)) listed ≡ noted_frames (framed_pages file faults part k count) logged
    frames_are listed lists = sym ((walk listed 0 (omega arith) (lists_all listed lists)).0 ∙ ap (λ (fs : List Frame). fs ++ map (λ (p : ChangedPage). frame_for (page_record p)) listed) (below_zero seen logged))

    pub names_are : (listed : List ChangedPage) → ListsChanged k.held listed → first_names listed ≡ noted_names (framed_pages file faults part k count) logged
    names_are listed lists = sym ((walk listed 0 (omega arith) (lists_all listed lists)).1 ∙ ap (λ (ns : List PageId). ns ++ first_names listed) (names_zero seen logged))

    -- what is handed over
    pub records_are : (line : ℕ) (logical : Option Record) (operation : Operation) → IsOperationOf line logical k.held operation → operation.records ≡ after_logical logical (noted_frames (framed_pages file faults part k count) logged)
    records_are line logical operation hands = hands.records_are ∙ ap (after_logical logical) (frames_are hands.listed hands.lists)

    pub bytes_grow : (line : ℕ) (logical : Option Record) (old new : List ℕ) (frames : List Frame) → SpellOperationRecords old frames → GrowsByOperation line logical k.held old new
        → SpellOperationRecords new (frames ++ after_logical logical (noted_frames (framed_pages file faults part k count) logged))
    bytes_grow line logical old new frames were grows =
        let operation = grows.hands.operation in
        subst (λ (fs : List Frame). SpellOperationRecords new (frames ++ fs)) (records_are line logical operation grows.hands.is)
        (by operation operation.records refl grows.hands.is.is_operation (grows.grows ∙ ap (λ bs. old ++ bs) grows.hands.bytes_are))
      where
        all_bytes : (xs : List Operation) (o : Operation) → operations_bytes (xs ++ o ∷ []) ≡ operations_bytes xs ++ operation_bytes o
        all_bytes [] o = append-nil (operation_bytes o)
        all_bytes (x ∷ xs) o = ap (λ bs. operation_bytes x ++ bs) (all_bytes xs o) ∙ sym (append_assoc (operation_bytes x) (operations_bytes xs) (operation_bytes o))

        all_records : (xs : List Operation) (o : Operation) → records_of (xs ++ o ∷ []) ≡ records_of xs ++ o.records
        all_records [] o = append-nil o.records
        all_records (x ∷ xs) o = ap (λ (fs : List Frame). x.records ++ fs) (all_records xs o) ∙ sym (append_assoc x.records (records_of xs) o.records)

        all_are : (xs : List Operation) (o : Operation) → AreOperations xs → IsOperation o → AreOperations (xs ++ o ∷ [])
        all_are [] o were one = (one, tt)
        all_are (x ∷ xs) o were one = (were.0, all_are xs o were.1 one)

        by : (o : Operation) (fs : List Frame) → o.records ≡ fs → IsOperation o → new ≡ old ++ handed_bytes_by fs o → SpellOperationRecords new (frames ++ fs)
        by o [] e one bytes = record {
          operations = were.operations;
          are = were.are;
          bytes_are = bytes ∙ append-nil old ∙ were.bytes_are;
          frames_are = append-nil frames ∙ were.frames_are;
        }
        by o (f ∷ fs) e one bytes = record {
          operations = were.operations ++ o ∷ [];
          are = all_are were.operations o were.are one;
          bytes_are = bytes ∙ ap (λ bs. bs ++ operation_bytes o) were.bytes_are ∙ sym (all_bytes were.operations o);
          frames_are = (λ i. were.frames_are i ++ sym e i) ∙ sym (all_records were.operations o);
        }

-- ---- how many they are

-- no more pages were changed than are in hand
count_held : (part : ℕ) (hs : List Held) (n : ℕ) → changed_count (λ i. patch_of (held_at hs (page_id part i).0)) n ≤ length hs
count_held part [] n = omega (arith, none n)
  where
    none : (m : ℕ) → changed_count (λ i. patch_of (held_at [] (page_id part i).0)) m ≡ 0
    none zero = refl
    none (suc m) = omega (arith, none m)
count_held part (h ∷ hs) n =
    omega (arith, count_held part hs n, count_one (λ i. patch_of (held_at (h ∷ hs) (page_id part i).0)) (λ i. patch_of (held_at hs (page_id part i).0)) (h.page.0 - (2 ^ 48 + part * 2 ^ 32)) n other)
  where
    other : (i : ℕ) → i ≢ h.page.0 - (2 ^ 48 + part * 2 ^ 32) → patch_of (held_at (h ∷ hs) (page_id part i).0) ≡ patch_of (held_at hs (page_id part i).0)
    other i ne = ap (λ (b : Bool). patch_of (if b then Some h else held_at hs (page_id part i).0)) (ne_eqb h.page.0 (page_id part i).0 (λ e. ne (omega (arith, e))))

pub frames_in_hand : (file : PageId → Option (List ℕ)) (faults part count : ℕ) (k : Kept) (logged : List PageId) → OperatesOn part logged k → length (noted_frames (framed_pages file faults part k count) logged) ≤ 32
frames_in_hand file faults part count k logged is = omega (arith, frames_few (paged file faults part k) logged count, count_held part k.held count, is.operates.frames.few)
