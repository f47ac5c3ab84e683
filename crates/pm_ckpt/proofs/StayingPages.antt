-- The pages that are listed are those that stay in their frames.
use Rattle.std.proofs.Common.{◌≡◌, inl, inr, ℕ, zero, suc, ◌<◌, List, [], ◌∷◌, length, get_or, true, Option, Some, None, sym, ◌∙◌, ap, subst, arith}
use Rattle.std.specs.Prelude.{slice_get, All, IfSome}
use Rattle.std.specs.Option.{option_map}
use Rattle.std.proofs.lemmas.List.{length-map, get_or-map}
use Rattle.std.proofs.lemmas.List.Elements.{All-contains, All-head, All-tail}
use Rattle.std.proofs.lemmas.List.Sorted.{IsPermutation-refl}
use Rattle.std.proofs.lemmas.Option.{same_Some}
use Rattle.pm_types.specs.declared.page_id.PageId.{PageId}
use Rattle.pm_types.specs.declared.shape.Shape.{Shape}
use Rattle.pm_types.specs.Ids.{part_of_id, index_of_id}
use Rattle.pm_disk.specs.Files.{bytes_of}
use Rattle.pm_locks.specs.Sight.{Sight, LockTable}
use Rattle.pm_locks.specs.Views.{Has, entry_at, entry_or}
use Rattle.pm_locks.specs.declared.view.Entry.{Entry}
use Rattle.pm_locks.proofs.Numbering.{whole_has}
use Rattle.pm_core.specs.PageSets.{has_index}
use Rattle.pm_stripe.specs.declared.stripe.Stripe.{Stripe}
use Rattle.pm_stripe.specs.Kept.{IsPageOf, IsStaying, Holds, bytes_by, held_at, known_by, is_known, page_bytes, stays, stays_in}
use Rattle.pm_stripe.specs.Reads.{Reads}
use Rattle.pm_stripe.specs.Stripes.{kept}
use Rattle.pm_stripe.proofs.FileStripes.{rests_on_files}
use Rattle.pm_ckpt.specs.declared.frame_page.FramePage.{FramePage}
use Rattle.pm_ckpt.specs.Dirty.{dirty_frames, dirty_pages, dirty_held, AreReading, AreResting, IsResting}
use Rattle.pm_ckpt.specs.Frames.{IsWholeSeat, names_of, owner_of, frame_bytes}
use Rattle.pm_ckpt.specs.Staying.{AllReadAtHand, DirtyFramesStay, StripesStayAtRest}
use Rattle.pm_ckpt.specs.Writes.{page_of}
use Rattle.pm_ckpt.proofs.DirtyPages.{IsListed, all_listed, dirty_once, held_frames, is_among, kept_of, own_place, staying_word, stripe_at}
use Rattle.pm_ckpt.proofs.Home.{first_or}
use Rattle.pm_ckpt.proofs.RestingStripes.{one_indexed}

-- one of these pages has this partition and index
found_index : (P : FramePage → Type 0) (part index : ℕ) (xs : List FramePage) → All P xs → has_index part index (names_of xs) ≡ true → (x : FramePage) × P x × (part_of_id x.page ≡ part) × (index_of_id x.page ≡ index)
found_index P part index [] all has = absurd cc
found_index P part index (x ∷ xs) all has = elim (first_or part index x.page (names_of xs) has) [
  | inl it ↦ (x, All-head P x xs all, it.0, it.1)
  | inr later ↦ found_index P part index xs (All-tail P x xs all) later
]

module _ (locks : LockTable) (shape : Shape) (seat : Sight) (stripes : List Stripe) (resting : AreResting locks shape seat stripes) (whole : IsWholeSeat locks seat) where
  abbrev pages : List FramePage
  pages = dirty_frames locks stripes seat.view

  module _ (n : ℕ) (s : Stripe) (at : slice_get stripes n ≡ Some s) where
    rest : IsResting locks shape seat n s
    rest = resting.each n s at

    holds : Holds locks (kept s seat)
    holds = rest.rests.holds

    has : Has seat.view s.number
    has = whole_has seat.view s.number whole.knows.whole (inl (omega (arith, holds.worker.below, whole.of.staff)))

    none_held : (id : PageId) → held_at s.held.items id.0 ≡ None
    none_held id = ap (λ hs. held_at hs id.0) rest.rests.none_held

    module _ (id : PageId) (own : IsPageOf locks.workers shape.partitions n id) where
      -- what is listed stays
      then_stays : has_index (part_of_id id) (index_of_id id) (names_of pages) ≡ true → IsStaying (kept s seat) id
      then_stays has =
          let x = found_index (IsListed locks shape seat stripes) (part_of_id id) (index_of_id id) pages (all_listed locks shape seat stripes resting whole) has in
          let l = x.1 in
          let place = own_place locks shape seat stripes resting whole n s at id own x.0 l x.2 x.3 in record {
            frame = x.0.frame;
            tag = x.0.tag;
            entry = l.entry;
            kept = place.1;
            at = ap (λ m. entry_at seat.view.entries m x.0.frame) (rest.number ∙ sym place.0) ∙ l.put;
            stay = ap stays l.entry_flag;
          }

      module _ (x : IsStaying (kept s seat) id) where
        -- what stays is listed
        is_listed : (y : FramePage) × (y.frame ≡ x.frame) × (y.page ≡ id) × (has_index (part_of_id id) (index_of_id id) (names_of pages) ≡ true) × (dirty_held locks stripes seat.view (part_of_id id) (index_of_id id) ≡ Some (frame_bytes seat.view y.frame))
        is_listed =
            let k = holds.kept id x.frame x.tag x.kept in
            let d = staying_word seat.view x.frame s.number x.entry (resting.settled.each x.frame k.frame) has x.at x.stay in
            let y = is_among locks shape seat stripes resting whole pages (IsPermutation-refl pages) x.frame k.frame d.0 in
            let l = All-contains (IsListed locks shape seat stripes) pages y.0 (all_listed locks shape seat stripes resting whole) y.2 in
            let number : owner_of seat.view y.0.frame ≡ n = ap (owner_of seat.view) y.1 ∙ d.1 ∙ rest.number in
            let stripe : l.stripe ≡ s = same_Some _ _ (sym l.at ∙ ap (slice_get stripes) number ∙ at) in
            let here = l.stripe.places.agree.kept y.0.page y.0.frame y.0.tag l.place in
            let there = s.places.agree.kept id x.frame x.tag x.kept in
            let page : y.0.page ≡ id =
            same_Some _ _ (same_Some _ _ (sym here ∙ ap (λ (t : Stripe). slice_get t.places.pages.items y.0.frame) stripe ∙ ap (slice_get s.places.pages.items) y.1 ∙ there)) in
            let held = dirty_held locks stripes seat.view in
            let bytes = All-contains (λ (p : FramePage). held (part_of_id p.page) (index_of_id p.page) ≡ Some (frame_bytes seat.view p.frame)) pages y.0 (held_frames locks shape seat stripes resting whole) y.2 in (
              y.0,
              y.1,
              page,
              subst (λ (p : PageId). has_index (part_of_id p) (index_of_id p) (names_of pages) ≡ true) page (one_indexed pages y.0 y.2),
              subst (λ (p : PageId). held (part_of_id p) (index_of_id p) ≡ Some (frame_bytes seat.view y.0.frame)) page bytes,
            )

        -- with the bytes that are seen of it
        same_bytes : (file : PageId → Option (List ℕ)) → dirty_held locks stripes seat.view (part_of_id id) (index_of_id id) ≡ page_bytes file (kept s seat) id
        same_bytes file =
            let k = holds.kept id x.frame x.tag x.kept in
            let d = staying_word seat.view x.frame s.number x.entry (resting.settled.each x.frame k.frame) has x.at x.stay in
            let y = is_listed in
            y.4 ∙ ap (λ f. Some (frame_bytes seat.view f)) y.1
            ∙ ap (λ m. Some (entry_or (entry_at seat.view.entries m x.frame)).bytes) d.1
            ∙ ap (λ o. Some (entry_or o).bytes) x.at
            ∙ sym ((λ i. bytes_by (none_held id i) (x.kept i) seat.view.entries s.number (file id)) ∙ ap (option_map (λ (e : Entry). e.bytes)) x.at)

  -- what is listed reads as what it says
  all_read : (file : Stripe → PageId → Option (List ℕ)) → AllReadAtHand file locks seat stripes → AreReading (dirty_held locks stripes seat.view) (dirty_pages locks stripes seat.view)
  all_read file readable k d lt =
      let name = λ (p : FramePage). p.page in
      let low : k < length pages = omega (arith, lt, length-map pages name) in
      let none : FramePage = record { page = d; frame = 0; tag = 0 } in
      let x = get_or pages k none in
      subst (λ (p : PageId). Reads p (page_of held p)) (sym (get_or-map name pages k none d low)) (at_page x (all_listed locks shape seat stripes resting whole k none low) (held_frames locks shape seat stripes resting whole k none low))
    where
      held : ℕ → ℕ → Option (List ℕ)
      held = dirty_held locks stripes seat.view

      at_page : (x : FramePage) → IsListed locks shape seat stripes x → held (part_of_id x.page) (index_of_id x.page) ≡ Some (frame_bytes seat.view x.frame) → Reads x.page (page_of held x.page)
      at_page x l is =
          let own = owner_of seat.view x.frame in
          let r = resting.each own l.stripe l.at in
          let k = kept_of locks shape seat stripes resting whole x l in
          let none = none_held own l.stripe l.at x.page in
          let put : entry_at seat.view.entries l.stripe.number x.frame ≡ Some l.entry = ap (λ m. entry_at seat.view.entries m x.frame) r.number ∙ l.put in
          let known : is_known (kept l.stripe seat) x.page ≡ true =
          (λ i. known_by (none i) (l.place i) seat.view.entries l.stripe.number) ∙ ap stays_in put ∙ ap stays l.entry_flag in
          let bytes : page_bytes (file l.stripe) (kept l.stripe seat) x.page ≡ Some l.entry.bytes =
          (λ i. bytes_by (none i) (l.place i) seat.view.entries l.stripe.number (file l.stripe x.page)) ∙ ap (option_map (λ (e : Entry). e.bytes)) put in
          let reads : Reads x.page l.entry.bytes = subst (λ o. IfSome o (Reads x.page)) bytes (readable own l.stripe l.at x.page k.own known) in
          subst (Reads x.page) (sym (ap bytes_of is ∙ ap (λ o. (entry_or o).bytes) l.put)) reads

pub dirty_stays : DirtyFramesStay
dirty_stays locks shape seat stripes resting whole = record {
  once = dirty_once locks shape seat stripes resting whole;
  listed = λ n s id at own. (
    then_stays locks shape seat stripes resting whole n s at id own,
    λ x. (is_listed locks shape seat stripes resting whole n s at id own x).3,
  );
  bytes = λ n s id at own x. same_bytes locks shape seat stripes resting whole n s at id own x;
  reading = all_read locks shape seat stripes resting whole;
}

-- stripes that are told that the files have pages rest still
pub stay_at_rest : StripesStayAtRest
stay_at_rest locks shape seat before after long same resting = record {
  settled = resting.settled;
  count = long ∙ resting.count;
  each = λ n t at.
      let s = stripe_at before n (omega (arith, long, within after n t at)) in
      let r = resting.each n s.0 s.1 in
      let same_one = same n s.0 t s.1 at in
      let files = rests_on_files s.0 t seat same_one.0 same_one.1 in record {
        number = same_one.0.number ∙ r.number;
        shaped = same_one.0.shape ∙ r.shaped;
        rests = files.rest locks r.rests;
        idle = same_one.0.is_running ∙ r.idle;
        sent = same_one.0.outbox ∙ r.sent;
      };
}
  where
    within : (xs : List Stripe) (n : ℕ) (t : Stripe) → slice_get xs n ≡ Some t → n < length xs
    within [] n t is = absurd cc
    within (x ∷ xs) zero t is = omega arith
    within (x ∷ xs) (suc n) t is = omega (arith, within xs n t is)
