-- The pages at hand of all partitions of a worker read as what they say, from call to call.
use Rattle.std.proofs.Common.{◌≡◌, ◌≢◌, ◌⊎◌, inl, inr, ℕ, zero, suc, ◌≤◌, true, false, List, Option, Some, None, refl, sym, ap, subst, ◌∙◌, arith}
use Rattle.std.specs.Prelude.{IsTrue, IfSome}
use Rattle.std.proofs.lemmas.Bool.{cases_eq}
use Rattle.pm_types.specs.declared.page_id.PageId.{PageId}
use Rattle.pm_types.specs.declared.shape.Shape.{Shape}
use Rattle.pm_types.specs.Ids.{page_id, part_of_id, index_of_id}
use Rattle.pm_disk.specs.Moments.{History}
use Rattle.pm_disk.specs.States.{DeviceState}
use Rattle.pm_pages.specs.PageLists.{IsReadable, ReadsAt}
use Rattle.pm_pages.specs.Paged.{AllReadable}
use Rattle.pm_records.specs.PageNames.{IsPageName}
use Rattle.pm_locks.specs.Sight.{LockTable}
use Rattle.pm_locks.specs.declared.view.Entry.{Entry}
use Rattle.pm_stripe.specs.declared.bound.Bound.{Bound}
use Rattle.pm_stripe.specs.declared.held.Held.{Held}
use Rattle.pm_stripe.specs.HandLaws.{held_is}
use Rattle.pm_stripe.specs.Kept.{Kept, Holds, IsPageOf, IsStaying, held_at, place_of, last_put, known_by, page_bytes, is_known, stays_in}
use Rattle.pm_stripe.specs.Readable.{ReadsAtHand, BoundReadsAtHand, ReadsByParts, KeepsReading}
use Rattle.pm_stripe.specs.Reads.{Reads}
use Rattle.pm_stripe.specs.Shown.{shown, kept_by, file_by, IsReady, KeepsBound}
use Rattle.pm_stripe.specs.Stripes.{kept, file_of}
use Rattle.pm_stripe.proofs.Hands.{found_at}
use Rattle.pm_stripe.proofs.PlacedPages.{same_page}

-- a name is that of its partition and index
pub name_is : (id : PageId) → IsPageName id → page_id (part_of_id id) (index_of_id id) ≡ id
name_is id name = same_page (page_id (part_of_id id) (index_of_id id)) id (omega (arith, name.flag))

-- a meta page is no page of another kind
meta_reads : (page : List ℕ) → ReadsAt zero page → IsReadable page
meta_reads page m = record {
  size = m.size;
  data_page = λ e. absurd (omega (arith, e, m.form.kind));
  leaf = λ e. absurd (omega (arith, e, m.form.kind));
  inner = λ e. absurd (omega (arith, e, m.form.kind));
  reuse = λ e. absurd (omega (arith, e, m.form.kind));
}

-- a page that reads as what it says at one index does so at a later one
read_on : (i j : ℕ) (page : List ℕ) → (i ≡ j) ⊎ (1 ≤ i) → ReadsAt j page → ReadsAt i page
read_on i j page (inl same) reads = subst (λ n. ReadsAt n page) (sym same) reads
read_on zero j page (inr some) reads = absurd (omega (arith, some))
read_on (suc i) zero page (inr some) reads = meta_reads page reads
read_on (suc i) (suc j) page (inr some) reads = reads

read_if : (i j : ℕ) (o : Option (List ℕ)) → (i ≡ j) ⊎ (1 ≤ i) → IfSome o (ReadsAt j) → IfSome o (ReadsAt i)
read_if i j None order reads = tt
read_if i j (Some page) order reads = read_on i j page order reads

-- a page at hand is the worker's
known_own : (locks : LockTable) (k : Kept) (id : PageId) → Holds locks k → is_known k id ≡ true → IsPageOf locks.workers k.shape.partitions k.number id
known_own locks k id holds known = by_hand (held_at k.held id.0) refl known
  where
    by_place : (p : Option (ℕ × ℕ)) → place_of k id ≡ p → known_by None p k.seat.view.entries k.number ≡ true → IsPageOf locks.workers k.shape.partitions k.number id
    by_place None place is = absurd (cc is)
    by_place (Some (f, tag)) place is = (holds.kept id f tag place).own

    by_hand : (o : Option Held) → held_at k.held id.0 ≡ o → known_by o (place_of k id) k.seat.view.entries k.number ≡ true → IsPageOf locks.workers k.shape.partitions k.number id
    by_hand None none is = by_place (place_of k id) refl is
    by_hand (Some h) at is =
        let x = found_at k.held id.0 h at in
        subst (IsPageOf locks.workers k.shape.partitions k.number) (same_page h.page id (held_is k.held id.0 h at)) (holds.held x.0 h x.1).own

-- a page in hand was at hand
known_in_hand : (k k' : Kept) (id : PageId) → (held_at k.held id.0 ≡ None → is_known k' id ≡ is_known k id) → IsTrue (is_known k' id) → IsTrue (is_known k id)
known_in_hand k k' id only known = by (held_at k.held id.0) refl
  where
    by : (o : Option Held) → held_at k.held id.0 ≡ o → IsTrue (is_known k id)
    by None is = sym (only is) ∙ known
    by (Some h) is = ap (λ (o : Option Held). known_by o (place_of k id) k.seat.view.entries k.number) is

-- what is at hand where no page is in hand stays in its frame
known_stays : (k : Kept) (id : PageId) → held_at k.held id.0 ≡ None → is_known k id ≡ true → IsStaying k id
known_stays k id none known = by_place (place_of k id) refl (sym (ap (λ o. known_by o (place_of k id) k.seat.view.entries k.number) none) ∙ known)
  where
    by_put : (f tag : ℕ) → place_of k id ≡ Some (f, tag) → (o : Option Entry) → last_put k f ≡ o → stays_in o ≡ true → IsStaying k id
    by_put f tag place None put is = absurd (cc is)
    by_put f tag place (Some e) put is = record { frame = f; tag = tag; entry = e; kept = place; at = put; stay = is }

    by_place : (p : Option (ℕ × ℕ)) → place_of k id ≡ p → known_by None (place_of k id) k.seat.view.entries k.number ≡ true → IsStaying k id
    by_place None place is = absurd (let bad : false ≡ true = sym (ap (λ p. known_by None p k.seat.view.entries k.number) place) ∙ is in cc bad)
    by_place (Some (f, tag)) place is = by_put f tag place (last_put k f) refl (sym (ap (λ p. known_by None p k.seat.view.entries k.number) place) ∙ is)

-- a page of a partition, by the worker's pages
shown_reads : (file : PageId → Option (List ℕ)) (locks : LockTable) (k : Kept) → Holds locks k → ReadsAtHand file locks.workers k → (part i : ℕ) → IsTrue (is_known k (page_id part i)) → IfSome (page_bytes file k (page_id part i)) (ReadsAt i)
shown_reads file locks k holds reads part i known =
    let id = page_id part i in
    let order : (i ≡ index_of_id id) ⊎ (1 ≤ i) = index_or i in
    read_if i (index_of_id id) (page_bytes file k id) order (reads id (known_own locks k id holds known) known)
  where
    index_or : (i : ℕ) → (i ≡ index_of_id (page_id part i)) ⊎ (1 ≤ i)
    index_or zero = inl (omega arith)
    index_or (suc i) = inr (omega arith)

pub reads_by_parts : ReadsByParts
reads_by_parts = record {
  parts = λ file faults workers k all id own known.
      let same = name_is id own.name in
      let x = all (part_of_id id) own.part own.worker in
      subst (λ (j : PageId). IfSome (page_bytes file k j) (Reads id)) same (x.each (index_of_id id) (ap (is_known k) same ∙ known));
  none = λ file workers k none never id own known. absurd (never id (known_stays k id (ap (λ hs. held_at hs id.0) none) known));
  shown = λ file faults locks k holds reads part. record { each = λ i known. shown_reads file locks k holds reads part i known };
}

-- nothing more is at hand, and what is has the same bytes
reads_then : (file file' : PageId → Option (List ℕ)) (workers workers' : ℕ) (k k' : Kept) → workers' ≡ workers → k'.shape ≡ k.shape → k'.number ≡ k.number
    → ((id : PageId) → IsTrue (is_known k' id) → IsTrue (is_known k id)) → ((id : PageId) → IsTrue (is_known k' id) → page_bytes file' k' id ≡ page_bytes file k id)
    → ReadsAtHand file workers k → ReadsAtHand file' workers' k'
reads_then file file' workers workers' k k' same shape number only pages reads id own known =
    subst (λ (o : Option (List ℕ)). IfSome o (Reads id)) (sym (pages id known))
    (reads id (subst (λ (p : ℕ × Shape × ℕ). IsPageOf p.0 p.1.partitions p.2 id) (λ i. (same i, shape i, number i)) own) (only id known))

pub keeps_reading : {Q R : Type 0} (tells : Type 0) (history : R → History) (state : R → DeviceState) → KeepsReading Q R tells history state
keeps_reading {Q} {R} tells history state = record {
  ready = λ b c x.
      reads_then (file_by history b) (file_by history c) b.locks.now.workers c.locks.now.workers (kept_by b) (kept_by c)
      (ap (λ l. l.now.workers) x.locks) x.same.shape x.same.number (λ id known. known_in_hand (kept_by b) (kept_by c) id (x.only id) known) (λ id known. x.pages id (inr known));
  calls = called;
  done = λ b c x.
      reads_then (file_by history b) (file_by history c) b.locks.now.workers c.locks.now.workers (kept_by b) (kept_by c)
      (ap (λ l. l.now.workers) x.locks) x.same.shape x.same.number (λ id known. known_in_hand (kept_by b) (kept_by c) id (x.only id) known) (λ id known. x.pages id (inr known));
  end = λ b s seat x.
      reads_then (file_by history b) (file_of s (history b.reader)) b.locks.now.workers b.locks.now.workers (kept_by b) (kept s seat)
      refl x.same.shape x.same.number (λ id known. known_in_hand (kept_by b) (kept s seat) id (x.only id) known) (λ id known. x.pages id (inr known));
}
  where
    called : (b c : Bound Q R) → IsReady tells history state b → KeepsBound tells history state b c → AllReadable (shown history state c) → BoundReadsAtHand history b → BoundReadsAtHand history c
    called b c ready x here reads id own known = elim (cases_eq (part_of_id id) c.part) [
      | inl same ↦
          let name : page_id c.part (index_of_id id) ≡ id = ap (λ p. page_id p (index_of_id id)) (sym same) ∙ name_is id own.name in
          subst (λ (j : PageId). IfSome (page_bytes (file_by history c) (kept_by c) j) (Reads id)) name (here.each (index_of_id id) (ap (is_known (kept_by c)) name ∙ known))
      | inr other ↦
          let y = (x.leaves ready).others in
          let ne : part_of_id id ≢ b.part = λ e. other (e ∙ sym x.part) in
          let was : IsTrue (is_known (kept_by b) id) = sym (y.known id ne) ∙ known in
          subst (λ (o : Option (List ℕ)). IfSome o (Reads id)) (sym (y.pages id ne (inr was)))
          (reads id (subst (λ (p : ℕ × Shape × ℕ). IsPageOf p.0 p.1.partitions p.2 id) (λ i. ((x.locks i).now.workers, x.same.shape i, x.same.number i)) own) was)
    ]
