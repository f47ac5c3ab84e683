-- What a worker's frames have reads as what it says, whichever partition is meant.
use Rattle.std.proofs.Common.{◌≡◌, ◌≢◌, ℕ, zero, suc, ◌<◌, ◌≤◌, true, List, ◌⊎◌, ⊎_elim, inl, inr, Option, None, Some, sym, refl, ap, subst, ◌∙◌, arith}
use Rattle.std.specs.Prelude.{◌^◌, IsTrue, IfSome}
use Rattle.std.proofs.lemmas.Bool.{cases_eq, cases_lt}
use Rattle.pm_types.specs.declared.page_id.PageId.{PageId}
use Rattle.pm_types.specs.Ids.{page_id, index_of_id, part_of_id}
use Rattle.pm_meta.specs.MetaPages.{IsMetaPage}
use Rattle.pm_disk.specs.Moments.{History}
use Rattle.pm_disk.specs.States.{DeviceState}
use Rattle.pm_pages.specs.PageLists.{IsReadable, ReadsAt}
use Rattle.pm_pages.specs.Paged.{AllReadable}
use Rattle.pm_locks.specs.Sight.{LockTable}
use Rattle.pm_stripe.specs.declared.bound.Bound.{Bound}
use Rattle.pm_stripe.specs.declared.held.Held.{Held}
use Rattle.pm_stripe.specs.HandLaws.{held_is}
use Rattle.pm_stripe.specs.Kept.{Kept, held_at, page_bytes, is_known, Holds, IsPageOf}
use Rattle.pm_stripe.specs.Shown.{kept_by, file_by, KeepsOthers}
use Rattle.pm_stripe.proofs.Hands.{found_at}
use Rattle.pm_stripe.proofs.PlacedPages.{same_page}
use Rattle.pm_engine.specs.FrameCommands.{AreReadable, part_seen}
use Rattle.pm_engine.proofs.FrameChanges.{known_staying}

-- a meta page reads as any other does
meta_readable : (page : List ℕ) → IsMetaPage page → IsReadable page
meta_readable page meta = record {
  size = meta.size;
  data_page = λ e. absurd (omega (arith, e, meta.form.kind));
  leaf = λ e. absurd (omega (arith, e, meta.form.kind));
  inner = λ e. absurd (omega (arith, e, meta.form.kind));
  reuse = λ e. absurd (omega (arith, e, meta.form.kind));
}

reads_past : (j i : ℕ) (page : List ℕ) → 0 < i → ReadsAt j page → ReadsAt i page
reads_past j zero page lt reads = absurd (omega (arith, lt))
reads_past zero (suc i) page lt reads = meta_readable page reads
reads_past (suc j) (suc i) page lt reads = reads

any_reads : (j i : ℕ) (o : Option (List ℕ)) → (j ≡ i) ⊎ (0 < i) → IfSome o (ReadsAt j) → IfSome o (ReadsAt i)
any_reads j i None way reads = reads
any_reads j i (Some page) way reads = ⊎_elim (λ e. subst (λ n. ReadsAt n page) e reads) (λ lt. reads_past j i page lt reads) way

-- what is at hand is one of the worker's pages
known_own : (locks : LockTable) (k : Kept) (id : PageId) → Holds locks k → is_known k id ≡ true → IsPageOf locks.workers k.shape.partitions k.number id
known_own locks k id holds known = by_hand (held_at k.held id.0) refl
  where
    by_hand : (o : Option Held) → held_at k.held id.0 ≡ o → IsPageOf locks.workers k.shape.partitions k.number id
    by_hand None away =
        let stay = known_staying k id away known in
        (holds.kept id stay.frame stay.tag stay.kept).own
    by_hand (Some h) at =
        let x = found_at k.held id.0 h at in
        subst (IsPageOf locks.workers k.shape.partitions k.number) (same_page h.page id (held_is k.held id.0 h at)) (holds.held x.0 h x.1).own

module _ {Q R : Type 0} (history : R → History) (state : R → DeviceState) where
  -- of each partition, as code over any pages sees it
  pub part_readable : (b : Bound Q R) (part : ℕ) → Holds b.locks.now (kept_by b) → part < 2 ^ 16 → AreReadable history b → AllReadable (part_seen history state b part)
  part_readable b part holds small readable = record {
    each = λ i known.
        let id = page_id part i in
        let own = known_own b.locks.now (kept_by b) id holds known in
        let q = part_of_id id in
        let j = index_of_id id in
        let low : j < 2 ^ 32 = omega arith in
        let name : page_id q j ≡ id = same_page (page_id q j) id (omega (arith, own.name.flag)) in
        let reads : IfSome (page_bytes (file_by history b) (kept_by b) id) (ReadsAt j) =
        subst (λ (at : PageId). IsTrue (is_known (kept_by b) at) → IfSome (page_bytes (file_by history b) (kept_by b) at) (ReadsAt j)) name (readable.each q j own.part low) known in
        any_reads j i (page_bytes (file_by history b) (kept_by b) id) (elim (cases_lt i (2 ^ 32)) [ inl lt ↦ inl (omega (arith, lt, small)) | inr le ↦ inr (omega (arith, le)) ]) reads;
  }

  -- nothing more is at hand, and what is has the same bytes
  pub readable_still : (b c : Bound Q R) → c.stripe.shape ≡ b.stripe.shape → ((id : PageId) → IsTrue (is_known (kept_by c) id) → IsTrue (is_known (kept_by b) id))
      → ((id : PageId) → IsTrue (is_known (kept_by c) id) → page_bytes (file_by history c) (kept_by c) id ≡ page_bytes (file_by history b) (kept_by b) id)
      → AreReadable history b → AreReadable history c
  readable_still b c shape only same readable = record {
    each = λ part i below low known.
        let id = page_id part i in
        subst (λ (o : Option (List ℕ)). IfSome o (ReadsAt i)) (sym (same id known)) (readable.each part i (subst (λ n. part < n) (ap (λ s. s.partitions) shape) below) low (only id known));
  }

  -- the pages of one partition were worked on, and those of the others are as they were
  pub readable_beside : (tells : Type 0) (b m : Bound Q R) (part : ℕ) → m.stripe.shape ≡ b.stripe.shape → b.stripe.shape.partitions ≤ 2 ^ 16
      → KeepsOthers tells (file_by history b) (file_by history m) part (kept_by b) (kept_by m) → AllReadable (part_seen history state m part) → AreReadable history b → AreReadable history m
  readable_beside tells b m part shape few others here readable = record {
    each = λ q i below low known. elim (cases_eq q part) [
      | inl same ↦
          subst (λ p. IsTrue (is_known (kept_by m) (page_id p i)) → IfSome (page_bytes (file_by history m) (kept_by m) (page_id p i)) (ReadsAt i)) (sym same) (here.each i) known
      | inr ne ↦
          let id = page_id q i in
          let inside : q < b.stripe.shape.partitions = subst (λ n. q < n) (ap (λ s. s.partitions) shape) below in
          let other : part_of_id id ≢ part = (λ e. ne (omega (arith, e, low, inside, few))) in
          let was : IsTrue (is_known (kept_by b) id) = sym (others.known id other) ∙ known in
          subst (λ (o : Option (List ℕ)). IfSome o (ReadsAt i)) (sym (others.pages id other (inr was))) (readable.each q i inside low was)
    ];
  }
