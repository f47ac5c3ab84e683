-- The neighbours of a page name one another, or a page is put before the first of a chain: the page has another bucket.
use Rattle.std.proofs.Common.{◌≡◌, ◌≢◌, ℕ, ◌<◌, [], refl, sym, ap, subst, ◌∙◌, inl, arith}
use Rattle.pm_meta.specs.declared.layout.TheConstants.{BUCKETS}
use Rattle.pm_meta.specs.declared.slots.MetaSlot.TheVariants.{Bucket, Pages}
use Rattle.pm_pages.specs.Rows.{Partition, bytes_of, page_at, page_count, number_in}
use Rattle.pm_pages.specs.Chains.{next_of, before_of}
use Rattle.pm_pages.specs.Paged.{Paged}
use Rattle.pm_pages.specs.Edits.{LooksAtPages, HasMeta, IsNumberIn}
use Rattle.pm_pages.proofs.PageReads.{page_at-below}
use Rattle.pm_free.specs.declared.seats.Seat.{Seat}
use Rattle.pm_free.specs.declared.edits.Edit.TheVariants.{Links}
use Rattle.pm_free.specs.DataEdits.{IsDataAt}
use Rattle.pm_free.specs.Seats.{IsSeatIn}
use Rattle.pm_free.specs.Chained.{MovesPage, KeepsAllRows}
use Rattle.pm_free.specs.Changes.{EditsPartition, SetsHead, SetsBefore, SetsAfter, IsDataOrNone}
use Rattle.pm_free.proofs.Changed.{below_count, meta_is, number_told, pages_told}
use Rattle.pm_free.proofs.Views.{next_here, keeps_all_then, data_next, data_before, views_edit, keeps_edit, keeps_head, head_here, head_other, head_next, head_before, views_after, views_before}
use Rattle.pm_free.proofs.Relinked.{unlinked, linked}

-- a page's neighbours, in a partition that is as it was
pub record SeatKnown (at prev next : ℕ) (old new : Partition) : Type 0 where
  pub same : new ≡ old
  pub some : at ≢ 0
  pub below : at < page_count old
  pub before_is : before_of (page_at old at) ≡ prev
  pub after_is : next_of (page_at old at) ≡ next
  pub next_below : next ≢ 0 → next < page_count old

pub seat_known : (T : Type 0) (a b c : Paged) (m n at : ℕ) (seat : Seat) → T → HasMeta a → IsDataAt a at → LooksAtPages T a b m → IsSeatIn b at seat → LooksAtPages T a c n → IsDataOrNone c seat.next → SeatKnown at seat.prev seat.next a.pages c.pages
seat_known T a b c m n at seat t meta is looks seat_is looks' next =
    let below = below_count a at meta is in
    let page : page_at a.pages at ≡ seat_is.page = page_at-below a.pages at below ∙ ap bytes_of (sym (looks.pages at (inl t)) ∙ seat_is.is.in_hand.page) in
    record {
      same = pages_told T a c n t looks';
      some = λ e. omega (arith, e, is.some);
      below = below;
      before_is = ap before_of page ∙ data_before seat_is.page seat_is.is.well_made ∙ sym seat_is.says.before;
      after_is = ap next_of page ∙ data_next seat_is.page seat_is.is.well_made ∙ sym seat_is.says.after;
      next_below = λ some. omega (arith, below_count c seat.next (meta_is T a c n meta looks') (next some), ap (λ (p : Partition). page_count p) (pages_told T a c n t looks'));
    }

count_kept : (a b : Partition) → KeepsAllRows a b → page_count b ≡ page_count a
count_kept a b keeps = keeps.numbers Pages tt (λ b e. cc e)

-- a page was taken out
pub moves_out : (at bucket prev next : ℕ) → bucket < BUCKETS → (x y z : Partition) → SeatKnown at prev next x y → (between : Partition) × SetsAfter bucket prev next y between × SetsBefore next prev between z → MovesPage x z at bucket BUCKETS
moves_out at bucket prev next few x y z known sets =
    let w = sets.0 in
    let va = views_after bucket prev next x w known.next_below (subst (λ (p : Partition). SetsAfter bucket prev next p w) known.same sets.1) in
    let vb = views_before next prev w z sets.2 in
    let keeps = keeps_all_then x w z va.keeps vb.keeps in
    record {
      keeps = keeps;
      chains = λ home chained is. unlinked x z at bucket prev next (count_kept x z keeps) known.below known.some known.before_is (next_here x bucket at known.some ∙ known.after_is)
          (vb.after bucket prev ∙ va.here) (λ b lt ne. vb.after b 0 ∙ va.heads b lt ne) (λ b j lt ne. vb.after b j ∙ va.others b j lt ne) vb.here (λ j ne. vb.others j ne ∙ va.before j) home few chained is;
    }

-- the first page of a chain, in a partition that is as it was
pub record HeadKnown (at bucket head : ℕ) (old new : Partition) : Type 0 where
  pub same : new ≡ old
  pub some : at ≢ 0
  pub below : at < page_count old
  pub head_is : number_in old (Bucket bucket) ≡ head

pub head_known : (T : Type 0) (a b c : Paged) (m n at bucket head : ℕ) → T → HasMeta a → IsDataAt a at → LooksAtPages T a b m → IsNumberIn b (Bucket bucket) head → LooksAtPages T a c n → HeadKnown at bucket head a.pages c.pages
head_known T a b c m n at bucket head t meta is looks number looks' = record {
  same = pages_told T a c n t looks';
  some = λ e. omega (arith, e, is.some);
  below = below_count a at meta is;
  head_is = ap (λ (p : Partition). number_in p (Bucket bucket)) (sym (pages_told T a b m t looks)) ∙ number_told b (Bucket bucket) head number;
}

-- a page was put at the head
pub moves_in : (at bucket head : ℕ) → bucket < BUCKETS → (x y z : Partition) → HeadKnown at bucket head x y
    → (p : Partition) × (q : Partition) × SetsBefore head at y p × EditsPartition at [] (Links 0 head) p q × SetsHead bucket at q z → MovesPage x z at BUCKETS bucket
moves_in at bucket head few x y z known sets =
    let p = sets.0 in
    let q = sets.1 in
    let vb = views_before head at x p (subst (λ (w : Partition). SetsBefore head at w p) known.same sets.2) in
    let ve = views_edit at [] (Links 0 head) p q sets.3 in
    let below : at ≢ 0 → at < page_count q = λ some. omega (arith, known.below, ve.count, count_kept x p vb.keeps) in
    let keeps = keeps_all_then x p z vb.keeps (keeps_all_then p q z (keeps_edit at [] (Links 0 head) p q sets.3 refl) (keeps_head bucket at q z sets.4 below)) in
    record {
      keeps = keeps;
      chains = λ home chained is. linked x z at bucket head (count_kept x z keeps) known.below known.some known.head_is
          (head_here bucket at q z sets.4)
          (λ b lt ne. head_other bucket at q z sets.4 b lt ne ∙ ve.numbers (Bucket b) ∙ vb.after b 0)
          (λ b. head_next bucket at q z sets.4 b at known.some ∙ next_here q b at known.some ∙ ve.after)
          (λ b j nz ne. head_next bucket at q z sets.4 b j nz ∙ next_here q b j nz ∙ ap next_of (ve.others j ne) ∙ sym (next_here p b j nz) ∙ vb.after b j)
          (head_before bucket at q z sets.4 at ∙ ve.before)
          (λ nz ne. head_before bucket at q z sets.4 head ∙ ap before_of (ve.others head ne) ∙ vb.here nz)
          (λ j ne nh. head_before bucket at q z sets.4 j ∙ ap before_of (ve.others j ne) ∙ vb.others j nh)
          home few chained is;
    }
