-- Sound pages in chains that are right: what their pages name is a data page, so none is bad.
use Rattle.std.proofs.Common.{◌≡◌, ◌≢◌, ℕ, ◌<◌, ◌≤◌, ◌⊎◌, List, [], ◌∷◌, sym, ap, subst, ◌∙◌, inl, inr, arith}
use Rattle.std.specs.Prelude.{◌==◌}
use Rattle.std.proofs.lemmas.Bool.{cases_eq}
use Rattle.pm_data.specs.declared.layout.TheConstants.{DATA_KIND}
use Rattle.pm_meta.specs.declared.layout.TheConstants.{BUCKETS}
use Rattle.pm_meta.specs.declared.slots.MetaSlot.TheVariants.{Bucket}
use Rattle.pm_pages.specs.Rows.{Partition, bytes_of, page_at, page_count, number_in, kind_of}
use Rattle.pm_pages.specs.Chains.{times, next_of, before_of, bucket_chain}
use Rattle.pm_pages.specs.Paged.{Paged}
use Rattle.pm_pages.specs.Edits.{LooksAtPages, HasMeta, IsNumberIn}
use Rattle.pm_pages.proofs.PageReads.{page_at-below}
use Rattle.pm_pages.proofs.SoundPages.{sound_looked}
use Rattle.pm_pages.proofs.ChainWalks.{times_here, times_other}
use Rattle.pm_free.specs.Chained.{home_of, with_home, AreChained, MovesPage}
use Rattle.pm_free.specs.declared.seats.Seat.{Seat}
use Rattle.pm_free.specs.DataEdits.{IsDataAt}
use Rattle.pm_free.specs.Seats.{IsSeatIn}
use Rattle.pm_free.specs.Changes.{ChangesData}
use Rattle.pm_free.specs.Sound.{IsDataOrZero, HasSoundChains}
use Rattle.pm_free.proofs.Changed.{below_count, number_told, pages_told}
use Rattle.pm_free.proofs.Runs.{Run, before_stands, next_stands}
use Rattle.pm_free.proofs.Relinked.{IsRunOf, run_of, home_there, stands_home}
use Rattle.pm_free.proofs.Views.{chain_next, chain_before, next_here, other_home, data_next, data_before}
use Rattle.pm_free.proofs.Settled.{home_here, home_other}

-- a page with a bucket is a data page
pub home_data : (page : List ℕ) → home_of page < BUCKETS → kind_of page ≡ DATA_KIND
home_data page few = elim (cases_eq (kind_of page) DATA_KIND) [
  | inl e ↦ e
  | inr ne ↦ absurd (omega (arith, few, other_home page ne))
]

-- What pages of a chain name.
module _ (pages : Partition) (home : ℕ → ℕ) (chained : AreChained pages home) (some : 0 < page_count pages) (bucket : ℕ) (few : bucket < BUCKETS) where
  was : IsRunOf pages bucket (λ i. home i == bucket) (bucket_chain pages bucket)
  was = run_of pages bucket (λ i. home i == bucket) some (chained.each bucket few)

  pub prev_home : (at : ℕ) → at < page_count pages → home at ≡ bucket → before_of (page_at pages at) ≢ 0 → home (before_of (page_at pages at)) ≡ bucket
  prev_home at below is ne =
      let xs = bucket_chain pages bucket in
      let there : 1 ≤ times at xs = omega (arith, stands_home (page_count pages) bucket at home xs was.list below is) in
      let s = before_stands (chain_next pages bucket) (chain_before pages) 0 at xs was.run there in
      home_there (page_count pages) bucket (before_of (page_at pages at)) home xs was.list (omega (arith, s, times_other (before_of (page_at pages at)) 0 xs (λ e. ne (sym e))))

  pub after_home : (at : ℕ) → at ≢ 0 → at < page_count pages → home at ≡ bucket → next_of (page_at pages at) ≢ 0 → home (next_of (page_at pages at)) ≡ bucket
  after_home at nz below is ne =
      let xs = bucket_chain pages bucket in
      let there : 1 ≤ times at xs = omega (arith, stands_home (page_count pages) bucket at home xs was.list below is) in
      elim (subst (λ n. (n ≡ 0) ⊎ (1 ≤ times n xs)) (next_here pages bucket at nz) (next_stands (chain_next pages bucket) (chain_before pages) 0 at xs was.run there)) [
        | inl e ↦ absurd (ne e)
        | inr s ↦ home_there (page_count pages) bucket (next_of (page_at pages at)) home xs was.list s
      ]

  pub first_home : number_in pages (Bucket bucket) ≢ 0 → home (number_in pages (Bucket bucket)) ≡ bucket
  first_home ne = home_there (page_count pages) bucket (number_in pages (Bucket bucket)) home (bucket_chain pages bucket) was.list (stands_first (bucket_chain pages bucket) was.run)
    where
      stands_first : (xs : List ℕ) → Run (chain_next pages bucket) (chain_before pages) 0 xs → 1 ≤ times (number_in pages (Bucket bucket)) xs
      stands_first [] run = absurd (ne run)
      stands_first (x ∷ xs) run = subst (λ n. 1 ≤ times n (x ∷ xs)) (sym run.0) (omega (arith, times_here x xs))

-- the first page of a bucket is a data page
pub first_data : (T : Type 0) (a b : Paged) (m bucket head : ℕ) (home : ℕ → ℕ) → bucket < BUCKETS → 0 < page_count a.pages → HasSoundChains T a home → LooksAtPages T a b m → IsNumberIn b (Bucket bucket) head → IsDataOrZero b.pages head
first_data T a b m bucket head home few some s looks number = λ nz.
    let same = pages_told T a b m s.told looks in
    let head_is : number_in a.pages (Bucket bucket) ≡ head = ap (λ (p : Partition). number_in p (Bucket bucket)) (sym same) ∙ number_told b (Bucket bucket) head number in
    let is = first_home a.pages home s.chained some bucket few (λ e. nz (sym head_is ∙ e)) in
    let kind = s.data_pages (number_in a.pages (Bucket bucket)) (omega (arith, is, few)) in
    subst (λ (q : Partition × ℕ). kind_of (page_at q.0 q.1) ≡ DATA_KIND) {x = (a.pages, number_in a.pages (Bucket bucket))} {y = (b.pages, head)} (λ k. (sym same k, head_is k)) kind

-- the neighbours that a page of a chain names are data pages
pub neighbours_data : (T : Type 0) (a b c : Paged) (m n at bucket : ℕ) (home : ℕ → ℕ) (seat : Seat) → bucket < BUCKETS → HasSoundChains T a home → home at ≡ bucket → HasMeta a → IsDataAt a at → LooksAtPages T a b m → IsSeatIn b at seat → LooksAtPages T a c n → IsDataOrZero c.pages seat.prev × IsDataOrZero c.pages seat.next
neighbours_data T a b c m n at bucket home seat few s is meta here looks seat_is looks' =
    let below = below_count a at meta here in
    let nz : at ≢ 0 = λ e. omega (arith, e, here.some) in
    let same = pages_told T a c n s.told looks' in
    let page : page_at a.pages at ≡ seat_is.page = page_at-below a.pages at below ∙ ap bytes_of (sym (looks.pages at (inl s.told)) ∙ seat_is.is.in_hand.page) in
    let prev_is : before_of (page_at a.pages at) ≡ seat.prev = ap before_of page ∙ data_before seat_is.page seat_is.is.well_made ∙ sym seat_is.says.before in
    let next_is : next_of (page_at a.pages at) ≡ seat.next = ap next_of page ∙ data_next seat_is.page seat_is.is.well_made ∙ sym seat_is.says.after in
    let kind : (i j : ℕ) → i ≡ j → home i ≡ bucket → kind_of (page_at c.pages j) ≡ DATA_KIND = λ i j e h.
    subst (λ (q : Partition × ℕ). kind_of (page_at q.0 q.1) ≡ DATA_KIND) {x = (a.pages, i)} {y = (c.pages, j)} (λ k. (sym same k, e k)) (s.data_pages i (omega (arith, h, few))) in (
      (λ some. kind (before_of (page_at a.pages at)) seat.prev prev_is (prev_home a.pages home s.chained (omega (arith, below)) bucket few at below is (λ e. some (sym prev_is ∙ e)))),
      (λ some. kind (next_of (page_at a.pages at)) seat.next next_is (after_home a.pages home s.chained (omega (arith, below)) bucket few at nz below is (λ e. some (sym next_is ∙ e)))),
    )

-- pages that were looked at
pub chains_looked : (T : Type 0) (a b : Paged) (m : ℕ) (home : ℕ → ℕ) → LooksAtPages T a b m → HasSoundChains T a home → HasSoundChains T b home
chains_looked T a b m home looks s =
    let same = pages_told T a b m s.told looks in
    record {
      told = s.told;
      sound = sound_looked T a b m s.told looks s.sound;
      chained = subst (λ (p : Partition). AreChained p home) (sym same) s.chained;
      data_pages = λ j few. ap (λ (p : Partition). kind_of (page_at p j)) same ∙ s.data_pages j few;
    }

-- a page was taken out of its chain
pub chains_moved : (T : Type 0) (a b : Paged) (m at bucket : ℕ) (home : ℕ → ℕ) → ChangesData T a b m (λ old new. MovesPage old new at bucket BUCKETS) → HasSoundChains T a home → home at ≡ bucket → HasSoundChains T b (with_home home at BUCKETS)
chains_moved T a b m at bucket home x s is =
    let moves = x.told s.told in
    record {
      told = s.told;
      sound = x.sound s.told s.sound;
      chained = moves.chains home s.chained is;
      data_pages = λ j few. elim (cases_eq j at) [
        | inl e ↦ absurd (omega (arith, few, ap (with_home home at BUCKETS) e, home_here home at BUCKETS))
        | inr ne ↦ (moves.keeps.pages j).kind ∙ s.data_pages j (omega (arith, few, home_other home at BUCKETS j ne))
      ];
    }
