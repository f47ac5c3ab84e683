-- What a data page says of its chain.
use Rattle.std.specs.Prelude.{◌≡◌, ◌≢◌, ℕ, ◌<◌, ◌≤◌, ◌⊎◌, List}
use Rattle.pm_data.specs.declared.layout.TheConstants.{DATA_KIND}
use Rattle.pm_data.specs.DataPages.{data_of}
use Rattle.pm_meta.specs.declared.layout.TheConstants.{BUCKETS}
use Rattle.pm_pages.specs.Rows.{kind_of}
use Rattle.pm_pages.specs.Chains.{bucket_of}
use Rattle.pm_pages.specs.Paged.{Paged, IsInHand}
use Rattle.pm_free.specs.DataEdits.{IsDataIn}
use Rattle.pm_free.specs.declared.seats.Seat.{Seat}

-- a data page says this of its chain
pub record IsSeatOn (page : List ℕ) (seat : Seat) : Type 0 where
  pub before : seat.prev ≡ (data_of page).prev
  pub after : seat.next ≡ (data_of page).next
  pub room : seat.bucket ≡ bucket_of page
  pub few : seat.bucket < BUCKETS

-- page i is a data page that is at hand, and says this of its chain
pub record IsSeatIn (p : Paged) (i : ℕ) (seat : Seat) : Type 0 where
  pub page : List ℕ
  pub is : IsDataIn p i page
  pub says : IsSeatOn page seat

-- page i is at hand and is no data page
pub record IsOfOtherKind (p : Paged) (i : ℕ) : Type 0 where
  pub page : List ℕ
  pub in_hand : IsInHand p i page
  pub kind : kind_of page ≢ DATA_KIND

-- page i is no data page of a partition of so many pages
abbrev pub IsNoDataIn : Paged → ℕ → ℕ → Type 0
IsNoDataIn p count i = (count ≤ i) ⊎ IsOfOtherKind p i
