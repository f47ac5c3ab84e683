-- The bucket whose first page takes a row.
use Rattle.std.specs.Prelude.{◌≡◌, ℕ, ◌+◌, ◌*◌, ◌<◌, ◌≤◌, List}
use Rattle.pm_data.specs.declared.layout.TheConstants.{SLOT_LEN}
use Rattle.pm_meta.specs.declared.layout.TheConstants.{BUCKETS}
use Rattle.pm_meta.specs.declared.slots.MetaSlot.TheVariants.{Bucket, Pages}
use Rattle.pm_meta.specs.MetaPages.{field_of}
use Rattle.pm_pages.specs.Chains.{bucket_of}
use Rattle.pm_pages.specs.Paged.{Paged}
use Rattle.pm_pages.specs.Edits.{IsNumberIn}
use Rattle.pm_free.specs.declared.buckets.Head.{Head}
use Rattle.pm_free.specs.DataEdits.{IsDataIn}

-- the buckets from one on, below another, have no pages
abbrev pub HasNoneOn : List ℕ → ℕ → ℕ → Type 0
HasNoneOn meta from end = (bucket : ℕ) → from ≤ bucket → bucket < end → field_of meta (Bucket bucket) ≡ 0

-- this is the first page of the lowest bucket, from one on, that has pages
pub record IsFirstOn (meta : List ℕ) (from : ℕ) (head : Head) : Type 0 where
  pub from_on : from ≤ head.bucket
  pub few : head.bucket < BUCKETS
  pub is : head.at ≡ field_of meta (Bucket head.bucket)
  pub some : 1 ≤ head.at
  pub lowest : HasNoneOn meta from head.bucket

-- each page of the bucket has room for a row of this length
abbrev pub HasEnough : ℕ → ℕ → ℕ → Type 0
HasEnough page_size len bucket = (len + SLOT_LEN) * BUCKETS ≤ bucket * page_size

-- this is the first page of the lowest bucket that has pages, of those whose pages have room for a row of
-- this length
pub record IsHeadFor (p : Paged) (len : ℕ) (head : Head) : Type 0 where
  pub few : head.bucket < BUCKETS
  pub enough : HasEnough p.page_size len head.bucket
  pub is : IsNumberIn p (Bucket head.bucket) head.at
  pub some : 1 ≤ head.at
  pub lowest : (bucket : ℕ) → bucket < head.bucket → HasEnough p.page_size len bucket
      → IsNumberIn p (Bucket bucket) 0

-- no bucket has pages of those whose pages have room for a row of this length
abbrev pub HasNoHeadFor : Paged → ℕ → Type 0
HasNoHeadFor p len = (bucket : ℕ) → bucket < BUCKETS → HasEnough p.page_size len bucket
    → IsNumberIn p (Bucket bucket) 0

-- page i is a data page of this bucket that is at hand
pub record IsHeadIn (p : Paged) (i bucket : ℕ) : Type 0 where
  pub some : 1 ≤ i
  pub below : (n : ℕ) → IsNumberIn p Pages n → i < n
  pub page : List ℕ
  pub is : IsDataIn p i page
  pub room : bucket_of page ≡ bucket
