-- A round of one append and one page: what the disk is while it goes on, and what a crash leaves.
use Rattle.std.specs.Prelude.{◌≡◌, ◌≢◌, ◌≤◌, ◌<◌, ◌+◌, ◌*◌, ◌⊎◌, ℕ, List, length, slice_get}
use Rattle.pm_types.specs.Ids.{part_of_id, index_of_id}
use Rattle.pm_types.specs.declared.page_id.PageId.{PageId}
use Rattle.pm_disk.specs.Files.{File, Write, content, bytes_of, with_change, all_forced, missing, gapped}
use Rattle.pm_disk.specs.Images.{Image, Leaves, Lasting}
use Rattle.pm_disk.specs.Worlds.{World, page_at}

-- what the log part has made of a segment: nothing yet, the bytes written, or that forced
abbrev pub IsAppended : File → ℕ → List ℕ → File → Type 0
IsAppended old at bytes now = (now ≡ old)
    ⊎ ((now ≡ with_change old (Write at bytes)) ⊎ (now ≡ all_forced (with_change old (Write at bytes))))

-- A moment of the log part: one segment is appended to, and each other one is as it was.
pub record LogMoment (old : World) (seg at : ℕ) (bytes : List ℕ) (now : World) : Type 0 where
  pub here : IsAppended (old.log seg) at bytes (now.log seg)
  pub there : (s : ℕ) → s ≢ seg → now.log s ≡ old.log s

-- A page was written into its file, after any bytes where that ended before it.
pub record IsPageWritten (old : File) (at : ℕ) (bytes : List ℕ) (now : File) : Type 0 where
  pub gap : List ℕ
  pub reaches : length gap ≡ missing at (content old)
  pub is : now ≡ with_change old (gapped (content old) at gap bytes)

-- A moment of the writer: one page is written or not, and each other partition's file is as it was.
pub record PageMoment (old : World) (page : PageId) (bytes : List ℕ) (now : World) : Type 0 where
  pub here : (now.pages (part_of_id page) ≡ old.pages (part_of_id page))
      ⊎ IsPageWritten (old.pages (part_of_id page)) (page_at page (length bytes)) bytes
      (now.pages (part_of_id page))
  pub there : (p : ℕ) → p ≢ part_of_id page → now.pages p ≡ old.pages p

-- A moment of the round: each pair of the two, and nothing else has changed.
pub record RoundMoment (old : World) (seg at : ℕ) (bytes : List ℕ) (page : PageId) (image : List ℕ)
    (now : World) : Type 0 where
  pub log : LogMoment old seg at bytes now
  pub pages : PageMoment old page image now
  pub starts : now.starts ≡ old.starts
  pub ends : now.ends ≡ old.ends
  pub said : now.said ≡ old.said

-- What a crash during the round, or right after it, leaves: what was lasting before the place of the append,
-- the other pages that were lasting, and of each other file what could be left before the round.
pub record LeftByRound (old : World) (seg at : ℕ) (page : PageId) (size : ℕ) (image : Image) : Type 0 where
  pub front : Lasting (old.log seg) 0 at → (i : ℕ) → i < at
      → slice_get (bytes_of (image.log seg)) i ≡ slice_get (bytes_of (old.log seg).forced) i
  pub segments : (s : ℕ) → s ≢ seg → Leaves (old.log s) (image.log s)
  pub pages : (other : ℕ) → other ≢ index_of_id page
      → Lasting (old.pages (part_of_id page)) (other * size) (other * size + size)
      → (i : ℕ) → other * size ≤ i → i < other * size + size
      → slice_get (bytes_of (image.pages (part_of_id page))) i
      ≡ slice_get (bytes_of (old.pages (part_of_id page)).forced) i
  pub partitions : (p : ℕ) → p ≢ part_of_id page → Leaves (old.pages p) (image.pages p)
  pub starts : Leaves old.starts image.starts
  pub ends : Leaves old.ends image.ends
