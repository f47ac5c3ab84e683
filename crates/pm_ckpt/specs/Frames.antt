-- What a checkpoint does to page frames, as its seat knows them.
--
--   Dirty --> Due --> Done --> Clean
--
--   every Dirty frame becomes Due, all of them before a page is written
--   each becomes Done as its page is written
--   each becomes Clean once the end marker is in force
use Rattle.std.specs.Prelude.{◌≡◌, ◌≢◌, ◌⊎◌, ℕ, List, length, map, All, AllPairs, Some, Result, OnOk}
use Rattle.pm_types.specs.declared.flag.Flag.{Flag}
use Rattle.pm_types.specs.declared.flag.Flag.TheVariants as flag
use Rattle.pm_types.specs.declared.page_id.PageId.{PageId}
use Rattle.pm_types.specs.Ids.{part_of_id, index_of_id}
use Rattle.pm_core.specs.BasePages.{Partitions}
use Rattle.pm_locks.specs.Sight.{Sight, LockTable, IsSeatOf, IsFrameOf, KnowsAll}
use Rattle.pm_locks.specs.Steps.{entry_as}
use Rattle.pm_locks.specs.Views.{IsStill, known_at, left_at, entry_at}
use Rattle.pm_locks.specs.Words.{AT_HOME, IsWanted, put_as}
use Rattle.pm_locks.specs.declared.view.Entry.{Entry}
use Rattle.pm_locks.specs.declared.view.View.{View}
use Rattle.pm_ckpt.specs.declared.frame_page.FramePage.{FramePage}

-- the pages' names
abbrev pub names_of : List FramePage → List PageId
names_of pages = map (λ page. page.page) pages

-- A seat of these locks that stands for all numbers, knows each frame's word and has nothing out.
pub record IsWholeSeat (locks : LockTable) (seat : Sight) : Type 0 where
  pub of : IsSeatOf locks seat
  pub knows : KnowsAll locks seat.view
  pub still : IsStill seat.view

-- the owner of a frame
abbrev pub owner_of : View → ℕ → ℕ
owner_of view f = (known_at view f).owner

-- the bytes that its owner last put into a frame
abbrev pub frame_bytes : View → ℕ → List ℕ
frame_bytes view f = (left_at view (owner_of view f) f).bytes

-- The page's frame is at home, with the tag that is named and this flag.
pub record IsFlagged (locks : LockTable) (flagged : Flag) (view : View) (page : FramePage) : Type 0 where
  pub frame : IsFrameOf locks page.frame
  pub wanted : IsWanted (known_at view page.frame) page.tag flagged
  pub home : (known_at view page.frame).holder ≡ AT_HOME

-- no two of the pages are in one frame
abbrev pub AreApart : List FramePage → Type 0
AreApart pages = AllPairs (λ one other. one.frame ≢ other.frame) pages

-- One frame has this flag, and all else that is known of frames is as it was.
pub record SetsFlag (flagged : Flag) (f : ℕ) (old new : View) : Type 0 where
  pub here : known_at new f ≡ put_as flagged (known_at old f)
  pub others : (g : ℕ) → g ≢ f → known_at new g ≡ known_at old g
  pub entries : new.entries ≡ old.entries

-- Each of these frames has this flag, and all else that is known of frames is as it was.
pub record SetsFlags (flagged : Flag) (pages : List FramePage) (old new : View) : Type 0 where
  pub each : All (λ page. known_at new page.frame ≡ put_as flagged (known_at old page.frame)) pages
  pub others : (f : ℕ) → All (λ page. page.frame ≢ f) pages → known_at new f ≡ known_at old f
  pub entries : new.entries ≡ old.entries

-- what a frame's owner puts into it where it makes it Clean
abbrev pub clean_entry : View → ℕ → Entry
clean_entry view f = entry_as f (put_as flag.Clean (known_at view f)) (frame_bytes view f)

-- One frame is Clean with the bytes that it had, and all else that is known of frames is as it was.
pub record CleansFrame (f : ℕ) (old new : View) : Type 0 where
  pub here : known_at new f ≡ put_as flag.Clean (known_at old f)
  pub others : (g : ℕ) → g ≢ f → known_at new g ≡ known_at old g
  pub entry : entry_at new.entries (owner_of old f) f ≡ Some (clean_entry old f)
  pub entries : (n g : ℕ) → (n ≢ owner_of old f) ⊎ (g ≢ f) → entry_at new.entries n g ≡ entry_at old.entries n g

-- Each of these frames is Clean with the bytes that it had, and all else that is known of frames is as it was.
pub record CleansFrames (pages : List FramePage) (old new : View) : Type 0 where
  pub each : All (λ page. known_at new page.frame ≡ put_as flag.Clean (known_at old page.frame)) pages
  pub others : (f : ℕ) → All (λ page. page.frame ≢ f) pages → known_at new f ≡ known_at old f
  pub entry : All (λ page. entry_at new.entries (owner_of old page.frame) page.frame
      ≡ Some (clean_entry old page.frame)) pages
  pub entries : (n g : ℕ) → All (λ page. (n ≢ owner_of old page.frame) ⊎ (g ≢ page.frame)) pages
      → entry_at new.entries n g ≡ entry_at old.entries n g

-- Nothing is out of the seat, also after a failure. At `Ok` the frames of these pages are Clean.
pub record CleansSeat {T E : Type 0} (locks : LockTable) (pages : List FramePage) (result : Result T E)
    (before after : Sight) : Type 0 where
  pub seat : IsWholeSeat locks after
  pub clean : OnOk result (CleansFrames pages before.view after.view)

-- these partitions have the pages as their frames have them
abbrev pub AreInFrames : Partitions → View → List FramePage → Type 0
AreInFrames held view pages =
    All (λ page. held (part_of_id page.page) (index_of_id page.page) ≡ Some (frame_bytes view page.frame)) pages

-- each page in its frame has this many bytes
abbrev pub HaveLength : ℕ → View → List FramePage → Type 0
HaveLength size view pages = All (λ page. length (frame_bytes view page.frame) ≡ size) pages
