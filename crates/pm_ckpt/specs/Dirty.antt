-- The pages that stand in Dirty frames, and what a checkpoint makes of all frames.
use Rattle.std.specs.Prelude.{◌≡◌, ◌≤◌, ℕ, zero, suc, ◌==◌, ◌&&◌, ◌++◌, Bool, true, false, if◌then◌else◌, All}
use Rattle.std.specs.Prelude.{List, [], ◌∷◌, length, slice_get, Option, Some, None, Result, OnOk}
use Rattle.std.specs.Option.{option_map, option_and_then}
use Rattle.pm_types.specs.declared.flag.Flag.{Flag}
use Rattle.pm_types.specs.declared.flag.Flag.TheVariants as flag
use Rattle.pm_types.specs.declared.page_id.PageId.{PageId}
use Rattle.pm_types.specs.declared.shape.Shape.{Shape}
use Rattle.pm_types.specs.Ids.{part_of_id, index_of_id}
use Rattle.pm_types.specs.declared.shape.Mark.{Mark}
use Rattle.pm_disk.specs.Moments.{History}
use Rattle.pm_disk.specs.Worlds.{World}
use Rattle.pm_segments.specs.Ends.{LogEnd}
use Rattle.pm_locks.specs.Sight.{Sight, LockTable, IsFrameOf}
use Rattle.pm_locks.specs.Views.{Has, known_at, entry_at}
use Rattle.pm_locks.specs.Words.{LockWord, put_as}
use Rattle.pm_locks.specs.declared.view.Entry.{Entry}
use Rattle.pm_locks.specs.declared.view.View.{View}
use Rattle.pm_core.specs.BasePages.{Partitions}
use Rattle.pm_stripe.specs.Reads.{Reads, stored}
use Rattle.pm_stripe.specs.Kept.{AreClean, IsPageOf, IsStaying, page_bytes}
use Rattle.pm_stripe.specs.Sights.{AreSettled}
use Rattle.pm_stripe.specs.Stripes.{kept, file_in, file_of, IsAtRest}
use Rattle.pm_stripe.specs.declared.stripe.Stripe.{Stripe}
use Rattle.pm_ckpt.specs.declared.frame_page.FramePage.{FramePage}
use Rattle.pm_ckpt.specs.Checkpoints.{MayCheckpoint, IsEnded}
use Rattle.pm_ckpt.specs.Frames.{names_of, frame_bytes, IsWholeSeat}
use Rattle.pm_ckpt.specs.Marked.{Kept, log_after, with_mark}
use Rattle.pm_ckpt.specs.Writes.{page_of, LeavesFilesAlone, StoresPages}

-- whether it is Dirty
abbrev pub is_dirty : Flag → Bool
is_dirty flag.Empty = false
is_dirty flag.Clean = false
is_dirty flag.Dirty = true
is_dirty flag.Due = false
is_dirty flag.Done = false

-- the page that a worker keeps in a frame
abbrev pub page_in : Option Stripe → ℕ → Option PageId
page_in None f = None
page_in (Some stripe) f = option_and_then (λ page. page) (slice_get stripe.places.pages.items f)

-- the page in a frame with this tag, where there is one
abbrev pub placed : Option PageId → ℕ → ℕ → List FramePage
placed None f tag = []
placed (Some page) f tag = record { page = page; frame = f; tag = tag } ∷ []

-- the page that the owner of a frame with this word keeps there, where the frame is Dirty
abbrev pub dirty_page : List Stripe → ℕ → LockWord → List FramePage
dirty_page stripes f word =
    if is_dirty word.flag then placed (page_in (slice_get stripes word.owner) f) f word.tag else []

-- the same of all frames below this one, by rising frame
abbrev pub dirty_below : List Stripe → View → ℕ → List FramePage
dirty_below stripes view zero = []
dirty_below stripes view (suc f) = dirty_below stripes view f ++ dirty_page stripes f (known_at view f)

-- the same of all frames
abbrev pub dirty_frames : LockTable → List Stripe → View → List FramePage
dirty_frames locks stripes view = dirty_below stripes view (length locks.ranges)

-- the names of these pages
abbrev pub dirty_pages : LockTable → List Stripe → View → List PageId
dirty_pages locks stripes view = names_of (dirty_frames locks stripes view)

-- the bytes that these pages have in their frames
abbrev pub held_by : View → List FramePage → Partitions
held_by view [] part index = None
held_by view (page ∷ pages) part index =
    if part_of_id page.page == part && index_of_id page.page == index then Some (frame_bytes view page.frame)
    else held_by view pages part index

-- the bytes of the pages in Dirty frames
abbrev pub dirty_held : LockTable → List Stripe → View → Partitions
dirty_held locks stripes view = held_by view (dirty_frames locks stripes view)

-- each of these pages reads as what it says
abbrev pub AreReading : Partitions → List PageId → Type 0
AreReading held pages = All (λ page. Reads page (page_of held page)) pages

-- The worker's stripe is at rest over this seat, isn't told that a checkpoint runs, and has nothing left for the
-- log.
pub record IsResting (locks : LockTable) (shape : Shape) (seat : Sight) (n : ℕ) (stripe : Stripe) : Type 0 where
  pub number : stripe.number ≡ n
  pub shaped : stripe.shape ≡ shape
  pub rests : IsAtRest locks (kept stripe seat)
  pub idle : stripe.is_running ≡ false
  pub sent : stripe.outbox ≡ []

-- The stripes of all workers, by rising number. No frame is Due or Done.
pub record AreResting (locks : LockTable) (shape : Shape) (seat : Sight) (stripes : List Stripe) : Type 0 where
  pub settled : AreSettled locks seat.view
  pub count : length stripes ≡ locks.workers
  pub each : (n : ℕ) (stripe : Stripe) → slice_get stripes n ≡ Some stripe
      → IsResting locks shape seat n stripe

-- each stripe is over as many frames, or more
abbrev pub HaveFrames : ℕ → List Stripe → Type 0
HaveFrames frames stripes = (n : ℕ) (stripe : Stripe) → slice_get stripes n ≡ Some stripe
    → frames ≤ length stripe.places.pages.items

-- what is known of frames is the same
pub record IsSameSight (old new : View) : Type 0 where
  pub words : (f : ℕ) → known_at new f ≡ known_at old f
  pub entries : new.entries ≡ old.entries

-- a frame's word, where a Dirty frame becomes Clean
abbrev pub cleaned_word : LockWord → LockWord
cleaned_word word = if is_dirty word.flag then put_as flag.Clean word else word

-- what a worker last put into a frame with this word, where the worker owns it
abbrev pub cleaned_entry : LockWord → ℕ → Entry → Entry
cleaned_entry word n entry =
    if is_dirty word.flag && word.owner == n then record entry { flag = flag.Clean } else entry

-- Each frame that was Dirty is Clean with the tag and the bytes that it had, and each other one is as it was.
pub record AreCleaned (locks : LockTable) (old new : View) : Type 0 where
  pub words : (f : ℕ) → IsFrameOf locks f → known_at new f ≡ cleaned_word (known_at old f)
  pub entries : (n f : ℕ) → IsFrameOf locks f → Has old n → entry_at new.entries n f
      ≡ option_map (cleaned_entry (known_at old f) n) (entry_at old.entries n f)

-- Of each stripe: where what is Clean was as the partitions' files had it, it is so still. It is then so of what the
-- files have, also where they had no page before.
pub record StayClean (old new : History) (before after : Sight) (stripes : List Stripe) : Type 0 where
  pub in_files : (n : ℕ) (stripe : Stripe) → slice_get stripes n ≡ Some stripe
      → AreClean (file_of stripe old) (kept stripe before)
      → AreClean (stored new.world stripe.shape.page_size) (kept stripe after)
  pub read : (n : ℕ) (stripe : Stripe) → slice_get stripes n ≡ Some stripe → stripe.files ≡ true
      → AreClean (file_of stripe old) (kept stripe before) → AreClean (file_of stripe new) (kept stripe after)

-- no page of these stripes stays in its frame
abbrev pub NoneStays : Sight → List Stripe → Type 0
NoneStays seat stripes = (n : ℕ) (stripe : Stripe) (id : PageId) → slice_get stripes n ≡ Some stripe
    → IsStaying (kept stripe seat) id → ⊥

-- Of each stripe: each page of the worker's that was there is there with the bytes that it had, by what the
-- partitions' files have now.
abbrev pub AreThere : LockTable → Shape → World → World → Sight → Sight → List Stripe → Type 0
AreThere locks shape old new before after stripes =
    (n : ℕ) (stripe : Stripe) (id : PageId) (bytes : List ℕ) → slice_get stripes n ≡ Some stripe
    → IsPageOf locks.workers shape.partitions n id
    → page_bytes (file_in stripe old) (kept stripe before) id ≡ Some bytes
    → page_bytes (stored new stripe.shape.page_size) (kept stripe after) id ≡ Some bytes

-- What a checkpoint leaves of frames and stripes: nothing is out of the seat, also after a failure. At `Ok` each frame
-- that was Dirty is Clean, so no page stays in its frame; each stripe is at rest, where each page that was written reads
-- as what it says; what is Clean is as the files have it, where it was; and each page has the bytes that it had. The
-- files of partitions of which no frame was Dirty are as they were.
pub record LeavesFrames {T E : Type 0} (tells : Type 0) (locks : LockTable) (shape : Shape) (old new : History)
    (result : Result T E) (before after : Sight) (stripes : List Stripe) : Type 0 where
  pub seat : IsWholeSeat locks after
  pub cleaned : OnOk result (AreCleaned locks before.view after.view)
  pub rests : AreReading (dirty_held locks stripes before.view) (dirty_pages locks stripes before.view)
      → OnOk result (AreResting locks shape after stripes)
  pub none_stays : OnOk result (NoneStays after stripes)
  pub clean : tells → OnOk result (StayClean old new before after stripes)
  pub pages : tells → OnOk result (AreThere locks shape old.world new.world before after stripes)
  pub alone : tells
      → OnOk result (LeavesFilesAlone (dirty_pages locks stripes before.view) old.world new.world)

-- What a checkpoint with this mark leaves of what is kept for checkpoints, and where the log ends then.
pub record IsNext (mark : Mark) (before now : Kept) (was log : LogEnd) : Type 0 where
  pub kept : now ≡ with_mark mark before
  pub ends : log ≡ log_after was mark

-- What a checkpoint leaves at `Ok`: where it might be made it is ended, and its pages are in their files.
pub record LeavesPages {T E : Type 0} (size : ℕ) (log : LogEnd) (mark : Mark) (held : Partitions)
    (order : List PageId) (old new : World) (result : Result T E) : Type 0 where
  pub ended : MayCheckpoint log mark held order old → OnOk result (IsEnded size log mark held order new)
  pub stored : OnOk result (StoresPages size held order old new)
