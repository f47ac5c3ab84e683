-- What a worker does in a round for one command: an operation over its page frames.
use Rattle.std.specs.Prelude.{◌≡◌, ◌≢◌, ℕ, ◌<◌, ◌^◌, ◌⊎◌, ◌&&◌, nat_lt, if◌then◌else◌, Bool, true, false, List, [], ◌∷◌}
use Rattle.std.specs.Prelude.{length, Option, Some, None, IfSome, IsTrue, Result, OnOk, OnErr}
use Rattle.pm_types.specs.declared.page_id.PageId.{PageId}
use Rattle.pm_types.specs.declared.shape.Shape.{Shape}
use Rattle.pm_types.specs.Ids.{page_id, index_of_id}
use Rattle.pm_types.specs.Pages.{SameOutside}
use Rattle.pm_types.specs.Spans.{Coverage, Covers}
use Rattle.pm_disk.specs.Moments.{History}
use Rattle.pm_disk.specs.States.{DeviceState, IsLaterState}
use Rattle.pm_records.specs.Records.{Record}
use Rattle.pm_model.specs.declared.line.Cmd.{Cmd}
use Rattle.pm_model.specs.declared.line.Line.{Line}
use Rattle.pm_model.specs.declared.reply.Reply.{Reply}
use Rattle.pm_model.specs.Eval.{reply_to, after}
use Rattle.pm_model.specs.ReplyLists.{ReplyList, with_replies}
use Rattle.pm_pages.specs.Asked.{is_changed}
use Rattle.pm_pages.specs.KeptPages.{IsPageOf}
use Rattle.pm_pages.specs.Paged.{Paged}
use Rattle.pm_pages.specs.PageLists.{ReadsAt}
use Rattle.pm_pages.specs.Rows.{Partition}
use Rattle.pm_pages.specs.WellFormed.{IsWellFormed}
use Rattle.pm_part.specs.declared.part.Part.{Part}
use Rattle.pm_part.specs.Commands.{accepts}
use Rattle.pm_core.specs.BasePages.{Partitions, counted}
use Rattle.pm_stripe.specs.declared.bound.Bound.{Bound}
use Rattle.pm_stripe.specs.declared.held.Held.{Held}
use Rattle.pm_stripe.specs.Begins.{IsOwnPart}
use Rattle.pm_stripe.specs.Bounds.{IsBound}
use Rattle.pm_stripe.specs.ChangedPages.{ChangedPage}
use Rattle.pm_stripe.specs.Kept.{Kept, Holds, held_at, page_bytes, is_known, IsStaying}
use Rattle.pm_stripe.specs.Listings.{GrowsByOperation, IsChangedPage, MayBeLogical}
use Rattle.pm_stripe.specs.Moves.{HasOperation}
use Rattle.pm_stripe.specs.Shown.{kept_by, file_by, paged, patch_of}
use Rattle.pm_stripe.specs.Sights.{KeepsSight}
use Rattle.pm_engine.specs.PagedStores.{part_map}

-- the pages of this partition that count are well formed
abbrev pub HasWellFormed : Shape → Partitions → ℕ → Type 0
HasWellFormed shape pages part = IsWellFormed shape part (counted (pages part))

-- A line of this partition's key was run: its reply was appended, and its partition's map is the one after it. The
-- partition is well formed still, and every other one is as it was.
pub record RunsLineOn (shape : Shape) (part : ℕ) (line : Line) (old new : Partitions) (was now : ReplyList)
    : Type 0 where
  pub replied : now ≡ with_replies (reply_to shape line (part_map old part) ∷ []) was
  pub map : part_map new part ≡ after shape line (part_map old part)
  pub well_formed : HasWellFormed shape new part
  pub elsewhere : (other index : ℕ) → other ≢ part → new other index ≡ old other index

-- the patch of a page of this partition, by its index, if one was noted
abbrev pub noted_in : List Held → ℕ → ℕ → Option Coverage
noted_in held part index = patch_of (held_at held (page_id part index).0)

-- what a patch says of a page of this size that was `was` and is `now`: if it isn't whole, they differ only where it
-- covers them
pub record IsNotedOf (size : ℕ) (patch : Coverage) (was now : Option (List ℕ)) : Type 0 where
  pub size_is : patch.page_size ≡ size
  pub within : patch.whole ≡ false → (before after : List ℕ) → was ≡ Some before → now ≡ Some after
      → SameOutside (Covers patch) before after

-- An operation made these pages of a partition out of the old ones, and noted these patches of them: a page that
-- it noted no change of is as it was, and each other one is there, and differs from what it was only where its
-- patch covers it.
pub record ChangesAsNoted (size : ℕ) (old new : Partition) (patch : ℕ → Option Coverage) : Type 0 where
  pub unchanged : (index : ℕ) → is_changed (patch index) ≡ false → new index ≡ old index
  pub there : (index : ℕ) → is_changed (patch index) ≡ true → IsPageOf size (new index)
  pub noted : (index : ℕ) (found : Coverage) → patch index ≡ Some found
      → IsNotedOf size found (old index) (new index)

-- a page with this name is among those in hand that were changed
pub record IsChangedIn (held : List Held) (id : PageId) : Type 0 where
  pub page : ChangedPage
  pub changed : IsChangedPage held page
  pub is : page.page ≡ id

module _ {Q R : Type 0} where
  -- The pages of a store by partition and index, as a worker has them: those at hand, and every other one as its
  -- file has it. There is none of a partition that the store doesn't have, nor with an index of more than 32 bits.
  abbrev pub frame_pages : (R → History) → Bound Q R → Partitions
  frame_pages history b part index =
      if nat_lt part b.stripe.shape.partitions && nat_lt index (2 ^ 32)
      then page_bytes (file_by history b) (kept_by b) (page_id part index) else None

  -- a partition as code over any pages sees it, whichever one is meant
  abbrev pub part_seen : (R → History) → (R → DeviceState) → Bound Q R → ℕ → Paged
  part_seen history state b part = paged (file_by history b) (state b.reader).faults part (kept_by b)

  -- each page at hand that is there reads as what it says, of whatever partition it is
  pub record AreReadable (history : R → History) (b : Bound Q R) : Type 0 where
    pub each : (part index : ℕ) → part < b.stripe.shape.partitions → index < 2 ^ 32
        → IsTrue (is_known (kept_by b) (page_id part index))
        → IfSome (page_bytes (file_by history b) (kept_by b) (page_id part index)) (ReadsAt index)

  -- The partition is one of the worker's, of the worker's store.
  pub record IsPartOf (b : Bound Q R) (part : Part) : Type 0 where
    pub shape : part.shape ≡ b.stripe.shape
    pub own : IsOwnPart b part.part

  -- What no line changes: the locks, what the worker is and of which store, and the files. The reader may read what
  -- it might read, and the seat knows what it knew.
  pub record IsSameWorker (tells : Type 0) (history : R → History) (state : R → DeviceState) (b c : Bound Q R)
      : Type 0 where
    pub locks : c.locks ≡ b.locks
    pub number : c.stripe.number ≡ b.stripe.number
    pub shape : c.stripe.shape ≡ b.stripe.shape
    pub files : c.stripe.files ≡ b.stripe.files
    pub is_running : c.stripe.is_running ≡ b.stripe.is_running
    pub world : tells → (history c.reader).world ≡ (history b.reader).world
    pub later : IsLaterState (state b.reader) (state c.reader)
    pub sight : KeepsSight b.locks.now b.seat.view c.seat.view

  -- A worker between two lines: its pages hold, none is in hand, and each that is at hand reads as what it says.
  pub record IsBetweenLines (tells : Type 0) (history : R → History) (state : R → DeviceState) (b : Bound Q R)
      : Type 0 where
    pub bound : IsBound tells history state b
    pub none_held : b.stripe.held.items ≡ []
    pub readable : AreReadable history b

  -- A worker did a line, or a fault ended it. In both cases its round may end. At Ok another line may follow; after
  -- a fault nothing was handed over.
  pub record LeavesWorker {V E : Type 0} (tells : Type 0) (history : R → History) (state : R → DeviceState)
      (b c : Bound Q R) (result : Result V E) : Type 0 where
    pub same : IsSameWorker tells history state b c
    pub bound : IsBound tells history state c
    pub between : OnOk result (IsBetweenLines tells history state c)
    pub unlogged : OnErr result (c.stripe.outbox ≡ b.stripe.outbox)

  -- each page is as it was where the files' content is told, and each that is at hand in any case
  abbrev pub ArePagesKept : Type 0 → (R → History) → Bound Q R → Bound Q R → Type 0
  ArePagesKept tells history b c = (id : PageId) → tells ⊎ IsTrue (is_known (kept_by c) id)
      → page_bytes (file_by history c) (kept_by c) id ≡ page_bytes (file_by history b) (kept_by b) id

  -- The locks and the store's shape are as they were, and the seat knows what it knew.
  pub record KeepsSeat (b c : Bound Q R) : Type 0 where
    pub locks : c.locks ≡ b.locks
    pub shape : c.stripe.shape ≡ b.stripe.shape
    pub sight : KeepsSight b.locks.now b.seat.view c.seat.view

  -- Nothing was handed over, no page changed, and those stay in their frames that did.
  pub record ChangesNothing (tells : Type 0) (history : R → History) (b c : Bound Q R) : Type 0 where
    pub seat : KeepsSeat b c
    pub outbox : c.stripe.outbox ≡ b.stripe.outbox
    pub staying : (id : PageId) → IsStaying (kept_by c) id → IsStaying (kept_by b) id
    pub still : (id : PageId) → IsStaying (kept_by b) id → IsStaying (kept_by c) id
    pub pages : ArePagesKept tells history b c
    pub told : tells → frame_pages history c ≡ frame_pages history b

  -- A page of this partition that an operation changed: it has the bytes that were handed over, and stays in its
  -- frame. Where the log is said to have had it, it stayed there before.
  pub record IsHandedOver (history : R → History) (part : ℕ) (b c : Bound Q R) (page : ChangedPage) : Type 0 where
    pub name : page.page ≡ page_id part (index_of_id page.page)
    pub long : length page.bytes ≡ b.stripe.shape.page_size
    pub staying : IsStaying (kept_by c) page.page
    pub bytes : page_bytes (file_by history c) (kept_by c) page.page ≡ Some page.bytes
    pub logged : page.is_logged ≡ true → IsStaying (kept_by b) page.page

  -- What the worker kept right before an operation on this partition ended, with these pages in hand. Those stayed
  -- in their frames that did at its begin, and each page was what it is afterwards.
  pub record EndsFrom (tells : Type 0) (history : R → History) (part : ℕ) (held : List Held) (b c : Bound Q R)
      : Type 0 where
    pub kept : Kept
    pub held_are : kept.held ≡ held
    pub shape : kept.shape ≡ b.stripe.shape
    pub holds : Holds b.locks.now kept
    pub operates : HasOperation b.locks.now part kept
    pub sight : KeepsSight b.locks.now b.seat.view kept.seat.view
    pub stayed : (id : PageId) → IsStaying kept id → IsStaying (kept_by b) id
    pub still : (id : PageId) → IsStaying (kept_by b) id → IsStaying kept id
    -- the files' pages then
    pub files : PageId → Option (List ℕ)
    pub pages : tells → (id : PageId) → page_bytes (file_by history c) (kept_by c) id ≡ page_bytes files kept id

  -- An operation on this partition ended. It handed over this record, if there is one, and one of each page that it
  -- changed. Of the pages that stay in their frames each did before, or was changed, and each that did stays. No other page changed
  -- than those that were handed over, and none of another partition.
  pub record HandsOverChange (tells : Type 0) (history : R → History) (line : ℕ) (logged : Option Record)
      (part : ℕ) (b c : Bound Q R) : Type 0 where
    pub seat : KeepsSeat b c
    pub logical : MayBeLogical logged
    -- the pages that were in hand at its end, and what the worker kept then
    pub held : List Held
    pub before : EndsFrom tells history part held b c
    pub grows : GrowsByOperation line logged held b.stripe.outbox c.stripe.outbox
    pub changed : (page : ChangedPage) → IsChangedPage held page → IsHandedOver history part b c page
    pub staying : (id : PageId) → IsStaying (kept_by c) id → IsStaying (kept_by b) id ⊎ IsChangedIn held id
    pub still : (id : PageId) → IsStaying (kept_by b) id → IsStaying (kept_by c) id
    pub others : (id : PageId) → (IsChangedIn held id → ⊥) → tells ⊎ IsTrue (is_known (kept_by c) id)
        → page_bytes (file_by history c) (kept_by c) id ≡ page_bytes (file_by history b) (kept_by b) id
    pub noted : tells → ChangesAsNoted b.stripe.shape.page_size (frame_pages history b part)
        (frame_pages history c part) (noted_in held part)
    pub elsewhere : tells → (other index : ℕ) → other ≢ part
        → frame_pages history c other index ≡ frame_pages history b other index

  -- A command of this partition was done, and whether it was accepted is said as its reply says it. One that wasn't
  -- changed nothing; one that was handed over this record, if there is one, and what it changed, as the operation of this line.
  pub record DoesCommand (tells : Type 0) (history : R → History) (line : ℕ) (logged : Option Record)
      (part : ℕ) (cmd : Cmd) (b c : Bound Q R) (was now : ReplyList) (accepted : Bool) : Type 0 where
    pub said : (reply : Reply) → now ≡ with_replies (reply ∷ []) was → accepted ≡ accepts cmd reply
    pub refused : accepted ≡ false → ChangesNothing tells history b c
    pub hands : accepted ≡ true → HandsOverChange tells history line logged part b c
