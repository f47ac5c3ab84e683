-- What a worker keeps of its pages, and what holds of it between any two calls.
use Rattle.std.specs.Prelude.{◌≡◌, ◌≢◌, ℕ, ◌+◌, ◌%◌, ◌<◌, ◌≤◌, ◌⊎◌, Bool, true, false, ◌==◌, if◌then◌else◌}
use Rattle.std.specs.Prelude.{List, [], ◌∷◌, ◌++◌, length, Option, Some, None, IfSome, IsTrue, slice_get, suc}
use Rattle.std.specs.FinMap as map
use Rattle.std.specs.Option.{option_map}
use Rattle.pm_types.specs.declared.flag.Flag.{Flag}
use Rattle.pm_types.specs.declared.flag.Flag.TheVariants as flag
use Rattle.pm_types.specs.declared.page_id.PageId.{PageId}
use Rattle.pm_types.specs.declared.shape.Shape.{Shape}
use Rattle.pm_types.specs.declared.limits.TheConstants.{OP_PAGES}
use Rattle.pm_types.specs.Ids.{part_of_id}
use Rattle.pm_types.specs.Shapes.{IsShape}
use Rattle.pm_region.specs.Lease.{Leased}
use Rattle.pm_records.specs.PageNames.{IsPageName}
use Rattle.pm_locks.specs.Words.{FLUSHER, IsReachedFrom}
use Rattle.pm_locks.specs.declared.view.Entry.{Entry}
use Rattle.pm_locks.specs.declared.view.Out.{Out}
use Rattle.pm_locks.specs.Views.{entry_at, out_at, Has}
use Rattle.pm_locks.specs.Sight.{Sight, LockTable, IsSeatOf, IsFrameOf, HasPageSize}
use Rattle.pm_locks.specs.Answers.{IsSameLease}
use Rattle.pm_stripe.specs.declared.places.Places.{Places}
use Rattle.pm_stripe.specs.declared.held.Held.{Held}
use Rattle.pm_stripe.specs.declared.held.Free.{Free}
use Rattle.pm_stripe.specs.ChangedPages.{is_changed}
use Rattle.pm_stripe.specs.Reads.{Passes, Reads}
use Rattle.pm_stripe.specs.Sights.{KeepsSight}

-- What a worker keeps of its pages.
pub record Kept : Type 0 where
  -- its number, and the store's shape
  pub number : ℕ
  pub shape : Shape
  -- the frames that keep its pages
  pub places : Places
  -- its seat
  pub seat : Sight
  -- the pages in hand and the empty frames in hand, each with how many there is room for
  pub held : List Held
  pub held_room : ℕ
  pub free : List Free
  pub free_room : ℕ

-- the page in hand with this name
abbrev pub held_at : List Held → ℕ → Option Held
held_at [] id = None
held_at (h ∷ hs) id = if h.page.0 == id then Some h else held_at hs id

-- how many of them were read from their files or made: their frames keep no page yet
abbrev pub read_one : Bool → ℕ
read_one true = 1
read_one false = 0

abbrev pub read_count : List Held → ℕ
read_count [] = 0
read_count (h ∷ hs) = read_one h.is_read + read_count hs

-- where it stands, or how many there are
abbrev pub place_at : List Held → ℕ → ℕ
place_at [] id = 0
place_at (h ∷ hs) id = if h.page.0 == id then 0 else suc (place_at hs id)

-- how many of the frames in hand keep no page
abbrev pub bare_count : Kept → ℕ
bare_count k = read_count k.held + length k.free

-- the frame that keeps the page, and its tag
abbrev pub place_of : Kept → PageId → Option (ℕ × ℕ)
place_of k id = map.get k.places.table.entries id.0

-- what the worker's number last put into a frame
abbrev pub last_put : Kept → ℕ → Option Entry
last_put k f = entry_at k.seat.view.entries k.number f

-- the page that a frame keeps, and what the seat has out of it
abbrev pub page_at : Kept → ℕ → Option (Option PageId)
page_at k f = slice_get k.places.pages.items f

abbrev pub out_of : Kept → ℕ → Option Out
out_of k f = out_at k.seat.view.outs f

-- a frame with this flag isn't given to another page
abbrev pub stays : Flag → Bool
stays flag.Empty = false
stays flag.Clean = false
stays flag.Dirty = true
stays flag.Due = true
stays flag.Done = true

-- the bytes of a page: those in hand, else those that were last put into the frame that keeps it, else those in
-- its file
abbrev pub bytes_by : Option Held → Option (ℕ × ℕ) → List Entry → ℕ → Option (List ℕ) → Option (List ℕ)
bytes_by (Some h) place entries n file = Some h.lease.bytes
bytes_by None (Some place) entries n file = option_map (λ e. e.bytes) (entry_at entries n place.0)
bytes_by None None entries n file = file

abbrev pub page_bytes : (PageId → Option (List ℕ)) → Kept → PageId → Option (List ℕ)
page_bytes file k id = bytes_by (held_at k.held id.0) (place_of k id) k.seat.view.entries k.number (file id)

-- whether a page is at hand: it is in hand, or in a frame that isn't given to another page
abbrev pub stays_in : Option Entry → Bool
stays_in None = false
stays_in (Some e) = stays e.flag

abbrev pub known_by : Option Held → Option (ℕ × ℕ) → List Entry → ℕ → Bool
known_by (Some h) place entries n = true
known_by None (Some place) entries n = stays_in (entry_at entries n place.0)
known_by None None entries n = false

abbrev pub is_known : Kept → PageId → Bool
is_known k id = known_by (held_at k.held id.0) (place_of k id) k.seat.view.entries k.number

-- no two of these have the same number
pub record AreOnce {X : Type 0} (key : X → ℕ) (xs : List X) : Type 0 where
  pub once : (i j : ℕ) (x y : X) → slice_get xs i ≡ Some x → slice_get xs j ≡ Some y → key x ≡ key y → i ≡ j

-- a page of a partition that belongs to this one of so many workers
pub record IsPageOf (workers partitions number : ℕ) (id : PageId) : Type 0 where
  pub name : IsPageName id
  pub part : part_of_id id < partitions
  pub worker : part_of_id id % workers ≡ number

-- the number has a frame out, with this lease, whatever its bytes, under this tag and flag
pub record IsOutWith (held : Option Out) (size n tag : ℕ) (told : Flag) (lease : Leased) : Type 0 where
  pub out : Out
  pub at : held ≡ Some out
  pub holder : out.word.holder ≡ n
  pub owner : out.word.owner ≡ n
  pub tag_is : out.word.tag ≡ tag
  pub flag_is : out.word.flag ≡ told
  pub same : IsSameLease out.lease lease
  pub long : length lease.bytes ≡ size

-- A frame keeps a page: what was last put there is the page. Where it is Clean it reads as what it
-- says.
pub record IsKeptPage (locks : LockTable) (shape : Shape) (n : ℕ) (put : Option Entry) (id : PageId) (f tag : ℕ)
    : Type 0 where
  pub own : IsPageOf locks.workers shape.partitions n id
  pub frame : IsFrameOf locks f
  pub entry : Entry
  pub at : put ≡ Some entry
  pub tag_is : entry.tag ≡ tag
  pub long : length entry.bytes ≡ shape.page_size
  pub some : entry.flag ≢ flag.Empty
  pub reads : entry.flag ≡ flag.Clean → Reads id entry.bytes

-- A page was taken from the frame that keeps it, with the bytes that were last put there.
pub record IsFromFrame (place : Option (ℕ × ℕ)) (put : Option Entry) (held : Option Out) (h : Held)
    : Type 0 where
  pub kept : place ≡ Some (h.frame, h.tag)
  pub follows : (e : Entry) → put ≡ Some e → IsReachedFrom e.flag h.flag
  pub last : (e : Entry) → put ≡ Some e → h.was.value.bytes ≡ e.bytes
  pub taken : (out : Out) → held ≡ Some out → h.was.value.bytes ≡ out.lease.bytes

-- A page was read from its file or made, in a frame that keeps none. What was read passed its check.
pub record IsFromFile (shape : Shape) (place : Option (ℕ × ℕ)) (page : Option (Option PageId)) (h : Held)
    : Type 0 where
  pub unkept : place ≡ None
  pub bare : page ≡ Some None
  pub empty : h.flag ≡ flag.Empty
  pub passes : is_changed h.patch ≡ false → Passes shape h.page h.was.value.bytes

-- A page in hand, by what is known of its name and its frame.
pub record IsHeldPage (locks : LockTable) (shape : Shape) (n : ℕ) (place : Option (ℕ × ℕ))
    (page : Option (Option PageId)) (put : Option Entry) (held : Option Out) (h : Held) : Type 0 where
  pub own : IsPageOf locks.workers shape.partitions n h.page
  pub frame : IsFrameOf locks h.frame
  pub out : IsOutWith held shape.page_size n h.tag h.flag h.lease
  pub was_long : length h.was.value.bytes ≡ shape.page_size
  pub patched : IfSome h.patch (λ patch. patch.page_size ≡ shape.page_size)
  -- until it is lent nobody writes it
  pub unlent : h.is_lent ≡ false → (h.lease.bytes ≡ h.was.value.bytes) × (h.patch ≡ None)
  pub from_frame : h.is_read ≡ false → IsFromFrame place put held h
  pub from_file : h.is_read ≡ true → IsFromFile shape place page h

-- An empty frame in hand.
pub record IsFreeFrame (locks : LockTable) (size n : ℕ) (page : Option (Option PageId)) (held : Option Out)
    (s : Free) : Type 0 where
  pub frame : IsFrameOf locks s.frame
  pub out : IsOutWith held size n s.tag flag.Empty s.lease
  pub bare : page ≡ Some None

-- the same of what a worker keeps
abbrev pub IsKeptIn : LockTable → Kept → PageId → ℕ → ℕ → Type 0
IsKeptIn locks k id f tag = IsKeptPage locks k.shape k.number (last_put k f) id f tag

abbrev pub IsHeldIn : LockTable → Kept → Held → Type 0
IsHeldIn locks k h =
    IsHeldPage locks k.shape k.number (place_of k h.page) (page_at k h.frame) (last_put k h.frame)
    (out_of k h.frame) h

abbrev pub IsFreeIn : LockTable → Kept → Free → Type 0
IsFreeIn locks k s =
    IsFreeFrame locks k.shape.page_size k.number (page_at k s.frame) (out_of k s.frame) s

-- the frame is that of a page in hand, or an empty one in hand
abbrev pub IsInHand : List Held → List Free → ℕ → Type 0
IsInHand held free f =
    ((i : ℕ) × (h : Held) × (slice_get held i ≡ Some h) × (h.frame ≡ f))
    ⊎ ((i : ℕ) × (s : Free) × (slice_get free i ≡ Some s) × (s.frame ≡ f))

-- The frames in hand are different ones, and all that the seat has out; no two pages in hand have one name.
pub record AreApart (held : List Held) (free : List Free) (outs : List (ℕ × Option Out)) : Type 0 where
  pub names : AreOnce (λ h. h.page.0) held
  pub held_once : AreOnce (λ h. h.frame) held
  pub free_once : AreOnce (λ s. s.frame) free
  pub both : (i j : ℕ) (h : Held) (s : Free) → slice_get held i ≡ Some h → slice_get free j ≡ Some s
      → h.frame ≢ s.frame
  pub all : (f : ℕ) (out : Out) → out_at outs f ≡ Some out → IsInHand held free f

-- The worker's number is one of its seat's, and of the locks' workers.
pub record IsWorker (locks : LockTable) (seat : Sight) (n : ℕ) : Type 0 where
  pub seat_of : IsSeatOf locks seat
  pub below : n < locks.workers
  pub few : locks.workers ≤ FLUSHER
  pub has : Has seat.view n

-- What holds between any two calls.
pub record Holds (locks : LockTable) (k : Kept) : Type 0 where
  pub shaped : IsShape k.shape
  pub frames : HasPageSize locks k.shape.page_size
  pub many : length k.places.pages.items ≡ length locks.ranges
  pub worker : IsWorker locks k.seat k.number
  pub kept : (id : PageId) (f tag : ℕ) → place_of k id ≡ Some (f, tag) → IsKeptIn locks k id f tag
  -- what was put so that it stays is kept
  pub stay : (f : ℕ) (e : Entry) → last_put k f ≡ Some e → IsTrue (stays e.flag)
      → (id : PageId) × (place_of k id ≡ Some (f, e.tag))
  pub held : (i : ℕ) (h : Held) → slice_get k.held i ≡ Some h → IsHeldIn locks k h
  pub free : (i : ℕ) (s : Free) → slice_get k.free i ≡ Some s → IsFreeIn locks k s
  pub apart : AreApart k.held k.free k.seat.view.outs
  pub held_room : OP_PAGES ≤ k.held_room
  pub free_room : OP_PAGES ≤ k.free_room

-- There are as many frames in hand as one operation may need.
pub record HasFrames (k : Kept) : Type 0 where
  pub few : length k.held ≤ OP_PAGES
  pub enough : OP_PAGES ≤ length k.held + length k.free

-- What is Clean is as the partitions' files have it, and so was what was read and isn't changed.
pub record AreClean (file : PageId → Option (List ℕ)) (k : Kept) : Type 0 where
  pub kept : (id : PageId) (f tag : ℕ) (e : Entry) → place_of k id ≡ Some (f, tag) → last_put k f ≡ Some e
      → e.flag ≡ flag.Clean → file id ≡ Some e.bytes
  pub read : (i : ℕ) (h : Held) → slice_get k.held i ≡ Some h → h.is_read ≡ true → is_changed h.patch ≡ false
      → file h.page ≡ Some h.was.value.bytes

-- All pages are as they were: those at hand, which stay so, and, where what is Clean is as the files have it,
-- each.
pub record KeepsPages (k k' : Kept) : Type 0 where
  pub known : (id : PageId) → IsTrue (is_known k id) → IsTrue (is_known k' id)
  pub at_hand : (file : PageId → Option (List ℕ)) (id : PageId) → IsTrue (is_known k id)
      → page_bytes file k' id ≡ page_bytes file k id
  pub clean : (file : PageId → Option (List ℕ)) → AreClean file k → AreClean file k'
  pub told : (file : PageId → Option (List ℕ)) (id : PageId) → AreClean file k
      → page_bytes file k' id ≡ page_bytes file k id

-- the page isn't in hand, and there is room for it
pub record IsAway (k : Kept) (id : PageId) : Type 0 where
  pub away : held_at k.held id.0 ≡ None
  pub room : length k.held < OP_PAGES

-- One page more is in hand, to be read: one that was not at hand reads as what it says.
pub record AddsPage (k k' : Kept) (id : PageId) : Type 0 where
  pub page : Held
  pub added : k'.held ≡ k.held ++ page ∷ []
  pub page_is : page.page ≡ id
  pub unlent : page.is_lent ≡ false
  pub bare : page.patch ≡ None
  pub reads : IsTrue (is_known k id) ⊎ Reads id page.lease.bytes

-- the page is in a frame that isn't given to another page
pub record IsStaying (k : Kept) (id : PageId) : Type 0 where
  pub frame : ℕ
  pub tag : ℕ
  pub entry : Entry
  pub kept : place_of k id ≡ Some (frame, tag)
  pub at : last_put k frame ≡ Some entry
  pub stay : IsTrue (stays entry.flag)

-- A page was taken from the frame that keeps it, or that was given to another page and keeps it no more.
pub record TakesPage (locks : LockTable) (k k' : Kept) (id : PageId) (found : Bool) : Type 0 where
  pub holds : Holds locks k'
  pub keeps : KeepsPages k k'
  pub shape : k'.shape ≡ k.shape
  pub number : k'.number ≡ k.number
  pub free : k'.free ≡ k.free
  pub staying : (j : PageId) → IsStaying k j → IsStaying k' j
  pub back : (j : PageId) → IsStaying k' j → IsStaying k j
  pub only : (j : PageId) → j.0 ≢ id.0 → is_known k' j ≡ is_known k j
  pub bare : bare_count k' ≡ bare_count k
  pub added : found ≡ true → AddsPage k k' id
  pub lost : found ≡ false → (k'.held ≡ k.held) × (place_of k' id ≡ None)
  pub sight : KeepsSight locks k.seat.view k'.seat.view
