-- What putting a page back does to what a worker keeps.
use Rattle.std.specs.Prelude.{◌≡◌, ◌≢◌, ℕ, ◌⊎◌, Bool, true, false, ◌&&◌, not, if◌then◌else◌, List, []}
use Rattle.std.specs.Prelude.{◌∷◌, ◌++◌, Option, Some, None, IsTrue, slice_get}
use Rattle.pm_types.specs.declared.flag.Flag.{Flag}
use Rattle.pm_types.specs.declared.flag.Flag.TheVariants as flag
use Rattle.pm_types.specs.declared.page_id.PageId.{PageId}
use Rattle.pm_types.specs.Pages.{SameOutside}
use Rattle.pm_pages.specs.Paged.{CoversByte}
use Rattle.pm_locks.specs.declared.view.Entry.{Entry}
use Rattle.pm_locks.specs.Words.{LockWord, AT_HOME}
use Rattle.pm_locks.specs.Sight.{LockTable}
use Rattle.pm_stripe.specs.declared.held.Held.{Held}
use Rattle.pm_stripe.specs.ChangedPages.{is_changed}
use Rattle.pm_stripe.specs.Kept.{Kept, stays, held_at, place_of, last_put, page_bytes, is_known}
use Rattle.pm_stripe.specs.Kept.{Holds, AreClean, IsStaying}
use Rattle.pm_stripe.specs.Sights.{KeepsSight}

-- a frame with this flag has no page
abbrev pub is_empty : Flag → Bool
is_empty flag.Empty = true
is_empty flag.Clean = false
is_empty flag.Dirty = false
is_empty flag.Due = false
is_empty flag.Done = false

-- Dirty where the page was changed; Empty where it may have been written and nothing says what; Clean where
-- it was read; and else the flag that it had
abbrev pub put_flag : Held → Flag
put_flag h =
    if is_changed h.patch then flag.Dirty
    else if h.is_lent && not (stays h.flag) then flag.Empty
    else if h.is_read then flag.Clean
    else h.flag

-- the same of a page whose operation isn't ended: Dirty where it was lent, whatever was noted of it; Clean
-- where it was read; and else the flag that it had
abbrev pub unended_flag : Held → Flag
unended_flag h =
    if h.is_lent then flag.Dirty
    else if h.is_read then flag.Clean
    else h.flag

-- the word that a page in hand leaves at its frame, which it is put back to with this flag
abbrev pub put_word : ℕ → Held → Flag → LockWord
put_word number h f = record { tag = h.tag; owner = number; holder = AT_HOME; flag = f }

-- the words that a seat knows once these pages are put back, each with its flag, the last page first
abbrev pub words_put : (Held → Flag) → ℕ → List Held → List (ℕ × LockWord) → List (ℕ × LockWord)
words_put flag_of number [] words = words
words_put flag_of number (h ∷ hs) words =
    (h.frame, put_word number h (flag_of h)) ∷ words_put flag_of number hs words

-- outside its patch the page has the bytes that it had
abbrev pub IsCovered : Held → Type 0
IsCovered h = SameOutside (CoversByte h.patch) h.was.value.bytes h.lease.bytes

-- each page in hand is so, or each that stays
abbrev pub AreCovered : List Held → Type 0
AreCovered held = (i : ℕ) (h : Held) → slice_get held i ≡ Some h → IsCovered h

abbrev pub AreStayingCovered : List Held → Type 0
AreStayingCovered held = (i : ℕ) (h : Held) → slice_get held i ≡ Some h → IsTrue (stays h.flag) → IsCovered h

-- the same of each that stays, and of each where the files' content is told
abbrev pub AreToldCovered : Type 0 → List Held → Type 0
AreToldCovered T held = (i : ℕ) (h : Held) → slice_get held i ≡ Some h → T ⊎ IsTrue (stays h.flag) → IsCovered h

-- A page in hand was put back with this flag, and with the bytes that it had in hand. Its frame keeps it; but
-- where the flag is Empty no frame does.
pub record IsPutAs (k : Kept) (h : Held) (f : Flag) : Type 0 where
  pub entry : Entry
  pub at : last_put k h.frame ≡ Some entry
  pub flag_is : entry.flag ≡ f
  pub bytes_are : entry.bytes ≡ h.lease.bytes
  pub kept : f ≢ flag.Empty → place_of k h.page ≡ Some (h.frame, h.tag)
  pub gone : f ≡ flag.Empty → place_of k h.page ≡ None

-- These pages were put back, each with its flag: the seat knows the words that they left, and met none.
pub record LeavesWords (locks : LockTable) (k k' : Kept) (flag_of : Held → Flag) (put : List Held)
    : Type 0 where
  pub words : k'.seat.view.words ≡ words_put flag_of k.number put k.seat.view.words
  pub met : k'.seat.view.met ≡ k.seat.view.met
  pub sight : KeepsSight locks k.seat.view k'.seat.view

-- The last page in hand was put back. What is at hand then is as it was, and where what is Clean is as the
-- files have it, and each page is covered by its patch, all pages are.
pub record PutsLast (locks : LockTable) (k k' : Kept) : Type 0 where
  pub holds : Holds locks k'
  pub last : Held
  pub held : k.held ≡ k'.held ++ last ∷ []
  pub free : k'.free ≡ k.free
  pub shape : k'.shape ≡ k.shape
  pub number : k'.number ≡ k.number
  pub left : LeavesWords locks k k' put_flag (last ∷ [])
  -- the page is put as its flag says; all other frames are as they were, and keep what they kept
  pub put : IsPutAs k' last (put_flag last)
  pub put_else : (f : ℕ) → f ≢ last.frame → last_put k' f ≡ last_put k f
  pub place_else : (id : PageId) → id.0 ≢ last.page.0 → place_of k' id ≡ place_of k id
  pub only : (id : PageId) → id.0 ≢ last.page.0 → is_known k' id ≡ is_known k id
  pub staying : (id : PageId) → IsStaying k id → IsStaying k' id
  pub back : put_flag last ≡ last.flag → (id : PageId) → IsStaying k' id → IsStaying k id
  pub at_hand : (file : PageId → Option (List ℕ)) (id : PageId) → IsTrue (is_known k' id)
      → page_bytes file k' id ≡ page_bytes file k id
  pub clean : (file : PageId → Option (List ℕ)) → AreClean file k → AreCovered k.held → AreClean file k'
  pub told : (file : PageId → Option (List ℕ)) (id : PageId) → AreClean file k → AreCovered k.held
      → page_bytes file k' id ≡ page_bytes file k id

-- The last pages in hand were put back, each as its flag says. Of a page that was not in hand nothing changed.
-- What is at hand then is as it was, and where what is Clean is as the files have it, and each page is covered
-- by its patch, all pages are.
pub record PutsBack (locks : LockTable) (k k' : Kept) : Type 0 where
  pub holds : Holds locks k'
  pub rest : List Held
  pub held : k.held ≡ k'.held ++ rest
  pub free : k'.free ≡ k.free
  pub shape : k'.shape ≡ k.shape
  pub number : k'.number ≡ k.number
  pub left : LeavesWords locks k k' put_flag rest
  pub put : (i : ℕ) (h : Held) → slice_get rest i ≡ Some h → IsPutAs k' h (put_flag h)
  pub only : (id : PageId) → held_at k.held id.0 ≡ None → is_known k' id ≡ is_known k id
  pub staying : (id : PageId) → IsStaying k id → IsStaying k' id
  pub at_hand : (file : PageId → Option (List ℕ)) (id : PageId) → IsTrue (is_known k' id)
      → page_bytes file k' id ≡ page_bytes file k id
  pub clean : (file : PageId → Option (List ℕ)) → AreClean file k → AreCovered k.held → AreClean file k'
  pub told : (file : PageId → Option (List ℕ)) (id : PageId) → AreClean file k → AreCovered k.held
      → page_bytes file k' id ≡ page_bytes file k id

-- All pages in hand were put back, of an operation that isn't ended. Pages that stay do so still, and of those
-- that were not in hand nothing changed. What is at hand then is as it was, and where what is Clean is as the
-- files have it, all pages are.
pub record PutsHeld (locks : LockTable) (k k' : Kept) : Type 0 where
  pub holds : Holds locks k'
  pub none_held : k'.held ≡ []
  pub free : k'.free ≡ k.free
  pub shape : k'.shape ≡ k.shape
  pub number : k'.number ≡ k.number
  pub left : LeavesWords locks k k' unended_flag k.held
  pub put : (i : ℕ) (h : Held) → slice_get k.held i ≡ Some h → IsPutAs k' h (unended_flag h)
  pub only : (id : PageId) → held_at k.held id.0 ≡ None → is_known k' id ≡ is_known k id
  pub staying : (id : PageId) → IsStaying k id → IsStaying k' id
  pub at_hand : (file : PageId → Option (List ℕ)) (id : PageId) → IsTrue (is_known k' id)
      → page_bytes file k' id ≡ page_bytes file k id
  pub clean : (file : PageId → Option (List ℕ)) → AreClean file k → AreClean file k'
  pub told : (file : PageId → Option (List ℕ)) (id : PageId) → AreClean file k
      → page_bytes file k' id ≡ page_bytes file k id
