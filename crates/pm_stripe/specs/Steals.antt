-- What stealing a frame does to what a worker keeps.
use Rattle.std.specs.Prelude.{◌≡◌, ◌⊎◌, ℕ, Bool, true, false, [], ◌∷◌, ◌++◌, Some, IsTrue}
use Rattle.pm_types.specs.declared.page_id.PageId.{PageId}
use Rattle.pm_locks.specs.Words.{LockWord, CanBeStolen}
use Rattle.pm_locks.specs.declared.view.View.{View}
use Rattle.pm_locks.specs.declared.view.Entry.{Entry}
use Rattle.pm_locks.specs.Steps.{IsMet}
use Rattle.pm_locks.specs.Answers.{MetTwo}
use Rattle.pm_locks.specs.Sight.{LockTable}
use Rattle.pm_stripe.specs.declared.held.Free.{Free}
use Rattle.pm_stripe.specs.Kept.{Kept, Holds, KeepsPages, IsStaying, is_known, last_put, place_of, stays}

-- one more empty frame is in hand, this one
pub record AddsFrame (k k' : Kept) (f : ℕ) : Type 0 where
  pub frame : Free
  pub added : k'.free ≡ k.free ++ frame ∷ []
  pub is : frame.frame ≡ f

-- a page in a frame that isn't given to another page is there still, as it was put there
abbrev pub LeavesStaying : Kept → Kept → Type 0
LeavesStaying k k' = (j : PageId) (f tag : ℕ) (e : Entry) → place_of k j ≡ Some (f, tag)
    → last_put k f ≡ Some e → IsTrue (stays e.flag)
    → (place_of k' j ≡ Some (f, tag)) × (last_put k' f ≡ Some e)

-- The frame is in hand, empty, or nothing changed but what the seat met. No page is lost, and none at hand.
pub record StealsFrame (locks : LockTable) (k k' : Kept) (f : ℕ) (found : Bool) : Type 0 where
  pub holds : Holds locks k'
  pub keeps : KeepsPages k k'
  pub shape : k'.shape ≡ k.shape
  pub number : k'.number ≡ k.number
  pub held : k'.held ≡ k.held
  pub staying : (j : PageId) → IsStaying k j → IsStaying k' j
  pub unmoved : LeavesStaying k k'
  pub back : (j : PageId) → IsTrue (is_known k' j) → IsTrue (is_known k j)
  pub added : found ≡ true → AddsFrame k k' f
  pub not_added : found ≡ false → k'.free ≡ k.free

-- the seat met a word of the frame that can't be stolen, or one that followed another
pub record WasNot (v v' : View) (f : ℕ) : Type 0 where
  pub word : LockWord
  pub met : (IsMet v v' f word × ¬ CanBeStolen word) ⊎ MetTwo v v' f word

-- why it wasn't stolen
abbrev pub ShowsWhy : View → View → ℕ → Bool → Type 0
ShowsWhy v v' f found = found ≡ false → WasNot v v' f

-- by the word that a seat for all numbers knows, it is stolen exactly where that can be done
pub record IsExactly (known : LockWord) (found : Bool) : Type 0 where
  pub got : found ≡ true → CanBeStolen known
  pub not : found ≡ false → ¬ CanBeStolen known
