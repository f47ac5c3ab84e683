-- Why frames weren't had, by what a seat met.
--
-- `met` only grows, and a call adds entries of its frame alone. A caller that makes several calls says
-- of all the entries that they added what one call says of its own:
--
--   call        answer   the entries show
--   own_take    Gone     a word with another tag, or an owner that is no number of the seat
--               Busy     the word that was asked for, which is out or followed another one
--   steal       Not      a word that can't be stolen, or one that followed another one
--   flush_take  Moved    a word with another tag or another flag
--               Busy     the word that was asked for, which is out or followed another one
use Rattle.std.specs.Prelude.{◌≡◌, ◌≢◌, ℕ, ◌⊎◌, ◌++◌, ◌∷◌, List, [], All, None}
use Rattle.pm_types.specs.declared.flag.Flag.{Flag}
use Rattle.pm_locks.specs.Words.{LockWord, AT_HOME, CanBeStolen, IsWanted}
use Rattle.pm_locks.specs.declared.view.Met.{Met}
use Rattle.pm_locks.specs.declared.view.View.{View}
use Rattle.pm_locks.specs.Views.{Has, IsMine, out_at}
use Rattle.pm_locks.specs.Steps.{met_as}

-- these are the entries that were added to `met`
abbrev pub HasAdded : View → View → List Met → Type 0
HasAdded v v' added = v'.met ≡ v.met ++ added

-- the piece stands among the entries
pub record HasPiece (added piece : List Met) : Type 0 where
  pub before : List Met
  pub after : List Met
  pub is : added ≡ before ++ (piece ++ after)

-- the frame was met with this word
abbrev pub HasEntry : List Met → ℕ → LockWord → Type 0
HasEntry added f word = HasPiece added (met_as f word ∷ [])

-- and right before with another one: its word changed meanwhile
pub record HasChange (added : List Met) (f : ℕ) (word : LockWord) : Type 0 where
  pub earlier : LockWord
  pub differs : word ≢ earlier
  pub met : HasPiece added (met_as f earlier ∷ met_as f word ∷ [])

-- own_take answers Gone
pub record ShowsGone (v : View) (added : List Met) (f tag : ℕ) : Type 0 where
  pub word : LockWord
  pub not_mine : ¬ IsMine v word tag
  pub met : HasEntry added f word

-- own_take answers Busy
pub record ShowsBusy (v : View) (added : List Met) (f tag : ℕ) : Type 0 where
  pub word : LockWord
  pub mine : IsMine v word tag
  pub met : (HasEntry added f word × (word.holder ≢ AT_HOME)) ⊎ HasChange added f word

-- steal answers Not
pub record ShowsNotStolen (added : List Met) (f : ℕ) : Type 0 where
  pub word : LockWord
  pub met : (HasEntry added f word × ¬ CanBeStolen word) ⊎ HasChange added f word

-- flush_take answers Moved
pub record ShowsMoved (added : List Met) (f tag : ℕ) (want : Flag) : Type 0 where
  pub word : LockWord
  pub not_wanted : ¬ IsWanted word tag want
  pub met : HasEntry added f word

-- flush_take answers Busy
pub record ShowsHeld (added : List Met) (f tag : ℕ) (want : Flag) : Type 0 where
  pub word : LockWord
  pub wanted : IsWanted word tag want
  pub met : (HasEntry added f word × (word.holder ≢ AT_HOME)) ⊎ HasChange added f word

-- flush_take answers Moved or Busy
abbrev pub ShowsNotLent : List Met → ℕ → ℕ → Flag → Type 0
ShowsNotLent added f tag want = ShowsMoved added f tag want ⊎ ShowsHeld added f tag want

-- no entry of the frame has a word that is out at a number of the seat
abbrev pub IsNowhereMine : View → ℕ → List Met → Type 0
IsNowhereMine v f added = All (λ m. m.frame ≡ f → ¬ Has v m.word.holder) added

-- all entries are of one frame
abbrev pub AreOfFrame : ℕ → List Met → Type 0
AreOfFrame f added = All (λ m. m.frame ≡ f) added

-- a call on a frame added entries that show this
pub record HasShown (v v' : View) (f : ℕ) (shows : List Met → Type 0) : Type 0 where
  pub added : List Met
  pub met : HasAdded v v' added
  pub frame : AreOfFrame f added
  -- where the seat hadn't the frame out, it met no word that is out at one of its numbers
  pub nowhere : out_at v.outs f ≡ None → IsNowhereMine v f added
  pub shown : shows added
