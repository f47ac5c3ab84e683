-- What a worker is told that takes the frame of one of its pages, however often it has to try.
use Rattle.std.specs.Prelude.{◌≡◌, ℕ, ◌∷◌, Option, Some, None}
use Rattle.pm_types.specs.declared.flag.Flag.{Flag}
use Rattle.pm_region.specs.Lease.{Leased}
use Rattle.pm_locks.specs.Words.{LockWord, IsSpare}
use Rattle.pm_locks.specs.declared.view.View.{View}
use Rattle.pm_locks.specs.declared.view.Entry.{Entry}
use Rattle.pm_locks.specs.Rule.{known_range}
use Rattle.pm_locks.specs.Views.{entry_at, out_at, Has}
use Rattle.pm_locks.specs.Steps.{out_as}
use Rattle.pm_locks.specs.Answers.{IsAsPut}

-- the seat stands for the number, which has last put this tag into the frame
pub record HasPut (v : View) (n f tag : ℕ) : Type 0 where
  pub has : Has v n
  pub entry : Entry
  pub at : entry_at v.entries n f ≡ Some entry
  pub tag_is : entry.tag ≡ tag

-- nothing of the view changed but what was met and the words that are known
pub record OnlyMeets (v v' : View) : Type 0 where
  pub workers : v'.workers ≡ v.workers
  pub numbers : v'.numbers ≡ v.numbers
  pub entries : v'.entries ≡ v.entries
  pub outs : v'.outs ≡ v.outs

-- the frame is out at the number, with what it last put there
pub record TakesFrame (v v' : View) (n f tag : ℕ) (lease : Leased) (told : Flag) : Type 0 where
  pub word : LockWord
  pub workers : v'.workers ≡ v.workers
  pub numbers : v'.numbers ≡ v.numbers
  pub entries : v'.entries ≡ v.entries
  pub outs : v'.outs ≡ (f, Some (out_as word lease)) ∷ v.outs
  pub was_in : out_at v.outs f ≡ None
  pub holder : word.holder ≡ n
  pub owner : word.owner ≡ n
  pub tag_is : word.tag ≡ tag
  pub flag_is : word.flag ≡ told
  pub here : lease.number ≡ f
  pub range_is : lease.range ≡ known_range v f
  pub last : (e : Entry) → entry_at v.entries n f ≡ Some e → IsAsPut e lease told

-- the frame was given to another page: what the number last put there was Empty or Clean
pub record LosesFrame (v v' : View) (n f : ℕ) : Type 0 where
  pub only : OnlyMeets v v'
  pub spare : (e : Entry) → entry_at v.entries n f ≡ Some e → IsSpare e.flag

abbrev pub Takes : View → View → ℕ → ℕ → ℕ → Option (Leased × Flag) → Type 0
Takes v v' n f tag None = LosesFrame v v' n f
Takes v v' n f tag (Some got) = TakesFrame v v' n f tag got.0 got.1
