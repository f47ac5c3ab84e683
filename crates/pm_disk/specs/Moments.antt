-- How the moments of an object of the outside follow each other.
use Rattle.std.specs.Prelude.{◌≡◌, ◌≤◌, ◌⊎◌, ℕ, List, length, take, Result, OnOk}
use Rattle.pm_types.specs.Ids.{part_of_id}
use Rattle.pm_types.specs.declared.page_id.PageId.{PageId}
use Rattle.pm_disk.specs.Files.{missing, gapped}
use Rattle.pm_disk.specs.Worlds.{World, with_said, empty_world, pages_in, page_at, pages_changed}

-- What an object tells: the world now, the moment as a number that doesn't fall,
-- and what the world was at some moment from a given one on.
pub record History : Type 1 where
  pub world : World
  pub clock : ℕ
  pub was : ℕ → World → Type 0

-- This moment is one of those since an earlier one, and since this moment there is no other.
pub record IsHistory (h : History) : Type 0 where
  pub counts_now : (t : ℕ) → t ≤ h.clock → h.was t h.world
  pub only_now : (w : World) → h.was h.clock w → w ≡ h.world

-- Time goes on: at each moment the world was as it had been at one before, or as it is now.
pub record Elapses (old new : History) : Type 0 where
  pub later : old.clock ≤ new.clock
  pub nothing_else : (t : ℕ) (w : World) → t ≤ old.clock → new.was t w → old.was t w ⊎ (w ≡ new.world)
  pub keeps : (t : ℕ) (w : World) → t ≤ old.clock → old.was t w → new.was t w

-- One call: at `Ok` it makes this of the world, and at an `Err` it did so or did nothing.
pub record Does {T E : Type 0} (old new : History) (result : Result T E) (next : World) : Type 0 where
  pub time : Elapses old new
  pub ok : OnOk result (new.world ≡ next)
  pub either : (new.world ≡ old.world) ⊎ (new.world ≡ next)

-- A call that writes a page: after the end of a file that ends before it any bytes are written first.
pub record WritesPage {T E : Type 0} (old new : History) (result : Result T E) (page : PageId)
    (bytes : List ℕ) : Type 0 where
  pub gap : List ℕ
  pub reaches : length gap ≡ missing (page_at page (length bytes)) (pages_in old.world (part_of_id page))
  pub does : Does old new result
      (pages_changed (part_of_id page)
      (gapped (pages_in old.world (part_of_id page)) (page_at page (length bytes)) gap bytes) old.world)

-- A call that says bytes: all of them at `Ok`, and at an `Err` a prefix of them.
pub record Says {T E : Type 0} (old new : History) (result : Result T E) (bytes : List ℕ) : Type 0 where
  pub time : Elapses old new
  pub ok : OnOk result (new.world ≡ with_said bytes old.world)
  pub part : (k : ℕ) × (k ≤ length bytes) × (new.world ≡ with_said (take k bytes) old.world)

-- At each moment since the old one the world has P.
pub record AllMoments (old new : History) (P : World → Type 0) : Type 0 where
  pub later : old.clock ≤ new.clock
  pub each : (w : World) → new.was old.clock w → P w
  -- for a run that began earlier
  pub before : (t : ℕ) (w : World) → t ≤ old.clock → new.was t w → old.was t w ⊎ P w

-- what an object stands for that tells nothing
abbrev pub nothing_told : History
nothing_told = record { world = empty_world; clock = 0; was = λ _ _. ⊥ }
