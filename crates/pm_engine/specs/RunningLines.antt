-- The lines that a store which runs has done, and what a crash leaves of them.
use Rattle.std.specs.Prelude.{◌≡◌, ◌≤◌, ℕ, List, length, take, Some}
use Rattle.pm_types.specs.declared.shape.Shape.{Shape}
use Rattle.pm_frame.specs.Frames.{Frame}
use Rattle.pm_disk.specs.Images.{Image, LeavesAll}
use Rattle.pm_disk.specs.Worlds.{World}
use Rattle.pm_model.specs.declared.line.Line.{Line}
use Rattle.pm_model.specs.Eval.{Pairs, after_all}
use Rattle.pm_core.specs.Prefixes.{IsUpTo}
use Rattle.pm_core.specs.Replays.{all_replayed}
use Rattle.pm_core.specs.Sound.{SoundImage, IsTrueImage}
use Rattle.pm_core.specs.Starts.{appended}
use Rattle.pm_core.specs.States.{State}
use Rattle.pm_engine.specs.RunningStores.{StoreState, IsRunning, map_of}

-- this is the map after a prefix of these lines, over this map
pub record IsAfterPrefix (shape : Shape) (start : Pairs) (lines : List Line) (pairs : Pairs) : Type 0 where
  pub count : ℕ
  pub within : count ≤ length lines
  pub is : pairs ≡ after_all shape (take count lines) start

-- each prefix of these frames that has at least so many of them leaves the map after a prefix of the lines
abbrev pub KeepsLines : Shape → ℕ → Pairs → List Line → Pairs → List Frame → Type 0
KeepsLines shape from start lines base frames =
    (n : ℕ) → from ≤ n → (pairs : Pairs) → all_replayed shape (take n frames) (Some base) ≡ Some pairs
    → IsAfterPrefix shape start lines pairs

-- The store runs, and has done these lines since it had this map, when so many of its records were lasting.
pub record HasRun (wanted : Shape) (told : List ℕ → ℕ) (from : ℕ) (start : Pairs) (lines : List Line)
    (store : StoreState) (s : State) (world : World) : Type 0 where
  pub runs : IsRunning wanted told store s world
  pub lasting : from ≤ length s.order
  pub map : map_of store ≡ after_all store.shape lines start
  pub keeps : KeepsLines store.shape from start lines s.first (appended s)

-- The log of what a crash left ends in a segment up to this one, and the number of the checkpoint in force is
-- at most this one, whatever it holds.
abbrev pub GoesUpTo : ℕ → ℕ → Shape → Image → Type 0
GoesUpTo last number wanted image =
    (shape : Shape) (pairs : Pairs) (sound : SoundImage wanted image shape pairs)
    → IsUpTo last number wanted image shape pairs sound

-- What a crash left is sound, and holds the map after a prefix of these lines, over this map. It goes no
-- further than this segment and this checkpoint.
pub record HoldsPrefix (last number : ℕ) (wanted shape : Shape) (start : Pairs) (lines : List Line)
    (image : Image) : Type 0 where
  pub count : ℕ
  pub within : count ≤ length lines
  pub sound : SoundImage wanted image shape (after_all shape (take count lines) start)
  pub up_to : GoesUpTo last number wanted image

-- so does whatever a crash leaves, as long as no sum is right by chance
abbrev pub CrashHoldsLines : ℕ → ℕ → Shape → Shape → Pairs → List Line → World → Type 0
CrashHoldsLines last number wanted shape start lines world =
    (image : Image) → LeavesAll world image → IsTrueImage world image
    → HoldsPrefix last number wanted shape start lines image

-- the same files, beside another console and another configuration
pub record SameDisk (old now : World) : Type 0 where
  pub log : now.log ≡ old.log
  pub pages : now.pages ≡ old.pages
  pub starts : now.starts ≡ old.starts
  pub ends : now.ends ≡ old.ends

-- replies that speak of no record
abbrev pub says_nothing : List ℕ → ℕ
says_nothing bytes = 0
