-- How many pages can be taken still after a row was placed or taken out.
use Rattle.std.proofs.Common.{ℕ, ◌+◌, ◌≤◌, List, [], ◌∷◌, length, arith}
use Rattle.pm_types.specs.declared.page_id.Link.{Link}
use Rattle.pm_pages.specs.Rows.{Partition}
use Rattle.pm_pages.specs.Paged.{Paged}
use Rattle.pm_pages.specs.SoundPages.{IsSound, CanTake}
use Rattle.pm_pages.specs.SpareChains.{MovesSpare}
use Rattle.pm_free.specs.Sound.{KeepsSound, LeavesSpare}
use Rattle.pm_free.specs.Placed.{PlacesRow, TakesRow, DropsPage}

-- a change that takes so many pages at most
abbrev pub TakesFew : ℕ → (Partition → Partition → Type 0) → Type 0
TakesFew most change = (old new : Partition) → change old new → (made : List ℕ) × (given : List ℕ) × MovesSpare old new made given × (length made ≤ most)

pub places_few : (page_size part : ℕ) (row : List ℕ) (at_link : Link) → TakesFew 1 (λ old new. PlacesRow page_size part old new row at_link)
places_few page_size part row at_link old new places = (places.made, [], places.moves, places.few)

pub takes_few : (part : ℕ) (at_link : Link) → TakesFew 0 (λ old new. TakesRow part old new at_link)
takes_few part at_link old new takes = ([], takes.given, takes.moves, omega arith)

pub drops_few : (at bucket : ℕ) → TakesFew 0 (λ old new. DropsPage old new at bucket)
drops_few at bucket old new drops = ([], at ∷ [], drops.moves, omega arith)

can_take_moved : (a c : Paged) (made given : List ℕ) (most limit left : ℕ) → (IsSound a → IsSound c) → MovesSpare a.pages c.pages made given → length made ≤ most → CanTake limit a (most + left) → CanTake limit c left
can_take_moved a c made given most limit left sound moves few can = record {
  sound = sound can.sound;
  spare = moves.sound can.spare;
  some = omega (arith, can.some, moves.count);
  room = omega (arith, can.room, moves.room can.spare, few);
}

pub leaves_spare : (T : Type 0) (a c : Paged) (most : ℕ) (change : Partition → Partition → Type 0) → TakesFew most change → KeepsSound T a c → (T → change a.pages c.pages) → LeavesSpare T a c most
leaves_spare T a c most change few sound told t limit left can =
    let taken = few a.pages c.pages (told t) in
    can_take_moved a c taken.0 taken.1 most limit left (sound t) taken.2 taken.3 can
