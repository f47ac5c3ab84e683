-- What `verify` promises.
use Rattle.std.specs.Prelude.{◌≡◌, ◌⊎◌, ℕ, List, [], ◌++◌, codes, decimal}
use Rattle.pm_types.specs.declared.page_id.PageId.{PageId}
use Rattle.pm_types.specs.declared.place.Place.{Place}
use Rattle.pm_types.specs.declared.shape.Shape.{Shape}
use Rattle.pm_disk.specs.Moments.{History, AllMoments}
use Rattle.pm_disk.specs.States.{DeviceState, Rose}
use Rattle.pm_disk.specs.Worlds.{World, with_said}
use Rattle.pm_model.specs.Eval.{Pairs}
use Rattle.pm_marks.specs.InForce.{number_in}
use Rattle.pm_core.specs.Held.{in_force}
use Rattle.pm_core.specs.LogAlone.{image_of}
use Rattle.pm_engine.specs.Replays.{CrashHoldsMap}
use Rattle.pm_tools.specs.declared.verifying.Counts.{Counts}
use Rattle.pm_tools.specs.Verifying.{IsVerified, IsBadRecord, IsBadBasePage}
use Rattle.pm_top.specs.declared.status.Status.{Status}
use Rattle.pm_top.specs.declared.status.Status.TheVariants.{Done, Failed, Memory, Damaged}
use Rattle.pm_top.specs.Configurations.{wanted_in}
use Rattle.pm_top.specs.Crashes.{opened_to}
use Rattle.pm_top.specs.Promises.{IsStart, NamesBad, NamesMet, SaysPart}

-- the line that says what a store has
abbrev pub counts_line : Counts → List ℕ
counts_line counts =
    codes "pages " ++ decimal counts.pages ++ codes " rows " ++ decimal counts.rows
    ++ codes " records " ++ decimal counts.records ++ codes "\n"

-- the store is whole, and this line says what it has
abbrev pub SaysCounts : World → List ℕ → Type 0
SaysCounts world text = (counts : Counts) × IsVerified world counts × (text ≡ counts_line counts)

-- nothing happened but that a prefix of one of these lines was said
pub record SaysOfCheck (old now : World) : Type 0 where
  pub text : List ℕ
  pub is_text : SaysCounts old text ⊎ NamesBad old text
  pub part : SaysPart text old now

-- nothing happened, or only that
abbrev pub MaySayOfCheck : World → World → Type 0
MaySayOfCheck old now = (now ≡ old) ⊎ SaysOfCheck old now

-- a line was said, and nothing else happened
abbrev pub SaysLine : (List ℕ → Type 0) → World → World → Type 0
SaysLine Is old now = (text : List ℕ) × Is text × (now ≡ with_said text old)

-- nothing happened, or only that a prefix of the line was said that names what is bad where this page couldn't be used
abbrev pub MaySayOfMet : PageId → World → World → Type 0
MaySayOfMet met old now = (now ≡ old) ⊎ ((text : List ℕ) × NamesMet met old text × SaysPart text old now)

-- What `verify` promises, by its status.
pub record VerifyHolds (old new : History) (status : Status) (lines : ℕ) (order : List ℕ) : Type 0 where
  -- at each moment nothing has happened but that a prefix of its line was said
  pub moments : AllMoments old new (MaySayOfCheck old.world)
  -- at each moment a crash leaves a sound store with the map that there was, where a run may begin over it
  pub crash : (shape : Shape) (pairs : Pairs) (start : IsStart (wanted_in old.world) old.world shape pairs)
      → AllMoments old new (CrashHoldsMap (opened_to start.sound) (number_in (in_force (image_of old.world)))
      (wanted_in old.world) shape pairs)
  pub done : status ≡ Done → SaysLine (SaysCounts old.world) old.world new.world
  pub damaged : status ≡ Damaged → SaysLine (NamesBad old.world) old.world new.world
  pub statuses : (status ≡ Done) ⊎ (status ≡ Damaged) ⊎ (status ≡ Failed) ⊎ (status ≡ Memory)
  -- no line of a script is answered
  pub none : lines ≡ 0
  pub order_is : order ≡ []

-- Where no call fails, and no record and no page is bad, what the store has is said, unless memory runs out.
abbrev pub VerifyCompletes : Status → World → DeviceState → DeviceState → Type 0
VerifyCompletes status old before now =
    ((at : Place) → IsBadRecord old at → ⊥) → ((id : PageId) → IsBadBasePage old id → ⊥)
    → (Rose before now → ⊥) → (status ≡ Done) ⊎ (status ≡ Memory)
