-- A disk holds one shape and one map.
use Rattle.std.proofs.Common.{◌≡◌, inl, inr, ℕ, List, [], ◌∷◌, Option, Some, refl, sym, ap, subst, ◌∙◌, arith}
use Rattle.std.proofs.lemmas.Option.{same_Some}
use Rattle.pm_types.specs.declared.place.Place.{Place}
use Rattle.pm_types.specs.declared.shape.Mark.{Mark}
use Rattle.pm_types.specs.declared.shape.Shape.{Shape}
use Rattle.pm_frame.specs.Frames.{Frame}
use Rattle.pm_disk.specs.Images.{Image}
use Rattle.pm_model.specs.Eval.{Pairs}
use Rattle.pm_records.specs.Logs.{all_frames, next_place, after_frames, HasFrames}
use Rattle.pm_records.proofs.Runs.{rises, one_log}
use Rattle.pm_core.specs.Replays.{all_replayed}
use Rattle.pm_marks.specs.InForce.{Checkpoint, NoStart, Started, Ended, replay_of}
use Rattle.pm_core.specs.BasePages.{Partitions, Rebuilds, RebuiltAre, rebuilt_of, base_of}
use Rattle.pm_core.specs.LogAlone.{log_in}
use Rattle.pm_core.specs.Held.{HoldsWith, in_force, store_shape, pairs_in}
use Rattle.pm_core.specs.Sound.{SoundImage}

-- no run ends where it begins
no_turn : (p : Place) (f : Frame) (fs : List Frame) → after_frames p (f ∷ fs) ≡ p → ⊥
no_turn p f fs same = elim (rises p (f ∷ fs)) [
  | inl up ↦ absurd (omega (arith, up, ap (λ (q : Place). q.seg) same))
  | inr on ↦ absurd (omega (arith, on.1, ap (λ (q : Place). q.off) same))
]

-- between two places one run of frames leads
pub one_run : (log : ℕ → List ℕ) (p : Place) (xs ys : List Frame) → HasFrames all_frames log p xs → HasFrames all_frames log p ys → after_frames p xs ≡ after_frames p ys → xs ≡ ys
one_run log p [] [] one two same = refl
one_run log p [] (y ∷ ys) one two same = absurd (no_turn p y ys (sym same))
one_run log p (x ∷ xs) [] one two same = absurd (no_turn p x xs same)
one_run log p (x ∷ xs) (y ∷ ys) one two same =
    let is : x ≡ y = same_Some x y (sym one.0 ∙ two.0) in
    ap (λ f. f ∷ xs) is ∙ ap (λ fs. y ∷ fs)
    (one_run log (next_place p y) xs ys (subst (λ f. HasFrames all_frames log (next_place p f) xs) is one.2) two.2 (ap (λ f. after_frames (next_place p f) xs) (sym is) ∙ same))

-- a log rebuilds one set of pages
pub rebuilt_once : (mark : Mark) (log : ℕ → List ℕ) (a b : Partitions) → Rebuilds mark log a → Rebuilds mark log b → a ≡ b
rebuilt_once mark log a b one two =
    let frames = one_run log mark.from one.frames two.frames one.run two.run (one.reaches ∙ sym two.reaches) in
    same_Some a b (sym one.rebuilt ∙ ap (rebuilt_of mark.shape) frames ∙ two.rebuilt)

pub rebuilt_are_one : (checkpoint : Checkpoint) (log : ℕ → List ℕ) (a b : Partitions) → RebuiltAre checkpoint log a → RebuiltAre checkpoint log b → a ≡ b
rebuilt_are_one NoStart log a b one two = one ∙ sym two
rebuilt_are_one (Started mark) log a b one two = rebuilt_once mark log a b one two
rebuilt_are_one (Ended mark) log a b one two = one ∙ sym two

pub held_once : (wanted : Shape) (checkpoint : Checkpoint) (image : Image) (shape other : Shape) (pairs more : Pairs)
    → HoldsWith wanted checkpoint image shape pairs → HoldsWith wanted checkpoint image other more → (shape ≡ other) × (pairs ≡ more)
held_once wanted checkpoint image shape other pairs more one two =
    let map_of : Shape → List Frame → Partitions → Option Pairs =
    λ s fs rebuilt. all_replayed s fs (Some (pairs_in s.partitions (base_of checkpoint rebuilt image.pages))) in
    let frames = one_log all_frames (log_in image) (replay_of checkpoint) one.frames two.frames one.log two.log in
    let rebuilt = rebuilt_are_one checkpoint (log_in image) one.rebuilt two.rebuilt one.rebuilt_are two.rebuilt_are in
    let shapes : shape ≡ other = one.told ∙ ap (store_shape wanted checkpoint) frames ∙ sym two.told in
    let maps : Some pairs ≡ Some more = sym one.map ∙ ap (λ s. map_of s one.frames one.rebuilt) shapes
    ∙ ap (λ fs. map_of other fs one.rebuilt) frames ∙ ap (λ r. map_of other two.frames r) rebuilt ∙ two.map in
    (shapes, same_Some pairs more maps)

-- a sound disk holds one shape and one map
pub sound_once : (wanted : Shape) (image : Image) (shape other : Shape) (pairs more : Pairs)
    → SoundImage wanted image shape pairs → SoundImage wanted image other more → (shape ≡ other) × (pairs ≡ more)
sound_once wanted image shape other pairs more one two = held_once wanted (in_force image) image shape other pairs more one.holds two.holds
