use Rattle.std.proofs.Common.{◌≡◌, ℕ, ◌<◌, length, Some, None}
use Rattle.std.specs.Prelude.{slice_get}
use Rattle.pm_stripe.proofs.places.Places.clear.Given as goal

-- the frames before this one have no page
abbrev pub invariant-frames : goal.invariant-frames
invariant-frames l = record {
  count : length l.self.pages.items ≡ length l.initial.self.pages.items;
  empty : (f : ℕ) → f < l.frame → slice_get l.self.pages.items f ≡ Some None;
}
