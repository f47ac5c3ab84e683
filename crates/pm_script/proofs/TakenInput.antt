-- Runs of calls that only take input.
use Rattle.std.proofs.Common.{◌+◌, ap, ◌∙◌}
use Rattle.std.proofs.lemmas.List.{drop-drop}
use Rattle.pm_disk.specs.Worlds.{World, with_taken}
use Rattle.pm_disk.specs.Moments.{History, IsHistory, AllMoments}
use Rattle.pm_disk.proofs.Chain.{joined, weaker, at_last}
use Rattle.pm_script.specs.Reading.{OnlyTakes}

-- input that was taken in two calls
pub takes_twice : (old mid new : World) → OnlyTakes old mid → OnlyTakes mid new → OnlyTakes old new
takes_twice old mid new first second = (
  first.0 + second.0,
  second.1 ∙ ap (λ w. with_taken second.0 w) first.1 ∙ ap (λ left. record old { input = left }) (drop-drop second.0 first.0 old.input),
)

-- one run after another
pub takes_on : (old mid new : History) → IsHistory mid → AllMoments old mid (OnlyTakes old.world) → AllMoments mid new (OnlyTakes mid.world) → AllMoments old new (OnlyTakes old.world)
takes_on old mid new sound first second =
    joined old mid new (OnlyTakes old.world) first
    (weaker mid new (OnlyTakes mid.world) (OnlyTakes old.world) (λ w is. takes_twice old.world mid.world w (at_last old mid (OnlyTakes old.world) sound first) is) second)
