use Rattle.std.proofs.Common.{◌≡◌, ◌⊎◌, ℕ, true}
use Rattle.std.specs.Prelude.{IsSome}
use Rattle.pm_core.specs.PageSets.{has_index}
use Rattle.pm_redo.specs.PageMaps.{pages_in, seen, kept_pages}
use Rattle.pm_redo.proofs.Entries.{bytes_in}
use Rattle.pm_redo.proofs.rebuilt_pages.RebuiltPages.pages.Given as goal

abbrev pub invariant-each : goal.invariant-each
invariant-each l = (part index : ℕ) → IsSome (kept_pages l.self part index) → (has_index part index l.pages.items ≡ true) ⊎ IsSome (pages_in (seen bytes_in l.number-iterator) part index)
