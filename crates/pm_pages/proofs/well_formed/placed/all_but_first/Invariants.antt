use Rattle.std.proofs.Common.{◌≡◌, ℕ, ◌<◌, false, length}
use Rattle.std.specs.Prelude.{nat_le}
use Rattle.std.specs.List.{slice_index_or}
use Rattle.pm_pages.proofs.well_formed.placed.all_but_first.Given as goal

-- a flag for each page so far
abbrev pub invariant-pages : goal.invariant-pages
invariant-pages l = record {
  len : length l.flags.items ≡ l.i;
  each : (k : ℕ) → k < l.i → slice_index_or l.flags.items k false ≡ nat_le 1 k;
}
