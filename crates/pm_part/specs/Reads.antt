-- Pages that are read one after the other.
use Rattle.std.specs.Prelude.{◌≡◌, ℕ, ◌+◌, ◌≤◌}
use Rattle.pm_types.specs.declared.limits.TheConstants.{OP_PAGES}
use Rattle.pm_pages.specs.Paged.{Paged, NoneLent, SamePartition}

-- Pages were read, and some given up: none was lent, and where the store reports its pages none was changed.
pub record ReadsPages (T : Type 0) (old new : Paged) : Type 0 where
  pub pages : T → (j : ℕ) → new.pages j ≡ old.pages j
  pub none_lent : NoneLent new
  pub same : SamePartition old new

-- so many pages at most were asked for since pages were given up, no more than may be
pub record HasBudget (p : Paged) (asked : ℕ) : Type 0 where
  pub most : asked ≤ OP_PAGES
  pub spare : OP_PAGES ≤ p.spare + asked
