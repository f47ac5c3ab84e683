-- The pages that can be taken anew, and what a change took from them and gave back to them.
use Rattle.std.specs.Prelude.{◌≡◌, ℕ, ◌+◌, ◌<◌, ◌≤◌, nat_le, nat_lt, Bool, ◌&&◌, List, length}
use Rattle.std.specs.Prelude.{if◌then◌else◌, All}
use Rattle.pm_pages.specs.Rows.{Partition, page_count}
use Rattle.pm_pages.specs.Chains.{times, reuse_chain, HasReuseChain}

-- the reuse chain has reuse pages alone, each once, and none of them is the first page or at the page count or
-- past it
pub record HasSpare (pages : Partition) : Type 0 where
  pub kind : HasReuseChain pages
  pub once : (i : ℕ) → times i (reuse_chain pages) ≤ 1
  pub some : All (λ i. 1 ≤ i) (reuse_chain pages)
  pub below : All (λ i. i < page_count pages) (reuse_chain pages)

-- whether a page is one of those from a page count on, below another
abbrev pub is_added : ℕ → ℕ → ℕ → Bool
is_added was now i = nat_le was i && nat_lt i now

-- Pages of the reuse chain were taken, or ones after the last: the pages `made`. The pages `given` were given
-- back to it. Every page that was added and isn't of the pages `made` is on the chain, and the page
-- count and the chain's length say together how many were taken and given back.
pub record MovesSpare (old new : Partition) (made given : List ℕ) : Type 0 where
  pub count : page_count old ≤ page_count new
  pub sound : HasSpare old → HasSpare new
  pub moved : HasSpare old → (j : ℕ)
      → times j (reuse_chain new) + times j made
      ≡ times j (reuse_chain old) + times j given +
      (if is_added (page_count old) (page_count new) j then 1 else 0)
  pub room : HasSpare old
      → page_count new + length (reuse_chain old) + length given
      ≡ page_count old + length (reuse_chain new) + length made
