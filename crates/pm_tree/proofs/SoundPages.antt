-- Pages of which each is there, and at hand or passes its check, and calls that keep them so.
use Rattle.std.proofs.Common.{◌≡◌, ℕ, ◌<◌, ◌≤◌, sym, subst, inl, inr, arith}
use Rattle.std.proofs.lemmas.Bool.{cases_lt}
use Rattle.pm_pages.specs.Rows.{page_count}
use Rattle.pm_pages.specs.Paged.{Paged, AllReadable}
use Rattle.pm_pages.specs.Edits.{HasMeta}
use Rattle.pm_tree.specs.Nodes.{nodes_in, IsTreeIn}
use Rattle.pm_tree.specs.Puts.{IsSpare}
use Rattle.pm_tree.proofs.Frames.{root_stands, used}
use Rattle.pm_tree.proofs.Told.{meta_spare, past_spare}

-- a page of some tree is one of the partition, and not the first
pub used_within : (p : Paged) (j : ℕ) → AllReadable p → HasMeta p → (IsSpare (nodes_in p.pages j) → ⊥) → (1 ≤ j) × (j < page_count p.pages)
used_within p j readable meta not_spare = (
  elim (cases_lt 0 j) [ inl lt ↦ lt | inr le ↦ absurd (let e : j ≡ 0 = omega (arith, le) in not_spare (subst (λ n. IsSpare (nodes_in p.pages n)) (sym e) (meta_spare p readable meta))) ],
  elim (cases_lt j (page_count p.pages)) [ inl lt ↦ lt | inr le ↦ absurd (not_spare (past_spare p.pages j le)) ],
)

-- the page of a tree is one of the partition, and not the first
pub node_within : (p : Paged) (h least at : ℕ) → AllReadable p → HasMeta p → IsTreeIn (nodes_in p.pages) h least at → (1 ≤ at) × (at < page_count p.pages)
node_within p h least at readable meta tree = used_within p at readable meta (used (nodes_in p.pages) h least at at tree (root_stands (nodes_in p.pages) h at))
