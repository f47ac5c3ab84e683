-- Pages of trees are no reuse pages.
use Rattle.std.proofs.Common.{◌≢◌, ℕ, List, inl, inr, arith}
use Rattle.pm_btpage.specs.IndexPages.{IndexPage, IsIndexPage}
use Rattle.pm_meta.specs.declared.layout.TheConstants.{REUSE_KIND}
use Rattle.pm_pages.specs.Rows.{page_at, kind_of}
use Rattle.pm_pages.specs.Paged.{Paged}
use Rattle.pm_pages.proofs.SpareSteps.{read_as, no_kind}
use Rattle.pm_tree.specs.Edits.{IsNode}

index_kind : (page : List ℕ) → IsIndexPage page → kind_of page ≢ REUSE_KIND
index_kind page index e = elim index.head.kind [ inl k ↦ omega (arith, e, k) | inr k ↦ omega (arith, e, k) ]

-- a page of a tree is no reuse page
pub node_kind : (p : Paged) (i : ℕ) (says : IndexPage) → IsNode p i says → kind_of (page_at p.pages i) ≢ REUSE_KIND
node_kind p i says node = read_as (λ page. kind_of page ≢ REUSE_KIND) p.pages i node.page node.in_hand.page (index_kind node.page node.well_made) no_kind
