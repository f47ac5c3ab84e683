use Rattle.std.proofs.Common.{◌≡◌, ℕ, List, ◌++◌, ap, ◌∙◌, arith}
use Rattle.std.specs.Prelude.{nat_le}
use Rattle.std.specs.List.{flat_map, range_with_len}
use Rattle.std.proofs.lemmas.Result.{IfOk-weaker}
use Rattle.pm_types.specs.declared.limits.TheConstants.{CACHES}
use Rattle.pm_meta.specs.declared.layout.TheConstants.{BUCKETS}
use Rattle.pm_pages.specs.PageLists.{pages_in}
use Rattle.pm_pages.specs.Rows.{page_count}
use Rattle.pm_pages.specs.Trees.{nodes_of}
use Rattle.pm_pages.specs.Chains.{bucket_chain, reuse_chain}
use Rattle.pm_pages.specs.WellFormed.{placed_pages}
use Rattle.pm_pages.proofs.Walks.{by_flags}
use Rattle.pm_pages.proofs.well_formed.placed.each_once.Goals as goal

pub returns : goal.returns
unfolding placed_pages
returns c =
    let pages = pages_in c.args.pages.now in
    let trees : List ℕ = flat_map (nodes_of pages) (range_with_len 0 CACHES) in
    let chains : List ℕ = flat_map (bucket_chain pages) (range_with_len 0 BUCKETS) ++ reuse_chain pages in
    let first = c.in_ok-add_trees.ensures ∙ ap (λ (t : List ℕ). t ++ trees) c.new-placed.ensures.items in
    let placed : c.deref.result.now ≡ placed_pages pages = c.deref.ensures.value ∙ c.in_ok-add_chains.ensures ∙ ap (λ (t : List ℕ). t ++ chains) first in
    IfOk-weaker c.is_exactly.result _ _ (λ is decides. by_flags (page_count pages) (λ i. nat_le 1 i) (placed_pages pages) c.deref.result.now c.in_ok-wanted.wanted.items c.deref-2.result.now is decides placed c.deref-2.ensures.value
    (c.in_ok-wanted.ensures.len ∙ c.page_count.ensures) (λ i lt. c.in_ok-wanted.ensures.each i (omega (arith, c.page_count.ensures, lt)))) c.is_exactly.ensures
