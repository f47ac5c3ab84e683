use Rattle.std.proofs.Common.{ℕ, List, ◌++◌, append_assoc, ap, ◌∙◌}
use Rattle.std.specs.List.{flat_map, range_with_len}
use Rattle.pm_meta.specs.declared.layout.TheConstants.{BUCKETS}
use Rattle.pm_pages.specs.PageLists.{pages_in}
use Rattle.pm_pages.specs.Chains.{bucket_chain, reuse_chain}
use Rattle.pm_pages.proofs.BelowTrees.{one_list_more, no_list_left}
use Rattle.pm_pages.proofs.well_formed.placed.add_chains.Goals as goal

pub buckets-preserved : goal.buckets-preserved
buckets-preserved c =
    let pages = pages_in c.args.pages.now in
    let added = c.in_ok-extend_from_slice.ensures.items ∙ ap (λ (t : List ℕ). c.buckets.placed.items ++ t) (c.deref.ensures.value ∙ c.in_ok-chain.ensures) in
    one_list_more (bucket_chain pages) c.buckets.placed.items c.extend_from_slice.new.self.items (c.args.placed.now.items ++ flat_map (bucket_chain pages) (range_with_len 0 BUCKETS)) c.buckets.bucket BUCKETS c.buckets-test.true c.buckets.invariant added

pub returns : goal.returns
returns c =
    let pages = pages_in c.args.pages.now in
    let chains : List ℕ = flat_map (bucket_chain pages) (range_with_len 0 BUCKETS) in
    let all = no_list_left (bucket_chain pages) c.buckets.placed.items (c.args.placed.now.items ++ chains) c.buckets.bucket BUCKETS c.buckets-test.false c.buckets.invariant in
    c.in_ok-extend_from_slice-2.ensures.items
    ∙ ap (λ (p : List ℕ × List ℕ). p.0 ++ p.1) (λ i. (all i, (c.deref-2.ensures.value ∙ c.in_ok-chain-2.ensures) i))
    ∙ append_assoc c.args.placed.now.items chains (reuse_chain pages)
