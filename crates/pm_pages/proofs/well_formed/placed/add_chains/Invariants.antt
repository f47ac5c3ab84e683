use Rattle.std.proofs.Common.{◌≡◌, ◌-◌, ◌++◌}
use Rattle.std.specs.List.{flat_map, range_with_len}
use Rattle.pm_meta.specs.declared.layout.TheConstants.{BUCKETS}
use Rattle.pm_pages.specs.PageLists.{pages_in}
use Rattle.pm_pages.specs.Chains.{bucket_chain}
use Rattle.pm_pages.proofs.well_formed.placed.add_chains.Given as goal

-- the pages so far and those of the chains that are left are all
abbrev pub invariant-buckets : goal.invariant-buckets
invariant-buckets l =
    l.placed.items ++ flat_map (bucket_chain (pages_in l.pages)) (range_with_len l.bucket (BUCKETS - l.bucket))
    ≡ l.initial.placed.items ++ flat_map (bucket_chain (pages_in l.pages)) (range_with_len 0 BUCKETS)
