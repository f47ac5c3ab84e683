use Rattle.std.proofs.Common.{◌≡◌, ℕ, List, ◌++◌, map, sym, subst, ◌∙◌, refl, ap, append-nil, IsPermutation}
use Rattle.std.specs.Global.{Global}
use Rattle.std.specs.Iterator.Runs.{WholeRun}
use Rattle.std.specs.Vec.Iter.{into_iter_items, into_iter_steps}
use Rattle.std.specs.Cmp.Lexicographic.{nat_list_cmp_total}
use Rattle.std.specs.List.{flat_map}
use Rattle.std.proofs.lemmas.List.Sorted.{ranks_by}
use Rattle.itertools.specs.KMerge.{kmerge_steps}
use Rattle.pm_engine.specs.declared.merging.ByKey.{ByKey}
use Rattle.pm_engine.specs.Merges.{is_below, HasRisingKeys}
use Rattle.pm_engine.proofs.MergedLists.{sources_of, run_drains, all_rising, ok_then}
use Rattle.pm_engine.proofs.merging.join_by_key.Goals as goal

pub returns : goal.returns
returns c = λ rising_lists. ok_then c.collect_vec.result (λ v. WholeRun (kmerge_steps (into_iter_steps {X = List ℕ × List ℕ} {Z = Global}) (λ (_ : ByKey) first. first ≡ is_below)) c.in_ok-merged.merged (λ p. v.items ≡ p.items)) _ c.collect_vec.ensures.runs (λ v run.
    let lists = c.args.lists.items in
    let ls = map (λ list. list.items) lists in
    let all = c.in_ok-merged.ensures.items in
    let order = c.in_ok-merged.ensures.in_order in
    let all_items : all.0.items ≡ lists = (c.into_iter.ensures.runs all.0 all.0.seen).4 all.2 ∙ ap into_iter_items all.1 ∙ c.into_iter.ensures.rest in
    let order_items : order.0.items ≡ lists = (c.into_iter.ensures.runs order.0 order.0.seen).4 order.2 ∙ ap into_iter_items order.1 ∙ c.into_iter.ensures.rest in
    let drains = run_drains _ c.in_ok-merged.merged run.0 run.1 in
    let gives = all.3 ls (sources_of all.0.items lists all_items) run.0.items run.0.whole drains in
    let rising = order.3 is_below refl (ranks_by nat_list_cmp_total (λ (e : List ℕ × List ℕ). e.0)) ls (sources_of order.0.items lists order_items) (all_rising lists rising_lists) run.0.items run.0.whole drains in
    let none : run.0.items ++ gives.0 ≡ run.0.items = ap (λ rest. run.0.items ++ rest) (gives.2 run.2) ∙ append-nil run.0.items in
    record {
      rising = subst HasRisingKeys (sym run.3) rising;
      all = subst (λ pairs. IsPermutation (flat_map (λ list. list) ls) pairs) (none ∙ sym run.3) gives.1;
    })
