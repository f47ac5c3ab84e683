use Rattle.std.proofs.Common.{subst, rules, List}
use Rattle.std.specs.List.Sorted.{IsPermutation}
use Rattle.std.proofs.lemmas.List.Sorted.{IsNonDecreasingBy-from_sort_by_key}
use Rattle.pm_types.specs.declared.page_id.PageId.{PageId}
use Rattle.pm_ckpt.proofs.order.arrange.Goals as goal

pub returns-clause-order : goal.returns-clause-order
returns-clause-order c = record {
  same = subst (λ (xs : List PageId). IsPermutation xs c.sort_unstable_by_key.new.self.items) c.copy.ensures.items c.sort_unstable_by_key.ensures.permutation;
  rising = IsNonDecreasingBy-from_sort_by_key (λ (page : PageId). page.0) _ c.sort_unstable_by_key.ensures.sorted (λ a r q k. search rules);
}
