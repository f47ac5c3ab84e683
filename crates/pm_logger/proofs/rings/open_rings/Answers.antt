use Rattle.std.proofs.Common.{◌+◌, List, sym, ap, ◌∙◌, subst, length}
use Rattle.std.proofs.lemmas.List.{length_push}
use Rattle.pm_logger.specs.Rings.{IsFresh, EachPair}
use Rattle.pm_logger.specs.declared.inbox.Inbox.{Inbox}
use Rattle.pm_logger.specs.declared.log_end.LogEnd.{LogEnd}
use Rattle.pm_logger.proofs.Opening.{pair_push}
use Rattle.pm_logger.proofs.rings.open_rings.Goals as goal

pub each-preserved : goal.each-preserved
each-preserved c = record {
  many = ap length c.in_ok-push.ensures.items ∙ length_push c.each.rings.items c.in_ok-inbox.inbox ∙ ap (λ n. n + 1) c.each.invariant.many;
  fresh = subst (λ (p : List LogEnd × List Inbox). EachPair IsFresh p.0 p.1) (λ i. (sym c.in_ok-push-2.ensures.items i, sym c.in_ok-push.ensures.items i))
      (pair_push IsFresh c.each.ends.items c.each.rings.items c.in_ok-inbox.end c.in_ok-inbox.inbox c.each.invariant.fresh c.in_ok-inbox.ensures);
}
