-- Ends stay linked to their rings while workers push.
use Rattle.std.proofs.Common.{◌≡◌, inl, inr, ℕ, List, sym, ap, ◌∙◌, subst, Some, set}
use Rattle.std.specs.List.{slice_get}
use Rattle.std.proofs.lemmas.List.{length-set}
use Rattle.pm_logger.specs.Inboxes.{IsEndOf}
use Rattle.pm_logger.specs.LogEnds.{SameEnd}
use Rattle.pm_logger.specs.Rings.{IsFresh, EachPair, AreLinked, StayLinked}
use Rattle.pm_logger.specs.declared.inbox.Inbox.{Inbox}
use Rattle.pm_logger.specs.declared.log_end.LogEnd.{LogEnd}
use Rattle.pm_logger.proofs.Merging.{get_set}

-- the same end is the end of the same ring
pub end_stays : (was end : LogEnd) (inbox : Inbox) → SameEnd was end → IsEndOf was inbox → IsEndOf end inbox
end_stays was end inbox same pair = (pair.0 ∙ sym same.0.0, pair.1 ∙ sym same.0.1, pair.2 ∙ sym same.0.2, pair.3 ∙ sym same.0.3)

-- one end changed
pub stay_linked : (ends : List LogEnd) (worker : ℕ) (was end : LogEnd) → slice_get ends worker ≡ Some was → SameEnd was end → StayLinked ends (set ends worker end)
stay_linked ends worker was end there same inboxes linked = record {
  many = length-set ends worker end ∙ linked.many;
  each = λ w e i at_e at_i. elim (get_set ends worker w end e at_e) [
    | inl h ↦ subst (λ e. IsEndOf e i) (sym h.1) (end_stays was end i same (linked.each w was i (ap (slice_get ends) h.0 ∙ there) at_i))
    | inr h ↦ linked.each w e i h.1 at_i
  ];
}

-- new ends are linked to their rings
pub fresh_linked : {ends : List LogEnd} {inboxes : List Inbox} → EachPair IsFresh ends inboxes → AreLinked ends inboxes
fresh_linked fresh = record { many = fresh.many; each = λ w e i at_e at_i. (fresh.each w e i at_e at_i).pair }
