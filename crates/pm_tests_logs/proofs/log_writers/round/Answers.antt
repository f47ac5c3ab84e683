use Rattle.std.proofs.Common.{◌≡◌, [], ◌∷◌, ◌++◌, List, refl, ap, ◌∙◌, subst, arith, length, length-append}
use Rattle.pm_logger.specs.LogEnds.{SameEnd}
use Rattle.pm_logger.specs.Loggers.{inboxes}
use Rattle.pm_logger.specs.Rings.{AreLinked}
use Rattle.pm_logger.specs.declared.log_end.LogEnd.{LogEnd}
use Rattle.pm_logger.proofs.Linking.{fresh_linked, stay_linked}
use Rattle.pm_tests_logs.proofs.log_writers.round.Goals as goal

-- two ends, of which the last one was taken first
both_ends : (ends rest : List LogEnd) (a b : LogEnd) → ends ≡ (rest ++ a ∷ []) ++ b ∷ [] → length ends ≡ 2 → ends ≡ a ∷ b ∷ []
both_ends ends [] a b e two = e
both_ends ends (x ∷ rest) a b e two = absurd (omega (arith, two, ap length e, length-append (rest ++ a ∷ []) (b ∷ []), length-append rest (a ∷ [])))

pub end_round-requires : goal.end_round-requires
end_round-requires g c =
    let first = c.in-Some-Some.first in
    let second = c.in-Some-Some.second in
    let one = c.beside.new.one.end in
    let two = c.beside.new.two.end in
    let rings = inboxes c.beside.new.writer.logger in
    let made = c.in_ok-logger.ensures in
    let ends = both_ends c.in_ok-logger.ends.items c.pop-2.new.self.items first second (c.in-Some-Some.ensures.items ∙ ap (λ l. l ++ second ∷ []) c.in-Some-Some.ensures'.items) (made.fresh.many ∙ made.many) in
    let linked = c.beside.ensures.writer (first ∷ second ∷ []) (subst (λ l. AreLinked l (inboxes c.in_ok-logger.logger)) ends (fresh_linked made.fresh)) in
    stay_linked (one ∷ second ∷ []) 1 second two refl (subst (λ e. SameEnd e two) c.worker_of-two.ensures c.beside.ensures.two) rings
    (stay_linked (first ∷ second ∷ []) 0 first one refl (subst (λ e. SameEnd e one) c.worker_of-one.ensures c.beside.ensures.one) rings linked)
