-- `join` takes no step that the machine sees. Assumes `Logic`.
use Rattle.std.proofs.Common.{◌≡◌, ◌+◌, [], ◌∷◌, refl}
use contract.Monad.{fact}
use types.Kit.{‵, raw, ◌⊛◌, ◌$◌, ◌∵◌, !, qed, move, keep, use1, use2, split, split3, join, rewrite, suffices, done}
use types.Part.{agg}
use types.Run.{enter, no_more, returns}
use types.ByLocal.{alloc_all, pass_all, free_all, look_at, sets}
use base.Fml.{ftrue}
use denote.Exit.{yes}
use denote.RawPtr.{◌+ₚ◌}
use denote.Signature.{plain}
use denote.Steps.{nothing, heard}
use denote.Triple.Walked.{Stays, walk_of, says, stay_dropped, ends_at}
use Rattle.std.proofs.alloc.Calls.{Goes-blank}
use Rattle.std.proofs.raw_atomic.Walks.{proved}
use Rattle.pm_region.specs.Memory.{room_lies}
use Rattle.pm_region.proofs.Spans.{blank, span_vals, span_tells, span_had, span_made, joins}
use Rattle.pm_region.specs.contracts.memory.Span as Span
use Rattle.pm_region.specs.contracts.memory.Span.join as f
use Rattle.pm_region.proofs.memory.Span.join.Statement.{statement}
use Rattle.pm_region.proofs.memory.Span.join.Code as code

abbrev stayed : Stays f.ended.signature.params f.ended.kept
stayed = (stay_dropped _ yes, (stay_dropped _ yes, tt))

pub join_spec : {M : Type 1} → statement M
join_spec 𝓤 𝓛 𝓜 𝓡 wired =
    let c = f.clauses 𝓛 𝓜.mem 𝓡.returns in let W = walk_of 𝓛 f.ended stayed c in
    let goes = Goes-blank 𝓛 0 (plain (λ _. Span.the_row)) yes (λ κs x w. tt) in
    proved 𝓛 f.ended stayed c 𝓜 𝓡 (goes, (goes, tt)) f.Key.name code.function (code.unfolded 𝓤 𝓛.H 𝓜 𝓡 wired)
    (λ κs. (span_vals, (span_vals, tt))) (λ κs. (span_tells, (span_tells, tt))) (λ κs qs bounds a _ are.
    let front = a.0 in let following = a.1.0 in let m = front.len in let n = following.len in
    let y : W.Ghost = ((κs, qs, bounds, a, (span_vals front, (span_vals following, tt))), tt) in
    let whole : (Span.the_row).Denot = record { origin = front.origin; len = m + n } in
    let Touch = following.origin ≡ front.origin +ₚ m in
    qed 𝓛 ((‵ ftrue ⊛ ‵ ((Span.the_row).own_val front (span_vals front)) ⊛ ‵ ((Span.the_row).own_val following (span_vals following)) ⊛ ‵ ftrue) ∷ raw (fact 𝓤 Touch) ∷ []) ∵
    move ! (1 ∷ []) $ heard ! Touch (λ touch. split ! $ move ! (1 ∷ []) $ split3 ! $
    -- [what the two own; nothing]
    use1 𝓛 (‵ (room_lies front.origin m)) (span_had 𝓛 front) $ move ! (1 ∷ []) $ use1 𝓛 (‵ (room_lies following.origin n)) (span_had 𝓛 following) $
    rewrite ! 0 (λ p. ‵ (room_lies p n)) touch refl $ move ! (1 ∷ []) $
    use2 𝓛 (‵ (room_lies front.origin (m + n))) (joins 𝓛 front.origin m n) $
    use1 𝓛 (‵ ((Span.the_row).own_val whole (span_vals whole))) (span_made 𝓛 whole) $
    enter ! _ _ _ _ _ $ alloc_all ! (λ l. pass_all ! refl ((tt, tt), ((tt, tt), tt)) $
    sets ! (agg ! (no_more !)) refl (tt, tt) $ returns ! (look_at ! 0 refl) $ free_all ! refl $
    suffices ! _ (ends_at 𝓛 f.ended stayed c y blank whole (tt, (tt, tt)) (tt, (tt, tt))) $ says ! record { lies = refl; long = refl } $
    nothing ! $ nothing ! $ join ! $ nothing ! $ join ! $ nothing ! $ keep ! (0 ∷ 1 ∷ 2 ∷ []) $ done !)))
