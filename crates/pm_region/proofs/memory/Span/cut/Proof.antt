-- `cut` takes no step that the machine sees. Assumes `Logic`.
use Rattle.std.proofs.Common.{◌≡◌, ℕ, ◌+◌, ◌-◌, ◌≤◌, [], ◌∷◌, refl, arith, w64}
use base.Fml.{ftrue}
use contract.Monad.{fact}
use denote.Builtin.{usize}
use denote.Exit.{yes}
use denote.Plain.{uint_vals, uint_Tells}
use denote.RawPtr.{◌+ₚ◌}
use denote.Signature.{plain}
use denote.Steps.{nothing, heard}
use denote.Struct.Tuple.{Tuple}
use denote.Triple.Walked.{Stays, walk_of, says, stay_dropped, ends_at}
use types.ByLocal.{alloc_all, pass_all, free_all, look_at, get, sets}
use types.Kit.{‵, raw, ◌⊛◌, ◌$◌, ◌∵◌, !, qed, move, keep, use1, use2, split, split3, join, rewrite, suffices, done}
use types.Part.{agg}
use types.Run.{enter, and_then, no_more, returns}
use Rattle.std.proofs.alloc.Calls.{Goes-blank}
use Rattle.std.proofs.raw_atomic.Walks.{proved}
use Rattle.std_alloc.proofs.Pairs.{pair_val, pair_of}
use Rattle.pm_region.specs.Memory.{room_lies}
use Rattle.pm_region.proofs.Spans.{blank, span_vals, span_tells, span_had, span_made, cuts}
use Rattle.pm_region.specs.contracts.memory.Span as Span
use Rattle.pm_region.specs.contracts.memory.Span.cut as f
use Rattle.pm_region.proofs.memory.Span.cut.Statement.{statement}
use Rattle.pm_region.proofs.memory.Span.cut.Code as code

abbrev stayed : Stays f.ended.signature.params f.ended.kept
stayed = (stay_dropped _ yes, (stay_dropped _ yes, tt))

pub cut_spec : {M : Type 1} → statement M
cut_spec 𝓤 𝓛 𝓜 𝓡 wired =
    let c = f.clauses 𝓛 𝓜.mem 𝓡.returns in let W = walk_of 𝓛 f.ended stayed c in
    proved 𝓛 f.ended stayed c 𝓜 𝓡
    (Goes-blank 𝓛 0 (plain (λ _. Span.the_row)) yes (λ κs x w. tt), (Goes-blank 𝓛 0 (plain (λ _. usize)) yes (λ κs x w. tt), tt))
    f.Key.name code.function (code.unfolded 𝓤 𝓛.H 𝓜 𝓡 wired)
    (λ κs. (span_vals, (uint_vals w64, tt))) (λ κs. (span_tells, (uint_Tells w64, tt))) (λ κs qs bounds a _ are.
    let s = a.0 in let n = a.1.0 in let p = s.origin in
    let y : W.Ghost = ((κs, qs, bounds, a, (span_vals s, (uint_vals w64 n, tt))), tt) in
    let front : (Span.the_row).Denot = record { origin = p; len = n } in
    let back : (Span.the_row).Denot = record { origin = p +ₚ n; len = s.len - n } in
    qed 𝓛 ((‵ ftrue ⊛ ‵ ((Span.the_row).own_val s (span_vals s)) ⊛ ‵ (usize.own_val n (uint_vals w64 n)) ⊛ ‵ ftrue) ∷ raw (fact 𝓤 (n ≤ s.len)) ∷ []) ∵
    move ! (1 ∷ []) $ heard ! (n ≤ s.len) (λ within. split ! $ move ! (1 ∷ []) $ split3 ! $
    -- [what the span owns; the number; nothing]
    let sum : s.len ≡ n + (s.len - n) = omega (arith, within) in
    use1 𝓛 (‵ (room_lies p s.len)) (span_had 𝓛 s) $ rewrite ! 0 (λ (k : ℕ). ‵ (room_lies p k)) sum refl $
    use1 𝓛 (‵ (room_lies p n) ⊛ ‵ (room_lies (p +ₚ n) (s.len - n))) (cuts 𝓛 p n (s.len - n)) $ split ! $
    use1 𝓛 (‵ ((Span.the_row).own_val front (span_vals front))) (span_made 𝓛 front) $ move ! (1 ∷ []) $
    use1 𝓛 (‵ ((Span.the_row).own_val back (span_vals back))) (span_made 𝓛 back) $ move ! (1 ∷ []) $
    use2 𝓛 (‵ ((Tuple (Span.the_row ∷ Span.the_row ∷ [])).own_val (front, back) (pair_val blank blank ∷ []))) (pair_of 𝓛 Span.the_row Span.the_row front back blank blank) $
    enter ! _ _ _ _ _ $ alloc_all ! (λ l. pass_all ! refl ((tt, tt), ((tt, record { fits = are.1.0.1 }), tt)) $
    sets ! (agg ! (no_more !)) refl (tt, tt) $ sets ! (agg ! (no_more !)) refl (tt, tt) $
    sets ! (agg ! (and_then ! (get ! refl) (and_then ! (get ! refl) (no_more !)))) refl (tt, (tt, (tt, tt))) $
    returns ! (look_at ! 0 refl) $ free_all ! refl $
    suffices ! _ (ends_at 𝓛 f.ended stayed c y (pair_val blank blank) (front, back) (tt, (tt, tt)) (tt, (tt, tt))) $ says ! (record { lies = refl; long = refl }, record { lies = refl; long = refl }) $
    nothing ! $ nothing ! $ join ! $ nothing ! $ join ! $ nothing ! $ keep ! (0 ∷ 1 ∷ 2 ∷ []) $ done !)))
