-- `open` takes the vector apart, which the machine doesn't see. Assumes `Logic`.
use Rattle.std.proofs.Common.{◌≡◌, ◌<◌, [], ◌∷◌, ◌++◌, refl}
use base.Fml.{ftrue}
use contract.Monad.{fact}
use contract.Running.{tables}
use denote.Exit.{yes}
use denote.Laws.{Typed}
use denote.Param.{layout}
use denote.RawPtr.{InBlock}
use denote.Signature.{plain}
use denote.Steps.{nothing, heard}
use denote.Struct.Struct.{as_fields}
use denote.Struct.Tuple.{Tuple}
use denote.Triple.Walked.{Stays, walk_of, says, stay_dropped, ends_at}
use prog.Wp.{WpFn}
use types.ByLocal.{alloc_all, pass_all, free_all, look_at, get, sets}
use types.Kit.{‵, raw, ◌⊛◌, prop, ◌$◌, ◌∵◌, !, qed, move, keep, use1, use2, given, learn, split, join, fpack, fjoin, regoal, rewrite, suffices, done}
use types.Part.{agg}
use types.Run.{enter, of_opd, and_then, no_more, returns}
use Rattle.std.proofs.alloc.Calls.{Goes-blank}
use Rattle.std.proofs.raw_atomic.Walks.{proved_at}
use Rattle.std_alloc.proofs.Pairs.{pair_val, pair_of}
use Rattle.pm_region.specs.Memory.{room_lies, hollow}
use Rattle.pm_region.proofs.Lodging.{one_val}
use Rattle.pm_region.proofs.Shells.{Full, full_laws, wrapped, hollowed}
use Rattle.pm_region.proofs.Spans.{blank, span_vals, span_made, placed}
use Rattle.pm_region.specs.contracts.memory.Shell as Shell
use Rattle.pm_region.specs.contracts.memory.Span as Span
use Rattle.pm_region.specs.contracts.memory.open as f
use Rattle.pm_region.proofs.memory.open.Statement.{statement}
use Rattle.pm_region.proofs.memory.open.Code as code

abbrev stayed : Stays f.ended.signature.params f.ended.kept
stayed = (stay_dropped _ yes, tt)

pub open_spec : {M : Type 1} → statement M
open_spec 𝓤 𝓛 𝓜 𝓡 wired =
    let c = f.clauses 𝓛 𝓜.mem 𝓡.returns in let W = walk_of 𝓛 f.ended stayed c in let 𝓣 = tables 𝓤 𝓛.H 𝓜 𝓡 𝓡.env in
    proved_at 𝓛 f.ended stayed c 𝓜 𝓡 (Goes-blank 𝓛 0 (plain (λ _. Full)) yes (λ κs x w. tt), tt)
    f.Key.name code.function (code.unfolded 𝓤 𝓛.H 𝓜 𝓡 wired) (λ z are.
    let v = z.0.3.0 in let us = z.0.4.0 in
    let s : (Span.the_row).Denot = record { origin = v.ptr; len = v.cap } in
    let h : (Shell.the_row).Denot = hollow v.ptr v.cap in
    let IsEmpty = (v.len ≡ 0) × (0 < v.cap) in
    let value = one_val (layout Full) us ((full_laws.lawful 𝓛).typed v us are.0) in let u = value.0 in let fine = value.2 in
    let inner = as_fields (layout Full ∷ []) (u ∷ []) (fine, tt) in
    qed 𝓛 ((‵ ftrue ⊛ ‵ (Full.own_val v us) ⊛ ‵ ftrue) ∷ raw (fact 𝓤 IsEmpty) ∷ []) ∵
    move ! (1 ∷ []) $ heard ! IsEmpty (λ empty. split ! $ move ! (1 ∷ []) $ split ! $ keep ! (0 ∷ []) $
    rewrite ! 0 (λ vs. ‵ (Full.own_val v vs)) value.1 refl $
    regoal ! (λ vs. prop (WpFn 𝓤 𝓛.H 𝓣.C 𝓣.Λ code.function (vs ++ []) (W.post z))) value.1 refl $
    use1 𝓛 (‵ (room_lies v.ptr v.cap) ⊛ ‵ (Shell.the_own h (wrapped u ∷ []))) (hollowed 𝓛 v u empty.0 empty.1) $ split ! $
    use1 𝓛 (given (InBlock v.ptr) (‵ (room_lies v.ptr v.cap))) (placed 𝓛 v.ptr v.cap) $ learn ! (λ somewhere.
    use1 𝓛 (‵ ((Span.the_row).own_val s (span_vals s))) (span_made 𝓛 s) $ move ! (1 ∷ []) $
    nothing ! $ fpack ! (Typed (Shell.the_row).mir (wrapped u ∷ [])) (λ _. ftrue) (inner, tt) $ fjoin ! $ move ! (1 ∷ []) $
    use2 𝓛 (‵ ((Tuple (Span.the_row ∷ Shell.the_row ∷ [])).own_val (s, h) (pair_val blank (wrapped u) ∷ []))) (pair_of 𝓛 Span.the_row Shell.the_row s h blank (wrapped u)) $
    enter ! _ _ _ _ _ $ alloc_all ! (λ l. pass_all ! refl (fine, tt) $
    sets ! (agg ! (no_more !)) refl (tt, tt) $ sets ! (of_opd ! (get ! refl)) refl fine $
    sets ! (agg ! (and_then ! (get ! refl) (no_more !))) refl inner $
    sets ! (agg ! (and_then ! (get ! refl) (and_then ! (get ! refl) (no_more !)))) refl (as_fields (layout Span.the_row ∷ layout Shell.the_row ∷ []) (blank ∷ wrapped u ∷ []) ((tt, tt), (inner, tt))) $
    returns ! (look_at ! 0 refl) $ free_all ! refl $
    suffices ! _ (ends_at 𝓛 f.ended stayed c z (pair_val blank (wrapped u)) (s, h) (tt, tt) (tt, tt)) $ says ! (refl, refl, refl, somewhere) $
    nothing ! $ nothing ! $ join ! $ nothing ! $ done !))))
