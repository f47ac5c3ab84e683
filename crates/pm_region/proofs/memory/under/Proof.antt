-- `under` takes the room from `dislodge`. Assumes `Logic`.
use Rattle.std.proofs.Common.{◌<◌, [], ◌∷◌, ◌++◌, refl}
use base.Fml.{ftrue}
use contract.Monad.{fact}
use contract.Running.{tables}
use denote.Builtin.{u8}
use denote.Exit.{yes}
use denote.Param.{layout}
use denote.Signature.{plain}
use denote.Steps.{nothing, heard}
use denote.Triple.Call.{calls_at}
use denote.Triple.Table.{framed}
use denote.Triple.Walked.{Stays, walk_of, says, stay_dropped, ends_at}
use prog.Wp.{WpFn}
use types.ByLocal.{alloc_all, pass_all, free_all, look_at, get, sets, lands_as}
use types.Kit.{‵, raw, ◌⊛◌, given, later, prop, ◌$◌, ◌∵◌, !, qed, move, keep, use1, split, join, learn, await, regoal, rewrite, suffices, done}
use types.Part.{agg}
use types.Run.{enter, of_opd, and_then, no_more, returns}
use Rattle.std.proofs.alloc.Calls.{Goes-blank}
use Rattle.std.proofs.raw_atomic.Walks.{proved_at}
use Rattle.std_alloc.proofs.vec.lodged.Vec+T+Lodged.dislodge.Met as callee
use Rattle.pm_region.specs.Memory.{room_lies}
use Rattle.pm_region.proofs.Lodging.{byte_laws, Lodger, lodger_laws, one_val, Dislodges, at_dislodge, IsLen, dislodge_pre, dislodge_post}
use Rattle.pm_region.proofs.Spans.{blank, span_vals, span_made}
use Rattle.pm_region.specs.contracts.memory.Span as Span
use Rattle.pm_region.specs.contracts.memory.under as f
use Rattle.pm_region.proofs.memory.under.Statement.{statement}
use Rattle.pm_region.proofs.memory.under.Code as code

abbrev stayed : Stays f.ended.signature.params f.ended.kept
stayed = (stay_dropped _ yes, tt)

pub under_spec : {M : Type 1} → statement M
under_spec 𝓤 𝓛 𝓜 𝓡 wired =
    let c = f.clauses 𝓛 𝓜.mem 𝓡.returns in let W = walk_of 𝓛 f.ended stayed c in let 𝓣 = tables 𝓤 𝓛.H 𝓜 𝓡 𝓡.env in
    let Callee = Dislodges 𝓛 𝓜.mem 𝓡.returns in
    let met = callee.met 𝓤 𝓛 𝓜 𝓡 (code.calls-std_alloc::vec::lodged::Vec+T+Lodged::dislodge 𝓡.env wired) u8 byte_laws in
    proved_at 𝓛 f.ended stayed c 𝓜 𝓡 (Goes-blank 𝓛 0 (plain (λ _. Lodger)) yes (λ κs x w. tt), tt)
    f.Key.name code.function (code.unfolded 𝓤 𝓛.H 𝓜 𝓡 wired) (λ z are.
    let d = z.0.3.0 in let us = z.0.4.0 in
    let s : (Span.the_row).Denot = record { origin = d.ptr; len = d.cap } in
    let value = one_val (layout Lodger) us ((lodger_laws.lawful 𝓛).typed d us are.0) in let u = value.0 in let fine = value.2 in
    qed 𝓛 ((‵ ftrue ⊛ ‵ (Lodger.own_val d us) ⊛ ‵ ftrue) ∷ raw (fact 𝓤 (0 < d.cap)) ∷ []) ∵
    move ! (1 ∷ []) $ heard ! (0 < d.cap) (λ wide. split ! $ move ! (1 ∷ []) $ split ! $ keep ! (0 ∷ []) $
    rewrite ! 0 (λ vs. ‵ (Lodger.own_val d vs)) value.1 refl $
    regoal ! (λ vs. prop (WpFn 𝓤 𝓛.H 𝓣.C 𝓣.Λ code.function (vs ++ []) (W.post z))) value.1 refl $
    use1 𝓛 (raw (Callee.pre (at_dislodge 𝓛 𝓜.mem 𝓡.returns d u))) (dislodge_pre 𝓛 𝓜.mem 𝓡.returns d u) $
    enter ! _ _ _ _ _ $ alloc_all ! (λ l. pass_all ! refl (fine, tt) $ sets ! (of_opd ! (get ! refl)) refl fine $
    calls_at ! (framed 𝓤 𝓛.H 𝓜 𝓣) Callee met (at_dislodge 𝓛 𝓜.mem 𝓡.returns d u) (and_then ! (get ! refl) (no_more !)) (λ n.
    use1 𝓛 (later (given (IsLen 𝓛 𝓜.mem 𝓡.returns d u n) (‵ (room_lies d.ptr d.cap)))) (dislodge_post 𝓛 𝓜.mem 𝓡.returns d u wide n) $ await ! tt $ learn ! (λ len.
    lands_as ! len.0 refl (tt, record { fits = len.1 }) $ sets ! (agg ! (no_more !)) refl (tt, tt) $
    use1 𝓛 (‵ ((Span.the_row).own_val s (span_vals s))) (span_made 𝓛 s) $ returns ! (look_at ! 0 refl) $ free_all ! refl $
    suffices ! _ (ends_at 𝓛 f.ended stayed c z blank s (tt, tt) (tt, tt)) $ says ! (refl, refl) $
    nothing ! $ nothing ! $ join ! $ nothing ! $ done !)))))
